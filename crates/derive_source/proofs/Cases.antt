-- Names in a case, a character at a time.
use Rattle.std.proofs.Common.{◌≡◌, ℕ, ◌==◌, if◌then◌else◌, Bool, true, false, List, [], ◌∷◌}
use Rattle.std.proofs.Common.{◌++◌, flat_map, chars, string_bytes, encode_utf8, encode_utf8_all}
use Rattle.std.proofs.Common.{refl, sym, ap, ◌∙◌, append_assoc, append-nil, eq-eqb, ne_eqb, ◌≢◌}
use Rattle.std.proofs.Common.{String}
use Rattle.std.specs.Char.{is_ascii_uppercase}
use Rattle.std.specs.Char.{to_ascii_uppercase as upper, to_ascii_lowercase as lower}
use Rattle.std.proofs.lemmas.Str.{chars_from_encodes, IsUtf8-string_bytes, encodes-append}
use Rattle.std.proofs.lemmas.Str.{chars_past_char}
use Rattle.std.specs.Str.{IsUtf8}
use Rattle.std.proofs.lemmas.Grind.{flat_map-append}
use Rattle.derive_source.specs.Cases.{capitalized, uncapitalized, in_words, parted}

-- the characters of a text are those that it encodes
pub chars_of : {Z : Type 0} (t : String Z) (cs : List ℕ) → string_bytes t ≡ encode_utf8_all cs → chars (string_bytes t) ≡ cs
chars_of t cs e = sym (chars_from_encodes cs (string_bytes t) (IsUtf8-string_bytes t) (sym e))

-- one more character
pub encodes-more : (cs : List ℕ) (c : ℕ) → encode_utf8_all (cs ++ c ∷ []) ≡ encode_utf8_all cs ++ encode_utf8 c
encodes-more cs c = encodes-append cs (c ∷ []) ∙ ap (λ bs. encode_utf8_all cs ++ bs) (append-nil (encode_utf8 c))

-- whether a word begins after these characters
abbrev pub begins_after : Bool → List ℕ → Bool
begins_after begins [] = begins
begins_after begins (c ∷ cs) = begins_after (c == 95) cs

pub begins_after-more : (begins : Bool) (cs : List ℕ) (c : ℕ) → begins_after begins (cs ++ c ∷ []) ≡ (c == 95)
begins_after-more begins [] c = refl
begins_after-more begins (d ∷ cs) c = begins_after-more (d == 95) cs c

capitalized-append : (begins : Bool) (xs ys : List ℕ) → capitalized begins (xs ++ ys) ≡ capitalized begins xs ++ capitalized (begins_after begins xs) ys
capitalized-append begins [] ys = refl
capitalized-append begins (c ∷ cs) ys =
    let first = if begins then upper c else c in
    elim (c == 95) as (λ (v : Bool). (if v then capitalized true (cs ++ ys) else (first ∷ capitalized false (cs ++ ys))) ≡ (if v then capitalized true cs else (first ∷ capitalized false cs)) ++ capitalized (begins_after v cs) ys) [
      | true ↦ capitalized-append true cs ys
      | false ↦ ap (λ r. first ∷ r) (capitalized-append false cs ys)
    ]

pub capitalized-underscore : (cs : List ℕ) (c : ℕ) → c ≡ 95 → capitalized true (cs ++ c ∷ []) ≡ capitalized true cs
capitalized-underscore cs c e = capitalized-append true cs (c ∷ []) ∙ rw (eq-eqb c 95 e) (append-nil (capitalized true cs))

pub capitalized-letter : (cs : List ℕ) (c : ℕ) → c ≢ 95 → capitalized true (cs ++ c ∷ []) ≡ capitalized true cs ++ (if begins_after true cs then upper c else c) ∷ []
capitalized-letter cs c n = capitalized-append true cs (c ∷ []) ∙ rw (ne_eqb c 95 n) refl

-- whether there are no characters
abbrev pub is_none : List ℕ → Bool
is_none [] = true
is_none (c ∷ cs) = false

pub is_none-more : (cs : List ℕ) (c : ℕ) → is_none (cs ++ c ∷ []) ≡ false
is_none-more [] c = refl
is_none-more (d ∷ cs) c = refl

pub in_words-more : (cs : List ℕ) (c : ℕ) → in_words (cs ++ c ∷ []) ≡ in_words cs ++ (if is_none cs then (c ∷ []) else parted c)
in_words-more [] c = refl
in_words-more (d ∷ cs) c = ap (λ r. d ∷ r) (flat_map-append parted cs (c ∷ []) ∙ ap (λ r. flat_map parted cs ++ r) (append-nil (parted c)))

-- the same of what encodes them: at the beginning, at a capital, and at another character
pub in_words-first : (cs : List ℕ) (c : ℕ) (text : List ℕ) → is_none cs ≡ true → text ≡ encode_utf8_all (in_words cs) → text ++ encode_utf8 c ≡ encode_utf8_all (in_words (cs ++ c ∷ []))
in_words-first cs c text e t =
    let more : in_words (cs ++ c ∷ []) ≡ in_words cs ++ c ∷ [] = in_words-more cs c ∙ rw e refl in
    rw (more, encodes-more (in_words cs) c, t) refl

pub in_words-small : (cs : List ℕ) (c : ℕ) (text : List ℕ) → is_ascii_uppercase c ≡ false → text ≡ encode_utf8_all (in_words cs) → text ++ encode_utf8 c ≡ encode_utf8_all (in_words (cs ++ c ∷ []))
in_words-small cs c text e t =
    let same : (if is_none cs then (c ∷ []) else parted c) ≡ c ∷ [] =
    rw e (elim (is_none cs) as (λ (v : Bool). (if v then (c ∷ []) else (c ∷ [])) ≡ c ∷ []) [ true ↦ refl | false ↦ refl ]) in
    let more : in_words (cs ++ c ∷ []) ≡ in_words cs ++ c ∷ [] = in_words-more cs c ∙ rw same refl in
    rw (more, encodes-more (in_words cs) c, t) refl

pub in_words-capital : (cs : List ℕ) (c : ℕ) (text : List ℕ) → is_none cs ≡ false → is_ascii_uppercase c ≡ true → text ≡ encode_utf8_all (in_words cs) ++ encode_utf8 95 → text ++ encode_utf8 c ≡ encode_utf8_all (in_words (cs ++ c ∷ []))
in_words-capital cs c text n e t =
    let more : in_words (cs ++ c ∷ []) ≡ (in_words cs ++ 95 ∷ []) ++ c ∷ [] = in_words-more cs c ∙ rw (n, e, append_assoc) refl in
    rw (more, encodes-more (in_words cs ++ 95 ∷ []) c, encodes-more (in_words cs) 95, t) refl

-- a text that begins with one character in the place of another
pub uncapitalized-first : (name rest text : List ℕ) (first : ℕ) → IsUtf8 name → IsUtf8 text → name ≡ encode_utf8 first ++ rest → text ≡ encode_utf8 (lower first) ++ rest → chars text ≡ uncapitalized (chars name)
uncapitalized-first name rest text first u v e d =
    chars_past_char text rest (lower first) v d ∙ sym (ap uncapitalized (chars_past_char name rest first u e))
