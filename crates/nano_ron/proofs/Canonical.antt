-- What loops over items and entries have written: indents, lines, and the brackets of lists.
use Rattle.std.proofs.Common.{◌≡◌, ℕ, zero, suc, codes, Bool, cond, true, false, List, [], ◌∷◌}
use Rattle.std.proofs.Common.{◌++◌, refl, sym, ◌∙◌, ap, encode_utf8, encode_utf8_all}
use Rattle.std.proofs.Math.Utf8.{encode}
use Rattle.nano_text.specs.Place.{saturating_next}
use Rattle.nano_grammar.proofs.WrittenLists.{both_written, one_written}
use Rattle.nano_ron_tokens.specs.Written.{indent}
use Rattle.nano_ron.specs.Lists.{after_indent}

-- the bytes of an indent are its characters
indent_bytes : (d : ℕ) → encode_utf8_all (indent d) ≡ indent d
unfolding encode
indent_bytes zero = refl
indent_bytes (suc d) = ap (λ l. codes "    " ++ l) (indent_bytes d)

pub indent_written : (now after : List ℕ) (d : ℕ) → after ≡ now ++ indent d
    → after ≡ now ++ encode_utf8_all (indent d)
indent_written now after d e = e ∙ ap (λ l. now ++ l) (sym (indent_bytes d))

-- an indent, and one character after it
pub closed_written : (now more after : List ℕ) (d c : ℕ) → more ≡ now ++ indent d
    → after ≡ more ++ encode_utf8 c → after ≡ now ++ encode_utf8_all (indent d ++ c ∷ [])
closed_written now more after d c e k =
    both_written now more after (indent d) (c ∷ []) (indent_written now more d e)
    (one_written more after c k)

-- what is written at a level after its indent
pub indented_written : (now one two : List ℕ) (inner level : ℕ) (W : ℕ → List ℕ)
    → inner ≡ level → one ≡ now ++ indent inner → two ≡ one ++ encode_utf8_all (W inner)
    → two ≡ now ++ encode_utf8_all (indent level ++ W level)
indented_written now one two inner level W same e k =
    both_written now one two (indent inner) (W inner) (indent_written now one inner e) k
    ∙ (λ i. now ++ encode_utf8_all (indent (same i) ++ W (same i)))

-- and with a comma and a line feed after it
pub line_written : (now one two three : List ℕ) (inner level : ℕ) (W : ℕ → List ℕ)
    → inner ≡ level → one ≡ now ++ indent inner → two ≡ one ++ encode_utf8_all (W inner)
    → three ≡ two ++ codes ",\n"
    → three ≡ now ++ encode_utf8_all (indent level ++ (W level ++ (44 ∷ (10 ∷ []))))
unfolding encode
line_written now one two three inner level W same e k l =
    indented_written now one three inner level (λ n. W n ++ (44 ∷ (10 ∷ []))) same e
    (both_written one two three (W inner) (44 ∷ (10 ∷ [])) k l)

-- a part of a tuple, with a comma and a space after it
pub part_written : (now more after part : List ℕ) → more ≡ now ++ encode_utf8_all part
    → after ≡ more ++ codes ", " → after ≡ now ++ encode_utf8_all (part ++ 44 ∷ (32 ∷ []))
unfolding encode
part_written now more after part e k = both_written now more after part (44 ∷ (32 ∷ [])) e k

-- the opening brackets of lists with lines
pub block_opened : (now after : List ℕ) → after ≡ now ++ codes "[\n"
    → after ≡ now ++ encode_utf8_all (91 ∷ (10 ∷ []))
unfolding encode
block_opened now after e = e

pub curly_opened : (now after : List ℕ) → after ≡ now ++ codes "{\n"
    → after ≡ now ++ encode_utf8_all (123 ∷ (10 ∷ []))
unfolding encode
curly_opened now after e = e

-- an item after its indent, and after a comma unless it is the first
pub indented_in_list : (now mid after text : List ℕ) (d : ℕ) (first : Bool)
    → mid ≡ now ++ encode_utf8_all (cond first [] (44 ∷ []))
    → after ≡ mid ++ encode_utf8_all (indent (saturating_next d) ++ text)
    → after ≡ now ++ encode_utf8_all (after_indent d first text)
indented_in_list now mid after text d true e k =
    both_written now mid after [] (indent (saturating_next d) ++ text) e k
indented_in_list now mid after text d false e k =
    both_written now mid after (44 ∷ []) (indent (saturating_next d) ++ text) e k
