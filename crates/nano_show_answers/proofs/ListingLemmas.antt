-- What is listed is some text, and what is still to be listed of lists in lists.
use Rattle.std.proofs.Common.{◌≡◌, ℕ, zero, suc, ◌+◌, ◌<◌, ◌/◌, ◌%◌, ◌==◌, cond, List, [], ◌∷◌}
use Rattle.std.proofs.Common.{◌++◌, length, length-append, append-nil, append_assoc, subst, codes}
use Rattle.std.proofs.Common.{Bool, true, false, String, string_bytes, Global, Vec, vec_len, rules}
use Rattle.std.proofs.Common.{ℤ, refl, ap, sym, ◌∙◌, arith, pos, negsuc, take, get_or, chars}
use Rattle.std.proofs.Common.{encode_utf8_all}
use Rattle.std.proofs.lemmas.List.{take_all, take_more}
use Rattle.std.specs.Fmt.{decimal, digits_onto, digit_glyph}
use Rattle.nano_toml.specs.Data.{Data, text, boolean, number, nan, infinity, date, tables, values}
use Rattle.nano_toml.specs.Data.{view, values_view, tables_view}
use Rattle.nano_toml.specs.Data as value
use Rattle.nano_toml.proofs.TableViews.{Map}
use Rattle.nano_toml.specs.declared.value.Toml.{Toml, the_lemmas, Str, Bool as Truth, Num, Dec, Nan}
use Rattle.nano_toml.specs.declared.value.Toml.{Inf, Date}
use Rattle.nano_json_tokens.specs.Written.{written_characters, written_truth}
use Rattle.nano_show_answers.specs.Listing.{count, listed, more_listed, quoted, before_next}
use Rattle.nano_show_answers.specs.Listing.{closed_list, closed_lists, hex_digit, hex_pair}
use Rattle.nano_show_answers.specs.Listing.{hex_pairs}
use Rattle.nano_show_answers.specs.declared.listed.OpenList.{OpenList}

some_digits_onto : (k base n : ℕ) (upper : Bool) (following : List ℕ) → 0 < length following
    → 0 < length (digits_onto k base upper n following)
some_digits_onto zero base n upper following h = h
some_digits_onto (suc k) base n upper following h =
    elim (n / base == 0) as (λ last. 0 < length
    (cond last (digit_glyph upper (n % base) ∷ following)
    (digits_onto k base upper (n / base) (digit_glyph upper (n % base) ∷ following)))) [
      | true ↦ omega arith
      | false ↦
          some_digits_onto k base (n / base) upper (digit_glyph upper (n % base) ∷ following)
          (omega arith)
    ]

some_decimal : (n : ℕ) → 0 < length (decimal n)
unfolding Rattle.std.specs.Fmt.digits
some_decimal n =
    elim (n / 10 == 0) as (λ last. 0 < length
    (cond last (digit_glyph false (n % 10) ∷ [])
    (digits_onto 63 10 false (n / 10) (digit_glyph false (n % 10) ∷ [])))) [
      | true ↦ omega arith
      | false ↦
          some_digits_onto 63 10 (n / 10) false (digit_glyph false (n % 10) ∷ []) (omega arith)
    ]

quote_first : (t : List ℕ) → quoted t
    ≡ 34 ∷ encode_utf8_all (written_characters (chars t) ++ 34 ∷ [])
unfolding lib.Utf8.encode
quote_first t = refl

-- a boolean is ASCII
pub written_truth-ascii : (b : Bool) → encode_utf8_all (written_truth b) ≡ written_truth b
unfolding lib.Utf8.encode
written_truth-ascii true = refl
written_truth-ascii false = refl

pub some_listed : (d : Data) → 0 < length (listed d)
some_listed (text t) = omega (arith, ap length (quote_first t))
some_listed (boolean true) = omega arith
some_listed (boolean false) = omega arith
some_listed (number (pos n)) = some_decimal n
some_listed (number (negsuc n)) = omega arith
some_listed (value.decimal t) = omega arith
some_listed (nan true) = omega arith
some_listed (nan false) = omega arith
some_listed (infinity true) = omega arith
some_listed (infinity false) = omega arith
some_listed (date t) = omega arith
some_listed (tables ts) = omega arith
some_listed (values vs) = omega arith

-- ---- what a value means that is no list

pub view-Str : (s : String Global) → view (Str s) ≡ text (string_bytes s)
view-Str s = search (rules, the_lemmas)

pub view-Bool : (b : Bool) → view (Truth b) ≡ boolean b
view-Bool b = search (rules, the_lemmas)

pub view-Num : (n : ℤ) → view (Num n) ≡ number n
view-Num n = search (rules, the_lemmas)

pub view-Dec : (s : String Global) → view (Dec s) ≡ value.decimal (string_bytes s)
view-Dec s = search (rules, the_lemmas)

pub view-Nan : (b : Bool) → view (Nan b) ≡ nan b
view-Nan b = search (rules, the_lemmas)

pub view-Inf : (b : Bool) → view (Inf b) ≡ infinity b
view-Inf b = search (rules, the_lemmas)

pub view-Date : (s : String Global) → view (Date s) ≡ date (string_bytes s)
view-Date s = search (rules, the_lemmas)

count_of_tables : (ms : List Map) → count (tables_view ms) ≡ length ms
count_of_tables [] = refl
count_of_tables (m ∷ ms) = omega (arith, count_of_tables ms)

pub table_count : (array : Vec Map Global) (len : ℕ) → len ≡ vec_len array
    → len ≡ count (tables_view array.items)
table_count array len is = omega (arith, is, array.ok.0, count_of_tables array.items)

module _ (v : Toml) (d : Data) (means : view v ≡ d) (old new : List ℕ)
    (listed_after : new ≡ old ++ listed d) where
  -- what was appended is what is listed of the value
  pub listed_whole : new ++ [] ≡ old ++ listed (view v)
  listed_whole = append-nil new ∙ (listed_after ∙ ap (λ e. old ++ listed e) (sym means))

  -- and made the text longer
  pub listed_longer : length old < length new
  listed_longer =
      omega (arith, ap length listed_after, length-append old (listed d), some_listed d)

-- ---- lists in lists

pub next_of_list : (is_first : Bool) (v : Toml) (vs : List Toml) → closed_list is_first (v ∷ vs)
    ≡ before_next is_first ++ (listed (view v) ++ closed_list false vs)
next_of_list true v vs = append_assoc (listed (view v)) (more_listed (values_view vs)) (codes "]")
next_of_list false v vs =
    ap (λ l. codes ", " ++ l) (append_assoc (listed (view v)) (more_listed (values_view vs))
    (codes "]"))

end_of_list : (is_first : Bool) (vs : List Toml) → length vs ≡ 0 → closed_list is_first vs
    ≡ codes "]"
end_of_list true [] none = refl
end_of_list false [] none = refl
end_of_list is_first (v ∷ vs) none = absurd (omega (arith, none))

-- one more list, within the others
pub closed_lists-push : (ls : List OpenList) (l : OpenList) (more : List ℕ)
    → closed_lists (ls ++ l ∷ []) more ≡ closed_list l.is_first l.values.now ++ closed_lists ls more
closed_lists-push [] l more = refl
closed_lists-push (k ∷ ls) l more =
    closed_lists-push ls l (closed_list k.is_first k.values.now ++ more)

module _ (ls : List OpenList) (l : OpenList) (old : List ℕ) where
  -- the last list has no value left, and is closed
  pub list_closed : length l.values.now ≡ 0 → (new : List ℕ) → new ≡ old ++ codes "]"
      → new ++ closed_lists ls [] ≡ old ++ closed_lists (ls ++ l ∷ []) []
  list_closed none new e =
      ap (λ text. text ++ closed_lists ls []) e ∙ (append_assoc old (codes "]") (closed_lists ls [])
      ∙ ap (λ text. old ++ text) (sym (closed_lists-push ls l []
      ∙ ap (λ text. text ++ closed_lists ls []) (end_of_list l.is_first l.values.now none))))

  module _ (v : Toml) (rest : OpenList) (is : l.values.now ≡ v ∷ rest.values.now)
      (is_later : rest.is_first ≡ false) (start new opened : List ℕ)
      (begun : start ≡ old ++ before_next l.is_first)
      (text : new ++ opened ≡ start ++ listed (view v)) where
    -- the next value of the last list stands there, but for what is left of it
    next_listed : new ++ (opened ++ closed_lists (ls ++ rest ∷ []) [])
        ≡ old ++ closed_lists (ls ++ l ∷ []) []
    next_listed =
        let left = closed_lists ls [] in
        let following : closed_lists (ls ++ rest ∷ []) [] ≡ closed_list false rest.values.now ++ left =
        closed_lists-push ls rest [] ∙ ap (λ b. closed_list b rest.values.now ++ left) is_later in
        let there : closed_lists (ls ++ l ∷ []) []
        ≡ (before_next l.is_first ++ (listed (view v) ++ closed_list false rest.values.now))
        ++ left =
        closed_lists-push ls l [] ∙ ap (λ text. text ++ left)
        (ap (closed_list l.is_first) is ∙ next_of_list l.is_first v rest.values.now) in
        grind (arith, append_assoc, following, there, begun, text)

    pub single_listed : opened ≡ [] → new ++ closed_lists (ls ++ rest ∷ []) []
        ≡ old ++ closed_lists (ls ++ l ∷ []) []
    single_listed none =
        subst (λ o. new ++ (o ++ closed_lists (ls ++ rest ∷ []) [])
        ≡ old ++ closed_lists (ls ++ l ∷ []) []) none next_listed

    pub list_opened : (inner : OpenList) → opened ≡ closed_list inner.is_first inner.values.now
        → new ++ closed_lists ((ls ++ rest ∷ []) ++ inner ∷ []) []
        ≡ old ++ closed_lists (ls ++ l ∷ []) []
    list_opened inner e =
        ap (λ text. new ++ text) (closed_lists-push (ls ++ rest ∷ []) inner []
        ∙ ap (λ text. text ++ closed_lists (ls ++ rest ∷ []) []) (sym e)) ∙ next_listed

-- less is left where more stands there
pub less_left : (old new left more : List ℕ) → new ++ left ≡ old ++ more → length old < length new
    → length left < length more
less_left old new left more e longer =
    omega (arith, ap length e, length-append new left, length-append old more, longer)

-- a list and the one that was taken from its end
pub popped : (items rest : List OpenList) (l : OpenList) (place : ℕ) → place + 1 ≡ length items
    → rest ≡ take place items → l ≡ get_or items place l → items ≡ rest ++ l ∷ []
popped items rest l place count prefix last =
    sym (take_all (place + 1) items (omega (arith, count)))
    ∙ (take_more items place l (omega (arith, count)) ∙ (λ i. sym prefix i ++ sym last i ∷ []))

-- ==== pair lemmas

some_pairs : (byte : ℕ) (bytes : List ℕ) → 0 < length (hex_pairs (byte ∷ bytes))
some_pairs byte [] = omega arith
some_pairs byte (next ∷ bytes) = omega arith

-- the first pair stands alone
first_pair : (bytes : List ℕ) (byte : ℕ) → length (hex_pairs bytes) ≡ 0
    → hex_pairs (bytes ++ byte ∷ []) ≡ hex_pairs bytes ++ hex_pair byte
first_pair [] byte none = refl
first_pair (head ∷ bytes) byte none = absurd (omega (arith, some_pairs head bytes))

-- a later one comes after a space
later_pair : (bytes : List ℕ) (byte : ℕ) → 0 < length (hex_pairs bytes)
    → hex_pairs (bytes ++ byte ∷ []) ≡ (hex_pairs bytes ++ 32 ∷ []) ++ hex_pair byte
later_pair [] byte some = absurd (omega arith)
later_pair (head ∷ []) byte some = refl
later_pair (head ∷ next ∷ bytes) byte some =
    ap (λ rest. hex_digit (head / 16) ∷ hex_digit (head % 16) ∷ 32 ∷ rest)
    (later_pair (next ∷ bytes) byte (some_pairs next bytes))

module _ (bytes : List ℕ) (place : ℕ) (below : place < length bytes) (text : List ℕ)
    (is : text ≡ hex_pairs (take place bytes)) where
  -- where the text was empty
  pub pair_first : length text ≡ 0 → (new : List ℕ) → new ≡ text ++ hex_pair (get_or bytes place 0)
      → new ≡ hex_pairs (take (place + 1) bytes)
  pair_first none new e =
      e ∙ (ap (λ l. l ++ hex_pair (get_or bytes place 0)) is
      ∙ (sym (first_pair (take place bytes) (get_or bytes place 0) (ap length (sym is) ∙ none))
      ∙ ap hex_pairs (sym (take_more bytes place 0 below))))

  -- where it was not
  pub pair_later : 0 < length text → (new : List ℕ)
      → new ≡ (text ++ 32 ∷ []) ++ hex_pair (get_or bytes place 0)
      → new ≡ hex_pairs (take (place + 1) bytes)
  pair_later some new e =
      e ∙ (ap (λ l. (l ++ 32 ∷ []) ++ hex_pair (get_or bytes place 0)) is
      ∙ (sym (later_pair (take place bytes) (get_or bytes place 0) (omega (arith, ap length is)))
      ∙ ap hex_pairs (sym (take_more bytes place 0 below))))
