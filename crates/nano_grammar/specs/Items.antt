-- Items between brackets, with one comma between two and optionally one after the last: what
-- encodes them, and how they are laid out.
use Rattle.std.specs.Prelude.{◌≡◌, ◌≢◌, ◌⊎◌, List, [], ◌∷◌, ◌++◌, ℕ, Bool, false, cond}
use Rattle.nano_grammar.specs.Tokens.{Cutting, IsPunctuator, Follows, IsWrittenGap}

-- the tokens that a list is written with
pub record ListPunctuation (T : Type 0) : Type 0 where
  pub opening : T
  pub closing : T
  pub comma : T

-- the tokens have a first one, and it is another
abbrev pub StartsOtherwise : {T : Type 0} → T → List T → Type 0
StartsOtherwise t [] = ⊥
StartsOtherwise t (u ∷ us) = u ≢ t

module _ {T V : Type 0} (punctuation : ListPunctuation T) (encodes : List T → V → Type 0) where
  -- the items that are left, with one comma between two and optionally one after the last, and
  -- the closing bracket
  abbrev pub EncodedItems : List T → List V → Type 0
  EncodedItems ts [] = ts ≡ punctuation.closing ∷ []
  EncodedItems ts (v ∷ vs) =
      (prefix : List T) × (back : List T) × (ts ≡ prefix ++ back) × encodes prefix v
      × (((back ≡ punctuation.closing ∷ []) × (vs ≡ []))
      ⊎ ((more : List T) × (back ≡ punctuation.comma ∷ more) × EncodedItems more vs))

  -- brackets around items
  abbrev pub EncodedList : List T → List V → Type 0
  EncodedList ts vs =
      (inside : List T) × (ts ≡ punctuation.opening ∷ inside) × EncodedItems inside vs

-- where an encoding of an item begins another, that one goes on with neither the comma nor the closing
-- bracket
abbrev pub ApartInList : {T V : Type 0} → ListPunctuation T → (List T → V → Type 0) → Type 0
ApartInList {T} {V} punctuation encodes =
    (ts more : List T) (t : T) (v w : V) → encodes ts v → encodes (ts ++ t ∷ more) w
    → (t ≢ punctuation.comma) × (t ≢ punctuation.closing)

-- a key, a colon and a value
abbrev pub EncodedPair : {T K V : Type 0} → T → (List T → K → Type 0) → (List T → V → Type 0)
    → List T → K × V → Type 0
EncodedPair {T} colon key value ts pair =
    (prefix : List T) × (back : List T) × (ts ≡ prefix ++ colon ∷ back)
    × key prefix pair.0 × value back pair.1

-- one encoding encodes one value
abbrev pub OneValue : {T V : Type 0} → (List T → V → Type 0) → Type 0
OneValue {T} {V} encodes = (ts : List T) (v w : V) → encodes ts v → encodes ts w → v ≡ w

-- ==== how items are laid out

-- what comes after the opening bracket, before each item, after each comma and before the
-- closing bracket
pub record Gaps (S : Type 0) : Type 0 where
  pub after_opening : List S
  pub before_item : List S
  pub after_comma : List S
  pub before_closing : List S

abbrev pub no_gaps : {S : Type 0} → Gaps S
no_gaps = record { after_opening = []; before_item = []; after_comma = []; before_closing = [] }

-- `ends` says whether a comma comes after the last item too
module _ {A S : Type 0} (ends : Bool) (gaps : Gaps S) (punctuation : ListPunctuation S)
    (f : A → List S) where
  -- the closing bracket
  abbrev pub closed : List S
  closed = gaps.before_closing ++ punctuation.closing ∷ []

  -- what comes after an item: a comma and the items that are left, or the end of the list
  abbrev pub after_item : List A → List S
  after_item [] = cond ends (punctuation.comma ∷ (gaps.after_comma ++ closed)) closed
  after_item (x ∷ xs) =
      punctuation.comma ∷ (gaps.after_comma ++ (gaps.before_item ++ (f x ++ after_item xs)))

  -- the items and the end of the list
  abbrev pub items_laid_out : List A → List S
  items_laid_out [] = closed
  items_laid_out (x ∷ xs) = gaps.before_item ++ (f x ++ after_item xs)

  -- the whole list
  abbrev pub laid_out : List A → List S
  laid_out xs = punctuation.opening ∷ (gaps.after_opening ++ items_laid_out xs)

-- an item as it appears in a list: after a comma, unless it is the first
abbrev pub item_in_list : {S : Type 0} → Gaps S → ListPunctuation S → Bool → List S → List S
item_in_list gaps punctuation first item =
    cond first (gaps.before_item ++ item)
    (punctuation.comma ∷ (gaps.after_comma ++ (gaps.before_item ++ item)))

-- two parts, with a punctuator and a gap between them
abbrev pub with_punctuator : {A B S : Type 0} → S → List S → (A → List S) → (B → List S)
    → A × B → List S
with_punctuator punctuator gap f g p = f p.0 ++ punctuator ∷ (gap ++ g p.1)

-- the last part of a tuple, and the closing bracket
abbrev pub with_closing : {A S : Type 0} → ListPunctuation S → (A → List S) → A → List S
with_closing punctuation f x = f x ++ punctuation.closing ∷ []

-- the opening bracket, and the parts of a tuple
abbrev pub with_opening : {A S : Type 0} → ListPunctuation S → (A → List S) → A → List S
with_opening punctuation f x = punctuation.opening ∷ f x

-- ---- punctuation and gaps of a format

module _ {T : Type 0} (c : Cutting T) where
  -- each punctuator is cut into its token; a comma and a closing bracket may follow a value
  pub record PunctuationIs (tokens : ListPunctuation T) (punctuation : ListPunctuation ℕ) : Type 0
    where
      pub opening : IsPunctuator c tokens.opening punctuation.opening
      pub comma : IsPunctuator c tokens.comma punctuation.comma
      pub closing : IsPunctuator c tokens.closing punctuation.closing
      pub comma_follows : Follows c punctuation.comma
      pub closing_follows : Follows c punctuation.closing

  -- between the punctuation are gaps; and where no comma comes after the last item, the
  -- closing bracket with its gap may follow a value
  pub record AreGaps (ends : Bool) (punctuation : ListPunctuation ℕ) (gaps : Gaps ℕ) : Type 0 where
    pub after_opening : IsWrittenGap c gaps.after_opening
    pub before_item : IsWrittenGap c gaps.before_item
    pub after_comma : IsWrittenGap c gaps.after_comma
    pub before_closing : IsWrittenGap c gaps.before_closing
    pub closing_follows : ends ≡ false → (rest : List ℕ)
        → c.may_follow ((gaps.before_closing ++ punctuation.closing ∷ []) ++ rest)
