-- Laws of tokens and lists, over any cut and any encoding.
use Rattle.std.specs.Prelude.{◌≡◌, ◌≢◌, ◌↔◌, ◌⊎◌, ℕ, List, [], ◌∷◌, ◌++◌, Bool, false, Some, None}
use Rattle.std.specs.Prelude.{map}
use Rattle.std.specs.List.{flat_map, AllByRecursion}
use Rattle.nano_grammar.specs.Items.{ListPunctuation, OneValue, EncodedList}
use Rattle.nano_grammar.specs.Tokens.{At, Begins, BeginsAt, Leaves, Spans, TextDecodesTo, IsOneWay}
use Rattle.nano_grammar.specs.Tokens.{NoneBeginsAnother, DecodesToNothing}
use Rattle.nano_grammar.specs.Faults.{Reason, Fault}
use Rattle.nano_grammar.specs.Fields.{Field, last, others}
use Rattle.nano_grammar.specs.Aliases.{under_own}

module _ {T : Type 0} (cut : List ℕ → T → List ℕ → Type 0) where
  -- taking tokens up to another one is the same as beginning with them and that one
  abbrev pub TakenTokensBegin : Type 0
  TakenTokensBegin = (ts : List T) (next : T) (start : At T)
      → ((rest : List ℕ) × Leaves cut ts start (record { token = next; text = rest }))
      ↔ BeginsAt cut (ts ++ next ∷ []) start

  module _ {V : Type 0} (encodes : List T → V → Type 0) where
    -- a text decodes to a value where the text begins with an encoding of it and one more
    -- token
    abbrev pub DecodesWhereTextBegins : Type 0
    DecodesWhereTextBegins = (text : List ℕ) (value : V) → TextDecodesTo cut encodes text value
        ↔ ((ts : List T) × (next : T) × encodes ts value × Begins cut (ts ++ next ∷ []) text)

    -- where a text is cut in one way, and no encoding begins another, one value is encoded
    -- from a place, to one other place
    abbrev pub SpansOnce : Type 0
    SpansOnce = IsOneWay cut → OneValue encodes → NoneBeginsAnother encodes
        → (start end other : At T) (v w : V)
        → Spans cut encodes start end v → Spans cut encodes start other w
        → (v ≡ w) × (end ≡ other)

    -- where a text is cut in one way and goes wrong, no value decodes
    abbrev pub FaultsDecodeToNothing : Type 0
    FaultsDecodeToNothing = IsOneWay cut → (start here : At T) (reason : Reason cut here)
        → Fault cut encodes start here reason → DecodesToNothing cut encodes start

    -- and tokens that were taken and begin an encoding are no more than those before the fault
    abbrev pub NothingGoesPastFaults : Type 0
    NothingGoesPastFaults = IsOneWay cut → (start here end : At T) (reason : Reason cut here)
        → (fault : Fault cut encodes start here reason) → (ts more : List T) (v : V)
        → Leaves cut ts start end → encodes (ts ++ more) v
        → (between : List T) × (fault.tokens ≡ ts ++ between)

-- pieces, with one comma between two
abbrev pub joined : {T : Type 0} → T → List (List T) → List T
joined comma [] = []
joined comma (p ∷ ps) = p ++ flat_map (λ q. comma ∷ q) ps

-- as many pieces as values, each of which encodes its value
abbrev pub EncodeEach : {T V : Type 0} → (List T → V → Type 0) → List (List T) → List V → Type 0
EncodeEach encodes [] [] = Unit {0}
EncodeEach encodes [] (v ∷ vs) = ⊥
EncodeEach encodes (p ∷ ps) [] = ⊥
EncodeEach encodes (p ∷ ps) (v ∷ vs) = encodes p v × EncodeEach encodes ps vs

module _ {T V : Type 0} (punctuation : ListPunctuation T) (encodes : List T → V → Type 0) where
  -- brackets around pieces that are joined, with one more comma after the last or without
  abbrev pub JoinedList : List T → List V → Type 0
  JoinedList ts vs = (pieces : List (List T)) × EncodeEach encodes pieces vs
      × ((ts ≡ punctuation.opening ∷ (joined punctuation.comma pieces ++ punctuation.closing ∷ []))
      ⊎ ((pieces ≢ [])
      × (ts ≡ punctuation.opening ∷
      (joined punctuation.comma pieces ++ punctuation.comma ∷ punctuation.closing ∷ []))))

  -- the encoded lists are those
  abbrev pub ListsAreJoined : Type 0
  ListsAreJoined = (ts : List T) (vs : List V)
      → EncodedList punctuation encodes ts vs ↔ JoinedList ts vs

-- ==== laws of the definitions

module _ (T : Type 0) where
  -- no field has this name
  abbrev pub NoneNamed : List ℕ → List (Field T) → Type 0
  NoneNamed name fs = AllByRecursion (λ f. f.name ≢ name) fs

  -- the fields before and after the last one of a name
  abbrev pub Around : List ℕ → List T → List (Field T) → Type 0
  Around name us fs =
      (prefix : List (Field T)) × (back : List (Field T))
      × (fs ≡ prefix ++ record { name = name; value = us } ∷ back) × NoneNamed name back

  -- of the fields with one name, the one counts that has no other of that name after it
  abbrev pub LastFieldCounts : Type 0
  LastFieldCounts =
      (name : List ℕ) (us : List T) (fs : List (Field T))
      → (last name fs ≡ Some us) ↔ Around name us fs

  -- a name is missing where no field has it
  abbrev pub MissingNameHasNoField : Type 0
  MissingNameHasNoField =
      (name : List ℕ) (fs : List (Field T)) → (last name fs ≡ None) ↔ NoneNamed name fs

  -- of a name that the first fields do not know, the second see the last field of all
  abbrev pub OtherNamesAreSeen : Type 0
  OtherNamesAreSeen =
      (knows : List ℕ → Bool) (name : List ℕ) (fs : List (Field T)) → knows name ≡ false
      → last name (others knows fs) ≡ last name fs

  -- of the fields with a name or its alias, the last one counts, as of one name
  abbrev pub LastOfBothNamesCounts : Type 0
  LastOfBothNamesCounts =
      (alias own : List ℕ) (f : Field T) (before after : List (Field T))
      → (f.name ≡ alias) ⊎ (f.name ≡ own) → NoneNamed alias after → NoneNamed own after
      → last own (map (under_own alias own) (before ++ f ∷ after)) ≡ Some f.value
