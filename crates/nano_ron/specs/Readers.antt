-- What the readers of texts answer.
use Rattle.std.specs.Prelude.{ℕ, List, Result, ◌≡◌, false}
use Rattle.nano_grammar.specs.Outcomes.{ReadsText as ReadsTextBy, ReadsWhole as ReadsWholeBy}
use Rattle.nano_grammar.specs.Outcomes.{ReadsNoText}
use Rattle.nano_grammar.specs.Tokens.{TextDecodesToNothing}
use Rattle.nano_text.specs.Place.{remaining_text}
use Rattle.nano_ron_tokens.specs.Breaks.{Breaks}
use Rattle.nano_ron_tokens.specs.Cut.{Cut}
use Rattle.nano_ron_tokens.specs.Outcomes.{report}
use Rattle.nano_ron_tokens.specs.Token.{Token, end}
use Rattle.nano_ron_tokens.specs.declared.error.DeRonErr.{DeRonErr}
use Rattle.nano_value.specs.Order.{MeaningOrder}
use Rattle.nano_value.specs.Sets.{item_set}
use Rattle.nano_value.specs.Tables.{table_of}
use Rattle.nano_value.specs.Meaning.{Meaning}
use Rattle.nano_ron.specs.Codec.{Codec}
use Rattle.nano_ron.specs.ContainerCodecs.{map_codec, set_codec}

module _ {V A : Type 0} (encodes : List Token → V → Type 0) (means : A → V) (bytes : List ℕ) where
  -- the value at the beginning of the text is read, by what it means
  abbrev pub ReadsText : Result A DeRonErr → Type 0
  ReadsText result = ReadsTextBy Cut Breaks encodes bytes report means result

  -- the value that is the whole input is read, by what it means
  abbrev pub ReadsWhole : Result A DeRonErr → Type 0
  ReadsWhole result = ReadsWholeBy Cut Breaks encodes bytes report means end result

-- an error of a call that begins with reading the value at the beginning of the text: no value is
-- encoded there
abbrev pub RejectsText : {V : Type 0} → (List Token → V → Type 0) → List ℕ → DeRonErr → Type 0
RejectsText encodes bytes e = ReadsNoText Cut Breaks encodes bytes (report e)

-- where the error of a text says more than that memory ran out, no value decodes there
abbrev pub RejectedDecodesToNothing : {V : Type 0} → (List Token → V → Type 0) → Type 0
RejectedDecodesToNothing encodes = (bytes : List ℕ) (e : DeRonErr) → RejectsText encodes bytes e
    → e.memory ≡ false → TextDecodesToNothing Cut encodes (remaining_text bytes)

-- ==== values that are written alike

-- entries that make the same table, by what they mean, are written as the same text
abbrev pub EntriesDecideText : {K V : Type 0} → (K → Meaning) → (V → Meaning) → MeaningOrder
    → Codec K → Codec V → Type 0
EntriesDecideText {K} {V} f g o k v = (es fs : List (K × V)) (d : ℕ)
    → table_of f g es ≡ table_of f g fs
    → (map_codec o k v).canonical.text d es ≡ (map_codec o k v).canonical.text d fs

-- items that make the same set, by what they mean, are written as the same text
abbrev pub ItemsDecideText : {K : Type 0} → (K → Meaning) → MeaningOrder → Codec K → Type 0
ItemsDecideText {K} f o k = (xs ys : List K) (d : ℕ) → item_set f xs ≡ item_set f ys
    → (set_codec o k).canonical.text d xs ≡ (set_codec o k).canonical.text d ys
