-- Maps: keys with their values between brackets. Of each key the last value counts. They are
-- written in the order of their keys.
use Rattle.std.specs.Prelude.{ℕ, List, []}
use Rattle.std.specs.List.{AllByRecursion}
use Rattle.std.specs.declared.cmp.Ordering.{Ordering}
use Rattle.nano_grammar.specs.Tokens.{Cutting}
use Rattle.nano_grammar.specs.Codec.{Codec, Grammar, Canonical, PairStyle, AreBrackets, ListStyle}
use Rattle.nano_grammar.specs.Items.{with_punctuator, ListPunctuation, EncodedPair}
use Rattle.nano_text.specs.Place.{saturating_next}
use Rattle.nano_value.specs.Tables.{ascending, map_means}
use Rattle.nano_value.specs.Meaning.{IsImage, Meaning}
use Rattle.nano_value.specs.Order.{MeaningOrder, by_meaning}
use Rattle.nano_grammar.specs.Lists.{EncodesList, list_text, list_tokens}
use Rattle.nano_value.specs.Ordered.{ordered_map_means}

-- ==== pairs

-- ---- the canonical text

-- two parts with a punctuator and a gap between them
module _ {T : Type 0} {c : Cutting T} (p : PairStyle c) {A B : Type 0} (v : Canonical c A)
    (w : Canonical c B) where
  abbrev pub pair_text : ℕ → A × B → List ℕ
  pair_text d = with_punctuator p.punctuator p.gap (v.text d) (w.text d)

  abbrev pub pair_tokens : A × B → List T
  pair_tokens = with_punctuator p.token [] v.tokens w.tokens

-- ---- the format

module _ {T : Type 0} {c : Cutting T} {g : Grammar T} (p : PairStyle c)
    (divides : g.may_begin p.token → ⊥) {A B : Type 0} (f : Codec c g A) (h : Codec c g B) where
  abbrev pub BothSound : A × B → Type 0
  BothSound x = f.sound x.0 × h.sound x.1

-- ==== maps

module _ {T : Type 0} (punctuation : ListPunctuation T) (punctuator : T)
    (S R : List T → Meaning → Type 0) where
  -- any number of entries that a `usize` counts
  abbrev pub EncodesEntries : List T → List (Meaning × Meaning) → Type 0
  EncodesEntries = EncodesList punctuation (EncodedPair punctuator S R)

  abbrev pub EncodesMap : List T → Meaning → Type 0
  EncodesMap ts = IsImage map_means (EncodesEntries ts)

-- ---- the canonical text

module _ {T : Type 0} {c : Cutting T} (s : ListStyle c) (p : PairStyle c) {K V : Type 0}
    (o : MeaningOrder) (v : Canonical c K) (w : Canonical c V) where
  abbrev pub map_text : ℕ → List (K × V) → List ℕ
  map_text d es =
      list_text s d (pair_text p v w (saturating_next d)) (ascending (by_meaning v.means o) es)

  abbrev pub map_tokens : List (K × V) → List T
  map_tokens es = list_tokens s (pair_tokens p v w) (ascending (by_meaning v.means o) es)

-- ---- the format

module _ {T : Type 0} {c : Cutting T} {g : Grammar T} (s : ListStyle c)
    (are : AreBrackets g s.tokens) (p : PairStyle c) (divides : g.may_begin p.token → ⊥)
    {K V : Type 0} (o : MeaningOrder) (k : Codec c g K) (v : Codec c g V) where
  abbrev pub entries_of : List (K × V) → List (K × V)
  entries_of = ascending (by_meaning k.canonical.means o)

  -- each key and each value
  abbrev pub AllSoundEntries : List (K × V) → Type 0
  AllSoundEntries = AllByRecursion (λ e. k.sound e.0 × v.sound e.1)

  -- the entries in order
  abbrev pub SoundEntries : List (K × V) → Type 0
  SoundEntries es = AllSoundEntries (entries_of es)

-- ==== maps that hold their entries in order

module _ {T : Type 0} {c : Cutting T} {g : Grammar T} (s : ListStyle c)
    (are : AreBrackets g s.tokens) (p : PairStyle c) (divides : g.may_begin p.token → ⊥)
    {K V : Type 0} (o : MeaningOrder) (k : Codec c g K) (v : Codec c g V)
    (R : K → K → Ordering) where
  abbrev pub means : List (K × V) → Meaning
  means = ordered_map_means R k.canonical.means v.canonical.means

  abbrev pub tokens : List (K × V) → List T
  tokens = map_tokens s p o k.canonical v.canonical

  abbrev pub text : ℕ → List (K × V) → List ℕ
  text = map_text s p o k.canonical v.canonical

  abbrev pub Sound : List (K × V) → Type 0
  Sound = SoundEntries s are p divides o k v
