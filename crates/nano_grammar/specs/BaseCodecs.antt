-- What other codecs are made from: a type seen as another, values of one token, the unit, and the
-- parts of tuples. They carry their laws.
use Rattle.std.specs.Prelude.{◌∷◌, ◌++◌, [], refl}
use Rattle.std.proofs.Common.{ap}
use Rattle.nano_value.specs.Meaning.{Meaning, nothing}
use Rattle.nano_grammar.specs.Tokens.{Cutting}
use Rattle.nano_grammar.specs.Items.{with_closing, with_opening}
use Rattle.nano_grammar.specs.Codec.{Grammar, Canonical, Codec, PairStyle, TupleStyle}
use Rattle.nano_grammar.specs.Scalars.{Carries, OneCanonical, UnitStyle}

-- a type whose values are seen as those of another
abbrev pub canonical_as : {T : Type 0} {c : Cutting T} {A B : Type 0} → (A → B) → Canonical c B
    → Canonical c A
canonical_as f w = record {
  means = λ x. w.means (f x);
  text = λ d x. w.text d (f x);
  tokens = λ x. w.tokens (f x);
  same_text = λ x y. w.same_text (f x) (f y);
}

-- a type whose values are seen as those of another
abbrev pub codec_as : {T : Type 0} {c : Cutting T} {g : Grammar T} {A B : Type 0} → (A → B)
    → Codec c g B → Codec c g A
codec_as view f = record {
  canonical = canonical_as view f.canonical;
  encoding = f.encoding;
  is_written = λ x. f.is_written (view x);
  sound = λ x. f.sound (view x);
  reads_back = λ x. f.reads_back (view x);
  encoded_is_sound = λ x. f.encoded_is_sound (view x);
  null_alone = λ x. f.null_alone (view x);
}

-- what is written by one token
abbrev pub one_canonical : {T A : Type 0} {c : Cutting T} {g : Grammar T} (k : Carries g A)
    (means : A → Meaning) (P : A → Type 0) → OneCanonical c k means P → Canonical c A
one_canonical k means P w = record {
  means = means;
  text = λ d. w.text;
  tokens = λ x. w.token x ∷ [];
  same_text = λ x y e d. ap w.text (w.injective x y e);
}

module _ {T : Type 0} {c : Cutting T} {g : Grammar T} (s : UnitStyle c g) where
  -- what is always written alike
  abbrev pub unit_canonical : {A : Type 0} → Canonical c A
  unit_canonical = record {
    means = λ _. nothing;
    text = λ d _. s.text;
    tokens = λ _. s.tokens;
    same_text = λ x y e d. refl;
  }

module _ {T : Type 0} {c : Cutting T} (s : TupleStyle c) where
  -- the comma between two parts
  abbrev pub part_style : PairStyle c
  part_style = record {
    token = s.tokens.comma;
    punctuator = s.punctuation.comma;
    gap = s.gap;
    is_punctuator = s.punctuation_is.comma;
    follows = s.punctuation_is.comma_follows;
    is_gap = s.is_gap;
  }

  -- the last part of a tuple, with the closing bracket
  abbrev pub last_canonical : {A : Type 0} → Canonical c A → Canonical c A
  last_canonical w = record {
    means = w.means;
    text = λ d. with_closing s.punctuation (w.text d);
    tokens = with_closing s.tokens w.tokens;
    same_text = λ x y e d. ap (λ l. l ++ s.punctuation.closing ∷ []) (w.same_text x y e d);
  }

  -- a tuple: the opening bracket, and its parts
  abbrev pub tuple_canonical : {A : Type 0} → Canonical c A → Canonical c A
  tuple_canonical w = record {
    means = w.means;
    text = λ d. with_opening s.punctuation (w.text d);
    tokens = with_opening s.tokens w.tokens;
    same_text = λ x y e d. ap (λ l. s.punctuation.opening ∷ l) (w.same_text x y e d);
  }
