-- What other codecs are made from: a type seen as another, and one that is only written. They carry
-- their laws.
use Rattle.nano_value.specs.Meaning.{Meaning}
use Rattle.nano_bin_bytes.specs.Codec.{Encoding, Canonical, Codec}

-- a type whose values are seen as those of another
abbrev pub canonical_as : {A B : Type 0} → (A → B) → Canonical B → Canonical A
canonical_as f w = record {
  means = λ x. w.means (f x);
  written = λ x. w.written (f x);
  same_written = λ x y. w.same_written (f x) (f y);
}

-- a type whose values are seen as those of another
abbrev pub codec_as : {A B : Type 0} → (A → B) → Codec B → Codec A
codec_as f g = record {
  canonical = canonical_as f g.canonical;
  encoding = g.encoding;
  is_decodable = g.is_decodable;
  reads_back = λ is x. g.reads_back is (f x);
}

-- no bytes encode anything, whatever is legal
abbrev pub no_encoding : (Meaning → Type 0) → Encoding
no_encoding legal = record {
  legal = legal;
  encodes = λ bytes m. ⊥;
  laws = record {
    is_legal = λ a x h. absurd h;
    one_value = λ a x y h j. absurd h;
    one_prefix = λ a b m n x y h j e. absurd h;
  };
}
