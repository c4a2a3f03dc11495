-- What is legal as bytes is what is legal as text.
use Rattle.std.specs.Prelude.{ℕ, zero, suc, refl}
use Rattle.nano_value.specs.Meaning.{Meaning, LegalPair, LegalText, Agrees}
use Rattle.nano_meaning.proofs.MeaningLaws.{list_weaker, pair_weaker}
use Rattle.nano_bin_bytes.specs.Codec as bytes
use Rattle.nano_json.specs.Codec as text
use Rattle.nano_levels.specs.Kinds.{codecs_at as text_codecs}
use Rattle.nano_levels.proofs.LevelsLaws.{level as text_level}
use Rattle.nano_bin_levels.specs.Places.{codecs_at as bin_codecs}
use Rattle.nano_bin_levels.proofs.LevelsLaws.{level}
use Rattle.nano_document.specs.Documents.{json_means}
use Rattle.nano_document.specs.DocumentCodecs.{layers as text_layers, level_codec, json_codec}
use Rattle.nano_document.specs.BinCodecs.{layers as bin_layers, bin_level, bin_codec}
use Rattle.nano_document.specs.declared.json.Json.{Json}

module _ (P Q : Meaning → Type 0) (weaker : (m : Meaning) → P m → Q m) where
  entry_weaker : (m : Meaning) → LegalPair LegalText P m → LegalPair LegalText Q m
  entry_weaker = pair_weaker LegalText LegalText P Q (λ m h. h) weaker

module _ (f : bytes.Codec Json) (g : text.Codec Json) where
  as_text : ((m : Meaning) → f.encoding.legal m → g.encoding.legal m) → (place : ℕ) (m : Meaning)
      → (bin_codecs bin_layers f place).encoding.legal m
      → (text_codecs text_layers g place).encoding.legal m
  as_text w zero m h = h
  as_text w (suc zero) m h = h
  as_text w (suc (suc zero)) m h = h
  as_text w (suc (suc (suc zero))) m h = h
  as_text w (suc (suc (suc (suc zero)))) m h = list_weaker f.encoding.legal g.encoding.legal w m h
  as_text w (suc (suc (suc (suc (suc zero))))) m h =
      list_weaker (LegalPair LegalText f.encoding.legal) (LegalPair LegalText g.encoding.legal)
      (entry_weaker f.encoding.legal g.encoding.legal w) m h
  as_text w (suc (suc (suc (suc (suc (suc zero)))))) m h = h
  as_text w (suc (suc (suc (suc (suc (suc (suc place))))))) m h = absurd h

  as_bytes : ((m : Meaning) → g.encoding.legal m → f.encoding.legal m) → (place : ℕ) (m : Meaning)
      → (text_codecs text_layers g place).encoding.legal m
      → (bin_codecs bin_layers f place).encoding.legal m
  as_bytes w zero m h = h
  as_bytes w (suc zero) m h = h
  as_bytes w (suc (suc zero)) m h = h
  as_bytes w (suc (suc (suc zero))) m h = h
  as_bytes w (suc (suc (suc (suc zero)))) m h = list_weaker g.encoding.legal f.encoding.legal w m h
  as_bytes w (suc (suc (suc (suc (suc zero))))) m h =
      list_weaker (LegalPair LegalText g.encoding.legal) (LegalPair LegalText f.encoding.legal)
      (entry_weaker g.encoding.legal f.encoding.legal w) m h
  as_bytes w (suc (suc (suc (suc (suc (suc zero)))))) m h = h
  as_bytes w (suc (suc (suc (suc (suc (suc (suc place))))))) m h = absurd h

to_text : (n : ℕ) (m : Meaning) → (bin_level n).encoding.legal m → (level_codec n).encoding.legal m
unfolding level text_level
to_text zero m h = h
to_text (suc n) m h = record {
  place = h.place;
  content = h.content;
  legal = as_text (bin_level n) (level_codec n) (to_text n) h.place h.content h.legal;
  is = h.is;
}

to_bytes : (n : ℕ) (m : Meaning) → (level_codec n).encoding.legal m → (bin_level n).encoding.legal m
unfolding level text_level
to_bytes zero m h = h
to_bytes (suc n) m h = record {
  place = h.place;
  content = h.content;
  legal = as_bytes (bin_level n) (level_codec n) (to_bytes n) h.place h.content h.legal;
  is = h.is;
}

pub bin_agrees : Agrees json_means json_codec.encoding.legal bin_codec.canonical.means
    bin_codec.encoding.legal
bin_agrees = record {
  means_is = refl;
  allows = λ m h. (h.0, to_bytes h.0 m h.1);
  is_legal = λ m h. (h.0, to_text h.0 m h.1);
}
