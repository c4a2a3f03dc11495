-- What is proved of a type that contains itself, where its values are seen by one layer: what is
-- read, what is rejected, and what is legal.
use Rattle.std.proofs.Common.{◌≡◌, ◌<◌, ℕ, suc, List, [], ◌∷◌, map, refl, Result, Ok, Err, IfOk, IfErr, sym, ◌∙◌, subst, ap}
use Rattle.nano_bin_bytes.specs.declared.error.DeBinErr.{DeBinErr}
use Rattle.nano_bin_bytes.specs.Codec.{Codec}
use Rattle.nano_bin_bytes.specs.Reading.{Decodes, DecodesToNothing, ReadsNone}
use Rattle.nano_bin_bytes.proofs.ErrorsLaws.{passed_here}
use Rattle.nano_bin.proofs.Readers.{as_reads}
use Rattle.nano_bin_levels.specs.Layers.{Layer, Nested}
use Rattle.nano_bin_levels.proofs.LayersLaws.{seen_layer}
use Rattle.nano_bin_levels.proofs.LevelsLaws.{level, level_legal, nested_codec, Legal}
use Rattle.nano_bin_levels.proofs.LevelsLaws.{rolled, unrolled, written_around}

module _ {A : Type 0} (l : Nested A) where
  -- the codec of the values as they are seen, around those of all depths
  abbrev pub seen_codec : Codec l.Seen
  seen_codec = l.layer.codec (nested_codec l)

  -- ---- what a value means and how it is written, by what it is seen as

  pub means_seen : (x : A) → l.means x ≡ seen_codec.canonical.means (l.view x)
  means_seen x = l.means_is x ∙ sym (l.layer.means_is (nested_codec l) (l.view x))

  pub written_seen : (x : A) (v : l.Seen) → l.view x ≡ v
      → (nested_codec l).canonical.written x ≡ seen_codec.canonical.written v
  written_seen x v e = written_around l x ∙ ap seen_codec.canonical.written e

  -- ---- what is read

  module _ (bytes : List ℕ) (start end : ℕ) where
    pub seen_reads : (x : A)
        → Decodes seen_codec.encoding.encodes bytes start (seen_codec.canonical.means (l.view x)) end
        → Decodes (nested_codec l).encoding.encodes bytes start (l.means x) end
    seen_reads x r =
        let m = seen_codec.canonical.means (l.view x) in
        as_reads (nested_codec l).encoding.encodes bytes start end m (l.means x) r
        (λ a h. subst ((nested_codec l).encoding.encodes a) (sym (means_seen x)) (rolled l a m h))

    pub seen_ok : (r : Result A DeBinErr)
        → IfOk r (λ x. Decodes seen_codec.encoding.encodes bytes start (seen_codec.canonical.means (l.view x)) end)
        → IfOk r (λ x. Decodes (nested_codec l).encoding.encodes bytes start (l.means x) end)
    seen_ok (Ok x) h = seen_reads x h
    seen_ok (Err e) h = h

    seen_rejected : (left : List ℕ) → DecodesToNothing seen_codec.encoding.encodes left
        → DecodesToNothing (nested_codec l).encoding.encodes left
    seen_rejected left none m f =
        none m (record {
          prefix = f.prefix;
          rest = f.rest;
          whole = f.whole;
          is_encoded = unrolled l f.prefix m f.is_encoded;
        })

    pub seen_err : (r : Result A DeBinErr)
        → IfErr r (ReadsNone seen_codec.encoding.encodes bytes start end)
        → IfErr r (ReadsNone (nested_codec l).encoding.encodes bytes start end)
    seen_err (Ok x) h = h
    seen_err (Err e) h = passed_here (nested_codec l).encoding.encodes h seen_rejected

  -- ---- what is legal

  pub seen_legal : (x : A) (v : l.Seen) → l.view x ≡ v
      → seen_codec.encoding.legal (l.layer.means l.means v)
      → (nested_codec l).encoding.legal (l.means x)
  unfolding level
  seen_legal x v e h =
      let n = l.depth x in
      let inner = l.layer.weaker (λ y. l.depth y < l.layer.deep l.depth (l.view x))
      (λ y. Legal l (l.means y) → (level l n).encoding.legal (l.means y))
      (λ y less legal. level_legal l legal.0 n y legal.1 (subst (λ k. l.depth y < k) (sym (l.depth_is x)) less))
      (l.view x) (l.layer.less l.depth (l.view x)) in
      let here = subst (λ w. seen_codec.encoding.legal (l.layer.means l.means w)) (sym e) h in
      let there = l.layer.legal_same (nested_codec l) (level l n) l.means (l.view x) inner here in
      (suc n, subst (l.layer.codec (level l n)).encoding.legal (sym (l.means_is x)) there)

-- ---- a type that is a layer around values of another one, by what it is seen as

module _ {A B V : Type 0} (view : B → V) (l : Layer A V) (f : Codec A) where
  pub layer_written : (x : B) (v : V) → view x ≡ v
      → ((seen_layer view l).codec f).canonical.written x ≡ (l.codec f).canonical.written v
  layer_written x v e = ap (l.codec f).canonical.written e

  pub layer_legal : (x : B) (v : V) → view x ≡ v
      → (l.codec f).encoding.legal (l.means f.canonical.means v)
      → (l.codec f).encoding.legal (l.means f.canonical.means (view x))
  layer_legal x v e h =
      subst (λ w. (l.codec f).encoding.legal (l.means f.canonical.means w)) (sym e) h

-- ---- how deep the parts of a value are

pub steps_deep : {A : Type 0} (d : A → ℕ) (xs : List A)
    → map (λ n. suc n) (map d xs) ≡ map (λ x. suc (d x)) xs
steps_deep d [] = refl
steps_deep d (x ∷ xs) = λ i. suc (d x) ∷ steps_deep d xs i
