-- What is proved of a type that contains itself, where its values are seen by one layer: what they
-- mean, how they are written, and what is legal.
use Rattle.std.specs.Prelude.{◌≡◌, ℕ}
use Rattle.std.proofs.Common.{sym, ◌∙◌, subst, ap}
use Rattle.nano_grammar.specs.Tokens.{Cutting}
use Rattle.nano_grammar.specs.Codec.{Grammar, Codec}
use Rattle.nano_levels.specs.Layers.{Layer, Nested}
use Rattle.nano_levels.proofs.LevelsLaws.{limited}
use Rattle.nano_levels.proofs.LevelsLaws.{Legal, text_around, legal_around}
use Rattle.nano_schema_levels.proofs.PartLaws.{seen_layer}

module _ {T : Type 0} {c : Cutting T} {g : Grammar T} {A : Type 0} (l : Nested c g A) where
  -- the codec of the values as they are seen, around those of so many levels
  abbrev pub seen_codec : ℕ → Codec c g l.Seen
  seen_codec n = l.layer.codec (limited l n)

  -- ---- what a value means and how it is written, by what it is seen as

  pub means_seen : (n : ℕ) (x : A) → (seen_codec n).canonical.means (l.view x) ≡ l.means x
  means_seen n x = l.layer.means_is (limited l n) (l.view x) ∙ sym (l.means_is x)

  pub text_seen : (limit d : ℕ) (x : A) (v : l.Seen) → l.view x ≡ v
      → (limited l limit).canonical.text d x ≡ (seen_codec limit).canonical.text d v
  text_seen limit d x v e =
      text_around l limit d x ∙ ap ((seen_codec limit).canonical.text d) e

  -- ---- what is legal

  pub legal_seen : (limit : ℕ) (x : A) (v : l.Seen) → l.view x ≡ v
      → (seen_codec limit).encoding.legal (l.layer.means l.means v) → Legal l (l.means x)
  legal_seen limit x v e h =
      legal_around l limit x
      (subst (λ w. (seen_codec limit).encoding.legal (l.layer.means l.means w)) (sym e) h)

-- ---- a type that is a layer around values of another one, by what it is seen as

module _ {T : Type 0} {c : Cutting T} {g : Grammar T} {A B V : Type 0} (view : B → V)
    (l : Layer c g A V) (f : Codec c g A) where
  pub layer_text : (d : ℕ) (x : B) (v : V) → view x ≡ v
      → ((seen_layer view l).codec f).canonical.text d x ≡ (l.codec f).canonical.text d v
  layer_text d x v e = ap ((l.codec f).canonical.text d) e

  pub layer_legal : (x : B) (v : V) → view x ≡ v
      → (l.codec f).encoding.legal (l.means f.canonical.means v)
      → (l.codec f).encoding.legal (l.means f.canonical.means (view x))
  layer_legal x v e h =
      subst (λ w. (l.codec f).encoding.legal (l.means f.canonical.means w)) (sym e) h
