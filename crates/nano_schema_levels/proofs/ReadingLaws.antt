-- What is read of a type that contains itself, over any format's tokens: what its layer reads
-- around one level less.
use Rattle.std.specs.Prelude.{◌≡◌, ℕ, suc, ◌-◌}
use Rattle.std.proofs.Common.{sym, ◌∙◌, subst, ap, arith}
use Rattle.nano_grammar.specs.Tokens.{Cutting, At}
use Rattle.nano_grammar.specs.Codec.{Grammar}
use Rattle.nano_grammar.specs.Outcomes.{Position, Report, Read, ReadsNoneAndEnds}
use Rattle.nano_grammar.proofs.TokenCalls.{none_as}
use Rattle.nano_levels.specs.Layers.{Nested}
use Rattle.nano_levels.proofs.LevelsLaws.{level, level_holds, level_content}
use Rattle.nano_schema_levels.proofs.NestedLaws.{seen_codec, means_seen}

module _ {T : Type 0} {c : Cutting T} {g : Grammar T} {A : Type 0} (l : Nested c g A)
    {start end : Position T} (left : ℕ) (more : left ≡ 0 → ⊥) where
  -- what is read as values are seen, is read as a value
  pub seen_read : (x : A) (v : l.Seen) → l.view x ≡ v
      → Read c.cut (l.layer.codec (level l (left - 1))).encoding.encodes start end
      ((seen_codec l (left - 1)).canonical.means v)
      → Read c.cut (level l left).encoding.encodes start end (l.means x)
  seen_read x v e h =
      let n = left - 1 in
      let is : left ≡ suc n = omega (arith, more) in
      let same = sym (ap (seen_codec l n).canonical.means e) ∙ means_seen l n x in
      let held = level_holds l n ((seen_codec l n).canonical.means v) h.decodes.0 h.decodes.1 in
      subst (λ k. Read c.cut (level l k).encoding.encodes start end (l.means x)) (sym is) (record {
        decodes = (
          h.decodes.0,
          subst (λ m. (level l (suc n)).encoding.encodes h.decodes.0 m) same held,
          h.decodes.2,
        );
        place = h.place;
      })

  -- where nothing is read as values are seen, no value is
  pub seen_none : {last : At T} {e : Report}
      → ReadsNoneAndEnds c.cut c.breaks (l.layer.codec (level l (left - 1))).encoding.encodes start end last e
      → ReadsNoneAndEnds c.cut c.breaks (level l left).encoding.encodes start end last e
  seen_none {last} {e} h =
      let n = left - 1 in
      let is : left ≡ suc n = omega (arith, more) in
      subst (λ k. ReadsNoneAndEnds c.cut c.breaks (level l k).encoding.encodes start end last e) (sym is)
      (record {
        fails = none_as c.cut (level l (suc n)).encoding.encodes
            (l.layer.codec (level l n)).encoding.encodes
            (λ ts m k. (m, level_content l n m ts k)) h.fails;
        ended = h.ended;
      })
