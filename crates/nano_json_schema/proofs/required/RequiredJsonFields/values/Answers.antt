use Rattle.std.proofs.Common.{List, ℕ, ◌++◌, ◌∙◌, ap, refl, subst}
use Rattle.std.specs.Prelude.{codes}
use Rattle.std.specs.Option.{option_map}
use Rattle.nano_grammar.specs.Fields.{Holds}
use Rattle.nano_json_schema.proofs.required.RequiredJsonFields.values.Goals as goal

pub returns-in-None : goal.returns-in-None
returns-in-None g c = record {
  rejected = λ known. record {
    name = g.N.Label.label;
    lacking = λ fs held. (
      subst (λ slot. Holds g.N.Label.label g.T.JsonCodec.json.encoding.encodes (option_map g.T.JsonCodec.json.canonical.means slot) fs) c.in-None.is held,
      refl,
    );
    said = c.err_nf.ensures.0 known ∙ ap (λ (name : List ℕ). codes "Key not found " ++ name) c.text.ensures;
  };
  made = c.err_nf.ensures.1;
}
