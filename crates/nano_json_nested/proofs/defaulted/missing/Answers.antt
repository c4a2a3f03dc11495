use Rattle.std.proofs.Common.{◌∙◌, subst, sym}
use Rattle.nano_grammar.specs.Fields.{HasEncoding}
use Rattle.nano_json_nested.proofs.defaulted.missing.Goals as goal

pub returns-in-Ok : goal.returns-in-Ok
returns-in-Ok g c levels = (
  c.in-Ok.ensures,
  subst (HasEncoding (g.T.NestedJson.at levels).encoding.encodes) (sym c.in-Ok.ensures) (g.met.D.JsonDefaultWithin.is_encoded levels),
)

pub returns-in-Err : goal.returns-in-Err
returns-in-Err g c levels = record {
  rejected = λ known. let x = sym c.err_memory.ensures.memory ∙ known in absurd (cc x);
  made = c.err_memory.ensures.made;
}
