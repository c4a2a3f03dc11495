use Rattle.std.proofs.Common.{◌∙◌, subst, sym}
use Rattle.nano_grammar.specs.Fields.{HasEncoding}
use Rattle.nano_ron_nested.proofs.defaulted.missing.Goals as goal

pub returns-in-Ok : goal.returns-in-Ok
returns-in-Ok g c levels = (
  c.in-Ok.ensures,
  subst (HasEncoding (g.T.NestedRon.at levels).encoding.encodes) (sym c.in-Ok.ensures) (g.met.D.RonDefaultWithin.is_encoded levels),
)

pub returns-in-Err : goal.returns-in-Err
returns-in-Err g c levels = record {
  rejected = λ known. let x = sym c.err_memory.ensures.memory ∙ known in absurd (cc x);
  made = c.err_memory.ensures.made;
}
