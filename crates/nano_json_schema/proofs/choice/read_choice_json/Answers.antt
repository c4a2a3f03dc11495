use Rattle.std.proofs.Common.{sym}
use Rattle.nano_grammar.proofs.TokenCalls.{passed_on}
use Rattle.nano_json_schema.proofs.Calls.{name_not, enum_read, enum_not}
use Rattle.nano_json_schema.proofs.choice.read_choice_json.Goals as goal

pub returns-in_err-name-clause-reads : goal.returns-in_err-name-clause-reads
returns-in_err-name-clause-reads g c =
    passed_on _ _ c.from_residual.result c.from_residual.ensures.1
    (name_not g.V.JsonChoices.codec.encodes c.in_err-name.ensures)

pub returns-in_err-name-clause-means : goal.returns-in_err-name-clause-means
returns-in_err-name-clause-means g c _ =
    passed_on _ _ c.from_residual.result c.from_residual.ensures.1
    (name_not g.V.JsonChoices.codec.encodes c.in_err-name.ensures).none

pub returns-in-Ok-clause-reads : goal.returns-in-Ok-clause-reads
returns-in-Ok-clause-reads g c =
    rw c.make.ensures (enum_read g.V.JsonChoices.codec.encodes c.in_ok-name.name c.read_variant_name.new.state c.read_variant_name.new.input c.in_ok-name.ensures c.in-Ok.ensures)

pub returns-in-Ok-clause-means : goal.returns-in-Ok-clause-means
returns-in-Ok-clause-means g c same =
    rw (sym g.met.E.JsonCodec.agrees.means_is, sym (same c.make.result), c.make.ensures)
    (enum_read g.V.JsonChoices.codec.encodes c.in_ok-name.name c.read_variant_name.new.state c.read_variant_name.new.input c.in_ok-name.ensures c.in-Ok.ensures).read

pub returns-clause-reads : goal.returns-clause-reads
returns-clause-reads g c =
    enum_not g.V.JsonChoices.codec.encodes c.in_ok-name.name c.read_variant_name.new.state c.read_variant_name.new.input c.in_ok-name.ensures c.in-Err.ensures

pub returns-clause-means : goal.returns-clause-means
returns-clause-means g c _ =
    (enum_not g.V.JsonChoices.codec.encodes c.in_ok-name.name c.read_variant_name.new.state c.read_variant_name.new.input c.in_ok-name.ensures c.in-Err.ensures).none
