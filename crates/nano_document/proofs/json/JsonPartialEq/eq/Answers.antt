use Rattle.std.proofs.lemmas.Bool.Decides.{same_from_decides}
use Rattle.nano_document.specs.Documents.{json_means}
use Rattle.nano_document.specs.Equality.{json_eq}
use Rattle.nano_document.specs.EqualityImpls.{meaning_eq-Decides}
use Rattle.nano_document.proofs.json.JsonPartialEq.eq.Goals as goal

pub returns-clause-value : goal.returns-clause-value
returns-clause-value c =
    same_from_decides c.same_json.result (json_eq c.args.self.now c.args.other.now) c.same_json.ensures (meaning_eq-Decides (json_means c.args.self.now) (json_means c.args.other.now))
