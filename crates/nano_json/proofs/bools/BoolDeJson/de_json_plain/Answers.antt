use Rattle.std.proofs.Common.{refl}
use Rattle.std.proofs.lemmas.Option.{IfSome_then}
use Rattle.nano_grammar.proofs.Plain.{taken_as}
use Rattle.nano_json_tokens.specs.Cut.{Cut}
use Rattle.nano_json_tokens.specs.Scan.{ATruth}
use Rattle.nano_json_tokens.specs.Token.{bool}
use Rattle.nano_json.specs.ScalarCodecs.{booleans}
use Rattle.nano_json.proofs.bools.BoolDeJson.de_json_plain.Goals as goal

pub returns : goal.returns
returns c =
    IfSome_then c.take_plain_bool.result c.take_plain_bool.ensures
    (λ b h. (
      taken_as Cut ATruth booleans.encodes (λ ts is. record {
        part = b;
        has = record { token = bool b; one = is; carries_it = refl; has = tt };
        is = refl;
      }) h.0,
      h.1,
    ))
