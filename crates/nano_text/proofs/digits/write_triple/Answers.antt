use Rattle.std.proofs.Common.{◌≡◌, ◌+◌, ◌∷◌, ◌∙◌, length}
use Rattle.std.specs.Fmt.{decimal}
use Rattle.nano_text.specs.Characters.{three_digits}
use Rattle.nano_text.proofs.DigitValues.{triple_written}
use Rattle.nano_text.proofs.digits.write_triple.Goals as goal

pub returns : goal.returns
returns c =
    let count = length (decimal c.args.number) in
    let bytes : c.as_bytes-digits.result.now ≡ (48 + count) ∷ three_digits c.args.number = c.as_bytes-digits.ensures.value ∙ c.padded_triple.ensures in
    rw bytes (triple_written c.args.end c.args.buffer.now (48 + count) _ _ _ c.requires.within.0 c.requires.within.1)
