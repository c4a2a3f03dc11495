-- the numbers of the numerals so far
use Rattle.std.proofs.Common.{◌≡◌, take, map}
use Rattle.std.specs.Str.Parse.{digits_value}
use Rattle.nano_show_answers.specs.Requests.{texts}
use Rattle.nano_show_answers.proofs.words.numbers.Given as goal

abbrev pub invariant-loop-numeral : goal.invariant-loop-numeral
invariant-loop-numeral l =
    l.numbers.items ≡ map (digits_value 10) (texts (take l.numeral-index l.numerals))
