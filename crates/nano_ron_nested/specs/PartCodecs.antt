-- The parts of a tuple variant, which stand between parentheses.
use Rattle.nano_grammar.proofs.TuplesLaws.{last_part, tuple_of}
use Rattle.nano_ron.specs.Codec.{Encoding}
use Rattle.nano_ron_tokens.specs.Token.{parens}
use Rattle.nano_ron_tokens.proofs.RonLaws.{paren_brackets}

-- the last part, optionally a comma, and the closing parenthesis
abbrev pub before_closing : Encoding → Encoding
before_closing s = last_part parens paren_brackets s

-- the opening parenthesis, and the parts
abbrev pub in_parentheses : Encoding → Encoding
in_parentheses s = tuple_of parens paren_brackets s
