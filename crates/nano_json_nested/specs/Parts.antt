-- The parts of a variant that has several: how they are written and read.
use Rattle.nano_json.specs.Codec.{Codec}
use Rattle.nano_json_tokens.proofs.JsonLaws.{block_brackets, tuple_style}
use Rattle.nano_grammar.specs.BaseCodecs.{part_style}
use Rattle.nano_grammar.proofs.PairsLaws.{next_codec}
use Rattle.nano_grammar.proofs.TuplesLaws.{tuple_codec}

-- after the opening bracket, a part and those after it
abbrev pub and_parts : {A B : Type 0} → Codec A → Codec B → Codec (A × B)
and_parts f h = next_codec (part_style tuple_style) block_brackets.divides f h

-- the parts with their brackets
abbrev pub in_brackets : {A : Type 0} → Codec A → Codec A
in_brackets f = tuple_codec tuple_style block_brackets f
