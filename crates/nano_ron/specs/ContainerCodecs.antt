-- Codecs of containers: lists, arrays, sets, maps, tuples and options. They carry their laws.
use Rattle.std.specs.Prelude.{ℕ, List, Option}
use Rattle.std.specs.declared.cmp.Ordering.{Ordering}
use Rattle.nano_grammar.proofs.ListsLaws.{array_of as of_count, list_codec as codec_of_list}
use Rattle.nano_grammar.proofs.ListsLaws.{array_codec as codec_of_count}
use Rattle.nano_ron_tokens.specs.Token.{parens}
use Rattle.nano_ron_tokens.proofs.RonLaws.{block_brackets, paren_brackets, curly_brackets}
use Rattle.nano_ron_tokens.proofs.StylesLaws.{line_style, indent_style, paren_style, curly_style}
use Rattle.nano_ron_tokens.proofs.StylesLaws.{entry_style, tuple_style}
use Rattle.nano_ron.specs.Codec.{Codec, Encoding}
use Rattle.nano_value.specs.Order.{MeaningOrder}
use Rattle.nano_grammar.proofs.SetsLaws.{set_codec as codec_of_set}
use Rattle.nano_grammar.proofs.SetsLaws.{ordered_codec as ordered_set_codec_of}
use Rattle.nano_grammar.proofs.MapsLaws.{map_codec as codec_of_parts}
use Rattle.nano_grammar.proofs.OrderedMapsLaws.{ordered_map_codec as ordered_map_codec_of}
use Rattle.nano_grammar.proofs.TuplesLaws.{last_codec as last, two_codecs, three_codecs}
use Rattle.nano_grammar.proofs.TuplesLaws.{four_codecs, pair_codec as pair, triple_codec as triple}
use Rattle.nano_grammar.proofs.TuplesLaws.{quadruple_codec as quadruple}
use Rattle.nano_grammar.proofs.OptionsLaws.{option_codec as codec_of_option}
use Rattle.nano_ron_tokens.proofs.ScalarsLaws.{none_style}

-- so many items, in parentheses
abbrev pub array_of : ℕ → Encoding → Encoding
array_of count s = of_count parens paren_brackets count s

abbrev pub vector_codec : {A : Type 0} → Codec A → Codec (List A)
vector_codec f = codec_of_list line_style block_brackets f

abbrev pub linked_codec : {A : Type 0} → Codec A → Codec (List A)
linked_codec f = codec_of_list indent_style block_brackets f

-- any number of items, in parentheses
abbrev pub slice_codec : {A : Type 0} → Codec A → Codec (List A)
slice_codec f = codec_of_list paren_style paren_brackets f

-- so many items, in parentheses
abbrev pub array_codec : {A : Type 0} → ℕ → Codec A → Codec (List A)
array_codec count f = codec_of_count paren_style paren_brackets f count

-- ==== sets

abbrev pub set_codec : {K : Type 0} → MeaningOrder → Codec K → Codec (List K)
set_codec o f = codec_of_set indent_style block_brackets o f

-- of sets that hold their items in an order
abbrev pub ordered_codec : {K : Type 0} → MeaningOrder → (K → K → Ordering) → Codec K
    → Codec (List K)
ordered_codec o R f = ordered_set_codec_of indent_style block_brackets o f R

-- ==== maps

abbrev pub map_codec : {K V : Type 0} → MeaningOrder → Codec K → Codec V → Codec (List (K × V))
map_codec o k v = codec_of_parts curly_style curly_brackets entry_style (λ h. h) o k v

-- of maps that hold their entries in an order of the keys
abbrev pub ordered_map_codec : {K V : Type 0} → MeaningOrder → (K → K → Ordering) → Codec K
    → Codec V → Codec (List (K × V))
ordered_map_codec o R k v =
    ordered_map_codec_of curly_style curly_brackets entry_style (λ h. h) o k v R

-- ==== tuples

-- ---- after the opening bracket

abbrev pub last_codec : {A : Type 0} → Codec A → Codec A
last_codec a = last tuple_style paren_brackets a

abbrev pub two_parts : {A B : Type 0} → Codec A → Codec B → Codec (A × B)
two_parts a b = two_codecs tuple_style paren_brackets a b

abbrev pub three_parts : {A B C : Type 0} → Codec A → Codec B → Codec C → Codec (A × B × C)
three_parts a b c = three_codecs tuple_style paren_brackets a b c

abbrev pub four_parts : {A B C D : Type 0} → Codec A → Codec B → Codec C → Codec D
    → Codec (A × B × C × D)
four_parts a b c d = four_codecs tuple_style paren_brackets a b c d

-- ---- with the brackets

abbrev pub pair_codec : {A B : Type 0} → Codec A → Codec B → Codec (A × B)
pair_codec a b = pair tuple_style paren_brackets a b

abbrev pub triple_codec : {A B C : Type 0} → Codec A → Codec B → Codec C → Codec (A × B × C)
triple_codec a b c = triple tuple_style paren_brackets a b c

abbrev pub quadruple_codec : {A B C D : Type 0} → Codec A → Codec B → Codec C → Codec D
    → Codec (A × B × C × D)
quadruple_codec a b c d = quadruple tuple_style paren_brackets a b c d

-- ==== options

-- a value is sound if no Some stands around what is written with `None` at its beginning
abbrev pub option_codec : {A : Type 0} → Codec A → Codec (Option A)
option_codec f = codec_of_option none_style f
