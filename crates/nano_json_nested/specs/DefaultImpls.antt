-- Defaults that hold nothing are encoded, however many levels may follow.
use Rattle.std.specs.Prelude.{[], ◌∷◌, None, refl}
use Rattle.std.specs.declared.cmp.Ordering.{Ordering}
use Rattle.nano_value.specs.Meaning.{nothing}
use Rattle.nano_value.specs.Order.{MeaningOrder}
use Rattle.nano_grammar.specs.Fields.{HasEncoding}
use Rattle.nano_grammar.proofs.DefaultsLaws.{no_list, no_map}
use Rattle.nano_json.specs.Codec.{Codec}
use Rattle.nano_json.specs.ContainerCodecs.{option_codec, list_codec, ordered_map_codec}
use Rattle.nano_json_tokens.specs.Token.{null, blocks, curlies, colon}
use Rattle.nano_json_tokens.proofs.JsonLaws.{block_brackets, curly_brackets}

-- lists without items
pub no_items_are_encoded : {A : Type 0} (f : Codec A)
    → HasEncoding (list_codec f).encoding.encodes nothing
no_items_are_encoded f = no_list blocks block_brackets f.encoding

-- maps without entries
pub no_entries_are_encoded : {K V : Type 0} (o : MeaningOrder) (R : K → K → Ordering)
    (k : Codec K) (v : Codec V)
    → HasEncoding (ordered_map_codec o R k v).encoding.encodes nothing
no_entries_are_encoded o R k v = no_map curlies curly_brackets colon k.encoding v.encoding

-- an absent item
pub no_item_is_encoded : {A : Type 0} (f : Codec A)
    → HasEncoding (option_codec f).encoding.encodes nothing
no_item_is_encoded f = (null ∷ [], record { part = None; has = refl; is = refl })
