-- Which defaults that hold nothing are sound.
use Rattle.std.specs.declared.cmp.Ordering.{Ordering}
use Rattle.nano_value.specs.Meaning.{nothing}
use Rattle.nano_value.specs.Order.{MeaningOrder}
use Rattle.nano_grammar.specs.Fields.{IsSoundDefault}
use Rattle.nano_grammar.proofs.DefaultsLaws.{encoded_default, none_default, no_list, no_map, no_set}
use Rattle.nano_json.specs.Codec.{Codec}
use Rattle.nano_json.specs.ContainerCodecs.{map_codec, ordered_map_codec, option_codec, set_codec}
use Rattle.nano_json.specs.ContainerCodecs.{ordered_codec, list_codec}
use Rattle.nano_json_tokens.specs.Token.{blocks, curlies, colon}
use Rattle.nano_json_tokens.proofs.JsonLaws.{block_brackets, curly_brackets, null_style}

-- an absent item
pub none_is_sound : {A : Type 0} (f : Codec A) → IsSoundDefault (option_codec f) nothing
none_is_sound f = none_default null_style f

-- lists without items
pub list_is_sound : {A : Type 0} (f : Codec A) → IsSoundDefault (list_codec f) nothing
list_is_sound f =
    encoded_default (list_codec f) nothing (no_list blocks block_brackets f.encoding)

-- sets without items
pub set_is_sound : {A : Type 0} (o : MeaningOrder) (f : Codec A)
    → IsSoundDefault (set_codec o f) nothing
set_is_sound o f =
    encoded_default (set_codec o f) nothing (no_set blocks block_brackets f.encoding)

pub ordered_set_is_sound : {A : Type 0} (o : MeaningOrder) (R : A → A → Ordering) (f : Codec A)
    → IsSoundDefault (ordered_codec o R f) nothing
ordered_set_is_sound o R f =
    encoded_default (ordered_codec o R f) nothing (no_set blocks block_brackets f.encoding)

-- maps without entries
pub map_is_sound : {K V : Type 0} (o : MeaningOrder) (k : Codec K) (v : Codec V)
    → IsSoundDefault (map_codec o k v) nothing
map_is_sound o k v =
    encoded_default (map_codec o k v) nothing
    (no_map curlies curly_brackets colon k.encoding v.encoding)

pub ordered_map_is_sound : {K V : Type 0} (o : MeaningOrder) (R : K → K → Ordering)
    (k : Codec K) (v : Codec V) → IsSoundDefault (ordered_map_codec o R k v) nothing
ordered_map_is_sound o R k v =
    encoded_default (ordered_map_codec o R k v) nothing
    (no_map curlies curly_brackets colon k.encoding v.encoding)
