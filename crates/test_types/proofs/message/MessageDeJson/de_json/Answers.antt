use Rattle.std.proofs.Common.{◌≡◌, refl, length, sym, ◌∙◌, string_bytes, rules}
use Rattle.std.proofs.lemmas.Int.{to_z-of_z}
use Rattle.std.specs.Int.{w32}
use Rattle.std.specs.Prelude.{codes}
use Rattle.nano_grammar.proofs.TokenCalls.{passed_on}
use Rattle.nano_json_schema.specs.Variants.{encodings}
use Rattle.nano_json_schema.proofs.Calls.{name_not}
use Rattle.nano_json_schema.proofs.VariantCalls.{is_another, one_part, unit_read, content_read}
use Rattle.nano_json_schema.proofs.VariantCalls.{content_not, unit_not_known, content_not_known}
use Rattle.test_types.specs.MessageCodecs.{variants, moved, waited, said}
use Rattle.test_types.proofs.message.MessageDeJson.de_json.Goals as goal

pub returns-in_err-name : goal.returns-in_err-name
returns-in_err-name c =
    passed_on _ _ c.from_residual.result c.from_residual.ensures.1 (name_not (encodings variants) c.in_err-name.ensures).none

pub returns-in-Hello : goal.returns-in-Hello
returns-in-Hello c =
    let name : string_bytes c.in-Unit.name ≡ codes "Hello" = sym c.as_str.ensures.value ∙ c.in-Hello.is in
    unit_read (encodings variants) (string_bytes c.in-Unit.name) 0 (rw c.in-Unit.is at c.in_ok-name.ensures) (rw name refl)

pub returns-in-Unit : goal.returns-in-Unit
returns-in-Unit c =
    let hello = is_another _ _ (codes "Hello") c.as_str.ensures.value c.in_default.not-Hello in
    unit_not_known (encodings variants) (string_bytes c.in-Unit.name) c.read_variant_name.new.input c.unknown_variant.ensures (rw c.in-Unit.is at c.in_ok-name.ensures) (rw hello refl)

pub returns-in-Move : goal.returns-in-Move
returns-in-Move c =
    let name : string_bytes c.in-Content.name ≡ codes "Move" = sym c.as_str-in-Content.ensures.value ∙ c.in-Move.is in
    let reads = content_read (encodings variants) (string_bytes c.in-Content.name) 1 moved.encoding (rw c.in-Content.is at c.in_ok-name.ensures) (rw name refl) c.in_ok-by-in-Move.ensures in
    rw (to_z-of_z w32 c.in_ok-by-in-Move.by (search rules)) reads

pub returns-in_err-by-in-Move : goal.returns-in_err-by-in-Move
returns-in_err-by-in-Move c =
    let name : string_bytes c.in-Content.name ≡ codes "Move" = sym c.as_str-in-Content.ensures.value ∙ c.in-Move.is in
    passed_on _ _ c.from_residual-in_err-by-in-Move.result c.from_residual-in_err-by-in-Move.ensures.1
    (content_not (encodings variants) (string_bytes c.in-Content.name) 1 moved.encoding (rw c.in-Content.is at c.in_ok-name.ensures) (rw name refl) c.in_err-by-in-Move.ensures)

pub returns-in-Wait : goal.returns-in-Wait
returns-in-Wait c =
    let name : string_bytes c.in-Content.name ≡ codes "Wait" = sym c.as_str-in-Content.ensures.value ∙ c.in-Wait.is in
    let parts = c.in_ok-time-in-Wait.field-0 in
    let one : length parts ≡ 1 = search rules in
    let reads = content_read (encodings variants) (string_bytes c.in-Content.name) 2 waited.encoding (rw c.in-Content.is at c.in_ok-name.ensures) (rw name refl) c.in_ok-time-in-Wait.ensures in
    rw (one_part 0 parts one) at reads

pub returns-in_err-time-in-Wait : goal.returns-in_err-time-in-Wait
returns-in_err-time-in-Wait c =
    let name : string_bytes c.in-Content.name ≡ codes "Wait" = sym c.as_str-in-Content.ensures.value ∙ c.in-Wait.is in
    passed_on _ _ c.from_residual-in_err-time-in-Wait.result c.from_residual-in_err-time-in-Wait.ensures.1
    (content_not (encodings variants) (string_bytes c.in-Content.name) 2 waited.encoding (rw c.in-Content.is at c.in_ok-name.ensures) (rw name refl) c.in_err-time-in-Wait.ensures)

pub returns-in-Say : goal.returns-in-Say
returns-in-Say c =
    let name : string_bytes c.in-Content.name ≡ codes "Say" = sym c.as_str-in-Content.ensures.value ∙ c.in-Say.is in
    content_read (encodings variants) (string_bytes c.in-Content.name) 3 said.encoding (rw c.in-Content.is at c.in_ok-name.ensures) (rw name refl) c.in_ok-text-in-Say.ensures

pub returns-in_err-text-in-Say : goal.returns-in_err-text-in-Say
returns-in_err-text-in-Say c =
    let name : string_bytes c.in-Content.name ≡ codes "Say" = sym c.as_str-in-Content.ensures.value ∙ c.in-Say.is in
    passed_on _ _ c.from_residual-in_err-text-in-Say.result c.from_residual-in_err-text-in-Say.ensures.1
    (content_not (encodings variants) (string_bytes c.in-Content.name) 3 said.encoding (rw c.in-Content.is at c.in_ok-name.ensures) (rw name refl) c.in_err-text-in-Say.ensures)

pub returns : goal.returns
returns c =
    let move = is_another _ _ (codes "Move") c.as_str-in-Content.ensures.value c.in_default-as_str.not-Move in
    let wait = is_another _ _ (codes "Wait") c.as_str-in-Content.ensures.value c.in_default-as_str.not-Wait in
    let say = is_another _ _ (codes "Say") c.as_str-in-Content.ensures.value c.in_default-as_str.not-Say in
    content_not_known (encodings variants) (string_bytes c.in-Content.name) c.read_variant_name.new.input c.unknown_variant-in_default-as_str.ensures (rw c.in-Content.is at c.in_ok-name.ensures) (rw (move, wait, say) refl)
