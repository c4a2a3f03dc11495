use Rattle.std.proofs.Common.{refl, sym, subst, ◌∙◌, arith, ◌<◌, ◌≤◌, length, List, ℕ, [], ◌∷◌}
use Rattle.nano_text.specs.Place.{text_at}
use Rattle.nano_text.proofs.PlaceLaws.{moves_append}
use Rattle.nano_grammar.proofs.Plain.{none_taken, more_taken, all_fields_taken, cuts_shorter, some_shorter}
use Rattle.nano_json_tokens.specs.Cut.{Cut}
use Rattle.nano_json_tokens.specs.Token.{str, colon, comma, curly_open, curly_close}
use Rattle.nano_json.proofs.Json.{json_laws}
use Rattle.nano_json_schema.specs.FieldCodecs.{fields_with}
use Rattle.nano_json_schema.proofs.plain.take_list.Goals as goal

pub fields-init : goal.fields-init
fields-init g c = (
  none_taken (fields_with g.U.Unknown.after) g.F.JsonFields.codec.struct.shape c.requires (c.take_punctuator.ensures.taken c.if-not-take_punctuator.false curly_open refl),
  c.take_punctuator.ensures.counts,
)

pub fields-smaller : goal.fields-smaller
fields-smaller g c =
    let here = text_at c.fields.place c.fields.input in
    let mid = text_at c.take_name.new.place c.take_name.new.input in
    let left = text_at c.take_field.new.place c.take_field.new.input in
    let rest = text_at c.take_directly.new.place c.take_directly.new.input in
    let field = (c.in_ok-take_field.ensures.0).taken c.if-not-branch.false in
    let token_cut = c.take_directly.ensures.taken c.if-take_directly.true comma refl in
    let one = some_shorter json_laws (str c.in_ok-name.name.now) (colon ∷ []) here mid refl c.in_ok-name.ensures.taken in
    let two = cuts_shorter json_laws field.value mid left field.taken in
    let three = cuts_shorter json_laws (comma ∷ []) left rest (rest, token_cut, refl) in
    omega (arith, one, two, three)

pub fields-preserved : goal.fields-preserved
fields-preserved g c =
    let shape = g.F.JsonFields.codec.struct.shape in
    let looked = c.in_ok-take_field.ensures in
    let known = sym looked.0.known_is ∙ c.if-not-branch.false in
    let field = looked.0.taken c.if-not-branch.false in
    let token_cut = c.take_directly.ensures.taken c.if-take_directly.true comma refl in (
      more_taken (fields_with g.U.Unknown.after) shape c.in_ok-name.name.now c.fields.invariant.0 c.in_ok-name.ensures.taken known field token_cut,
      moves_append c.fields.invariant.1
          (moves_append c.in_ok-name.ensures.counts (moves_append looked.1 c.take_directly.ensures.counts)),
    )

pub returns-in-fields : goal.returns-in-fields
returns-in-fields g c =
    let shape = g.F.JsonFields.codec.struct.shape in
    let looked = c.in_ok-take_field.ensures in
    let known = sym looked.0.known_is ∙ c.if-not-branch.false in
    let field = looked.0.taken c.if-not-branch.false in
    let left = text_at c.take_field.new.place c.take_field.new.input in
    let rest = text_at c.take_punctuator-in-fields.new.place c.take_punctuator-in-fields.new.input in
    let token_cut = c.take_punctuator-in-fields.ensures.taken c.if-not-take_punctuator-2.false curly_close refl in
    let same = c.take_directly.ensures.other c.if-take_directly.false in
    let closing = subst (λ (l : List ℕ). Cut l curly_close rest) (λ i. text_at (same.0 i) (same.1 i)) token_cut in (
      all_fields_taken (fields_with g.U.Unknown.after) shape c.in_ok-name.name.now c.fields.invariant.0 c.in_ok-name.ensures.taken known field closing,
      moves_append c.fields.invariant.1 (moves_append c.in_ok-name.ensures.counts
          (moves_append looked.1 (moves_append c.take_directly.ensures.counts c.take_punctuator-in-fields.ensures.counts))),
    )
