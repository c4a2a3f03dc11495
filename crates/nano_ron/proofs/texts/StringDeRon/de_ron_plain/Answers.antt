use Rattle.std.proofs.Common.{refl, rules, ◌<◌, [], ◌∷◌, length, string_bytes, subst, sym, ◌∙◌}
use Rattle.std.proofs.lemmas.Str.{IsUtf8-string_bytes}
use Rattle.nano_text.specs.Place.{text_at}
use Rattle.nano_value.specs.Meaning.{text, usize_bound}
use Rattle.nano_grammar.specs.Plain.{TookPlainly}
use Rattle.nano_grammar.proofs.Plain.{one_taken}
use Rattle.nano_ron_tokens.specs.Cut.{Cut}
use Rattle.nano_ron_tokens.specs.Token.{str}
use Rattle.nano_ron.specs.ScalarCodecs.{texts}
use Rattle.nano_ron.proofs.texts.StringDeRon.de_ron_plain.Goals as goal

pub returns-in-Ok : goal.returns-in-Ok
returns-in-Ok c =
    let buffer = c.take_text.new.text in
    let bytes = string_bytes buffer in
    let count : length bytes < usize_bound = search rules in
    let cut = c.take_text.ensures.taken c.if-not-take_text.false in
    let is : texts.encodes (str bytes ∷ []) (text bytes) = record {
      part = bytes;
      has = record {
        token = str bytes;
        one = refl;
        carries_it = refl;
        has = record { count = count; utf8 = IsUtf8-string_bytes buffer };
      };
      is = refl;
    } in
    let same = c.in-Ok.ensures.ok ∙ c.as_str.ensures.value in
    let old = text_at c.args.place.now c.args.input.now in
    let new = text_at c.take_text.new.place c.take_text.new.input in
    (subst (λ b. TookPlainly Cut texts.encodes old new (text b)) (sym same) (one_taken Cut texts.encodes (str bytes) is cut), c.take_text.ensures.counts)
