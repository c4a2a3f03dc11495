use Rattle.std.proofs.Common.{ℕ, ◌++◌, ◌∷◌, string_bytes}
use Rattle.std.proofs.lemmas.Result.{on_ok_weaker}
use Rattle.nano_text.specs.Place.{saturating_next}
use Rattle.nano_grammar.proofs.WrittenLists.{both_written, after_punctuator}
use Rattle.nano_ron.proofs.Canonical.{line_written}
use Rattle.nano_ron_nested.proofs.maps.append_entry.Goals as goal

pub returns-clause-ok : goal.returns-clause-ok
returns-clause-ok g c =
    let inner = c.saturating_add-inner.result in
    let key = λ (n : ℕ). g.K.RonCodec.ron.canonical.text n c.args.key.now in
    let value = λ (n : ℕ). g.T.RonCodec.ron.canonical.text n c.args.value.now in
    let one = string_bytes c.indent.new.self.out in
    let two = string_bytes c.ser_ron.new.s.out in
    let three = string_bytes c.push.new.self in
    let four = string_bytes c.write_ron.new.s.out in
    let following = after_punctuator two three four 58 (value inner) c.in_ok-push.ensures.bytes c.in_ok-write_ron.ensures.ok in
    let entry = both_written one two four (key inner) (58 ∷ value inner) c.in_ok-ser_ron.ensures.ok following in
    on_ok_weaker c.conl.result (λ last. line_written (string_bytes c.args.s.now.out) one four (string_bytes c.conl.new.self.out) inner (saturating_next c.args.d) (λ n. key n ++ (58 ∷ value n)) c.saturating_add-inner.ensures c.in_ok-indent.ensures.ok entry last) c.conl.ensures.ok
