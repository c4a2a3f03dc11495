use Rattle.std.proofs.Common.{sym, ◌∙◌, ap, subst, length, string_bytes}
use Rattle.std.specs.Str.{IsCharBoundary}
use Rattle.nano_text.specs.Characters.{prefix}
use Rattle.std.specs.Str.Iter.{chars_rest}
use Rattle.nano_text.proofs.RunBytes.{cut_run, run_more, run_last}
use Rattle.nano_text.proofs.written.append_run.Goals as goal
use Rattle.nano_text.proofs.written.append_run.Goals.{in-Some+in_ok-append_character, in_default}

pub split_at-requires : goal.split_at-requires
split_at-requires g c =
    let e = g.E.Escaping in
    let laws = g.met.E.Escaping in
    let count = c.plain_len.ensures ∙ ap (λ bs. length (prefix e.stands bs)) c.as_bytes.ensures.value in
    subst (IsCharBoundary c.args.text.now) (sym count)
    (cut_run e.stands e.written laws.wide_stands laws.as_itself c.args.text.now c.utf8.text).boundary

pub returns-clause-ok : goal.returns-clause-ok
returns-clause-ok g c =
    let e = g.E.Escaping in
    let laws = g.met.E.Escaping in
    let count = c.plain_len.ensures ∙ ap (λ bs. length (prefix e.stands bs)) c.as_bytes.ensures.value in
    let text = c.args.text.now in
    let plain = c.split_at.result.0.now in
    let tail = c.split_at.result.1.now in
    let old = string_bytes c.args.out.now in
    let middle = string_bytes c.push_str.new.self in
    elim c.match-next.branch [
      | in-Some+in_ok-append_character w ↦
          rw (w.out-is, c.as_str.ensures) (run_more e.stands e.written laws.wide_stands laws.as_itself text plain tail
          c.plain_len.result c.utf8.text count c.split_at.ensures.front c.split_at.ensures.back old middle
          (string_bytes w.append_character.new.out) (chars_rest c.next.new.self) w.in-Some.c c.in_ok-push_str.ensures.bytes
          (sym c.chars-characters.ensures.rest ∙ w.in-Some.ensures.steps.0) w.in_ok-append_character.ensures.ok)
      | in_default w ↦
          rw (w.out-is, c.as_str.ensures, w.in_default.ensures.steps.0.1, c.chars-characters.ensures.rest)
          (run_last e.stands e.written laws.wide_stands laws.as_itself text plain tail c.plain_len.result c.utf8.text count
          c.split_at.ensures.front c.split_at.ensures.back old middle c.in_ok-push_str.ensures.bytes)
    ]
