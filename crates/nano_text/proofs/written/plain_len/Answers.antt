use Rattle.std.proofs.Common.{◌≡◌, ◌-◌, ◌∙◌, ap, arith, length, length-drop, take, drop, take_all}
use Rattle.nano_text.specs.Characters.{prefix}
use Rattle.nano_text.proofs.Prefixes.{prefix_fits, prefix_past}
use Rattle.nano_text.proofs.written.plain_len.Goals as goal

pub returns : goal.returns
returns g c =
    let e = g.E.Escaping in
    let n = c.unescaped_run-unescaped.result in
    let bytes = c.args.bytes.now in
    let run = c.unescaped_run-unescaped.ensures in
    let past = prefix_past e.stands bytes n run.within (λ k low. let plain = run.plain k low in g.met.E.Escaping.plain_stands _ plain.0 plain.1) in
    let rest : take (length bytes - n) (drop n bytes) ≡ drop n bytes = take_all (length bytes - n) (drop n bytes) (omega (arith, length-drop n bytes)) in
    let more = c.plain_prefix.ensures ∙ ap (λ l. length (prefix e.stands l)) rest in
    omega (arith, past, more)

pub overflow_add-result : goal.overflow_add-result
overflow_add-result g c =
    let e = g.E.Escaping in
    let n = c.unescaped_run-unescaped.result in
    let bytes = c.args.bytes.now in
    let few = prefix_fits e.stands (take (length bytes - n) (drop n bytes)) in
    let rest : take (length bytes - n) (drop n bytes) ≡ drop n bytes = take_all (length bytes - n) (drop n bytes) (omega (arith, length-drop n bytes)) in
    record { fits = omega (arith, c.plain_prefix.ensures, few, ap length rest, length-drop n bytes, c.unescaped_run-unescaped.ensures.within) }
