use Rattle.std.proofs.Common.{◌≡◌, ◌+◌, ℕ, List, ap, ◌∙◌, arith, length, take, set, get_or}
use Rattle.nano_json_tokens.proofs.QuotedNames.{put_last, put_next, put_so_far}
use Rattle.nano_json_tokens.proofs.quoted.quoted.Goals as goal

pub loop-at-preserved : goal.loop-at-preserved
loop-at-preserved c =
    let l = c.loop-at in
    let text = c.as_bytes-text.result.now in
    let same = ap length c.as_bytes-text.ensures.value in
    ap (λ (bytes : List ℕ). set bytes (l.at + 1) (get_or text l.at 0)) l.invariant
    ∙ put_next text l.at c.loop-at-test.true (omega (arith, same, c.requires))

pub returns : goal.returns
returns c =
    let l = c.loop-at in
    let name = c.args.name.now in
    let text = c.as_bytes-text.result.now in
    let same = c.as_bytes-text.ensures.value in
    let long = ap length same in
    let done : l.at ≡ length name = omega (arith, long, l.auto.at-end, c.loop-at-test.false) in
    let put : l.bytes ≡ put_so_far (length name) name =
    l.invariant ∙ (ap (λ k. put_so_far k text) done ∙ ap (put_so_far (length name)) same) in
    ap (λ (bytes : List ℕ). take (length name + 3) (set bytes (length text + 2) 58)) put
    ∙ (ap (λ k. take (length name + 3) (set (put_so_far (length name) name) (k + 2) 58)) long ∙ put_last name c.requires)
