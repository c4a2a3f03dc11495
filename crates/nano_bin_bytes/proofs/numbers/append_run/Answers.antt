use Rattle.std.proofs.Common.{ap, sym, ◌∙◌, ◌≡◌, ◌++◌}
use Rattle.std.specs.List.{flat_map}
use Rattle.std.proofs.lemmas.List.{take-append-drop}
use Rattle.std.proofs.lemmas.List.Folds.{flat_map-map}
use Rattle.nano_bin_bytes.proofs.CodecLaws.{write_block}
use Rattle.nano_bin_bytes.proofs.numbers.append_run.Goals as goal

pub loop-rest-preserved : goal.loop-rest-preserved
loop-rest-preserved g c =
    let block = c.split_at.result.0.now in
    let W = g.T.FixedWidth.as_bytes in
    let parts : c.loop-rest.rest.now ≡ block ++ c.split_at.result.1.now = sym (take-append-drop c.min.result c.loop-rest.rest.now) ∙ (λ i. sym c.split_at.ensures.front i ++ sym c.split_at.ensures.back i) in
    let bytes : c.as_flattened.result.now ≡ flat_map W block = c.as_flattened.ensures.value ∙ (ap (flat_map (λ x. x)) c.gather.ensures ∙ flat_map-map (λ x. x) W block) in
    write_block W _ _ _ _ _ _ _ c.loop-rest.invariant parts (c.in_ok-append_bytes_after.ensures.ok ∙ ap (λ l. c.loop-rest.output.items ++ l) bytes)
