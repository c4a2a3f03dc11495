use Rattle.std.proofs.Common.{◌≡◌, ◌++◌, ◌∙◌, take, sym, ap}
use Rattle.std.proofs.lemmas.List.{take-append-drop}
use Rattle.nano_bin_bytes.proofs.CodecLaws.{write_block}
use Rattle.nano_bin_bytes.specs.Containers.{written_string}
use Rattle.nano_bin.proofs.text_lists.append_blocks.Goals as goal

pub loop-rest-preserved : goal.loop-rest-preserved
loop-rest-preserved c =
    let count = c.in_ok-count.count in
    let rest = c.loop-rest.rest.now in
    let parts : rest ≡ take count rest ++ c.split_at.result.1.now = sym (take-append-drop count rest) ∙ ap (λ l. take count rest ++ l) (sym c.split_at.ensures.back) in
    write_block written_string _ _ _ _ _ _ _ c.loop-rest.invariant parts c.in_ok-count.ensures.ok.appended
