use Rattle.std.proofs.Common.{◌≡◌, ◌++◌, ◌∷◌, [], map, arith, ap, subst, ◌∙◌}
use Rattle.std.proofs.lemmas.Grind.{common_steps}
use Rattle.std.proofs.lemmas.List.{map-append}
use Rattle.std.proofs.lemmas.Result.{err_from_is_err_and}
use Rattle.nano_bin.proofs.Readers.{count_rejected, count_reads_push}
use Rattle.nano_bin_bytes.specs.Reading.{Decodes}
use Rattle.nano_bin_bytes.specs.Containers.{EncodesCount}
use Rattle.nano_bin.proofs.traits.DeBin.de_bin_items.Goals as goal

pub loop-preserved : goal.loop-preserved
loop-preserved g c =
    let means = g.Self.Value.means in
    let item = c.in_ok-item.item in
    let grown : c.push.new.self.items ≡ c.loop.items.items ++ item ∷ [] = grind (arith, common_steps) in
    rw (ap (map means) grown ∙ map-append means c.loop.items.items (item ∷ [])) (count_reads_push g.Self.BinCodec.bin.encoding.encodes _ _ _ _ _ _ _ c.loop.invariant c.in_ok-item.ensures.ok)

pub returns-in_err-item-clause-err : goal.returns-in_err-item-clause-err
returns-in_err-item-clause-err g c =
    let S = g.Self.BinCodec.bin.encoding in
    let p = err_from_is_err_and c.from_residual.result c.from_residual.ensures.1 in
    rw (p.1, p.2) (count_rejected S.encodes S.laws c.loop.invariant c.loop-test.true c.in_err-item.ensures.err)

pub returns-clause-ok : goal.returns-clause-ok
returns-clause-ok g c =
    let less = c.loop.auto.counter-end in
    let more = c.loop-test.false in
    let all : c.loop.counter ≡ c.args.count = omega (arith, less, more) in
    subst (λ n. Decodes (EncodesCount n g.Self.BinCodec.bin.encoding.encodes) c.args.bytes.now c.args.offset.now (map g.Self.Value.means c.loop.items.items) c.loop.at) all c.loop.invariant
