use Rattle.std.proofs.Common.{◌≡◌, ◌≤◌, ◌∙◌, Result, Ok, Err, OnOk, true, length, take, refl, sym}
use Rattle.std.proofs.Common.{ap, arith}
use Rattle.std.specs.Result.{is_err}
use Rattle.std.proofs.lemmas.List.{take_all}
use Rattle.std.proofs.lemmas.Result.{on_err_weaker}
use Rattle.nano_value.proofs.ByRank.{was_ok}
use Rattle.nano_bin_bytes.proofs.CodecLaws.{write_start, write_place, write_places, cut_back}
use Rattle.nano_bin.proofs.traits.SerBin.ser_bin_items.Goals as goal

pub loop-item-init : goal.loop-item-init
loop-item-init g c = write_start g.Self.BinCodec.bin.canonical.written c.args.output.now.items c.args.items.now c.args.items.now refl

pub loop-item-preserved : goal.loop-item-preserved
loop-item-preserved g c =
    let written = was_ok c.ser_bin-written.result (sym c.if-is_err.ensures.value) c.ser_bin-written.ensures.ok in
    write_place g.Self.BinCodec.bin.canonical.written c.args.output.now.items c.loop-item.output.items c.ser_bin-written.new.output.items c.args.items.now c.loop-item.item-index c.item-item.result c.loop-item.invariant c.loop-item-test.true c.item-item.is written

pub returns-clause-ok : goal.returns-clause-ok
returns-clause-ok g c = write_places g.Self.BinCodec.bin.canonical.written c.args.output.now.items c.loop-item.output.items c.args.items.now c.loop-item.item-index c.loop-item.invariant c.loop-item-test.false

-- what is said of success holds of an error
no_success : {T E : Type 0} (P : Type 0) (r : Result T E) → is_err r ≡ true → OnOk r P
no_success P (Ok x) e = absurd (cc)
no_success P (Err x) e = tt

pub returns-then-is_err-clause-ok : goal.returns-then-is_err-clause-ok
returns-then-is_err-clause-ok g c = no_success _ c.ser_bin-written.result (sym c.if-is_err.ensures.value)

pub returns-then-is_err-clause-err : goal.returns-then-is_err-clause-err
returns-then-is_err-clause-err g c =
    let before = c.args.output.now.items in
    let start = c.len-start.ensures in
    let capacity : c.len-start.result ≤ length before = omega (arith, start) in
    let whole : length before ≤ c.len-start.result = omega (arith, start) in
    let cut = cut_back g.Self.BinCodec.bin.canonical.written c.len-start.result before c.loop-item.output.items _ c.args.items.now capacity c.loop-item.invariant in
    on_err_weaker c.ser_bin-written.result (λ e. c.truncate.ensures.items ∙ (ap (take c.len-start.result) e ∙ (cut ∙ take_all c.len-start.result before whole))) c.ser_bin-written.ensures.err
