use Rattle.std.proofs.Common.{◌≡◌, ◌∙◌, ◌++◌, Result, Ok, Err, OnOk, true, take, refl, sym, subst, ap}
use Rattle.std.specs.List.{flat_map}
use Rattle.std.specs.Result.{is_err}
use Rattle.std.proofs.lemmas.Result.{on_err_weaker}
use Rattle.nano_value.proofs.ByRank.{was_ok}
use Rattle.nano_bin_bytes.proofs.CodecLaws.{write_start, write_place, write_places, cut_back}
use Rattle.nano_bin_nested.proofs.lists.append_items.Goals as goal

-- what is said of success holds of an error
no_success : {T E : Type 0} (P : Type 0) (r : Result T E) → is_err r ≡ true → OnOk r P
no_success P (Ok x) e = absurd (cc)
no_success P (Err x) e = tt

pub loop-item-init : goal.loop-item-init
loop-item-init g c = write_start g.T.BinCodec.bin.canonical.written c.args.output.now.items c.deref-item-items.result.now c.deref-item-items.result.now refl

pub loop-item-preserved : goal.loop-item-preserved
loop-item-preserved g c =
    let written = was_ok c.write_bin-written.result (sym c.if-is_err.ensures.value) c.write_bin-written.ensures.ok in
    write_place g.T.BinCodec.bin.canonical.written c.args.output.now.items c.loop-item.output.items c.write_bin-written.new.output.items c.deref-item-items.result.now c.loop-item.item-index c.item-item.result c.loop-item.invariant c.loop-item-test.true c.item-item.is written

pub returns-clause-ok : goal.returns-clause-ok
returns-clause-ok g c =
    subst (λ xs. c.loop-item.output.items ≡ c.args.output.now.items ++ flat_map g.T.BinCodec.bin.canonical.written xs) c.deref-item-items.ensures.value
    (write_places g.T.BinCodec.bin.canonical.written c.args.output.now.items c.loop-item.output.items c.deref-item-items.result.now c.loop-item.item-index c.loop-item.invariant c.loop-item-test.false)

pub returns-then-is_err-clause-ok : goal.returns-then-is_err-clause-ok
returns-then-is_err-clause-ok g c = no_success _ c.write_bin-written.result (sym c.if-is_err.ensures.value)

pub returns-then-is_err-clause-err : goal.returns-then-is_err-clause-err
returns-then-is_err-clause-err g c =
    let cut = cut_back g.T.BinCodec.bin.canonical.written c.args.start c.args.output.now.items c.loop-item.output.items _ c.deref-item-items.result.now c.requires c.loop-item.invariant in
    on_err_weaker c.write_bin-written.result (λ e. c.truncate.ensures.items ∙ (ap (take c.args.start) e ∙ cut)) c.write_bin-written.ensures.err
