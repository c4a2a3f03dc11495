use Rattle.std.proofs.Common.{refl, ap, sym, subst, ◌∙◌, string_bytes}
use Rattle.nano_text.proofs.PlaceLaws.{moves_none, moves_append}
use Rattle.nano_grammar.specs.ItemRuns.{PutItems}
use Rattle.nano_grammar.proofs.ItemRuns.{put_none, put_more, item_less, put_moved}
use Rattle.nano_grammar.proofs.ItemRuns.{copied, at_copy, same_position}
use Rattle.nano_ron_tokens.specs.Cut.{Cut}
use Rattle.nano_ron_tokens.specs.Outcomes.{position}
use Rattle.nano_ron_tokens.specs.State.{token_of, place_of, pending}
use Rattle.nano_ron_tokens.specs.Token.{blocks, comma}
use Rattle.nano_ron_tokens.proofs.RonLaws.{block_brackets}
use Rattle.nano_ron.proofs.Ron.{ron_laws}
use Rattle.nano_ron.proofs.lists.put_plain_items.Goals as goal

pub items-init : goal.items-init
items-init g c =
    let s = c.args.state.now in
    let same = c.chars-rest.ensures.rest ∙ c.as_str.ensures in
    let is = ap (λ t. token_of t (string_bytes s.strbuf) (string_bytes s.numbuf) (string_bytes s.identbuf)) c.in-Comma.is in (
      rw c.place-place.ensures
          (put_none ron_laws blocks block_brackets g.T.RonCodec.ron.encoding.laws g.C.Collect.holds c.args.items.now
          (at_copy (place_of s) c.args.input.now c.chars-rest.result is same) (copied (place_of s) c.args.input.now c.chars-rest.result same)),
      c.in-Comma.is,
    )

pub items-smaller : goal.items-smaller
items-smaller g c = item_less ron_laws blocks block_brackets g.T.RonCodec.ron.encoding.laws c.in-Some.ensures

pub items-preserved : goal.items-preserved
items-preserved g c =
    (put_more ron_laws blocks block_brackets g.T.RonCodec.ron.encoding.laws g.C.Collect.holds c.put.new.self c.items.invariant.0 c.in-Some.ensures c.in_default-put.ensures, c.items.invariant.1)

pub returns-clause-ok : goal.returns-clause-ok
returns-clause-ok g c =
    let s = c.args.state.now in
    let here = c.items.state in
    let is = ap pending c.stand_at-2.ensures
    ∙ ap (λ t. token_of t (string_bytes c.take_item.new.text) (string_bytes here.numbuf) (string_bytes here.identbuf)) c.items.invariant.1 in
    let stands = ap place_of c.stand_at-2.ensures in
    subst (λ q. PutItems Cut g.T.RonCodec.ron.encoding.encodes comma g.C.Collect.holds (position s c.args.input.now) q c.args.items.now c.items.items)
    (sym (same_position c.take_item.new.input is stands ∙ c.in_default-take_item.ensures)) c.items.invariant.0

pub returns-in-Err-clause-err : goal.returns-in-Err-clause-err
returns-in-Err-clause-err g c =
    let run = put_moved ron_laws blocks block_brackets g.T.RonCodec.ron.encoding.laws g.C.Collect.holds c.items.invariant.0 in
    let item = c.in-Some.ensures in
    rw c.stand_at.ensures (moves_append run (moves_append item.2 item.3.place))

pub returns-then-not-is_due-clause-ok : goal.returns-then-not-is_due-clause-ok
returns-then-not-is_due-clause-ok g c = put_none ron_laws blocks block_brackets g.T.RonCodec.ron.encoding.laws g.C.Collect.holds c.args.items.now refl (moves_none (place_of c.args.state.now) c.args.input.now)

pub returns-in_default : goal.returns-in_default
returns-in_default g c = record {
  ok = put_none ron_laws blocks block_brackets g.T.RonCodec.ron.encoding.laws g.C.Collect.holds c.args.items.now refl (moves_none (place_of c.args.state.now) c.args.input.now);
  err = tt;
}
