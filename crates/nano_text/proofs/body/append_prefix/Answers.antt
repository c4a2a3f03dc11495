use Rattle.std.proofs.Common.{◌∙◌, arith, string_bytes}
use Rattle.nano_text.proofs.Blocks.{prefix_seam, prefix_is}
use Rattle.nano_text.proofs.body.append_prefix.Goals as goal

pub split_at-requires : goal.split_at-requires
split_at-requires c = c.requires

pub truncate-requires : goal.truncate-requires
truncate-requires c within =
    prefix_seam (string_bytes c.args.out.now) c.args.text.now c.split_at-2.result.0.now (string_bytes c.push_str-2.new.self) c.len-start.result c.args.len
    (omega (arith, c.len-start.ensures, c.args.out.now.bytes.ok.0)) c.requires (c.is_in_block.ensures c.if-not-is_in_block.false).0 c.split_at-2.ensures.front c.in_ok-push_str.ensures.bytes

pub returns-clause-ok : goal.returns-clause-ok
returns-clause-ok c =
    c.truncate.ensures.bytes
    ∙ prefix_is (string_bytes c.args.out.now) c.args.text.now c.split_at-2.result.0.now (string_bytes c.push_str-2.new.self) c.len-start.result c.args.len
    (omega (arith, c.len-start.ensures, c.args.out.now.bytes.ok.0)) (c.is_in_block.ensures c.if-not-is_in_block.false).0 c.requires.0 c.split_at-2.ensures.front c.in_ok-push_str.ensures.bytes
