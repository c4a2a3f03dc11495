use Rattle.std.proofs.Common.{refl, arith}
use Rattle.std.proofs.lemmas.Simd.{zip2_splat, length-chunk}
use lib.Lanes.{chunk}
use Rattle.nano_text.specs.Scan.{is_blank}
use Rattle.nano_text.proofs.LaneMasks.{passes_in, stops_in}
use Rattle.nano_text.proofs.lanes.blank_lanes.Goals as goal

pub returns : goal.returns
returns c =
    let v = chunk c.args.from 16 c.args.bytes.now in
    let long = length-chunk c.args.from 16 c.args.bytes.now c.requires in
    let lanes = zip2_splat _ v 16 32 long in
    let passed = passes_in is_blank c.args.bytes.now c.args.from 16 _ _ c.requires (omega arith) c.type_inv.bytes c.first_set.ensures _ lanes refl in
    record {
      within = passed.0;
      blanks = passed.1;
      stops = stops_in is_blank c.args.bytes.now c.args.from 16 _ _ c.requires (omega arith) c.type_inv.bytes c.first_set.ensures _ lanes refl;
    }
