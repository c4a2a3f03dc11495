use Rattle.std.proofs.Common.{leb, cond, refl, arith, ◌∙◌}
use Rattle.std.proofs.lemmas.Simd.{zip2_splat, length-chunk}
use lib.Lanes.{chunk}
use Rattle.nano_text.specs.Place.{begins_character}
use Rattle.nano_text.specs.String.{is_plain_in_line}
use Rattle.nano_text.proofs.LaneMasks.{joined, splat_is, itself, passes_in, stops_in, counted_first}
use Rattle.nano_text.proofs.lanes.plain_lanes.Goals as goal

pub count_first-columns-requires : goal.count_first-columns-requires
count_first-columns-requires c =
    let v = chunk c.args.from 16 c.args.bytes.now in
    let long = length-chunk c.args.from 16 c.args.bytes.now c.requires in
    (passes_in is_plain_in_line c.args.bytes.now c.args.from 16 _ _ c.requires (omega arith) c.type_inv.bytes c.first_set-len.ensures _
    (joined _ _ _ v (joined _ _ _ v (zip2_splat _ v 16 32 long) (zip2_splat _ v 16 34 long)) (zip2_splat _ v 16 92 long)) refl).0

pub returns : goal.returns
returns c =
    let v = chunk c.args.from 16 c.args.bytes.now in
    let long = length-chunk c.args.from 16 c.args.bytes.now c.requires in
    let passed = passes_in is_plain_in_line c.args.bytes.now c.args.from 16 _ _ c.requires (omega arith) c.type_inv.bytes c.first_set-len.ensures _
    (joined _ _ _ v (joined _ _ _ v (zip2_splat _ v 16 32 long) (zip2_splat _ v 16 34 long)) (zip2_splat _ v 16 92 long)) refl in
    record {
      within = passed.0;
      plain = passed.1;
      stops = stops_in is_plain_in_line c.args.bytes.now c.args.from 16 _ _ c.requires (omega arith) c.type_inv.bytes c.first_set-len.ensures _
          (joined _ _ _ v (joined _ _ _ v (zip2_splat _ v 16 32 long) (zip2_splat _ v 16 34 long)) (zip2_splat _ v 16 92 long)) refl;
      columns = c.count_first-columns.ensures
          ∙ counted_first begins_character c.args.bytes.now c.args.from 16 c.first_set-len.result _ c.requires (omega arith) passed.0 c.type_inv.bytes _
          (joined _ _ _ v (zip2_splat _ v 16 128 long) (joined (λ a b. cond (leb a b) 255 0) _ _ v (splat_is v 16 192 long) (itself v))) refl;
    }
