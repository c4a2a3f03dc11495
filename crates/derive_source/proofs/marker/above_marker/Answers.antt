use Rattle.std.proofs.Common.{Some}
use Rattle.std.proofs.lemmas.Str.Pattern.{split_text_parts}
use Rattle.derive_source.specs.Below.{marker}
use Rattle.derive_source.proofs.marker.above_marker.Goals as goal

pub returns-in-None : goal.returns-in-None
returns-in-None c =
    let parts = Some (c.in-Some.above, c.in-Some.below) in
    (c.in-Some.below.now, split_text_parts marker c.args.source.now parts c.in-Some.ensures.cases)
