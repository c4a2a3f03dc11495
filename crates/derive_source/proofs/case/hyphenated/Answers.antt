use Rattle.std.proofs.Common.{chars, map, rules, tests}
use Rattle.std.proofs.lemmas.Iterator.{YieldsList-from_chars, YieldsList-from_map}
use Rattle.std.proofs.lemmas.Iterator.{text_from_collect}
use Rattle.std.proofs.lemmas.Result.{IfOk-weaker}
use Rattle.derive_source.specs.Cases.{hyphen}
use Rattle.derive_source.proofs.Cases.{chars_of}
use Rattle.derive_source.proofs.case.hyphenated.Goals as goal

pub returns : goal.returns
returns c =
    let cased = map hyphen (chars c.args.name.now) in
    let letters = YieldsList-from_chars c.args.name.now c.utf8.name cc in
    let chain = YieldsList-from_map _ _ letters c.map.ensures.closure (λ x r q k. search (rules, tests)) in
    IfOk-weaker _ _ _ (λ t e. chars_of t cased e) (text_from_collect _ c.collect.ensures.ran chain)
