use Rattle.nano_ron_tokens.proofs.AfterGaps.{gap_is_left_out}
use Rattle.nano_ron_tokens.proofs.RonLaws.{gap_is_skipped}
use Rattle.nano_ron_tokens.proofs.laws.gaps_are_skipped.Goals as goal

pub returns : goal.returns
returns c gap text rest t is = (λ h. gap_is_skipped gap text rest t is h, λ h. gap_is_left_out gap text rest t is h)
