use Rattle.nano_bin_frames.proofs.PromiseLemmas.{one_frame}
use Rattle.nano_bin_frames.proofs.laws.one_frame_at_most.Goals as goal

pub returns : goal.returns
returns c = one_frame
