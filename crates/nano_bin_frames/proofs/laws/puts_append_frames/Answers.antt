use Rattle.nano_bin_frames.proofs.PromiseLemmas.{adds_frames}
use Rattle.nano_bin_frames.proofs.laws.puts_append_frames.Goals as goal

pub returns : goal.returns
returns c = adds_frames
