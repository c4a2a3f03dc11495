use Rattle.std.proofs.Common.{List, ℕ, drop, subst}
use Rattle.nano_bin_bytes.specs.Reading.{DecodesToNothing}
use Rattle.nano_value.specs.Meaning.{listed}
use Rattle.nano_bin_bytes.specs.Containers.{EncodesAll}
use Rattle.nano_bin_bytes.specs.Scalars.{EncodesUnsigned}
use Rattle.nano_bin_bytes.proofs.ErrorsLaws.{rejects_now}
use Rattle.nano_bin_frames.proofs.FrameLemmas.{no_frame}
use Rattle.nano_bin_frames.proofs.frames.Messages.frame.Goals as goal

pub returns-in_default : goal.returns-in_default
returns-in_default g c = record {
  some = tt;
  none =
      no_frame _
      (subst (λ (l : List ℕ). DecodesToNothing (EncodesAll listed (EncodesUnsigned 1)) (drop c.args.self.now.offset l)) c.deref.ensures.value
      (rejects_now _ _ c.in-Err.error c.in-Err.ensures.err.rejects c.in_default.not-Memory));
  fault = tt;
}
