-- What is left of a stream of messages.
use Rattle.std.specs.Prelude.{ℕ, List, Option, drop, length}
use Rattle.std.specs.Io.KnownBytes.{prepend_known}
use Rattle.nano_bin_frames.specs.declared.frames.Messages.{Messages}

-- the bytes that were read and not taken, and then those of the reader, where these are known
abbrev pub left : {R : Type 0} → (R → Option (List ℕ)) → Messages R → Option (List ℕ)
left remaining messages = prepend_known (drop messages.offset messages.bytes.items)
    (remaining messages.input)

-- how many bytes are read at a time, at most
abbrev pub chunk_size : {R : Type 0} → Messages R → ℕ
chunk_size messages = length messages.chunk.items
