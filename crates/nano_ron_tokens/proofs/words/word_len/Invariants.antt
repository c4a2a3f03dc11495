use Rattle.std.proofs.Common.{◌≡◌, ◌+◌, length, drop}
use Rattle.nano_text.specs.Characters.{prefix}
use Rattle.nano_ron_tokens.specs.Cut.{is_word}
use Rattle.nano_ron_tokens.proofs.words.word_len.Given as goal

abbrev pub invariant-loop-len : goal.invariant-loop-len
invariant-loop-len l = record {
  len : length (prefix is_word l.bytes) ≡ l.len + length (prefix is_word (drop l.len l.bytes));
}
