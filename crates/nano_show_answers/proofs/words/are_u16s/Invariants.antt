-- the words so far are numerals
use Rattle.std.proofs.Common.{ℕ, ◌<◌, List, get_or}
use Rattle.nano_show_answers.specs.Requests.{IsU16, texts}
use Rattle.nano_show_answers.proofs.words.are_u16s.Given as goal

abbrev pub invariant-loop-word : goal.invariant-loop-word
invariant-loop-word l =
    (place : ℕ) → place < l.word-index → (absent : List ℕ)
    → IsU16 (get_or (texts l.words) place absent)
