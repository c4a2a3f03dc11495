use Rattle.std.proofs.Common.{◌≡◌, ◌==◌, false, List, [], ◌∷◌, ℕ, length, refl, sym, ◌∙◌, ap}
use Rattle.std.proofs.Common.{true≢false}
use Rattle.std.specs.Str.{all_ascii_digits}
use Rattle.nano_document.specs.Decimals.{are_digits}
use Rattle.nano_document.proofs.DecimalParts.{digits_all, empty_by_length}
use Rattle.nano_document.proofs.decimal.are_digits.Goals as goal

some_digits : (xs : List ℕ) → false ≡ (length xs == 0) → all_ascii_digits xs ≡ are_digits xs
some_digits [] h = absurd (true≢false (sym h))
some_digits (x ∷ xs) h = refl

pub returns-then-not-is_empty : goal.returns-then-not-is_empty
returns-then-not-is_empty c =
    let bytes = c.args.bytes.now in
    c.is_empty-then-not-is_empty.ensures ∙ (ap (λ xs. length xs == 0) c.after_digits.ensures
    ∙ (empty_by_length _ ∙ (digits_all bytes ∙ some_digits bytes c.if-not-is_empty.ensures)))
