-- What normal forms and converted inputs say of their values.
use Rattle.std.specs.Prelude.{◌≡◌, ◌↔◌, ℕ, List}
use Rattle.nano_value.specs.Meaning.{Meaning}
use Rattle.nanoserde.specs.Normal.{NormalForm}

module _ {A : Type 0} (means : A → Meaning) (fits : List ℕ → Meaning → Type 0)
    (written : A → List ℕ) where
  -- an input has at most one form
  abbrev pub OneForm : Type 0
  OneForm = (input first second : List ℕ) → NormalForm means (fits input) written first
      → NormalForm means (fits input) written second → first ≡ second

  -- the forms of two inputs are equal exactly where their values are the same
  abbrev pub FormsTellValues : Type 0
  FormsTellValues = (input other first second : List ℕ)
      (one : NormalForm means (fits input) written first)
      (two : NormalForm means (fits other) written second)
      → (first ≡ second) ↔ (means one.value ≡ means two.value)

  -- a form has a form, and it is that form itself
  abbrev pub FormOfForm : Type 0
  FormOfForm = (input form again : List ℕ) → NormalForm means (fits input) written form
      → NormalForm means (fits form) written again ↔ (form ≡ again)

  -- the form decodes, in the format that it is written in, to the value that the input has
  abbrev pub ReadBack : (List ℕ → Meaning → Type 0) → Type 0
  ReadBack decodes_written = (input form : List ℕ)
      (one : NormalForm means (fits input) written form)
      → decodes_written form (means one.value)
