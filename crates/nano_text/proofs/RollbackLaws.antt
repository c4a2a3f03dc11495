-- A text that was written on can be cut back to what it was.
use Rattle.std.proofs.Common.{◌≡◌, ℕ, ◌≤◌, List, ◌++◌, Result, Ok, Err, OnOk, OnErr, String, IsUtf8}
use Rattle.std.proofs.Common.{string_bytes, take, length, length-append, sym, ◌∙◌, ap, subst, arith}
use Rattle.std.specs.Str.{IsCharBoundary}
use Rattle.std.specs.String.{string_len}
use Rattle.std.proofs.lemmas.List.{take_at}
use Rattle.std.proofs.lemmas.Str.{IsCharBoundary-from_take, IsUtf8-string_bytes}
use Rattle.nano_text.specs.Outcomes.{AppendsPart}

-- however the write ended, more comes after what was there
pub goes_on : {T E : Type 0} (r : Result T E) (before after written : List ℕ)
    → OnOk r (after ≡ before ++ written) → OnErr r ((more : List ℕ) × (after ≡ before ++ more))
    → (more : List ℕ) × (after ≡ before ++ more)
goes_on (Ok x) before after written ok err = (written, ok)
goes_on (Err e) before after written ok err = err

-- the text may be cut where it ended before
pub boundary_unchanged : {Y Z : Type 0} (before : String Y) (after : String Z) (start : ℕ)
    → start ≡ string_len before → AppendsPart before after
    → IsCharBoundary (string_bytes after) start
boundary_unchanged before after start at more =
    let text = string_bytes after in
    let old = string_bytes before in
    let prefix : take start text ≡ old =
    ap (take start) more.1 ∙ take_at old more.0 start (omega (arith, at, before.bytes.ok.0)) in
    let fits : start ≤ length text =
    omega (arith, at, before.bytes.ok.0, ap length more.1, length-append old more.0) in
    IsCharBoundary-from_take text start (IsUtf8-string_bytes after) fits
    (subst IsUtf8 (sym prefix) (IsUtf8-string_bytes before))

-- so it may be after a write, however that ended
pub unchanged_by : {T E Y Z : Type 0} (r : Result T E) (before : String Y) (after : String Z)
    (start : ℕ)
    (written : List ℕ) → start ≡ string_len before
    → OnOk r (string_bytes after ≡ string_bytes before ++ written)
    → OnErr r (AppendsPart before after)
    → IsCharBoundary (string_bytes after) start
unchanged_by r before after start written at ok err =
    boundary_unchanged before after start at
    (goes_on r (string_bytes before) (string_bytes after) written ok err)

-- what was written and is unchanged comes after what was there
pub unchanged_ok : {T E : Type 0} (r w : Result T E) (before mid after written : List ℕ) → r ≡ w
    → OnOk r (after ≡ mid) → OnOk w (mid ≡ before ++ written) → OnOk r (after ≡ before ++ written)
unchanged_ok {T} {E} r w before mid after written same unchanged ok =
    by r unchanged (subst (λ z. OnOk z (mid ≡ before ++ written)) (sym same) ok)
  where
    by : (r : Result T E) → OnOk r (after ≡ mid) → OnOk r (mid ≡ before ++ written)
        → OnOk r (after ≡ before ++ written)
    by (Ok x) a b = a ∙ b
    by (Err e) a b = tt

-- what was cut back is what was there
pub cut_back_err : {T E : Type 0} (r w : Result T E) (before mid after : List ℕ) (start : ℕ)
    → start ≡ length before → r ≡ w → OnErr r (after ≡ take start mid)
    → OnErr w ((more : List ℕ) × (mid ≡ before ++ more)) → OnErr r (after ≡ before)
cut_back_err {T} {E} r w before mid after start at same cut more =
    by r cut (subst (λ z. OnErr z ((more : List ℕ) × (mid ≡ before ++ more))) (sym same) more)
  where
    by : (r : Result T E) → OnErr r (after ≡ take start mid)
        → OnErr r ((more : List ℕ) × (mid ≡ before ++ more)) → OnErr r (after ≡ before)
    by (Ok x) a b = tt
    by (Err e) a b = a ∙ (ap (take start) b.1 ∙ take_at before b.0 start (sym at))
