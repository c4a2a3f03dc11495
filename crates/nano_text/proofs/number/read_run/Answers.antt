use Rattle.std.proofs.Common.{◌≡◌, ◌+◌, ℕ, Option, Some, None, Bool, true, false, is_some}
use Rattle.std.proofs.Common.{option_map, refl, sym, ◌∙◌, ap, subst, arith, length, length-append}
use Rattle.std.proofs.Common.{encode_utf8, take}
use Rattle.nano_text.specs.Number.{is_minus, run_text, AreGoodParts}
use Rattle.nano_text.specs.declared.run.ExponentLen.{ExponentLen}
use Rattle.nano_text.specs.Place.{text_at}
use Rattle.nano_text.specs.ScanLaws.{run_at}
use Rattle.nano_text.specs.Scan.{exponent_len, decimal_len, fraction_capacity, exponent_capacity}
use Rattle.nano_text.proofs.Numbers.{none_mapped, integer_found, integer_good, number_good}
use Rattle.nano_text.proofs.Numbers.{integer_not_decimal, decimal_not}
use Rattle.nano_text.proofs.RunBytes.{run_length, run_capacity, decimal_taken}
use Rattle.nano_text.proofs.BreaksLaws.{number_breaks}
use Rattle.nano_text.proofs.number.read_run.Goals as goal
use Rattle.nano_text.proofs.number.read_run.Goals.{else-is_none-via-then-is_none+else-is_none-2}
use Rattle.nano_text.proofs.number.read_run.Goals.{else-is_none-via-else-is_none}

none_from : {T : Type 0} (o : Option T) → is_some o ≡ false → o ≡ None
none_from None e = refl
none_from (Some x) e = cc e

some_not_none : {S T : Type 0} (f : S → T) (o : Option T) (x : Option S) → is_some o ≡ true → o ≡ option_map f x → x ≡ None → ⊥
some_not_none {S} {T} f o x some is none = let both : is_some {T = T} None ≡ true = subst (λ (y : Option T). is_some y ≡ true) (is ∙ ap (option_map f) none) some in cc both

decimal_len_same : {w v : ℕ} {f g : Option ℕ} {e d : Option ExponentLen} → w ≡ v → f ≡ g → e ≡ d → decimal_len v g d ≡ decimal_len w f e
decimal_len_same p q r = rw (p, q, r) refl

pub decimal_len-requires : goal.decimal_len-requires
decimal_len-requires c =
    let text = text_at c.args.p.now c.args.i.now in
    let capacity = run_capacity c.args.p.now.cur c.args.i.now c.as_str-text.result.now c.as_str-text.utf8 c.as_str-text.ensures in
    omega (arith, capacity, run_length (run_at text), ap fraction_capacity c.take_run-run.ensures.fraction, ap exponent_capacity c.take_run-run.ensures.exponent, c.as_str-text.type_inv)

pub overflow_add-sign_len : goal.overflow_add-sign_len
overflow_add-sign_len c =
    let taken = c.take_run-run.ensures in
    let decimal = decimal_taken c.args.p.now.cur c.args.i.now c.as_str-text.result.now _ _ _ _ _ c.sign_len.result c.in-Some-decimal_len.following c.as_str-text.utf8 c.as_str-text.ensures taken.sign taken.whole taken.fraction taken.exponent taken.rest (sym c.in-Some-decimal_len.ensures) c.sign_len.ensures in
    let capacity = run_capacity c.args.p.now.cur c.args.i.now c.as_str-text.result.now c.as_str-text.utf8 c.as_str-text.ensures in
    omega (arith, capacity, decimal.length_is, c.as_str-text.type_inv)

pub overflow_add-sign_len-2 : goal.overflow_add-sign_len-2
overflow_add-sign_len-2 c =
    let taken = c.take_run-run.ensures in
    let decimal = decimal_taken c.args.p.now.cur c.args.i.now c.as_str-text.result.now _ _ _ _ _ c.sign_len.result c.in-Some-decimal_len.following c.as_str-text.utf8 c.as_str-text.ensures taken.sign taken.whole taken.fraction taken.exponent taken.rest (sym c.in-Some-decimal_len.ensures) c.sign_len.ensures in
    let capacity = run_capacity c.args.p.now.cur c.args.i.now c.as_str-text.result.now c.as_str-text.utf8 c.as_str-text.ensures in
    omega (arith, capacity, decimal.length_is, c.as_str-text.type_inv)

pub split_at-requires : goal.split_at-requires
split_at-requires c =
    let taken = c.take_run-run.ensures in
    let decimal = decimal_taken c.args.p.now.cur c.args.i.now c.as_str-text.result.now _ _ _ _ _ c.sign_len.result c.in-Some-decimal_len.following c.as_str-text.utf8 c.as_str-text.ensures taken.sign taken.whole taken.fraction taken.exponent taken.rest (sym c.in-Some-decimal_len.ensures) c.sign_len.ensures in
    decimal.bytes_are.boundary

pub returns-clause-found : goal.returns-clause-found
returns-clause-found c =
    let taken = c.take_run-run.ensures in
    let decimal = decimal_taken c.args.p.now.cur c.args.i.now c.as_str-text.result.now _ _ _ _ _ c.sign_len.result c.in-Some-decimal_len.following c.as_str-text.utf8 c.as_str-text.ensures taken.sign taken.whole taken.fraction taken.exponent taken.rest (sym c.in-Some-decimal_len.ensures) c.sign_len.ensures in
    (run_text (run_at (text_at c.args.p.now c.args.i.now)), decimal.number, λ e. rw (c.in_ok-push_str.ensures.bytes, c.in_ok-push.ensures.bytes, c.clear.ensures.bytes, c.split_at.ensures.front) decimal.bytes_are.text_is)

pub returns-in_err-push-clause-memory : goal.returns-in_err-push-clause-memory
returns-in_err-push-clause-memory c error =
    let taken = c.take_run-run.ensures in
    let decimal = decimal_taken c.args.p.now.cur c.args.i.now c.as_str-text.result.now _ _ _ _ _ c.sign_len.result c.in-Some-decimal_len.following c.as_str-text.utf8 c.as_str-text.ensures taken.sign taken.whole taken.fraction taken.exponent taken.rest (sym c.in-Some-decimal_len.ensures) c.sign_len.ensures in
    let count = length-append (encode_utf8 c.args.p.now.cur) (take (c.sign_len.result + c.take_run-run.result.whole.len + c.in-Some-decimal_len.following) c.as_str-text.result.now) in
    (run_text (run_at (text_at c.args.p.now c.args.i.now)), _, decimal.number, omega (arith, c.in_err-push.ensures.full, c.clear.ensures.capacity, c.clear.ensures.len, ap length decimal.bytes_are.text_is, count))

pub returns-in_err-push_str-clause-memory : goal.returns-in_err-push_str-clause-memory
returns-in_err-push_str-clause-memory c error =
    let taken = c.take_run-run.ensures in
    let decimal = decimal_taken c.args.p.now.cur c.args.i.now c.as_str-text.result.now _ _ _ _ _ c.sign_len.result c.in-Some-decimal_len.following c.as_str-text.utf8 c.as_str-text.ensures taken.sign taken.whole taken.fraction taken.exponent taken.rest (sym c.in-Some-decimal_len.ensures) c.sign_len.ensures in
    let count = length-append (encode_utf8 c.args.p.now.cur) (take (c.sign_len.result + c.take_run-run.result.whole.len + c.in-Some-decimal_len.following) c.as_str-text.result.now) in
    (run_text (run_at (text_at c.args.p.now c.args.i.now)), _, decimal.number, omega (arith, c.in_err-push_str.ensures.full, c.in_ok-push.ensures.len, c.in_ok-push.ensures.capacity, c.clear.ensures.capacity, c.clear.ensures.len, ap length c.split_at.ensures.front, ap length decimal.bytes_are.text_is, count))

pub returns-in_default-decimal_len-clause-malformed : goal.returns-in_default-decimal_len-clause-malformed
returns-in_default-decimal_len-clause-malformed c error number run rest h =
    let text = text_at c.args.p.now c.args.i.now in
    let r = run_at text in
    let taken = c.take_run-run.ensures in
    let none = decimal_len_same taken.whole taken.fraction taken.exponent ∙ sym c.in_default-decimal_len.ensures in
    let some : (r.fraction ≡ None) × (r.exponent ≡ None) → ⊥ = λ both. elim c.else-is_none.branch [
      | else-is_none-via-then-is_none+else-is_none-2 w ↦ some_not_none exponent_len _ r.exponent w.if-is_none-2.ensures taken.exponent both.1
      | else-is_none-via-else-is_none w ↦ some_not_none length _ r.fraction w.if-is_none.ensures taken.fraction both.0
    ] in
    decimal_not (is_minus r.sign) r.whole r.fraction r.exponent some none (number_good text rest run number h)

pub returns-in_default-clause-malformed : goal.returns-in_default-clause-malformed
returns-in_default-clause-malformed c error number run rest h =
    let text = text_at c.args.p.now c.args.i.now in
    let taken = c.take_run-run.ensures in
    let fraction = none_mapped length _ (sym taken.fraction ∙ none_from _ c.if-is_none.ensures) in
    let exponent = none_mapped exponent_len _ (sym taken.exponent ∙ none_from _ c.if-is_none-2.ensures) in
    let minus : is_minus (run_at text).sign ≡ c.is_minus.result = sym (c.is_minus.ensures ∙ ap is_minus taken.sign) in
    let good = integer_good text fraction exponent (number_good text rest run number h) in
    c.in_default.ensures (run_at text).whole taken.whole taken.value (subst (λ (b : Bool). AreGoodParts b (run_at text).whole None None) minus good)

pub returns-then-is_none-2-clause-found : goal.returns-then-is_none-2-clause-found
returns-then-is_none-2-clause-found c =
    let text = text_at c.args.p.now c.args.i.now in
    let taken = c.take_run-run.ensures in
    let fraction = none_mapped length _ (sym taken.fraction ∙ none_from _ c.if-is_none.ensures) in
    let exponent = none_mapped exponent_len _ (sym taken.exponent ∙ none_from _ c.if-is_none-2.ensures) in
    let minus : c.is_minus.result ≡ is_minus (run_at text).sign = c.is_minus.ensures ∙ ap is_minus taken.sign in
    let found = c.in-Some.ensures (run_at text).whole taken.whole taken.value in
    (run_text (run_at text), integer_found text _ c.in-Some.number c.is_minus.result taken.rest fraction exponent minus found, λ decimal. absurd (integer_not_decimal _ (run_at text).whole c.in-Some.number found.1 decimal))

pub returns-in_default-decimal_len-clause-breaks : goal.returns-in_default-decimal_len-clause-breaks
returns-in_default-decimal_len-clause-breaks c error =
    let r = run_at (text_at c.args.p.now c.args.i.now) in
    let taken = c.take_run-run.ensures in
    let none = decimal_len_same taken.whole taken.fraction taken.exponent ∙ sym c.in_default-decimal_len.ensures in
    let some : (r.fraction ≡ None) × (r.exponent ≡ None) → ⊥ = λ both. elim c.else-is_none.branch [
      | else-is_none-via-then-is_none+else-is_none-2 w ↦ some_not_none exponent_len _ r.exponent w.if-is_none-2.ensures taken.exponent both.1
      | else-is_none-via-else-is_none w ↦ some_not_none length _ r.fraction w.if-is_none.ensures taken.fraction both.0
    ] in
    number_breaks _ _ taken.rest (decimal_not (is_minus r.sign) r.whole r.fraction r.exponent some none)

pub returns-in_default-clause-breaks : goal.returns-in_default-clause-breaks
returns-in_default-clause-breaks c error =
    let text = text_at c.args.p.now c.args.i.now in
    let taken = c.take_run-run.ensures in
    let fraction = none_mapped length _ (sym taken.fraction ∙ none_from _ c.if-is_none.ensures) in
    let exponent = none_mapped exponent_len _ (sym taken.exponent ∙ none_from _ c.if-is_none-2.ensures) in
    let minus : is_minus (run_at text).sign ≡ c.is_minus.result = sym (c.is_minus.ensures ∙ ap is_minus taken.sign) in
    number_breaks _ _ taken.rest (λ good.
    c.in_default.ensures (run_at text).whole taken.whole taken.value
    (subst (λ (b : Bool). AreGoodParts b (run_at text).whole None None) minus (integer_good text fraction exponent good)))
