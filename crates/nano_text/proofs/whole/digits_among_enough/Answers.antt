use Rattle.std.proofs.Common.{◌≡◌, ◌<◌, ◌∙◌, ℕ, List, ap, arith, take, length, get_or}
use Rattle.std.proofs.lemmas.List.{get_or-take, length-take}
use Rattle.std.specs.Char.{is_ascii_digit}
use Rattle.std.specs.Str.Parse.{digits_value_after}
use Rattle.nano_text.specs.declared.whole.Ahead.{Ahead}
use Rattle.nano_text.specs.Characters.{prefix}
use Rattle.nano_text.proofs.WholeNumbers.{if_some_with, prefix_of_first}
use Rattle.nano_text.proofs.whole.digits_among_enough.Goals as goal

-- digits that end within the first bytes
same : (bytes chunk : List ℕ) (n len : ℕ) → chunk ≡ take n bytes → len ≡ length (prefix is_ascii_digit chunk)
    → len < length chunk → prefix is_ascii_digit chunk ≡ prefix is_ascii_digit bytes
same bytes chunk n len is count within =
    ap (prefix is_ascii_digit) is
    ∙ prefix_of_first is_ascii_digit bytes n (omega (arith, within, count, ap (λ (l : List ℕ). length (prefix is_ascii_digit l)) is, ap length is))

-- where they end, by what is known within the first bytes
abbrev EndsIn : List ℕ → Ahead → Type 0
EndsIn chunk ahead = (ahead.len ≡ length (prefix is_ascii_digit chunk)) × (ahead.len < length chunk)

pub returns-clause-len : goal.returns-clause-len
returns-clause-len c =
    let chunk = c.in_ok-chunk.chunk.now in
    if_some_with (λ (a : Ahead). a.len ≡ length (prefix is_ascii_digit chunk)) (λ (a : Ahead). (a.len < length chunk) × (a.next ≡ get_or chunk a.len 0)) _ c.digits_within.result
    (λ ahead count next. count ∙ ap length (same c.args.bytes.now chunk 19 ahead.len c.in_ok-chunk.ensures.cases.same count next.0))
    c.digits_within.ensures.len c.digits_within.ensures.next

pub returns-clause-value : goal.returns-clause-value
returns-clause-value c =
    let chunk = c.in_ok-chunk.chunk.now in
    let ends = if_some_with (λ (a : Ahead). a.len ≡ length (prefix is_ascii_digit chunk)) (λ (a : Ahead). (a.len < length chunk) × (a.next ≡ get_or chunk a.len 0)) (EndsIn chunk) c.digits_within.result
    (λ ahead count next. (count, next.0)) c.digits_within.ensures.len c.digits_within.ensures.next in
    if_some_with (λ (a : Ahead). a.value ≡ digits_value_after 10 c.args.first (prefix is_ascii_digit chunk)) (EndsIn chunk) _ c.digits_within.result
    (λ ahead value end. value ∙ ap (digits_value_after 10 c.args.first) (same c.args.bytes.now chunk 19 ahead.len c.in_ok-chunk.ensures.cases.same end.0 end.1))
    c.digits_within.ensures.value ends

pub returns-clause-next : goal.returns-clause-next
returns-clause-next c =
    let bytes = c.args.bytes.now in
    let chunk = c.in_ok-chunk.chunk.now in
    let is : chunk ≡ take 19 bytes = c.in_ok-chunk.ensures.cases.same in
    let long = ap length is ∙ length-take 19 bytes in
    if_some_with (λ (a : Ahead). a.len ≡ length (prefix is_ascii_digit chunk)) (λ (a : Ahead). (a.len < length chunk) × (a.next ≡ get_or chunk a.len 0)) _ c.digits_within.result
    (λ ahead count next. (omega (arith, next.0, long), next.1 ∙ (ap (λ (l : List ℕ). get_or l ahead.len 0) is ∙ get_or-take 19 bytes ahead.len 0 (omega (arith, next.0, long)))))
    c.digits_within.ensures.len c.digits_within.ensures.next
