use Rattle.std.proofs.Common.{◌≡◌, string_bytes, ◌∙◌}
use Rattle.std.specs.Str.{bytes_eq}
use Rattle.nano_document.proofs.Sameness.{means_of_text, compared, no_text}
use Rattle.nano_document.proofs.same.is_text.Goals as goal

pub returns-in-Some : goal.returns-in-Some
returns-in-Some c =
    let s = c.in-Some.ensures.0 in
    let a = string_bytes c.args.string.now in
    let is : c.eq.result ≡ bytes_eq a (string_bytes s) = c.eq.ensures
    ∙ (λ i. bytes_eq (c.as_str-in-Some.ensures.value i) (c.in-Some.ensures.2 i)) in
    compared c.args.other.now 3 a (string_bytes s) c.eq.result is (means_of_text c.args.other.now
    s c.in-Some.ensures.1)

pub returns-in-None : goal.returns-in-None
returns-in-None c = no_text c.args.other.now (string_bytes c.args.string.now) c.in-None.ensures
