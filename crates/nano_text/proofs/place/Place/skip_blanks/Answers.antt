use Rattle.std.proofs.Common.{ℕ, List, ◌∙◌, ap, refl, length, arith}
use Rattle.nano_text.specs.Characters.{prefix}
use Rattle.nano_text.specs.Place.{held}
use Rattle.nano_text.specs.Scan.{is_blank}
use Rattle.nano_text.proofs.Prefixes.{prefix_boundary, advances_over}
use Rattle.nano_text.proofs.Spaces.{blank_cut, remaining_blanks, passes_blanks}
use Rattle.nano_text.proofs.place.Place.skip_blanks.Goals as goal

pub split_at-requires : goal.split_at-requires
split_at-requires c =
    let count = c.blanks_len-len.ensures
    ∙ ap (λ (bs : List ℕ). length (prefix is_blank bs)) c.as_bytes.ensures.value in
    prefix_boundary is_blank refl blank_cut c.as_str-text.result.now c.blanks_len-len.result
    c.as_str-text.utf8 count

pub returns-clause-rest : goal.returns-clause-rest
returns-clause-rest c =
    let text = c.as_str-text in
    let count = c.blanks_len-len.ensures
    ∙ ap (λ (bs : List ℕ). length (prefix is_blank bs)) c.as_bytes.ensures.value in
    c.next.ensures.rest
    ∙ remaining_blanks c.blanks_len-len.result c.args.i.now c.chars.result text.result.now text.utf8
    text.ensures count (c.chars.ensures.rest ∙ c.split_at.ensures.back)

pub returns-clause-counts : goal.returns-clause-counts
returns-clause-counts c some =
    let text = c.as_str-text in
    let p = c.args.self.now in
    let r = c.next.new.self in
    let count = c.blanks_len-len.ensures
    ∙ ap (λ (bs : List ℕ). length (prefix is_blank bs)) c.as_bytes.ensures.value in
    let left = c.chars.ensures.rest ∙ c.split_at.ensures.back in
    advances_over is_blank refl blank_cut p r c.blanks_len-len.result c.args.i.now c.chars.result
    c.next.new.i text.result.now some text.utf8 text.ensures count left c.next.ensures.held
    c.next.ensures.rest
    (passes_blanks c.blanks_len-len.result c.args.i.now c.chars.result text.result.now text.utf8
    text.ensures count left p _ r (held c.next.new.i)
    (omega arith) refl c.saturating_add-self.ensures c.next.ensures.passes)
