use Rattle.std.proofs.Common.{◌≡◌, ◌≢◌, ◌++◌, ◌∙◌, ap, refl, sym, subst, true, false, List, ℕ, chars}
use Rattle.std.proofs.Common.{string_bytes, encode_utf8_all, rules, arith}
use Rattle.std.proofs.lemmas.Grind.{common_steps}
use Rattle.nano_text.specs.Place.{before_nul, remaining, remaining_text}
use Rattle.nano_json_tokens.specs.Cut.{Cut}
use Rattle.nano_grammar.proofs.BracketLaws.{one_less}
use Rattle.nano_json_tokens.specs.Scan.{is_end}
use Rattle.nano_json_tokens.specs.State.{at, pending}
use Rattle.nano_json_tokens.specs.Token.{Token, end}
use Rattle.nano_json_tokens.proofs.BracketCounts.{brackets}
use Rattle.nano_json_indent.specs.Layout.{kind, level_after, gap}
use Rattle.nano_json_indent.specs.declared.kind.Kind.{Kind}
use Rattle.nano_json_indent.specs.declared.kind.Kind.TheVariants.{Start}
use Rattle.nano_json_indent.proofs.Progress.{Progress, none_written, one_more_written, all_written}
use Rattle.nano_json_indent.proofs.layout.indent.Goals as goal

not_end : (t : Token) → t ≢ end → is_end t ≡ false
not_end end h = absurd (h refl)
not_end _ h = refl

pub tokens-init : goal.tokens-init
tokens-init c =
    let text = remaining_text c.args.text.now in
    let first = at c.take.new.state c.take.new.input in
    let is : remaining c.next.new.self.cur c.next.new.i ≡ text =
    c.next.ensures.rest ∙ ap (λ (bytes : List ℕ). before_nul (chars bytes)) c.chars-input.ensures.rest in
    let cut = subst (λ (l : List ℕ). Cut l first.token first.text) is c.in_ok-take.ensures in
    subst (λ (out : List ℕ). Progress text first out 0 Start) (sym c.new-out.ensures.bytes) (none_written text first cut)

pub tokens-smaller : goal.tokens-smaller
tokens-smaller c =
    let more : c.is_end.result ≡ false = first_of (search rules, cc, grind (arith, common_steps, c.tokens-test.true)) in
    let s = at c.tokens.state c.tokens.input in
    let next = at c.take-in-tokens.new.state c.take-in-tokens.new.input in
    one_less brackets s next (not_end s.token (c.is_end.ensures.more more)) c.in_ok-take-2.ensures

pub tokens-preserved : goal.tokens-preserved
tokens-preserved c =
    let more : c.is_end.result ≡ false = first_of (search rules, cc, grind (arith, common_steps, c.tokens-test.true)) in
    let s = c.tokens.state in
    let text = remaining_text c.args.text.now in
    let next = at c.take-in-tokens.new.state c.take-in-tokens.new.input in
    let out = string_bytes c.append_token.new.out in
    let gapped = string_bytes c.append_gap.new.out in
    let is : c.of-kind.result ≡ kind (pending s) = c.of-kind.ensures (string_bytes s.strbuf) (string_bytes s.numbuf) in
    let between = subst (λ (k : Kind). gapped ≡ string_bytes c.tokens.out ++ encode_utf8_all (gap c.tokens.level c.tokens.before k))
    is c.in_ok-append_gap.ensures in
    let written = one_more_written {next = next} c.tokens.invariant (c.is_end.ensures.more more) c.in_ok-take-2.ensures between
    c.in_ok-append_token.ensures in
    subst (λ (n : ℕ). Progress text next out n c.of-kind.result) (sym c.level_after-level.ensures)
    (subst (λ (k : Kind). Progress text next out (level_after c.tokens.level k) k) (sym is) written)

pub returns : goal.returns
returns c = λ ts are.
    let ended : c.is_end.result ≡ true = first_of (search rules, cc, grind (arith, common_steps, c.tokens-test.false)) in
    all_written c.tokens.invariant (c.is_end.ensures.ended ended) ts are.cut are.no_end
