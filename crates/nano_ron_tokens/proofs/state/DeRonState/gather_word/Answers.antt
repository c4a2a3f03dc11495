use Rattle.std.proofs.Common.{◌≡◌, ◌++◌, List, ℕ, ◌∙◌, ap, refl, length, length-append}
use Rattle.std.proofs.Common.{string_bytes, arith}
use Rattle.nano_text.specs.Characters.{prefix}
use Rattle.nano_text.specs.Place.{held, remaining}
use Rattle.nano_text.proofs.Prefixes.{prefix_boundary, remaining_after, prefix_bytes}
use Rattle.nano_text.proofs.Prefixes.{prefix_capacity, passes_in_line, advances_over}
use Rattle.nano_text.proofs.RemainingText.{not_nul}
use Rattle.nano_grammar.proofs.TokenCalls.{passed_on}
use Rattle.nano_ron_tokens.proofs.Scanning.{moved_none, word_cut, word_in_line, word_bytes}
use Rattle.nano_ron_tokens.specs.Cut.{is_word}
use Rattle.nano_ron_tokens.specs.State.{place_of}
use Rattle.nano_ron_tokens.proofs.Cuts.{starts_is_word}
use Rattle.nano_ron_tokens.proofs.state.DeRonState.gather_word.Goals as goal

pub split_at-requires : goal.split_at-requires
split_at-requires c =
    let count = c.word_len-len.ensures ∙ ap (λ (bs : List ℕ). length (prefix is_word bs)) c.as_bytes.ensures.value in
    prefix_boundary is_word refl word_cut c.as_str-text.result.now c.word_len-len.result c.as_str-text.utf8 count

pub returns-clause-word : goal.returns-clause-word
returns-clause-word c =
    let cur = c.args.self.now.cur in
    let i = c.args.i.now in
    let text = c.as_str-text in
    let len = c.word_len-len.result in
    let p = place_of c.args.self.now in
    let r = place_of c.next.new.self in
    let passes = starts_is_word cur c.requires in
    let count = c.word_len-len.ensures ∙ ap (λ (bs : List ℕ). length (prefix is_word bs)) c.as_bytes.ensures.value in
    let left = c.chars.ensures.rest ∙ c.split_at.ensures.back in
    let prefix_is = prefix_bytes is_word refl word_cut cur len i text.result.now passes text.utf8 text.ensures count in
    record {
      word = rw (c.next.ensures.identbuf, c.in_ok-push_str.ensures.bytes, c.in_ok-push.ensures.bytes, c.clear.ensures.bytes, c.split_at.ensures.front) (prefix_is ∙ word_bytes (remaining cur i));
      passed = record {
        rest = c.next.ensures.rest ∙ remaining_after is_word refl word_cut cur len i c.chars.result text.result.now passes text.utf8 text.ensures count left;
        place = advances_over is_word refl word_cut p r len i c.chars.result c.next.new.i text.result.now (not_nul is_word cur refl passes)
            text.utf8 text.ensures count left c.next.ensures.held c.next.ensures.rest
            (passes_in_line is_word refl word_cut p _ r len i
            c.chars.result text.result.now (held c.next.new.i) text.utf8 text.ensures count
            left (word_in_line text.result.now) (omega arith) refl c.saturating_add-self.ensures c.next.ensures.passes);
      };
    }

pub returns-in_err-push-clause-word : goal.returns-in_err-push-clause-word
returns-in_err-push-clause-word c =
    let passes = starts_is_word c.args.self.now.cur c.requires in
    let first = prefix_capacity is_word refl word_cut c.args.self.now.cur c.args.i.now passes in
    let bytes = ap length (word_bytes (remaining c.args.self.now.cur c.args.i.now)) in
    passed_on _ _ c.from_residual.result c.from_residual.ensures.1 (record {
      full = omega (arith, first, bytes, c.in_err-push.ensures.full, c.clear.ensures.capacity, ap length c.clear.ensures.bytes);
      place = moved_none c.args.self.now c.args.i.now;
    })

pub returns-in_err-push_str-clause-word : goal.returns-in_err-push_str-clause-word
returns-in_err-push_str-clause-word c =
    let text = c.as_str-text in
    let passes = starts_is_word c.args.self.now.cur c.requires in
    let count = c.word_len-len.ensures ∙ ap (λ (bs : List ℕ). length (prefix is_word bs)) c.as_bytes.ensures.value in
    let prefix_is = prefix_bytes is_word refl word_cut c.args.self.now.cur c.word_len-len.result c.args.i.now text.result.now passes text.utf8 text.ensures count in
    let all : string_bytes c.push.new.self ++ c.split_at.result.0.now ≡ prefix is_word (remaining c.args.self.now.cur c.args.i.now) = rw (c.in_ok-push.ensures.bytes, c.clear.ensures.bytes, c.split_at.ensures.front) (prefix_is ∙ word_bytes (remaining c.args.self.now.cur c.args.i.now)) in
    passed_on _ _ c.from_residual-in_err-push_str.result c.from_residual-in_err-push_str.ensures.1 (record {
      full = omega (arith, c.in_err-push_str.ensures.full, c.in_ok-push.ensures.capacity, c.clear.ensures.capacity, ap length all, length-append (string_bytes c.push.new.self) c.split_at.result.0.now);
      place = moved_none c.args.self.now c.args.i.now;
    })
