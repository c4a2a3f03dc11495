use Rattle.std.proofs.Common.{List, ℕ, ◌<◌, sym, ◌∙◌, ap, subst, arith, length, get_or, chars}
use Rattle.std.specs.Char.{is_ascii_digit}
use Rattle.std.specs.Str.Iter.{chars_rest}
use Rattle.nano_text.specs.declared.place.Place.{Place}
use Rattle.nano_text.specs.Characters.{prefix}
use Rattle.nano_text.specs.Place.{held, Passes}
use Rattle.nano_text.proofs.WholeNumbers.{rest_after, run_boundary, run_passes, advances_number}
use Rattle.nano_text.proofs.WholeNumbers.{after_feed, after_other}
use Rattle.nano_text.proofs.whole.stand_after.Goals as goal

pub split_at-requires : goal.split_at-requires
split_at-requires c =
    let text = c.as_str-text.result.now in
    let is = c.as_str-text.ensures in
    let count = c.requires.len ∙ ap (λ (bs : List ℕ). length (prefix is_ascii_digit bs)) (sym is) in
    let within : c.args.ahead.len < length text = omega (arith, c.requires.within, ap length is) in
    let next_is = c.requires.next ∙ ap (λ (bs : List ℕ). get_or bs c.args.ahead.len 0) (sym is) in
    run_boundary text c.args.ahead.len c.args.ahead.next c.as_str-text.utf8 count within next_is c.requires.ascii

pub returns-then-ahead-eq10-clause-rest : goal.returns-then-ahead-eq10-clause-rest
returns-then-ahead-eq10-clause-rest c =
    let text = c.as_str-text.result.now in
    let is = c.as_str-text.ensures in
    let count = c.requires.len ∙ ap (λ (bs : List ℕ). length (prefix is_ascii_digit bs)) (sym is) in
    let within : c.args.ahead.len < length text = omega (arith, c.requires.within, ap length is) in
    let next_is = c.requires.next ∙ ap (λ (bs : List ℕ). get_or bs c.args.ahead.len 0) (sym is) in
    rest_after text c.args.ahead.len c.args.ahead.next c.as_str-text.utf8 count within next_is c.requires.ascii c.from-p.result c.args.i.now c.chars.result is c.from-p.ensures (c.chars.ensures.rest ∙ c.split_at.ensures.back)

pub returns-clause-rest : goal.returns-clause-rest
returns-clause-rest c =
    let text = c.as_str-text.result.now in
    let is = c.as_str-text.ensures in
    let count = c.requires.len ∙ ap (λ (bs : List ℕ). length (prefix is_ascii_digit bs)) (sym is) in
    let within : c.args.ahead.len < length text = omega (arith, c.requires.within, ap length is) in
    let next_is = c.requires.next ∙ ap (λ (bs : List ℕ). get_or bs c.args.ahead.len 0) (sym is) in
    rest_after text c.args.ahead.len c.args.ahead.next c.as_str-text.utf8 count within next_is c.requires.ascii c.from-p.result c.args.i.now c.chars.result is c.from-p.ensures (c.chars.ensures.rest ∙ c.split_at.ensures.back)

pub returns-then-ahead-eq10-clause-place : goal.returns-then-ahead-eq10-clause-place
returns-then-ahead-eq10-clause-place c some =
    let text = c.as_str-text.result.now in
    let is = c.as_str-text.ensures in
    let count = c.requires.len ∙ ap (λ (bs : List ℕ). length (prefix is_ascii_digit bs)) (sym is) in
    let within : c.args.ahead.len < length text = omega (arith, c.requires.within, ap length is) in
    let next_is = c.requires.next ∙ ap (λ (bs : List ℕ). get_or bs c.args.ahead.len 0) (sym is) in
    let left = c.chars.ensures.rest ∙ c.split_at.ensures.back in
    let after : Place = record { cur = c.from-p.result; line = c.saturating_add-p.result; col = 0 } in
    let stands = after_feed text c.args.ahead.len c.args.ahead.next c.as_str-text.utf8 count within next_is c.requires.ascii c.args.p.now c.if-ahead-eq10.true in
    let passes = run_passes text c.args.ahead.len c.args.ahead.next c.as_str-text.utf8 count within next_is c.requires.ascii c.args.p.now after (chars_rest c.chars.result) (omega arith) (c.saturating_add-p.ensures ∙ sym stands.0) (sym stands.1) left in
    advances_number text c.args.ahead.len c.args.ahead.next c.as_str-text.utf8 count within next_is c.requires.ascii c.args.p.now after c.args.i.now c.chars.result is left some (returns-then-ahead-eq10-clause-rest c)
    (subst (λ (cs : List ℕ). Passes c.args.p.now cs after (held c.chars.result)) (ap chars is) passes)

pub returns-clause-place : goal.returns-clause-place
returns-clause-place c some =
    let text = c.as_str-text.result.now in
    let is = c.as_str-text.ensures in
    let count = c.requires.len ∙ ap (λ (bs : List ℕ). length (prefix is_ascii_digit bs)) (sym is) in
    let within : c.args.ahead.len < length text = omega (arith, c.requires.within, ap length is) in
    let next_is = c.requires.next ∙ ap (λ (bs : List ℕ). get_or bs c.args.ahead.len 0) (sym is) in
    let left = c.chars.ensures.rest ∙ c.split_at.ensures.back in
    let after : Place = record { cur = c.from-p.result; line = c.args.p.now.line; col = c.saturating_add-p-2.result } in
    let stands = after_other text c.args.ahead.len c.args.ahead.next c.as_str-text.utf8 count within next_is c.requires.ascii c.args.p.now c.if-ahead-eq10.false in
    let passes = run_passes text c.args.ahead.len c.args.ahead.next c.as_str-text.utf8 count within next_is c.requires.ascii c.args.p.now after (chars_rest c.chars.result) (omega arith) (sym stands.0) (c.saturating_add-p-2.ensures ∙ sym stands.1) left in
    advances_number text c.args.ahead.len c.args.ahead.next c.as_str-text.utf8 count within next_is c.requires.ascii c.args.p.now after c.args.i.now c.chars.result is left some (returns-clause-rest c)
    (subst (λ (cs : List ℕ). Passes c.args.p.now cs after (held c.chars.result)) (ap chars is) passes)
