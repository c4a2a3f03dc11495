use Rattle.std.proofs.Common.{◌≡◌, ◌+◌, ◌-◌, ◌^◌, ◌<◌, ℕ, List, count_by, min, sym, ◌∙◌, ap, arith}
use Rattle.nano_text.specs.Place.{is_line_feed, begins_character}
use Rattle.nano_text.proofs.Passing.{passed_line, passed_line_unchanged, passed_col}
use Rattle.nano_text.proofs.Passing.{passed_col_anew}
use Rattle.nano_text.proofs.place.Place.pass.Goals as goal

-- the counts of the text's bytes
saturating_feeds : (n : ℕ) (bytes text : List ℕ) → n ≡ count_by is_line_feed bytes → bytes ≡ text → n ≡ count_by is_line_feed text
saturating_feeds n bytes text is same = is ∙ ap (count_by is_line_feed) same

counted_characters : (n : ℕ) (bytes text : List ℕ) → n ≡ count_by begins_character bytes → bytes ≡ text
    → n ≡ count_by begins_character text
counted_characters n bytes text is same = is ∙ ap (count_by begins_character) same

pub returns-then-feeds-eq0-clause-line : goal.returns-then-feeds-eq0-clause-line
returns-then-feeds-eq0-clause-line c =
    let feeds = saturating_feeds _ _ _ c.line_feeds-feeds.ensures c.as_bytes-bytes.ensures.value in
    sym (passed_line_unchanged c.args.self.now c.args.text.now c.utf8.text (sym feeds ∙ c.if-feeds-eq0.true))

pub returns-then-feeds-eq0-clause-col : goal.returns-then-feeds-eq0-clause-col
returns-then-feeds-eq0-clause-col c =
    let feeds = saturating_feeds _ _ _ c.line_feeds-feeds.ensures c.as_bytes-bytes.ensures.value in
    let taken = counted_characters _ _ _ c.characters.ensures c.as_bytes-bytes.ensures.value in
    let is = passed_col c.args.self.now c.args.text.now c.utf8.text (omega arith) (sym feeds ∙ c.if-feeds-eq0.true) in
    c.saturating_add-self.ensures
    ∙ (ap (λ (n : ℕ). min (c.args.self.now.col + n) (2 ^ 64 - 1)) taken ∙ sym is)

pub returns-clause-line : goal.returns-clause-line
returns-clause-line c =
    let feeds = saturating_feeds _ _ _ c.line_feeds-feeds.ensures c.as_bytes-bytes.ensures.value in
    let is = passed_line c.args.self.now c.args.text.now c.utf8.text (omega arith) in
    c.saturating_add-self-2.ensures
    ∙ (ap (λ (n : ℕ). min (c.args.self.now.line + n) (2 ^ 64 - 1)) feeds ∙ sym is)

pub returns-clause-col : goal.returns-clause-col
returns-clause-col c =
    let feeds = saturating_feeds _ _ _ c.line_feeds-feeds.ensures c.as_bytes-bytes.ensures.value in
    let some : 0 < count_by is_line_feed c.args.text.now = omega (arith, feeds, c.if-feeds-eq0.false) in
    let following = c.last_line.ensures.following some in
    let taken = counted_characters _ _ _ c.characters-self.ensures c.as_bytes.ensures.value in
    let is = passed_col_anew c.args.self.now c.args.text.now c.utf8.text following.0 c.last_line.result.now following.1
    c.last_line.ensures.none (omega (arith, taken)) in
    taken ∙ sym is
