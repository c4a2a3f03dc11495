-- Line feeds in a list of bytes.
use Rattle.std.proofs.Common.{◌≡◌, ◌≢◌, ℕ, suc, ◌+◌, ◌-◌, ◌<◌, ◌≤◌, ◌==◌, List, [], ◌∷◌, ◌++◌, true}
use Rattle.std.proofs.Common.{length, drop, get_or, slice_range, sym, ap, subst, ◌∙◌, arith, add-one, inl, inr, eqb-true}
use Rattle.std.proofs.lemmas.Bool.{cases_lt}
use Rattle.std.proofs.lemmas.List.{get_or-take, get_or-drop, length-drop, length-take-le, take_rest}
use Rattle.std.proofs.lemmas.List.Folds.{drop_split}
use Rattle.std.proofs.Math.Seq.{drop-cons}
use Rattle.memchr.specs.Find.{Nowhere, Passes, is_byte}
use Rattle.nano_text.specs.Characters.{line_feed}
use Rattle.nano_lines.specs.declared.buffer.Buffer.{Buffer}
use Rattle.nano_lines.specs.Buffers.{IsFeedAt}
use Rattle.nano_lines.specs.Lines.{HasNoFeed}

-- where no line feed is at a place, there is none
pub no_feed_at : (xs : List ℕ) → ((k : ℕ) → k < length xs → get_or xs k 0 ≢ 10) → HasNoFeed xs
no_feed_at [] h = tt
no_feed_at (x ∷ xs) h = (h 0 (omega arith), no_feed_at xs (λ k below. h (suc k) (omega arith)))

pub no_feed-append : (xs ys : List ℕ) → HasNoFeed xs → HasNoFeed ys → HasNoFeed (xs ++ ys)
no_feed-append [] ys h j = j
no_feed-append (x ∷ xs) ys h j = (h.0, no_feed-append xs ys h.1 j)

pub length-range : (bytes : List ℕ) (start end : ℕ) → start ≤ end → end ≤ length bytes
    → length (slice_range bytes start end) ≡ end - start
length-range bytes start end h j =
    length-take-le (end - start) (drop start bytes) (let long = length-drop start bytes in omega (arith, long))

-- where none is at a place from the start on, none is in the range
pub no_feed_between : (bytes : List ℕ) (start end : ℕ) → start ≤ end → end ≤ length bytes
    → ((k : ℕ) → start ≤ k → k < end → get_or bytes k 0 ≢ 10) → HasNoFeed (slice_range bytes start end)
no_feed_between bytes start end h j none =
    no_feed_at (slice_range bytes start end) (λ k below e.
    let long = length-range bytes start end h j in
    let within : k < end - start = omega (arith, long, below) in
    let same = get_or-take (end - start) (drop start bytes) k 0 within ∙ get_or-drop start bytes k 0 in
    none (start + k) (omega arith) (omega (arith, within)) (sym same ∙ e))

-- a line feed at a place ends what comes before it
pub split_at_feed : (bytes : List ℕ) (start end : ℕ) → start ≤ end → end < length bytes → get_or bytes end 0 ≡ 10
    → drop start bytes ≡ slice_range bytes start end ++ line_feed ∷ drop (end + 1) bytes
split_at_feed bytes start end h j feed =
    drop_split bytes start end h
    ∙ ap (λ l. slice_range bytes start end ++ l)
    (drop-cons bytes end 0 j ∙ ap (λ (x : ℕ). x ∷ drop (suc end) bytes) feed ∙ ap (λ (n : ℕ). 10 ∷ drop n bytes) (sym (add-one end)))

-- where there is none in the first part and none in the second part, there is none in both
pub searched_more : (bytes : List ℕ) (start middle end : ℕ)
    → ((k : ℕ) → start ≤ k → k < middle → get_or bytes k 0 ≢ 10)
    → ((k : ℕ) → k < end - middle → (get_or (drop middle bytes) k 0 == 10) ≡ true → ⊥)
    → (k : ℕ) → start ≤ k → k < end → get_or bytes k 0 ≢ 10
searched_more bytes start middle end first second k from below e =
    elim (cases_lt k middle) [
      | inl earlier ↦ first k from earlier e
      | inr later ↦
          let there : middle + (k - middle) ≡ k = omega arith in
          let same : get_or (drop middle bytes) (k - middle) 0 ≡ 10 =
          get_or-drop middle bytes (k - middle) 0 ∙ (ap (λ (n : ℕ). get_or bytes n 0) there ∙ e) in
          second (k - middle) (omega (arith, later, below)) (ap (λ (n : ℕ). n == 10) same)
    ]

-- ---- a search for a line feed from a place on

module _ (bytes xs : List ℕ) (same : xs ≡ bytes) (offset searched : ℕ) (begun : offset ≤ searched) (within : searched ≤ length bytes)
    (unbroken : (k : ℕ) → offset ≤ k → k < searched → get_or bytes k 0 ≢ 10) where
  abbrev hay : List ℕ
  hay = slice_range xs searched (length xs)

  hay_is : hay ≡ drop searched bytes
  hay_is = take_rest xs searched ∙ ap (drop searched) same

  length-hay : length hay ≡ length bytes - searched
  length-hay = ap length hay_is ∙ length-drop searched bytes

  pub found_within : (distance : ℕ) → distance < length hay → searched + distance < length bytes
  found_within distance below = let long = length-hay in omega (arith, long, below, within)

  pub found_before : (distance : ℕ) → Nowhere (Passes (is_byte 10) hay) 0 distance
      → (k : ℕ) → offset ≤ k → k < searched + distance → get_or bytes k 0 ≢ 10
  found_before distance none = searched_more bytes offset searched (searched + distance) unbroken (λ k below e.
      none k (omega arith) (omega (arith, below)) (subst (λ (l : List ℕ). (get_or l k 0 == 10) ≡ true) (sym hay_is) e))

  pub found_feed : (distance : ℕ) → Passes (is_byte 10) hay distance → get_or bytes (searched + distance) 0 ≡ 10
  found_feed distance is =
      sym (get_or-drop searched bytes distance 0) ∙ (ap (λ (l : List ℕ). get_or l distance 0) (sym hay_is)
      ∙ eqb-true (get_or hay distance 0) 10 is)

  pub none_found : Nowhere (Passes (is_byte 10) hay) 0 (length hay) → (k : ℕ) → offset ≤ k → k < length bytes → get_or bytes k 0 ≢ 10
  none_found none k from below =
      let long = length-hay in
      found_before (length hay) none k from (omega (arith, long, below, within))

  pub feed_at : (buffer : Buffer) (distance : ℕ) → buffer.bytes.items ≡ bytes → buffer.offset ≡ offset
      → distance < length hay → Nowhere (Passes (is_byte 10) hay) 0 distance → Passes (is_byte 10) hay distance
      → IsFeedAt buffer (searched + distance)
  feed_at buffer distance is from below none feed =
      let place = searched + distance in
      let inside = found_within distance below in
      let after : offset ≤ place = omega (arith, begun) in
      let one_line = no_feed_between bytes offset place after (omega (arith, inside)) (found_before distance none) in
      let split = split_at_feed bytes offset place after inside (found_feed distance feed) in
      record {
        after = subst (λ (n : ℕ). n ≤ place) (sym from) after;
        within = subst (λ (l : List ℕ). place < length l) (sym is) inside;
        one_line = rw (is, from) one_line;
        split = rw (is, from) split;
      }

  pub no_feed_left : Nowhere (Passes (is_byte 10) hay) 0 (length hay) → HasNoFeed (drop offset bytes)
  no_feed_left none =
      let all = no_feed_between bytes offset (length bytes) (omega (arith, begun, within)) (omega arith) (none_found none) in
      subst HasNoFeed (take_rest bytes offset) all
