-- What is left of a stream after each step.
use Rattle.std.proofs.Common.{◌≡◌, ◌≢◌, ℕ, ◌+◌, ◌-◌, ◌<◌, ◌≤◌, List, [], ◌∷◌, ◌++◌, Bool, true, false, Option, None, Some}
use Rattle.std.proofs.Common.{length, drop, slice_range, refl, sym, ap, subst, ◌∙◌, arith, ◌⊎◌, inl, inr}
use Rattle.std.proofs.Common.{append_assoc, append-nil, length-append}
use Rattle.std.proofs.lemmas.Bool.{false≢true}
use Rattle.std.proofs.lemmas.List.{drop_all, take_rest}
use Rattle.std.specs.Io.KnownBytes.{Consumes, Keeps, IsAtEnd}
use Rattle.nano_text.specs.Characters.{line_feed}
use Rattle.nano_text.specs.Place.{saturating_next}
use Rattle.nano_lines.specs.declared.lines.Lines.{Lines}
use Rattle.nano_lines.specs.Buffers.{unread, unread_to}
use Rattle.nano_lines.specs.Left.{AreLost, IsLeft, IsLastAt, IsWhole, IsEnded, IsTooLong}
use Rattle.nano_lines.specs.Lines.{HasNoFeed, IsLastLine, BeginsWithLine, BeginsWithLines}
use Rattle.nano_lines.specs.Steps.{number_after, Follows, TakesLines, KeepsAll, TakesLongLine, TakesLine}
use Rattle.nano_lines.specs.declared.error.Fault.{Fault}
use Rattle.nano_lines.specs.declared.error.Fault.TheVariants.{Long, Stream}
use Rattle.nano_lines.specs.Steps.{Finds, FindsNone, ReadFails}
use Rattle.nano_lines.proofs.FeedLemmas.{no_feed-append, length-range}

some_same : (xs ys : List ℕ) → Some xs ≡ Some ys → xs ≡ ys
some_same xs ys e = cc

consumed : (known left : Option (List ℕ)) (came coming : List ℕ) → Consumes known left came → known ≡ Some coming
    → (rest : List ℕ) × (left ≡ Some rest) × (coming ≡ came ++ rest)
consumed None left came coming h e = absurd (cc)
consumed (Some xs) None came coming h e = absurd h
consumed (Some xs) (Some ys) came coming h e = (ys, refl, sym (some_same xs coming e) ∙ h)

unchanged : (known left : Option (List ℕ)) (coming : List ℕ) → Keeps known left → known ≡ Some coming → left ≡ Some coming
unchanged None left coming h e = absurd (cc)
unchanged (Some xs) None coming h e = absurd h
unchanged (Some xs) (Some ys) coming h e = ap Some (h ∙ some_same xs coming e)

at_end : (known : Option (List ℕ)) (coming : List ℕ) → IsAtEnd known → known ≡ Some coming → coming ≡ []
at_end None coming h e = absurd (cc)
at_end (Some xs) coming h e = sym (some_same xs coming e) ∙ h

-- ---- lines

pub lines-append : (xs ys : List (List ℕ)) (a b c : List ℕ) → BeginsWithLines xs a b → BeginsWithLines ys b c
    → BeginsWithLines (xs ++ ys) a c
lines-append [] ys a b c h j = subst (λ (l : List ℕ). BeginsWithLines ys l c) (sym h) j
lines-append (x ∷ xs) ys a b c h j = (h.0, h.1, lines-append xs ys h.0 b c h.2 j)

pub number-append : (xs ys : List (List ℕ)) (n : ℕ) → number_after n (xs ++ ys) ≡ number_after (number_after n xs) ys
number-append [] ys n = refl
number-append (x ∷ xs) ys n = number-append xs ys (saturating_next n)

module _ {R : Type 0} (remaining : R → Option (List ℕ)) where
  pub keeps-same : (a : Lines R) → KeepsAll remaining a a
  keeps-same a = record { left = λ s h. (s, refl, h); number = refl; limit = refl }

  pub takes-trans : (a b c : Lines R) (xs ys : List (List ℕ)) → TakesLines remaining a b xs
      → TakesLines remaining b c ys → TakesLines remaining a c (xs ++ ys)
  takes-trans a b c xs ys h j = record {
    left = λ s l.
        let first = h.left s l in
        let second = j.left first.0 first.2 in
        (second.0, lines-append xs ys s first.0 second.0 first.1 second.1, second.2);
    number = j.number ∙ (ap (λ n. number_after n ys) h.number ∙ sym (number-append xs ys a.number));
    limit = j.limit ∙ h.limit;
  }

  same_lost : (old new : Lines R) (lost : List ℕ) → new.long ≡ old.long → new.limit ≡ old.limit → AreLost old lost → AreLost new lost
  same_lost old new lost long limit h = record {
    none = λ e. h.none (sym long ∙ e);
    beyond = λ e. subst (λ (n : ℕ). n < length lost) (sym limit) (h.beyond (sym long ∙ e));
    one_line = h.one_line;
  }

  keeps_left : (old new : Lines R) → new.number ≡ old.number → new.limit ≡ old.limit
      → ((stream : List ℕ) → IsLeft remaining old stream → IsLeft remaining new stream) → KeepsAll remaining old new
  keeps_left old new number limit h = record { left = λ s l. (s, refl, h s l); number = number; limit = limit }

  -- more was read
  pub keeps_read : (old new : Lines R) (came : List ℕ) → new.number ≡ old.number → new.limit ≡ old.limit → new.long ≡ old.long
      → unread new.buffer ≡ unread old.buffer ++ came → Consumes (remaining old.input) (remaining new.input) came
      → KeepsAll remaining old new
  keeps_read old new came number limit long following h = keeps_left old new number limit (λ s l.
      let rest = consumed (remaining old.input) (remaining new.input) came l.coming h l.known in
      record {
        lost = l.lost;
        coming = rest.0;
        are_lost = same_lost old new l.lost long limit l.are_lost;
        known = rest.1;
        whole =
            l.whole ∙ ap (λ (x : List ℕ). l.lost ++ x) (ap (λ (x : List ℕ). unread old.buffer ++ x) rest.2
            ∙ (sym (append_assoc (unread old.buffer) came rest.0) ∙ ap (λ (x : List ℕ). x ++ rest.0) (sym following)));
      })

  -- nothing was read
  pub keeps_unread : (old new : Lines R) → new.number ≡ old.number → new.limit ≡ old.limit → new.long ≡ old.long
      → unread new.buffer ≡ unread old.buffer → Keeps (remaining old.input) (remaining new.input)
      → KeepsAll remaining old new
  keeps_unread old new number limit long same h = keeps_left old new number limit (λ s l. record {
    lost = l.lost;
    coming = l.coming;
    are_lost = same_lost old new l.lost long limit l.are_lost;
    known = unchanged (remaining old.input) (remaining new.input) l.coming h l.known;
    whole = l.whole ∙ ap (λ (x : List ℕ). l.lost ++ (x ++ l.coming)) (sym same);
  })

  too_long : (lines : Lines R) (place : ℕ) (lost : List ℕ) → AreLost lines lost → lines.buffer.offset ≤ place
      → place ≤ length lines.buffer.bytes.items → IsTooLong lines place
      → lines.limit < length (lost ++ unread_to lines.buffer place)
  too_long lines place lost h after within long =
      let parts = length-append lost (unread_to lines.buffer place) in
      let range = length-range lines.buffer.bytes.items lines.buffer.offset place after within in
      elim long [
        | inl is ↦ let beyond = h.beyond is in omega (arith, parts, beyond)
        | inr far ↦ omega (arith, parts, range, far)
      ]

  -- the bytes of a line that is too long were let go of
  pub keeps_long : (old new : Lines R) (place : ℕ) → place ≡ length old.buffer.bytes.items → old.buffer.offset ≤ place
      → HasNoFeed (unread old.buffer) → IsTooLong old place → new.long ≡ true → new.number ≡ old.number
      → new.limit ≡ old.limit → new.input ≡ old.input → unread new.buffer ≡ [] → KeepsAll remaining old new
  keeps_long old new place whole after none long is number limit input nothing = keeps_left old new number limit (λ s l.
      let all : unread_to old.buffer place ≡ unread old.buffer =
      ap (λ (n : ℕ). slice_range old.buffer.bytes.items old.buffer.offset n) whole ∙ take_rest old.buffer.bytes.items old.buffer.offset in
      let beyond = too_long old place l.lost l.are_lost after (omega (arith, whole)) long in
      record {
        lost = l.lost ++ unread old.buffer;
        coming = l.coming;
        are_lost = record {
          none = λ e. absurd (false≢true (sym e ∙ is));
          beyond = λ e. subst (λ (n : ℕ). n < length (l.lost ++ unread old.buffer)) (sym limit)
              (subst (λ (x : List ℕ). old.limit < length (l.lost ++ x)) all beyond);
          one_line = no_feed-append l.lost (unread old.buffer) l.are_lost.one_line none;
        };
        known = ap remaining input ∙ l.known;
        whole =
            l.whole ∙ (sym (append_assoc l.lost (unread old.buffer) l.coming)
            ∙ ap (λ (x : List ℕ). (l.lost ++ unread old.buffer) ++ (x ++ l.coming)) (sym nothing));
      })

  -- nothing is left
  pub ended : (lines : Lines R) → lines.long ≡ false → lines.buffer.offset ≡ length lines.buffer.bytes.items
      → IsAtEnd (remaining lines.input) → IsEnded remaining lines
  ended lines long offset end s l =
      l.whole ∙ (ap (λ (x : List ℕ). x ++ (unread lines.buffer ++ l.coming)) (l.are_lost.none long)
      ∙ (ap (λ (x : List ℕ). x ++ l.coming) (drop_all lines.buffer.offset lines.buffer.bytes.items (omega (arith, offset)))
      ∙ at_end (remaining lines.input) l.coming end l.known))

-- ---- what is found after nothing was taken

module _ {R : Type 0} (remaining : R → Option (List ℕ)) where
  -- only the search went on
  pub keeps_searched : (old new : Lines R) → new.number ≡ old.number → new.limit ≡ old.limit → new.long ≡ old.long
      → new.input ≡ old.input → new.buffer.bytes ≡ old.buffer.bytes → new.buffer.offset ≡ old.buffer.offset
      → KeepsAll remaining old new
  keeps_searched old new number limit long input bytes offset = record {
    left = λ s l. (
      s,
      refl,
      record {
        lost = l.lost;
        coming = l.coming;
        are_lost = same_lost remaining old new l.lost long limit l.are_lost;
        known = ap remaining input ∙ l.known;
        whole = l.whole ∙ ap (λ (x : List ℕ). l.lost ++ (x ++ l.coming))
            (ap (λ (n : ℕ). drop n old.buffer.bytes.items) (sym offset) ∙ ap (λ b. drop new.buffer.offset b.items) (sym bytes));
      },
    );
    number = number;
    limit = limit;
  }

  pub finds-after : (a b c : Lines R) (found : Option ℕ) → KeepsAll remaining a b → Finds remaining b c found
      → Finds remaining a c found
  finds-after a b c found h j = record { unchanged = takes-trans remaining a b c [] [] h j.unchanged; whole = j.whole; is = j.is }

  takes_long-after : (a b c : Lines R) (xs : List (List ℕ)) → KeepsAll remaining a b → TakesLongLine remaining b c → TakesLongLine remaining a c
  takes_long-after a b c xs h j = record {
    left = λ s l.
        let first = h.left s l in
        let second = j.left first.0 first.2 in (
          second.0,
          subst (λ (x : List ℕ). Follows remaining a c (second.0 ∷ []) x) (sym first.1) second.1,
          subst (λ (n : ℕ). n < length second.0) h.limit second.2,
        );
    number = j.number ∙ ap saturating_next h.number;
    limit = j.limit ∙ h.limit;
  }

  pub finds_none-after : (a b c : Lines R) (fault : Fault) → KeepsAll remaining a b → FindsNone remaining b c fault
      → FindsNone remaining a c fault
  finds_none-after a b c (Long number) h j = (j.0 ∙ h.number, takes_long-after a b c [] h j.1)
  finds_none-after a b c (Stream error) h j = takes-trans remaining a b c [] [] h j
  finds_none-after a b c _ h j = absurd j

  pub read_fails : (a b c : Lines R) (fault : Fault) → KeepsAll remaining a b → ReadFails remaining b c fault
      → FindsNone remaining a c fault
  read_fails a b c fault h j =
      subst (FindsNone remaining a c) (sym j.is.1) (takes-trans remaining a b c [] [] h j.unchanged)

-- ---- a line that is taken

module _ {R : Type 0} (remaining : R → Option (List ℕ)) (old new : Lines R) (place : ℕ) (is : IsWhole remaining old place)
    (past : unread new.buffer ≡ drop (place + 1) old.buffer.bytes.items)
    (input : new.input ≡ old.input) (number : new.number ≡ saturating_next old.number) (limit : new.limit ≡ old.limit)
    (whole : new.long ≡ false) where
  unlost : AreLost new []
  unlost = record { none = λ _. refl; beyond = λ e. absurd (false≢true (sym whole ∙ e)); one_line = tt }

  some_of : (long : Bool) → old.long ≡ long → (lost : List ℕ) → AreLost old lost → IsLastAt remaining old place
      → length (lost ++ unread_to old.buffer place) ≡ length lost + length (unread_to old.buffer place)
      → length (unread_to old.buffer place) ≡ place - old.buffer.offset
      → length (lost ++ unread_to old.buffer place) ≡ 0 → ⊥
  some_of true e lost are last parts range none = let beyond = are.beyond e in omega (arith, beyond, parts, none)
  some_of false e lost are last parts range none = let some = last.some e in omega (arith, some, parts, range, none)

  some_last : (lost : List ℕ) → AreLost old lost → IsLastAt remaining old place → lost ++ unread_to old.buffer place ≢ []
  some_last lost are last e =
      let parts = length-append lost (unread_to old.buffer place) in
      let range = length-range old.buffer.bytes.items old.buffer.offset place is.after is.within in
      let none : length (lost ++ unread_to old.buffer place) ≡ 0 = ap length e in
      some_of old.long refl lost are last parts range none

  line_begins : (lost coming : List ℕ) → AreLost old lost → remaining old.input ≡ Some coming
      → BeginsWithLine (lost ++ (unread old.buffer ++ coming)) (lost ++ unread_to old.buffer place) (unread new.buffer ++ coming)
  line_begins lost coming are known =
      let line = unread_to old.buffer place in
      record {
        one_line = no_feed-append lost line are.one_line is.one_line;
        ends = elim is.ends as (λ _. (lost ++ (unread old.buffer ++ coming) ≡ (lost ++ line) ++ line_feed ∷ (unread new.buffer ++ coming))
            ⊎ IsLastLine (lost ++ (unread old.buffer ++ coming)) (lost ++ line) (unread new.buffer ++ coming)) [
              | inl feed ↦ inl (ap (λ (x : List ℕ). lost ++ (x ++ coming)) (feed ∙ ap (λ (x : List ℕ). line ++ line_feed ∷ x) (sym past))
                  ∙ (ap (λ (x : List ℕ). lost ++ x) (append_assoc line (line_feed ∷ unread new.buffer) coming)
                  ∙ sym (append_assoc lost line (line_feed ∷ (unread new.buffer ++ coming)))))
              | inr last ↦
                  let nothing = at_end (remaining old.input) coming last.ended known in
                  let all : line ≡ unread old.buffer =
                  ap (λ (n : ℕ). slice_range old.buffer.bytes.items old.buffer.offset n) last.whole ∙ take_rest old.buffer.bytes.items old.buffer.offset in
                  inr (record {
                    whole =
                        ap (λ (x : List ℕ). lost ++ (unread old.buffer ++ x)) nothing
                        ∙ (ap (λ (x : List ℕ). lost ++ x) (append-nil (unread old.buffer) ∙ sym all));
                    some = some_last lost are last;
                    nothing =
                        ap (λ (x : List ℕ). x ++ coming) (past ∙ drop_all (place + 1) old.buffer.bytes.items (let w = last.whole in omega (arith, w)))
                        ∙ nothing;
                  })
            ];
      }

  taken : (stream : List ℕ) (l : IsLeft remaining old stream)
      → BeginsWithLine stream (l.lost ++ unread_to old.buffer place) (unread new.buffer ++ l.coming)
      × IsLeft remaining new (unread new.buffer ++ l.coming)
  taken stream l = (
    subst (λ (x : List ℕ). BeginsWithLine x (l.lost ++ unread_to old.buffer place) (unread new.buffer ++ l.coming)) (sym l.whole)
        (line_begins l.lost l.coming l.are_lost l.known),
    record { lost = []; coming = l.coming; are_lost = unlost; known = ap remaining input ∙ l.known; whole = refl },
  )

  pub takes_line : TakesLine remaining old new place
  takes_line = record {
    short = λ long. record {
      left = λ s l.
          let t = taken s l in
          let line : l.lost ++ unread_to old.buffer place ≡ unread_to old.buffer place =
          ap (λ (x : List ℕ). x ++ unread_to old.buffer place) (l.are_lost.none long) in
          (unread new.buffer ++ l.coming, (unread new.buffer ++ l.coming, subst (λ (x : List ℕ). BeginsWithLine s x (unread new.buffer ++ l.coming)) line t.0, refl), t.1);
      number = number;
      limit = limit;
    };
    beyond = λ long. record {
      left = λ s l.
          let t = taken s l in (
            l.lost ++ unread_to old.buffer place,
            (unread new.buffer ++ l.coming, (unread new.buffer ++ l.coming, t.0, refl), t.1),
            too_long remaining old place l.lost l.are_lost is.after is.within long,
          );
      number = number;
      limit = limit;
    };
    whole = whole;
  }
