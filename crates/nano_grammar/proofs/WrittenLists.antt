-- What loops over items and entries have written: texts after one another, lists with no gap
-- at their brackets, and lists with a comma after each item.
use Rattle.std.specs.Bool.{if◌then◌else◌}
use Rattle.std.specs.List.{flat_map}
use Rattle.std.specs.Result.{is_ok}
use Rattle.std.proofs.Common.{◌≡◌, ℕ, suc, ◌+◌, ◌<◌, arith, drop, get_or, length, refl, Bool, true}
use Rattle.std.proofs.Common.{false, List, [], ◌∷◌, ◌++◌, map, encode_utf8_all, sym, ◌∙◌, ap}
use Rattle.std.proofs.Common.{append_assoc, Result, Ok, Err, OnOk, append-nil, encode_utf8}
use Rattle.std.proofs.Math.Seq.{drop-cons}
use Rattle.std.proofs.lemmas.Str.{encodes-append}
use Rattle.std.specs.declared.cmp.Ordering.{Ordering}
use Rattle.std.specs.Cmp.{IsTotalOrder}
use Rattle.std.specs.List.Sorted.{IsStrictlySortedBy}
use Rattle.std.specs.Map.{keys_of}
use Rattle.nano_grammar.specs.Items.{ListPunctuation, Gaps, after_item, items_laid_out, laid_out}
use Rattle.nano_grammar.specs.Items.{item_in_list, closed}
use Rattle.nano_grammar.proofs.LayoutsLaws.{laid_out_same, left_in_list, ended_item}
use Rattle.nano_meaning.proofs.AscendingLaws.{ascending-sorted}
use Rattle.nano_value.specs.Sets.{ascending_items, marked}
use Rattle.nano_meaning.proofs.OrderedSetsLaws.{sorted_marked}
use Rattle.nano_meaning.proofs.SetsLaws.{keys_of-marked}

-- ==== written items

module _ {A S : Type 0} (gaps : Gaps S) (punctuation : ListPunctuation S) (f : A → List S) where
  -- an item comes in the list before what is left
  pub one_more : (ends : Bool) (first : Bool) (x : A) (rest : List A)
      → left_in_list ends gaps punctuation f first (x ∷ rest)
      ≡ item_in_list gaps punctuation first (f x) ++ left_in_list ends gaps punctuation f false rest
  one_more ends true x rest =
      sym (append_assoc gaps.before_item (f x) (after_item ends gaps punctuation f rest))
  one_more ends false x rest =
      let following = after_item ends gaps punctuation f rest in
      let item = sym (append_assoc gaps.before_item (f x) following) in
      let comma = sym (append_assoc gaps.after_comma (gaps.before_item ++ f x) following) in
      ap (λ r. punctuation.comma ∷ r) (ap (λ r. gaps.after_comma ++ r) item ∙ comma)

  -- where a comma comes after each item, the items are written one by one with theirs
  after_is : (xs : List A) → after_item true gaps punctuation f xs
      ≡ punctuation.comma ∷ (gaps.after_comma ++ items_laid_out true gaps punctuation f xs)
  after_is [] = refl
  after_is (x ∷ xs) = refl

  item_split : (x : A) (rest : List S) → ended_item gaps punctuation f x ++ rest
      ≡ gaps.before_item ++ (f x ++ punctuation.comma ∷ (gaps.after_comma ++ rest))
  item_split x rest =
      append_assoc gaps.before_item (f x ++ punctuation.comma ∷ gaps.after_comma) rest
      ∙ ap (λ r. gaps.before_item ++ r) (append_assoc (f x) (punctuation.comma ∷ gaps.after_comma) rest)

  pub items_are_ended : (xs : List A) → items_laid_out true gaps punctuation f xs
      ≡ flat_map (ended_item gaps punctuation f) xs ++ closed true gaps punctuation f
  items_are_ended [] = refl
  items_are_ended (x ∷ xs) =
      let others = flat_map (ended_item gaps punctuation f) xs in
      let end = closed true gaps punctuation f in
      let rest = ap (λ r. punctuation.comma ∷ (gaps.after_comma ++ r)) (items_are_ended xs) in
      let item = ap (λ r. gaps.before_item ++ (f x ++ r)) (after_is xs ∙ rest) in
      let split = sym (item_split x (others ++ end)) in
      item ∙ (split ∙ sym (append_assoc (ended_item gaps punctuation f x) others end))

-- what is written after the bytes that were there, and what is left of the list, make all of
-- it
pub record WritesSoFar {A : Type 0} (ends : Bool) (gaps : Gaps ℕ) (punctuation : ListPunctuation ℕ)
    (W : A → List ℕ) (before now : List ℕ) (first : Bool) (left all : List A) : Type 0 where
  pub done : List ℕ
  pub is : now ≡ before ++ encode_utf8_all done
  pub rest : done ++ left_in_list ends gaps punctuation W first left ≡ laid_out ends gaps punctuation W all

module _ {A : Type 0} (ends : Bool) (gaps : Gaps ℕ) (punctuation : ListPunctuation ℕ) (W : A → List ℕ) where
  -- once the opening bracket is written, and the gap after it
  pub write_start : (before now : List ℕ) (left all : List A)
      → now ≡ before ++ encode_utf8_all (punctuation.opening ∷ gaps.after_opening) → left ≡ all
      → WritesSoFar ends gaps punctuation W before now true left all
  write_start before now left all is e = record {
    done = punctuation.opening ∷ gaps.after_opening;
    is = is;
    rest =
        ap (λ xs. punctuation.opening ∷ (gaps.after_opening ++ items_laid_out ends gaps punctuation W xs)) e;
  }

  pub write_step : (before now more : List ℕ) (first : Bool) (left rest all : List A) (x : A)
      → WritesSoFar ends gaps punctuation W before now first left all → left ≡ x ∷ rest
      → more ≡ now ++ encode_utf8_all (item_in_list gaps punctuation first (W x))
      → WritesSoFar ends gaps punctuation W before more false rest all
  write_step before now more first left rest all x h i e =
      let item = item_in_list gaps punctuation first (W x) in
      let others = left_in_list ends gaps punctuation W false rest in
      let joined = ap (λ l. before ++ l) (sym (encodes-append h.done item)) in
      let bytes = append_assoc before (encode_utf8_all h.done) (encode_utf8_all item) ∙ joined in
      let split = sym (one_more gaps punctuation W ends first x rest) in
      let left_is = split ∙ ap (left_in_list ends gaps punctuation W first) (sym i) in
      record {
        done = h.done ++ item;
        is = e ∙ (ap (λ l. l ++ encode_utf8_all item) h.is ∙ bytes);
        rest = append_assoc h.done item others ∙ (ap (λ l. h.done ++ l) left_is ∙ h.rest);
      }

  -- the item of a slice that stands at i
  pub write_next : (before now more : List ℕ) (first : Bool) (i : ℕ) (all : List A) (x : A)
      → i < length all → x ≡ get_or all i x
      → WritesSoFar ends gaps punctuation W before now first (drop i all) all
      → more ≡ now ++ encode_utf8_all (item_in_list gaps punctuation first (W x))
      → WritesSoFar ends gaps punctuation W before more false (drop (i + 1) all) all
  write_next before now more first i all x inside is h e =
      let next : suc i ≡ i + 1 = omega arith in
      let left = drop-cons all i x inside ∙ (λ j. sym is j ∷ drop (next j) all) in
      write_step before now more first (drop i all) (drop (i + 1) all) all x h left e

  -- once the end of the list is written
  pub write_end : (before now after : List ℕ) (first : Bool) (left all : List A)
      → WritesSoFar ends gaps punctuation W before now first left all → left ≡ []
      → after ≡ now ++ encode_utf8_all (left_in_list ends gaps punctuation W first [])
      → after ≡ before ++ encode_utf8_all (laid_out ends gaps punctuation W all)
  write_end before now after first left all h none e =
      let end = left_in_list ends gaps punctuation W first [] in
      let whole : h.done ++ end ≡ laid_out ends gaps punctuation W all = ap (λ l. h.done ++ left_in_list ends gaps punctuation W first l) (sym none) ∙ h.rest in
      let joined = sym (encodes-append h.done end) ∙ ap encode_utf8_all whole in
      let bytes = append_assoc before (encode_utf8_all h.done) (encode_utf8_all end) in
      e ∙ (ap (λ l. l ++ encode_utf8_all end) h.is ∙ (bytes ∙ ap (λ l. before ++ l) joined))

-- an entry in a list is its prefix there, and the rest
pub entry_in_list : (gaps : Gaps ℕ) (punctuation : ListPunctuation ℕ) (first : Bool) (key rest : List ℕ)
    → item_in_list gaps punctuation first (key ++ rest) ≡ item_in_list gaps punctuation first key ++ rest
entry_in_list gaps punctuation true key rest = sym (append_assoc gaps.before_item key rest)
entry_in_list gaps punctuation false key rest =
    let item = sym (append_assoc gaps.before_item key rest) in
    let comma = sym (append_assoc gaps.after_comma (gaps.before_item ++ key) rest) in
    ap (λ r. punctuation.comma ∷ r) (ap (λ r. gaps.after_comma ++ r) item ∙ comma)

maps_join : {A B : Type 0} (W : B → List ℕ) (f : A → B) (xs : List A)
    → map W (map f xs) ≡ map (λ x. W (f x)) xs
maps_join W f [] = refl
maps_join W f (x ∷ xs) = ap (λ l. W (f x) ∷ l) (maps_join W f xs)

-- what is written of references is what is written of what they refer to
pub mapped_laid_out : {A B : Type 0} (ends : Bool) (gaps : Gaps ℕ) (punctuation : ListPunctuation ℕ)
    (W : B → List ℕ) (f : A → B) (xs : List A)
    → laid_out ends gaps punctuation (λ x. W (f x)) xs ≡ laid_out ends gaps punctuation W (map f xs)
mapped_laid_out ends gaps punctuation W f xs =
    sym (laid_out_same ends gaps punctuation W (λ x. W (f x)) (map f xs) xs (maps_join W f xs))

-- what a `push` says, where it succeeds
pub pushed : {T E : Type 0} (r : Result T E) (before after more : List ℕ)
    → after ≡ if is_ok r then (before ++ more) else before → OnOk r (after ≡ before ++ more)
pushed (Ok x) before after more h = h
pushed (Err e) before after more h = tt

-- ==== written lists

-- one text after another
pub both_written : (now more after x y : List ℕ) → more ≡ now ++ encode_utf8_all x
    → after ≡ more ++ encode_utf8_all y → after ≡ now ++ encode_utf8_all (x ++ y)
both_written now more after x y e k =
    k ∙ (ap (λ l. l ++ encode_utf8_all y) e
    ∙ (append_assoc now (encode_utf8_all x) (encode_utf8_all y)
    ∙ ap (λ l. now ++ l) (sym (encodes-append x y))))

-- one character
pub one_written : (now after : List ℕ) (c : ℕ) → after ≡ now ++ encode_utf8 c
    → after ≡ now ++ encode_utf8_all (c ∷ [])
one_written now after c e = e ∙ ap (λ l. now ++ l) (sym (append-nil (encode_utf8 c)))

-- a text after a punctuator
pub after_punctuator : (now more after : List ℕ) (c : ℕ) (text : List ℕ) → more ≡ now ++ encode_utf8 c
    → after ≡ more ++ encode_utf8_all text → after ≡ now ++ encode_utf8_all (c ∷ text)
after_punctuator now more after c text e k =
    both_written now more after (c ∷ []) text (one_written now more c e) k

-- a part with what comes after it, and the other parts after that
pub parts_written : (now more after part between parts : List ℕ)
    → more ≡ now ++ encode_utf8_all (part ++ between)
    → after ≡ more ++ encode_utf8_all parts
    → after ≡ now ++ encode_utf8_all (part ++ (between ++ parts))
parts_written now more after part between parts e k =
    both_written now more after (part ++ between) parts e k
    ∙ ap (λ l. now ++ encode_utf8_all l) (append_assoc part between parts)

-- once the opening bracket is written of a list that has no gap after it
pub list_begun : {A : Type 0} (gaps : Gaps ℕ) (punctuation : ListPunctuation ℕ) (W : A → List ℕ)
    → gaps.after_opening ≡ [] → (before now : List ℕ) (left all : List A)
    → now ≡ before ++ encode_utf8 punctuation.opening → left ≡ all
    → WritesSoFar false gaps punctuation W before now true left all
list_begun gaps punctuation W none before now left all is e =
    write_start false gaps punctuation W before now left all
    (one_written before now punctuation.opening is
    ∙ ap (λ l. before ++ encode_utf8_all (punctuation.opening ∷ l)) (sym none)) e

-- the closing bracket of a list that has no gap before it, and no comma after the last item
after_closing : {A : Type 0} (now after : List ℕ) (gaps : Gaps ℕ) (punctuation : ListPunctuation ℕ)
    (W : A → List ℕ) → gaps.before_closing ≡ [] → (first : Bool)
    → after ≡ now ++ encode_utf8 punctuation.closing
    → after ≡ now ++ encode_utf8_all (left_in_list false gaps punctuation W first [])
after_closing now after gaps punctuation W none true e =
    one_written now after punctuation.closing e
    ∙ ap (λ l. now ++ encode_utf8_all (l ++ punctuation.closing ∷ [])) (sym none)
after_closing now after gaps punctuation W none false e =
    one_written now after punctuation.closing e
    ∙ ap (λ l. now ++ encode_utf8_all (l ++ punctuation.closing ∷ [])) (sym none)

-- once that bracket is written
pub list_ended : {A : Type 0} (gaps : Gaps ℕ) (punctuation : ListPunctuation ℕ) (W : A → List ℕ)
    → gaps.before_closing ≡ [] → (before now after : List ℕ) (first : Bool) (left all : List A)
    → WritesSoFar false gaps punctuation W before now first left all → left ≡ []
    → after ≡ now ++ encode_utf8 punctuation.closing
    → after ≡ before ++ encode_utf8_all (laid_out false gaps punctuation W all)
list_ended gaps punctuation W none before now after first left all h empty e =
    write_end false gaps punctuation W before now after first left all h empty
    (after_closing now after gaps punctuation W none first e)

module _ {A : Type 0} (gaps : Gaps ℕ) (punctuation : ListPunctuation ℕ) (W : A → List ℕ) where
  -- where a comma comes after each item, an item with its comma comes before what is left
  line_split : (x : A) (rest : List A) → items_laid_out true gaps punctuation W (x ∷ rest)
      ≡ ended_item gaps punctuation W x ++ items_laid_out true gaps punctuation W rest
  line_split x rest =
      let item = ended_item gaps punctuation W x in
      let others = flat_map (ended_item gaps punctuation W) rest in
      items_are_ended gaps punctuation W (x ∷ rest)
      ∙ (append_assoc item others (closed true gaps punctuation W)
      ∙ ap (λ l. item ++ l) (sym (items_are_ended gaps punctuation W rest)))

  pub write_line : (before now more : List ℕ) (left rest all : List A) (x : A)
      → WritesSoFar true gaps punctuation W before now true left all → left ≡ x ∷ rest
      → more ≡ now ++ encode_utf8_all (ended_item gaps punctuation W x)
      → WritesSoFar true gaps punctuation W before more true rest all
  write_line before now more left rest all x h i e =
      let item = ended_item gaps punctuation W x in
      let others = items_laid_out true gaps punctuation W rest in
      let joined = ap (λ l. before ++ l) (sym (encodes-append h.done item)) in
      let bytes = append_assoc before (encode_utf8_all h.done) (encode_utf8_all item) ∙ joined in
      let left_is = sym (line_split x rest) ∙ ap (items_laid_out true gaps punctuation W) (sym i) in
      record {
        done = h.done ++ item;
        is = e ∙ (ap (λ l. l ++ encode_utf8_all item) h.is ∙ bytes);
        rest = append_assoc h.done item others ∙ (ap (λ l. h.done ++ l) left_is ∙ h.rest);
      }

  -- the item of a slice that stands at i
  pub write_next_line : (before now more : List ℕ) (i : ℕ) (all : List A) (x : A)
      → i < length all → x ≡ get_or all i x
      → WritesSoFar true gaps punctuation W before now true (drop i all) all
      → more ≡ now ++ encode_utf8_all (ended_item gaps punctuation W x)
      → WritesSoFar true gaps punctuation W before more true (drop (i + 1) all) all
  write_next_line before now more i all x inside is h e =
      let next : suc i ≡ i + 1 = omega arith in
      let left = drop-cons all i x inside ∙ (λ j. sym is j ∷ drop (next j) all) in
      write_line before now more (drop i all) (drop (i + 1) all) all x h left e

-- items that stand in order are those in order
pub in_order : {K : Type 0} {R : K → K → Ordering} → IsTotalOrder R → (ks : List K)
    → IsStrictlySortedBy R ks → ascending_items R ks ≡ ks
in_order {R = R} total ks sorted =
    ap keys_of (ascending-sorted total (marked ks) (sorted_marked R ks sorted)) ∙ keys_of-marked ks
