-- What is proved of Layouts.
use Rattle.std.specs.Prelude.{◌≡◌, ℕ, Bool, true, false, cond, List, [], ◌∷◌, ◌++◌, map, refl}
use Rattle.std.specs.List.{AllByRecursion, flat_map}
use Rattle.std.proofs.Common.{ap, inl, inr, ◌≢◌, ◌⊎◌, sym, ◌∙◌, subst, append_assoc}
use Rattle.nano_grammar.specs.Items.{ListPunctuation, EncodedItems, EncodedList, Gaps, no_gaps}
use Rattle.nano_grammar.specs.Items.{closed, after_item, items_laid_out, laid_out, with_punctuator}
use Rattle.nano_grammar.specs.Items.{with_closing, with_opening, PunctuationIs, AreGaps}
use Rattle.nano_grammar.proofs.ItemLaws.{EncodedAfter}
use Rattle.nano_grammar.specs.Tokens.{Cutting, IsWrittenAs, IsValueText, IsPunctuator, Follows}
use Rattle.nano_grammar.specs.Tokens.{IsWrittenGap}
use Rattle.nano_grammar.proofs.TokensLaws.{Anything, written_after_gap, written_both}
use Rattle.nano_grammar.proofs.TokensLaws.{written_punctuator, written_after_punctuator}
use Rattle.nano_grammar.proofs.TokensLaws.{written_value}
use Rattle.nano_grammar.specs.Promises.{joined, EncodeEach, JoinedList, ListsAreJoined}

-- what is left of a list once some items are written, the closing bracket with it
abbrev pub left_in_list : {A S : Type 0} → Bool → Gaps S → ListPunctuation S → (A → List S) → Bool
    → List A → List S
left_in_list ends gaps punctuation f first xs =
    cond first (items_laid_out ends gaps punctuation f xs) (after_item ends gaps punctuation f xs)

-- an item with all that is around it, where a comma comes after each
abbrev pub ended_item : {A S : Type 0} → Gaps S → ListPunctuation S → (A → List S) → A → List S
ended_item gaps punctuation f x = gaps.before_item ++ (f x ++ punctuation.comma ∷ gaps.after_comma)

-- ---- punctuation and gaps of a format

module _ {T A : Type 0} (c : Cutting T) (tokens : ListPunctuation T)
    (punctuation : ListPunctuation ℕ)
    (punctuation_is : PunctuationIs c tokens punctuation) (ends : Bool) (gaps : Gaps ℕ)
    (gaps_are : AreGaps c ends punctuation gaps) (f : A → List T) (g : A → List ℕ) where
  -- what is written, in tokens and in characters
  abbrev closed_text : List ℕ
  closed_text = closed ends gaps punctuation g

  abbrev after_text : List A → List ℕ
  after_text = after_item ends gaps punctuation g

  abbrev after_tokens : List A → List T
  after_tokens = after_item ends no_gaps tokens f

  abbrev Written : List T → List ℕ → Type 0
  Written = IsWrittenAs c Anything

  closed_written : Written (tokens.closing ∷ []) closed_text
  closed_written =
      written_after_gap c Anything (tokens.closing ∷ []) gaps.before_closing
      (punctuation.closing ∷ [])
      gaps_are.before_closing
      (written_punctuator c tokens.closing punctuation.closing punctuation_is.closing)

  -- the end of the list, with a comma or without
  end_written : (b : Bool)
      → Written (cond b (tokens.comma ∷ tokens.closing ∷ []) (tokens.closing ∷ []))
      (cond b (punctuation.comma ∷ (gaps.after_comma ++ closed_text)) closed_text)
  end_written true =
      written_after_punctuator c Anything tokens.comma punctuation.comma (tokens.closing ∷ [])
      (gaps.after_comma ++ closed_text) punctuation_is.comma
      (written_after_gap c Anything (tokens.closing ∷ []) gaps.after_comma closed_text
      gaps_are.after_comma closed_written)
  end_written false = closed_written

  end_follows : (b : Bool) → ends ≡ b → (rest : List ℕ) → c.may_follow
      (cond b (punctuation.comma ∷ (gaps.after_comma ++ closed_text)) closed_text ++ rest)
  end_follows true e rest = punctuation_is.comma_follows ((gaps.after_comma ++ closed_text) ++ rest)
  end_follows false e rest = gaps_are.closing_follows e rest

  after_follows : (xs : List A) (rest : List ℕ) → c.may_follow (after_text xs ++ rest)
  after_follows [] rest = end_follows ends refl rest
  after_follows (x ∷ xs) rest = punctuation_is.comma_follows _

  -- an item, and what comes after it
  item_written : (x : A) (xs : List A) → IsValueText c (f x) (g x)
      → Written (after_tokens xs) (after_text xs)
      → Written (f x ++ after_tokens xs) (gaps.before_item ++ (g x ++ after_text xs))
  item_written x xs h k =
      let us = after_tokens xs in
      let following = after_text xs in
      let follows = λ (rest : List ℕ) (_ : Unit {0}). after_follows xs rest in
      written_after_gap c Anything (f x ++ us) gaps.before_item (g x ++ following)
      gaps_are.before_item
      (written_both c c.may_follow Anything (f x) us (g x) following h k follows)

  after_written : (xs : List A) → AllByRecursion (λ x. IsValueText c (f x) (g x)) xs
      → Written (after_tokens xs) (after_text xs)
  after_written [] h = end_written ends
  after_written (x ∷ xs) h =
      let us = f x ++ after_tokens xs in
      let item = gaps.before_item ++ (g x ++ after_text xs) in
      written_after_punctuator c Anything tokens.comma punctuation.comma us
      (gaps.after_comma ++ item)
      punctuation_is.comma
      (written_after_gap c Anything us gaps.after_comma item gaps_are.after_comma
      (item_written x xs h.0 (after_written xs h.1)))

  items_written : (xs : List A) → AllByRecursion (λ x. IsValueText c (f x) (g x)) xs
      → Written (items_laid_out ends no_gaps tokens f xs)
      (items_laid_out ends gaps punctuation g xs)
  items_written [] h = closed_written
  items_written (x ∷ xs) h = item_written x xs h.0 (after_written xs h.1)

  -- a list of values, each of which is cut into its tokens, is cut into theirs with the
  -- punctuation
  pub laid_out_written : (xs : List A) → AllByRecursion (λ x. IsValueText c (f x) (g x)) xs
      → IsValueText c (laid_out ends no_gaps tokens f xs) (laid_out ends gaps punctuation g xs)
  laid_out_written xs h =
      let us = items_laid_out ends no_gaps tokens f xs in
      let items = items_laid_out ends gaps punctuation g xs in
      written_value c (tokens.opening ∷ us) (punctuation.opening ∷ (gaps.after_opening ++ items))
      (written_after_punctuator c Anything tokens.opening punctuation.opening us
      (gaps.after_opening ++ items) punctuation_is.opening
      (written_after_gap c Anything us gaps.after_opening items gaps_are.after_opening
      (items_written xs h)))

module _ {T : Type 0} (c : Cutting T) where
  -- two values with a punctuator between them
  pub pair_written : {A B : Type 0} (t : T) (punctuator : ℕ) (gap : List ℕ)
      → IsPunctuator c t punctuator → Follows c punctuator → IsWrittenGap c gap
      → (f : A → List T) (v : A → List ℕ) (g : B → List T) (w : B → List ℕ) (p : A × B)
      → IsValueText c (f p.0) (v p.0) → IsValueText c (g p.1) (w p.1)
      → IsValueText c (with_punctuator t [] f g p) (with_punctuator punctuator gap v w p)
  pair_written t punctuator gap is_punctuator follows is_gap f v g w p h k =
      written_both c c.may_follow c.may_follow (f p.0) (t ∷ g p.1) (v p.0)
      (punctuator ∷ (gap ++ w p.1)) h
      (written_after_punctuator c c.may_follow t punctuator (g p.1) (gap ++ w p.1) is_punctuator
      (written_after_gap c c.may_follow (g p.1) gap (w p.1) is_gap k))
      (λ rest _. follows ((gap ++ w p.1) ++ rest))

  module _ {A : Type 0} (tokens : ListPunctuation T) (punctuation : ListPunctuation ℕ)
      (are : PunctuationIs c tokens punctuation) (f : A → List T) (v : A → List ℕ) (x : A)
      (h : IsValueText c (f x) (v x)) where
    -- the last part of a tuple, with the closing bracket
    pub last_part_written : IsValueText c (with_closing tokens f x) (with_closing punctuation v x)
    last_part_written =
        let end = written_punctuator c tokens.closing punctuation.closing are.closing in
        written_value c (f x ++ tokens.closing ∷ []) (v x ++ punctuation.closing ∷ [])
        (written_both c c.may_follow Anything (f x) (tokens.closing ∷ []) (v x)
        (punctuation.closing ∷ [])
        h end (λ rest _. are.closing_follows rest))

    -- a tuple: its opening bracket, and its parts with the closing bracket
    pub tuple_written : IsValueText c (with_opening tokens f x) (with_opening punctuation v x)
    tuple_written =
        written_after_punctuator c c.may_follow tokens.opening punctuation.opening (f x) (v x)
        are.opening h

-- items that are written alike, one by one, are laid out alike
module _ {A B S : Type 0} (ends : Bool) (gaps : Gaps S) (punctuation : ListPunctuation S)
    (f : A → List S)
    (g : B → List S) where
  after_same : (xs : List A) (ys : List B) → map f xs ≡ map g ys
      → after_item ends gaps punctuation f xs ≡ after_item ends gaps punctuation g ys
  after_same [] [] e = refl
  after_same [] (y ∷ ys) e = absurd (cc)
  after_same (x ∷ xs) [] e = absurd (cc)
  after_same (x ∷ xs) (y ∷ ys) e =
      let head : f x ≡ g y = cc in
      let tail : map f xs ≡ map g ys = cc in
      let rest = after_same xs ys tail in
      λ i. punctuation.comma ∷ (gaps.after_comma ++ (gaps.before_item ++ (head i ++ rest i)))

  items_same : (xs : List A) (ys : List B) → map f xs ≡ map g ys
      → items_laid_out ends gaps punctuation f xs ≡ items_laid_out ends gaps punctuation g ys
  items_same [] [] e = refl
  items_same [] (y ∷ ys) e = absurd (cc)
  items_same (x ∷ xs) [] e = absurd (cc)
  items_same (x ∷ xs) (y ∷ ys) e =
      let head : f x ≡ g y = cc in
      let tail : map f xs ≡ map g ys = cc in
      λ i. gaps.before_item ++ (head i ++ after_same xs ys tail i)

  pub laid_out_same : (xs : List A) (ys : List B) → map f xs ≡ map g ys
      → laid_out ends gaps punctuation f xs ≡ laid_out ends gaps punctuation g ys
  laid_out_same xs ys e =
      ap (λ l. punctuation.opening ∷ (gaps.after_opening ++ l)) (items_same xs ys e)

-- with a comma after the last item or without
module _ {A T V : Type 0} (ends : Bool) (punctuation : ListPunctuation T)
    (encodes : List T → V → Type 0)
    (f : A → List T) (value : A → V) where
  end_encoded : (b : Bool) → EncodedAfter punctuation encodes
      (cond b (punctuation.comma ∷ punctuation.closing ∷ []) (punctuation.closing ∷ [])) []
  end_encoded true = inr (punctuation.closing ∷ [], refl, refl)
  end_encoded false = inl (refl, refl)

  after_encoded : (xs : List A) → AllByRecursion (λ x. encodes (f x) (value x)) xs
      → EncodedAfter punctuation encodes (after_item ends no_gaps punctuation f xs) (map value xs)
  after_encoded [] h = end_encoded ends
  after_encoded (x ∷ xs) h =
      let following = after_item ends no_gaps punctuation f xs in
      inr (f x ++ following, refl, (f x, following, refl, h.0, after_encoded xs h.1))

  items_encoded : (xs : List A) → AllByRecursion (λ x. encodes (f x) (value x)) xs
      → EncodedItems punctuation encodes (items_laid_out ends no_gaps punctuation f xs)
      (map value xs)
  items_encoded [] h = refl
  items_encoded (x ∷ xs) h =
      (f x, after_item ends no_gaps punctuation f xs, refl, h.0, after_encoded xs h.1)

  pub laid_out_encoded : (xs : List A) → AllByRecursion (λ x. encodes (f x) (value x)) xs
      → EncodedList punctuation encodes (laid_out ends no_gaps punctuation f xs) (map value xs)
  laid_out_encoded xs h = (items_laid_out ends no_gaps punctuation f xs, refl, items_encoded xs h)

-- ==== lists that are joined

module _ {T V : Type 0} (punctuation : ListPunctuation T) (encodes : List T → V → Type 0) where
  -- what comes after the items: the closing bracket, with a comma before it or without
  abbrev Ends : List T → Type 0
  Ends end = (end ≡ punctuation.closing ∷ []) ⊎ (end ≡ punctuation.comma ∷ punctuation.closing ∷ [])

  -- after an item: the others, each after a comma, and the end
  record Others (back : List T) (vs : List V) : Type 0 where
    pieces : List (List T)
    end : List T
    each : EncodeEach encodes pieces vs
    ends : Ends end
    is : back ≡ flat_map (λ q. punctuation.comma ∷ q) pieces ++ end

  nothing_left : (vs : List V) (back : List T) → vs ≡ [] → Ends back → Others back vs
  nothing_left vs back none ends = record {
    pieces = [];
    end = back;
    each = subst (EncodeEach encodes []) (sym none) tt;
    ends = ends;
    is = refl;
  }

  others_from : (vs : List V) (back : List T) → EncodedAfter punctuation encodes back vs → Others back vs
  others_from vs back (inl h) = nothing_left vs back h.1 (inl h.0)
  others_from [] back (inr h) =
      nothing_left [] back refl (inr (h.1 ∙ ap (λ l. punctuation.comma ∷ l) h.2))
  others_from (v ∷ vs) back (inr h) =
      let item = h.2 in
      let rest = others_from vs item.1 item.4 in
      let others = flat_map (λ q. punctuation.comma ∷ q) rest.pieces in
      let split : h.0 ≡ (item.0 ++ others) ++ rest.end = item.2 ∙ (ap (λ l. item.0 ++ l) rest.is ∙ sym (append_assoc item.0 others rest.end)) in
      record {
        pieces = item.0 ∷ rest.pieces;
        end = rest.end;
        each = (item.3, rest.each);
        ends = rest.ends;
        is = h.1 ∙ ap (λ l. punctuation.comma ∷ l) split;
      }

  joined_end : (pieces : List (List T)) (ts end : List T) → pieces ≢ [] → Ends end
      → ts ≡ punctuation.opening ∷ (joined punctuation.comma pieces ++ end)
      → (ts ≡ punctuation.opening ∷ (joined punctuation.comma pieces ++ punctuation.closing ∷ []))
      ⊎ ((pieces ≢ []) × (ts ≡ punctuation.opening ∷ (joined punctuation.comma pieces ++ punctuation.comma ∷ punctuation.closing ∷ [])))
  joined_end pieces ts end some (inl e) is =
      inl (is ∙ ap (λ l. punctuation.opening ∷ (joined punctuation.comma pieces ++ l)) e)
  joined_end pieces ts end some (inr e) is =
      inr (some, is ∙ ap (λ l. punctuation.opening ∷ (joined punctuation.comma pieces ++ l)) e)

  pub joined_from_list : (ts : List T) (vs : List V) → EncodedList punctuation encodes ts vs
      → JoinedList punctuation encodes ts vs
  joined_from_list ts [] h = ([], tt, inl (h.1 ∙ ap (λ l. punctuation.opening ∷ l) h.2))
  joined_from_list ts (v ∷ vs) h =
      let item = h.2 in
      let rest = others_from vs item.1 item.4 in
      let others = flat_map (λ q. punctuation.comma ∷ q) rest.pieces in
      let split : h.0 ≡ (item.0 ++ others) ++ rest.end = item.2 ∙ (ap (λ l. item.0 ++ l) rest.is ∙ sym (append_assoc item.0 others rest.end)) in
      let pieces = item.0 ∷ rest.pieces in
      let is = h.1 ∙ ap (λ l. punctuation.opening ∷ l) split in
      (pieces, (item.3, rest.each), joined_end pieces ts rest.end (λ e. cc e) rest.ends is)

  others_encoded : (pieces : List (List T)) (vs : List V) (end : List T)
      → EncodeEach encodes pieces vs → Ends end
      → EncodedAfter punctuation encodes (flat_map (λ q. punctuation.comma ∷ q) pieces ++ end) vs
  others_encoded [] [] end each (inl e) = inl (e, refl)
  others_encoded [] [] end each (inr e) = inr (punctuation.closing ∷ [], e, refl)
  others_encoded [] (v ∷ vs) end each ends = absurd each
  others_encoded (p ∷ ps) [] end each ends = absurd each
  others_encoded (p ∷ ps) (v ∷ vs) end each ends =
      let others = flat_map (λ q. punctuation.comma ∷ q) ps in
      let following = others_encoded ps vs end each.1 ends in
      inr ((p ++ others) ++ end, refl, (p, others ++ end, append_assoc p others end, each.0, following))

  items_from_joined : (pieces : List (List T)) (vs : List V) (end : List T)
      → EncodeEach encodes pieces vs → Ends end → (pieces ≡ [] → end ≡ punctuation.closing ∷ [])
      → EncodedItems punctuation encodes (joined punctuation.comma pieces ++ end) vs
  items_from_joined [] [] end each ends none = none refl
  items_from_joined [] (v ∷ vs) end each ends none = absurd each
  items_from_joined (p ∷ ps) [] end each ends none = absurd each
  items_from_joined (p ∷ ps) (v ∷ vs) end each ends none =
      let others = flat_map (λ q. punctuation.comma ∷ q) ps in
      (p, others ++ end, append_assoc p others end, each.0, others_encoded ps vs end each.1 ends)

  pub list_from_joined : (ts : List T) (vs : List V) → JoinedList punctuation encodes ts vs
      → EncodedList punctuation encodes ts vs
  list_from_joined ts vs h =
      elim h.2 [
        | inl e ↦ (_, e, items_from_joined h.0 vs (punctuation.closing ∷ []) h.1 (inl refl) (λ _. refl))
        | inr e ↦ (_, e.1, items_from_joined h.0 vs (punctuation.comma ∷ punctuation.closing ∷ []) h.1 (inr refl) (λ none. absurd (e.0 none)))
      ]

  pub lists_are_joined : ListsAreJoined punctuation encodes
  lists_are_joined ts vs = (joined_from_list ts vs, list_from_joined ts vs)
