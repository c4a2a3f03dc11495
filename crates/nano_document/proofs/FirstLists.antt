-- The first faults of items between brackets.
use Rattle.std.proofs.Common.{◌≡◌, ◌≢◌, ◌<◌, inl, inr, suc, List, [], ◌∷◌, ◌++◌, length}
use Rattle.std.proofs.Common.{refl, sym, ap, ◌∙◌, subst, append_assoc, append-nil, length-append}
use Rattle.std.proofs.Common.{arith, Bool, true, false, cond, ◌≤◌, ◌^◌}
use Rattle.std.specs.Str.Iter.{chars_rest}
use Rattle.std.specs.declared.str.Chars.{Chars}
use Rattle.nano_text.proofs.PlaceLaws.{moves_append}
use Rattle.nano_text.proofs.RemainingText.{remaining_fewer}
use Rattle.nano_value.specs.Meaning.{Meaning, listed, usize_bound}
use Rattle.nano_grammar.specs.Codec.{IsEncoding, AreBrackets}
use Rattle.nano_grammar.specs.Faults.{AreTokens}
use Rattle.nano_grammar.specs.Items.{ListPunctuation, EncodedList}
use Rattle.nano_grammar.specs.Lists.{EncodesAll}
use Rattle.nano_grammar.specs.Outcomes.{Report, Position, Fails, Read}
use Rattle.nano_grammar.proofs.CollectingCalls.{Filled, all_lead}
use Rattle.nano_grammar.proofs.Containers.{read_opening_leads, read_item_leads, read_comma_leads}
use Rattle.nano_grammar.proofs.Containers.{read_closing_leads, item_taken}
use Rattle.nano_grammar.proofs.ItemLaws.{ends_at}
use Rattle.nano_grammar.proofs.ListsLaws.{as_item}
use Rattle.nano_grammar.proofs.TokensLaws.{tokens_left}
use Rattle.nano_grammar.proofs.TupleCalls.{not_closing}
use Rattle.nano_json_tokens.specs.Cut.{Cut, json_grammar}
use Rattle.nano_json_tokens.specs.Scan.{is_end}
use Rattle.nano_json_tokens.specs.State.{at}
use Rattle.nano_json_tokens.specs.Token.{Token}
use Rattle.nano_json_tokens.specs.declared.state.DeJsonState.{DeJsonState}
use Rattle.nano_json.proofs.Json.{json_laws}
use Rattle.nano_document.specs.FirstFaults.{CanBegin, GoesWrongFirst}
use Rattle.nano_document.proofs.FirstFaults.{first_part, first_in}

zero_or_one : (b : Bool) → cond b 0 1 ≤ 1
zero_or_one true = omega arith
zero_or_one false = omega arith

-- fewer tokens are left than a `usize` counts, and one more
pub few_more : (s : DeJsonState) (i : Chars) → length (chars_rest i) < 2 ^ 63
    → suc (tokens_left is_end (at s i)) < usize_bound
unfolding tokens_left
few_more s i few = omega (arith, few, remaining_fewer s.cur i, zero_or_one (is_end (at s i).token))

module _ (punctuation : ListPunctuation Token) (are : AreBrackets json_grammar punctuation)
    {P : Meaning → Type 0} {S : List Token → Meaning → Type 0} (s : IsEncoding json_grammar P S)
    {C : Type 0} (holds : C → List Meaning → Type 0) where
  abbrev All : List Token → Meaning → Type 0
  All = EncodesAll punctuation listed S

  abbrev Alone : Token → List Token → Unit {0} → Type 0
  Alone t = AreTokens (t ∷ [])

  -- ---- what can begin a list

  -- an opening bracket can
  opening_begins : (us : List Token) → us ≡ punctuation.opening ∷ [] → CanBegin All us
  opening_begins us is = (
    punctuation.closing ∷ [],
    listed [],
    record {
      part = [];
      has = record {
        count = omega arith;
        items = (punctuation.closing ∷ [], ap (λ (xs : List Token). xs ++ punctuation.closing ∷ []) is, refl);
      };
      is = refl;
    },
  )

  module _ {start here : Position Token} {x : C} (h : Filled json_laws punctuation are holds S start here x)
      (few : suc (tokens_left is_end start.at) < usize_bound) where
    -- what was taken so far can
    closed_begins : CanBegin All h.read.read.so_far.prefix
    closed_begins =
        let read = h.read.read in (
          punctuation.closing ∷ [],
          listed h.read.items,
          record {
            part = h.read.items;
            has = record {
              count = omega (arith, read.count, few);
              items = read.so_far.closed (punctuation.closing ∷ []) refl;
            };
            is = refl;
          },
        )

    -- and so it can with one more item and what comes after that
    more_begins : (ts more : List Token) (v : Meaning)
        → EncodedList punctuation S (ts ++ more) (h.read.items ++ v ∷ []) → CanBegin All ts
    more_begins ts more v items =
        let all = h.read.items ++ v ∷ [] in (
          more,
          listed all,
          record {
            part = all;
            has = record {
              count = omega (arith, h.read.read.count, few, length-append h.read.items (v ∷ []));
              items = items;
            };
            is = refl;
          },
        )

    item_begins : here.at.token ≢ punctuation.closing → (us : List Token) (v : Meaning) → S us v
        → CanBegin All (h.read.read.so_far.prefix ++ us)
    item_begins n us v e =
        let so_far = h.read.read.so_far in
        let back = punctuation.closing ∷ [] in
        let items = so_far.going n (us ++ back) (v ∷ []) (us, back, refl, e, inl (refl, refl)) in
        more_begins (so_far.prefix ++ us) back v
        (subst (λ (xs : List Token). EncodedList punctuation S xs (h.read.items ++ v ∷ []))
        (sym (append_assoc so_far.prefix us back)) items)

    comma_begins : here.at.token ≢ punctuation.closing → (i : List Token) (v : Meaning) → S i v
        → (us : List Token) → us ≡ punctuation.comma ∷ []
        → CanBegin All ((h.read.read.so_far.prefix ++ i) ++ us)
    comma_begins n i v e us is =
        let so_far = h.read.read.so_far in
        let back = punctuation.closing ∷ [] in
        let after = punctuation.comma ∷ back in
        let items = so_far.going n (i ++ after) (v ∷ []) (i, after, refl, e, inr (back, refl, refl)) in
        let before = so_far.prefix ++ i in
        let same : (before ++ punctuation.comma ∷ []) ++ back ≡ so_far.prefix ++ (i ++ after) =
        append_assoc before (punctuation.comma ∷ []) back ∙ append_assoc so_far.prefix i after in
        subst (λ (xs : List Token). CanBegin All (before ++ xs)) (sym is)
        (more_begins (before ++ punctuation.comma ∷ []) back v
        (subst (λ (xs : List Token). EncodedList punctuation S xs (h.read.items ++ v ∷ [])) (sym same) items))

    closing_begins : (us : List Token) → us ≡ punctuation.closing ∷ []
        → CanBegin All (h.read.read.so_far.prefix ++ us)
    closing_begins us is =
        let read = h.read.read in
        let ts = read.so_far.prefix ++ us in (
          [],
          listed h.read.items,
          record {
            part = h.read.items;
            has = record {
              count = omega (arith, read.count, few);
              items = subst (λ (xs : List Token). EncodedList punctuation S xs h.read.items)
                  (sym (append-nil ts)) (read.so_far.closed us is);
            };
            is = refl;
          },
        )

  -- ---- calls

  pub opening_first : {start end : Position Token} {e : Report}
      → Fails (GoesWrongFirst (AreTokens (punctuation.opening ∷ [])) start end) start end e
      → Fails (GoesWrongFirst All start end) start end e
  opening_first {start} bad =
      let leads = all_lead json_laws punctuation are s holds listed (Alone punctuation.opening) []
      start.at.token (read_opening_leads json_laws punctuation are (as_item s punctuation) start.at.token) in
      first_part All (Alone punctuation.opening) leads (λ us _ is. opening_begins us is) bad

  pub item_first : {start here end : Position Token} {x : C} {e : Report}
      → suc (tokens_left is_end start.at) < usize_bound
      → Filled json_laws punctuation are holds S start here x → here.at.token ≢ punctuation.closing
      → Fails (GoesWrongFirst S here end) here end e
      → Fails (GoesWrongFirst All start end) start end e
  item_first {start} {here} few h other bad =
      let read = h.read.read in
      let ts = read.so_far.prefix in
      let leads = all_lead json_laws punctuation are s holds listed S ts here.at.token
      (read_item_leads json_laws punctuation are (as_item s punctuation) start.at here.at h.read.items read other) in
      first_in All S ts leads read.so_far.taken h.place (inr (closed_begins h few))
      (item_begins h few other) bad

  pub comma_first : {start here mid end : Position Token} {x : C} {v : Meaning} {e : Report}
      → suc (tokens_left is_end start.at) < usize_bound
      → Filled json_laws punctuation are holds S start here x → Read Cut S here mid v
      → mid.at.token ≢ punctuation.closing
      → Fails (GoesWrongFirst (AreTokens (punctuation.comma ∷ [])) mid end) mid end e
      → Fails (GoesWrongFirst All start end) start end e
  comma_first {start} {here} {mid} {v = v} few h item other bad =
      let read = h.read.read in
      let i = item.decodes in
      let n = not_closing json_laws punctuation are s here.at mid.at v i in
      let ts = read.so_far.prefix ++ i.0 in
      let leads = all_lead json_laws punctuation are s holds listed (Alone punctuation.comma) ts
      mid.at.token (read_comma_leads json_laws punctuation are (as_item s punctuation) start.at here.at h.read.items read mid.at v n i
      (ends_at S s.none_begins i.0 v i.1 mid.at.token) other) in
      first_in All (Alone punctuation.comma) ts leads
      (item_taken json_laws punctuation are (as_item s punctuation) start.at here.at h.read.items read mid.at v i)
      (moves_append h.place item.place) (inr (item_begins h few n i.0 v i.1))
      (λ us _ is. comma_begins h few n i.0 v i.1 us is) bad

  pub closing_first : {start here end : Position Token} {x : C} {e : Report}
      → suc (tokens_left is_end start.at) < usize_bound
      → Filled json_laws punctuation are holds S start here x → here.at.token ≡ punctuation.closing
      → Fails (GoesWrongFirst (AreTokens (punctuation.closing ∷ [])) here end) here end e
      → Fails (GoesWrongFirst All start end) start end e
  closing_first {start} {here} few h is bad =
      let read = h.read.read in
      let ts = read.so_far.prefix in
      let leads = all_lead json_laws punctuation are s holds listed (Alone punctuation.closing) ts
      here.at.token (read_closing_leads json_laws punctuation are (as_item s punctuation) start.at here.at h.read.items read is) in
      first_in All (Alone punctuation.closing) ts leads read.so_far.taken h.place
      (inr (closed_begins h few)) (λ us _ same. closing_begins h few us same) bad
