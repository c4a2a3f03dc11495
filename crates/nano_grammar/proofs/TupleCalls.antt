-- What the calls that read tuples come to, whatever the tokens are.
use Rattle.std.proofs.Common.{◌≡◌, ◌≢◌, List, [], ◌∷◌, inl, inr, sym, ◌∙◌, subst, ℕ, ◌<◌, ◌++◌}
use Rattle.std.proofs.Common.{length, length-append, arith, ap, append_assoc}
use Rattle.std.proofs.lemmas.List.{append_cancel_right}
use Rattle.nano_value.specs.Meaning.{Meaning, paired}
use Rattle.nano_grammar.proofs.TokensLaws.{CutLaws, leaves_append}
use Rattle.nano_grammar.specs.Tokens.{Cutting, At, Leaves, Spans}
use Rattle.nano_grammar.specs.Faults.{AreTokens}
use Rattle.nano_grammar.specs.Items.{ListPunctuation, EncodedItems, EncodedList, EncodedPair}
use Rattle.nano_grammar.proofs.PairsLaws.{and_then}
use Rattle.nano_grammar.specs.Codec.{Grammar, BeginsValue, Encoding, AreBrackets, IsEncoding}
use Rattle.nano_grammar.proofs.TuplesLaws.{last_part, tuple_of}
use Rattle.nano_grammar.proofs.FaultLaws.{LeadsTo, leads_as, first_token, wrong_in}
use Rattle.nano_grammar.proofs.ListsLaws.{between_one, as_item}
use Rattle.nano_grammar.proofs.PartReading.{pair_found, first_leads, punctuator_leads, second_leads}
use Rattle.nano_grammar.proofs.PartReading.{after_found, token_leads, after_leads, last_found}
use Rattle.nano_grammar.proofs.PartReading.{last_leads, last_comma_leads, last_closing_leads}
use Rattle.nano_grammar.proofs.PartReading.{comma_closing_leads, CommaTaken}
use Rattle.nano_grammar.proofs.Reading.{image_spans, image_encodes}
use Rattle.nano_text.proofs.PlaceLaws.{moves_append}
use Rattle.nano_grammar.specs.Outcomes.{Report, Position, Moved, Fails, Took, TookComma, Read}
use Rattle.nano_grammar.specs.Outcomes.{GoesWrong, ReadsNone, ReadsNoneAndEnds}
use Rattle.nano_grammar.proofs.TokenCalls.{fails_as, fails_after, none_in, none_first}
use Rattle.nano_grammar.specs.Lists.{EncodesCount}
use Rattle.nano_grammar.proofs.Containers.{ReadSoFar}

-- ==== what is known while a tuple is read

module _ {T : Type 0} {c : Cutting T} {g : Grammar T} (r : CutLaws c g) (punctuation : ListPunctuation T)
    (are : AreBrackets g punctuation) where
  -- no value begins with a closing bracket
  begins_elsewhere : (ts : List T) (here end : At T) → BeginsValue g ts → Leaves c.cut ts here end
      → here.token ≡ punctuation.closing → ⊥
  begins_elsewhere [] here end b l e = b
  begins_elsewhere (t ∷ ts) here end b l e = are.closes (subst g.may_begin (l.0 ∙ e) b)

  -- where a value is read after it, a comma was taken
  comma_before : (t : Encoding g) (m k end : At T) (y : Meaning) → CommaTaken c.cut punctuation m k
      → Spans c.cut t.encodes k end y → Leaves c.cut (punctuation.comma ∷ []) m k
  comma_before t m k end y (inl l) i = l
  comma_before t m k end y (inr p) i =
      let begins = t.laws.begins i.0 y i.1 in
      let taken = subst (λ (z : At T). Leaves c.cut i.0 z end) p.1 i.2 in
      absurd (begins_elsewhere i.0 m end begins taken p.0)

  module _ (s t : Encoding g) where
    pub parts_found : (start m k end : At T) (x y : Meaning) → Spans c.cut s.encodes start m x
        → CommaTaken c.cut punctuation m k → Spans c.cut t.encodes k end y
        → Spans c.cut (and_then punctuation.comma s t).encodes start end (paired (x, y))
    parts_found start m k end x y a taken b =
        let comma = comma_before t m k end y taken b in
        image_spans c paired start end (x, y)
        (pair_found punctuation.comma s.encodes s.laws.none_begins t.encodes c.cut start m k end x y a comma b)

    abbrev Pair : List T → Meaning × Meaning → Type 0
    Pair = EncodedPair punctuation.comma s.encodes t.encodes

    pair_leads : {W : Type 0} (part : List T → W → Type 0) (ts : List T) (pending : T)
        → LeadsTo Pair part ts pending → LeadsTo (and_then punctuation.comma s t).encodes part ts pending
    pair_leads part ts pending leads =
        leads_as (and_then punctuation.comma s t).encodes Pair part ts pending (image_encodes c Pair paired) leads

    pub first_part_leads : (pending : T)
        → LeadsTo (and_then punctuation.comma s t).encodes s.encodes [] pending
    first_part_leads pending =
        pair_leads s.encodes [] pending
        (first_leads punctuation.comma s.encodes s.laws.none_begins t.encodes pending)

    pub comma_leads : (a : List T) (x : Meaning) → s.encodes a x → (pending : T)
        → LeadsTo (and_then punctuation.comma s t).encodes (AreTokens (punctuation.comma ∷ [])) a pending
    comma_leads a x h pending =
        pair_leads (AreTokens (punctuation.comma ∷ [])) a pending
        (punctuator_leads punctuation.comma s.encodes s.laws.none_begins t.encodes a x h pending)

    pub other_parts_lead : (a : List T) (x : Meaning) → s.encodes a x → (pending : T)
        → LeadsTo (and_then punctuation.comma s t).encodes t.encodes (a ++ punctuation.comma ∷ []) pending
    other_parts_lead a x h pending =
        pair_leads t.encodes (a ++ punctuation.comma ∷ []) pending
        (second_leads punctuation.comma s.encodes s.laws.none_begins t.encodes a x h pending)

    -- where no comma is pending after the first part, nothing follows
    pub no_parts_lead : (a : List T) (x : Meaning) → s.encodes a x → (pending : T)
        → pending ≡ punctuation.closing → LeadsTo (and_then punctuation.comma s t).encodes t.encodes a pending
    no_parts_lead a x h pending closes us more rest next v e is =
        let k = comma_leads a x h pending us more rest next v e is in
        let whole = ap (λ (xs : List T). xs ++ k.2 ∷ k.3) (sym k.4) ∙ k.5 in
        let same : punctuation.comma ≡ pending = cc whole in
        absurd (are.apart (sym (same ∙ closes)))

  module _ (s : Encoding g) where
    pub last_part_found : (start m k end : At T) (x : Meaning) → Spans c.cut s.encodes start m x
        → CommaTaken c.cut punctuation m k → Leaves c.cut (punctuation.closing ∷ []) k end
        → Spans c.cut (last_part punctuation are s).encodes start end x
    last_part_found = last_found punctuation are.apart s.encodes s.laws.none_begins c.cut

    pub tuple_found : (start m end : At T) (x : Meaning) → Leaves c.cut (punctuation.opening ∷ []) start m
        → Spans c.cut s.encodes m end x → Spans c.cut (tuple_of punctuation are s).encodes start end x
    tuple_found = after_found punctuation.opening s.encodes c.cut

-- ==== tuple calls

module _ {T : Type 0} {c : Cutting T} {g : Grammar T} (r : CutLaws c g) (punctuation : ListPunctuation T)
    (are : AreBrackets g punctuation) where
  -- what an error at a comma reports
  abbrev pub NoComma : Position T → Position T → Type 0
  NoComma here end = (here.at.token ≢ punctuation.closing)
      × GoesWrong c.cut c.breaks (AreTokens (punctuation.comma ∷ [])) here end

  -- ---- a part, and those after it

  module _ (s t : Encoding g) where
    pub parts_read : {buffered same : Type 0} {start m k end : Position T} {x y : Meaning}
        → Read c.cut s.encodes start m x → TookComma c.cut buffered m k punctuation.comma punctuation.closing same
        → Read c.cut t.encodes k end y
        → Read c.cut (and_then punctuation.comma s t).encodes start end (paired (x, y))
    parts_read {start = start} {m} {k} {end} {x} {y} first comma others = record {
      decodes = parts_found r punctuation are s t start.at m.at k.at end.at x y first.decodes comma.taken others.decodes;
      place = moves_append first.place (moves_append comma.place others.place);
    }

    pub first_not : {last : At T} {start end : Position T} {e : Report}
        → ReadsNoneAndEnds c.cut c.breaks s.encodes start end last e
        → ReadsNone c.cut c.breaks (and_then punctuation.comma s t).encodes start end e
    first_not {start = start} h =
        none_first c.cut (and_then punctuation.comma s t).encodes s.encodes
        (first_part_leads r punctuation are s t start.at.token) h.fails

    pub comma_not : {start m end : Position T} {x : Meaning} {e : Report} → Read c.cut s.encodes start m x
        → Fails (NoComma m end) m end e
        → ReadsNone c.cut c.breaks (and_then punctuation.comma s t).encodes start end e
    comma_not {m = m} {x = x} first h =
        let i = first.decodes in
        none_in c.cut (and_then punctuation.comma s t).encodes (AreTokens (punctuation.comma ∷ [])) i.0
        (comma_leads r punctuation are s t i.0 x i.1 m.at.token) i.2 first.place (fails_as (λ bad. bad.1) h)

    others_wrong : {start m k end : Position T} {x : Meaning} → Read c.cut s.encodes start m x
        → CommaTaken c.cut punctuation m.at k.at → Moved m k → GoesWrong c.cut c.breaks t.encodes k end
        → GoesWrong c.cut c.breaks (and_then punctuation.comma s t).encodes start end
    others_wrong {start} {m} {k} {x = x} first (inl l) moved h =
        let i = first.decodes in
        wrong_in c.cut (and_then punctuation.comma s t).encodes t.encodes (i.0 ++ punctuation.comma ∷ [])
        (other_parts_lead r punctuation are s t i.0 x i.1 k.at.token)
        (leaves_append c.cut i.0 (punctuation.comma ∷ []) start.at m.at k.at i.2 l)
        (moves_append first.place moved) h
    others_wrong {start} {m} {k} {x = x} first (inr p) moved h =
        let i = first.decodes in
        wrong_in c.cut (and_then punctuation.comma s t).encodes t.encodes i.0
        (no_parts_lead r punctuation are s t i.0 x i.1 k.at.token (ap (λ (z : At T). z.token) p.1 ∙ p.0))
        (subst (λ (z : At T). Leaves c.cut i.0 start.at z) (sym p.1) i.2) (moves_append first.place moved) h

    pub others_not : {buffered same : Type 0} {start m k end : Position T} {x : Meaning} {e : Report}
        → Read c.cut s.encodes start m x → TookComma c.cut buffered m k punctuation.comma punctuation.closing same
        → ReadsNone c.cut c.breaks t.encodes k end e
        → ReadsNone c.cut c.breaks (and_then punctuation.comma s t).encodes start end e
    others_not first comma h =
        fails_after (others_wrong first comma.taken comma.place) (moves_append first.place comma.place) h

  module _ (s : Encoding g) where
    -- ---- the last part, and the closing bracket

    pub last_read : {buffered held same : Type 0} {start m k end : Position T} {x : Meaning}
        → Read c.cut s.encodes start m x → TookComma c.cut buffered m k punctuation.comma punctuation.closing same
        → Took c.cut held k end (punctuation.closing ∷ [])
        → Read c.cut (last_part punctuation are s).encodes start end x
    last_read {start = start} {m} {k} {end} {x} last comma close = record {
      decodes = last_part_found r punctuation are s start.at m.at k.at end.at x last.decodes comma.taken close.taken;
      place = moves_append last.place (moves_append comma.place close.place);
    }

    pub last_not : {at_end : At T} {start end : Position T} {e : Report}
        → ReadsNoneAndEnds c.cut c.breaks s.encodes start end at_end e
        → ReadsNone c.cut c.breaks (last_part punctuation are s).encodes start end e
    last_not {start = start} h =
        none_first c.cut (last_part punctuation are s).encodes s.encodes
        (last_leads punctuation are.apart s.encodes s.laws.none_begins start.at.token) h.fails

    pub last_comma_not : {start m end : Position T} {x : Meaning} {e : Report} → Read c.cut s.encodes start m x
        → Fails (NoComma m end) m end e
        → ReadsNone c.cut c.breaks (last_part punctuation are s).encodes start end e
    last_comma_not {m = m} {x = x} last h =
        let i = last.decodes in
        fails_after (λ bad. wrong_in c.cut (last_part punctuation are s).encodes (AreTokens (punctuation.comma ∷ [])) i.0
        (last_comma_leads punctuation are.apart s.encodes s.laws.none_begins i.0 x i.1 m.at.token bad.0) i.2 last.place bad.1)
        last.place h

    close_wrong : {start m k end : Position T} {x : Meaning} → Read c.cut s.encodes start m x
        → CommaTaken c.cut punctuation m.at k.at → Moved m k
        → GoesWrong c.cut c.breaks (AreTokens (punctuation.closing ∷ [])) k end
        → GoesWrong c.cut c.breaks (last_part punctuation are s).encodes start end
    close_wrong {start} {m} {k} {x = x} last (inl l) moved h =
        let i = last.decodes in
        wrong_in c.cut (last_part punctuation are s).encodes (AreTokens (punctuation.closing ∷ []))
        (i.0 ++ punctuation.comma ∷ [])
        (comma_closing_leads punctuation are.apart s.encodes s.laws.none_begins i.0 x i.1 k.at.token)
        (leaves_append c.cut i.0 (punctuation.comma ∷ []) start.at m.at k.at i.2 l) (moves_append last.place moved) h
    close_wrong {start} {m} {k} {x = x} last (inr p) moved h =
        let i = last.decodes in
        wrong_in c.cut (last_part punctuation are s).encodes (AreTokens (punctuation.closing ∷ [])) i.0
        (last_closing_leads punctuation are.apart s.encodes s.laws.none_begins i.0 x i.1 k.at.token
        (ap (λ (z : At T). z.token) p.1 ∙ p.0))
        (subst (λ (z : At T). Leaves c.cut i.0 start.at z) (sym p.1) i.2) (moves_append last.place moved) h

    pub close_not : {buffered same : Type 0} {start m k end : Position T} {x : Meaning} {e : Report}
        → Read c.cut s.encodes start m x → TookComma c.cut buffered m k punctuation.comma punctuation.closing same
        → ReadsNone c.cut c.breaks (AreTokens (punctuation.closing ∷ [])) k end e
        → ReadsNone c.cut c.breaks (last_part punctuation are s).encodes start end e
    close_not last comma h =
        fails_after (close_wrong last comma.taken comma.place) (moves_append last.place comma.place) h

    -- ---- the opening bracket, and all parts

    pub tuple_read : {buffered : Type 0} {start m end : Position T} {x : Meaning}
        → Took c.cut buffered start m (punctuation.opening ∷ []) → Read c.cut s.encodes m end x
        → Read c.cut (tuple_of punctuation are s).encodes start end x
    tuple_read {start = start} {m} {end} {x} bracket parts = record {
      decodes = tuple_found r punctuation are s start.at m.at end.at x bracket.taken parts.decodes;
      place = moves_append bracket.place parts.place;
    }

    pub open_not : {start end : Position T} {e : Report}
        → ReadsNone c.cut c.breaks (AreTokens (punctuation.opening ∷ [])) start end e
        → ReadsNone c.cut c.breaks (tuple_of punctuation are s).encodes start end e
    open_not {start} h =
        none_first c.cut (tuple_of punctuation are s).encodes (AreTokens (punctuation.opening ∷ []))
        (token_leads punctuation.opening s.encodes start.at.token) h

    pub parts_not : {buffered : Type 0} {start m end : Position T} {e : Report}
        → Took c.cut buffered start m (punctuation.opening ∷ []) → ReadsNone c.cut c.breaks s.encodes m end e
        → ReadsNone c.cut c.breaks (tuple_of punctuation are s).encodes start end e
    parts_not {m = m} bracket h =
        none_in c.cut (tuple_of punctuation are s).encodes s.encodes (punctuation.opening ∷ [])
        (after_leads punctuation.opening s.encodes m.at.token) bracket.taken bracket.place h

-- ==== what is known while an array is read

module _ {T : Type 0} {c : Cutting T} {g : Grammar T} (r : CutLaws c g) (punctuation : ListPunctuation T)
    (are : AreBrackets g punctuation) where
  begins_open : (ts : List T) (here end : At T) → BeginsValue g ts → Leaves c.cut ts here end
      → here.token ≢ punctuation.closing
  begins_open [] here end b l e = b
  begins_open (t ∷ ts) here end b l e = are.closes (subst g.may_begin (l.0 ∙ e) b)

  module _ {V : Type 0} {P : V → Type 0} {S : List T → V → Type 0} (s : IsEncoding g P S) where
    -- where a value is read, no closing bracket is pending
    pub not_closing : (here following : At T) (v : V) → Spans c.cut S here following v
        → here.token ≢ punctuation.closing
    not_closing here following v i = begins_open i.0 here following (s.begins i.0 v i.1) i.2

    -- an item begins with no closing bracket
    item_begins : (i x rest : List T) (pending : T) (v : V) → S i v → i ++ x ≡ pending ∷ rest
        → pending ≢ punctuation.closing
    item_begins [] x rest pending v h is closes = s.begins [] v h
    item_begins (t ∷ i) x rest pending v h is closes =
        let first : t ≡ pending = cc is in
        are.closes (subst g.may_begin (first ∙ closes) (s.begins (t ∷ i) v h))

    module _ (start here : At T) (out : List V) (h : ReadSoFar r punctuation S start here out)
        (count : ℕ) where
      -- a list that goes on so is what was taken, and what is left of it
      all_taken : (us back more rest : List T) (next : T)
          → us ++ next ∷ more ≡ h.so_far.prefix ++ here.token ∷ rest → back ++ next ∷ more ≡ here.token ∷ rest
          → us ≡ h.so_far.prefix ++ back
      all_taken us back more rest next is left =
          append_cancel_right us (h.so_far.prefix ++ back) (next ∷ more)
          (is ∙ (ap (λ (xs : List T). h.so_far.prefix ++ xs) (sym left)
          ∙ sym (append_assoc h.so_far.prefix back (next ∷ more))))

      -- as many items as there are of one list
      same_count : (ts us : List T) (vs ws : List V) → EncodedList punctuation S ts vs
          → EncodedList punctuation S us ws → us ≡ ts → length vs ≡ length ws
      same_count ts us vs ws a b is =
          let moved = subst (λ (xs : List T). EncodedList punctuation S xs ws) is b in
          ap length (between_one g punctuation are (as_item s punctuation) ts vs ws a moved)

      -- where an item is missing, one must follow
      pub item_missing : length out < count
          → LeadsTo (EncodesCount punctuation count S) S h.so_far.prefix here.token
      item_missing few us more rest next vs e is =
          let k = h.so_far.still.all us more rest next vs e.items is in
          follows k.0 k.1 k.2 k.3 where
            follows : (back : List T) (ws : List V) → EncodedItems punctuation S back ws
                → back ++ next ∷ more ≡ here.token ∷ rest
                → (xs : List T) × (w : V) × (u : T) × (left : List T) × S xs w
                × (xs ++ u ∷ left ≡ here.token ∷ rest)
            follows back [] l left =
                let list = h.so_far.closed back l in
                let same = same_count (h.so_far.prefix ++ back) us out vs list e.items (all_taken us back more rest next is left) in
                absurd (omega (arith, few, same, e.count_is))
            follows back (w ∷ ws) l left =
                let f = first_token l.1 next more in
                let joined = append_assoc l.0 l.1 (next ∷ more) in
                let whole = sym joined ∙ (ap (λ (xs : List T). xs ++ next ∷ more) (sym l.2) ∙ left) in
                (l.0, w, f.0, f.1, l.3, ap (λ (xs : List T). l.0 ++ xs) (sym f.2) ∙ whole)

      -- after the last item the closing bracket must follow
      pub item_too_many : length out ≡ count
          → LeadsTo (EncodesCount punctuation count S) (AreTokens (punctuation.closing ∷ []))
          h.so_far.prefix here.token
      item_too_many full us more rest next vs e is =
          let k = h.so_far.still.all us more rest next vs e.items is in
          follows k.0 k.1 k.2 k.3 where
            follows : (back : List T) (ws : List V) → EncodedItems punctuation S back ws
                → back ++ next ∷ more ≡ here.token ∷ rest
                → (xs : List T) × (w : Unit {0}) × (u : T) × (left : List T)
                × AreTokens (punctuation.closing ∷ []) xs w × (xs ++ u ∷ left ≡ here.token ∷ rest)
            follows back [] l left = (back, tt, next, more, l, left)
            follows back (w ∷ ws) l left =
                let joined = append_assoc l.0 l.1 (next ∷ more) in
                let whole = sym joined ∙ (ap (λ (xs : List T). xs ++ next ∷ more) (sym l.2) ∙ left) in
                let other = item_begins l.0 (l.1 ++ next ∷ more) rest here.token w l.3 whole in
                let list = h.so_far.going other back (w ∷ ws) l in
                let same = same_count (h.so_far.prefix ++ back) us (out ++ w ∷ ws) vs list e.items (all_taken us back more rest next is left) in
                absurd (omega (arith, full, same, e.count_is, length-append out (w ∷ ws)))
