-- What is proved of faults: nothing decodes where there is one, one of a part is one of the whole,
-- and what one token or none comes to.
use Rattle.std.proofs.Common.{◌≡◌, ℕ, List, [], ◌∷◌, ◌++◌, inl, inr, refl, sym, ap, ◌∙◌, subst}
use Rattle.std.proofs.Common.{append_assoc, append-nil}
use Rattle.std.proofs.lemmas.List.{append_cancel_left}
use Rattle.nano_text.proofs.PlaceLaws.{moves_append, moves_none, advances_ended}
use Rattle.nano_text.proofs.RemainingText.{remaining_end}
use Rattle.std.specs.declared.str.Chars.{Chars}
use Rattle.nano_text.specs.declared.place.Place.{Place}
use Rattle.nano_text.specs.Place.{text_at, Moves}
use Rattle.nano_grammar.specs.Tokens.{At, Leaves, IsOneWay, DecodesToNothing}
use Rattle.nano_grammar.specs.Faults.{NothingCut, AreTokens, Reason, wrong, uncut, MayFollow, Fault}
use Rattle.nano_grammar.specs.Faults.{NoneBegins}
use Rattle.nano_grammar.specs.Promises.{FaultsDecodeToNothing, NothingGoesPastFaults}
use Rattle.nano_grammar.specs.Outcomes.{Position, Moved, Report, Fails, GoesWrong}
use Rattle.nano_grammar.specs.Outcomes.{ReadsNone, StandsAt, StandsBroken, Uncut, given_up}
use Rattle.nano_grammar.proofs.TokensLaws.{leaves_append, meets}

-- ==== lists of tokens

module _ {T : Type 0} where
  -- a list that goes on has a first token
  pub first_token : (xs : List T) (next : T) (more : List T)
      → (u : T) × (left : List T) × (xs ++ next ∷ more ≡ u ∷ left)
  first_token [] next more = (next, more, refl)
  first_token (x ∷ xs) next more = (x, xs ++ next ∷ more, refl)

  -- what is taken from a pending token on, with the token that is pending then, begins with it
  pub begins_pending : (cut : List ℕ → T → List ℕ → Type 0) (ts : List T) (here there : At T)
      (more : List T) → Leaves cut ts here there
      → (rest : List T) × (ts ++ there.token ∷ more ≡ here.token ∷ rest)
  begins_pending cut [] here there more l = (more, ap (λ (s : At T). s.token ∷ more) (sym l))
  begins_pending cut (t ∷ ts) here there more l =
      (ts ++ there.token ∷ more, ap (λ (x : T). x ∷ (ts ++ there.token ∷ more)) l.0)

-- ==== parts of a whole

-- whatever encodes a value of the whole, and begins with these tokens and then that one, goes on
-- after them with what encodes a value of the part
abbrev pub LeadsTo : {T V W : Type 0} → (List T → V → Type 0) → (List T → W → Type 0) → List T → T
    → Type 0
LeadsTo {T} {V} {W} whole part ts pending =
    (us more rest : List T) (next : T) (v : V) → whole us v → us ++ next ∷ more ≡ ts ++ pending ∷ rest
    → (xs : List T) × (w : W) × (u : T) × (left : List T) × part xs w
    × (xs ++ u ∷ left ≡ pending ∷ rest)

-- what encodes a value of one kind encodes one of another
abbrev pub Encodes : {T V W : Type 0} → (List T → V → Type 0) → (List T → W → Type 0) → Type 0
Encodes {T} {V} {W} whole part = (us : List T) (v : V) → whole us v → (w : W) × part us w

module _ {T V W X : Type 0} (whole : List T → V → Type 0) (middle : List T → X → Type 0)
    (part : List T → W → Type 0) where
  pub leads_as : (ts : List T) (pending : T) → Encodes whole middle → LeadsTo middle part ts pending
      → LeadsTo whole part ts pending
  leads_as ts pending into leads us more rest next v e is =
      let x = into us v e in leads us more rest next x.0 x.1 is

-- of tokens that stand for themselves, the first and those after them
module _ {T : Type 0} (ts us : List T) (pending : T) where
  pub first_tokens_lead : LeadsTo (AreTokens (ts ++ us)) (AreTokens ts) [] pending
  first_tokens_lead xs more rest next v e is =
      let f = first_token us next more in
      let whole = sym (append_assoc ts us (next ∷ more)) ∙ (ap (λ (l : List T). l ++ next ∷ more) (sym e) ∙ is) in
      (ts, tt, f.0, f.1, refl, ap (λ (l : List T). ts ++ l) (sym f.2) ∙ whole)

  pub later_tokens_lead : LeadsTo (AreTokens (ts ++ us)) (AreTokens us) ts pending
  later_tokens_lead xs more rest next v e is =
      let whole = sym (append_assoc ts us (next ∷ more)) ∙ (ap (λ (l : List T). l ++ next ∷ more) (sym e) ∙ is) in
      (us, tt, next, more, refl, append_cancel_left ts (us ++ next ∷ more) (pending ∷ rest) whole)

module _ {T V W : Type 0} (cut : List ℕ → T → List ℕ → Type 0) (whole : List T → V → Type 0)
    (part : List T → W → Type 0) where
  -- a fault of a part is one of the whole
  pub fault_in : (ts : List T) (start mid here : At T) (reason : Reason cut here)
      → LeadsTo whole part ts mid.token → Leaves cut ts start mid → Fault cut part mid here reason
      → Fault cut whole start here reason
  fault_in ts start mid here reason leads l f = record {
    tokens = ts ++ f.tokens;
    taken = leaves_append cut ts f.tokens start mid here l f.taken;
    none = λ more follows us left next v e is.
        let first = begins_pending cut f.tokens mid here more f.taken in
        let joined = append_assoc ts f.tokens (here.token ∷ more) in
        let r = leads us left first.0 next v e (is ∙ (joined ∙ ap (λ (xs : List T). ts ++ xs) first.1)) in
        f.none more follows r.0 r.3 r.2 r.1 r.4 (r.5 ∙ sym first.1);
  }

  pub fault_as : (start here : At T) (reason : Reason cut here) → Encodes whole part
      → Fault cut part start here reason → Fault cut whole start here reason
  fault_as start here reason into f = record {
    tokens = f.tokens;
    taken = f.taken;
    none = λ more follows us left next v e is.
        let x = into us v e in f.none more follows us left next x.0 x.1 is;
  }

  -- where a reader goes wrong at a part, it goes wrong at the whole
  pub wrong_in : (ts : List T) {start mid end : Position T} {breaks : List ℕ → List ℕ → Type 0} → LeadsTo whole part ts mid.at.token
      → Leaves cut ts start.at mid.at → Moved start mid → GoesWrong cut breaks part mid end
      → GoesWrong cut breaks whole start end
  wrong_in ts {start} {mid} leads l moved h = record {
    here = h.here;
    text = h.text;
    moved = moves_append moved h.moved;
    reason = h.reason;
    fault = fault_in ts start.at mid.at h.here.at h.reason leads l h.fault;
    stands = h.stands;
  }

  pub wrong_as : {start end : Position T} {breaks : List ℕ → List ℕ → Type 0} → Encodes whole part → GoesWrong cut breaks part start end
      → GoesWrong cut breaks whole start end
  wrong_as {start} into h = record {
    here = h.here;
    text = h.text;
    moved = h.moved;
    reason = h.reason;
    fault = fault_as start.at h.here.at h.reason into h.fault;
    stands = h.stands;
  }

-- ==== where a text breaks

module _ {T : Type 0} {breaks : List ℕ → List ℕ → Type 0} where
  -- a reader stands there that stopped there
  pub broken_there : {here there : Position T} → breaks here.at.text (text_at there.place there.input)
      → Moved here there → StandsBroken breaks here there
  broken_there {there = there} broken moved = record {
    stop = there.place;
    input = there.input;
    broken = broken;
    moved = moved;
    line = refl;
    col = refl;
  }

  -- and stands there still once it gives up
  pub broken_ended : {here mid : Position T} (last : At T) → StandsBroken breaks here mid
      → StandsBroken breaks here (given_up last mid)
  broken_ended last h = record {
    stop = h.stop;
    input = h.input;
    broken = h.broken;
    moved = h.moved;
    line = h.line;
    col = h.col;
  }

  -- whatever token was pending before that text, at the same place
  pub uncut_from : {cut : List ℕ → T → List ℕ → Type 0} {start other end : Position T}
      → start.at.text ≡ other.at.text → start.place ≡ other.place → start.input ≡ other.input
      → Uncut cut breaks start end → Uncut cut breaks other end
  uncut_from {cut} {start} {other} text place input h =
      let at = h.stands in
      record {
        none = subst (NothingCut cut) text h.none;
        stands = record {
          stop = at.stop;
          input = at.input;
          broken = subst (λ (l : List ℕ). breaks l (text_at at.stop at.input)) text at.broken;
          moved = subst (λ (p : Place). Moves p other.input at.stop at.input) place
              (subst (λ (i : Chars). Moves start.place i at.stop at.input) input at.moved);
          line = at.line;
          col = at.col;
        };
      }

-- ==== the pending token

module _ {T V : Type 0} (cut : List ℕ → T → List ℕ → Type 0) (encodes : List T → V → Type 0) where
  -- no encoding is empty, and none begins with the pending token
  pub wrong_token : (start : At T) → ((v : V) → encodes [] v → ⊥)
      → ((ts : List T) (v : V) → encodes (start.token ∷ ts) v → ⊥) → Fault cut encodes start start wrong
  wrong_token start empty other = record {
    tokens = [];
    taken = refl;
    none = λ more _ us left next v e is. differs us v e left next more is;
  } where
    differs : (us : List T) (v : V) → encodes us v → (left : List T) (next : T) (more : List T)
        → us ++ next ∷ left ≡ start.token ∷ more → ⊥
    differs [] v e left next more is = empty v e
    differs (t ∷ us) v e left next more is =
        let first : t ≡ start.token = cc is in
        other us v (subst (λ (x : T). encodes (x ∷ us) v) first e)

  -- no encoding is empty, and no token is cut after the pending one
  pub uncut_token : (start : At T) (none : NothingCut cut start.text)
      → ((v : V) → encodes [] v → ⊥) → Fault cut encodes start start (uncut none)
  uncut_token start none empty = record {
    tokens = [];
    taken = refl;
    none = λ more follows us left next v e is. alone us v e left next more follows is;
  } where
    nothing_left : (us left : List T) (next : T) → us ++ next ∷ left ≡ [] → ⊥
    nothing_left [] left next is = absurd (cc is)
    nothing_left (u ∷ us) left next is = absurd (cc is)

    alone : (us : List T) (v : V) → encodes us v → (left : List T) (next : T) (more : List T)
        → more ≡ [] → us ++ next ∷ left ≡ start.token ∷ more → ⊥
    alone [] v e left next more follows is = empty v e
    alone (t ∷ us) v e left next more follows is =
        let rest : us ++ next ∷ left ≡ more = cc is in
        nothing_left us left next (rest ∙ follows)

  -- a reader at that token
  pub goes_wrong : {breaks : List ℕ → List ℕ → Type 0} (p : Position T) → p.at.text ≡ text_at p.place p.input → ((v : V) → encodes [] v → ⊥)
      → ((ts : List T) (v : V) → encodes (p.at.token ∷ ts) v → ⊥) → GoesWrong cut breaks encodes p p
  goes_wrong p text empty other = record {
    here = p;
    text = text;
    moved = moves_none p.place p.input;
    reason = wrong;
    fault = wrong_token p.at empty other;
    stands = (refl, refl);
  }

  -- a call that could not take the next one
  pub stopped_here : {start end : Position T} {e : Report} {breaks : List ℕ → List ℕ → Type 0}
      → start.at.text ≡ text_at start.place start.input → ((v : V) → encodes [] v → ⊥)
      → Fails (Uncut cut breaks start end) start end e → ReadsNone cut breaks encodes start end e
  stopped_here {start = start} text empty h = record {
    rejected = λ known.
        let stopped = h.rejected known in
        record {
          here = start;
          text = text;
          moved = moves_none start.place start.input;
          reason = uncut stopped.none;
          fault = uncut_token start.at stopped.none empty;
          stands = stopped.stands;
        };
    made = h.made;
    place = h.place;
  }

  -- a reader that gives up leaves the line and the column
  stands_ended : (breaks : List ℕ → List ℕ → Type 0) (last : At T) (here mid : Position T)
      (reason : Reason cut here.at) → StandsAt cut breaks here mid reason
      → StandsAt cut breaks here (given_up last mid) reason
  stands_ended breaks last here mid wrong h = h
  stands_ended breaks last here mid (uncut none) h = broken_ended last h

  pub none_ended : {start mid end : Position T} {e : Report} {breaks : List ℕ → List ℕ → Type 0} (last : At T)
      → end ≡ given_up last mid → ReadsNone cut breaks encodes start mid e
      → ReadsNone cut breaks encodes start end e
  none_ended {start} {mid} {e = e} {breaks} last is h =
      subst (λ (p : Position T). ReadsNone cut breaks encodes start p e) (sym is) (record {
        rejected = λ known.
            let f = h.rejected known in
            record {
              here = f.here;
              text = f.text;
              moved = f.moved;
              reason = f.reason;
              fault = f.fault;
              stands = stands_ended breaks last f.here mid f.reason f.stands;
            };
        made = h.made;
        place = advances_ended (record mid.place { cur = 0 }) h.place refl refl (remaining_end mid.input);
      })

  -- ---- where there is a fault, nothing decodes

  module _ (one_way : IsOneWay cut) (start here : At T) where
    after_pending : (cs : List T) (end : At T) (reason : Reason cut here) → Leaves cut cs here end
        → (more : List T) × MayFollow cut reason more
        × ((us ts : List T) → us ≡ ts ++ cs → us ++ end.token ∷ [] ≡ ts ++ here.token ∷ more)
    after_pending [] end wrong l = (
      [],
      tt,
      λ us ts is.
          ap (λ (xs : List T). xs ++ end.token ∷ []) (is ∙ append-nil ts)
          ∙ ap (λ (s : At T). ts ++ s.token ∷ []) (sym l),
    )
    after_pending [] end (uncut none) l = (
      [],
      refl,
      λ us ts is.
          ap (λ (xs : List T). xs ++ end.token ∷ []) (is ∙ append-nil ts)
          ∙ ap (λ (s : At T). ts ++ s.token ∷ []) (sym l),
    )
    after_pending (c ∷ cs) end wrong l = (
      cs ++ end.token ∷ [],
      tt,
      λ us ts is.
          ap (λ (xs : List T). xs ++ end.token ∷ []) is
          ∙ (append_assoc ts (c ∷ cs) (end.token ∷ [])
          ∙ ap (λ (t : T). ts ++ t ∷ (cs ++ end.token ∷ [])) l.0),
    )
    after_pending (c ∷ cs) end (uncut none) l = absurd (none l.1.0.token l.1.0.text l.1.1)

    pub nothing_decodes : (reason : Reason cut here) → Fault cut encodes start here reason
        → DecodesToNothing cut encodes start
    nothing_decodes reason f v d =
        elim (meets cut one_way d.0 f.tokens start d.1 here d.3 f.taken) [
          | inl r ↦
              let ends = begins_pending cut r.0 d.1 here [] r.2 in
              let whole =
              ap (λ (xs : List T). xs ++ here.token ∷ []) r.1
              ∙ (append_assoc d.0 r.0 (here.token ∷ [])
              ∙ ap (λ (xs : List T). d.0 ++ xs) ends.1) in
              f.none [] (follows_nothing reason) d.0 ends.0 d.1.token v d.2 (sym whole)
          | inr r ↦
              let k = after_pending r.0 d.1 reason r.2 in
              f.none k.0 k.1 d.0 [] d.1.token v d.2 (k.2 d.0 f.tokens r.1)
        ] where
          follows_nothing : (reason : Reason cut here) → MayFollow cut reason []
          follows_nothing wrong = tt
          follows_nothing (uncut none) = refl

  pub faults_decode_to_nothing : FaultsDecodeToNothing cut encodes
  faults_decode_to_nothing one_way start here reason f = nothing_decodes one_way start here reason f

  pub nothing_goes_past : NothingGoesPastFaults cut encodes
  nothing_goes_past one_way start here end reason f ts more v l e =
      elim (meets cut one_way ts f.tokens start end here l f.taken) [
        | inl r ↦ (r.0, r.1)
        | inr r ↦ past r.0 r.1 reason f.none r.2
      ] where
        past : (cs : List T) → ts ≡ f.tokens ++ cs → (reason : Reason cut here)
            → ((more : List T) → MayFollow cut reason more → NoneBegins encodes (f.tokens ++ here.token ∷ more))
            → Leaves cut cs here end → (between : List T) × (f.tokens ≡ ts ++ between)
        past [] is reason none k = ([], sym (append-nil ts ∙ (is ∙ append-nil f.tokens)))
        past (c ∷ cs) is (uncut n) none k = absurd (n k.1.0.token k.1.0.text k.1.1)
        past (c ∷ cs) is wrong none k =
            let whole =
            append_assoc ts more (c ∷ [])
            ∙ (ap (λ (xs : List T). xs ++ (more ++ c ∷ [])) is
            ∙ (append_assoc f.tokens (c ∷ cs) (more ++ c ∷ [])
            ∙ ap (λ (t : T). f.tokens ++ t ∷ (cs ++ (more ++ c ∷ []))) k.0)) in
            absurd (none (cs ++ (more ++ c ∷ [])) tt (ts ++ more) [] c v e whole)
