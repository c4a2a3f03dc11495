-- What is taken from a text, value by value, is what it holds.
use Rattle.std.specs.Prelude.{◌≡◌, ◌≢◌, ◌≤◌, ◌+◌, ℕ, List, [], ◌∷◌, ◌++◌, Bool, true, false, cond, length, refl}
use Rattle.std.proofs.Common.{sym, subst, ap, ◌∙◌, inl, inr, arith}
use Rattle.std.proofs.lemmas.Bool.{false≢true}
use Rattle.nano_text.specs.Place.{remaining_text}
use Rattle.nano_text.proofs.PlaceLaws.{moves_append, moves_none, moves_advance, advances_append}
use Rattle.nano_grammar.specs.Tokens.{At, Cutting, Leaves, Begins, Spans, DecodesToNothing}
use Rattle.nano_grammar.specs.Codec.{Grammar, IsEncoding, BeginsValue}
use Rattle.nano_grammar.specs.Outcomes.{HoldsNul, Report, Position, IsMadeAt, Uncut, Stops, Read}
use Rattle.nano_grammar.specs.Outcomes.{ReadsNoneAndEnds, TookNext, GoesWrong, given_up}
use Rattle.nano_values.specs.Values.{Encodings, HoldsValues, IsNext, TakesFirst, TakesValue, IsOver}
use Rattle.nano_values.specs.Values.{NoneIsNext, TakesNone, IsFirst, TakesValues, no_token, a_nul}
use Rattle.nano_values.specs.Values.{no_value as goes_wrong}
use Rattle.nano_grammar.proofs.TokensLaws.{CutLaws, leaves_split, leaves_append, leaves_after, begins_after, same_at, same_end}
use Rattle.nano_grammar.proofs.FaultLaws.{nothing_decodes}
use Rattle.nano_grammar.proofs.TokenCalls.{fails_ended}

-- ==== the next token

module _ {T : Type 0} (cut : List ℕ → T → List ℕ → Type 0) (bof : T) where
  -- no token was taken yet
  pub is_first : (now first : At T) → now.token ≡ bof → IsNext cut bof now first → cut now.text first.token first.text
  is_first now first is n = elim n [ inl x ↦ absurd (x.0 is) | inr x ↦ x.1 ]

  -- a token is pending
  pub is_pending : (now first : At T) → now.token ≢ bof → IsNext cut bof now first → first ≡ now
  is_pending now first begun n = elim n [ inl x ↦ x.1 | inr x ↦ absurd (begun x.0) ]

-- ==== one call

module _ {T : Type 0} {c : Cutting T} {g : Grammar T} (r : CutLaws c g) (bof : T)
    (uncut : (text rest : List ℕ) → c.cut text bof rest → ⊥) where
  -- the first token is taken
  pub takes_first : {buffered : Type 0} {old new : Position T} → old.at.token ≡ bof
      → TookNext c.cut buffered old new → TakesFirst c.cut bof old new
  takes_first {old = old} {new} is h = record {
    next = inr (is, h.taken);
    begun = λ e. uncut old.at.text new.at.text (subst (λ (t : T). c.cut old.at.text t new.at.text) e h.taken);
    place = h.place;
  }

  -- it was taken before
  pub took_first : (now : Position T) → now.at.token ≢ bof → TakesFirst c.cut bof now now
  took_first now begun = record { next = inl (begun, refl); begun = begun; place = moves_none now.place now.input }

  one_next : (now a b : At T) → IsNext c.cut bof now a → IsNext c.cut bof now b → a ≡ b
  one_next now a b n m = elim n [
    | inl x ↦ x.1 ∙ sym (is_pending c.cut bof now b x.0 m)
    | inr x ↦ same_at c.cut r.one_way now.text a b x.1 (is_first c.cut bof now b x.0 m)
  ]

  ended : (l : List ℕ) (b : Bool) → length l + cond b 0 1 ≤ length l → b ≡ true
  ended l true h = refl
  ended l false h = absurd (omega (arith, h))

  -- no value begins with the end
  no_value_ends : (ts : List T) (s e : At T) → BeginsValue g ts → Leaves c.cut ts s e → s.token ≡ r.end → ⊥
  no_value_ends [] s e b h is = b
  no_value_ends (t ∷ ts) s e b h is =
      let last = ended [] (r.is_end r.end) (r.shorter [] r.end [] r.end_is_cut) in
      false≢true (sym (r.begins_no_end t b) ∙ (ap r.is_end (h.0 ∙ is) ∙ last))

  module _ {V : Type 0} {P : V → Type 0} {S : List T → V → Type 0} (s : IsEncoding g P S) where
    pub takes_value : {old begun new : Position T} {v : V} → TakesFirst c.cut bof old begun
        → Read c.cut S begun new v → TakesValue c.cut S bof old new v
    takes_value {begun = begun} b h = record {
      first = begun.at;
      next = b.next;
      decodes = h.decodes;
      place = moves_append b.place h.place;
    }

    pub is_over : {bytes : List ℕ} {old new : Position T} → TakesFirst c.cut bof old new → new.at.token ≡ r.end
        → (HoldsNul bytes → ⊥) → IsOver c.cut bof r.end bytes old new
    is_over b is no_nul = record { next = b.next; ended = is; no_nul = no_nul; place = b.place }

    -- no first token is cut
    pub nothing_first : {last : At T} {full : Type 0} {bytes : List ℕ} {old new : Position T} {e : Report}
        → old.at.token ≡ bof → Stops last (Uncut c.cut c.breaks old new) full old new e
        → TakesNone c.cut c.breaks S bof r.end last bytes old new e
    nothing_first {old = old} is h = record {
      fails = record {
        rejected = λ known first n.
            absurd ((h.fails.rejected known).none first.token first.text (is_first c.cut bof old.at first is n));
        made = h.fails.made;
        place = h.fails.place;
      };
      why = λ known. no_token is (h.fails.rejected known);
      ended = h.ended;
    }

    -- where the text goes wrong, nothing decodes
    nothing_there : (start : At T) {end : Position T} {begun : Position T} → GoesWrong c.cut c.breaks S begun end
        → begun.at ≡ start → DecodesToNothing c.cut S start
    nothing_there start {begun = begun} w is =
        subst (λ (z : At T). DecodesToNothing c.cut S z) is
        (nothing_decodes c.cut S r.one_way begun.at w.here.at w.reason w.fault)

    -- no value is encoded from the next token on, which is not the end
    pub no_value : {last : At T} {bytes : List ℕ} {old begun new : Position T} {e : Report}
        → TakesFirst c.cut bof old begun → begun.at.token ≢ r.end → ReadsNoneAndEnds c.cut c.breaks S begun new last e
        → TakesNone c.cut c.breaks S bof r.end last bytes old new e
    no_value {old = old} {begun} b other h = record {
      fails = record {
        rejected = λ known first n.
            let same = one_next old.at first begun.at n b.next in (
              subst (λ (z : At T). DecodesToNothing c.cut S z) (sym same) (nothing_there begun.at (h.fails.rejected known) refl),
              λ is. absurd (other (sym (ap (λ (z : At T). z.token) same) ∙ is)),
            );
        made = h.fails.made;
        place = advances_append (moves_advance b.place) h.fails.place;
      };
      why = λ known. goes_wrong begun b other (h.fails.rejected known);
      ended = h.ended;
    }

    -- a NUL stands in the text, of which nothing else is left
    pub nul_follows : {last : At T} {bytes : List ℕ} {old begun new : Position T} {e : Report}
        → TakesFirst c.cut bof old begun → begun.at.token ≡ r.end → HoldsNul bytes → IsMadeAt begun.place e
        → new ≡ given_up last begun → TakesNone c.cut c.breaks S bof r.end last bytes old new e
    nul_follows {last} {old = old} {begun} {new} b is nul made given = record {
      fails =
          fails_ended {mid = begun} last given (record {
            rejected = λ known first n.
                let same = one_next old.at first begun.at n b.next in (
                  λ v d.
                      no_value_ends d.0 first d.1 (s.begins d.0 v d.2) d.3
                      (ap (λ (z : At T). z.token) same ∙ is),
                  λ _. nul,
                );
            made = made;
            place = moves_advance b.place;
          });
      why = λ known.
          a_nul begun b is nul (ap (λ (p : Position T). p.place.line) given) (ap (λ (p : Position T). p.place.col) given);
      ended = ap (λ (p : Position T). p.at) given;
    }

    -- ==== one list of values

    -- from one token on, one list of values is encoded up to the end
    same_values : (vs ws : List V) (ts us : List T) (start e f : At T) → Encodings S ts vs → Encodings S us ws
        → Leaves c.cut ts start e → Leaves c.cut us start f → e.token ≡ r.end → f.token ≡ r.end → vs ≡ ws
    same_values [] [] ts us start e f h j l m d k = refl
    same_values [] (w ∷ ws) ts us start e f h j l m d k =
        let here : start ≡ e = subst (λ (xs : List T). Leaves c.cut xs start e) h l in
        let one = leaves_split c.cut j.0 j.1 start f (subst (λ (xs : List T). Leaves c.cut xs start f) j.2 m) in
        absurd (no_value_ends j.0 start one.0 (s.begins j.0 w j.3) one.1 (ap (λ (z : At T). z.token) here ∙ d))
    same_values (v ∷ vs) [] ts us start e f h j l m d k =
        let here : start ≡ f = subst (λ (xs : List T). Leaves c.cut xs start f) j m in
        let one = leaves_split c.cut h.0 h.1 start e (subst (λ (xs : List T). Leaves c.cut xs start e) h.2 l) in
        absurd (no_value_ends h.0 start one.0 (s.begins h.0 v h.3) one.1 (ap (λ (z : At T). z.token) here ∙ k))
    same_values (v ∷ vs) (w ∷ ws) ts us start e f h j l m d k =
        let a = leaves_split c.cut h.0 h.1 start e (subst (λ (xs : List T). Leaves c.cut xs start e) h.2 l) in
        let b = leaves_split c.cut j.0 j.1 start f (subst (λ (xs : List T). Leaves c.cut xs start f) j.2 m) in
        let same = same_end c.cut r.one_way S s.none_begins h.0 j.0 v w start a.0 b.0 h.3 j.3 a.1 b.1 in
        let first : v ≡ w = s.one_value j.0 v w (subst (λ (xs : List T). S xs v) same.0 h.3) j.3 in
        let rest = subst (λ (z : At T). Leaves c.cut j.1 z f) (sym same.1) b.2 in
        let others = same_values vs ws h.1 j.1 a.0 e f h.4 j.4 a.2 rest d k in
        λ i. first i ∷ others i

    -- a text holds one list of values at most
    pub one_list : (bytes : List ℕ) (vs ws : List V) → HoldsValues c.cut S r.end bytes vs
        → HoldsValues c.cut S r.end bytes ws → vs ≡ ws
    one_list bytes vs ws h j =
        let text = remaining_text bytes in
        let a = leaves_after c.cut h.tokens r.end text h.begins in
        let b = leaves_after c.cut j.tokens r.end text j.begins in
        let start = same_at c.cut r.one_way text b.0 a.0 b.2 a.2 in
        let left : At T = record { token = r.end; text = b.1 } in
        same_values vs ws h.tokens j.tokens a.0 (record { token = r.end; text = a.1 }) left h.encoded j.encoded a.3
        (subst (λ (z : At T). Leaves c.cut j.tokens z left) start b.3) refl refl

    -- ==== one call after the other

    last_cut : (ts : List T) (m e : At T) (text : List ℕ) → c.cut text m.token m.text → Leaves c.cut ts m e → e.token ≢ bof
    last_cut [] m e text k h is =
        uncut text m.text (subst (λ (t : T). c.cut text t m.text) (ap (λ (z : At T). z.token) h ∙ is) k)
    last_cut (t ∷ ts) m e text k h is = last_cut ts h.1.0 e m.text h.1.1 h.1.2 is

    -- after a value a token is pending
    begun_after : (ts : List T) (m e : At T) → BeginsValue g ts → Leaves c.cut ts m e → e.token ≢ bof
    begun_after [] m e b h = absurd b
    begun_after (t ∷ ts) m e b h = last_cut ts h.1.0 e m.text h.1.1 h.1.2

    taken_tokens : (vs : List V) (start stop last : Position T) (first : At T) (bytes : List ℕ)
        → TakesValues c.cut S bof start vs stop → IsOver c.cut bof r.end bytes stop last
        → IsNext c.cut bof start.at first
        → (ts : List T) × Encodings S ts vs × Leaves c.cut ts first last.at
    taken_tokens [] start stop last first bytes h over n =
        let there = subst (λ (p : Position T). IsNext c.cut bof p.at last.at) (sym h) over.next in
        ([], refl, one_next start.at first last.at n there)
    taken_tokens (v ∷ vs) start stop last first bytes h over n =
        let next = h.0 in
        let same = one_next start.at h.1.first first h.1.next n in
        let d = subst (λ (z : At T). Spans c.cut S z next.at v) same h.1.decodes in
        let begun = begun_after d.0 first next.at (s.begins d.0 v d.1) d.2 in
        let rest = taken_tokens vs next stop last next.at bytes h.2 over (inl (begun, refl)) in
        (d.0 ++ rest.0, (d.0, rest.0, refl, d.1, rest.1), leaves_append c.cut d.0 rest.0 first next.at last.at d.2 rest.2)

    some_first : (vs : List V) (start stop last : Position T) (bytes : List ℕ)
        → TakesValues c.cut S bof start vs stop → IsOver c.cut bof r.end bytes stop last
        → (first : At T) × IsNext c.cut bof start.at first
    some_first [] start stop last bytes h over =
        (last.at, subst (λ (p : Position T). IsNext c.cut bof p.at last.at) (sym h) over.next)
    some_first (v ∷ vs) start stop last bytes h over = (h.1.first, h.1.next)

    -- the values that are taken up to the end are those that the text holds
    pub taken_are_held : (bytes : List ℕ) (vs : List V) (start stop last : Position T) → IsFirst bof bytes start
        → TakesValues c.cut S bof start vs stop → IsOver c.cut bof r.end bytes stop last
        → HoldsValues c.cut S r.end bytes vs
    taken_are_held bytes vs start stop last new h over =
        let first = some_first vs start stop last bytes h over in
        let taken = taken_tokens vs start stop last first.0 bytes h over first.1 in
        let cut =
        subst (λ (l : List ℕ). c.cut l first.0.token first.0.text) new.text (is_first c.cut bof start.at first.0 new.token first.1) in
        let begins = begins_after c.cut taken.0 first.0 last.at (remaining_text bytes) cut taken.2 in
        record {
          tokens = taken.0;
          encoded = taken.1;
          begins = subst (λ (t : T). Begins c.cut (taken.0 ++ t ∷ []) (remaining_text bytes)) over.ended begins;
          no_nul = over.no_nul;
        }

    none_held : (vs ws : List V) (us : List T) (start stop : Position T) (first e : At T) (bytes : List ℕ)
        → TakesValues c.cut S bof start vs stop → NoneIsNext c.cut S bof r.end bytes stop.at
        → IsNext c.cut bof start.at first → Encodings S us ws → Leaves c.cut us first e → e.token ≡ r.end
        → (HoldsNul bytes → ⊥) → ⊥
    none_held [] [] us start stop first e bytes h none n j m d no_nul =
        let here = none first (subst (λ (p : Position T). IsNext c.cut bof p.at first) h n) in
        let same : first ≡ e = subst (λ (xs : List T). Leaves c.cut xs first e) j m in
        no_nul (here.1 (ap (λ (z : At T). z.token) same ∙ d))
    none_held [] (w ∷ ws) us start stop first e bytes h none n j m d no_nul =
        let here = none first (subst (λ (p : Position T). IsNext c.cut bof p.at first) h n) in
        let one = leaves_split c.cut j.0 j.1 first e (subst (λ (xs : List T). Leaves c.cut xs first e) j.2 m) in
        here.0 w (j.0, one.0, j.3, one.1)
    none_held (v ∷ vs) [] us start stop first e bytes h none n j m d no_nul =
        let same = one_next start.at h.1.first first h.1.next n in
        let one = subst (λ (z : At T). Spans c.cut S z h.0.at v) same h.1.decodes in
        let here : first ≡ e = subst (λ (xs : List T). Leaves c.cut xs first e) j m in
        no_value_ends one.0 first h.0.at (s.begins one.0 v one.1) one.2 (ap (λ (z : At T). z.token) here ∙ d)
    none_held (v ∷ vs) (w ∷ ws) us start stop first e bytes h none n j m d no_nul =
        let next = h.0 in
        let same = one_next start.at h.1.first first h.1.next n in
        let one = subst (λ (z : At T). Spans c.cut S z next.at v) same h.1.decodes in
        let b = leaves_split c.cut j.0 j.1 first e (subst (λ (xs : List T). Leaves c.cut xs first e) j.2 m) in
        let both = same_end c.cut r.one_way S s.none_begins one.0 j.0 v w first next.at b.0 one.1 j.3 one.2 b.1 in
        let begun = begun_after one.0 first next.at (s.begins one.0 v one.1) one.2 in
        let rest = subst (λ (z : At T). Leaves c.cut j.1 z e) (sym both.1) b.2 in
        none_held vs ws j.1 next stop next.at e bytes h.2 none (inl (begun, refl)) j.4 rest d no_nul

    -- where a value is missing, the text holds no list of values
    pub fault_holds_none : (bytes : List ℕ) (vs ws : List V) (start stop : Position T) → IsFirst bof bytes start
        → TakesValues c.cut S bof start vs stop → NoneIsNext c.cut S bof r.end bytes stop.at
        → HoldsValues c.cut S r.end bytes ws → ⊥
    fault_holds_none bytes vs ws start stop new h none j =
        let text = remaining_text bytes in
        let b = leaves_after c.cut j.tokens r.end text j.begins in
        let cut = subst (λ (l : List ℕ). c.cut l b.0.token b.0.text) (sym new.text) b.2 in
        none_held vs ws j.tokens start stop b.0 (record { token = r.end; text = b.1 }) bytes h none
        (inr (new.token, cut)) j.encoded b.3 refl j.no_nul
