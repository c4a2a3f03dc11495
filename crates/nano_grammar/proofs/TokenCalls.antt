-- What calls that take several tokens come to, whatever the tokens are.
use Rattle.std.proofs.Common.{◌≡◌, ℕ, List, [], ◌∷◌, ◌++◌, sym, ◌∙◌, subst, inl, inr, Result, Ok}
use Rattle.std.proofs.Common.{Err, MatchResult, IsErrAnd, true, refl, ap}
use Rattle.nano_text.proofs.PlaceLaws.{moves_append, advances_none, advances_append, advances_ended}
use Rattle.nano_text.proofs.RemainingText.{remaining_end}
use Rattle.nano_text.proofs.PlaceLaws.{moves_none, moves_advance}
use Rattle.nano_grammar.specs.Outcomes.{Position, TookNext, Took, Report, IsMadeAt, Moved, given_up}
use Rattle.nano_grammar.specs.Outcomes.{Fails, Stops, RejectsToken, TookComma, Read, Reads, ReadsNone}
use Rattle.nano_grammar.specs.Outcomes.{ReadsOrEnds}
use Rattle.nano_grammar.specs.Tokens.{At, Leaves}
use Rattle.nano_grammar.proofs.TokensLaws.{leaves_append}
use Rattle.nano_grammar.proofs.FaultLaws.{LeadsTo, Encodes, wrong_in, wrong_as, none_ended}

module _ {T : Type 0} (cut : List ℕ → T → List ℕ → Type 0) where
  -- whatever is said of the buffers
  pub taken : {same_buffers : Type 0} {ts : List T} {start end : Position T} → Took cut same_buffers start end ts
      → Took cut (Unit {0}) start end ts
  taken h = record { taken = h.taken; buffers = tt; place = h.place }

  -- tokens, and more
  pub taken_both : {same_buffers held : Type 0} (ts us : List T) {start mid end : Position T} → Took cut same_buffers start mid ts
      → Took cut held mid end us → Took cut (Unit {0}) start end (ts ++ us)
  taken_both ts us {start} {mid} {end} h k = record {
    taken = leaves_append cut ts us start.at mid.at end.at h.taken k.taken;
    buffers = tt;
    place = moves_append h.place k.place;
  }

-- ==== outcomes

-- an exit by `?` passes on what holds of the error
pub passed_on : {A E : Type 0} {e : E} (P : A → Type 0) (Q : E → Type 0) (r : Result A E)
    → IsErrAnd r (λ d. d ≡ e) → Q e → MatchResult r P Q
passed_on P Q (Ok x) is h = absurd is
passed_on P Q (Err d) is h = subst Q (sym is) h

module _ {T : Type 0} where
  -- an error after what moved, which reports another fact then
  pub fails_after : {A B : Type 0} {start mid end : Position T} {e : Report} → (A → B)
      → Moved start mid → Fails A mid end e → Fails B start end e
  fails_after f moved h = record {
    rejected = λ known. f (h.rejected known);
    made = h.made;
    place = advances_append (moves_advance moved) h.place;
  }

  -- an error that reports another fact, too
  pub fails_as : {A B : Type 0} {start end : Position T} {e : Report} → (A → B)
      → Fails A start end e → Fails B start end e
  fails_as f h = record { rejected = λ known. f (h.rejected known); made = h.made; place = h.place }

  -- out of memory, after what moved
  pub fails_for_memory : {A : Type 0} {start end : Position T} {e : Report} → Moved start end
      → e.memory ≡ true → IsMadeAt end.place e → Fails A start end e
  fails_for_memory moved memory made = record {
    rejected = λ known. absurd (let x = sym memory ∙ known in cc x);
    made = made;
    place = moves_advance moved;
  }

  -- what fails at once
  pub fails_here : {A : Type 0} {p : Position T} {e : Report} → A → IsMadeAt p.place e → Fails A p p e
  fails_here {p = p} fact made =
      record { rejected = λ known. fact; made = made; place = advances_none p.place p.input }

  -- a reader that gives up leaves the line and the column
  pub fails_ended : {A : Type 0} {start mid end : Position T} {e : Report} (last : At T)
      → end ≡ given_up last mid → Fails A start mid e → Fails A start end e
  fails_ended {A} {start} {mid} {e = e} last is h =
      subst (λ (p : Position T). Fails A start p e) (sym is) (record {
        rejected = h.rejected;
        made = h.made;
        place = advances_ended (record mid.place { cur = 0 }) h.place refl refl (remaining_end mid.input);
      })

  -- ---- parts of a whole

  module _ {V W : Type 0} (cut : List ℕ → T → List ℕ → Type 0) (whole : List T → V → Type 0)
      (part : List T → W → Type 0) where
    -- where no part is read after these tokens, no whole is
    pub none_in : (ts : List T) {start mid end : Position T} {e : Report} {breaks : List ℕ → List ℕ → Type 0}
        → LeadsTo whole part ts mid.at.token → Leaves cut ts start.at mid.at → Moved start mid
        → ReadsNone cut breaks part mid end e → ReadsNone cut breaks whole start end e
    none_in ts leads l moved h = fails_after (wrong_in cut whole part ts leads l moved) moved h

    -- where no first part is read
    pub none_first : {start end : Position T} {e : Report} {breaks : List ℕ → List ℕ → Type 0} → LeadsTo whole part [] start.at.token
        → ReadsNone cut breaks part start end e → ReadsNone cut breaks whole start end e
    none_first {start = start} leads h =
        fails_as (wrong_in cut whole part [] leads refl (moves_none start.place start.input)) h

    pub none_as : {start end : Position T} {e : Report} {breaks : List ℕ → List ℕ → Type 0} → Encodes whole part
        → ReadsNone cut breaks part start end e → ReadsNone cut breaks whole start end e
    none_as into h = fails_as (wrong_as cut whole part into) h

  -- ---- the pending token, and the next one

  -- where the token is pending, a call takes it as it takes the next one
  pub took : {cut : List ℕ → T → List ℕ → Type 0} {buffered : Type 0} {start end : Position T} (t : T)
      → start.at.token ≡ t → TookNext cut buffered start end → Took cut buffered start end (t ∷ [])
  took {end = end} t is h =
      record { taken = (sym is, (end.at, h.taken, refl)); buffers = h.buffers; place = h.place }

  -- and where no next one is cut, it fails so
  pub rejects_next : {last : At T} {A fact full same wanted : Type 0} {start end : Position T} {e : Report}
      → wanted → (Fails A start end e → Fails fact start end e) → Stops last A full start end e
      → RejectsToken last wanted fact full same start end e
  rejects_next is f h = record {
    fails = f h.fails;
    unchanged = λ other. absurd (other is);
    ended = λ _. h.ended;
    capacity = λ _. h.capacity;
  }

  -- where another token is pending
  pub rejects_here : {last : At T} {fact full same wanted : Type 0} {p : Position T} {e : Report}
      → (wanted → ⊥) → fact → same → IsMadeAt p.place e → RejectsToken last wanted fact full same p p e
  rejects_here other fact same made = record {
    fails = fails_here fact made;
    unchanged = λ _. same;
    ended = λ is. absurd (other is);
    capacity = λ is. absurd (other is);
  }

  pub took_comma : {cut : List ℕ → T → List ℕ → Type 0} {buffered same : Type 0} {start end : Position T}
      (comma closing : T) → start.at.token ≡ comma → TookNext cut buffered start end
      → TookComma cut buffered start end comma closing same
  took_comma {end = end} comma closing is h = record {
    taken = inl (sym is, (end.at, h.taken, refl));
    unchanged = λ other. absurd (other is);
    buffers = h.buffers;
    place = h.place;
  }

  pub took_no_comma : {cut : List ℕ → T → List ℕ → Type 0} {buffered same : Type 0} {p : Position T}
      (comma closing : T) → p.at.token ≡ closing → buffered → same
      → TookComma cut buffered p p comma closing same
  took_no_comma {p = p} comma closing is buffered same = record {
    taken = inr (is, refl);
    unchanged = λ _. same;
    buffers = buffered;
    place = moves_none p.place p.input;
  }

  -- ---- values

  -- on an error the reader gives up
  pub ended_read : {V A E : Type 0} (cut : List ℕ → T → List ℕ → Type 0) (breaks : List ℕ → List ℕ → Type 0) (encodes : List T → V → Type 0)
      (start mid end : Position T) (report : E → Report) (means : A → V) (last : At T)
      (read result : Result A E) → result ≡ read
      → MatchResult read (λ _. end ≡ mid) (λ _. end ≡ given_up last mid)
      → Reads cut breaks encodes start mid report means read
      → ReadsOrEnds cut breaks encodes start end report means last result
  ended_read cut breaks encodes start mid end report means last (Ok x) result same is h =
      subst (ReadsOrEnds cut breaks encodes start end report means last) (sym same)
      (subst (λ (p : Position T). Read cut encodes start p (means x)) (sym is) h)
  ended_read cut breaks encodes start mid end report means last (Err e) result same is h =
      subst (ReadsOrEnds cut breaks encodes start end report means last) (sym same)
      (record { fails = none_ended cut encodes last is h; ended = ap (λ (p : Position T). p.at) is })
