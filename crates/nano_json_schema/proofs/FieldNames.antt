-- What the calls come to that go on to the name of a field, which is pending then or was taken in place.
use Rattle.std.proofs.Common.{◌≡◌, ◌≢◌, ℕ, List, [], ◌∷◌, ◌++◌, Bool, true, false, Option, Some, None}
use Rattle.std.proofs.Common.{MatchOption, Bor, string_bytes, inl, inr, refl, sym, ◌∙◌, ap, subst}
use Rattle.std.specs.Option.{is_some}
use Rattle.std.specs.declared.str.Chars.{Chars}
use Rattle.nano_text.specs.Place.{remaining, text_at}
use Rattle.nano_text.proofs.PlaceLaws.{moves_append, moves_none}
use Rattle.nano_grammar.specs.Outcomes.{Position, Moved, Report, Fails, TookNext, Took, TookComma}
use Rattle.nano_grammar.specs.Outcomes.{ReadsNone, StandsAt, GoesWrong as GoesWrongBy}
use Rattle.nano_grammar.specs.Tokens.{At, Leaves}
use Rattle.nano_grammar.specs.Faults.{NothingCut, AreTokens, Reason, wrong, uncut, MayFollow, NoneBegins}
use Rattle.nano_grammar.proofs.FaultLaws.{uncut_token, later_tokens_lead}
use Rattle.nano_grammar.proofs.TokenCalls.{fails_after, none_in}
use Rattle.nano_grammar.proofs.TokensLaws.{leaves_split}
use Rattle.nano_json_tokens.specs.Breaks.{Breaks}
use Rattle.nano_json_tokens.specs.Cut.{Cut}
use Rattle.nano_json_tokens.specs.Scan.{NoName, TookName}
use Rattle.nano_json_tokens.specs.Outcomes.{position}
use Rattle.nano_json_tokens.specs.State.{at, pending, token_of, KeepsBuffers, KeepsOtherBuffers}
use Rattle.nano_json_tokens.specs.Token.{Token, str, colon, comma, curly_close, IsStr}
use Rattle.nano_json_tokens.specs.declared.state.DeJsonState.{DeJsonState}
use Rattle.nano_json_tokens.proofs.Cuts.{cut_spaced}
use Rattle.nano_json_tokens.proofs.Scanning.{breaks_spaced}
use Rattle.nano_json_schema.specs.Reading.{name_bytes, GoesOn, ReachedName, NoNameAfter}
use Rattle.nano_json_schema.specs.Reading.{TakesNameAfter, TookColon, head_left}
use Rattle.nano_json_schema.proofs.Calls.{pending_name, still_there}

-- ---- a name that was taken in place

-- it was looked for
pub looked_ahead : (is : Bool) (old new : DeJsonState) (i j : Chars) (name : Option (Bor (List ℕ))) → is ≡ true
    → MatchOption name (NoName old i new j) (λ n. TookName old i new j n.now) → KeepsBuffers old new
    → TakesNameAfter is old i new j name
looked_ahead is old new i j (Some n) e h same = record { is = e; took = h }
looked_ahead is old new i j None e h same = record {
  tok = λ k. token_of (h.tok k) (string_bytes (same.strbuf k)) (string_bytes (same.numbuf k));
  cuts = cut_spaced (remaining old.cur i) (remaining new.cur j) h.space;
  breaks = breaks_spaced (remaining old.cur i) (remaining new.cur j) h.space;
  unchanged = λ other. absurd (let x = sym e ∙ other in cc x);
  place = h.place;
}

module _ {is : Bool} (old new : DeJsonState) (i j : Chars) where
  pub name_reached : {Way : At Token → At Token → Type 0} (before : Token) (name : Option (Bor (List ℕ)))
      → is_some name ≡ true → (is ≡ true → pending old ≡ before)
      → ((end : At Token) → Leaves Cut (before ∷ []) (at old i) end → Way (at old i) end)
      → TakesNameAfter is old i new j name → ReachedName Way (name_bytes name) (position old i) (position new j)
  name_reached before (Some n) some begins way h =
      let both = leaves_split Cut (pending old ∷ []) (str n.now ∷ []) (at old i) (at new j) h.took.taken in
      record {
        here = both.0;
        reached = way both.0 (subst (λ (t : Token). Leaves Cut (t ∷ []) (at old i) both.0) (begins h.is) both.1);
        stands = (both.2, h.took.colon);
        place = h.took.place;
      }
  name_reached before None some begins way h = absurd (cc some)

  pub none_reached : (name : Option (Bor (List ℕ))) → is_some name ≡ false → TakesNameAfter is old i new j name
      → NoNameAfter is old i new j
  none_reached None none h = h
  none_reached (Some n) none h = absurd (cc none)

-- ---- none was: the same tokens are ahead

module _ {is : Bool} {old new : DeJsonState} {i j : Chars} where
  module _ (h : NoNameAfter is old i new j) where
    pub leaves_from : (t : Token) (ts : List Token) (end : At Token) → Leaves Cut (t ∷ ts) (at new j) end
        → Leaves Cut (t ∷ ts) (at old i) end
    leaves_from t ts end l = (l.0 ∙ h.tok, (l.1.0, (h.cuts l.1.0.token l.1.0.text).0 l.1.1, l.1.2))

    -- where a token that stands there is wrong, it isn't the wanted one; and after it the same is cut
    from_there : (t : Token) (there : Position Token) → pending old ≡ t → (here : Position Token)
        → (reason : Reason Cut here.at) → here.at.text ≡ text_at here.place here.input
        → Moved (position new j) here → StandsAt Cut Breaks here there reason → (tokens : List Token)
        → Leaves Cut tokens (at new j) here.at
        → ((more : List Token) → MayFollow Cut reason more
        → NoneBegins (AreTokens (t ∷ [])) (tokens ++ here.at.token ∷ more))
        → GoesWrongBy Cut Breaks (AreTokens (t ∷ [])) (position old i) there
    from_there t there is here wrong text moved stands [] l none =
        let same : t ≡ here.at.token = sym is ∙ (sym h.tok ∙ ap (λ (z : At Token). z.token) l) in
        absurd (none (t ∷ []) tt (t ∷ []) [] t tt refl (ap (λ (u : Token). u ∷ t ∷ []) same))
    from_there t there is here (uncut n) text moved stands [] l none =
        let start = position old i in
        let uncut_here : NothingCut Cut (remaining old.cur i) =
        λ u rest c. n u rest (subst (λ (z : At Token). Cut z.text u rest) l ((h.cuts u rest).1 c)) in
        record {
          here = start;
          text = refl;
          moved = moves_none start.place start.input;
          reason = uncut uncut_here;
          fault = uncut_token Cut (AreTokens (t ∷ [])) start.at uncut_here (λ v e. absurd (cc e));
          stands = record {
            stop = stands.stop;
            input = stands.input;
            broken = h.breaks (text_at stands.stop stands.input)
                (subst (λ (z : At Token). Breaks z.text (text_at stands.stop stands.input)) (sym l) stands.broken);
            moved = moves_append h.place (moves_append moved stands.moved);
            line = stands.line;
            col = stands.col;
          };
        }
    from_there t there is here reason text moved stands (u ∷ us) l none = record {
      here = here;
      text = text;
      moved = moves_append h.place moved;
      reason = reason;
      fault = record { tokens = u ∷ us; taken = leaves_from u us here.at l; none = none };
      stands = stands;
    }

    -- what is not taken there is not taken here, where the name was looked for after the wanted token
    -- alone
    not_here : (t : Token) (there : Position Token) → (is ≡ true → pending old ≡ t)
        → GoesWrongBy Cut Breaks (AreTokens (t ∷ [])) (position new j) there
        → GoesWrongBy Cut Breaks (AreTokens (t ∷ [])) (position old i) there
    not_here t there begins k =
        elim is as (λ b. is ≡ b → GoesWrongBy Cut Breaks (AreTokens (t ∷ [])) (position old i) there) [
          | true ↦ λ e.
              from_there t there (begins e) k.here k.reason k.text k.moved k.stands k.fault.tokens k.fault.taken k.fault.none
          | false ↦ λ e.
              subst (λ (q : Position Token). GoesWrongBy Cut Breaks (AreTokens (t ∷ [])) q there) (still_there (h.unchanged e)) k
        ] refl

    pub opened : {same_buffers : Type 0} {t : Token} {end : Position Token} → Took Cut same_buffers (position new j) end (t ∷ [])
        → ReachedName (λ start end. Leaves Cut (t ∷ []) start end) None (position old i) end
    opened {t = t} {end} k = record {
      here = end.at;
      reached = leaves_from t [] end.at k.taken;
      stands = refl;
      place = moves_append h.place k.place;
    }

    pub not_opened : {t : Token} {end : Position Token} {e : Report} → (is ≡ true → pending old ≡ t)
        → ReadsNone Cut Breaks (AreTokens (t ∷ [])) (position new j) end e
        → ReadsNone Cut Breaks (AreTokens (t ∷ [])) (position old i) end e
    not_opened {t} {end} begins k = fails_after (not_here t end begins) h.place k

    pub went_on : {same_buffers same : Type 0} {end : Position Token} → (is ≡ false → position new j ≡ position old i)
        → (is ≡ true → pending old ≡ comma) → TookComma Cut same_buffers (position new j) end comma curly_close same
        → ReachedName GoesOn None (position old i) end
    went_on {end = end} still begins k = elim k.taken [
      | inl l ↦
          record { here = end.at; reached = inl (leaves_from comma [] end.at l); stands = refl; place = moves_append h.place k.place }
      | inr p ↦
          let closes = sym h.tok ∙ p.0 in
          let there = elim is as (λ b. is ≡ b → position new j ≡ position old i) [
            | true ↦ λ e. absurd (let x = sym (begins e) ∙ closes in cc x)
            | false ↦ λ e. still e
          ] refl in
          record {
            here = end.at;
            reached = inr (closes, p.1 ∙ ap (λ (q : Position Token). q.at) there);
            stands = refl;
            place = moves_append h.place k.place;
          }
    ]

    pub not_on : {end : Position Token} {e : Report} → (is ≡ true → pending old ≡ comma)
        → Fails ((pending new ≢ curly_close) × GoesWrongBy Cut Breaks (AreTokens (comma ∷ [])) (position new j) end) (position new j) end e
        → Fails ((pending old ≢ curly_close) × GoesWrongBy Cut Breaks (AreTokens (comma ∷ [])) (position old i) end) (position old i) end e
    not_on {end} begins k =
        fails_after (λ bad. (λ closes. bad.0 (h.tok ∙ closes), not_here comma end begins bad.1)) h.place k

-- ---- a pending name with the colon after it

module _ {old mid : DeJsonState} {i j : Chars} (is : IsStr (pending old))
    (h : TookNext Cut (KeepsOtherBuffers old mid) (position old i) (position mid j)) where
  -- its text was in the buffer
  pub pending_taken : {same_buffers : Type 0} {start end : Position Token} (name : List ℕ)
      → start ≡ position mid j → (pending mid ≡ colon → name ≡ string_bytes mid.strbuf)
      → Took Cut same_buffers start end (colon ∷ [])
      → Took Cut (Unit {0}) (position old i) end (str name ∷ (colon ∷ []))
  pending_taken {start = start} {end} name still moved k =
      let there = subst (λ (p : Position Token). Leaves Cut (colon ∷ []) p.at end.at) still k.taken in
      let at_colon : pending mid ≡ colon = sym there.0 in
      let same = moved at_colon ∙ h.buffers.strbuf (λ x. subst IsStr at_colon x) in
      record {
        taken = (ap str same ∙ sym (pending_name old is), (at mid j, h.taken, there));
        buffers = tt;
        place = moves_append h.place
            (subst (λ (p : Position Token). Moved p end) still k.place);
      }

  pub pending_not : {start end : Position Token} {e : Report} → start ≡ position mid j
      → ReadsNone Cut Breaks (AreTokens (colon ∷ [])) start end e
      → ReadsNone Cut Breaks (AreTokens (pending old ∷ (colon ∷ []))) (position old i) end e
  pending_not {start} {end} {e} still k =
      let there = subst (λ (p : Position Token). ReadsNone Cut Breaks (AreTokens (colon ∷ [])) p end e) still k in
      none_in Cut (AreTokens (pending old ∷ (colon ∷ []))) (AreTokens (colon ∷ [])) (pending old ∷ [])
      (later_tokens_lead (pending old ∷ []) (colon ∷ []) (pending mid)) (refl, (at mid j, h.taken, refl)) h.place there

-- ---- the colon

module _ {start end : Position Token} where
  pub colon_in_place : {same_buffers : Type 0} {name : Option (Bor (List ℕ))} (n : Bor (List ℕ)) → name ≡ Some n
      → Took Cut same_buffers start end (colon ∷ []) → TookColon (name_bytes name) start end n.now
  colon_in_place {name = name} n is k =
      subst (λ (o : Option (Bor (List ℕ))). TookColon (name_bytes o) start end n.now) (sym is)
      (record { named = refl; head = k.taken; place = k.place })

  pub no_colon_in_place : {name : Option (Bor (List ℕ))} {e : Report} (n : Bor (List ℕ)) → name ≡ Some n
      → ReadsNone Cut Breaks (AreTokens (colon ∷ [])) start end e
      → ReadsNone Cut Breaks (AreTokens (head_left (name_bytes name) start.at.token)) start end e
  no_colon_in_place {e = e} n is k =
      subst (λ (o : Option (Bor (List ℕ))). ReadsNone Cut Breaks (AreTokens (head_left (name_bytes o) start.at.token)) start end e)
      (sym is) k

  pub colon_taken : {same_buffers : Type 0} {name : Option (Bor (List ℕ))} (n : List ℕ) → name ≡ None
      → Took Cut same_buffers start end (str n ∷ (colon ∷ [])) → TookColon (name_bytes name) start end n
  colon_taken n is k =
      subst (λ (o : Option (Bor (List ℕ))). TookColon (name_bytes o) start end n) (sym is)
      (record { named = tt; head = k.taken; place = k.place })

  pub no_colon_taken : {name : Option (Bor (List ℕ))} {e : Report} → name ≡ None
      → ReadsNone Cut Breaks (AreTokens (start.at.token ∷ (colon ∷ []))) start end e
      → ReadsNone Cut Breaks (AreTokens (head_left (name_bytes name) start.at.token)) start end e
  no_colon_taken {e = e} is k =
      subst (λ (o : Option (Bor (List ℕ))). ReadsNone Cut Breaks (AreTokens (head_left (name_bytes o) start.at.token)) start end e)
      (sym is) k
