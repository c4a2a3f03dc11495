-- What one call comes to, from what the calls inside it come to.
use Rattle.std.proofs.Common.{◌≡◌, ◌≢◌, ◌⊎◌, inl, inr, ℕ, List, [], ◌∷◌, Result, refl, sym, subst}
use Rattle.std.proofs.Common.{ap, ◌∙◌}
use Rattle.std.proofs.lemmas.Result.{MatchResult-weaker}
use Rattle.std.specs.declared.str.Chars.{Chars}
use Rattle.nano_text.specs.Place.{remaining}
use Rattle.nano_text.proofs.PlaceLaws.{moves_append}
use Rattle.nano_text.proofs.RemainingText.{remaining_end}
use Rattle.nano_grammar.specs.Tokens.{At}
use Rattle.nano_grammar.specs.Faults.{AreTokens}
use Rattle.nano_grammar.specs.Outcomes.{Position, Report, Fails, Stops, TookNext, ReadsNone, given_up}
use Rattle.nano_grammar.proofs.FaultLaws.{goes_wrong, stopped_here, none_ended, later_tokens_lead}
use Rattle.nano_grammar.proofs.TokensLaws.{same_at}
use Rattle.nano_grammar.proofs.TokenCalls.{fails_as, fails_ended, none_in}
use Rattle.nano_grammar.proofs.TokenCalls.{ended_read as ended_read_by, took, rejects_next}
use Rattle.nano_grammar.proofs.TokenCalls.{rejects_here, took_comma}
use Rattle.nano_ron_tokens.specs.Breaks.{Breaks}
use Rattle.nano_ron_tokens.specs.Cut.{Cut}
use Rattle.nano_ron_tokens.specs.Outcomes.{report, position, IsMadeAt, Uncut, NoneHere}
use Rattle.nano_ron_tokens.specs.Outcomes.{NoCapacity, Taken, NotTaken, NoColon, TakesNext}
use Rattle.nano_ron_tokens.specs.Outcomes.{TakesOne, TakesComma, Reads, ReadsOrEnds, EndsOnError}
use Rattle.nano_ron_tokens.specs.State.{at, ended, pending, KeepsOtherBuffers}
use Rattle.nano_ron_tokens.specs.Token.{Token, IsStr, IsNumeric, IsLiteral, colon, comma}
use Rattle.nano_ron_tokens.specs.declared.error.DeRonErr.{DeRonErr}
use Rattle.nano_ron_tokens.specs.declared.state.DeRonState.{DeRonState}
use Rattle.nano_ron_tokens.specs.declared.token.DeRonTok.TheVariants.{Eof}
use Rattle.nano_ron_tokens.proofs.Cuts.{cut_one_way}

-- where nothing changes, all buffers are the same
pub keeps_all : (s : DeRonState) → KeepsOtherBuffers s s
keeps_all s = record { strbuf = λ _. refl; numbuf = λ _. refl; identbuf = λ _. refl }

-- a failed state is at the end of the text, on the same line and column
pub gives_up : (old new : DeRonState) (i : Chars) → new ≡ record old { tok = Eof; cur = 0 }
    → position new i ≡ given_up ended (position old i)
gives_up old new i is =
    ap (λ (s : DeRonState). position s i) is
    ∙ ap (λ (text : List ℕ). given_up (record { token = ended.token; text = text }) (position old i)) (remaining_end i)

-- a reader of several tokens that leaves the state at the end of the text on an error
pub ended_read : {V A : Type 0} {mid new : DeRonState} {read result : Result A DeRonErr}
    (encodes : List Token → V → Type 0) (means : A → V) (start : Position Token) (j : Chars)
    → EndsOnError mid new read result → Reads encodes means start (position mid j) read
    → ReadsOrEnds encodes means start (position new j) result
ended_read {mid = mid} {new} {read} {result} encodes means start j h r =
    ended_read_by Cut Breaks encodes start (position mid j) (position new j) report means ended read result h.same
    (MatchResult-weaker read h.state (λ _ is. ap (λ (s : DeRonState). position s j) is) (λ _ is. gives_up mid new j is)) r

-- ---- the next token

-- where nothing was scanned, the state fails
pub fails_ended_there : {A : Type 0} {start : Position Token} (mid new : DeRonState) (j : Chars) (e : DeRonErr)
    → new ≡ record mid { tok = Eof; cur = 0 } → Fails A start (position mid j) (report e)
    → Fails A start (position new j) (report e)
fails_ended_there mid new j e is h = fails_ended ended (gives_up mid new j is) h

-- the error of a rejection is made where the state failed, which is where it stood
pub made_there : (mid new : DeRonState) (e : DeRonErr) → new ≡ record mid { tok = Eof; cur = 0 } → IsMadeAt new e
    → IsMadeAt mid e
made_there mid new e is made = (
  made.0,
  made.1 ∙ ap (λ (s : DeRonState). s.line) is,
  made.2 ∙ ap (λ (s : DeRonState). s.col) is,
)

-- no value goes wrong where a reader gives up, but on the way there
pub none_ended_there : {V : Type 0} (encodes : List Token → V → Type 0) {start : Position Token} (mid new : DeRonState)
    (j : Chars) (e : DeRonErr) → new ≡ record mid { tok = Eof; cur = 0 }
    → ReadsNone Cut Breaks encodes start (position mid j) (report e) → ReadsNone Cut Breaks encodes start (position new j) (report e)
none_ended_there encodes mid new j e is h = none_ended Cut encodes ended (gives_up mid new j is) h

-- where no token is cut after the pending one, these are not taken
pub none_stopped : (t : Token) (ts : List Token) (old new : DeRonState) (i j : Chars) {e : Report}
    → Fails (Uncut old i new j) (position old i) (position new j) e
    → Fails (NoneHere (t ∷ ts) old i new j) (position old i) (position new j) e
none_stopped t ts old new i j h = stopped_here Cut (AreTokens (t ∷ ts)) refl (λ v e. absurd (cc e)) h

-- ---- the pending token and the next one

-- where it is the token, the call is that of the next one
pub takes_one : {A : Type 0} (t : Token) (old new : DeRonState) (i j : Chars) → pending old ≡ t
    → (r : Result A DeRonErr) → TakesNext old i new j r → TakesOne old i new j t r
takes_one t old new i j is r h =
    MatchResult-weaker r h (λ _ x. took t is x) (λ _ x. rejects_next is (none_stopped t [] old new i j) x)

-- where it is another one
none_here : (t : Token) (s : DeRonState) (i : Chars) → pending s ≢ t → NoneHere (t ∷ []) s i s i
none_here t s i other =
    goes_wrong Cut (AreTokens (t ∷ [])) (position s i) refl (λ v e. absurd (cc e))
    (λ ts v e. let same : pending s ≡ t = cc e in other same)

pub rejects_other : (t : Token) (s : DeRonState) (i : Chars) (e : DeRonErr) → pending s ≢ t → IsMadeAt s e
    → NotTaken s i s i (pending s ≡ t) (NoneHere (t ∷ []) s i s i) e
rejects_other t s i e other made = rejects_here other (none_here t s i other) (refl, refl) made

-- ---- a comma, or a closing bracket

pub takes_comma : {A : Type 0} (closing : Token) → comma ≢ closing → (old new : DeRonState) (i j : Chars)
    → pending old ≡ comma → (r : Result A DeRonErr) → TakesNext old i new j r
    → TakesComma old i new j closing r
takes_comma closing apart old new i j is r h =
    let more : pending old ≢ closing = λ closes. apart (sym is ∙ closes) in
    MatchResult-weaker r h (λ _ x. took_comma comma closing is x)
    (λ _ x. (more, rejects_next is (λ f. fails_as (λ w. (more, w)) (none_stopped comma [] old new i j f)) x))

pub rejects_comma : (closing : Token) (s : DeRonState) (i : Chars) (e : DeRonErr) → pending s ≢ comma
    → pending s ≢ closing → IsMadeAt s e
    → (pending s ≢ closing)
    × NotTaken s i s i (pending s ≡ comma) ((pending s ≢ closing) × NoneHere (comma ∷ []) s i s i) e
rejects_comma closing s i e other more made =
    (more, rejects_here other (more, none_here comma s i other) (refl, refl) made)

-- ---- a colon after the pending token

module _ (old mid : DeRonState) (i j : Chars)
    (h : TookNext Cut (KeepsOtherBuffers old mid) (position old i) (position mid j)) where
  pub colon_after : (new : DeRonState) (k : Chars) → Taken mid j new k (colon ∷ [])
      → Taken old i new k (pending old ∷ (colon ∷ []))
  colon_after new k x = record {
    taken = (refl, (at mid j, h.taken, x.taken));
    buffers = record {
      strbuf = λ other. x.buffers.strbuf other ∙ h.buffers.strbuf (subst (λ (t : Token). IsStr t → ⊥) x.taken.0 (λ is. is));
      numbuf = λ other. x.buffers.numbuf other ∙ h.buffers.numbuf (subst (λ (t : Token). IsNumeric t → ⊥) x.taken.0 (λ is. is));
      identbuf = λ other. x.buffers.identbuf other ∙ h.buffers.identbuf (subst (λ (t : Token). IsLiteral t → ⊥) x.taken.0 (λ is. is));
    };
    place = moves_append h.place x.place;
  }

  colon_or_not : (t : Token) → (t ≡ colon) ⊎ (t ≢ colon)
  colon_or_not colon = inl refl
  colon_or_not _ = inr (λ e. cc e)

  pub no_colon_after : (new : DeRonState) (k : Chars) (e : DeRonErr)
      → NotTaken mid j new k (pending mid ≡ colon) (NoneHere (colon ∷ []) mid j new k) e → NoColon old i new k e
  no_colon_after new k e x = record {
    fails = none_in Cut (AreTokens (pending old ∷ (colon ∷ []))) (AreTokens (colon ∷ [])) (pending old ∷ [])
        (later_tokens_lead (pending old ∷ []) (colon ∷ []) (pending mid)) (refl, (at mid j, h.taken, refl)) h.place x.fails;
    other = λ known next cut other.
        let same = same_at Cut cut_one_way (remaining old.cur i) (at mid j) next h.taken cut in
        let still = x.unchanged (λ is. other (ap (λ (s : At Token). s.token) (sym same) ∙ is)) in
        ap (λ (s : DeRonState). at s k) still.0 ∙ (ap (λ (l : Chars). at mid l) still.1 ∙ same);
    left = elim (colon_or_not (pending mid)) [
      | inl is ↦
          inr (x.ended is, λ t rest cut other. absurd (other ((cut_one_way (remaining old.cur i) t (pending mid) rest (remaining mid.cur j) cut h.taken).0 ∙ is)))
      | inr other ↦
          let still = x.unchanged other in
          inl (subst (λ (s : DeRonState). (pending s ≢ colon) × Cut (remaining old.cur i) (pending s) (remaining s.cur k) × KeepsOtherBuffers old s) (sym still.0)
          (subst (λ (l : Chars). (pending mid ≢ colon) × Cut (remaining old.cur i) (pending mid) (remaining mid.cur l) × KeepsOtherBuffers old mid) (sym still.1) (other, h.taken, h.buffers)))
    ];
  }

-- where nothing can be cut after the pending token
pub no_colon_uncut : (old new : DeRonState) (i k : Chars) (e : DeRonErr)
    → Stops ended (Uncut old i new k) (NoCapacity old (remaining old.cur i)) (position old i) (position new k) (report e)
    → NoColon old i new k e
no_colon_uncut old new i k e h = record {
  fails = none_stopped (pending old) (colon ∷ []) old new i k h.fails;
  other = λ known next cut other. absurd ((h.fails.rejected known).none next.token next.text cut);
  left = inr (h.ended, λ t rest cut other. h.capacity t rest cut);
}
