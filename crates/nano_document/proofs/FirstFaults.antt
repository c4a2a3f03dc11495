-- What is proved of first faults: one of a part is one of the whole, and what one token comes to.
use Rattle.std.proofs.Common.{◌≡◌, ◌≢◌, ◌⊎◌, inl, inr, List, [], ◌∷◌, ◌++◌, refl, sym, ap, ◌∙◌}
use Rattle.std.proofs.Common.{subst, append_assoc, append-nil, ℕ, Result}
use Rattle.std.proofs.lemmas.Result.{MatchResult-weaker}
use Rattle.std.specs.declared.str.Chars.{Chars}
use Rattle.nano_text.specs.Place.{text_at}
use Rattle.nano_text.proofs.PlaceLaws.{moves_append, moves_none}
use Rattle.nano_value.specs.Meaning.{Meaning, IsImage}
use Rattle.nano_grammar.specs.Faults.{AreTokens, Reason, wrong, uncut, MayFollow, NoneBegins}
use Rattle.nano_grammar.specs.Outcomes.{Report, Position, Moved, IsMadeAt, Fails, GoesWrong}
use Rattle.nano_grammar.specs.Scalars.{EncodesOne}
use Rattle.nano_grammar.specs.Tokens.{At, Leaves}
use Rattle.nano_grammar.proofs.FaultLaws.{LeadsTo, first_token, begins_pending}
use Rattle.nano_grammar.proofs.Reading.{one_some, one_other}
use Rattle.nano_grammar.proofs.TokenCalls.{fails_after, fails_as, fails_here}
use Rattle.nano_grammar.proofs.TokensLaws.{leaves_append}
use Rattle.nano_json_tokens.proofs.JsonLaws.{json}
use Rattle.nano_json_tokens.specs.Breaks.{Breaks}
use Rattle.nano_json_tokens.specs.Cut.{Cut}
use Rattle.nano_json_tokens.specs.Outcomes.{position, Reads}
use Rattle.nano_json_tokens.specs.Token.{Token, null, colon, comma, block_open, curly_open, str}
use Rattle.nano_json_tokens.specs.declared.error.DeJsonErr.{DeJsonErr}
use Rattle.nano_json_tokens.specs.State.{token_of}
use Rattle.nano_json_tokens.specs.declared.state.DeJsonState.{DeJsonState}
use Rattle.nano_json_tokens.specs.declared.token.DeJsonTok.{DeJsonTok}
use Rattle.nano_json_tokens.specs.declared.token.DeJsonTok.TheVariants as T
use Rattle.nano_document.specs.FirstFaults.{CanBegin, IsBeginning, before_fault, GoesWrongFirst}
use Rattle.nano_document.specs.FirstFaults.{ReadsOrFirstFault}

-- ==== beginnings

module _ {V : Type 0} (encodes : List Token → V → Type 0) where
  -- what encodes a value begins one
  pub begins_itself : (ts : List Token) (v : V) → encodes ts v → CanBegin encodes ts
  begins_itself ts v h = ([], v, subst (λ (xs : List Token). encodes xs v) (sym (append-nil ts)) h)

  -- and so do the first of the tokens that begin one
  pub begins_shorter : (ts us : List Token) → CanBegin encodes (ts ++ us) → CanBegin encodes ts
  begins_shorter ts us h = (
    us ++ h.0,
    h.1,
    subst (λ (xs : List Token). encodes xs h.1) (append_assoc ts us h.0) h.2,
  )

-- ==== the pending token

module _ {V : Type 0} (encodes : List Token → V → Type 0) where
  follows_nothing : {here : At Token} → (reason : Reason Cut here) → MayFollow Cut reason []
  follows_nothing wrong = tt
  follows_nothing (uncut none) = refl

  only_pending : (start here : At Token) (v : V) → encodes (start.token ∷ []) v → (ts : List Token)
      → Leaves Cut ts start here → (reason : Reason Cut here)
      → ((more : List Token) → MayFollow Cut reason more → NoneBegins encodes (ts ++ here.token ∷ more))
      → IsBeginning encodes (before_fault reason ts)
  only_pending start here v e [] l wrong none =
      let same : start.token ∷ null ∷ [] ≡ here.token ∷ null ∷ [] = ap (λ (s : At Token). s.token ∷ null ∷ []) l in
      absurd (none (null ∷ []) tt (start.token ∷ []) [] null v e same)
  only_pending start here v e [] l (uncut n) none =
      inr ([], v, subst (λ (s : At Token). encodes (s.token ∷ []) v) l e)
  only_pending start here v e (t ∷ ts) l reason none =
      let f = first_token ts here.token [] in
      let same = ap (λ (xs : List Token). start.token ∷ xs) (sym f.2)
      ∙ ap (λ (x : Token). x ∷ (ts ++ here.token ∷ [])) (sym l.0) in
      absurd (none [] (follows_nothing reason) (start.token ∷ []) f.1 f.0 v e same)

  -- where the pending token alone encodes a value, no token can be cut after it
  pub wrong_after : {start end : Position Token} (v : V) → encodes (start.at.token ∷ []) v
      → GoesWrong Cut Breaks encodes start end → GoesWrongFirst encodes start end
  wrong_after {start} v e h = record {
    wrong = h;
    before = only_pending start.at h.here.at v e h.fault.tokens h.fault.taken h.reason h.fault.none;
  }

  -- where no encoding is empty, and none begins with the pending token
  pub wrong_at : (p : Position Token) → p.at.text ≡ text_at p.place p.input
      → ((v : V) → encodes [] v → ⊥)
      → ((ts : List Token) (v : V) → encodes (p.at.token ∷ ts) v → ⊥) → GoesWrongFirst encodes p p
  wrong_at p text empty other = record {
    wrong = record {
      here = p;
      text = text;
      moved = moves_none p.place p.input;
      reason = wrong;
      fault = record {
        tokens = [];
        taken = refl;
        none = λ more _ us left next v e is. differs us v e left next more is;
      };
      stands = (refl, refl);
    };
    before = inl refl;
  } where
    differs : (us : List Token) (v : V) → encodes us v → (left : List Token) (next : Token)
        (more : List Token) → us ++ next ∷ left ≡ p.at.token ∷ more → ⊥
    differs [] v e left next more is = empty v e
    differs (t ∷ us) v e left next more is =
        let first : t ≡ p.at.token = cc is in
        other us v (subst (λ (x : Token). encodes (x ∷ us) v) first e)

-- ==== parts of a whole

module _ {V W : Type 0} (whole : List Token → V → Type 0) (part : List Token → W → Type 0) where
  joined : (ts us : List Token) {here : At Token} (reason : Reason Cut here)
      → before_fault reason (ts ++ us) ≡ ts ++ before_fault reason us
  joined ts us wrong = refl
  joined ts us {here} (uncut none) = append_assoc ts us (here.token ∷ [])

  goes_on : (ts : List Token) → IsBeginning whole ts
      → ((us : List Token) (w : W) → part us w → CanBegin whole (ts ++ us))
      → (us : List Token) → IsBeginning part us → IsBeginning whole (ts ++ us)
  goes_on ts before with_part us (inl is) =
      subst (IsBeginning whole) (sym (ap (λ (xs : List Token). ts ++ xs) is ∙ append-nil ts)) before
  goes_on ts before with_part us (inr h) =
      let c = with_part (us ++ h.0) h.1 h.2 in
      inr (begins_shorter whole (ts ++ us) h.0
      (subst (CanBegin whole) (sym (append_assoc ts us h.0)) c))

  -- Where the tokens before a part can begin a whole, and so they can with all of the part, the
  -- first fault of the part is the first one of the whole
  pub wrong_first_in : (ts : List Token) {start mid end : Position Token}
      → LeadsTo whole part ts mid.at.token → Leaves Cut ts start.at mid.at → Moved start mid
      → IsBeginning whole ts → ((us : List Token) (w : W) → part us w → CanBegin whole (ts ++ us))
      → GoesWrongFirst part mid end → GoesWrongFirst whole start end
  wrong_first_in ts {start} {mid} leads l moved before with_part h =
      let f = h.wrong.fault in
      let here = h.wrong.here.at in
      record {
        wrong = record {
          here = h.wrong.here;
          text = h.wrong.text;
          moved = moves_append moved h.wrong.moved;
          reason = h.wrong.reason;
          fault = record {
            tokens = ts ++ f.tokens;
            taken = leaves_append Cut ts f.tokens start.at mid.at here l f.taken;
            none = λ more follows us left next v e is.
                let first = begins_pending Cut f.tokens mid.at here more f.taken in
                let all = append_assoc ts f.tokens (here.token ∷ more) in
                let r = leads us left first.0 next v e
                (is ∙ (all ∙ ap (λ (xs : List Token). ts ++ xs) first.1)) in
                f.none more follows r.0 r.3 r.2 r.1 r.4 (r.5 ∙ sym first.1);
          };
          stands = h.wrong.stands;
        };
        before = subst (IsBeginning whole) (sym (joined ts f.tokens h.wrong.reason))
            (goes_on ts before with_part (before_fault h.wrong.reason f.tokens) h.before);
      }

  pub first_in : (ts : List Token) {start mid end : Position Token} {e : Report}
      → LeadsTo whole part ts mid.at.token → Leaves Cut ts start.at mid.at → Moved start mid
      → IsBeginning whole ts → ((us : List Token) (w : W) → part us w → CanBegin whole (ts ++ us))
      → Fails (GoesWrongFirst part mid end) mid end e → Fails (GoesWrongFirst whole start end) start end e
  first_in ts leads l moved before with_part h =
      fails_after (wrong_first_in ts leads l moved before with_part) moved h

  -- of the first part
  pub first_part : {start end : Position Token} {e : Report} → LeadsTo whole part [] start.at.token
      → ((us : List Token) (w : W) → part us w → CanBegin whole us)
      → Fails (GoesWrongFirst part start end) start end e
      → Fails (GoesWrongFirst whole start end) start end e
  first_part {start} leads with_part h =
      fails_as (wrong_first_in [] leads refl (moves_none start.place start.input) (inl refl) with_part) h

-- ==== one token

-- the state is the same
pub unmoved : {new old : DeJsonState} {after before : Chars} → (new ≡ old) × (after ≡ before)
    → position new after ≡ position old before
unmoved h = λ i. position (h.0 i) (h.1 i)

-- a token that stands for itself is pending, and no token can be cut after it
pub none_after_token : (t : Token) {start end : Position Token} {e : Report} → start.at.token ≡ t
    → Fails (GoesWrong Cut Breaks (AreTokens (t ∷ [])) start end) start end e
    → Fails (GoesWrongFirst (AreTokens (t ∷ [])) start end) start end e
none_after_token t is h =
    fails_as (wrong_after (AreTokens (t ∷ [])) tt (ap (λ (x : Token). x ∷ []) is)) h

-- it is not taken: another one is pending, or no token can be cut after it
pub not_taken : (t : Token) → ((u : Token) → (u ≡ t) ⊎ (u ≢ t)) → {start end : Position Token} {e : Report}
    → start.at.text ≡ text_at start.place start.input → ((start.at.token ≡ t → ⊥) → end ≡ start)
    → Fails (GoesWrong Cut Breaks (AreTokens (t ∷ [])) start end) start end e
    → Fails (GoesWrongFirst (AreTokens (t ∷ [])) start end) start end e
not_taken t decide {start} {end} text same h =
    let Alone = AreTokens (t ∷ []) in
    elim (decide start.at.token) [
      | inl is ↦ none_after_token t is h
      | inr other ↦
          let w = wrong_at Alone start text (λ _ e. absurd (cc e))
          (λ ts _ e. let is : start.at.token ≡ t = cc e in other is) in
          record {
            rejected = λ _. subst (λ (p : Position Token). GoesWrongFirst Alone start p) (sym (same other)) w;
            made = h.made;
            place = h.place;
          }
    ]

pub is_colon : (t : Token) → (t ≡ colon) ⊎ (t ≢ colon)
is_colon colon = inl refl
is_colon _ = inr (λ e. absurd (cc e))

pub is_comma : (t : Token) → (t ≡ comma) ⊎ (t ≢ comma)
is_comma comma = inl refl
is_comma _ = inr (λ e. absurd (cc e))

pub is_block_open : (t : Token) → (t ≡ block_open) ⊎ (t ≢ block_open)
is_block_open block_open = inl refl
is_block_open _ = inr (λ e. absurd (cc e))

pub is_curly_open : (t : Token) → (t ≡ curly_open) ⊎ (t ≢ curly_open)
is_curly_open curly_open = inl refl
is_curly_open _ = inr (λ e. absurd (cc e))

-- ==== one token that carries a value

module _ {A : Type 0} (f : A → Meaning) (carries : Token → A → Type 0) (P : A → Type 0) where
  abbrev One : List Token → Meaning → Type 0
  One ts = IsImage f (EncodesOne carries P ts)

  pub one_alone : (t : Token) (x : A) → carries t x → P x → One (t ∷ []) (f x)
  one_alone t x h p = record {
    part = x;
    has = record { token = t; one = refl; carries_it = h; has = p };
    is = refl;
  }

  -- where the pending token is no such value
  pub one_wrong : {start : Position Token} {e : Report}
      → start.at.text ≡ text_at start.place start.input
      → ((x : A) → carries start.at.token x → P x → ⊥) → IsMadeAt start.place e
      → Fails (GoesWrongFirst One start start) start start e
  one_wrong {start} text other made = fails_here (wrong_at One start text
      (λ m h. one_some json carries P h.part h.has)
      (λ ts m h. one_other json carries P start.at.token other ts h.part h.has)) made

-- a token that is no string
pub not_str : (t : DeJsonTok) (strbuf numbuf bytes : List ℕ) → (t ≡ T.Str → ⊥)
    → token_of t strbuf numbuf ≡ str bytes → ⊥
not_str T.Str s n bytes other e = other refl
not_str _ s n bytes other e = absurd (cc e)

-- ==== what is read

-- a reader that finds the first fault finds one
pub reads_plainly : {V A : Type 0} (encodes : List Token → V → Type 0) (means : A → V)
    (start end : Position Token) (result : Result A DeJsonErr)
    → ReadsOrFirstFault encodes means start end result → Reads encodes means start end result
reads_plainly encodes means start end result h =
    MatchResult-weaker result h (λ _ x. x) (λ _ e. fails_as (λ w. w.wrong) e)
