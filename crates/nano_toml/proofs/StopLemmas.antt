-- Where the reader stops, read on from one token to the next.
use Rattle.std.proofs.Common.{◌≡◌, ◌≢◌, ℕ, List, [], ◌∷◌, ◌++◌, sym, refl, ap, ◌∙◌, subst}
use Rattle.std.proofs.Common.{append_assoc, true}
use Rattle.nano_toml.specs.Cut.{Cut}
use Rattle.nano_toml.specs.Data.{Values, values}
use Rattle.nano_toml.specs.Place.{Prefix, closed, nothing, push_value, ClosesNothing, ParsesNothing}
use Rattle.nano_toml.specs.Place.{array_prefix, value_prefix, pair_of, pair_prefix, element_prefix}
use Rattle.nano_toml.specs.Place.{header_prefix, statement_prefix, closing, close_prefix}
use Rattle.nano_toml.specs.Statements.{pair}
use Rattle.nano_toml.specs.Stops.{Fails, StandsNext, Breaks, Rejects, CanFind, Stops}
use Rattle.nano_toml.specs.Reading.{Next, a_token, the_end, nothing_yet, token_of, Took}
use Rattle.nano_toml.specs.Token.{Token, ident, string, boolean, equals, close_bracket}
use Rattle.nano_toml.specs.Token.{open_bracket}
use Rattle.nano_toml.specs.declared.fault.Fault.{Fault}
use Rattle.nano_toml.specs.declared.fault.Fault.TheVariants as fault
use Rattle.nano_toml.specs.declared.token.TomlTok.{TomlTok}
use Rattle.nano_toml.proofs.ReadLemmas.{GoesOn, GoesOn-first, Begins-push, not_close}

-- ---- what can be found

pub can_find_array : (outer : List Values) (here : Values) → CanFind (array_prefix outer here)
can_find_array [] here = (close_bracket, [], values here, refl)
can_find_array (around ∷ outer) here = let on = can_find_array outer (push_value around (values here)) in (close_bracket, on.0 ∷ on.1, on.2, on.3)

pub can_find_value : CanFind value_prefix
can_find_value = (boolean true, [], _, refl)

pub can_find_pair : (name : List ℕ) → CanFind (pair_prefix name)
can_find_pair name = (equals, boolean true ∷ [], _, refl)

pub can_find_element : CanFind element_prefix
can_find_element = (ident [], close_bracket ∷ close_bracket ∷ [], _, refl)

pub can_find_header : CanFind header_prefix
can_find_header = (string [], close_bracket ∷ [], _, refl)

pub can_find_statement : CanFind statement_prefix
can_find_statement = (open_bracket, string [] ∷ close_bracket ∷ [], _, refl)

-- ---- where it stops

pub Stops-here : {A : Type 0} (f : List Token → Prefix A) (e : Fault) (text remaining : List ℕ) → CanFind f → Rejects f e text remaining → Stops f e text remaining
Stops-here f e text remaining can rejects = record { tokens = []; after = text; begins = refl; can_find = can; rejects = rejects }

fails_on : {A : Type 0} (f g : List Token → Prefix A) (ts us : List Token) (n : Next) → ((more : List Token) → f (ts ++ more) ≡ g more) → Fails (λ more. g (us ++ more)) n → Fails (λ more. f ((ts ++ us) ++ more)) n
fails_on f g ts us (a_token t) same fails = λ more. ap f (append_assoc ts us (t ∷ more)) ∙ (same (us ++ t ∷ more) ∙ fails more)
fails_on f g ts us the_end same fails = ap f (append_assoc ts us []) ∙ (same (us ++ []) ∙ fails)
fails_on f g ts us nothing_yet same fails = tt

rejects_on : {A : Type 0} (f g : List Token → Prefix A) (ts us : List Token) (e : Fault) (text remaining : List ℕ) → ((more : List Token) → f (ts ++ more) ≡ g more)
    → Rejects (λ more. g (us ++ more)) e text remaining → Rejects (λ more. f ((ts ++ us) ++ more)) e text remaining
rejects_on f g ts us (fault.Malformed lexeme) text remaining same r = r
rejects_on f g ts us (fault.Unexpected token) text remaining same r = (r.0, fails_on f g ts us (token_of token) same r.1)
rejects_on f g ts us fault.Memory text remaining same r = r
rejects_on f g ts us (fault.OtherKind key) text remaining same r = r

pub Stops-on : {A : Type 0} (f g : List Token → Prefix A) (e : Fault) (text now remaining : List ℕ) → GoesOn f text g now → Stops g e now remaining → Stops f e text remaining
Stops-on f g e text now remaining on stop = record {
  tokens = on.tokens ++ stop.tokens;
  after = stop.after;
  begins = Begins-push on.tokens stop.tokens text now stop.after on.begins stop.begins;
  can_find =
      let can = stop.can_find in
      (can.0, can.1, can.2, ap f (append_assoc on.tokens stop.tokens (can.0 ∷ can.1)) ∙ (on.same (stop.tokens ++ can.0 ∷ can.1) ∙ can.3));
  rejects = rejects_on f g on.tokens stop.tokens e stop.after remaining on.same stop.rejects;
}

pub Stops-token : {A : Type 0} (f g : List Token → Prefix A) (e : Fault) (text now remaining : List ℕ) (t : Token) → Cut text t now → ((more : List Token) → f (t ∷ more) ≡ g more) → Stops g e now remaining → Stops f e text remaining
Stops-token f g e text now remaining t cut on stop = Stops-on f g e text now remaining (GoesOn-first f g text now t cut on) stop

-- a broken lexeme is rejected anywhere
pub Rejects-broken : {A : Type 0} (f : List Token → Prefix A) (e : Fault) (text remaining : List ℕ) → Breaks e text remaining → Rejects f e text remaining
Rejects-broken f (fault.Malformed lexeme) text remaining b = b
Rejects-broken f fault.Memory text remaining b = b
Rejects-broken f (fault.Unexpected token) text remaining b = absurd b
Rejects-broken f (fault.OtherKind key) text remaining b = b

pub Stops-broken : {A : Type 0} (f : List Token → Prefix A) (e : Fault) (text remaining : List ℕ) → CanFind f → Breaks e text remaining → Stops f e text remaining
Stops-broken f e text remaining can b = Stops-here f e text remaining can (Rejects-broken f e text remaining b)

-- where a name was looked for, and nothing was taken
pub Stops-looked : {A : Type 0} (f : List Token → Prefix A) (e : Fault) (text now remaining : List ℕ) → CanFind f → now ≡ text → Breaks e now remaining → Stops f e text remaining
Stops-looked f e text now remaining can same b = Stops-broken f e text remaining can (subst (λ (t : List ℕ). Breaks e t remaining) same b)

pub Stops-fails : {A : Type 0} (f : List Token → Prefix A) (token : TomlTok) (text remaining : List ℕ) → CanFind f → Took text (token_of token) remaining → Fails f (token_of token) → Stops f (fault.Unexpected token) text remaining
Stops-fails f token text remaining can took fails = Stops-here f (fault.Unexpected token) text remaining can (took, fails)

-- the token that is reported is the one that was taken
pub Stops-reported : {A : Type 0} (f : List Token → Prefix A) (reported token : TomlTok) (text remaining : List ℕ) → CanFind f → reported ≡ token → Took text (token_of token) remaining → Fails f (token_of token) → Stops f (fault.Unexpected reported) text remaining
Stops-reported f reported token text remaining can same took fails = subst (λ (t : TomlTok). Stops f (fault.Unexpected t) text remaining) (sym same) (Stops-fails f token text remaining can took fails)

pub StandsNext-broken : (e : Fault) (text remaining : List ℕ) → (e ≢ fault.Memory → Breaks e text remaining) → StandsNext e text remaining
StandsNext-broken fault.Memory text remaining b = tt
StandsNext-broken (fault.Malformed lexeme) text remaining b = b (λ same. cc same)
StandsNext-broken (fault.Unexpected token) text remaining b = absurd (b (λ same. cc same))
StandsNext-broken (fault.OtherKind key) text remaining b = b (λ same. cc same)

-- ---- closing brackets

fails_close : (text rest : List ℕ) (n : Next) → Took text n rest → ClosesNothing text → Fails close_prefix n
fails_close text rest (a_token t) took none = λ more. not_close (closed tt) t more (λ e. none rest (subst (λ (u : Token). Cut text u rest) e took))
fails_close text rest the_end took none = refl
fails_close text rest nothing_yet took none = tt

pub Rejects-close : (e : Fault) (text remaining : List ℕ) → e ≢ fault.Memory → StandsNext e text remaining → ClosesNothing text → Rejects close_prefix e text remaining
Rejects-close fault.Memory text remaining n stands none = absurd (n refl)
Rejects-close (fault.Malformed lexeme) text remaining n stands none = stands
Rejects-close (fault.Unexpected token) text remaining n stands none = (stands, fails_close text remaining (token_of token) stands none)
Rejects-close (fault.OtherKind key) text remaining n stands none = stands

is_close : (t : Token) → ((more : List Token) → close_prefix (t ∷ more) ≡ nothing) → t ≡ close_bracket → ⊥
is_close t fails e = let clash : closed tt [] ≡ nothing = sym (ap (λ (u : Token). close_prefix (u ∷ [])) e) ∙ fails [] in cc clash

fails_closing : {A : Type 0} (next : List Token → Prefix A) (n : Next) → Fails close_prefix n → Fails (closing next) n
fails_closing next (a_token t) fails = λ more. not_close next t more (is_close t fails)
fails_closing next the_end fails = refl
fails_closing next nothing_yet fails = tt

rejects_closing : {A : Type 0} (next : List Token → Prefix A) (e : Fault) (text remaining : List ℕ) → Rejects close_prefix e text remaining → Rejects (closing next) e text remaining
rejects_closing next (fault.Malformed lexeme) text remaining r = r
rejects_closing next (fault.Unexpected token) text remaining r = (r.0, fails_closing next (token_of token) r.1)
rejects_closing next fault.Memory text remaining r = r
rejects_closing next (fault.OtherKind key) text remaining r = r

pub Stops-closing : {A : Type 0} (next : List Token → Prefix A) (e : Fault) (text remaining : List ℕ) → (ts : List Token) (a : A) → next ts ≡ closed a [] → Rejects close_prefix e text remaining → Stops (closing next) e text remaining
Stops-closing next e text remaining ts a found r =
    Stops-here (closing next) e text remaining (close_bracket, ts, a, found) (rejects_closing next e text remaining r)

-- ---- pairs

fails_equals : (name text rest : List ℕ) (n : Next) → Took text n rest → ((left : List ℕ) → Cut text equals left → ⊥) → Fails (pair_prefix name) n
fails_equals name text rest (a_token equals) took none = absurd (none rest took)
fails_equals name text rest (a_token _) took none = λ more. refl
fails_equals name text rest the_end took none = refl
fails_equals name text rest nothing_yet took none = tt

-- no equals sign stands next
rejects_equals : (name : List ℕ) (e : Fault) (text remaining : List ℕ) → e ≢ fault.Memory → StandsNext e text remaining → ((left : List ℕ) → Cut text equals left → ⊥) → Rejects (pair_prefix name) e text remaining
rejects_equals name fault.Memory text remaining n stands none = absurd (n refl)
rejects_equals name (fault.Malformed lexeme) text remaining n stands none = stands
rejects_equals name (fault.Unexpected token) text remaining n stands none = (stands, fails_equals name text remaining (token_of token) stands none)
rejects_equals name (fault.OtherKind key) text remaining n stands none = stands

pub Stops-equals : (name : List ℕ) (e : Fault) (text remaining : List ℕ) → e ≢ fault.Memory → StandsNext e text remaining → ((left : List ℕ) → Cut text equals left → ⊥) → Stops (pair_prefix name) e text remaining
Stops-equals name e text remaining n stands none =
    Stops-here (pair_prefix name) e text remaining (can_find_pair name) (rejects_equals name e text remaining n stands none)

pub ParsesNothing-equals : (name text : List ℕ) → ((left : List ℕ) → Cut text equals left → ⊥) → ParsesNothing (pair_prefix name) text
ParsesNothing-equals name text none [] k = refl
ParsesNothing-equals name text none (equals ∷ ts) k = absurd (none k.0 k.1)
ParsesNothing-equals name text none (_ ∷ ts) k = refl

fails_pair : (name : List ℕ) (ts : List Token) (n : Next) → Fails (λ more. value_prefix (ts ++ more)) n → Fails (λ more. pair_of name (value_prefix (ts ++ more))) n
fails_pair name ts (a_token t) fails = λ more. ap (pair_of name) (fails more)
fails_pair name ts the_end fails = ap (pair_of name) fails
fails_pair name ts nothing_yet fails = tt

rejects_pair : (name : List ℕ) (ts : List Token) (e : Fault) (text remaining : List ℕ) → Rejects (λ more. value_prefix (ts ++ more)) e text remaining → Rejects (λ more. pair_of name (value_prefix (ts ++ more))) e text remaining
rejects_pair name ts (fault.Malformed lexeme) text remaining r = r
rejects_pair name ts (fault.Unexpected token) text remaining r = (r.0, fails_pair name ts (token_of token) r.1)
rejects_pair name ts fault.Memory text remaining r = r
rejects_pair name ts (fault.OtherKind key) text remaining r = r

pub Stops-pair : (name : List ℕ) (e : Fault) (text remaining : List ℕ) → Stops value_prefix e text remaining → Stops (λ ts. pair_of name (value_prefix ts)) e text remaining
Stops-pair name e text remaining stop = record {
  tokens = stop.tokens;
  after = stop.after;
  begins = stop.begins;
  can_find = let can = stop.can_find in (can.0, can.1, pair name can.2, ap (pair_of name) can.3);
  rejects = rejects_pair name stop.tokens e stop.after remaining stop.rejects;
}
