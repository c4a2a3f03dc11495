-- Reading on from one token to the next.
use Rattle.std.proofs.Common.{◌≡◌, ℕ, ◌≤◌, List, [], ◌∷◌, ◌++◌, length, Some, None, sym, refl, ap}
use Rattle.std.proofs.Common.{◌∙◌, subst, arith, append_assoc, append-nil, inl, inr}
use Rattle.nano_toml.specs.StatementTable.{IsPlain, IsLawful, EncodesNoTable}
use Rattle.nano_toml.specs.Cut.{Cut, CutEnd, CutsNothing, Tokens}
use Rattle.nano_toml.specs.Data.{Data, Values}
use Rattle.nano_toml.specs.Place.{Prefix, closed, is_open, nothing, push_value, Begins, Parses}
use Rattle.nano_toml.specs.Place.{ParsesNothing, ClosesNothing, array_prefix, value_prefix, pair_of}
use Rattle.nano_toml.specs.Place.{statement_prefix, closing}
use Rattle.nano_toml.specs.Reading.{scalar_at, IsNext, EncodesNothing, Next, a_token, the_end}
use Rattle.nano_toml.specs.Reading.{nothing_yet, token_of, Took}
use Rattle.nano_toml.specs.Statements.{Statement, pair, Encodes, AreStatements}
use Rattle.nano_toml.specs.Stops.{Fails}
use Rattle.nano_toml.specs.Token.{Token, close_bracket}
use Rattle.nano_toml.specs.declared.token.TomlTok.{TomlTok}
use Rattle.nano_toml.specs.declared.token.TomlTok.TheVariants as tok
use Rattle.nano_toml.proofs.CutLaws.{Cut-shorter, cut_in_one_way}
use Rattle.nano_toml.proofs.PrefixLemmas.{scalar_prefix, scalar_value}
use Rattle.nano_toml.proofs.StatementLemmas.{AreStatements-cons, AreStatements-open}
use Rattle.nano_toml.proofs.StatementLemmas.{AreStatements-closed, AreStatements-is_open}
use Rattle.nano_toml.proofs.StatementLemmas.{AreStatements-nothing, AreStatements-nil, one_list}
use Rattle.nano_toml.proofs.StatementLemmas.{prefix_plain, prefix_open_plain}

-- ---- tokens of a text

pub Begins-push : (ts us : List Token) (text middle rest : List ℕ) → Begins ts text middle → Begins us middle rest → Begins (ts ++ us) text rest
Begins-push [] us text middle rest a b = subst (λ (m : List ℕ). Begins us m rest) (sym a) b
Begins-push (t ∷ ts) us text middle rest a b = (a.0, a.1, Begins-push ts us a.0 middle rest a.2 b)

Tokens-append : (ts us : List Token) (text middle : List ℕ) → Begins ts text middle → Tokens middle us → Tokens text (ts ++ us)
Tokens-append [] us text middle a b = subst (λ (m : List ℕ). Tokens m us) (sym a) b
Tokens-append (t ∷ ts) us text middle a b = (a.0, a.1, Tokens-append ts us a.0 middle a.2 b)

-- the tokens of a text that begins with these go on with those of what is left
pub Tokens-following : (ts all : List Token) (text now : List ℕ) → Begins ts text now → Tokens text all → (rest : List Token) × (all ≡ ts ++ rest) × Tokens now rest
Tokens-following [] all text now b k = (all, refl, subst (λ (m : List ℕ). Tokens m all) b k)
Tokens-following (t ∷ ts) [] text now b k = absurd ((cut_in_one_way text).1 t b.0 b.1 k)
Tokens-following (t ∷ ts) (u ∷ all) text now (middle, c, b) (other, d, k) =
    let one = (cut_in_one_way text).0 t u middle other c d in
    let r = Tokens-following ts all middle now b (subst (λ (m : List ℕ). Tokens m all) (sym one.1) k) in
    (r.0, ap (λ w. w ∷ all) (sym one.0) ∙ ap (λ ws. t ∷ ws) r.1, r.2)

Begins-shorter : (ts : List Token) (text rest : List ℕ) → Begins ts text rest → length rest ≤ length text
Begins-shorter [] text rest b = omega (arith, ap length b)
Begins-shorter (t ∷ ts) text rest (middle, c, b) =
    let one = Cut-shorter text t middle c in
    let more = Begins-shorter ts middle rest b in
    omega arith

pub nothing_cut : (text : List ℕ) (ts : List Token) → CutsNothing text → Tokens text ts → ⊥
nothing_cut text [] n k = n.1 k
nothing_cut text (t ∷ ts) n k = n.0 t k.0 k.1

-- an empty text has no tokens, which its end proves
pub no_tokens : (ts : List Token) (text : List ℕ) → CutEnd text → Tokens text ts → ts ≡ []
no_tokens [] text e k = refl
no_tokens (t ∷ ts) text e (rest, c, k) = absurd ((cut_in_one_way text).1 t rest c e)

-- ---- as far as the tokens were read

-- what f finds in the text, g finds in what is left of it
pub record GoesOn {A : Type 0} (f : List Token → Prefix A) (text : List ℕ) (g : List Token → Prefix A) (now : List ℕ) : Type 0 where
  pub tokens : List Token
  pub begins : Begins tokens text now
  pub same : (more : List Token) → f (tokens ++ more) ≡ g more

pub GoesOn-start : {A : Type 0} (f : List Token → Prefix A) (text : List ℕ) → GoesOn f text f text
GoesOn-start f text = record { tokens = []; begins = refl; same = λ more. refl }

-- one token further
pub GoesOn-token : {A : Type 0} (f g h : List Token → Prefix A) (text now rest : List ℕ) (t : Token) → GoesOn f text g now → Cut now t rest → ((more : List Token) → g (t ∷ more) ≡ h more) → GoesOn f text h rest
GoesOn-token f g h text now rest t on c e = record {
  tokens = on.tokens ++ t ∷ [];
  begins = Begins-push on.tokens (t ∷ []) text now rest on.begins (rest, c, refl);
  same = λ more. ap f (append_assoc on.tokens (t ∷ []) more) ∙ (on.same (t ∷ more) ∙ e more);
}

pub Parses-closed : {A : Type 0} (f g : List Token → Prefix A) (text now : List ℕ) (a : A) → GoesOn f text g now → ((more : List Token) → g more ≡ closed a more) → Parses f text a now
Parses-closed f g text now a on e = inl (on.tokens, on.begins, λ more. on.same more ∙ e more)

pub Parses-on : {A : Type 0} (f g : List Token → Prefix A) (text now rest : List ℕ) (a : A) → GoesOn f text g now → Parses g now a rest → Parses f text a rest
Parses-on f g text now rest a on (inl (ts, b, e)) =
    inl (on.tokens ++ ts, Begins-push on.tokens ts text now rest on.begins b, λ more. ap f (append_assoc on.tokens ts more) ∙ (on.same (ts ++ more) ∙ e more))
Parses-on f g text now rest a on (inr (ts, k, e, none)) =
    inr (on.tokens ++ ts, Tokens-append on.tokens ts text now on.begins k, on.same ts ∙ e, none)

pub Parses-open : {A : Type 0} (f g : List Token → Prefix A) (text now rest : List ℕ) (a : A) → GoesOn f text g now → Took now the_end rest → g [] ≡ is_open a → Parses f text a rest
Parses-open f g text now rest a on k e = Parses-on f g text now rest a on (inr ([], k.0, e, k.1))

pub ParsesNothing-on : {A : Type 0} (f g : List Token → Prefix A) (text now : List ℕ) → GoesOn f text g now → ParsesNothing g now → ParsesNothing f text
ParsesNothing-on f g text now on none ts k =
    let r = Tokens-following on.tokens ts text now on.begins k in
    ap f r.1 ∙ (on.same r.0 ∙ none r.0 r.2)

pub ParsesNothing-cut : {A : Type 0} (f : List Token → Prefix A) (text : List ℕ) → CutsNothing text → ParsesNothing f text
ParsesNothing-cut f text n ts k = absurd (nothing_cut text ts n k)

pub ParsesNothing-fails : {A : Type 0} (f : List Token → Prefix A) (text rest : List ℕ) (n : Next) → Took text n rest → Fails f n → ParsesNothing f text
ParsesNothing-fails f text rest (a_token t) k none [] e = absurd ((cut_in_one_way text).1 t rest k e)
ParsesNothing-fails f text rest (a_token t) k none (u ∷ ts) e =
    ap (λ w. f (w ∷ ts)) (sym ((cut_in_one_way text).0 t u rest e.0 k e.1).0) ∙ none ts
ParsesNothing-fails f text rest the_end k none ts e = ap f (no_tokens ts text k.0 e) ∙ none
ParsesNothing-fails f text rest nothing_yet k none ts e = absurd k

-- after one token
pub GoesOn-first : {A : Type 0} (f g : List Token → Prefix A) (text rest : List ℕ) (t : Token) → Cut text t rest → ((more : List Token) → f (t ∷ more) ≡ g more) → GoesOn f text g rest
GoesOn-first f g text rest t c e = GoesOn-token f f g text text rest t (GoesOn-start f text) c e

pub Parses-token : {A : Type 0} (f g : List Token → Prefix A) (text now rest : List ℕ) (t : Token) (a : A) → Cut text t now → ((more : List Token) → f (t ∷ more) ≡ g more) → Parses g now a rest → Parses f text a rest
Parses-token f g text now rest t a c e r = Parses-on f g text now rest a (GoesOn-first f g text now t c e) r

pub ParsesNothing-token : {A : Type 0} (f g : List Token → Prefix A) (text now : List ℕ) (t : Token) → Cut text t now → ((more : List Token) → f (t ∷ more) ≡ g more) → ParsesNothing g now → ParsesNothing f text
ParsesNothing-token f g text now t c e none = ParsesNothing-on f g text now (GoesOn-first f g text now t c e) none

-- ---- the token that was taken

pub Took-at : (text rest : List ℕ) (a b : TomlTok) → a ≡ b → Took text (token_of a) rest → Took text (token_of b) rest
Took-at text rest a b e k = subst (λ (t : TomlTok). Took text (token_of t) rest) e k

-- where a token was taken, the text was not at its end
pub not_at_end : (text rest : List ℕ) (n : Next) → (n ≡ the_end → ⊥) → Took text n rest → CutEnd text → ⊥
not_at_end text rest (a_token t) h k e = (cut_in_one_way text).1 t rest k e
not_at_end text rest the_end h k e = h refl
not_at_end text rest nothing_yet h k e = k

no_end : (t : TomlTok) → (t ≡ tok.Eof → ⊥) → token_of t ≡ the_end → ⊥
no_end tok.Eof h e = h refl
no_end _ h e = cc

pub token_not_at_end : (text rest : List ℕ) (t : TomlTok) → (t ≡ tok.Eof → ⊥) → Took text (token_of t) rest → CutEnd text → ⊥
token_not_at_end text rest t h k e = not_at_end text rest (token_of t) (no_end t h) k e

-- a scalar in an array
pub GoesOn-scalar : (f : List Token → Prefix Data) (outer : List Values) (here : Values) (text now rest : List ℕ) (n : Next) (d : Data) → scalar_at n ≡ Some d
    → GoesOn f text (array_prefix outer here) now → Took now n rest → GoesOn f text (array_prefix outer (push_value here d)) rest
GoesOn-scalar f outer here text now rest (a_token t) d s on k =
    GoesOn-token f (array_prefix outer here) (array_prefix outer (push_value here d)) text now rest t on k (λ more. scalar_prefix outer here t d more s)
GoesOn-scalar f outer here text now rest the_end d s on k = absurd (cc)
GoesOn-scalar f outer here text now rest nothing_yet d s on k = absurd k

-- a scalar by itself
pub Parses-scalar : (text rest : List ℕ) (n : Next) (d : Data) → scalar_at n ≡ Some d → Took text n rest → Parses value_prefix text d rest
Parses-scalar text rest (a_token t) d s k =
    Parses-closed value_prefix (closed d) text rest d (GoesOn-first value_prefix (closed d) text rest t k (λ more. scalar_value t d more s)) (λ more. refl)
Parses-scalar text rest the_end d s k = absurd (cc)
Parses-scalar text rest nothing_yet d s k = absurd k

pub Parses-shorter : {A : Type 0} (f : List Token → Prefix A) (text rest : List ℕ) (a : A) → Parses f text a rest → length rest ≤ length text
Parses-shorter f text rest a (inl (ts, b, e)) = Begins-shorter ts text rest b
Parses-shorter f text rest a (inr (ts, k, e, none)) = omega (arith, ap length none)

-- ---- closing brackets

pub not_close : {A : Type 0} (f : List Token → Prefix A) (t : Token) (more : List Token) → (t ≡ close_bracket → ⊥) → closing f (t ∷ more) ≡ nothing
not_close f close_bracket more h = absurd (h refl)
not_close f _ more h = refl

pub ParsesNothing-closing : {A : Type 0} (f : List Token → Prefix A) (text : List ℕ) → ClosesNothing text → ParsesNothing (closing f) text
ParsesNothing-closing f text none [] k = refl
ParsesNothing-closing f text none (t ∷ ts) k =
    not_close f t ts (λ e. none k.0 (subst (λ (u : Token). Cut text u k.0) e k.1))

-- ---- pairs

pub Parses-pair : (name text rest : List ℕ) (d : Data) → Parses value_prefix text d rest → Parses (λ ts. pair_of name (value_prefix ts)) text (pair name d) rest
Parses-pair name text rest d (inl (ts, b, e)) = inl (ts, b, λ more. ap (pair_of name) (e more))
Parses-pair name text rest d (inr (ts, k, e, none)) = inr (ts, k, ap (pair_of name) e, none)

pub ParsesNothing-pair : (name text : List ℕ) → ParsesNothing value_prefix text → ParsesNothing (λ ts. pair_of name (value_prefix ts)) text
ParsesNothing-pair name text none ts k = ap (pair_of name) (none ts k)

-- ---- statements of a text

pub empty_end : (text : List ℕ) → text ≡ [] → CutEnd text
empty_end text e = record { gaps = []; last = None; are_gaps = tt; is_last = tt; split = e }

-- the tokens of a text are one list
same_tokens : (ts us : List Token) (text : List ℕ) → Tokens text ts → Tokens text us → ts ≡ us
same_tokens [] us text k m = sym (no_tokens us text k m)
same_tokens (t ∷ ts) [] text k m = absurd ((cut_in_one_way text).1 t k.0 k.1 m)
same_tokens (t ∷ ts) (u ∷ us) text k m =
    let one = (cut_in_one_way text).0 t u k.0 m.0 k.1 m.1 in
    let more = same_tokens ts us k.0 k.2 (subst (λ (r : List ℕ). Tokens r us) (sym one.1) m.2) in
    ap (λ w. w ∷ ts) one.0 ∙ ap (λ ws. u ∷ ws) more

nothing_left : (more : List Statement) (rest : List ℕ) → rest ≡ [] → Encodes rest more → more ≡ []
nothing_left more rest none (us, m, are) =
    AreStatements-nil more (subst (λ (ts : List Token). AreStatements ts more) (no_tokens us rest (empty_end rest none) m) are)

pub IsNext-some : (text rest : List ℕ) (s : Statement) → Parses statement_prefix text s rest → IsNext text (Some s) rest
IsNext-some text rest s (inl (ts, b, e)) = (
  λ more (us, k, are). (ts ++ us, Tokens-append ts us text rest b k, AreStatements-cons (ts ++ us) us s more (e us) are),
  λ ss (all, k, are).
      let r = Tokens-following ts all text rest b k in
      let g = AreStatements-closed all r.0 s ss (ap statement_prefix r.1 ∙ e r.0) are in
      (g.0, g.1, (r.0, r.2, g.2)),
)
IsNext-some text rest s (inr (ts, k, e, none)) = (
  λ more is_encoded. (ts, k, subst (λ (us : List Statement). AreStatements ts (s ∷ us)) (sym (nothing_left more rest none is_encoded)) (AreStatements-open ts s e)),
  λ ss (all, m, are). (
    [],
    AreStatements-is_open ts s ss e (subst (λ (us : List Token). AreStatements us ss) (sym (same_tokens ts all text k m)) are),
    ([], empty_end rest none, refl),
  ),
)

pub IsNext-none : (text rest : List ℕ) → Took text the_end rest → IsNext text None rest
IsNext-none text rest k = (
  ([], k.0, refl),
  λ ss (ts, m, are). AreStatements-nil ss (subst (λ (us : List Token). AreStatements us ss) (no_tokens ts text k.0 m) are),
)

-- no statement begins the text, which has a token
pub EncodesNothing-some : (text : List ℕ) → ParsesNothing statement_prefix text → (CutEnd text → ⊥) → EncodesNothing text
EncodesNothing-some text none some ss (ts, k, are) =
    let none = AreStatements-nothing ts ss (none ts k) are in
    some (subst (λ (us : List Token). Tokens text us) none.0 k)

pub EncodesNothing-cut : (text : List ℕ) → CutsNothing text → EncodesNothing text
EncodesNothing-cut text n ss (ts, k, are) = nothing_cut text ts n k

-- a text encodes at most one list
pub encodes_one : (text : List ℕ) (one other : List Statement) → Encodes text one → Encodes text other → one ≡ other
encodes_one text one other (ts, k, are) (us, m, others) =
    one_list one other ts are (subst (λ (ws : List Token). AreStatements ws other) (sym (same_tokens ts us text k m)) others)

-- the value of a pair that was read is no Array
pub Parses-plain : (text rest : List ℕ) (s : Statement) → Parses statement_prefix text s rest → IsPlain s
Parses-plain text rest s (inl (ts, b, e)) = prefix_plain (ts ++ []) [] s (e [])
Parses-plain text rest s (inr (ts, k, e, none)) = prefix_open_plain ts s e

-- ---- statements read one after another

-- the text encodes these statements, and then what is left of it encodes
pub record ReadSoFar (text : List ℕ) (done : List Statement) (now : List ℕ) : Type 0 where
  pub joins : (more : List Statement) → Encodes now more → Encodes text (done ++ more)
  pub splits : (ss : List Statement) → Encodes text ss → (more : List Statement) × (ss ≡ done ++ more) × Encodes now more

pub ReadSoFar-start : (text : List ℕ) → ReadSoFar text [] text
ReadSoFar-start text = record { joins = λ more is_encoded. is_encoded; splits = λ ss is_encoded. (ss, refl, is_encoded) }

pub ReadSoFar-next : (text now rest : List ℕ) (done : List Statement) (s : Statement) → ReadSoFar text done now → IsNext now (Some s) rest → ReadSoFar text (done ++ s ∷ []) rest
ReadSoFar-next text now rest done s so next = record {
  joins = λ more is_encoded. subst (λ (ss : List Statement). Encodes text ss) (sym (append_assoc done (s ∷ []) more)) (so.joins (s ∷ more) (next.0 more is_encoded));
  splits = λ ss is_encoded.
      let one = so.splits ss is_encoded in
      let two = next.1 one.0 one.2 in
      (two.0, one.1 ∙ (ap (λ us. done ++ us) two.1 ∙ sym (append_assoc done (s ∷ []) two.0)), two.2);
}

pub ReadSoFar-end : (text now rest : List ℕ) (done : List Statement) → ReadSoFar text done now → IsNext now None rest → Encodes text done
ReadSoFar-end text now rest done so next = subst (λ (ss : List Statement). Encodes text ss) (append-nil done) (so.joins [] next.0)

pub ReadSoFar-nothing : (text now : List ℕ) (done : List Statement) → ReadSoFar text done now → EncodesNothing now → EncodesNoTable text
ReadSoFar-nothing text now done so none ss is_encoded lawful = let one = so.splits ss is_encoded in none one.0 one.2

-- a statement that makes the others unlawful
pub ReadSoFar-unlawful : (text now rest : List ℕ) (done : List Statement) (s : Statement) → ReadSoFar text done now → IsNext now (Some s) rest
    → ((more : List Statement) → IsLawful (done ++ s ∷ more) → ⊥) → EncodesNoTable text
ReadSoFar-unlawful text now rest done s so next unlawful ss is_encoded lawful =
    let one = so.splits ss is_encoded in
    let two = next.1 one.0 one.2 in
    unlawful two.0 (subst IsLawful (one.1 ∙ ap (λ us. done ++ us) two.1) lawful)
