-- The first error of a text, found by reading one statement after another.
use Rattle.std.proofs.Common.{◌≡◌, ◌≢◌, ℕ, ◌+◌, ◌≤◌, List, [], ◌∷◌, ◌++◌, length, take, chars, Bool}
use Rattle.std.proofs.Common.{true, false, cond, nat_eq, sym, refl, ap, ◌∙◌, subst, arith}
use Rattle.std.proofs.Common.{append_assoc, append-nil, length-append, inl, inr, min}
use Rattle.std.proofs.lemmas.List.{nil_from_length, take_min}
use Rattle.nano_toml.specs.Cut.{Cut, CutEnd, Lexeme, a_punctuator, a_word, a_string, a_number}
use Rattle.nano_toml.specs.Cut.{gaps_text}
use Rattle.nano_toml.specs.Outcomes.{Reports}
use Rattle.nano_toml.specs.FirstError.{AreClosedStatements, CanBeginStatement, IsRejected, lexeme}
use Rattle.nano_toml.specs.FirstError.{token, end, IsFirstError, in_tokens, in_header, IsErrorAt}
use Rattle.nano_toml.specs.Stops.{Fails, Rejects, CanFind, Stops}
use Rattle.nano_toml.specs.Place.{closed, is_open, nothing, Begins, Parses, statement_prefix}
use Rattle.nano_toml.specs.Place.{before_nul, remaining_text, taken_count, taken, line_of}
use Rattle.nano_toml.specs.Place.{column_of}
use Rattle.nano_toml.specs.Number.{sign_text, body_text}
use Rattle.nano_toml.specs.Quoted.{IsString, empty, short, triple, pieces_text}
use Rattle.nano_toml.specs.Reading.{EncodesNothing, Next, a_token, the_end, nothing_yet, token_of}
use Rattle.nano_toml.specs.Reading.{Took}
use Rattle.nano_toml.specs.Statements.{Statement, element, IsClosed, IsStatement, AreStatements}
use Rattle.nano_toml.specs.StatementTable.{IsLawful}
use Rattle.nano_toml.specs.Token.{Token}
use Rattle.nano_toml.specs.declared.fault.Fault.{Fault}
use Rattle.nano_toml.specs.declared.fault.Fault.TheVariants as fault
use Rattle.nano_toml.proofs.CutLaws.{Cut-shorter}
use Rattle.nano_toml.proofs.ReadLemmas.{Begins-push, Parses-shorter, empty_end, no_tokens}
use Rattle.nano_toml.proofs.StatementLemmas.{AreStatements-closed, AreStatements-nothing}
use Rattle.nano_toml.proofs.StatementLemmas.{prefix_open_element, closed_statement}
use Rattle.nano_toml.proofs.StatementLemmas.{statement_prefix-closed}

-- ---- the statements that were read, as tokens

abbrev Joins : List Token → List Statement → Type 0
Joins tokens done = (more : List Token) (ss : List Statement) → AreStatements more ss → AreStatements (tokens ++ more) (done ++ ss)

abbrev Splits : List Token → List Statement → Type 0
Splits tokens done =
    (more : List Token) (all : List Statement) → AreStatements (tokens ++ more) all
    → (ss : List Statement) × (all ≡ done ++ ss) × AreStatements more ss

-- closed statements, with others after them
pub closed_joins : (ts : List Token) (done : List Statement) → AreClosedStatements ts done → Joins ts done
closed_joins ts [] e more ss are = subst (λ (ws : List Token). AreStatements (ws ++ more) ss) (sym e) are
closed_joins ts (s ∷ done) (here, rest, k, c, e) more ss are =
    subst (λ (ws : List Token). AreStatements (ws ++ more) (s ∷ (done ++ ss))) (sym e) (inl (here, rest ++ more, k, closed_joins rest done c more ss are, append_assoc here rest more))

pub closed_splits : (ts : List Token) (done : List Statement) → AreClosedStatements ts done → Splits ts done
closed_splits ts [] e more all are = (all, refl, subst (λ (ws : List Token). AreStatements (ws ++ more) all) e are)
closed_splits ts (s ∷ done) (here, rest, k, c, e) more all are =
    let whole : ts ++ more ≡ here ++ (rest ++ more) = ap (λ (ws : List Token). ws ++ more) e ∙ append_assoc here rest more in
    let one = AreStatements-closed (ts ++ more) (rest ++ more) s all (ap statement_prefix whole ∙ statement_prefix-closed s here (rest ++ more) k) are in
    let two = closed_splits rest done c more one.0 one.2 in
    (two.0, one.1 ∙ ap (λ (zs : List Statement). s ∷ zs) two.1, two.2)

-- one more at the end
closed_next : (ts us : List Token) (done : List Statement) (s : Statement) → AreClosedStatements ts done → IsStatement IsClosed us s → AreClosedStatements (ts ++ us) (done ++ s ∷ [])
closed_next ts us [] s e k = (us, [], k, refl, ap (λ (ws : List Token). ws ++ us) e ∙ sym (append-nil us))
closed_next ts us (u ∷ done) s (here, rest, first, c, e) k = (here, rest ++ us, first, closed_next rest us done s c k, ap (λ (ws : List Token). ws ++ us) e ∙ append_assoc here rest us)

-- the tokens of these statements were cut from the text, or the text is at its end
pub data ReadTokens (text : List ℕ) (done : List Statement) (now : List ℕ) : Type 0 where
  so_far : (tokens : List Token) → Begins tokens text now → AreClosedStatements tokens done → ReadTokens text done now
  at_end : now ≡ [] → ReadTokens text done now

pub ReadTokens-start : (text : List ℕ) → ReadTokens text [] text
ReadTokens-start text = so_far [] refl refl

read_statement : (us : List Token) (s : Statement) → ((more : List Token) → statement_prefix (us ++ more) ≡ closed s more) → IsStatement IsClosed us s
read_statement us s prefix = closed_statement us s (ap statement_prefix (sym (append-nil us)) ∙ prefix [])

pub ReadTokens-next : (text now rest : List ℕ) (done : List Statement) (s : Statement) → ReadTokens text done now → Parses statement_prefix now s rest → ReadTokens text (done ++ s ∷ []) rest
ReadTokens-next text now rest done s (so_far ts b read) (inl (us, c, prefix)) =
    so_far (ts ++ us) (Begins-push ts us text now rest b c) (closed_next ts us done s read (read_statement us s prefix))
ReadTokens-next text now rest done s (so_far ts b read) (inr (us, k, e, none)) = at_end none
ReadTokens-next text now rest done s (at_end z) reads = at_end (nil_from_length rest (omega (arith, ap length z, Parses-shorter statement_prefix now rest s reads)))

-- ---- what is rejected

pub not_nil : (us more : List Token) (t : Token) → us ++ t ∷ more ≡ [] → ⊥
not_nil [] more t e = cc e
not_nil (u ∷ us) more t e = cc e

encodes_at_end : (text : List ℕ) → EncodesNothing text → CutEnd text → ⊥
encodes_at_end text none e = none [] ([], e, refl)

nothing_taken : (us : List Token) (now after : List ℕ) → us ≡ [] → Begins us now after → now ≡ after
nothing_taken us now after e b = subst (λ (ts : List Token). Begins ts now after) e b

rejected_next : (ts us : List Token) (done : List Statement) (n : Next) (now after remaining : List ℕ) → Splits ts done → Begins us now after → EncodesNothing now → Took after n remaining
    → Fails (λ more. statement_prefix (us ++ more)) n → IsRejected (ts ++ us) after remaining
rejected_next ts us done (a_token t) now after remaining split b none took fails =
    token t took (λ (more, ss, are).
    let whole : ((ts ++ us) ++ t ∷ []) ++ more ≡ ts ++ (us ++ t ∷ more) = append_assoc (ts ++ us) (t ∷ []) more ∙ append_assoc ts us (t ∷ more) in
    let one = split (us ++ t ∷ more) ss (subst (λ (ws : List Token). AreStatements ws ss) whole are) in
    not_nil us more t (AreStatements-nothing (us ++ t ∷ more) one.0 (fails more) one.2).0)
rejected_next ts us done the_end now after remaining split b none took fails =
    end took.0 took.1 (λ ss are.
    let one = split us ss are in
    let nil = (AreStatements-nothing us one.0 (ap statement_prefix (sym (append-nil us)) ∙ fails) one.2).0 in
    encodes_at_end now none (subst CutEnd (sym (nothing_taken us now after nil b)) took.0))
rejected_next ts us done nothing_yet now after remaining split b none took fails = absurd took

rejected : (ts us : List Token) (done : List Statement) (e : Fault) (now after remaining : List ℕ) → Splits ts done → Begins us now after → EncodesNothing now
    → Rejects (λ more. statement_prefix (us ++ more)) e after remaining → IsRejected (ts ++ us) after remaining
rejected ts us done (fault.Malformed kind) now after remaining split b none r = lexeme r
rejected ts us done (fault.Unexpected tok) now after remaining split b none r = rejected_next ts us done (token_of tok) now after remaining split b none r.0 r.1
rejected ts us done fault.Memory now after remaining split b none r = absurd r
rejected ts us done (fault.OtherKind key) now after remaining split b none r = absurd r

-- what is found in tokens is a statement
can_begin : (us : List Token) → CanFind (λ ts. statement_prefix (us ++ ts)) → CanBeginStatement us
can_begin us (t, more, s, e) =
    let found = closed_statement (us ++ t ∷ more) s e in
    (t, more, s, found)

pub first_error : (text now remaining : List ℕ) (done : List Statement) (e : Fault) → ReadTokens text done now → IsLawful done → EncodesNothing now → Stops statement_prefix e now remaining → IsFirstError text remaining
first_error text now remaining done e (at_end z) lawful none stop = absurd (encodes_at_end now none (empty_end now z))
first_error text now remaining done e (so_far ts b read) lawful none stop =
    in_tokens ts stop.tokens done stop.after (Begins-push ts stop.tokens text now stop.after b stop.begins) read lawful (can_begin stop.tokens stop.can_find)
    (rejected ts stop.tokens done e now stop.after remaining (closed_splits ts done read) stop.begins none stop.rejects)

-- ---- a header on a key of another kind

nothing_read : (now rest : List ℕ) (s : Statement) → now ≡ [] → Parses statement_prefix now s rest → ⊥
nothing_read now rest s z (inl ([], b, prefix)) = let clash : nothing ≡ closed s [] = prefix [] in cc clash
nothing_read now rest s z (inl (t ∷ ts, (middle, cut, b), prefix)) = absurd (omega (arith, ap length z, Cut-shorter now t middle cut))
nothing_read now rest s z (inr (ts, k, e, none)) =
    let clash : nothing ≡ is_open s = ap statement_prefix (sym (no_tokens ts now (empty_end now z) k)) ∙ e in cc clash

pub header_error : (text now rest : List ℕ) (done : List Statement) (s : Statement) (key : List ℕ) → ReadTokens text done now → Parses statement_prefix now s rest → s ≡ element key
    → IsLawful done → (IsLawful (done ++ s ∷ []) → ⊥) → IsFirstError text rest
header_error text now rest done s key (at_end z) reads is lawful unlawful = absurd (nothing_read now rest s z reads)
header_error text now rest done s key (so_far ts b read) (inr (us, k, e, none)) is lawful unlawful = absurd (prefix_open_element us key (e ∙ ap is_open is))
header_error text now rest done s key (so_far ts b read) (inl (us, c, prefix)) is lawful unlawful =
    in_header (ts ++ us) done key (Begins-push ts us text now rest b c)
    (subst (λ (u : Statement). AreClosedStatements (ts ++ us) (done ++ u ∷ [])) is (closed_next ts us done s read (read_statement us s prefix)))
    lawful (subst (λ (u : Statement). IsLawful (done ++ u ∷ []) → ⊥) is unlawful)

-- ---- what remains is the end of the text

abbrev EndsWith : List ℕ → List ℕ → Type 0
EndsWith text rest = (prefix : List ℕ) × (text ≡ prefix ++ rest)

ends_within : (text middle rest before : List ℕ) → text ≡ before ++ middle → EndsWith middle rest → EndsWith text rest
ends_within text middle rest before e (prefix, f) = (before ++ prefix, e ∙ (ap (λ (t : List ℕ). before ++ t) f ∙ sym (append_assoc before prefix rest)))

string_end : (text cs rest : List ℕ) → IsString text cs rest → EndsWith text rest
string_end text cs rest (empty e n m) = (34 ∷ 34 ∷ [], e)
string_end text cs rest (short pieces some are e m) = (34 ∷ (pieces_text pieces ++ 34 ∷ []), e ∙ ap (λ (t : List ℕ). 34 ∷ t) (sym (append_assoc (pieces_text pieces) (34 ∷ []) rest)))
string_end text cs rest (triple pieces are e n m) =
    (34 ∷ 34 ∷ 34 ∷ (pieces_text pieces ++ 34 ∷ 34 ∷ 34 ∷ []), e ∙ ap (λ (t : List ℕ). 34 ∷ 34 ∷ 34 ∷ t) (sym (append_assoc (pieces_text pieces) (34 ∷ 34 ∷ 34 ∷ []) rest)))

lexeme_end : (text : List ℕ) (t : Token) (rest : List ℕ) → Lexeme text t rest → EndsWith text rest
lexeme_end text t rest (a_punctuator c m e) = (c ∷ [], e)
lexeme_end text t rest (a_word word i n e is) = (word, e)
lexeme_end text t rest (a_string cs s is) = string_end text cs rest s
lexeme_end text t rest (a_number n) = (sign_text n.sign ++ body_text n.body, n.split ∙ sym (append_assoc (sign_text n.sign) (body_text n.body) rest))

cut_end : (text : List ℕ) (t : Token) (rest : List ℕ) → Cut text t rest → EndsWith text rest
cut_end text t rest c = ends_within text c.from rest (gaps_text c.gaps) c.split (lexeme_end c.from t rest c.lexeme)

begins_end : (ts : List Token) (text rest : List ℕ) → Begins ts text rest → EndsWith text rest
begins_end [] text rest b = ([], b)
begins_end (t ∷ ts) text rest (middle, c, b) =
    let one = cut_end text t middle c in
    ends_within text middle rest one.0 one.1 (begins_end ts middle rest b)

rejected_end : (ts : List Token) (text rest : List ℕ) → IsRejected ts text rest → EndsWith text rest
rejected_end ts text rest (lexeme m) = (gaps_text m.gaps ++ m.prefix, m.split ∙ sym (append_assoc (gaps_text m.gaps) m.prefix rest))
rejected_end ts text rest (token t c none) = cut_end text t rest c
rejected_end ts text rest (end e z none) = (text, sym (append-nil text) ∙ ap (λ (t : List ℕ). text ++ t) (sym z))

error_end : (text rest : List ℕ) → IsFirstError text rest → EndsWith text rest
error_end text rest (in_tokens ts us ss after b are lawful can r) = let one = begins_end (ts ++ us) text after b in ends_within text after rest one.0 one.1 (rejected_end (ts ++ us) after rest r)
error_end text rest (in_header ts ss key b are lawful unlawful) = begins_end ts text rest b

-- ---- its place

before_nul_not_longer : (cs : List ℕ) → length (before_nul cs) ≤ length cs
before_nul_not_longer [] = omega arith
before_nul_not_longer (c ∷ cs) = elim (nat_eq c 0) as (λ (b : Bool). length (cond b [] (c ∷ before_nul cs)) ≤ length (c ∷ cs)) [ true ↦ omega arith | false ↦ omega (arith, before_nul_not_longer cs) ]

take_count : (bytes prefix remaining : List ℕ) → remaining_text bytes ≡ prefix ++ remaining → taken bytes remaining ≡ take (length prefix + 1) (chars bytes)
take_count bytes prefix remaining split =
    let whole : length (remaining_text bytes) ≡ length prefix + length remaining = ap length split ∙ length-append prefix remaining in
    let count : taken_count bytes remaining ≡ min (length prefix + 1) (length (chars bytes)) = omega (arith, whole, before_nul_not_longer (chars bytes)) in
    ap (λ (k : ℕ). take k (chars bytes)) count ∙ take_min (length prefix + 1) (chars bytes)

-- a message is reported of no want of memory
pub reported_no_memory : (e : Fault) (text : List ℕ) → Reports e text → e ≢ fault.Memory
reported_no_memory fault.Memory text reports same = reports
reported_no_memory (fault.Malformed kind) text reports same = cc same
reported_no_memory (fault.Unexpected tok) text reports same = cc same
reported_no_memory (fault.OtherKind key) text reports same = cc same

pub error_place : (bytes remaining : List ℕ) (line column : ℕ) → line ≡ line_of (taken bytes remaining) → column ≡ column_of (taken bytes remaining) → IsFirstError (remaining_text bytes) remaining → IsErrorAt (chars bytes) line column
error_place bytes remaining line column l c first =
    let ends = error_end (remaining_text bytes) remaining first in
    let same = take_count bytes ends.0 remaining ends.1 in
    record {
      prefix = ends.0;
      remaining = remaining;
      split = ends.1;
      error = first;
      is_line = l ∙ ap line_of same;
      is_column = c ∙ ap column_of same;
    }
