-- Tokens are the statements of one list at most.
use Rattle.std.proofs.Common.{◌≡◌, ℕ, Some, List, [], ◌∷◌, ◌++◌, sym, refl, ap, ◌∙◌, subst, inl}
use Rattle.std.proofs.Common.{inr, ◌⊎◌, append-nil}
use Rattle.nano_toml.specs.StatementTable.{IsPlain}
use Rattle.nano_toml.specs.Data.{Data, Tables, tables}
use Rattle.nano_toml.specs.Place.{Prefix, closed, is_open, nothing, value_prefix, pair_of}
use Rattle.nano_toml.specs.Place.{pair_prefix, scope_prefix, element_prefix, header_prefix}
use Rattle.nano_toml.specs.Place.{statement_prefix}
use Rattle.nano_toml.specs.Statements.{scalar_of, IsClosed, IsOpen, Statement, scope, element, pair}
use Rattle.nano_toml.specs.Statements.{IsName, IsStatement, AreStatements}
use Rattle.nano_toml.specs.Token.{Token, ident, string, unsigned, signed, decimal, boolean, nan}
use Rattle.nano_toml.specs.Token.{infinity, date, equals, open_bracket, close_bracket}
use Rattle.nano_toml.proofs.PrefixLemmas.{value_prefix-closed, value_prefix-open}
use Rattle.nano_toml.proofs.PrefixLemmas.{value_prefix_found, IsPrefix}

-- ---- tokens of statements have them as their prefix

scope_first : (t : Token) (name : List ℕ) (more : List Token) → IsName t name → statement_prefix (open_bracket ∷ t ∷ close_bracket ∷ more) ≡ closed (scope name) more
scope_first t name more (inl e) = ap (λ u. header_prefix (u ∷ close_bracket ∷ more)) e
scope_first t name more (inr e) = ap (λ u. header_prefix (u ∷ close_bracket ∷ more)) e

pair_first : (t : Token) (name : List ℕ) (more : List Token) → IsName t name → statement_prefix (t ∷ equals ∷ more) ≡ pair_of name (value_prefix more)
pair_first t name more (inl e) = ap (λ u. statement_prefix (u ∷ equals ∷ more)) e
pair_first t name more (inr e) = ap (λ u. statement_prefix (u ∷ equals ∷ more)) e

pub statement_prefix-closed : (s : Statement) (here more : List Token) → IsStatement IsClosed here s → statement_prefix (here ++ more) ≡ closed s more
statement_prefix-closed (scope name) here more (t, n, e) = ap (λ ts. statement_prefix (ts ++ more)) e ∙ scope_first t name more n
statement_prefix-closed (element name) here more e = ap (λ ts. statement_prefix (ts ++ more)) e
statement_prefix-closed (pair name d) here more (t, value, n, k, e) =
    ap (λ ts. statement_prefix (ts ++ more)) e ∙ (pair_first t name (value ++ more) n ∙ ap (pair_of name) (value_prefix-closed d value more k))

statement_prefix-open : (s : Statement) (ts : List Token) → IsStatement IsOpen ts s → (statement_prefix ts ≡ is_open s) ⊎ (statement_prefix ts ≡ closed s [])
statement_prefix-open (scope name) ts (t, n, e) = inr (ap statement_prefix e ∙ scope_first t name [] n)
statement_prefix-open (element name) ts e = inr (ap statement_prefix e)
statement_prefix-open (pair name d) ts (t, value, n, k, e) = inl (ap statement_prefix e ∙ (pair_first t name value n ∙ ap (pair_of name) (value_prefix-open d value k)))

-- ---- what is found as a prefix is a statement

-- the prefix of ts is a part of it, or all of it
abbrev IsStatementPrefix : Prefix Statement → List Token → Type 0
IsStatementPrefix (closed s rest) ts = (used : List Token) × (ts ≡ used ++ rest) × IsStatement IsClosed used s
IsStatementPrefix (is_open s) ts = IsStatement IsOpen ts s
IsStatementPrefix nothing ts = Unit {0}

scope_prefix_found : (t : Token) (name : List ℕ) (ts : List Token) → IsName t name → IsStatementPrefix (scope_prefix name ts) (open_bracket ∷ t ∷ ts)
scope_prefix_found t name (close_bracket ∷ ts) n = (open_bracket ∷ t ∷ close_bracket ∷ [], refl, (t, n, refl))
scope_prefix_found t name _ n = tt

element_prefix_found : (ts : List Token) → IsStatementPrefix (element_prefix ts) (open_bracket ∷ open_bracket ∷ ts)
element_prefix_found (ident name ∷ close_bracket ∷ close_bracket ∷ ts) = (open_bracket ∷ open_bracket ∷ ident name ∷ close_bracket ∷ close_bracket ∷ [], refl, refl)
element_prefix_found _ = tt

header_prefix_found : (ts : List Token) → IsStatementPrefix (header_prefix ts) (open_bracket ∷ ts)
header_prefix_found (ident name ∷ ts) = scope_prefix_found (ident name) name ts (inl refl)
header_prefix_found (string name ∷ ts) = scope_prefix_found (string name) name ts (inr refl)
header_prefix_found (open_bracket ∷ ts) = element_prefix_found ts
header_prefix_found _ = tt

pair_of_found : (t : Token) (name : List ℕ) (prefix : Prefix Data) (ts : List Token) → IsName t name → IsPrefix [] prefix ts → IsStatementPrefix (pair_of name prefix) (t ∷ equals ∷ ts)
pair_of_found t name (closed d rest) ts n (used, e, k) = (t ∷ equals ∷ used, ap (λ us. t ∷ equals ∷ us) e, (t, used, n, k, refl))
pair_of_found t name (is_open d) ts n k = (t, ts, n, k, refl)
pair_of_found t name nothing ts n k = tt

pair_prefix_found : (t : Token) (name : List ℕ) (ts : List Token) → IsName t name → IsStatementPrefix (pair_prefix name ts) (t ∷ ts)
pair_prefix_found t name (equals ∷ ts) n = pair_of_found t name (value_prefix ts) ts n (value_prefix_found ts)
pair_prefix_found t name _ n = tt

statement_prefix_found : (ts : List Token) → IsStatementPrefix (statement_prefix ts) ts
statement_prefix_found (open_bracket ∷ ts) = header_prefix_found ts
statement_prefix_found (ident name ∷ ts) = pair_prefix_found (ident name) name ts (inl refl)
statement_prefix_found (string name ∷ ts) = pair_prefix_found (string name) name ts (inr refl)
statement_prefix_found _ = tt

-- ---- lists of statements, by their prefix

found_closed : (prefix : Prefix Statement) (ts : List Token) (s : Statement) (rest : List Token) → prefix ≡ closed s rest → IsStatementPrefix prefix ts → (used : List Token) × (ts ≡ used ++ rest) × IsStatement IsClosed used s
found_closed prefix ts s rest e found = subst (λ (f : Prefix Statement). IsStatementPrefix f ts) e found

found_open : (prefix : Prefix Statement) (ts : List Token) (s : Statement) → prefix ≡ is_open s → IsStatementPrefix prefix ts → IsStatement IsOpen ts s
found_open prefix ts s e found = subst (λ (f : Prefix Statement). IsStatementPrefix f ts) e found

-- a closed statement, and then others
pub AreStatements-cons : (ts rest : List Token) (s : Statement) (ss : List Statement) → statement_prefix ts ≡ closed s rest → AreStatements rest ss → AreStatements ts (s ∷ ss)
AreStatements-cons ts rest s ss e are =
    let f = found_closed (statement_prefix ts) ts s rest e (statement_prefix_found ts) in
    inl (f.0, rest, f.2, are, f.1)

-- an open statement is the last
pub AreStatements-open : (ts : List Token) (s : Statement) → statement_prefix ts ≡ is_open s → AreStatements ts (s ∷ [])
AreStatements-open ts s e = inr (found_open (statement_prefix ts) ts s e (statement_prefix_found ts), refl)

-- what begins with a closed statement is that statement and others
abbrev pub GoesOn : List Statement → Statement → List Token → Type 0
GoesOn ss s rest = (more : List Statement) × (ss ≡ s ∷ more) × AreStatements rest more

closed_one : (s u : Statement) (rest more : List Token) (ss : List Statement) → closed u more ≡ closed s rest → AreStatements more ss → GoesOn (u ∷ ss) s rest
closed_one s u rest more ss e are =
    let same : u ≡ s = cc in
    let left : more ≡ rest = cc in
    (ss, ap (λ v. v ∷ ss) same, subst (λ (ts : List Token). AreStatements ts ss) left are)

last_one : (s u : Statement) (rest : List Token) (ss : List Statement) (prefix : Prefix Statement) → prefix ≡ closed s rest → (prefix ≡ is_open u) ⊎ (prefix ≡ closed u []) → ss ≡ [] → GoesOn (u ∷ ss) s rest
last_one s u rest ss prefix e (inl o) none = absurd (let clash : is_open u ≡ closed s rest = sym o ∙ e in cc)
last_one s u rest ss prefix e (inr c) none = closed_one s u rest [] ss (sym c ∙ e) (subst (λ (us : List Statement). AreStatements [] us) (sym none) refl)

pub AreStatements-closed : (ts rest : List Token) (s : Statement) (ss : List Statement) → statement_prefix ts ≡ closed s rest → AreStatements ts ss → GoesOn ss s rest
AreStatements-closed ts rest s [] e are = absurd (let clash : nothing ≡ closed s rest = sym (ap statement_prefix are) ∙ e in cc)
AreStatements-closed ts rest s (u ∷ ss) e (inl (here, more, k, are, split)) =
    closed_one s u rest more ss (sym (ap statement_prefix split ∙ statement_prefix-closed u here more k) ∙ e) are
AreStatements-closed ts rest s (u ∷ ss) e (inr (k, none)) =
    last_one s u rest ss (statement_prefix ts) e (statement_prefix-open u ts k) none

open_one : (s u : Statement) (ss : List Statement) (prefix : Prefix Statement) → prefix ≡ is_open s → (prefix ≡ is_open u) ⊎ (prefix ≡ closed u []) → ss ≡ [] → u ∷ ss ≡ s ∷ []
open_one s u ss prefix e (inl o) none = let same : is_open u ≡ is_open s = sym o ∙ e in cc
open_one s u ss prefix e (inr c) none = absurd (let clash : closed u [] ≡ is_open s = sym c ∙ e in cc)

pub AreStatements-is_open : (ts : List Token) (s : Statement) (ss : List Statement) → statement_prefix ts ≡ is_open s → AreStatements ts ss → ss ≡ s ∷ []
AreStatements-is_open ts s [] e are = absurd (let clash : nothing ≡ is_open s = sym (ap statement_prefix are) ∙ e in cc)
AreStatements-is_open ts s (u ∷ ss) e (inl (here, more, k, are, split)) =
    absurd (let clash : closed u more ≡ is_open s = sym (ap statement_prefix split ∙ statement_prefix-closed u here more k) ∙ e in cc)
AreStatements-is_open ts s (u ∷ ss) e (inr (k, none)) = open_one s u ss (statement_prefix ts) e (statement_prefix-open u ts k) none

not_nothing : (u : Statement) (prefix : Prefix Statement) → (prefix ≡ is_open u) ⊎ (prefix ≡ closed u []) → prefix ≡ nothing → ⊥
not_nothing u prefix (inl o) e = let clash : is_open u ≡ nothing = sym o ∙ e in cc
not_nothing u prefix (inr c) e = let clash : closed u [] ≡ nothing = sym c ∙ e in cc

-- where no statement is a prefix of the tokens, the tokens are no statements
pub AreStatements-nothing : (ts : List Token) (ss : List Statement) → statement_prefix ts ≡ nothing → AreStatements ts ss → (ts ≡ []) × (ss ≡ [])
AreStatements-nothing ts [] e are = (are, refl)
AreStatements-nothing ts (u ∷ ss) e (inl (here, more, k, are, split)) =
    absurd (let clash : closed u more ≡ nothing = sym (ap statement_prefix split ∙ statement_prefix-closed u here more k) ∙ e in cc)
AreStatements-nothing ts (u ∷ ss) e (inr (k, none)) = absurd (not_nothing u (statement_prefix ts) (statement_prefix-open u ts k) e)

pub AreStatements-nil : (ss : List Statement) → AreStatements [] ss → ss ≡ []
AreStatements-nil ss are = (AreStatements-nothing [] ss refl are).1

last_list : (s : Statement) (ss other : List Statement) (ts : List Token) → (statement_prefix ts ≡ is_open s) ⊎ (statement_prefix ts ≡ closed s []) → ss ≡ [] → AreStatements ts other → s ∷ ss ≡ other
last_list s ss other ts (inl o) none b = ap (λ us. s ∷ us) none ∙ sym (AreStatements-is_open ts s other o b)
last_list s ss other ts (inr c) none b =
    let g = AreStatements-closed ts [] s other c b in
    ap (λ us. s ∷ us) (none ∙ sym (AreStatements-nil g.0 g.2)) ∙ sym g.1

-- tokens are one list of statements at most
pub one_list : (one other : List Statement) (ts : List Token) → AreStatements ts one → AreStatements ts other → one ≡ other
one_list [] other ts a b = sym (AreStatements-nil other (subst (λ (us : List Token). AreStatements us other) a b))
one_list (s ∷ ss) other ts (inl (here, more, k, are, split)) b =
    let g = AreStatements-closed ts more s other (ap statement_prefix split ∙ statement_prefix-closed s here more k) b in
    ap (λ us. s ∷ us) (one_list ss g.0 more are g.2) ∙ sym g.1
one_list (s ∷ ss) other ts (inr (k, none)) b = last_list s ss other ts (statement_prefix-open s ts k) none b

-- ---- the value of a pair is no Array

scalar_plain : (t : Token) (ts : Tables) → scalar_of t ≡ Some (tables ts) → ⊥
scalar_plain (string s) ts e = cc
scalar_plain (unsigned n) ts e = cc
scalar_plain (signed n) ts e = cc
scalar_plain (decimal s) ts e = cc
scalar_plain (boolean b) ts e = cc
scalar_plain (nan b) ts e = cc
scalar_plain (infinity b) ts e = cc
scalar_plain (date s) ts e = cc
scalar_plain _ ts e = cc

closed_plain : (us : List Token) (s : Statement) → IsStatement IsClosed us s → IsPlain s
closed_plain us (scope name) k = tt
closed_plain us (element key) k = tt
closed_plain us (pair name (tables ts)) (t, more, n, (u, e, one), split) = scalar_plain u ts e
closed_plain us (pair name _) k = tt

open_plain : (us : List Token) (s : Statement) → IsStatement IsOpen us s → IsPlain s
open_plain us (scope name) k = tt
open_plain us (element key) k = tt
open_plain us (pair name (tables ts)) (t, more, n, k, split) = k
open_plain us (pair name _) k = tt

pub prefix_plain : (ts rest : List Token) (s : Statement) → statement_prefix ts ≡ closed s rest → IsPlain s
prefix_plain ts rest s e = let f = found_closed (statement_prefix ts) ts s rest e (statement_prefix_found ts) in closed_plain f.0 s f.2

pub prefix_open_plain : (ts : List Token) (s : Statement) → statement_prefix ts ≡ is_open s → IsPlain s
prefix_open_plain ts s e = open_plain ts s (found_open (statement_prefix ts) ts s e (statement_prefix_found ts))

-- a header is not open
pub prefix_open_element : (ts : List Token) (key : List ℕ) → statement_prefix ts ≡ is_open (element key) → ⊥
prefix_open_element ts key e =
    let is = found_open (statement_prefix ts) ts (element key) e (statement_prefix_found ts) in
    let clash : closed (element key) [] ≡ is_open (element key) = sym (ap statement_prefix is) ∙ e in
    cc clash

-- tokens that are closed to their end are a statement
pub closed_statement : (ts : List Token) (s : Statement) → statement_prefix ts ≡ closed s [] → IsStatement IsClosed ts s
closed_statement ts s e =
    let found = found_closed (statement_prefix ts) ts s [] e (statement_prefix_found ts) in
    subst (λ (us : List Token). IsStatement IsClosed us s) (sym (found.1 ∙ append-nil found.0)) found.2
