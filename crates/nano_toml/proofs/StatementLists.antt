-- Lists of statements, and their tables where one statement comes after them.
use Rattle.std.proofs.Common.{◌≡◌, ℕ, List, [], ◌∷◌, ◌++◌, Bool, true, false, cond, Option, Some}
use Rattle.std.proofs.Common.{None, bytes_eq, sym, refl, ap, ◌∙◌, subst, unwrap_or, append_assoc}
use Rattle.std.proofs.Common.{append-nil}
use Rattle.std.proofs.lemmas.Slice.Eq.{bytes_eq-Decides}
use Rattle.nano_toml.specs.StatementTable.{Puts, push, pushed, NoElement, NoneNamed, IsPlain}
use Rattle.nano_toml.specs.StatementTable.{ArePlain, Pair, or_else, last_value, HasLast, last_scope}
use Rattle.nano_toml.specs.StatementTable.{scope_of, full_key, pairs, until_element, root_pairs}
use Rattle.nano_toml.specs.StatementTable.{element_pairs, HaveLast, IsFound, IsTableOf, IsLawful}
use Rattle.nano_toml.specs.Data.{Data, Tables, no_tables, more_tables, Table, at}
use Rattle.nano_toml.specs.Statements.{Statement, scope, element, pair}

-- ---- places in a list of statements

pub pairs-append : (before xs ys : List Statement) → pairs before (xs ++ ys) ≡ pairs before xs ++ pairs (before ++ xs) ys
pairs-append before [] ys = ap (λ b. pairs b ys) (sym (append-nil before))
pairs-append before (pair name d ∷ xs) ys =
    ap (λ ps. (full_key (scope_of before) name, d) ∷ ps)
    (pairs-append (before ++ pair name d ∷ []) xs ys ∙ ap (λ b. pairs (before ++ pair name d ∷ []) xs ++ pairs b ys) (append_assoc before (pair name d ∷ []) xs))
pairs-append before (scope name ∷ xs) ys =
    pairs-append (before ++ scope name ∷ []) xs ys ∙ ap (λ b. pairs (before ++ scope name ∷ []) xs ++ pairs b ys) (append_assoc before (scope name ∷ []) xs)
pairs-append before (element key ∷ xs) ys =
    pairs-append (before ++ element key ∷ []) xs ys ∙ ap (λ b. pairs (before ++ element key ∷ []) xs ++ pairs b ys) (append_assoc before (element key ∷ []) xs)

until_element-none : (xs : List Statement) → NoElement xs → until_element xs ≡ xs
until_element-none [] n = refl
until_element-none (pair name d ∷ xs) n = ap (λ ys. pair name d ∷ ys) (until_element-none xs n)
until_element-none (scope name ∷ xs) n = ap (λ ys. scope name ∷ ys) (until_element-none xs n)
until_element-none (element key ∷ xs) n = absurd n

until_element-stops : (xs following : List Statement) (key : List ℕ) → until_element (xs ++ element key ∷ following) ≡ until_element xs
until_element-stops [] following key = refl
until_element-stops (pair name d ∷ xs) following key = ap (λ ys. pair name d ∷ ys) (until_element-stops xs following key)
until_element-stops (scope name ∷ xs) following key = ap (λ ys. scope name ∷ ys) (until_element-stops xs following key)
until_element-stops (element other ∷ xs) following key = refl

-- what stands from a header on is not in the root
pub root_pairs-element : (before following : List Statement) (key : List ℕ) → root_pairs (before ++ element key ∷ following) ≡ root_pairs before
root_pairs-element before following key = ap (pairs []) (until_element-stops before following key)

pub NoElement-append : (xs ys : List Statement) → NoElement xs → NoElement ys → NoElement (xs ++ ys)
NoElement-append [] ys n m = m
NoElement-append (pair name d ∷ xs) ys n m = NoElement-append xs ys n m
NoElement-append (scope name ∷ xs) ys n m = NoElement-append xs ys n m
NoElement-append (element key ∷ xs) ys n m = absurd n

pub element_pairs-none : (key : List ℕ) (before xs : List Statement) → NoElement xs → element_pairs key before xs ≡ []
element_pairs-none key before [] n = refl
element_pairs-none key before (pair name d ∷ xs) n = element_pairs-none key (before ++ pair name d ∷ []) xs n
element_pairs-none key before (scope name ∷ xs) n = element_pairs-none key (before ++ scope name ∷ []) xs n
element_pairs-none key before (element other ∷ xs) n = absurd n

cond-append : {A : Type 0} (b : Bool) (x : A) (xs ys : List A) → cond b (x ∷ (xs ++ ys)) (xs ++ ys) ≡ cond b (x ∷ xs) xs ++ ys
cond-append true x xs ys = refl
cond-append false x xs ys = refl

element_pairs-append : (key : List ℕ) (before xs following : List Statement) (name : List ℕ)
    → element_pairs key before (xs ++ element name ∷ following) ≡ element_pairs key before xs ++ element_pairs key (before ++ xs) (element name ∷ following)
element_pairs-append key before [] following name = ap (λ b. element_pairs key b (element name ∷ following)) (sym (append-nil before))
element_pairs-append key before (pair n d ∷ xs) following name =
    element_pairs-append key (before ++ pair n d ∷ []) xs following name
    ∙ ap (λ b. element_pairs key (before ++ pair n d ∷ []) xs ++ element_pairs key b (element name ∷ following)) (append_assoc before (pair n d ∷ []) xs)
element_pairs-append key before (scope n ∷ xs) following name =
    element_pairs-append key (before ++ scope n ∷ []) xs following name
    ∙ ap (λ b. element_pairs key (before ++ scope n ∷ []) xs ++ element_pairs key b (element name ∷ following)) (append_assoc before (scope n ∷ []) xs)
element_pairs-append key before (element n ∷ xs) following name =
    let now = before ++ element n ∷ [] in
    let more =
    element_pairs-append key now xs following name
    ∙ ap (λ b. element_pairs key now xs ++ element_pairs key b (element name ∷ following)) (append_assoc before (element n ∷ []) xs) in
    ap (λ ss. cond (bytes_eq key n) (pairs now ss ∷ element_pairs key now (xs ++ element name ∷ following)) (element_pairs key now (xs ++ element name ∷ following))) (until_element-stops xs following name)
    ∙ (ap (λ es. cond (bytes_eq key n) (pairs now (until_element xs) ∷ es) es) more
    ∙ cond-append (bytes_eq key n) (pairs now (until_element xs)) (element_pairs key now xs) (element_pairs key (before ++ element n ∷ xs) (element name ∷ following)))

-- ---- scopes

or_else-assoc : {A : Type 0} (x y z : Option A) → or_else x (or_else y z) ≡ or_else (or_else x y) z
or_else-assoc None y z = refl
or_else-assoc (Some x) y z = refl

or_else-none : {A : Type 0} (o : Option A) → or_else o None ≡ o
or_else-none None = refl
or_else-none (Some x) = refl

last_scope-append : (xs ys : List Statement) → last_scope (xs ++ ys) ≡ or_else (last_scope ys) (last_scope xs)
last_scope-append [] ys = sym (or_else-none (last_scope ys))
last_scope-append (scope name ∷ xs) ys = ap (λ o. or_else o (Some name)) (last_scope-append xs ys) ∙ sym (or_else-assoc (last_scope ys) (last_scope xs) (Some name))
last_scope-append (pair name d ∷ xs) ys = last_scope-append xs ys
last_scope-append (element key ∷ xs) ys = last_scope-append xs ys

pub scope_of-scope : (done : List Statement) (name : List ℕ) → scope_of (done ++ scope name ∷ []) ≡ name
scope_of-scope done name = ap (λ o. unwrap_or o []) (last_scope-append done (scope name ∷ []))

pub scope_of-element : (done : List Statement) (key : List ℕ) → scope_of (done ++ element key ∷ []) ≡ scope_of done
scope_of-element done key = ap (λ o. unwrap_or o []) (last_scope-append done (element key ∷ []))

pub scope_of-pair : (done : List Statement) (name : List ℕ) (d : Data) → scope_of (done ++ pair name d ∷ []) ≡ scope_of done
scope_of-pair done name d = ap (λ o. unwrap_or o []) (last_scope-append done (pair name d ∷ []))

-- ---- last values

last_value-append : (key : List ℕ) (ps qs : List Pair) → last_value key (ps ++ qs) ≡ or_else (last_value key qs) (last_value key ps)
last_value-append key [] qs = sym (or_else-none (last_value key qs))
last_value-append key (p ∷ ps) qs =
    ap (λ o. or_else o (cond (bytes_eq key p.0) (Some p.1) None)) (last_value-append key ps qs)
    ∙ sym (or_else-assoc (last_value key qs) (last_value key ps) (cond (bytes_eq key p.0) (Some p.1) None))

picks : {A : Type 0} (b : Bool) (x : A) (o : Option A) → or_else (or_else None (cond b (Some x) None)) o ≡ cond b (Some x) o
picks true x o = refl
picks false x o = refl

-- one more pair
pub HasLast-push : (ps : List Pair) (old new : Table) (key : List ℕ) (d : Data) → HasLast ps old → Puts old key d new → HasLast (ps ++ (key, d) ∷ []) new
HasLast-push ps old new key d has puts other =
    puts other ∙ (ap (cond (bytes_eq other key) (Some d)) (has other) ∙ (sym (picks (bytes_eq other key) d (last_value other ps)) ∙ sym (last_value-append other ps ((key, d) ∷ []))))

HaveLast-push : (pss : List (List Pair)) (ts : Tables) (ps : List Pair) (table : Table) → HaveLast pss ts → HasLast ps table → HaveLast (pss ++ ps ∷ []) (push ts table)
HaveLast-push [] no_tables ps table a h = (h, tt)
HaveLast-push [] (more_tables first ts) ps table a h = absurd a
HaveLast-push (qs ∷ pss) no_tables ps table a h = absurd a
HaveLast-push (qs ∷ pss) (more_tables first ts) ps table a h = (a.0, HaveLast-push pss ts ps table a.1 h)

-- ---- lawful statements

pub NoneNamed-append : (xs ys : List Statement) (ps : List Pair) → NoneNamed xs ps → NoneNamed ys ps → NoneNamed (xs ++ ys) ps
NoneNamed-append [] ys ps n m = m
NoneNamed-append (element key ∷ xs) ys ps n m = (n.0, NoneNamed-append xs ys ps n.1 m)
NoneNamed-append (scope name ∷ xs) ys ps n m = NoneNamed-append xs ys ps n m
NoneNamed-append (pair name d ∷ xs) ys ps n m = NoneNamed-append xs ys ps n m

pub NoneNamed-none : (xs : List Statement) (ps : List Pair) → NoElement xs → NoneNamed xs ps
NoneNamed-none [] ps n = tt
NoneNamed-none (pair name d ∷ xs) ps n = NoneNamed-none xs ps n
NoneNamed-none (scope name ∷ xs) ps n = NoneNamed-none xs ps n
NoneNamed-none (element key ∷ xs) ps n = absurd n

pub NoneNamed-at : (xs following : List Statement) (key : List ℕ) (ps : List Pair) → NoneNamed (xs ++ element key ∷ following) ps → last_value key ps ≡ None
NoneNamed-at [] following key ps n = n.0
NoneNamed-at (element name ∷ xs) following key ps n = NoneNamed-at xs following key ps n.1
NoneNamed-at (scope name ∷ xs) following key ps n = NoneNamed-at xs following key ps n
NoneNamed-at (pair name d ∷ xs) following key ps n = NoneNamed-at xs following key ps n

pub IsLawful-from : (ss : List Statement) → NoneNamed ss (root_pairs ss) → IsLawful ss
IsLawful-from ss n before following key e =
    NoneNamed-at before following key (root_pairs ss) (subst (λ (us : List Statement). NoneNamed us (root_pairs ss)) e n)

-- ---- one statement further

ArePlain-push : (done : List Statement) (s : Statement) → ArePlain done → IsPlain s → ArePlain (done ++ s ∷ [])
ArePlain-push [] s a p = (p, tt)
ArePlain-push (u ∷ done) s a p = (a.0, ArePlain-push done s a.1 p)

pub plain_push : (done : List Statement) (s : Statement) → ArePlain done → IsPlain s → ArePlain (done ++ s ∷ [])
plain_push done s a p = ArePlain-push done s a p

-- where no element stands, the table has the last values
IsFound-none : (pss : List (List Pair)) (last found : Option Data) → pss ≡ [] → IsFound pss last found → found ≡ last
IsFound-none [] last found e h = h
IsFound-none (ps ∷ pss) last found e h = absurd (cc)

root_pairs-none : (done : List Statement) → NoElement done → root_pairs done ≡ pairs [] done
root_pairs-none done n = ap (pairs []) (until_element-none done n)

-- one more pair before the first header `[[key]]`
pub IsTableOf-pair : (done : List Statement) (name : List ℕ) (d : Data) (old new : Table) → NoElement done → IsTableOf done old → Puts old (full_key (scope_of done) name) d new
    → IsTableOf (done ++ pair name d ∷ []) new
IsTableOf-pair done name d old new none is puts key =
    let more : NoElement (done ++ pair name d ∷ []) = NoElement-append done (pair name d ∷ []) none tt in
    let was : HasLast (root_pairs done) old = λ k. IsFound-none (element_pairs k [] done) (last_value k (root_pairs done)) (at k old) (element_pairs-none k [] done none) (is k) in
    let now = HasLast-push (root_pairs done) old new (full_key (scope_of done) name) d was puts key in
    let roots : root_pairs done ++ (full_key (scope_of done) name, d) ∷ [] ≡ root_pairs (done ++ pair name d ∷ []) =
    ap (λ ps. ps ++ (full_key (scope_of done) name, d) ∷ []) (root_pairs-none done none)
    ∙ (sym (pairs-append [] done (pair name d ∷ [])) ∙ sym (root_pairs-none (done ++ pair name d ∷ []) more)) in
    subst (λ (pss : List (List Pair)). IsFound pss (last_value key (root_pairs (done ++ pair name d ∷ []))) (at key new)) (sym (element_pairs-none key [] (done ++ pair name d ∷ []) more))
    (now ∙ ap (last_value key) roots)

pushed_there : (pss : List (List Pair)) (last found : Option Data) (ps : List Pair) (table : Table) → last ≡ None → IsFound pss last found → HasLast ps table
    → IsFound (pss ++ ps ∷ []) last (Some (pushed found table))
pushed_there [] last found ps table none is has = (more_tables table no_tables, (has, tt), ap (λ o. Some (pushed o table)) (is ∙ none))
pushed_there (qs ∷ pss) last found ps table none (ts, have, e) has = (push ts table, HaveLast-push (qs ∷ pss) ts ps table have has, ap (λ o. Some (pushed o table)) e)

-- what one element adds at a key
one_element : (key name : List ℕ) (before following : List Statement) → NoElement following
    → element_pairs key before (element name ∷ following) ≡ cond (bytes_eq key name) (pairs (before ++ element name ∷ []) following ∷ []) []
one_element key name before following none =
    let now = before ++ element name ∷ [] in
    ap (λ ss. cond (bytes_eq key name) (pairs now ss ∷ element_pairs key now following) (element_pairs key now following)) (until_element-none following none)
    ∙ ap (λ es. cond (bytes_eq key name) (pairs now following ∷ es) es) (element_pairs-none key now following none)

at_element : (b : Bool) (key name : List ℕ) (pss : List (List Pair)) (ps : List Pair) (last : Option Data) (old new table : Table) → bytes_eq key name ≡ b → (bytes_eq key name ≡ true → last ≡ None)
    → IsFound pss last (at key old) → HasLast ps table → at key new ≡ cond b (Some (pushed (at name old) table)) (at key old) → IsFound (pss ++ cond b (ps ∷ []) []) last (at key new)
at_element true key name pss ps last old new table is none found has puts =
    let same = (bytes_eq-Decides key name).0 is in
    subst (λ (o : Option Data). IsFound (pss ++ ps ∷ []) last o) (ap (λ (k : List ℕ). Some (pushed (at k old) table)) same ∙ sym puts) (pushed_there pss last (at key old) ps table (none is) found has)
at_element false key name pss ps last old new table is none found has puts =
    subst (λ (o : Option Data). IsFound (pss ++ []) last o) (sym puts) (subst (λ (xs : List (List Pair)). IsFound xs last (at key old)) (sym (append-nil pss)) found)

-- the table of an element, at the end of its Array
pub IsTableOf-element : (before following : List Statement) (name : List ℕ) (old new table : Table) → NoElement following → IsTableOf before old → HasLast (pairs (before ++ element name ∷ []) following) table
    → last_value name (root_pairs before) ≡ None → Puts old name (pushed (at name old) table) new → IsTableOf (before ++ element name ∷ following) new
IsTableOf-element before following name old new table none is has free puts key =
    let ps = pairs (before ++ element name ∷ []) following in
    let elements : element_pairs key [] (before ++ element name ∷ following) ≡ element_pairs key [] before ++ cond (bytes_eq key name) (ps ∷ []) [] =
    element_pairs-append key [] before following name ∙ ap (λ es. element_pairs key [] before ++ es) (one_element key name before following none) in
    rw (elements, root_pairs-element before following name)
    (at_element (bytes_eq key name) key name (element_pairs key [] before) ps (last_value key (root_pairs before)) old new table refl
    (λ b. ap (λ (k : List ℕ). last_value k (root_pairs before)) ((bytes_eq-Decides key name).0 b) ∙ free) (is key) has (puts key))
