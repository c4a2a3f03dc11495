-- The table of statements, one statement further.
use Rattle.std.proofs.Common.{◌≡◌, ℕ, List, [], ◌∷◌, ◌++◌, Bool, true, false, cond, Option, Some}
use Rattle.std.proofs.Common.{None, bytes_eq, sym, refl, ap, ◌∙◌, subst, append_assoc, append-nil}
use Rattle.std.proofs.Common.{is_some, Bor, ◌≢◌, ◌==◌, not, ne_eqb, option_map, Result, Ok, Err}
use Rattle.std.proofs.Common.{IfOk, IfErr}
use Rattle.std.proofs.lemmas.Slice.Eq.{bytes_eq-Decides}
use Rattle.nano_toml.specs.StatementTable.{Puts, pushed, IsTables, CanPush, NoElement, NoneNamed}
use Rattle.nano_toml.specs.StatementTable.{IsPlain, ArePlain, Stands, Pair, or_else, last_value}
use Rattle.nano_toml.specs.StatementTable.{HasLast, scope_of, full_key, pairs, until_element}
use Rattle.nano_toml.specs.StatementTable.{root_pairs, element_pairs, IsFound, IsTableOf, IsLawful}
use Rattle.nano_toml.specs.StatementTable.{key_of}
use Rattle.nano_toml.specs.Data.{Data, tables, Table, no_pairs, at}
use Rattle.nano_toml.specs.Statements.{Statement, scope, element, pair}
use Rattle.nano_toml.proofs.StatementLists.{pairs-append, root_pairs-element, NoElement-append}
use Rattle.nano_toml.proofs.StatementLists.{element_pairs-none, HasLast-push, NoneNamed-append}
use Rattle.nano_toml.proofs.StatementLists.{NoneNamed-none, NoneNamed-at, IsTableOf-pair}
use Rattle.nano_toml.proofs.StatementLists.{IsTableOf-element}
use Rattle.nano_toml.specs.declared.token.TomlTok.{TomlTok}
use Rattle.nano_toml.specs.declared.fault.Fault.{Fault}
use Rattle.nano_toml.specs.declared.fault.Fault.TheVariants.{Memory}
use Rattle.nano_toml.specs.Characters.{IsByteTest, starts_word, starts_number, is_quote, is_in_word}
use Rattle.nano_toml.specs.Token.{begins, prefix, following, Token, word_token}
use Rattle.nano_toml.specs.Reading.{Next, a_token, token_of, Took}
use Rattle.nano_toml.specs.Cut.{punctuator_token, CutsNothing}
use Rattle.nano_toml.specs.Scan.{Taken, after_one_quote, number_at}
use Rattle.nano_toml.proofs.ByteTests.{next_after_gaps, next_at, start_test, number_test}
use Rattle.nano_toml.proofs.ByteTests.{quote_test, comma_test, open_test, close_test, equals_test}
use Rattle.nano_toml.proofs.ByteTests.{some_test}
use Rattle.nano_toml.proofs.GapCut.{at_word}
use Rattle.nano_toml.proofs.LexemeCut.{at_number, at_quote, at_other, string_taken}
use Rattle.nano_toml.proofs.LexemeCut.{punctuator_taken}
use Rattle.nano_toml.proofs.CutLaws.{scanned_cut, scanned_nothing}

-- ---- a key that a header names

named_at : (b : Bool) (key name : List ℕ) (first : List Pair) (es : List (List Pair)) (qs : List Pair) (qss : List (List Pair)) (ps : List Pair) → bytes_eq key name ≡ b
    → cond b (first ∷ es) es ≡ qs ∷ qss → last_value name ps ≡ None → (es ≡ qs ∷ qss → last_value key ps ≡ None) → last_value key ps ≡ None
named_at true key name first es qs qss ps is e free more = ap (λ (k : List ℕ). last_value k ps) ((bytes_eq-Decides key name).0 is) ∙ free
named_at false key name first es qs qss ps is e free more = more e

-- a key with elements is named by a header
found_named : (key : List ℕ) (before ss : List Statement) (qs : List Pair) (qss : List (List Pair)) (ps : List Pair) → element_pairs key before ss ≡ qs ∷ qss → NoneNamed ss ps → last_value key ps ≡ None
found_named key before [] qs qss ps e n = absurd (cc)
found_named key before (pair name d ∷ ss) qs qss ps e n = found_named key (before ++ pair name d ∷ []) ss qs qss ps e n
found_named key before (scope name ∷ ss) qs qss ps e n = found_named key (before ++ scope name ∷ []) ss qs qss ps e n
found_named key before (element name ∷ ss) qs qss ps e n =
    let now = before ++ element name ∷ [] in
    named_at (bytes_eq key name) key name (pairs now (until_element ss)) (element_pairs key now ss) qs qss ps refl e n.0 (λ f. found_named key now ss qs qss ps f n.1)

-- ---- values of pairs are no Arrays

abbrev NotTables : Option Data → Type 0
NotTables None = Unit {0}
NotTables (Some d) = IsTables d → ⊥

NotTables-or_else : (x y : Option Data) → NotTables x → NotTables y → NotTables (or_else x y)
NotTables-or_else None y a b = b
NotTables-or_else (Some d) y a b = a

plain_value : (name : List ℕ) (d : Data) → IsPlain (pair name d) → IsTables d → ⊥
plain_value name (tables ts) p t = p
plain_value name _ p t = t

NotTables-cond : (b : Bool) (d : Data) → (IsTables d → ⊥) → NotTables (cond b (Some d) None)
NotTables-cond true d h = h
NotTables-cond false d h = tt

plain_last : (key : List ℕ) (before ss : List Statement) → ArePlain ss → NotTables (last_value key (pairs before ss))
plain_last key before [] a = tt
plain_last key before (pair name d ∷ ss) a =
    NotTables-or_else (last_value key (pairs (before ++ pair name d ∷ []) ss)) (cond (bytes_eq key (full_key (scope_of before) name)) (Some d) None)
    (plain_last key (before ++ pair name d ∷ []) ss a.1) (NotTables-cond (bytes_eq key (full_key (scope_of before) name)) d (plain_value name d a.0))
plain_last key before (scope name ∷ ss) a = plain_last key (before ++ scope name ∷ []) ss a.1
plain_last key before (element name ∷ ss) a = plain_last key (before ++ element name ∷ []) ss a.1

plain_until : (ss : List Statement) → ArePlain ss → ArePlain (until_element ss)
plain_until [] a = tt
plain_until (pair name d ∷ ss) a = (a.0, plain_until ss a.1)
plain_until (scope name ∷ ss) a = (a.0, plain_until ss a.1)
plain_until (element key ∷ ss) a = tt

-- ---- whether a header may name a key

free_last : (last : Option Data) → NotTables last → CanPush last → last ≡ None
free_last None n c = refl
free_last (Some d) n c = absurd (n c)

free_at : (pss : List (List Pair)) (key : List ℕ) (done : List Statement) (found : Option Data) → element_pairs key [] done ≡ pss → NoneNamed done (root_pairs done) → ArePlain done
    → IsFound pss (last_value key (root_pairs done)) found → CanPush found → last_value key (root_pairs done) ≡ None
free_at [] key done found e n a is c =
    free_last (last_value key (root_pairs done)) (plain_last key [] (until_element done) (plain_until done a)) (subst CanPush is c)
free_at (qs ∷ qss) key done found e n a is c = found_named key [] done qs qss (root_pairs done) e n

-- where the root has an Array or nothing at the key, no pair gave it
pub key_free : (done : List Statement) (key : List ℕ) (root : Table) → IsTableOf done root → NoneNamed done (root_pairs done) → ArePlain done → CanPush (at key root) → last_value key (root_pairs done) ≡ None
key_free done key root is n a c = free_at (element_pairs key [] done) key done (at key root) refl n a (is key) c

other_at : (pss : List (List Pair)) (last found : Option Data) → IsFound pss last found → last ≡ None → CanPush found
other_at [] last found is none = subst CanPush (sym (is ∙ none)) tt
other_at (ps ∷ pss) last found (ts, have, e) none = subst CanPush (sym e) tt

-- where no pair gave the key, the root has an Array or nothing there
pub can_push : (done : List Statement) (key : List ℕ) (root : Table) → IsTableOf done root → last_value key (root_pairs done) ≡ None → CanPush (at key root)
can_push done key root is none = other_at (element_pairs key [] done) (last_value key (root_pairs done)) (at key root) (is key) none

-- where the root has something else there, the header is not lawful
pub key_taken : (done : List Statement) (key : List ℕ) (root : Table) → IsTableOf done root → (CanPush (at key root) → ⊥) → (more : List Statement) → IsLawful (done ++ element key ∷ more) → ⊥
key_taken done key root is other more lawful =
    other (can_push done key root is (ap (last_value key) (sym (root_pairs-element done more key)) ∙ lawful done more key refl))

-- ---- one statement further

root_pairs-scope_at : (before xs : List Statement) (name : List ℕ) → pairs before (until_element (xs ++ scope name ∷ [])) ≡ pairs before (until_element xs)
root_pairs-scope_at before [] name = refl
root_pairs-scope_at before (pair n d ∷ xs) name = ap (λ ps. (full_key (scope_of before) n, d) ∷ ps) (root_pairs-scope_at (before ++ pair n d ∷ []) xs name)
root_pairs-scope_at before (scope n ∷ xs) name = root_pairs-scope_at (before ++ scope n ∷ []) xs name
root_pairs-scope_at before (element n ∷ xs) name = refl

root_pairs-scope : (done : List Statement) (name : List ℕ) → root_pairs (done ++ scope name ∷ []) ≡ root_pairs done
root_pairs-scope done name = root_pairs-scope_at [] done name

pub NoneNamed-scope : (done : List Statement) (name : List ℕ) → NoneNamed done (root_pairs done) → NoneNamed (done ++ scope name ∷ []) (root_pairs (done ++ scope name ∷ []))
NoneNamed-scope done name n = rw (root_pairs-scope done name) (NoneNamed-append done (scope name ∷ []) (root_pairs done) n tt)

pub NoneNamed-element : (done : List Statement) (key : List ℕ) → NoneNamed done (root_pairs done) → last_value key (root_pairs done) ≡ None → NoneNamed (done ++ element key ∷ []) (root_pairs (done ++ element key ∷ []))
NoneNamed-element done key n free = rw (root_pairs-element done [] key) (NoneNamed-append done (element key ∷ []) (root_pairs done) n (free, tt))

-- the statements, where one more comes after the last header
after_header : (done before following : List Statement) (key : List ℕ) (s : Statement) → done ≡ before ++ element key ∷ following → done ++ s ∷ [] ≡ before ++ element key ∷ (following ++ s ∷ [])
after_header done before following key s e = ap (λ ss. ss ++ s ∷ []) e ∙ append_assoc before (element key ∷ following) (s ∷ [])

root_pairs-following : (done before following : List Statement) (key : List ℕ) (s : Statement) → done ≡ before ++ element key ∷ following → root_pairs (done ++ s ∷ []) ≡ root_pairs done
root_pairs-following done before following key s e =
    ap root_pairs (after_header done before following key s e)
    ∙ (root_pairs-element before (following ++ s ∷ []) key ∙ (sym (root_pairs-element before following key) ∙ ap root_pairs (sym e)))

pub NoneNamed-pair : (done : List Statement) (root : Table) (key : Option (List ℕ)) (table : Table) (name : List ℕ) (d : Data) → Stands done root key table → NoneNamed done (root_pairs done)
    → NoneNamed (done ++ pair name d ∷ []) (root_pairs (done ++ pair name d ∷ []))
NoneNamed-pair done root None table name d (none, is, empty) n =
    NoneNamed-none (done ++ pair name d ∷ []) (root_pairs (done ++ pair name d ∷ [])) (NoElement-append done (pair name d ∷ []) none tt)
NoneNamed-pair done root (Some key) table name d (before, following, e, none, is, has) n =
    rw (root_pairs-following done before following key (pair name d) e) (NoneNamed-append done (pair name d ∷ []) (root_pairs done) n tt)

scope_table : (done : List Statement) (root : Table) (name : List ℕ) → NoElement done → IsTableOf done root → IsTableOf (done ++ scope name ∷ []) root
scope_table done root name none is key =
    let more : element_pairs key [] (done ++ scope name ∷ []) ≡ element_pairs key [] done =
    element_pairs-none key [] (done ++ scope name ∷ []) (NoElement-append done (scope name ∷ []) none tt) ∙ sym (element_pairs-none key [] done none) in
    rw (more, root_pairs-scope done name) (is key)

pub Stands-scope : (done : List Statement) (root : Table) (key : Option (List ℕ)) (table : Table) (name : List ℕ) → Stands done root key table → Stands (done ++ scope name ∷ []) root key table
Stands-scope done root None table name (none, is, empty) =
    (NoElement-append done (scope name ∷ []) none tt, scope_table done root name none is, empty)
Stands-scope done root (Some key) table name (before, following, e, none, is, has) = (
  before,
  following ++ scope name ∷ [],
  after_header done before following key (scope name) e,
  NoElement-append following (scope name ∷ []) none tt,
  is,
  subst (λ (ps : List Pair). HasLast ps table)
      (sym (pairs-append (before ++ element key ∷ []) following (scope name ∷ []) ∙ append-nil (pairs (before ++ element key ∷ []) following))) has,
)

-- a pair of the root
pub Stands-root_pair : (done : List Statement) (old new table : Table) (name : List ℕ) (d : Data) → Stands done old None table → Puts old (full_key (scope_of done) name) d new
    → Stands (done ++ pair name d ∷ []) new None table
Stands-root_pair done old new table name d (none, is, empty) puts =
    (NoElement-append done (pair name d ∷ []) none tt, IsTableOf-pair done name d old new none is puts, empty)

-- a pair of an element
pub Stands-element_pair : (done : List Statement) (root old new : Table) (key name : List ℕ) (d : Data) → Stands done root (Some key) old → Puts old (full_key (scope_of done) name) d new
    → Stands (done ++ pair name d ∷ []) root (Some key) new
Stands-element_pair done root old new key name d (before, following, e, none, is, has) puts =
    let now = before ++ element key ∷ [] in
    let whole : now ++ following ≡ done = append_assoc before (element key ∷ []) following ∙ sym e in
    let last = HasLast-push (pairs now following) old new (full_key (scope_of done) name) d has puts in (
      before,
      following ++ pair name d ∷ [],
      after_header done before following key (pair name d) e,
      NoElement-append following (pair name d ∷ []) none tt,
      is,
      subst (λ (ps : List Pair). HasLast ps new)
          (ap (λ (ss : List Statement). pairs now following ++ (full_key (scope_of ss) name, d) ∷ []) (sym whole) ∙ sym (pairs-append now following (pair name d ∷ []))) last,
    )

-- a new element
pub Stands-element : (done : List Statement) (root table : Table) (key : List ℕ) → IsTableOf done root → table ≡ no_pairs → Stands (done ++ element key ∷ []) root (Some key) table
Stands-element done root table key is empty = (done, [], refl, tt, is, λ k. ap (at k) empty)

free_before : (done before following : List Statement) (key : List ℕ) → done ≡ before ++ element key ∷ following → NoneNamed done (root_pairs done) → last_value key (root_pairs before) ≡ None
free_before done before following key e n =
    ap (last_value key) (sym (ap root_pairs e ∙ root_pairs-element before following key))
    ∙ NoneNamed-at before following key (root_pairs done) (subst (λ (ss : List Statement). NoneNamed ss (root_pairs done)) e n)

-- the last element's table can be pushed
pub Stands-can_push : (done : List Statement) (root table : Table) (key : List ℕ) → Stands done root (Some key) table → NoneNamed done (root_pairs done) → CanPush (at key root)
Stands-can_push done root table key (before, following, e, none, is, has) n = can_push before key root is (free_before done before following key e n)

-- and then the root is the table of all the statements
pub Stands-whole : (done : List Statement) (old new table : Table) (key : List ℕ) → Stands done old (Some key) table → NoneNamed done (root_pairs done) → Puts old key (pushed (at key old) table) new → IsTableOf done new
Stands-whole done old new table key (before, following, e, none, is, has) n puts =
    subst (λ (ss : List Statement). IsTableOf ss new) (sym e) (IsTableOf-element before following key old new table none is has (free_before done before following key e n) puts)

-- ==== builder steps

pub Stands-at_key : (done : List Statement) (root table : Table) (one other : Option (Bor (List ℕ))) → one ≡ other → Stands done root (key_of one) table → Stands done root (key_of other) table
Stands-at_key done root table one other e stands = subst (λ (key : Option (Bor (List ℕ))). Stands done root (key_of key) table) e stands

-- a pair in an element
pub Stands-in_element : (done : List Statement) (root old new : Table) (key : Option (Bor (List ℕ))) (name : List ℕ) (d : Data) → is_some key ≡ true → Stands done root (key_of key) old
    → Puts old (full_key (scope_of done) name) d new → Stands (done ++ pair name d ∷ []) root (key_of key) new
Stands-in_element done root old new None name d e stands puts = absurd (cc)
Stands-in_element done root old new (Some key) name d e stands puts = Stands-element_pair done root old new key.now name d stands puts

-- a pair in the root
pub Stands-in_root : (done : List Statement) (old new table : Table) (key : Option (Bor (List ℕ))) (name : List ℕ) (d : Data) → is_some key ≡ false → Stands done old (key_of key) table
    → Puts old (full_key (scope_of done) name) d new → Stands (done ++ pair name d ∷ []) new (key_of key) table
Stands-in_root done old new table None name d e stands puts = Stands-root_pair done old new table name d stands puts
Stands-in_root done old new table (Some key) name d e stands puts = absurd (cc)

-- ==== next steps

-- ---- what comes after the gaps

pub word_next : (text word rest : List ℕ) (next : Next) → begins starts_word text ≡ true → word ≡ prefix is_in_word text → rest ≡ following is_in_word text → next ≡ a_token (word_token word)
    → next_after_gaps text ≡ Some (record { next = next; rest = rest })
word_next [] word rest next h w r n = cc h
word_next (c ∷ cs) word rest next h w r n = at_word c cs h ∙ rw (n, w, r) refl

pub number_next : (text : List ℕ) → begins starts_number text ≡ true → next_after_gaps text ≡ number_at text
number_next [] h = cc h
number_next (c ∷ cs) h = at_number c cs h

pub string_next : (text now : List ℕ) (c : ℕ) → text ≡ c ∷ now → c ≡ 34 → next_after_gaps text ≡ string_taken (after_one_quote now)
string_next text now c e q = ap next_after_gaps e ∙ at_quote c now q

pub punctuator_next : (text rest : List ℕ) (c : ℕ) → text ≡ c ∷ rest → starts_word c ≡ false → starts_number c ≡ false → is_quote c ≡ false → next_after_gaps text ≡ punctuator_taken (punctuator_token c) rest
punctuator_next text rest c e w n q = ap next_after_gaps e ∙ at_other c rest w n q

pub punctuator_none : (token : Option Token) (rest : List ℕ) → None ≡ option_map (λ t. a_token t) token → punctuator_taken token rest ≡ None
punctuator_none None rest h = refl
punctuator_none (Some t) rest h = cc h

pub punctuator_some : (token : Option Token) (rest : List ℕ) (next : Next) → Some next ≡ option_map (λ t. a_token t) token → punctuator_taken token rest ≡ Some (record { next = next; rest = rest })
punctuator_some None rest next h = cc h
punctuator_some (Some t) rest next h = let same : next ≡ a_token t = cc h in ap (λ (n : Next). Some (record { next = n; rest = rest })) (sym same)

-- a punctuator, or none, found by the first byte
same_punctuator : (r b : ℕ) → (r == 44) ≡ (b == 44) → (r == 91) ≡ (b == 91) → (r == 93) ≡ (b == 93) → (r == 61) ≡ (b == 61) → punctuator_token r ≡ punctuator_token b
same_punctuator r b c o s e = rw (c, o, s, e) refl

pub punctuator_step : (text rest : List ℕ) (r b : ℕ) → text ≡ r ∷ rest → ((p : ℕ → Bool) → IsByteTest p → begins p text ≡ p b) → starts_word b ≡ false → starts_number b ≡ false → is_quote b ≡ false
    → next_after_gaps text ≡ punctuator_taken (punctuator_token b) rest
punctuator_step text rest r b e test w n q =
    let at : (p : ℕ → Bool) → IsByteTest p → p r ≡ p b = λ p h. sym (ap (begins p) e) ∙ test p h in
    punctuator_next text rest r e (at starts_word start_test ∙ w) (at starts_number number_test ∙ n) (at is_quote quote_test ∙ q)
    ∙ ap (λ (m : Option Token). punctuator_taken m rest) (same_punctuator r b (at (λ c. c == 44) comma_test) (at (λ c. c == 91) open_test) (at (λ c. c == 93) close_test) (at (λ c. c == 61) equals_test))

pub no_punctuator_step : (text : List ℕ) (b : ℕ) → ((p : ℕ → Bool) → IsByteTest p → begins p text ≡ p b) → b ≢ 0 → starts_word b ≡ false → starts_number b ≡ false → is_quote b ≡ false
    → None ≡ option_map (λ t. a_token t) (punctuator_token b) → next_after_gaps text ≡ None
no_punctuator_step [] b test some w n q m =
    let here : false ≡ not (b == 0) = test (λ c. not (c == 0)) some_test in
    let clash : false ≡ true = here ∙ rw (ne_eqb b 0 some) refl in
    cc clash
no_punctuator_step (r ∷ rest) b test some w n q m = punctuator_step (r ∷ rest) rest r b refl test w n q ∙ punctuator_none (punctuator_token b) rest m

-- ---- a result, and what it says of the cut

pub found_cut : (r : Result TomlTok Fault) (text rest : List ℕ) (scan : Option Taken) → next_at text ≡ scan → IfOk r (λ t. scan ≡ Some (record { next = token_of t; rest = rest })) → IfOk r (λ t. Took text (token_of t) rest)
found_cut (Ok t) text rest scan e h = scanned_cut text (record { next = token_of t; rest = rest }) (e ∙ h)
found_cut (Err f) text rest scan e h = tt

pub rejected_cut : (r : Result TomlTok Fault) (text : List ℕ) (scan : Option Taken) → next_at text ≡ scan → IfErr r (λ f. f ≢ Memory → scan ≡ None) → IfErr r (λ f. f ≢ Memory → CutsNothing text)
rejected_cut (Ok t) text scan e h = tt
rejected_cut (Err f) text scan e h = λ n. scanned_nothing text (e ∙ h n)
