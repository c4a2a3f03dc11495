-- A text has one first error at most.
use Rattle.std.proofs.Common.{◌≡◌, ℕ, List, [], ◌∷◌, ◌++◌, false, sym, refl, ap, ◌∙◌, subst}
use Rattle.std.proofs.Common.{append_assoc, append-nil, inl}
use Rattle.nano_toml.specs.Cut.{Cut, Lexeme, Tokens}
use Rattle.nano_toml.specs.FirstError.{CanBeginLexeme, IsMalformed, CanBeginStatements}
use Rattle.nano_toml.specs.FirstError.{CanBeginStatement, IsRejected, lexeme, token, end}
use Rattle.nano_toml.specs.FirstError.{AreClosedStatements, IsFirstError, in_tokens, in_header}
use Rattle.nano_toml.specs.FirstError.{HasOneFirstError}
use Rattle.nano_toml.specs.Place.{closed, Begins, statement_prefix}
use Rattle.nano_toml.specs.Scan.{after_gaps}
use Rattle.nano_toml.specs.Statements.{Statement, scope, element, pair, IsClosed, IsStatement}
use Rattle.nano_toml.specs.Statements.{AreStatements}
use Rattle.nano_toml.specs.StatementTable.{IsLawful, EncodesNoTable, last_value, until_element}
use Rattle.nano_toml.specs.StatementTable.{pairs}
use Rattle.nano_toml.specs.Token.{Token, open_bracket, close_bracket, ident}
use Rattle.nano_toml.proofs.CutLaws.{cut_in_one_way}
use Rattle.nano_toml.proofs.FirstErrors.{closed_joins, closed_splits, not_nil}
use Rattle.nano_toml.proofs.GapCut.{gaps_scanned}
use Rattle.nano_toml.proofs.Gaps.{gaps_none}
use Rattle.nano_toml.proofs.ReadLemmas.{Tokens-following, nothing_cut}
use Rattle.nano_toml.proofs.StatementLemmas.{statement_prefix-closed}

-- ---- two lists of tokens of one text

data Compared (one two : List Token) (after left : List ℕ) : Type 0 where
  same : one ≡ two → after ≡ left → Compared one two after left
  longer : (t : Token) (more : List Token) (middle : List ℕ) → two ≡ one ++ t ∷ more → Cut after t middle → Compared one two after left
  shorter : (t : Token) (more : List Token) (middle : List ℕ) → one ≡ two ++ t ∷ more → Cut left t middle → Compared one two after left

compared_next : (t u : Token) (one two : List Token) (after left : List ℕ) → t ≡ u → Compared one two after left → Compared (t ∷ one) (u ∷ two) after left
compared_next t u one two after left e (same f a) = same (ap (λ (w : Token). w ∷ one) e ∙ ap (λ (ws : List Token). u ∷ ws) f) a
compared_next t u one two after left e (longer x more middle f c) = longer x more middle (ap (λ (w : Token). w ∷ two) (sym e) ∙ ap (λ (ws : List Token). t ∷ ws) f) c
compared_next t u one two after left e (shorter x more middle f c) = shorter x more middle (ap (λ (w : Token). w ∷ one) e ∙ ap (λ (ws : List Token). u ∷ ws) f) c

compared : (one two : List Token) (text after left : List ℕ) → Begins one text after → Begins two text left → Compared one two after left
compared [] [] text after left a b = same refl (sym a ∙ b)
compared [] (u ∷ two) text after left a (middle, c, b) = longer u two middle refl (subst (λ (t : List ℕ). Cut t u middle) a c)
compared (t ∷ one) [] text after left (middle, c, a) b = shorter t one middle refl (subst (λ (x : List ℕ). Cut x t middle) b c)
compared (t ∷ one) (u ∷ two) text after left (m, c, a) (n, d, b) =
    let cut = (cut_in_one_way text).0 t u m n c d in
    compared_next t u one two after left cut.0 (compared one two m after left a (subst (λ (x : List ℕ). Begins two x left) (sym cut.1) b))

-- ---- what is rejected stops the tokens

can_shorter : (ts : List Token) (t u : Token) (more : List Token) → u ≡ t → CanBeginStatements (ts ++ t ∷ more) → CanBeginStatements (ts ++ u ∷ [])
can_shorter ts t u more e (following, ss, are) =
    let whole : (ts ++ t ∷ more) ++ following ≡ (ts ++ u ∷ []) ++ (more ++ following) =
    append_assoc ts (t ∷ more) following ∙ (ap (λ (w : Token). ts ++ w ∷ (more ++ following)) (sym e) ∙ sym (append_assoc ts (u ∷ []) (more ++ following))) in
    (more ++ following, ss, subst (λ (ws : List Token). AreStatements ws ss) whole are)

not_longer : (ts : List Token) (text remaining : List ℕ) → IsRejected ts text remaining → (t : Token) (more : List Token) (middle : List ℕ) → Cut text t middle → CanBeginStatements (ts ++ t ∷ more) → ⊥
not_longer ts text remaining (lexeme m) t more middle cut can = m.nothing.0 t middle cut
not_longer ts text remaining (token u c none) t more middle cut can = none (can_shorter ts t u more ((cut_in_one_way text).0 u t remaining middle c cut).0 can)
not_longer ts text remaining (end e z none) t more middle cut can = (cut_in_one_way text).1 t middle cut e

-- ---- one lexeme breaks in one place

can_begin_part : (prefix more : List ℕ) (c : ℕ) → CanBeginLexeme (prefix ++ c ∷ more) → CanBeginLexeme (prefix ++ c ∷ [])
can_begin_part prefix more c (following, t, is) =
    let whole : (prefix ++ c ∷ more) ++ following ≡ (prefix ++ c ∷ []) ++ (more ++ following) = append_assoc prefix (c ∷ more) following ∙ sym (append_assoc prefix (c ∷ []) (more ++ following)) in
    (more ++ following, t, subst (λ (text : List ℕ). Lexeme text t []) whole is)

-- one of two beginnings of a text goes on to the other
data Parted (one two left right : List ℕ) : Type 0 where
  equal : left ≡ right → Parted one two left right
  first_longer : (c : ℕ) (more : List ℕ) → one ≡ two ++ c ∷ more → right ≡ c ∷ (more ++ left) → Parted one two left right
  second_longer : (c : ℕ) (more : List ℕ) → two ≡ one ++ c ∷ more → left ≡ c ∷ (more ++ right) → Parted one two left right

parted_next : (c d : ℕ) (one two left right : List ℕ) → c ≡ d → Parted one two left right → Parted (c ∷ one) (d ∷ two) left right
parted_next c d one two left right e (equal f) = equal f
parted_next c d one two left right e (first_longer x more f g) = first_longer x more (ap (λ (w : ℕ). w ∷ one) e ∙ ap (λ (ws : List ℕ). d ∷ ws) f) g
parted_next c d one two left right e (second_longer x more f g) = second_longer x more (ap (λ (w : ℕ). w ∷ two) (sym e) ∙ ap (λ (ws : List ℕ). c ∷ ws) f) g

same_head : (c d : ℕ) (cs ds : List ℕ) → c ∷ cs ≡ d ∷ ds → c ≡ d
same_head c d cs ds e = cc e

same_tail : (c d : ℕ) (cs ds : List ℕ) → c ∷ cs ≡ d ∷ ds → cs ≡ ds
same_tail c d cs ds e = cc e

parted : (one two left right : List ℕ) → one ++ left ≡ two ++ right → Parted one two left right
parted [] [] left right e = equal e
parted [] (d ∷ two) left right e = second_longer d two refl e
parted (c ∷ one) [] left right e = first_longer c one refl (sym e)
parted (c ∷ one) (d ∷ two) left right e = parted_next c d one two left right (same_head c d (one ++ left) (two ++ right) e) (parted one two left right (same_tail c d (one ++ left) (two ++ right) e))

breaks_once : (one two left right : List ℕ) → Parted one two left right → CanBeginLexeme one → CanBeginLexeme two
    → ((c : ℕ) (cs : List ℕ) → left ≡ c ∷ cs → CanBeginLexeme (one ++ c ∷ []) → ⊥) → ((c : ℕ) (cs : List ℕ) → right ≡ c ∷ cs → CanBeginLexeme (two ++ c ∷ []) → ⊥) → left ≡ right
breaks_once one two left right (equal e) can may breaks stops = e
breaks_once one two left right (first_longer c more e f) can may breaks stops = absurd (stops c (more ++ left) f (can_begin_part two more c (subst CanBeginLexeme e can)))
breaks_once one two left right (second_longer c more e f) can may breaks stops = absurd (breaks c (more ++ right) f (can_begin_part one more c (subst CanBeginLexeme e may)))

after_malformed : (text remaining : List ℕ) (m : IsMalformed text remaining) → after_gaps false text ≡ m.prefix ++ remaining
after_malformed text remaining m =
    ap (after_gaps false) m.split ∙ (gaps_scanned m.gaps (m.prefix ++ remaining) m.are_gaps ∙ gaps_none (m.prefix ++ remaining) m.no_gap)

one_malformed : (text left right : List ℕ) → IsMalformed text left → IsMalformed text right → left ≡ right
one_malformed text left right m n =
    breaks_once m.prefix n.prefix left right (parted m.prefix n.prefix left right (sym (after_malformed text left m) ∙ after_malformed text right n))
    m.can_begin n.can_begin m.breaks n.breaks

one_rejected : (ts : List Token) (text left right : List ℕ) → IsRejected ts text left → IsRejected ts text right → left ≡ right
one_rejected ts text left right (lexeme m) (lexeme n) = one_malformed text left right m n
one_rejected ts text left right (lexeme m) (token u d no_more) = absurd (m.nothing.0 u right d)
one_rejected ts text left right (lexeme m) (end e z no_more) = absurd (m.nothing.1 e)
one_rejected ts text left right (token t c none) (lexeme n) = absurd (n.nothing.0 t left c)
one_rejected ts text left right (token t c none) (token u d no_more) = ((cut_in_one_way text).0 t u left right c d).1
one_rejected ts text left right (token t c none) (end e z no_more) = absurd ((cut_in_one_way text).1 t left c e)
one_rejected ts text left right (end e z none) (lexeme n) = absurd (n.nothing.1 e)
one_rejected ts text left right (end e z none) (token u d no_more) = absurd ((cut_in_one_way text).1 u right d e)
one_rejected ts text left right (end e z none) (end f y no_more) = z ∙ sym y

-- ---- closed statements, and the beginning of one more

can_go_on : (before here : List Token) (ss : List Statement) → AreClosedStatements before ss → CanBeginStatement here → CanBeginStatements (before ++ here)
can_go_on before here ss read (t, more, s, is) =
    let last : AreStatements (here ++ t ∷ more) (s ∷ []) = inl (here ++ t ∷ more, [], is, refl, sym (append-nil (here ++ t ∷ more))) in
    (t ∷ more, ss ++ s ∷ [], subst (λ (ws : List Token). AreStatements ws (ss ++ s ∷ [])) (sym (append_assoc before here (t ∷ more))) (closed_joins before ss read (here ++ t ∷ more) (s ∷ []) last))

closed_can : (ts : List Token) (ss : List Statement) → AreClosedStatements ts ss → CanBeginStatements ts
closed_can ts ss read =
    ([], ss, subst (λ (zs : List Statement). AreStatements (ts ++ []) zs) (append-nil ss) (closed_joins ts ss read [] [] refl))

prefix_rest : (s u : Statement) (one two : List Token) → closed s one ≡ closed u two → one ≡ two
prefix_rest s u one two e = cc e

prefix_first : (s u : Statement) (one two : List Token) → closed s one ≡ closed u two → s ≡ u
prefix_first s u one two e = cc e

prefix_here : (ts : List Token) (s : Statement) → IsStatement IsClosed ts s → statement_prefix ts ≡ closed s []
prefix_here ts s is = ap statement_prefix (sym (append-nil ts)) ∙ statement_prefix-closed s ts [] is

-- closed statements at the prefix of others are among them
among : (xs : List Statement) (all more before here : List Token) (ss : List Statement) → AreClosedStatements all xs → AreClosedStatements before ss → CanBeginStatement here → before ++ here ≡ all ++ more
    → (ys : List Statement) × (ss ≡ xs ++ ys)
among [] all more before here ss k read can e = (ss, refl)
among (x ∷ xs) all more before here [] (first, rest, is, k, split) read (t, following, s, one) e =
    let start : here ≡ first ++ (rest ++ more) = ap (λ (ws : List Token). ws ++ here) (sym read) ∙ (e ∙ (ap (λ (ws : List Token). ws ++ more) split ∙ append_assoc first rest more)) in
    let whole : here ++ t ∷ following ≡ first ++ ((rest ++ more) ++ t ∷ following) = ap (λ (ws : List Token). ws ++ t ∷ following) start ∙ append_assoc first (rest ++ more) (t ∷ following) in
    let clash = sym (prefix_here (here ++ t ∷ following) s one) ∙ (ap statement_prefix whole ∙ statement_prefix-closed x first ((rest ++ more) ++ t ∷ following) is) in
    absurd (not_nil (rest ++ more) following t (sym (prefix_rest s x [] ((rest ++ more) ++ t ∷ following) clash)))
among (x ∷ xs) all more before here (s ∷ ss) (first, rest, is, k, split) (place, left, one, read, cut) can e =
    let a : before ++ here ≡ place ++ (left ++ here) = ap (λ (ws : List Token). ws ++ here) cut ∙ append_assoc place left here in
    let b : all ++ more ≡ first ++ (rest ++ more) = ap (λ (ws : List Token). ws ++ more) split ∙ append_assoc first rest more in
    let both = sym (statement_prefix-closed s place (left ++ here) one) ∙ (ap statement_prefix (sym a ∙ (e ∙ b)) ∙ statement_prefix-closed x first (rest ++ more) is) in
    let on = among xs rest more left here ss k read can (prefix_rest s x (left ++ here) (rest ++ more) both) in
    (on.0, ap (λ (u : Statement). u ∷ ss) (prefix_first s x (left ++ here) (rest ++ more) both) ∙ ap (λ (zs : List Statement). x ∷ zs) on.1)

-- ---- what stands before lawful statements is lawful

until_unchanged : (before after more : List Statement) (key : List ℕ) → until_element ((before ++ element key ∷ after) ++ more) ≡ until_element (before ++ element key ∷ after)
until_unchanged [] after more key = refl
until_unchanged (element name ∷ before) after more key = refl
until_unchanged (scope name ∷ before) after more key = ap (λ (ss : List Statement). scope name ∷ ss) (until_unchanged before after more key)
until_unchanged (pair name d ∷ before) after more key = ap (λ (ss : List Statement). pair name d ∷ ss) (until_unchanged before after more key)

lawful_before : (xs ys : List Statement) → IsLawful (xs ++ ys) → IsLawful xs
lawful_before xs ys lawful before after key e =
    let whole : xs ++ ys ≡ before ++ element key ∷ (after ++ ys) = ap (λ (ss : List Statement). ss ++ ys) e ∙ append_assoc before (element key ∷ after) ys in
    let until : until_element xs ≡ until_element (xs ++ ys) = ap until_element e ∙ (sym (until_unchanged before after ys key) ∙ ap (λ (ss : List Statement). until_element (ss ++ ys)) (sym e)) in
    ap (λ (ss : List Statement). last_value key (pairs [] ss)) until ∙ lawful before (after ++ ys) key whole

-- a header that makes statements unlawful is not among them
no_header_among : (before here tokens more : List Token) (ss done : List Statement) (key : List ℕ) → AreClosedStatements before ss → IsLawful ss → CanBeginStatement here
    → AreClosedStatements tokens (done ++ element key ∷ []) → (IsLawful (done ++ element key ∷ []) → ⊥) → before ++ here ≡ tokens ++ more → ⊥
no_header_among before here tokens more ss done key read lawful can k unlawful e =
    let in_it = among (done ++ element key ∷ []) tokens more before here ss k read can e in
    unlawful (lawful_before (done ++ element key ∷ []) in_it.0 (subst IsLawful in_it.1 lawful))

-- the statements before the last, and the tokens of the last
record Last (ts : List Token) (ss : List Statement) (s : Statement) : Type 0 where
  before : List Token
  here : List Token
  read : AreClosedStatements before ss
  is : IsStatement IsClosed here s
  split : ts ≡ before ++ here

last_of : (ts : List Token) (ss : List Statement) (s : Statement) → AreClosedStatements ts (ss ++ s ∷ []) → Last ts ss s
last_of ts [] s (here, more, k, none, e) = record { before = []; here = here; read = refl; is = k; split = e ∙ (ap (λ (ws : List Token). here ++ ws) none ∙ append-nil here) }
last_of ts (u ∷ ss) s (here, more, k, rest, e) =
    let on = last_of more ss s rest in
    record {
      before = here ++ on.before;
      here = on.here;
      read = (here, on.before, k, on.read, refl);
      is = on.is;
      split = e ∙ (ap (λ (ws : List Token). here ++ ws) on.split ∙ sym (append_assoc here on.before on.here));
    }

token_head : (t u : Token) (ts us : List Token) → t ∷ ts ≡ u ∷ us → t ≡ u
token_head t u ts us e = cc e

token_tail : (t u : Token) (ts us : List Token) → t ∷ ts ≡ u ∷ us → ts ≡ us
token_tail t u ts us e = cc e

-- without the last token
without_last : (xs ys more : List Token) (l t : Token) → xs ++ l ∷ [] ≡ ys ++ t ∷ more → (m : List Token) × (xs ≡ ys ++ m)
without_last xs [] more l t e = (xs, refl)
without_last [] (y ∷ ys) more l t e = absurd (not_nil ys more t (sym (token_tail l y [] (ys ++ t ∷ more) e)))
without_last (x ∷ xs) (y ∷ ys) more l t e =
    let on = without_last xs ys more l t (token_tail x y (xs ++ l ∷ []) (ys ++ t ∷ more) e) in
    (on.0, ap (λ (w : Token). w ∷ xs) (token_head x y (xs ++ l ∷ []) (ys ++ t ∷ more) e) ∙ ap (λ (ws : List Token). y ∷ ws) on.1)

-- a header on another kind stands after no other
no_later_header : (one two more : List Token) (t : Token) (done ss : List Statement) (key name : List ℕ) → AreClosedStatements one (done ++ element key ∷ []) → (IsLawful (done ++ element key ∷ []) → ⊥)
    → AreClosedStatements two (ss ++ element name ∷ []) → IsLawful ss → two ≡ one ++ t ∷ more → ⊥
no_later_header one two more t done ss key name k unlawful read lawful e =
    let last = last_of two ss (element name) read in
    let start = open_bracket ∷ open_bracket ∷ ident name ∷ close_bracket ∷ [] in
    let whole : (last.before ++ start) ++ close_bracket ∷ [] ≡ one ++ t ∷ more =
    append_assoc last.before start (close_bracket ∷ []) ∙ (ap (λ (ws : List Token). last.before ++ ws) (sym last.is) ∙ (sym last.split ∙ e)) in
    let shorter_by_one = without_last (last.before ++ start) one more close_bracket t whole in
    no_header_among last.before start one shorter_by_one.0 ss done key last.read lawful (close_bracket, [], element name, refl) k unlawful shorter_by_one.1

-- ---- one first error

tokens_tokens : (one two : List Token) (after left here there : List ℕ) → Compared one two after left → CanBeginStatements one → CanBeginStatements two → IsRejected one after here → IsRejected two left there → here ≡ there
tokens_tokens one two after left here there (same e f) can may r q =
    one_rejected two left here there (subst (λ (ts : List Token). IsRejected ts left here) e (subst (λ (t : List ℕ). IsRejected one t here) f r)) q
tokens_tokens one two after left here there (longer t more middle e c) can may r q = absurd (not_longer one after here r t more middle c (subst CanBeginStatements e may))
tokens_tokens one two after left here there (shorter t more middle e c) can may r q = absurd (not_longer two left there q t more middle c (subst CanBeginStatements e can))

tokens_header : (before here two : List Token) (after remaining left : List ℕ) (ss done : List Statement) (key : List ℕ) → Compared (before ++ here) two after left → AreClosedStatements before ss → IsLawful ss → CanBeginStatement here
    → IsRejected (before ++ here) after remaining → AreClosedStatements two (done ++ element key ∷ []) → (IsLawful (done ++ element key ∷ []) → ⊥) → ⊥
tokens_header before here two after remaining left ss done key (same e f) read lawful can r k unlawful = no_header_among before here two [] ss done key read lawful can k unlawful (e ∙ sym (append-nil two))
tokens_header before here two after remaining left ss done key (longer t more middle e c) read lawful can r k unlawful =
    not_longer (before ++ here) after remaining r t more middle c (subst CanBeginStatements e (closed_can two (done ++ element key ∷ []) k))
tokens_header before here two after remaining left ss done key (shorter t more middle e c) read lawful can r k unlawful = no_header_among before here two (t ∷ more) ss done key read lawful can k unlawful e

header_header : (one two : List Token) (after left : List ℕ) (done ss : List Statement) (key name : List ℕ) → Compared one two after left → AreClosedStatements one (done ++ element key ∷ []) → IsLawful done → (IsLawful (done ++ element key ∷ []) → ⊥)
    → AreClosedStatements two (ss ++ element name ∷ []) → IsLawful ss → (IsLawful (ss ++ element name ∷ []) → ⊥) → after ≡ left
header_header one two after left done ss key name (same e f) k lawful no_more read law none = f
header_header one two after left done ss key name (longer t more middle e c) k lawful no_more read law none = absurd (no_later_header one two more t done ss key name k no_more read law e)
header_header one two after left done ss key name (shorter t more middle e c) k lawful no_more read law none = absurd (no_later_header two one more t ss done name key read none k lawful e)

pub one_first_error : (text : List ℕ) → HasOneFirstError text
one_first_error text one two (in_tokens before here ss after b read lawful can r) (in_tokens prefix now zs left c closed_there law may q) =
    tokens_tokens (before ++ here) (prefix ++ now) after left one two (compared (before ++ here) (prefix ++ now) text after left b c) (can_go_on before here ss read can) (can_go_on prefix now zs closed_there may) r q
one_first_error text one two (in_tokens before here ss after b read lawful can r) (in_header ts zs key c k law unlawful) =
    absurd (tokens_header before here ts after one two ss zs key (compared (before ++ here) ts text after two b c) read lawful can r k unlawful)
one_first_error text one two (in_header ts zs key c k law unlawful) (in_tokens before here ss after b read lawful can r) =
    absurd (tokens_header before here ts after two one ss zs key (compared (before ++ here) ts text after one b c) read lawful can r k unlawful)
one_first_error text one two (in_header ts ss key b k law unlawful) (in_header us zs name c read lawful none) =
    header_header ts us one two ss zs key name (compared ts us text one two b c) k law unlawful read lawful none

-- ---- a text with an error

rejected_tokens : (ts rest : List Token) (all : List Statement) (after remaining : List ℕ) → IsRejected ts after remaining → Tokens after rest → AreStatements (ts ++ rest) all → ⊥
rejected_tokens ts rest all after remaining (lexeme m) k are = nothing_cut after rest m.nothing k
rejected_tokens ts [] all after remaining (token t c none) k are = (cut_in_one_way after).1 t remaining c k
rejected_tokens ts (u ∷ rest) all after remaining (token t c none) (middle, d, k) are =
    none (can_shorter ts u t rest ((cut_in_one_way after).0 t u remaining middle c d).0 ([], all, subst (λ (ws : List Token). AreStatements ws all) (sym (append-nil (ts ++ u ∷ rest))) are))
rejected_tokens ts [] all after remaining (end e z none) k are = none all (subst (λ (ws : List Token). AreStatements ws all) (append-nil ts) are)
rejected_tokens ts (u ∷ rest) all after remaining (end e z none) (middle, d, k) are = (cut_in_one_way after).1 u middle d e

pub error_encodes_no_table : (text remaining : List ℕ) → IsFirstError text remaining → EncodesNoTable text
error_encodes_no_table text remaining (in_tokens before here ss after b read law can r) all (ts, k, are) lawful =
    let rest = Tokens-following (before ++ here) ts text after b k in
    rejected_tokens (before ++ here) rest.0 all after remaining r rest.2 (subst (λ (ws : List Token). AreStatements ws all) rest.1 are)
error_encodes_no_table text remaining (in_header tokens ss key b read law unlawful) all (ts, k, are) lawful =
    let rest = Tokens-following tokens ts text remaining b k in
    let on = closed_splits tokens (ss ++ element key ∷ []) read rest.0 all (subst (λ (ws : List Token). AreStatements ws all) rest.1 are) in
    unlawful (lawful_before (ss ++ element key ∷ []) on.0 (subst IsLawful on.1 lawful))
