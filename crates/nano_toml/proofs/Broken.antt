-- What next_tok tells where no lexeme stands after the gaps.
use Rattle.std.proofs.Common.{◌≡◌, ◌≢◌, ℕ, List, [], ◌∷◌, ◌==◌, Bool, true, false, not, None}
use Rattle.std.proofs.Common.{option_map, Result, Ok, Err, IfErr, refl, ap, sym, ◌∙◌, subst, ne_eqb}
use Rattle.std.proofs.Common.{String, Global}
use Rattle.nano_toml.specs.declared.token.TomlTok.{TomlTok}
use Rattle.nano_toml.specs.declared.fault.Fault.{Fault}
use Rattle.nano_toml.specs.declared.fault.Fault.TheVariants.{Memory, Malformed}
use Rattle.nano_toml.specs.declared.fault.Lexeme.{Lexeme}
use Rattle.nano_toml.specs.declared.fault.Lexeme.TheVariants as lexeme
use Rattle.nano_toml.specs.Characters.{IsByteTest, starts_word, starts_number, is_quote}
use Rattle.nano_toml.specs.Cut.{punctuator_token}
use Rattle.nano_toml.specs.FirstError.{IsMalformed}
use Rattle.nano_toml.specs.Stops.{Breaks, Fails}
use Rattle.nano_toml.specs.Place.{number_remaining, array_prefix, value_prefix, element_prefix}
use Rattle.nano_toml.specs.Place.{header_prefix, statement_prefix}
use Rattle.nano_toml.proofs.LexemeHalts.{lexeme_remaining, malformed}
use Rattle.nano_toml.specs.Scan.{after_one_quote, number_at, after_gaps}
use Rattle.nano_toml.proofs.ByteTests.{lexeme_at, next_after_gaps, number_test, quote_test}
use Rattle.nano_toml.proofs.ByteTests.{some_test}
use Rattle.nano_toml.specs.Token.{begins}
use Rattle.nano_toml.specs.Reading.{a_token, scalar_at, token_of}
use Rattle.nano_toml.proofs.CutLaws.{scanned_nothing}
use Rattle.nano_toml.proofs.LexemeCut.{at_quote, number_lexeme, string_taken}
use Rattle.nano_toml.proofs.BuildLemmas.{no_punctuator_step}
use Rattle.nano_toml.specs.Data.{Values}
use Rattle.nano_toml.specs.declared.token.TomlTok.TheVariants as tok

is_broken : (e : Fault) (text remaining : List ℕ) → (lexeme : Lexeme) × (e ≡ Malformed lexeme) → IsMalformed text remaining → Breaks e text remaining
is_broken e text remaining (lexeme, same) m = subst (λ (f : Fault). Breaks f text remaining) (sym same) m

-- after the gaps stands this, which is no lexeme
stands_broken : (text now remaining : List ℕ) → now ≡ after_gaps false text → lexeme_at now ≡ None → (now ≡ [] → ⊥) → remaining ≡ lexeme_remaining now → IsMalformed text remaining
stands_broken text [] remaining skipped none some is = absurd (some refl)
stands_broken text (c ∷ cs) remaining skipped none some is =
    subst (λ (t : List ℕ). IsMalformed text t) (sym is) (malformed text c cs (sym skipped) none (scanned_nothing text (ap next_after_gaps (sym skipped) ∙ none)))

begins_some : (p : ℕ → Bool) (text : List ℕ) → begins p text ≡ true → text ≡ [] → ⊥
begins_some p text h e = let clash : false ≡ true = sym (ap (begins p) e) ∙ h in cc clash

number_left : (text : List ℕ) → begins starts_number text ≡ true → lexeme_remaining text ≡ number_remaining text
number_left [] h = cc h
number_left (c ∷ cs) h = rw h refl

pub broken_number : (r : Result TomlTok Fault) (text now remaining : List ℕ) → now ≡ after_gaps false text → begins starts_number now ≡ true
    → IfErr r (λ f. f ≢ Memory → number_at now ≡ None) → IfErr r (λ f. f ≢ Memory → (lexeme : Lexeme) × (f ≡ Malformed lexeme)) → IfErr r (λ f. f ≢ Memory → remaining ≡ number_remaining now)
    → IfErr r (λ f. f ≢ Memory → Breaks f text remaining)
broken_number (Ok t) text now remaining skipped start none reported left = tt
broken_number (Err f) text now remaining skipped start none reported left = λ n.
    is_broken f text remaining (reported n)
    (stands_broken text now remaining skipped (number_lexeme now start ∙ none n) (begins_some starts_number now start) (left n ∙ sym (number_left now start)))

string_left : (now inside : List ℕ) → now ≡ 34 ∷ inside → lexeme_remaining now ≡ []
string_left now inside e = ap lexeme_remaining e

pub broken_string : (e : Fault) (text now inside remaining : List ℕ) → now ≡ after_gaps false text → now ≡ 34 ∷ inside
    → after_one_quote inside ≡ None → e ≡ Malformed lexeme.Quoted → remaining ≡ [] → Breaks e text remaining
broken_string e text now inside remaining skipped past none reported left =
    is_broken e text remaining (lexeme.Quoted, reported)
    (stands_broken text now remaining skipped (ap lexeme_at past ∙ (at_quote 34 inside refl ∙ ap string_taken none)) (λ z. let clash : [] ≡ 34 ∷ inside = sym z ∙ past in cc clash) (left ∙ sym (string_left now inside past)))

other_left : (c : ℕ) (cs : List ℕ) → starts_number c ≡ false → is_quote c ≡ false → lexeme_remaining (c ∷ cs) ≡ c ∷ cs
other_left c cs n q = rw (n, q) refl

other_some : (now : List ℕ) (b : ℕ) → ((p : ℕ → Bool) → IsByteTest p → begins p now ≡ p b) → starts_number b ≡ false → is_quote b ≡ false → lexeme_remaining now ≡ now
other_some [] b test n q = refl
other_some (c ∷ cs) b test n q = other_left c cs (test starts_number number_test ∙ n) (test is_quote quote_test ∙ q)

not_nothing : (b : ℕ) → b ≢ 0 → not (b == 0) ≡ true
not_nothing b h = ap not (ne_eqb b 0 h)

lexeme_next : (now : List ℕ) → (now ≡ [] → ⊥) → next_after_gaps now ≡ None → lexeme_at now ≡ None
lexeme_next [] some h = refl
lexeme_next (c ∷ cs) some h = h

pub broken_other : (text now : List ℕ) (b : ℕ) → now ≡ after_gaps false text → ((p : ℕ → Bool) → IsByteTest p → begins p now ≡ p b) → b ≢ 0
    → starts_word b ≡ false → starts_number b ≡ false → is_quote b ≡ false → None ≡ option_map (λ t. a_token t) (punctuator_token b) → IsMalformed text now
broken_other text now b skipped test some w n q m =
    let here : now ≡ [] → ⊥ = begins_some (λ c. not (c == 0)) now (test (λ c. not (c == 0)) some_test ∙ not_nothing b some) in
    stands_broken text now now skipped (lexeme_next now here (no_punctuator_step now b test some w n q m)) here (sym (other_some now b test n q))

-- ==== unexpected

pub no_element : (t : TomlTok) → ((key : String Global) → t ≡ tok.Ident key → ⊥) → Fails element_prefix (token_of t)
no_element (tok.Ident key) h = absurd (h key refl)
no_element tok.Eof h = refl
no_element tok.Bof h = tt
no_element _ h = λ more. refl

pub no_header : (t : TomlTok) → ((name : String Global) → t ≡ tok.Ident name → ⊥) → ((name : String Global) → t ≡ tok.Str name → ⊥) → (t ≡ tok.BlockOpen → ⊥) → Fails header_prefix (token_of t)
no_header (tok.Ident name) h k o = absurd (h name refl)
no_header (tok.Str name) h k o = absurd (k name refl)
no_header tok.BlockOpen h k o = absurd (o refl)
no_header tok.Eof h k o = refl
no_header tok.Bof h k o = tt
no_header _ h k o = λ more. refl

pub no_statement : (t : TomlTok) → ((name : String Global) → t ≡ tok.Ident name → ⊥) → ((name : String Global) → t ≡ tok.Str name → ⊥) → (t ≡ tok.BlockOpen → ⊥) → Fails statement_prefix (token_of t)
no_statement (tok.Ident name) h k o = absurd (h name refl)
no_statement (tok.Str name) h k o = absurd (k name refl)
no_statement tok.BlockOpen h k o = absurd (o refl)
no_statement tok.Eof h k o = refl
no_statement tok.Bof h k o = tt
no_statement _ h k o = λ more. refl

-- what is no scalar, no bracket, no comma and not the end may not stand in an array
pub no_item : (outer : List Values) (here : Values) (t : TomlTok) → scalar_at (token_of t) ≡ None
    → (t ≡ tok.Comma → ⊥) → (t ≡ tok.BlockOpen → ⊥) → (t ≡ tok.BlockClose → ⊥) → (t ≡ tok.Eof → ⊥) → Fails (array_prefix outer here) (token_of t)
no_item outer here tok.Comma s c o b e = absurd (c refl)
no_item outer here tok.BlockOpen s c o b e = absurd (o refl)
no_item outer here tok.BlockClose s c o b e = absurd (b refl)
no_item outer here tok.Eof s c o b e = absurd (e refl)
no_item outer here tok.Bof s c o b e = tt
no_item outer here tok.Equals s c o b e = λ more. refl
no_item outer here (tok.Ident name) s c o b e = λ more. refl
no_item outer here _ s c o b e = absurd (cc)

-- what is no scalar and no bracket begins no value
pub no_value : (t : TomlTok) → scalar_at (token_of t) ≡ None → (t ≡ tok.BlockOpen → ⊥) → Fails value_prefix (token_of t)
no_value tok.BlockOpen s o = absurd (o refl)
no_value tok.Eof s o = refl
no_value tok.Bof s o = tt
no_value tok.Comma s o = λ more. refl
no_value tok.BlockClose s o = λ more. refl
no_value tok.Equals s o = λ more. refl
no_value (tok.Ident name) s o = λ more. refl
no_value _ s o = absurd (cc)
