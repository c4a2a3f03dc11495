-- Where an allocation failed, the buffer had no capacity for the text of the token.
use Rattle.std.proofs.Common.{◌≡◌, ◌≢◌, ℕ, ◌<◌, List, true, false, arith, rules, length, refl, ap}
use Rattle.std.proofs.Common.{subst, codes, string_bytes, string_capacity, encode_utf8_all, ◌+◌}
use Rattle.std.proofs.Common.{◌≤◌, [], ◌∷◌, ◌++◌, inl, inr, sym, length-append, cond}
use Rattle.nano_text.specs.Characters.{prefix, first_is}
use Rattle.nano_text.specs.Number.{IsNumber}
use Rattle.nano_text.specs.String.{IsString}
use Rattle.nano_text.specs.declared.number.Number.TheVariants.{U64, I64, Dec}
use Rattle.nano_text.proofs.Numbers.{IsNumber-unique, IsNumber-shorter}
use Rattle.nano_ron_tokens.specs.Cut.{is_word, IsWord, IsRunOf, IsQuoted, Cut, starts_word}
use Rattle.nano_ron_tokens.specs.Cut.{IsPunctuator, IsCharacter, IsEnd, IsLexeme, punctuator, word}
use Rattle.nano_ron_tokens.specs.Cut.{number, quoted, single, nothing}
use Rattle.nano_grammar.specs.Faults.{NothingCut}
use Rattle.nano_ron_tokens.specs.Outcomes.{Outgrows, NoCapacity}
use Rattle.nano_ron_tokens.specs.Token.{Token, ident, str, u64, i64, f64, bool, IsLiteral}
use Rattle.nano_ron_tokens.specs.Token.{character, colon, curly_open, curly_close, paren_open}
use Rattle.nano_ron_tokens.specs.Token.{paren_close, block_open, block_close, comma, end}
use Rattle.nano_ron_tokens.specs.State.{pending, KeepsOtherBuffers}
use Rattle.nano_ron_tokens.specs.declared.state.DeRonState.{DeRonState}
use Rattle.nano_ron_tokens.specs.declared.scan.Rejection.{Rejection}
use Rattle.nano_ron_tokens.specs.declared.scan.Rejection.TheVariants.{Memory}
use Rattle.nano_ron_tokens.proofs.Cuts.{word_itself}
use Rattle.nano_ron_tokens.specs.Scan.{is_end}

-- a decimal that found no capacity is the run that is a token
pub run_outgrows : (s : DeRonState) (t : Token) (text rest run left : List ℕ) → IsNumber text Dec run left
    → string_capacity s.numbuf < length run → IsRunOf t text rest → Outgrows s t
run_outgrows s (u64 n) text rest run left k capacity h =
    let e = IsNumber-unique text (U64 n) Dec h.0 run rest left h.1 k in cc e.0
run_outgrows s (i64 n) text rest run left k capacity h =
    let e = IsNumber-unique text (I64 n) Dec h.0 run rest left h.1 k in cc e.0
run_outgrows s (f64 x) text rest run left k capacity h =
    let e = IsNumber-unique text Dec Dec x run rest left h k in omega (arith, capacity, ap length e.1)
run_outgrows s _ text rest run left k capacity h = absurd h

pub quoted_outgrows : (s : DeRonState) (t : Token) (text rest : List ℕ)
    → ((cs left : List ℕ) → IsString text cs left → string_capacity s.strbuf < length (encode_utf8_all cs))
    → IsQuoted t text rest → Outgrows s t
quoted_outgrows s (str bytes) text rest capacity h = omega (arith, capacity h.0 rest h.1, ap length h.2)
quoted_outgrows s _ text rest capacity h = absurd h

pub word_outgrows : (s : DeRonState) (t : Token) (text rest : List ℕ)
    → string_capacity s.identbuf < length (prefix is_word text) → IsWord t text rest → Outgrows s t
word_outgrows s (bool true) text rest capacity h = omega (arith, capacity, ap length (word_itself (codes "true") text rest (search rules) h))
word_outgrows s (bool false) text rest capacity h = omega (arith, capacity, ap length (word_itself (codes "false") text rest (search rules) h))
word_outgrows s (ident name) text rest capacity h = omega (arith, capacity, ap length (word_itself name text rest h.0.goes_on h.1))
word_outgrows s _ text rest capacity h = absurd h

-- the same buffers have the same capacity
pub outgrows_same : (s m : DeRonState) (t : Token) → m.strbuf ≡ s.strbuf → m.numbuf ≡ s.numbuf
    → m.identbuf ≡ s.identbuf → Outgrows m t → Outgrows s t
outgrows_same s m (str bytes) a b c h = subst (λ u. string_capacity u < length bytes) a h
outgrows_same s m (f64 run) a b c h = subst (λ u. string_capacity u < length run) b h
outgrows_same s m (bool true) a b c h = subst (λ u. string_capacity u < length (codes "true")) c h
outgrows_same s m (bool false) a b c h = subst (λ u. string_capacity u < length (codes "false")) c h
outgrows_same s m (ident name) a b c h = subst (λ u. string_capacity u < length name) c h
outgrows_same s m _ a b c h = absurd h

-- an error is out of memory, or says that nothing is cut
pub by_rejection : (r : Rejection) (s : DeRonState) (text : List ℕ) → (r ≢ Memory → NothingCut Cut text)
    → (r ≡ Memory → NoCapacity s text) → NoCapacity s text
by_rejection Memory s text none capacity = capacity refl
by_rejection _ s text none capacity = λ t rest cut. absurd (none (λ e. cc e) t rest cut)

word_literal : (t : Token) (text rest : List ℕ) → IsWord t text rest → IsLiteral t
word_literal (bool b) text rest h = tt
word_literal (ident name) text rest h = tt
word_literal _ text rest h = absurd h

-- a word changes no buffer but its own
pub word_keeps : (old new : DeRonState) (text rest : List ℕ) → new.strbuf ≡ old.strbuf → new.numbuf ≡ old.numbuf
    → IsWord (pending new) text rest → KeepsOtherBuffers old new
word_keeps old new text rest strbuf numbuf h = record {
  strbuf = λ _. ap (λ s. string_bytes s) strbuf;
  numbuf = λ _. ap (λ s. string_bytes s) numbuf;
  identbuf = λ other. absurd (other (word_literal (pending new) text rest h));
}

-- ==== what is left is shorter

-- at most as much is left as before, with the token
abbrev LeavesLess : Token → List ℕ → List ℕ → Type 0
LeavesLess t text rest = length rest + cond (is_end t) 0 1 ≤ length text

punctuator_shorter : (t : Token) (text rest : List ℕ) → IsPunctuator t text rest → LeavesLess t text rest
punctuator_shorter colon text rest h = omega (arith, ap length h)
punctuator_shorter comma text rest h = omega (arith, ap length h)
punctuator_shorter block_open text rest h = omega (arith, ap length h)
punctuator_shorter block_close text rest h = omega (arith, ap length h)
punctuator_shorter paren_open text rest h = omega (arith, ap length h)
punctuator_shorter paren_close text rest h = omega (arith, ap length h)
punctuator_shorter curly_open text rest h = omega (arith, ap length h)
punctuator_shorter curly_close text rest h = omega (arith, ap length h)
punctuator_shorter _ text rest h = absurd h

name_shorter : (name text rest : List ℕ) → first_is starts_word name ≡ true → text ≡ name ++ rest → length rest + 1 ≤ length text
name_shorter [] text rest h e = cc h
name_shorter (c ∷ cs) text rest h e = omega (arith, ap length e, length-append cs rest)

word_shorter : (t : Token) (text rest : List ℕ) → IsWord t text rest → LeavesLess t text rest
word_shorter (bool true) text rest h = omega (arith, ap length h.0)
word_shorter (bool false) text rest h = omega (arith, ap length h.0)
word_shorter (ident name) text rest h = name_shorter name text rest h.0.starts h.1.0
word_shorter _ text rest h = absurd h

run_shorter : (t : Token) (text rest : List ℕ) → IsRunOf t text rest → LeavesLess t text rest
run_shorter (u64 n) text rest h = omega (arith, IsNumber-shorter text h.0 rest (U64 n) h.1)
run_shorter (i64 n) text rest h = omega (arith, IsNumber-shorter text h.0 rest (I64 n) h.1)
run_shorter (f64 run) text rest h = omega (arith, IsNumber-shorter text run rest Dec h)
run_shorter _ text rest h = absurd h

after_quotes : (inside rest : List ℕ) → length rest + 1 ≤ length (34 ∷ (inside ++ 34 ∷ rest))
after_quotes inside rest = omega (arith, length-append inside (34 ∷ rest))

quoted_shorter : (t : Token) (text rest : List ℕ) → IsQuoted t text rest → LeavesLess t text rest
quoted_shorter (str bytes) text rest h = subst (λ (l : List ℕ). length rest + 1 ≤ length l) (sym h.1.split) (after_quotes _ rest)
quoted_shorter _ text rest h = absurd h

single_shorter : (t : Token) (text rest : List ℕ) → IsCharacter t text rest → LeavesLess t text rest
single_shorter (character c) text rest h = elim h.1 [
  | inl p ↦ omega (arith, ap length p.1)
  | inr p ↦ omega (arith, ap length p)
]
single_shorter _ text rest h = absurd h

end_shorter : (t : Token) (text rest : List ℕ) → IsEnd t text rest → LeavesLess t text rest
end_shorter end text rest h = omega (arith, ap length h.1)
end_shorter _ text rest h = absurd h

lexeme_shorter : (t : Token) (text rest : List ℕ) → IsLexeme t text rest → LeavesLess t text rest
lexeme_shorter t text rest (punctuator h) = punctuator_shorter t text rest h
lexeme_shorter t text rest (word h) = word_shorter t text rest h
lexeme_shorter t text rest (number s h) = run_shorter t text rest h
lexeme_shorter t text rest (quoted h) = quoted_shorter t text rest h
lexeme_shorter t text rest (single h) = single_shorter t text rest h
lexeme_shorter t text rest (nothing h) = end_shorter t text rest h

-- a cut takes a character for each token but the end
pub cut_takes : (text : List ℕ) (t : Token) (rest : List ℕ) → Cut text t rest → length rest + cond (is_end t) 0 1 ≤ length text
cut_takes text t rest h =
    omega (arith, lexeme_shorter t h.body rest h.lexeme, ap length h.split, length-append h.gap h.body)
