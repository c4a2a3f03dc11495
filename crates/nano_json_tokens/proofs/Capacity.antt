-- If allocation failed, the buffer had no capacity for the text of the token.
use Rattle.std.proofs.Common.{◌≡◌, ◌≢◌, ℕ, ◌<◌, ◌≤◌, List, true, false, arith, rules, length}
use Rattle.std.proofs.Common.{encode_utf8, refl, ap, subst, codes, string_bytes, string_capacity}
use Rattle.std.proofs.Common.{encode_utf8_all, ◌+◌, ◌∷◌, ◌++◌, sym, length-append, cond}
use Rattle.std.specs.declared.str.Chars.{Chars}
use Rattle.std.proofs.lemmas.Bool.Decides.{nat_tests}
use Rattle.std.proofs.lemmas.Str.{encode_ascii}
use Rattle.nano_text.specs.Characters.{prefix}
use Rattle.nano_text.specs.Place.{remaining}
use Rattle.nano_text.specs.Number.{IsNumber}
use Rattle.nano_text.specs.String.{IsString}
use Rattle.nano_text.specs.declared.number.Number.TheVariants.{U64, I64, Dec}
use Rattle.nano_text.proofs.Numbers.{IsNumber-unique, IsNumber-shorter}
use Rattle.nano_text.proofs.RemainingText.{remaining_more}
use Rattle.nano_json_tokens.specs.Cut.{is_word, IsWord, IsRunOf, IsQuoted, Cut, IsPunctuator, IsEnd}
use Rattle.nano_json_tokens.specs.Cut.{IsLexeme, punctuator, word, number, quoted, nothing}
use Rattle.nano_grammar.specs.Faults.{NothingCut}
use Rattle.nano_json_tokens.specs.Outcomes.{Outgrows, NoCapacity}
use Rattle.nano_json_tokens.specs.Token.{Token, str, u64, i64, f64, bool, null, IsLiteral, colon}
use Rattle.nano_json_tokens.specs.Token.{curly_open, curly_close, block_open, block_close, comma}
use Rattle.nano_json_tokens.specs.Token.{end}
use Rattle.nano_json_tokens.specs.State.{pending, KeepsOtherBuffers}
use Rattle.nano_json_tokens.specs.declared.state.DeJsonState.{DeJsonState}
use Rattle.nano_json_tokens.specs.declared.scan.Rejection.{Rejection}
use Rattle.nano_json_tokens.specs.declared.scan.Rejection.TheVariants.{Memory}
use Rattle.nano_json_tokens.proofs.Cuts.{word_itself}
use Rattle.nano_json_tokens.specs.Scan.{is_end}

-- a word has its first character
pub word_has_one : (cur : ℕ) (i : Chars) → is_word cur ≡ true → 1 ≤ length (prefix is_word (remaining cur i))
word_has_one cur i h =
    let some : cur ≢ 0 = λ e. (let x : is_word 0 ≡ true = subst (λ (n : ℕ). is_word n ≡ true) e h in cc x) in
    rw (remaining_more cur i some) (rw h (omega arith))

pub word_is_one_byte : (c : ℕ) → is_word c ≡ true → length (encode_utf8 c) ≡ 1
word_is_one_byte c h = let small : c < 128 = grind (arith, nat_tests) in ap length (encode_ascii c small)

-- a decimal that found no capacity is the run that is a token
pub run_outgrows : (s : DeJsonState) (t : Token) (text rest run left : List ℕ) → IsNumber text Dec run left
    → string_capacity s.numbuf < length run → IsRunOf t text rest → Outgrows s t
run_outgrows s (u64 n) text rest run left k capacity h =
    let e = IsNumber-unique text (U64 n) Dec h.0 run rest left h.1 k in cc e.0
run_outgrows s (i64 n) text rest run left k capacity h =
    let e = IsNumber-unique text (I64 n) Dec h.0 run rest left h.1 k in cc e.0
run_outgrows s (f64 x) text rest run left k capacity h =
    let e = IsNumber-unique text Dec Dec x run rest left h k in omega (arith, capacity, ap length e.1)
run_outgrows s _ text rest run left k capacity h = absurd h

pub quoted_outgrows : (s : DeJsonState) (t : Token) (text rest : List ℕ)
    → ((cs left : List ℕ) → IsString text cs left → string_capacity s.strbuf < length (encode_utf8_all cs))
    → IsQuoted t text rest → Outgrows s t
quoted_outgrows s (str bytes) text rest capacity h = omega (arith, capacity h.0 rest h.1, ap length h.2)
quoted_outgrows s _ text rest capacity h = absurd h

pub word_outgrows : (s : DeJsonState) (t : Token) (text rest : List ℕ)
    → string_capacity s.identbuf < length (prefix is_word text) → IsWord t text rest → Outgrows s t
word_outgrows s (bool true) text rest capacity h = omega (arith, capacity, ap length (word_itself (codes "true") text rest (search rules) h))
word_outgrows s (bool false) text rest capacity h = omega (arith, capacity, ap length (word_itself (codes "false") text rest (search rules) h))
word_outgrows s null text rest capacity h = omega (arith, capacity, ap length (word_itself (codes "null") text rest (search rules) h))
word_outgrows s _ text rest capacity h = absurd h

-- the same buffers have the same capacity
pub outgrows_same : (s m : DeJsonState) (t : Token) → m.strbuf ≡ s.strbuf → m.numbuf ≡ s.numbuf
    → m.identbuf ≡ s.identbuf → Outgrows m t → Outgrows s t
outgrows_same s m (str bytes) a b c h = subst (λ u. string_capacity u < length bytes) a h
outgrows_same s m (f64 run) a b c h = subst (λ u. string_capacity u < length run) b h
outgrows_same s m (bool true) a b c h = subst (λ u. string_capacity u < length (codes "true")) c h
outgrows_same s m (bool false) a b c h = subst (λ u. string_capacity u < length (codes "false")) c h
outgrows_same s m null a b c h = subst (λ u. string_capacity u < length (codes "null")) c h
outgrows_same s m _ a b c h = absurd h

-- an error is out of memory, or reports that nothing is cut
pub by_rejection : (r : Rejection) (s : DeJsonState) (text : List ℕ) → (r ≢ Memory → NothingCut Cut text)
    → (r ≡ Memory → NoCapacity s text) → NoCapacity s text
by_rejection Memory s text none capacity = capacity refl
by_rejection _ s text none capacity = λ t rest cut. absurd (none (λ e. cc e) t rest cut)

pub word_literal : (t : Token) (text rest : List ℕ) → IsWord t text rest → IsLiteral t
word_literal (bool b) text rest h = tt
word_literal null text rest h = tt
word_literal _ text rest h = absurd h

-- a word changes no buffer but its own
pub word_keeps : (old new : DeJsonState) (text rest : List ℕ) → new.strbuf ≡ old.strbuf → new.numbuf ≡ old.numbuf
    → IsWord (pending new) text rest → KeepsOtherBuffers old new
word_keeps old new text rest strbuf numbuf h = record {
  strbuf = λ _. ap (λ s. string_bytes s) strbuf;
  numbuf = λ _. ap (λ s. string_bytes s) numbuf;
  identbuf = λ other. absurd (other (word_literal (pending new) text rest h));
}

-- ==== what is left is shorter

punctuator_shorter : (t : Token) (text rest : List ℕ) → IsPunctuator t text rest → length rest + cond (is_end t) 0 1 ≤ length text
punctuator_shorter colon text rest h = omega (arith, ap length h)
punctuator_shorter comma text rest h = omega (arith, ap length h)
punctuator_shorter block_open text rest h = omega (arith, ap length h)
punctuator_shorter block_close text rest h = omega (arith, ap length h)
punctuator_shorter curly_open text rest h = omega (arith, ap length h)
punctuator_shorter curly_close text rest h = omega (arith, ap length h)
punctuator_shorter _ text rest h = absurd h

word_shorter : (t : Token) (text rest : List ℕ) → IsWord t text rest → length rest + cond (is_end t) 0 1 ≤ length text
word_shorter (bool true) text rest h = omega (arith, ap length h.0)
word_shorter (bool false) text rest h = omega (arith, ap length h.0)
word_shorter null text rest h = omega (arith, ap length h.0)
word_shorter _ text rest h = absurd h

run_shorter : (t : Token) (text rest : List ℕ) → IsRunOf t text rest → length rest + cond (is_end t) 0 1 ≤ length text
run_shorter (u64 n) text rest h = omega (arith, IsNumber-shorter text h.0 rest (U64 n) h.1)
run_shorter (i64 n) text rest h = omega (arith, IsNumber-shorter text h.0 rest (I64 n) h.1)
run_shorter (f64 run) text rest h = omega (arith, IsNumber-shorter text run rest Dec h)
run_shorter _ text rest h = absurd h

after_quotes : (inside rest : List ℕ) → length rest + 1 ≤ length (34 ∷ (inside ++ 34 ∷ rest))
after_quotes inside rest = omega (arith, length-append inside (34 ∷ rest))

quoted_shorter : (t : Token) (text rest : List ℕ) → IsQuoted t text rest → length rest + cond (is_end t) 0 1 ≤ length text
quoted_shorter (str bytes) text rest h = subst (λ (l : List ℕ). length rest + 1 ≤ length l) (sym h.1.split) (after_quotes _ rest)
quoted_shorter _ text rest h = absurd h

end_shorter : (t : Token) (text rest : List ℕ) → IsEnd t text rest → length rest + cond (is_end t) 0 1 ≤ length text
end_shorter end text rest h = omega (arith, ap length h.1)
end_shorter _ text rest h = absurd h

lexeme_shorter : (t : Token) (text rest : List ℕ) → IsLexeme t text rest → length rest + cond (is_end t) 0 1 ≤ length text
lexeme_shorter t text rest (punctuator h) = punctuator_shorter t text rest h
lexeme_shorter t text rest (word h) = word_shorter t text rest h
lexeme_shorter t text rest (number s h) = run_shorter t text rest h
lexeme_shorter t text rest (quoted h) = quoted_shorter t text rest h
lexeme_shorter t text rest (nothing h) = end_shorter t text rest h

-- a cut takes a character for each token but the end
pub cut_takes : (text : List ℕ) (t : Token) (rest : List ℕ) → Cut text t rest → length rest + cond (is_end t) 0 1 ≤ length text
cut_takes text t rest h =
    omega (arith, lexeme_shorter t h.body rest h.lexeme, ap length h.split, length-append h.space h.body)
