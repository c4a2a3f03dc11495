-- What one scan comes to, from what the scans inside it come to.
use Rattle.std.proofs.Common.{◌≡◌, ◌≢◌, ℕ, List, true, Result, string_bytes, sym, subst, ap, ◌∙◌}
use Rattle.std.proofs.Common.{◌<◌, ◌≤◌, [], ◌∷◌, ◌++◌, Bool, false, cond, IsUtf8, encode_utf8_all}
use Rattle.std.proofs.Common.{refl, arith, Ok, Err, MatchResult, OnErr, ◌==◌}
use Rattle.std.proofs.lemmas.Bool.{or_parts}
use Rattle.std.proofs.lemmas.Result.{MatchResult-weaker}
use Rattle.std.specs.declared.str.Chars.{Chars}
use Rattle.std.specs.List.{AllByRecursion}
use Rattle.std.proofs.lemmas.Bool.Decides.{nat_tests}
use Rattle.std.proofs.lemmas.Str.{encode_ascii}
use Rattle.nano_text.specs.Place.{remaining, before_nul, held, text_at, Moves, IsInLine}
use Rattle.nano_text.proofs.RemainingText.{remaining_more}
use Rattle.nano_text.proofs.PlaceLaws.{moves_none, moves_append, moves_advance}
use Rattle.nano_text.specs.declared.place.Place.{Place}
use Rattle.nano_grammar.specs.Outcomes.{Position, Stops, StandsBroken}
use Rattle.nano_grammar.proofs.FaultLaws.{broken_there, broken_ended}
use Rattle.nano_ron_tokens.specs.Breaks.{Breaks, BreaksLexeme, BreaksCharacter}
use Rattle.nano_ron_tokens.specs.Cut.{Cut, IsLexeme, is_word}
use Rattle.nano_ron_tokens.specs.Outcomes.{report, position, Reports, Moved, Uncut, NoCapacity}
use Rattle.nano_ron_tokens.specs.Scan.{NotScanned, Scans, Passed, SkipsGaps, starts_gap}
use Rattle.nano_ron_tokens.specs.State.{ended, pending, place_of}
use Rattle.nano_ron_tokens.specs.Token.{Token}
use Rattle.nano_ron_tokens.specs.declared.error.DeRonErr.{DeRonErr}
use Rattle.nano_ron_tokens.specs.declared.scan.Rejection.{Rejection}
use Rattle.nano_ron_tokens.specs.declared.scan.Rejection.TheVariants.{Memory}
use Rattle.nano_ron_tokens.specs.declared.state.DeRonState.{DeRonState}
use Rattle.nano_ron_tokens.specs.declared.token.DeRonTok.TheVariants.{Eof}
use Rattle.nano_ron_tokens.proofs.Calling.{gives_up, fails_ended_there, made_there}
use Rattle.nano_ron_tokens.proofs.Capacity.{by_rejection, outgrows_same}
use Rattle.nano_ron_tokens.proofs.AfterGaps.{lexeme_cut, cut_lexeme, gap_breaks}
use Rattle.nano_ron_tokens.proofs.LexemeKinds.{kind_of, no_token, only_none}
use Rattle.nano_ron_tokens.proofs.Skipping.{first_stops}
use Rattle.nano_text.specs.Characters.{prefix, first_is, is_space}
use Rattle.nano_text.proofs.InLine.{prefix_in_line}
use Rattle.nano_text.proofs.Utf8Prefixes.{CutAfterPrefix, cut_narrow}

-- nothing is passed
pub moved_none : (s : DeRonState) (i : Chars) → Moved s i s i
moved_none s i = moves_none (place_of s) i

-- the state takes over a place that was taken from it and moved on
pub moved_at : (old mid new : DeRonState) (p q : Place) (i j : Chars) → p ≡ place_of old
    → new ≡ record mid { cur = q.cur; line = q.line; col = q.col } → Moves p i q j
    → Moved old i new j
moved_at old mid new p q i j from to h =
    subst (λ (r : Place). Moves (place_of old) i r j) (sym (ap place_of to))
    (subst (λ (r : Place). Moves r i q j) from h)

-- and where its text broke there, it breaks here
pub broken_at : (old mid new : DeRonState) (p q : Place) (i j : Chars) → p ≡ place_of old
    → new ≡ record mid { cur = q.cur; line = q.line; col = q.col } → (breaks : List ℕ → List ℕ → Type 0)
    → breaks (text_at p i) (text_at q j) → breaks (remaining old.cur i) (remaining new.cur j)
broken_at old mid new p q i j from to breaks h =
    subst (λ (c : ℕ). breaks (remaining old.cur i) (remaining c j)) (sym (ap (λ (s : DeRonState). s.cur) to))
    (subst (λ (r : Place). breaks (remaining r.cur i) (text_at q j)) from h)

-- a state that gives up is on the line and column where it stood
stands_failed : (mid new : DeRonState) (j : Chars) {start : Position Token} → new ≡ record mid { tok = Eof; cur = 0 }
    → StandsBroken Breaks start (position mid j) → StandsBroken Breaks start (position new j)
stands_failed mid new j {start} is h =
    subst (λ (p : Position Token). StandsBroken Breaks start p) (sym (gives_up mid new j is)) (broken_ended ended h)

-- an error where a token could not be scanned
pub scan_stops : (old mid new : DeRonState) (i j : Chars) (r : Rejection) (e : DeRonErr)
    → NotScanned Cut Breaks old i mid j r → new ≡ record mid { tok = Eof; cur = 0 }
    → Reports new (r ≢ Memory) e
    → Stops ended (Uncut old i new j) (NoCapacity old (remaining old.cur i)) (position old i) (position new j) (report e)
scan_stops old mid new i j r e h is made = record {
  fails = fails_ended_there mid new j e is (record {
    rejected = λ known.
        let other = made.0 known in
        record {
          none = h.rejected other;
          stands = stands_failed mid new j is (broken_there (h.broken other) h.place);
        };
    made = made_there mid new e is made.1;
    place = moves_advance h.place;
  });
  ended = ap (λ p. p.at) (gives_up mid new j is);
  capacity = by_rejection r old (remaining old.cur i) h.rejected h.capacity;
}

-- tokens of one shape are those of another, and so is where a text breaks
pub scans_as : {A : Type 0} (S R : List ℕ → Token → List ℕ → Type 0) (B D : List ℕ → List ℕ → Type 0)
    (old new : DeRonState) (i j : Chars)
    → ((t : Token) (rest : List ℕ) → S (remaining old.cur i) t rest → R (remaining old.cur i) t rest)
    → ((t : Token) (rest : List ℕ) → R (remaining old.cur i) t rest → S (remaining old.cur i) t rest)
    → ((rest : List ℕ) → B (remaining old.cur i) rest → D (remaining old.cur i) rest)
    → (r : Result A Rejection) → Scans S B old i new j r → Scans R D old i new j r
scans_as S R B D old new i j to from breaks r h =
    MatchResult-weaker r h
    (λ _ x. record { taken = to (pending new) (remaining new.cur j) x.taken; buffers = x.buffers; place = x.place })
    (λ _ x. record {
      rejected = λ known t rest l. x.rejected known t rest (from t rest l);
      broken = λ known. breaks (remaining new.cur j) (x.broken known);
      capacity = λ memory t rest l. x.capacity memory t rest (from t rest l);
      place = x.place;
    })

-- an error of which two things hold
pub both_hold : {A E : Type 0} (P : A → Type 0) (R : E → Type 0) (Q : Type 0) (r : Result A E)
    → MatchResult r P R → OnErr r Q → MatchResult r P (λ e. R e × Q)
both_hold P R Q (Ok x) h k = h
both_hold P R Q (Err e) h k = (h, k)

-- a character that begins no lexeme
pub character_breaks : (cur : ℕ) (i : Chars) → cur ≢ 0 → kind_of cur ≡ no_token
    → BreaksCharacter (remaining cur i) (remaining cur i)
character_breaks cur i some kind = record {
  first = cur;
  after = before_nul (held i);
  is = remaining_more cur i some;
  none = λ t more left h. only_none t (cur ∷ more) left kind h;
  all = refl;
}

-- where no gap begins, no white space does
no_space_there : (text : List ℕ) → first_is starts_gap text ≡ false → first_is is_space text ≡ false
no_space_there [] h = refl
no_space_there (c ∷ cs) h = (or_parts (is_space c) (c == 47) h).0

-- a lexeme after a gap is a token
pub scans_spaced : {A : Type 0} (old mid new : DeRonState) (i j k : Chars) → Passed old i mid j
    → SkipsGaps (remaining old.cur i) (remaining mid.cur j) true
    → (r : Result A Rejection) → Scans (λ text token rest. IsLexeme token text rest) BreaksLexeme mid j new k r
    → Scans Cut Breaks old i new k r
scans_spaced old mid new i j k passed gap r h =
    let from = λ (t : Token) (rest : List ℕ) (l : Cut (remaining old.cur i) t rest).
    cut_lexeme (remaining old.cur i) (remaining mid.cur j) rest t gap.0 (first_stops (remaining mid.cur j) gap.1) l in
    MatchResult-weaker r h
    (λ _ x. record {
      taken = lexeme_cut (remaining old.cur i) (remaining mid.cur j) (remaining new.cur k) (pending new) gap.0 x.taken;
      buffers = record {
        strbuf = λ other. x.buffers.strbuf other ∙ ap (λ b. string_bytes b) passed.strbuf;
        numbuf = λ other. x.buffers.numbuf other ∙ ap (λ b. string_bytes b) passed.numbuf;
        identbuf = λ other. x.buffers.identbuf other ∙ ap (λ b. string_bytes b) passed.identbuf;
      };
      place = moves_append passed.place x.place;
    })
    (λ _ x. record {
      rejected = λ known t rest l. x.rejected known t rest (from t rest l);
      broken = λ known.
          gap_breaks (remaining old.cur i) (remaining mid.cur j) (remaining new.cur k) gap.0
          (no_space_there (remaining mid.cur j) gap.1) (x.broken known);
      capacity = λ memory t rest l. outgrows_same old mid t passed.strbuf passed.numbuf passed.identbuf (x.capacity memory t rest (from t rest l));
      place = moves_append passed.place x.place;
    })

-- ==== runs of a word

narrow : (n : ℕ) → 128 ≤ n → is_word n ≡ false
narrow n h = grind (arith, nat_tests)

-- a text is cut after its prefix of such characters
pub word_cut : (bytes : List ℕ) → IsUtf8 bytes → CutAfterPrefix is_word bytes
word_cut bytes utf8 = cut_narrow is_word narrow bytes utf8

pub word_in_line : (bytes : List ℕ) → AllByRecursion IsInLine (prefix is_word bytes)
word_in_line bytes = prefix_in_line is_word in_line bytes where
  in_line : (b : ℕ) → is_word b ≡ true → IsInLine b
  in_line b h = (grind (arith, nat_tests), grind (arith, nat_tests))

-- its characters are its bytes
pub word_bytes : (text : List ℕ) → encode_utf8_all (prefix is_word text) ≡ prefix is_word text
word_bytes [] = refl
word_bytes (c ∷ cs) = elim (is_word c) as (λ (b : Bool). is_word c ≡ b → encode_utf8_all (cond b (c ∷ prefix is_word cs) []) ≡ cond b (c ∷ prefix is_word cs) []) [
  | true ↦ λ e.
      let small : c < 128 = grind (arith, nat_tests) in
      ap (λ (l : List ℕ). l ++ encode_utf8_all (prefix is_word cs)) (encode_ascii c small) ∙ ap (λ (l : List ℕ). c ∷ l) (word_bytes cs)
  | false ↦ λ e. refl
] refl

-- ==== passing

pub passed_none : (s : DeRonState) (i : Chars) → Passed s i s i
passed_none s i = record { place = moves_none (place_of s) i; tok = refl; strbuf = refl; numbuf = refl; identbuf = refl }

pub passed_next : {old new : DeRonState} {i j : Chars} → Moved old i new j
    → new.tok ≡ old.tok → new.strbuf ≡ old.strbuf → new.numbuf ≡ old.numbuf → new.identbuf ≡ old.identbuf
    → Passed old i new j
passed_next place tok strbuf numbuf identbuf =
    record { place = place; tok = tok; strbuf = strbuf; numbuf = numbuf; identbuf = identbuf }

pub passed_append : {old mid new : DeRonState} {i j k : Chars} → Passed old i mid j → Passed mid j new k → Passed old i new k
passed_append h g = record {
  place = moves_append h.place g.place;
  tok = g.tok ∙ h.tok;
  strbuf = g.strbuf ∙ h.strbuf;
  numbuf = g.numbuf ∙ h.numbuf;
  identbuf = g.identbuf ∙ h.identbuf;
}
