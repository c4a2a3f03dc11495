-- What one scan comes to, from what the scans inside it come to.
use Rattle.std.proofs.Common.{◌≡◌, ◌≢◌, ℕ, List, Result, string_bytes, sym, subst, ap, ◌∙◌, [], ◌∷◌}
use Rattle.std.proofs.Common.{encode_utf8_all, refl, None, false}
use Rattle.std.proofs.lemmas.Result.{MatchResult-weaker}
use Rattle.std.specs.declared.str.Chars.{Chars}
use Rattle.nano_text.specs.Place.{remaining, before_nul, held, text_at, Moves}
use Rattle.nano_text.proofs.PlaceLaws.{moves_none, moves_append, moves_advance}
use Rattle.nano_text.specs.declared.place.Place.{Place}
use Rattle.nano_grammar.specs.Outcomes.{Position, Stops, StandsBroken}
use Rattle.nano_grammar.proofs.FaultLaws.{broken_there, broken_ended}
use Rattle.nano_text.specs.Characters.{is_space}
use Rattle.nano_json_tokens.specs.Breaks.{Breaks, BreaksLexeme, BreaksWord, BreaksCharacter}
use Rattle.nano_json_tokens.specs.Cut.{Cut, IsLexeme, is_word, quoted}
use Rattle.nano_json_tokens.specs.Outcomes.{report, position, Reports, Moved, Uncut}
use Rattle.nano_json_tokens.specs.Outcomes.{NoCapacity}
use Rattle.nano_json_tokens.specs.Scan.{NotScanned, Scans, PassedSpace, word_token}
use Rattle.nano_json_tokens.specs.State.{ended, pending, place_of}
use Rattle.nano_json_tokens.specs.Token.{Token, str, colon}
use Rattle.nano_json_tokens.specs.declared.error.DeJsonErr.{DeJsonErr}
use Rattle.nano_json_tokens.specs.declared.scan.Rejection.{Rejection}
use Rattle.nano_json_tokens.specs.declared.scan.Rejection.TheVariants.{Memory}
use Rattle.nano_json_tokens.specs.declared.state.DeJsonState.{DeJsonState}
use Rattle.nano_json_tokens.specs.declared.token.DeJsonTok.TheVariants.{Eof}
use Rattle.nano_json_tokens.proofs.Calling.{gives_up, fails_ended_there, made_there}
use Rattle.nano_json_tokens.proofs.Capacity.{by_rejection, outgrows_same}
use Rattle.nano_json_tokens.proofs.Cuts.{lexeme_cut, cut_lexeme, punctuator_cut, word_prefix}
use Rattle.nano_json_tokens.proofs.LexemeKinds.{kind_of, no_token, only_none}
use Rattle.nano_text.proofs.Prefixes.{prefix_split, prefix_all, after_stop}
use Rattle.nano_text.specs.Characters.{prefix, following}
use Rattle.nano_text.specs.String.{IsString, IsPlainString}
use Rattle.nano_text.proofs.PlainStrings.{plain_is_string}
use Rattle.nano_text.proofs.RemainingText.{remaining-first, remaining_more}
use Rattle.nano_text.proofs.Strings.{IsString-unique}
use Rattle.nano_grammar.specs.Tokens.{Leaves}

-- nothing is passed
pub moved_none : (s : DeJsonState) (i : Chars) → Moved s i s i
moved_none s i = moves_none (place_of s) i

-- the state takes over a place that was taken from it and moved on
pub moved_at : (old mid new : DeJsonState) (p q : Place) (i j : Chars) → p ≡ place_of old
    → new ≡ record mid { cur = q.cur; line = q.line; col = q.col } → Moves p i q j
    → Moved old i new j
moved_at old mid new p q i j from to h =
    subst (λ (r : Place). Moves (place_of old) i r j) (sym (ap place_of to))
    (subst (λ (r : Place). Moves r i q j) from h)

-- and where its text broke there, it breaks here
pub broken_at : (old mid new : DeJsonState) (p q : Place) (i j : Chars) → p ≡ place_of old
    → new ≡ record mid { cur = q.cur; line = q.line; col = q.col } → (breaks : List ℕ → List ℕ → Type 0)
    → breaks (text_at p i) (text_at q j) → breaks (remaining old.cur i) (remaining new.cur j)
broken_at old mid new p q i j from to breaks h =
    subst (λ (c : ℕ). breaks (remaining old.cur i) (remaining c j)) (sym (ap (λ (s : DeJsonState). s.cur) to))
    (subst (λ (r : Place). breaks (remaining r.cur i) (text_at q j)) from h)

-- a state that gives up is on the line and column where it stood
stands_failed : (mid new : DeJsonState) (j : Chars) {start : Position Token} → new ≡ record mid { tok = Eof; cur = 0 }
    → StandsBroken Breaks start (position mid j) → StandsBroken Breaks start (position new j)
stands_failed mid new j {start} is h =
    subst (λ (p : Position Token). StandsBroken Breaks start p) (sym (gives_up mid new j is)) (broken_ended ended h)

-- an error where a token could not be scanned
pub scan_stops : (old mid new : DeJsonState) (i j : Chars) (r : Rejection) (e : DeJsonErr)
    → NotScanned Cut Breaks old i mid j r → new ≡ record mid { tok = Eof; cur = 0 }
    → Reports new (r ≢ Memory) e
    → Stops ended (Uncut old i new j) (NoCapacity old (remaining old.cur i)) (position old i) (position new j) (report e)
scan_stops old mid new i j r e h is made = record {
  fails = fails_ended_there mid new j e is (record {
    rejected = λ known.
        let other = made.0 known in
        record {
          none = h.rejected other;
          stands = stands_failed mid new j is (broken_there (h.broken other) h.place);
        };
    made = made_there mid new e is made.1;
    place = moves_advance h.place;
  });
  ended = ap (λ p. p.at) (gives_up mid new j is);
  capacity = by_rejection r old (remaining old.cur i) h.rejected h.capacity;
}

-- tokens of one shape are those of another, and so is where a text breaks
pub scans_as : {A : Type 0} (S R : List ℕ → Token → List ℕ → Type 0) (B D : List ℕ → List ℕ → Type 0)
    (old new : DeJsonState) (i j : Chars)
    → ((t : Token) (rest : List ℕ) → S (remaining old.cur i) t rest → R (remaining old.cur i) t rest)
    → ((t : Token) (rest : List ℕ) → R (remaining old.cur i) t rest → S (remaining old.cur i) t rest)
    → ((rest : List ℕ) → B (remaining old.cur i) rest → D (remaining old.cur i) rest)
    → (r : Result A Rejection) → Scans S B old i new j r → Scans R D old i new j r
scans_as S R B D old new i j to from breaks r h =
    MatchResult-weaker r h
    (λ _ x. record { taken = to (pending new) (remaining new.cur j) x.taken; buffers = x.buffers; place = x.place })
    (λ _ x. record {
      rejected = λ known t rest l. x.rejected known t rest (from t rest l);
      broken = λ known. breaks (remaining new.cur j) (x.broken known);
      capacity = λ memory t rest l. x.capacity memory t rest (from t rest l);
      place = x.place;
    })

-- what begins with no lexeme after white space begins with no token
pub lexeme_breaks : (text rest : List ℕ) → BreaksLexeme (following is_space text) rest → Breaks text rest
lexeme_breaks text rest h =
    let s = prefix_split is_space text in
    record { space = prefix is_space text; body = following is_space text; split = s.0; skipped = s.1; ends = s.2; lexeme = h }

-- and after the white space of what breaks comes what follows all white space
pub breaks_lexeme : (text rest : List ℕ) → Breaks text rest → BreaksLexeme (following is_space text) rest
breaks_lexeme text rest h =
    let all = prefix_all is_space h.space h.body h.skipped h.ends in
    subst (λ (body : List ℕ). BreaksLexeme body rest) (sym (ap (following is_space) h.split ∙ all.1)) h.lexeme

-- white space that was passed changes no place where a text breaks
pub breaks_spaced : (text after : List ℕ) → after ≡ following is_space text → (rest : List ℕ)
    → Breaks after rest → Breaks text rest
breaks_spaced text after is rest h =
    let still : following is_space after ≡ following is_space text =
    ap (following is_space) is ∙ after_stop is_space (following is_space text) (prefix_split is_space text).2 in
    lexeme_breaks text rest (subst (λ (l : List ℕ). BreaksLexeme l rest) still (breaks_lexeme after rest h))

-- a word that is no token
pub word_breaks : (text : List ℕ) → word_token (prefix is_word text) ≡ None → BreaksWord text (following is_word text)
word_breaks text none =
    let s = prefix_split is_word text in
    record {
      word = prefix is_word text;
      letters = s.1;
      is = (s.0, s.2);
      none = λ t h. let both = sym none ∙ (word_prefix t text (following is_word text) h).0 in cc both;
    }

-- a character that begins no lexeme
pub character_breaks : (cur : ℕ) (i : Chars) → cur ≢ 0 → kind_of cur ≡ no_token → is_word cur ≡ false
    → BreaksCharacter (remaining cur i) (remaining cur i)
character_breaks cur i some kind no_word = record {
  first = cur;
  after = before_nul (held i);
  is = remaining_more cur i some;
  none = λ t more left h. only_none t (cur ∷ more) left kind h;
  no_word = no_word;
  all = refl;
}

-- a lexeme after white space is a token
pub scans_spaced : {A : Type 0} (old mid new : DeJsonState) (i j k : Chars) → PassedSpace old i mid j
    → (r : Result A Rejection) → Scans (λ text token rest. IsLexeme token text rest) BreaksLexeme mid j new k r
    → Scans Cut Breaks old i new k r
scans_spaced old mid new i j k space r h =
    let from = λ (t : Token) (rest : List ℕ) (l : Cut (remaining old.cur i) t rest).
    subst (λ (text : List ℕ). IsLexeme t text rest) (sym space.rest) (cut_lexeme (remaining old.cur i) t rest l) in
    MatchResult-weaker r h
    (λ _ x. record {
      taken = lexeme_cut (remaining old.cur i) (pending new) (remaining new.cur k)
          (subst (λ (text : List ℕ). IsLexeme (pending new) text (remaining new.cur k)) space.rest x.taken);
      buffers = record {
        strbuf = λ other. x.buffers.strbuf other ∙ ap (λ b. string_bytes b) space.strbuf;
        numbuf = λ other. x.buffers.numbuf other ∙ ap (λ b. string_bytes b) space.numbuf;
        identbuf = λ other. x.buffers.identbuf other ∙ ap (λ b. string_bytes b) space.identbuf;
      };
      place = moves_append space.place x.place;
    })
    (λ _ x. record {
      rejected = λ known t rest l. x.rejected known t rest (from t rest l);
      broken = λ known.
          lexeme_breaks (remaining old.cur i) (remaining new.cur k)
          (subst (λ (text : List ℕ). BreaksLexeme text (remaining new.cur k)) space.rest (x.broken known));
      capacity = λ memory t rest l. outgrows_same old mid t space.strbuf space.numbuf space.identbuf (x.capacity memory t rest (from t rest l));
      place = moves_append space.place x.place;
    })

-- ==== a name that stands ahead

-- the name is cut after white space, and then the colon
pub name_ahead : (text string left last characters name : List ℕ) (pending : Token) → string ≡ following is_space text
    → IsString string characters left → left ≡ 58 ∷ last → name ≡ encode_utf8_all characters
    → Leaves Cut (pending ∷ (str name ∷ [])) (record { token = pending; text = text }) (record { token = colon; text = last })
name_ahead text string left last characters name pending spaced is left_is bytes =
    let lexeme : IsLexeme (str name) (following is_space text) (58 ∷ last) =
    subst (λ (l : List ℕ). IsLexeme (str name) l (58 ∷ last)) spaced
    (quoted (characters, subst (IsString string characters) left_is is, bytes)) in (
      refl,
      (
        record { token = str name; text = 58 ∷ last },
        lexeme_cut text (str name) (58 ∷ last) lexeme,
        (refl, (record { token = colon; text = last }, punctuator_cut 58 last colon refl, refl)),
      ),
    )

-- where a string was taken, and a name with its colon stands there, the colon is the next character
pub colon_ahead : (cur : ℕ) (i : Chars) (text string characters name rest : List ℕ) → string ≡ text
    → IsString string characters (remaining cur i) → IsPlainString text name (58 ∷ rest) → cur ≡ 58
colon_ahead cur i text string characters name rest same taken ahead =
    let plain = plain_is_string text name (58 ∷ rest) ahead in
    let here = subst (λ (l : List ℕ). IsString l characters (remaining cur i)) same taken in
    remaining-first cur 58 i rest (IsString-unique text characters plain.0 (remaining cur i) (58 ∷ rest) here plain.1).1
