-- What a call comes to that passes over a field, from what the calls inside it come to.
use Rattle.std.proofs.Common.{◌≡◌, ◌≢◌, ℕ, List, [], ◌∷◌, ◌++◌, inl, inr, refl, ap, sym, ◌∙◌, subst}
use Rattle.std.proofs.Common.{append_assoc, true, false}
use Rattle.std.specs.declared.str.Chars.{Chars}
use Rattle.nano_text.specs.Place.{remaining}
use Rattle.nano_text.proofs.PlaceLaws.{moves_append, moves_none}
use Rattle.nano_grammar.proofs.FaultLaws.{LeadsTo, wrong_in, stopped_here}
use Rattle.nano_grammar.proofs.TokenCalls.{fails_as, fails_after, none_first}
use Rattle.nano_grammar.specs.Tokens.{Leaves}
use Rattle.nano_grammar.specs.Outcomes.{Report, GoesWrong, TookNext, Stops, RejectsToken, ReadsNoneAndEnds}
use Rattle.nano_ron_tokens.specs.Token.{Token, ident, paren_open, IsIdent}
use Rattle.nano_ron_tokens.specs.Breaks.{Breaks}
use Rattle.nano_ron_tokens.specs.Cut.{Cut}
use Rattle.nano_ron_tokens.specs.Outcomes.{position, Keeps, Uncut, NoCapacity}
use Rattle.nano_ron_tokens.specs.Scan.{is_scalar, is_opening}
use Rattle.nano_ron_tokens.specs.Skipped.{SkippedField, IsBracketed, Brackets, Skips, SkipsBefore}
use Rattle.nano_ron_tokens.specs.Skipped.{NoField, TookField, TookBrackets, BeginsField, IsScalar}
use Rattle.nano_ron_tokens.specs.Skipped.{NoCapacityAfter}
use Rattle.nano_ron_tokens.specs.State.{at, ended, pending, KeepsOtherBuffers}
use Rattle.nano_ron_tokens.specs.declared.state.DeRonState.{DeRonState}
use Rattle.nano_grammar.proofs.BracketLaws.{bracket_not_one}
use Rattle.nano_ron_tokens.proofs.BracketCounts.{brackets, word_first, skipped_bracket}
use Rattle.nano_ron_tokens.proofs.BracketCounts.{skipped_some, ends_other, ends_word}
use Rattle.nano_ron_tokens.proofs.BracketTokens.{word_is, word_scalar, opening_one}
use Rattle.nano_ron_tokens.proofs.BracketTokens.{opens_content}
use Rattle.nano_ron_tokens.proofs.Cuts.{cut_one_way}

-- ---- where no field stands

-- a field before another token is a field
field_leads : (pending : Token) → LeadsTo SkipsBefore Skips [] pending
field_leads pending us more rest next v h is =
    let joined = ap (λ (xs : List Token). xs ++ next ∷ more) (sym h.are) ∙ is in
    let apart = append_assoc h.field (h.next ∷ []) (next ∷ more) in
    (h.field, tt, h.next, next ∷ more, h.skipped, sym apart ∙ joined)

-- where a word is pending and a parenthesis opens after it, a field before another token goes on
-- with brackets
pub content_leads : (name : List ℕ) → LeadsTo SkipsBefore Brackets (ident name ∷ []) paren_open
content_leads name us more rest next v h is =
    let joined = ap (λ (xs : List Token). xs ++ next ∷ more) (sym h.are) ∙ is in
    let apart = append_assoc h.field (h.next ∷ []) (next ∷ more) in
    with_field h.field h.next (next ∷ more) h.skipped h.other (sym apart ∙ joined) where
      with_field : (field : List Token) (n : Token) (ns : List Token) → SkippedField field → n ≢ paren_open
          → field ++ n ∷ ns ≡ ident name ∷ (paren_open ∷ rest)
          → (xs : List Token) × (w : Unit {0}) × (u : Token) × (left : List Token) × IsBracketed xs
          × (xs ++ u ∷ left ≡ paren_open ∷ rest)
      with_field field n ns (inl k) other e =
          let x = sym (ap (λ (xs : List Token). xs ++ n ∷ ns) k.1) ∙ e in
          let same : n ≡ paren_open = cc x in absurd (other same)
      with_field field n ns (inr (inl b)) other e =
          let x = sym (ap (λ (xs : List Token). xs ++ n ∷ ns) b.are) ∙ e in
          let same : b.first ≡ ident name = cc x in absurd (word_first name b.first same b.opening)
      with_field field n ns (inr (inr k)) other e =
          let x = sym (ap (λ (xs : List Token). xs ++ n ∷ ns) k.are) ∙ e in
          let same : (paren_open ∷ k.following) ++ n ∷ ns ≡ paren_open ∷ rest = cc x in
          (paren_open ∷ k.following, tt, n, ns, k.content, same)

-- so the one or the other reason says that none stands there before another token
pub none_before_other : (old new : DeRonState) (i j : Chars) → NoField old i new j
    → GoesWrong Cut Breaks SkipsBefore (position old i) (position new j)
none_before_other old new i j (inl w) =
    let start = position old i in
    wrong_in Cut SkipsBefore Skips [] (field_leads start.at.token) refl (moves_none start.place start.input) w
none_before_other old new i j (inr w) =
    wrong_in Cut SkipsBefore Brackets (ident w.name ∷ [])
    (subst (LeadsTo SkipsBefore Brackets (ident w.name ∷ [])) (sym w.opening) (content_leads w.name)) w.word w.place w.content

-- ---- calls

-- the call is rejected where no field stands
abbrev pub RejectsField : DeRonState → Chars → DeRonState → Chars → Report → Type 0
RejectsField old i new j e = RejectsToken ended (BeginsField (pending old)) (NoField old i new j)
    (is_scalar (pending old) ≡ true → NoCapacityAfter old (remaining old.cur i))
    (Keeps old i new j) (position old i) (position new j) e

module _ (old new : DeRonState) (i j : Chars) where
  -- one token
  pub one_taken : IsScalar (pending old)
      → ((more : List Token) → SkippedField ((pending old ∷ []) ++ pending new ∷ more) → ⊥)
      → TookNext Cut (KeepsOtherBuffers old new) (position old i) (position new j)
      → TookField old i new j (pending old ∷ [])
  one_taken scalar whole h = record {
    skipped = inl (pending old, refl, scalar);
    took = record {
      taken = (refl, (at new j, h.taken, refl));
      buffers = λ _. h.buffers;
      place = h.place;
    };
    whole = whole;
  }

  -- with which nothing goes on where it is no word, and else with an opening parenthesis
  pub other_taken : IsScalar (pending old) → (IsIdent (pending old) → ⊥)
      → TookNext Cut (KeepsOtherBuffers old new) (position old i) (position new j)
      → TookField old i new j (pending old ∷ [])
  other_taken scalar other h =
      one_taken scalar
      (λ more k. ends_other (pending old ∷ []) more (pending new) (inl (pending old, refl, scalar)) (λ name e.
      let same : pending old ≡ ident name = cc e in
      other (subst IsIdent (sym same) tt)) k) h

  pub word_taken : IsIdent (pending old) → pending new ≢ paren_open
      → TookNext Cut (KeepsOtherBuffers old new) (position old i) (position new j)
      → TookField old i new j (pending old ∷ [])
  word_taken word other h =
      let scalar = word_scalar (pending old) word in
      one_taken scalar
      (λ more k. ends_word (pending old ∷ []) more (pending new) (inl (pending old, refl, scalar)) other k) h

  -- no token is cut after it
  pub one_not : {e : Report} → IsScalar (pending old)
      → Stops ended (Uncut old i new j) (NoCapacity old (remaining old.cur i)) (position old i) (position new j) e
      → RejectsField old i new j e
  one_not scalar h = record {
    fails = fails_as (λ w. inl w) (stopped_here Cut Skips refl (λ _. skipped_some) h.fails);
    unchanged = λ other. absurd (other (inl scalar));
    ended = λ _. h.ended;
    capacity = λ _ _ t rest cut _. h.capacity t rest cut;
  }

  -- brackets
  pub brackets_taken : (ts : List Token) → TookBrackets old i new j ts → TookField old i new j ts
  brackets_taken ts h =
      let skipped : SkippedField ts = inr (inl h.0) in
      record {
        skipped = skipped;
        took = record {
          taken = h.1.taken;
          buffers = λ e. absurd (bracket_not_one brackets ts (pending old) h.0 e);
          place = h.1.place;
        };
        whole = λ more k.
            ends_other ts more (pending new) skipped (λ name e. bracket_not_one brackets ts (ident name) h.0 e) k;
      }

  pub brackets_not : {e : Report} → is_scalar (pending old) ≡ false → is_opening (pending old) ≡ true
      → ReadsNoneAndEnds Cut Breaks Brackets (position old i) (position new j) ended e
      → RejectsField old i new j e
  brackets_not other opening h = record {
    fails = fails_as (λ w. inl w)
        (none_first Cut Skips Brackets (skipped_bracket (pending old) opening) h.fails);
    unchanged = λ none. absurd (none (inr (opening_one (pending old) opening)));
    ended = λ _. h.ended;
    capacity = λ _ is. (let e = sym is ∙ other in cc e);
  }

module _ (old mid new : DeRonState) (i j k : Chars) (word : IsIdent (pending old))
    (opening : pending mid ≡ paren_open)
    (h : TookNext Cut (KeepsOtherBuffers old mid) (position old i) (position mid j)) where
  -- a word with content
  pub content_taken : (ts : List Token) → TookBrackets mid j new k ts
      → TookField old i new k (pending old ∷ ts)
  content_taken ts x =
      let named = word_is (pending old) word in
      let first = (subst (λ (us : List Token). Leaves Cut us (at mid j) (at new k)) x.0.are x.1.taken).0 in
      let opened = x.0.are ∙ ap (λ (t : Token). t ∷ x.0.following) (first ∙ opening) in
      let skipped : SkippedField (pending old ∷ ts) = inr (inr (record {
        name = named.0;
        following = x.0.following;
        are = ap (λ (t : Token). t ∷ ts) named.1 ∙ ap (λ (us : List Token). ident named.0 ∷ us) opened;
        content = subst IsBracketed opened x.0;
      })) in
      record {
        skipped = skipped;
        took = record {
          taken = (refl, (at mid j, h.taken, x.1.taken));
          buffers = λ e. absurd (not_alone ts opened e);
          place = moves_append h.place x.1.place;
        };
        whole = λ more l.
            ends_other (pending old ∷ ts) more (pending new) skipped (λ name e. not_alone ts opened e) l;
      } where
        not_alone : {t u : Token} {us : List Token} (ts : List Token) → ts ≡ paren_open ∷ us → t ∷ ts ≡ u ∷ [] → ⊥
        not_alone ts opened e = let rest : ts ≡ [] = cc e in let x = sym opened ∙ rest in cc x

  -- whose content goes wrong
  pub content_not : {e : Report}
      → ReadsNoneAndEnds Cut Breaks Brackets (position mid j) (position new k) ended e
      → RejectsField old i new k e
  content_not x =
      let named = word_is (pending old) word in
      record {
        fails = fails_after (λ w. inr (record {
          name = named.0;
          middle = position mid j;
          word = (sym named.1, (at mid j, h.taken, refl));
          opening = opening;
          place = h.place;
          content = w;
        })) h.place x.fails;
        unchanged = λ none. absurd (none (inl (word_scalar (pending old) word)));
        ended = λ _. x.ended;
        capacity = λ _ _ t rest cut none.
            let same = (cut_one_way (remaining old.cur i) t (pending mid) rest (remaining mid.cur j) cut h.taken).0 in
            absurd (none (opens_content (pending old) t word (same ∙ opening)));
      }
