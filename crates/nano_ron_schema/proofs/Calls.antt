-- What the calls of a reader's state come to, where a user-defined type is read.
use Rattle.std.proofs.Common.{◌≡◌, List, Result, Ok, Err, sym, ap, subst, ◌≢◌, ℕ, true, false}
use Rattle.std.proofs.Common.{string_bytes, refl, ◌∙◌, Bool}
use Rattle.std.specs.declared.str.Chars.{Chars}
use Rattle.nano_grammar.specs.Outcomes.{Position, Took, Report, Read, ReadsNoneAndEnds}
use Rattle.nano_grammar.specs.Faults.{Reason, Fault}
use Rattle.nano_grammar.proofs.FaultLaws.{none_ended, nothing_decodes}
use Rattle.nano_grammar.proofs.TokenCalls.{none_in, none_first}
use Rattle.nano_ron_tokens.specs.Breaks.{Breaks}
use Rattle.nano_ron_tokens.specs.Cut.{Cut}
use Rattle.nano_ron_tokens.specs.Outcomes.{position, Keeps, EndsOnError}
use Rattle.nano_ron_tokens.specs.State.{ended, token_of, pending, at, place_of}
use Rattle.nano_ron_tokens.specs.Token.{Token, ident, paren_close, IsIdent}
use Rattle.nano_ron_tokens.specs.declared.error.DeRonErr.{DeRonErr}
use Rattle.nano_ron_tokens.specs.declared.state.DeRonState.{DeRonState}
use Rattle.nano_ron_tokens.proofs.Calling.{gives_up}
use Rattle.nano_ron_schema.specs.Outcomes.{TakesTokens, TakesTokensOrEnds, is_ident}
use Rattle.nano_ron_tokens.specs.declared.token.DeRonTok.{DeRonTok}
use Rattle.nano_ron_tokens.specs.declared.token.DeRonTok.TheVariants.{Ident}
use Rattle.nano_grammar.specs.Tokens.{At, Leaves}
use Rattle.nano_grammar.proofs.TokensLaws.{same_at}
use Rattle.nano_grammar.specs.Variants.{Variants}
use Rattle.nano_grammar.specs.Fields.{HasUnknownName, tokens_of_name, is_known_name}
use Rattle.nano_ron_tokens.proofs.Cuts.{cut_one_way}
use Rattle.nano_ron.specs.Codec.{Encoding}
use Rattle.nano_ron_schema.specs.FieldCodecs.{ident_injective}
use Rattle.nano_ron_schema.specs.Variants.{named}
use Rattle.nano_ron_schema.specs.VariantCodecs.{ron_variants}
use Rattle.nano_text.proofs.PlaceLaws.{moves_none, moves_append}
use Rattle.nano_value.specs.Meaning.{Meaning}
use Rattle.nano_grammar.specs.Choices.{EncodesAfter, has_alone}
use Rattle.nano_grammar.specs.UserOutcomes.{ReadChoice, NoChoice, ReadEnum, NoEnum}
use Rattle.nano_grammar.specs.UserOutcomes.{IsUnknownAt}
use Rattle.nano_grammar.proofs.UserCalls.{content_read, content_not}
use Rattle.nano_ron_schema.specs.Reading.{Closed, Encodings, EncodesVariant, VariantBegins}
use Rattle.nano_ron_schema.proofs.VariantReaders.{choice_reads, choice_leads, name_leads}

-- where nothing changes, the state is where it was
pub still_there : {s t : DeRonState} {i j : Chars} → Keeps s i t j → position t j ≡ position s i
still_there h = λ k. position (h.0 k) (h.1 k)

-- on an error the state is at the end of the text
pub ended_take : {A V : Type 0} {mid new : DeRonState} {read result : Result A DeRonErr} (tokens : A → List Token)
    (none : List Token → V → Type 0) (start : Position Token) (j : Chars) → EndsOnError mid new read result
    → TakesTokens tokens none start (position mid j) read
    → TakesTokensOrEnds tokens none start (position new j) result
ended_take {mid = mid} {new} {read = Ok x} tokens none start j h k =
    subst (λ (r : Result _ DeRonErr). TakesTokensOrEnds tokens none start (position new j) r) (sym h.same)
    (subst (λ (s : DeRonState). Took Cut (Unit {0}) start (position s j) (tokens x)) (sym h.state) k)
ended_take {mid = mid} {new} {read = Err e} tokens none start j h k =
    let up = gives_up mid new j h.state in
    subst (λ (r : Result _ DeRonErr). TakesTokensOrEnds tokens none start (position new j) r) (sym h.same)
    (record { fails = none_ended Cut none ended up k; ended = ap (λ (p : Position Token). p.at) up })

-- ==== the pending token

name_is : (tok : DeRonTok) (strbuf numbuf identbuf : List ℕ)
    → IsIdent (token_of tok strbuf numbuf identbuf)
    → token_of tok strbuf numbuf identbuf ≡ ident identbuf
name_is Ident strbuf numbuf identbuf h = refl
name_is _ strbuf numbuf identbuf h = absurd h

is_name : (t : Token) → is_ident t ≡ true → IsIdent t
is_name (ident name) h = tt
is_name _ h = cc h

pub pending_name : (s : DeRonState) → IsIdent (pending s)
    → pending s ≡ ident (string_bytes s.identbuf)
pending_name s h =
    name_is s.tok (string_bytes s.strbuf) (string_bytes s.numbuf) (string_bytes s.identbuf) h

pub name_pending : (s : DeRonState) → is_ident (pending s) ≡ true
    → pending s ≡ ident (string_bytes s.identbuf)
name_pending s h = pending_name s (is_name (pending s) h)

-- a name is no closing bracket
pub name_goes_on : (t : Token) → is_ident t ≡ true → t ≢ paren_close
name_goes_on t h e = let x = sym (ap is_ident e) ∙ h in cc x

pub no_name_pending : (t : Token) → is_ident t ≡ false → (name : List ℕ) → t ≢ ident name
no_name_pending t h name e = let x = sym (ap is_ident e) ∙ h in cc x

-- ==== unknown names

-- a name stands in one way, with content after it or without
one_way : (start after : At Token) (stood : Bool) (name : List ℕ)
    → Leaves Cut (tokens_of_name ron_variants stood name) start after
    → Leaves Cut (named name) start after
one_way start after true name l = l
one_way start after false name l = l

stands_so : (start after : At Token) (alone : Bool) (name : List ℕ)
    → Leaves Cut (named name) start after
    → Leaves Cut (tokens_of_name ron_variants alone name) start after
stands_so start after true name l = l
stands_so start after false name l = l

module _ (vs : Variants Encoding) (start : At Token)
    (unknown : HasUnknownName ron_variants vs start) where
  stands : Leaves Cut (named unknown.name) start unknown.after
  stands = one_way start unknown.after unknown.stood unknown.name unknown.stands

  -- it can be taken
  pub name_begins : (here : At Token) (reason : Reason Cut here) → Fault Cut VariantBegins start here reason → ⊥
  name_begins here reason f =
      nothing_decodes Cut VariantBegins cut_one_way start here reason f unknown.name
      (named unknown.name, unknown.after, refl, stands)

  -- it is the one that was taken
  pub name_taken : (read : List ℕ) (mid : At Token) → Leaves Cut (named read) start mid
      → (read ≡ unknown.name) × (mid ≡ unknown.after)
  name_taken read mid taken =
      let k = stands in
      let next = same_at Cut cut_one_way start.text taken.1.0 k.1.0 taken.1.1 k.1.1 in (
        ident_injective read unknown.name (taken.0 ∙ sym k.0),
        sym taken.1.2 ∙ (next ∙ k.1.2),
      )

  -- no variant has it, with content or without
  pub name_unknown : (alone : Bool) → is_known_name vs alone unknown.name ≡ false
  name_unknown alone =
      unknown.unknown alone (stands_so start unknown.after alone unknown.name stands)

-- ==== calls that read a choice of variants

-- ---- nothing comes after content

module _ {S : List Token → Meaning → Type 0} {start end : Position Token} where
  pub closed_read : {m : Meaning} → Read Cut S start end m → Read Cut (Closed S) start end m
  closed_read h =
      content_read ron_variants S {same_buffers = Unit {0}} {mid = end} h
      (record { taken = refl; buffers = tt; place = moves_none end.place end.input })

  pub closed_not : {e : Report} → ReadsNoneAndEnds Cut Breaks S start end ended e
      → ReadsNoneAndEnds Cut Breaks (Closed S) start end ended e
  closed_not h = content_not ron_variants S h

-- ---- a name, and what comes after it

module _ (vs : Encodings) (old : DeRonState) (i : Chars) where
  -- no name stands here
  pub name_not : {end : Position Token} {e : Report}
      → ReadsNoneAndEnds Cut Breaks VariantBegins (position old i) end ended e
      → NoEnum ron_variants vs (position old i) end ended e
  name_not h = record {
    none = record {
      fails = none_first Cut (EncodesVariant vs) VariantBegins (name_leads vs (pending old)) h.fails;
      ended = h.ended;
    };
    unknown = λ u known.
        let f = h.fails.rejected known in
        absurd (name_begins vs (at old i) u f.here.at f.reason f.fault);
  }

  module _ (mid : DeRonState) (j : Chars) (name : List ℕ)
      (took : Took Cut (Unit {0}) (position old i) (position mid j) (named name)) (alone : Bool) where
    pub enum_read : {end : Position Token} {m : ℕ → Meaning} → ReadChoice ron_variants vs alone name (position mid j) end m
        → ReadEnum ron_variants vs (position old i) end (m 0)
    enum_read {end} {m} h = record {
      read = record {
        decodes = choice_reads vs name (at old i) (at mid j) took.taken alone end.at (m 0) (h.decodes 0);
        place = moves_append took.place h.place;
      };
      known = λ u.
          let same = (name_taken vs (at old i) u name (at mid j) took.taken).0 in
          h.known (ap (is_known_name vs alone) same ∙ name_unknown vs (at old i) u alone);
    }

    pub enum_not : {end : Position Token} {e : Report} → alone ≡ has_alone vs name
        → NoChoice ron_variants vs alone name (position mid j) end ended e
        → NoEnum ron_variants vs (position old i) end ended e
    enum_not {end} {e} stood h = record {
      none = record {
        fails = none_in Cut (EncodesVariant vs) (EncodesAfter ron_variants 0 vs alone name) (named name)
            (choice_leads vs name (pending mid) alone stood) took.taken took.place (h.none 0).fails;
        ended = (h.none 0).ended;
      };
      unknown = λ u _.
          let same = name_taken vs (at old i) u name (at mid j) took.taken in
          let none = ap (is_known_name vs alone) same.0 ∙ name_unknown vs (at old i) u alone in
          record {
            place = place_of mid;
            input = j;
            text = ap (λ (a : At Token). a.text) (sym same.1);
            moved = took.place;
            error = subst (λ (bytes : List ℕ). IsUnknownAt (place_of mid) bytes e) same.0 (h.unknown none);
          };
    }
