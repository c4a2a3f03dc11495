-- What the calls that take tokens of a user-defined type come to.
use Rattle.std.proofs.Common.{◌≡◌, ℕ, List, [], ◌∷◌, Result, Ok, Err, refl, sym, ap, subst, ◌≢◌}
use Rattle.std.proofs.Common.{true, false, inl, inr, string_bytes, ◌∙◌, Bool, ◌++◌}
use Rattle.std.specs.declared.str.Chars.{Chars}
use Rattle.nano_text.specs.Place.{remaining, text_at, Advances, Moves}
use Rattle.nano_text.proofs.PlaceLaws.{moves_append, moves_none}
use Rattle.nano_grammar.specs.Outcomes.{Position, Report, Fails, TookNext, Took, ReadsNone, StandsAt}
use Rattle.nano_grammar.specs.Outcomes.{ReadsNoneAndEnds, GoesWrong as GoesWrongBy, IsMadeAt}
use Rattle.nano_grammar.specs.Outcomes.{Uncut}
use Rattle.nano_grammar.specs.Faults.{NothingCut, AreTokens, Reason, wrong, uncut, MayFollow, NoneBegins, Fault}
use Rattle.nano_grammar.proofs.FaultLaws.{goes_wrong, stopped_here, uncut_token, none_ended}
use Rattle.nano_grammar.proofs.FaultLaws.{nothing_decodes, uncut_from}
use Rattle.nano_grammar.proofs.TokenCalls.{fails_here, none_in, none_first}
use Rattle.nano_json_tokens.specs.Breaks.{Breaks}
use Rattle.nano_json_tokens.specs.Cut.{Cut}
use Rattle.nano_json_tokens.specs.Outcomes.{report, position, Keeps}
use Rattle.nano_json_tokens.specs.Outcomes.{EndsOnError, TookText, LacksText}
use Rattle.nano_json_tokens.specs.State.{at, ended, pending, place_of, token_of}
use Rattle.nano_json_tokens.specs.Skipped.{SkippedField}
use Rattle.nano_json_tokens.specs.Token.{Token, str, colon, IsStr, curly_close, curly_open}
use Rattle.nano_json_tokens.specs.declared.error.DeJsonErr.{DeJsonErr}
use Rattle.nano_json_tokens.specs.declared.state.DeJsonState.{DeJsonState}
use Rattle.nano_json_tokens.proofs.Calling.{gives_up}
use Rattle.nano_json_schema.specs.FieldCodecs.{nothing_after}
use Rattle.nano_json_schema.specs.Outcomes.{TakesTokens, TakesTokensOrEnds, is_str}
use Rattle.nano_json_tokens.specs.declared.token.DeJsonTok.{DeJsonTok}
use Rattle.nano_json_tokens.specs.declared.token.DeJsonTok.TheVariants.{Str}
use Rattle.nano_grammar.specs.Tokens.{At, Leaves}
use Rattle.nano_grammar.proofs.TokensLaws.{same_at}
use Rattle.nano_grammar.specs.Variants.{Variants}
use Rattle.nano_grammar.specs.Fields.{HasUnknownName, tokens_of_name, is_known_name}
use Rattle.nano_json_tokens.proofs.ScalarsLaws.{str_injective}
use Rattle.nano_json_tokens.proofs.Cuts.{cut_one_way}
use Rattle.nano_json.specs.Codec.{Encoding}
use Rattle.nano_json_schema.specs.Variants.{is_alone, bytes_of}
use Rattle.nano_json_schema.specs.Reading.{name_tokens, VariantBegins, AloneName, AKey, Encodings}
use Rattle.nano_json_schema.specs.Reading.{EncodesVariant}
use Rattle.nano_json_schema.specs.VariantCodecs.{json_variants}
use Rattle.nano_json_schema.specs.declared.variants.VariantName.{VariantName}
use Rattle.nano_json_schema.specs.declared.variants.VariantName.TheVariants.{Unit as Alone}
use Rattle.nano_json_schema.specs.declared.variants.VariantName.TheVariants.{Content as Opened}
use Rattle.nano_json_schema.proofs.VariantReaders.{after_opened, choice_reads, choice_leads}
use Rattle.nano_json_schema.proofs.VariantReaders.{name_leads, After}
use Rattle.nano_value.specs.Meaning.{Meaning}
use Rattle.nano_grammar.specs.UserOutcomes.{ReadChoice, NoChoice, ReadEnum, NoEnum, IsUnknownAt}

-- where nothing changes, the state is where it was
pub still_there : {s t : DeJsonState} {i j : Chars} → Keeps s i t j → position t j ≡ position s i
still_there h = λ k. position (h.0 k) (h.1 k)

-- on an error the state is at the end of the text
pub ended_take : {A V : Type 0} {mid new : DeJsonState} {read result : Result A DeJsonErr} (tokens : A → List Token)
    (none : List Token → V → Type 0) (start : Position Token) (j : Chars) → EndsOnError mid new read result
    → TakesTokens tokens none start (position mid j) read
    → TakesTokensOrEnds tokens none start (position new j) result
ended_take {mid = mid} {new} {read = Ok x} tokens none start j h k =
    subst (λ (r : Result _ DeJsonErr). TakesTokensOrEnds tokens none start (position new j) r) (sym h.same)
    (subst (λ (s : DeJsonState). Took Cut (Unit {0}) start (position s j) (tokens x)) (sym h.state) k)
ended_take {mid = mid} {new} {read = Err e} tokens none start j h k =
    let up = gives_up mid new j h.state in
    subst (λ (r : Result _ DeJsonErr). TakesTokensOrEnds tokens none start (position new j) r) (sym h.same)
    (record { fails = none_ended Cut none ended up k; ended = ap (λ (p : Position Token). p.at) up })

-- ---- after a name that is not known

-- a field was passed over
pub field_passed : {same_buffers : Type 0} {start end : Position Token}
    → (us : List Token) × SkippedField us × Took Cut same_buffers start end us
    → (us : List Token) × SkippedField us × Took Cut (Unit {0}) start end us
field_passed k = (
  k.0,
  k.1,
  record { taken = k.2.taken; buffers = tt; place = k.2.place },
)

-- nothing may stand here
pub nothing_here : (s : DeJsonState) (i : Chars) (e : Report) → IsMadeAt (place_of s) e
    → ReadsNone Cut Breaks (λ us (x : Unit {0}). nothing_after.Value us) (position s i) (position s i) e
nothing_here s i e made =
    let Nothing : List Token → Unit {0} → Type 0 = λ us x. nothing_after.Value us in
    fails_here (goes_wrong Cut Nothing (position s i) refl (λ x h. h) (λ us x h. h)) made

-- where no string is pending, no name is
pub no_name_here : (s : DeJsonState) (i : Chars) (ts : List Token) → (IsStr (pending s) → ⊥)
    → GoesWrongBy Cut Breaks (λ us (name : List ℕ). us ≡ str name ∷ ts) (position s i) (position s i)
no_name_here s i ts other =
    let Named : List Token → List ℕ → Type 0 = λ us name. us ≡ str name ∷ ts in
    goes_wrong Cut Named (position s i) refl (λ name e. absurd (cc e))
    (λ us name e. let same : pending s ≡ str name = cc e in other (subst IsStr (sym same) tt))

-- ---- a string whose text was taken out of its buffer

module _ {old mid : DeJsonState} {text : List ℕ} (i : Chars) (h : TookText old mid text) where
  same_text : remaining mid.cur i ≡ remaining old.cur i
  same_text = ap (λ (s : DeJsonState). remaining s.cur i) h.others

  -- an error after it stands after the string too
  fails_before : {A B : Type 0} {end : Position Token} {e : Report} → (A → B)
      → Fails A (position mid i) end e → Fails B (position old i) end e
  fails_before {end = end} f k = record {
    rejected = λ known. f (k.rejected known);
    made = k.made;
    place = subst (λ (s : DeJsonState). Advances (place_of s) i end.place end.input) h.others k.place;
  }

  moved_before : (end : Position Token) → Moves (place_of mid) i end.place end.input
      → Moves (place_of old) i end.place end.input
  moved_before end k = subst (λ (s : DeJsonState). Moves (place_of s) i end.place end.input) h.others k

  -- the string is the last token
  pub text_taken : {same_buffers : Type 0} {end : Position Token} → TookNext Cut same_buffers (position mid i) end
      → Took Cut (Unit {0}) (position old i) end (str text ∷ [])
  text_taken {end = end} k = record {
    taken = (
      sym h.is,
      (end.at, subst (λ (l : List ℕ). Cut l end.at.token end.at.text) same_text k.taken, refl),
    );
    buffers = tt;
    place = moved_before end k.place;
  }

  pub text_not : {end : Position Token} {e : Report} → Fails (Uncut Cut Breaks (position mid i) end) (position mid i) end e
      → ReadsNone Cut Breaks AloneName (position old i) end e
  text_not k =
      stopped_here Cut AloneName refl (λ v e. absurd (cc e)) (fails_before (uncut_from same_text (ap place_of h.others) refl) k)

  -- a colon comes after it
  pub key_taken : {same_buffers : Type 0} {end : Position Token} → Took Cut same_buffers (position mid i) end (pending mid ∷ (colon ∷ []))
      → Took Cut (Unit {0}) (position old i) end (str text ∷ (colon ∷ []))
  key_taken {end = end} k = record {
    taken = (
      sym h.is,
      (
        k.taken.1.0,
        subst (λ (t : List ℕ). Cut t k.taken.1.0.token k.taken.1.0.text) same_text k.taken.1.1,
        k.taken.1.2,
      ),
    );
    buffers = tt;
    place = moved_before end k.place;
  }

  key_wrong : (there here : Position Token) (reason : Reason Cut here.at)
      → here.at.text ≡ text_at here.place here.input → Moves (place_of mid) i here.place here.input
      → StandsAt Cut Breaks here there reason → (tokens : List Token) → Leaves Cut tokens (at mid i) here.at
      → ((more : List Token) → MayFollow Cut reason more
      → NoneBegins (AreTokens (pending mid ∷ (colon ∷ []))) (tokens ++ here.at.token ∷ more))
      → GoesWrongBy Cut Breaks AKey (position old i) there
  key_wrong there here wrong at moved stands [] l none =
      let first = ap (λ (z : At Token). z.token ∷ colon ∷ colon ∷ []) l in
      absurd (none (colon ∷ colon ∷ []) tt (pending mid ∷ (colon ∷ [])) [] colon tt refl first)
  key_wrong there here (uncut n) at moved stands [] l none =
      let start = position old i in
      let uncut_here : NothingCut Cut (remaining old.cur i) =
      λ u rest c. n u rest (subst (λ (z : At Token). Cut z.text u rest) l (subst (λ (t : List ℕ). Cut t u rest) (sym same_text) c)) in
      record {
        here = start;
        text = refl;
        moved = moves_none start.place start.input;
        reason = uncut uncut_here;
        fault = uncut_token Cut AKey start.at uncut_here (λ v e. absurd (cc e));
        stands = record {
          stop = stands.stop;
          input = stands.input;
          broken = subst (λ (t : List ℕ). Breaks t (text_at stands.stop stands.input)) same_text
              (subst (λ (z : At Token). Breaks z.text (text_at stands.stop stands.input)) (sym l) stands.broken);
          moved = moves_append (moved_before here moved) stands.moved;
          line = stands.line;
          col = stands.col;
        };
      }
  key_wrong there here reason at moved stands (u ∷ us) l none = record {
    here = here;
    text = at;
    moved = moved_before here moved;
    reason = reason;
    fault = record {
      tokens = str text ∷ us;
      taken = (
        sym h.is,
        (l.1.0, subst (λ (t : List ℕ). Cut t l.1.0.token l.1.0.text) same_text l.1.1, l.1.2),
      );
      none = λ more follows ts left next name e is.
          let whole = ap (λ (xs : List Token). xs ++ next ∷ left) (sym e) ∙ is in
          let rest : colon ∷ next ∷ left ≡ us ++ here.at.token ∷ more = cc whole in
          none more follows (pending mid ∷ (colon ∷ [])) left next tt refl
          (ap (λ (t : Token). t ∷ (colon ∷ next ∷ left)) (sym l.0) ∙ ap (λ (xs : List Token). u ∷ xs) rest);
    };
    stands = stands;
  }

  pub key_not : {end : Position Token} {e : Report}
      → ReadsNone Cut Breaks (AreTokens (pending mid ∷ (colon ∷ []))) (position mid i) end e
      → ReadsNone Cut Breaks AKey (position old i) end e
  key_not {end} k =
      fails_before (λ f. key_wrong end f.here f.reason f.text f.moved f.stands f.fault.tokens f.fault.taken f.fault.none) k

-- no string is pending
pub no_text : {old new : DeJsonState} (i : Chars) (e : DeJsonErr) (ts : List Token) → LacksText old new e
    → ReadsNone Cut Breaks (λ us (name : List ℕ). us ≡ str name ∷ ts) (position old i) (position new i) (report e)
no_text {old} i e ts h =
    let Named : List Token → List ℕ → Type 0 = λ us name. us ≡ str name ∷ ts in
    subst (λ (s : DeJsonState). ReadsNone Cut Breaks Named (position old i) (position s i) (report e))
    (sym h.unchanged) (fails_here (no_name_here old i ts h.lacks) h.made)

-- ==== the pending token

name_is : (tok : DeJsonTok) (strbuf numbuf : List ℕ) → IsStr (token_of tok strbuf numbuf)
    → token_of tok strbuf numbuf ≡ str strbuf
name_is Str strbuf numbuf h = refl
name_is _ strbuf numbuf h = absurd h

pub pending_name : (s : DeJsonState) → IsStr (pending s) → pending s ≡ str (string_bytes s.strbuf)
pending_name s h = name_is s.tok (string_bytes s.strbuf) (string_bytes s.numbuf) h

-- a name is no closing bracket
pub name_goes_on : (t : Token) → is_str t ≡ true → t ≢ curly_close
name_goes_on t h e = let x = sym (ap is_str e) ∙ h in cc x

pub no_name_pending : (t : Token) → is_str t ≡ false → (name : List ℕ) → t ≢ str name
no_name_pending t h name e = let x = sym (ap is_str e) ∙ h in cc x

-- ==== unknown names

-- one name stands in one way
same_name : (start mid after : At Token) (read : VariantName) (stood : Bool) (name : List ℕ)
    → Leaves Cut (name_tokens read) start mid
    → Leaves Cut (tokens_of_name json_variants stood name) start after
    → (is_alone read ≡ stood) × (bytes_of read ≡ name) × (mid ≡ after)
same_name start mid after (Alone read) true name l k =
    let next = same_at Cut cut_one_way start.text l.1.0 k.1.0 l.1.1 k.1.1 in
    (refl, str_injective (string_bytes read) name (l.0 ∙ sym k.0), sym l.1.2 ∙ (next ∙ k.1.2))
same_name start mid after (Alone read) false name l k =
    let both : curly_open ≡ str (string_bytes read) = k.0 ∙ sym l.0 in absurd (cc both)
same_name start mid after (Opened read) true name l k =
    let both : curly_open ≡ str name = l.0 ∙ sym k.0 in absurd (cc both)
same_name start mid after (Opened read) false name l k =
    let r = after_opened start name (string_bytes read) [] after mid k l in
    (refl, r.0, sym r.1)

begins_so : (stood : Bool) (name : List ℕ) → VariantBegins (tokens_of_name json_variants stood name) name
begins_so true name = inl refl
begins_so false name = inr refl

module _ (vs : Variants Encoding) (start : At Token)
    (unknown : HasUnknownName json_variants vs start) where
  -- it can be taken
  pub name_begins : (here : At Token) (reason : Reason Cut here) → Fault Cut VariantBegins start here reason → ⊥
  name_begins here reason f =
      nothing_decodes Cut VariantBegins cut_one_way start here reason f unknown.name (
        tokens_of_name json_variants unknown.stood unknown.name,
        unknown.after,
        begins_so unknown.stood unknown.name,
        unknown.stands,
      )

  -- it is the one that was taken
  pub name_taken : (read : VariantName) (mid : At Token) → Leaves Cut (name_tokens read) start mid
      → (is_known_name vs (is_alone read) (bytes_of read) ≡ false)
      × (bytes_of read ≡ unknown.name) × (mid ≡ unknown.after)
  name_taken read mid taken =
      let same =
      same_name start mid unknown.after read unknown.stood unknown.name taken unknown.stands in
      let none = unknown.unknown unknown.stood unknown.stands in
      ((λ i. is_known_name vs (same.0 i) (same.1 i)) ∙ none, same.1, same.2)

-- ==== calls that read a choice of variants

module _ (vs : Encodings) {start end : Position Token} where
  -- no name of a variant stands there
  pub name_not : {e : Report} → ReadsNoneAndEnds Cut Breaks VariantBegins start end ended e
      → NoEnum json_variants vs start end ended e
  name_not h = record {
    none = record {
      fails = none_first Cut (EncodesVariant vs) VariantBegins (name_leads vs start.at.token) h.fails;
      ended = h.ended;
    };
    unknown = λ u known.
        let f = h.fails.rejected known in
        absurd (name_begins vs start.at u f.here.at f.reason f.fault);
  }

  module _ (name : VariantName) {same_buffers : Type 0} (s : DeJsonState) (i : Chars)
      (h : Took Cut same_buffers start (position s i) (name_tokens name)) where
    pub enum_read : {m : ℕ → Meaning}
        → ReadChoice json_variants vs (is_alone name) (bytes_of name) (position s i) end m
        → ReadEnum json_variants vs start end (m 0)
    enum_read {m} k = record {
      read = record {
        decodes = choice_reads vs name start.at (at s i) end.at (m 0) h.taken (k.decodes 0);
        place = moves_append h.place k.place;
      };
      known = λ u. k.known (name_taken vs start.at u name (at s i) h.taken).0;
    }

    pub enum_not : {e : Report}
        → NoChoice json_variants vs (is_alone name) (bytes_of name) (position s i) end ended e
        → NoEnum json_variants vs start end ended e
    enum_not {e} k =
        let none = k.none 0 in
        record {
          none = record {
            fails = none_in Cut (EncodesVariant vs) (After 0 vs (is_alone name) (bytes_of name)) (name_tokens name)
                (choice_leads vs name (pending s)) h.taken h.place none.fails;
            ended = none.ended;
          };
          unknown = λ u known.
              let taken = name_taken vs start.at u name (at s i) h.taken in
              record {
                place = (position s i).place;
                input = i;
                text = λ j. (sym taken.2 j).text;
                moved = h.place;
                error = subst (λ (n : List ℕ). IsUnknownAt (position s i).place n e) taken.1 (k.unknown taken.0);
              };
        }
