-- What the readers of documents come to, by the kind of the pending token.
use Rattle.std.proofs.Common.{◌≡◌, ℕ, suc, ◌-◌, ℤ, Bool, List, [], ◌∷◌, ◌++◌, map, String, Vec, Global, string_bytes, refl, sym, ◌∙◌, ap, subst, arith, inr, append_assoc}
use Rattle.nano_text.specs.Place.{text_at}
use Rattle.nano_text.proofs.PlaceLaws.{moves_append}
use Rattle.nano_value.specs.Meaning.{Meaning, text, paired, nothing}
use Rattle.nano_meaning.proofs.MeaningLaws.{text_injective}
use Rattle.nano_meaning.specs.Sums.{tagged}
use Rattle.nano_grammar.specs.Codec.{BeginsValue, Encoding, IsEncoding}
use Rattle.nano_json.specs.Lists.{EncodesEntry}
use Rattle.nano_grammar.specs.Faults.{AreTokens}
use Rattle.nano_grammar.specs.Outcomes.{Report, Position, IsMadeAt, Fails, Took, Read, ReadsNone}
use Rattle.nano_grammar.proofs.FaultLaws.{LeadsTo, leads_as}
use Rattle.nano_grammar.proofs.TokensLaws.{leaves_append}
use Rattle.nano_grammar.proofs.PartReading.{first_leads, punctuator_leads, second_leads}
use Rattle.nano_grammar.proofs.TokenCalls.{fails_here, fails_as}
use Rattle.nano_grammar.proofs.Reading.{image_spans, image_encodes}
use Rattle.nano_json_tokens.specs.Breaks.{Breaks}
use Rattle.nano_json_tokens.specs.Cut.{Cut}
use Rattle.nano_json_tokens.specs.Cut.{json_grammar}
use Rattle.nano_json_tokens.proofs.JsonLaws.{json}
use Rattle.nano_json_tokens.specs.State.{pending, token_of}
use Rattle.nano_json_tokens.specs.Token.{Token, colon, null}
use Rattle.nano_json_tokens.specs.declared.state.DeJsonState.{DeJsonState}
use Rattle.nano_json_tokens.specs.declared.token.DeJsonTok.{DeJsonTok}
use Rattle.nano_json_tokens.specs.declared.token.DeJsonTok.TheVariants as T
use Rattle.nano_levels.specs.Kinds.{kind_of, EncodesKind, codecs_at}
use Rattle.nano_levels.proofs.KindsLaws.{of_kind}
use Rattle.nano_levels.proofs.LevelsLaws.{level_holds, level_content, level_none}
use Rattle.nano_document.specs.Documents.{kind, json_means, entry_means}
use Rattle.nano_document.specs.DocumentCodecs.{layers, kind_is, json_nested, level_codec, string_codec, entry_at}
use Rattle.nano_document.specs.Decimals.{IsDecimal}
use Rattle.nano_document.specs.DecimalCodecs.{decimals}
use Rattle.nano_document.specs.FirstFaults.{CanBegin, GoesWrongFirst}
use Rattle.nano_document.specs.declared.json.Json as J
use Rattle.nano_document.specs.declared.json.Json.{Json}
use Rattle.nano_document.proofs.Deciding.{decimal_tests}
use Rattle.nano_document.proofs.Documents.{means_decimal}
use Rattle.nano_document.proofs.FirstFaults.{begins_itself, wrong_after, wrong_at, first_part, first_in}

-- what the alternative at a place encodes, around so many levels
abbrev pub content_at : ℕ → ℕ → Encoding json_grammar
content_at n place = (codecs_at layers (level_codec n) place).encoding

-- what a document of one level more encodes
abbrev Encodes : ℕ → List Token → Meaning → Type 0
Encodes levels = (level_codec levels).encoding.encodes

pub one_below : (levels : ℕ) → (levels ≡ 0 → ⊥) → levels ≡ suc (levels - 1)
one_below levels h = omega (arith, h)

-- ---- one alternative

pub read_at : (levels n : ℕ) → levels ≡ suc n → (place : ℕ) (x : Json) (m : Meaning) → json_means x ≡ tagged place m
    → {start end : Position Token} → Read Cut (content_at n place).encodes start end m
    → Read Cut (Encodes levels) start end (json_means x)
read_at levels n is place x m e h =
    let ts = h.decodes.0 in
    let codecs = codecs_at layers (level_codec n) in
    let of = of_kind kind codecs (kind_is (level_codec n)) place ts m h.decodes.1 in
    let there = level_holds json_nested n (json_means x) ts (subst (EncodesKind kind codecs ts) (sym e) of) in
    record {
      decodes = (ts, subst (λ k. Encodes k ts (json_means x)) (sym is) there, h.decodes.2);
      place = h.place;
    }

-- what encodes content of the alternative encodes a document
content_holds : (levels n : ℕ) → levels ≡ suc n → (place : ℕ) (ts : List Token) (m : Meaning)
    → (content_at n place).encodes ts m → Encodes levels ts (tagged place m)
content_holds levels n is place ts m h =
    let of = of_kind kind (codecs_at layers (level_codec n)) (kind_is (level_codec n)) place ts m h in
    subst (λ k. Encodes k ts (tagged place m)) (sym is) (level_holds json_nested n (tagged place m) ts of)

first_kind : (ts after rest : List Token) (first : Token) → BeginsValue json_grammar ts → ts ++ after ≡ first ∷ rest
    → kind_of kind ts ≡ kind first
first_kind [] after rest first b e = absurd b
first_kind (t ∷ ts) after rest first b e = let same : t ≡ first = cc e in ap kind same

-- where the pending token is of a kind, a document is content of this kind
content_leads : (levels n : ℕ) → levels ≡ suc n → (place : ℕ) (first : Token) → kind first ≡ place
    → LeadsTo (Encodes levels) (content_at n place).encodes [] first
content_leads levels n is place first same us more rest next m f begun =
    let u = level_content json_nested n m us (subst (λ k. Encodes k us m) is f) in
    let begins = (level_codec levels).encoding.laws.begins us m f in
    let kinds = first_kind us (next ∷ more) rest first begins begun ∙ same in
    (us, u.content, next, more, subst (λ k. (content_at n k).encodes us u.content) kinds u.encodes, begun)

-- where content of this kind goes wrong first, a document does
pub first_at : (levels n : ℕ) → levels ≡ suc n → (place : ℕ) → {start end : Position Token} {e : Report}
    → kind start.at.token ≡ place
    → Fails (GoesWrongFirst (content_at n place).encodes start end) start end e
    → Fails (GoesWrongFirst (Encodes levels) start end) start end e
first_at levels n is place {start} same h =
    first_part (Encodes levels) (content_at n place).encodes (content_leads levels n is place start.at.token same)
    (λ us m f. begins_itself (Encodes levels) us (tagged place m) (content_holds levels n is place us m f)) h

-- where no token can be cut after a token that is all of its content
pub none_after : (levels n : ℕ) → levels ≡ suc n → (place : ℕ) → {start end : Position Token} {e : Report}
    → kind start.at.token ≡ place → (m : Meaning) → (content_at n place).encodes (start.at.token ∷ []) m
    → ReadsNone Cut Breaks (content_at n place).encodes start end e
    → Fails (GoesWrongFirst (Encodes levels) start end) start end e
none_after levels n is place same m f h =
    first_at levels n is place same (fails_as (wrong_after (content_at n place).encodes m f) h)

-- a text that is read as a decimal is one
decimal_spans : {start end : Position Token} (s : String Global) → Read Cut decimals.encodes start end (text (string_bytes s))
    → IsDecimal (string_bytes s)
decimal_spans s h =
    let of = h.decodes.1 in
    subst IsDecimal (sym (text_injective (string_bytes s) of.part of.is)) of.has.has.is_decimal

-- where a decimal is read
pub decimal_at : (levels n : ℕ) → levels ≡ suc n → (s : String Global) → {start end : Position Token}
    → Read Cut decimals.encodes start end (text (string_bytes s)) → Read Cut (Encodes levels) start end (json_means (J.Decimal s))
decimal_at levels n is s h =
    read_at levels n is 6 (J.Decimal s) _ (means_decimal s (decimal_tests (string_bytes s) (decimal_spans s h))) h

-- where it begins no document
pub not_begun : (levels n : ℕ) → levels ≡ suc n → {start : Position Token} {e : Report}
    → start.at.text ≡ text_at start.place start.input → kind start.at.token ≡ 7
    → IsMadeAt start.place e → Fails (GoesWrongFirst (Encodes levels) start start) start start e
not_begun levels n is {start} stands same made =
    first_at levels n is 7 same
    (fails_here (wrong_at (content_at n 7).encodes start stands (λ m f. f) (λ ts m f. f)) made)

-- where no level is left
nothing_level : (levels : ℕ) → levels ≡ 0 → (ts : List Token) (m : Meaning) → Encodes levels ts m → ⊥
nothing_level levels is ts m f = level_none json_nested m ts (subst (λ k. Encodes k ts m) is f)

pub no_level : (levels : ℕ) → levels ≡ 0 → {start : Position Token} {e : Report}
    → start.at.text ≡ text_at start.place start.input → IsMadeAt start.place e
    → Fails (GoesWrongFirst (Encodes levels) start start) start start e
no_level levels is {start} stands made =
    let none = nothing_level levels is in
    fails_here (wrong_at (Encodes levels) start stands (none []) (λ ts. none (start.at.token ∷ ts))) made

-- ---- the kind of the pending token

pub pending_is : (s : DeJsonState) (t : DeJsonTok) → s.tok ≡ t
    → pending s ≡ token_of t (string_bytes s.strbuf) (string_bytes s.numbuf)
pending_is s t e = ap (λ u. token_of u (string_bytes s.strbuf) (string_bytes s.numbuf)) e

pub pending_kind : (s : DeJsonState) (t : DeJsonTok) → s.tok ≡ t
    → kind (pending s) ≡ kind (token_of t (string_bytes s.strbuf) (string_bytes s.numbuf))
pending_kind s t e = ap kind (pending_is s t e)

-- a token that begins no document
pub other_kind : (t : DeJsonTok) (strbuf numbuf : List ℕ) → (t ≡ T.Null → ⊥) → ((b : Bool) → t ≡ T.Bool b → ⊥)
    → ((n : ℕ) → t ≡ T.U64 n → ⊥) → ((z : ℤ) → t ≡ T.I64 z → ⊥) → (t ≡ T.Str → ⊥) → (t ≡ T.BlockOpen → ⊥)
    → (t ≡ T.CurlyOpen → ⊥) → (t ≡ T.F64 → ⊥) → kind (token_of t strbuf numbuf) ≡ 7
other_kind T.Null s n nul bool u64 i64 str block curly f64 = absurd (nul refl)
other_kind (T.Bool b) s n nul bool u64 i64 str block curly f64 = absurd (bool b refl)
other_kind (T.U64 k) s n nul bool u64 i64 str block curly f64 = absurd (u64 k refl)
other_kind (T.I64 z) s n nul bool u64 i64 str block curly f64 = absurd (i64 z refl)
other_kind T.Str s n nul bool u64 i64 str block curly f64 = absurd (str refl)
other_kind T.BlockOpen s n nul bool u64 i64 str block curly f64 = absurd (block refl)
other_kind T.CurlyOpen s n nul bool u64 i64 str block curly f64 = absurd (curly refl)
other_kind T.F64 s n nul bool u64 i64 str block curly f64 = absurd (f64 refl)
other_kind _ s n nul bool u64 i64 str block curly f64 = refl

-- ---- lists and entries

abbrev pub level_laws : (levels : ℕ) → IsEncoding json_grammar (level_codec levels).encoding.legal (Encodes levels)
level_laws levels = (level_codec levels).encoding.laws

abbrev pub entry_laws_at : (levels : ℕ) → IsEncoding json_grammar (entry_at levels).legal (entry_at levels).encodes
entry_laws_at levels = (entry_at levels).laws

abbrev pub ItemsHold : Vec Json Global → List Meaning → Type 0
ItemsHold items ms = map json_means items.items ≡ ms

abbrev pub EntriesHold : Vec (String Global × Json) Global → List Meaning → Type 0
EntriesHold entries ms = map (entry_means json_means) entries.items ≡ ms

module _ (levels : ℕ) where
  abbrev Entry : List Token → Meaning × Meaning → Type 0
  Entry = EncodesEntry string_codec.encoding.encodes (Encodes levels)

  -- a name and a document, seen as one meaning
  pub entry_read_whole : {start end : Position Token} (x y : Meaning) → Read Cut Entry start end (x, y)
      → Read Cut (entry_at levels).encodes start end (paired (x, y))
  entry_read_whole {start} {end} x y h =
      record { decodes = image_spans json paired start.at end.at (x, y) h.decodes; place = h.place }

  -- ---- the first fault of an entry

  abbrev Name : List Token → Meaning → Type 0
  Name = string_codec.encoding.encodes

  -- a name and a colon can begin an entry, where there is a level for a document
  entry_begins : (n : ℕ) → levels ≡ suc n → (ts more back : List Token) (x y : Meaning) → Name ts x
      → Encodes levels back y → (us : List Token) → us ++ more ≡ ts ++ colon ∷ back
      → CanBegin (entry_at levels).encodes us
  entry_begins n is ts more back x y name value us same = (
    more,
    paired (x, y),
    record { part = (x, y); has = (ts, back, same, name, value); is = refl },
  )

  -- `null` is a document
  null_value : (n : ℕ) → levels ≡ suc n → Encodes levels (null ∷ []) (tagged 0 nothing)
  null_value n is = content_holds levels n is 0 (null ∷ []) nothing (record { one = refl; is = refl })

  pub name_first : (n : ℕ) → levels ≡ suc n → {start end : Position Token} {e : Report}
      → Fails (GoesWrongFirst Name start end) start end e
      → Fails (GoesWrongFirst (entry_at levels).encodes start end) start end e
  name_first n is {start} bad =
      first_part (entry_at levels).encodes Name
      (leads_as (entry_at levels).encodes Entry Name [] start.at.token (image_encodes json Entry paired)
      (first_leads colon Name string_codec.encoding.laws.none_begins (Encodes levels) start.at.token))
      (λ us x name. entry_begins n is us (colon ∷ null ∷ []) (null ∷ []) x _ name (null_value n is) us refl) bad

  pub colon_first : (n : ℕ) → levels ≡ suc n → {start m end : Position Token} {x : Meaning} {e : Report}
      → Read Cut Name start m x
      → Fails (GoesWrongFirst (AreTokens (colon ∷ [])) m end) m end e
      → Fails (GoesWrongFirst (entry_at levels).encodes start end) start end e
  colon_first n is {start} {m} {x = x} key bad =
      let i = key.decodes in
      let Colon = AreTokens (colon ∷ []) in
      let last = null_value n is in
      let back = colon ∷ null ∷ [] in
      first_in (entry_at levels).encodes Colon i.0
      (leads_as (entry_at levels).encodes Entry Colon i.0 m.at.token (image_encodes json Entry paired)
      (punctuator_leads colon Name string_codec.encoding.laws.none_begins (Encodes levels) i.0 x i.1 m.at.token))
      i.2 key.place (inr (entry_begins n is i.0 back (null ∷ []) x _ i.1 last i.0 refl))
      (λ us _ same. entry_begins n is i.0 (null ∷ []) (null ∷ []) x _ i.1 last (i.0 ++ us)
      (append_assoc i.0 us (null ∷ []) ∙ ap (λ (xs : List Token). i.0 ++ (xs ++ null ∷ [])) same)) bad

  pub document_first : (n : ℕ) → levels ≡ suc n → {buffered : Type 0} {start m k end : Position Token} {x : Meaning}
      {e : Report} → Read Cut Name start m x → Took Cut buffered m k (colon ∷ [])
      → Fails (GoesWrongFirst (Encodes levels) k end) k end e
      → Fails (GoesWrongFirst (entry_at levels).encodes start end) start end e
  document_first n is {start = start} {m} {k} {x = x} key colon_taken bad =
      let i = key.decodes in
      let before = i.0 ++ colon ∷ [] in
      first_in (entry_at levels).encodes (Encodes levels) before
      (leads_as (entry_at levels).encodes Entry (Encodes levels) before k.at.token (image_encodes json Entry paired)
      (second_leads colon Name string_codec.encoding.laws.none_begins (Encodes levels) i.0 x i.1 k.at.token))
      (leaves_append Cut i.0 (colon ∷ []) start.at m.at k.at i.2 colon_taken.taken)
      (moves_append key.place colon_taken.place)
      (inr (entry_begins n is i.0 (null ∷ []) (null ∷ []) x _ i.1 (null_value n is) before
      (append_assoc i.0 (colon ∷ []) (null ∷ []))))
      (λ us y value. begins_itself (entry_at levels).encodes (before ++ us) (paired (x, y)) (record {
        part = (x, y);
        has = (i.0, us, append_assoc i.0 (colon ∷ []) us, i.1, value);
        is = refl;
      })) bad

  -- where no level is left for the document
  pub no_entry : levels ≡ 0 → {start : Position Token} {e : Report}
      → start.at.text ≡ text_at start.place start.input → IsMadeAt start.place e
      → Fails (GoesWrongFirst (entry_at levels).encodes start start) start start e
  no_entry is {start} stands made =
      let none : (ts : List Token) (m : Meaning) → (entry_at levels).encodes ts m → ⊥ =
      λ ts m f. nothing_level levels is f.has.1 f.part.1 f.has.4 in
      fails_here (wrong_at (entry_at levels).encodes start stands (none []) (λ ts. none (start.at.token ∷ ts))) made
