-- What the calls that read an enum come to whose reader matches the names by hand.
use Rattle.std.proofs.Common.{◌≡◌, ◌≢◌, ℕ, List, [], ◌∷◌, ◌++◌, Some, None, true, false, Bool}
use Rattle.std.proofs.Common.{bytes_eq, get_or}
use Rattle.std.proofs.Common.{length, inl, inr, refl, sym, ◌∙◌, ap, subst, arith}
use Rattle.std.proofs.lemmas.Bool.{false_from_ne_true}
use Rattle.std.proofs.lemmas.Slice.Eq.{bytes_eq-Decides}
use Rattle.std.specs.declared.str.Chars.{Chars}
use Rattle.nano_text.proofs.PlaceLaws.{moves_append}
use Rattle.nano_value.specs.Meaning.{Meaning, nothing}
use Rattle.nano_value.specs.Sums.{tagged}
use Rattle.nano_grammar.specs.Outcomes.{Position, Report, Read, ReadsNoneAndEnds, Took}
use Rattle.nano_grammar.proofs.FaultLaws.{LeadsTo, goes_wrong, none_ended}
use Rattle.nano_grammar.proofs.TokenCalls.{fails_here, none_in}
use Rattle.nano_grammar.proofs.TokensLaws.{leaves_append}
use Rattle.nano_grammar.specs.Variants.{unit_named, content_named, Found, nobody, found}
use Rattle.nano_grammar.specs.Variants.{EncodesFound}
use Rattle.nano_json_tokens.specs.Breaks.{Breaks}
use Rattle.nano_json_tokens.specs.Cut.{Cut}
use Rattle.nano_json_tokens.specs.Outcomes.{position, report}
use Rattle.nano_json_tokens.specs.State.{at, ended}
use Rattle.nano_json_tokens.specs.Token.{Token}
use Rattle.nano_json_tokens.specs.declared.error.DeJsonErr.{DeJsonErr}
use Rattle.nano_json_tokens.specs.declared.state.DeJsonState.{DeJsonState}
use Rattle.nano_json_tokens.proofs.Calling.{gives_up}
use Rattle.nano_json.specs.Codec.{Encoding}
use Rattle.nano_json_schema.specs.Outcomes.{GivesUnknown}
use Rattle.nano_json_schema.specs.Reading.{Encodings, EncodesVariant, Closed}
use Rattle.nano_json_schema.specs.Variants.{alone, opened}
use Rattle.nano_json_schema.specs.VariantCodecs.{json_variants}
use Rattle.nano_json_schema.proofs.VariantReaders.{After, alone_leads, opened_leads, content_leads}
use Rattle.nano_json_schema.proofs.VariantReaders.{no_unit, no_content}

-- a name that a match found to be another one
pub is_another : (shown bytes name : List ℕ) → shown ≡ bytes → shown ≢ name
    → bytes_eq bytes name ≡ false
is_another shown bytes name e other =
    false_from_ne_true (bytes_eq bytes name)
    (λ same. other (e ∙ (bytes_eq-Decides bytes name).0 same))

-- the one part that an array of one holds
pub one_part : {A : Type 0} (d : A) (parts : List A) → length parts ≡ 1
    → parts ≡ get_or parts 0 d ∷ []
one_part d (part ∷ []) e = refl
one_part d [] e = absurd (omega (arith, e))
one_part d (part ∷ other ∷ parts) e = absurd (omega (arith, e))

module _ (vs : Encodings) {same_buffers : Type 0} {start : Position Token} (name : List ℕ) where
  -- a name without content
  pub unit_read : {end : Position Token} (tag : ℕ) → Took Cut same_buffers start end (alone name)
      → unit_named 0 vs name ≡ Some tag → Read Cut (EncodesVariant vs) start end (tagged tag nothing)
  unit_read tag h has = record {
    decodes = (
      alone name,
      inl (record { name = name; tag = tag; has = has; one = refl; is = refl }),
      h.taken,
    );
    place = h.place;
  }

  -- a name with content
  module _ {mid end : Position Token} (tag : ℕ) (content : Encoding) (h : Took Cut same_buffers start mid (opened name))
      (has : content_named 0 vs name ≡ found tag content) where
    pub content_read : {m : Meaning} → Read Cut (Closed content.encodes) mid end m
        → Read Cut (EncodesVariant vs) start end (tagged tag m)
    content_read {m} k =
        let back = k.decodes.0 in
        let Is = λ (f : Found Encoding). EncodesFound json_variants f back (tagged tag m) in
        let encodes = subst Is (sym has) (record { part = m; has = k.decodes.1; is = refl }) in
        record {
          decodes = (
            opened name ++ back,
            inr (record { name = name; back = back; are = refl; content = encodes }),
            leaves_append Cut (opened name) back start.at mid.at end.at h.taken k.decodes.2,
          );
          place = moves_append h.place k.place;
        }

    pub content_not : {e : Report} → ReadsNoneAndEnds Cut Breaks (Closed content.encodes) mid end ended e
        → ReadsNoneAndEnds Cut Breaks (EncodesVariant vs) start end ended e
    content_not k = record {
      fails = none_in Cut (EncodesVariant vs) (Closed content.encodes) (opened name)
          (content_leads vs name tag content has mid.at.token) h.taken h.place k.fails;
      ended = k.ended;
    }

  -- no variant has the name
  module _ {s new : DeJsonState} (i : Chars) {shown : List ℕ} {e : DeJsonErr} (unknown : GivesUnknown s new shown e) where
    not_known : {ts : List Token} (stood : Bool) → Took Cut same_buffers start (position s i) ts
        → LeadsTo (EncodesVariant vs) (After 0 vs stood name) ts (at s i).token
        → ((us : List Token) (m : Meaning) → After 0 vs stood name us m → ⊥)
        → ReadsNoneAndEnds Cut Breaks (EncodesVariant vs) start (position new i) ended (report e)
    not_known {ts} stood h leads none =
        let up = gives_up s new i unknown.state in
        let Rest = After 0 vs stood name in
        let here = position s i in
        record {
          fails = none_ended Cut (EncodesVariant vs) ended up (none_in Cut (EncodesVariant vs) Rest ts leads h.taken h.place
              (fails_here (goes_wrong Cut Rest here refl (none []) (λ us. none (here.at.token ∷ us))) unknown.says.1));
          ended = ap (λ (p : Position Token). p.at) up;
        }

    pub unit_not_known : Took Cut same_buffers start (position s i) (alone name) → unit_named 0 vs name ≡ None
        → ReadsNoneAndEnds Cut Breaks (EncodesVariant vs) start (position new i) ended (report e)
    unit_not_known h has = not_known true h (alone_leads vs name (at s i).token) (no_unit vs name has)

    pub content_not_known : Took Cut same_buffers start (position s i) (opened name) → content_named 0 vs name ≡ nobody
        → ReadsNoneAndEnds Cut Breaks (EncodesVariant vs) start (position new i) ended (report e)
    content_not_known h has = not_known false h (opened_leads vs name (at s i).token) (no_content vs name has)
