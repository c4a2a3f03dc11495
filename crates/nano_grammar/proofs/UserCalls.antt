-- What the calls that read a struct or a choice of variants come to, whatever the tokens are.
use Rattle.std.proofs.Common.{List, [], ◌∷◌, ◌++◌, refl, sym, ◌∙◌, ◌≡◌, ℕ, suc, Bool, true, false, ap}
use Rattle.std.proofs.Common.{append_assoc, inl, inr}
use Rattle.nano_value.specs.Meaning.{Meaning}
use Rattle.nano_text.specs.Place.{text_at}
use Rattle.nano_text.proofs.PlaceLaws.{moves_append, moves_advance}
use Rattle.nano_grammar.proofs.TokensLaws.{leaves_append}
use Rattle.nano_grammar.specs.Tokens.{Cutting, At}
use Rattle.nano_grammar.specs.Faults.{AreTokens, wrong}
use Rattle.nano_grammar.specs.Codec.{Grammar, IsEncoding, Encoding}
use Rattle.nano_grammar.specs.Outcomes.{Report, Position, Took, Read, ReadsNone, ReadsNoneAndEnds}
use Rattle.nano_grammar.specs.Outcomes.{given_up}
use Rattle.nano_grammar.proofs.ItemLaws.{same_prefix}
use Rattle.nano_grammar.proofs.FaultLaws.{LeadsTo, first_token, goes_wrong, none_ended}
use Rattle.nano_grammar.proofs.TokenCalls.{fails_here, none_in, none_first, none_as}
use Rattle.nano_grammar.specs.Fields.{FieldStyle, Field, Shape, IsShape, EncodedFields}
use Rattle.nano_grammar.specs.Fields.{both_fields, others}
use Rattle.nano_grammar.specs.UserOutcomes.{Misses, NamesMissing, HeldFields}
use Rattle.nano_grammar.specs.UserOutcomes.{IsUnknownAt, ReadChoice, NoChoice}
use Rattle.nano_grammar.specs.Variants.{VariantStyle, Closed, Variants, no_variants}
use Rattle.nano_value.specs.Sums.{tagged}
use Rattle.nano_grammar.specs.Choices.{Rest, before, stands_alone, is_named, EncodesRest, EncodesAfter}
use Rattle.nano_grammar.proofs.ChoicesLaws.{first_reads, first_encodes, later_reads}
use Rattle.nano_grammar.proofs.ChoicesLaws.{later_encodes, none_named}
use Rattle.nano_grammar.proofs.FieldReading.{first_unknown, later_unknown}

-- ---- the values of the fields

module _ {T : Type 0} {c : Cutting T} {g : Grammar T} (s : FieldStyle c g) (shape : Shape T)
    {holds : List (Field T) → Type 0} {start end : Position T} where
  pub values_read : (m : Meaning) → HeldFields s shape holds start end
      → ((fs : List (Field T)) → holds fs → shape.means fs m)
      → Read c.cut (EncodedFields s shape) start end m
  values_read m h means = record { decodes = h.found m means; place = h.place }

  pub values_not : {e : Report} → IsShape shape → end.at.text ≡ text_at end.place end.input
      → HeldFields s shape holds start end
      → Misses (NamesMissing shape holds e) end.place e
      → ReadsNone c.cut c.breaks (EncodedFields s shape) start end e
  values_not laws text h bad = record {
    rejected = λ known. record {
      here = end;
      text = text;
      moved = h.place;
      reason = wrong;
      fault = h.missing (λ fs m held.
          let missing = bad.rejected known in
          laws.lacking fs missing.name m (missing.lacking fs held));
      stands = (refl, refl);
    };
    made = bad.made;
    place = moves_advance h.place;
  }

-- of two groups of fields, the first that is missing is one of the first group, or none of these is
-- missing and it is one of the second
module _ {T : Type 0} (a b : Shape T) {first : List (Field T) → Type 0} {e : Report} where
  pub first_missing : (second : List (Field T) → Type 0) → NamesMissing a first e
      → NamesMissing (both_fields a b) (λ fs. first fs × second (others a.knows fs)) e
  first_missing second missing = record {
    name = missing.name;
    lacking = λ fs held. inl (missing.lacking fs held.0);
    said = missing.said;
  }

  pub later_missing : {second : List (Field T) → Type 0} (m : Meaning)
      → ((fs : List (Field T)) → first fs → a.means fs m) → NamesMissing b second e
      → NamesMissing (both_fields a b) (λ fs. first fs × second (others a.knows fs)) e
  later_missing m means missing = record {
    name = missing.name;
    lacking = λ fs held. inr ((m, means fs held.0), missing.lacking (others a.knows fs) held.1);
    said = missing.said;
  }

-- ---- content, and what comes after it

module _ {T : Type 0} {c : Cutting T} {g : Grammar T} (s : VariantStyle c g) where
  module _ (S : List T → Meaning → Type 0) where
    pub content_read : {same_buffers : Type 0} {start mid end : Position T} {m : Meaning} → Read c.cut S start mid m
        → Took c.cut same_buffers mid end s.closing → Read c.cut (Closed s S) start end m
    content_read {start = start} {mid} {end} h close = record {
      decodes = (
        h.decodes.0 ++ s.closing,
        (h.decodes.0, refl, h.decodes.1),
        leaves_append c.cut h.decodes.0 s.closing start.at mid.at end.at h.decodes.2 close.taken,
      );
      place = moves_append h.place close.place;
    }

    content_leads : (pending : T) → LeadsTo (Closed s S) S [] pending
    content_leads pending us more rest next m e is =
        let f = first_token s.closing next more in
        let joined = append_assoc e.0 s.closing (next ∷ more) in
        let whole = sym joined ∙ (ap (λ (xs : List T). xs ++ next ∷ more) (sym e.1) ∙ is) in
        (e.0, m, f.0, f.1, e.2, ap (λ (xs : List T). e.0 ++ xs) (sym f.2) ∙ whole)

    closing_leads : {P : Meaning → Type 0} → IsEncoding g P S → (ts : List T) (m : Meaning) → S ts m
        → (pending : T) → LeadsTo (Closed s S) (AreTokens s.closing) ts pending
    closing_leads laws ts m h pending us more rest next n e is =
        let joined = append_assoc e.0 s.closing (next ∷ more) in
        let whole = sym joined ∙ (ap (λ (xs : List T). xs ++ next ∷ more) (sym e.1) ∙ is) in
        let same = same_prefix S laws.none_begins e.0 (s.closing ++ next ∷ more) ts (pending ∷ rest) n m e.2 h whole in
        (s.closing, tt, next, more, refl, same.1)

    pub content_not : {start end : Position T} {last : At T} {e : Report}
        → ReadsNoneAndEnds c.cut c.breaks S start end last e → ReadsNoneAndEnds c.cut c.breaks (Closed s S) start end last e
    content_not {start} h = record {
      fails = none_first c.cut (Closed s S) S (content_leads start.at.token) h.fails;
      ended = h.ended;
    }

    pub closing_not : {P : Meaning → Type 0} {start mid end : Position T} {last : At T} {m : Meaning} {e : Report}
        → IsEncoding g P S → Read c.cut S start mid m
        → ReadsNoneAndEnds c.cut c.breaks (AreTokens s.closing) mid end last e
        → ReadsNoneAndEnds c.cut c.breaks (Closed s S) start end last e
    closing_not {mid = mid} {m = m} laws h bad = record {
      fails = none_in c.cut (Closed s S) (AreTokens s.closing) h.decodes.0
          (closing_leads laws h.decodes.0 m h.decodes.1 mid.at.token) h.decodes.2 h.place bad.fails;
      ended = bad.ended;
    }

-- ==== calls that read a choice of variants

module _ {T : Type 0} {c : Cutting T} {g : Grammar T} (s : VariantStyle c g) (rest : Rest g) (first : List ℕ)
    (stood : Bool) (name : List ℕ) where
  module _ (others : Variants (Encoding g)) where
    -- ---- the first has the name

    module _ (named : is_named stood (stands_alone rest) name first ≡ true) {start end : Position T} where
      pub first_read : {m : Meaning} → Read c.cut (EncodesRest s rest) start end m
          → ReadChoice s (before rest first others) stood name start end (λ from. tagged from m)
      first_read {m} h = record {
        decodes = λ from. first_reads s c.cut rest first others stood name named from start.at end.at m h.decodes;
        known = first_unknown rest first others stood name named;
        place = h.place;
      }

      pub first_not : {last : At T} {e : Report} → ReadsNoneAndEnds c.cut c.breaks (EncodesRest s rest) start end last e
          → NoChoice s (before rest first others) stood name start end last e
      first_not h = record {
        none = λ from. record {
          fails = none_as c.cut (EncodesAfter s from (before rest first others) stood name) (EncodesRest s rest)
              (first_encodes s c.cut rest first others stood name named from) h.fails;
          ended = h.ended;
        };
        unknown = λ none. absurd (first_unknown rest first others stood name named none);
      }

    -- ---- a later one may have it

    module _ (other : is_named stood (stands_alone rest) name first ≡ false) {start end : Position T} where
      pub later_read : {m : ℕ → Meaning} → ReadChoice s others stood name start end m
          → ReadChoice s (before rest first others) stood name start end (λ from. m (suc from))
      later_read {m} h = record {
        decodes = λ from.
            later_reads s c.cut rest first others stood name other from start.at end.at (m (suc from)) (h.decodes (suc from));
        known = λ none. h.known (later_unknown rest first others stood name none);
        place = h.place;
      }

      pub later_not : {last : At T} {e : Report} → NoChoice s others stood name start end last e
          → NoChoice s (before rest first others) stood name start end last e
      later_not h = record {
        none = λ from.
            let k = h.none (suc from) in
            record {
              fails = none_as c.cut (EncodesAfter s from (before rest first others) stood name)
                  (EncodesAfter s (suc from) others stood name)
                  (later_encodes s c.cut rest first others stood name other from) k.fails;
              ended = k.ended;
            };
        unknown = λ none. h.unknown (later_unknown rest first others stood name none);
      }

  -- ---- no other variant is left

  pub none_has_it : is_named stood (stands_alone rest) name first ≡ false → {start end : Position T} {last : At T} {e : Report}
      → start.at.text ≡ text_at start.place start.input → IsUnknownAt start.place name e → end ≡ given_up last start
      → NoChoice s (before rest first no_variants) stood name start end last e
  none_has_it other {start} {end} {last} text error ended = record {
    none = λ from.
        let Nothing = EncodesAfter s (suc from) no_variants stood name in
        let All = EncodesAfter s from (before rest first no_variants) stood name in
        let none = none_named s c.cut (suc from) stood name in
        record {
          fails = none_ended c.cut All last ended (none_as c.cut All Nothing
              (later_encodes s c.cut rest first no_variants stood name other from)
              (fails_here (goes_wrong c.cut Nothing start text (none []) (λ ts. none (start.at.token ∷ ts))) error.1));
          ended = ap (λ (p : Position T). p.at) ended;
        };
    unknown = λ _. error;
  }
