-- What the calls that read one value come to, whatever the tokens are.
use Rattle.std.proofs.Common.{List, [], ◌∷◌, ◌++◌, ◌≡◌, ◌≢◌, Some, None, refl, sym}
use Rattle.nano_value.specs.Meaning.{Meaning, IsImage, optional, nothing}
use Rattle.nano_grammar.proofs.TokensLaws.{CutLaws, leaves_append}
use Rattle.nano_grammar.specs.Tokens.{Cutting, At}
use Rattle.nano_grammar.specs.Faults.{AreTokens}
use Rattle.nano_grammar.specs.Items.{EncodedPair}
use Rattle.nano_grammar.specs.Codec.{Grammar, IsEncoding, BeginsValue}
use Rattle.nano_grammar.proofs.FaultLaws.{goes_wrong, stopped_here}
use Rattle.nano_grammar.proofs.PartReading.{pair_found, first_leads, punctuator_leads, second_leads}
use Rattle.nano_text.specs.Place.{text_at}
use Rattle.nano_text.proofs.PlaceLaws.{moves_append}
use Rattle.nano_grammar.specs.Scalars.{EncodesOption, EncodesOne, EncodesUnit}
use Rattle.nano_grammar.specs.Outcomes.{Report, Position, IsMadeAt, Uncut, Fails, TookNext}
use Rattle.nano_grammar.specs.Outcomes.{Took, Read, ReadsNone, ReadsNoneAndEnds}
use Rattle.nano_grammar.proofs.TokenCalls.{fails_here, none_in, none_first, none_as}
use Rattle.nano_grammar.proofs.Reading.{image_spans, image_encodes, one_spans, one_some, one_other}
use Rattle.nano_grammar.proofs.Reading.{token_taken, none_spans, some_spans, option_some, some_leads}

-- ==== reading calls

-- ---- one token

-- what is left after the pending token is the remaining input
abbrev IsAt : {T : Type 0} → Position T → Type 0
IsAt p = p.at.text ≡ text_at p.place p.input

module _ {T : Type 0} (c : Cutting T) {A : Type 0} (f : A → Meaning) (carries : T → A → Type 0)
    (P : A → Type 0) where
  pub one_read : {buffered : Type 0} {start end : Position T} (x : A) → carries start.at.token x → P x
      → TookNext c.cut buffered start end
      → Read c.cut (λ ts. IsImage f (EncodesOne carries P ts)) start end (f x)
  one_read {start = start} {end = end} x h p k = record {
    decodes = image_spans c f start.at end.at x (one_spans c carries P start.at end.at x h p k.taken);
    place = k.place;
  }

  -- where the pending token is no such value
  pub one_not : {start : Position T} {e : Report} → IsAt start → ((x : A) → carries start.at.token x → P x → ⊥)
      → IsMadeAt start.place e
      → ReadsNone c.cut c.breaks (λ ts. IsImage f (EncodesOne carries P ts)) start start e
  one_not {start} text other made = none_as c.cut _ (EncodesOne carries P) (image_encodes c (EncodesOne carries P) f)
      (fails_here (goes_wrong c.cut (EncodesOne carries P) start text (one_some c carries P)
      (one_other c carries P start.at.token other)) made)

  -- where no token can be cut after it
  pub one_stopped : {start end : Position T} {e : Report} → IsAt start → Fails (Uncut c.cut c.breaks start end) start end e
      → ReadsNone c.cut c.breaks (λ ts. IsImage f (EncodesOne carries P ts)) start end e
  one_stopped text h = stopped_here c.cut _ text (λ m x. one_some c carries P x.part x.has) h

-- ---- the token that is nothing

module _ {T : Type 0} (c : Cutting T) (t : T) where
  pub unit_read : {buffered : Type 0} {start end : Position T} → start.at.token ≡ t → TookNext c.cut buffered start end
      → Read c.cut (EncodesUnit (t ∷ [])) start end nothing
  unit_read {start = start} {end = end} is h = record {
    decodes = (t ∷ [], record { one = refl; is = refl }, token_taken c t start.at end.at (sym is) h.taken);
    place = h.place;
  }

  pub unit_stopped : {start end : Position T} {e : Report} → IsAt start → Fails (Uncut c.cut c.breaks start end) start end e
      → ReadsNone c.cut c.breaks (EncodesUnit (t ∷ [])) start end e
  unit_stopped text h = stopped_here c.cut _ text (λ m x. absurd (cc x.one)) h

  pub unit_not : {start : Position T} {e : Report} → IsAt start → start.at.token ≢ t → IsMadeAt start.place e
      → ReadsNone c.cut c.breaks (EncodesUnit (t ∷ [])) start start e
  unit_not {start} text other made = fails_here (goes_wrong c.cut _ start text (λ m x. absurd (cc x.one))
      (λ ts m x. let same : start.at.token ≡ t = cc x.one in other same)) made

module _ {T : Type 0} {c : Cutting T} {g : Grammar T} (r : CutLaws c g) where
  -- ---- options

  module _ (S : List T → Meaning → Type 0) where
    pub none_read : {buffered : Type 0} {start end : Position T} → start.at.token ≡ g.none → TookNext c.cut buffered start end
        → Read c.cut (λ ts. IsImage optional (EncodesOption g.none S ts)) start end (optional None)
    none_read {start = start} {end = end} is h = record {
      decodes = image_spans c optional start.at end.at None (none_spans r S start.at end.at is h.taken);
      place = h.place;
    }

    pub none_stopped : {start end : Position T} {e : Report} → IsAt start → Fails (Uncut c.cut c.breaks start end) start end e
        → ReadsNone c.cut c.breaks (λ ts. IsImage optional (EncodesOption g.none S ts)) start end e
    none_stopped {start = start} text h = stopped_here c.cut _ text (λ m x. option_some r S start.at x.part x.has) h

    pub some_read : {start end : Position T} (x : Meaning) → ((ts : List T) (y : Meaning) → S ts y → BeginsValue g ts)
        → start.at.token ≢ g.none → Read c.cut S start end x
        → Read c.cut (λ ts. IsImage optional (EncodesOption g.none S ts)) start end (optional (Some x))
    some_read {start} {end} x begins other h = record {
      decodes = image_spans c optional start.at end.at (Some x) (some_spans r S start.at end.at x begins other h.decodes);
      place = h.place;
    }

    pub some_not : {start end : Position T} {e : Report} → start.at.token ≢ g.none
        → ReadsNone c.cut c.breaks S start end e
        → ReadsNone c.cut c.breaks (λ ts. IsImage optional (EncodesOption g.none S ts)) start end e
    some_not {start} other h =
        none_as c.cut _ (EncodesOption g.none S) (image_encodes c (EncodesOption g.none S) optional)
        (none_first c.cut (EncodesOption g.none S) S (some_leads r S start.at start.at.token other) h)

  -- ---- entries: a key, a token and a value

  module _ (punctuator : T) {P : Meaning → Type 0} {S : List T → Meaning → Type 0} (s : IsEncoding g P S)
      (R : List T → Meaning → Type 0) where
    pub entry_read : {buffered : Type 0} {start m k end : Position T} {x y : Meaning} → Read c.cut S start m x
        → Took c.cut buffered m k (punctuator ∷ []) → Read c.cut R k end y
        → Read c.cut (EncodedPair punctuator S R) start end (x, y)
    entry_read {start = start} {m} {k} {end} {x} {y} key colon value = record {
      decodes = pair_found punctuator S s.none_begins R c.cut start.at m.at k.at end.at x y key.decodes colon.taken value.decodes;
      place = moves_append key.place (moves_append colon.place value.place);
    }

    pub key_not : {last : At T} {start end : Position T} {e : Report} → ReadsNoneAndEnds c.cut c.breaks S start end last e
        → ReadsNone c.cut c.breaks (EncodedPair punctuator S R) start end e
    key_not {start = start} h =
        none_first c.cut (EncodedPair punctuator S R) S (first_leads punctuator S s.none_begins R start.at.token) h.fails

    pub colon_not : {start m end : Position T} {x : Meaning} {e : Report} → Read c.cut S start m x
        → ReadsNone c.cut c.breaks (AreTokens (punctuator ∷ [])) m end e
        → ReadsNone c.cut c.breaks (EncodedPair punctuator S R) start end e
    colon_not {m = m} {x = x} key h =
        let k = key.decodes in
        none_in c.cut (EncodedPair punctuator S R) (AreTokens (punctuator ∷ [])) k.0
        (punctuator_leads punctuator S s.none_begins R k.0 x k.1 m.at.token) k.2 key.place h

    pub value_not : {buffered : Type 0} {last : At T} {start m k end : Position T} {x : Meaning} {e : Report}
        → Read c.cut S start m x → Took c.cut buffered m k (punctuator ∷ []) → ReadsNoneAndEnds c.cut c.breaks R k end last e
        → ReadsNone c.cut c.breaks (EncodedPair punctuator S R) start end e
    value_not {start = start} {m} {k} {x = x} key colon h =
        let i = key.decodes in
        none_in c.cut (EncodedPair punctuator S R) R (i.0 ++ punctuator ∷ [])
        (second_leads punctuator S s.none_begins R i.0 x i.1 k.at.token)
        (leaves_append c.cut i.0 (punctuator ∷ []) start.at m.at k.at i.2 colon.taken)
        (moves_append key.place colon.place) h.fails
