-- What the calls that read one named field come to, whether its name is known or not.
use Rattle.std.proofs.Common.{◌≡◌, ℕ, List, [], ◌∷◌, ◌++◌, false, true, refl, subst, sym}
use Rattle.std.proofs.Common.{◌∙◌, ◌⊎◌, ◌≢◌, ap, append_assoc, inl, inr}
use Rattle.std.specs.declared.str.Chars.{Chars}
use Rattle.nano_text.specs.Place.{text_at}
use Rattle.nano_text.proofs.PlaceLaws.{moves_append}
use Rattle.nano_grammar.specs.Outcomes.{Position, Moved, Report, IsMadeAt, Fails, Took}
use Rattle.nano_grammar.specs.Outcomes.{Read, ReadsNone}
use Rattle.nano_grammar.specs.Tokens.{Leaves}
use Rattle.nano_grammar.specs.Faults.{AreTokens}
use Rattle.nano_grammar.proofs.FaultLaws.{LeadsTo, goes_wrong}
use Rattle.nano_grammar.proofs.TokenCalls.{fails_as, fails_here, none_as, none_in, none_first}
use Rattle.nano_grammar.proofs.TokensLaws.{leaves_append}
use Rattle.nano_grammar.specs.UserOutcomes.{FieldTokens, LooksUp}
use Rattle.nano_grammar.specs.Fields.{Struct}
use Rattle.nano_grammar.proofs.FieldReading.{named_found, colon_leads, value_leads, second_of}
use Rattle.nano_grammar.proofs.FieldReading.{to_second}
use Rattle.nano_grammar.proofs.FieldCalls.{known_read}
use Rattle.nano_grammar.proofs.FieldsLaws.{allowed_ends}
use Rattle.nano_ron_tokens.specs.Breaks.{Breaks}
use Rattle.nano_ron_tokens.specs.Cut.{Cut}
use Rattle.nano_ron_tokens.specs.Token.{Token, ident, colon, comma, paren_open, paren_close}
use Rattle.nano_ron_tokens.specs.Outcomes.{position}
use Rattle.nano_ron_tokens.specs.Skipped.{NoField, Skips, SkipsBefore}
use Rattle.nano_ron_tokens.specs.declared.state.DeRonState.{DeRonState}
use Rattle.nano_ron_tokens.proofs.SkippedCalls.{none_before_other}
use Rattle.nano_ron.proofs.Ron.{ron_laws}
use Rattle.nano_ron_schema.specs.Reading.{Field, Shape, Allowed, head, EncodesField, EncodesNamed}
use Rattle.nano_ron_schema.specs.Reading.{Divided}
use Rattle.nano_ron_schema.specs.FieldCodecs.{AfterUnknown, fields_with, ron_fields}
use Rattle.nano_ron_schema.specs.FieldCodecs.{nothing_after, ident_injective}
use Rattle.nano_ron_schema.specs.Outcomes.{OtherField, TookField, TookUnknown}

-- ---- one field

module _ (name : List ℕ) {A : Type 0} (S : List Token → A → Type 0) {start : Position Token} where
  -- the pending name, a colon, and a value
  pub named_read : {same_buffers : Type 0} {mid end : Position Token} {x : A} → start.at.token ≡ ident name
      → Took Cut same_buffers start mid (start.at.token ∷ (colon ∷ [])) → Read Cut S mid end x
      → Read Cut (EncodesNamed name S) start end x
  named_read {mid = mid} {end} {x} is h value = record {
    decodes = named_found ron_fields ron_laws name S start.at mid.at end.at x is h.taken value.decodes;
    place = moves_append h.place value.place;
  }

  pub colon_not : {end : Position Token} {e : Report}
      → ReadsNone Cut Breaks (AreTokens (start.at.token ∷ (colon ∷ []))) start end e
      → ReadsNone Cut Breaks (EncodesNamed name S) start end e
  colon_not bad =
      none_first Cut (EncodesNamed name S) (AreTokens (start.at.token ∷ (colon ∷ [])))
      (colon_leads ron_fields ron_laws name S start.at.token) bad

  pub value_not : {same_buffers : Type 0} {mid end : Position Token} {e : Report}
      → Took Cut same_buffers start mid (start.at.token ∷ (colon ∷ [])) → ReadsNone Cut Breaks S mid end e
      → ReadsNone Cut Breaks (EncodesNamed name S) start end e
  value_not {mid = mid} h bad =
      none_in Cut (EncodesNamed name S) S (start.at.token ∷ (colon ∷ []))
      (value_leads ron_fields ron_laws name S start.at.token mid.at.token) h.taken h.place bad

-- ---- what divides a list after a field

-- without it nothing stands here, and with it neither
pub divided_not : {A : Type 0} (S : List Token → A → Type 0) {start end : Position Token} {e : Report}
    → ReadsNone Cut Breaks S start end e → ReadsNone Cut Breaks (Divided S) start end e
divided_not S bad =
    none_first Cut (Divided S) S (λ us more rest next x d is.
    let joined = append_assoc d.0 (d.1 ∷ []) (next ∷ more) in
    let whole = sym joined ∙ (ap (λ (xs : List Token). xs ++ next ∷ more) (sym d.2) ∙ is) in
    (d.0, x, d.1, next ∷ more, d.3, whole)) bad

-- what encodes one thing encodes another
divided_as : {A B : Type 0} (S : List Token → A → Type 0) (R : List Token → B → Type 0) {start end : Position Token}
    {e : Report} → ((us : List Token) (x : A) → S us x → (y : B) × R us y)
    → ReadsNone Cut Breaks (Divided R) start end e → ReadsNone Cut Breaks (Divided S) start end e
divided_as S R into bad =
    none_as Cut (Divided S) (Divided R) (λ us x d.
    let y = into d.0 x d.3 in
    (y.0, (d.0, d.1, d.2, y.1, d.4))) bad

-- ---- a field whose name is not known

-- nothing may come after it
pub rejected_not : (name : List ℕ) {start mid : Position Token} {e : Report}
    → start.at.text ≡ text_at start.place start.input → mid ≡ start → IsMadeAt mid.place e
    → ReadsNone Cut Breaks (OtherField name nothing_after) start mid e
rejected_not name {start} {mid} {e} text still made =
    let Value = OtherField name nothing_after in
    let none : (ts : List Token) (x : Unit {0}) → Value ts x → ⊥ = λ ts x v. v.2 in
    subst (λ (p : Position Token). ReadsNone Cut Breaks Value start p e) (sym still)
    (fails_here (goes_wrong Cut Value start text (none []) (λ ts. none (start.at.token ∷ ts)))
    (subst (λ (p : Position Token). IsMadeAt p.place e) still made))

-- what may come after it was taken
pub skipped_taken : (name : List ℕ) (unknown : AfterUnknown) {same_buffers other : Type 0}
    {start mid end : Position Token} (us : List Token) → start.at.token ≡ ident name
    → Took Cut other start mid (start.at.token ∷ (colon ∷ [])) → unknown.Value us
    → ((more : List Token) → unknown.Value (us ++ end.at.token ∷ more) → ⊥)
    → Took Cut same_buffers mid end us → TookUnknown name unknown start end
skipped_taken name unknown {start = start} {mid} {end} us is head_taken value whole h = record {
  value = us;
  allowed = value;
  taken =
      leaves_append Cut (head name) us start.at mid.at end.at
      (subst (λ (t : Token). Leaves Cut (t ∷ (colon ∷ [])) start.at mid.at) is head_taken.taken) h.taken;
  whole = whole;
  place = moves_append head_taken.place h.place;
}

-- the name and the colon were taken, and no such thing stands after them
pub skipped_not : (name : List ℕ) (unknown : AfterUnknown) {same_buffers : Type 0} {start mid end : Position Token}
    {e : Report} → Took Cut same_buffers start mid (start.at.token ∷ (colon ∷ []))
    → ReadsNone Cut Breaks (Divided (λ us (x : Unit {0}). unknown.Value us)) mid end e
    → ReadsNone Cut Breaks (Divided (OtherField name unknown)) start end e
skipped_not name unknown {start = start} {mid} h bad =
    let Other = Divided (OtherField name unknown) in
    let Value : List Token → Unit {0} → Type 0 = λ us x. unknown.Value us in
    none_in Cut Other (Divided Value) (start.at.token ∷ (colon ∷ [])) value_left h.taken h.place bad where
      value_left : LeadsTo (Divided (OtherField name unknown)) (Divided (λ us (x : Unit {0}). unknown.Value us))
          (start.at.token ∷ (colon ∷ [])) mid.at.token
      value_left us more rest next x d is =
          let tokens = d.2 ∙ ap (λ (xs : List Token). xs ++ d.1 ∷ []) d.3.1 in
          let whole = ap (λ (xs : List Token). xs ++ next ∷ more) (sym tokens) ∙ is in
          let left : (d.3.0 ++ d.1 ∷ []) ++ next ∷ more ≡ mid.at.token ∷ rest = cc whole in
          (d.3.0 ++ d.1 ∷ [], x, next, more, (d.3.0, d.1, refl, d.3.2, d.4), left)

-- what divides a list is no opening parenthesis
opens_nothing : (t : Token) → (t ≡ comma) ⊎ (t ≡ paren_close) → t ≢ paren_open
opens_nothing t (inl e) f = let both = sym e ∙ f in cc both
opens_nothing t (inr e) f = let both = sym e ∙ f in cc both

-- no field that may be skipped stands here, with what divides a list after it
pub nothing_skipped : (old new : DeRonState) (i j : Chars) {e : Report}
    → Fails (NoField old i new j) (position old i) (position new j) e
    → ReadsNone Cut Breaks (Divided Skips) (position old i) (position new j) e
nothing_skipped old new i j h =
    none_as Cut (Divided Skips) SkipsBefore (λ ts x d. (
      tt,
      record {
        field = d.0;
        next = d.1;
        are = d.2;
        skipped = d.3;
        other = opens_nothing d.1 d.4;
      },
    )) (fails_as (λ w. none_before_other old new i j w) h)

module _ (unknown : AfterUnknown) (name : List ℕ) (struct : Struct Token) where
  -- a known value is whole
  pub known_field : {before after : List Field → Type 0} {same : Type 0} {start mid : Position Token}
      → LooksUp Cut (head name) name struct.shape before after same start mid true
      → TookField name struct.shape before after unknown start mid
  known_field {mid = mid} h =
      let style = fields_with unknown in
      let read = known_read style name struct.shape (head name) h in
      record {
        read = read;
        whole =
            allowed_ends style struct.shape struct.laws.apart name read.value mid.at.token
            (λ none. absurd (let both = h.known_is ∙ none in cc both)) read.allowed;
      }

  module _ {start mid end : Position Token} (none : struct.shape.knows name ≡ false) (still : mid ≡ start)
    where
      pub other_field : {before after : List Field → Type 0} → TookUnknown name unknown mid end
          → ((fs : List Field) (f : Field) → struct.shape.knows f.name ≡ false → before fs → after (fs ++ f ∷ []))
          → TookField name struct.shape before after unknown start end
      other_field h skips =
          let shape = struct.shape in
          let takes = shape.takes name h.value in
          let allowed = to_second (shape.knows name) takes (unknown.Value h.value) none h.allowed in
          record {
            read = record {
              value = h.value;
              allowed = allowed;
              taken =
                  subst (λ (p : Position Token). Leaves Cut (head name ++ h.value) p.at end.at) still h.taken;
              held = λ fs x. skips fs (record { name = name; value = h.value }) none x;
              place = subst (λ (p : Position Token). Moved p end) still h.place;
            };
            whole =
                allowed_ends (fields_with unknown) shape struct.laws.apart name h.value end.at.token
                (λ _ _ more k. h.whole more k) allowed;
          }

      pub no_other : {e : Report} → ReadsNone Cut Breaks (Divided (OtherField name unknown)) mid end e
          → ReadsNone Cut Breaks (Divided (FieldTokens (head name) name (Allowed unknown struct.shape))) start end e
      no_other {e} h =
          let shape = struct.shape in
          let Value = FieldTokens (head name) name (Allowed unknown shape) in
          subst (λ (p : Position Token). ReadsNone Cut Breaks (Divided Value) p end e) still
          (divided_as Value (OtherField name unknown) (λ ts us f. (
            tt,
            (us, f.0, second_of (shape.knows name) (shape.takes name us) (unknown.Value us) none f.1),
          )) h)

-- ---- a field

-- a field whose name is pending is this name, and what may come after it
pub tokens_lead : (unknown : AfterUnknown) (name : List ℕ) (shape : Shape) (pending : Token) → pending ≡ ident name
    → LeadsTo (Divided (EncodesField unknown shape)) (Divided (FieldTokens (head name) name (Allowed unknown shape))) [] pending
tokens_lead unknown name shape pending named us more rest next f d is =
    let h = d.3 in
    let tokens = d.2 ∙ ap (λ (xs : List Token). xs ++ d.1 ∷ []) h.0 in
    let whole = ap (λ (xs : List Token). xs ++ next ∷ more) (sym tokens) ∙ is in
    let first : ident f.name ≡ pending = cc whole in
    let same = ident_injective f.name name (first ∙ named) in
    let under = h.0 ∙ ap (λ (n : List ℕ). head n ++ f.value) same in
    let value = subst (λ (n : List ℕ). Allowed unknown shape n f.value) same h.1 in
    (us, f.value, next, more, (d.0, d.1, d.2, (under, value), d.4), is)
