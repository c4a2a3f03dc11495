-- What the calls that read named fields come to: at the head of the loop, after a turn, and at each exit.
use Rattle.std.proofs.Common.{◌≡◌, ◌≢◌, ◌<◌, ◌≤◌, ℕ, List, [], ◌∷◌, ◌++◌, true, false, Option, Some}
use Rattle.std.proofs.Common.{None, Bor, inl, inr, refl, sym, ◌∙◌, ap, subst, arith, append_assoc}
use Rattle.nano_text.proofs.PlaceLaws.{moves_append}
use Rattle.nano_grammar.specs.Outcomes.{Position, Moved, Report, Fails, Took, ReadsNone, GoesWrong}
use Rattle.nano_grammar.specs.Tokens.{At, Leaves}
use Rattle.nano_grammar.specs.Faults.{AreTokens}
use Rattle.nano_grammar.proofs.FaultLaws.{LeadsTo, first_token, wrong_in}
use Rattle.nano_grammar.proofs.TokenCalls.{fails_after, none_in, none_first}
use Rattle.nano_grammar.proofs.TokensLaws.{leaves_append, tokens_left, leaves_shorter}
use Rattle.nano_grammar.proofs.TokensLaws.{token_shorter}
use Rattle.nano_grammar.specs.UserOutcomes.{FieldTokens, ReadField, HeldFields}
use Rattle.nano_grammar.specs.Fields.{Struct}
use Rattle.nano_grammar.proofs.FieldReading.{field_after, field_after_leads}
use Rattle.nano_grammar.proofs.FieldsLaws.{allowed_ends, field_ends}
use Rattle.nano_grammar.proofs.StructReading.{FieldsSoFar, fields_start, fields_next, struct_found}
use Rattle.nano_grammar.proofs.StructReading.{struct_missing, struct_opening_leads, fields_taken}
use Rattle.nano_grammar.proofs.StructReading.{struct_field_leads, struct_comma_leads}
use Rattle.nano_grammar.proofs.StructReading.{struct_field_taken, struct_closing_leads}
use Rattle.nano_json_tokens.specs.Breaks.{Breaks}
use Rattle.nano_json_tokens.specs.Cut.{Cut}
use Rattle.nano_json_tokens.specs.Token.{Token, str, colon, comma, curly_open, curly_close}
use Rattle.nano_json.proofs.Json.{json_laws}
use Rattle.nano_json_schema.specs.Reading.{Field, Shape, Allowed, EncodesField, EncodesFieldsWith}
use Rattle.nano_json_schema.specs.Reading.{name_bytes, TakesSome, IsNamed, FieldLeft, head_left}
use Rattle.nano_json_schema.specs.Reading.{StandsAfter, GoesOn, ReachedName, TookColon, TookField}
use Rattle.nano_json_schema.specs.FieldCodecs.{AfterUnknown, fields_with, goes_nowhere}
use Rattle.nano_json_schema.specs.Outcomes.{is_str}
use Rattle.nano_json_schema.proofs.Calls.{name_goes_on, no_name_pending}

-- ---- one field

-- wherever the field begins, its name and a colon were taken
head_from : (name : Option (List ℕ)) (n : List ℕ) {start end : Position Token} → TookColon name start end n
    → (here : At Token) → StandsAfter name here start.at → Leaves Cut (str n ∷ (colon ∷ [])) here end.at
head_from None n {end = end} head here stands =
    subst (λ (z : At Token). Leaves Cut (str n ∷ (colon ∷ [])) z end.at) (sym stands) head.head
head_from (Some name) n {start} {end} head here stands =
    leaves_append Cut (str n ∷ []) (colon ∷ []) here start.at end.at
    (subst (λ (x : List ℕ). Leaves Cut (str x ∷ []) here start.at) head.named stands.0) head.head

-- and at least one token
head_some : (name : Option (List ℕ)) (n : List ℕ) {start end : Position Token} → TookColon name start end n
    → TakesSome start.at end.at
head_some None n head = (str n, colon ∷ [], refl, head.head)
head_some (Some name) n head = (colon, [], refl, head.head)

module _ (unknown : AfterUnknown) where
  module _ (shape : Shape) {before after : List Field → Type 0} {start mid end : Position Token} (name : Option (List ℕ)) where
    -- its name and the colon, and the value after them
    pub field_taken : (n : List ℕ) → TookColon name start mid n
        → ReadField Cut [] n (Allowed unknown shape) before after mid end
        → TookField name start end unknown shape before after
    field_taken n head h =
        let some = head_some name n head in
        record {
          decodes = λ here stands. (
            record { name = n; value = h.value },
            field_after (fields_with unknown) json_laws n (Allowed unknown shape) here mid.at end.at h.value (head_from name n head here stands) h.allowed h.taken,
            h.held,
          );
          some = (
            some.0,
            some.1 ++ h.value,
            some.2,
            leaves_append Cut (some.0 ∷ some.1) h.value start.at mid.at end.at some.3 h.taken,
          );
          place = moves_append head.place h.place;
        }

  -- what may come after its name is left of a field
  value_leads : (shape : Shape) (name : Option (List ℕ)) (n : List ℕ) (pending : Token) → IsNamed name n
      → LeadsTo (FieldLeft unknown name shape) (FieldTokens [] n (Allowed unknown shape)) (head_left name (str n)) pending
  value_leads shape None n pending named us more rest next f h is =
      let k = field_after_leads (fields_with unknown) json_laws n (Allowed unknown shape) pending us more rest next f h is in
      (k.0, k.0, k.2, k.3, (refl, k.4), k.5)
  value_leads shape (Some name) n pending named us more rest next f h is =
      let same = ap (λ (x : List ℕ). str x ∷ us) named in
      let field = subst (λ (ts : List Token). EncodesField unknown shape ts f) same h in
      let k =
      field_after_leads (fields_with unknown) json_laws n (Allowed unknown shape) pending (str n ∷ us) more rest next f field
      (ap (λ (xs : List Token). str n ∷ xs) is) in
      (k.0, k.0, k.2, k.3, (refl, k.4), k.5)

  pub value_not : (shape : Shape) {start mid end : Position Token} (name : Option (List ℕ)) {e : Report} (n : List ℕ)
      → TookColon name start mid n → ReadsNone Cut Breaks (FieldTokens [] n (Allowed unknown shape)) mid end e
      → ReadsNone Cut Breaks (FieldLeft unknown name shape) start end e
  value_not shape {mid = mid} name n head bad =
      none_in Cut (FieldLeft unknown name shape) (FieldTokens [] n (Allowed unknown shape)) (head_left name (str n))
      (value_leads shape name n mid.at.token head.named) head.head head.place bad

  -- a field begins with its name and a colon
  colon_leads : (shape : Shape) (name : Option (List ℕ)) (pending : Token)
      → LeadsTo (FieldLeft unknown name shape) (AreTokens (head_left name pending)) [] pending
  colon_leads shape None pending us more rest next f h is =
      let k = first_token f.value next more in
      let whole = ap (λ (xs : List Token). xs ++ next ∷ more) (sym h.0) ∙ is in
      let left : colon ∷ (f.value ++ next ∷ more) ≡ rest = cc whole in (
        pending ∷ (colon ∷ []),
        tt,
        k.0,
        k.1,
        refl,
        ap (λ (xs : List Token). pending ∷ (colon ∷ xs)) (sym k.2)
            ∙ ap (λ (xs : List Token). pending ∷ xs) left,
      )
  colon_leads shape (Some name) pending us more rest next f h is =
      let k = first_token f.value next more in
      let after : us ≡ colon ∷ f.value = cc h.0 in
      let whole = ap (λ (xs : List Token). xs ++ next ∷ more) (sym after) ∙ is in
      (colon ∷ [], tt, k.0, k.1, refl, ap (λ (xs : List Token). colon ∷ xs) (sym k.2) ∙ whole)

  pub colon_not : (shape : Shape) {start end : Position Token} (name : Option (List ℕ)) {e : Report}
      → ReadsNone Cut Breaks (AreTokens (head_left name start.at.token)) start end e
      → ReadsNone Cut Breaks (FieldLeft unknown name shape) start end e
  colon_not shape {start} name bad =
      none_first Cut (FieldLeft unknown name shape) (AreTokens (head_left name start.at.token))
      (colon_leads shape name start.at.token) bad

-- ---- all fields

left_after : (name : Option (List ℕ)) (here next : At Token) → StandsAfter name here next
    → tokens_left json_laws.is_end next ≤ tokens_left json_laws.is_end here
left_after None here next stands = omega (arith, ap (tokens_left json_laws.is_end) stands)
left_after (Some name) here next stands =
    leaves_shorter Cut json_laws.is_end json_laws.shorter (str name ∷ []) here next stands.0

left_on : (following here : At Token) → GoesOn following here
    → tokens_left json_laws.is_end here ≤ tokens_left json_laws.is_end following
left_on following here (inl l) =
    leaves_shorter Cut json_laws.is_end json_laws.shorter (comma ∷ []) following here l
left_on following here (inr p) = omega (arith, ap (tokens_left json_laws.is_end) p.1)

-- a turn takes a token
pub turn_shorter : {unknown : AfterUnknown} {shape : Shape} {before after : List Field → Type 0} {start mid end : Position Token}
    {name next : Option (List ℕ)} → TookField name start mid unknown shape before after → ReachedName GoesOn next mid end
    → tokens_left json_laws.is_end end.at < tokens_left json_laws.is_end start.at
turn_shorter {start = start} {mid} {end} {next = next} field more =
    let some = field.some in
    let less = token_shorter Cut json_laws.is_end json_laws.shorter some.0 some.1 start.at mid.at some.2 some.3 in
    omega (arith, less, left_on mid.at more.here more.reached, left_after next more.here end.at more.stands)

-- a name was taken, or is pending: so no closing bracket is here
goes_on : (name : Option (Bor (List ℕ))) (here now : At Token) → StandsAfter (name_bytes name) here now
    → (name ≡ None → is_str now.token ≡ true) → here.token ≢ curly_close
goes_on None here now stands named e =
    name_goes_on now.token (named refl) (sym (ap (λ (z : At Token). z.token) stands) ∙ e)
goes_on (Some name) here now stands named e = let x = stands.0.0 ∙ e in cc x

-- where no name was taken, the reader is where a field may begin
here_is_now : (name : Option (Bor (List ℕ))) (here now : At Token) → name ≡ None
    → StandsAfter (name_bytes name) here now → here ≡ now
here_is_now name here now e = subst (λ o. StandsAfter (name_bytes o) here now) e

module _ (unknown : AfterUnknown) (struct : Struct Token) where
  -- fields are read so far and held, and the reader stands at the next name or after it
  pub record SoFar (holds : List Field → Type 0) (start now : Position Token) (name : Option (Bor (List ℕ)))
      : Type 0 where
    pub here : At Token
    pub stands : StandsAfter (name_bytes name) here now.at
    pub read : FieldsSoFar (fields_with unknown) json_laws struct holds start.at here
    pub place : Moved start now

  pub none_so_far : {holds : List Field → Type 0} {start now : Position Token} {name : Option (Bor (List ℕ))}
      → holds [] → ReachedName (λ x y. Leaves Cut (curly_open ∷ []) x y) (name_bytes name) start now
      → SoFar holds start now name
  none_so_far {holds} {start} h opened = record {
    here = opened.here;
    stands = opened.stands;
    read = fields_start (fields_with unknown) json_laws struct holds start.at opened.here opened.reached h;
    place = opened.place;
  }

  pub opening_not : {start end : Position Token} {e : Report}
      → ReadsNone Cut Breaks (AreTokens (curly_open ∷ [])) start end e
      → ReadsNone Cut Breaks (EncodesFieldsWith unknown struct.shape) start end e
  opening_not {start} bad =
      none_first Cut (EncodesFieldsWith unknown struct.shape) (AreTokens (curly_open ∷ []))
      (struct_opening_leads (fields_with unknown) json_laws struct start.at.token) bad

  -- what is left of a field where the reader stands, after the fields so far
  field_left : {holds : List Field → Type 0} (start here now : At Token) (name : Option (List ℕ))
      → (read : FieldsSoFar (fields_with unknown) json_laws struct holds start here) → StandsAfter name here now
      → here.token ≢ curly_close
      → (ts : List Token) × LeadsTo (EncodesFieldsWith unknown struct.shape) (FieldLeft unknown name struct.shape) ts now.token
      × Leaves Cut ts start now
  field_left {holds} start here now None read stands other =
      let ts = fields_taken (fields_with unknown) json_laws struct holds start here read in
      let Whole = EncodesFieldsWith unknown struct.shape in
      let Part = FieldLeft unknown None struct.shape in (
        ts,
        subst (λ (z : At Token). LeadsTo Whole Part ts z.token) stands
            (struct_field_leads (fields_with unknown) json_laws struct holds start here read other),
        subst (λ (z : At Token). Leaves Cut ts start z) stands read.read.so_far.taken,
      )
  field_left {holds} start here now (Some name) read stands other =
      let ts = fields_taken (fields_with unknown) json_laws struct holds start here read in (
        ts ++ str name ∷ [],
        after_name,
        leaves_append Cut ts (str name ∷ []) start here now read.read.so_far.taken stands.0,
      ) where
        after_name : LeadsTo (EncodesFieldsWith unknown struct.shape) (FieldLeft unknown (Some name) struct.shape)
            (fields_taken (fields_with unknown) json_laws struct holds start here read ++ str name ∷ []) now.token
        after_name us more rest next m e is =
            let ts = fields_taken (fields_with unknown) json_laws struct holds start here read in
            let joined = append_assoc ts (str name ∷ []) (now.token ∷ rest) in
            let named = ap (λ (t : Token). ts ++ t ∷ (now.token ∷ rest)) stands.0.0 in
            let k =
            struct_field_leads (fields_with unknown) json_laws struct holds start here read other us more
            (now.token ∷ rest) next m e (is ∙ (joined ∙ named)) in
            let whole = ap (λ (xs : List Token). xs ++ k.2 ∷ k.3) (sym k.4.0) ∙ k.5 in
            let first : str k.1.name ≡ here.token = cc whole in
            let left : (colon ∷ k.1.value) ++ k.2 ∷ k.3 ≡ now.token ∷ rest = cc whole in (
              colon ∷ k.1.value,
              k.1,
              k.2,
              k.3,
              (ap (λ (t : Token). t ∷ (colon ∷ k.1.value)) (stands.0.0 ∙ sym first), k.4.1),
              left,
            )

  module _ {holds : List Field → Type 0} {start now : Position Token} {name : Option (Bor (List ℕ))}
      (h : SoFar holds start now name) where
    module _ (named : name ≡ None → is_str now.at.token ≡ true) where
      pub more_so_far : {after : List Field → Type 0} {mid next : Position Token} {other : Option (Bor (List ℕ))}
          → TookField (name_bytes name) now mid unknown struct.shape holds after
          → ReachedName GoesOn (name_bytes other) mid next → SoFar after start next other
      more_so_far {after} {mid} field more = record {
        here = more.here;
        stands = more.stands;
        read =
            fields_next (fields_with unknown) json_laws struct holds after start.at h.here mid.at more.here h.read
            (goes_on name h.here now.at h.stands named) (field.decodes h.here h.stands) more.reached;
        place = moves_append h.place (moves_append field.place more.place);
      }

      pub field_not : {end : Position Token} {e : Report}
          → ReadsNone Cut Breaks (FieldLeft unknown (name_bytes name) struct.shape) now end e
          → ReadsNone Cut Breaks (EncodesFieldsWith unknown struct.shape) start end e
      field_not bad =
          let k =
          field_left start.at h.here now.at (name_bytes name) h.read h.stands
          (goes_on name h.here now.at h.stands named) in
          none_in Cut (EncodesFieldsWith unknown struct.shape) (FieldLeft unknown (name_bytes name) struct.shape) k.0 k.1 k.2 h.place bad

      pub comma_not : {after : List Field → Type 0} {mid end : Position Token} {e : Report}
          → TookField (name_bytes name) now mid unknown struct.shape holds after
          → Fails ((mid.at.token ≢ curly_close) × GoesWrong Cut Breaks (AreTokens (comma ∷ [])) mid end) mid end e
          → ReadsNone Cut Breaks (EncodesFieldsWith unknown struct.shape) start end e
      comma_not {mid = mid} field bad =
          let read = field.decodes h.here h.stands in
          let shape = struct.shape in
          let whole =
          allowed_ends (fields_with unknown) shape struct.laws.apart read.0.name read.0.value mid.at.token
          (λ _ skipped more. goes_nowhere unknown read.0.value more mid.at.token skipped) read.1.1.1 in
          let ends =
          field_ends (fields_with unknown) (Allowed unknown shape) read.1.0 read.0 mid.at.token read.1.1 whole in
          let ts = fields_taken (fields_with unknown) json_laws struct holds start.at h.here h.read in
          let moved = moves_append h.place field.place in
          fails_after (λ w. wrong_in Cut (EncodesFieldsWith unknown struct.shape) (AreTokens (comma ∷ [])) (ts ++ read.1.0)
          (struct_comma_leads (fields_with unknown) json_laws struct holds start.at h.here h.read mid.at read.0 read.1
          (goes_on name h.here now.at h.stands named) ends w.0)
          (struct_field_taken (fields_with unknown) json_laws struct holds start.at h.here h.read mid.at read.0 read.1) moved w.1) moved bad

    -- no field begins here
    module _ (none : (name ≡ None) × (is_str now.at.token ≡ false)) where
      read_here : FieldsSoFar (fields_with unknown) json_laws struct holds start.at now.at
      read_here =
          subst (λ (z : At Token). FieldsSoFar (fields_with unknown) json_laws struct holds start.at z)
          (here_is_now name h.here now.at none.0 h.stands) h.read

      pub fields_held : {same_buffers : Type 0} {end : Position Token} → Took Cut same_buffers now end (curly_close ∷ [])
          → HeldFields (fields_with unknown) struct.shape holds start end
      fields_held {end = end} close = record {
        found = struct_found (fields_with unknown) json_laws struct holds start.at now.at read_here end.at close.taken;
        missing = struct_missing (fields_with unknown) json_laws struct holds start.at now.at read_here end.at close.taken;
        place = moves_append h.place close.place;
      }

      pub closing_not : {end : Position Token} {e : Report}
          → ReadsNone Cut Breaks (AreTokens (curly_close ∷ [])) now end e
          → ReadsNone Cut Breaks (EncodesFieldsWith unknown struct.shape) start end e
      closing_not bad =
          none_in Cut (EncodesFieldsWith unknown struct.shape) (AreTokens (curly_close ∷ []))
          (fields_taken (fields_with unknown) json_laws struct holds start.at now.at read_here)
          (struct_closing_leads (fields_with unknown) json_laws struct holds start.at now.at read_here
          (no_name_pending now.at.token none.1)) read_here.read.so_far.taken h.place bad
