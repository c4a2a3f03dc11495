-- What the calls that read named fields come to: at the head of the loop, after a turn, and at each
-- exit.
use Rattle.std.proofs.Common.{◌≡◌, ◌≢◌, ◌<◌, ℕ, List, [], ◌∷◌, ◌++◌, false, true, refl, sym}
use Rattle.std.proofs.Common.{◌∙◌, ◌⊎◌, ap, append_assoc, inl, inr}
use Rattle.nano_text.proofs.PlaceLaws.{moves_append}
use Rattle.nano_grammar.specs.Outcomes.{Position, Moved, Report, Fails, Took, TookComma}
use Rattle.nano_grammar.specs.Outcomes.{ReadsNone, GoesWrong}
use Rattle.nano_grammar.specs.Tokens.{Spans}
use Rattle.nano_grammar.specs.Faults.{AreTokens}
use Rattle.nano_grammar.proofs.FaultLaws.{LeadsTo, first_token, wrong_in}
use Rattle.nano_grammar.specs.Items.{EncodedItems}
use Rattle.nano_grammar.proofs.TokenCalls.{fails_after, none_in, none_first}
use Rattle.nano_grammar.proofs.TokensLaws.{tokens_left}
use Rattle.nano_grammar.specs.UserOutcomes.{FieldTokens, HeldFields}
use Rattle.nano_grammar.specs.Fields.{Struct}
use Rattle.nano_grammar.proofs.FieldsLaws.{field_ends}
use Rattle.nano_grammar.proofs.StructReading.{FieldsSoFar, fields_start, fields_next, field_shorter}
use Rattle.nano_grammar.proofs.StructReading.{struct_found, struct_missing, struct_opening_leads}
use Rattle.nano_grammar.proofs.StructReading.{struct_comma_leads, fields_taken}
use Rattle.nano_grammar.proofs.StructReading.{struct_field_taken, struct_closing_leads}
use Rattle.nano_ron_tokens.specs.Breaks.{Breaks}
use Rattle.nano_ron_tokens.specs.Cut.{Cut}
use Rattle.nano_ron_tokens.specs.Token.{Token, ident, comma, paren_open, paren_close}
use Rattle.nano_ron_tokens.specs.Token.{parens}
use Rattle.nano_ron.proofs.Ron.{ron_laws}
use Rattle.nano_ron_schema.specs.Reading.{Field, Allowed, head, EncodesField}
use Rattle.nano_ron_schema.specs.Reading.{Divided, EncodesFieldsWith}
use Rattle.nano_ron_schema.specs.FieldCodecs.{AfterUnknown, fields_with}
use Rattle.nano_ron_schema.specs.Outcomes.{is_ident, TookField}
use Rattle.nano_ron_schema.proofs.Calls.{name_goes_on, no_name_pending}
use Rattle.nano_ron_schema.proofs.FieldCalls.{tokens_lead}

-- ---- all fields

module _ (unknown : AfterUnknown) (struct : Struct Token) where
  -- fields are read so far and held
  pub record SoFar (holds : List Field → Type 0) (start now : Position Token) : Type 0 where
    pub read : FieldsSoFar (fields_with unknown) ron_laws struct holds start.at now.at
    pub place : Moved start now

  pub none_so_far : {holds : List Field → Type 0} {same_buffers : Type 0} {start now : Position Token} → holds []
      → Took Cut same_buffers start now (paren_open ∷ []) → SoFar holds start now
  none_so_far {holds} {start = start} {now} h opened = record {
    read = fields_start (fields_with unknown) ron_laws struct holds start.at now.at opened.taken h;
    place = opened.place;
  }

  pub opening_not : {start end : Position Token} {e : Report}
      → ReadsNone Cut Breaks (AreTokens (paren_open ∷ [])) start end e
      → ReadsNone Cut Breaks (EncodesFieldsWith unknown struct.shape) start end e
  opening_not {start} bad =
      none_first Cut (EncodesFieldsWith unknown struct.shape) (AreTokens (paren_open ∷ []))
      (struct_opening_leads (fields_with unknown) ron_laws struct start.at.token) bad

  module _ {name : List ℕ} {before after : List Field → Type 0} {now mid : Position Token}
      (field : TookField name struct.shape before after unknown now mid) where
    abbrev one : Field
    one = record { name = name; value = field.read.value }

    spans : Spans Cut (EncodesField unknown struct.shape) now.at mid.at one
    spans = (head name ++ field.read.value, (refl, field.read.allowed), field.read.taken)

    -- a turn takes a token
    pub turn_shorter : {same_buffers same : Type 0} {next : Position Token}
        → TookComma Cut same_buffers mid next comma paren_close same
        → tokens_left ron_laws.is_end next.at < tokens_left ron_laws.is_end now.at
    turn_shorter {next = next} more =
        field_shorter (fields_with unknown) ron_laws struct now.at mid.at next.at one spans more.taken

    module _ {start : Position Token} (h : SoFar before start now) (named : is_ident now.at.token ≡ true) where
      pub more_so_far : {same_buffers same : Type 0} {next : Position Token}
          → TookComma Cut same_buffers mid next comma paren_close same → SoFar after start next
      more_so_far {next = next} more = record {
        read =
            fields_next (fields_with unknown) ron_laws struct before after start.at now.at mid.at next.at h.read
            (name_goes_on now.at.token named) (one, spans, field.read.held) more.taken;
        place = moves_append h.place (moves_append field.read.place more.place);
      }

      pub comma_not : {end : Position Token} {e : Report}
          → Fails ((mid.at.token ≢ paren_close) × GoesWrong Cut Breaks (AreTokens (comma ∷ [])) mid end) mid end e
          → ReadsNone Cut Breaks (EncodesFieldsWith unknown struct.shape) start end e
      comma_not bad =
          let moved = moves_append h.place field.read.place in
          let ts = fields_taken (fields_with unknown) ron_laws struct before start.at now.at h.read in
          let ends =
          field_ends (fields_with unknown) (Allowed unknown struct.shape) spans.0 one mid.at.token spans.1
          field.whole in
          fails_after (λ w. wrong_in Cut (EncodesFieldsWith unknown struct.shape) (AreTokens (comma ∷ [])) (ts ++ spans.0)
          (struct_comma_leads (fields_with unknown) ron_laws struct before start.at now.at h.read mid.at one spans
          (name_goes_on now.at.token named) ends w.0)
          (struct_field_taken (fields_with unknown) ron_laws struct before start.at now.at h.read mid.at one spans) moved w.1) moved bad

  module _ {holds : List Field → Type 0} {start now : Position Token} (h : SoFar holds start now) where
    -- what is left of the fields begins with one, and what divides the list after it
    divided_leads : now.at.token ≢ paren_close
        → LeadsTo (EncodesFieldsWith unknown struct.shape) (Divided (EncodesField unknown struct.shape))
        (fields_taken (fields_with unknown) ron_laws struct holds start.at now.at h.read) now.at.token
    divided_leads goes_on us more rest next m e is =
        let k = h.read.read.so_far.still.all us more rest next e.0 e.1 is in
        leads k.0 k.1 k.2 k.3 where
          AnyField : List Token → Field → Type 0
          AnyField = EncodesField unknown struct.shape

          Left : Type 0
          Left = (xs : List Token) × (f : Field) × (u : Token) × (left : List Token) × Divided AnyField xs f
              × (xs ++ u ∷ left ≡ now.at.token ∷ rest)

          before : (a : List Token) (f : Field) (t u : Token) (left : List Token) → AnyField a f
              → (t ≡ comma) ⊎ (t ≡ paren_close) → a ++ t ∷ (u ∷ left) ≡ now.at.token ∷ rest → Left
          before a f t u left field divides whole =
              (a ++ t ∷ [], f, u, left, (a, t, refl, field, divides), append_assoc a (t ∷ []) (u ∷ left) ∙ whole)

          leads : (back : List Token) (fs : List Field) → EncodedItems parens AnyField back fs
              → back ++ next ∷ more ≡ now.at.token ∷ rest → Left
          leads back [] l left =
              let whole = ap (λ (xs : List Token). xs ++ next ∷ more) (sym l) ∙ left in
              let first : paren_close ≡ now.at.token = cc whole in
              absurd (goes_on (sym first))
          leads back (f ∷ fs) l left =
              let joined = append_assoc l.0 l.1 (next ∷ more) in
              let whole = sym joined ∙ (ap (λ (xs : List Token). xs ++ next ∷ more) (sym l.2) ∙ left) in
              elim l.4 [
                | inl p ↦
                    let closed = ap (λ (xs : List Token). l.0 ++ (xs ++ next ∷ more)) (sym p.0) in
                    before l.0 f paren_close next more l.3 (inr refl) (closed ∙ whole)
                | inr p ↦
                    let w = first_token p.0 next more in
                    let others = ap (λ (xs : List Token). l.0 ++ (xs ++ next ∷ more)) (sym p.1) in
                    let after = ap (λ (xs : List Token). l.0 ++ comma ∷ xs) (sym w.2) in
                    before l.0 f comma w.0 w.1 l.3 (inl refl) (after ∙ (others ∙ whole))
              ]

    pub field_not : {name : List ℕ} {end : Position Token} {e : Report} → now.at.token ≡ ident name
        → is_ident now.at.token ≡ true
        → ReadsNone Cut Breaks (Divided (FieldTokens (head name) name (Allowed unknown struct.shape))) now end e
        → ReadsNone Cut Breaks (EncodesFieldsWith unknown struct.shape) start end e
    field_not {name} is named bad =
        let Field = Divided (EncodesField unknown struct.shape) in
        none_in Cut (EncodesFieldsWith unknown struct.shape) Field
        (fields_taken (fields_with unknown) ron_laws struct holds start.at now.at h.read)
        (divided_leads (name_goes_on now.at.token named)) h.read.read.so_far.taken h.place
        (none_first Cut Field (Divided (FieldTokens (head name) name (Allowed unknown struct.shape)))
        (tokens_lead unknown name struct.shape now.at.token is) bad)

    pub fields_held : {same_buffers : Type 0} {end : Position Token} → Took Cut same_buffers now end (paren_close ∷ [])
        → HeldFields (fields_with unknown) struct.shape holds start end
    fields_held {end = end} close = record {
      found = struct_found (fields_with unknown) ron_laws struct holds start.at now.at h.read end.at close.taken;
      missing = struct_missing (fields_with unknown) ron_laws struct holds start.at now.at h.read end.at close.taken;
      place = moves_append h.place close.place;
    }

    pub closing_not : {end : Position Token} {e : Report} → is_ident now.at.token ≡ false
        → ReadsNone Cut Breaks (AreTokens (paren_close ∷ [])) now end e
        → ReadsNone Cut Breaks (EncodesFieldsWith unknown struct.shape) start end e
    closing_not none bad =
        none_in Cut (EncodesFieldsWith unknown struct.shape) (AreTokens (paren_close ∷ []))
        (fields_taken (fields_with unknown) ron_laws struct holds start.at now.at h.read)
        (struct_closing_leads (fields_with unknown) ron_laws struct holds start.at now.at h.read
        (no_name_pending now.at.token none)) h.read.read.so_far.taken h.place bad
