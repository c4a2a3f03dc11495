-- What a reader of named fields knows at the head of the loop, and at its exits.
use Rattle.std.proofs.Common.{◌≡◌, ◌≢◌, ◌<◌, ℕ, List, [], ◌∷◌, ◌++◌, sym, ◌∙◌, ap, subst}
use Rattle.nano_value.specs.Meaning.{Meaning}
use Rattle.nano_grammar.proofs.TokensLaws.{CutLaws, tokens_left}
use Rattle.nano_grammar.specs.Tokens.{Cutting, At, Leaves, Spans}
use Rattle.nano_grammar.specs.Faults.{AreTokens, Fault, wrong}
use Rattle.nano_grammar.specs.Items.{ListPunctuation, EncodedItems, EncodedList}
use Rattle.nano_grammar.specs.Codec.{Grammar}
use Rattle.nano_grammar.proofs.ItemLaws.{same_prefix, EndsAt}
use Rattle.nano_grammar.proofs.ListsLaws.{IsItem}
use Rattle.nano_grammar.proofs.FaultLaws.{LeadsTo}
use Rattle.nano_grammar.proofs.Containers.{ReadSoFar, read_start, item_shorter, read_next}
use Rattle.nano_grammar.proofs.Containers.{read_found, read_opening_leads, read_item_leads}
use Rattle.nano_grammar.proofs.Containers.{read_comma_leads, item_taken}
use Rattle.nano_grammar.proofs.PartReading.{CommaTaken}
use Rattle.nano_grammar.specs.Fields.{FieldStyle, Field, Allowed, EncodedField, EncodedFields}
use Rattle.nano_grammar.specs.Fields.{Struct}
use Rattle.nano_grammar.proofs.FieldsLaws.{any_item, one_list, no_list_begins}

module _ {T : Type 0} {c : Cutting T} {g : Grammar T} (s : FieldStyle c g) (r : CutLaws c g)
    (struct : Struct T) where
  abbrev Punctuation : ListPunctuation T
  Punctuation = s.list.tokens

  -- a field of a text: one that is known, or one that is skipped
  abbrev pub AnyField : List T → Field T → Type 0
  AnyField = EncodedField s (Allowed s struct.shape)

  -- named fields between brackets
  abbrev AllFields : List T → List (Field T) → Type 0
  AllFields = EncodedList Punctuation AnyField

  abbrev AStruct : List T → Meaning → Type 0
  AStruct = EncodedFields s struct.shape

  is_item : IsItem g s.list.tokens AnyField
  is_item = any_item s struct.shape struct.laws

  -- these fields are read, and are held
  pub record FieldsSoFar (holds : List (Field T) → Type 0) (start here : At T) : Type 0 where
    pub fields : List (Field T)
    pub read : ReadSoFar r Punctuation AnyField start here fields
    pub held : holds fields

  pub fields_start : (holds : List (Field T) → Type 0) (start here : At T)
      → Leaves c.cut (Punctuation.opening ∷ []) start here → holds [] → FieldsSoFar holds start here
  fields_start holds start here l h =
      record { fields = []; read = read_start r Punctuation s.brackets is_item start here l; held = h }

  -- a field takes at least one token, with the comma after it
  pub field_shorter : (here following next : At T) (f : Field T) → Spans c.cut AnyField here following f
      → CommaTaken c.cut Punctuation following next
      → tokens_left r.is_end next < tokens_left r.is_end here
  field_shorter = item_shorter r Punctuation s.brackets is_item

  pub fields_next : (holds after : List (Field T) → Type 0) (start here following next : At T)
      → FieldsSoFar holds start here → here.token ≢ Punctuation.closing
      → (f : Field T) × Spans c.cut AnyField here following f
      × ((fs : List (Field T)) → holds fs → after (fs ++ f ∷ []))
      → CommaTaken c.cut Punctuation following next → FieldsSoFar after start next
  fields_next holds after start here following next so_far goes_on f taken =
      let fields = so_far.fields in
      record {
        fields = fields ++ f.0 ∷ [];
        read = read_next r Punctuation s.brackets is_item start here following next fields f.0 so_far.read goes_on f.1 taken;
        held = f.2 fields so_far.held;
      }

  -- ---- what a list of fields leads to, a struct does

  struct_leads : {W : Type 0} (part : List T → W → Type 0) (ts : List T) (pending : T)
      → LeadsTo AllFields part ts pending → LeadsTo AStruct part ts pending
  struct_leads part ts pending leads us more rest next m e is = leads us more rest next e.0 e.1 is

  pub struct_opening_leads : (pending : T)
      → LeadsTo AStruct (AreTokens (Punctuation.opening ∷ [])) [] pending
  struct_opening_leads pending =
      struct_leads (AreTokens (Punctuation.opening ∷ [])) [] pending
      (read_opening_leads r Punctuation s.brackets is_item pending)

  module _ (holds : List (Field T) → Type 0) (start here : At T)
      (so_far : FieldsSoFar holds start here) where
    -- the tokens that were taken
    abbrev pub fields_taken : List T
    fields_taken = so_far.read.so_far.prefix

    pub struct_field_leads : here.token ≢ Punctuation.closing
        → LeadsTo AStruct AnyField fields_taken here.token
    struct_field_leads goes_on =
        struct_leads AnyField fields_taken here.token
        (read_item_leads r Punctuation s.brackets is_item start here so_far.fields so_far.read goes_on)

    module _ (following : At T) (f : Field T) (h : Spans c.cut AnyField here following f) where
      pub struct_comma_leads : here.token ≢ Punctuation.closing → EndsAt AnyField h.0 following.token
          → following.token ≢ Punctuation.closing
          → LeadsTo AStruct (AreTokens (Punctuation.comma ∷ [])) (fields_taken ++ h.0) following.token
      struct_comma_leads goes_on ends other =
          struct_leads (AreTokens (Punctuation.comma ∷ [])) (fields_taken ++ h.0) following.token
          (read_comma_leads r Punctuation s.brackets is_item start here so_far.fields so_far.read following f goes_on h ends other)

      pub struct_field_taken : Leaves c.cut (fields_taken ++ h.0) start following
      struct_field_taken =
          item_taken r Punctuation s.brackets is_item start here so_far.fields so_far.read following f h

    -- where no name is pending, the closing bracket must be
    pub struct_closing_leads : ((name : List ℕ) → here.token ≢ s.name name)
        → LeadsTo AStruct (AreTokens (Punctuation.closing ∷ [])) fields_taken here.token
    struct_closing_leads none us more rest next m e is =
        let k = so_far.read.so_far.still.all us more rest next e.0 e.1 is in
        closes k.0 k.1 k.2 k.3 where
          closes : (back : List T) (fs : List (Field T)) → EncodedItems Punctuation AnyField back fs
              → back ++ next ∷ more ≡ here.token ∷ rest
              → (xs : List T) × (w : Unit {0}) × (u : T) × (left : List T)
              × AreTokens (Punctuation.closing ∷ []) xs w × (xs ++ u ∷ left ≡ here.token ∷ rest)
          closes back [] l left = (back, tt, next, more, l, left)
          closes back (f ∷ fs) l left =
              let whole = ap (λ (xs : List T). xs ++ next ∷ more) (sym (l.2 ∙ ap (λ (xs : List T). xs ++ l.1) l.3.0)) ∙ left in
              let first : s.name f.name ≡ here.token = cc whole in
              absurd (none f.name (sym first))

    -- ---- once the closing bracket is taken

    module _ (end : At T) (l : Leaves c.cut (Punctuation.closing ∷ []) here end) where
      all_read : Spans c.cut AllFields start end so_far.fields
      all_read = read_found r Punctuation s.brackets is_item start here end so_far.fields so_far.read l

      -- the fields mean what they are said to
      pub struct_found : (m : Meaning)
          → ((fs : List (Field T)) → holds fs → struct.shape.means fs m)
          → Spans c.cut AStruct start end m
      struct_found m means =
          (all_read.0, (so_far.fields, all_read.1, means so_far.fields so_far.held), all_read.2)

      -- the fields mean nothing
      pub struct_missing : ((fs : List (Field T)) (m : Meaning) → holds fs
          → struct.shape.means fs m → ⊥) → Fault c.cut AStruct start end wrong
      struct_missing bad =
          let all = all_read in
          record {
            tokens = all.0;
            taken = all.2;
            none = λ more _ us left next m e is.
                let same =
                same_prefix AllFields (no_list_begins s struct.shape struct.laws) us (next ∷ left)
                all.0 (end.token ∷ more) e.0 so_far.fields e.1 all.1 is in
                let read = subst (λ (ts : List T). AllFields ts e.0) same.0 e.1 in
                let fields = one_list s struct.shape struct.laws all.0 e.0 so_far.fields read all.1 in
                bad so_far.fields m so_far.held
                (subst (λ (fs : List (Field T)). struct.shape.means fs m) fields e.2);
          }
