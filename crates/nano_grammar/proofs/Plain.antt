-- What the calls come to that take values and fields with no token pending.
use Rattle.std.proofs.Common.{◌≡◌, ◌<◌, ◌≤◌, ◌+◌, ℕ, Bool, false, List, [], ◌∷◌, ◌++◌, inl, inr, length}
use Rattle.std.proofs.Common.{refl, sym, ap, subst, ◌∙◌, arith, append_assoc, bytes_eq, true}
use Rattle.std.proofs.Common.{Some, None}
use Rattle.nano_value.specs.Meaning.{Meaning, IsImage, optional}
use Rattle.nano_grammar.specs.Scalars.{EncodesOption}
use Rattle.nano_grammar.specs.Codec.{BeginsValue}
use Rattle.nano_text.proofs.PlaceLaws.{moves_none}
use Rattle.nano_grammar.specs.Tokens.{Cutting, Cuts}
use Rattle.nano_grammar.specs.Codec.{Grammar}
use Rattle.nano_grammar.specs.Items.{ListPunctuation, EncodedItems, StartsOtherwise}
use Rattle.nano_grammar.specs.Outcomes.{Position, Moved}
use Rattle.nano_grammar.specs.ItemRuns.{TookItem}
use Rattle.nano_grammar.specs.Plain.{TookPlainly, TookFieldPlainly, LooksUpPlainly}
use Rattle.nano_grammar.specs.Fields.{FieldStyle, Field, Shape, Allowed, EncodedField, EncodedFields}
use Rattle.nano_grammar.specs.Fields.{both_fields, others, LastEncodes}
use Rattle.nano_grammar.proofs.FieldsLaws.{last_takes, others_known, others_unknown}
use Rattle.nano_grammar.proofs.FieldReading.{to_first, to_second}
use Rattle.nano_grammar.proofs.FieldCalls.{or_first, or_second, never}
use Rattle.nano_grammar.proofs.TokensLaws.{CutLaws, cuts_append, leaves_from_cuts}

module _ {T : Type 0} (cut : List ℕ → T → List ℕ → Type 0) where
  -- a value of one token
  pub one_taken : {V : Type 0} (S : List T → V → Type 0) {text rest : List ℕ} {v : V} (t : T)
      → S (t ∷ []) v → cut text t rest → TookPlainly cut S text rest v
  one_taken S {rest = rest} t is h = (t ∷ [], is, (rest, h, refl))

  -- what one encoding takes another does, where what it takes encodes that
  pub taken_as : {V W : Type 0} (S : List T → V → Type 0) (R : List T → W → Type 0)
      {text rest : List ℕ} {v : V} {w : W} → ((ts : List T) → S ts v → R ts w)
      → TookPlainly cut S text rest v → TookPlainly cut R text rest w
  taken_as S R to h = (h.0, to h.0 h.1, h.2)

  -- an item was taken after a pending comma, and the comma after it
  pub item_taken : {V : Type 0} {S : List T → V → Type 0} {v : V} (comma : T) (start end : Position T)
      (rest : List ℕ) → start.at.token ≡ comma → TookPlainly cut S start.at.text rest v
      → cut rest end.at.token end.at.text → Moved start end → TookItem cut S comma start end v
  item_taken comma start end rest is h next moved =
      let r = leaves_from_cuts cut h.0 start.at.text rest end.at h.2 next in (
        record { at = r.0; place = start.place; input = start.input },
        (sym is, (r.0, r.1, refl)),
        moves_none start.place start.input,
        record { decodes = (h.0, h.1, r.2); place = moved },
      )

-- ---- options

module _ {T : Type 0} (cut : List ℕ → T → List ℕ → Type 0) (g : Grammar T) (S : List T → Meaning → Type 0)
    {text : List ℕ} where
  -- what is absent
  pub null_taken : {rest : List ℕ} → cut text g.none rest
      → TookPlainly cut (λ ts. IsImage optional (EncodesOption g.none S ts)) text rest (optional None)
  null_taken {rest} h = (g.none ∷ [], record { part = None; has = refl; is = refl }, (rest, h, refl))

  starts_otherwise : (left : List ℕ) (ts : List T) → BeginsValue g ts
      → ((left : List ℕ) → cut text g.none left → ⊥) → Cuts cut ts text left → StartsOtherwise g.none ts
  starts_otherwise left [] begins other h = absurd begins
  starts_otherwise left (t ∷ ts) begins other h = λ e. other h.0 (subst (λ (u : T). cut text u h.0) e h.1)

  -- an item that does not begin with that
  pub some_taken : {rest : List ℕ} (m : Meaning) → ((ts : List T) (y : Meaning) → S ts y → BeginsValue g ts)
      → ((left : List ℕ) → cut text g.none left → ⊥) → TookPlainly cut S text rest m
      → TookPlainly cut (λ ts. IsImage optional (EncodesOption g.none S ts)) text rest (optional (Some m))
  some_taken {rest} m begins other h = (
    h.0,
    record { part = Some m; has = (h.1, starts_otherwise rest h.0 (begins h.0 m h.1) other h.2); is = refl },
    h.2,
  )

-- ---- the field of a name

module _ {T : Type 0} (cut : List ℕ → T → List ℕ → Type 0) (name : List ℕ) where
  -- a value that was taken is the last one of its name
  pub last_taken : {label : List ℕ} (S : List T → Meaning → Type 0) {before after : List (Field T) → Type 0}
      {text rest : List ℕ} (m : Meaning) → bytes_eq name label ≡ true
      → ((fs : List (Field T)) → LastEncodes label S fs m → after fs)
      → TookPlainly cut S text rest m
      → TookFieldPlainly cut name (λ _ us. (y : Meaning) × S us y) before after text rest
  last_taken {label} S m is keeps h = record {
    value = h.0;
    allowed = (m, h.1);
    taken = h.2;
    held = λ fs _. keeps (fs ++ record { name = name; value = h.0 } ∷ [])
        (h.0, last_takes label fs (record { name = name; value = h.0 }) is, h.1);
  }

  module _ {shape : Shape T} {before after : List (Field T) → Type 0} (same : Type 0) {text rest : List ℕ} where
    -- a field has the name
    pub field_found : shape.knows name ≡ true → TookFieldPlainly cut name shape.takes before after text rest
        → LooksUpPlainly cut name shape before after same text rest true
    field_found is h = record { known_is = sym is; taken = λ _. h; unknown = λ e. never refl e }

    -- none has it
    pub no_field : shape.knows name ≡ false → same
        → LooksUpPlainly cut name shape before after same text rest false
    no_field is all = record { known_is = sym is; taken = λ e. never e refl; unknown = λ _. all }

  module _ (a b : Shape T) {text rest : List ℕ} where
    -- the first have the name
    pub first_has : {A A' : List (Field T) → Type 0} (B : List (Field T) → Type 0) {other : Type 0} (same : Type 0)
        → LooksUpPlainly cut name a A A' other text rest true
        → LooksUpPlainly cut name (both_fields a b) (λ fs. A fs × B (others a.knows fs))
        (λ fs. A' fs × B (others a.knows fs)) same text rest true
    first_has B same k =
        let is = sym k.known_is in
        let h = k.taken refl in
        let f : Field T = record { name = name; value = h.value } in
        field_found same (or_first (a.knows name) (b.knows name) is) (record {
          value = h.value;
          allowed = to_first (a.knows name) (a.takes name h.value) (b.takes name h.value) is h.allowed;
          taken = h.taken;
          held = λ fs x. (h.held fs x.0, subst B (sym (others_known a.knows fs f is)) x.1);
        })

    -- the second are asked for it, where the first have not taken anything
    pub second_has : {A A' B B' : List (Field T) → Type 0} {other : Type 0} (same : Type 0) {known : Bool}
        {mid : List ℕ} → mid ≡ text → a.knows name ≡ false
        → ((fs : List (Field T)) (f : Field T) → a.knows f.name ≡ false → A fs → A' (fs ++ f ∷ []))
        → (other → same) → LooksUpPlainly cut name b B B' other mid rest known
        → LooksUpPlainly cut name (both_fields a b) (λ fs. A fs × B (others a.knows fs))
        (λ fs. A' fs × B' (others a.knows fs)) same text rest known
    second_has {B' = B'} same still unknown skips all k =
        let either_knows = or_second (a.knows name) (b.knows name) unknown in
        record {
          known_is = k.known_is ∙ sym either_knows;
          taken = λ is.
              let h = k.taken is in
              let f : Field T = record { name = name; value = h.value } in
              record {
                value = h.value;
                allowed = to_second (a.knows name) (a.takes name h.value) (b.takes name h.value) unknown h.allowed;
                taken = subst (λ (l : List ℕ). Cuts cut h.value l rest) still h.taken;
                held = λ fs x. (
                  skips fs f unknown x.0,
                  subst B' (sym (others_unknown a.knows fs f unknown)) (h.held (others a.knows fs) x.1),
                );
              };
          unknown = λ e. all (k.unknown e);
        }

-- ---- all fields

-- tokens that items begin with, whatever items come after these
abbrev pub BeginItems : {T V : Type 0} → ListPunctuation T → (List T → V → Type 0) → List T → List V
    → Type 0
BeginItems {T} {V} punctuation encodes us vs = (ts : List T) (more : List V)
    → EncodedItems punctuation encodes ts more → EncodedItems punctuation encodes (us ++ ts) (vs ++ more)

module _ {T : Type 0} {c : Cutting T} {g : Grammar T} (s : FieldStyle c g) (shape : Shape T) where
  abbrev EncodesOne : List T → Field T → Type 0
  EncodesOne = EncodedField s (Allowed s shape)

  -- fields with a comma after each were taken after the opening bracket, and these are held
  pub record TookFields (holds : List (Field T) → Type 0) (text rest : List ℕ) : Type 0 where
    pub fields : List (Field T)
    pub tokens : List T
    pub begin : BeginItems s.list.tokens EncodesOne tokens fields
    pub held : holds fields
    pub taken : Cuts c.cut (s.list.tokens.opening ∷ tokens) text rest

  pub none_taken : {holds : List (Field T) → Type 0} {text rest : List ℕ} → holds []
      → c.cut text s.list.tokens.opening rest → TookFields holds text rest
  none_taken {rest = rest} none h = record {
    fields = [];
    tokens = [];
    begin = λ ts more items. items;
    held = none;
    taken = (rest, h, refl);
  }

  -- a name with its colon, and the value after it
  abbrev one_field : List ℕ → List T → List T
  one_field name us = s.name name ∷ (s.pair.token ∷ us)

  module _ {before after : List (Field T) → Type 0} {text here mid left : List ℕ} (name : List ℕ)
      (h : TookFields before text here) (head : Cuts c.cut (s.name name ∷ (s.pair.token ∷ [])) here mid)
      (known : shape.knows name ≡ true)
      (field : TookFieldPlainly c.cut name shape.takes before after mid left) where
    abbrev this : Field T
    this = record { name = name; value = field.value }

    allowed_here : Allowed s shape name field.value
    allowed_here =
        to_first (shape.knows name) (shape.takes name field.value) (s.Skipped field.value) known field.allowed

    all_taken : (rest : List ℕ) (t : T) → c.cut left t rest
        → Cuts c.cut (s.list.tokens.opening ∷ (h.tokens ++ (one_field name field.value ++ t ∷ []))) text rest
    all_taken rest t last =
        let one = one_field name field.value in
        cuts_append c.cut (s.list.tokens.opening ∷ h.tokens) (one ++ t ∷ []) text here rest h.taken
        (cuts_append c.cut one (t ∷ []) here left rest
        (cuts_append c.cut (s.name name ∷ (s.pair.token ∷ [])) field.value here mid left head field.taken)
        (rest, last, refl))

    -- a comma comes after it
    pub more_taken : {rest : List ℕ} → c.cut left s.list.tokens.comma rest → TookFields after text rest
    more_taken {rest} last =
        let one = one_field name field.value in
        let comma = s.list.tokens.comma in
        record {
          fields = h.fields ++ this ∷ [];
          tokens = h.tokens ++ (one ++ comma ∷ []);
          begin = λ ts more items.
              let whole = h.begin (one ++ comma ∷ ts) (this ∷ more)
              (one, comma ∷ ts, refl, (refl, allowed_here), inr (ts, refl, items)) in
              let tokens = append_assoc h.tokens (one ++ comma ∷ []) ts
              ∙ ap (λ (l : List T). h.tokens ++ l) (append_assoc one (comma ∷ []) ts) in
              let fields = append_assoc h.fields (this ∷ []) more in
              subst (λ (l : List T). EncodedItems s.list.tokens EncodesOne l ((h.fields ++ this ∷ []) ++ more)) (sym tokens)
              (subst (λ (l : List (Field T)). EncodedItems s.list.tokens EncodesOne (h.tokens ++ (one ++ comma ∷ ts)) l) (sym fields) whole);
          held = field.held h.fields h.held;
          taken = all_taken rest comma last;
        }

    -- the closing bracket comes after it
    pub all_fields_taken : {rest : List ℕ} → c.cut left s.list.tokens.closing rest → (m : Meaning)
        → ((fs : List (Field T)) → after fs → shape.means fs m)
        → TookPlainly c.cut (EncodedFields s shape) text rest m
    all_fields_taken {rest} last m means =
        let one = one_field name field.value in
        let closing = s.list.tokens.closing in
        let inside = h.tokens ++ (one ++ closing ∷ []) in (
          s.list.tokens.opening ∷ inside,
          (
            h.fields ++ this ∷ [],
            (
              inside,
              refl,
              h.begin (one ++ closing ∷ []) (this ∷ [])
                  (one, closing ∷ [], refl, (refl, allowed_here), inl (refl, refl)),
            ),
            means (h.fields ++ this ∷ []) (field.held h.fields h.held),
          ),
          all_taken rest closing last,
        )

-- ---- what is taken is shorter

module _ {T : Type 0} {c : Cutting T} {g : Grammar T} (r : CutLaws c g) where
  pub cuts_shorter : (ts : List T) (text rest : List ℕ) → Cuts c.cut ts text rest
      → length rest ≤ length text
  cuts_shorter [] text rest h = omega (arith, ap (λ (l : List ℕ). length l) h)
  cuts_shorter (t ∷ ts) text rest h =
      omega (arith, r.shorter text t h.0 h.1, cuts_shorter ts h.0 rest h.2)

  pub some_shorter : (t : T) (ts : List T) (text rest : List ℕ) → r.is_end t ≡ false
      → Cuts c.cut (t ∷ ts) text rest → length rest < length text
  some_shorter t ts text rest some h =
      let first : length h.0 + 1 ≤ length text = rw some at (r.shorter text t h.0 h.1) in
      omega (arith, first, cuts_shorter ts h.0 rest h.2)
