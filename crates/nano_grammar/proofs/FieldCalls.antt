-- What the calls that read the value of a field come to, whatever the tokens are.
use Rattle.std.proofs.Common.{◌≡◌, ℕ, List, [], ◌∷◌, ◌++◌, Bool, true, false, ◌||◌, bytes_eq, refl}
use Rattle.std.proofs.Common.{sym, ◌∙◌, ap, subst}
use Rattle.nano_value.specs.Meaning.{Meaning}
use Rattle.nano_grammar.specs.Tokens.{Cutting, Leaves}
use Rattle.nano_grammar.specs.Codec.{Grammar}
use Rattle.nano_grammar.specs.Outcomes.{Report, Position, Moved, Took, Read, ReadsNone}
use Rattle.nano_grammar.proofs.TokenCalls.{none_as}
use Rattle.nano_grammar.specs.Fields.{FieldStyle, Field, Shape, Allowed, LastEncodes, both_fields}
use Rattle.nano_grammar.specs.Fields.{others}
use Rattle.nano_grammar.specs.UserOutcomes.{FieldTokens, ReadField, LooksUp, LooksUpNone}
use Rattle.nano_grammar.proofs.FieldsLaws.{last_takes, others_known, others_unknown}
use Rattle.nano_grammar.proofs.FieldReading.{to_first, to_second, first_of, second_of}

pub or_first : (a b : Bool) → a ≡ true → a || b ≡ true
or_first a b e = ap (λ x. x || b) e

pub or_second : (a b : Bool) → a ≡ false → a || b ≡ b
or_second a b e = ap (λ x. x || b) e

pub never : {A : Type 0} {b : Bool} → b ≡ true → b ≡ false → A
never t f = absurd (let x = sym t ∙ f in cc x)

-- tokens, and what encodes a value after them
abbrev pub EncodedAfter : {T A : Type 0} → List T → (List T → A → Type 0) → List T → A → Type 0
EncodedAfter {T} prefix S ts x = (us : List T) × (ts ≡ prefix ++ us) × S us x

module _ {T : Type 0} (cut : List ℕ → T → List ℕ → Type 0) where
  -- a value after no tokens
  pub at_once : {A : Type 0} {S : List T → A → Type 0} {start end : Position T} {x : A}
      → Read cut S start end x → Read cut (EncodedAfter [] S) start end x
  at_once h = record {
    decodes = (h.decodes.0, (h.decodes.0, refl, h.decodes.1), h.decodes.2);
    place = h.place;
  }

  pub not_at_once : {A : Type 0} {S : List T → A → Type 0} {start end : Position T} {e : Report} {breaks : List ℕ → List ℕ → Type 0}
      → ReadsNone cut breaks S start end e → ReadsNone cut breaks (EncodedAfter [] S) start end e
  not_at_once {S = S} {start} h =
      none_as cut (EncodedAfter [] S) S (λ us v e. (v, subst (λ (ts : List T). S ts v) (sym e.1) e.2)) h

  -- ---- a field of one name

  module _ (prefix : List T) (name : List ℕ) where
    -- a value that was read is the last one of its name
    pub last_read : {label : List ℕ} {S : List T → Meaning → Type 0} {before after : List (Field T) → Type 0}
        {start end : Position T} {m : Meaning} → bytes_eq name label ≡ true
        → ((fs : List (Field T)) → LastEncodes label S fs m → after fs)
        → Read cut (EncodedAfter prefix S) start end m
        → ReadField cut prefix name (λ _ us. (y : Meaning) × S us y) before after start end
    last_read {label} {start = start} {end} {m} is keeps h =
        let v = h.decodes.1 in
        record {
          value = v.0;
          allowed = (m, v.2);
          taken = subst (λ (ts : List T). Leaves cut ts start.at end.at) v.1 h.decodes.2;
          held = λ fs _. keeps (fs ++ record { name = name; value = v.0 } ∷ []) (
            v.0,
            last_takes label fs (record { name = name; value = v.0 }) is,
            v.2,
          );
          place = h.place;
        }

    pub last_not : {S : List T → Meaning → Type 0} {start end : Position T} {e : Report} {breaks : List ℕ → List ℕ → Type 0}
        → ReadsNone cut breaks (EncodedAfter prefix S) start end e
        → ReadsNone cut breaks (FieldTokens prefix name (λ _ us. (y : Meaning) × S us y)) start end e
    last_not {S = S} h =
        none_as cut (FieldTokens prefix name (λ _ us. (y : Meaning) × S us y)) (EncodedAfter prefix S)
        (λ ts us e. (e.1.0, (us, e.0, e.1.1))) h

    module _ (shape : Shape T) {before after : List (Field T) → Type 0} {same : Type 0}
        {start end : Position T} where
      -- a field has the name
      pub looked_up : shape.knows name ≡ true → ReadField cut prefix name shape.takes before after start end
          → LooksUp cut prefix name shape before after same start end true
      looked_up is h = record { known_is = sym is; read = λ _. h; unknown = λ e. never refl e }

      pub looked_up_none : {e : Report} {breaks : List ℕ → List ℕ → Type 0} → shape.knows name ≡ true
          → ReadsNone cut breaks (FieldTokens prefix name shape.takes) start end e
          → LooksUpNone cut breaks prefix name shape before after same start end e
      looked_up_none is h = record { known = is; none = h }

    -- none has it
    pub not_known : {shape : Shape T} {before after : List (Field T) → Type 0} {same : Type 0} {p : Position T}
        → shape.knows name ≡ false → same → LooksUp cut prefix name shape before after same p p false
    not_known is same = record { known_is = sym is; read = λ e. never e refl; unknown = λ _. same }

    -- ---- what may come after the name, in two ways

    module _ (takes more : List ℕ → List T → Type 0) {start end : Position T} where
      pub field_as : {before after : List (Field T) → Type 0} → ((us : List T) → takes name us → more name us)
          → ReadField cut prefix name takes before after start end
          → ReadField cut prefix name more before after start end
      field_as also h = record {
        value = h.value;
        allowed = also h.value h.allowed;
        taken = h.taken;
        held = h.held;
        place = h.place;
      }

      pub no_field_as : {e : Report} {breaks : List ℕ → List ℕ → Type 0} → ((us : List T) → more name us → takes name us)
          → ReadsNone cut breaks (FieldTokens prefix name takes) start end e
          → ReadsNone cut breaks (FieldTokens prefix name more) start end e
      no_field_as only h =
          none_as cut (FieldTokens prefix name more) (FieldTokens prefix name takes)
          (λ ts us e. (us, (e.0, only us e.1))) h

    -- ---- fields and more fields

    module _ (a b : Shape T) where
      -- the first have the name
      pub first_found : {A A' : List (Field T) → Type 0} (B : List (Field T) → Type 0) {same other : Type 0} {start end : Position T}
          {known : Bool} → known ≡ true → LooksUp cut prefix name a A A' other start end known
          → LooksUp cut prefix name (both_fields a b) (λ fs. A fs × B (others a.knows fs))
          (λ fs. A' fs × B (others a.knows fs)) same start end true
      first_found B is h =
          let it = sym h.known_is ∙ is in
          let r = h.read is in
          let f : Field T = record { name = name; value = r.value } in
          looked_up (both_fields a b) (or_first (a.knows name) (b.knows name) it) (record {
            value = r.value;
            allowed = to_first (a.knows name) (a.takes name r.value) (b.takes name r.value) it r.allowed;
            taken = r.taken;
            held = λ fs x. (r.held fs x.0, subst B (sym (others_known a.knows fs f it)) x.1);
            place = r.place;
          })

      pub first_not : {A A' C C' : List (Field T) → Type 0} {same other : Type 0} {start end : Position T} {e : Report} {breaks : List ℕ → List ℕ → Type 0}
          → LooksUpNone cut breaks prefix name a A A' other start end e
          → LooksUpNone cut breaks prefix name (both_fields a b) C C' same start end e
      first_not h = record {
        known = or_first (a.knows name) (b.knows name) h.known;
        none = no_field_as a.takes (both_fields a b).takes
            (λ us t. first_of (a.knows name) (a.takes name us) (b.takes name us) h.known t) h.none;
      }

      -- the second are asked for it, where the first have not taken anything
      module _ (unknown : a.knows name ≡ false) {start mid end : Position T} (still : mid ≡ start) where
        pub second_found : {A A' B B' : List (Field T) → Type 0} {other same : Type 0} {known : Bool}
            → ((fs : List (Field T)) (f : Field T) → a.knows f.name ≡ false → A fs → A' (fs ++ f ∷ []))
            → (other → same) → LooksUp cut prefix name b B B' other mid end known
            → LooksUp cut prefix name (both_fields a b) (λ fs. A fs × B (others a.knows fs))
            (λ fs. A' fs × B' (others a.knows fs)) same start end known
        second_found {B' = B'} skips all k =
            let either_knows = or_second (a.knows name) (b.knows name) unknown in
            record {
              known_is = k.known_is ∙ sym either_knows;
              read = λ is.
                  let r = k.read is in
                  let f : Field T = record { name = name; value = r.value } in
                  record {
                    value = r.value;
                    allowed = to_second (a.knows name) (a.takes name r.value) (b.takes name r.value) unknown r.allowed;
                    taken = subst (λ (p : Position T). Leaves cut (prefix ++ r.value) p.at end.at) still r.taken;
                    held = λ fs x. (
                      skips fs f unknown x.0,
                      subst B' (sym (others_unknown a.knows fs f unknown)) (r.held (others a.knows fs) x.1),
                    );
                    place = subst (λ (p : Position T). Moved p end) still r.place;
                  };
              unknown = λ e. all (k.unknown e);
            }

        pub second_not : {B B' C C' : List (Field T) → Type 0} {other same : Type 0} {e : Report} {breaks : List ℕ → List ℕ → Type 0}
            → LooksUpNone cut breaks prefix name b B B' other mid end e
            → LooksUpNone cut breaks prefix name (both_fields a b) C C' same start end e
        second_not {e = e} {breaks} k =
            let both = both_fields a b in
            record {
              known = or_second (a.knows name) (b.knows name) unknown ∙ k.known;
              none =
                  subst (λ (p : Position T). ReadsNone cut breaks (FieldTokens prefix name both.takes) p end e) still
                  (no_field_as b.takes both.takes (λ us t. second_of (a.knows name) (a.takes name us) (b.takes name us) unknown t) k.none);
            }

-- ---- a field that is known, or is skipped

module _ {T : Type 0} {c : Cutting T} {g : Grammar T} (s : FieldStyle c g) (name : List ℕ) (shape : Shape T) where
  module _ (prefix : List T) {A A' : List (Field T) → Type 0} {same : Type 0} {start mid : Position T} where
    pub known_read : LooksUp c.cut prefix name shape A A' same start mid true
        → ReadField c.cut prefix name (Allowed s shape) A A' start mid
    known_read h =
        field_as c.cut prefix name shape.takes (Allowed s shape)
        (λ us t. to_first (shape.knows name) (shape.takes name us) (s.Skipped us) (sym h.known_is) t) (h.read refl)

    pub known_not : {e : Report} → LooksUpNone c.cut c.breaks prefix name shape A A' same start mid e
        → ReadsNone c.cut c.breaks (FieldTokens prefix name (Allowed s shape)) start mid e
    known_not h =
        no_field_as c.cut prefix name shape.takes (Allowed s shape)
        (λ us t. first_of (shape.knows name) (shape.takes name us) (s.Skipped us) h.known t) h.none

  -- no field has the name
  module _ {start mid end : Position T} (unknown : shape.knows name ≡ false) (still : mid ≡ start) where
    pub skipped_read : {A A' : List (Field T) → Type 0} {same_buffers : Type 0} (us : List T) → s.Skipped us → Took c.cut same_buffers mid end us
        → ((fs : List (Field T)) (f : Field T) → shape.knows f.name ≡ false → A fs → A' (fs ++ f ∷ []))
        → ReadField c.cut [] name (Allowed s shape) A A' start end
    skipped_read us skipped h skips = record {
      value = us;
      allowed = to_second (shape.knows name) (shape.takes name us) (s.Skipped us) unknown skipped;
      taken = subst (λ (p : Position T). Leaves c.cut us p.at end.at) still h.taken;
      held = λ fs x. skips fs (record { name = name; value = us }) unknown x;
      place = subst (λ (p : Position T). Moved p end) still h.place;
    }

    pub skipped_not : {e : Report}
        → ReadsNone c.cut c.breaks (λ us (x : Unit {0}). s.Skipped us) mid end e
        → ReadsNone c.cut c.breaks (FieldTokens [] name (Allowed s shape)) start end e
    skipped_not {e} h =
        let Skipped : List T → Unit {0} → Type 0 = λ us x. s.Skipped us in
        let Value = FieldTokens [] name (Allowed s shape) in
        subst (λ (p : Position T). ReadsNone c.cut c.breaks Value p end e) still
        (none_as c.cut Value Skipped (λ ts us f. (
          tt,
          subst s.Skipped (sym f.0)
              (second_of (shape.knows name) (shape.takes name us) (s.Skipped us) unknown f.1),
        )) h)
