-- What is proved of Fields.
use Rattle.std.specs.Prelude.{◌≡◌, ◌≢◌, ◌⊎◌, ℕ, List, None, bytes_eq, Bool, true, false, [], ◌∷◌, ◌++◌}
use Rattle.std.specs.Prelude.{◌||◌, Option, Some, refl, if◌then◌else◌}
use Rattle.std.proofs.Common.{sym, ◌∙◌, ap, subst, inl, inr, append-nil}
use Rattle.std.proofs.lemmas.Bool.{or_parts}
use Rattle.nano_value.specs.Meaning.{Meaning, nothing, paired}
use Rattle.nano_grammar.proofs.OptionsLaws.{option_of}
use Rattle.nano_grammar.specs.Codec.{Grammar, Encoding, BeginsValue, IsEncoding}
use Rattle.nano_grammar.specs.Fields.{last, LastEncodes, Shape, FieldStyle, Field, EncodedField}
use Rattle.nano_grammar.specs.Fields.{Allowed, EncodedFields, either, required_field, both_fields}
use Rattle.nano_grammar.specs.Fields.{others, Apart, IsShape, later, unless_known, Holds}
use Rattle.nano_meaning.proofs.MeaningLaws.{none_is_legal, pair_weaker}
use Rattle.nano_grammar.specs.Tokens.{NoneBeginsAnother, Cutting}
use Rattle.nano_grammar.specs.Items.{EncodedList, OneValue}
use Rattle.nano_grammar.proofs.ListsLaws.{between_one, between_apart, list_begins, IsItem}
use Rattle.nano_grammar.proofs.ItemLaws.{EndsAt}

-- ---- the shapes

module _ {T : Type 0} {g : Grammar T} (name : List ℕ) (s : Encoding g) where
  -- a field that may be missing, which means nothing then; where it is there, what stands for what
  -- is absent means nothing too
  abbrev pub optional_field : Shape T
  optional_field = record {
    knows = λ n. bytes_eq n name;
    takes = λ n us. (m : Meaning) × (option_of s).encodes us m;
    means = λ fs m.
        ((last name fs ≡ None) × (m ≡ nothing)) ⊎ LastEncodes name (option_of s).encodes fs m;
    lacks = λ fs n. ⊥;
    legal = (option_of s).legal;
  }

-- ==== one field

choose_apart : {T : Type 0} (b : Bool) (p q : List T → Type 0)
    → ((us more : List T) → p us → p (us ++ more) → more ≡ [])
    → ((us more : List T) → q us → q (us ++ more) → more ≡ []) → (us more : List T)
    → either b (p us) (q us) → either b (p (us ++ more)) (q (us ++ more)) → more ≡ []
choose_apart true p q h k us more x y = h us more x y
choose_apart false p q h k us more x y = k us more x y

pub same_field : {T : Type 0} (f g : Field T) → f.name ≡ g.name → f.value ≡ g.value → f ≡ g
same_field {T} f g n v =
    ap (λ (x : List ℕ). record { name = x; value = f.value }) n
    ∙ ap (λ (x : List T). record { name = g.name; value = x }) v

module _ {T : Type 0} {c : Cutting T} {g : Grammar T} (s : FieldStyle c g) where
  -- what may come after a name, in a list
  abbrev pub ValuesApart : (List ℕ → List T → Type 0) → Type 0
  ValuesApart takes = (name : List ℕ) (us more : List T) (t : T) → takes name us
      → takes name (us ++ t ∷ more) → (t ≢ s.list.tokens.comma) × (t ≢ s.list.tokens.closing)

  -- of what may come after a known name nothing goes on
  known_apart : (p : List T → Type 0) → ((us more : List T) → p us → p (us ++ more) → more ≡ [])
      → (us more : List T) (t : T) → p us → p (us ++ t ∷ more) → ⊥
  known_apart p law us more t h k =
      let none = law us (t ∷ more) h k in
      cc none

  choose_in_list : (b : Bool) (p : List T → Type 0)
      → ((us more : List T) → p us → p (us ++ more) → more ≡ []) → (us more : List T) (t : T)
      → either b (p us) (s.Skipped us) → either b (p (us ++ t ∷ more)) (s.Skipped (us ++ t ∷ more))
      → (t ≢ s.list.tokens.comma) × (t ≢ s.list.tokens.closing)
  choose_in_list true p law us more t h k = absurd (known_apart p law us more t h k)
  choose_in_list false p law us more t h k = s.skipped_apart us more t h k

  pub allowed_apart : (shape : Shape T) → Apart shape.takes → ValuesApart (Allowed s shape)
  allowed_apart shape law name us more t =
      choose_in_list (shape.knows name) (shape.takes name) (law name) us more t

  -- a value that may come after a name ends where that token is pending: no longer one may
  abbrev pub ValueEndsAt : (List ℕ → List T → Type 0) → List ℕ → List T → T → Type 0
  ValueEndsAt takes name us t = (more : List T) → takes name (us ++ t ∷ more) → ⊥

  choose_ends : (b : Bool) (p : List T → Type 0)
      → ((us more : List T) → p us → p (us ++ more) → more ≡ []) → (us : List T) (t : T)
      → (b ≡ false → s.Skipped us → (more : List T) → s.Skipped (us ++ t ∷ more) → ⊥)
      → either b (p us) (s.Skipped us) → (more : List T)
      → either b (p (us ++ t ∷ more)) (s.Skipped (us ++ t ∷ more)) → ⊥
  choose_ends true p law us t ends h more k = known_apart p law us more t h k
  choose_ends false p law us t ends h more k = ends refl h more k

  -- a known value always ends, and a skipped one where no longer one may be skipped
  pub allowed_ends : (shape : Shape T) → Apart shape.takes → (name : List ℕ) (us : List T) (t : T)
      → (shape.knows name ≡ false → s.Skipped us → (more : List T) → s.Skipped (us ++ t ∷ more) → ⊥)
      → Allowed s shape name us → ValueEndsAt (Allowed s shape) name us t
  allowed_ends shape law name us t ends h =
      choose_ends (shape.knows name) (shape.takes name) (law name) us t ends h

  -- ---- one field

  -- two fields that begin alike have one name, and their values begin alike
  fields_meet : (m n : List ℕ) (us vs : List T)
      → s.name m ∷ (s.pair.token ∷ us) ≡ s.name n ∷ (s.pair.token ∷ vs) → (m ≡ n) × (us ≡ vs)
  fields_meet m n us vs e =
      let head : s.name m ≡ s.name n = cc e in
      let tail : us ≡ vs = cc e in
      (s.injective m n head, tail)

  module _ (takes : List ℕ → List T → Type 0) where
    field_one_value : OneValue (EncodedField s takes)
    field_one_value ts f g h k =
        let same = fields_meet f.name g.name f.value g.value (sym h.0 ∙ k.0) in
        same_field f g same.0 same.1

    -- a field that another begins has its name, and a value that the other's begins
    longer_value : (ts more : List T) (f g : Field T) → EncodedField s takes ts f
        → EncodedField s takes (ts ++ more) g
        → (f.name ≡ g.name) × takes f.name (f.value ++ more)
    longer_value ts more f g h k =
        let same =
        fields_meet f.name g.name (f.value ++ more) g.value
        (sym (ap (λ (xs : List T). xs ++ more) h.0) ∙ k.0) in (
          same.0,
          subst (λ (x : List ℕ). takes x (f.value ++ more)) (sym same.0)
              (subst (λ (us : List T). takes g.name us) (sym same.1) k.1),
        )

    -- a field begins with a name
    pub field_item : ValuesApart takes → IsItem g s.list.tokens (EncodedField s takes)
    field_item law = record {
      one_value = field_one_value;
      in_list = λ ts more t f g h k.
          law f.name f.value more t h.1 (longer_value ts (t ∷ more) f g h k).1;
      begins = λ ts f h. subst (BeginsValue g) (sym h.0) (s.begins f.name);
    }

    -- it ends where its value does
    pub field_ends : (ts : List T) (f : Field T) (t : T) → EncodedField s takes ts f
        → ValueEndsAt takes f.name f.value t → EndsAt (EncodedField s takes) ts t
    field_ends ts f t h ends more g k = ends more (longer_value ts (t ∷ more) f g h k).1

  -- ---- all fields

  module _ (shape : Shape T) (laws : IsShape shape) where
    abbrev pub AnyField : List T → Field T → Type 0
    AnyField = EncodedField s (Allowed s shape)

    pub any_item : IsItem g s.list.tokens AnyField
    any_item = field_item (Allowed s shape) (allowed_apart shape laws.apart)

    -- one encoding has one list of fields
    pub one_list : OneValue (EncodedList s.list.tokens AnyField)
    one_list = between_one g s.list.tokens s.brackets any_item

    pub no_list_begins : NoneBeginsAnother (EncodedList s.list.tokens AnyField)
    no_list_begins = between_apart g s.list.tokens s.brackets any_item

    -- a struct is encoded as a value is
    pub fields_encoding : IsEncoding g shape.legal (EncodedFields s shape)
    fields_encoding = record {
      is_legal = λ ts m h. laws.is_legal h.0 m h.2;
      one_value = λ ts m n h k.
          let same = one_list ts h.0 k.0 h.1 k.1 in
          laws.one k.0 m n (subst (λ (fs : List (Field T)). shape.means fs m) same h.2) k.2;
      none_begins = λ ts more m n h k. no_list_begins ts more h.0 k.0 h.1 k.1;
      begins = λ ts m h. list_begins g s.list.tokens s.brackets any_item ts h.0 h.1;
    }

-- ---- the shapes

module _ {T : Type 0} {g : Grammar T} (name : List ℕ) (s : Encoding g) where
  encoded_apart : (t : Encoding g) → Apart (λ n us. (m : Meaning) × t.encodes us m)
  encoded_apart t n us more h k = t.laws.none_begins us more h.0 k.0 h.1 k.1

  last_means_one : (t : Encoding g) (fs : List (Field T)) (m n : Meaning)
      → LastEncodes name t.encodes fs m → LastEncodes name t.encodes fs n → m ≡ n
  last_means_one t fs m n h k =
      let e = sym h.1 ∙ k.1 in
      let us : h.0 ≡ k.0 = cc e in
      t.laws.one_value k.0 m n (subst (λ (x : List T). t.encodes x m) us h.2) k.2

  pub required_laws : IsShape (required_field name s)
  required_laws = record {
    apart = encoded_apart s;
    one = last_means_one s;
    is_legal = λ fs m h. s.laws.is_legal h.0 m h.2;
    lacking = λ fs n m h k. let e = sym h.0 ∙ k.1 in cc e;
  }

  abbrev Means : List (Field T) → Meaning → Type 0
  Means = (optional_field name s).means

  optional_means_one : (fs : List (Field T)) (m n : Meaning) → Means fs m → Means fs n → m ≡ n
  optional_means_one fs m n (inl h) (inl k) = h.1 ∙ sym k.1
  optional_means_one fs m n (inl h) (inr k) = let e = sym h.0 ∙ k.1 in absurd (cc e)
  optional_means_one fs m n (inr h) (inl k) = let e = sym k.0 ∙ h.1 in absurd (cc e)
  optional_means_one fs m n (inr h) (inr k) = last_means_one (option_of s) fs m n h k

  optional_is_legal : (fs : List (Field T)) (m : Meaning) → Means fs m → (option_of s).legal m
  optional_is_legal fs m (inl h) = subst (option_of s).legal (sym h.1) (none_is_legal s.legal)
  optional_is_legal fs m (inr h) = (option_of s).laws.is_legal h.0 m h.2

  pub optional_laws : IsShape (optional_field name s)
  optional_laws = record {
    apart = encoded_apart (option_of s);
    one = optional_means_one;
    is_legal = optional_is_legal;
    lacking = λ fs n m h. absurd h;
  }

pub both_laws : {T : Type 0} (a b : Shape T) → IsShape a → IsShape b → IsShape (both_fields a b)
both_laws a b h k = record {
  apart = λ n. choose_apart (a.knows n) (a.takes n) (b.takes n) (h.apart n) (k.apart n);
  one = λ fs m n x y.
      let first = h.one fs x.part.0 y.part.0 x.has.0 y.has.0 in
      let second = k.one (others a.knows fs) x.part.1 y.part.1 x.has.1 y.has.1 in
      x.is ∙ ((λ i. paired (first i, second i)) ∙ sym y.is);
  is_legal = λ fs.
      let second = b.means (others a.knows fs) in
      pair_weaker (a.means fs) a.legal second b.legal (h.is_legal fs)
      (k.is_legal (others a.knows fs));
  lacking = λ fs name m missing means.
      elim missing as (λ _. ⊥) [
        | inl x ↦ h.lacking fs name means.part.0 x means.has.0
        | inr x ↦ k.lacking (others a.knows fs) name means.part.1 x.1 means.has.1
      ];
}

-- ==== what is read of the fields so far

-- ---- one more field

module _ {T : Type 0} where
  pub later_old : (o : Option (List T)) → later o None ≡ o
  later_old None = refl
  later_old (Some us) = refl

  later_later : (x y z : Option (List T)) → later x (later y z) ≡ later (later x y) z
  later_later None y z = refl
  later_later (Some us) y z = refl

module _ {T : Type 0} (name : List ℕ) where
  last_more : (fs : List (Field T)) (f : Field T)
      → last name (fs ++ f ∷ []) ≡ later (last name (f ∷ [])) (last name fs)
  last_more [] f = sym (later_old (last name (f ∷ [])))
  last_more (g ∷ fs) f =
      let this = if bytes_eq g.name name then Some g.value else None in
      ap (λ o. later o this) (last_more fs f)
      ∙ sym (later_later (last name (f ∷ [])) (last name fs) this)

  -- what the last field is, where a boolean says whether it has the name
  last_reported : (b : Bool) (fs : List (Field T)) (f : Field T) → bytes_eq f.name name ≡ b
      → last name (fs ++ f ∷ []) ≡ later (if b then Some f.value else None) (last name fs)
  last_reported b fs f e =
      last_more fs f ∙ ap (λ b. later (if b then Some f.value else None) (last name fs)) e

  -- a field of another name changes nothing
  pub last_skips : (fs : List (Field T)) (f : Field T) → bytes_eq f.name name ≡ false
      → last name (fs ++ f ∷ []) ≡ last name fs
  last_skips fs f e = last_reported false fs f e

  -- a field of the name is the last one
  pub last_takes : (fs : List (Field T)) (f : Field T) → bytes_eq f.name name ≡ true
      → last name (fs ++ f ∷ []) ≡ Some f.value
  last_takes fs f e = last_reported true fs f e

  pub last_encodes_skips : (encodes : List T → Meaning → Type 0) (fs : List (Field T)) (f : Field T)
      (m : Meaning)
      → bytes_eq f.name name ≡ false → LastEncodes name encodes fs m
      → LastEncodes name encodes (fs ++ f ∷ []) m
  last_encodes_skips encodes fs f m e h = (h.0, last_skips fs f e ∙ h.1, h.2)

  pub holds_skips : (encodes : List T → Meaning → Type 0) (slot : Option Meaning)
      (fs : List (Field T)) (f : Field T)
      → bytes_eq f.name name ≡ false → Holds name encodes slot fs
      → Holds name encodes slot (fs ++ f ∷ [])
  holds_skips encodes None fs f e h = last_skips fs f e ∙ h
  holds_skips encodes (Some m) fs f e h = last_encodes_skips encodes fs f m e h

  pub optional_skips : {g : Grammar T} (s : Encoding g) (m : Meaning) (fs : List (Field T))
      (f : Field T)
      → bytes_eq f.name name ≡ false → (optional_field name s).means fs m
      → (optional_field name s).means (fs ++ f ∷ []) m
  optional_skips s m fs f e (inl h) = inl (last_skips fs f e ∙ h.0, h.1)
  optional_skips s m fs f e (inr h) = inr (h.0, last_skips fs f e ∙ h.1, h.2)

-- ---- the fields that others leave

module _ {T : Type 0} where
  others_more : (knows : List ℕ → Bool) (fs : List (Field T)) (f : Field T)
      → others knows (fs ++ f ∷ []) ≡ others knows fs ++ others knows (f ∷ [])
  others_more knows [] f = refl
  others_more knows (g ∷ fs) f =
      let rest = others knows fs in
      let more = others knows (f ∷ []) in
      let Joined : Bool → Type 0 =
      λ b. unless_known b g (rest ++ more) ≡ unless_known b g rest ++ more in
      ap (λ (xs : List (Field T)). unless_known (knows g.name) g xs) (others_more knows fs f)
      ∙ elim (knows g.name) as Joined [
        | true ↦ refl
        | false ↦ refl
      ]

  pub others_known : (knows : List ℕ → Bool) (fs : List (Field T)) (f : Field T)
      → knows f.name ≡ true → others knows (fs ++ f ∷ []) ≡ others knows fs
  others_known knows fs f e =
      others_more knows fs f
      ∙ (ap (λ b. others knows fs ++ unless_known b f []) e ∙ append-nil (others knows fs))

  pub others_unknown : (knows : List ℕ → Bool) (fs : List (Field T)) (f : Field T)
      → knows f.name ≡ false → others knows (fs ++ f ∷ []) ≡ others knows fs ++ f ∷ []
  others_unknown knows fs f e =
      others_more knows fs f ∙ ap (λ b. others knows fs ++ unless_known b f []) e

  -- a field that neither fields know changes what neither hold
  pub both_skip : (P Q : List (Field T) → Type 0) (a b : List ℕ → Bool) (fs : List (Field T))
      (f : Field T)
      → a f.name || b f.name ≡ false
      → (a f.name ≡ false → P (fs ++ f ∷ []))
      → (b f.name ≡ false → Q (others a fs ++ f ∷ []))
      → P (fs ++ f ∷ []) × Q (others a (fs ++ f ∷ []))
  both_skip P Q a b fs f e p q =
      let r = or_parts (a f.name) (b f.name) e in
      (p r.0, subst Q (sym (others_unknown a fs f r.0)) (q r.1))
