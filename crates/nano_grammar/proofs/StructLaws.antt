-- What is proved of Struct.
use Rattle.std.specs.Prelude.{ℕ, List}
use Rattle.std.proofs.Common.{◌≡◌, ◌≢◌, Bool, true, false, [], ◌∷◌, ◌++◌, Option, Some, None}
use Rattle.std.proofs.Common.{bytes_eq, if◌then◌else◌, refl, ap, sym, ◌∙◌}
use Rattle.std.proofs.lemmas.Slice.Eq.{bytes_eq-Decides}
use Rattle.nano_grammar.specs.Tokens.{Cutting}
use Rattle.nano_grammar.specs.Codec.{Grammar, Encoding}
use Rattle.nano_grammar.specs.Fields.{FieldStyle, EncodedFields, required_field, both_fields}
use Rattle.nano_grammar.specs.Fields.{Struct, Field, later, last, unless_known, others}
use Rattle.nano_grammar.proofs.FieldsLaws.{optional_field, required_laws, optional_laws, both_laws}
use Rattle.nano_grammar.proofs.FieldsLaws.{fields_encoding, same_field, later_old}
use Rattle.nano_grammar.specs.Promises.{NoneNamed, Around, LastFieldCounts, MissingNameHasNoField}
use Rattle.nano_grammar.specs.Promises.{OtherNamesAreSeen}

module _ {T : Type 0} {g : Grammar T} (name : List ℕ) (s : Encoding g) where
  -- a field that must be there
  abbrev pub must_read : Struct T
  must_read = record { shape = required_field name s; laws = required_laws name s }

  -- a field that may be missing
  abbrev pub may_read : Struct T
  may_read = record { shape = optional_field name s; laws = optional_laws name s }

-- fields, and more fields
abbrev pub also_read : {T : Type 0} → Struct T → Struct T → Struct T
also_read a b = record {
  shape = both_fields a.shape b.shape;
  laws = both_laws a.shape b.shape a.laws b.laws;
}

-- named fields in brackets
abbrev pub fields_of : {T : Type 0} {c : Cutting T} {g : Grammar T} → FieldStyle c g → Struct T
    → Encoding g
fields_of s struct = record {
  legal = struct.shape.legal;
  encodes = EncodedFields s struct.shape;
  laws = fields_encoding s struct.shape struct.laws;
}

-- ==== the last field of a name

same_name : (n name : List ℕ) → bytes_eq n name ≡ true → n ≡ name
same_name n name e = (bytes_eq-Decides n name).0 e

equal_name : (n name : List ℕ) → n ≡ name → bytes_eq n name ≡ true
equal_name n name e = (bytes_eq-Decides n name).1 e

other_name : (n name : List ℕ) → bytes_eq n name ≡ false → n ≢ name
other_name n name e same = let x = sym e ∙ equal_name n name same in cc x

unequal_name : (n name : List ℕ) → n ≢ name → bytes_eq n name ≡ false
unequal_name n name other = elim (bytes_eq n name) as (λ b. bytes_eq n name ≡ b → b ≡ false) [
  | true ↦ λ e. absurd (other (same_name n name e))
  | false ↦ λ e. refl
] refl

module _ {T : Type 0} where
  -- the value of a field, if it has the name
  abbrev of_name : List ℕ → Field T → Option (List T)
  of_name name f = if bytes_eq f.name name then Some f.value else None

  neither_there : (x y : Option (List T)) → later x y ≡ None → (x ≡ None) × (y ≡ None)
  neither_there None y e = (refl, e)
  neither_there (Some us) y e = absurd (cc e)

  not_there : (b : Bool) (us : List T) → (if b then Some us else None) ≡ None → b ≡ false
  not_there true us e = absurd (cc e)
  not_there false us e = refl

  there : (b : Bool) (us vs : List T) → (if b then Some us else None) ≡ Some vs
      → (b ≡ true) × (us ≡ vs)
  there true us vs e = (refl, cc e)
  there false us vs e = absurd (cc e)

  missing : (name : List ℕ) (fs : List (Field T)) → last name fs ≡ None → NoneNamed T name fs
  missing name [] e = tt
  missing name (f ∷ fs) e =
      let r = neither_there (last name fs) (of_name name f) e in
      let other = not_there (bytes_eq f.name name) f.value r.1 in
      (other_name f.name name other, missing name fs r.0)

  none_named : (name : List ℕ) (fs : List (Field T)) → NoneNamed T name fs → last name fs ≡ None
  none_named name [] h = refl
  none_named name (f ∷ fs) h =
      ap (λ o. later o (of_name name f)) (none_named name fs h.1)
      ∙ ap (λ b. if b then Some f.value else None) (unequal_name f.name name h.0)

  around_last : (name : List ℕ) (us : List T) (fs : List (Field T)) → last name fs ≡ Some us
      → Around T name us fs
  around_last name us [] e = absurd (cc e)
  around_last name us (f ∷ fs) e =
      elim (last name fs) as (λ o. last name fs ≡ o → Around T name us (f ∷ fs)) [
        | None ↦ λ k.
            let here = sym (ap (λ o. later o (of_name name f)) k) ∙ e in
            let r = there (bytes_eq f.name name) f.value us here in
            let this : Field T = record { name = name; value = us } in
            let same = same_field f this (same_name f.name name r.0) r.1 in
            ([], fs, ap (λ (g : Field T). g ∷ fs) same, missing name fs k)
        | Some vs ↦ λ k.
            let here = sym (ap (λ o. later o (of_name name f)) k) ∙ e in
            let r = around_last name us fs (k ∙ here) in
            (f ∷ r.0, r.1, ap (λ (gs : List (Field T)). f ∷ gs) r.2, r.3)
      ] refl

  last_between : (name : List ℕ) (us : List T) (prefix back : List (Field T)) → NoneNamed T name back
      → last name (prefix ++ record { name = name; value = us } ∷ back) ≡ Some us
  last_between name us [] back h =
      ap (λ o. later o (if bytes_eq name name then Some us else None)) (none_named name back h)
      ∙ ap (λ b. if b then Some us else None) (equal_name name name refl)
  last_between name us (f ∷ prefix) back h =
      ap (λ o. later o (of_name name f)) (last_between name us prefix back h)

pub missing_name : (T : Type 0) → MissingNameHasNoField T
missing_name T name fs = (missing name fs, none_named name fs)

pub last_field : (T : Type 0) → LastFieldCounts T
last_field T name us fs =
    (around_last name us fs, λ r. ap (last name) r.2 ∙ last_between name us r.0 r.1 r.3)

pub seen_by_others : (T : Type 0) → OtherNamesAreSeen T
seen_by_others T knows name [] unknown = refl
seen_by_others T knows name (f ∷ fs) unknown =
    let seen = seen_by_others T knows name fs unknown in
    elim (knows f.name) as (λ b. knows f.name ≡ b → last name (unless_known b f (others knows fs)) ≡ last name (f ∷ fs)) [
      | true ↦ λ k.
          let other =
          unequal_name f.name name
          (λ same. let x = sym unknown ∙ (ap knows (sym same) ∙ k) in cc x) in
          let gone = λ (b : Bool). later (last name fs) (if b then Some f.value else None) in
          seen ∙ (sym (later_old (last name fs)) ∙ ap gone (sym other))
      | false ↦ λ k. ap (λ o. later o (of_name name f)) seen
    ] refl
