-- Fields, and more fields, that are written and read back.
use Rattle.std.specs.Prelude.{◌≡◌, ℕ, Bool, true, false, List, [], ◌∷◌, ◌++◌, map, refl}
use Rattle.std.specs.List.{AllByRecursion}
use Rattle.std.proofs.Common.{sym, ◌∙◌, ap, subst, append_assoc}
use Rattle.std.proofs.lemmas.Bool.{or_left, or_right, or_from, or_parts}
use Rattle.std.proofs.lemmas.List.{map-append}
use Rattle.nano_value.specs.Meaning.{Meaning, paired, pair_map}
use Rattle.nano_meaning.proofs.MeaningLaws.{both_injective, all-map, all_weaker}
use Rattle.nano_text.proofs.LaneMasks.{all_append, all_split}
use Rattle.nano_grammar.specs.Tokens.{Cutting}
use Rattle.nano_grammar.specs.Codec.{Grammar}
use Rattle.nano_grammar.specs.Fields.{FieldStyle, Field, either, others, Struct, Differs}
use Rattle.nano_grammar.specs.Fields.{AreDistinct}
use Rattle.nano_grammar.proofs.StructLaws.{also_read}
use Rattle.nano_grammar.proofs.FieldReading.{AreApart, all_join, distinct_apart}
use Rattle.nano_grammar.specs.FieldCodec.{WrittenField, named, IsKnown, IsUnknown, AreNames}
use Rattle.nano_grammar.specs.FieldCodec.{IsWrittenField, FieldsCodec}
use Rattle.nano_grammar.proofs.FieldCodecLaws.{also_write}

-- the fields of the first are none of the others
known_are_passed : {T : Type 0} (knows : List ℕ → Bool) (fs rest : List (Field T))
    → AllByRecursion (λ f. knows f.name ≡ true) fs → others knows (fs ++ rest) ≡ others knows rest
known_are_passed knows [] rest h = refl
known_are_passed knows (f ∷ fs) rest h = rw h.0 (known_are_passed knows fs rest h.1)

unknown_are_kept : {T : Type 0} (knows : List ℕ → Bool) (fs : List (Field T))
    → AllByRecursion (λ f. knows f.name ≡ false) fs → others knows fs ≡ fs
unknown_are_kept knows [] h = refl
unknown_are_kept knows (f ∷ fs) h = rw h.0 (ap (λ l. f ∷ l) (unknown_are_kept knows fs h.1))

module _ {T : Type 0} {c : Cutting T} {g : Grammar T} {s : FieldStyle c g} {A B : Type 0}
    (f : FieldsCodec s A) (h : FieldsCodec s B) where
  abbrev Both : Struct T
  Both = also_read f.struct h.struct

  abbrev BothNames : List (List ℕ)
  BothNames = f.canonical.names ++ h.canonical.names

  abbrev BothSound : A × B → Type 0
  BothSound x = f.sound x.0 × h.sound x.1

  abbrev Written : A × B → List (WrittenField T)
  Written x = f.canonical.fields x.0 ++ h.canonical.fields x.1

  abbrev Means : A × B → Meaning
  Means x = paired (pair_map f.canonical.means h.canonical.means x)

  pub also_named : (P : List ℕ → Type 0) → AllByRecursion P BothNames → (x : A × B)
      → AllByRecursion (λ w. P w.name) (Written x)
  also_named P all x =
      let each = all_split P f.canonical.names h.canonical.names all in
      all_append (λ w. P w.name) (f.canonical.fields x.0) (h.canonical.fields x.1)
      (f.are_named P each.0 x.0) (h.are_named P each.1 x.1)

  pub also_known : AllByRecursion (IsKnown Both) BothNames
  also_known =
      let first = λ (n : List ℕ). or_left (f.struct.shape.knows n) (h.struct.shape.knows n) in
      let second = λ (n : List ℕ). or_right (f.struct.shape.knows n) (h.struct.shape.knows n) in
      all_append (IsKnown Both) f.canonical.names h.canonical.names
      (all_weaker (IsKnown f.struct) (IsKnown Both) first f.canonical.names f.are_known)
      (all_weaker (IsKnown h.struct) (IsKnown Both) second h.canonical.names h.are_known)

  pub also_unknown : (name : List ℕ) → AllByRecursion (Differs name) BothNames → IsUnknown Both name
  also_unknown name all =
      let each = all_split (Differs name) f.canonical.names h.canonical.names all in
      or_from (f.struct.shape.knows name) (h.struct.shape.knows name)
      (f.others_unknown name each.0) (h.others_unknown name each.1)

  -- the fields of the second are unknown to the first
  second_unknown : AreApart f.canonical.names h.canonical.names → (y : B)
      → AllByRecursion (λ w. IsUnknown f.struct w.name) (h.canonical.fields y)
  second_unknown apart =
      let Apart = λ (n : List ℕ). AllByRecursion (Differs n) f.canonical.names in
      h.are_named (IsUnknown f.struct)
      (all_weaker Apart (IsUnknown f.struct) f.others_unknown h.canonical.names apart.across)

  module _ (x : A × B) (legal : Both.shape.legal (Means x)) where
    parts : f.struct.shape.legal (f.canonical.means x.0)
        × h.struct.shape.legal (h.canonical.means x.1)
    parts =
        let same =
        both_injective (f.canonical.means x.0) (h.canonical.means x.1) legal.part.0 legal.part.1
        legal.is in (
          subst f.struct.shape.legal (sym same.0) legal.has.0,
          subst h.struct.shape.legal (sym same.1) legal.has.1,
        )

    abbrev EachIsWritten : ℕ → List (WrittenField T) → Type 0
    EachIsWritten d = AllByRecursion (IsWrittenField s d)

    pub also_are_written : AreNames s BothNames → (d : ℕ) → EachIsWritten d (Written x)
    also_are_written names d =
        let each = all_split s.IsName f.canonical.names h.canonical.names names.each in
        all_append (IsWrittenField s d)
        (f.canonical.fields x.0) (h.canonical.fields x.1)
        (f.are_written (record { each = each.0 }) x.0 parts.0 d)
        (h.are_written (record { each = each.1 }) x.1 parts.1 d)

  module _ (distinct : AreDistinct BothNames) (x : A × B) (legal : Both.shape.legal (Means x))
      (sound : BothSound x) where
    apart : AreApart f.canonical.names h.canonical.names
    apart = distinct_apart f.canonical.names h.canonical.names distinct

    first_known : AllByRecursion (λ w. IsKnown f.struct w.name) (f.canonical.fields x.0)
    first_known = f.are_named (IsKnown f.struct) f.are_known x.0

    pub also_taken : AllByRecursion (λ w. Both.shape.takes w.name w.tokens) (Written x)
    also_taken =
        let Taken = λ (w : WrittenField T). Both.shape.takes w.name w.tokens in
        let First = λ (w : WrittenField T). f.struct.shape.takes w.name w.tokens in
        let Second = λ (w : WrittenField T). h.struct.shape.takes w.name w.tokens in
        all_append Taken (f.canonical.fields x.0) (h.canonical.fields x.1)
        (all_join (λ w. IsKnown f.struct w.name) First Taken
        (λ w k t. subst (λ b. either b (First w) (Second w)) (sym k) t)
        (f.canonical.fields x.0) first_known
        (f.are_taken apart.first x.0 (parts x legal).0 sound.0))
        (all_join (λ w. IsUnknown f.struct w.name) Second Taken
        (λ w k t. subst (λ b. either b (First w) (Second w)) (sym k) t)
        (h.canonical.fields x.1) (second_unknown apart x.1)
        (h.are_taken apart.second x.1 (parts x legal).1 sound.1))

    module _ (more : List (Field T))
        (unknown : AllByRecursion (λ m. IsUnknown Both m.name) more) where
      abbrev Firsts : List (Field T)
      Firsts = map named (f.canonical.fields x.0)

      abbrev Seconds : List (Field T)
      Seconds = map named (h.canonical.fields x.1)

      -- unknown to both is unknown to each
      unknown_to_each : (m : Field T) → IsUnknown Both m.name
          → IsUnknown f.struct m.name × IsUnknown h.struct m.name
      unknown_to_each m = or_parts (f.struct.shape.knows m.name) (h.struct.shape.knows m.name)

      unknown_to_first : AllByRecursion (λ m. IsUnknown f.struct m.name) more
      unknown_to_first =
          all_weaker (λ m. IsUnknown Both m.name) (λ m. IsUnknown f.struct m.name)
          (λ m e. (unknown_to_each m e).0) more unknown

      unknown_to_second : AllByRecursion (λ m. IsUnknown h.struct m.name) more
      unknown_to_second =
          all_weaker (λ m. IsUnknown Both m.name) (λ m. IsUnknown h.struct m.name)
          (λ m e. (unknown_to_each m e).1) more unknown

      after_first : AllByRecursion (λ m. IsUnknown f.struct m.name) (Seconds ++ more)
      after_first =
          let Unknown = λ (m : Field T). IsUnknown f.struct m.name in
          all_append Unknown Seconds more
          (all-map Unknown named (h.canonical.fields x.1) (second_unknown apart x.1))
          unknown_to_first

      in_a_row : map named (Written x) ++ more ≡ Firsts ++ (Seconds ++ more)
      in_a_row =
          ap (λ l. l ++ more) (map-append named (f.canonical.fields x.0) (h.canonical.fields x.1))
          ∙ append_assoc Firsts Seconds more

      seen_by_second : others f.struct.shape.knows (Firsts ++ (Seconds ++ more)) ≡ Seconds ++ more
      seen_by_second =
          let Known = λ (m : Field T). IsKnown f.struct m.name in
          known_are_passed f.struct.shape.knows Firsts (Seconds ++ more)
          (all-map Known named (f.canonical.fields x.0) first_known)
          ∙ unknown_are_kept f.struct.shape.knows (Seconds ++ more) after_first

      pub also_meant : Both.shape.means (map named (Written x) ++ more) (Means x)
      also_meant =
          let second =
          h.are_meant apart.second x.1 (parts x legal).1 sound.1 more unknown_to_second in
          let following = h.canonical.means x.1 in
          subst (λ fs. Both.shape.means fs (Means x)) (sym in_a_row) (record {
            part = (f.canonical.means x.0, following);
            has = (
              f.are_meant apart.first x.0 (parts x legal).0 sound.0 (Seconds ++ more) after_first,
              subst (λ fs. h.struct.shape.means fs following) (sym seen_by_second) second,
            );
            is = refl;
          })

  pub also_is_sound : (x : A × B) (fs : List (Field T)) → Both.shape.means fs (Means x)
      → BothSound x
  also_is_sound x fs m =
      let same =
      both_injective (f.canonical.means x.0) (h.canonical.means x.1) m.part.0 m.part.1 m.is in
      let rest = others f.struct.shape.knows fs in (
        f.meant_is_sound x.0 fs (subst (f.struct.shape.means fs) (sym same.0) m.has.0),
        h.meant_is_sound x.1 rest (subst (h.struct.shape.means rest) (sym same.1) m.has.1),
      )

  -- fields, and more fields
  abbrev pub also_fields : FieldsCodec s (A × B)
  also_fields = record {
    canonical = also_write s f.canonical h.canonical;
    struct = also_read f.struct h.struct;
    sound = λ x. f.sound x.0 × h.sound x.1;
    are_named = also_named;
    are_known = also_known;
    others_unknown = also_unknown;
    are_taken = also_taken;
    are_meant = also_meant;
    meant_is_sound = also_is_sound;
    are_written = λ names x legal d. also_are_written x legal names d;
  }
