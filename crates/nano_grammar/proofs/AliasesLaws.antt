-- What is proved of Aliases.
use Rattle.std.specs.Prelude.{◌≡◌, ℕ, true, false, List, [], ◌∷◌, ◌++◌, map, refl, bytes_eq}
use Rattle.std.specs.Prelude.{if◌then◌else◌}
use Rattle.std.specs.Prelude.{◌⊎◌, ◌≢◌}
use Rattle.std.specs.List.{AllByRecursion}
use Rattle.std.proofs.Common.{sym, ◌∙◌, ap, subst, inl, inr}
use Rattle.std.proofs.lemmas.Slice.Eq.{bytes_eq-Decides}
use Rattle.std.proofs.lemmas.Bool.{or_left, or_right, or_from, or_parts}
use Rattle.std.proofs.lemmas.List.{map-append}
use Rattle.nano_meaning.proofs.MeaningLaws.{all-map, all_weaker}
use Rattle.nano_grammar.specs.Tokens.{Cutting}
use Rattle.nano_grammar.specs.Codec.{Grammar}
use Rattle.nano_grammar.specs.Fields.{FieldStyle, Field, Shape, IsShape, Struct, Differs, AreDistinct}
use Rattle.nano_grammar.specs.FieldCodec.{FieldsCodec, named}
use Rattle.nano_grammar.specs.FieldCodec.{IsKnown, IsUnknown}
use Rattle.nano_grammar.proofs.FieldReading.{same_name, all_join}
use Rattle.nano_grammar.specs.Promises.{NoneNamed, LastOfBothNamesCounts}
use Rattle.nano_grammar.proofs.StructLaws.{last_field}
use Rattle.nano_grammar.specs.Aliases.{own_of, under_own, aliased}

module _ (alias own : List ℕ) where
  -- the alias counts as the own name
  pub alias_is_own : (name : List ℕ) → bytes_eq name alias ≡ true → own_of alias own name ≡ own
  alias_is_own name e = ap (λ b. if b then own else name) e

  -- the own name counts as itself
  pub own_unchanged : own_of alias own own ≡ own
  own_unchanged = elim (bytes_eq own alias) as (λ b. (if b then own else own) ≡ own) [
    | true ↦ refl
    | false ↦ refl
  ]

  -- another name counts as itself
  pub other_is_own : (name : List ℕ) → bytes_eq name alias ≡ false → own_of alias own name ≡ name
  other_is_own name e = ap (λ b. if b then own else name) e

  module _ {T : Type 0} where
    pub other_unchanged : (f : Field T) → bytes_eq f.name alias ≡ false → under_own alias own f ≡ f
    other_unchanged f e = ap (λ (n : List ℕ). record { name = n; value = f.value }) (other_is_own f.name e)

    -- where no field has the alias, all count as they are
    pub all_stay : (fs : List (Field T)) → AllByRecursion (λ f. bytes_eq f.name alias ≡ false) fs
        → map (under_own alias own) fs ≡ fs
    all_stay [] h = refl
    all_stay (f ∷ fs) h = λ i. other_unchanged f h.0 i ∷ all_stay fs h.1 i

    -- ---- the shape

    pub aliased_laws : (shape : Shape T) → IsShape shape → IsShape (aliased alias own shape)
    aliased_laws shape laws = record {
      apart = λ name. laws.apart (own_of alias own name);
      one = λ fs. laws.one (map (under_own alias own) fs);
      is_legal = λ fs. laws.is_legal (map (under_own alias own) fs);
      lacking = λ fs. laws.lacking (map (under_own alias own) fs);
    }

    -- fields that are read, of which one has a second name
    abbrev pub also_under : Struct T → Struct T
    also_under struct = record {
      shape = aliased alias own struct.shape;
      laws = aliased_laws struct.shape struct.laws;
    }

    -- ---- what is held so far

    -- a field of another name changes nothing
    pub aliased_skips : (shape : Shape T) (holds : List (Field T) → Type 0) (fs : List (Field T))
        (f : Field T) → (aliased alias own shape).knows f.name ≡ false
        → (shape.knows f.name ≡ false → holds (map (under_own alias own) fs)
        → holds (map (under_own alias own) fs ++ f ∷ []))
        → holds (map (under_own alias own) fs) → holds (map (under_own alias own) (fs ++ f ∷ []))
    aliased_skips shape holds fs f unknown skips h =
        let parts = or_parts (bytes_eq f.name alias) (shape.knows f.name) unknown in
        let one = ap (λ (x : Field T). x ∷ []) (other_unchanged f parts.0) in
        let same = map-append (under_own alias own) fs (f ∷ [])
        ∙ ap (λ xs. map (under_own alias own) fs ++ xs) one in
        subst holds (sym same) (skips parts.1 h)

module _ {T : Type 0} {c : Cutting T} {g : Grammar T} {s : FieldStyle c g} {A : Type 0}
    (alias own : List ℕ) (f : FieldsCodec s A) where
  abbrev Names : List (List ℕ)
  Names = alias ∷ f.canonical.names

  abbrev Also : Struct T
  Also = also_under alias own f.struct

  abbrev NotAlias : List ℕ → Type 0
  NotAlias n = bytes_eq n alias ≡ false

  pub alias_known : AllByRecursion (IsKnown Also) Names
  alias_known = (
    or_left (bytes_eq alias alias) (f.struct.shape.knows alias) (same_name alias),
    all_weaker (IsKnown f.struct) (IsKnown Also)
        (λ n. or_right (bytes_eq n alias) (f.struct.shape.knows n)) f.canonical.names f.are_known,
  )

  pub alias_unknown : (name : List ℕ) → AllByRecursion (Differs name) Names → IsUnknown Also name
  alias_unknown name all =
      or_from (bytes_eq name alias) (f.struct.shape.knows name) all.0 (f.others_unknown name all.1)

  module _ (distinct : AreDistinct Names) (x : A) where
    -- what is written has no alias
    own_names : AllByRecursion (λ w. NotAlias w.name) (f.canonical.fields x)
    own_names = f.are_named NotAlias distinct.0 x

    pub alias_taken : f.struct.shape.legal (f.canonical.means x) → f.sound x
        → AllByRecursion (λ w. Also.shape.takes w.name w.tokens) (f.canonical.fields x)
    alias_taken legal sound =
        all_join (λ w. NotAlias w.name) (λ w. f.struct.shape.takes w.name w.tokens)
        (λ w. Also.shape.takes w.name w.tokens)
        (λ w e t. subst (λ n. f.struct.shape.takes n w.tokens) (sym (other_is_own alias own w.name e)) t)
        (f.canonical.fields x) own_names (f.are_taken distinct.1 x legal sound)

    pub alias_meant : f.struct.shape.legal (f.canonical.means x) → f.sound x
        → (more : List (Field T)) → AllByRecursion (λ m. IsUnknown Also m.name) more
        → Also.shape.means (map named (f.canonical.fields x) ++ more) (f.canonical.means x)
    alias_meant legal sound more unknown =
        let written = map named (f.canonical.fields x) in
        let parts = λ (m : Field T) (e : IsUnknown Also m.name).
        or_parts (bytes_eq m.name alias) (f.struct.shape.knows m.name) e in
        let others = all_weaker (λ m. IsUnknown Also m.name) (λ m. NotAlias m.name)
        (λ m e. (parts m e).0) more unknown in
        let inner = all_weaker (λ m. IsUnknown Also m.name) (λ m. IsUnknown f.struct m.name)
        (λ m e. (parts m e).1) more unknown in
        let first = all_stay alias own written (all-map (λ m. NotAlias m.name) named
        (f.canonical.fields x) own_names) in
        let same = map-append (under_own alias own) written more
        ∙ (λ i. first i ++ all_stay alias own more others i) in
        subst (λ fs. f.struct.shape.means fs (f.canonical.means x)) (sym same)
        (f.are_meant distinct.1 x legal sound more inner)

  -- fields that are written under their own names, of which one is also read under the alias
  abbrev pub alias_field : FieldsCodec s A
  alias_field = record {
    canonical = record {
      means = f.canonical.means;
      names = Names;
      fields = f.canonical.fields;
      same_texts = f.canonical.same_texts;
    };
    struct = Also;
    sound = f.sound;
    are_named = λ P all. f.are_named P all.1;
    are_known = alias_known;
    others_unknown = alias_unknown;
    are_taken = alias_taken;
    are_meant = alias_meant;
    meant_is_sound = λ x fs. f.meant_is_sound x (map (under_own alias own) fs);
    are_written = λ names. f.are_written (record { each = names.each.1 });
  }

-- ==== the last of both names

equal_names : (n m : List ℕ) → n ≡ m → bytes_eq n m ≡ true
equal_names n m e = (bytes_eq-Decides n m).1 e

unequal_names : (n m : List ℕ) → n ≢ m → bytes_eq n m ≡ false
unequal_names n m other = elim (bytes_eq n m) as (λ b. bytes_eq n m ≡ b → b ≡ false) [
  | true ↦ λ e. absurd (other ((bytes_eq-Decides n m).0 e))
  | false ↦ λ e. refl
] refl

either_is_own : (alias own n : List ℕ) → (n ≡ alias) ⊎ (n ≡ own) → own_of alias own n ≡ own
either_is_own alias own n (inl e) = alias_is_own alias own n (equal_names n alias e)
either_is_own alias own n (inr e) = elim (bytes_eq n alias) as (λ b. (if b then own else n) ≡ own) [
  | true ↦ refl
  | false ↦ e
]

module _ {T : Type 0} (alias own : List ℕ) where
  none_own : (fs : List (Field T)) → NoneNamed T alias fs → NoneNamed T own fs
      → NoneNamed T own (map (under_own alias own) fs)
  none_own [] h k = tt
  none_own (f ∷ fs) h k =
      let unchanged = other_is_own alias own f.name (unequal_names f.name alias h.0) in
      ((λ e. k.0 (sym unchanged ∙ e)), none_own fs h.1 k.1)

pub last_of_both : (T : Type 0) → LastOfBothNamesCounts T
last_of_both T alias own f before after is h k =
    let Own = under_own alias own {T = T} in
    let named = ap (λ (n : List ℕ). record { name = n; value = f.value }) (either_is_own alias own f.name is) in
    let same = map-append Own before (f ∷ after)
    ∙ ap (λ (x : Field T). map Own before ++ x ∷ map Own after) named in
    (last_field T own f.value (map Own (before ++ f ∷ after))).1
    (map Own before, map Own after, same, none_own alias own after h k)
