-- A struct that is written and read back, from its fields.
use Rattle.std.specs.Prelude.{◌≡◌, ℕ, true, [], map, refl}
use Rattle.std.specs.List.{AllByRecursion}
use Rattle.std.proofs.Common.{sym, subst, append-nil}
use Rattle.nano_grammar.specs.Tokens.{Cutting, IsValueText}
use Rattle.nano_grammar.specs.Codec.{Codec, Grammar}
use Rattle.nano_grammar.proofs.LayoutsLaws.{laid_out_encoded, laid_out_written}
use Rattle.nano_text.specs.Place.{saturating_next}
use Rattle.nano_grammar.specs.Fields.{FieldStyle, EncodedField, Allowed, EncodedFields, either}
use Rattle.nano_grammar.specs.Fields.{are_distinct}
use Rattle.nano_grammar.proofs.StructLaws.{fields_of}
use Rattle.nano_grammar.proofs.FieldReading.{all_join, distinct_names}
use Rattle.nano_grammar.specs.FieldCodec.{field_tokens, field_text, fields_tokens, fields_text}
use Rattle.nano_grammar.specs.FieldCodec.{named, IsKnown, AreNames, FieldsCodec}
use Rattle.nano_grammar.proofs.FieldCodecLaws.{fields_canonical}

module _ {T : Type 0} {c : Cutting T} {g : Grammar T} {s : FieldStyle c g} {A : Type 0}
    (f : FieldsCodec s A) where
  -- each written field is one that the struct allows
  each_is_allowed : are_distinct f.canonical.names ≡ true → (x : A)
      → f.struct.shape.legal (f.canonical.means x) → f.sound x
      → AllByRecursion (λ w. EncodedField s (Allowed s f.struct.shape) (field_tokens s w) (named w))
      (f.canonical.fields x)
  each_is_allowed distinct x legal sound =
      let takes = f.struct.shape.takes in
      all_join (λ w. IsKnown f.struct w.name) (λ w. takes w.name w.tokens)
      (λ w. EncodedField s (Allowed s f.struct.shape) (field_tokens s w) (named w))
      (λ w k t.
      (refl, subst (λ b. either b (takes w.name w.tokens) (s.Skipped w.tokens)) (sym k) t))
      (f.canonical.fields x) (f.are_named (IsKnown f.struct) f.are_known x)
      (f.are_taken (distinct_names f.canonical.names distinct) x legal sound)

  pub struct_reads_back : are_distinct f.canonical.names ≡ true → (x : A)
      → f.struct.shape.legal (f.canonical.means x) → f.sound x
      → EncodedFields s f.struct.shape (fields_tokens s (f.canonical.fields x))
      (f.canonical.means x)
  struct_reads_back distinct x legal sound =
      let fs = f.canonical.fields x in
      let meant = f.are_meant (distinct_names f.canonical.names distinct) x legal sound [] tt in (
        map named fs,
        laid_out_encoded s.list.ends s.list.tokens (EncodedField s (Allowed s f.struct.shape))
            (field_tokens s) named fs (each_is_allowed distinct x legal sound),
        subst (λ l. f.struct.shape.means l (f.canonical.means x)) (append-nil (map named fs)) meant,
      )

  pub struct_is_written : AreNames s f.canonical.names → (x : A)
      → f.struct.shape.legal (f.canonical.means x) → (d : ℕ)
      → IsValueText c (fields_tokens s (f.canonical.fields x))
      (fields_text s d (f.canonical.fields x))
  struct_is_written names x legal d =
      laid_out_written c s.list.tokens s.list.punctuation s.list.punctuation_is s.list.ends
      (s.list.gaps d)
      (s.list.gaps_are d) (field_tokens s) (field_text s (saturating_next d)) (f.canonical.fields x)
      (f.are_written names x legal (saturating_next d))

-- what a struct is written and read as: its fields between brackets. The names can be written,
-- and none occurs twice, as `refl` proves of given names
abbrev pub fields_codec : {T : Type 0} {c : Cutting T} {g : Grammar T} {s : FieldStyle c g}
    {A : Type 0}
    → (f : FieldsCodec s A) → AreNames s f.canonical.names → are_distinct f.canonical.names ≡ true
    → Codec c g A
fields_codec {T} {c} {g} {s} f names distinct = record {
  canonical = fields_canonical s f.canonical;
  encoding = fields_of s f.struct;
  sound = f.sound;
  reads_back = struct_reads_back f distinct;
  is_written = struct_is_written f names;
  encoded_is_sound = λ x ts h. f.meant_is_sound x h.0 h.2;
  null_alone = λ x ts e h. absurd (s.brackets.some e);
}
