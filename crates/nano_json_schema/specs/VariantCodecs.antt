-- Codecs of enums in JSON, and of what their variants hold.
use Rattle.std.specs.Prelude.{◌≡◌, ℕ, true, List, [], ◌∷◌, ◌++◌, refl, ◌&&◌}
use Rattle.std.proofs.lemmas.Bool.{and_parts}
use Rattle.nano_grammar.specs.Tokens.{IsValueText}
use Rattle.nano_json.specs.Codec.{Codec}
use Rattle.nano_grammar.proofs.LayoutsLaws.{pair_written, last_part_written, tuple_written}
use Rattle.nano_grammar.specs.Variants.{VariantStyle, Variants}
use Rattle.nano_grammar.specs.VariantCodec.{Body}
use Rattle.nano_json_tokens.specs.Token.{curlies, curly_punctuation, Token, str, colon, curly_close}
use Rattle.nano_json_tokens.proofs.JsonLaws.{json, curlies_are, colon_is, no_gap_written}
use Rattle.nano_json_tokens.specs.Cut.{json_grammar}
use Rattle.nano_json_tokens.proofs.ScalarsLaws.{text_one}
use Rattle.nano_json_tokens.specs.Written.{written_text}
use Rattle.nano_json_tokens.specs.Names.{is_variant_name, are_plain_names}
use Rattle.nano_json_tokens.proofs.NamesLaws.{variant_name_is_text}
use Rattle.nano_json_schema.specs.Variants.{alone, opened, content_text}
use Rattle.nano_grammar.specs.FieldCodec.{FieldsCodec, fields_text}
use Rattle.nano_grammar.specs.Fields.{are_distinct}
use Rattle.nano_grammar.proofs.StructLaws.{fields_of}
use Rattle.nano_json_schema.specs.FieldCodecs.{json_fields, plain_names, fields_codec}
use Rattle.nano_grammar.specs.Choices.{no_more, more, Content}
use Rattle.nano_grammar.proofs.ChoicesLaws.{alone_placed, body_placed}

pub alone_meets : (a b : List ℕ) (x y : List Token) → alone a ++ x ≡ alone b ++ y
    → (a ≡ b) × (x ≡ y)
alone_meets a b x y e = (cc e, cc e)

pub opened_meets : (a b : List ℕ) (x y : List Token) → opened a ++ x ≡ opened b ++ y
    → (a ≡ b) × (x ≡ y)
opened_meets a b x y e = (cc e, cc e)

pub never_both : (a b : List ℕ) (x y : List Token) → alone a ++ x ≡ opened b ++ y → ⊥
never_both a b x y e = cc e

pub name_is_written : (name : List ℕ) → is_variant_name name ≡ true
    → IsValueText json (alone name) (written_text name)
name_is_written name is = text_one.is_written name (variant_name_is_text name is)

pub content_is_written : (name : List ℕ) (ts : List Token) (text : List ℕ)
    → is_variant_name name ≡ true → IsValueText json ts text
    → IsValueText json (opened name ++ (ts ++ curly_close ∷ [])) (content_text name text)
content_is_written name ts text is h =
    let closed =
    last_part_written json curlies curly_punctuation curlies_are (λ (_ : Unit {0}). ts) (λ _. text)
    tt h in
    let named =
    pair_written json colon 58 [] colon_is (λ rest. refl) no_gap_written
    (λ (_ : Unit {0}). alone name) (λ _. written_text name)
    (λ (_ : Unit {0}). ts ++ curly_close ∷ []) (λ _. text ++ 125 ∷ []) (tt, tt)
    (name_is_written name is) closed in
    tuple_written json curlies curly_punctuation curlies_are
    (λ (_ : Unit {0}). str name ∷ colon ∷ (ts ++ curly_close ∷ []))
    (λ _. written_text name ++ 58 ∷ (text ++ 125 ∷ [])) tt named

abbrev pub json_variants : VariantStyle json json_grammar
json_variants = record {
  alone = alone;
  opened = opened;
  closing = curly_close ∷ [];
  alone_meets = alone_meets;
  opened_meets = opened_meets;
  apart = λ a b x y e. absurd (never_both a b x y e);
  alone_begins = λ name. tt;
  opened_begins = λ name. tt;
  is_name = is_variant_name;
  IsContent = λ _. Unit {0};
  alone_text = written_text;
  content_text = content_text;
  alone_is_written = name_is_written;
  content_is_written = λ name ts text is _ h. content_is_written name ts text is h;
}

-- the content of a variant
abbrev pub body : {A : Type 0} → Codec A → Body json_variants
body {A} codec = record { Fields = A; codec = codec; fits = λ _ _. tt }

-- the variants of an enum in their order, each by its name, and by the format of its content if it
-- has one
abbrev pub JsonVariants : Type 1
JsonVariants = Variants (Body json_variants)

-- ==== what a variant holds

-- no content: the name stands alone
abbrev pub no_content : Content json_variants (Unit {0})
no_content = record {
  rest = no_more;
  text = λ name d x. written_text name;
  good = true;
  placed = λ _. alone_placed json_variants;
}

-- content of this format
abbrev pub content_as : {A : Type 0} → Codec A → Content json_variants A
content_as f = record {
  rest = more f.encoding;
  text = λ name d x. content_text name (f.canonical.text d x);
  good = true;
  placed = λ _. body_placed json_variants (body f);
}

-- named fields, of which each name is UTF-8 that needs no escape, and none stands twice
abbrev pub fields_content : {A : Type 0} → FieldsCodec json_fields A → Content json_variants A
fields_content f =
    let all = f.canonical.names in
    record {
      rest = more (fields_of json_fields f.struct);
      text = λ name d x. content_text name (fields_text json_fields d (f.canonical.fields x));
      good = are_plain_names all && are_distinct all;
      placed = λ ok.
          let parts = and_parts (are_plain_names all) (are_distinct all) ok in
          body_placed json_variants
          (body (fields_codec f (plain_names {names = all} parts.0) parts.1));
    }
