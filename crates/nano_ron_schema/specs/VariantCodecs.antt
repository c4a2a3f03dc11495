-- Codecs of enums in RON, and of what their variants hold.
use Rattle.std.specs.Prelude.{◌≡◌, ℕ, true, false, List, [], ◌∷◌, ◌++◌, chars, refl, ◌&&◌}
use Rattle.std.proofs.Common.{sym, subst, append_assoc, append-nil, eqb-true}
use Rattle.std.proofs.lemmas.Bool.{and_parts}
use Rattle.nano_text.specs.Characters.{first_is}
use Rattle.nano_grammar.specs.Tokens.{IsValueText}
use Rattle.nano_ron.specs.Codec.{Codec}
use Rattle.nano_grammar.proofs.TokensLaws.{textual_append}
use Rattle.nano_grammar.proofs.TuplesLaws.{last_codec, tuple_codec}
use Rattle.nano_grammar.specs.Variants.{VariantStyle}
use Rattle.nano_grammar.specs.VariantCodec.{Body}
use Rattle.nano_ron_tokens.specs.Cut.{is_word, IsName, word, ron_grammar}
use Rattle.nano_ron_tokens.proofs.RonLaws.{ron, cut_at_once, paren_brackets}
use Rattle.nano_ron_tokens.proofs.StylesLaws.{tuple_style}
use Rattle.nano_ron_tokens.specs.Token.{Token, ident}
use Rattle.nano_ron_tokens.specs.Names.{is_name, are_names}
use Rattle.nano_ron_tokens.proofs.NamesLaws.{good_name, name_is_written, name_characters}
use Rattle.nano_ron_tokens.proofs.NamesLaws.{textual_word}
use Rattle.nano_ron_schema.specs.Variants.{named, content_text, InParentheses}
use Rattle.nano_grammar.specs.FieldCodec.{FieldsCodec, fields_text}
use Rattle.nano_grammar.specs.Fields.{are_distinct}
use Rattle.nano_grammar.proofs.StructLaws.{fields_of}
use Rattle.nano_ron_schema.specs.FieldCodecs.{ron_fields, word_names, fields_codec}
use Rattle.nano_grammar.specs.Choices.{no_more, more, Content}
use Rattle.nano_grammar.proofs.ChoicesLaws.{alone_placed, body_placed}

pub named_meets : (a b : List ℕ) (x y : List Token) → named a ++ x ≡ named b ++ y
    → (a ≡ b) × (x ≡ y)
named_meets a b x y e = (cc e, cc e)

-- a parenthesis goes on with no word
name_ends : (text rest : List ℕ) → InParentheses text → first_is is_word (text ++ rest) ≡ false
name_ends [] rest h = absurd (cc h)
name_ends (c ∷ cs) rest h = subst (λ k. is_word k ≡ false) (sym (eqb-true c 40 h)) refl

word_with_content : (name : List ℕ) (ts : List Token) (text : List ℕ) → IsName name
    → InParentheses text → IsValueText ron ts text
    → IsValueText ron (ident name ∷ ts) (name ++ text)
word_with_content name ts text good begins h = record {
  cut_again = λ rest follows.
      let lexeme = word (good, (append_assoc name text rest, name_ends text rest begins)) in (
        text ++ rest,
        cut_at_once ((name ++ text) ++ rest) (text ++ rest) (ident name) lexeme,
        h.cut_again rest follows,
      );
  has_token = tt;
  textual = textual_append name text (textual_word name good.goes_on) h.textual;
}

pub content_is_written : (name : List ℕ) (ts : List Token) (text : List ℕ) → is_name name ≡ true
    → InParentheses text → IsValueText ron ts text
    → IsValueText ron (named name ++ (ts ++ [])) (content_text name text)
content_is_written name ts text is begins h =
    let good = good_name name is in
    let all = subst (λ l. IsValueText ron l text) (sym (append-nil ts)) h in
    subst (λ l. IsValueText ron (ident name ∷ (ts ++ [])) (l ++ text))
    (sym (name_characters name good)) (word_with_content name (ts ++ []) text good begins all)

abbrev pub ron_variants : VariantStyle ron ron_grammar
ron_variants = record {
  alone = named;
  opened = named;
  closing = [];
  alone_meets = named_meets;
  opened_meets = named_meets;
  apart = λ a b x y e. (named_meets a b x y e).0;
  alone_begins = λ name. tt;
  opened_begins = λ name. tt;
  is_name = is_name;
  IsContent = InParentheses;
  alone_text = λ name. chars name;
  content_text = content_text;
  alone_is_written = λ name is. name_is_written name (good_name name is);
  content_is_written = content_is_written;
}

-- the content of a variant, which is written between parentheses, as `λ x d. refl` proves of a
-- tuple and of named fields
abbrev pub body : {A : Type 0} → (codec : Codec A)
    → ((x : A) (d : ℕ) → InParentheses (codec.canonical.text d x)) → Body ron_variants
body {A} codec fits = record { Fields = A; codec = codec; fits = fits }

-- a tuple of one part
abbrev pub single_codec : {A : Type 0} → Codec A → Codec A
single_codec f =
    tuple_codec tuple_style paren_brackets (last_codec tuple_style paren_brackets f)

-- ==== what a variant holds

-- no content: nothing comes after the name
abbrev pub no_content : Content ron_variants (Unit {0})
no_content = record {
  rest = no_more;
  text = λ name d x. chars name;
  good = true;
  placed = λ _. alone_placed ron_variants;
}

-- content of this format, which is written between parentheses, as `λ x d. refl` checks for a
-- tuple
abbrev pub content_as : {A : Type 0} → (f : Codec A)
    → ((x : A) (d : ℕ) → InParentheses (f.canonical.text d x)) → Content ron_variants A
content_as f fits = record {
  rest = more f.encoding;
  text = λ name d x. content_text name (f.canonical.text d x);
  good = true;
  placed = λ _. body_placed ron_variants (body f fits);
}

-- named fields, of which each name is a word but `true` and `false`, and none stands twice
abbrev pub fields_content : {A : Type 0} → FieldsCodec ron_fields A → Content ron_variants A
fields_content f =
    let all = f.canonical.names in
    record {
      rest = more (fields_of ron_fields f.struct);
      text = λ name d x. content_text name (fields_text ron_fields d (f.canonical.fields x));
      good = are_names all && are_distinct all;
      placed = λ ok.
          let parts = and_parts (are_names all) (are_distinct all) ok in
          let codec = fields_codec f (word_names {names = all} parts.0) parts.1 in
          body_placed ron_variants (body codec (λ x d. refl));
    }
