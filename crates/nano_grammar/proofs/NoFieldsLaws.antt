-- No fields: their codec, and its laws.
use Rattle.std.specs.Prelude.{[], refl}
use Rattle.std.proofs.Common.{sym, ◌∙◌}
use Rattle.nano_value.specs.Meaning.{nothing}
use Rattle.nano_grammar.specs.Tokens.{Cutting}
use Rattle.nano_grammar.specs.Codec.{Grammar}
use Rattle.nano_grammar.specs.Fields.{FieldStyle, IsShape, Struct, no_fields}
use Rattle.nano_grammar.specs.FieldCodec.{FieldsCanonical, FieldsCodec}

module _ {T : Type 0} where
  pub no_laws : IsShape (no_fields {T = T})
  no_laws = record {
    apart = λ name us more h k. absurd h;
    one = λ fs m n h k. h ∙ sym k;
    is_legal = λ fs m h. h;
    lacking = λ fs name m h. absurd h;
  }

  abbrev pub none_read : Struct T
  none_read = record { shape = no_fields; laws = no_laws }

module _ {T : Type 0} {c : Cutting T} {g : Grammar T} (s : FieldStyle c g) {A : Type 0} where
  abbrev pub none_written : FieldsCanonical s A
  none_written = record {
    means = λ _. nothing;
    names = [];
    fields = λ _. [];
    same_texts = λ x y e d. refl;
  }

  -- no field is written and none is known; values mean nothing
  abbrev pub no_field : FieldsCodec s A
  no_field = record {
    canonical = none_written;
    struct = none_read;
    sound = λ _. Unit {0};
    are_named = λ P h x. tt;
    are_known = tt;
    others_unknown = λ name h. refl;
    are_taken = λ distinct x legal sound. tt;
    are_meant = λ distinct x legal sound more unknown. refl;
    meant_is_sound = λ x fs h. tt;
    are_written = λ names x legal d. tt;
  }
