-- Named fields around values of one type, over any format's tokens.
use Rattle.std.specs.Prelude.{◌≡◌, ℕ, map}
use Rattle.nano_value.specs.Meaning.{Meaning}
use Rattle.nano_grammar.specs.Tokens.{Cutting}
use Rattle.nano_grammar.specs.Codec.{Grammar, Codec}
use Rattle.nano_grammar.specs.Fields.{FieldStyle}
use Rattle.nano_grammar.specs.FieldCodec.{FieldsCodec, field_text, field_tokens}
use Rattle.nano_schema_levels.specs.Inside.{Inside}

-- the codec of the fields, given that of the inner values; what they hold of these, and what they
-- mean. What holds of the fields hangs on the inner values alone
pub record FieldsLayer {T : Type 0} {c : Cutting T} {g : Grammar T} (s : FieldStyle c g)
    (A B : Type 0) : Type 1 where
  pub codec : Codec c g A → FieldsCodec s B
  pub inside : Inside A B
  pub means : (A → Meaning) → B → Meaning
  pub means_is : (f : Codec c g A) (x : B)
      → (codec f).canonical.means x ≡ means f.canonical.means x
  pub means_same : (m n : A → Meaning) (x : B) → inside.All (λ y. m y ≡ n y) x
      → means m x ≡ means n x
  pub texts_same : (f h : Codec c g A) (x : B)
      → inside.All (λ y. (d : ℕ) → f.canonical.text d y ≡ h.canonical.text d y) x → (d : ℕ)
      → map (field_text s d) ((codec f).canonical.fields x)
      ≡ map (field_text s d) ((codec h).canonical.fields x)
  pub tokens_same : (f h : Codec c g A) (x : B)
      → inside.All (λ y. f.canonical.tokens y ≡ h.canonical.tokens y) x
      → map (field_tokens s) ((codec f).canonical.fields x)
      ≡ map (field_tokens s) ((codec h).canonical.fields x)
  pub sound_same : (f h : Codec c g A) (x : B)
      → inside.All (λ y. f.canonical.tokens y ≡ h.canonical.tokens y) x
      → inside.All (λ y. f.sound y → h.sound y) x → (codec f).sound x → (codec h).sound x
  pub legal_parts : (f : Codec c g A) (m : A → Meaning) (x : B)
      → (codec f).struct.shape.legal (means m x) → inside.All (λ y. f.encoding.legal (m y)) x
  pub legal_same : (f h : Codec c g A) (m : A → Meaning) (x : B)
      → inside.All (λ y. f.encoding.legal (m y) → h.encoding.legal (m y)) x
      → (codec f).struct.shape.legal (means m x) → (codec h).struct.shape.legal (means m x)
