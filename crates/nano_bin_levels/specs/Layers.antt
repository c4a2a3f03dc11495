-- A type that contains itself as bytes, by one layer of it.
use Rattle.std.specs.Prelude.{◌≡◌, ◌<◌, ℕ, suc, List, Bool, true}
use Rattle.nano_value.specs.Meaning.{Meaning}
use Rattle.nano_bin_bytes.specs.Codec.{Codec, Encoding}

-- what the one encodes, the other encodes too
abbrev pub IsWithin : Encoding → Encoding → Type 0
IsWithin s t = (bytes : List ℕ) (m : Meaning) → s.encodes bytes m → t.encodes bytes m

-- each of these codecs encodes what the one before it does
abbrev pub Rises : {A : Type 0} → (ℕ → Codec A) → Type 0
Rises c = (n : ℕ) → IsWithin (c n).encoding (c (suc n)).encoding

-- what is encoded, one of these codecs encodes
abbrev pub IsReached : {A : Type 0} → Encoding → (ℕ → Codec A) → Type 0
IsReached s c = (bytes : List ℕ) (m : Meaning) → s.encodes bytes m
    → (n : ℕ) × (c n).encoding.encodes bytes m

-- values of one type inside those of another: the codec of the outer ones, given that of the inner
-- ones; what holds of all inner ones; what an outer one means, and the least number above those of
-- the inner ones; whether outer values are read where inner ones are. What holds of outer values
-- hangs on the inner ones alone
pub record Layer (A B : Type 0) : Type 1 where
  pub codec : Codec A → Codec B
  pub All : (A → Type 0) → B → Type 0
  pub means : (A → Meaning) → B → Meaning
  pub deep : (A → ℕ) → B → ℕ
  pub weaker : (P Q : A → Type 0) → ((y : A) → P y → Q y) → (x : B) → All P x → All Q x
  pub less : (d : A → ℕ) (x : B) → All (λ y. d y < deep d x) x
  pub means_is : (f : Codec A) (x : B) → (codec f).canonical.means x ≡ means f.canonical.means x
  pub means_same : (m n : A → Meaning) (x : B) → All (λ y. m y ≡ n y) x → means m x ≡ means n x
  pub written_same : (f h : Codec A) (x : B)
      → All (λ y. f.canonical.written y ≡ h.canonical.written y) x
      → (codec f).canonical.written x ≡ (codec h).canonical.written x
  pub legal_same : (f h : Codec A) (m : A → Meaning) (x : B)
      → All (λ y. f.encoding.legal (m y) → h.encoding.legal (m y)) x
      → (codec f).encoding.legal (means m x) → (codec h).encoding.legal (means m x)
  pub rises : (f h : Codec A) → IsWithin f.encoding h.encoding
      → IsWithin (codec f).encoding (codec h).encoding
  pub gathers : (c : ℕ → Codec A) → Rises c → (h : Codec A) → IsReached h.encoding c
      → IsReached (codec h).encoding (λ n. codec (c n))
  pub reads : Bool
  pub is_read : reads ≡ true → (f : Codec A) → f.is_decodable ≡ true → (codec f).is_decodable ≡ true

-- a type whose values are seen as holding values of the type itself, with what they mean and how
-- deep they are
pub record Nested (A : Type 0) : Type 1 where
  pub Seen : Type 0
  pub layer : Layer A Seen
  pub view : A → Seen
  pub means : A → Meaning
  pub depth : A → ℕ
  pub means_is : (x : A) → means x ≡ layer.means means (view x)
  pub depth_is : (x : A) → depth x ≡ layer.deep depth (view x)
