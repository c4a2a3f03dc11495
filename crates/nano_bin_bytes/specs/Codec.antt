-- A canonical encoding and an encoding that agree.
use Rattle.std.specs.Prelude.{◌≡◌, ℕ, List, ◌++◌, Bool, true}
use Rattle.nano_value.specs.Meaning.{Meaning}

-- ==== which tokens encode the values of a type

-- every encoded value is legal, one encoding encodes one value, and at most one prefix of a
-- list is an encoding
pub record IsEncoding {A : Type 0} (legal : A → Type 0)
    (encodes : List ℕ → A → Type 0) : Type 0 where
  pub is_legal : (bytes : List ℕ) (x : A) → encodes bytes x → legal x
  pub one_value : (bytes : List ℕ) (x y : A) → encodes bytes x → encodes bytes y → x ≡ y
  pub one_prefix : (a b m n : List ℕ) (x y : A) → encodes a x → encodes b y → a ++ m ≡ b ++ n → a
      ≡ b

-- which bytes encode which meaning
pub record Encoding : Type 1 where
  pub legal : Meaning → Type 0
  pub encodes : List ℕ → Meaning → Type 0
  pub laws : IsEncoding legal encodes

-- ==== what the values of a type are written as

-- the bytes of each value: the same for what means the same
pub record Canonical (A : Type 0) : Type 1 where
  pub means : A → Meaning
  pub written : A → List ℕ
  pub same_written : (x y : A) → means x ≡ means y → written x ≡ written y

-- ==== both, and what is read back

-- for a type that is read too, the canonical encoding of a legal value encodes its meaning.
-- Slices have no count, so they are only written
pub record Codec (A : Type 0) : Type 1 where
  pub canonical : Canonical A
  pub encoding : Encoding
  pub is_decodable : Bool
  pub reads_back :
      is_decodable ≡ true
      → (x : A)
      → encoding.legal (canonical.means x)
      → encoding.encodes (canonical.written x) (canonical.means x)
