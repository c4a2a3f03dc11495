-- What is put into a store, and what is got from it.
use Rattle.std.specs.Prelude.{◌≡◌, ◌≢◌, ℕ, List, Option, Some, IfSome, String}
use Rattle.std.specs.Global.{Global}
use Rattle.std.specs.BTreeMap.{BTreeMap, get_by_text}
use Rattle.std.specs.Io.KnownBytes.{Appends}
use Rattle.nano_value.specs.Meaning.{Meaning}
use Rattle.nano_bin.specs.Codec.{Codec, Encoding}

-- all the bytes that a reader gives, where these are known, encode no value
abbrev pub HoldsNone : Encoding → Option (List ℕ) → Type 0
HoldsNone encoding known = IfSome known (λ bytes. (m : Meaning) → encoding.encodes bytes m → ⊥)

module _ {T : Type 0} (codec : Codec (BTreeMap (String Global) T))
    (means : BTreeMap (String Global) T → Meaning) where
  -- the bytes are this store
  abbrev pub IsStore : List ℕ → BTreeMap (String Global) T → Type 0
  IsStore bytes store = codec.encoding.encodes bytes (means store)

  -- a writer got the store that was read, with the record under the key and the others as they were
  pub record Puts (known : Option (List ℕ)) (key : List ℕ) (item : T)
      (old new : Option (List ℕ)) : Type 0 where
    pub before : BTreeMap (String Global) T
    pub after : BTreeMap (String Global) T
    pub read : IfSome known (λ bytes. IsStore bytes before)
    pub put : get_by_text after key ≡ Some item
    pub others : (other : List ℕ) → other ≢ key → get_by_text after other ≡ get_by_text before other
    pub written : Appends old new (codec.canonical.written after)

  -- the answer is what stands under the key in the store that was read
  pub record Gets (known : Option (List ℕ)) (key : List ℕ) (answer : Option T) : Type 0 where
    pub store : BTreeMap (String Global) T
    pub read : IfSome known (λ bytes. IsStore bytes store)
    pub is : answer ≡ get_by_text store key
