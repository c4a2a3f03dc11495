-- Enums, over any format's tokens: variants by their names, and which tokens encode them.
--
-- The name encodes a variant without content. The name and the content encode a variant with
-- content. No two variants have one name.
use Rattle.std.specs.Prelude.{◌≡◌, ◌⊎◌, ℕ, suc, ◌&&◌, ◌||◌, not, Bool, true, false, List, ◌++◌}
use Rattle.std.specs.Prelude.{Option, Some, None, bytes_eq, cond}
use Rattle.nano_value.specs.Meaning.{IsImage, LegalUnit, Meaning, nothing}
use Rattle.nano_value.specs.Sums.{Variants as Sums, no_variants as no_sums, variant as sum}
use Rattle.nano_value.specs.Sums.{LegalVariant, tagged}
use Rattle.nano_grammar.specs.Tokens.{Cutting, IsValueText}
use Rattle.nano_grammar.specs.Codec.{Grammar, BeginsValue, Encoding}

-- how a format has variants: a name alone; and with content, what comes before the content and
-- after it. Some names can be written, and some texts can be content
pub record VariantStyle {T : Type 0} (c : Cutting T) (g : Grammar T) : Type 1 where
  pub alone : List ℕ → List T
  pub opened : List ℕ → List T
  pub closing : List T
  pub alone_meets : (a b : List ℕ) (x y : List T) → alone a ++ x ≡ alone b ++ y
      → (a ≡ b) × (x ≡ y)
  pub opened_meets : (a b : List ℕ) (x y : List T) → opened a ++ x ≡ opened b ++ y
      → (a ≡ b) × (x ≡ y)
  pub apart : (a b : List ℕ) (x y : List T) → alone a ++ x ≡ opened b ++ y → a ≡ b
  pub alone_begins : (name : List ℕ) → BeginsValue g (alone name)
  pub opened_begins : (name : List ℕ) → BeginsValue g (opened name)
  pub is_name : List ℕ → Bool
  pub IsContent : List ℕ → Type 0
  pub alone_text : List ℕ → List ℕ
  pub content_text : List ℕ → List ℕ → List ℕ
  pub alone_is_written : (name : List ℕ) → is_name name ≡ true
      → IsValueText c (alone name) (alone_text name)
  pub content_is_written : (name : List ℕ) (ts : List T) (text : List ℕ) → is_name name ≡ true
      → IsContent text → IsValueText c ts text
      → IsValueText c (opened name ++ (ts ++ closing)) (content_text name text)

-- the variants of an enum in their order, each by its name: without content, or with content of
-- this kind
pub data Variants (C : Type 1) : Type 1 where
  no_variants : Variants C
  unit_variant : List ℕ → Variants C → Variants C
  variant : List ℕ → C → Variants C → Variants C

-- ---- names

-- one of the variants has the name
abbrev pub has_name : {C : Type 1} → Variants C → List ℕ → Bool
has_name no_variants name = false
has_name (unit_variant first others) name = bytes_eq name first || has_name others name
has_name (variant first content others) name = bytes_eq name first || has_name others name

-- two variants have two names
abbrev pub names_differ : {C : Type 1} → Variants C → Bool
names_differ no_variants = true
names_differ (unit_variant name others) = not (has_name others name) && names_differ others
names_differ (variant name content others) = not (has_name others name) && names_differ others

-- the place of the variant without content that has the name, counted from this one on
abbrev pub unit_named : {C : Type 1} → ℕ → Variants C → List ℕ → Option ℕ
unit_named tag no_variants name = None
unit_named tag (unit_variant first others) name =
    cond (bytes_eq name first) (Some tag) (unit_named (suc tag) others name)
unit_named tag (variant first content others) name = unit_named (suc tag) others name

-- a variant with content: its place, and the content
pub data Found (C : Type 1) : Type 1 where
  nobody : Found C
  found : ℕ → C → Found C

abbrev pub either_found : {C : Type 1} → Bool → Found C → Found C → Found C
either_found true x y = x
either_found false x y = y

-- the variant with content that has the name
abbrev pub content_named : {C : Type 1} → ℕ → Variants C → List ℕ → Found C
content_named tag no_variants name = nobody
content_named tag (unit_variant first others) name = content_named (suc tag) others name
content_named tag (variant first content others) name =
    either_found (bytes_eq name first) (found tag content) (content_named (suc tag) others name)

-- ---- what is encoded

-- what is legal for the content of each
abbrev pub sums_of : {T : Type 0} {g : Grammar T} → Variants (Encoding g) → Sums
sums_of no_variants = no_sums
sums_of (unit_variant name others) = sum LegalUnit (sums_of others)
sums_of (variant name content others) = sum content.legal (sums_of others)

-- a variant means its place, and what its content means
abbrev pub LegalEncoded : {T : Type 0} {g : Grammar T} → Variants (Encoding g) → Meaning → Type 0
LegalEncoded vs = LegalVariant (sums_of vs)

module _ {T : Type 0} {c : Cutting T} {g : Grammar T} (s : VariantStyle c g) where
  -- content, and what comes after it
  abbrev pub Closed : (List T → Meaning → Type 0) → List T → Meaning → Type 0
  Closed encodes ts m = (inside : List T) × (ts ≡ inside ++ s.closing) × encodes inside m

  -- the name of a variant without content, where places are counted from this one on
  pub record NameAlone (from : ℕ) (vs : Variants (Encoding g)) (ts : List T)
      (m : Meaning) : Type 0 where
    pub name : List ℕ
    pub tag : ℕ
    pub has : unit_named from vs name ≡ Some tag
    pub one : ts ≡ s.alone name
    pub is : m ≡ tagged tag nothing

  -- what the content after the name of a variant means
  abbrev pub EncodesFound : Found (Encoding g) → List T → Meaning → Type 0
  EncodesFound nobody ts m = ⊥
  EncodesFound (found tag content) ts m = IsImage (tagged tag) (Closed content.encodes ts) m

  -- the name of a variant with content, and the content
  pub record NameAndContent (from : ℕ) (vs : Variants (Encoding g)) (ts : List T)
      (m : Meaning) : Type 0 where
    pub name : List ℕ
    pub back : List T
    pub are : ts ≡ s.opened name ++ back
    pub content : EncodesFound (content_named from vs name) back m

  abbrev pub EncodesFrom : ℕ → Variants (Encoding g) → List T → Meaning → Type 0
  EncodesFrom from vs ts m = NameAlone from vs ts m ⊎ NameAndContent from vs ts m

  -- the name of a variant, and its content if it has one
  abbrev pub EncodesVariant : Variants (Encoding g) → List T → Meaning → Type 0
  EncodesVariant = EncodesFrom 0
