-- Enums from their schema, whatever the tokens are: the name of a variant, and its content if
-- it has one. Names are proved good once they are given; what is read and what is written does
-- not depend on such a proof.
use Rattle.std.specs.Prelude.{◌≡◌, ℕ, suc, ◌&&◌, ◌||◌, not, Bool, true, false, List, [], Some}
use Rattle.std.specs.Prelude.{bytes_eq}
use Rattle.nano_value.specs.Meaning.{Meaning, nothing}
use Rattle.nano_value.specs.Sums.{tagged}
use Rattle.nano_grammar.specs.Tokens.{Cutting}
use Rattle.nano_grammar.specs.Codec.{Grammar, Encoding}
use Rattle.nano_grammar.specs.Variants.{VariantStyle, Variants, no_variants, unit_variant, variant}
use Rattle.nano_grammar.specs.Variants.{Closed, unit_named, content_named, EncodesFound}
use Rattle.nano_grammar.specs.VariantCodec.{Body, Seen, seen_means, seen_text}
use Rattle.nano_schema.specs.declared.choices.Either.{Either}
use Rattle.nano_schema.specs.declared.choices.Either.TheVariants.{First, Later}

-- what comes after the name of a variant: nothing, or content
pub data Rest {T : Type 0} (g : Grammar T) : Type 1 where
  no_more : Rest g
  more : Encoding g → Rest g

abbrev pub stands_alone : {T : Type 0} {g : Grammar T} → Rest g → Bool
stands_alone no_more = true
stands_alone (more content) = false

-- the variants, with one of this name and content before them
abbrev pub before : {T : Type 0} {g : Grammar T} → Rest g → List ℕ → Variants (Encoding g)
    → Variants (Encoding g)
before no_more name others = unit_variant name others
before (more content) name others = variant name content others

-- ---- names

-- one of the variants without content has the name
abbrev pub has_alone : {C : Type 1} → Variants C → List ℕ → Bool
has_alone no_variants name = false
has_alone (unit_variant first others) name = bytes_eq name first || has_alone others name
has_alone (variant first content others) name = has_alone others name

abbrev pub stands_so : Bool → Bool → Bool
stands_so true alone = alone
stands_so false alone = not alone

-- a name is that of a variant, and stood alone if the variant's does and only then
abbrev pub is_named : Bool → Bool → List ℕ → List ℕ → Bool
is_named stood alone bytes name = stands_so stood alone && bytes_eq bytes name

-- ---- what is encoded

module _ {T : Type 0} {c : Cutting T} {g : Grammar T} (s : VariantStyle c g) where
  abbrev pub EncodesRest : Rest g → List T → Meaning → Type 0
  EncodesRest no_more ts m = (ts ≡ []) × (m ≡ nothing)
  EncodesRest (more content) ts m = Closed s content.encodes ts m

  -- what comes after a name that is taken, which stood alone or not; the first of the variants
  -- has this place
  abbrev pub EncodesAfter : ℕ → Variants (Encoding g) → Bool → List ℕ → List T → Meaning → Type 0
  EncodesAfter from vs true name ts m =
      (tag : ℕ) × (unit_named from vs name ≡ Some tag) × (ts ≡ []) × (m ≡ tagged tag nothing)
  EncodesAfter from vs false name ts m = EncodesFound s (content_named from vs name) ts m

  -- ---- one variant among others

  -- a variant with its content, put before others: what its content means and how the variant is
  -- written by its name; and a value of its content, and one of the others, as a value of them all
  pub record Placed (A : Type 0) : Type 1 where
    pub means : A → Meaning
    pub text : List ℕ → ℕ → A → List ℕ
    pub put : List ℕ → Variants (Body s) → Variants (Body s)
    pub here : (name : List ℕ) (others : Variants (Body s)) → A → Seen (put name others)
    pub following : (name : List ℕ) (others : Variants (Body s)) → Seen others
        → Seen (put name others)
    pub here_means : (name : List ℕ) (others : Variants (Body s)) (from : ℕ) (x : A)
        → seen_means from (put name others) (here name others x) ≡ tagged from (means x)
    pub after_means : (name : List ℕ) (others : Variants (Body s)) (from : ℕ) (x : Seen others)
        → seen_means from (put name others) (following name others x)
        ≡ seen_means (suc from) others x
    pub here_text : (name : List ℕ) (others : Variants (Body s)) (d : ℕ) (x : A)
        → seen_text (put name others) d (here name others x) ≡ text name d x
    pub after_text : (name : List ℕ) (others : Variants (Body s)) (d : ℕ) (x : Seen others)
        → seen_text (put name others) d (following name others x) ≡ seen_text others d x

  -- the content of a variant: how it is encoded, how the variant is written from its name and
  -- the content's level, and where the content's own names are good, what it is among others
  pub record Content (A : Type 0) : Type 1 where
    pub rest : Rest g
    pub text : List ℕ → ℕ → A → List ℕ
    pub good : Bool
    pub placed : good ≡ true → Placed A

  -- ---- all variants

  -- values that are the content of one of the variants: what each means where the first of them has
  -- this place, how it is written, and each as a value of them
  pub record Chosen (A : Type 0) : Type 1 where
    pub variants : Variants (Body s)
    pub means : ℕ → A → Meaning
    pub text : ℕ → A → List ℕ
    pub seen : A → Seen variants
    pub meant : (from : ℕ) (x : A) → seen_means from variants (seen x) ≡ means from x
    pub written : (d : ℕ) (x : A) → seen_text variants d (seen x) ≡ text d x

  -- the variants of an enum: how they are encoded and written, and where the names in their
  -- contents are good, what the values are
  pub record ChoiceCodec (A : Type 0) : Type 1 where
    pub encodes : Variants (Encoding g)
    pub text : ℕ → A → List ℕ
    pub good : Bool
    pub chosen : good ≡ true → Chosen A

module _ {T : Type 0} {c : Cutting T} {g : Grammar T} {s : VariantStyle c g} where
  abbrev pub chosen_last : {A : Type 0} → List ℕ → Placed s A → Chosen s A
  chosen_last name p = record {
    variants = p.put name no_variants;
    means = λ from x. tagged from (p.means x);
    text = p.text name;
    seen = p.here name no_variants;
    meant = p.here_means name no_variants;
    written = p.here_text name no_variants;
  }

  -- one variant
  abbrev pub last_choice : {A : Type 0} → List ℕ → Content s A → ChoiceCodec s A
  last_choice name content = record {
    encodes = before content.rest name no_variants;
    text = content.text name;
    good = content.good;
    chosen = λ ok. chosen_last name (content.placed ok);
  }

  module _ {A B : Type 0} (name : List ℕ) (p : Placed s A) (others : Chosen s B) where
    abbrev pub seen_next : Either A B → Seen (p.put name others.variants)
    seen_next (First x) = p.here name others.variants x
    seen_next (Later y) = p.following name others.variants (others.seen y)
