-- Which tokens encode the values of a type and how these are written, together: over any
-- format's tokens.
use Rattle.std.specs.Prelude.{◌≡◌, ◌≢◌, List, [], ◌∷◌, ℕ, Bool}
use Rattle.nano_value.specs.Meaning.{Meaning}
use Rattle.nano_grammar.specs.Items.{ListPunctuation, OneValue, Gaps, PunctuationIs, AreGaps}
use Rattle.nano_grammar.specs.Tokens.{NoneBeginsAnother, Cutting, IsPunctuator, Follows}
use Rattle.nano_grammar.specs.Tokens.{IsWrittenGap, IsValueText}

-- ==== which tokens encode the values of a type

-- of a format's tokens: which may begin a value, and which stands for an absent value
pub record Grammar (T : Type 0) : Type 1 where
  pub may_begin : T → Type 0
  pub none : T
  pub none_begins : may_begin none

-- the tokens begin with this one
abbrev pub StartsWith : {T : Type 0} → T → List T → Type 0
StartsWith t [] = ⊥
StartsWith t (u ∷ us) = u ≡ t

module _ {T : Type 0} (g : Grammar T) where
  -- the tokens have a first one, and it may begin a value
  abbrev pub BeginsValue : List T → Type 0
  BeginsValue [] = ⊥
  BeginsValue (t ∷ ts) = g.may_begin t

  -- what is encoded is legal, one encoding encodes one value, none is a proper prefix of
  -- another, and each begins as a value does
  pub record IsEncoding {A : Type 0} (legal : A → Type 0) (encodes : List T → A → Type 0)
      : Type 0 where
    pub is_legal : (ts : List T) (x : A) → encodes ts x → legal x
    pub one_value : OneValue encodes
    pub none_begins : NoneBeginsAnother encodes
    pub begins : (ts : List T) (x : A) → encodes ts x → BeginsValue ts

  -- how the values of a type are encoded, by what they mean
  pub record Encoding : Type 1 where
    pub legal : Meaning → Type 0
    pub encodes : List T → Meaning → Type 0
    pub laws : IsEncoding legal encodes

  -- the tokens of a list or a tuple: no value begins with the closing bracket or the comma, which
  -- are two; a value may begin with the opening one, which is not what stands for what is absent
  pub record AreBrackets (punctuation : ListPunctuation T) : Type 0 where
    pub apart : punctuation.closing ≢ punctuation.comma
    pub closes : g.may_begin punctuation.closing → ⊥
    pub divides : g.may_begin punctuation.comma → ⊥
    pub opens : g.may_begin punctuation.opening
    pub some : punctuation.opening ≢ g.none

-- ==== how the values of a type are written, over any format's tokens

module _ {T : Type 0} (c : Cutting T) where
  -- what the values of a type are written as: the characters at each level, and the tokens that
  -- these are cut into. What means the same is written the same
  pub record Canonical (A : Type 0) : Type 1 where
    pub means : A → Meaning
    pub text : ℕ → A → List ℕ
    pub tokens : A → List T
    pub same_text : (x y : A) → means x ≡ means y → (d : ℕ) → text d x ≡ text d y

  -- how a format writes lists of one kind: its brackets and comma, whether a comma comes after
  -- the last item, and the gaps at each level
  pub record ListStyle : Type 0 where
    pub tokens : ListPunctuation T
    pub punctuation : ListPunctuation ℕ
    pub punctuation_is : PunctuationIs c tokens punctuation
    pub ends : Bool
    pub gaps : ℕ → Gaps ℕ
    pub gaps_are : (d : ℕ) → AreGaps c ends punctuation (gaps d)

  -- how a format writes two values after one another: the punctuator between them, and the gap
  -- after it
  pub record PairStyle : Type 0 where
    pub token : T
    pub punctuator : ℕ
    pub gap : List ℕ
    pub is_punctuator : IsPunctuator c token punctuator
    pub follows : Follows c punctuator
    pub is_gap : IsWrittenGap c gap

  -- how a format writes tuples: its brackets and comma, and the gap after each comma
  pub record TupleStyle : Type 0 where
    pub tokens : ListPunctuation T
    pub punctuation : ListPunctuation ℕ
    pub punctuation_is : PunctuationIs c tokens punctuation
    pub gap : List ℕ
    pub is_gap : IsWrittenGap c gap

-- ==== both, and what is read back

-- A value is sound if no Some in it holds one that is written beginning with the token for an
-- absent value. The text of a legal value is cut into its tokens; those of a sound one encode it.
-- What is encoded is sound. If what is written of a value begins so, each of its encodings does
pub record Codec {T : Type 0} (c : Cutting T) (g : Grammar T) (A : Type 0) : Type 1 where
  pub canonical : Canonical c A
  pub encoding : Encoding g
  pub is_written : (x : A) → encoding.legal (canonical.means x) → (d : ℕ)
      → IsValueText c (canonical.tokens x) (canonical.text d x)
  pub sound : A → Type 0
  pub reads_back : (x : A) → encoding.legal (canonical.means x) → sound x
      → encoding.encodes (canonical.tokens x) (canonical.means x)
  pub encoded_is_sound : (x : A) (ts : List T) → encoding.encodes ts (canonical.means x) → sound x
  pub null_alone : (x : A) (ts : List T) → StartsWith g.none (canonical.tokens x)
      → encoding.encodes ts (canonical.means x) → StartsWith g.none ts
