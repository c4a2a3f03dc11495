-- What is proved of Defaults.
use Rattle.std.specs.Prelude.{◌≡◌, ℕ, List, Some, None, [], ◌∷◌, map, Option, refl}
use Rattle.std.proofs.Common.{sym, ◌∙◌, inl, inr, ap, lit<, subst}
use Rattle.std.specs.Option.{option_map}
use Rattle.nano_value.specs.Meaning.{Meaning, listed, nothing, optional, paired}
use Rattle.nano_grammar.specs.Tokens.{Cutting}
use Rattle.nano_grammar.specs.Codec.{Codec, Grammar, Encoding, AreBrackets}
use Rattle.nano_grammar.specs.Fields.{HasEncoding, defaulted_field, IsShape, FieldStyle, Field}
use Rattle.nano_grammar.specs.Fields.{Holds, Struct, IsSoundDefault}
use Rattle.nano_grammar.proofs.FieldCodecLaws.{must_write, must_be_meant, must_be_written}
use Rattle.nano_grammar.specs.FieldCodec.{FieldsCodec}
use Rattle.nano_grammar.proofs.FieldsLaws.{required_laws}
use Rattle.nano_grammar.proofs.FieldReading.{same_name}
use Rattle.nano_value.specs.Order.{meaning_cmp}
use Rattle.nano_meaning.proofs.TablesLaws.{no_entries}
use Rattle.nano_grammar.specs.Items.{ListPunctuation}
use Rattle.nano_grammar.specs.Lists.{EncodesList}
use Rattle.nano_grammar.proofs.ListsLaws.{list_of}
use Rattle.nano_grammar.proofs.MapsLaws.{map_of}
use Rattle.nano_grammar.specs.Scalars.{NoneStyle}
use Rattle.nano_grammar.proofs.OptionsLaws.{option_codec}
use Rattle.nano_grammar.proofs.SetsLaws.{set_of}

-- ---- the shape

module _ {T : Type 0} {g : Grammar T} (name : List ℕ) (s : Encoding g) (missing : Meaning) where
  abbrev Means : List (Field T) → Meaning → Type 0
  Means = (defaulted_field name s missing).means

  defaulted_means_one : (fs : List (Field T)) (m n : Meaning) → Means fs m → Means fs n → m ≡ n
  defaulted_means_one fs m n (inl h) (inl k) = h.1.0 ∙ sym k.1.0
  defaulted_means_one fs m n (inl h) (inr k) = let e = sym h.0 ∙ k.1 in absurd (cc e)
  defaulted_means_one fs m n (inr h) (inl k) = let e = sym k.0 ∙ h.1 in absurd (cc e)
  defaulted_means_one fs m n (inr h) (inr k) = (required_laws name s).one fs m n h k

  defaulted_is_legal : (fs : List (Field T)) (m : Meaning) → Means fs m → s.legal m
  defaulted_is_legal fs m (inl h) = s.laws.is_legal h.1.1.0 m h.1.1.1
  defaulted_is_legal fs m (inr h) = (required_laws name s).is_legal fs m h

  pub defaulted_laws : IsShape (defaulted_field name s missing)
  defaulted_laws = record {
    apart = (required_laws name s).apart;
    one = defaulted_means_one;
    is_legal = defaulted_is_legal;
    lacking = λ fs n m h. absurd h;
  }

  -- a field that may be missing, and has a default then
  abbrev pub default_read : Struct T
  default_read = record { shape = defaulted_field name s missing; laws = defaulted_laws }

  -- ---- what a slot means in the end

  -- where no field has the name, a value that means the default and is encoded stands in its place
  pub missing_is_meant : (fs : List (Field T)) (m : Meaning) → m ≡ missing
      → HasEncoding s.encodes m → Holds name s.encodes None fs → Means fs m
  missing_is_meant fs m e encoded h = inl (h, (e, encoded))

  pub present_is_meant : (fs : List (Field T)) (m : Meaning) → Holds name s.encodes (Some m) fs
      → Means fs m
  present_is_meant fs m h = inr h

-- for the search of goals
pub ruleset meant_values = (missing_is_meant, present_is_meant)

-- ---- the codec

module _ {T : Type 0} {c : Cutting T} {g : Grammar T} (s : FieldStyle c g) {A : Type 0}
    (name : List ℕ) (f : Codec c g A) (missing : Meaning)
  where
    pub defaulted_sound : (x : A) (fs : List (Field T))
        → (defaulted_field name f.encoding missing).means fs (f.canonical.means x) → f.sound x
    defaulted_sound x fs (inl h) = f.encoded_is_sound x h.1.1.0 h.1.1.1
    defaulted_sound x fs (inr h) = f.encoded_is_sound x h.0 h.2

    -- a field that is always written, and has a default where it is missing
    abbrev pub default_field : FieldsCodec s A
    default_field = record {
      canonical = must_write s name f.canonical;
      struct = default_read name f.encoding missing;
      sound = f.sound;
      are_named = λ P h x. (h.0, tt);
      are_known = (same_name name, tt);
      others_unknown = λ n h. h.0;
      are_taken = λ _ x legal sound. ((f.canonical.means x, f.reads_back x legal sound), tt);
      are_meant = λ _ x legal sound more unknown. inr (must_be_meant s name f x legal sound more unknown);
      meant_is_sound = defaulted_sound;
      are_written = must_be_written s name f;
    }

-- ==== defaults that hold nothing

-- what has an encoding is sound
pub encoded_default : {T : Type 0} {c : Cutting T} {g : Grammar T} {A : Type 0} (f : Codec c g A)
    (missing : Meaning) → HasEncoding f.encoding.encodes missing → IsSoundDefault f missing
encoded_default f missing h x e =
    f.encoded_is_sound x h.0 (subst (f.encoding.encodes h.0) (sym e) h.1)

-- an absent item is sound
pub none_default : {T : Type 0} {c : Cutting T} {g : Grammar T} {A : Type 0} (n : NoneStyle c g)
    (f : Codec c g A) (x : Option A) → optional (option_map f.canonical.means x) ≡ nothing
    → (option_codec n f).sound x
none_default n f None e = tt
none_default n f (Some x) e = absurd (cc e)

-- ---- brackets with nothing between them

module _ {T : Type 0} (punctuation : ListPunctuation T) where
  abbrev only_brackets : List T
  only_brackets = punctuation.opening ∷ (punctuation.closing ∷ [])

  no_items : {V : Type 0} (S : List T → V → Type 0) → EncodesList punctuation S only_brackets []
  no_items S = record {
    count = lit< tt;
    items = (punctuation.closing ∷ [], refl, refl);
  }

  module _ {g : Grammar T} (are : AreBrackets g punctuation) where
    pub no_list : (s : Encoding g) → HasEncoding (list_of punctuation are s).encodes nothing
    no_list s = (only_brackets, record { part = []; has = no_items s.encodes; is = refl })

    pub no_set : (s : Encoding g) → HasEncoding (set_of punctuation are s).encodes nothing
    no_set s = (
      only_brackets,
      record {
        part = [];
        has = no_items s.encodes;
        is = sym (ap (λ es. listed (map (λ e. e.0) es)) (no_entries {X = Unit {0}} meaning_cmp));
      },
    )

    pub no_map : (punctuator : T) (s t : Encoding g)
        → HasEncoding (map_of punctuation are punctuator s t).encodes nothing
    no_map punctuator s t = (
      only_brackets,
      record {
        part = [];
        has = no_items _;
        is = sym (ap (λ es. listed (map paired es)) (no_entries meaning_cmp));
      },
    )
