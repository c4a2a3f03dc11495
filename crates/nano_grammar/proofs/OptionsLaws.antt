-- What is proved of Options.
use Rattle.std.specs.Prelude.{◌≡◌, ℕ, List, [], ◌++◌, Option, Some, None, refl}
use Rattle.std.specs.Option.{option_map}
use Rattle.std.proofs.Common.{sym, ◌∙◌, subst, ap}
use Rattle.nano_value.specs.Meaning.{AllOfOption, Meaning, optional}
use Rattle.nano_meaning.proofs.MeaningLaws.{both_injective}
use Rattle.nano_grammar.specs.Tokens.{Cutting, IsValueText}
use Rattle.nano_grammar.specs.Codec.{Codec, Grammar, BeginsValue, StartsWith, IsEncoding, Encoding}
use Rattle.nano_grammar.specs.Codec.{Canonical}
use Rattle.nano_grammar.specs.Items.{StartsOtherwise}
use Rattle.nano_grammar.proofs.EncodingLaws.{same_tails, otherwise_append, starts_apart}
use Rattle.nano_grammar.proofs.EncodingLaws.{starts_otherwise, encoding_of}
use Rattle.nano_grammar.specs.Scalars.{NoneStyle, EncodesOption, option_text, option_tokens}
use Rattle.nano_grammar.specs.Scalars.{SoundOption}

pub some_injective : {A : Type 0} (x y : A) → Some x ≡ Some y → x ≡ y
some_injective x y e = cc e

-- ---- the encoding

module _ {T : Type 0} (g : Grammar T) {A : Type 0} {P : A → Type 0} {S : List T → A → Type 0}
    (s : IsEncoding g P S) where
  option_is_legal : (ts : List T) (x : Option A) → EncodesOption g.none S ts x → AllOfOption P x
  option_is_legal ts None h = tt
  option_is_legal ts (Some x) h = s.is_legal ts x h.0

  option_value : (ts : List T) (x y : Option A) → EncodesOption g.none S ts x
      → EncodesOption g.none S ts y → x ≡ y
  option_value ts None None h k = refl
  option_value ts None (Some y) h k = absurd (subst (StartsOtherwise g.none) h k.1 refl)
  option_value ts (Some x) None h k = absurd (subst (StartsOtherwise g.none) k h.1 refl)
  option_value ts (Some x) (Some y) h k = ap Some (s.one_value ts x y h.0 k.0)

  option_none_begins : (ts more : List T) (x y : Option A) → EncodesOption g.none S ts x
      → EncodesOption g.none S (ts ++ more) y → more ≡ []
  option_none_begins ts more None None h k =
      same_tails g.none g.none more [] (sym (ap (λ (us : List T). us ++ more) h) ∙ k)
  option_none_begins ts more None (Some y) h k =
      absurd (subst (λ (us : List T). StartsOtherwise g.none (us ++ more)) h k.1 refl)
  option_none_begins ts more (Some x) None h k =
      absurd (subst (StartsOtherwise g.none) k (otherwise_append g.none ts more h.1) refl)
  option_none_begins ts more (Some x) (Some y) h k = s.none_begins ts more x y h.0 k.0

  option_begins : (ts : List T) (x : Option A) → EncodesOption g.none S ts x → BeginsValue g ts
  option_begins ts None h = subst (BeginsValue g) (sym h) g.none_begins
  option_begins ts (Some x) h = s.begins ts x h.0

  pub option_encoding : IsEncoding g (AllOfOption P) (EncodesOption g.none S)
  option_encoding = record {
    is_legal = option_is_legal;
    one_value = option_value;
    none_begins = option_none_begins;
    begins = option_begins;
  }

abbrev pub option_of : {T : Type 0} {g : Grammar T} → Encoding g → Encoding g
option_of {g = g} s =
    encoding_of optional (AllOfOption s.legal) (EncodesOption g.none s.encodes)
    (option_encoding g s.laws)

-- ---- the canonical text

module _ {T : Type 0} {c : Cutting T} {g : Grammar T} (n : NoneStyle c g) {A : Type 0} where
  pub option_same : (w : Canonical c A) (x y : Option A)
      → optional (option_map w.means x) ≡ optional (option_map w.means y)
      → (d : ℕ) → option_text n (w.text d) x ≡ option_text n (w.text d) y
  option_same w None None e d = refl
  option_same w None (Some y) e d = absurd (cc)
  option_same w (Some x) None e d = absurd (cc)
  option_same w (Some x) (Some y) e d = w.same_text x y (both_injective _ _ _ _ e).0 d

  abbrev pub option_canonical : Canonical c A → Canonical c (Option A)
  option_canonical w = record {
    means = λ x. optional (option_map w.means x);
    text = λ d. (option_text n) (w.text d);
    tokens = option_tokens n w.tokens;
    same_text = option_same w;
  }

-- ---- the format

module _ {T : Type 0} {c : Cutting T} {g : Grammar T} (n : NoneStyle c g) {A : Type 0}
    (f : Codec c g A) where
  -- of what a present item means
  present_encoded : (x : A) (ts : List T) (m : Option Meaning)
      → EncodesOption g.none f.encoding.encodes ts m
      → optional (Some (f.canonical.means x)) ≡ optional m
      → f.encoding.encodes ts (f.canonical.means x) × StartsOtherwise g.none ts
  present_encoded x ts None h e = absurd (cc)
  present_encoded x ts (Some m) h e =
      (subst (f.encoding.encodes ts) (sym (both_injective _ _ _ _ e).0) h.0, h.1)

  present_legal : (x : A) (m : Option Meaning) → AllOfOption f.encoding.legal m
      → optional (Some (f.canonical.means x)) ≡ optional m → f.encoding.legal (f.canonical.means x)
  present_legal x None h e = absurd (cc)
  present_legal x (Some m) h e = subst f.encoding.legal (sym (both_injective _ _ _ _ e).0) h

  absent_encoded : (ts : List T) (m : Option Meaning) → EncodesOption g.none f.encoding.encodes ts m
      → optional None ≡ optional m → StartsWith g.none ts
  absent_encoded ts None h e = subst (StartsWith g.none) (sym h) refl
  absent_encoded ts (Some m) h e = absurd (cc)

  abbrev option_means : Option A → Meaning
  option_means x = optional (option_map f.canonical.means x)

  pub option_is_written : (x : Option A) → (option_of f.encoding).legal (option_means x) → (d : ℕ)
      → IsValueText c (option_tokens n f.canonical.tokens x) (option_text n (f.canonical.text d) x)
  option_is_written None h d = n.is_written
  option_is_written (Some x) h d = f.is_written x (present_legal x h.part h.has h.is) d

  pub option_reads_back : (x : Option A) → (option_of f.encoding).legal (option_means x)
      → SoundOption n f x
      → (option_of f.encoding).encodes (option_tokens n f.canonical.tokens x) (option_means x)
  option_reads_back None h k = record { part = None; has = refl; is = refl }
  option_reads_back (Some x) h k = record {
    part = Some (f.canonical.means x);
    has = (f.reads_back x (present_legal x h.part h.has h.is) k.0, k.1);
    is = refl;
  }

  pub option_is_sound : (x : Option A) (ts : List T)
      → (option_of f.encoding).encodes ts (option_means x) → SoundOption n f x
  option_is_sound None ts h = tt
  option_is_sound (Some x) ts h =
      let item = present_encoded x ts h.part h.has h.is in
      let sound = f.encoded_is_sound x ts item.0 in
      let legal = f.encoding.laws.is_legal ts (f.canonical.means x) item.0 in
      let back = f.reads_back x legal sound in
      let begins = f.encoding.laws.begins (f.canonical.tokens x) (f.canonical.means x) back in (
        sound,
        starts_otherwise g g.none (f.canonical.tokens x) begins
            (λ e. starts_apart g.none ts (f.null_alone x ts e item.0) item.1),
      )

  pub option_null_alone : (x : Option A) (ts : List T)
      → StartsWith g.none (option_tokens n f.canonical.tokens x)
      → (option_of f.encoding).encodes ts (option_means x) → StartsWith g.none ts
  option_null_alone None ts e h = absent_encoded ts h.part h.has h.is
  option_null_alone (Some x) ts e h =
      f.null_alone x ts e (present_encoded x ts h.part h.has h.is).0

  abbrev pub option_codec : Codec c g (Option A)
  option_codec = record {
    canonical = option_canonical n f.canonical;
    encoding = option_of f.encoding;
    is_written = option_is_written;
    sound = (SoundOption n f);
    reads_back = option_reads_back;
    encoded_is_sound = option_is_sound;
    null_alone = option_null_alone;
  }
