-- What is proved of Pairs.
use Rattle.std.specs.Prelude.{◌≡◌, ℕ, List, ◌∷◌, ◌++◌, refl}
use Rattle.std.proofs.Common.{sym, subst}
use Rattle.nano_value.specs.Meaning.{BothOfPair, Meaning, paired, pair_map}
use Rattle.nano_meaning.proofs.MeaningLaws.{both_injective}
use Rattle.nano_grammar.specs.Tokens.{Cutting, IsValueText}
use Rattle.nano_grammar.specs.Codec.{Codec, Grammar, BeginsValue, StartsWith, IsEncoding, Encoding}
use Rattle.nano_grammar.specs.Codec.{Canonical, PairStyle}
use Rattle.nano_grammar.proofs.ItemLaws.{pair_one_value, pair_none_begins}
use Rattle.nano_grammar.specs.Items.{EncodedPair}
use Rattle.nano_grammar.proofs.LayoutsLaws.{pair_written}
use Rattle.nano_grammar.proofs.EncodingLaws.{begins_append, not_none, starts_before, starts_after}
use Rattle.nano_grammar.proofs.EncodingLaws.{encoding_of}
use Rattle.nano_grammar.specs.Maps.{pair_text, pair_tokens, BothSound}

-- ---- the encoding

-- a part, a token and another part
pub pair_encoding : {T : Type 0} (g : Grammar T) {A B : Type 0} {P : A → Type 0}
    {S : List T → A → Type 0} {Q : B → Type 0} {R : List T → B → Type 0} (punctuator : T)
    → IsEncoding g P S → IsEncoding g Q R
    → IsEncoding g (BothOfPair P Q) (EncodedPair punctuator S R)
pair_encoding g {S = S} {R = R} punctuator s t = record {
  is_legal = λ ts p h. (s.is_legal h.0 p.0 h.3, t.is_legal h.1 p.1 h.4);
  one_value = pair_one_value punctuator S R s.one_value s.none_begins t.one_value t.none_begins;
  none_begins = pair_none_begins punctuator S R s.one_value s.none_begins t.one_value t.none_begins;
  begins = λ ts p h.
      let first = begins_append g h.0 (punctuator ∷ h.1) (s.begins h.0 p.0 h.3) in
      subst (BeginsValue g) (sym h.2) first;
}

-- a part, a token, and the parts after it
abbrev pub and_then : {T : Type 0} {g : Grammar T} → T → Encoding g → Encoding g → Encoding g
and_then {g = g} punctuator s t =
    encoding_of paired (BothOfPair s.legal t.legal) (EncodedPair punctuator s.encodes t.encodes)
    (pair_encoding g punctuator s.laws t.laws)

-- ---- the canonical text

-- two parts with a punctuator and a gap between them
module _ {T : Type 0} {c : Cutting T} (p : PairStyle c) {A B : Type 0} (v : Canonical c A)
    (w : Canonical c B) where
  pub both_same : (x y : A × B) → v.means x.0 ≡ v.means y.0 → w.means x.1 ≡ w.means y.1
      → (d : ℕ) → pair_text p v w d x ≡ pair_text p v w d y
  both_same x y e k d i =
      v.same_text x.0 y.0 e d i ++ p.punctuator ∷ (p.gap ++ w.same_text x.1 y.1 k d i)

  pub next_same : (x y : A × B)
      → paired (pair_map v.means w.means x) ≡ paired (pair_map v.means w.means y)
      → (d : ℕ) → pair_text p v w d x ≡ pair_text p v w d y
  next_same x y e d =
      let same = both_injective (v.means x.0) (w.means x.1) (v.means y.0) (w.means y.1) e in
      both_same x y same.0 same.1 d

  abbrev pub next_canonical : Canonical c (A × B)
  next_canonical = record {
    means = λ x. paired (pair_map v.means w.means x);
    text = (pair_text p v w);
    tokens = (pair_tokens p v w);
    same_text = next_same;
  }

-- ---- the format

module _ {T : Type 0} {c : Cutting T} {g : Grammar T} (p : PairStyle c)
    (divides : g.may_begin p.token → ⊥) {A B : Type 0} (f : Codec c g A) (h : Codec c g B) where
  abbrev both_mean : A × B → Meaning
  both_mean x = paired (pair_map f.canonical.means h.canonical.means x)

  abbrev both_of : Encoding g
  both_of = and_then p.token f.encoding h.encoding

  pub both_are_written : (x : A × B) → f.encoding.legal (f.canonical.means x.0)
      → h.encoding.legal (h.canonical.means x.1) → (d : ℕ)
      → IsValueText c (pair_tokens p f.canonical h.canonical x)
      (pair_text p f.canonical h.canonical d x)
  both_are_written x first second d =
      pair_written c p.token p.punctuator p.gap p.is_punctuator p.follows p.is_gap
      f.canonical.tokens
      (f.canonical.text d) h.canonical.tokens (h.canonical.text d) x (f.is_written x.0 first d)
      (h.is_written x.1 second d)

  -- both parts are legal where the pair is
  parts_legal : (x : A × B) → both_of.legal (both_mean x)
      → f.encoding.legal (f.canonical.means x.0) × h.encoding.legal (h.canonical.means x.1)
  parts_legal x k =
      let same = both_injective _ _ k.part.0 k.part.1 k.is in
      (subst f.encoding.legal (sym same.0) k.has.0, subst h.encoding.legal (sym same.1) k.has.1)

  pub next_is_written : (x : A × B) → both_of.legal (both_mean x) → (d : ℕ)
      → IsValueText c (pair_tokens p f.canonical h.canonical x)
      (pair_text p f.canonical h.canonical d x)
  next_is_written x k d =
      let legal = parts_legal x k in
      both_are_written x legal.0 legal.1 d

  pub next_reads_back : (x : A × B) → both_of.legal (both_mean x) → BothSound p divides f h x
      → both_of.encodes (pair_tokens p f.canonical h.canonical x) (both_mean x)
  next_reads_back x k sound =
      let legal = parts_legal x k in
      let first = f.reads_back x.0 legal.0 sound.0 in
      let second = h.reads_back x.1 legal.1 sound.1 in
      record {
        part = pair_map f.canonical.means h.canonical.means x;
        has = (f.canonical.tokens x.0, h.canonical.tokens x.1, refl, first, second);
        is = refl;
      }

  pub next_is_sound : (x : A × B) (ts : List T) → both_of.encodes ts (both_mean x)
      → BothSound p divides f h x
  next_is_sound x ts k =
      let same = both_injective _ _ k.part.0 k.part.1 k.is in
      let first = subst (f.encoding.encodes k.has.0) (sym same.0) k.has.3 in
      let second = subst (h.encoding.encodes k.has.1) (sym same.1) k.has.4 in
      (f.encoded_is_sound x.0 k.has.0 first, h.encoded_is_sound x.1 k.has.1 second)

  pub next_null_alone : (x : A × B) (ts : List T)
      → StartsWith g.none (pair_tokens p f.canonical h.canonical x)
      → both_of.encodes ts (both_mean x) → StartsWith g.none ts
  next_null_alone x ts e k =
      let same = both_injective _ _ k.part.0 k.part.1 k.is in
      let other = not_none g p.token divides in
      let tokens = f.canonical.tokens x.0 in
      let begins = starts_before g.none tokens p.token (h.canonical.tokens x.1) other e in
      let encodes = subst (f.encoding.encodes k.has.0) (sym same.0) k.has.3 in
      let first = f.null_alone x.0 k.has.0 begins encodes in
      subst (StartsWith g.none) (sym k.has.2)
      (starts_after g.none k.has.0 (p.token ∷ k.has.1) first)

  -- a part, and the parts after it
  abbrev pub next_codec : Codec c g (A × B)
  next_codec = record {
    canonical = next_canonical p f.canonical h.canonical;
    encoding = both_of;
    is_written = next_is_written;
    sound = (BothSound p divides f h);
    reads_back = next_reads_back;
    encoded_is_sound = next_is_sound;
    null_alone = next_null_alone;
  }
