-- What is proved of Encoding.
use Rattle.std.specs.Prelude.{◌≡◌, ◌≢◌, List, [], ◌∷◌, ◌++◌}
use Rattle.std.proofs.Common.{sym, ◌∙◌, subst, ap, ℕ, Bool, true, false, cond, not, ◌==◌}
use Rattle.std.proofs.Common.{encode_utf8_all, refl, append-nil}
use Rattle.std.proofs.Math.Utf8.{scalar, scalars}
use Rattle.std.proofs.lemmas.Bool.{false≢true, and_parts}
use Rattle.std.proofs.lemmas.Str.{chars-encodes}
use Rattle.nano_value.specs.Meaning.{IsImage, Meaning}
use Rattle.nano_grammar.specs.Items.{StartsOtherwise}
use Rattle.nano_grammar.specs.Codec.{Grammar, StartsWith, BeginsValue, IsEncoding, Encoding}
use Rattle.nano_text.specs.Place.{before_nul, remaining_text}
use Rattle.nano_grammar.proofs.TokensLaws.{CutLaws, cuts_fit, same_at, same_end}
use Rattle.nano_grammar.specs.Tokens.{Cutting, IsValueText, AllTextual, At, Cuts, DecodesTo}
use Rattle.nano_grammar.specs.Tokens.{TextDecodesTo}

pub same_heads : {T : Type 0} (t u : T) (ts us : List T) → t ∷ ts ≡ u ∷ us → t ≡ u
same_heads t u ts us e = cc e

pub same_tails : {T : Type 0} (t u : T) (ts us : List T) → t ∷ ts ≡ u ∷ us → ts ≡ us
same_tails t u ts us e = cc e

pub starts_apart : {T : Type 0} (t : T) (ts : List T) → StartsWith t ts → StartsOtherwise t ts → ⊥
starts_apart t [] h k = h
starts_apart t (u ∷ us) h k = k h

pub otherwise_append : {T : Type 0} (t : T) (ts more : List T) → StartsOtherwise t ts
    → StartsOtherwise t (ts ++ more)
otherwise_append t [] more h = absurd h
otherwise_append t (u ∷ us) more h = h

pub starts_after : {T : Type 0} (t : T) (ts more : List T) → StartsWith t ts
    → StartsWith t (ts ++ more)
starts_after t [] more h = absurd h
starts_after t (u ∷ us) more h = h

-- tokens that begin with one when before others, where these others do not
pub starts_before : {T : Type 0} (t : T) (ts : List T) (u : T) (us : List T) → u ≢ t
    → StartsWith t (ts ++ u ∷ us) → StartsWith t ts
starts_before t [] u us other e = absurd (other e)
starts_before t (v ∷ ts) u us other e = e

module _ {T : Type 0} (g : Grammar T) where
  pub begins_append : (ts more : List T) → BeginsValue g ts → BeginsValue g (ts ++ more)
  begins_append [] more h = absurd h
  begins_append (t ∷ ts) more h = h

  -- what begins a value begins with no token with which none does
  pub begins_otherwise : (t : T) → (g.may_begin t → ⊥) → (ts : List T) → BeginsValue g ts
      → StartsOtherwise t ts
  begins_otherwise t none [] h = h
  begins_otherwise t none (u ∷ us) h = λ e. none (subst g.may_begin e h)

  pub starts_otherwise : (t : T) (ts : List T) → BeginsValue g ts → (StartsWith t ts → ⊥)
      → StartsOtherwise t ts
  starts_otherwise t [] h none = h
  starts_otherwise t (u ∷ us) h none = none

  -- a token with which no value begins is not what stands for what is absent
  pub not_none : (t : T) → (g.may_begin t → ⊥) → t ≢ g.none
  not_none t none e = none (subst g.may_begin (sym e) g.none_begins)

-- what encodes a part encodes the meaning that it is mapped to
pub image_encoding : {T : Type 0} (g : Grammar T) {A : Type 0} {P : A → Type 0}
    {S : List T → A → Type 0} (f : A → Meaning) → IsEncoding g P S
    → IsEncoding g (IsImage f P) (λ ts. IsImage f (S ts))
image_encoding g f s = record {
  is_legal = λ ts m h. record { part = h.part; has = s.is_legal ts h.part h.has; is = h.is };
  one_value = λ ts m n h k. h.is ∙ (ap f (s.one_value ts h.part k.part h.has k.has) ∙ sym k.is);
  none_begins = λ ts more m n h k. s.none_begins ts more h.part k.part h.has k.has;
  begins = λ ts m h. s.begins ts h.part h.has;
}

-- an encoding of parts, seen as one of what they mean
abbrev pub encoding_of : {T : Type 0} {g : Grammar T} {A : Type 0} (f : A → Meaning)
    (P : A → Type 0) (S : List T → A → Type 0) → IsEncoding g P S → Encoding g
encoding_of {g = g} f P S s = record {
  legal = IsImage f P;
  encodes = λ ts. IsImage f (S ts);
  laws = image_encoding g f s;
}

-- ==== round trip

-- characters that a text may hold are scalar values, and none is NUL
pub textual_scalars : (cs : List ℕ) → AllTextual cs → scalars cs ≡ true
textual_scalars [] h = refl
textual_scalars (c ∷ cs) h =
    rw ((and_parts (scalar c) (not (c == 0)) h.0).0, textual_scalars cs h.1) refl

textual_before_nul : (cs : List ℕ) → AllTextual cs → before_nul cs ≡ cs
textual_before_nul [] h = refl
textual_before_nul (c ∷ cs) h =
    elim (c == 0) as (λ (b : Bool). not b ≡ true → cond b [] (c ∷ before_nul cs) ≡ c ∷ cs) [
      | true ↦ λ e. absurd (false≢true e)
      | false ↦ λ e. ap (λ (l : List ℕ). c ∷ l) (textual_before_nul cs h.1)
    ] (and_parts (scalar c) (not (c == 0)) h.0).1

-- all of what is written is remaining input
pub written_is_remaining : (cs : List ℕ) → AllTextual cs → remaining_text (encode_utf8_all cs) ≡ cs
written_is_remaining cs h =
    ap before_nul (chars-encodes cs (textual_scalars cs h)) ∙ textual_before_nul cs h

module _ {T : Type 0} {c : Cutting T} {g : Grammar T} (r : CutLaws c g) where
  -- the text that is written of a value decodes to it
  pub written_decodes : {V : Type 0} (encodes : List T → V → Type 0) (ts : List T)
      (text bytes : List ℕ) (value : V) → IsValueText c ts text → bytes ≡ encode_utf8_all text
      → encodes ts value → TextDecodesTo c.cut encodes (remaining_text bytes) value
  written_decodes encodes ts text bytes value written is s =
      let remaining : remaining_text bytes ≡ text = ap remaining_text is ∙ written_is_remaining text written.textual in
      let again = written.cut_again [] r.end_follows in
      let cuts = subst (λ (l : List ℕ). Cuts c.cut ts l []) (append-nil text) again in
      let end : At T = record { token = r.end; text = [] } in
      subst (λ (l : List ℕ). TextDecodesTo c.cut encodes l value) (sym remaining)
      (cuts_fit c.cut encodes ts value text [] end s cuts r.end_is_cut)

  module _ {V : Type 0} {P : V → Type 0} {S : List T → V → Type 0} (s : IsEncoding g P S) where
    -- from one place, at most one value decodes
    pub one_decodes : (start : At T) (v w : V) → DecodesTo c.cut S start v → DecodesTo c.cut S start w → v ≡ w
    one_decodes start v w a b =
        let same = same_end c.cut r.one_way S s.none_begins a.0 b.0 v w start a.1 b.1 a.2 b.2 a.3 b.3 in
        s.one_value b.0 v w (subst (λ (ts : List T). S ts v) same.0 a.2) b.2

    -- a text decodes to at most one value
    pub one_text_decodes : (text : List ℕ) (v w : V) → TextDecodesTo c.cut S text v
        → TextDecodesTo c.cut S text w → v ≡ w
    one_text_decodes text v w f h =
        let start = same_at c.cut r.one_way text h.0 f.0 h.1 f.1 in
        one_decodes f.0 v w f.2 (subst (λ (z : At T). DecodesTo c.cut S z w) start h.2)
