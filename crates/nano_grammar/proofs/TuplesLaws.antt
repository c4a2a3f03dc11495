-- What is proved of Tuples.
use Rattle.std.specs.Prelude.{◌≡◌, ◌≢◌, List, [], ◌∷◌, ◌++◌, refl}
use Rattle.std.proofs.Common.{sym, ◌∙◌, ap, subst, append-nil, inl}
use Rattle.nano_grammar.proofs.ItemLaws.{items_meet, NeverStartsWith, apart_in_list}
use Rattle.nano_grammar.specs.Items.{ListPunctuation, OneValue, with_closing}
use Rattle.nano_grammar.specs.Tuples.{EncodedLast, EncodedAfter}
use Rattle.nano_grammar.specs.BaseCodecs.{part_style, last_canonical}
use Rattle.nano_grammar.specs.BaseCodecs.{tuple_canonical}
use Rattle.nano_grammar.specs.Tokens.{NoneBeginsAnother, Cutting}
use Rattle.nano_grammar.specs.Codec.{Codec, Grammar, BeginsValue, StartsWith, IsEncoding}
use Rattle.nano_grammar.specs.BaseCodecs.{codec_as}
use Rattle.nano_grammar.specs.Codec.{Encoding, AreBrackets, TupleStyle}
use Rattle.nano_grammar.proofs.LayoutsLaws.{last_part_written, tuple_written}
use Rattle.nano_grammar.proofs.ListsLaws.{no_item_closes, as_item}
use Rattle.nano_grammar.proofs.PairsLaws.{next_codec}
use Rattle.nano_grammar.proofs.EncodingLaws.{begins_append, not_none, starts_before, starts_after}

-- ==== the parts of a tuple

module _ {T V : Type 0} (punctuation : ListPunctuation T)
    (apart : punctuation.closing ≢ punctuation.comma)
    (encodes : List T → V → Type 0) (one : OneValue encodes)
    (none_begins : NoneBeginsAnother encodes)
    (never_closing : NeverStartsWith punctuation.closing encodes) where
  -- of two last parts, where one is a prefix of the other
  last_meets : (ts more us : List T) (v w : V) → EncodedLast punctuation encodes ts v
      → EncodedLast punctuation encodes us w → ts ++ more ≡ us → (more ≡ []) × (v ∷ [] ≡ w ∷ [])
  last_meets ts more us v w h k e =
      items_meet punctuation apart encodes one (apart_in_list punctuation encodes none_begins)
      never_closing (v ∷ []) (w ∷ []) ts us more h k e

  pub last_one_value : OneValue (EncodedLast punctuation encodes)
  last_one_value ts v w h k =
      let both = (last_meets ts [] ts v w h k (append-nil ts)).1 in
      cc both

  pub last_none_begins : NoneBeginsAnother (EncodedLast punctuation encodes)
  last_none_begins ts more v w h k = (last_meets ts more (ts ++ more) v w h k refl).0

module _ {T V : Type 0} (token : T) (encodes : List T → V → Type 0) where
  pub after_one_value : OneValue encodes → OneValue (EncodedAfter token encodes)
  after_one_value one ts v w h k =
      let both = sym h.1 ∙ k.1 in
      let inside : h.0 ≡ k.0 = cc both in
      one k.0 v w (subst (λ (xs : List T). encodes xs v) inside h.2) k.2

  pub after_none_begins : NoneBeginsAnother encodes → NoneBeginsAnother (EncodedAfter token encodes)
  after_none_begins none_begins ts more v w h k =
      let both = sym (ap (λ (xs : List T). xs ++ more) h.1) ∙ k.1 in
      let inside : h.0 ++ more ≡ k.0 = cc both in
      none_begins h.0 more v w h.2 (subst (λ (xs : List T). encodes xs w) (sym inside) k.2)

-- ==== tuples

-- ---- the encoding

module _ {T : Type 0} (g : Grammar T) {A : Type 0} {P : A → Type 0} {S : List T → A → Type 0}
    (s : IsEncoding g P S) (punctuation : ListPunctuation T) (are : AreBrackets g punctuation) where
  pub last_encoding : IsEncoding g P (EncodedLast punctuation S)
  last_encoding =
      let closes = no_item_closes g punctuation are (as_item s punctuation) in
      record {
        is_legal = λ ts x h. s.is_legal h.0 x h.3;
        one_value = last_one_value punctuation are.apart S s.one_value s.none_begins closes;
        none_begins = last_none_begins punctuation are.apart S s.one_value s.none_begins closes;
        begins = λ ts x h.
            subst (BeginsValue g) (sym h.2) (begins_append g h.0 h.1 (s.begins h.0 x h.3));
      }

  pub bracket_encoding : IsEncoding g P (EncodedAfter punctuation.opening S)
  bracket_encoding = record {
    is_legal = λ ts x h. s.is_legal h.0 x h.2;
    one_value = after_one_value punctuation.opening S s.one_value;
    none_begins = after_none_begins punctuation.opening S s.none_begins;
    begins = λ ts x h. subst (BeginsValue g) (sym h.1) are.opens;
  }

module _ {T : Type 0} {g : Grammar T} (punctuation : ListPunctuation T)
    (are : AreBrackets g punctuation) where
  -- the last part of a tuple, optionally a comma, and the closing bracket
  abbrev pub last_part : Encoding g → Encoding g
  last_part s = record {
    legal = s.legal;
    encodes = EncodedLast punctuation s.encodes;
    laws = last_encoding g s.laws punctuation are;
  }

  -- the opening bracket, and the parts
  abbrev pub tuple_of : Encoding g → Encoding g
  tuple_of s = record {
    legal = s.legal;
    encodes = EncodedAfter punctuation.opening s.encodes;
    laws = bracket_encoding g s.laws punctuation are;
  }

-- ---- the format

module _ {T : Type 0} {c : Cutting T} {g : Grammar T} (s : TupleStyle c)
    (are : AreBrackets g s.tokens) where
  pub last_null_alone : {A : Type 0} (f : Codec c g A) (x : A) (ts : List T)
      → StartsWith g.none (with_closing s.tokens f.canonical.tokens x)
      → (last_part s.tokens are f.encoding).encodes ts (f.canonical.means x) → StartsWith g.none ts
  last_null_alone f x ts e k =
      let other = not_none g s.tokens.closing are.closes in
      let begins = starts_before g.none (f.canonical.tokens x) s.tokens.closing [] other e in
      subst (StartsWith g.none) (sym k.2)
      (starts_after g.none k.0 k.1 (f.null_alone x k.0 begins k.3))

  -- the last part of a tuple, with the closing bracket
  abbrev pub last_codec : {A : Type 0} → Codec c g A → Codec c g A
  last_codec f = record {
    canonical = last_canonical s f.canonical;
    encoding = last_part s.tokens are f.encoding;
    is_written = λ x h d.
        last_part_written c s.tokens s.punctuation s.punctuation_is f.canonical.tokens
        (f.canonical.text d) x
        (f.is_written x h d);
    sound = f.sound;
    reads_back = λ x legal sound.
        let back = f.reads_back x legal sound in
        (f.canonical.tokens x, s.tokens.closing ∷ [], refl, back, inl (refl, refl));
    encoded_is_sound = λ x ts k. f.encoded_is_sound x k.0 k.3;
    null_alone = last_null_alone f;
  }

  -- a tuple: the opening bracket, and its parts
  abbrev pub tuple_codec : {A : Type 0} → Codec c g A → Codec c g A
  tuple_codec f = record {
    canonical = tuple_canonical s f.canonical;
    encoding = tuple_of s.tokens are f.encoding;
    is_written = λ x h d.
        tuple_written c s.tokens s.punctuation s.punctuation_is f.canonical.tokens
        (f.canonical.text d) x
        (f.is_written x h d);
    sound = f.sound;
    reads_back = λ x legal sound. (f.canonical.tokens x, refl, f.reads_back x legal sound);
    encoded_is_sound = λ x ts k. f.encoded_is_sound x k.0 k.2;
    null_alone = λ x ts e k. absurd (are.some e);
  }

  -- the parts of a pair after the opening bracket, and those of a triple and a quadruple
  abbrev pub two_codecs : {A B : Type 0} → Codec c g A → Codec c g B → Codec c g (A × B)
  two_codecs f h = next_codec (part_style s) are.divides f (last_codec h)

  abbrev pub three_codecs : {A B C : Type 0} → Codec c g A → Codec c g B → Codec c g C
      → Codec c g (A × B × C)
  three_codecs f h k =
      codec_as (λ x. (x.0, (x.1, x.2)))
      (next_codec (part_style s) are.divides f (two_codecs h k))

  abbrev pub four_codecs : {A B C D : Type 0} → Codec c g A → Codec c g B → Codec c g C
      → Codec c g D → Codec c g (A × B × C × D)
  four_codecs f h k l =
      codec_as (λ x. (x.0, (x.1, x.2, x.3)))
      (next_codec (part_style s) are.divides f (three_codecs h k l))

  abbrev pub pair_codec : {A B : Type 0} → Codec c g A → Codec c g B → Codec c g (A × B)
  pair_codec f h = tuple_codec (two_codecs f h)

  abbrev pub triple_codec : {A B C : Type 0} → Codec c g A → Codec c g B → Codec c g C
      → Codec c g (A × B × C)
  triple_codec f h k = tuple_codec (three_codecs f h k)

  abbrev pub quadruple_codec : {A B C D : Type 0} → Codec c g A → Codec c g B → Codec c g C
      → Codec c g D → Codec c g (A × B × C × D)
  quadruple_codec f h k l = tuple_codec (four_codecs f h k l)
