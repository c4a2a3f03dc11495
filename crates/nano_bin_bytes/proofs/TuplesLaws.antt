-- What is proved of Tuples.
use Rattle.std.specs.Prelude.{◌≡◌, ℕ, ◌&&◌, true, refl, List, ◌++◌}
use Rattle.std.proofs.Common.{sym, ◌∙◌, subst, ap}
use Rattle.nano_value.specs.Meaning.{paired, pair_map, IsImage, BothOfPair}
use Rattle.nano_meaning.proofs.MeaningLaws.{both_injective}
use Rattle.nano_bin_bytes.specs.Codec.{IsEncoding, Canonical, Codec}
use Rattle.nano_bin_bytes.proofs.CodecLaws.{same_prefixes, same_heads, both_read}
use Rattle.nano_bin_bytes.specs.Containers.{EncodesPair, written_pair}

module _ {A B : Type 0} {P : A → Type 0} {S : List ℕ → A → Type 0} {Q : B → Type 0}
    {R : List ℕ → B → Type 0} (s : IsEncoding P S) (t : IsEncoding Q R) where
  pair_value : (a : List ℕ) (x y : A × B) → EncodesPair S R a x → EncodesPair S R a y → x ≡ y
  pair_value a x y h j =
      let w = sym h.whole ∙ j.whole in
      let e = same_prefixes s h.head j.head h.tail j.tail x.0 y.0 h.first j.first w in
      let v = s.one_value h.head x.0 y.0 h.first (subst (λ l. S l y.0) (sym e.0) j.first) in
      let u = t.one_value h.tail x.1 y.1 h.second (subst (λ l. R l y.1) (sym e.1) j.second) in
      λ i. (v i, u i)

  pair_prefix : (a b m n : List ℕ) (x y : A × B) → EncodesPair S R a x → EncodesPair S R b y
      → a ++ m ≡ b ++ n → a ≡ b
  pair_prefix a b m n x y h j e =
      let w = ap (λ l. l ++ m) (sym h.whole) ∙ (e ∙ ap (λ l. l ++ n) j.whole) in
      let p = same_heads s h.head j.head h.tail j.tail m n x.0 y.0 h.first j.first w in
      let q = t.one_prefix h.tail j.tail m n x.1 y.1 h.second j.second p.1 in
      h.whole ∙ (ap (λ l. l ++ h.tail) p.0 ∙ (ap (λ l. j.head ++ l) q ∙ sym j.whole))

  pub pair_encoding : IsEncoding (BothOfPair P Q) (EncodesPair S R)
  pair_encoding = record {
    is_legal = λ a x h. (s.is_legal h.head x.0 h.first, t.is_legal h.tail x.1 h.second);
    one_value = pair_value;
    one_prefix = pair_prefix;
  }

module _ {A B : Type 0} (v : Canonical A) (w : Canonical B) where
  pub pair_same : (x y : A × B)
      → paired (pair_map v.means w.means x) ≡ paired (pair_map v.means w.means y)
      → written_pair v.written w.written x ≡ written_pair v.written w.written y
  pair_same x y e =
      let same = both_injective (v.means x.0) (w.means x.1) (v.means y.0) (w.means y.1) e in
      λ i. v.same_written x.0 y.0 same.0 i ++ w.same_written x.1 y.1 same.1 i

module _ {A B : Type 0} (f : Codec A) (g : Codec B) where
  -- the canonical encoding of two legal parts encodes both
  pub both_read_back :
      f.is_decodable && g.is_decodable ≡ true
      → (x : A × B)
      → BothOfPair f.encoding.legal g.encoding.legal
      (pair_map f.canonical.means g.canonical.means x)
      → EncodesPair f.encoding.encodes g.encoding.encodes
      (written_pair f.canonical.written g.canonical.written x)
      (pair_map f.canonical.means g.canonical.means x)
  both_read_back is x h =
      let both = both_read f.is_decodable g.is_decodable is in
      record {
        head = f.canonical.written x.0;
        tail = g.canonical.written x.1;
        whole = refl;
        first = f.reads_back both.0 x.0 h.0;
        second = g.reads_back both.1 x.1 h.1;
      }

  pub pair_reads_back :
      f.is_decodable && g.is_decodable ≡ true
      → (x : A × B)
      → IsImage paired (BothOfPair f.encoding.legal g.encoding.legal)
      (paired (pair_map f.canonical.means g.canonical.means x))
      → IsImage paired (EncodesPair f.encoding.encodes g.encoding.encodes
      (written_pair f.canonical.written g.canonical.written x))
      (paired (pair_map f.canonical.means g.canonical.means x))
  pair_reads_back is x h =
      let one = f.canonical.means x.0 in
      let other = g.canonical.means x.1 in
      let parts = both_injective one other h.part.0 h.part.1 h.is in
      let first = subst f.encoding.legal (sym parts.0) h.has.0 in
      let second = subst g.encoding.legal (sym parts.1) h.has.1 in
      record {
        part = pair_map f.canonical.means g.canonical.means x;
        has = both_read_back is x (first, second);
        is = refl;
      }
