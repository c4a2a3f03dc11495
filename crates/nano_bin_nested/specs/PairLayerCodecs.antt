-- Two parts, each of which may hold values of the type itself.
use Rattle.std.specs.Prelude.{◌<◌, ◌+◌, ◌&&◌, ℕ, suc, max, refl, ◌++◌}
use Rattle.std.proofs.Common.{sym, subst, arith}
use Rattle.nano_value.specs.Meaning.{Meaning, paired}
use Rattle.nano_meaning.proofs.MeaningLaws.{both_injective}
use Rattle.nano_bin_bytes.proofs.CodecLaws.{both_are_read, both_read}
use Rattle.nano_bin.specs.ContainerCodecs.{pair_codec}
use Rattle.nano_bin_levels.specs.Layers.{Layer}
use Rattle.nano_bin_levels.proofs.ChainsLaws.{climbs, reaches}

module _ {A B C : Type 0} (p : Layer A B) (q : Layer A C) where
  abbrev pub both_all : (A → Type 0) → B × C → Type 0
  both_all P x = p.All P x.0 × q.All P x.1

  abbrev pub both_mean : (A → Meaning) → B × C → Meaning
  both_mean m x = paired (p.means m x.0, q.means m x.1)

  abbrev pub both_deep : (A → ℕ) → B × C → ℕ
  both_deep d x = max (p.deep d x.0) (q.deep d x.1)

  pub both_less : (d : A → ℕ) (x : B × C) → both_all (λ y. d y < both_deep d x) x
  both_less d x = (
    p.weaker (λ y. d y < p.deep d x.0) (λ y. d y < both_deep d x)
        (λ y less. omega (arith, less)) x.0 (p.less d x.0),
    q.weaker (λ y. d y < q.deep d x.1) (λ y. d y < both_deep d x)
        (λ y less. omega (arith, less)) x.1 (q.less d x.1),
  )

  abbrev pub pair_layer : Layer A (B × C)
  pair_layer = record {
    codec = λ f. pair_codec (p.codec f) (q.codec f);
    All = both_all;
    means = both_mean;
    deep = both_deep;
    weaker = λ P Q w x h. (p.weaker P Q w x.0 h.0, q.weaker P Q w x.1 h.1);
    less = both_less;
    means_is = λ f x i. paired (p.means_is f x.0 i, q.means_is f x.1 i);
    means_same = λ m n x e i. paired (p.means_same m n x.0 e.0 i, q.means_same m n x.1 e.1 i);
    written_same = λ f h x e i.
        p.written_same f h x.0 e.0 i ++ q.written_same f h x.1 e.1 i;
    legal_same = λ f h m x w both.
        let same = both_injective _ _ both.part.0 both.part.1 both.is in
        record {
          part = (p.means m x.0, q.means m x.1);
          has = (
            p.legal_same f h m x.0 w.0
                (subst (p.codec f).encoding.legal (sym same.0) both.has.0),
            q.legal_same f h m x.1 w.1
                (subst (q.codec f).encoding.legal (sym same.1) both.has.1),
          );
          is = refl;
        };
    rises = λ f h w bytes m e. record {
      part = e.part;
      has = record {
        head = e.has.head;
        tail = e.has.tail;
        whole = e.has.whole;
        first = p.rises f h w e.has.head e.part.0 e.has.first;
        second = q.rises f h w e.has.tail e.part.1 e.has.second;
      };
      is = e.is;
    };
    gathers = λ c rises h reached bytes m e.
        let first = p.gathers c rises h reached e.has.head e.part.0 e.has.first in
        let second = q.gathers c rises h reached e.has.tail e.part.1 e.has.second in
        let up = reaches (λ n. p.codec (c n)) (λ n. p.rises (c n) (c (suc n)) (rises n)) in
        let over = climbs (λ n. q.codec (c n)) (λ n. q.rises (c n) (c (suc n)) (rises n)) in (
          first.0 + second.0,
          record {
            part = e.part;
            has = record {
              head = e.has.head;
              tail = e.has.tail;
              whole = e.has.whole;
              first = up first.0 second.0 e.has.head e.part.0 first.1;
              second = over first.0 second.0 e.has.tail e.part.1 second.1;
            };
            is = e.is;
          },
        );
    reads = p.reads && q.reads;
    is_read = λ r f e.
        let each = both_read p.reads q.reads r in
        both_are_read (p.is_read each.0 f e) (q.is_read each.1 f e);
  }
