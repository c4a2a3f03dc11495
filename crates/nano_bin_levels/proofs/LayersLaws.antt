-- What is proved of Layers: the type itself, another type, a box and a pair.
use Rattle.std.specs.Prelude.{◌≡◌, ◌&&◌, suc, refl, ◌++◌}
use Rattle.std.specs.Prelude.{true}
use Rattle.std.proofs.Common.{sym, subst, ap, arith}
use Rattle.nano_value.specs.Meaning.{Meaning, paired, pair_map}
use Rattle.nano_meaning.proofs.MeaningLaws.{both_injective}
use Rattle.nano_bin_bytes.specs.Codec.{Codec}
use Rattle.nano_bin_bytes.specs.BaseCodecs.{codec_as}
use Rattle.nano_bin_bytes.proofs.CodecLaws.{both_are_read, both_read}
use Rattle.nano_bin.specs.ContainerCodecs.{pair_codec}
use Rattle.nano_bin_levels.specs.Layers.{Layer}

-- ---- the type itself, another one, and one that is seen as another

abbrev pub itself_layer : {A : Type 0} → Layer A A
itself_layer = record {
  codec = λ f. f;
  All = λ P x. P x;
  means = λ m x. m x;
  deep = λ d x. suc (d x);
  weaker = λ P Q w x h. w x h;
  less = λ d x. omega arith;
  means_is = λ f x. refl;
  means_same = λ m n x e. e;
  written_same = λ f h x e. e;
  legal_same = λ f h m x w. w;
  rises = λ f h w. w;
  gathers = λ c rises h reached. reached;
  reads = true;
  is_read = λ r f e. e;
}

-- another type, which is read or not
abbrev pub other_layer : {A B : Type 0} → Codec B → Layer A B
other_layer k = record {
  codec = λ f. k;
  All = λ P x. Unit {0};
  means = λ m. k.canonical.means;
  deep = λ d x. 0;
  weaker = λ P Q w x h. tt;
  less = λ d x. tt;
  means_is = λ f x. refl;
  means_same = λ m n x e. refl;
  written_same = λ f h x e. refl;
  legal_same = λ f h m x w s. s;
  rises = λ f h w bytes m e. e;
  gathers = λ c rises h reached bytes m e. (0, e);
  reads = k.is_decodable;
  is_read = λ r f e. r;
}

-- values that are seen as others: what is in a box, or the fields of a struct
abbrev pub seen_layer : {A B C : Type 0} (view : C → B) → Layer A B → Layer A C
seen_layer view p = record {
  codec = λ f. codec_as view (p.codec f);
  All = λ P x. p.All P (view x);
  means = λ m x. p.means m (view x);
  deep = λ d x. p.deep d (view x);
  weaker = λ P Q w x h. p.weaker P Q w (view x) h;
  less = λ d x. p.less d (view x);
  means_is = λ f x. p.means_is f (view x);
  means_same = λ m n x e. p.means_same m n (view x) e;
  written_same = λ f h x e. p.written_same f h (view x) e;
  legal_same = λ f h m x w s. p.legal_same f h m (view x) w s;
  rises = p.rises;
  gathers = p.gathers;
  reads = p.reads;
  is_read = p.is_read;
}

-- ---- another type, and after it what is inside

module _ {K A B : Type 0} (k : Codec K) (p : Layer A B) where
  abbrev pub both_mean : (A → Meaning) → K × B → Meaning
  both_mean m x = paired (pair_map k.canonical.means (p.means m) x)

  abbrev pub next_layer : Layer A (K × B)
  next_layer = record {
    codec = λ f. pair_codec k (p.codec f);
    All = λ P x. p.All P x.1;
    means = both_mean;
    deep = λ d x. p.deep d x.1;
    weaker = λ P Q w x h. p.weaker P Q w x.1 h;
    less = λ d x. p.less d x.1;
    means_is = λ f x. ap (λ m. paired (k.canonical.means x.0, m)) (p.means_is f x.1);
    means_same = λ m n x e. ap (λ m. paired (k.canonical.means x.0, m)) (p.means_same m n x.1 e);
    written_same = λ f h x e.
        ap (λ l. k.canonical.written x.0 ++ l) (p.written_same f h x.1 e);
    legal_same = λ f h m x w both.
        let same = both_injective _ _ both.part.0 both.part.1 both.is in
        record {
          part = (k.canonical.means x.0, p.means m x.1);
          has = (
            subst k.encoding.legal (sym same.0) both.has.0,
            p.legal_same f h m x.1 w
                (subst (p.codec f).encoding.legal (sym same.1) both.has.1),
          );
          is = refl;
        };
    rises = λ f h w bytes m e. record {
      part = e.part;
      has = record {
        head = e.has.head;
        tail = e.has.tail;
        whole = e.has.whole;
        first = e.has.first;
        second = p.rises f h w e.has.tail e.part.1 e.has.second;
      };
      is = e.is;
    };
    gathers = λ c rises h reached bytes m e.
        let found = p.gathers c rises h reached e.has.tail e.part.1 e.has.second in (
          found.0,
          record {
            part = e.part;
            has = record {
              head = e.has.head;
              tail = e.has.tail;
              whole = e.has.whole;
              first = e.has.first;
              second = found.1;
            };
            is = e.is;
          },
        );
    reads = k.is_decodable && p.reads;
    is_read = λ r f e.
        let each = both_read k.is_decodable p.reads r in
        both_are_read each.0 (p.is_read each.1 f e);
  }
