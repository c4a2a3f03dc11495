-- What is proved of Layers: an option.
use Rattle.std.specs.Prelude.{◌≡◌, ◌<◌, ℕ, refl, List, ◌++◌}
use Rattle.std.specs.Prelude.{Option, Some, None}
use Rattle.std.specs.Option.{option_map}
use Rattle.std.proofs.Common.{sym, subst, ap}
use Rattle.nano_value.specs.Meaning.{AllOfOption, Meaning}
use Rattle.nano_value.specs.Meaning.{optional}
use Rattle.nano_meaning.proofs.MeaningLaws.{both_injective}
use Rattle.nano_bin_bytes.specs.Codec.{Codec}
use Rattle.nano_bin_bytes.specs.Scalars.{little_endian}
use Rattle.nano_bin_bytes.specs.Containers.{EncodesOption}
use Rattle.nano_bin.specs.ContainerCodecs.{option_codec}
use Rattle.nano_bin_levels.specs.Layers.{IsWithin, Layer, Rises, IsReached}

module _ {A B : Type 0} (p : Layer A B) where
  abbrev pub SomeAll : (A → Type 0) → Option B → Type 0
  SomeAll P None = Unit {0}
  SomeAll P (Some x) = p.All P x

  abbrev pub some_deep : (A → ℕ) → Option B → ℕ
  some_deep d None = 0
  some_deep d (Some x) = p.deep d x

  abbrev pub item_means : (A → Meaning) → Option B → Meaning
  item_means m x = optional (option_map (p.means m) x)

  pub some_weaker : (P Q : A → Type 0) → ((y : A) → P y → Q y) → (x : Option B) → SomeAll P x
      → SomeAll Q x
  some_weaker P Q w None h = tt
  some_weaker P Q w (Some x) h = p.weaker P Q w x h

  pub some_less : (d : A → ℕ) (x : Option B) → SomeAll (λ y. d y < some_deep d x) x
  some_less d None = tt
  some_less d (Some x) = p.less d x

  pub some_means : (f : Codec A) (x : Option B)
      → optional (option_map (p.codec f).canonical.means x) ≡ item_means f.canonical.means x
  some_means f None = refl
  some_means f (Some x) = ap (λ m. optional (Some m)) (p.means_is f x)

  pub some_mean_same : (m k : A → Meaning) (x : Option B) → SomeAll (λ y. m y ≡ k y) x
      → item_means m x ≡ item_means k x
  some_mean_same m k None e = refl
  some_mean_same m k (Some x) e = ap (λ m. optional (Some m)) (p.means_same m k x e)

  pub some_written : (f h : Codec A) (x : Option B)
      → SomeAll (λ y. f.canonical.written y ≡ h.canonical.written y) x
      → (option_codec (p.codec f)).canonical.written x
      ≡ (option_codec (p.codec h)).canonical.written x
  some_written f h None e = refl
  some_written f h (Some x) e = ap (λ l. little_endian 1 1 ++ l) (p.written_same f h x e)

  pub some_legal : (f h : Codec A) (m : A → Meaning) (x : Option B) (part : Option Meaning)
      → SomeAll (λ y. f.encoding.legal (m y) → h.encoding.legal (m y)) x
      → AllOfOption (p.codec f).encoding.legal part → item_means m x ≡ optional part
      → AllOfOption (p.codec h).encoding.legal (option_map (p.means m) x)
  some_legal f h m None part w s e = tt
  some_legal f h m (Some x) None w s e = absurd (cc)
  some_legal f h m (Some x) (Some part) w s e =
      p.legal_same f h m x w
      (subst (p.codec f).encoding.legal (sym (both_injective _ _ _ _ e).0) s)

  pub some_rises : (f h : Codec A) → IsWithin f.encoding h.encoding
      → (bytes : List ℕ) (part : Option Meaning)
      → EncodesOption (p.codec f).encoding.encodes bytes part
      → EncodesOption (p.codec h).encoding.encodes bytes part
  some_rises f h w bytes None e = e
  some_rises f h w bytes (Some x) e = record {
    head = e.head;
    tail = e.tail;
    whole = e.whole;
    first = e.first;
    second = p.rises f h w e.tail x e.second;
  }

  pub some_gathers : (c : ℕ → Codec A) → Rises c → (h : Codec A) → IsReached h.encoding c
      → (bytes : List ℕ) (part : Option Meaning)
      → EncodesOption (p.codec h).encoding.encodes bytes part
      → (n : ℕ) × EncodesOption (p.codec (c n)).encoding.encodes bytes part
  some_gathers c rises h reached bytes None e = (0, e)
  some_gathers c rises h reached bytes (Some x) e =
      let found = p.gathers c rises h reached e.tail x e.second in (
        found.0,
        record {
          head = e.head;
          tail = e.tail;
          whole = e.whole;
          first = e.first;
          second = found.1;
        },
      )

  abbrev pub option_layer : Layer A (Option B)
  option_layer = record {
    codec = λ f. option_codec (p.codec f);
    All = SomeAll;
    means = item_means;
    deep = some_deep;
    weaker = some_weaker;
    less = some_less;
    means_is = some_means;
    means_same = some_mean_same;
    written_same = some_written;
    legal_same = λ f h m x w s. record {
      part = option_map (p.means m) x;
      has = some_legal f h m x s.part w s.has s.is;
      is = refl;
    };
    rises = λ f h w bytes m e. record {
      part = e.part;
      has = some_rises f h w bytes e.part e.has;
      is = e.is;
    };
    gathers = λ c rises h reached bytes m e.
        let found = some_gathers c rises h reached bytes e.part e.has in
        (found.0, record { part = e.part; has = found.1; is = e.is });
    reads = p.reads;
    is_read = λ r f e. p.is_read r f e;
  }
