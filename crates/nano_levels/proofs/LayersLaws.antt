-- What is proved of Layers: the type itself, another type, a list, a pair and an option.
use Rattle.std.specs.Prelude.{◌≡◌, ◌<◌, ◌≤◌, ℕ, suc, refl, List, [], ◌∷◌, ◌++◌, map, Option, Some}
use Rattle.std.specs.Prelude.{None}
use Rattle.std.specs.Option.{option_map}
use Rattle.std.specs.List.{AllByRecursion}
use Rattle.std.proofs.Common.{sym, subst, ap, arith}
use Rattle.nano_text.specs.Place.{saturating_next}
use Rattle.nano_value.specs.Meaning.{AllOfList, AllOfOption}
use Rattle.nano_value.specs.Meaning.{Meaning, listed, paired, pair_map, optional}
use Rattle.nano_meaning.proofs.MeaningLaws.{all_weaker}
use Rattle.nano_meaning.proofs.MeaningLaws.{listed_injective, both_injective}
use Rattle.nano_grammar.specs.Tokens.{Cutting}
use Rattle.nano_grammar.specs.Codec.{ListStyle, PairStyle, Codec, Grammar, AreBrackets}
use Rattle.nano_grammar.specs.Items.{StartsOtherwise, no_gaps}
use Rattle.nano_grammar.specs.Scalars.{NoneStyle, SoundOption}
use Rattle.nano_grammar.proofs.LayoutsLaws.{laid_out_same}
use Rattle.nano_grammar.proofs.ListsLaws.{list_codec}
use Rattle.nano_grammar.proofs.OptionsLaws.{option_codec}
use Rattle.nano_grammar.proofs.PairsLaws.{next_codec}
use Rattle.nano_levels.specs.Layers.{Layer, greatest}

-- ---- the type itself, and another one

abbrev pub itself_layer : {T : Type 0} {c : Cutting T} {g : Grammar T} {A : Type 0} → Layer c g A A
itself_layer = record {
  codec = λ f. f;
  All = λ P x. P x;
  means = λ m x. m x;
  deep = λ d x. suc (d x);
  weaker = λ P Q w x h. w x h;
  less = λ d x. omega arith;
  most = λ d n x h. omega (arith, h);
  means_is = λ f x. refl;
  means_same = λ m n x e. e;
  text_same = λ f h x e. e;
  tokens_same = λ f h x e. e;
  sound_same = λ f h x e w. w;
  legal_parts = λ f m x h. h;
  legal_same = λ f h m x w. w;
}

abbrev pub other_layer : {T : Type 0} {c : Cutting T} {g : Grammar T} {A B : Type 0} → Codec c g B
    → Layer c g A B
other_layer k = record {
  codec = λ f. k;
  All = λ P x. Unit {0};
  means = λ m. k.canonical.means;
  deep = λ d x. 0;
  weaker = λ P Q w x h. tt;
  less = λ d x. tt;
  most = λ d n x h. omega arith;
  means_is = λ f x. refl;
  means_same = λ m n x e. refl;
  text_same = λ f h x e d. refl;
  tokens_same = λ f h x e. refl;
  sound_same = λ f h x e w s. s;
  legal_parts = λ f m x h. tt;
  legal_same = λ f h m x w s. s;
}

-- ---- lists

pub maps_same : {A B : Type 0} (f h : A → B) (P : A → Type 0) → ((x : A) → P x → f x ≡ h x)
    → (xs : List A) → AllByRecursion P xs → map f xs ≡ map h xs
maps_same f h P same [] all = refl
maps_same f h P same (x ∷ xs) all =
    let head = same x all.0 in
    let tail = maps_same f h P same xs all.1 in
    λ i. head i ∷ tail i

module _ {T : Type 0} {c : Cutting T} {g : Grammar T} (s : ListStyle c) (are : AreBrackets g s.tokens)
    {A B : Type 0} (p : Layer c g A B) where
  abbrev pub each_deep : (A → ℕ) → List B → ℕ
  each_deep d xs = greatest (map (p.deep d) xs)

  pub items_less : (d : A → ℕ) (n : ℕ) (xs : List B) → each_deep d xs ≤ n
      → AllByRecursion (p.All (λ y. d y < n)) xs
  items_less d n [] h = tt
  items_less d n (x ∷ xs) h =
      let first : p.deep d x ≤ n = omega (arith, h) in
      let rest : each_deep d xs ≤ n = omega (arith, h) in (
        p.weaker (λ y. d y < p.deep d x) (λ y. d y < n) (λ y less. omega (arith, less, first)) x
            (p.less d x),
        items_less d n xs rest,
      )

  pub items_most : (d : A → ℕ) (n : ℕ) (xs : List B) → AllByRecursion (p.All (λ y. d y < n)) xs
      → each_deep d xs ≤ n
  items_most d n [] h = omega arith
  items_most d n (x ∷ xs) h =
      let first = p.most d n x h.0 in
      let rest = items_most d n xs h.1 in
      omega (arith, first, rest)

  pub items_mean : (f : Codec c g A) (xs : List B)
      → map (p.codec f).canonical.means xs ≡ map (p.means f.canonical.means) xs
  items_mean f [] = refl
  items_mean f (x ∷ xs) = λ i. p.means_is f x i ∷ items_mean f xs i

  pub items_sound : (f h : Codec c g A) (xs : List B)
      → AllByRecursion (p.All (λ y. f.canonical.tokens y ≡ h.canonical.tokens y)) xs
      → AllByRecursion (p.All (λ y. f.sound y → h.sound y)) xs
      → AllByRecursion (p.codec f).sound xs → AllByRecursion (p.codec h).sound xs
  items_sound f h [] e w s = tt
  items_sound f h (x ∷ xs) e w s =
      (p.sound_same f h x e.0 w.0 s.0, items_sound f h xs e.1 w.1 s.1)

  pub items_parts : (f : Codec c g A) (m : A → Meaning) (xs : List B)
      → AllByRecursion (p.codec f).encoding.legal (map (p.means m) xs)
      → AllByRecursion (p.All (λ y. f.encoding.legal (m y))) xs
  items_parts f m [] h = tt
  items_parts f m (x ∷ xs) h = (p.legal_parts f m x h.0, items_parts f m xs h.1)

  pub items_legal : (f h : Codec c g A) (m : A → Meaning) (xs : List B)
      → AllByRecursion (p.All (λ y. f.encoding.legal (m y) → h.encoding.legal (m y))) xs
      → AllByRecursion (p.codec f).encoding.legal (map (p.means m) xs)
      → AllByRecursion (p.codec h).encoding.legal (map (p.means m) xs)
  items_legal f h m [] w s = tt
  items_legal f h m (x ∷ xs) w s = (p.legal_same f h m x w.0 s.0, items_legal f h m xs w.1 s.1)

  abbrev pub list_layer : Layer c g A (List B)
  list_layer = record {
    codec = λ f. list_codec s are (p.codec f);
    All = λ P xs. AllByRecursion (p.All P) xs;
    means = λ m xs. listed (map (p.means m) xs);
    deep = each_deep;
    weaker = λ P Q w xs h. all_weaker (p.All P) (p.All Q) (p.weaker P Q w) xs h;
    less = λ d xs. items_less d (each_deep d xs) xs (omega arith);
    most = items_most;
    means_is = λ f xs. ap listed (items_mean f xs);
    means_same = λ m n xs e.
        ap listed (maps_same (p.means m) (p.means n) (p.All (λ y. m y ≡ n y)) (p.means_same m n) xs e);
    text_same = λ f h xs e d.
        let next = saturating_next d in
        let F = (p.codec f).canonical.text next in
        let H = (p.codec h).canonical.text next in
        let P = p.All (λ y. (k : ℕ) → f.canonical.text k y ≡ h.canonical.text k y) in
        laid_out_same s.ends (s.gaps d) s.punctuation F H xs xs
        (maps_same F H P (λ x all. p.text_same f h x all next) xs e);
    tokens_same = λ f h xs e.
        let F = (p.codec f).canonical.tokens in
        let H = (p.codec h).canonical.tokens in
        let P = p.All (λ y. f.canonical.tokens y ≡ h.canonical.tokens y) in
        laid_out_same s.ends no_gaps s.tokens F H xs xs (maps_same F H P (p.tokens_same f h) xs e);
    sound_same = items_sound;
    legal_parts = λ f m xs h.
        let same = listed_injective _ _ h.is in
        items_parts f m xs
        (subst (AllByRecursion (p.codec f).encoding.legal) (sym same) h.has.items);
    legal_same = λ f h m xs w s.
        let same = listed_injective _ _ s.is in
        let all = subst (AllOfList (p.codec f).encoding.legal) (sym same) s.has in
        record {
          part = map (p.means m) xs;
          has = record { count = all.count; items = items_legal f h m xs w all.items };
          is = refl;
        };
  }

-- ---- another type, a token, and what is inside

module _ {T : Type 0} {c : Cutting T} {g : Grammar T} (s : PairStyle c)
    (divides : g.may_begin s.token → ⊥) {K A B : Type 0} (k : Codec c g K) (p : Layer c g A B) where
  abbrev pub both_mean : (A → Meaning) → K × B → Meaning
  both_mean m x = paired (pair_map k.canonical.means (p.means m) x)

  abbrev pub next_layer : Layer c g A (K × B)
  next_layer = record {
    codec = λ f. next_codec s divides k (p.codec f);
    All = λ P x. p.All P x.1;
    means = both_mean;
    deep = λ d x. p.deep d x.1;
    weaker = λ P Q w x h. p.weaker P Q w x.1 h;
    less = λ d x. p.less d x.1;
    most = λ d n x h. p.most d n x.1 h;
    means_is = λ f x. ap (λ m. paired (k.canonical.means x.0, m)) (p.means_is f x.1);
    means_same = λ m n x e. ap (λ m. paired (k.canonical.means x.0, m)) (p.means_same m n x.1 e);
    text_same = λ f h x e d.
        ap (λ l. k.canonical.text d x.0 ++ s.punctuator ∷ (s.gap ++ l)) (p.text_same f h x.1 e d);
    tokens_same = λ f h x e.
        ap (λ l. k.canonical.tokens x.0 ++ s.token ∷ l) (p.tokens_same f h x.1 e);
    sound_same = λ f h x e w both. (both.0, p.sound_same f h x.1 e w both.1);
    legal_parts = λ f m x h.
        let same = both_injective _ _ h.part.0 h.part.1 h.is in
        p.legal_parts f m x.1 (subst (p.codec f).encoding.legal (sym same.1) h.has.1);
    legal_same = λ f h m x w both.
        let same = both_injective _ _ both.part.0 both.part.1 both.is in
        record {
          part = (k.canonical.means x.0, p.means m x.1);
          has = (
            subst k.encoding.legal (sym same.0) both.has.0,
            p.legal_same f h m x.1 w
                (subst (p.codec f).encoding.legal (sym same.1) both.has.1),
          );
          is = refl;
        };
  }

-- ---- what may be absent

module _ {T : Type 0} {c : Cutting T} {g : Grammar T} (n : NoneStyle c g) {A B : Type 0}
    (p : Layer c g A B) where
  abbrev pub SomeAll : (A → Type 0) → Option B → Type 0
  SomeAll P None = Unit {0}
  SomeAll P (Some x) = p.All P x

  abbrev pub some_deep : (A → ℕ) → Option B → ℕ
  some_deep d None = 0
  some_deep d (Some x) = p.deep d x

  abbrev pub item_means : (A → Meaning) → Option B → Meaning
  item_means m x = optional (option_map (p.means m) x)

  pub some_weaker : (P Q : A → Type 0) → ((y : A) → P y → Q y) → (x : Option B) → SomeAll P x
      → SomeAll Q x
  some_weaker P Q w None h = tt
  some_weaker P Q w (Some x) h = p.weaker P Q w x h

  pub some_less : (d : A → ℕ) (x : Option B) → SomeAll (λ y. d y < some_deep d x) x
  some_less d None = tt
  some_less d (Some x) = p.less d x

  pub some_most : (d : A → ℕ) (k : ℕ) (x : Option B) → SomeAll (λ y. d y < k) x → some_deep d x ≤ k
  some_most d k None h = omega arith
  some_most d k (Some x) h = p.most d k x h

  pub some_means : (f : Codec c g A) (x : Option B)
      → optional (option_map (p.codec f).canonical.means x) ≡ item_means f.canonical.means x
  some_means f None = refl
  some_means f (Some x) = ap (λ m. optional (Some m)) (p.means_is f x)

  pub some_mean_same : (m k : A → Meaning) (x : Option B) → SomeAll (λ y. m y ≡ k y) x
      → item_means m x ≡ item_means k x
  some_mean_same m k None e = refl
  some_mean_same m k (Some x) e = ap (λ m. optional (Some m)) (p.means_same m k x e)

  pub some_text : (f h : Codec c g A) (x : Option B)
      → SomeAll (λ y. (d : ℕ) → f.canonical.text d y ≡ h.canonical.text d y) x → (d : ℕ)
      → (option_codec n (p.codec f)).canonical.text d x
      ≡ (option_codec n (p.codec h)).canonical.text d x
  some_text f h None e d = refl
  some_text f h (Some x) e d = p.text_same f h x e d

  pub some_tokens : (f h : Codec c g A) (x : Option B)
      → SomeAll (λ y. f.canonical.tokens y ≡ h.canonical.tokens y) x
      → (option_codec n (p.codec f)).canonical.tokens x
      ≡ (option_codec n (p.codec h)).canonical.tokens x
  some_tokens f h None e = refl
  some_tokens f h (Some x) e = p.tokens_same f h x e

  pub some_sound : (f h : Codec c g A) (x : Option B)
      → SomeAll (λ y. f.canonical.tokens y ≡ h.canonical.tokens y) x
      → SomeAll (λ y. f.sound y → h.sound y) x
      → SoundOption n (p.codec f) x → SoundOption n (p.codec h) x
  some_sound f h None e w s = tt
  some_sound f h (Some x) e w s =
      (p.sound_same f h x e w s.0, subst (StartsOtherwise g.none) (p.tokens_same f h x e) s.1)

  pub some_parts : (f : Codec c g A) (m : A → Meaning) (x : Option B) (part : Option Meaning)
      → AllOfOption (p.codec f).encoding.legal part → item_means m x ≡ optional part
      → SomeAll (λ y. f.encoding.legal (m y)) x
  some_parts f m None part h e = tt
  some_parts f m (Some x) None h e = absurd (cc)
  some_parts f m (Some x) (Some part) h e =
      p.legal_parts f m x
      (subst (p.codec f).encoding.legal (sym (both_injective _ _ _ _ e).0) h)

  pub some_legal : (f h : Codec c g A) (m : A → Meaning) (x : Option B) (part : Option Meaning)
      → SomeAll (λ y. f.encoding.legal (m y) → h.encoding.legal (m y)) x
      → AllOfOption (p.codec f).encoding.legal part → item_means m x ≡ optional part
      → AllOfOption (p.codec h).encoding.legal (option_map (p.means m) x)
  some_legal f h m None part w s e = tt
  some_legal f h m (Some x) None w s e = absurd (cc)
  some_legal f h m (Some x) (Some part) w s e =
      p.legal_same f h m x w
      (subst (p.codec f).encoding.legal (sym (both_injective _ _ _ _ e).0) s)

  abbrev pub option_layer : Layer c g A (Option B)
  option_layer = record {
    codec = λ f. option_codec n (p.codec f);
    All = SomeAll;
    means = item_means;
    deep = some_deep;
    weaker = some_weaker;
    less = some_less;
    most = some_most;
    means_is = some_means;
    means_same = some_mean_same;
    text_same = some_text;
    tokens_same = some_tokens;
    sound_same = some_sound;
    legal_parts = λ f m x h. some_parts f m x h.part h.has h.is;
    legal_same = λ f h m x w s. record {
      part = option_map (p.means m) x;
      has = some_legal f h m x s.part w s.has s.is;
      is = refl;
    };
  }
