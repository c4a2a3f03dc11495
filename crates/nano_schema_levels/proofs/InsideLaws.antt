-- What is proved of Inside: what is inside both parts of a pair, or one of two kinds of values.
use Rattle.std.specs.Prelude.{◌<◌, ◌≤◌, ℕ, max}
use Rattle.std.proofs.Common.{arith}
use Rattle.nano_grammar.specs.Tokens.{Cutting}
use Rattle.nano_grammar.specs.Codec.{Grammar}
use Rattle.nano_levels.specs.Layers.{Layer}
use Rattle.nano_schema.specs.declared.choices.Either.{Either}
use Rattle.nano_schema.specs.declared.choices.Either.TheVariants.{First, Later}
use Rattle.nano_schema_levels.specs.Inside.{Inside}

-- nothing
abbrev pub nothing_inside : {A B : Type 0} → Inside A B
nothing_inside = record {
  All = λ P x. Unit {0};
  deep = λ d x. 0;
  weaker = λ P Q w x h. tt;
  less = λ d x. tt;
  most = λ d n x h. omega arith;
}

-- what the values of a layer hold
abbrev pub inside_of : {T : Type 0} {c : Cutting T} {g : Grammar T} {A B : Type 0}
    → Layer c g A B → Inside A B
inside_of p = record {
  All = p.All;
  deep = p.deep;
  weaker = p.weaker;
  less = p.less;
  most = p.most;
}

-- ---- both parts of a pair

module _ {A B C : Type 0} (p : Inside A B) (q : Inside A C) where
  abbrev pub both_all : (A → Type 0) → B × C → Type 0
  both_all P x = p.All P x.0 × q.All P x.1

  abbrev pub both_deep : (A → ℕ) → B × C → ℕ
  both_deep d x = max (p.deep d x.0) (q.deep d x.1)

  pub both_less : (d : A → ℕ) (x : B × C) → both_all (λ y. d y < both_deep d x) x
  both_less d x = (
    p.weaker (λ y. d y < p.deep d x.0) (λ y. d y < both_deep d x)
        (λ y less. omega (arith, less)) x.0 (p.less d x.0),
    q.weaker (λ y. d y < q.deep d x.1) (λ y. d y < both_deep d x)
        (λ y less. omega (arith, less)) x.1 (q.less d x.1),
  )

  pub both_most : (d : A → ℕ) (n : ℕ) (x : B × C) → both_all (λ y. d y < n) x → both_deep d x ≤ n
  both_most d n x h =
      let first = p.most d n x.0 h.0 in
      let second = q.most d n x.1 h.1 in
      omega (arith, first, second)

  abbrev pub both_inside : Inside A (B × C)
  both_inside = record {
    All = both_all;
    deep = both_deep;
    weaker = λ P Q w x h. (p.weaker P Q w x.0 h.0, q.weaker P Q w x.1 h.1);
    less = both_less;
    most = both_most;
  }

  -- ---- one of two kinds

  abbrev pub either_all : (A → Type 0) → Either B C → Type 0
  either_all P (First x) = p.All P x
  either_all P (Later y) = q.All P y

  abbrev pub either_deep : (A → ℕ) → Either B C → ℕ
  either_deep d (First x) = p.deep d x
  either_deep d (Later y) = q.deep d y

  pub either_weaker : (P Q : A → Type 0) → ((y : A) → P y → Q y) → (x : Either B C)
      → either_all P x → either_all Q x
  either_weaker P Q w (First x) h = p.weaker P Q w x h
  either_weaker P Q w (Later y) h = q.weaker P Q w y h

  pub either_less : (d : A → ℕ) (x : Either B C) → either_all (λ y. d y < either_deep d x) x
  either_less d (First x) = p.less d x
  either_less d (Later y) = q.less d y

  pub either_most : (d : A → ℕ) (n : ℕ) (x : Either B C) → either_all (λ y. d y < n) x
      → either_deep d x ≤ n
  either_most d n (First x) h = p.most d n x h
  either_most d n (Later y) h = q.most d n y h

  abbrev pub either_inside : Inside A (Either B C)
  either_inside = record {
    All = either_all;
    deep = either_deep;
    weaker = either_weaker;
    less = either_less;
    most = either_most;
  }
