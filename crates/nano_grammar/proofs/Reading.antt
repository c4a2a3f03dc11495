-- What a reader of one value knows of the tokens that it takes.
use Rattle.std.proofs.Common.{◌≡◌, ◌≢◌, ℕ, ◌<◌, ◌⊎◌, inl, inr, List, [], ◌∷◌, ◌++◌, length, Some}
use Rattle.std.proofs.Common.{None, Option, refl, ap, sym, ◌∙◌, subst}
use Rattle.nano_value.specs.Meaning.{IsImage, Meaning, usize_bound}
use Rattle.nano_grammar.proofs.TokensLaws.{CutLaws, tokens_left, token_shorter}
use Rattle.nano_grammar.proofs.FaultLaws.{Encodes, LeadsTo}
use Rattle.nano_grammar.specs.Tokens.{Cutting, At, Leaves, Spans}
use Rattle.nano_grammar.specs.Items.{ListPunctuation, StartsOtherwise, EncodedList}
use Rattle.nano_grammar.specs.Lists.{EncodesList, EncodesCount}
use Rattle.nano_grammar.specs.Scalars.{EncodesOption, EncodesOne}
use Rattle.nano_grammar.specs.Codec.{Grammar, BeginsValue}

pub either_way : {A B : Type 0} → A ⊎ B → B ⊎ A
either_way (inl a) = inr a
either_way (inr b) = inl b

module _ {T : Type 0} (c : Cutting T) where
  -- ---- values that mean what their parts are mapped to

  pub image_spans : {A : Type 0} {S : List T → A → Type 0} (f : A → Meaning) (start following : At T)
      (x : A) → Spans c.cut S start following x
      → Spans c.cut (λ ts. IsImage f (S ts)) start following (f x)
  image_spans f start following x s = (s.0, record { part = x; has = s.1; is = refl }, s.2)

  pub image_encodes : {A : Type 0} (S : List T → A → Type 0) (f : A → Meaning)
      → Encodes (λ ts. IsImage f (S ts)) S
  image_encodes S f ts m h = (h.part, h.has)

  -- ---- one token

  -- the token is taken where the next one is cut
  pub token_taken : (t : T) (start following : At T) → t ≡ start.token
      → c.cut start.text following.token following.text → Leaves c.cut (t ∷ []) start following
  token_taken t start following e h = (e, (following, h, refl))

  module _ {A : Type 0} (carries : T → A → Type 0) (P : A → Type 0) where
    pub one_spans : (start following : At T) (x : A) → carries start.token x → P x
        → c.cut start.text following.token following.text
        → Spans c.cut (EncodesOne carries P) start following x
    one_spans start following x h p k = (
      start.token ∷ [],
      record { token = start.token; one = refl; carries_it = h; has = p },
      token_taken start.token start following refl k,
    )

    pub one_some : (x : A) → EncodesOne carries P [] x → ⊥
    one_some x h = absurd (cc h.one)

    -- where the pending token carries nothing that has the property
    pub one_other : (t : T) → ((x : A) → carries t x → P x → ⊥) → (ts : List T) (x : A)
        → EncodesOne carries P (t ∷ ts) x → ⊥
    one_other t none ts x h =
        let same : t ≡ h.token = cc h.one in
        none x (subst (λ (u : T). carries u x) (sym same) h.carries_it) h.has

module _ {T : Type 0} {c : Cutting T} {g : Grammar T} (r : CutLaws c g) where
  -- a value takes one token at least
  pub value_shorter : (ts : List T) (s e : At T) → BeginsValue g ts → Leaves c.cut ts s e
      → tokens_left r.is_end e < tokens_left r.is_end s
  value_shorter [] s e b h = absurd b
  value_shorter (t ∷ ts) s e b h =
      token_shorter c.cut r.is_end r.shorter t ts s e (r.begins_no_end t b) h

  -- ---- options

  pub unless_none : (ts : List T) (start following : At T) → start.token ≢ g.none → BeginsValue g ts
      → Leaves c.cut ts start following → StartsOtherwise g.none ts
  unless_none [] start following e b h = b
  unless_none (u ∷ us) start following e b h = λ is. e (sym h.0 ∙ is)

  module _ {A : Type 0} (S : List T → A → Type 0) (start : At T) where
    pub none_spans : (following : At T) → start.token ≡ g.none
        → c.cut start.text following.token following.text
        → Spans c.cut (EncodesOption g.none S) start following None
    none_spans following e h = (g.none ∷ [], refl, token_taken c g.none start following (sym e) h)

    pub some_spans : (following : At T) (x : A)
        → ((ts : List T) (y : A) → S ts y → BeginsValue g ts) → start.token ≢ g.none
        → Spans c.cut S start following x → Spans c.cut (EncodesOption g.none S) start following (Some x)
    some_spans following x begins e s =
        (s.0, (s.1, unless_none s.0 start following e (begins s.0 x s.1) s.2), s.2)

    pub option_some : (o : Option A) → EncodesOption g.none S [] o → ⊥
    option_some None h = absurd (cc h)
    option_some (Some x) h = h.1

    -- where another token is pending, an item follows
    pub some_leads : (pending : T) → pending ≢ g.none → LeadsTo (EncodesOption g.none S) S [] pending
    some_leads pending other us more rest next None e is =
        let whole = ap (λ (xs : List T). xs ++ next ∷ more) (sym e) ∙ is in
        let same : g.none ≡ pending = cc whole in
        absurd (other (sym same))
    some_leads pending other us more rest next (Some x) e is = (us, x, next, more, e.0, is)

  -- ---- lists and arrays

  module _ {A : Type 0} (punctuation : ListPunctuation T) (S : List T → A → Type 0) (start : At T) where
    pub list_spans : (following : At T) (xs : List A) → length xs < usize_bound
        → Spans c.cut (EncodedList punctuation S) start following xs
        → Spans c.cut (EncodesList punctuation S) start following xs
    list_spans following xs count s = (s.0, record { count = count; items = s.1 }, s.2)

    pub count_spans : (count : ℕ) (following : At T) (xs : List A) → length xs ≡ count
        → Spans c.cut (EncodedList punctuation S) start following xs
        → Spans c.cut (EncodesCount punctuation count S) start following xs
    count_spans count following xs long s = (s.0, record { count_is = long; items = s.1 }, s.2)
