-- Layers of parts: a type that is seen as another, an array, and the parts of tuples.
use Rattle.std.specs.Prelude.{ℕ, List, ◌∷◌, ◌++◌, [], map, refl}
use Rattle.std.specs.List.{AllByRecursion}
use Rattle.std.proofs.Common.{sym, subst, ap}
use Rattle.nano_value.specs.Meaning.{Meaning, paired, AllOfCount}
use Rattle.nano_meaning.proofs.MeaningLaws.{both_injective, listed_injective}
use Rattle.nano_grammar.specs.Tokens.{Cutting}
use Rattle.nano_grammar.specs.Codec.{Grammar, Codec, ListStyle, PairStyle, TupleStyle, AreBrackets}
use Rattle.nano_grammar.specs.BaseCodecs.{codec_as, part_style}
use Rattle.nano_grammar.proofs.ListsLaws.{array_codec}
use Rattle.nano_grammar.proofs.PairsLaws.{next_codec}
use Rattle.nano_grammar.proofs.TuplesLaws.{last_codec, tuple_codec}
use Rattle.nano_levels.specs.Layers.{Layer}
use Rattle.nano_levels.proofs.LayersLaws.{list_layer, items_parts, items_legal}
use Rattle.nano_schema_levels.specs.Inside.{Inside}
use Rattle.nano_schema_levels.proofs.InsideLaws.{inside_of, both_inside}

-- values that are seen as others: what is in a box, or the fields of a struct
abbrev pub seen_layer : {T : Type 0} {c : Cutting T} {g : Grammar T} {A B C : Type 0}
    (view : C → B) → Layer c g A B → Layer c g A C
seen_layer view p = record {
  codec = λ f. codec_as view (p.codec f);
  All = λ P x. p.All P (view x);
  means = λ m x. p.means m (view x);
  deep = λ d x. p.deep d (view x);
  weaker = λ P Q w x h. p.weaker P Q w (view x) h;
  less = λ d x. p.less d (view x);
  most = λ d n x h. p.most d n (view x) h;
  means_is = λ f x. p.means_is f (view x);
  means_same = λ m n x e. p.means_same m n (view x) e;
  text_same = λ f h x e d. p.text_same f h (view x) e d;
  tokens_same = λ f h x e. p.tokens_same f h (view x) e;
  sound_same = λ f h x e w s. p.sound_same f h (view x) e w s;
  legal_parts = λ f m x h. p.legal_parts f m (view x) h;
  legal_same = λ f h m x w s. p.legal_same f h m (view x) w s;
}

-- ---- so many items

module _ {T : Type 0} {c : Cutting T} {g : Grammar T} (s : ListStyle c)
    (are : AreBrackets g s.tokens) {A B : Type 0} (p : Layer c g A B) (count : ℕ) where
  abbrev items : Layer c g A (List B)
  items = list_layer s are p

  abbrev pub array_layer : Layer c g A (List B)
  array_layer = record {
    codec = λ f. array_codec s are (p.codec f) count;
    All = items.All;
    means = items.means;
    deep = items.deep;
    weaker = items.weaker;
    less = items.less;
    most = items.most;
    means_is = items.means_is;
    means_same = items.means_same;
    text_same = items.text_same;
    tokens_same = items.tokens_same;
    sound_same = items.sound_same;
    legal_parts = λ f m xs h.
        items_parts s are p f m xs
        (subst (AllByRecursion (p.codec f).encoding.legal) (sym (listed_injective _ _ h.is))
        h.has.items);
    legal_same = λ f h m xs w legal.
        let same = listed_injective _ _ legal.is in
        let all = subst (AllOfCount count (p.codec f).encoding.legal) (sym same) legal.has in
        record {
          part = map (p.means m) xs;
          has = record {
            count_is = all.count_is;
            items = items_legal s are p f h m xs w all.items;
          };
          is = refl;
        };
  }

-- ---- two parts with a token between them

module _ {T : Type 0} {c : Cutting T} {g : Grammar T} (s : PairStyle c)
    (divides : g.may_begin s.token → ⊥) {A B C : Type 0} (p : Layer c g A B) (q : Layer c g A C)
  where
    abbrev both : Inside A (B × C)
    both = both_inside (inside_of p) (inside_of q)

    abbrev pub both_mean : (A → Meaning) → B × C → Meaning
    both_mean m x = paired (p.means m x.0, q.means m x.1)

    abbrev pub both_layer : Layer c g A (B × C)
    both_layer = record {
      codec = λ f. next_codec s divides (p.codec f) (q.codec f);
      All = both.All;
      means = both_mean;
      deep = both.deep;
      weaker = both.weaker;
      less = both.less;
      most = both.most;
      means_is = λ f x i. paired (p.means_is f x.0 i, q.means_is f x.1 i);
      means_same = λ m n x e i. paired (p.means_same m n x.0 e.0 i, q.means_same m n x.1 e.1 i);
      text_same = λ f h x e d i.
          p.text_same f h x.0 e.0 d i ++ s.punctuator ∷ (s.gap ++ q.text_same f h x.1 e.1 d i);
      tokens_same = λ f h x e i.
          p.tokens_same f h x.0 e.0 i ++ s.token ∷ q.tokens_same f h x.1 e.1 i;
      sound_same = λ f h x e w sound. (
        p.sound_same f h x.0 e.0 w.0 sound.0,
        q.sound_same f h x.1 e.1 w.1 sound.1,
      );
      legal_parts = λ f m x h.
          let same = both_injective _ _ h.part.0 h.part.1 h.is in (
            p.legal_parts f m x.0 (subst (p.codec f).encoding.legal (sym same.0) h.has.0),
            q.legal_parts f m x.1 (subst (q.codec f).encoding.legal (sym same.1) h.has.1),
          );
      legal_same = λ f h m x w legal.
          let same = both_injective _ _ legal.part.0 legal.part.1 legal.is in
          record {
            part = (p.means m x.0, q.means m x.1);
            has = (
              p.legal_same f h m x.0 w.0
                  (subst (p.codec f).encoding.legal (sym same.0) legal.has.0),
              q.legal_same f h m x.1 w.1
                  (subst (q.codec f).encoding.legal (sym same.1) legal.has.1),
            );
            is = refl;
          };
    }

-- ---- tuples

module _ {T : Type 0} {c : Cutting T} {g : Grammar T} (s : TupleStyle c)
    (are : AreBrackets g s.tokens) where
  -- the last part, and the closing bracket
  abbrev pub last_layer : {A B : Type 0} → Layer c g A B → Layer c g A B
  last_layer p = record {
    codec = λ f. last_codec s are (p.codec f);
    All = p.All;
    means = p.means;
    deep = p.deep;
    weaker = p.weaker;
    less = p.less;
    most = p.most;
    means_is = p.means_is;
    means_same = p.means_same;
    text_same = λ f h x e d.
        ap (λ l. l ++ s.punctuation.closing ∷ []) (p.text_same f h x e d);
    tokens_same = λ f h x e. ap (λ l. l ++ s.tokens.closing ∷ []) (p.tokens_same f h x e);
    sound_same = p.sound_same;
    legal_parts = p.legal_parts;
    legal_same = p.legal_same;
  }

  -- the opening bracket, and the parts
  abbrev pub tuple_layer : {A B : Type 0} → Layer c g A B → Layer c g A B
  tuple_layer p = record {
    codec = λ f. tuple_codec s are (p.codec f);
    All = p.All;
    means = p.means;
    deep = p.deep;
    weaker = p.weaker;
    less = p.less;
    most = p.most;
    means_is = p.means_is;
    means_same = p.means_same;
    text_same = λ f h x e d. ap (λ l. s.punctuation.opening ∷ l) (p.text_same f h x e d);
    tokens_same = λ f h x e. ap (λ l. s.tokens.opening ∷ l) (p.tokens_same f h x e);
    sound_same = p.sound_same;
    legal_parts = p.legal_parts;
    legal_same = p.legal_same;
  }

  -- the parts of a pair after the opening bracket, and those of a triple and a quadruple, as nested
  -- pairs
  abbrev pub two_parts : {A B C : Type 0} → Layer c g A B → Layer c g A C → Layer c g A (B × C)
  two_parts p q = both_layer (part_style s) are.divides p (last_layer q)

  abbrev pub three_parts : {A B C D : Type 0} → Layer c g A B → Layer c g A C → Layer c g A D
      → Layer c g A (B × (C × D))
  three_parts p q r = both_layer (part_style s) are.divides p (two_parts q r)

  abbrev pub four_parts : {A B C D E : Type 0} → Layer c g A B → Layer c g A C → Layer c g A D
      → Layer c g A E → Layer c g A (B × (C × (D × E)))
  four_parts p q r t = both_layer (part_style s) are.divides p (three_parts q r t)

  -- a tuple of one part, of two, three and four
  abbrev pub single_layer : {A B : Type 0} → Layer c g A B → Layer c g A B
  single_layer p = tuple_layer (last_layer p)

  abbrev pub pair_layer : {A B C : Type 0} → Layer c g A B → Layer c g A C → Layer c g A (B × C)
  pair_layer p q = tuple_layer (two_parts p q)

  abbrev pub triple_layer : {A B C D : Type 0} → Layer c g A B → Layer c g A C → Layer c g A D
      → Layer c g A (B × (C × D))
  triple_layer p q r = tuple_layer (three_parts p q r)

  abbrev pub quadruple_layer : {A B C D E : Type 0} → Layer c g A B → Layer c g A C
      → Layer c g A D → Layer c g A E → Layer c g A (B × (C × (D × E)))
  quadruple_layer p q r t = tuple_layer (four_parts p q r t)
