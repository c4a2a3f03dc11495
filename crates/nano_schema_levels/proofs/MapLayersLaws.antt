-- The layer of maps from keys to values of the type, which hold their entries in order.
use Rattle.std.specs.Prelude.{◌≡◌, ℕ, Bool, true, false, cond, List, [], ◌∷◌, map, T, refl}
use Rattle.std.specs.declared.cmp.Ordering.{Ordering}
use Rattle.std.specs.List.{AllByRecursion}
use Rattle.std.specs.FinMap.Entries.{is_sorted}
use Rattle.std.proofs.Common.{sym, subst, ap}
use Rattle.nano_text.specs.Place.{saturating_next}
use Rattle.nano_value.specs.Meaning.{Meaning, paired, pair_map, AllOfList, BothOfPair}
use Rattle.nano_value.specs.Order.{MeaningOrder, Follows, by_meaning}
use Rattle.nano_value.specs.Ordered.{ordered_map_means, unordered}
use Rattle.nano_value.specs.Tables.{ascending, last_values, table_of, table_means}
use Rattle.nano_value.specs.Tables.{AllOfTable, LegalMap, IsOrderOf}
use Rattle.nano_meaning.proofs.AscendingLaws.{all-ascending, ascending-sorted}
use Rattle.nano_meaning.proofs.OrderLaws.{by_meaning-orders, followed}
use Rattle.nano_meaning.proofs.OrderedSetsLaws.{no_list_is_unordered}
use Rattle.nano_meaning.proofs.TablesLaws.{table_means-injective, all_of_last_values}
use Rattle.nano_grammar.specs.Tokens.{Cutting}
use Rattle.nano_grammar.specs.Codec.{Grammar, Codec, ListStyle, PairStyle, AreBrackets}
use Rattle.nano_grammar.specs.Items.{no_gaps}
use Rattle.nano_grammar.specs.Maps.{pair_text, pair_tokens, AllSoundEntries}
use Rattle.nano_grammar.proofs.LayoutsLaws.{laid_out_same}
use Rattle.nano_grammar.proofs.OrderedMapsLaws.{ordered_map_codec}
use Rattle.nano_levels.specs.Layers.{Layer}
use Rattle.nano_levels.proofs.EntriesLaws.{values-ascending}
use Rattle.nano_levels.proofs.LayersLaws.{list_layer, next_layer, maps_same}

-- an order that follows one of the meanings is an order of the keys
pub follows_order : {K : Type 0} (R : K → K → Ordering) (means : K → Meaning) (o : MeaningOrder)
    → Follows R means o → IsOrderOf means R
follows_order R means o follows =
    subst (IsOrderOf means) (followed R means means o follows refl) (by_meaning-orders means o)

is_so : (b : Bool) → b ≡ true → T b
is_so b e = subst T (sym e) tt

-- ---- maps

module _ {T : Type 0} {c : Cutting T} {g : Grammar T} (s : ListStyle c)
    (are : AreBrackets g s.tokens) (pair : PairStyle c) (divides : g.may_begin pair.token → ⊥)
    (o : MeaningOrder) {K : Type 0} (k : Codec c g K) (R : K → K → Ordering)
    (order : IsOrderOf k.canonical.means R) {A V : Type 0} (p : Layer c g A V) where
  abbrev entries : Layer c g A (List (K × V))
  entries = list_layer s are (next_layer pair divides k p)

  -- the entries in the order in which they are written
  abbrev in_order : List (K × V) → List (K × V)
  in_order es = ascending (by_meaning k.canonical.means o) es

  all_in_order : (P : V → Type 0) (es : List (K × V)) → AllByRecursion (λ e. P e.1) es
      → AllByRecursion (λ e. P e.1) (in_order es)
  all_in_order P es all =
      values-ascending (by_meaning-orders k.canonical.means o).total P es all

  abbrev pub map_mean : (A → Meaning) → List (K × V) → Meaning
  map_mean m es = ordered_map_means R k.canonical.means (p.means m) es

  -- what the entries mean, one by one
  abbrev pairs : (V → Meaning) → List (K × V) → List (Meaning × Meaning)
  pairs f es = map (pair_map k.canonical.means f) es

  pub by_pairs : (f h : V → Meaning) (es : List (K × V)) → pairs f es ≡ pairs h es
      → ordered_map_means R k.canonical.means f es ≡ ordered_map_means R k.canonical.means h es
  by_pairs f h es e =
      ap (λ (ps : List (Meaning × Meaning)).
      cond (is_sorted R es) (table_means (last_values ps)) (unordered (map paired ps))) e

  pub pairs_are : (f : Codec c g A) (es : List (K × V))
      → pairs (p.codec f).canonical.means es ≡ pairs (p.means f.canonical.means) es
  pairs_are f [] = refl
  pairs_are f (e ∷ es) =
      λ i. (k.canonical.means e.0, p.means_is f e.1 i) ∷ pairs_are f es i

  pub map_means_same : (m n : A → Meaning) (es : List (K × V)) → entries.All (λ y. m y ≡ n y) es
      → map_mean m es ≡ map_mean n es
  map_means_same m n es e =
      by_pairs (p.means m) (p.means n) es
      (maps_same (pair_map k.canonical.means (p.means m)) (pair_map k.canonical.means (p.means n))
      (λ x. p.All (λ y. m y ≡ n y) x.1)
      (λ x all i. (k.canonical.means x.0, p.means_same m n x.1 all i)) es e)

  -- ---- how a map is written

  pub map_text_same : (f h : Codec c g A) (es : List (K × V))
      → entries.All (λ y. (d : ℕ) → f.canonical.text d y ≡ h.canonical.text d y) es → (d : ℕ)
      → (ordered_map_codec s are pair divides o k (p.codec f) R).canonical.text d es
      ≡ (ordered_map_codec s are pair divides o k (p.codec h) R).canonical.text d es
  map_text_same f h es e d =
      let next = saturating_next d in
      let F = pair_text pair k.canonical (p.codec f).canonical next in
      let H = pair_text pair k.canonical (p.codec h).canonical next in
      let P = p.All (λ y. (n : ℕ) → f.canonical.text n y ≡ h.canonical.text n y) in
      laid_out_same s.ends (s.gaps d) s.punctuation F H (in_order es) (in_order es)
      (maps_same F H (λ x. P x.1)
      (λ x all. (next_layer pair divides k p).text_same f h x all next) (in_order es)
      (all_in_order P es e))

  pub map_tokens_same : (f h : Codec c g A) (es : List (K × V))
      → entries.All (λ y. f.canonical.tokens y ≡ h.canonical.tokens y) es
      → (ordered_map_codec s are pair divides o k (p.codec f) R).canonical.tokens es
      ≡ (ordered_map_codec s are pair divides o k (p.codec h) R).canonical.tokens es
  map_tokens_same f h es e =
      let F = pair_tokens pair k.canonical (p.codec f).canonical in
      let H = pair_tokens pair k.canonical (p.codec h).canonical in
      let P = p.All (λ y. f.canonical.tokens y ≡ h.canonical.tokens y) in
      laid_out_same s.ends no_gaps s.tokens F H (in_order es) (in_order es)
      (maps_same F H (λ x. P x.1) ((next_layer pair divides k p).tokens_same f h) (in_order es)
      (all_in_order P es e))

  each_sound : (f h : Codec c g A) (es : List (K × V))
      → entries.All (λ y. f.canonical.tokens y ≡ h.canonical.tokens y) es
      → entries.All (λ y. f.sound y → h.sound y) es
      → AllSoundEntries s are pair divides o k (p.codec f) es
      → AllSoundEntries s are pair divides o k (p.codec h) es
  each_sound f h [] e w sound = tt
  each_sound f h (x ∷ xs) e w sound = (
    (sound.0.0, p.sound_same f h x.1 e.0 w.0 sound.0.1),
    each_sound f h xs e.1 w.1 sound.1,
  )

  pub map_sound_same : (f h : Codec c g A) (es : List (K × V))
      → entries.All (λ y. f.canonical.tokens y ≡ h.canonical.tokens y) es
      → entries.All (λ y. f.sound y → h.sound y) es
      → (ordered_map_codec s are pair divides o k (p.codec f) R).sound es
      → (ordered_map_codec s are pair divides o k (p.codec h) R).sound es
  map_sound_same f h es e w sound =
      each_sound f h (in_order es)
      (all_in_order (p.All (λ y. f.canonical.tokens y ≡ h.canonical.tokens y)) es e)
      (all_in_order (p.All (λ y. f.sound y → h.sound y)) es w) sound

  -- ---- which maps are legal

  -- what entries mean that were found to stand in order, or not
  abbrev found : (V → Meaning) → List (K × V) → Bool → Meaning
  found f es b =
      cond b (table_means (table_of k.canonical.means f es))
      (unordered (map paired (pairs f es)))

  -- each entry of a map that is legal and stands in order is legal
  legal_entries : (f : V → Meaning) (Q : Meaning → Type 0) (es : List (K × V))
      → is_sorted R es ≡ true
      → LegalMap k.encoding.legal Q (table_means (table_of k.canonical.means f es))
      → AllOfList (BothOfPair k.encoding.legal Q) (pairs f es)
  legal_entries f Q es sorted h =
      let P = k.encoding.legal in
      let same = table_means-injective _ _ h.is in
      let all = all-ascending R k.canonical.means order f P Q es
      (subst (AllOfTable P Q) (sym same) h.has) in
      subst (λ (xs : List (K × V)). AllOfList (BothOfPair P Q) (pairs f xs))
      (ascending-sorted order.total es (is_so (is_sorted R es) sorted)) all

  value_parts : (f : Codec c g A) (m : A → Meaning) (es : List (K × V))
      → AllByRecursion (BothOfPair k.encoding.legal (p.codec f).encoding.legal)
      (pairs (p.means m) es)
      → entries.All (λ y. f.encoding.legal (m y)) es
  value_parts f m [] h = tt
  value_parts f m (x ∷ xs) h = (p.legal_parts f m x.1 h.0.1, value_parts f m xs h.1)

  value_legal : (f h : Codec c g A) (m : A → Meaning) (es : List (K × V))
      → entries.All (λ y. f.encoding.legal (m y) → h.encoding.legal (m y)) es
      → AllByRecursion (BothOfPair k.encoding.legal (p.codec f).encoding.legal)
      (pairs (p.means m) es)
      → AllByRecursion (BothOfPair k.encoding.legal (p.codec h).encoding.legal)
      (pairs (p.means m) es)
  value_legal f h m [] w legal = tt
  value_legal f h m (x ∷ xs) w legal = (
    (legal.0.0, p.legal_same f h m x.1 w.0 legal.0.1),
    value_legal f h m xs w.1 legal.1,
  )

  pub map_legal_parts : (f : Codec c g A) (m : A → Meaning) (es : List (K × V))
      → LegalMap k.encoding.legal (p.codec f).encoding.legal (map_mean m es)
      → entries.All (λ y. f.encoding.legal (m y)) es
  map_legal_parts f m es h =
      let Q = (p.codec f).encoding.legal in
      elim (is_sorted R es) as (λ b. is_sorted R es ≡ b
      → LegalMap k.encoding.legal Q (found (p.means m) es b)
      → entries.All (λ y. f.encoding.legal (m y)) es) [
        | true ↦ λ sorted h. value_parts f m es (legal_entries (p.means m) Q es sorted h).items
        | false ↦ λ _ h. no_list_is_unordered _ _ (sym h.is)
      ] refl h

  pub map_legal_same : (f h : Codec c g A) (m : A → Meaning) (es : List (K × V))
      → entries.All (λ y. f.encoding.legal (m y) → h.encoding.legal (m y)) es
      → LegalMap k.encoding.legal (p.codec f).encoding.legal (map_mean m es)
      → LegalMap k.encoding.legal (p.codec h).encoding.legal (map_mean m es)
  map_legal_same f h m es w legal =
      let P = k.encoding.legal in
      let F = (p.codec f).encoding.legal in
      let H = (p.codec h).encoding.legal in
      elim (is_sorted R es) as (λ b. is_sorted R es ≡ b → LegalMap P F (found (p.means m) es b)
      → LegalMap P H (found (p.means m) es b)) [
        | true ↦ λ sorted l.
            let all = legal_entries (p.means m) F es sorted l in
            record {
              part = table_of k.canonical.means (p.means m) es;
              has = all_of_last_values P H (pairs (p.means m) es) (record {
                count = all.count;
                items = value_legal f h m es w all.items;
              });
              is = refl;
            }
        | false ↦ λ _ l. no_list_is_unordered _ _ (sym l.is)
      ] refl legal

  abbrev pub ordered_map_layer : Layer c g A (List (K × V))
  ordered_map_layer = record {
    codec = λ f. ordered_map_codec s are pair divides o k (p.codec f) R;
    All = entries.All;
    means = map_mean;
    deep = entries.deep;
    weaker = entries.weaker;
    less = entries.less;
    most = entries.most;
    means_is = λ f es.
        by_pairs (p.codec f).canonical.means (p.means f.canonical.means) es (pairs_are f es);
    means_same = map_means_same;
    text_same = map_text_same;
    tokens_same = map_tokens_same;
    sound_same = map_sound_same;
    legal_parts = map_legal_parts;
    legal_same = map_legal_same;
  }
