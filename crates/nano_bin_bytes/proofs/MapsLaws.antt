-- What is proved of Maps.
use Rattle.std.specs.Prelude.{◌≡◌, ℕ, ◌&&◌, ◌++◌, true, List, map, ◌<◌, Bool, false, cond}
use Rattle.std.specs.declared.cmp.Ordering.{Ordering}
use Rattle.std.proofs.Common.{sym, subst, ap}
use Rattle.std.specs.FinMap.Entries.{is_sorted}
use Rattle.std.proofs.lemmas.List.{length-map}
use Rattle.nano_value.specs.Meaning.{Meaning, pair_map, BothOfPair, usize_bound, AllOfList, paired}
use Rattle.nano_value.specs.Tables.{table_of, table_means, last_values, map_means, LegalMap}
use Rattle.nano_value.specs.Tables.{AllOfTable, ascending, IsOrderOf}
use Rattle.nano_meaning.proofs.TablesLaws.{all_of_last_values, table_means-injective}
use Rattle.nano_meaning.proofs.AscendingLaws.{ascending_same, table_of-ascending, all-ascending}
use Rattle.nano_bin_bytes.specs.Codec.{IsEncoding, Canonical, Codec}
use Rattle.nano_bin_bytes.proofs.CodecLaws.{image_encoding}
use Rattle.nano_bin_bytes.specs.Containers.{EncodesAll, EncodesPair, written_pair, written_map}
use Rattle.nano_bin_bytes.specs.Containers.{written_set, written_entries}
use Rattle.nano_bin_bytes.proofs.TuplesLaws.{pair_encoding, both_read_back}
use Rattle.nano_bin_bytes.proofs.ListsLaws.{list_encoding, same_list, counted_read_back}
use Rattle.nano_bin_bytes.proofs.ListsLaws.{list_read_back}
use Rattle.nano_value.specs.Sets.{marked, item_set, set_means, items_mean, AllOfSet, LegalSet}
use Rattle.nano_value.specs.Sets.{ascending_items}
use Rattle.nano_meaning.proofs.SetsLaws.{set_means-injective, all-marked, same_items}
use Rattle.nano_meaning.proofs.SetsLaws.{item_set-ascending, all_items}
use Rattle.nano_value.specs.Ordered.{ordered_means, unordered, ordered_map_means}
use Rattle.nano_meaning.proofs.OrderedSetsLaws.{ordered_means-sets, no_list_is_unordered}
use Rattle.nano_value.specs.Order.{MeaningOrder, by_meaning}
use Rattle.nano_meaning.proofs.OrderLaws.{by_meaning-orders}
use Rattle.nano_meaning.proofs.OrderedMapsLaws.{ordered_map_means-tables}

pub map_encoding : {P Q : Meaning → Type 0} {S R : List ℕ → Meaning → Type 0} → IsEncoding P S
    → IsEncoding Q R → IsEncoding (LegalMap P Q) (EncodesAll map_means (EncodesPair S R))
map_encoding {P} {Q} s t =
    let pairs = list_encoding (pair_encoding s t) in
    let all = image_encoding pairs map_means in
    record {
      is_legal = λ a m h. record {
        part = last_values h.part;
        has = all_of_last_values P Q h.part (pairs.is_legal a h.part h.has);
        is = h.is;
      };
      one_value = all.one_value;
      one_prefix = all.one_prefix;
    }

module _ {K V : Type 0} (R : K → K → Ordering) (v : Canonical K) (w : Canonical V)
    (order : IsOrderOf v.means R) where
  pair_written : (x y : K × V) → v.means x.0 ≡ v.means y.0 → w.means x.1 ≡ w.means y.1
      → written_pair v.written w.written x ≡ written_pair v.written w.written y
  pair_written x y k l i = v.same_written x.0 y.0 k i ++ w.same_written x.1 y.1 l i

  pub map_same : (es fs : List (K × V))
      → table_means (table_of v.means w.means es) ≡ table_means (table_of v.means w.means fs)
      → written_map R v.written w.written es ≡ written_map R v.written w.written fs
  map_same es fs e =
      let W = written_pair v.written w.written in
      let same = table_means-injective _ _ e in
      let entries = ascending_same R v.means order w.means W pair_written es fs same in
      same_list W W (ascending R es) (ascending R fs) entries

module _ {K V : Type 0} (R : K → K → Ordering) (k : Codec K) (v : Codec V)
    (order : IsOrderOf k.canonical.means R) where
  -- the canonical encoding of a legal map encodes its meaning
  pub map_reads_back :
      k.is_decodable && v.is_decodable ≡ true
      → (es : List (K × V))
      → LegalMap k.encoding.legal v.encoding.legal
      (table_means (table_of k.canonical.means v.canonical.means es))
      → EncodesAll map_means (EncodesPair k.encoding.encodes v.encoding.encodes)
      (written_map R k.canonical.written v.canonical.written es)
      (table_means (table_of k.canonical.means v.canonical.means es))
  map_reads_back is es h =
      let P = k.encoding.legal in
      let Q = v.encoding.legal in
      let legal = subst (AllOfTable P Q) (sym (table_means-injective _ _ h.is)) h.has in
      let all = all-ascending R k.canonical.means order v.canonical.means P Q es legal in
      let means = pair_map k.canonical.means v.canonical.means in
      let W = written_pair k.canonical.written v.canonical.written in
      let S = EncodesPair k.encoding.encodes v.encoding.encodes in
      record {
        part = map means (ascending R es);
        has = counted_read_back means (BothOfPair P Q) S W (both_read_back k v is)
            (ascending R es) all;
        is = ap table_means
            (sym (table_of-ascending R k.canonical.means order v.canonical.means es));
      }

-- ==== sets

pub set_encoding : {P : Meaning → Type 0} {S : List ℕ → Meaning → Type 0} → IsEncoding P S
    → IsEncoding (LegalSet P) (EncodesAll items_mean S)
set_encoding {P} {S} s =
    let items = list_encoding s in
    let all = image_encoding items items_mean in
    record { is_legal = legal; one_value = all.one_value; one_prefix = all.one_prefix }
  where
    legal : (a : List ℕ) (m : Meaning) → EncodesAll items_mean S a m → LegalSet P m
    legal a m h =
        let list = (list_encoding s).is_legal a h.part h.has in
        let long = sym (length-map h.part (λ x. (x, tt))) in
        let punctuation : AllOfList (BothOfPair P (λ _. Unit {0})) (marked h.part) = record {
          count = subst (λ n. n < usize_bound) long list.count;
          items = all-marked P h.part list.items;
        } in
        record {
          part = last_values (marked h.part);
          has = all_of_last_values P (λ _. Unit {0}) (marked h.part) punctuation;
          is = h.is;
        }

module _ {K : Type 0} (R : K → K → Ordering) (w : Canonical K) (order : IsOrderOf w.means R) where
  pub set_same : (xs ys : List K)
      → set_means (item_set w.means xs) ≡ set_means (item_set w.means ys)
      → written_set R w.written xs ≡ written_set R w.written ys
  set_same xs ys e =
      let same = set_means-injective _ _ e in
      let items = same_items R w.means order w.written w.same_written xs ys same in
      same_list w.written w.written (ascending_items R xs) (ascending_items R ys) items

  -- the same of sets that hold their items in an order C
  pub ordered_same : (C : K → K → Ordering) (xs ys : List K)
      → ordered_means C w.means xs ≡ ordered_means C w.means ys
      → written_set R w.written xs ≡ written_set R w.written ys
  ordered_same C xs ys e = set_same xs ys (ap set_means (ordered_means-sets C w.means xs ys e))

module _ {K : Type 0} (R : K → K → Ordering) (f : Codec K) (order : IsOrderOf f.canonical.means R)
    (is : f.is_decodable ≡ true) where
  -- the canonical encoding of a legal set encodes its meaning
  pub set_reads_back :
      (ks : List K)
      → LegalSet f.encoding.legal (set_means (item_set f.canonical.means ks))
      → EncodesAll items_mean f.encoding.encodes (written_set R f.canonical.written ks)
      (set_means (item_set f.canonical.means ks))
  set_reads_back ks h =
      let legal = subst (AllOfSet f.encoding.legal) (sym (set_means-injective _ _ h.is)) h.has in
      let all = all_items R f.canonical.means order f.encoding.legal ks legal in
      record {
        part = map f.canonical.means (ascending_items R ks);
        has = list_read_back f is (ascending_items R ks) all;
        is = ap set_means (sym (item_set-ascending R f.canonical.means order ks));
      }

  -- the same of a set that holds its items in an order C
  pub ordered_reads_back :
      (C : K → K → Ordering) (ks : List K)
      → LegalSet f.encoding.legal (ordered_means C f.canonical.means ks)
      → EncodesAll items_mean f.encoding.encodes (written_set R f.canonical.written ks)
      (ordered_means C f.canonical.means ks)
  ordered_reads_back C ks =
      let means = f.canonical.means in
      let W = f.canonical.written in
      let S = f.encoding.encodes in
      let M = λ (b : Bool). cond b (set_means (item_set means ks)) (unordered (map means ks)) in
      elim (is_sorted C (marked ks)) as
      (λ b. LegalSet f.encoding.legal (M b) → EncodesAll items_mean S (written_set R W ks) (M b)) [
        | true ↦ λ h. set_reads_back ks h
        | false ↦ λ h. no_list_is_unordered _ (map means ks) (sym h.is)
      ]

-- ==== maps that hold their entries in order

module _ {K V : Type 0} (o : MeaningOrder) (C : K → K → Ordering) where
  pub ordered_map_same : (v : Canonical K) (w : Canonical V) (es fs : List (K × V))
      → ordered_map_means C v.means w.means es ≡ ordered_map_means C v.means w.means fs
      → written_entries o v w es ≡ written_entries o v w fs
  ordered_map_same v w es fs e =
      map_same (by_meaning v.means o) v w (by_meaning-orders v.means o) es fs
      (ap table_means (ordered_map_means-tables C v.means w.means es fs e))

  pub ordered_map_reads_back :
      (k : Codec K) (v : Codec V)
      → k.is_decodable && v.is_decodable ≡ true
      → (es : List (K × V))
      → LegalMap k.encoding.legal v.encoding.legal
      (ordered_map_means C k.canonical.means v.canonical.means es)
      → EncodesAll map_means (EncodesPair k.encoding.encodes v.encoding.encodes)
      (written_entries o k.canonical v.canonical es)
      (ordered_map_means C k.canonical.means v.canonical.means es)
  ordered_map_reads_back k v is es =
      let f = k.canonical.means in
      let g = v.canonical.means in
      let P = LegalMap k.encoding.legal v.encoding.legal in
      let S = EncodesAll map_means (EncodesPair k.encoding.encodes v.encoding.encodes) in
      let pairs = map paired (map (pair_map f g) es) in
      let M = λ (b : Bool). cond b (table_means (table_of f g es)) (unordered pairs) in
      let written = written_entries o k.canonical v.canonical es in
      elim (is_sorted C es) as (λ b. P (M b) → S written (M b)) [
        | true ↦ map_reads_back (by_meaning f o) k v (by_meaning-orders f o) is es
        | false ↦ λ h. no_list_is_unordered _ pairs (sym h.is)
      ]
