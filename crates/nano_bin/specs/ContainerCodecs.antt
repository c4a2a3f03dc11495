-- Codecs of containers: lists, arrays, sets, maps, tuples and options. They carry their laws.
use Rattle.std.specs.Prelude.{ℕ, false, List, map, ◌&&◌, Option, ◌≤◌}
use Rattle.std.specs.List.{flat_map}
use Rattle.std.specs.declared.cmp.Ordering.{Ordering}
use Rattle.std.specs.Option.{option_map}
use Rattle.nano_value.specs.Meaning.{listed, IsImage, LegalList, AllOfList, AllOfCount, paired}
use Rattle.nano_value.specs.Meaning.{pair_map, BothOfPair, optional, AllOfOption}
use Rattle.nano_bin_bytes.specs.Codec.{Encoding, Canonical, Codec}
use Rattle.nano_bin_bytes.specs.BaseCodecs.{no_encoding}
use Rattle.nano_bin_bytes.specs.Containers.{EncodesAll, EncodesCount, EncodesPair, written_list}
use Rattle.nano_bin_bytes.specs.Containers.{written_set, written_entries, EncodesOption}
use Rattle.nano_bin_bytes.specs.Containers.{written_pair, written_option}
use Rattle.nano_bin_bytes.proofs.CodecLaws.{image_encoding}
use Rattle.nano_bin_bytes.proofs.ListsLaws.{list_encoding, list_same, list_reads_back}
use Rattle.nano_bin_bytes.proofs.ListsLaws.{count_encoding, same_items, array_reads_back}
use Rattle.nano_bin_bytes.proofs.ListsLaws.{unread_items}
use Rattle.nano_value.specs.Order.{MeaningOrder, by_meaning}
use Rattle.nano_meaning.proofs.OrderLaws.{by_meaning-orders}
use Rattle.nano_value.specs.Sets.{item_set, items_mean, set_means, LegalSet}
use Rattle.nano_value.specs.Ordered.{ordered_means, ordered_map_means}
use Rattle.nano_bin_bytes.proofs.MapsLaws.{set_encoding, set_same, set_reads_back, ordered_same}
use Rattle.nano_bin_bytes.proofs.MapsLaws.{ordered_reads_back, map_encoding, map_same}
use Rattle.nano_bin_bytes.proofs.MapsLaws.{map_reads_back, ordered_map_same, ordered_map_reads_back}
use Rattle.nano_value.specs.Tables.{table_of, table_means, map_means, LegalMap}
use Rattle.nano_bin_bytes.proofs.TuplesLaws.{pair_encoding, pair_same, pair_reads_back}
use Rattle.nano_bin_bytes.proofs.OptionsLaws.{option_encoding, option_same, option_reads_back}
use Rattle.nano_value.specs.Sums.{LegalVariant, count_variants}
use Rattle.nano_bin_bytes.specs.Variants.{Variants, legal_bodies, EncodesEnum, Tagged, tagged_means}
use Rattle.nano_bin_bytes.specs.Variants.{written_tagged, are_read}
use Rattle.nano_bin_bytes.proofs.VariantsLaws.{variant_encoding, tagged_same, tagged_reads_back}

abbrev pub list_of : Encoding → Encoding
list_of s = record {
  legal = IsImage listed (AllOfList s.legal);
  encodes = EncodesAll listed s.encodes;
  laws = image_encoding (list_encoding s.laws) listed;
}

abbrev pub list_canonical : {A : Type 0} → Canonical A → Canonical (List A)
list_canonical w = record {
  means = λ xs. listed (map w.means xs);
  written = written_list w.written;
  same_written = list_same w;
}

abbrev pub list_codec : {A : Type 0} → Codec A → Codec (List A)
list_codec f = record {
  canonical = list_canonical f.canonical;
  encoding = list_of f.encoding;
  is_decodable = f.is_decodable;
  reads_back = list_reads_back f;
}

-- ---- the items, and no count

-- so many items
abbrev pub array_of : ℕ → Encoding → Encoding
array_of count s = record {
  legal = IsImage listed (AllOfCount count s.legal);
  encodes = λ bytes. IsImage listed (EncodesCount count s.encodes bytes);
  laws = image_encoding (count_encoding s.laws count) listed;
}

abbrev pub items_canonical : {A : Type 0} → Canonical A → Canonical (List A)
items_canonical w = record {
  means = λ xs. listed (map w.means xs);
  written = flat_map w.written;
  same_written = same_items w;
}

abbrev pub array_codec : {A : Type 0} → Codec A → ℕ → Codec (List A)
array_codec f count = record {
  canonical = items_canonical f.canonical;
  encoding = array_of count f.encoding;
  is_decodable = f.is_decodable;
  reads_back = λ is. array_reads_back f is count;
}

-- a slice is only written
abbrev pub slice_codec : {A : Type 0} → Codec A → Codec (List A)
slice_codec f = record {
  canonical = items_canonical f.canonical;
  encoding = no_encoding (LegalList f.encoding.legal);
  is_decodable = false;
  reads_back = λ e xs. unread_items f xs e;
}

-- ==== sets

abbrev pub set_of : Encoding → Encoding
set_of s =
    record {
      legal = LegalSet s.legal;
      encodes = EncodesAll items_mean s.encodes;
      laws = set_encoding s.laws;
    }

module _ {K : Type 0} (o : MeaningOrder) where
  abbrev pub set_canonical : Canonical K → Canonical (List K)
  set_canonical w = record {
    means = λ ks. set_means (item_set w.means ks);
    written = written_set (by_meaning w.means o) w.written;
    same_written = set_same (by_meaning w.means o) w (by_meaning-orders w.means o);
  }

  abbrev pub set_codec : Codec K → Codec (List K)
  set_codec f = record {
    canonical = set_canonical f.canonical;
    encoding = set_of f.encoding;
    is_decodable = f.is_decodable;
    reads_back =
        set_reads_back (by_meaning f.canonical.means o) f (by_meaning-orders f.canonical.means o);
  }

  -- of sets that hold their items in an order C
  abbrev pub ordered_canonical : (K → K → Ordering) → Canonical K → Canonical (List K)
  ordered_canonical C w = record {
    means = ordered_means C w.means;
    written = written_set (by_meaning w.means o) w.written;
    same_written = ordered_same (by_meaning w.means o) w (by_meaning-orders w.means o) C;
  }

  abbrev pub ordered_codec : (K → K → Ordering) → Codec K → Codec (List K)
  ordered_codec C f = record {
    canonical = ordered_canonical C f.canonical;
    encoding = set_of f.encoding;
    is_decodable = f.is_decodable;
    reads_back = λ is.
        let R = by_meaning f.canonical.means o in
        ordered_reads_back R f (by_meaning-orders f.canonical.means o) is C;
  }

-- ==== maps

abbrev pub map_of : Encoding → Encoding → Encoding
map_of s t = record {
  legal = LegalMap s.legal t.legal;
  encodes = EncodesAll map_means (EncodesPair s.encodes t.encodes);
  laws = map_encoding s.laws t.laws;
}

module _ {K V : Type 0} (o : MeaningOrder) where
  abbrev pub map_canonical : Canonical K → Canonical V → Canonical (List (K × V))
  map_canonical v w = record {
    means = λ es. table_means (table_of v.means w.means es);
    written = written_entries o v w;
    same_written = map_same (by_meaning v.means o) v w (by_meaning-orders v.means o);
  }

  abbrev pub map_codec : Codec K → Codec V → Codec (List (K × V))
  map_codec k v = record {
    canonical = map_canonical k.canonical v.canonical;
    encoding = map_of k.encoding v.encoding;
    is_decodable = k.is_decodable && v.is_decodable;
    reads_back =
        map_reads_back (by_meaning k.canonical.means o) k v (by_meaning-orders k.canonical.means o);
  }

-- ==== maps that hold their entries in order

module _ {K V : Type 0} (o : MeaningOrder) (C : K → K → Ordering) where
  abbrev pub ordered_map_canonical : Canonical K → Canonical V → Canonical (List (K × V))
  ordered_map_canonical v w = record {
    means = ordered_map_means C v.means w.means;
    written = written_entries o v w;
    same_written = ordered_map_same o C v w;
  }

  abbrev pub ordered_map_codec : Codec K → Codec V → Codec (List (K × V))
  ordered_map_codec k v = record {
    canonical = ordered_map_canonical k.canonical v.canonical;
    encoding = map_of k.encoding v.encoding;
    is_decodable = k.is_decodable && v.is_decodable;
    reads_back = ordered_map_reads_back o C k v;
  }

-- ==== tuples

abbrev pub pair_of : Encoding → Encoding → Encoding
pair_of s t = record {
  legal = IsImage paired (BothOfPair s.legal t.legal);
  encodes = λ bytes. IsImage paired (EncodesPair s.encodes t.encodes bytes);
  laws = image_encoding (pair_encoding s.laws t.laws) paired;
}

abbrev pub pair_canonical : {A B : Type 0} → Canonical A → Canonical B → Canonical (A × B)
pair_canonical v w = record {
  means = λ x. paired (pair_map v.means w.means x);
  written = written_pair v.written w.written;
  same_written = pair_same v w;
}

abbrev pub pair_codec : {A B : Type 0} → Codec A → Codec B → Codec (A × B)
pair_codec f g = record {
  canonical = pair_canonical f.canonical g.canonical;
  encoding = pair_of f.encoding g.encoding;
  is_decodable = f.is_decodable && g.is_decodable;
  reads_back = pair_reads_back f g;
}

-- ==== options

abbrev pub option_of : Encoding → Encoding
option_of s = record {
  legal = IsImage optional (AllOfOption s.legal);
  encodes = λ bytes. IsImage optional (EncodesOption s.encodes bytes);
  laws = image_encoding (option_encoding s.laws) optional;
}

abbrev pub option_canonical : {A : Type 0} → Canonical A → Canonical (Option A)
option_canonical w = record {
  means = λ x. optional (option_map w.means x);
  written = written_option w.written;
  same_written = option_same w;
}

abbrev pub option_codec : {A : Type 0} → Codec A → Codec (Option A)
option_codec f = record {
  canonical = option_canonical f.canonical;
  encoding = option_of f.encoding;
  is_decodable = f.is_decodable;
  reads_back = option_reads_back f;
}

-- ==== variants of an enum

abbrev pub variants_of : Variants → Encoding
variants_of vs = record {
  legal = LegalVariant (legal_bodies vs);
  encodes = EncodesEnum vs;
  laws = variant_encoding vs;
}

abbrev pub tagged_canonical : (vs : Variants) → Canonical (Tagged vs)
tagged_canonical vs = record {
  means = tagged_means vs;
  written = written_tagged vs;
  same_written = tagged_same vs;
}

-- of at most 65,536 variants, which two bytes distinguish
abbrev pub tagged_codec :
    (vs : Variants) → count_variants (legal_bodies vs) ≤ 65536 → Codec (Tagged vs)
tagged_codec vs few = record {
  canonical = tagged_canonical vs;
  encoding = variants_of vs;
  is_decodable = are_read vs;
  reads_back = tagged_reads_back vs few;
}
