-- What is proved of OrderedMaps.
use Rattle.std.specs.Prelude.{ℕ, Bool, true, false, cond, List, map}
use Rattle.std.specs.declared.cmp.Ordering.{Ordering}
use Rattle.std.specs.FinMap.Entries.{is_sorted}
use Rattle.std.proofs.Common.{◌≡◌, sym, ap}
use Rattle.nano_value.specs.Meaning.{Meaning, paired, pair_map}
use Rattle.nano_value.specs.Order.{MeaningOrder}
use Rattle.nano_value.specs.Ordered.{ordered_map_means, unordered}
use Rattle.nano_meaning.proofs.OrderedMapsLaws.{ordered_map_means-tables}
use Rattle.nano_meaning.proofs.OrderedSetsLaws.{no_list_is_unordered}
use Rattle.nano_value.specs.Tables.{LegalMap, table_of, table_means}
use Rattle.nano_grammar.specs.Tokens.{Cutting, IsValueText}
use Rattle.nano_grammar.specs.Codec.{Codec, Grammar, AreBrackets, Canonical, ListStyle, PairStyle}
use Rattle.nano_grammar.specs.Maps.{EncodesMap, map_text, map_tokens, means, tokens, text, Sound}
use Rattle.nano_grammar.proofs.MapsLaws.{map_of, map_same, map_is_written, map_reads_back}
use Rattle.nano_grammar.proofs.MapsLaws.{map_is_sound}

module _ {T : Type 0} {c : Cutting T} (s : ListStyle c) (p : PairStyle c) {K V : Type 0}
    (o : MeaningOrder) (v : Canonical c K) (w : Canonical c V) (R : K → K → Ordering) where
  pub ordered_map_same : (es fs : List (K × V))
      → ordered_map_means R v.means w.means es ≡ ordered_map_means R v.means w.means fs → (d : ℕ)
      → map_text s p o v w d es ≡ map_text s p o v w d fs
  ordered_map_same es fs e =
      map_same s p o v w es fs
      (ap table_means (ordered_map_means-tables R v.means w.means es fs e))

  -- of maps that hold their entries in the order R of the keys
  abbrev pub ordered_map_canonical : Canonical c (List (K × V))
  ordered_map_canonical = record {
    means = ordered_map_means R v.means w.means;
    text = map_text s p o v w;
    tokens = map_tokens s p o v w;
    same_text = ordered_map_same;
  }

module _ {T : Type 0} {c : Cutting T} {g : Grammar T} (s : ListStyle c)
    (are : AreBrackets g s.tokens) (p : PairStyle c) (divides : g.may_begin p.token → ⊥)
    {K V : Type 0} (o : MeaningOrder) (k : Codec c g K) (v : Codec c g V)
    (R : K → K → Ordering) where
  -- what entries mean that were found to stand in the order R, or not
  abbrev found : List (K × V) → Bool → Meaning
  found es b =
      cond b (table_means (table_of k.canonical.means v.canonical.means es))
      (unordered (map paired (map (pair_map k.canonical.means v.canonical.means) es)))

  abbrev Legal : Meaning → Type 0
  Legal = LegalMap k.encoding.legal v.encoding.legal

  abbrev Encoded : List T → Meaning → Type 0
  Encoded = EncodesMap s.tokens p.token k.encoding.encodes v.encoding.encodes

  -- entries that are not in order are legal for nothing, and encoded by nothing
  none_legal : {X : Type 0} (es : List (K × V)) → Legal (found es false) → X
  none_legal es h = no_list_is_unordered _ _ (sym h.is)

  none_encoded : {X : Type 0} (es : List (K × V)) (ts : List T) → Encoded ts (found es false) → X
  none_encoded es ts h = no_list_is_unordered _ _ (sym h.is)

  pub ordered_map_is_written : (es : List (K × V)) → Legal (means s are p divides o k v R es)
      → (d : ℕ)
      → IsValueText c (tokens s are p divides o k v R es) (text s are p divides o k v R d es)
  ordered_map_is_written es legal d =
      elim (is_sorted R es) as
      (λ b. Legal (found es b)
      → IsValueText c (tokens s are p divides o k v R es)
      (text s are p divides o k v R d es)) [
        | true ↦ λ h. map_is_written s are p divides o k v es h d
        | false ↦ none_legal es
      ] legal

  pub ordered_map_reads_back : (es : List (K × V)) → Legal (means s are p divides o k v R es)
      → Sound s are p divides o k v R es
      → Encoded (tokens s are p divides o k v R es) (means s are p divides o k v R es)
  ordered_map_reads_back es legal sound =
      elim (is_sorted R es) as
      (λ b. Legal (found es b) → Encoded (tokens s are p divides o k v R es) (found es b)) [
        | true ↦ λ h. map_reads_back s are p divides o k v es h sound
        | false ↦ none_legal es
      ] legal

  pub ordered_map_is_sound : (es : List (K × V)) (ts : List T)
      → Encoded ts (means s are p divides o k v R es) → Sound s are p divides o k v R es
  ordered_map_is_sound es ts =
      elim (is_sorted R es) as (λ b. Encoded ts (found es b) → Sound s are p divides o k v R es) [
        | true ↦ map_is_sound s are p divides o k v es ts
        | false ↦ none_encoded es ts
      ]

  -- of maps that hold their entries in the order R of the keys
  abbrev pub ordered_map_codec : Codec c g (List (K × V))
  ordered_map_codec = record {
    canonical = ordered_map_canonical s p o k.canonical v.canonical R;
    encoding = map_of s.tokens are p.token k.encoding v.encoding;
    is_written = ordered_map_is_written;
    sound = (Sound s are p divides o k v R);
    reads_back = ordered_map_reads_back;
    encoded_is_sound = ordered_map_is_sound;
    null_alone = λ es ts e h. absurd (are.some e);
  }
