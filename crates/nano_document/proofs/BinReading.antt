-- What the readers of documents from bytes come to, by the tag that was read.
use Rattle.std.proofs.Common.{◌≡◌, ◌≢◌, ◌<◌, ℕ, zero, suc, ◌-◌, List, ◌++◌, refl, sym, ◌∙◌, subst, drop, Global, String, string_bytes, inl, inr, arith, ap, append_assoc}
use Rattle.nano_value.specs.Meaning.{Meaning, whole, listed, text}
use Rattle.nano_value.specs.Sums.{tagged}
use Rattle.nano_bin_bytes.specs.Codec.{Codec, Encoding}
use Rattle.nano_bin_bytes.specs.Scalars.{EncodesNumber, EncodesUnsigned}
use Rattle.nano_bin_bytes.specs.declared.error.DeBinErr.{DeBinErr}
use Rattle.nano_bin_bytes.specs.declared.error.DeBinKind.TheVariants.{Memory, Own}
use Rattle.nano_bin_bytes.specs.Reading.{Decodes, DecodesToNothing, ReadsNone, rejection}
use Rattle.nano_bin_bytes.proofs.ErrorsLaws.{passed_here, memory_reads_none}
use Rattle.nano_bin_bytes.specs.Containers.{EncodesCount, EncodesList, EncodesString}
use Rattle.nano_bin_bytes.specs.Variants.{Variant, EncodesVariant, EncodesEnum, encoding_at, variant_means}
use Rattle.nano_bin_bytes.proofs.CodecLaws.{same_prefixes}
use Rattle.nano_meaning.proofs.MeaningLaws.{text_injective}
use Rattle.nano_bin.specs.ContainerCodecs.{list_of}
use Rattle.nano_bin.specs.ScalarCodecs.{texts}
use Rattle.nano_bin.proofs.Readers.{then_reads, as_reads, unsigned_reads, unsigned_rejected, list_reads, list_rejected, list_items_rejected, image_reads, image_rejected, count_rejected}
use Rattle.nano_bin.proofs.Variants.{content_rejected, tag_rejected, unknown_rejected, unknown_reports}
use Rattle.nano_bin_levels.specs.Layers.{IsWithin}
use Rattle.nano_bin_levels.specs.Places.{EncodesPlace, codecs_at}
use Rattle.nano_bin_levels.proofs.ListsLaws.{items_within}
use Rattle.nano_bin_levels.proofs.LevelsLaws.{level_holds, level_within, rolled, unrolled}
use Rattle.nano_document.specs.BinCodecs.{variants, place_of, layers, bin_nested, bin_level, bin_codec, bin_entry, EncodesDocument, RejectsFrom}
use Rattle.nano_document.specs.Documents.{json_means}
use Rattle.nano_document.specs.Decimals.{IsDecimal}
use Rattle.nano_document.specs.BinScalars.{EncodesDecimal}
use Rattle.nano_document.specs.declared.json.Json as J
use Rattle.nano_document.proofs.Deciding.{decimal_tests}
use Rattle.nano_document.proofs.Documents.{means_decimal}
use Rattle.nano_document.specs.declared.json.Json.{Json}

-- ---- a variant and the content at its place

module _ (f : Codec Json) where
  -- the tag and the content of a variant are what a document is encoded by
  pub of_variant : (tag : ℕ) (head tail : List ℕ) (m : Meaning) → EncodesNumber 2 head tag
      → (encoding_at (variants f) tag).encodes tail m → EncodesPlace (codecs_at layers f) (head ++ tail) (tagged (place_of tag) m)
  of_variant zero a b m h e = record { place = 0; content = m; encodes = record { head = a; tail = b; whole = refl; tagged = h; content = e }; is = refl }
  of_variant (suc zero) a b m h e = record { place = 1; content = m; encodes = record { head = a; tail = b; whole = refl; tagged = h; content = e }; is = refl }
  of_variant (suc (suc zero)) a b m h e = record { place = 2; content = m; encodes = inl (record { head = a; tail = b; whole = refl; tagged = h; content = e }); is = refl }
  of_variant (suc (suc (suc zero))) a b m h e = record { place = 2; content = m; encodes = inr (record { head = a; tail = b; whole = refl; tagged = h; content = e }); is = refl }
  of_variant (suc (suc (suc (suc zero)))) a b m h e = record { place = 6; content = m; encodes = record { head = a; tail = b; whole = refl; tagged = h; content = e }; is = refl }
  of_variant (suc (suc (suc (suc (suc zero))))) a b m h e = record { place = 3; content = m; encodes = record { head = a; tail = b; whole = refl; tagged = h; content = e }; is = refl }
  of_variant (suc (suc (suc (suc (suc (suc zero)))))) a b m h e = record { place = 4; content = m; encodes = record { head = a; tail = b; whole = refl; tagged = h; content = e }; is = refl }
  of_variant (suc (suc (suc (suc (suc (suc (suc zero))))))) a b m h e = record { place = 5; content = m; encodes = record { head = a; tail = b; whole = refl; tagged = h; content = e }; is = refl }
  of_variant (suc (suc (suc (suc (suc (suc (suc (suc tag)))))))) a b m h e = absurd e

  abbrev Found : List ℕ → Meaning → Type 0
  Found bytes m = (v : Variant) × EncodesVariant (variants f) bytes v × (m ≡ tagged (place_of v.tag) v.content)

  -- and a document is encoded by nothing else
  to_variant : (place : ℕ) (bytes : List ℕ) (m : Meaning) → (codecs_at layers f place).encoding.encodes bytes m → Found bytes (tagged place m)
  to_variant zero bytes m h = (record { tag = 0; content = m }, record { head = h.head; tail = h.tail; whole = h.whole; tagged = h.tagged; content = h.content }, refl)
  to_variant (suc zero) bytes m h = (record { tag = 1; content = m }, record { head = h.head; tail = h.tail; whole = h.whole; tagged = h.tagged; content = h.content }, refl)
  to_variant (suc (suc zero)) bytes m (inl h) = (record { tag = 2; content = m }, record { head = h.head; tail = h.tail; whole = h.whole; tagged = h.tagged; content = h.content }, refl)
  to_variant (suc (suc zero)) bytes m (inr h) = (record { tag = 3; content = m }, record { head = h.head; tail = h.tail; whole = h.whole; tagged = h.tagged; content = h.content }, refl)
  to_variant (suc (suc (suc zero))) bytes m h = (record { tag = 5; content = m }, record { head = h.head; tail = h.tail; whole = h.whole; tagged = h.tagged; content = h.content }, refl)
  to_variant (suc (suc (suc (suc zero)))) bytes m h = (record { tag = 6; content = m }, record { head = h.head; tail = h.tail; whole = h.whole; tagged = h.tagged; content = h.content }, refl)
  to_variant (suc (suc (suc (suc (suc zero))))) bytes m h = (record { tag = 7; content = m }, record { head = h.head; tail = h.tail; whole = h.whole; tagged = h.tagged; content = h.content }, refl)
  to_variant (suc (suc (suc (suc (suc (suc zero)))))) bytes m h = (record { tag = 4; content = m }, record { head = h.head; tail = h.tail; whole = h.whole; tagged = h.tagged; content = h.content }, refl)
  to_variant (suc (suc (suc (suc (suc (suc (suc place))))))) bytes m h = absurd h

pub encodes_document : (bytes : List ℕ) (m : Meaning) → bin_codec.encoding.encodes bytes m → EncodesDocument bytes m
encodes_document bytes m h =
    let u = unrolled bin_nested bytes m h in
    let found = to_variant bin_codec u.place bytes u.content u.encodes in
    record { variant = found.0; encodes = found.1; is = u.is ∙ found.2 }

-- and encodes a document
pub document_encodes : (bytes : List ℕ) (m : Meaning) → EncodesDocument bytes m → bin_codec.encoding.encodes bytes m
document_encodes bytes m d =
    let v = d.variant in
    let e = d.encodes in
    let means = tagged (place_of v.tag) v.content in
    let of = of_variant bin_codec v.tag e.head e.tail v.content e.tagged e.content in
    let there = rolled bin_nested (e.head ++ e.tail) means of in
    subst (bin_codec.encoding.encodes bytes) (sym d.is) (subst (λ l. bin_codec.encoding.encodes l means) (sym e.whole) there)

-- ---- what was read

pub one_below : (levels : ℕ) → (levels ≡ 0 → ⊥) → levels ≡ suc (levels - 1)
one_below levels h = omega (arith, h)

-- a tag and the content of its variant were read, around so many levels
pub document_reads : (levels n : ℕ) → levels ≡ suc n → (bytes : List ℕ) (start mid end tag : ℕ) (m : Meaning) (x : Json)
    → json_means x ≡ tagged (place_of tag) m → Decodes (EncodesUnsigned 2) bytes start (whole tag) mid
    → Decodes (encoding_at (variants (bin_level n)) tag).encodes bytes mid m end
    → Decodes (bin_level levels).encoding.encodes bytes start (json_means x) end
document_reads levels n is bytes start mid end tag m x e r j =
    let Q = (bin_level levels).encoding.encodes in
    then_reads Q bytes start mid end tag m (json_means x) (unsigned_reads 2 bytes start mid tag r) j
    (λ a b h k.
    let of = subst (EncodesPlace (codecs_at layers (bin_level n)) (a ++ b)) (sym e) (of_variant (bin_level n) tag a b m h k) in
    let there = level_holds bin_nested n (a ++ b) (json_means x) of in
    subst (λ l. (bin_level l).encoding.encodes (a ++ b) (json_means x)) (sym is) there)

-- ---- what was not

-- where no variant stands, no document does
rejected : (bytes : List ℕ) → DecodesToNothing (EncodesEnum (variants bin_codec)) bytes → DecodesToNothing bin_codec.encoding.encodes bytes
rejected bytes none m f =
    let found = encodes_document f.prefix m f.is_encoded in
    none (variant_means found.variant) (record {
      prefix = f.prefix;
      rest = f.rest;
      whole = f.whole;
      is_encoded = record { part = found.variant; has = found.encodes; is = refl };
    })

pub no_tag : (bytes : List ℕ) (start end : ℕ) (error : DeBinErr) → ReadsNone (EncodesUnsigned 2) bytes start end error
    → RejectsFrom bin_codec.encoding.encodes bytes start error
no_tag bytes start end error none =
    passed_here bin_codec.encoding.encodes (tag_rejected (variants bin_codec) bytes start end error none) rejected

pub no_content : (bytes : List ℕ) (start mid end tag : ℕ) (error : DeBinErr) → Decodes (EncodesUnsigned 2) bytes start (whole tag) mid
    → ReadsNone (encoding_at (variants bin_codec) tag).encodes bytes mid end error
    → RejectsFrom bin_codec.encoding.encodes bytes start error
no_content bytes start mid end tag error r none =
    passed_here bin_codec.encoding.encodes (content_rejected (variants bin_codec) bytes start mid end tag error r none) rejected

-- a tag that no variant has is reported
pub unknown_tag : (bytes : List ℕ) (start mid tag : ℕ) (error : DeBinErr) → Decodes (EncodesUnsigned 2) bytes start (whole tag) mid
    → ((a : List ℕ) (m : Meaning) → (encoding_at (variants bin_codec) tag).encodes a m → ⊥)
    → error ≡ rejection Own start 0 bytes → RejectsFrom bin_codec.encoding.encodes bytes start error
unknown_tag bytes start mid tag error r none is =
    passed_here bin_codec.encoding.encodes (unknown_rejected (variants bin_codec) bytes start mid tag error r none is) rejected

-- a tag that no variant has
pub no_variant : (tag : ℕ) → tag ≢ 0 → tag ≢ 1 → tag ≢ 2 → tag ≢ 3 → tag ≢ 4 → tag ≢ 5 → tag ≢ 6 → tag ≢ 7
    → (bytes : List ℕ) (m : Meaning) → (encoding_at (variants bin_codec) tag).encodes bytes m → ⊥
no_variant zero a b c d e f g h bytes m k = a refl
no_variant (suc zero) a b c d e f g h bytes m k = b refl
no_variant (suc (suc zero)) a b c d e f g h bytes m k = c refl
no_variant (suc (suc (suc zero))) a b c d e f g h bytes m k = d refl
no_variant (suc (suc (suc (suc zero)))) a b c d e f g h bytes m k = e refl
no_variant (suc (suc (suc (suc (suc zero))))) a b c d e f g h bytes m k = f refl
no_variant (suc (suc (suc (suc (suc (suc zero)))))) a b c d e f g h bytes m k = g refl
no_variant (suc (suc (suc (suc (suc (suc (suc zero))))))) a b c d e f g h bytes m k = h refl
no_variant (suc (suc (suc (suc (suc (suc (suc (suc tag)))))))) a b c d e f g h bytes m k = k

-- ---- lists: read at a level, and rejected at all

module _ (s t : Encoding) (w : IsWithin s t) (bytes : List ℕ) (start : ℕ) where
  -- so many items were read, and then none
  pub item_rejected : (mid end count more : ℕ) (xs : List Meaning) (error : DeBinErr) → Decodes (EncodesUnsigned 8) bytes start (whole count) mid
      → Decodes (EncodesCount more s.encodes) bytes mid xs end → more < count → RejectsFrom t.encodes bytes end error
      → RejectsFrom (list_of t).encodes bytes start error
  item_rejected mid end count more xs error counted read less none =
      let there = as_reads (EncodesCount more t.encodes) bytes mid end xs xs read
      (λ a h. record { count_is = h.count_is; items = items_within s t w xs a h.items }) in
      image_rejected (EncodesList t.encodes) listed
      (list_items_rejected t.encodes (unsigned_reads 8 bytes start mid count counted)
      (count_rejected t.encodes t.laws there less none))

  -- no memory for one more item
  pub no_memory_for_items : (mid end last count more : ℕ) (xs : List Meaning) (x : Meaning) (error : DeBinErr)
      → Decodes (EncodesUnsigned 8) bytes start (whole count) mid → Decodes (EncodesCount more s.encodes) bytes mid xs end
      → Decodes s.encodes bytes end x last → error ≡ rejection Memory last 0 bytes
      → RejectsFrom (list_of t).encodes bytes start error
  no_memory_for_items mid end last count more xs x error counted read item is =
      let one = counted.moved in
      let two = read.moved in
      let three = item.moved in
      memory_reads_none (list_of t).encodes bytes start last error (omega (arith, one, two, three)) is

module _ (s : Encoding) (bytes : List ℕ) (start : ℕ) where
  pub no_count : (end : ℕ) (error : DeBinErr) → ReadsNone (EncodesUnsigned 8) bytes start end error → RejectsFrom (list_of s).encodes bytes start error
  no_count end error none = image_rejected (EncodesList s.encodes) listed (list_rejected s.encodes (unsigned_rejected 8 none))

  pub items_read : (mid end count : ℕ) (xs : List Meaning) → Decodes (EncodesUnsigned 8) bytes start (whole count) mid
      → Decodes (EncodesCount count s.encodes) bytes mid xs end → Decodes (list_of s).encodes bytes start (listed xs) end
  items_read mid end count xs counted read =
      image_reads listed bytes start end xs (list_reads s.encodes bytes start mid end count xs (unsigned_reads 8 bytes start mid count counted) read)

-- ---- entries

pub entry_within : (n : ℕ) → IsWithin (bin_entry (bin_level n)) (bin_entry bin_codec)
entry_within n bytes m e = record {
  part = e.part;
  has = record {
    head = e.has.head;
    tail = e.has.tail;
    whole = e.has.whole;
    first = e.has.first;
    second = level_within bin_nested n e.has.tail e.part.1 e.has.second;
  };
  is = e.is;
}

-- ---- decimals

-- a text with a decimal is encoded as the text is
as_string : (bytes : List ℕ) (m : Meaning) → EncodesDecimal bytes m → EncodesString bytes m
as_string bytes m h = record { part = h.part; has = h.has.encodes; is = h.is }

-- where no text stands, no decimal does
pub no_text : (bytes : List ℕ) → DecodesToNothing EncodesString bytes → DecodesToNothing EncodesDecimal bytes
no_text bytes none m f =
    none m (record { prefix = f.prefix; rest = f.rest; whole = f.whole; is_encoded = as_string f.prefix m f.is_encoded })

-- where another text stands, no decimal does
pub no_decimal : (bytes : List ℕ) (start end : ℕ) (utf8 : List ℕ) (error : DeBinErr) → Decodes EncodesString bytes start (text utf8) end
    → (IsDecimal utf8 → ⊥) → error ≡ rejection Own start 0 bytes → RejectsFrom EncodesDecimal bytes start error
no_decimal bytes start end utf8 error r other is = record {
  rejects = λ more kind fits. never more;
  report = unknown_reports bytes start error is;
  unchanged = refl;
}
  where
    never : (more : List ℕ) → DecodesToNothing EncodesDecimal (drop start bytes ++ more)
    never more m f =
        let string = as_string f.prefix m f.is_encoded in
        let left = ap (λ l. l ++ more) r.whole ∙ append_assoc r.prefix (drop end bytes) more in
        let e = same_prefixes texts.laws f.prefix r.prefix f.rest (drop end bytes ++ more) m (text utf8) string r.is_encoded (sym f.whole ∙ left) in
        let there = subst (λ l. EncodesString l m) e.0 string in
        let same = texts.laws.one_value r.prefix m (text utf8) there r.is_encoded in
        let part = text_injective f.is_encoded.part utf8 (sym f.is_encoded.is ∙ same) in
        other (subst IsDecimal part f.is_encoded.has.is_decimal)

-- where one stands, it is one
pub decimal_reads : (bytes : List ℕ) (start end : ℕ) (utf8 : List ℕ) → Decodes EncodesString bytes start (text utf8) end
    → IsDecimal utf8 → Decodes EncodesDecimal bytes start (text utf8) end
decimal_reads bytes start end utf8 r is =
    as_reads EncodesDecimal bytes start end (text utf8) (text utf8) r (λ a h. record {
      part = h.part;
      has = record { encodes = h.has; is_decimal = subst IsDecimal (text_injective utf8 h.part h.is) is };
      is = h.is;
    })

pub decimal_means : (bytes : List ℕ) (start end : ℕ) (s : String Global) → Decodes EncodesDecimal bytes start (text (string_bytes s)) end
    → json_means (J.Decimal s) ≡ tagged 6 (text (string_bytes s))
decimal_means bytes start end s r =
    let of = r.is_encoded in
    let is = subst IsDecimal (sym (text_injective (string_bytes s) of.part of.is)) of.has.is_decimal in
    means_decimal s (decimal_tests (string_bytes s) is)
