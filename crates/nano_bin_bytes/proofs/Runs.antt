-- Numbers of a fixed width, one or a given count in sequence, read as chunks of bytes.
use Rattle.std.proofs.Common.{◌≡◌, ℕ, zero, suc, ◌+◌, ◌*◌, ◌/◌, ◌<◌, ◌≤◌, refl, List, [], ◌∷◌, ◌++◌}
use Rattle.std.proofs.Common.{map, length, take, drop, sym, ◌∙◌, subst, ap, arith, length-append}
use Rattle.std.proofs.Common.{length-drop, slice_index, get_or-drop}
use Rattle.std.specs.List.{flat_map}
use Rattle.std.specs.Simd.{first_chunks}
use Rattle.std.proofs.Math.Nat.{le-div_iff_mul-le}
use Rattle.std.proofs.Math.Seq.{take-add}
use Rattle.std.proofs.lemmas.List.{drop-drop, take-append-drop, length-take-le, length-map}
use Rattle.nano_value.specs.Meaning.{Meaning, whole}
use Rattle.nano_bin_bytes.specs.Reading.{DecodesToNothing, Decodes}
use Rattle.nano_bin_bytes.specs.Scalars.{EncodesNumber, little_endian, AreBytes, HasWidth}
use Rattle.nano_bin_bytes.specs.Scalars.{EncodesUnsigned}
use Rattle.nano_bin_bytes.specs.NumberImpls.{length-little_endian}
use Rattle.nano_bin_bytes.proofs.ScalarsLaws.{little_byte}
use Rattle.nano_bin_bytes.specs.Containers.{IsChunk, EncodesItems, EncodesCount}

pub are_bytes : (bytes : List ℕ) → ((i : ℕ) → slice_index bytes i < 256) → AreBytes bytes
are_bytes [] h = tt
are_bytes (b ∷ bytes) h = (h 0, are_bytes bytes (λ i. h (suc i)))

-- those from an offset on are bytes too
pub rest_are_bytes :
    (start : ℕ) (bytes : List ℕ) → ((i : ℕ) → slice_index bytes i < 256) → AreBytes (drop start bytes)
rest_are_bytes start bytes small = are_bytes (drop start bytes) (λ i. rw (get_or-drop) (small (start + i)))

-- parts of bytes are bytes
both_are_bytes : (prefix back : List ℕ) → AreBytes (prefix ++ back) → AreBytes prefix × AreBytes back
both_are_bytes [] back h = (tt, h)
both_are_bytes (b ∷ prefix) back h =
    let parts = both_are_bytes prefix back h.1 in
    ((h.0, parts.0), parts.1)

prefix_are_bytes : (n : ℕ) (bytes : List ℕ) → AreBytes bytes → AreBytes (take n bytes)
prefix_are_bytes n bytes h =
    (both_are_bytes (take n bytes) (drop n bytes) (subst AreBytes (sym (take-append-drop n bytes)) h)).0

-- what stands between two offsets are bytes
read_are_bytes :
    {A : Type 0} {S : List ℕ → A → Type 0} (bytes : List ℕ) (start end : ℕ) (x : A)
    → ((i : ℕ) → slice_index bytes i < 256)
    → (r : Decodes S bytes start x end)
    → AreBytes r.prefix
read_are_bytes bytes start end x small r =
    (both_are_bytes r.prefix (drop end bytes) (subst AreBytes r.whole (rest_are_bytes start bytes small))).0

-- ---- one chunk

pub chunk_reads :
    (k : ℕ) (bytes left chunk : List ℕ) (start : ℕ) → left ≡ drop start bytes
    → k ≤ length left
    → chunk ≡ take k left
    → Decodes (IsChunk k) bytes start chunk (start + k)
chunk_reads k bytes left chunk start following enough is =
    let long : length chunk ≡ k = ap length is ∙ length-take-le k left enough in
    let after : drop k left ≡ drop (start + k) bytes = ap (drop k) following ∙ drop-drop k start bytes in
    record {
      prefix = chunk;
      whole = sym following ∙ (sym (take-append-drop k left) ∙ (λ i. sym is i ++ after i));
      moved = ap (λ n. start + n) (sym long);
      is_encoded = record { same = refl; long = long };
    }

module _ (k : ℕ) {S : List ℕ → Meaning → Type 0} {f : List ℕ → Meaning} (width : HasWidth k S f) where
  -- a chunk is read as what it means
  pub width_reads :
      (bytes chunk : List ℕ) (start end : ℕ) → ((i : ℕ) → slice_index bytes i < 256)
      → Decodes (IsChunk k) bytes start chunk end
      → Decodes S bytes start (f chunk) end
  width_reads bytes chunk start end small r =
      let are = subst AreBytes r.is_encoded.same (read_are_bytes bytes start end chunk small r) in
      record {
        prefix = r.prefix;
        whole = r.whole;
        moved = r.moved;
        is_encoded = subst (λ l. S l (f chunk)) (sym r.is_encoded.same) (width.is_encoded chunk r.is_encoded.long are);
      }

  -- where no chunk stands, nothing of its width does
  pub chunk_rejected : (bytes : List ℕ) → DecodesToNothing (IsChunk k) bytes → DecodesToNothing S bytes
  chunk_rejected bytes none m r = none r.prefix (record {
    prefix = r.prefix;
    rest = r.rest;
    whole = r.whole;
    is_encoded = record { same = refl; long = width.long r.prefix m r.is_encoded };
  })

-- ---- so many chunks

chunk_items :
    (k count : ℕ) (bytes : List ℕ) → count * k ≤ length bytes
    → EncodesItems (IsChunk k) (take (count * k) bytes) (first_chunks k count bytes)
chunk_items k zero bytes capacity = let none : 0 * k ≡ 0 = omega arith in ap (λ n. take n bytes) none
chunk_items k (suc count) bytes capacity =
    let one : k ≤ length bytes = omega (arith, capacity) in
    let rest : count * k ≤ length (drop k bytes) = rw (length-drop k bytes) (omega (arith, capacity)) in
    let split = ap (λ n. take n bytes) (suc_times k count) ∙ take-add k (count * k) bytes in
    let chunk : IsChunk k (take k bytes) (take k bytes) = record { same = refl; long = length-take-le k bytes one } in
    (take k bytes, take (count * k) (drop k bytes), split, chunk, chunk_items k count (drop k bytes) rest)
  where
    suc_times : (k n : ℕ) → suc n * k ≡ k + n * k
    suc_times k n = omega arith

length-first_chunks : (k count : ℕ) (bytes : List ℕ) → length (first_chunks k count bytes) ≡ count
length-first_chunks k zero bytes = refl
length-first_chunks k (suc count) bytes = ap (λ n. suc n) (length-first_chunks k count (drop k bytes))

-- fewer chunks are a prefix of more
pub take-first_chunks :
    (k count more : ℕ) (bytes : List ℕ) → count ≤ more
    → take count (first_chunks k more bytes) ≡ first_chunks k count bytes
take-first_chunks k zero more bytes h = refl
take-first_chunks k (suc count) zero bytes h = absurd (omega arith)
take-first_chunks k (suc count) (suc more) bytes h =
    ap (λ l. take k bytes ∷ l) (take-first_chunks k count more (drop k bytes) (omega arith))

-- this many chunks are read where enough bytes are left for them
pub chunks_read :
    (k count : ℕ) (bytes : List ℕ) (start : ℕ) → 0 < k → count ≤ length (drop start bytes) / k
    → Decodes (EncodesCount count (IsChunk k)) bytes start (first_chunks k count (drop start bytes)) (start + count * k)
chunks_read k count bytes start positive enough =
    let left = drop start bytes in
    let capacity = (le-div_iff_mul-le {k = k} {x = count} {y = length left} positive).0 enough in
    record {
      prefix = take (count * k) left;
      whole = sym (take-append-drop (count * k) left) ∙ ap (λ l. take (count * k) left ++ l) (drop-drop (count * k) start bytes);
      moved = ap (λ n. start + n) (sym (length-take-le (count * k) left capacity));
      is_encoded = record {
        count_is = length-first_chunks k count left;
        items = chunk_items k count left capacity;
      };
    }

chunks_length :
    (k : ℕ) (a : List ℕ) (chunks : List (List ℕ)) → EncodesItems (IsChunk k) a chunks → length a ≡ length chunks * k
chunks_length k a [] h = ap length h ∙ omega arith
chunks_length k a (chunk ∷ chunks) h =
    let rest = chunks_length k h.1 chunks h.4 in
    let one = ap length h.3.same ∙ h.3.long in
    ap length h.2 ∙ (length-append h.0 h.1 ∙ ((λ i. one i + rest i) ∙ suc_times k (length chunks)))
  where
    suc_times : (k n : ℕ) → k + n * k ≡ suc n * k
    suc_times k n = omega arith

-- where too few bytes are left, this many chunks do not decode
pub chunks_rejected :
    (k count : ℕ) (bytes : List ℕ) → 0 < k → length bytes / k < count
    → DecodesToNothing (EncodesCount count (IsChunk k)) bytes
chunks_rejected k count bytes positive less chunks f =
    let items = chunks_length k f.prefix chunks f.is_encoded.items in
    let long = items ∙ ap (λ n. n * k) f.is_encoded.count_is in
    let parts = ap length f.whole ∙ length-append f.prefix f.rest in
    let capacity : count * k ≤ length bytes = omega (arith, long, parts) in
    let many = (le-div_iff_mul-le {k = k} {x = count} {y = length bytes} positive).1 capacity in
    omega (arith, less, many)

-- ---- so many numbers

module _ (k : ℕ) {S : List ℕ → Meaning → Type 0} {f : List ℕ → Meaning} (width : HasWidth k S f) where
  run_items :
      (a : List ℕ) (chunks : List (List ℕ)) → AreBytes a
      → EncodesItems (IsChunk k) a chunks
      → EncodesItems S a (map f chunks)
  run_items a [] small h = h
  run_items a (chunk ∷ chunks) small h =
      let parts = both_are_bytes h.0 h.1 (subst AreBytes h.2 small) in
      let one = width.is_encoded chunk h.3.long (subst AreBytes h.3.same parts.0) in
      (h.0, h.1, h.2, subst (λ l. S l (f chunk)) (sym h.3.same) one, run_items h.1 chunks parts.1 h.4)

  -- so many chunks are read as what they mean
  pub run_reads :
      (count : ℕ) (bytes : List ℕ) (start end : ℕ) (chunks : List (List ℕ))
      → ((i : ℕ) → slice_index bytes i < 256)
      → Decodes (EncodesCount count (IsChunk k)) bytes start chunks end
      → Decodes (EncodesCount count S) bytes start (map f chunks) end
  run_reads count bytes start end chunks small r = record {
    prefix = r.prefix;
    whole = r.whole;
    moved = r.moved;
    is_encoded = record {
      count_is = length-map chunks f ∙ r.is_encoded.count_is;
      items = run_items r.prefix chunks (read_are_bytes bytes start end chunks small r) r.is_encoded.items;
    };
  }

  chunks_of :
      (a : List ℕ) (ms : List Meaning) → EncodesItems S a ms
      → (chunks : List (List ℕ)) × (length chunks ≡ length ms) × EncodesItems (IsChunk k) a chunks
  chunks_of a [] h = ([], refl, h)
  chunks_of a (m ∷ ms) h =
      let rest = chunks_of h.1 ms h.4 in
      let chunk : IsChunk k h.0 h.0 = record { same = refl; long = width.long h.0 m h.3 } in
      (h.0 ∷ rest.0, ap (λ n. suc n) rest.1, (h.0, h.1, h.2, chunk, rest.2))

  pub run_rejected :
      (count : ℕ) (bytes : List ℕ)
      → DecodesToNothing (EncodesCount count (IsChunk k)) bytes
      → DecodesToNothing (EncodesCount count S) bytes
  run_rejected count bytes none ms r =
      let chunks = chunks_of r.prefix ms r.is_encoded.items in
      none chunks.0 (record {
        prefix = r.prefix;
        rest = r.rest;
        whole = r.whole;
        is_encoded = record { count_is = chunks.1 ∙ r.is_encoded.count_is; items = chunks.2 };
      })

-- ---- bytes as numbers

byte_items : (bytes : List ℕ) → AreBytes bytes → EncodesItems (EncodesUnsigned 1) bytes (map whole bytes)
unfolding little_endian
byte_items [] h = refl
byte_items (b ∷ bytes) h =
    let small : b < 256 = h.0 in
    let number : EncodesNumber 1 (b ∷ []) b = record { fits = small; whole = sym (little_byte b small) } in
    (b ∷ [], bytes, refl, record { part = b; has = number; is = refl }, byte_items bytes h.1)

-- so many bytes are read as they stand
pub bytes_read :
    (count : ℕ) (bytes : List ℕ) (start : ℕ) → ((i : ℕ) → slice_index bytes i < 256)
    → count ≤ length (drop start bytes)
    → Decodes (EncodesCount count (EncodesUnsigned 1)) bytes start (map whole (take count (drop start bytes))) (start + count)
bytes_read count bytes start small capacity =
    let left = drop start bytes in
    record {
      prefix = take count left;
      whole = sym (take-append-drop count left) ∙ ap (λ l. take count left ++ l) (drop-drop count start bytes);
      moved = ap (λ n. start + n) (sym (length-take-le count left capacity));
      is_encoded = record {
        count_is = length-map (take count left) whole ∙ length-take-le count left capacity;
        items = byte_items (take count left) (prefix_are_bytes count left (rest_are_bytes start bytes small));
      };
    }

bytes_length :
    (a : List ℕ) (ms : List Meaning) → EncodesItems (EncodesUnsigned 1) a ms → length a ≡ length ms
bytes_length a [] h = ap length h
bytes_length a (m ∷ ms) h =
    let rest = bytes_length h.1 ms h.4 in
    let one : length h.0 ≡ 1 = ap length h.3.has.whole ∙ length-little_endian 1 h.3.part in
    ap length h.2 ∙ (length-append h.0 h.1 ∙ omega (arith, one, rest))

pub bytes_rejected :
    (count : ℕ) (bytes : List ℕ) → length bytes < count
    → DecodesToNothing (EncodesCount count (EncodesUnsigned 1)) bytes
bytes_rejected count bytes less ms f =
    let long = bytes_length f.prefix ms f.is_encoded.items ∙ f.is_encoded.count_is in
    let parts = ap length f.whole ∙ length-append f.prefix f.rest in
    omega (arith, less, long, parts)

-- bytes are written as they stand
pub flat_map-little_byte : (bytes : List ℕ) → AreBytes bytes → flat_map (little_endian 1) bytes ≡ bytes
flat_map-little_byte [] h = refl
flat_map-little_byte (b ∷ bytes) h =
    (λ i. little_byte b h.0 i ++ flat_map (little_endian 1) bytes) ∙ ap (λ l. b ∷ l) (flat_map-little_byte bytes h.1)
