-- What a reader that puts items into a collection knows at the head of its loop, and at its exits.
use Rattle.std.proofs.Common.{◌≡◌, ℕ, ◌+◌, ◌<◌, ◌≤◌, List, [], ◌∷◌, ◌++◌, sym, subst, arith}
use Rattle.nano_value.specs.Meaning.{IsImage, Meaning, paired}
use Rattle.nano_meaning.proofs.MeaningLaws.{both_injective}
use Rattle.nano_bin_bytes.specs.Scalars.{EncodesNumber}
use Rattle.nano_bin_bytes.specs.declared.error.DeBinErr.{DeBinErr}
use Rattle.nano_bin_bytes.specs.declared.error.DeBinKind.TheVariants.{Memory}
use Rattle.nano_bin_bytes.specs.Reading.{Decodes, ReadsNone, rejection}
use Rattle.nano_bin_bytes.proofs.ErrorsLaws.{memory_reads_none, passed_here}
use Rattle.nano_bin_bytes.specs.Codec.{IsEncoding}
use Rattle.nano_bin_bytes.specs.Containers.{EncodesAll, EncodesCount, EncodesList, EncodesPair}
use Rattle.nano_bin.proofs.Readers.{count_reads_none, count_reads_push, count_rejected, list_reads}
use Rattle.nano_bin.proofs.Readers.{list_rejected, list_items_rejected, image_reads, image_rejected}

-- so many items stand between two offsets, and the collection holds them
pub record Collected {C V : Type 0} (holds : C → List V → Type 0) (S : List ℕ → V → Type 0)
    (count : ℕ) (bytes : List ℕ) (start : ℕ) (x : C) (end : ℕ) : Type 0 where
  pub items : List V
  pub held : holds x items
  pub reads : Decodes (EncodesCount count S) bytes start items end

module _ {C V : Type 0} {holds : C → List V → Type 0} {S : List ℕ → V → Type 0}
    {bytes : List ℕ} where
  -- before the first item
  pub collected_none : {start : ℕ} {x : C} → holds x [] → Collected holds S 0 bytes start x start
  collected_none {start} h = record { items = []; held = h; reads = count_reads_none S bytes start }

  -- one more item
  pub collected_put : {start mid end count : ℕ} {x y : C} {v : V}
      → Collected holds S count bytes start x mid → Decodes S bytes mid v end
      → ((vs : List V) → holds x vs → holds y (vs ++ v ∷ []))
      → Collected holds S (count + 1) bytes start y end
  collected_put {start} {mid} {end} {count} {v = v} h r put = record {
    items = h.items ++ v ∷ [];
    held = put h.items h.held;
    reads = count_reads_push S bytes start mid end count h.items v h.reads r;
  }

  -- once as many items are held as were counted, the collection is read
  pub collected_all : (whole : List V → Meaning) (means : C → Meaning)
      → ((x : C) (vs : List V) → holds x vs → means x ≡ whole vs)
      → {start mid end n count : ℕ} {x : C} → Decodes (EncodesNumber 8) bytes start n mid
      → Collected holds S count bytes mid x end → count ≤ n → n ≤ count
      → Decodes (EncodesAll whole S) bytes start (means x) end
  collected_all whole means is {start} {mid} {end} {n} {count} {x} h r less more =
      let all : count ≡ n = omega (arith, less, more) in
      let reads = subst (λ (k : ℕ). Decodes (EncodesCount k S) bytes mid r.items end) all r.reads in
      let list = list_reads S bytes start mid end n r.items h reads in
      let same : means x ≡ whole r.items = is x r.items r.held in
      subst (λ (m : Meaning). Decodes (EncodesAll whole S) bytes start m end) (sym same)
      (image_reads whole bytes start end r.items list)

  -- where the next item does not decode, no collection does
  pub collected_rejected : (whole : List V → Meaning) {P : V → Type 0} → IsEncoding P S
      → {start mid here end n count : ℕ} {x : C} {error : DeBinErr}
      → Decodes (EncodesNumber 8) bytes start n mid
      → Collected holds S count bytes mid x here → count < n → ReadsNone S bytes here end error
      → ReadsNone (EncodesAll whole S) bytes start start error
  collected_rejected whole s h r less none =
      let rest = count_rejected S s r.reads less none in
      image_rejected (EncodesList S) whole (list_items_rejected S h rest)

  -- no memory for one more item
  pub uncollected : (whole : List V → Meaning) {start mid here n count : ℕ} {x : C}
      {error : DeBinErr} → Decodes (EncodesNumber 8) bytes start n mid
      → Collected holds S count bytes mid x here → {end : ℕ} {v : V} → Decodes S bytes here v end
      → error ≡ rejection Memory end 0 bytes
      → ReadsNone (EncodesAll whole S) bytes start start error
  uncollected whole {start} {error = error} h r {end} one is =
      let counted = h.moved in
      let collected = r.reads.moved in
      let last = one.moved in
      let after : start ≤ end = omega (arith, counted, collected, last) in
      memory_reads_none (EncodesAll whole S) bytes start end error after is

-- where there is no count, there is no collection
pub uncounted_rejected : {V : Type 0} (whole : List V → Meaning) (S : List ℕ → V → Type 0)
    {bytes : List ℕ} {start end : ℕ} {error : DeBinErr}
    → ReadsNone (EncodesNumber 8) bytes start end error
    → ReadsNone (EncodesAll whole S) bytes start start error
uncounted_rejected whole S none = image_rejected (EncodesList S) whole (list_rejected S none)

-- ---- pairs

module _ (S R : List ℕ → Meaning → Type 0) where
  -- what a reader of pairs answers, as a pair of meanings
  pub pair_parts : (bytes : List ℕ) (start end : ℕ) (k v : Meaning)
      → Decodes (λ a. IsImage paired (EncodesPair S R a)) bytes start (paired (k, v)) end
      → Decodes (EncodesPair S R) bytes start (k, v) end
  pair_parts bytes start end k v r =
      let is = r.is_encoded in
      let parts = both_injective k v is.part.0 is.part.1 is.is in
      let both = subst (EncodesPair S R r.prefix) (λ i. (sym parts.0 i, sym parts.1 i)) is.has in
      record { prefix = r.prefix; whole = r.whole; moved = r.moved; is_encoded = both }

  pub no_pair : {bytes : List ℕ} {start end : ℕ} {error : DeBinErr}
      → ReadsNone (λ a. IsImage paired (EncodesPair S R a)) bytes start end error
      → ReadsNone (EncodesPair S R) bytes start end error
  no_pair rejected = passed_here (EncodesPair S R) rejected (λ left none p f.
      none (paired p) (record {
        prefix = f.prefix;
        rest = f.rest;
        whole = f.whole;
        is_encoded = record { part = p; has = f.is_encoded; is = λ i. paired p };
      }))
