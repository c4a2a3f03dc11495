-- What is read where a code stands.
use Rattle.std.proofs.Common.{◌≡◌, ◌≢◌, ℕ, ◌+◌, List, ◌++◌, length, drop, sym, ◌∙◌, subst, ap}
use Rattle.std.proofs.Common.{append_assoc, refl, Result, Ok, Err, IfErr, Bool, true, false, cond}
use Rattle.std.proofs.Common.{map, ◌<◌, [], arith, length-append}
use Rattle.std.proofs.lemmas.List.{drop-drop, append-nil}
use Rattle.std.proofs.Math.Seq.{drop-append_seam}
use Rattle.std.specs.declared.cmp.Ordering.{Ordering}
use Rattle.std.specs.FinMap.Entries.{is_sorted}
use Rattle.nano_bin_bytes.specs.declared.error.DeBinErr.{DeBinErr}
use Rattle.nano_bin_bytes.specs.declared.error.DeBinKind.{DeBinKind}
use Rattle.nano_bin_bytes.specs.declared.error.DeBinKind.TheVariants.{TooShort, NotUtf8, TooLong}
use Rattle.nano_bin_bytes.specs.declared.error.DeBinKind.TheVariants.{Memory, Own, TrailingBytes}
use Rattle.nano_bin_bytes.specs.Codec.{IsEncoding, Codec}
use Rattle.nano_bin_bytes.proofs.CodecLaws.{same_prefixes}
use Rattle.nano_bin_bytes.specs.Reading.{DecodesToNothing, Decodes, ReadsNone, rejection}
use Rattle.nano_bin_bytes.specs.Reading.{kind_within, own_error, DecodesTo, ReportsTrailing}
use Rattle.nano_bin_bytes.specs.Reading.{RejectsWhole, RejectsWholeWithMore, IsReport, MayFollow}
use Rattle.nano_bin_bytes.proofs.ErrorsLaws.{rejects_now}
use Rattle.nano_bin_bytes.specs.Promises.{StandsAt, FailsForMemory}
use Rattle.nano_value.specs.Meaning.{Meaning, Agrees}
use Rattle.nano_value.specs.Tables.{table_of, table_means}
use Rattle.nano_value.specs.Sets.{marked, item_set, set_means}
use Rattle.nano_meaning.proofs.SetsLaws.{set_means-injective}
use Rattle.nano_value.specs.Ordered.{ordered_means, unordered}
use Rattle.nano_meaning.proofs.OrderedSetsLaws.{no_list_is_unordered}
use Rattle.nano_value.specs.Order.{MeaningOrder}
use Rattle.nano_bin.specs.ContainerCodecs.{map_codec, set_codec}

module _ {A : Type 0} {P : A → Type 0} {S : List ℕ → A → Type 0} (s : IsEncoding P S) where
  -- the value that the bytes encode is read, and the offset is set after its encoding
  same_read : (bytes code : List ℕ) (start end : ℕ) (x y : A) → Decodes S bytes start x end → S code y → (at : StandsAt code bytes start) → (r : Decodes S bytes start x end) → (r.prefix ≡ code) × (drop end bytes ≡ at.following)
  same_read bytes code start end x y _ is_encoded at r = same_prefixes s r.prefix code (drop end bytes) at.following x y r.is_encoded is_encoded (sym r.whole ∙ at.whole)

  pub read_same : (bytes code : List ℕ) (start end : ℕ) (x y : A) → Decodes S bytes start x end → S code y → StandsAt code bytes start → x ≡ y
  read_same bytes code start end x y r is_encoded at =
      let same = same_read bytes code start end x y r is_encoded at r in
      s.one_value code x y (subst (λ l. S l x) same.0 r.is_encoded) is_encoded

  pub read_moved : (bytes code : List ℕ) (start end : ℕ) (x y : A) → Decodes S bytes start x end → S code y → StandsAt code bytes start → end ≡ start + length code
  read_moved bytes code start end x y r is_encoded at =
      let same = same_read bytes code start end x y r is_encoded at r in
      r.moved ∙ ap (λ l. start + length l) same.0

-- an encoding that comes after another one is found at the end of that one
pub next_stands : (bytes code next : List ℕ) (start end : ℕ) → StandsAt (code ++ next) bytes start → end ≡ start + length code → StandsAt next bytes end
next_stands bytes code next start end at moved = record {
  following = at.following;
  whole = ap (λ n. drop n bytes) moved ∙ (sym (drop-drop (length code) start bytes) ∙ (ap (drop (length code)) (at.whole ∙ append_assoc code next at.following) ∙ drop-append_seam code (next ++ at.following)));
}

pub first_stands : (bytes code next : List ℕ) (start : ℕ) → StandsAt (code ++ next) bytes start → StandsAt code bytes start
first_stands bytes code next start at = record { following = next ++ at.following; whole = at.whole ∙ append_assoc code next at.following }

-- where an encoding stands, something decodes
pub code_fits : {A : Type 0} (S : List ℕ → A → Type 0) (bytes code : List ℕ) (start : ℕ) (y : A) → S code y → StandsAt code bytes start → DecodesToNothing S (drop start bytes) → ⊥
code_fits S bytes code start y is_encoded at none = none y (record { prefix = code; rest = at.following; whole = at.whole; is_encoded = is_encoded })

-- an error that could only be out of memory is out of memory
pub for_memory : (kind : DeBinKind) → ((kind ≢ Memory) → ⊥) → kind ≡ Memory
for_memory TooShort h = absurd (h (λ e. cc))
for_memory NotUtf8 h = absurd (h (λ e. cc))
for_memory TooLong h = absurd (h (λ e. cc))
for_memory Memory h = refl
for_memory Own h = absurd (h (λ e. cc))
for_memory TrailingBytes h = absurd (h (λ e. cc))

-- where the code encodes a value, a reader that rejects is out of memory
pub fails_for_memory : {T A : Type 0} (S : List ℕ → A → Type 0) (code bytes : List ℕ) (start end : ℕ) (r : Result T DeBinErr)
    → IfErr r (ReadsNone S bytes start end)
    → (StandsAt code bytes start → DecodesToNothing S (drop start bytes) → ⊥)
    → IfErr r (FailsForMemory code bytes start end)
fails_for_memory S code bytes start end (Ok x) h fits = tt
fails_for_memory S code bytes start end (Err x) h fits = record { memory = λ at. for_memory x.kind (λ other. fits at (rejects_now S (drop start bytes) x h.rejects other)); unchanged = h.unchanged }

-- ==== values of the same bytes

module _ {K : Type 0} {means : K → Meaning} {legal : Meaning → Type 0} (o : MeaningOrder) (k : Codec K) (t : Agrees means legal k.canonical.means k.encoding.legal) where
  -- entries of the same table
  pub same_entries :
      {V : Type 0} {means' : V → Meaning} {legal' : Meaning → Type 0} (v : Codec V)
      → Agrees means' legal' v.canonical.means v.encoding.legal
      → (es fs : List (K × V))
      → table_of means means' es ≡ table_of means means' fs
      → (map_codec o k v).canonical.written es ≡ (map_codec o k v).canonical.written fs
  same_entries {V} {means'} v u es fs e =
      let seen : (xs : List (K × V)) → table_means (table_of k.canonical.means v.canonical.means xs) ≡ table_means (table_of means means' xs) = λ xs i. table_means (table_of (t.means_is i) (u.means_is i) xs) in
      (map_codec o k v).canonical.same_written es fs (seen es ∙ (ap table_means e ∙ sym (seen fs)))

  items_reported :
      (C : K → K → Ordering) (xs ys : List K)
      → set_means (item_set means xs) ≡ ordered_means C means ys
      → item_set means xs ≡ item_set means ys
  items_reported C xs ys =
      elim (is_sorted C (marked ys)) as (λ (b : Bool). set_means (item_set means xs) ≡ cond b (set_means (item_set means ys)) (unordered (map means ys)) → item_set means xs ≡ item_set means ys) [
        | true ↦ λ e. set_means-injective (item_set means xs) (item_set means ys) e
        | false ↦ λ e. no_list_is_unordered _ (map means ys) e
      ]

  -- a set without an order, and one that holds its items in the order C
  pub same_items :
      (C : K → K → Ordering) (xs ys : List K)
      → set_means (item_set means xs) ≡ ordered_means C means ys
      → (set_codec o k).canonical.written xs ≡ (set_codec o k).canonical.written ys
  same_items C xs ys e =
      let seen : (zs : List K) → set_means (item_set k.canonical.means zs) ≡ set_means (item_set means zs) = λ zs i. set_means (item_set (t.means_is i) zs) in
      (set_codec o k).canonical.same_written xs ys (seen xs ∙ (ap set_means (items_reported C xs ys e) ∙ sym (seen ys)))

-- ==== whole inputs

-- a value that all of the bytes encode decodes from them
pub whole_decodes : {A : Type 0} (S : List ℕ → A → Type 0) (bytes : List ℕ) (x : A) → S bytes x → DecodesTo S bytes x
whole_decodes S bytes x h = record { prefix = bytes; rest = []; whole = sym (append-nil bytes); is_encoded = h }

-- a value that is read up to a place before the end is encoded neither by all of the bytes nor by
-- more
pub read_before_end : {A : Type 0} {P : A → Type 0} {S : List ℕ → A → Type 0} → IsEncoding P S → (bytes : List ℕ) (end : ℕ) (x : A) → Decodes S bytes 0 x end → end < length bytes → (more : List ℕ) (y : A) → S (bytes ++ more) y → ⊥
read_before_end s bytes end x r less more y h =
    let left = ap (λ l. l ++ more) r.whole ∙ append_assoc r.prefix (drop end bytes) more in
    let same = same_prefixes s r.prefix (bytes ++ more) (drop end bytes ++ more) [] x y r.is_encoded h (sym left ∙ sym (append-nil (bytes ++ more))) in
    let one = r.moved in
    let long = ap length same.0 ∙ length-append bytes more in
    omega (arith, one, long, less)

-- what is said of all of the bytes alone
pub whole_rejects_now : {A : Type 0} (S : List ℕ → A → Type 0) (bytes : List ℕ) (error : DeBinErr) → RejectsWholeWithMore S bytes error → RejectsWhole S bytes error
whole_rejects_now S bytes error h other y is_encoded = h [] other (λ _. refl) y (subst (λ l. S l y) (sym (append-nil bytes)) is_encoded)

-- bytes that come after a value are reported
pub trailing_reports : (bytes : List ℕ) (end : ℕ) (e : DeBinErr) → e ≡ rejection TrailingBytes end 0 bytes → IsReport bytes 0 e
trailing_reports bytes end e is = subst (IsReport bytes 0) (sym is) (record {
  size = refl;
  place = omega arith;
  too_short = λ k. absurd (cc);
  not_utf8 = λ k. absurd (cc);
  memory = λ k. absurd (cc);
})

-- bytes follow it
pub read_trailing : {A : Type 0} (S : List ℕ → A → Type 0) (bytes : List ℕ) (end : ℕ) (x : A) (e : DeBinErr) → Decodes S bytes 0 x end → end < length bytes → e ≡ rejection TrailingBytes end 0 bytes → ReportsTrailing S bytes e
read_trailing S bytes end x e r less is = record {
  value = x;
  fits = record { prefix = r.prefix; rest = drop end bytes; whole = r.whole; is_encoded = r.is_encoded };
  more = λ none.
      let one = r.moved in
      let all = ap length (r.whole ∙ (ap (λ l. r.prefix ++ l) none ∙ append-nil r.prefix)) in
      omega (arith, one, all, less);
  is =
      let one = r.moved in
      let place : end ≡ length r.prefix = omega (arith, one) in
      is ∙ ap (λ n. rejection TrailingBytes n 0 bytes) place;
}

-- an error of a value that is passed on is out of memory where the value's error was
pub not_for_memory : (given e : DeBinErr) → e ≡ own_error given → e.kind ≢ Memory → given.kind ≢ Memory
not_for_memory given e is other same = other (ap (λ x. x.kind) is ∙ ap kind_within same)

-- as many bytes may follow
pub may_follow : (given e : DeBinErr) (more : List ℕ) → e ≡ own_error given → MayFollow more e → MayFollow more given
may_follow given e more is fits same = fits (ap (λ (x : DeBinErr). x.kind) is ∙ ap kind_within same)

-- it is of the same kind, unless that is the kind of a user-defined type
same_kind : (kind other : DeBinKind) → other ≢ Own → kind_within kind ≡ other → kind ≡ other
same_kind TooShort other some e = e
same_kind NotUtf8 other some e = e
same_kind TooLong other some e = e
same_kind Memory other some e = e
same_kind Own other some e = e
same_kind TrailingBytes other some e = absurd (some (sym e))

-- and it tells the same
pub own_reports : (bytes : List ℕ) (start : ℕ) (given e : DeBinErr) → e ≡ own_error given → IsReport bytes start given → IsReport bytes start e
own_reports bytes start given e is r = subst (IsReport bytes start) (sym is) (record {
  size = r.size;
  place = r.place;
  too_short = λ k.
      let h = r.too_short (same_kind given.kind TooShort (λ o. cc) k) in
      record { left = h.left; is = ap own_error h.is };
  not_utf8 = λ k.
      let h = r.not_utf8 (same_kind given.kind NotUtf8 (λ o. cc) k) in
      record { left = h.left; wrong = h.wrong; is = ap own_error h.is };
  memory = λ k. r.memory (same_kind given.kind Memory (λ o. cc) k);
})
