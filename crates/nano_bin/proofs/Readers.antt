-- What the readers of containers answer, from what the readers of their parts answer.
use Rattle.std.proofs.Common.{◌≡◌, ◌≢◌, ℕ, ◌+◌, ◌<◌, refl, List, [], ◌∷◌, ◌++◌, length, drop}
use Rattle.std.proofs.Common.{Option, Some, None, sym, ◌∙◌, subst, ap, arith, append_assoc}
use Rattle.std.proofs.Common.{length-append}
use Rattle.std.proofs.lemmas.List.{append-nil}
use Rattle.nano_value.specs.Meaning.{Meaning, nothing, whole, IsImage}
use Rattle.nano_meaning.proofs.MeaningLaws.{whole_injective}
use Rattle.nano_bin_bytes.specs.Codec.{IsEncoding}
use Rattle.nano_bin_bytes.proofs.CodecLaws.{same_prefixes, same_heads}
use Rattle.nano_bin_bytes.specs.declared.error.DeBinErr.{DeBinErr}
use Rattle.nano_bin_bytes.specs.declared.error.DeBinKind.TheVariants.{Memory, TooShort}
use Rattle.nano_bin_bytes.specs.Reading.{DecodesToNothing, Decodes, ReadsNone}
use Rattle.nano_bin_bytes.specs.Reading.{ReadsNoneWhereShort}
use Rattle.nano_bin_bytes.proofs.ErrorsLaws.{passed_on, passed_here, rejects_now}
use Rattle.nano_bin_bytes.specs.Scalars.{EncodesNumber, EncodesUnit, EncodesBool}
use Rattle.nano_bin_bytes.specs.Scalars.{EncodesUnsigned}
use Rattle.nano_bin_bytes.proofs.ScalarsLaws.{truth_byte, number_encoding}
use Rattle.nano_bin_bytes.specs.Containers.{EncodesPair, EncodesOption, EncodesItems, EncodesCount}
use Rattle.nano_bin_bytes.specs.Containers.{EncodesList, EncodesText, IsTextOf}

-- ---- one reader after another

-- a whole of two parts is read by reading the one and then the other
pub then_reads : {A B C : Type 0} {S : List ℕ → A → Type 0} {R : List ℕ → B → Type 0} (Q : List ℕ → C → Type 0) (bytes : List ℕ) (start mid end : ℕ) (x : A) (y : B) (z : C) → Decodes S bytes start x mid → Decodes R bytes mid y end → ((a b : List ℕ) → S a x → R b y → Q (a ++ b) z) → Decodes Q bytes start z end
then_reads Q bytes start mid end x y z h j join = record {
  prefix = h.prefix ++ j.prefix;
  whole = h.whole ∙ (ap (λ l. h.prefix ++ l) j.whole ∙ sym (append_assoc h.prefix j.prefix (drop end bytes)));
  moved = let parts = length-append h.prefix j.prefix in let one = h.moved in let two = j.moved in omega (arith, parts, one, two);
  is_encoded = join h.prefix j.prefix h.is_encoded j.is_encoded;
}

-- what is read by one relation is read by a weaker one
pub as_reads : {A B : Type 0} {S : List ℕ → A → Type 0} (Q : List ℕ → B → Type 0) (bytes : List ℕ) (start end : ℕ) (x : A) (y : B) → Decodes S bytes start x end → ((a : List ℕ) → S a x → Q a y) → Decodes Q bytes start y end
as_reads Q bytes start end x y h weaker = record { prefix = h.prefix; whole = h.whole; moved = h.moved; is_encoded = weaker h.prefix h.is_encoded }

-- nothing decodes where its first part does not
pub first_rejected : {A B : Type 0} (S : List ℕ → A → Type 0) (Q : List ℕ → B → Type 0) (bytes : List ℕ) (start end : ℕ) (error : DeBinErr) → ReadsNone S bytes start end error → ((a : List ℕ) (z : B) → Q a z → (h t : List ℕ) × (x : A) × (a ≡ h ++ t) × S h x) → ReadsNone Q bytes start start error
first_rejected S Q bytes start end error rejected split =
    passed_on Q (omega arith) rejected (λ more none z f.
    let p = split f.prefix z f.is_encoded in
    none p.2 (record { prefix = p.0; rest = p.1 ++ f.rest; whole = f.whole ∙ (ap (λ l. l ++ f.rest) p.3 ∙ append_assoc p.0 p.1 f.rest); is_encoded = p.4 }))

-- nothing decodes where its first part was read and its second does not decode, whatever follows
pub then_nothing : {A B C : Type 0} {P : A → Type 0} {S : List ℕ → A → Type 0} (R : List ℕ → B → Type 0) (Q : List ℕ → C → Type 0) → IsEncoding P S → (bytes : List ℕ) (start mid : ℕ) (more : List ℕ) (x : A) → Decodes S bytes start x mid → DecodesToNothing R (drop mid bytes ++ more) → ((a : List ℕ) (z : C) → Q a z → (h t : List ℕ) × (y : A) × (a ≡ h ++ t) × S h y × (S h x → (w : B) × R t w)) → DecodesToNothing Q (drop start bytes ++ more)
then_nothing {S} R Q s bytes start mid more x r none split z f =
    let p = split f.prefix z f.is_encoded in
    let left = sym (ap (λ l. l ++ more) r.whole ∙ append_assoc r.prefix (drop mid bytes) more) in
    let whole = sym (append_assoc p.0 p.1 f.rest) ∙ (ap (λ l. l ++ f.rest) (sym p.3) ∙ (sym f.whole ∙ sym left)) in
    let e = same_prefixes s p.0 r.prefix (p.1 ++ f.rest) (drop mid bytes ++ more) p.2 x p.4 r.is_encoded whole in
    let last = p.5 (subst (λ l. S l x) (sym e.0) r.is_encoded) in
    none last.0 (record { prefix = p.1; rest = f.rest; whole = sym e.1; is_encoded = last.1 })

-- the error of the second part is that of the whole
pub then_rejected : {A B C : Type 0} {P : A → Type 0} {S : List ℕ → A → Type 0} (R : List ℕ → B → Type 0) (Q : List ℕ → C → Type 0) → IsEncoding P S → (bytes : List ℕ) (start mid end : ℕ) (error : DeBinErr) (x : A) → Decodes S bytes start x mid → ReadsNone R bytes mid end error → ((a : List ℕ) (z : C) → Q a z → (h t : List ℕ) × (y : A) × (a ≡ h ++ t) × S h y × (S h x → (w : B) × R t w)) → ReadsNone Q bytes start start error
then_rejected R Q s bytes start mid end error x r rejected split =
    let moved = r.moved in
    passed_on Q (omega (arith, moved)) rejected (λ more none. then_nothing R Q s bytes start mid more x r none split)

-- ---- what parts are mapped to

pub image_reads : {A : Type 0} {S : List ℕ → A → Type 0} (f : A → Meaning) (bytes : List ℕ) (start end : ℕ) (x : A) → Decodes S bytes start x end → Decodes (λ a. IsImage f (S a)) bytes start (f x) end
image_reads f bytes start end x r = record { prefix = r.prefix; whole = r.whole; moved = r.moved; is_encoded = record { part = x; has = r.is_encoded; is = refl } }

pub image_rejected : {A : Type 0} (S : List ℕ → A → Type 0) (f : A → Meaning) {bytes : List ℕ} {start end : ℕ} {error : DeBinErr} → ReadsNone S bytes start end error → ReadsNone (λ a. IsImage f (S a)) bytes start end error
image_rejected S f rejected = passed_here (λ a. IsImage f (S a)) rejected (λ left none m r. none r.is_encoded.part (record { prefix = r.prefix; rest = r.rest; whole = r.whole; is_encoded = r.is_encoded.has }))

-- ---- numbers

-- what a reader of unsigned numbers answers, as a number
pub unsigned_reads : (k : ℕ) (bytes : List ℕ) (start end n : ℕ) → Decodes (EncodesUnsigned k) bytes start (whole n) end → Decodes (EncodesNumber k) bytes start n end
unsigned_reads k bytes start end n r = record { prefix = r.prefix; whole = r.whole; moved = r.moved; is_encoded = subst (EncodesNumber k r.prefix) (sym (whole_injective n r.is_encoded.part r.is_encoded.is)) r.is_encoded.has }

pub unsigned_rejected : (k : ℕ) {bytes : List ℕ} {start end : ℕ} {error : DeBinErr} → ReadsNone (EncodesUnsigned k) bytes start end error → ReadsNone (EncodesNumber k) bytes start end error
unsigned_rejected k rejected = passed_here (EncodesNumber k) rejected (λ left none n f. none (whole n) (record { prefix = f.prefix; rest = f.rest; whole = f.whole; is_encoded = record { part = n; has = f.is_encoded; is = refl } }))

-- too few bytes: nothing decodes from them
pub nothing_short : {A : Type 0} (S : List ℕ → A → Type 0) {bytes : List ℕ} {start end place wanted : ℕ} {error : DeBinErr} → ReadsNoneWhereShort S bytes start end place wanted error → DecodesToNothing S (drop start bytes)
nothing_short S {bytes} {start} {error = error} r =
    rejects_now S (drop start bytes) error r.none.rejects (λ m. let e : TooShort ≡ Memory = sym (ap (λ (x : DeBinErr). x.kind) r.short.is) ∙ m in cc)

module _ {bytes : List ℕ} {start end place wanted : ℕ} {error : DeBinErr} where
  pub count_unread : ReadsNoneWhereShort (EncodesUnsigned 8) bytes start end place wanted error → ReadsNoneWhereShort (EncodesNumber 8) bytes start end place wanted error
  count_unread r = record { none = unsigned_rejected 8 r.none; short = r.short }

  -- where there is no byte, there is no boolean
  pub truth_unread : ReadsNoneWhereShort (EncodesUnsigned 1) bytes start end place wanted error → ReadsNoneWhereShort EncodesBool bytes start end place wanted error
  truth_unread r = record {
    none = passed_here EncodesBool r.none (λ left none m f.
        let p = truth_byte f.prefix f.is_encoded.part f.is_encoded.has in
        none (whole p.0) (record { prefix = f.prefix; rest = f.rest; whole = f.whole; is_encoded = record { part = p.0; has = p.1; is = refl } }));
    short = r.short;
  }

-- ---- pairs

module _ {A B : Type 0} (S : List ℕ → A → Type 0) (R : List ℕ → B → Type 0) where
  pub pair_rejected : {bytes : List ℕ} {start end : ℕ} {error : DeBinErr} → ReadsNone S bytes start end error → ReadsNone (EncodesPair S R) bytes start start error
  pair_rejected {bytes} {start} {end} {error} none = first_rejected S (EncodesPair S R) bytes start end error none (λ a z s. (s.head, s.tail, z.0, s.whole, s.first))

  pub second_rejected : {P : A → Type 0} → IsEncoding P S → {bytes : List ℕ} {start mid end : ℕ} {error : DeBinErr} {x : A} → Decodes S bytes start x mid → ReadsNone R bytes mid end error → ReadsNone (EncodesPair S R) bytes start start error
  second_rejected s {bytes} {start} {mid} {end} {error} {x} r none = then_rejected R (EncodesPair S R) s bytes start mid end error x r none (λ a z j. (j.head, j.tail, z.0, j.whole, j.first, λ _. (z.1, j.second)))

  pub pair_reads : (bytes : List ℕ) (start mid end : ℕ) (x : A) (y : B) → Decodes S bytes start x mid → Decodes R bytes mid y end → Decodes (EncodesPair S R) bytes start (x, y) end
  pair_reads bytes start mid end x y r j = then_reads (EncodesPair S R) bytes start mid end x y (x, y) r j (λ a b h k. record { head = a; tail = b; whole = refl; first = h; second = k })

-- ---- options

module _ {A : Type 0} (S : List ℕ → A → Type 0) where
  -- where there is no byte, there is no option
  pub option_rejected : {bytes : List ℕ} {start end : ℕ} {error : DeBinErr} → ReadsNone (EncodesNumber 1) bytes start end error → ReadsNone (EncodesOption S) bytes start start error
  option_rejected {bytes} {start} {end} {error} none = first_rejected (EncodesNumber 1) (EncodesOption S) bytes start end error none split
    where
      split : (a : List ℕ) (z : Option A) → EncodesOption S a z → (h t : List ℕ) × (b : ℕ) × (a ≡ h ++ t) × EncodesNumber 1 h b
      split a None h = (a, [], h.0, sym (append-nil a), h.2)
      split a (Some x) h = (h.head, h.tail, 1, h.whole, h.first)

  -- a byte 1 and no item: no option
  pub some_rejected : {bytes : List ℕ} {start mid end : ℕ} {error : DeBinErr} → Decodes (EncodesNumber 1) bytes start 1 mid → ReadsNone S bytes mid end error → ReadsNone (EncodesOption S) bytes start start error
  some_rejected {bytes} {start} {mid} {end} {error} r none = then_rejected S (EncodesOption S) (number_encoding 1) bytes start mid end error 1 r none split
    where
      split : (a : List ℕ) (z : Option A) → EncodesOption S a z → (h t : List ℕ) × (b : ℕ) × (a ≡ h ++ t) × EncodesNumber 1 h b × (EncodesNumber 1 h 1 → (w : A) × S t w)
      split a None h = (a, [], h.0, sym (append-nil a), h.2, λ one. absurd (h.1 ((number_encoding 1).one_value a h.0 1 h.2 one)))
      split a (Some x) h = (h.head, h.tail, 1, h.whole, h.first, λ _. (x, h.second))

  pub none_reads : (bytes : List ℕ) (start end tag : ℕ) → Decodes (EncodesNumber 1) bytes start tag end → tag ≢ 1 → Decodes (EncodesOption S) bytes start None end
  none_reads bytes start end tag r other = as_reads (EncodesOption S) bytes start end tag None r (λ a h. (tag, other, h))

  pub some_reads : (bytes : List ℕ) (start mid end : ℕ) (x : A) → Decodes (EncodesNumber 1) bytes start 1 mid → Decodes S bytes mid x end → Decodes (EncodesOption S) bytes start (Some x) end
  some_reads bytes start mid end x r j = then_reads (EncodesOption S) bytes start mid end 1 x (Some x) r j (λ a b h k. record { head = a; tail = b; whole = refl; first = h; second = k })

-- ---- lists

module _ {A : Type 0} (S : List ℕ → A → Type 0) where
  items_push : (xs : List A) (y : A) (a b : List ℕ) → EncodesItems S a xs → S b y → EncodesItems S (a ++ b) (xs ++ y ∷ [])
  items_push [] y a b h j = (b, [], ap (λ l. l ++ b) h ∙ sym (append-nil b), j, refl)
  items_push (x ∷ xs) y a b h j = (h.0, h.1 ++ b, ap (λ l. l ++ b) h.2 ∙ append_assoc h.0 h.1 b, h.3, items_push xs y h.1 b h.4 j)

  -- where the next item does not decode, no longer list of items does
  items_rejected : {P : A → Type 0} → IsEncoding P S → (xs ys : List A) (a b here rest : List ℕ) → EncodesItems S a xs → DecodesToNothing S here → EncodesItems S b ys → a ++ here ≡ b ++ rest → length xs < length ys → ⊥
  items_rejected s xs [] a b here rest h none j e l = omega arith
  items_rejected s [] (y ∷ ys) a b here rest h none j e l =
      none y (record { prefix = j.0; rest = j.1 ++ rest; whole = sym (ap (λ l. l ++ here) h) ∙ (e ∙ (ap (λ l. l ++ rest) j.2 ∙ append_assoc j.0 j.1 rest)); is_encoded = j.3 })
  items_rejected s (x ∷ xs) (y ∷ ys) a b here rest h none j e l =
      let w = ap (λ l. l ++ here) (sym h.2) ∙ (e ∙ ap (λ l. l ++ rest) j.2) in
      let p = same_heads s h.0 j.0 h.1 j.1 here rest x y h.3 j.3 w in
      items_rejected s xs ys h.1 j.1 here rest h.4 none j.4 p.1 (omega arith)

  -- before the first item
  pub count_reads_none : (bytes : List ℕ) (start : ℕ) → Decodes (EncodesCount 0 S) bytes start [] start
  count_reads_none bytes start = record { prefix = []; whole = refl; moved = omega arith; is_encoded = record { count_is = refl; items = refl } }

  -- one more item
  pub count_reads_push : (bytes : List ℕ) (start mid end k : ℕ) (xs : List A) (y : A) → Decodes (EncodesCount k S) bytes start xs mid → Decodes S bytes mid y end → Decodes (EncodesCount (k + 1) S) bytes start (xs ++ y ∷ []) end
  count_reads_push bytes start mid end k xs y r j =
      then_reads (EncodesCount (k + 1) S) bytes start mid end xs y (xs ++ y ∷ []) r j (λ a b h i. record { count_is = let l = h.count_is in length-append xs (y ∷ []) ∙ omega (arith, l); items = items_push xs y a b h.items i })

  -- the next item does not decode
  pub count_rejected : {P : A → Type 0} → IsEncoding P S → {bytes : List ℕ} {start mid end k n : ℕ} {error : DeBinErr} {xs : List A} → Decodes (EncodesCount k S) bytes start xs mid → k < n → ReadsNone S bytes mid end error → ReadsNone (EncodesCount n S) bytes start start error
  count_rejected s {bytes} {start} {mid} {end} {k} {n} {error} {xs} r less rejected =
      let moved = r.moved in
      passed_on (EncodesCount n S) (omega (arith, moved)) rejected (λ more none ys f.
      let one = r.is_encoded.count_is in
      let two = f.is_encoded.count_is in
      let left = ap (λ l. l ++ more) r.whole ∙ append_assoc r.prefix (drop mid bytes) more in
      items_rejected s xs ys r.prefix f.prefix (drop mid bytes ++ more) f.rest r.is_encoded.items none f.is_encoded.items (sym left ∙ f.whole) (omega (arith, one, two)))

  -- where there is no count, there is no list
  pub list_rejected : {bytes : List ℕ} {start end : ℕ} {error : DeBinErr} → ReadsNone (EncodesNumber 8) bytes start end error → ReadsNone (EncodesList S) bytes start start error
  list_rejected {bytes} {start} {end} {error} none = first_rejected (EncodesNumber 8) (EncodesList S) bytes start end error none (λ a z s. (s.head, s.tail, length z, s.whole, s.count))

  pub list_items_rejected : {bytes : List ℕ} {start mid end n : ℕ} {error : DeBinErr} → Decodes (EncodesNumber 8) bytes start n mid → ReadsNone (EncodesCount n S) bytes mid end error → ReadsNone (EncodesList S) bytes start start error
  list_items_rejected {bytes} {start} {mid} {end} {n} {error} r none =
      then_rejected (EncodesCount n S) (EncodesList S) (number_encoding 8) bytes start mid end error n r none (λ a z s. (s.head, s.tail, length z, s.whole, s.count, λ one. (z, record { count_is = (number_encoding 8).one_value s.head (length z) n s.count one; items = s.items })))

  pub list_reads : (bytes : List ℕ) (start mid end n : ℕ) (xs : List A) → Decodes (EncodesNumber 8) bytes start n mid → Decodes (EncodesCount n S) bytes mid xs end → Decodes (EncodesList S) bytes start xs end
  list_reads bytes start mid end n xs r j =
      then_reads (EncodesList S) bytes start mid end n xs xs r j (λ a b h i. record { head = a; tail = b; whole = refl; count = subst (λ m. EncodesNumber 8 a m) (sym i.count_is) h; items = i.items })

-- ---- texts

pub text_rejected : {bytes : List ℕ} {start end : ℕ} {error : DeBinErr} → ReadsNone (EncodesNumber 8) bytes start end error → ReadsNone EncodesText bytes start start error
text_rejected {bytes} {start} {end} {error} none = first_rejected (EncodesNumber 8) EncodesText bytes start end error none (λ a z s. (s.head, z, length z, s.whole, s.count))

pub text_bytes_rejected : {bytes : List ℕ} {start mid end n : ℕ} {error : DeBinErr} → Decodes (EncodesNumber 8) bytes start n mid → ReadsNone (IsTextOf n) bytes mid end error → ReadsNone EncodesText bytes start start error
text_bytes_rejected {bytes} {start} {mid} {end} {n} {error} r none =
    then_rejected (IsTextOf n) EncodesText (number_encoding 8) bytes start mid end error n r none (λ a z s. (s.head, z, length z, s.whole, s.count, λ one. (z, record { same = refl; count_is = (number_encoding 8).one_value s.head (length z) n s.count one; is_utf8 = s.is_utf8 })))

pub text_reads : (bytes : List ℕ) (start mid end n : ℕ) (utf8 : List ℕ) → Decodes (EncodesNumber 8) bytes start n mid → Decodes (IsTextOf n) bytes mid utf8 end → Decodes EncodesText bytes start utf8 end
text_reads bytes start mid end n utf8 r j =
    then_reads EncodesText bytes start mid end n utf8 utf8 r j (λ a b h i. record { head = a; whole = ap (λ l. a ++ l) i.same; count = subst (λ m. EncodesNumber 8 a m) (sym i.count_is) h; is_utf8 = i.is_utf8 })

-- ---- the unit

pub unit_reads : (bytes : List ℕ) (start : ℕ) → Decodes EncodesUnit bytes start nothing start
unit_reads bytes start = record { prefix = []; whole = refl; moved = omega arith; is_encoded = record { empty = refl; is = refl } }
