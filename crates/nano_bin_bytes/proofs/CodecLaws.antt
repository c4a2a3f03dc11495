-- What is proved of Codec.
use Rattle.std.specs.Prelude.{◌≡◌, ◌&&◌, Bool, true, false, refl, ℕ, List, ◌++◌}
use Rattle.std.proofs.Common.{subst, sym, ap, ◌∙◌, append_assoc, ◌≤◌, ◌<◌, ◌+◌, [], ◌∷◌, map}
use Rattle.std.proofs.Common.{length, take, drop, set, get_or, Result, Ok, Err, OnErr}
use Rattle.std.proofs.lemmas.List.{append_cancel_left, append-nil, take-append-le, take_more_set}
use Rattle.std.proofs.lemmas.List.{map-append, drop_all}
use Rattle.std.specs.List.{flat_map}
use Rattle.std.proofs.lemmas.Grind.{flat_map-append}
use Rattle.std.proofs.Math.Numerals.{add-one}
use Rattle.std.proofs.Math.Seq.{take-suc, drop-cons}
use Rattle.nano_value.specs.Meaning.{Meaning, Agrees, IsImage}
use Rattle.nano_bin_bytes.specs.Codec.{Codec, IsEncoding}

module _ {A : Type 0} {means : A → Meaning} {legal : Meaning → Type 0} (f : Codec A)
    (agrees : Agrees means legal f.canonical.means f.encoding.legal) where
  -- the canonical encoding of a legal value encodes what the type says that it means
  pub encodes_written : f.is_decodable ≡ true → (x : A) → legal (means x)
      → f.encoding.encodes (f.canonical.written x) (means x)
  encodes_written is x h =
      let same : f.canonical.means x ≡ means x = ap (λ m. m x) agrees.means_is in
      let allowed = subst f.encoding.legal (sym same) (agrees.allows (means x) h) in
      subst (f.encoding.encodes (f.canonical.written x)) same (f.reads_back is x allowed)

  -- what means the same is written alike
  pub writes_same : (x y : A) → means x ≡ means y → f.canonical.written x ≡ f.canonical.written y
  writes_same x y e =
      f.canonical.same_written x y (subst (λ (m : A → Meaning). m x ≡ m y) (sym agrees.means_is) e)

-- where two are read, each is
pub both_read : (a b : Bool) → a && b ≡ true → (a ≡ true) × (b ≡ true)
both_read true b e = (refl, e)
both_read false b e = absurd (cc)

pub both_are_read : {a b : Bool} → a ≡ true → b ≡ true → a && b ≡ true
both_are_read {a} {b} e f = ap (λ c. c && b) e ∙ f

-- ==== encodings

module _ {A : Type 0} {P : A → Type 0} {S : List ℕ → A → Type 0} (s : IsEncoding P S) where
  -- where two equal lists begin with encodings, these are equal, and so is what follows them
  pub same_prefixes :
      (a b m n : List ℕ) (x y : A) → S a x → S b y → a ++ m ≡ b ++ n → (a ≡ b) × (m ≡ n)
  same_prefixes a b m n x y h j e =
      let one = s.one_prefix a b m n x y h j e in
      (one, append_cancel_left b m n (subst (λ l. l ++ m ≡ b ++ n) one e))

  -- the same where the lists are joined from three
  pub same_heads : (a b c d m n : List ℕ) (x y : A) → S a x → S b y → (a ++ c) ++ m ≡ (b ++ d) ++ n
      → (a ≡ b) × (c ++ m ≡ d ++ n)
  same_heads a b c d m n x y h j e =
      same_prefixes a b (c ++ m) (d ++ n) x y h j
      (sym (append_assoc a c m) ∙ (e ∙ append_assoc b d n))

  -- what encodes a part encodes the meaning that it is mapped to
  pub image_encoding : (f : A → Meaning) → IsEncoding (IsImage f P) (λ bytes. IsImage f (S bytes))
  image_encoding f = record {
    is_legal = λ a m h. record { part = h.part; has = s.is_legal a h.part h.has; is = h.is };
    one_value = λ a m n h j. h.is ∙ (ap f (s.one_value a h.part j.part h.has j.has) ∙ sym j.is);
    one_prefix = λ a b m n x y h j e. s.one_prefix a b m n h.part j.part h.has j.has e;
  }

-- ==== what writers append

-- what is written after the bytes that were there, plus the items that are left, makes all
-- items
pub record WritesSoFar {A : Type 0} (W : A → List ℕ) (before now : List ℕ) (left all : List A) : Type 0 where
  pub done : List ℕ
  pub is : now ≡ before ++ done
  pub rest : done ++ flat_map W left ≡ flat_map W all

module _ {A : Type 0} (W : A → List ℕ) where
  pub write_start : (before : List ℕ) (left all : List A) → left ≡ all → WritesSoFar W before before left all
  write_start before left all e = record { done = []; is = sym (append-nil before); rest = ap (flat_map W) e }

  pub write_step : (before now more : List ℕ) (left rest all : List A) (x : A) → WritesSoFar W before now left all → left ≡ x ∷ rest → more ≡ now ++ W x → WritesSoFar W before more rest all
  write_step before now more left rest all x h i e = record {
    done = h.done ++ W x;
    is = e ∙ (ap (λ l. l ++ W x) h.is ∙ append_assoc before h.done (W x));
    rest = append_assoc h.done (W x) (flat_map W rest) ∙ (ap (λ l. h.done ++ flat_map W l) (sym i) ∙ h.rest);
  }

  -- more items at once
  pub write_block : (before now more : List ℕ) (left block rest all : List A) → WritesSoFar W before now left all → left ≡ block ++ rest → more ≡ now ++ flat_map W block → WritesSoFar W before more rest all
  write_block before now more left block rest all h i e = record {
    done = h.done ++ flat_map W block;
    is = e ∙ (ap (λ l. l ++ flat_map W block) h.is ∙ append_assoc before h.done (flat_map W block));
    rest = append_assoc h.done (flat_map W block) (flat_map W rest) ∙ (ap (λ l. h.done ++ l) (sym (flat_map-append W block rest)) ∙ (ap (λ l. h.done ++ flat_map W l) (sym i) ∙ h.rest));
  }

  pub write_end : (before now : List ℕ) (left all : List A) → WritesSoFar W before now left all → left ≡ [] → now ≡ before ++ flat_map W all
  write_end before now left all h i = h.is ∙ ap (λ l. before ++ l) (sym (append-nil h.done) ∙ (ap (λ l. h.done ++ flat_map W l) (sym i) ∙ h.rest))

  -- cutting back to where it began leaves what was there
  pub cut_back : (start : ℕ) (before now : List ℕ) (left all : List A) → start ≤ length before → WritesSoFar W before now left all → take start now ≡ take start before
  cut_back start before now left all h so_far = ap (take start) so_far.is ∙ take-append-le start before so_far.done h

  -- the same for a loop over the places of a list: the items from the place on are left
  pub write_place : (before now more : List ℕ) (all : List A) (i : ℕ) (x : A) → WritesSoFar W before now (drop i all) all → i < length all → x ≡ get_or all i x → more ≡ now ++ W x → WritesSoFar W before more (drop (i + 1) all) all
  write_place before now more all i x h inside here e =
      write_step before now more (drop i all) (drop (i + 1) all) all x h (drop-cons all i x inside ∙ (λ j. sym here j ∷ drop (sym (add-one i) j) all)) e

  pub write_places : (before now : List ℕ) (all : List A) (i : ℕ) → WritesSoFar W before now (drop i all) all → length all ≤ i → now ≡ before ++ flat_map W all
  write_places before now all i h none = write_end before now (drop i all) all h (drop_all i all none)

  -- also where a part of the next item was written
  pub cut_back_after : (start : ℕ) (before now more part : List ℕ) (left all : List A) → start ≤ length before → WritesSoFar W before now left all → more ≡ now ++ part → take start more ≡ take start before
  cut_back_after start before now more part left all h so_far e =
      ap (take start) (e ∙ (ap (λ l. l ++ part) so_far.is ∙ append_assoc before so_far.done part)) ∙ take-append-le start before (so_far.done ++ part) h

-- one more item in its place
pub gather_step : {A B : Type 0} (f : A → B) (xs : List A) (ys : List B) (i : ℕ) (x : A) (y : B) → i < length xs → i < length ys → take i ys ≡ map f (take i xs) → x ≡ get_or xs i x → y ≡ f x → take (i + 1) (set ys i y) ≡ map f (take (i + 1) xs)
gather_step f xs ys i x y inside capacity so_far here is =
    let prefix : take (i + 1) xs ≡ take i xs ++ x ∷ [] = ap (λ n. take n xs) (add-one i) ∙ (take-suc xs i x inside ∙ ap (λ z. take i xs ++ z ∷ []) (sym here)) in
    take_more_set ys i y capacity ∙ ((λ j. so_far j ++ is j ∷ []) ∙ sym (ap (map f) prefix ∙ map-append f (take i xs) (x ∷ [])))

-- what holds anyway holds on an error
pub on_err_always : {T E P : Type 0} (r : Result T E) → P → OnErr r P
on_err_always (Ok x) h = tt
on_err_always (Err e) h = h
