-- Frames in what is left of a stream.
use Rattle.std.proofs.Common.{◌≡◌, ◌≢◌, ℕ, ◌^◌, ◌<◌, List, [], ◌∷◌, ◌++◌, length, drop, map, refl}
use Rattle.std.proofs.Common.{sym, ap, subst, ◌∙◌, append_assoc, append-nil, length-append, arith}
use Rattle.std.proofs.Common.{take, take-append-drop, length-drop, Option, Some, None, IfSome}
use Rattle.std.proofs.Common.{Result, Ok, Err, OnOk}
use Rattle.std.specs.Io.KnownBytes.{Appends, Consumes, Keeps, IsAtEnd, prepend_known}
use Rattle.std.proofs.KnownBytes.{Appends-nil, Appends-trans, Appends-kept}
use Rattle.nano_value.specs.Meaning.{Meaning, whole, listed, IsImage, LegalUnsigned, LegalList}
use Rattle.nano_meaning.proofs.MeaningLaws.{list_weaker}
use Rattle.nano_bin_bytes.specs.Scalars.{little_endian, EncodesUnsigned}
use Rattle.nano_bin_bytes.specs.NumberImpls.{length-little_endian}
use Rattle.nano_bin_bytes.specs.Reading.{Decodes, DecodesToNothing, RejectsWhole, IsOfTrailing}
use Rattle.nano_bin_bytes.specs.Reading.{RejectsWholeWithMore, IsReport}
use Rattle.nano_bin_bytes.specs.Reading.{NamesTrailing}
use Rattle.nano_bin_bytes.specs.Containers.{EncodesAll}
use Rattle.nano_bin_bytes.proofs.ListsLaws.{list_reads_back}
use Rattle.nano_bin.specs.ScalarCodecs.{u8_codec}
use Rattle.nano_bin_bytes.specs.declared.error.DeBinErr.{DeBinErr}
use Rattle.nano_bin_bytes.specs.declared.error.DeBinKind.TheVariants.{Memory}
use Rattle.nano_bin_frames.specs.declared.error.Fault.{Fault}
use Rattle.nano_bin_frames.specs.declared.error.Fault.TheVariants.{Bad, Stream}
use Rattle.nano_bin_frames.specs.Frames.{IsOfStream, of_code, IsFrame, frame_of, AppendsFrame}
use Rattle.nano_bin_frames.specs.Frames.{WritesUpTo, DecodesAfter, IsCut, HoldsNoMessage}
use Rattle.nano_bin_frames.specs.Frames.{RejectsCode, RejectsFrame}

-- ---- what is written

byte_legal : (m : Meaning) → LegalUnsigned 8 m → IsImage whole (λ n. n < 256 ^ 1) m
byte_legal m h = record { part = h.part; has = h.has; is = h.is }

pub is_frame : (code : List ℕ) → LegalList (LegalUnsigned 8) (listed (map whole code))
    → IsFrame (frame_of code) code
is_frame code h =
    list_reads_back u8_codec refl code
    (list_weaker (LegalUnsigned 8) (IsImage whole (λ n. n < 256 ^ 1)) byte_legal _ h)

-- what was written is a frame of the code
pub writes_frame : {T E : Type 0} (r : Result T E) (code written bytes : List ℕ) (old new : Option (List ℕ))
    → LegalList (LegalUnsigned 8) (listed (map whole code)) → code ≡ written
    → bytes ≡ frame_of code → OnOk r (Appends old new bytes)
    → OnOk r (AppendsFrame written old new)
writes_frame (Ok x) code written bytes old new legal is e h =
    subst (λ l. AppendsFrame l old new) is (record {
      frame = bytes;
      is = subst (λ l. IsFrame l code) (sym e) (is_frame code legal);
      written = h;
    })
writes_frame (Err x) code written bytes old new legal is e h = tt

-- nothing was written
pub WritesUpTo-nothing : (a : Option (List ℕ)) (bytes : List ℕ) → WritesUpTo bytes a a bytes
WritesUpTo-nothing a bytes = record { prefix = []; whole = refl; written = Appends-nil a }

begins_with_eight : (xs ys : List ℕ) → length xs ≡ 8 → xs ++ ys ≢ []
begins_with_eight xs ys eight e =
    let none : length (xs ++ ys) ≡ 0 = ap length e in
    let parts = length-append xs ys in
    omega (arith, eight, none, parts)

-- a frame has its count at least
pub frame_has_bytes : (code : List ℕ) → frame_of code ≢ []
frame_has_bytes code =
    begins_with_eight (little_endian 8 (length code)) _ (length-little_endian 8 (length code))

module _ (a b c : Option (List ℕ)) (bytes rest : List ℕ) (so_far : WritesUpTo rest a b bytes) where
  -- one more write took so many bytes of the rest
  pub WritesUpTo-more : (count : ℕ) (next : List ℕ) → next ≡ drop count rest
      → Appends b c (take count rest) → WritesUpTo next a c bytes
  WritesUpTo-more count next left h = record {
    prefix = so_far.prefix ++ take count rest;
    whole =
        so_far.whole ∙ (ap (λ l. so_far.prefix ++ l)
        (sym (take-append-drop count rest) ∙ ap (λ l. take count rest ++ l) (sym left))
        ∙ sym (append_assoc so_far.prefix (take count rest) next));
    written = Appends-trans a b c so_far.prefix (take count rest) so_far.written h;
  }

  -- one more write took nothing
  pub WritesUpTo-unchanged : Keeps b c → WritesUpTo rest a c bytes
  WritesUpTo-unchanged h =
      record {
        prefix = so_far.prefix;
        whole = so_far.whole;
        written = Appends-kept a b c so_far.prefix so_far.written h;
      }

-- ---- what is read

pub no_frame : (bytes : List ℕ) → DecodesToNothing (EncodesAll listed (EncodesUnsigned 1)) bytes
    → DecodesToNothing IsFrame bytes
no_frame bytes none code f =
    none (listed (map whole code))
    (record { prefix = f.prefix; rest = f.rest; whole = f.whole; is_encoded = f.is_encoded })

-- ---- what is left

pub unchanged_then : (a b : Option (List ℕ)) (P : List ℕ → Type 0) → Keeps a b → IfSome b P → IfSome a P
unchanged_then None b P k h = tt
unchanged_then (Some x) None P k h = absurd k
unchanged_then (Some x) (Some y) P k h = subst P k h

-- a frame at the offset is there, and it holds no message
holds_at : (encodes : List ℕ → Meaning → Type 0) (known : Option (List ℕ)) (bytes code prefix rest : List ℕ) → bytes ≡ prefix ++ rest → IsFrame prefix code
    → ((m : Meaning) → encodes code m → ⊥)
    → IfSome (prepend_known bytes known) (HoldsNoMessage encodes)
holds_at encodes None bytes code prefix rest e is none = tt
holds_at encodes (Some xs) bytes code prefix rest e is none = record {
  code = code;
  begins = record { frame = prefix; rest = rest ++ xs; whole = ap (λ l. l ++ xs) e ∙ append_assoc prefix rest xs; is = is };
  none = none;
}

pub holds_no_message : (encodes : List ℕ → Meaning → Type 0) (old known : Option (List ℕ)) (bytes code : List ℕ) (start end : ℕ)
    → Keeps old (prepend_known (drop start bytes) known)
    → Decodes IsFrame bytes start code end → ((m : Meaning) → encodes code m → ⊥)
    → IfSome old (HoldsNoMessage encodes)
holds_no_message encodes old known bytes code start end k r none =
    unchanged_then old (prepend_known (drop start bytes) known) (HoldsNoMessage encodes) k
    (holds_at encodes known (drop start bytes) code r.prefix (drop end bytes) r.whole r.is_encoded none)

-- a frame at the offset is there, and this is the error of reading its code
rejects_at : (encodes : List ℕ → Meaning → Type 0) (known : Option (List ℕ)) (error : DeBinErr) (bytes code prefix rest : List ℕ)
    → bytes ≡ prefix ++ rest → IsFrame prefix code → RejectsCode encodes code error
    → IfSome (prepend_known bytes known) (RejectsFrame encodes error)
rejects_at encodes None error bytes code prefix rest e is r = tt
rejects_at encodes (Some xs) error bytes code prefix rest e is r = record {
  code = code;
  begins = record { frame = prefix; rest = rest ++ xs; whole = ap (λ l. l ++ xs) e ∙ append_assoc prefix rest xs; is = is };
  rejects = r;
}

pub rejects_frame : (encodes : List ℕ → Meaning → Type 0) (old known : Option (List ℕ)) (error : DeBinErr) (bytes code : List ℕ) (start end : ℕ)
    → Keeps old (prepend_known (drop start bytes) known)
    → Decodes IsFrame bytes start code end → RejectsCode encodes code error
    → IfSome old (RejectsFrame encodes error)
rejects_frame encodes old known error bytes code start end k r rejects =
    unchanged_then old (prepend_known (drop start bytes) known) (RejectsFrame encodes error) k
    (rejects_at encodes known error (drop start bytes) code r.prefix (drop end bytes) r.whole r.is_encoded rejects)

-- the error, with the size of the code, is one of reading the code
pub rejects_code : (encodes : List ℕ → Meaning → Type 0) (code : List ℕ) (error : DeBinErr) → error.kind ≢ Memory
    → IsReport code 0 error → RejectsWhole encodes code error → RejectsWholeWithMore encodes code error
    → IsOfTrailing encodes code error → NamesTrailing encodes code error
    → RejectsCode encodes code (of_code code error)
rejects_code encodes code error kind report rejects more trailing following = record {
  report = record {
    size = refl;
    place = report.place;
    too_short = λ is.
        let r = report.too_short is in
        record { left = r.left; is = ap (of_code code) r.is };
    not_utf8 = λ is.
        let r = report.not_utf8 is in
        record { left = r.left; wrong = r.wrong; is = ap (of_code code) r.is };
    memory = report.memory;
  };
  not_memory = kind;
  rejects = rejects;
  more = more;
  trailing = λ is.
      let r = trailing is in
      record { value = r.value; fits = r.fits; more = r.more; is = ap (of_code code) r.is };
  following = following;
}

-- the fault that is made of such an error, where it carries one
pub fault_rejects : (encodes : List ℕ → Meaning → Type 0) (code : List ℕ) (error : DeBinErr) (fault : Fault)
    → (error.kind ≡ Memory → IsOfStream fault) → (error.kind ≢ Memory → fault ≡ Bad (of_code code error))
    → IsReport code 0 error → RejectsWhole encodes code error → RejectsWholeWithMore encodes code error
    → IsOfTrailing encodes code error → NamesTrailing encodes code error
    → (carried : DeBinErr) → fault ≡ Bad carried → RejectsCode encodes code carried
fault_rejects encodes code error fault memory bad report rejects more trailing following carried is =
    let not_memory : error.kind ≢ Memory =
    (λ m. let stream = memory m in let e : Bad carried ≡ Stream stream.0 = sym is ∙ stream.1 in cc) in
    let same : of_code code error ≡ carried = (let e : Bad (of_code code error) ≡ Bad carried = sym (bad not_memory) ∙ is in cc) in
    subst (RejectsCode encodes code) same (rejects_code encodes code error not_memory report rejects more trailing following)

-- ---- one more read

pub refilled : (known rest : Option (List ℕ)) (old new : List ℕ) (count : ℕ)
    → DecodesAfter known rest old new count
    → Keeps (prepend_known old known) (prepend_known new rest)
refilled None rest old new count h = tt
refilled (Some xs) None old new count h = absurd h.consumed
refilled (Some xs) (Some ys) old new count h =
    ap (λ l. l ++ ys) h.following ∙ (append_assoc old h.came ys ∙ ap (λ l. old ++ l) (sym h.consumed))

pub drop_some : (place : ℕ) (l : List ℕ) → place < length l → drop place l ≢ []
drop_some place l h e = let long = length-drop place l in let none = ap length e in omega (arith, long, none)

nothing_came : (l : List ℕ) → length l ≡ 0 → l ≡ []
nothing_came [] e = refl
nothing_came (x ∷ xs) e = absurd (omega arith)

-- where nothing came, the bytes are as they were, and they are all that is left
module _ (known rest : Option (List ℕ)) (old new : List ℕ) (h : DecodesAfter known rest old new 0) where
  pub same_bytes : new ≡ old
  same_bytes = h.following ∙ (ap (λ l. old ++ l) (nothing_came h.came h.many) ∙ append-nil old)

  at_end : (a b : Option (List ℕ)) → Consumes a b h.came → IsAtEnd b → IfSome a (λ xs. xs ≡ [])
  at_end None b p q = tt
  at_end (Some xs) None p q = absurd p
  at_end (Some xs) (Some ys) p q = p ∙ (ap (λ l. l ++ ys) (nothing_came h.came h.many) ∙ q)

  all_is_left : (a : Option (List ℕ)) → IfSome a (λ xs. xs ≡ []) → (P : List ℕ → Type 0) → P old
      → IfSome (prepend_known old a) P
  all_is_left None e P p = tt
  all_is_left (Some xs) e P p = subst P (sym (ap (λ l. old ++ l) e ∙ append-nil old)) p

  -- bytes are left that are no frame
  pub is_cut : (stream : Option (List ℕ)) → Keeps stream (prepend_known old known) → new ≢ []
      → DecodesToNothing IsFrame old → IfSome stream IsCut
  is_cut stream k some none =
      unchanged_then stream (prepend_known old known) IsCut k
      (all_is_left known (at_end known rest h.consumed (h.ended refl)) IsCut (record {
        some = λ e. some (same_bytes ∙ e);
        none = λ code b. none code (record { prefix = b.frame; rest = b.rest; whole = b.whole; is_encoded = b.is });
      }))
