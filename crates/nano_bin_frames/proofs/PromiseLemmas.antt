-- Frames that begin a stream, and the messages that are taken from it.
use Rattle.std.proofs.Common.{◌≡◌, ℕ, List, [], ◌∷◌, ◌++◌, length, map, refl, sym, ap, subst, ◌∙◌}
use Rattle.std.proofs.Common.{append_assoc, append-nil, arith, length-append, Option, Some, None}
use Rattle.std.proofs.lemmas.List.{append_cancel_left}
use Rattle.std.specs.Io.KnownBytes.{Keeps}
use Rattle.std.specs.List.{AllByRecursion}
use Rattle.nano_value.specs.Meaning.{Meaning, whole, listed, LegalList}
use Rattle.nano_meaning.proofs.MeaningLaws.{listed_injective, whole_injective}
use Rattle.nano_bin_bytes.specs.NumberImpls.{length-little_endian}
use Rattle.nano_bin_bytes.specs.Codec.{IsEncoding}
use Rattle.nano_bin_bytes.proofs.CodecLaws.{same_prefixes}
use Rattle.nano_bin.specs.ContainerCodecs.{list_codec}
use Rattle.nano_bin.specs.ScalarCodecs.{u8_codec}
use Rattle.nano_bin_frames.specs.Frames.{IsFrame, AppendsFrame, TakesMessage, HoldsNoMessage}
use Rattle.nano_bin_frames.specs.Outcomes.{AreFrames, AppendsFrames, AddsFrames, AreOneFrame}
use Rattle.nano_bin_frames.specs.Outcomes.{BeginsWithMessage, TakesMessages, IsOnTheWay}
use Rattle.nano_bin_frames.specs.Outcomes.{GivesMessages}

-- ---- frames

numbers_are_reported : (xs ys : List ℕ) → map whole xs ≡ map whole ys → xs ≡ ys
numbers_are_reported [] [] e = refl
numbers_are_reported [] (y ∷ ys) e = absurd (cc)
numbers_are_reported (x ∷ xs) [] e = absurd (cc)
numbers_are_reported (x ∷ xs) (y ∷ ys) e =
    let head : whole x ≡ whole y = cc in
    let tail : map whole xs ≡ map whole ys = cc in
    let one = whole_injective x y head in
    let others = numbers_are_reported xs ys tail in
    λ i. one i ∷ others i

pub one_frame : (frame other rest more code others : List ℕ) → IsFrame frame code → IsFrame other others
    → frame ++ rest ≡ other ++ more → AreOneFrame frame other rest more code others
one_frame frame other rest more code others h j e =
    let laws = (list_codec u8_codec).encoding.laws in
    let same = same_prefixes laws frame other rest more (listed (map whole code)) (listed (map whole others)) h j e in
    let moved = subst (λ (l : List ℕ). IsFrame l others) (sym same.0) j in
    let meanings = laws.one_value frame (listed (map whole code)) (listed (map whole others)) h moved in
    record {
      frames = same.0;
      rests = same.1;
      codes = numbers_are_reported code others (listed_injective _ _ meanings);
    }

-- a frame has its count at least
pub frame_is_some : (frame rest code : List ℕ) → IsFrame frame code → frame ++ rest ≡ [] → ⊥
frame_is_some frame rest code h e =
    let head = h.has.head in
    let eight : length head ≡ 8 = ap length h.has.count.whole ∙ length-little_endian 8 (length h.part) in
    let parts = length-append head h.has.tail in
    let joined = ap length h.has.whole in
    let all = length-append frame rest in
    let none = ap length e in
    omega (arith, eight, parts, joined, all, none)

-- ---- what is written

module _ (code : List ℕ) (codes : List (List ℕ)) (later : (before after : List ℕ) → AppendsFrames codes (Some before) (Some after)
    → AddsFrames codes before after) where
  one_frame_more : (before after : List ℕ) (between : Option (List ℕ)) → AppendsFrame code (Some before) between
      → AppendsFrames codes between (Some after) → AddsFrames (code ∷ codes) before after
  one_frame_more before after None h j = absurd h.written
  one_frame_more before after (Some middle) h j =
      let rest = later middle after j in
      record {
        stream = h.frame ++ rest.stream;
        following = rest.following ∙ (ap (λ l. l ++ rest.stream) h.written ∙ append_assoc before h.frame rest.stream);
        are = (h.frame, rest.stream, refl, h.is, rest.are);
      }

pub adds_frames : (codes : List (List ℕ)) (before after : List ℕ) → AppendsFrames codes (Some before) (Some after)
    → AddsFrames codes before after
adds_frames [] before after h = record { stream = []; following = h ∙ sym (append-nil before); are = refl }
adds_frames (code ∷ codes) before after h = one_frame_more code codes (adds_frames codes) before after h.0 h.1 h.2

-- ---- what is taken of a stream

module _ (encodes : List ℕ → Meaning → Type 0) where
  none_taken : (m : Meaning) (new : Option (List ℕ)) → TakesMessage encodes (Some []) new m → ⊥
  none_taken m None t = t.taken
  none_taken m (Some left) t = frame_is_some t.frame left t.code t.is (sym t.taken)

  holds_some : HoldsNoMessage encodes [] → ⊥
  holds_some h = frame_is_some h.begins.frame h.begins.rest h.code h.begins.is (sym h.begins.whole)

  unchanged_takes : (rest : List ℕ) (ms : List Meaning) (between new : Option (List ℕ)) → Keeps (Some rest) between
      → TakesMessages encodes ms between new → TakesMessages encodes ms (Some rest) new
  unchanged_takes rest ms None new k t = absurd k
  unchanged_takes rest ms (Some left) new k t = subst (λ (l : List ℕ). TakesMessages encodes ms (Some l) new) k t

  gives_all : (stream : List ℕ) (all : List Meaning) → TakesMessages encodes all (Some stream) (Some [])
      → ((some : List Meaning) (left : List ℕ) → TakesMessages encodes some (Some stream) (Some left) → IsOnTheWay encodes all some left)
      → GivesMessages encodes stream all
  gives_all stream all taken way = record {
    taken = taken;
    on_the_way = way;
    to_the_end = λ some t.
        let last = way some [] t in
        sym (last.in_order ∙ (ap (λ l. some ++ l) (last.ended.0 refl) ∙ append-nil some));
  }

  -- nothing is left
  nothing_on_the_way : (some : List Meaning) (left : List ℕ) → TakesMessages encodes some (Some []) (Some left)
      → IsOnTheWay encodes [] some left
  nothing_on_the_way [] left t =
      subst (λ (l : List ℕ). IsOnTheWay encodes [] [] l) (sym t) (record {
        others = [];
        in_order = refl;
        faultless = record { not_cut = λ h. h.some refl; not_bad = holds_some };
        ended = (λ e. refl, λ e. refl);
      })
  nothing_on_the_way (n ∷ ns) left t = absurd (none_taken n t.0 t.1)

  -- a message comes before others
  module _ (stream rest : List ℕ) (m : Meaning) (ms : List Meaning) (first : BeginsWithMessage encodes stream m rest)
      (later : GivesMessages encodes rest ms) where
    one_on_the_way : (some : List Meaning) (left : List ℕ) → TakesMessages encodes some (Some stream) (Some left)
        → IsOnTheWay encodes (m ∷ ms) some left
    one_on_the_way [] left t =
        subst (λ (l : List ℕ). IsOnTheWay encodes (m ∷ ms) [] l) (sym t) (record {
          others = m ∷ ms;
          in_order = refl;
          faultless = first.faultless;
          ended = (λ e. absurd (first.not_ended e), λ e. absurd (cc));
        })
    one_on_the_way (n ∷ ns) left t =
        let one : m ≡ n = sym (first.same n t.0 t.1) in
        let way = later.on_the_way ns left (unchanged_takes rest ns t.0 (Some left) (first.rest_is_left n t.0 t.1) t.2) in
        let more = way.in_order in
        record {
          others = way.others;
          in_order = λ i. one i ∷ more i;
          faultless = way.faultless;
          ended = way.ended;
        }

    gives_one_more : GivesMessages encodes stream (m ∷ ms)
    gives_one_more = gives_all stream (m ∷ ms) (Some rest, first.taken, later.taken) one_on_the_way

  module _ {legal : Meaning → Type 0} (laws : IsEncoding legal encodes) where
    takes_one : (frame rest code : List ℕ) (m n : Meaning) (new : Option (List ℕ)) → IsFrame frame code → encodes code m
        → TakesMessage encodes (Some (frame ++ rest)) new n → (n ≡ m) × Keeps (Some rest) new
    takes_one frame rest code m n None is is_encoded t = absurd t.taken
    takes_one frame rest code m n (Some left) is is_encoded t =
        let one = one_frame frame t.frame rest left code t.code is t.is t.taken in
        let other = subst (λ (l : List ℕ). encodes l n) (sym one.codes) t.is_encoded in
        (laws.one_value code n m other is_encoded, sym one.rests)

    holds_one : (frame rest code : List ℕ) (m : Meaning) → IsFrame frame code → encodes code m
        → HoldsNoMessage encodes (frame ++ rest) → ⊥
    holds_one frame rest code m is is_encoded h =
        let one = one_frame frame h.begins.frame rest h.begins.rest code h.code is h.begins.is h.begins.whole in
        h.none m (subst (λ (l : List ℕ). encodes l m) one.codes is_encoded)

    begins : (frame rest code : List ℕ) (m : Meaning) → IsFrame frame code → encodes code m
        → BeginsWithMessage encodes (frame ++ rest) m rest
    begins frame rest code m is is_encoded = record {
      taken = record { frame = frame; code = code; is = is; taken = refl; is_encoded = is_encoded };
      same = λ n new t. (takes_one frame rest code m n new is is_encoded t).0;
      rest_is_left = λ n new t. (takes_one frame rest code m n new is is_encoded t).1;
      faultless = record {
        not_cut = λ h. h.none code (record { frame = frame; rest = rest; whole = refl; is = is });
        not_bad = holds_one frame rest code m is is_encoded;
      };
      not_ended = frame_is_some frame rest code is;
    }

    -- what was appended is taken
    pub put_begins : (before frame rest code : List ℕ) (m : Meaning) → AppendsFrame code (Some before) (Some (before ++ frame))
        → encodes code m → BeginsWithMessage encodes (frame ++ rest) m rest
    put_begins before frame rest code m h is_encoded =
        let same = append_cancel_left before frame h.frame h.written in
        begins frame rest code m (subst (λ (l : List ℕ). IsFrame l code) (sym same) h.is) is_encoded

    -- frames of messages give them, and nothing else
    module _ {A : Type 0} (written : A → List ℕ) (means : A → Meaning) (allowed : Meaning → Type 0)
        (is_encoded : (x : A) → allowed (means x) → encodes (written x) (means x)) where
      gives : (xs : List A) (stream : List ℕ) → AllByRecursion allowed (map means xs) → AreFrames stream (map written xs)
          → GivesMessages encodes stream (map means xs)
      gives [] stream all are =
          subst (λ (l : List ℕ). GivesMessages encodes l []) (sym are) (gives_all [] [] refl nothing_on_the_way)
      gives (x ∷ xs) stream all are =
          let first = begins are.0 are.1 (written x) (means x) are.3 (is_encoded x all.0) in
          subst (λ (l : List ℕ). GivesMessages encodes l (means x ∷ map means xs)) (sym are.2)
          (gives_one_more (are.0 ++ are.1) are.1 (means x) (map means xs) first (gives xs are.1 all.1 are.4))

      pub frames_give : (xs : List A) (stream : List ℕ) → LegalList allowed (listed (map means xs))
          → AreFrames stream (map written xs) → GivesMessages encodes stream (map means xs)
      frames_give xs stream h =
          let same = listed_injective (map means xs) h.part h.is in
          gives xs stream (subst (AllByRecursion allowed) (sym same) h.has.items)
