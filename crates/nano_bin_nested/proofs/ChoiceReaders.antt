-- What is read of a choice of variants, from what is read of the first of them and of the others.
use Rattle.std.specs.Prelude.{◌≡◌, ◌≢◌, ◌+◌, ◌-◌, ℕ, zero, suc, List, refl, drop}
use Rattle.std.proofs.Common.{◌∙◌, subst, ap, arith, ◌≤◌, sym}
use Rattle.nano_value.specs.Meaning.{Meaning}
use Rattle.nano_value.specs.Sums.{tagged, count_variants}
use Rattle.nano_bin_bytes.specs.Reading.{Decodes, RejectsWithMore, ReadsNone, rejection}
use Rattle.nano_bin_bytes.proofs.ErrorsLaws.{report_from}
use Rattle.nano_bin.proofs.Variants.{unknown_reports}
use Rattle.nano_bin_bytes.specs.declared.error.DeBinErr.{DeBinErr}
use Rattle.nano_bin_bytes.specs.declared.error.DeBinKind.TheVariants.{Own}
use Rattle.nano_bin_bytes.specs.Codec.{Codec}
use Rattle.nano_bin_bytes.specs.Variants.{Variants, variant, body, encoding_at, no_variants}
use Rattle.nano_bin_bytes.specs.Variants.{legal_bodies}
use Rattle.nano_schema.specs.Choices.{either_is}
use Rattle.nano_schema.specs.declared.choices.Either.TheVariants.{First, Later}
use Rattle.nano_bin_schema.specs.Choices.{DecodesChoice, ReadsNoVariant}
use Rattle.nano_bin_bytes.specs.Scalars.{EncodesNumber}
use Rattle.nano_bin_bytes.proofs.CodecLaws.{same_prefixes}
use Rattle.nano_bin_bytes.proofs.ScalarsLaws.{number_encoding}

module _ {A : Type 0} (f : Codec A) (others : Variants) (means : A → Meaning) (bytes : List ℕ)
    (start end : ℕ) where
  pub reads_first : {B : Type 0} (later : ℕ → B → Meaning) (x : A)
      → Decodes f.encoding.encodes bytes start (means x) end
      → DecodesChoice (λ from. either_is (λ a. tagged from (means a)) (later (suc from)))
      (variant (body f) others) 0 bytes start (First x) end
  reads_first later x h = record {
    content = means x;
    meant = λ from. let e : from ≡ 0 + from = omega arith in ap (λ n. tagged n (means x)) e;
    reads = h;
  }

  pub reads_last : (x : A) → Decodes f.encoding.encodes bytes start (means x) end
      → DecodesChoice (λ from a. tagged from (means a)) (variant (body f) others) 0 bytes start x
      end
  reads_last x h = record {
    content = means x;
    meant = λ from. let e : from ≡ 0 + from = omega arith in ap (λ n. tagged n (means x)) e;
    reads = h;
  }

pub reads_later : {A B : Type 0} (f : Codec A) (others : Variants) (means : A → Meaning)
    (later : ℕ → B → Meaning) (tag : ℕ) (bytes : List ℕ) (start end : ℕ) (x : B)
    → tag ≢ 0 → DecodesChoice later others (tag - 1) bytes start x end
    → DecodesChoice (λ from. either_is (λ a. tagged from (means a)) (later (suc from)))
    (variant (body f) others) tag bytes start (Later x) end
reads_later f others means later zero bytes start end x some h = absurd (some refl)
reads_later f others means later (suc tag) bytes start end x some h =
    let e : suc tag - 1 ≡ tag = omega arith in
    record {
      content = h.content;
      meant = λ from.
          let sum : (suc tag - 1) + suc from ≡ suc tag + from = omega arith in
          h.meant (suc from) ∙ ap (λ n. tagged n h.content) sum;
      reads = subst (λ n. Decodes (encoding_at others n).encodes bytes start h.content end) e
          h.reads;
    }

module _ {A : Type 0} (f : Codec A) (others : Variants) {bytes : List ℕ} {start offset end : ℕ} {error : DeBinErr} where
  -- the content of the first variant is not there
  pub first_unread : ReadsNone f.encoding.encodes bytes offset end error
      → ReadsNoVariant (variant (body f) others) 0 bytes start offset end error
  first_unread h = record {
    rejects = h.rejects;
    report = λ after. report_from bytes start offset error after h.report;
    own = λ few. absurd (omega (arith, few));
    unchanged = h.unchanged;
  }

  -- that of a later one is not there
  pub later_unread : (tag : ℕ) → tag ≢ 0 → ReadsNoVariant others (tag - 1) bytes start offset end error
      → ReadsNoVariant (variant (body f) others) tag bytes start offset end error
  later_unread zero some h = absurd (some refl)
  later_unread (suc tag) some h =
      let e : suc tag - 1 ≡ tag = omega arith in
      record {
        rejects = subst (λ n. RejectsWithMore (encoding_at others n).encodes (drop offset bytes) error) e h.rejects;
        report = h.report;
        own = λ few. h.own (rw e (omega (arith, few)));
        unchanged = h.unchanged;
      }

-- ==== tags

-- one tag at most stands at a place
pub one_tag : (bytes : List ℕ) (start m n x y : ℕ) → Decodes (EncodesNumber 2) bytes start x m
    → Decodes (EncodesNumber 2) bytes start y n → x ≡ y
one_tag bytes start m n x y r s =
    let e = same_prefixes (number_encoding 2) r.prefix s.prefix (drop m bytes) (drop n bytes) x y
    r.is_encoded s.is_encoded (sym r.whole ∙ s.whole) in
    (number_encoding 2).one_value s.prefix x y (subst (λ l. EncodesNumber 2 l x) e.0 r.is_encoded) s.is_encoded

-- nothing is the content of a tag that no variant has
pub unknown_content : (vs : Variants) (tag : ℕ) → count_variants (legal_bodies vs) ≤ tag
    → (bytes : List ℕ) (m : Meaning) → (encoding_at vs tag).encodes bytes m → ⊥
unknown_content no_variants tag h a m e = e
unknown_content (variant b others) zero h a m e = omega (arith, h)
unknown_content (variant b others) (suc tag) h a m e =
    let less : count_variants (legal_bodies others) ≤ tag = omega (arith, h) in
    unknown_content others tag less a m e

-- no variant comes after the last: a tag other than its own is reported
pub none_unread : {A : Type 0} (f : Codec A) (bytes : List ℕ) (start offset tag : ℕ)
    (error : DeBinErr) → tag ≢ 0 → error ≡ rejection Own start 0 bytes
    → ReadsNoVariant (variant (body f) no_variants) tag bytes start offset offset error
none_unread f bytes start offset tag error some is = record {
  rejects = λ more other fits m r.
      unknown_content (variant (body f) no_variants) tag (omega (arith, some)) r.prefix m r.is_encoded;
  report = λ after. unknown_reports bytes start error is;
  own = λ few. is;
  unchanged = refl;
}
