-- What a reader of an enum answers, from what the readers of the tag and of the content answer.
use Rattle.std.proofs.Common.{◌≡◌, ℕ, refl, List, ◌++◌, drop, sym, subst, arith}
use Rattle.nano_value.specs.Meaning.{Meaning, whole}
use Rattle.nano_value.specs.Sums.{tagged}
use Rattle.nano_bin_bytes.specs.declared.error.DeBinErr.{DeBinErr}
use Rattle.nano_bin_bytes.specs.declared.error.DeBinKind.TheVariants.{Own}
use Rattle.nano_bin_bytes.specs.Reading.{Decodes, DecodesToNothing, ReadsNone, IsReport, rejection}
use Rattle.nano_bin_bytes.proofs.ErrorsLaws.{passed_on}
use Rattle.nano_bin_bytes.specs.Scalars.{EncodesNumber, EncodesUnsigned}
use Rattle.nano_bin_bytes.proofs.ScalarsLaws.{number_encoding}
use Rattle.nano_bin_bytes.specs.Variants.{Variants, Variant, EncodesVariant, EncodesEnum}
use Rattle.nano_bin_bytes.specs.Variants.{encoding_at, variant_means}
use Rattle.nano_bin.proofs.Readers.{then_reads, then_nothing, first_rejected, image_reads}
use Rattle.nano_bin.proofs.Readers.{image_rejected, unsigned_reads, unsigned_rejected}

-- what the error of a user-defined type tells, where it wants no bytes at its place
pub unknown_reports : (bytes : List ℕ) (start : ℕ) (error : DeBinErr)
    → error ≡ rejection Own start 0 bytes → IsReport bytes start error
unknown_reports bytes start error is = subst (IsReport bytes start) (sym is) (record {
  size = refl;
  place = omega arith;
  too_short = λ e. absurd (cc);
  not_utf8 = λ e. absurd (cc);
  memory = λ e. refl;
})

module _ (vs : Variants) (bytes : List ℕ) where
  -- the tag was read, and the content after it
  pub variant_reads :
      (start mid end tag : ℕ) (content : Meaning)
      → Decodes (EncodesUnsigned 2) bytes start (whole tag) mid
      → Decodes (encoding_at vs tag).encodes bytes mid content end
      → Decodes (EncodesEnum vs) bytes start (tagged tag content) end
  variant_reads start mid end tag content r j =
      let v : Variant = record { tag = tag; content = content } in
      image_reads variant_means bytes start end v
      (then_reads (EncodesVariant vs) bytes start mid end tag content v (unsigned_reads 2 bytes start mid tag r) j
      (λ a b h k. record { head = a; tail = b; whole = refl; tagged = h; content = k }))

  -- the tag was read, and the content that it says does not follow it, whatever comes then
  pub content_nothing :
      (start mid tag : ℕ) (more : List ℕ)
      → Decodes (EncodesUnsigned 2) bytes start (whole tag) mid
      → DecodesToNothing (encoding_at vs tag).encodes (drop mid bytes ++ more)
      → DecodesToNothing (EncodesEnum vs) (drop start bytes ++ more)
  content_nothing start mid tag more r none m f =
      then_nothing (encoding_at vs tag).encodes (EncodesVariant vs) (number_encoding 2) bytes start mid more tag (unsigned_reads 2 bytes start mid tag r) none
      (λ a v s. (
        s.head,
        s.tail,
        v.tag,
        s.whole,
        s.tagged,
        λ same.
            let is = (number_encoding 2).one_value s.head v.tag tag s.tagged same in
            (v.content, subst (λ k. (encoding_at vs k).encodes s.tail v.content) is s.content),
      ))
      f.is_encoded.part (record { prefix = f.prefix; rest = f.rest; whole = f.whole; is_encoded = f.is_encoded.has })

  -- the error of the content is that of the enum
  pub content_rejected :
      (start mid end tag : ℕ) (error : DeBinErr)
      → Decodes (EncodesUnsigned 2) bytes start (whole tag) mid
      → ReadsNone (encoding_at vs tag).encodes bytes mid end error
      → ReadsNone (EncodesEnum vs) bytes start start error
  content_rejected start mid end tag error r none =
      let moved = r.moved in
      passed_on (EncodesEnum vs) (omega (arith, moved)) none (λ more. content_nothing start mid tag more r)

  -- a tag that no variant has, which is reported at its place
  pub unknown_rejected :
      (start mid tag : ℕ) (error : DeBinErr)
      → Decodes (EncodesUnsigned 2) bytes start (whole tag) mid
      → ((a : List ℕ) (m : Meaning) → (encoding_at vs tag).encodes a m → ⊥)
      → error ≡ rejection Own start 0 bytes
      → ReadsNone (EncodesEnum vs) bytes start start error
  unknown_rejected start mid tag error r none is = record {
    rejects = λ more other fits. content_nothing start mid tag more r (λ m f. none f.prefix m f.is_encoded);
    report = unknown_reports bytes start error is;
    unchanged = refl;
  }

  -- no tag stands there
  pub tag_rejected :
      (start end : ℕ) (error : DeBinErr)
      → ReadsNone (EncodesUnsigned 2) bytes start end error
      → ReadsNone (EncodesEnum vs) bytes start start error
  tag_rejected start end error none =
      image_rejected (EncodesVariant vs) variant_means
      (first_rejected (EncodesNumber 2) (EncodesVariant vs) bytes start end error (unsigned_rejected 2 none)
      (λ a v s. (s.head, s.tail, v.tag, s.whole, s.tagged)))
