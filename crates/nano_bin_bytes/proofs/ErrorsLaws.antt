-- What an error of a reader says where it is made, and where another reader passes it on.
use Rattle.std.proofs.Common.{◌≡◌, ℕ, ◌≤◌, refl, List, [], ◌++◌, length, drop, take}
use Rattle.std.proofs.Common.{sym, ◌∙◌, subst, ap, arith, IsUtf8}
use Rattle.std.proofs.lemmas.List.{append-nil, take-append-le}
use Rattle.std.proofs.Math.Seq.{take-append_seam}
use Rattle.nano_bin_bytes.specs.declared.error.DeBinErr.{DeBinErr}
use Rattle.nano_bin_bytes.specs.declared.error.DeBinKind.TheVariants.{Memory}
use Rattle.nano_bin_bytes.specs.Reading.{DecodesToNothing, Rejects, RejectsWithMore, IsReport}
use Rattle.nano_bin_bytes.specs.Reading.{IsTooShort, IsNotUtf8, rejection, ReadsNone}
use Rattle.nano_bin_bytes.specs.Reading.{ReadsNoneWhereShort}
use Rattle.nano_bin_bytes.specs.Containers.{IsTextOf}

-- what is said of the bytes alone
pub rejects_now : {A : Type 0} (S : List ℕ → A → Type 0) (bytes : List ℕ) (error : DeBinErr)
    → RejectsWithMore S bytes error → Rejects S bytes error
rejects_now S bytes error h other =
    subst (λ l. DecodesToNothing S l) (append-nil bytes) (h [] other (λ _. refl))

-- an error of a later offset is one of an earlier offset
pub report_from : (bytes : List ℕ) (start mid : ℕ) (error : DeBinErr) → start ≤ mid
    → IsReport bytes mid error → IsReport bytes start error
report_from bytes start mid error less r =
    let place = r.place in
    record {
      size = r.size;
      place = omega (arith, less, place);
      too_short = r.too_short;
      not_utf8 = r.not_utf8;
      memory = r.memory;
    }

-- ---- where it is made

module _ (bytes : List ℕ) (start place wanted : ℕ) (error : DeBinErr) (after : start ≤ place) where
  pub short_reports : IsTooShort bytes place wanted error → IsReport bytes start error
  short_reports h = subst (IsReport bytes start) (sym h.is) (record {
    size = refl;
    place = after;
    too_short = λ _. record { left = h.left; is = refl };
    not_utf8 = λ e. absurd (cc);
    memory = λ e. absurd (cc);
  })

  pub utf8_reports : IsNotUtf8 bytes place wanted error → IsReport bytes start error
  utf8_reports h = subst (IsReport bytes start) (sym h.is) (record {
    size = refl;
    place = after;
    too_short = λ e. absurd (cc);
    not_utf8 = λ _. record { left = h.left; wrong = h.wrong; is = refl };
    memory = λ e. absurd (cc);
  })

  -- too few bytes are left, and nothing decodes from them
  pub short_reads_none : {A : Type 0} (S : List ℕ → A → Type 0)
      → IsTooShort bytes place wanted error → DecodesToNothing S (drop start bytes)
      → ReadsNoneWhereShort S bytes start start place wanted error
  short_reads_none S h none = record {
    none = record {
      rejects = λ more other fits.
          let is = fits (ap (λ (e : DeBinErr). e.kind) h.is) in
          let same = ap (λ l. drop start bytes ++ l) is ∙ append-nil (drop start bytes) in
          subst (λ l. DecodesToNothing S l) (sym same) none;
      report = short_reports h;
      unchanged = refl;
    };
    short = h;
  }

-- no memory: this says nothing of the bytes
pub memory_reads_none : {A : Type 0} (S : List ℕ → A → Type 0) (bytes : List ℕ)
    (start place : ℕ) (error : DeBinErr) → start ≤ place → error ≡ rejection Memory place 0 bytes
    → ReadsNone S bytes start start error
memory_reads_none S bytes start place error after is = record {
  rejects = λ more other fits. absurd (other (ap (λ (e : DeBinErr). e.kind) is));
  report = subst (IsReport bytes start) (sym is) (record {
    size = refl;
    place = after;
    too_short = λ e. absurd (cc);
    not_utf8 = λ e. absurd (cc);
    memory = λ _. refl;
  });
  unchanged = refl;
}

-- as many bytes as a text has are there, and no UTF-8
pub utf8_reads_none : (bytes : List ℕ) (start count : ℕ) (error : DeBinErr)
    → IsNotUtf8 bytes start count error → ReadsNone (IsTextOf count) bytes start start error
utf8_reads_none bytes start count error h = record {
  rejects = λ more other fits utf8 f.
      let left = drop start bytes in
      let long = ap length f.is_encoded.same ∙ f.is_encoded.count_is in
      let first = ap (λ n. take n (f.prefix ++ f.rest)) (sym long) ∙ take-append_seam f.prefix f.rest in
      let same = sym (take-append-le count left more h.left) ∙ (ap (take count) f.whole ∙ (first ∙ f.is_encoded.same)) in
      h.wrong (subst IsUtf8 (sym same) f.is_encoded.is_utf8);
  report = utf8_reports bytes start start count error (omega arith) h;
  unchanged = refl;
}

-- ---- where it is passed on

-- nothing decodes from one offset on, since nothing does from a later one
pub passed_on : {A B : Type 0} {S : List ℕ → A → Type 0} (Q : List ℕ → B → Type 0)
    {bytes : List ℕ} {start mid end : ℕ} {error : DeBinErr} → start ≤ mid
    → ReadsNone S bytes mid end error
    → ((more : List ℕ) → DecodesToNothing S (drop mid bytes ++ more)
    → DecodesToNothing Q (drop start bytes ++ more))
    → ReadsNone Q bytes start start error
passed_on Q {bytes} {start} {mid} {error = error} less r pass = record {
  rejects = λ more other fits. pass more (r.rejects more other fits);
  report = report_from bytes start mid error less r.report;
  unchanged = refl;
}

-- nothing decodes, since nothing else does that each encoding of it begins with
pub passed_here : {A B : Type 0} {S : List ℕ → A → Type 0} (Q : List ℕ → B → Type 0)
    {bytes : List ℕ} {start end : ℕ} {error : DeBinErr} → ReadsNone S bytes start end error
    → ((left : List ℕ) → DecodesToNothing S left → DecodesToNothing Q left)
    → ReadsNone Q bytes start end error
passed_here Q {bytes} {start} r pass = record {
  rejects = λ more other fits. pass (drop start bytes ++ more) (r.rejects more other fits);
  report = r.report;
  unchanged = r.unchanged;
}
