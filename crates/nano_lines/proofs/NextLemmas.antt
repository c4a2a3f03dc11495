-- What a call for the next value comes to, by its steps.
use Rattle.std.proofs.Common.{◌≡◌, ◌≤◌, ◌<◌, ℕ, List, [], ◌∷◌, ◌++◌, false, length, sym, ap, subst, ◌∙◌, append-nil, Option, None, String}
use Rattle.std.specs.Global.{Global}
use Rattle.std.specs.List.{AllByRecursion}
use Rattle.nano_text.specs.Place.{saturating_next}
use Rattle.nano_value.specs.Meaning.{Meaning}
use Rattle.nano_json_tokens.specs.Token.{Token}
use Rattle.nano_json_tokens.specs.declared.error.DeJsonErr.{DeJsonErr}
use Rattle.nano_lines.specs.declared.error.Fault.{Fault}
use Rattle.nano_lines.specs.declared.error.Fault.TheVariants.{Long, Stream}
use Rattle.nano_lines.specs.declared.lines.Lines.{Lines}
use Rattle.nano_lines.specs.declared.line.Line.{Line}
use Rattle.nano_lines.specs.declared.line.Line.TheVariants.{Blank, Value, Bad as BadLine, NotUtf8 as NoText}
use Rattle.nano_lines.specs.Buffers.{unread_to}
use Rattle.nano_lines.specs.Faults.{IsOfStream}
use Rattle.nano_lines.specs.Lines.{IsBlank, HoldsValue}
use Rattle.nano_lines.specs.Outcomes.{IsPassed, TakesBlanks, TakesNext, TakesFault, Answers}
use Rattle.nano_lines.specs.Reads.{IsRead, RejectsLine, IsNoText}
use Rattle.nano_lines.specs.Steps.{TakesLines, TakesLine, KeepsAll, Finds, FindsNone}
use Rattle.nano_lines.proofs.LeftLemmas.{keeps-same, takes-trans, lines-append}

passed-append : (limit : ℕ) (xs ys : List (List ℕ)) → AllByRecursion (IsPassed limit) xs → AllByRecursion (IsPassed limit) ys
    → AllByRecursion (IsPassed limit) (xs ++ ys)
passed-append limit [] ys h j = j
passed-append limit (x ∷ xs) ys h j = (h.0, passed-append limit xs ys h.1 j)

module _ {R : Type 0} (remaining : R → Option (List ℕ)) where
  pub no_blanks : (a : Lines R) → TakesBlanks remaining a a
  no_blanks a = record { blanks = []; passed = tt; taken = keeps-same remaining a }

  pub blanks-unchanged : (a b c : Lines R) → TakesBlanks remaining a b → KeepsAll remaining b c → TakesBlanks remaining a c
  blanks-unchanged a b c h j = record {
    blanks = h.blanks;
    passed = h.passed;
    taken = subst (TakesLines remaining a c) (append-nil h.blanks) (takes-trans remaining a b c h.blanks [] h.taken j);
  }

  -- the next line is the one that ends there
  module _ (a b c : Lines R) (place : ℕ) (h : TakesBlanks remaining a b) (whole : b.long ≡ false)
      (fits : length (unread_to b.buffer place) ≤ b.limit) (taken : TakesLine remaining b c place) where
    pub takes_next : (P : ℕ → List ℕ → Type 0) → P b.number (unread_to b.buffer place) → TakesNext remaining a c P
    takes_next P p = record {
      blanks = h.blanks;
      line = unread_to b.buffer place;
      passed = h.passed;
      taken = takes-trans remaining a b c h.blanks (unread_to b.buffer place ∷ []) h.taken (taken.short whole);
      fits = subst (λ (n : ℕ). length (unread_to b.buffer place) ≤ n) h.taken.limit fits;
      holds = subst (λ (n : ℕ). P n (unread_to b.buffer place)) h.taken.number p;
    }

    pub takes_blank : IsBlank (unread_to b.buffer place) → TakesBlanks remaining a c
    takes_blank blank = record {
      blanks = h.blanks ++ unread_to b.buffer place ∷ [];
      passed = passed-append a.limit h.blanks (unread_to b.buffer place ∷ []) h.passed
          (record { blank = blank; fits = subst (λ (n : ℕ). length (unread_to b.buffer place) ≤ n) h.taken.limit fits }, tt);
      taken = takes-trans remaining a b c h.blanks (unread_to b.buffer place ∷ []) h.taken (taken.short whole);
    }

  module _ (encodes : List Token → Meaning → Type 0) where
    pub faults : (a b c : Lines R) (fault : Fault) → TakesBlanks remaining a b → FindsNone remaining b c fault
        → TakesFault remaining a c encodes fault
    faults a b c (Long number) h j = record {
      blanks = h.blanks;
      passed = h.passed;
      left = λ s l.
          let first = h.taken.left s l in
          let second = j.1.left first.0 first.2 in (
            second.0,
            (second.1.0, lines-append h.blanks (second.0 ∷ []) s first.0 second.1.0 first.1 second.1.1, second.1.2),
            subst (λ (n : ℕ). n < length second.0) h.taken.limit second.2,
          );
      number_is = j.0 ∙ h.taken.number;
      next = j.1.number ∙ ap saturating_next (sym j.0);
      limit = j.1.limit ∙ h.taken.limit;
    }
    faults a b c (Stream error) h j = blanks-unchanged a b c h j
    faults a b c _ h j = absurd j

    pub of_stream : (a b : Lines R) (fault : Fault) → TakesBlanks remaining a b → IsOfStream fault
        → TakesFault remaining a b encodes fault
    of_stream a b fault h j = subst (TakesFault remaining a b encodes) (sym j.1) h

    pub takes_all : {T : Type 0} (means : T → Meaning) (a b c : Lines R) → TakesBlanks remaining a b → Finds remaining b c None
        → Answers remaining a c encodes means None
    takes_all means a b c h j = (j.whole, record { blanks = blanks-unchanged a b c h j.unchanged; ended = j.is })

-- ---- what a line is read as

module _ {T : Type 0} (encodes : List Token → Meaning → Type 0) (means : T → Meaning) (xs ys : List ℕ) (same : xs ≡ ys) (number : ℕ) where
  pub read_blank : (line : Line T) → IsRead encodes means xs number line → line ≡ Blank → IsBlank ys
  read_blank line h e = subst IsBlank same (subst (IsRead encodes means xs number) e h)

  pub read_value : (line : Line T) (value : T) → IsRead encodes means xs number line → line ≡ Value value
      → HoldsValue encodes ys (means value)
  read_value line value h e =
      subst (λ (l : List ℕ). HoldsValue encodes l (means value)) same (subst (IsRead encodes means xs number) e h)

  pub read_bad : (line : Line T) (error : DeJsonErr) (text : String Global) → IsRead encodes means xs number line
      → line ≡ BadLine error text → RejectsLine encodes ys number error text
  read_bad line error text h e =
      subst (λ (l : List ℕ). RejectsLine encodes l number error text) same (subst (IsRead encodes means xs number) e h)

  pub read_no_text : (line : Line T) → IsRead encodes means xs number line → line ≡ NoText → IsNoText ys
  read_no_text line h e = subst IsNoText same (subst (IsRead encodes means xs number) e h)
