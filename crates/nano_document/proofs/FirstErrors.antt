-- What the readers of texts know of the first error.
use Rattle.std.proofs.Common.{◌≡◌, ◌∙◌, inl, inr, ℕ, List, [], ◌∷◌, ◌++◌, sym}
use Rattle.std.proofs.Common.{ap, refl, subst, false, append_assoc, append-nil}
use Rattle.std.proofs.lemmas.List.{append_cancel_left}
use Rattle.nano_text.specs.Place.{remaining_text}
use Rattle.nano_grammar.specs.Faults.{Reason, wrong, uncut, Fault}
use Rattle.nano_grammar.specs.Outcomes.{Report, Position, Fails, Stops, TookNext, Uncut}
use Rattle.nano_grammar.specs.Outcomes.{IsValueError, ReadsNoWhole, end_message}
use Rattle.nano_grammar.specs.Tokens.{At, Leaves}
use Rattle.nano_grammar.proofs.FaultLaws.{nothing_goes_past}
use Rattle.nano_grammar.proofs.TokensLaws.{meets, same_at}
use Rattle.nano_grammar.proofs.TokenCalls.{fails_as}
use Rattle.nano_grammar.proofs.WholeInputs.{Begun, text_uncut, text_not, whole_not, in_text}
use Rattle.nano_grammar.proofs.WholeInputs.{breaks_at_once, breaks_at_once_too, stands_too}
use Rattle.nano_json_tokens.specs.Breaks.{Breaks}
use Rattle.nano_json_tokens.specs.Cut.{Cut}
use Rattle.nano_json_tokens.specs.Token.{Token, end as last}
use Rattle.nano_json.proofs.Json.{json_laws}
use Rattle.nano_document.specs.FirstFaults.{GoesWrongFirst, IsFirstError}
use Rattle.nano_document.specs.FirstFaults.{FailsFirst, WholeFailsFirst, IsBeginning, before_fault}
use Rattle.nano_document.specs.FirstFaults.{HasOneFirstError}
use Rattle.nano_document.proofs.FirstFaults.{begins_shorter}

module _ {V : Type 0} (S : List Token → V → Type 0) {bytes : List ℕ} {start : Position Token}
    (b : Begun bytes start) where
  -- where no token is cut from the text
  pub uncut_first : {after : At Token} {full : Type 0} {end : Position Token} {e : Report}
      → Stops after (Uncut Cut Breaks start end) full start end e → FailsFirst S bytes e
  uncut_first h = record {
    none = text_uncut json_laws S b h;
    first = λ known. inl (breaks_at_once json_laws S b (h.fails.rejected known) h.fails.made);
  }

  module _ {buffered : Type 0} {now : Position Token} (next : TookNext Cut buffered start now) where
    -- where it goes wrong first
    pub wrong_first : {end : Position Token} {e : Report} → Fails (GoesWrongFirst S now end) now end e
        → FailsFirst S bytes e
    wrong_first {end} {e} h = record {
      none = text_not json_laws S b next (fails_as (λ f. f.wrong) h);
      first = λ known.
          let f = h.rejected known in
          let w = f.wrong in
          inr (record {
            wrong = record {
              first = now.at;
              is_first = subst (λ (t : List ℕ). Cut t now.at.token now.at.text) b.text next.taken;
              here = w.here.at;
              reason = w.reason;
              fault = w.fault;
              stands = in_text json_laws S b next w.here end e w.reason w.text w.moved w.stands h.made;
            };
            before = f.before;
          });
    }

-- ---- of the whole input

module _ {V : Type 0} (S : List Token → V → Type 0) (bytes : List ℕ) {e f : Report} (is : IsValueError e f) where
  first_too : IsFirstError S bytes e → IsFirstError S bytes f
  first_too (inl h) = inl (breaks_at_once_too Cut Breaks S bytes is h)
  first_too (inr h) = inr (record {
    wrong = record {
      first = h.wrong.first;
      is_first = h.wrong.is_first;
      here = h.wrong.here;
      reason = h.wrong.reason;
      fault = h.wrong.fault;
      stands = stands_too Cut Breaks S bytes is h.wrong.here h.wrong.reason h.wrong.stands;
    };
    before = h.before;
  })

  pub whole_first : FailsFirst S bytes e → WholeFailsFirst S bytes f
  whole_first h = record {
    none = whole_not json_laws last h.none is;
    first = λ known _. first_too (h.first (sym is.memory ∙ known));
  }

-- where a value decodes, and more comes after it
pub whole_past : {V : Type 0} {S : List Token → V → Type 0} {bytes : List ℕ} {e : Report}
    → (e.memory ≡ false → e.message ≡ end_message) → ReadsNoWhole Cut Breaks S bytes last e
    → WholeFailsFirst S bytes e
whole_past says h = record { none = h; first = λ known other. absurd (other (says known)) }

-- ---- a text has one first error

no_tokens : (ts : List Token) (t : Token) → ts ++ t ∷ [] ≡ [] → ⊥
no_tokens [] t is = absurd (cc is)
no_tokens (u ∷ ts) t is = absurd (cc is)

-- two lists of which each begins the other
no_more : (xs cs ds : List Token) → xs ≡ (xs ++ cs) ++ ds → cs ≡ []
no_more xs cs ds is =
    none cs (append_cancel_left xs [] (cs ++ ds) (append-nil xs ∙ (is ∙ append_assoc xs cs ds))) where
      none : (cs : List Token) → [] ≡ cs ++ ds → cs ≡ []
      none [] h = refl
      none (c ∷ cs) h = absurd (cc h)

module _ {V : Type 0} (S : List Token → V → Type 0) where
  beginning : {there : At Token} (reason : Reason Cut there) (ts : List Token)
      → IsBeginning S (before_fault reason ts) → IsBeginning S ts
  beginning wrong ts h = h
  beginning {there} (uncut none) ts (inl is) = absurd (no_tokens ts there.token is)
  beginning {there} (uncut none) ts (inr h) = inr (begins_shorter S ts (there.token ∷ []) h)

  -- what stands before a first fault is no more than what stands before any fault
  goes_past : (first here there : At Token) (reason : Reason Cut here) (other : Reason Cut there)
      → (f : Fault Cut S first here reason) → (g : Fault Cut S first there other)
      → IsBeginning S (before_fault other g.tokens)
      → (between : List Token) × (f.tokens ≡ g.tokens ++ between)
  goes_past first here there reason other f g h =
      elim (beginning other g.tokens h) [
        | inl is ↦ (f.tokens, ap (λ (xs : List Token). xs ++ f.tokens) (sym is))
        | inr c ↦
            nothing_goes_past Cut S json_laws.one_way first here there reason f g.tokens c.0 c.1 g.taken c.2
      ]

  same_place : (first here there : At Token) (reason : Reason Cut here) (other : Reason Cut there)
      → (f : Fault Cut S first here reason) → (g : Fault Cut S first there other)
      → IsBeginning S (before_fault reason f.tokens) → IsBeginning S (before_fault other g.tokens)
      → here ≡ there
  same_place first here there reason other f g h k =
      let past = goes_past first here there reason other f g k in
      let back = goes_past first there here other reason g f h in
      elim (meets Cut json_laws.one_way f.tokens g.tokens first here there f.taken g.taken) [
        | inl r ↦
            let none = no_more f.tokens r.0 past.0 (past.1 ∙ ap (λ (xs : List Token). xs ++ past.0) r.1) in
            subst (λ (xs : List Token). Leaves Cut xs here there) none r.2
        | inr r ↦
            let none = no_more g.tokens r.0 back.0 (back.1 ∙ ap (λ (xs : List Token). xs ++ back.0) r.1) in
            sym (subst (λ (xs : List Token). Leaves Cut xs there here) none r.2)
      ]

  pub one_first_error : (bytes : List ℕ) → HasOneFirstError S bytes
  one_first_error bytes e f one other =
      let w = one.wrong in
      let v = other.wrong in
      let first = same_at Cut json_laws.one_way (remaining_text bytes) v.first w.first v.is_first w.is_first in
      same_from w.first v.first first w.here v.here w.reason v.reason w.fault v.fault one.before other.before
    where
      same_from : (m n : At Token) → n ≡ m → (here there : At Token) (reason : Reason Cut here)
          (other : Reason Cut there) → (f : Fault Cut S m here reason) → (g : Fault Cut S n there other)
          → IsBeginning S (before_fault reason f.tokens) → IsBeginning S (before_fault other g.tokens)
          → here ≡ there
      same_from m n is here there reason other f g h k =
          same_place m here there reason other f (record {
            tokens = g.tokens;
            taken = subst (λ (x : At Token). Leaves Cut g.tokens x there) is g.taken;
            none = g.none;
          }) h k
