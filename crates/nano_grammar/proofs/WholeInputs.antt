-- What the readers of texts know of a text, and of one that is a whole input.
use Rattle.std.proofs.Common.{◌≡◌, ◌≢◌, inl, inr, ℕ, ◌<◌, ◌≤◌, Some, None, ◌==◌, Bool, true, false}
use Rattle.std.proofs.Common.{List, [], ◌∷◌, ◌++◌, length, take, drop, chars, encode_utf8_all, sym}
use Rattle.std.proofs.Common.{◌∙◌, ap, subst, arith, append-nil, get_or, refl, ◌⊎◌}
use Rattle.std.specs.Str.{IsUtf8, NonePass, NoCharPasses}
use Rattle.std.specs.Bool.{MatchBool}
use Rattle.std.specs.Str.Pattern.{HasCharAt, FindsChar}
use Rattle.std.proofs.lemmas.Bool.{false≢true}
use Rattle.std.proofs.lemmas.List.{take-append-drop}
use Rattle.std.proofs.lemmas.Str.{chars-encodes, chars-append, chars_past_char, chars_from_encodes}
use Rattle.std.proofs.lemmas.Str.{len_utf8_bounds, IsCharBoundary-before_ascii, IsUtf8-take}
use Rattle.std.proofs.lemmas.Str.{IsUtf8-drop}
use Rattle.nano_text.specs.Place.{remaining_text, text_at, Advances, StandsIn}
use Rattle.nano_grammar.proofs.TokensLaws.{CutLaws, decodes_where_text_begins, begins_after}
use Rattle.nano_grammar.proofs.TokensLaws.{leaves_after, same_at, same_end}
use Rattle.nano_grammar.specs.Tokens.{Cutting, IsValueText, AllTextual, is_textual, At, Begins}
use Rattle.nano_grammar.specs.Tokens.{Cuts, Leaves, Spans, TextDecodesTo, TextDecodesToNothing}
use Rattle.nano_grammar.specs.Tokens.{DecodesTo}
use Rattle.nano_grammar.specs.Codec.{Grammar, IsEncoding}
use Rattle.nano_grammar.specs.Outcomes.{HoldsNul, DecodesBefore, WholeDecodesTo, GoesOn}
use Rattle.nano_grammar.specs.Outcomes.{WholeDecodesToNothing, end_message, Report, Position}
use Rattle.nano_grammar.specs.Outcomes.{IsMadeAt, Moved, NothingCut, Stops, TookNext, Read, ReadsNone}
use Rattle.nano_grammar.specs.Outcomes.{IsValueError, StandsAt, StandsBefore, StandsBroken, StandsInText}
use Rattle.nano_grammar.specs.Outcomes.{BreaksInText, BreaksAtOnce, Uncut}
use Rattle.nano_grammar.specs.Outcomes.{IsNoText, ReadsNoText, ReadsNoWhole}
use Rattle.nano_grammar.specs.Faults.{Reason, wrong, uncut}
use Rattle.nano_grammar.proofs.FaultLaws.{nothing_decodes}
use Rattle.nano_grammar.proofs.EncodingLaws.{textual_scalars, written_is_remaining}
use Rattle.nano_grammar.proofs.EncodingLaws.{one_text_decodes}
use Rattle.nano_text.proofs.PlaceLaws.{advances_append, moves_advance, moves_append, moves_none}

-- ---- NUL

-- no NUL stands in characters of which none is one
none_passes : (cs prefix following : List ℕ) → NonePass (λ c. c == 0) cs → cs ≡ prefix ++ 0 ∷ following → ⊥
none_passes [] [] following h e = absurd (cc)
none_passes [] (x ∷ prefix) following h e = absurd (cc)
none_passes (c ∷ cs) [] following h e = absurd (cc)
none_passes (c ∷ cs) (x ∷ prefix) following h e = none_passes cs prefix following h.1 (cc e)

module _ (bytes : List ℕ) (utf8 : IsUtf8 bytes) where
  -- where a byte of the text is NUL, the text holds that character
  nul_at : (i j : ℕ) → HasCharAt 0 bytes i j → j ≤ length bytes → HoldsNul bytes
  nul_at i j at within =
      let ends = at.ends in
      let wide = (len_utf8_bounds 0).0 in
      let inside : i < length bytes = omega (arith, ends, wide, within) in
      let zero : get_or bytes i 0 ≡ 0 = at.byte (omega arith) in
      let ascii : get_or bytes i 0 < 128 = rw zero (omega arith) in
      let cut = IsCharBoundary-before_ascii bytes i inside ascii in
      let before = IsUtf8-take bytes i utf8 cut in
      let after = IsUtf8-drop bytes i utf8 cut in
      let split = ap chars (sym (take-append-drop i bytes)) ∙ chars-append (take i bytes) (drop i bytes) before in
      let first = chars_past_char (drop i bytes) (drop j bytes) 0 after at.split in
      (chars (take i bytes), chars (drop j bytes), split ∙ ap (λ l. chars (take i bytes) ++ l) first)

  no_nul : NoCharPasses (λ c. c == 0) bytes → HoldsNul bytes → ⊥
  no_nul none held =
      let same = chars_from_encodes none.0 bytes utf8 none.1 in
      none_passes none.0 held.0 held.1 none.2 (same ∙ held.2)

  -- a search for NUL says whether the text holds one
  pub tells_nul : (found : Bool)
      → MatchBool found ((i : ℕ) × (j : ℕ) × FindsChar 0 bytes (Some (i, j)) × (i ≤ j) × (j ≤ length bytes)) (FindsChar 0 bytes None)
      → MatchBool found (HoldsNul bytes) (HoldsNul bytes → ⊥)
  tells_nul true h = nul_at h.0 h.1 h.2.1 h.4
  tells_nul false h = no_nul h

-- no NUL stands in what is written
textual_no_nul : (cs prefix following : List ℕ) → AllTextual cs → cs ≡ prefix ++ 0 ∷ following → ⊥
textual_no_nul [] [] following h e = absurd (cc)
textual_no_nul [] (x ∷ prefix) following h e = absurd (cc)
textual_no_nul (c ∷ cs) [] following h e =
    let first : c ≡ 0 = cc e in
    let textual : is_textual 0 ≡ true = subst (λ (x : ℕ). is_textual x ≡ true) first h.0 in
    absurd (false≢true textual)
textual_no_nul (c ∷ cs) (x ∷ prefix) following h e =
    let rest : cs ≡ prefix ++ 0 ∷ following = cc e in
    textual_no_nul cs prefix following h.1 rest

written_no_nul : (cs bytes : List ℕ) → AllTextual cs → bytes ≡ encode_utf8_all cs → HoldsNul bytes → ⊥
written_no_nul cs bytes h is held =
    let same : chars bytes ≡ cs = ap chars is ∙ chars-encodes cs (textual_scalars cs h) in
    textual_no_nul cs held.0 held.1 h (sym same ∙ held.2)

-- ---- messages

abbrev IsNone : List ℕ → Type 0
IsNone [] = Unit {0}
IsNone (c ∷ cs) = ⊥

-- the message of an out-of-memory error is unchanged
pub no_message : (given unchanged : List ℕ) → (given ≢ end_message → unchanged ≡ given) → given ≡ [] → unchanged ≡ []
no_message given unchanged same none =
    same (λ e. subst IsNone (sym none ∙ e) tt) ∙ none

-- ---- values

module _ {T : Type 0} {c : Cutting T} {g : Grammar T} (r : CutLaws c g) where
  module _ {V : Type 0} (S : List T → V → Type 0) where
    -- a text with a token after the value decodes to the value
    pub before_decodes : (next : T) (text : List ℕ) (v : V) → DecodesBefore c.cut S next text v → TextDecodesTo c.cut S text v
    before_decodes next text v h = (decodes_where_text_begins c.cut S text v).1 (h.0, next, h.1, h.2)

    -- a value that is read from the first token on has the pending token after it
    pub spans_before : (text : List ℕ) (start end : At T) (v : V) → c.cut text start.token start.text
        → Spans c.cut S start end v → DecodesBefore c.cut S end.token text v
    spans_before text start end v h s = (s.0, s.1, begins_after c.cut s.0 start end text h s.2)

    -- where the beginning of a text decodes to nothing, the whole text decodes to nothing, and
    -- nothing goes on there
    pub nothing_whole : (end : T) (bytes : List ℕ) → TextDecodesToNothing c.cut S (remaining_text bytes) → WholeDecodesToNothing c.cut S end bytes
    nothing_whole end bytes none v h = none v (before_decodes end (remaining_text bytes) v h.fits)

    pub nothing_goes_on : (end : T) (bytes : List ℕ) → TextDecodesToNothing c.cut S (remaining_text bytes) → GoesOn c.cut S end bytes → ⊥
    nothing_goes_on end bytes none h = none h.value (before_decodes h.next (remaining_text bytes) h.value h.fits)

  module _ {V : Type 0} {P : V → Type 0} {S : List T → V → Type 0} (s : IsEncoding g P S) where
    -- one token comes after the decoded value
    pub one_after : (t u : T) (text : List ℕ) (v w : V) → DecodesBefore c.cut S t text v → DecodesBefore c.cut S u text w → t ≡ u
    one_after t u text v w a b =
        let m = leaves_after c.cut a.0 t text a.2 in
        let n = leaves_after c.cut b.0 u text b.2 in
        let start = same_at c.cut r.one_way text n.0 m.0 n.2 m.2 in
        let moved = subst (λ (z : At T). Leaves c.cut b.0 z (record { token = u; text = n.1 })) start n.3 in
        let ends = same_end c.cut r.one_way S s.none_begins a.0 b.0 v w m.0 (record { token = t; text = m.1 }) (record { token = u; text = n.1 }) a.1 b.1 m.3 moved in
        ap (λ (z : At T). z.token) ends.1

    -- where a value goes on, the whole text decodes to nothing
    pub goes_on_whole : (end : T) (bytes : List ℕ) → GoesOn c.cut S end bytes → WholeDecodesToNothing c.cut S end bytes
    goes_on_whole end bytes on v h = elim on.more [
      | inl other ↦ other (one_after on.next end (remaining_text bytes) on.value v on.fits h.fits)
      | inr nul ↦ h.no_nul nul
    ]

    -- the whole text that is written of a value decodes to it
    pub written_whole : (ts : List T) (text bytes : List ℕ) (v : V) → IsValueText c ts text → bytes ≡ encode_utf8_all text → S ts v → WholeDecodesTo c.cut S r.end bytes v
    written_whole ts text bytes v written is is_encoded = record {
      fits =
          let remaining : remaining_text bytes ≡ text = ap remaining_text is ∙ written_is_remaining text written.textual in
          let again = written.cut_again [] r.end_follows in
          let cuts = subst (λ (l : List ℕ). Cuts c.cut ts l []) (append-nil text) again in
          let begins = begins_cut ts text [] r.end [] cuts r.end_is_cut in
          (ts, is_encoded, subst (λ (l : List ℕ). Begins c.cut (ts ++ r.end ∷ []) l) (sym remaining) begins);
      no_nul = written_no_nul text bytes written.textual is;
    } where
      begins_cut : (us : List T) (l rest : List ℕ) (end : T) (left : List ℕ) → Cuts c.cut us l rest → c.cut rest end left → Begins c.cut (us ++ end ∷ []) l
      begins_cut [] l rest end left e k = (left, subst (λ (x : List ℕ). c.cut x end left) (sym e) k, tt)
      begins_cut (u ∷ us) l rest end left k h = (k.0, k.1, begins_cut us k.0 rest end left k.2 h)

    -- of a whole input, at most one value
    pub one_whole : (end : T) (bytes : List ℕ) (v w : V) → WholeDecodesTo c.cut S end bytes v → WholeDecodesTo c.cut S end bytes w → v ≡ w
    one_whole end bytes v w a b =
        one_text_decodes r s (remaining_text bytes) v w (before_decodes S end (remaining_text bytes) v a.fits) (before_decodes S end (remaining_text bytes) w b.fits)

-- ==== readers of texts

-- a reader is at the first character of a text: what it takes from there on stands in the text
pub record Begun {T : Type 0} (bytes : List ℕ) (start : Position T) : Type 0 where
  pub text : start.at.text ≡ remaining_text bytes
  pub stands : (end : Position T) (e : Report) → Advances start.place start.input end.place end.input
      → IsMadeAt end.place e → StandsIn (chars bytes) e.line e.col
  pub before : (here : Position T) (line column : ℕ) → here.at.text ≡ text_at here.place here.input
      → Moved start here → line ≡ here.place.line → column ≡ here.place.col
      → StandsBefore (chars bytes) here.at.text line column

module _ {T : Type 0} {c : Cutting T} {g : Grammar T} (r : CutLaws c g) {V : Type 0} (S : List T → V → Type 0) where
  -- where no token begins the text, or it goes wrong, nothing decodes
  pub no_text : {bytes : List ℕ} {e : Report} → IsNoText c.cut c.breaks S bytes e
      → TextDecodesToNothing c.cut S (remaining_text bytes)
  no_text (inl h) v f = h.none f.0.token f.0.text f.1
  no_text {bytes} (inr w) v f =
      let same = same_at c.cut r.one_way (remaining_text bytes) f.0 w.first f.1 w.is_first in
      nothing_decodes c.cut S r.one_way w.first w.here w.reason w.fault v
      (subst (λ (s : At T). DecodesTo c.cut S s v) same f.2)

  pub text_rejected : {bytes : List ℕ} {e : Report} → ReadsNoText c.cut c.breaks S bytes e → e.memory ≡ false
      → TextDecodesToNothing c.cut S (remaining_text bytes)
  text_rejected h known = no_text (h.fault known)

module _ {T : Type 0} {c : Cutting T} {g : Grammar T} (r : CutLaws c g) {V : Type 0} (S : List T → V → Type 0)
    {bytes : List ℕ} {start : Position T} (b : Begun bytes start) where
  -- where the text after a pending token breaks, it stands in the text
  breaks_in_text : (here end : Position T) (e : Report) → Moved start here → StandsBroken c.breaks here end
      → IsMadeAt end.place e → BreaksInText c.cut c.breaks S bytes here.at.text e
  breaks_in_text here end e moved at made =
      let stop : Position T = record { at = record { token = here.at.token; text = text_at at.stop at.input }; place = at.stop; input = at.input } in
      record {
        left = text_at at.stop at.input;
        broken = at.broken;
        stands = b.before stop e.line e.col refl (moves_append moved at.moved) (made.1 ∙ at.line) (made.2 ∙ at.col);
      }

  -- where no token is cut from the text
  pub breaks_at_once : {end : Position T} {e : Report} → Uncut c.cut c.breaks start end → IsMadeAt end.place e
      → BreaksAtOnce c.cut c.breaks S bytes e
  breaks_at_once {end} {e} h made = record {
    none = subst (NothingCut c.cut) b.text h.none;
    there = subst (λ (t : List ℕ). BreaksInText c.cut c.breaks S bytes t e) b.text
        (breaks_in_text start end e (moves_none start.place start.input) h.stands made);
  }

  pub text_uncut : {last : At T} {full : Type 0} {end : Position T} {e : Report}
      → Stops last (Uncut c.cut c.breaks start end) full start end e → ReadsNoText c.cut c.breaks S bytes e
  text_uncut {end = end} {e} h = record {
    fault = λ known. inl (breaks_at_once (h.fails.rejected known) h.fails.made);
    silent = h.fails.made.0;
    place = b.stands end e h.fails.place h.fails.made;
  }

  module _ {buffered : Type 0} {now : Position T} (next : TookNext c.cut buffered start now) where
    first_cut : c.cut (remaining_text bytes) now.at.token now.at.text
    first_cut = subst (λ (t : List ℕ). c.cut t now.at.token now.at.text) b.text next.taken

    pub text_read : {end : Position T} {v : V} → Read c.cut S now end v
        → TextDecodesTo c.cut S (remaining_text bytes) v
    text_read {end} h = (now.at, first_cut, (h.decodes.0, end.at, h.decodes.1, h.decodes.2))

    pub in_text : (here end : Position T) (e : Report) (reason : Reason c.cut here.at)
        → here.at.text ≡ text_at here.place here.input → Moved now here → StandsAt c.cut c.breaks here end reason
        → IsMadeAt end.place e → StandsInText c.cut c.breaks S bytes reason e
    in_text here end e wrong text moved at made =
        b.before here e.line e.col text (moves_append next.place moved) (made.1 ∙ at.0) (made.2 ∙ at.1)
    in_text here end e (uncut none) text moved at made =
        breaks_in_text here end e (moves_append next.place moved) at made

    pub text_not : {end : Position T} {e : Report} → ReadsNone c.cut c.breaks S now end e → ReadsNoText c.cut c.breaks S bytes e
    text_not {end} {e} h = record {
      fault = λ known.
          let f = h.rejected known in
          inr (record {
            first = now.at;
            is_first = first_cut;
            here = f.here.at;
            reason = f.reason;
            fault = f.fault;
            stands = in_text f.here end e f.reason f.text f.moved f.stands h.made;
          });
      silent = h.made.0;
      place = b.stands end e (advances_append (moves_advance next.place) h.place) h.made;
    }

    -- ---- the whole input

    before : {end : Position T} {v : V} → Read c.cut S now end v
        → DecodesBefore c.cut S end.at.token (remaining_text bytes) v
    before {end} {v} h = spans_before r S (remaining_text bytes) now.at end.at v first_cut h.decodes

    pub whole_read : {end : Position T} {v : V} (last : T) → Read c.cut S now end v → end.at.token ≡ last
        → (HoldsNul bytes → ⊥) → WholeDecodesTo c.cut S last bytes v
    whole_read {v = v} last h is no_nul = record {
      fits = subst (λ (t : T). DecodesBefore c.cut S t (remaining_text bytes) v) is (before h);
      no_nul = no_nul;
    }

    pub whole_goes_on : {P : V → Type 0} {end : Position T} {v : V} {e : Report} (last : T) → IsEncoding g P S
        → end.at.text ≡ text_at end.place end.input
        → Read c.cut S now end v → (end.at.token ≢ last) ⊎ HoldsNul bytes
        → (e.memory ≡ false → e.message ≡ end_message) → IsMadeAt end.place e
        → ReadsNoWhole c.cut c.breaks S bytes last e
    whole_goes_on {end = end} {v} {e} last s text h more says made =
        let on : GoesOn c.cut S last bytes = record { value = v; next = end.at.token; fits = before h; more = more } in
        let moved = moves_append next.place h.place in
        record {
          rejected = λ known. goes_on_whole r s last bytes on;
          silent = made.0;
          trailing = λ known. (λ _. on, λ _. says known);
          fault = λ known other. absurd (other (says known));
          past = λ known _. record {
            first = now.at;
            is_first = first_cut;
            next = end.at;
            value = v;
            read = h.decodes;
            stands = b.before end e.line e.col text moved made.1 made.2;
          };
          place = b.stands end e (moves_advance moved) made;
        }

-- ---- an error of a text, as that of a value that must be the whole input

module _ {T V : Type 0} (cut : List ℕ → T → List ℕ → Type 0) (breaks : List ℕ → List ℕ → Type 0)
    (S : List T → V → Type 0) (bytes : List ℕ) {e f : Report} (is : IsValueError e f) where
  stands_before_too : (left : List ℕ) → StandsBefore (chars bytes) left e.line e.col
      → StandsBefore (chars bytes) left f.line f.col
  stands_before_too left at =
      subst (λ (l : ℕ). StandsBefore (chars bytes) left l f.col) (sym is.line)
      (subst (λ (k : ℕ). StandsBefore (chars bytes) left e.line k) (sym is.col) at)

  breaks_too : {text : List ℕ} → BreaksInText cut breaks S bytes text e → BreaksInText cut breaks S bytes text f
  breaks_too at = record { left = at.left; broken = at.broken; stands = stands_before_too at.left at.stands }

  pub stands_too : (here : At T) (reason : Reason cut here) → StandsInText cut breaks S bytes reason e
      → StandsInText cut breaks S bytes reason f
  stands_too here wrong at = stands_before_too here.text at
  stands_too here (uncut none) at = breaks_too at

  pub breaks_at_once_too : BreaksAtOnce cut breaks S bytes e → BreaksAtOnce cut breaks S bytes f
  breaks_at_once_too h = record { none = h.none; there = breaks_too h.there }

  goes_wrong_too : IsNoText cut breaks S bytes e → IsNoText cut breaks S bytes f
  goes_wrong_too (inl h) = inl (breaks_at_once_too h)
  goes_wrong_too (inr w) = inr (record {
    first = w.first;
    is_first = w.is_first;
    here = w.here;
    reason = w.reason;
    fault = w.fault;
    stands = stands_too w.here w.reason w.stands;
  })

pub whole_not : {T : Type 0} {c : Cutting T} {g : Grammar T} (r : CutLaws c g) {V : Type 0}
    {S : List T → V → Type 0} {bytes : List ℕ} {e f : Report} (last : T) → ReadsNoText c.cut c.breaks S bytes e
    → IsValueError e f → ReadsNoWhole c.cut c.breaks S bytes last f
whole_not {c = c} r {S = S} {bytes} {e} {f} last h is =
    let none = λ (known : f.memory ≡ false). text_rejected r S h (sym is.memory ∙ known) in
    record {
      rejected = λ known. nothing_whole r S last bytes (none known);
      silent = λ memory. no_message e.message f.message is.unchanged (h.silent (sym is.memory ∙ memory));
      trailing = λ known. (
        λ same. absurd (is.apart same),
        λ on. absurd (nothing_goes_on r S last bytes (none known) on),
      );
      fault = λ known _. goes_wrong_too c.cut c.breaks S bytes is (h.fault (sym is.memory ∙ known));
      past = λ known same. absurd (is.apart same);
      place =
          subst (λ (l : ℕ). StandsIn (chars bytes) l f.col) (sym is.line)
          (subst (λ (k : ℕ). StandsIn (chars bytes) e.line k) (sym is.col) h.place);
    }
