-- Lines that begin a stream, and the values that are taken from it.
use Rattle.std.proofs.Common.{◌≡◌, ◌≤◌, ◌+◌, ℕ, List, [], ◌∷◌, ◌++◌, length, map, refl, sym, ap, subst, ◌∙◌, append_assoc, append-nil, arith, inl, inr}
use Rattle.std.proofs.Common.{length-append, Option, Some, None, encode_utf8_all}
use Rattle.std.proofs.lemmas.List.{append_cancel_left}
use Rattle.std.specs.List.{AllByRecursion}
use Rattle.nano_text.specs.Characters.{line_feed}
use Rattle.nano_value.specs.Meaning.{Meaning}
use Rattle.nano_grammar.specs.Codec.{IsEncoding}
use Rattle.nano_grammar.proofs.WholeInputs.{one_whole, written_whole}
use Rattle.nano_grammar.proofs.EncodingLaws.{textual_scalars}
use Rattle.nano_value.specs.Meaning.{Agrees, LegalList, listed}
use Rattle.nano_meaning.proofs.MeaningLaws.{listed_injective}
use Rattle.nano_json_tokens.specs.Cut.{json_grammar}
use Rattle.nano_json_tokens.specs.Token.{Token, end}
use Rattle.nano_json.proofs.Json.{json_laws, legal_there}
use Rattle.nano_json.specs.Codec.{Codec}
use Rattle.nano_lines.specs.Lines.{HasNoFeed, IsBlank, BeginsWithLine, BeginsWithLines, HoldsValue}
use Rattle.nano_lines.specs.Outcomes.{IsPassed}
use Rattle.nano_lines.specs.Writes.{AppendsLine, line_of}
use Rattle.nano_lines.specs.Promises.{AreLines, AppendsLines, AddsLines, HoldValues, StreamHolds, BeginsWithValue, GivesValues}
use Rattle.nano_lines.proofs.BlankLemmas.{blank_holds_none}

-- ---- lines

-- a line feed ends the same line, whatever comes after it
same_line : (xs ys rest left : List ℕ) → HasNoFeed xs → HasNoFeed ys → xs ++ line_feed ∷ rest ≡ ys ++ line_feed ∷ left
    → (xs ≡ ys) × (rest ≡ left)
same_line [] [] rest left h j e = (refl, (cc))
same_line [] (y ∷ ys) rest left h j e = let first : line_feed ≡ y = cc in absurd (j.0 (sym first))
same_line (x ∷ xs) [] rest left h j e = let first : x ≡ line_feed = cc in absurd (h.0 first)
same_line (x ∷ xs) (y ∷ ys) rest left h j e =
    let first : x ≡ y = cc in
    let others : xs ++ line_feed ∷ rest ≡ ys ++ line_feed ∷ left = cc in
    let one = same_line xs ys rest left h.1 j.1 others in
    (cc (first, one.0), one.1)

no_feed_in : (xs ys rest : List ℕ) → HasNoFeed ys → xs ++ line_feed ∷ rest ≡ ys → ⊥
no_feed_in [] [] rest j e = cc
no_feed_in [] (y ∷ ys) rest j e = let first : line_feed ≡ y = cc in j.0 (sym first)
no_feed_in (x ∷ xs) [] rest j e = cc
no_feed_in (x ∷ xs) (y ∷ ys) rest j e =
    let others : xs ++ line_feed ∷ rest ≡ ys = cc in
    no_feed_in xs ys rest j.1 others

-- bytes begin with one line
pub one_line : (bytes line other rest left : List ℕ) → BeginsWithLine bytes line rest → BeginsWithLine bytes other left
    → (line ≡ other) × (rest ≡ left)
one_line bytes line other rest left h j = elim h.ends [
  | inl a ↦ elim j.ends [
    | inl b ↦ same_line line other rest left h.one_line j.one_line (sym a ∙ b)
    | inr b ↦ absurd (no_feed_in line other rest j.one_line (sym a ∙ b.whole))
  ]
  | inr a ↦ elim j.ends [
    | inl b ↦ absurd (no_feed_in other line left h.one_line (sym b ∙ a.whole))
    | inr b ↦ (sym a.whole ∙ b.whole, a.nothing ∙ sym b.nothing)
  ]
]

append_is_some : (xs rest : List ℕ) → [] ≡ xs ++ line_feed ∷ rest → ⊥
append_is_some [] rest e = cc
append_is_some (x ∷ xs) rest e = cc

pub no_line : (line rest : List ℕ) → BeginsWithLine [] line rest → ⊥
no_line line rest h = elim h.ends [
  | inl e ↦ append_is_some line rest e
  | inr l ↦ l.some (sym l.whole)
]

-- a stream is split into lines in one way
pub same_lines : (xs ys : List (List ℕ)) (bytes : List ℕ) → BeginsWithLines xs bytes [] → BeginsWithLines ys bytes [] → xs ≡ ys
same_lines [] [] bytes h j = refl
same_lines [] (y ∷ ys) bytes h j = absurd (no_line y j.0 (subst (λ (l : List ℕ). BeginsWithLine l y j.0) h j.1))
same_lines (x ∷ xs) [] bytes h j = absurd (no_line x h.0 (subst (λ (l : List ℕ). BeginsWithLine l x h.0) j h.1))
same_lines (x ∷ xs) (y ∷ ys) bytes h j =
    let one = one_line bytes x y h.0 j.0 h.1 j.1 in
    let others = same_lines xs ys h.0 h.2 (subst (λ (l : List ℕ). BeginsWithLines ys l []) (sym one.1) j.2) in
    cc (one.0, others)

-- ---- what is written

line_begins : (text rest : List ℕ) → HasNoFeed (encode_utf8_all text) → BeginsWithLine (line_of text ++ rest) (encode_utf8_all text) rest
line_begins text rest h = record { one_line = h; ends = inl (append_assoc (encode_utf8_all text) (line_feed ∷ []) rest) }

module _ (text : List ℕ) (texts : List (List ℕ)) (later : (before after : List ℕ) → AppendsLines texts (Some before) (Some after)
    → AddsLines texts before after) where
  one_more : (before after : List ℕ) (between : Option (List ℕ)) → AppendsLine text (Some before) between
      → AppendsLines texts between (Some after) → AddsLines (text ∷ texts) before after
  one_more before after None h j = absurd h.written
  one_more before after (Some middle) h j =
      let rest = later middle after j in
      record {
        stream = line_of text ++ rest.stream;
        following = rest.following ∙ (ap (λ l. l ++ rest.stream) h.written ∙ append_assoc before (line_of text) rest.stream);
        are = (rest.stream, h.one_line, refl, rest.are);
      }

pub adds_lines : (texts : List (List ℕ)) (before after : List ℕ) → AppendsLines texts (Some before) (Some after)
    → AddsLines texts before after
adds_lines [] before after h = record { stream = []; following = h ∙ sym (append-nil before); are = refl }
adds_lines (text ∷ texts) before after h = one_more text texts (adds_lines texts) before after h.0 h.1 h.2

-- ---- what is taken

module _ {legal : Meaning → Type 0} {encodes : List Token → Meaning → Type 0} (laws : IsEncoding json_grammar legal encodes) where
  one_value : (line : List ℕ) (m n : Meaning) → HoldsValue encodes line m → HoldsValue encodes line n → m ≡ n
  one_value line m n h j = one_whole json_laws laws end line m n h.decodes j.decodes

  -- lines hold one list of values
  pub same_values : (lines : List (List ℕ)) (ms ns : List Meaning) → HoldValues encodes lines ms → HoldValues encodes lines ns → ms ≡ ns
  same_values [] ms ns h j = h ∙ sym j
  same_values (line ∷ lines) ms ns h j = elim h [
    | inl a ↦ elim j [
      | inl b ↦ same_values lines ms ns a.1 b.1
      | inr b ↦ absurd (blank_holds_none laws line b.0 a.0 b.3)
    ]
    | inr a ↦ elim j [
      | inl b ↦ absurd (blank_holds_none laws line a.0 b.0 a.3)
      | inr b ↦
          let first = one_value line a.0 b.0 a.3 b.3 in
          let others = same_values lines a.1 b.1 a.4 b.4 in
          a.2 ∙ ((λ i. first i ∷ others i) ∙ sym b.2)
    ]
  ]

  pub stream_holds_one : (stream : List ℕ) (ms ns : List Meaning) → StreamHolds encodes stream ms → StreamHolds encodes stream ns → ms ≡ ns
  stream_holds_one stream ms ns h j =
      let lines = same_lines h.lines j.lines stream h.whole j.whole in
      same_values j.lines ms ns (subst (λ (ls : List (List ℕ)). HoldValues encodes ls ms) lines h.hold) j.hold

  module _ (limit : ℕ) (stream line rest : List ℕ) (m : Meaning) (is : BeginsWithLine stream line rest)
      (fits : length line ≤ limit) (holds : HoldsValue encodes line m) where
    -- the next line that is reached is that line
    reached : (blanks : List (List ℕ)) (other left : List ℕ) → AllByRecursion (IsPassed limit) blanks
        → BeginsWithLines (blanks ++ other ∷ []) stream left → (line ≡ other) × (rest ≡ left)
    reached [] other left passed h =
        let one = one_line stream line other rest h.0 is h.1 in
        (one.0, one.1 ∙ h.2)
    reached (b ∷ bs) other left passed h =
        let one = one_line stream line b rest h.0 is h.1 in
        absurd (blank_holds_none laws line m (subst IsBlank (sym one.0) passed.0.blank) holds)

    over : (blanks : List (List ℕ)) → AllByRecursion (IsPassed limit) blanks → BeginsWithLines blanks stream [] → ⊥
    over [] passed h = no_line line rest (subst (λ (l : List ℕ). BeginsWithLine l line rest) h is)
    over (b ∷ bs) passed h =
        let one = one_line stream line b rest h.0 is h.1 in
        blank_holds_none laws line m (subst IsBlank (sym one.0) passed.0.blank) holds

    pub begins_with_value : BeginsWithValue encodes limit stream m rest
    begins_with_value = record {
      taken = record {
        line = line;
        reached = record { blanks = []; passed = tt; begins = (rest, is, refl) };
        fits = fits;
        holds = holds;
      };
      same = λ n left t.
          let one = reached t.reached.blanks t.line left t.reached.passed t.reached.begins in
          (one_value line n m (subst (λ (l : List ℕ). HoldsValue encodes l n) (sym one.0) t.holds) holds, sym one.1);
      faultless = λ f.
          let one = reached f.reached.blanks f.line f.rest f.reached.passed f.reached.begins in
          elim f.why [
            | inl long ↦ let same : length line ≡ length f.line = ap length one.0 in omega (arith, same, long, fits)
            | inr none ↦ none.1 m (subst (λ (l : List ℕ). HoldsValue encodes l m) one.0 holds)
          ];
      not_over = λ o. over o.blanks o.passed o.whole;
    }

  line_is_within : (text : List ℕ) (limit : ℕ) → length (line_of text) ≤ limit + 1 → length (encode_utf8_all text) ≤ limit
  line_is_within text limit h = let parts = length-append (encode_utf8_all text) (line_feed ∷ []) in omega (arith, parts, h)

  -- what was put is taken
  pub put_begins : (limit : ℕ) (before line rest text : List ℕ) (m : Meaning) → AppendsLine text (Some before) (Some (before ++ line))
      → length line ≤ limit + 1 → HoldsValue encodes (encode_utf8_all text) m → BeginsWithValue encodes limit (line ++ rest) m rest
  put_begins limit before line rest text m h fits holds =
      let same = append_cancel_left before line (line_of text) h.written in
      let begins = subst (λ (l : List ℕ). BeginsWithLine (l ++ rest) (encode_utf8_all text) rest) (sym same) (line_begins text rest h.one_line) in
      begins_with_value limit (line ++ rest) (encode_utf8_all text) rest m begins
      (line_is_within text limit (subst (λ (l : List ℕ). length l ≤ limit + 1) same fits)) holds

  over_empty : (limit : ℕ) → GivesValues encodes limit [] []
  over_empty limit = (
    record { blanks = []; passed = tt; whole = refl },
    λ f. none_reached f.reached.blanks f.line f.rest f.reached.begins,
    λ m rest t. none_reached t.reached.blanks t.line rest t.reached.begins,
  ) where
    none_reached : (blanks : List (List ℕ)) (line rest : List ℕ) → BeginsWithLines (blanks ++ line ∷ []) [] rest → ⊥
    none_reached [] line rest h = no_line line h.0 h.1
    none_reached (b ∷ bs) line rest h = no_line b h.0 h.1

  -- lines of values give them, and nothing else
  module _ {A : Type 0} (limit : ℕ) (text : A → List ℕ) (means : A → Meaning) (sound : A → Type 0)
      (holds : (x : A) → sound x → HoldsValue encodes (encode_utf8_all (text x)) (means x)) where
    pub lines_give : (xs : List A) (stream : List ℕ) → AllByRecursion sound xs
        → AllByRecursion (λ (x : A). length (encode_utf8_all (text x)) ≤ limit) xs → AreLines stream (map text xs)
        → GivesValues encodes limit stream (map means xs)
    lines_give [] stream all fit are = subst (λ (l : List ℕ). GivesValues encodes limit l []) (sym are) (over_empty limit)
    lines_give (x ∷ xs) stream all fit are =
        let begins = subst (λ (l : List ℕ). BeginsWithLine l (encode_utf8_all (text x)) are.0) (sym are.2) (line_begins (text x) are.0 are.1) in (
          are.0,
          begins_with_value limit stream (encode_utf8_all (text x)) are.0 (means x) begins fit.0 (holds x all.0),
          lines_give xs are.0 all.1 fit.1 are.3,
        )

-- ---- values of a type

module _ {A : Type 0} (f : Codec A) (means : A → Meaning) (legal : Meaning → Type 0)
    (agrees : Agrees means legal f.canonical.means f.encoding.legal) where
  -- what is written of a sound value is a line of it
  pub written_holds : (x : A) → legal (means x) → f.sound x
      → HoldsValue f.encoding.encodes (encode_utf8_all (f.canonical.text 0 x)) (means x)
  written_holds x h sound =
      let allowed = legal_there f agrees x h in
      let written = f.is_written x allowed 0 in
      let same : f.canonical.means x ≡ means x = ap (λ m. m x) agrees.means_is in
      let is_encoded = subst (f.encoding.encodes (f.canonical.tokens x)) same (f.reads_back x allowed sound) in
      record {
        utf8 = (f.canonical.text 0 x, (textual_scalars (f.canonical.text 0 x) written.textual, refl));
        decodes =
            written_whole json_laws f.encoding.laws (f.canonical.tokens x) (f.canonical.text 0 x)
            (encode_utf8_all (f.canonical.text 0 x)) (means x) written refl is_encoded;
      }

  both : (xs : List A) → AllByRecursion legal (map means xs) → AllByRecursion f.sound xs
      → AllByRecursion (λ (x : A). legal (means x) × f.sound x) xs
  both [] h j = tt
  both (x ∷ xs) h j = ((h.0, j.0), both xs h.1 j.1)

  pub written_lines_give : (xs : List A) → LegalList legal (listed (map means xs)) → (limit : ℕ) (stream : List ℕ)
      → AllByRecursion f.sound xs
      → AllByRecursion (λ (x : A). length (encode_utf8_all (f.canonical.text 0 x)) ≤ limit) xs
      → AreLines stream (map (f.canonical.text 0) xs)
      → GivesValues f.encoding.encodes limit stream (map means xs)
  written_lines_give xs h limit stream sound fit are =
      let same = listed_injective (map means xs) h.part h.is in
      let allowed = subst (AllByRecursion legal) (sym same) h.has.items in
      lines_give f.encoding.laws limit (f.canonical.text 0) means (λ x. legal (means x) × f.sound x)
      (λ x both. written_holds x both.0 both.1) xs stream (both xs allowed sound) fit are
