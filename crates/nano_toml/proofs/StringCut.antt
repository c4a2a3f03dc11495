-- Strings, and how they are scanned: one is the other.
use Rattle.std.proofs.Common.{◌≡◌, ◌≢◌, ℕ, ◌<◌, List, [], ◌∷◌, ◌++◌, length, true, false, Some}
use Rattle.std.proofs.Common.{refl, ap, sym, ◌∙◌, inl, inr, append_assoc, append-nil, ne_eqb}
use Rattle.std.proofs.Common.{eqb-true, true≢false, subst, encode_utf8, encode_utf8_all, arith}
use Rattle.std.proofs.Common.{lit<}
use Rattle.std.proofs.lemmas.Str.{encode_ascii}
use Rattle.std.proofs.lemmas.Bool.Decides.{eqb_tells}
use Rattle.nano_toml.specs.Characters.{is_quote, Each}
use Rattle.nano_toml.specs.Token.{begins}
use Rattle.nano_toml.specs.Quoted.{Piece, plain, escaped, quotes, pieces_text, pieces_chars}
use Rattle.nano_toml.specs.Quoted.{AreShortPieces, StopsQuotes, AreTriplePieces, IsString, empty}
use Rattle.nano_toml.specs.Quoted.{short, triple}
use Rattle.nano_toml.specs.Scan.{Content, a_backslash, some_quotes, short_at, triple_at}
use Rattle.nano_toml.specs.Scan.{after_one_quote, after_two_quotes}
use Rattle.nano_toml.proofs.Places.{prefix_again, after_again}
use Rattle.nano_toml.proofs.ByteTests.{run_gathered, run_settled, run_ended}

-- ---- between single quotes

pub short_scanned : (pieces : List Piece) (bytes rest : List ℕ) → AreShortPieces pieces
    → short_at bytes false (pieces_text pieces ++ 34 ∷ rest) ≡ Some (record { bytes = bytes ++ encode_utf8_all (pieces_chars pieces); rest = rest })
short_scanned [] bytes rest h = ap (λ (bs : List ℕ). Some (record { bytes = bs; rest = rest })) (sym (append-nil bytes))
short_scanned (plain c ∷ more) bytes rest h =
    rw (ne_eqb c 34 h.0.0, ne_eqb c 92 h.0.1) (short_scanned more (bytes ++ encode_utf8 c) rest h.1
    ∙ ap (λ (bs : List ℕ). Some (record { bytes = bs; rest = rest })) (append_assoc bytes (encode_utf8 c) (encode_utf8_all (pieces_chars more))))
short_scanned (escaped c ∷ more) bytes rest h =
    short_scanned more (bytes ++ encode_utf8 c) rest h.1
    ∙ ap (λ (bs : List ℕ). Some (record { bytes = bs; rest = rest })) (append_assoc bytes (encode_utf8 c) (encode_utf8_all (pieces_chars more)))
short_scanned (quotes run ∷ more) bytes rest h = absurd h.0

-- a text that is scanned as the inside of a string
pub record ShortInside (bytes text : List ℕ) (content : Content) : Type 0 where
  pub pieces : List Piece
  pub good : AreShortPieces pieces
  pub split : text ≡ pieces_text pieces ++ 34 ∷ content.rest
  pub are : content.bytes ≡ bytes ++ encode_utf8_all (pieces_chars pieces)

-- after a backslash
record ShortEscape (bytes text : List ℕ) (content : Content) : Type 0 where
  first : ℕ
  more : List ℕ
  split : text ≡ first ∷ more
  inside : ShortInside (bytes ++ encode_utf8 first) more content

pub same_content : {x y : Content} → Some x ≡ Some y → x ≡ y
same_content e = cc e

short_plain : (c : ℕ) (bytes cs : List ℕ) (content : Content) → c ≢ 34 → c ≢ 92 → ShortInside (bytes ++ encode_utf8 c) cs content → ShortInside bytes (c ∷ cs) content
short_plain c bytes cs content n m h = record {
  pieces = plain c ∷ h.pieces;
  good = ((n, m), h.good);
  split = ap (λ (t : List ℕ). c ∷ t) h.split;
  are = h.are ∙ append_assoc bytes (encode_utf8 c) (encode_utf8_all (pieces_chars h.pieces));
}

short_escaped : (c : ℕ) (bytes cs : List ℕ) (content : Content) → c ≡ 92 → ShortEscape bytes cs content → ShortInside bytes (c ∷ cs) content
short_escaped c bytes cs content e h = record {
  pieces = escaped h.first ∷ h.inside.pieces;
  good = (tt, h.inside.good);
  split = ap (λ (d : ℕ). d ∷ cs) e ∙ (ap (λ (t : List ℕ). 92 ∷ t) h.split ∙ ap (λ (t : List ℕ). 92 ∷ (h.first ∷ t)) h.inside.split);
  are = h.inside.are ∙ append_assoc bytes (encode_utf8 h.first) (encode_utf8_all (pieces_chars h.inside.pieces));
}

short_closed : (c : ℕ) (bytes cs : List ℕ) (content : Content) → c ≡ 34 → record { bytes = bytes; rest = cs } ≡ content → ShortInside bytes (c ∷ cs) content
short_closed c bytes cs content e h = record {
  pieces = [];
  good = tt;
  split = ap (λ (d : ℕ). d ∷ cs) e ∙ ap (λ (x : Content). 34 ∷ x.rest) h;
  are = ap (λ (x : Content). x.bytes) (sym h) ∙ sym (append-nil bytes);
}

mutual
  pub scanned_short : (text bytes : List ℕ) (content : Content) → short_at bytes false text ≡ Some content → ShortInside bytes text content
  scanned_short [] bytes content h = cc h
  scanned_short (c ∷ cs) bytes content h = elim (eqb_tells c 34) [
    | inl e ↦ short_closed c bytes cs content e.1 (same_content (rw e.0 at h))
    | inr e ↦
        let inside = rw e.0 at h in
        elim (eqb_tells c 92) [
          | inl b ↦ short_escaped c bytes cs content b.1 (scanned_escape cs bytes content (rw b.0 at inside))
          | inr b ↦ short_plain c bytes cs content e.1 b.1 (scanned_short cs (bytes ++ encode_utf8 c) content (rw b.0 at inside))
        ]
  ]

  scanned_escape : (text bytes : List ℕ) (content : Content) → short_at bytes true text ≡ Some content → ShortEscape bytes text content
  scanned_escape [] bytes content h = cc h
  scanned_escape (c ∷ cs) bytes content h = record { first = c; more = cs; split = refl; inside = scanned_short cs (bytes ++ encode_utf8 c) content h }

-- ---- between triple quotes

-- a quote is ASCII
quote_encoded : (more : List ℕ) → encode_utf8 34 ++ more ≡ 34 ∷ more
quote_encoded more = ap (λ (t : List ℕ). t ++ more) (encode_ascii 34 (lit< tt))

-- quotes are ASCII
quotes_encoded : (run : List ℕ) → Each is_quote run → encode_utf8_all run ≡ run
quotes_encoded [] h = refl
quotes_encoded (c ∷ cs) h = ap (λ (d : ℕ). encode_utf8 d ++ encode_utf8_all cs) (eqb-true c 34 h.0) ∙ (quote_encoded (encode_utf8_all cs) ∙ (ap (λ (t : List ℕ). 34 ∷ t) (quotes_encoded cs h.1) ∙ ap (λ (d : ℕ). d ∷ cs) (sym (eqb-true c 34 h.0))))

encoded_append : (xs ys : List ℕ) → encode_utf8_all (xs ++ ys) ≡ encode_utf8_all xs ++ encode_utf8_all ys
encoded_append [] ys = refl
encoded_append (x ∷ xs) ys = ap (λ (t : List ℕ). encode_utf8 x ++ t) (encoded_append xs ys) ∙ sym (append_assoc (encode_utf8 x) (encode_utf8_all xs) (encode_utf8_all ys))

-- after a run of quotes comes another piece
run_stops : (more : List Piece) (rest : List ℕ) → StopsQuotes more → AreTriplePieces more → begins is_quote (pieces_text more ++ rest) ≡ false
run_stops [] rest s h = absurd s
run_stops (plain c ∷ more) rest s h = ne_eqb c 34 h.0
run_stops (escaped c ∷ more) rest s h = refl
run_stops (quotes run ∷ more) rest s h = absurd s

run_scanned : (bytes run rest : List ℕ) → Each is_quote run → length run ≢ 3 → begins is_quote rest ≡ false → triple_at bytes (some_quotes []) (run ++ rest) ≡ triple_at (bytes ++ run) (some_quotes []) rest
run_scanned bytes run rest h n e =
    run_gathered bytes [] (run ++ rest)
    ∙ (rw (prefix_again is_quote run rest h e, after_again is_quote run rest h e) (run_settled bytes run rest e (ne_eqb (length run) 3 n)))

pub triple_scanned : (pieces : List Piece) (bytes rest : List ℕ) → AreTriplePieces pieces → begins is_quote rest ≡ false
    → triple_at bytes (some_quotes []) (pieces_text pieces ++ 34 ∷ (34 ∷ (34 ∷ rest))) ≡ Some (record { bytes = bytes ++ encode_utf8_all (pieces_chars pieces); rest = rest })
triple_scanned [] bytes rest h e = run_ended bytes (34 ∷ (34 ∷ (34 ∷ []))) rest e refl ∙ ap (λ (bs : List ℕ). Some (record { bytes = bs; rest = rest })) (sym (append-nil bytes))
triple_scanned (plain c ∷ more) bytes rest h e =
    rw (ne_eqb c 34 h.0, ne_eqb c 92 h.1, append-nil bytes) (triple_scanned more (bytes ++ encode_utf8 c) rest h.2 e
    ∙ ap (λ (bs : List ℕ). Some (record { bytes = bs; rest = rest })) (append_assoc bytes (encode_utf8 c) (encode_utf8_all (pieces_chars more))))
triple_scanned (escaped c ∷ more) bytes rest h e =
    rw (append-nil bytes) (triple_scanned more (bytes ++ encode_utf8 c) rest h e
    ∙ ap (λ (bs : List ℕ). Some (record { bytes = bs; rest = rest })) (append_assoc bytes (encode_utf8 c) (encode_utf8_all (pieces_chars more))))
triple_scanned (quotes run ∷ more) bytes rest h e =
    let closing = 34 ∷ (34 ∷ (34 ∷ rest)) in
    let text = append_assoc run (pieces_text more) (34 ∷ (34 ∷ (34 ∷ rest))) in
    let given : encode_utf8_all (run ++ pieces_chars more) ≡ run ++ encode_utf8_all (pieces_chars more) =
    encoded_append run (pieces_chars more) ∙ ap (λ (t : List ℕ). t ++ encode_utf8_all (pieces_chars more)) (quotes_encoded run h.0) in
    ap (λ (t : List ℕ). triple_at bytes (some_quotes []) t) text
    ∙ (run_scanned bytes run (pieces_text more ++ 34 ∷ (34 ∷ (34 ∷ rest))) h.0 h.2 (run_stops more (34 ∷ (34 ∷ (34 ∷ rest))) h.3 h.4)
    ∙ (triple_scanned more (bytes ++ run) rest h.4 e
    ∙ ap (λ (bs : List ℕ). Some (record { bytes = bs; rest = rest })) (append_assoc bytes run (encode_utf8_all (pieces_chars more)) ∙ ap (λ (t : List ℕ). bytes ++ t) (sym given))))

-- a text that is scanned as the inside of a string
pub record TripleInside (bytes text : List ℕ) (content : Content) : Type 0 where
  pub pieces : List Piece
  pub good : AreTriplePieces pieces
  pub split : text ≡ pieces_text pieces ++ 34 ∷ (34 ∷ (34 ∷ content.rest))
  pub are : content.bytes ≡ bytes ++ encode_utf8_all (pieces_chars pieces)
  pub ends : begins is_quote content.rest ≡ false

-- after a backslash
record TripleEscape (bytes text : List ℕ) (content : Content) : Type 0 where
  first : ℕ
  more : List ℕ
  split : text ≡ first ∷ more
  inside : TripleInside (bytes ++ encode_utf8 first) more content

abbrev triple_plain : (c : ℕ) (bytes cs : List ℕ) (content : Content) → c ≢ 34 → c ≢ 92 → TripleInside (bytes ++ encode_utf8 c) cs content → TripleInside bytes (c ∷ cs) content
triple_plain c bytes cs content n m h = record {
  pieces = plain c ∷ h.pieces;
  good = (n, m, h.good);
  split = ap (λ (t : List ℕ). c ∷ t) h.split;
  are = h.are ∙ append_assoc bytes (encode_utf8 c) (encode_utf8_all (pieces_chars h.pieces));
  ends = h.ends;
}

abbrev triple_escaped : (c : ℕ) (bytes cs : List ℕ) (content : Content) → c ≡ 92 → TripleEscape bytes cs content → TripleInside bytes (c ∷ cs) content
triple_escaped c bytes cs content e h = record {
  pieces = escaped h.first ∷ h.inside.pieces;
  good = h.inside.good;
  split = ap (λ (d : ℕ). d ∷ cs) e ∙ (ap (λ (t : List ℕ). 92 ∷ t) h.split ∙ ap (λ (t : List ℕ). 92 ∷ (h.first ∷ t)) h.inside.split);
  are = h.inside.are ∙ append_assoc bytes (encode_utf8 h.first) (encode_utf8_all (pieces_chars h.inside.pieces));
  ends = h.inside.ends;
}

-- a leading run of other than three quotes is one more piece, unless it is empty
after_run : (bytes run text : List ℕ) (content : Content) → Each is_quote run → length run ≢ 3 → (h : TripleInside (bytes ++ run) text content) → StopsQuotes h.pieces → TripleInside bytes (run ++ text) content
after_run bytes [] text content q n h s = subst (λ (bs : List ℕ). TripleInside bs text content) (append-nil bytes) h
after_run bytes (q ∷ qs) text content each n h s =
    let run = q ∷ qs in
    let given : encode_utf8_all ((q ∷ qs) ++ pieces_chars h.pieces) ≡ (q ∷ qs) ++ encode_utf8_all (pieces_chars h.pieces) =
    encoded_append (q ∷ qs) (pieces_chars h.pieces) ∙ ap (λ (t : List ℕ). t ++ encode_utf8_all (pieces_chars h.pieces)) (quotes_encoded (q ∷ qs) each) in
    record {
      pieces = quotes (q ∷ qs) ∷ h.pieces;
      good = (each, omega arith, n, s, h.good);
      split = ap (λ (t : List ℕ). (q ∷ qs) ++ t) h.split ∙ sym (append_assoc (q ∷ qs) (pieces_text h.pieces) (34 ∷ (34 ∷ (34 ∷ content.rest))));
      are = h.are ∙ (append_assoc bytes (q ∷ qs) (encode_utf8_all (pieces_chars h.pieces)) ∙ ap (λ (t : List ℕ). bytes ++ t) (sym given));
      ends = h.ends;
    }

three_quotes : (run : List ℕ) → Each is_quote run → length run ≡ 3 → run ≡ 34 ∷ (34 ∷ (34 ∷ []))
three_quotes [] h n = absurd (omega (arith, n))
three_quotes (a ∷ []) h n = absurd (omega (arith, n))
three_quotes (a ∷ b ∷ []) h n = absurd (omega (arith, n))
three_quotes (a ∷ b ∷ c ∷ []) h n = rw (eqb-true a 34 h.0, eqb-true b 34 h.1.0, eqb-true c 34 h.1.1.0) refl
three_quotes (a ∷ b ∷ c ∷ d ∷ more) h n = absurd (omega (arith, n))

closed_by : (bytes run text : List ℕ) (content : Content) → Each is_quote run → length run ≡ 3 → begins is_quote text ≡ false → record { bytes = bytes; rest = text } ≡ content → TripleInside bytes (run ++ text) content
closed_by bytes run text content h n e same = record {
  pieces = [];
  good = tt;
  split = ap (λ (t : List ℕ). t ++ text) (three_quotes run h n) ∙ ap (λ (x : Content). 34 ∷ (34 ∷ (34 ∷ x.rest))) same;
  are = ap (λ (x : Content). x.bytes) (sym same) ∙ sym (append-nil bytes);
  ends = ap (λ (x : Content). begins is_quote x.rest) (sym same) ∙ e;
}

each_push : (run : List ℕ) (c : ℕ) → Each is_quote run → is_quote c ≡ true → Each is_quote (run ++ c ∷ [])
each_push [] c h e = (e, tt)
each_push (q ∷ qs) c h e = (h.0, each_push qs c h.1 e)

mutual
  pub scanned_triple : (text bytes run : List ℕ) (content : Content) → Each is_quote run → triple_at bytes (some_quotes run) text ≡ Some content → TripleInside bytes (run ++ text) content
  scanned_triple [] bytes run content q h = elim (eqb_tells (length run) 3) [
    | inl t ↦ closed_by bytes run [] content q t.1 refl (same_content (rw t.0 at h))
    | inr t ↦ let none = rw t.0 at h in cc none
  ]
  scanned_triple (c ∷ cs) bytes run content q h = elim (eqb_tells c 34) [
    | inl e ↦ subst (λ (t : List ℕ). TripleInside bytes t content) (append_assoc run (c ∷ []) cs) (scanned_triple cs bytes (run ++ c ∷ []) content (each_push run c q e.0) (rw e.0 at h))
    | inr e ↦
        let other = rw e.0 at h in
        elim (eqb_tells (length run) 3) [
          | inl t ↦ closed_by bytes run (c ∷ cs) content q t.1 e.0 (same_content (rw t.0 at other))
          | inr t ↦
              let inside = rw t.0 at other in
              elim (eqb_tells c 92) [
                | inl b ↦ after_run bytes run (c ∷ cs) content q t.1 (triple_escaped c (bytes ++ run) cs content b.1 (scanned_triple_escape cs (bytes ++ run) content (rw b.0 at inside))) tt
                | inr b ↦ after_run bytes run (c ∷ cs) content q t.1 (triple_plain c (bytes ++ run) cs content e.1 b.1 (scanned_triple cs ((bytes ++ run) ++ encode_utf8 c) [] content tt (rw b.0 at inside))) tt
              ]
        ]
  ]

  scanned_triple_escape : (text bytes : List ℕ) (content : Content) → triple_at bytes a_backslash text ≡ Some content → TripleEscape bytes text content
  scanned_triple_escape [] bytes content h = cc h
  scanned_triple_escape (c ∷ cs) bytes content h = record { first = c; more = cs; split = refl; inside = scanned_triple cs (bytes ++ encode_utf8 c) [] content tt h }

-- ---- a string

-- pieces between single quotes begin with no quote
short_begins : (pieces : List Piece) (rest : List ℕ) → 0 < length pieces → AreShortPieces pieces → begins is_quote (pieces_text pieces ++ rest) ≡ false
short_begins [] rest n h = absurd (omega (arith, n))
short_begins (plain c ∷ more) rest n h = ne_eqb c 34 h.0.0
short_begins (escaped c ∷ more) rest n h = refl
short_begins (quotes run ∷ more) rest n h = absurd h.0

at_short : (text : List ℕ) → begins is_quote text ≡ false → after_one_quote text ≡ short_at [] false text
at_short text e = rw e refl

pub string_scanned : (text chars rest : List ℕ) → IsString (34 ∷ text) chars rest → after_one_quote text ≡ Some (record { bytes = encode_utf8_all chars; rest = rest })
string_scanned text chars rest (empty split ends none) =
    let inside : text ≡ 34 ∷ rest = cc split in
    rw (inside, none, ends) refl
string_scanned text chars rest (short pieces some good split are) =
    let inside : text ≡ pieces_text pieces ++ 34 ∷ rest = cc split in
    rw (inside, are) (at_short (pieces_text pieces ++ 34 ∷ rest) (short_begins pieces (34 ∷ rest) some good) ∙ short_scanned pieces [] rest good)
string_scanned text chars rest (triple pieces good split ends are) =
    let inside : text ≡ 34 ∷ (34 ∷ (pieces_text pieces ++ 34 ∷ (34 ∷ (34 ∷ rest)))) = cc split in
    rw (inside, are) (triple_scanned pieces [] rest good ends)

-- a content, as a string's
abbrev pub StringAt : List ℕ → Content → Type 0
StringAt text content = (chars : List ℕ) × IsString text chars content.rest × (content.bytes ≡ encode_utf8_all chars)

some_pieces : (pieces : List Piece) (text rest : List ℕ) → begins is_quote text ≡ false → text ≡ pieces_text pieces ++ 34 ∷ rest → 0 < length pieces
some_pieces [] text rest e h = absurd (true≢false (sym (ap (λ (t : List ℕ). begins is_quote t) h) ∙ e))
some_pieces (p ∷ ps) text rest e h = omega arith

string_short : (text : List ℕ) (content : Content) → begins is_quote text ≡ false → ShortInside [] text content → StringAt (34 ∷ text) content
string_short text content e h = (pieces_chars h.pieces, short h.pieces (some_pieces h.pieces text content.rest e h.split) h.good (ap (λ (t : List ℕ). 34 ∷ t) h.split) refl, h.are)

string_empty : (text : List ℕ) (content : Content) → begins is_quote text ≡ false → record { bytes = []; rest = text } ≡ content → StringAt (34 ∷ (34 ∷ text)) content
string_empty text content e h = ([], empty (ap (λ (x : Content). 34 ∷ (34 ∷ x.rest)) h) (ap (λ (x : Content). begins is_quote x.rest) (sym h) ∙ e) refl, ap (λ (x : Content). x.bytes) (sym h))

string_triple : (text : List ℕ) (content : Content) → TripleInside [] text content → StringAt (34 ∷ (34 ∷ (34 ∷ text))) content
string_triple text content h = (pieces_chars h.pieces, triple h.pieces h.good (ap (λ (t : List ℕ). 34 ∷ (34 ∷ (34 ∷ t))) h.split) h.ends refl, h.are)

scanned_two : (text : List ℕ) (content : Content) → after_two_quotes text ≡ Some content → StringAt (34 ∷ (34 ∷ text)) content
scanned_two [] content h = string_empty [] content refl (same_content h)
scanned_two (c ∷ cs) content h = elim (eqb_tells c 34) [
  | inl e ↦ rw e.1 (string_triple cs content (scanned_triple cs [] [] content tt (rw e.0 at h)))
  | inr e ↦ string_empty (c ∷ cs) content e.0 (same_content (rw e.0 at h))
]

pub scanned_string : (text : List ℕ) (content : Content) → after_one_quote text ≡ Some content → StringAt (34 ∷ text) content
scanned_string [] content h = cc h
scanned_string (c ∷ cs) content h = elim (eqb_tells c 34) [
  | inl e ↦ rw e.1 (scanned_two cs content (rw e.0 at h))
  | inr e ↦ string_short (c ∷ cs) content e.0 (scanned_short (c ∷ cs) [] content (sym (at_short (c ∷ cs) e.0) ∙ h))
]
