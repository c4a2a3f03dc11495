-- What the calls come to that take items of a list after commas, one after the other.
use Rattle.std.proofs.Common.{◌≡◌, ◌≢◌, ◌<◌, ◌≤◌, List, [], ◌∷◌, ◌++◌, sym, ◌∙◌, ap, subst, refl, ℕ, arith, inl, inr}
use Rattle.std.proofs.Common.{append-nil, append_assoc}
use Rattle.nano_grammar.proofs.TokensLaws.{CutLaws, tokens_left, leaves_shorter}
use Rattle.nano_grammar.specs.Tokens.{At, Cutting, Leaves, Spans}
use Rattle.nano_grammar.specs.Codec.{Grammar, IsEncoding, AreBrackets}
use Rattle.nano_grammar.specs.Items.{ListPunctuation}
use Rattle.nano_grammar.proofs.Containers.{ReadSoFar}
use Rattle.nano_grammar.proofs.Reading.{value_shorter}
use Rattle.nano_grammar.proofs.CollectingCalls.{Filled, filled_next, comma_not}
use Rattle.nano_text.proofs.PlaceLaws.{moves_none, moves_append, moves_from}
use Rattle.nano_text.proofs.RemainingText.{same_remaining}
use Rattle.nano_text.specs.Place.{text_at, Moves}
use Rattle.nano_text.specs.declared.place.Place.{Place}
use Rattle.std.specs.declared.str.Chars.{Chars}
use Rattle.std.specs.Str.Iter.{chars_rest}
use Rattle.nano_grammar.specs.ItemRuns.{TookItem, TookItems, PutItems}
use Rattle.nano_grammar.specs.Outcomes.{Position, Moved, TookComma, Read}
use Rattle.nano_grammar.specs.Outcomes.{Report, Fails, GoesWrong, ReadsNone}
use Rattle.nano_grammar.specs.Faults.{AreTokens}
use Rattle.nano_grammar.specs.Lists.{EncodesAll}
use Rattle.nano_value.specs.Meaning.{Meaning}

-- what one encoding takes another does, where what it takes encodes that
pub item_as : {T V W : Type 0} (cut : List ℕ → T → List ℕ → Type 0) (comma : T) (S : List T → V → Type 0)
    (R : List T → W → Type 0) {start end : Position T} {v : V} {w : W} → ((ts : List T) → S ts v → R ts w)
    → TookItem cut S comma start end v → TookItem cut R comma start end w
item_as cut comma S R to h =
    let ts = h.3.decodes in
    (h.0, h.1, h.2, record { decodes = (ts.0, to ts.0 ts.1, ts.2); place = h.3.place })

module _ {T : Type 0} {c : Cutting T} {g : Grammar T} (r : CutLaws c g)
    (punctuation : ListPunctuation T) (are : AreBrackets g punctuation) where
  -- a list of items is a collection that holds itself
  abbrev pub is_itself : {V : Type 0} → List V → List V → Type 0
  is_itself items values = items ≡ values

  -- these items are read, and the comma after the last one is not taken
  pub record ReadUpTo {V : Type 0} (S : List T → V → Type 0) (start end : Position T)
      (items : List V) : Type 0 where
    pub before : List V
    pub last : V
    pub item : Position T
    pub all : items ≡ before ++ last ∷ []
    pub filled : Filled r punctuation are is_itself S start item before
    pub read : Read c.cut S item end last

  module _ {V : Type 0} {P : V → Type 0} {S : List T → V → Type 0} (s : IsEncoding g P S) where
    -- the comma after an item that was taken
    its_comma : {start end : Position T} {value : V}
        → (h : TookItem c.cut S punctuation.comma start end value)
        → TookComma c.cut (Unit {0}) start h.0 punctuation.comma punctuation.closing (Unit {0})
    its_comma h = record { taken = inl h.1; unchanged = λ _. tt; buffers = tt; place = h.2 }

    -- the collection is filled with the items up to here
    pub filled_items : {C : Type 0} {holds : C → List V → Type 0} {start here : Position T} {x : C}
        → (h : Filled r punctuation are holds S start here x)
        → Filled r punctuation are is_itself S start here h.read.items
    filled_items h =
        record { read = record { items = h.read.items; held = refl; read = h.read.read }; place = h.place }

    pub up_to_first : {C : Type 0} {holds : C → List V → Type 0} {start here mid : Position T} {x : C} {v : V}
        → (h : Filled r punctuation are holds S start here x) → Read c.cut S here mid v
        → ReadUpTo S start mid (h.read.items ++ v ∷ [])
    up_to_first {here = here} {v = v} h i =
        record { before = h.read.items; last = v; item = here; all = refl; filled = filled_items h; read = i }

    up_to_next : {start mid end : Position T} {values : List V} {v : V} → ReadUpTo S start mid values
        → TookItem c.cut S punctuation.comma mid end v → ReadUpTo S start end (values ++ v ∷ [])
    up_to_next {values = values} {v} h i = record {
      before = values;
      last = v;
      item = i.0;
      all = refl;
      filled = filled_next r punctuation are s is_itself values h.filled h.read (its_comma i)
          (λ vs is. h.all ∙ ap (λ (us : List V). us ++ h.last ∷ []) is);
      read = i.3;
    }

    pub up_to_more : {start mid end : Position T} {values : List V} (more : List V)
        → ReadUpTo S start mid values → TookItems c.cut S punctuation.comma mid more end
        → ReadUpTo S start end (values ++ more)
    up_to_more {start = start} {mid = mid} {end = end} {values = values} [] h is =
        subst (λ (us : List V). ReadUpTo S start end us) (sym (append-nil values)) (record {
          before = h.before;
          last = h.last;
          item = h.item;
          all = h.all;
          filled = h.filled;
          read = record {
            decodes = subst (λ at. Spans c.cut S h.item.at at h.last) is.0 h.read.decodes;
            place = moves_append h.read.place is.1;
          };
        })
    up_to_more {start = start} {mid = mid} {end = end} {values = values} (v ∷ more) h is =
        subst (λ (us : List V). ReadUpTo S start end us) (append_assoc values (v ∷ []) more)
        (up_to_more {start = start} {mid = is.0} {end = end} {values = values ++ v ∷ []} more (up_to_next h is.1) is.2)

    -- then the comma is taken
    pub filled_up_to : {C : Type 0} (holds : C → List V → Type 0) {buffered same : Type 0}
        {start mid next : Position T} {values : List V} (y : C) → holds y values
        → ReadUpTo S start mid values
        → TookComma c.cut buffered mid next punctuation.comma punctuation.closing same
        → Filled r punctuation are holds S start next y
    filled_up_to holds {start = start} {next = next} {values} y held h comma =
        let more = filled_next r punctuation are s is_itself values h.filled h.read comma
        (λ vs is. h.all ∙ ap (λ (us : List V). us ++ h.last ∷ []) is) in
        record {
          read = record { items = values; held = held; read = subst (λ (us : List V). ReadSoFar r punctuation S start.at next.at us) (sym more.read.held) more.read.read };
          place = more.place;
        }

    pub items_moved : (start end : Position T) (values : List V)
        → TookItems c.cut S punctuation.comma start values end → Moved start end
    items_moved start end [] is = is.1
    items_moved start end (v ∷ values) is =
        moves_append (moves_append is.1.2 is.1.3.place) (items_moved is.0 end values is.2)

    pub items_shorter : (start end : Position T) (values : List V)
        → TookItems c.cut S punctuation.comma start values end
        → tokens_left r.is_end end.at ≤ tokens_left r.is_end start.at
    items_shorter start end [] is = omega (arith, ap (tokens_left r.is_end) is.0)
    items_shorter start end (v ∷ values) is =
        let i = is.1 in
        let one = leaves_shorter c.cut r.is_end r.shorter (punctuation.comma ∷ []) start.at i.0.at i.1 in
        let two = leaves_shorter c.cut r.is_end r.shorter i.3.decodes.0 i.0.at is.0.at i.3.decodes.2 in
        omega (arith, one, two, items_shorter is.0 end values is.2)

    comma_shorter : {buffered same : Type 0} {here next : Position T}
        → TookComma c.cut buffered here next punctuation.comma punctuation.closing same
        → tokens_left r.is_end next.at ≤ tokens_left r.is_end here.at
    comma_shorter {here = here} {next} h = elim h.taken [
      | inl l ↦ leaves_shorter c.cut r.is_end r.shorter (punctuation.comma ∷ []) here.at next.at l
      | inr p ↦ omega (arith, ap (tokens_left r.is_end) p.1)
    ]

    -- an item takes a token
    pub item_less : {start end : Position T} {v : V} → TookItem c.cut S punctuation.comma start end v
        → tokens_left r.is_end end.at < tokens_left r.is_end start.at
    item_less {start} {end} {v} h =
        let one = leaves_shorter c.cut r.is_end r.shorter (punctuation.comma ∷ []) start.at h.0.at h.1 in
        let i = h.3.decodes in
        omega (arith, one, value_shorter r i.0 h.0.at end.at (s.begins i.0 v i.1) i.2)

    -- one more item, after the others
    items_append : (start mid end : Position T) (values : List V) {v : V}
        → TookItems c.cut S punctuation.comma start values mid
        → TookItem c.cut S punctuation.comma mid end v
        → TookItems c.cut S punctuation.comma start (values ++ v ∷ []) end
    items_append start mid end [] is i =
        (end, (i.0, subst (λ at. Leaves c.cut (punctuation.comma ∷ []) at i.0.at) (sym is.0) i.1, moves_append is.1 i.2, i.3), (refl, moves_none end.place end.input))
    items_append start mid end (w ∷ values) is i = (is.0, is.1, items_append is.0 mid end values is.2 i)

    -- put into a collection, too
    pub put_more : {C : Type 0} (holds : C → List V → Type 0) {start mid end : Position T} {x y : C} (z : C) {v : V}
        → PutItems c.cut S punctuation.comma holds start mid x y
        → TookItem c.cut S punctuation.comma mid end v
        → ((vs : List V) → holds y vs → holds z (vs ++ v ∷ []))
        → PutItems c.cut S punctuation.comma holds start end x z
    put_more holds {start} {mid} {end} {x} z {v} h i put = record {
      items = h.items ++ v ∷ [];
      taken = items_append start mid end h.items h.taken i;
      put = λ held is. subst (holds z) (append_assoc held h.items (v ∷ [])) (put (held ++ h.items) (h.put held is));
    }

    -- nothing was put into it
    pub put_none : {C : Type 0} (holds : C → List V → Type 0) {start end : Position T} (x : C) → start.at ≡ end.at
        → Moved start end → PutItems c.cut S punctuation.comma holds start end x x
    put_none holds x same moved = record {
      items = [];
      taken = (same, moved);
      put = λ held is. subst (holds x) (sym (append-nil held)) is;
    }

    pub put_moved : {C : Type 0} (holds : C → List V → Type 0) {start end : Position T} {x y : C}
        → PutItems c.cut S punctuation.comma holds start end x y → Moved start end
    put_moved holds {start} {end} h = items_moved start end h.items h.taken

    pub put_shorter : {C : Type 0} (holds : C → List V → Type 0) {start end : Position T} {x y : C}
        → PutItems c.cut S punctuation.comma holds start end x y
        → tokens_left r.is_end end.at ≤ tokens_left r.is_end start.at
    put_shorter holds {start} {end} h = items_shorter start end h.items h.taken

    -- ---- a turn of the loop that fills a collection: an item, those after it, and a comma

    pub run_shorter : {C : Type 0} (holds : C → List V → Type 0) {buffered same : Type 0}
        {here mid last next : Position T} {x y : C} {v : V} → Read c.cut S here mid v
        → PutItems c.cut S punctuation.comma holds mid last x y
        → TookComma c.cut buffered last next punctuation.comma punctuation.closing same
        → tokens_left r.is_end next.at < tokens_left r.is_end here.at
    run_shorter holds {here = here} {mid} {last} {next} {v = v} item run comma =
        let i = item.decodes in
        let less = value_shorter r i.0 here.at mid.at (s.begins i.0 v i.1) i.2 in
        omega (arith, less, put_shorter holds run, comma_shorter comma)

    pub filled_run : {C : Type 0} (holds : C → List V → Type 0) {buffered same : Type 0}
        {start here mid last next : Position T} {x y z : C} {v : V} → Filled r punctuation are holds S start here x
        → Read c.cut S here mid v → ((vs : List V) → holds x vs → holds y (vs ++ v ∷ []))
        → PutItems c.cut S punctuation.comma holds mid last y z
        → TookComma c.cut buffered last next punctuation.comma punctuation.closing same
        → Filled r punctuation are holds S start next z
    filled_run holds {z = z} {v} h item put run comma =
        filled_up_to holds z (run.put (h.read.items ++ v ∷ []) (put h.read.items h.read.held))
        (up_to_more run.items (up_to_first h item) run.taken) comma

    -- where no comma stands after the items, nothing is encoded
    pub run_comma_not : {C : Type 0} (holds : C → List V → Type 0) (whole : List V → Meaning)
        {start here mid last end : Position T} {x y z : C} {v : V} {e : Report}
        → Filled r punctuation are holds S start here x → Read c.cut S here mid v
        → PutItems c.cut S punctuation.comma holds mid last y z
        → Fails ((last.at.token ≢ punctuation.closing)
        × GoesWrong c.cut c.breaks (AreTokens (punctuation.comma ∷ [])) last end) last end e
        → ReadsNone c.cut c.breaks (EncodesAll punctuation whole S) start end e
    run_comma_not holds whole h item run bad =
        let all = up_to_more run.items (up_to_first h item) run.taken in
        comma_not r punctuation are s is_itself whole all.filled all.read bad

-- ---- where a token is pending

abbrev at_text : {T : Type 0} → T → List ℕ → At T
at_text t text = record { token = t; text = text }

abbrev stands_at : {T : Type 0} → T → Place → Chars → Position T
stands_at t p i = record { at = at_text t (text_at p i); place = p; input = i }

-- a copy of the input is where the input is
pub copied : (p : Place) (i j : Chars) → chars_rest j ≡ chars_rest i → Moves p i p j
copied p i j same = moves_from p p j i j same (moves_none p j)

-- and there the same comes after the token
pub at_copy : {T : Type 0} {t u : T} (p : Place) (i j : Chars) → t ≡ u → chars_rest j ≡ chars_rest i
    → at_text t (text_at p i) ≡ at_text u (text_at p j)
at_copy {T} {t} {u} p i j is same =
    ap (λ (s : T). at_text s (text_at p i)) is ∙ ap (at_text u) (same_remaining p.cur i j (sym same))

-- one token at one place
pub same_position : {T : Type 0} {t u : T} {p q : Place} (i : Chars) → t ≡ u → p ≡ q
    → stands_at t p i ≡ stands_at u q i
same_position {T} {t} {u} {p} {q} i is stands =
    ap (λ (s : T). stands_at s p i) is ∙ ap (λ (r : Place). stands_at u r i) stands
