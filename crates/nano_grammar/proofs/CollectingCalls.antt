-- What the calls that fill a collection come to: at the head of the loop, after a turn, and at each
-- exit.
use Rattle.std.proofs.Common.{◌≡◌, ◌≢◌, ◌<◌, List, [], ◌∷◌, ◌++◌, sym, subst, ℕ, length, true}
use Rattle.nano_value.specs.Meaning.{Meaning, usize_bound, IsImage}
use Rattle.nano_grammar.proofs.TokensLaws.{CutLaws, tokens_left}
use Rattle.nano_grammar.specs.Tokens.{Cutting, At, Leaves, Spans}
use Rattle.nano_grammar.specs.Faults.{AreTokens}
use Rattle.nano_grammar.specs.Codec.{Grammar, IsEncoding, AreBrackets}
use Rattle.nano_grammar.specs.Items.{ListPunctuation, EncodedList}
use Rattle.nano_grammar.specs.Lists.{EncodesAll, EncodesCount}
use Rattle.nano_grammar.proofs.Containers.{ReadSoFar, read_start, read_next, read_found, read_few}
use Rattle.nano_grammar.proofs.Containers.{read_opening_leads, read_item_leads, read_comma_leads}
use Rattle.nano_grammar.proofs.Containers.{read_closing_leads, item_taken, item_shorter}
use Rattle.nano_grammar.proofs.FaultLaws.{LeadsTo, wrong_in}
use Rattle.nano_grammar.proofs.ItemLaws.{ends_at}
use Rattle.nano_grammar.proofs.ListsLaws.{as_item}
use Rattle.nano_grammar.proofs.PartReading.{CommaTaken}
use Rattle.nano_grammar.proofs.Reading.{image_spans, list_spans, count_spans}
use Rattle.nano_text.proofs.PlaceLaws.{moves_append}
use Rattle.nano_grammar.specs.Outcomes.{Report, Position, Moved, IsMadeAt, Fails, Took, TookComma}
use Rattle.nano_grammar.specs.Outcomes.{Read, GoesWrong, ReadsNone}
use Rattle.nano_grammar.proofs.TupleCalls.{item_missing, item_too_many, not_closing}
use Rattle.nano_grammar.proofs.TokenCalls.{fails_after, fails_for_memory, none_in, none_first}

-- ==== what is known while a collection is filled

module _ {T : Type 0} {c : Cutting T} {g : Grammar T} (r : CutLaws c g)
    (punctuation : ListPunctuation T) (are : AreBrackets g punctuation) where
  -- these items are read, and the collection holds them
  pub record Collected {C V : Type 0} (holds : C → List V → Type 0) (S : List T → V → Type 0)
      (start here : At T) (x : C) : Type 0 where
    pub items : List V
    pub held : holds x items
    pub read : ReadSoFar r punctuation S start here items

  module _ {V C : Type 0} {P : V → Type 0} {S : List T → V → Type 0} (s : IsEncoding g P S)
      (holds : C → List V → Type 0) where
    pub collected_start : (start here : At T) (x : C) → holds x []
        → Leaves c.cut (punctuation.opening ∷ []) start here → Collected holds S start here x
    collected_start start here x h l =
        record { items = []; held = h; read = read_start r punctuation are (as_item s punctuation) start here l }

    pub collected_next : (start here following next : At T) (x y : C) (v : V)
        → Collected holds S start here x → here.token ≢ punctuation.closing
        → Spans c.cut S here following v → CommaTaken c.cut punctuation following next
        → ((vs : List V) → holds x vs → holds y (vs ++ v ∷ [])) → Collected holds S start next y
    collected_next start here following next x y v h n i taken put = record {
      items = h.items ++ v ∷ [];
      held = put h.items h.held;
      read = read_next r punctuation are (as_item s punctuation) start here following next h.items v h.read n i taken;
    }

    module _ (whole : List V → Meaning) where
      -- once the closing bracket is taken, the collection is read
      pub collected_found : (means : C → Meaning)
          → ((x : C) (vs : List V) → holds x vs → means x ≡ whole vs)
          → (start here end : At T) (x : C) → Collected holds S start here x
          → tokens_left r.is_end start < usize_bound
          → Leaves c.cut (punctuation.closing ∷ []) here end
          → Spans c.cut (EncodesAll punctuation whole S) start end (means x)
      collected_found means is start here end x h few k =
          let count = read_few r punctuation are (as_item s punctuation) start here h.items h.read few in
          let list = read_found r punctuation are (as_item s punctuation) start here end h.items h.read k in
          let all = list_spans r punctuation S start end h.items count list in
          subst (λ (m : Meaning). Spans c.cut (EncodesAll punctuation whole S) start end m)
          (sym (is x h.items h.held)) (image_spans c whole start end h.items all)

      -- what a list leads to, a collection does
      pub all_lead : {W : Type 0} (part : List T → W → Type 0) (ts : List T) (pending : T)
          → LeadsTo (EncodedList punctuation S) part ts pending
          → LeadsTo (EncodesAll punctuation whole S) part ts pending
      all_lead part ts pending leads us more rest next m e is =
          leads us more rest next e.part e.has.items is

      -- and an array
      pub count_leads : {W : Type 0} (part : List T → W → Type 0) (count : ℕ) (ts : List T) (pending : T)
          → LeadsTo (EncodesCount punctuation count S) part ts pending
          → LeadsTo (λ us. IsImage whole (EncodesCount punctuation count S us)) part ts pending
      count_leads part count ts pending leads us more rest next m e is =
          leads us more rest next e.part e.has is

      pub array_leads : {W : Type 0} (part : List T → W → Type 0) (count : ℕ) (ts : List T) (pending : T)
          → LeadsTo (EncodedList punctuation S) part ts pending
          → LeadsTo (λ us. IsImage whole (EncodesCount punctuation count S us)) part ts pending
      array_leads part count ts pending leads us more rest next m e is =
          leads us more rest next e.part e.has.items is

-- ==== collecting calls

module _ {T : Type 0} {c : Cutting T} {g : Grammar T} (r : CutLaws c g)
    (punctuation : ListPunctuation T) (are : AreBrackets g punctuation) where
  -- a collection is filled so far, and line and column count exactly the characters up to here
  pub record Filled {C V : Type 0} (holds : C → List V → Type 0) (S : List T → V → Type 0)
      (start here : Position T) (x : C) : Type 0 where
    pub read : Collected r punctuation are holds S start.at here.at x
    pub place : Moved start here

  -- what an error at a comma reports
  abbrev NoComma : Position T → Position T → Type 0
  NoComma here end = (here.at.token ≢ punctuation.closing)
      × GoesWrong c.cut c.breaks (AreTokens (punctuation.comma ∷ [])) here end

  module _ {V : Type 0} {P : V → Type 0} {S : List T → V → Type 0} (s : IsEncoding g P S) where
    -- a turn takes a token
    pub turn_shorter : {buffered same : Type 0} {here mid next : Position T} {v : V} → Read c.cut S here mid v
        → TookComma c.cut buffered mid next punctuation.comma punctuation.closing same
        → tokens_left r.is_end next.at < tokens_left r.is_end here.at
    turn_shorter {here = here} {mid} {next} {v} item comma =
        item_shorter r punctuation are (as_item s punctuation) here.at mid.at next.at v item.decodes comma.taken

    module _ {C : Type 0} (holds : C → List V → Type 0) where
      pub filled_none : {buffered : Type 0} {start here : Position T} (x : C) → holds x []
          → Took c.cut buffered start here (punctuation.opening ∷ []) → Filled holds S start here x
      filled_none {start = start} {here} x h bracket = record {
        read = collected_start r punctuation are s holds start.at here.at x h bracket.taken;
        place = bracket.place;
      }

      pub filled_next : {buffered same : Type 0} {start here mid next : Position T} {x : C} {v : V} (y : C)
          → Filled holds S start here x → Read c.cut S here mid v
          → TookComma c.cut buffered mid next punctuation.comma punctuation.closing same
          → ((vs : List V) → holds x vs → holds y (vs ++ v ∷ [])) → Filled holds S start next y
      filled_next {start = start} {here} {mid} {next} {x} {v} y h item comma put = record {
        read =
            collected_next r punctuation are s holds start.at here.at mid.at next.at x y v h.read (not_closing r punctuation are s here.at mid.at v item.decodes) item.decodes comma.taken put;
        place = moves_append h.place (moves_append item.place comma.place);
      }

      -- memory ran out where an item was read
      pub filled_no_more : {A : Type 0} {start here mid : Position T} {x : C} {v : V} {e : Report}
          → Filled holds S start here x → Read c.cut S here mid v → e.memory ≡ true
          → IsMadeAt mid.place e → Fails A start mid e
      filled_no_more h item memory made = fails_for_memory (moves_append h.place item.place) memory made

      -- the tokens of the items so far and of this one, to which a comma belongs
      comma_after : {start here mid : Position T} {x : C} {v : V} → Filled holds S start here x
          → Read c.cut S here mid v
          → (ts : List T) × (mid.at.token ≢ punctuation.closing
          → LeadsTo (EncodedList punctuation S) (AreTokens (punctuation.comma ∷ [])) ts mid.at.token)
          × Leaves c.cut ts start.at mid.at
      comma_after {start} {here} {mid} {v = v} h item =
          let read = h.read.read in
          let i = item.decodes in
          let n = not_closing r punctuation are s here.at mid.at v i in (
            read.so_far.prefix ++ i.0,
            read_comma_leads r punctuation are (as_item s punctuation) start.at here.at h.read.items read mid.at v n i
                (ends_at S s.none_begins i.0 v i.1 mid.at.token),
            item_taken r punctuation are (as_item s punctuation) start.at here.at h.read.items read mid.at v i,
          )

      -- ---- any number of items

      module _ (whole : List V → Meaning) where
        abbrev All : List T → Meaning → Type 0
        All = EncodesAll punctuation whole S

        pub all_read : {buffered : Type 0} {start here end : Position T} {x : C} (means : C → Meaning)
            → ((x : C) (vs : List V) → holds x vs → means x ≡ whole vs)
            → tokens_left r.is_end start.at < usize_bound → Filled holds S start here x
            → Took c.cut buffered here end (punctuation.closing ∷ [])
            → Read c.cut (EncodesAll punctuation whole S) start end (means x)
        all_read {start = start} {here} {end} {x} means is few h bracket = record {
          decodes = collected_found r punctuation are s holds whole means is start.at here.at end.at x h.read few bracket.taken;
          place = moves_append h.place bracket.place;
        }

        pub opening_not : {start end : Position T} {e : Report}
            → ReadsNone c.cut c.breaks (AreTokens (punctuation.opening ∷ [])) start end e → ReadsNone c.cut c.breaks All start end e
        opening_not {start} h =
            let Opening = AreTokens (punctuation.opening ∷ []) in
            none_first c.cut All Opening
            (all_lead r punctuation are s holds whole Opening [] start.at.token
            (read_opening_leads r punctuation are (as_item s punctuation) start.at.token)) h

        pub item_not : {start here end : Position T} {x : C} {e : Report} → Filled holds S start here x
            → here.at.token ≢ punctuation.closing → ReadsNone c.cut c.breaks S here end e → ReadsNone c.cut c.breaks All start end e
        item_not {start} {here} h other bad =
            let read = h.read.read in
            let ts = read.so_far.prefix in
            none_in c.cut All S ts
            (all_lead r punctuation are s holds whole S ts here.at.token
            (read_item_leads r punctuation are (as_item s punctuation) start.at here.at h.read.items read other))
            read.so_far.taken h.place bad

        pub comma_not : {start here mid end : Position T} {x : C} {v : V} {e : Report} → Filled holds S start here x
            → Read c.cut S here mid v → Fails (NoComma mid end) mid end e → ReadsNone c.cut c.breaks All start end e
        comma_not {start} {here} {mid} {v = v} h item bad =
            let moved = moves_append h.place item.place in
            fails_after (λ none. let k = comma_after h item in
            wrong_in c.cut All (AreTokens (punctuation.comma ∷ [])) k.0
            (all_lead r punctuation are s holds whole (AreTokens (punctuation.comma ∷ [])) k.0 mid.at.token (k.1 none.0))
            k.2 moved none.1) moved bad

        pub closing_not : {start here end : Position T} {x : C} {e : Report} → Filled holds S start here x
            → here.at.token ≡ punctuation.closing
            → ReadsNone c.cut c.breaks (AreTokens (punctuation.closing ∷ [])) here end e → ReadsNone c.cut c.breaks All start end e
        closing_not {start} {here} h is bad =
            let read = h.read.read in
            let ts = read.so_far.prefix in
            let Closing = AreTokens (punctuation.closing ∷ []) in
            none_in c.cut All Closing ts
            (all_lead r punctuation are s holds whole Closing ts here.at.token
            (read_closing_leads r punctuation are (as_item s punctuation) start.at here.at h.read.items read is))
            read.so_far.taken h.place bad

      -- ---- so many items

      module _ (whole : List V → Meaning) (count : ℕ) where
        abbrev Array : List T → Meaning → Type 0
        Array ts = IsImage whole (EncodesCount punctuation count S ts)

        pub array_read : {buffered : Type 0} {start here end : Position T} {x : C} (means : C → Meaning)
            → ((vs : List V) → holds x vs → (means x ≡ whole vs) × (length vs ≡ count))
            → Filled holds S start here x → Took c.cut buffered here end (punctuation.closing ∷ [])
            → Read c.cut (λ ts. IsImage whole (EncodesCount punctuation count S ts)) start end (means x)
        array_read {start = start} {here} {end} {x} means is h bracket =
            let all = is h.read.items h.read.held in
            let list = read_found r punctuation are (as_item s punctuation) start.at here.at end.at h.read.items h.read.read bracket.taken in
            let array = image_spans c whole start.at end.at h.read.items (count_spans r punctuation S start.at count end.at h.read.items all.1 list) in
            subst (Read c.cut (λ ts. IsImage whole (EncodesCount punctuation count S ts)) start end) (sym all.0)
            (record { decodes = array; place = moves_append h.place bracket.place })

        pub array_opening_not : {start end : Position T} {e : Report}
            → ReadsNone c.cut c.breaks (AreTokens (punctuation.opening ∷ [])) start end e → ReadsNone c.cut c.breaks Array start end e
        array_opening_not {start} h =
            let Opening = AreTokens (punctuation.opening ∷ []) in
            none_first c.cut Array Opening
            (array_leads r punctuation are s holds whole Opening count [] start.at.token
            (read_opening_leads r punctuation are (as_item s punctuation) start.at.token)) h

        pub array_item_not : {start here end : Position T} {x : C} {e : Report} → Filled holds S start here x
            → ((vs : List V) → holds x vs → length vs < count)
            → ReadsNone c.cut c.breaks S here end e → ReadsNone c.cut c.breaks Array start end e
        array_item_not {start} {here} h few bad =
            let read = h.read.read in
            let ts = read.so_far.prefix in
            none_in c.cut Array S ts
            (count_leads r punctuation are s holds whole S count ts here.at.token
            (item_missing r punctuation are s start.at here.at h.read.items read count (few h.read.items h.read.held)))
            read.so_far.taken h.place bad

        pub array_comma_not : {start here mid end : Position T} {x : C} {v : V} {e : Report} → Filled holds S start here x
            → Read c.cut S here mid v → Fails (NoComma mid end) mid end e → ReadsNone c.cut c.breaks Array start end e
        array_comma_not {start} {here} {mid} h item bad =
            let moved = moves_append h.place item.place in
            fails_after (λ none. let k = comma_after h item in
            wrong_in c.cut Array (AreTokens (punctuation.comma ∷ [])) k.0
            (array_leads r punctuation are s holds whole (AreTokens (punctuation.comma ∷ [])) count k.0 mid.at.token (k.1 none.0))
            k.2 moved none.1) moved bad

        pub array_closing_not : {start here end : Position T} {x : C} {e : Report} → Filled holds S start here x
            → ((vs : List V) → holds x vs → length vs ≡ count)
            → ReadsNone c.cut c.breaks (AreTokens (punctuation.closing ∷ [])) here end e → ReadsNone c.cut c.breaks Array start end e
        array_closing_not {start} {here} h full bad =
            let read = h.read.read in
            let ts = read.so_far.prefix in
            let Closing = AreTokens (punctuation.closing ∷ []) in
            none_in c.cut Array Closing ts
            (count_leads r punctuation are s holds whole Closing count ts here.at.token
            (item_too_many r punctuation are s start.at here.at h.read.items read count (full h.read.items h.read.held)))
            read.so_far.taken h.place bad
