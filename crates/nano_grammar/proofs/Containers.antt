-- What readers of items know at the head of the loop, and at its exits.
use Rattle.std.proofs.Common.{◌≡◌, ◌≢◌, ◌+◌, ◌<◌, ◌≤◌, inl, inr, List, [], ◌∷◌, ◌++◌, length}
use Rattle.std.proofs.Common.{length-append, ap, arith}
use Rattle.nano_value.specs.Meaning.{usize_bound}
use Rattle.nano_grammar.proofs.TokensLaws.{CutLaws, tokens_left, leaves_shorter, leaves_append}
use Rattle.nano_grammar.specs.Tokens.{Cutting, At, Leaves, Spans}
use Rattle.nano_grammar.specs.Faults.{AreTokens}
use Rattle.nano_grammar.specs.Items.{ListPunctuation, EncodedList}
use Rattle.nano_grammar.proofs.ListsLaws.{no_item_closes, IsItem}
use Rattle.nano_grammar.proofs.ItemLaws.{EndsAt}
use Rattle.nano_grammar.specs.Codec.{Grammar, AreBrackets}
use Rattle.nano_grammar.proofs.FaultLaws.{LeadsTo}
use Rattle.nano_grammar.proofs.ListReading.{SoFar, start_so_far, item_left, next_so_far, close_found}
use Rattle.nano_grammar.proofs.ListReading.{opening_leads, item_leads, comma_leads, closing_leads}
use Rattle.nano_grammar.proofs.PartReading.{CommaTaken}
use Rattle.nano_grammar.proofs.Reading.{value_shorter, either_way}

module _ {T : Type 0} {c : Cutting T} {g : Grammar T} (r : CutLaws c g) where
  -- these items are read, each of at least one token
  pub record ReadSoFar {V : Type 0} (punctuation : ListPunctuation T) (encodes : List T → V → Type 0)
      (start here : At T) (out : List V) : Type 0 where
    pub so_far : SoFar c.cut punctuation encodes start here out
    pub count : length out + tokens_left r.is_end here ≤ tokens_left r.is_end start

  -- what was taken so far left less
  taken_shorter : (ts : List T) (start end : At T) → Leaves c.cut ts start end
      → tokens_left r.is_end end ≤ tokens_left r.is_end start
  taken_shorter = leaves_shorter c.cut r.is_end r.shorter

  module _ {V : Type 0} {S : List T → V → Type 0} (punctuation : ListPunctuation T)
      (are : AreBrackets g punctuation) (s : IsItem g punctuation S) where
    pub read_start : (start here : At T) → Leaves c.cut (punctuation.opening ∷ []) start here
        → ReadSoFar punctuation S start here []
    read_start start here h =
        let closes = no_item_closes g punctuation are s in
        record {
          so_far = start_so_far c.cut punctuation are.apart S s.in_list closes start here h;
          count = omega (arith, taken_shorter (punctuation.opening ∷ []) start here h);
        }

    -- an item takes at least one token, with the comma after it
    pub item_shorter : (here following next : At T) (v : V) → Spans c.cut S here following v
        → CommaTaken c.cut punctuation following next
        → tokens_left r.is_end next < tokens_left r.is_end here
    item_shorter here following next v i taken =
        let less = value_shorter r i.0 here following (s.begins i.0 v i.1) i.2 in
        elim taken [
          | inl l ↦ omega (arith, less, taken_shorter (punctuation.comma ∷ []) following next l)
          | inr p ↦ omega (arith, less, ap (tokens_left r.is_end) p.1)
        ]

    pub read_next : (start here following next : At T) (out : List V) (v : V)
        → ReadSoFar punctuation S start here out → here.token ≢ punctuation.closing
        → Spans c.cut S here following v → CommaTaken c.cut punctuation following next
        → ReadSoFar punctuation S start next (out ++ v ∷ [])
    read_next start here following next out v h n i taken =
        let closes = no_item_closes g punctuation are s in
        let way = either_way taken in
        record {
          so_far =
              next_so_far c.cut punctuation are.apart S s.in_list closes start here following next out v h.so_far n i way;
          count =
              omega (arith, h.count, item_shorter here following next v i taken, length-append out (v ∷ []));
        }

    -- once the closing bracket is taken, the list is read
    pub read_found : (start here end : At T) (out : List V) → ReadSoFar punctuation S start here out
        → Leaves c.cut (punctuation.closing ∷ []) here end
        → Spans c.cut (EncodedList punctuation S) start end out
    read_found start here end out h k =
        let closes = no_item_closes g punctuation are s in
        close_found c.cut punctuation are.apart S s.in_list closes start here end out h.so_far k

    pub read_few : (start here : At T) (out : List V) → ReadSoFar punctuation S start here out
        → tokens_left r.is_end start < usize_bound → length out < usize_bound
    read_few start here out h few = omega (arith, h.count, few)

    -- ---- what a list leads to

    pub read_opening_leads : (pending : T)
        → LeadsTo (EncodedList punctuation S) (AreTokens (punctuation.opening ∷ [])) [] pending
    read_opening_leads =
        let closes = no_item_closes g punctuation are s in
        opening_leads c.cut punctuation are.apart S s.in_list closes

    module _ (start here : At T) (out : List V) (h : ReadSoFar punctuation S start here out) where
      pub read_item_leads : here.token ≢ punctuation.closing
          → LeadsTo (EncodedList punctuation S) S h.so_far.prefix here.token
      read_item_leads =
          let closes = no_item_closes g punctuation are s in
          item_leads c.cut punctuation are.apart S s.in_list closes start here out h.so_far

      pub read_comma_leads : (following : At T) (v : V) (n : here.token ≢ punctuation.closing)
          → (i : Spans c.cut S here following v) → EndsAt S i.0 following.token
          → following.token ≢ punctuation.closing
          → LeadsTo (EncodedList punctuation S) (AreTokens (punctuation.comma ∷ []))
          (h.so_far.prefix ++ i.0) following.token
      read_comma_leads following v n i ends =
          let closes = no_item_closes g punctuation are s in
          let so_far = h.so_far in
          comma_leads c.cut punctuation are.apart S s.in_list closes (so_far.prefix ++ i.0) following.token
          (item_left c.cut punctuation are.apart S s.in_list closes here following so_far.prefix i.0 v so_far.still n i.1 i.2 ends)

      pub read_closing_leads : here.token ≡ punctuation.closing
          → LeadsTo (EncodedList punctuation S) (AreTokens (punctuation.closing ∷ [])) h.so_far.prefix here.token
      read_closing_leads =
          let closes = no_item_closes g punctuation are s in
          closing_leads c.cut punctuation are.apart S s.in_list closes start here out h.so_far

      -- the tokens of an item that was read, after those so far
      pub item_taken : (following : At T) (v : V) (i : Spans c.cut S here following v)
          → Leaves c.cut (h.so_far.prefix ++ i.0) start following
      item_taken following v i = leaves_append c.cut h.so_far.prefix i.0 start here following h.so_far.taken i.2
