-- What a pointer leads to, token by token.
use Rattle.std.proofs.Common.{◌≡◌, ◌≢◌, ◌⊎◌, ℕ, zero, suc, ◌<◌, ◌≤◌, ◌^◌, Bool, true, false, cond, eqb, List, [], ◌∷◌, ◌++◌, length, get_or, drop, All, string_bytes, slice_get, String, Vec, Global, decimal, inl, inr, refl, sym, ◌∙◌, ap, subst, arith, true≢false, eq-eqb, Result, Ok, Err, MatchOption, Option, Some, None, Bor}
use Rattle.std.proofs.Math.Seq.{drop-cons}
use Rattle.std.proofs.lemmas.List.Elements.{All-nil, All-cons, All-head, All-tail, All-append}
use Rattle.std.proofs.lemmas.Fmt.{decimal_is_IsNumeral, first_decimal, decimal_digit, decimal-digits_value, decimal_injective, parse-decimal}
use Rattle.std.proofs.lemmas.Str.Parse.{digit_from_value, numerals_by_value, tells_digits}
use Rattle.std.specs.Str.Parse.{AllDigits, ParsesUnsigned, digits_value}
use Rattle.nano_document.specs.Held.{items, entries, HasNone, IsLast}
use Rattle.nano_document.specs.Pointers.{escaped_byte, escaped, pointer_of, BeginsWithSlash, IsFirstToken, LeadsTo, LeadFrom, PointsTo}
use Rattle.std.specs.Result.{result_ok}
use Rattle.std.specs.Slice.{IsItemAt}
use Rattle.std.proofs.lemmas.Option.{slice_get-get_or}
use Rattle.std.proofs.lemmas.Bool.{eqb-true}
use Rattle.nano_document.specs.Held.{items_of, entries_of}
use Rattle.nano_document.specs.declared.json.Json as J
use Rattle.nano_document.specs.declared.json.Json.{Json}
use Rattle.nano_document.specs.declared.json.Json.TheOpen as O
use Rattle.nano_document.specs.declared.json.Json.TheOpen.{Json-F}
use Rattle.nano_document.specs.declared.json.Json.TheViews.{out-Json}
use Rattle.nano_document.proofs.Documents.{out-List, out-Object}
use Rattle.nano_document.proofs.Alternatives.{from_out}
use Rattle.nano_document.proofs.Finding.{one_last, no_last, no_last_of_none}

-- ---- tokens hold no slash

abbrev NoSlash : List ℕ → Type 0
NoSlash = All (λ c. c ≢ 47)

digits_no_slash : (ds : List ℕ) → AllDigits 10 ds → NoSlash ds
digits_no_slash [] d = All-nil _
digits_no_slash (c ∷ cs) d =
    let range = digit_from_value c d.0 in
    All-cons (λ c. c ≢ 47) c cs (λ e. omega (arith, range, e)) (digits_no_slash cs d.1)

byte_no_slash : (s t : Bool) (c : ℕ) → eqb c 47 ≡ t
    → NoSlash (cond s (126 ∷ 48 ∷ []) (cond t (126 ∷ 49 ∷ []) (c ∷ [])))
byte_no_slash true t c h =
    All-cons (λ c. c ≢ 47) 126 (48 ∷ []) (λ e. omega (arith, e)) (All-cons (λ c. c ≢ 47) 48 [] (λ e. omega (arith, e)) (All-nil _))
byte_no_slash false true c h =
    All-cons (λ c. c ≢ 47) 126 (49 ∷ []) (λ e. omega (arith, e)) (All-cons (λ c. c ≢ 47) 49 [] (λ e. omega (arith, e)) (All-nil _))
byte_no_slash false false c h =
    All-cons (λ c. c ≢ 47) c [] (λ e. true≢false (sym (eq-eqb c 47 e) ∙ h)) (All-nil _)

escaped_no_slash : (cs : List ℕ) → NoSlash (escaped cs)
escaped_no_slash [] = All-nil _
escaped_no_slash (c ∷ cs) =
    All-append (λ c. c ≢ 47) (escaped_byte c) (escaped cs) (byte_no_slash (eqb c 126) (eqb c 47) c refl) (escaped_no_slash cs)

token_no_slash : (token : List ℕ) (x y : Json) → LeadsTo token x y → NoSlash token
token_no_slash token x y (inl h) =
    subst NoSlash (sym h.2) (digits_no_slash (decimal h.0) (decimal_is_IsNumeral h.0 h.1).0.1)
token_no_slash token x y (inr h) = subst NoSlash h.is_name (escaped_no_slash (string_bytes h.name))

-- ---- a pointer is divided in one way

abbrev Follows : List ℕ → Type 0
Follows rest = (rest ≡ []) ⊎ BeginsWithSlash rest

pub pointer_follows : (tokens : List (List ℕ)) → Follows (pointer_of tokens)
pointer_follows [] = inl refl
pointer_follows (t ∷ ts) = inr refl

no_longer : (c : ℕ) (cs r : List ℕ) → c ≢ 47 → Follows r → r ≡ c ∷ cs → ⊥
no_longer c cs r other (inl h) e = let both : [] ≡ c ∷ cs = sym h ∙ e in absurd (cc both)
no_longer c cs r other (inr h) e = other (subst BeginsWithSlash e h)

divided : (t u r s : List ℕ) → NoSlash t → NoSlash u → Follows r → Follows s → t ++ r ≡ u ++ s → (t ≡ u) × (r ≡ s)
divided [] [] r s h k f g e = (refl, e)
divided [] (d ∷ u) r s h k f g e = absurd (no_longer d (u ++ s) r (All-head (λ c. c ≢ 47) d u k) f e)
divided (c ∷ t) [] r s h k f g e = absurd (no_longer c (t ++ r) s (All-head (λ c. c ≢ 47) c t h) g (sym e))
divided (c ∷ t) (d ∷ u) r s h k f g e =
    let first : c ≡ d = cc in
    let more : t ++ r ≡ u ++ s = cc in
    let rest = divided t u r s (All-tail (λ c. c ≢ 47) c t h) (All-tail (λ c. c ≢ 47) d u k) f g more in
    (λ i. first i ∷ rest.0 i, rest.1)

-- ---- from one token to the next

pub points_from : (pointer token rest : List ℕ) (x z y : Json) → IsFirstToken pointer token rest → LeadsTo token x z
    → PointsTo rest z y → PointsTo pointer x y
points_from pointer token rest x z y first leads h =
    (token ∷ h.0, first.split ∙ ap (λ r. 47 ∷ (token ++ r)) h.1, (z, leads, h.2))

points_on : (pointer token rest : List ℕ) (x y : Json) → IsFirstToken pointer token rest → (tokens : List (List ℕ))
    → pointer ≡ pointer_of tokens → LeadFrom tokens x y → (z : Json) × LeadsTo token x z × PointsTo rest z y
points_on pointer token rest x y first [] e h = absurd (let both : 47 ∷ (token ++ rest) ≡ [] = sym first.split ∙ e in cc both)
points_on pointer token rest x y first (t ∷ ts) e h =
    let both : 47 ∷ (token ++ rest) ≡ 47 ∷ (t ++ pointer_of ts) = sym first.split ∙ e in
    let tails : token ++ rest ≡ t ++ pointer_of ts = cc both in
    let parts = divided token t rest (pointer_of ts) first.no_slash (token_no_slash t x h.0 h.1) first.follows (pointer_follows ts) tails in
    (h.0, subst (λ u. LeadsTo u x h.0) (sym parts.0) h.1, (ts, parts.1, h.2))

pub points_only : (pointer token rest : List ℕ) (x y : Json) → IsFirstToken pointer token rest → PointsTo pointer x y
    → (z : Json) × LeadsTo token x z × PointsTo rest z y
points_only pointer token rest x y first h = points_on pointer token rest x y first h.0 h.1 h.2

-- where it has no token
pub points_nowhere : (pointer : List ℕ) (x y : Json) → pointer ≢ [] → ((more : List ℕ) → pointer ≢ 47 ∷ more)
    → PointsTo pointer x y → ⊥
points_nowhere pointer x y some none ([], e, h) = some e
points_nowhere pointer x y some none (t ∷ ts, e, h) = none (t ++ pointer_of ts) e

-- ---- names as tokens

pub escaped_step : (name : List ℕ) (k b : ℕ) → k < length name → b ≡ get_or name k 0
    → escaped (drop k name) ≡ escaped_byte b ++ escaped (drop (suc k) name)
escaped_step name k b h is =
    ap escaped (drop-cons name k 0 h) ∙ ap (λ c. escaped_byte c ++ escaped (drop (suc k) name)) (sym is)

-- ---- places

first_digit : (ds : List ℕ) → AllDigits 10 ds → 0 < length ds → 48 ≤ get_or ds 0 0
first_digit [] d h = absurd (omega (arith, h))
first_digit (c ∷ cs) d h = let range = digit_from_value c d.0 in omega (arith, range)

zero_is_short : (n : ℕ) → n < 2 ^ 64 → get_or (decimal n) 0 0 ≡ 48 → 1 < length (decimal n) → ⊥
zero_is_short zero small e h = let one = ap length (decimal_digit 0 (omega arith)) in omega (arith, one, h)
zero_is_short (suc n) small e h = let more = first_decimal (suc n) (omega arith) small in omega (arith, more, e)

pub not_padded : (n first : ℕ) (bs : List ℕ) → n < 2 ^ 64 → bs ≡ decimal n → first ≡ get_or bs 0 0
    → (first ≡ 43) ⊎ ((first ≡ 48) × (1 < length bs)) → ⊥
not_padded n first bs small is first_is (inl h) =
    let numeral = (decimal_is_IsNumeral n small).0 in
    let digit = first_digit (decimal n) numeral.1 numeral.0 in
    let same = ap (λ cs. get_or cs 0 0) is in
    omega (arith, digit, same, first_is, h)
not_padded n first bs small is first_is (inr h) =
    zero_is_short n small (sym (ap (λ cs. get_or cs 0 0) is) ∙ (sym first_is ∙ h.0)) (let same = ap length is in omega (arith, same, h.1))

module _ (bs : List ℕ) (some : 0 < length bs)
    (plain : (get_or bs 0 0 ≡ 43) ⊎ ((get_or bs 0 0 ≡ 48) × (1 < length bs)) → ⊥) where
  no_plus : (b : Bool) → eqb (get_or bs 0 0) 43 ≡ b → drop (cond b 1 0) bs ≡ bs
  no_plus true h = absurd (plain (inl (eqb-true (get_or bs 0 0) 43 h)))
  no_plus false h = refl

  alone : get_or bs 0 0 ≡ 48 → length bs ≡ 1
  alone e = let no : 1 < length bs → ⊥ = λ h. plain (inr (e, h)) in omega (arith, some, no)

  pub parsed : {E : Type 0} (r : Result ℕ E) → ParsesUnsigned 64 10 bs r
      → MatchOption (result_ok r) ((n : ℕ) → n < 2 ^ 64 → bs ≡ decimal n → ⊥) (λ n. bs ≡ decimal n)
  parsed (Ok n) h =
      let same = no_plus (eqb (get_or bs 0 0) 43) refl in
      let digits = subst (AllDigits 10) same h.0.0.1 in
      let value = h.1 ∙ ap (digits_value 10) same in
      let small = subst (λ ds. digits_value 10 ds < 2 ^ 64) same h.0.1 in
      sym (decimal-digits_value (numerals_by_value (AllDigits 10) tells_digits) bs digits some alone small) ∙ ap decimal (sym value)
  parsed (Err e) h = λ n small is. let both = parse-decimal 64 n bs (Err e) small small is h in absurd (cc both)

-- ---- what a token leads to, by what a document is

items_or_entries : (v : Json-F Json) → (items_of v ≡ []) ⊎ (entries_of v ≡ [])
items_or_entries O.Null = inl refl
items_or_entries (O.Bool b) = inl refl
items_or_entries (O.U64 n) = inl refl
items_or_entries (O.I64 z) = inl refl
items_or_entries (O.Decimal s) = inl refl
items_or_entries (O.Text s) = inl refl
items_or_entries (O.List xs) = inr refl
items_or_entries (O.Object es) = inl refl

-- nothing stands in an empty list
no_item : (xs : List Json) (place : ℕ) (y : Json) → xs ≡ [] → slice_get xs place ≡ Some y → ⊥
no_item xs place y none h =
    let both : slice_get [] place ≡ Some y = sym (ap (λ zs. slice_get zs place) none) ∙ h in absurd (cc both)

-- what is found stands within the list
found_within : (xs : List Json) (place : ℕ) (y : Json) → slice_get xs place ≡ Some y → place < length xs
found_within [] place y h = absurd (cc)
found_within (x ∷ xs) zero y h = omega arith
found_within (x ∷ xs) (suc place) y h = let more = found_within xs place y h in omega (arith, more)

apart : (token : List ℕ) (x y z : Json) (place : ℕ) → slice_get (items x) place ≡ Some y
    → IsLast (λ name. escaped name ≡ token) (entries x) z → (items x ≡ []) ⊎ (entries x ≡ []) → ⊥
apart token x y z place h k (inl none) = no_item (items x) place y none h
apart token x y z place h k (inr none) = no_last (λ name. escaped name ≡ token) (entries x) z none k

pub leads_once : (token : List ℕ) (x y z : Json) → LeadsTo token x y → LeadsTo token x z → y ≡ z
leads_once token x y z (inl h) (inl k) =
    let same = decimal_injective h.0 k.0 h.1 k.1 (sym h.2 ∙ k.2) in
    let both : Some y ≡ Some z = sym h.3 ∙ (ap (slice_get (items x)) same ∙ k.3) in
    cc
leads_once token x y z (inl h) (inr k) = absurd (apart token x y z h.0 h.3 k (items_or_entries (out-Json x)))
leads_once token x y z (inr h) (inl k) = absurd (apart token x z y k.0 k.3 h (items_or_entries (out-Json x)))
leads_once token x y z (inr h) (inr k) = one_last (λ name. escaped name ≡ token) (entries x) y z h k

module _ (token : List ℕ) (x : Json) where
  pub leads_in_list : (xs : Vec Json Global) → x ≡ J.List xs → (y : Json) → LeadsTo token x y
      → (place : ℕ) × (place < 2 ^ 64) × (token ≡ decimal place) × (slice_get xs.items place ≡ Some y)
  leads_in_list xs is y (inl h) =
      (h.0, h.1, h.2, sym (ap (λ v. slice_get (items_of v) h.0) (ap out-Json is ∙ out-List xs)) ∙ h.3)
  leads_in_list xs is y (inr h) =
      absurd (no_last (λ name. escaped name ≡ token) (entries x) y (ap entries_of (ap out-Json is ∙ out-List xs)) h)

  pub leads_by_place : (xs : Vec Json Global) → x ≡ J.List xs → (place : ℕ) → place < 2 ^ 64 → token ≡ decimal place
      → (y : Json) → slice_get xs.items place ≡ Some y → LeadsTo token x y
  leads_by_place xs is place small e y h =
      inl (place, small, e, ap (λ v. slice_get (items_of v) place) (ap out-Json is ∙ out-List xs) ∙ h)

  pub leads_in_object : (es : Vec (String Global × Json) Global) → x ≡ J.Object es → (y : Json) → LeadsTo token x y
      → IsLast (λ name. escaped name ≡ token) es.items y
  leads_in_object es is y (inl h) =
      absurd (no_item (items x) h.0 y (ap items_of (ap out-Json is ∙ out-Object es)) h.3)
  leads_in_object es is y (inr h) =
      subst (λ zs. IsLast (λ name. escaped name ≡ token) zs y) (ap entries_of (ap out-Json is ∙ out-Object es)) h

  pub leads_by_name : (es : Vec (String Global × Json) Global) → x ≡ J.Object es → (y : Json)
      → IsLast (λ name. escaped name ≡ token) es.items y → LeadsTo token x y
  leads_by_name es is y h =
      inr (subst (λ zs. IsLast (λ name. escaped name ≡ token) zs y) (sym (ap entries_of (ap out-Json is ∙ out-Object es))) h)

  pub item_leads : (xs : Vec Json Global) → x ≡ J.List xs → (place : ℕ) → place < 2 ^ 64 → token ≡ decimal place
      → (r : Option (Bor Json)) → IsItemAt xs.items place r
      → MatchOption r ((y : Json) → LeadsTo token x y → ⊥) (λ y. LeadsTo token x y.now)
  item_leads xs is place small e None h = λ y leads.
      let at = leads_in_list xs is y leads in
      let same = decimal_injective at.0 place at.1 small (sym at.2 ∙ e) in
      let within = found_within xs.items at.0 y at.3 in
      let past = h.3 in
      omega (arith, within, same, past)
  item_leads xs is place small e (Some r) h =
      leads_by_place xs is place small e r.now (slice_get-get_or xs.items place r.now h.3.0 ∙ ap Some (sym h.1))

  pub name_leads : (es : Vec (String Global × Json) Global) → x ≡ J.Object es → (r : Option (Bor Json))
      → MatchOption r (HasNone (λ name. escaped name ≡ token) es.items) (λ y. IsLast (λ name. escaped name ≡ token) es.items y.now)
      → MatchOption r ((y : Json) → LeadsTo token x y → ⊥) (λ y. LeadsTo token x y.now)
  name_leads es is None h = λ y leads. no_last_of_none (λ name. escaped name ≡ token) es.items y h (leads_in_object es is y leads)
  name_leads es is (Some r) h = leads_by_name es is r.now h

  holds_none : ((xs : Vec Json Global) → x ≡ J.List xs → ⊥) → ((es : Vec (String Global × Json) Global) → x ≡ J.Object es → ⊥)
      → (v : Json-F Json) → out-Json x ≡ v → (items_of v ≡ []) × (entries_of v ≡ [])
  holds_none no_list no_object O.Null e = (refl, refl)
  holds_none no_list no_object (O.Bool b) e = (refl, refl)
  holds_none no_list no_object (O.U64 n) e = (refl, refl)
  holds_none no_list no_object (O.I64 z) e = (refl, refl)
  holds_none no_list no_object (O.Decimal s) e = (refl, refl)
  holds_none no_list no_object (O.Text s) e = (refl, refl)
  holds_none no_list no_object (O.List xs) e = absurd (no_list xs (from_out x (J.List xs) (e ∙ sym (out-List xs))))
  holds_none no_list no_object (O.Object es) e = absurd (no_object es (from_out x (J.Object es) (e ∙ sym (out-Object es))))

  leads_nowhere_at : (items x ≡ []) × (entries x ≡ []) → (y : Json) → LeadsTo token x y → ⊥
  leads_nowhere_at none y (inl h) = no_item (items x) h.0 y none.0 h.3
  leads_nowhere_at none y (inr h) = no_last (λ name. escaped name ≡ token) (entries x) y none.1 h

  pub leads_nowhere : ((xs : Vec Json Global) → x ≡ J.List xs → ⊥) → ((es : Vec (String Global × Json) Global) → x ≡ J.Object es → ⊥)
      → (y : Json) → LeadsTo token x y → ⊥
  leads_nowhere no_list no_object = leads_nowhere_at (holds_none no_list no_object (out-Json x) refl)
