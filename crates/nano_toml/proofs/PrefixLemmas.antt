-- The tokens of a value or of a statement have it as their prefix, and what is found as a
-- prefix is one.
use Rattle.std.proofs.Common.{◌≡◌, pos, List, [], ◌∷◌, ◌++◌, Some, sym, refl, ap, ◌∙◌, subst, inl}
use Rattle.std.proofs.Common.{inr, append_assoc, append-nil}
use Rattle.nano_toml.specs.Data.{Data, Values, no_values, more_values}
use Rattle.nano_toml.specs.Data as value
use Rattle.nano_toml.specs.Place.{Prefix, closed, is_open, nothing, push_value, close_all}
use Rattle.nano_toml.specs.Place.{array_prefix, value_prefix}
use Rattle.nano_toml.specs.Statements.{scalar_of, Commas, IsClosed, AreClosed, IsOpen, AreOpen}
use Rattle.nano_toml.specs.Token.{Token, ident, string, unsigned, signed, decimal, boolean, nan}
use Rattle.nano_toml.specs.Token.{infinity, date, equals, open_bracket, close_bracket, comma}

-- ---- lists of values

-- the values of both, in order
abbrev join : Values → Values → Values
join no_values vs = vs
join (more_values v vs) zs = more_values v (join vs zs)

-- the first, and then each of the second pushed
abbrev push_all : Values → Values → Values
push_all here no_values = here
push_all here (more_values v vs) = push_all (push_value here v) vs

join-nil : (vs : Values) → join vs no_values ≡ vs
join-nil no_values = refl
join-nil (more_values v vs) = ap (more_values v) (join-nil vs)

join-push : (here : Values) (v : Data) (vs : Values) → join (push_value here v) vs ≡ join here (more_values v vs)
join-push no_values v vs = refl
join-push (more_values w here) v vs = ap (more_values w) (join-push here v vs)

push_all-join : (here vs : Values) → push_all here vs ≡ join here vs
push_all-join here no_values = sym (join-nil here)
push_all-join here (more_values v vs) = push_all-join (push_value here v) vs ∙ join-push here v vs

push_all-none : (vs : Values) → push_all no_values vs ≡ vs
push_all-none vs = push_all-join no_values vs

-- ---- tokens of values have them as their prefix

commas_prefix : (outer : List Values) (here : Values) (commas more : List Token) → Commas commas → array_prefix outer here (commas ++ more) ≡ array_prefix outer here more
commas_prefix outer here [] more c = refl
commas_prefix outer here (t ∷ commas) more c =
    ap (λ u. array_prefix outer here (u ∷ (commas ++ more))) c.0 ∙ commas_prefix outer here commas more c.1

-- a scalar in an array
pub scalar_prefix : (outer : List Values) (here : Values) (t : Token) (d : Data) (more : List Token) → scalar_of t ≡ Some d → array_prefix outer here (t ∷ more) ≡ array_prefix outer (push_value here d) more
scalar_prefix outer here (string s) d more e = let same : value.text s ≡ d = cc in ap (λ v. array_prefix outer (push_value here v) more) same
scalar_prefix outer here (unsigned n) d more e = let same : value.number (pos n) ≡ d = cc in ap (λ v. array_prefix outer (push_value here v) more) same
scalar_prefix outer here (signed n) d more e = let same : value.number n ≡ d = cc in ap (λ v. array_prefix outer (push_value here v) more) same
scalar_prefix outer here (decimal s) d more e = let same : value.decimal s ≡ d = cc in ap (λ v. array_prefix outer (push_value here v) more) same
scalar_prefix outer here (boolean b) d more e = let same : value.boolean b ≡ d = cc in ap (λ v. array_prefix outer (push_value here v) more) same
scalar_prefix outer here (nan b) d more e = let same : value.nan b ≡ d = cc in ap (λ v. array_prefix outer (push_value here v) more) same
scalar_prefix outer here (infinity b) d more e = let same : value.infinity b ≡ d = cc in ap (λ v. array_prefix outer (push_value here v) more) same
scalar_prefix outer here (date s) d more e = let same : value.date s ≡ d = cc in ap (λ v. array_prefix outer (push_value here v) more) same
scalar_prefix outer here _ d more e = absurd (cc)

-- a scalar by itself
pub scalar_value : (t : Token) (d : Data) (more : List Token) → scalar_of t ≡ Some d → value_prefix (t ∷ more) ≡ closed d more
scalar_value (string s) d more e = let same : value.text s ≡ d = cc in ap (λ v. closed v more) same
scalar_value (unsigned n) d more e = let same : value.number (pos n) ≡ d = cc in ap (λ v. closed v more) same
scalar_value (signed n) d more e = let same : value.number n ≡ d = cc in ap (λ v. closed v more) same
scalar_value (decimal s) d more e = let same : value.decimal s ≡ d = cc in ap (λ v. closed v more) same
scalar_value (boolean b) d more e = let same : value.boolean b ≡ d = cc in ap (λ v. closed v more) same
scalar_value (nan b) d more e = let same : value.nan b ≡ d = cc in ap (λ v. closed v more) same
scalar_value (infinity b) d more e = let same : value.infinity b ≡ d = cc in ap (λ v. closed v more) same
scalar_value (date s) d more e = let same : value.date s ≡ d = cc in ap (λ v. closed v more) same
scalar_value _ d more e = absurd (cc)

-- commas, a value and more, regrouped before what follows
regroup : (commas here more rest : List Token) → (commas ++ (here ++ more)) ++ rest ≡ commas ++ (here ++ (more ++ rest))
regroup commas here more rest = append_assoc commas (here ++ more) rest ∙ ap (λ ts. commas ++ ts) (append_assoc here more rest)

one_scalar : (outer : List Values) (here : Values) (d : Data) (us more : List Token) → ((t : Token) × (scalar_of t ≡ Some d) × (us ≡ t ∷ [])) → array_prefix outer here (us ++ more) ≡ array_prefix outer (push_value here d) more
one_scalar outer here d us more (t, s, e) = ap (λ ts. array_prefix outer here (ts ++ more)) e ∙ scalar_prefix outer here t d more s

mutual
  in_array : (outer : List Values) (here : Values) (d : Data) (us more : List Token) → IsClosed us d → array_prefix outer here (us ++ more) ≡ array_prefix outer (push_value here d) more
  in_array outer here (value.values vs) us more (inside, a, e) =
      ap (λ ts. array_prefix outer here (ts ++ more)) e
      ∙ (ap (array_prefix (here ∷ outer) no_values) (append_assoc inside (close_bracket ∷ []) more)
      ∙ (all_in_array (here ∷ outer) no_values vs inside (close_bracket ∷ more) a
      ∙ ap (λ zs. array_prefix outer (push_value here (value.values zs)) more) (push_all-none vs)))
  in_array outer here (value.text s) us more k = one_scalar outer here (value.text s) us more k
  in_array outer here (value.boolean b) us more k = one_scalar outer here (value.boolean b) us more k
  in_array outer here (value.number n) us more k = one_scalar outer here (value.number n) us more k
  in_array outer here (value.decimal s) us more k = one_scalar outer here (value.decimal s) us more k
  in_array outer here (value.nan b) us more k = one_scalar outer here (value.nan b) us more k
  in_array outer here (value.infinity b) us more k = one_scalar outer here (value.infinity b) us more k
  in_array outer here (value.date s) us more k = one_scalar outer here (value.date s) us more k
  in_array outer here (value.tables ts) us more k = one_scalar outer here (value.tables ts) us more k

  all_in_array : (outer : List Values) (here vs : Values) (us more : List Token) → AreClosed us vs → array_prefix outer here (us ++ more) ≡ array_prefix outer (push_all here vs) more
  all_in_array outer here no_values us more c = commas_prefix outer here us more c
  all_in_array outer here (more_values v vs) us more (commas, there, following, c, k, m, e) =
      ap (λ ts. array_prefix outer here (ts ++ more)) e
      ∙ (ap (array_prefix outer here) (regroup commas there following more)
      ∙ (commas_prefix outer here commas (there ++ (following ++ more)) c
      ∙ (in_array outer here v there (following ++ more) k
      ∙ all_in_array outer (push_value here v) vs following more m)))

mutual
  open_in_array : (outer : List Values) (here : Values) (d : Data) (us : List Token) → IsOpen us d → array_prefix outer here us ≡ is_open (close_all outer (push_value here d))
  open_in_array outer here (value.values vs) us (inside, a, e) =
      ap (array_prefix outer here) e
      ∙ (all_open_in_array (here ∷ outer) no_values vs inside a
      ∙ ap (λ zs. is_open (close_all outer (push_value here (value.values zs)))) (push_all-none vs))
  open_in_array outer here _ us k = absurd k

  all_open_in_array : (outer : List Values) (here vs : Values) (us : List Token) → AreOpen us vs → array_prefix outer here us ≡ is_open (close_all outer (push_all here vs))
  all_open_in_array outer here no_values us c =
      ap (array_prefix outer here) (sym (append-nil us)) ∙ commas_prefix outer here us [] c
  all_open_in_array outer here (more_values v vs) us (commas, there, following, c, e, inl (k, m)) =
      ap (array_prefix outer here) e
      ∙ (commas_prefix outer here commas (there ++ following) c
      ∙ (in_array outer here v there following k
      ∙ all_open_in_array outer (push_value here v) vs following m))
  all_open_in_array outer here (more_values v vs) us (commas, there, following, c, e, inr (k, last, none)) =
      ap (array_prefix outer here) e
      ∙ (commas_prefix outer here commas (there ++ following) c
      ∙ (ap (λ ts. array_prefix outer here (there ++ ts)) none
      ∙ (ap (array_prefix outer here) (append-nil there)
      ∙ (open_in_array outer here v there k
      ∙ ap (λ zs. is_open (close_all outer (push_all (push_value here v) zs))) (sym last)))))

one_value : (d : Data) (us more : List Token) → ((t : Token) × (scalar_of t ≡ Some d) × (us ≡ t ∷ [])) → value_prefix (us ++ more) ≡ closed d more
one_value d us more (t, s, e) = ap (λ ts. value_prefix (ts ++ more)) e ∙ scalar_value t d more s

pub value_prefix-closed : (d : Data) (us more : List Token) → IsClosed us d → value_prefix (us ++ more) ≡ closed d more
value_prefix-closed (value.values vs) us more (inside, a, e) =
    ap (λ ts. value_prefix (ts ++ more)) e
    ∙ (ap (array_prefix [] no_values) (append_assoc inside (close_bracket ∷ []) more)
    ∙ (all_in_array [] no_values vs inside (close_bracket ∷ more) a
    ∙ ap (λ zs. closed (value.values zs) more) (push_all-none vs)))
value_prefix-closed (value.text s) us more k = one_value (value.text s) us more k
value_prefix-closed (value.boolean b) us more k = one_value (value.boolean b) us more k
value_prefix-closed (value.number n) us more k = one_value (value.number n) us more k
value_prefix-closed (value.decimal s) us more k = one_value (value.decimal s) us more k
value_prefix-closed (value.nan b) us more k = one_value (value.nan b) us more k
value_prefix-closed (value.infinity b) us more k = one_value (value.infinity b) us more k
value_prefix-closed (value.date s) us more k = one_value (value.date s) us more k
value_prefix-closed (value.tables ts) us more k = one_value (value.tables ts) us more k

pub value_prefix-open : (d : Data) (us : List Token) → IsOpen us d → value_prefix us ≡ is_open d
value_prefix-open (value.values vs) us (inside, a, e) =
    ap value_prefix e
    ∙ (all_open_in_array [] no_values vs inside a
    ∙ ap (λ zs. is_open (value.values zs)) (push_all-none vs))
value_prefix-open _ us k = absurd k

-- ---- what is found as a prefix is a value

AreClosed-comma : (ts : List Token) (vs : Values) → AreClosed ts vs → AreClosed (ts ++ comma ∷ []) vs
AreClosed-comma [] no_values c = (refl, tt)
AreClosed-comma (t ∷ ts) no_values c = (c.0, AreClosed-comma ts no_values c.1)
AreClosed-comma ts (more_values v vs) (commas, here, more, c, k, m, e) =
    (commas, here, more ++ comma ∷ [], c, k, AreClosed-comma more vs m, ap (λ us. us ++ comma ∷ []) e ∙ regroup commas here more (comma ∷ []))

AreClosed-push : (ts us : List Token) (vs : Values) (d : Data) → AreClosed ts vs → IsClosed us d → AreClosed (ts ++ us) (push_value vs d)
AreClosed-push ts us no_values d c k = (ts, us, [], c, k, tt, ap (λ ws. ts ++ ws) (sym (append-nil us)))
AreClosed-push ts us (more_values v vs) d (commas, here, more, c, k, m, e) l =
    (commas, here, more ++ us, c, k, AreClosed-push more us vs d m l, ap (λ ws. ws ++ us) e ∙ regroup commas here more us)

AreOpen-closed : (ts : List Token) (vs : Values) → AreClosed ts vs → AreOpen ts vs
AreOpen-closed ts no_values c = c
AreOpen-closed ts (more_values v vs) (commas, here, more, c, k, m, e) = (commas, here, more, c, e, inl (k, AreOpen-closed more vs m))

AreOpen-push : (ts us : List Token) (vs : Values) (d : Data) → AreClosed ts vs → IsOpen us d → AreOpen (ts ++ us) (push_value vs d)
AreOpen-push ts us no_values d c k = (ts, us, [], c, ap (λ ws. ts ++ ws) (sym (append-nil us)), inr (k, refl, refl))
AreOpen-push ts us (more_values v vs) d (commas, here, more, c, k, m, e) l =
    (commas, here, more ++ us, c, ap (λ ws. ws ++ us) e ∙ regroup commas here more us, inl (k, AreOpen-push more us vs d m l))

-- the tokens from the bracket of the outermost array on
abbrev InArrays : List Token → List Values → Values → Type 0
InArrays us [] here = (inside : List Token) × AreClosed inside here × (us ≡ open_bracket ∷ inside)
InArrays us (around ∷ outer) here =
    (before inside : List Token) × InArrays before outer around × AreClosed inside here × (us ≡ before ++ open_bracket ∷ inside)

-- the same, where the innermost array is open
abbrev InOpenArrays : List Token → List Values → Values → Type 0
InOpenArrays us [] here = (inside : List Token) × AreOpen inside here × (us ≡ open_bracket ∷ inside)
InOpenArrays us (around ∷ outer) here =
    (before inside : List Token) × InArrays before outer around × AreOpen inside here × (us ≡ before ++ open_bracket ∷ inside)

InArrays-comma : (us : List Token) (outer : List Values) (here : Values) → InArrays us outer here → InArrays (us ++ comma ∷ []) outer here
InArrays-comma us [] here (inside, a, e) = (inside ++ comma ∷ [], AreClosed-comma inside here a, ap (λ ts. ts ++ comma ∷ []) e)
InArrays-comma us (around ∷ outer) here (before, inside, b, a, e) =
    (before, inside ++ comma ∷ [], b, AreClosed-comma inside here a, ap (λ ts. ts ++ comma ∷ []) e ∙ append_assoc before (open_bracket ∷ inside) (comma ∷ []))

InArrays-push : (us ts : List Token) (outer : List Values) (here : Values) (d : Data) → InArrays us outer here → IsClosed ts d → InArrays (us ++ ts) outer (push_value here d)
InArrays-push us ts [] here d (inside, a, e) k = (inside ++ ts, AreClosed-push inside ts here d a k, ap (λ ws. ws ++ ts) e)
InArrays-push us ts (around ∷ outer) here d (before, inside, b, a, e) k =
    (before, inside ++ ts, b, AreClosed-push inside ts here d a k, ap (λ ws. ws ++ ts) e ∙ append_assoc before (open_bracket ∷ inside) ts)

InArrays-close : (us : List Token) (around : Values) (outer : List Values) (here : Values) → InArrays us (around ∷ outer) here → InArrays (us ++ close_bracket ∷ []) outer (push_value around (value.values here))
InArrays-close us around outer here (before, inside, b, a, e) =
    subst (λ (ts : List Token). InArrays ts outer (push_value around (value.values here)))
    (sym (ap (λ ts. ts ++ close_bracket ∷ []) e ∙ append_assoc before (open_bracket ∷ inside) (close_bracket ∷ [])))
    (InArrays-push before (open_bracket ∷ (inside ++ close_bracket ∷ [])) outer around (value.values here) b (inside, a, refl))

InArrays-open : (us : List Token) (outer : List Values) (here : Values) → InArrays us outer here → InOpenArrays us outer here
InArrays-open us [] here (inside, a, e) = (inside, AreOpen-closed inside here a, e)
InArrays-open us (around ∷ outer) here (before, inside, b, a, e) = (before, inside, b, AreOpen-closed inside here a, e)

InOpenArrays-push : (us ts : List Token) (outer : List Values) (here : Values) (d : Data) → InArrays us outer here → IsOpen ts d → InOpenArrays (us ++ ts) outer (push_value here d)
InOpenArrays-push us ts [] here d (inside, a, e) k = (inside ++ ts, AreOpen-push inside ts here d a k, ap (λ ws. ws ++ ts) e)
InOpenArrays-push us ts (around ∷ outer) here d (before, inside, b, a, e) k =
    (before, inside ++ ts, b, AreOpen-push inside ts here d a k, ap (λ ws. ws ++ ts) e ∙ append_assoc before (open_bracket ∷ inside) ts)

close_all-open : (us : List Token) (outer : List Values) (here : Values) → InOpenArrays us outer here → IsOpen us (close_all outer here)
close_all-open us [] here (inside, a, e) = (inside, a, e)
close_all-open us (around ∷ outer) here (before, inside, b, a, e) =
    close_all-open us outer (push_value around (value.values here))
    (subst (λ (ts : List Token). InOpenArrays ts outer (push_value around (value.values here))) (sym e) (InOpenArrays-push before (open_bracket ∷ inside) outer around (value.values here) b (inside, a, refl)))

-- the prefix of ts is the value of these tokens and a part of ts, or of these and all of ts
abbrev pub IsPrefix : List Token → Prefix Data → List Token → Type 0
IsPrefix us (closed d rest) ts = (used : List Token) × (ts ≡ used ++ rest) × IsClosed (us ++ used) d
IsPrefix us (is_open d) ts = IsOpen (us ++ ts) d
IsPrefix us nothing ts = Unit {0}

IsPrefix-step : (us : List Token) (t : Token) (prefix : Prefix Data) (ts : List Token) → IsPrefix (us ++ t ∷ []) prefix ts → IsPrefix us prefix (t ∷ ts)
IsPrefix-step us t (closed d rest) ts (used, e, k) =
    (t ∷ used, ap (λ ws. t ∷ ws) e, subst (λ (ws : List Token). IsClosed ws d) (append_assoc us (t ∷ []) used) k)
IsPrefix-step us t (is_open d) ts k = subst (λ (ws : List Token). IsOpen ws d) (append_assoc us (t ∷ []) ts) k
IsPrefix-step us t nothing ts k = tt

closed_array : (us ts : List Token) (here : Values) → InArrays us [] here → IsPrefix us (closed (value.values here) ts) (close_bracket ∷ ts)
closed_array us ts here (inside, a, e) = (close_bracket ∷ [], refl, (inside, a, ap (λ ws. ws ++ close_bracket ∷ []) e))

array_prefix_found : (ts us : List Token) (outer : List Values) (here : Values) → InArrays us outer here → IsPrefix us (array_prefix outer here ts) ts
array_prefix_found [] us outer here a = subst (λ (ws : List Token). IsOpen ws (close_all outer here)) (sym (append-nil us)) (close_all-open us outer here (InArrays-open us outer here a))
array_prefix_found (comma ∷ ts) us outer here a = IsPrefix-step us comma (array_prefix outer here ts) ts (array_prefix_found ts (us ++ comma ∷ []) outer here (InArrays-comma us outer here a))
array_prefix_found (open_bracket ∷ ts) us outer here a = IsPrefix-step us open_bracket (array_prefix (here ∷ outer) no_values ts) ts (array_prefix_found ts (us ++ open_bracket ∷ []) (here ∷ outer) no_values (us, [], a, tt, refl))
array_prefix_found (close_bracket ∷ ts) us [] here a = closed_array us ts here a
array_prefix_found (close_bracket ∷ ts) us (around ∷ outer) here a =
    IsPrefix-step us close_bracket (array_prefix outer (push_value around (value.values here)) ts) ts (array_prefix_found ts (us ++ close_bracket ∷ []) outer (push_value around (value.values here)) (InArrays-close us around outer here a))
array_prefix_found (string s ∷ ts) us outer here a = IsPrefix-step us (string s) (array_prefix outer (push_value here (value.text s)) ts) ts (array_prefix_found ts (us ++ string s ∷ []) outer _ (InArrays-push us (string s ∷ []) outer here (value.text s) a (string s, refl, refl)))
array_prefix_found (unsigned n ∷ ts) us outer here a = IsPrefix-step us (unsigned n) (array_prefix outer (push_value here (value.number (pos n))) ts) ts (array_prefix_found ts (us ++ unsigned n ∷ []) outer _ (InArrays-push us (unsigned n ∷ []) outer here (value.number (pos n)) a (unsigned n, refl, refl)))
array_prefix_found (signed n ∷ ts) us outer here a = IsPrefix-step us (signed n) (array_prefix outer (push_value here (value.number n)) ts) ts (array_prefix_found ts (us ++ signed n ∷ []) outer _ (InArrays-push us (signed n ∷ []) outer here (value.number n) a (signed n, refl, refl)))
array_prefix_found (decimal s ∷ ts) us outer here a = IsPrefix-step us (decimal s) (array_prefix outer (push_value here (value.decimal s)) ts) ts (array_prefix_found ts (us ++ decimal s ∷ []) outer _ (InArrays-push us (decimal s ∷ []) outer here (value.decimal s) a (decimal s, refl, refl)))
array_prefix_found (boolean b ∷ ts) us outer here a = IsPrefix-step us (boolean b) (array_prefix outer (push_value here (value.boolean b)) ts) ts (array_prefix_found ts (us ++ boolean b ∷ []) outer _ (InArrays-push us (boolean b ∷ []) outer here (value.boolean b) a (boolean b, refl, refl)))
array_prefix_found (nan b ∷ ts) us outer here a = IsPrefix-step us (nan b) (array_prefix outer (push_value here (value.nan b)) ts) ts (array_prefix_found ts (us ++ nan b ∷ []) outer _ (InArrays-push us (nan b ∷ []) outer here (value.nan b) a (nan b, refl, refl)))
array_prefix_found (infinity b ∷ ts) us outer here a = IsPrefix-step us (infinity b) (array_prefix outer (push_value here (value.infinity b)) ts) ts (array_prefix_found ts (us ++ infinity b ∷ []) outer _ (InArrays-push us (infinity b ∷ []) outer here (value.infinity b) a (infinity b, refl, refl)))
array_prefix_found (date s ∷ ts) us outer here a = IsPrefix-step us (date s) (array_prefix outer (push_value here (value.date s)) ts) ts (array_prefix_found ts (us ++ date s ∷ []) outer _ (InArrays-push us (date s ∷ []) outer here (value.date s) a (date s, refl, refl)))
array_prefix_found (ident s ∷ ts) us outer here a = tt
array_prefix_found (equals ∷ ts) us outer here a = tt

-- the prefix of ts is a part of it, or all of it
pub value_prefix_found : (ts : List Token) → IsPrefix [] (value_prefix ts) ts
value_prefix_found [] = tt
value_prefix_found (open_bracket ∷ ts) = IsPrefix-step [] open_bracket (array_prefix [] no_values ts) ts (array_prefix_found ts (open_bracket ∷ []) [] no_values ([], tt, refl))
value_prefix_found (string s ∷ ts) = (string s ∷ [], refl, (string s, refl, refl))
value_prefix_found (unsigned n ∷ ts) = (unsigned n ∷ [], refl, (unsigned n, refl, refl))
value_prefix_found (signed n ∷ ts) = (signed n ∷ [], refl, (signed n, refl, refl))
value_prefix_found (decimal s ∷ ts) = (decimal s ∷ [], refl, (decimal s, refl, refl))
value_prefix_found (boolean b ∷ ts) = (boolean b ∷ [], refl, (boolean b, refl, refl))
value_prefix_found (nan b ∷ ts) = (nan b ∷ [], refl, (nan b, refl, refl))
value_prefix_found (infinity b ∷ ts) = (infinity b ∷ [], refl, (infinity b, refl, refl))
value_prefix_found (date s ∷ ts) = (date s ∷ [], refl, (date s, refl, refl))
value_prefix_found _ = tt
