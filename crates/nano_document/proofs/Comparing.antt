-- Two lists compared item by item.
use Rattle.std.proofs.Common.{◌≡◌, ℕ, ◌+◌, ◌<◌, ◌≤◌, List, [], ◌∷◌, ◌++◌, length, map, get_or, take, sym, ◌∙◌, ap}
use Rattle.std.proofs.lemmas.List.{take_all, length-map, map-append, take_more, get_or-map}

module _ {A B : Type 0} (f : A → B) (xs ys : List A) where
  mapped : (zs : List A) (i : ℕ) (z : A) → i < length zs → z ≡ get_or zs i z
      → map f (take (i + 1) zs) ≡ map f (take i zs) ++ f z ∷ []
  mapped zs i z h is =
      ap (map f) (take_more zs i z h)
      ∙ (map-append f (take i zs) (get_or zs i z ∷ []) ∙ ap (λ w. map f (take i zs) ++ f w ∷ []) (sym is))

  pub lengths_same : map f xs ≡ map f ys → length xs ≡ length ys
  lengths_same e = sym (length-map xs f) ∙ (ap length e ∙ length-map ys f)

  pub more_same : (i : ℕ) (x y : A) → i < length xs → i < length ys → x ≡ get_or xs i x → y ≡ get_or ys i y
      → map f (take i xs) ≡ map f (take i ys) → f x ≡ f y → map f (take (i + 1) xs) ≡ map f (take (i + 1) ys)
  more_same i x y h k x_is y_is same e =
      mapped xs i x h x_is
      ∙ (ap (λ zs. zs ++ f x ∷ []) same
      ∙ (ap (λ z. map f (take i ys) ++ z ∷ []) e ∙ sym (mapped ys i y k y_is)))

  pub all_same : (i : ℕ) → length xs ≤ i → length ys ≤ i → map f (take i xs) ≡ map f (take i ys) → map f xs ≡ map f ys
  all_same i h k e = sym (ap (map f) (take_all i xs h)) ∙ (e ∙ ap (map f) (take_all i ys k))

  pub one_same : (i : ℕ) (x y : A) → i < length xs → i < length ys → x ≡ get_or xs i x → y ≡ get_or ys i y
      → map f xs ≡ map f ys → f x ≡ f y
  one_same i x y h k x_is y_is e =
      ap f x_is
      ∙ (sym (get_or-map f xs i x (f x) h)
      ∙ (ap (λ zs. get_or zs i (f x)) e ∙ (get_or-map f ys i y (f x) k ∙ ap f (sym y_is))))
