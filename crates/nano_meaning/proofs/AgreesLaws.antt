-- What is proved of Agrees.
use Rattle.std.specs.Prelude.{ℕ, map, refl}
use Rattle.std.specs.Option.{option_map}
use Rattle.std.specs.declared.cmp.Ordering.{Ordering}
use Rattle.nano_meaning.specs.Meaning.{LegalOption, LegalList, LegalArray, LegalPair, Meaning}
use Rattle.nano_meaning.specs.Meaning.{optional, listed, paired, pair_map, Agrees}
use Rattle.nano_meaning.proofs.MeaningLaws.{option_weaker, list_weaker, array_weaker, pair_weaker}
use Rattle.nano_meaning.specs.Sets.{LegalSet, item_set, set_means}
use Rattle.nano_meaning.proofs.SetsLaws.{set_weaker}
use Rattle.nano_meaning.specs.Ordered.{ordered_map_means, ordered_means}
use Rattle.nano_meaning.specs.Tables.{LegalMap, table_of, table_means}
use Rattle.nano_meaning.proofs.TablesLaws.{map_weaker}

-- a format that says both as the type does
pub agreed : {A : Type 0} {means : A → Meaning} {legal : Meaning → Type 0}
    → Agrees means legal means legal
agreed = record { means_is = refl; allows = λ m h. h; is_legal = λ m h. h }

module _ {A : Type 0} {means : A → Meaning} {legal : Meaning → Type 0} {seen : A → Meaning}
    {allowed : Meaning → Type 0} (t : Agrees means legal seen allowed) where
  -- values that are seen as others
  pub seen_agrees : {B : Type 0} (view : B → A)
      → Agrees (λ x. means (view x)) legal (λ x. seen (view x)) allowed
  seen_agrees view =
      record { means_is = λ i x. t.means_is i (view x); allows = t.allows; is_legal = t.is_legal }

  pub option_agrees : Agrees (λ x. optional (option_map means x)) (LegalOption legal)
      (λ x. optional (option_map seen x)) (LegalOption allowed)
  option_agrees = record {
    means_is = λ i x. optional (option_map (t.means_is i) x);
    allows = option_weaker legal allowed t.allows;
    is_legal = option_weaker allowed legal t.is_legal;
  }

  pub list_agrees : Agrees (λ xs. listed (map means xs)) (LegalList legal)
      (λ xs. listed (map seen xs))
      (LegalList allowed)
  list_agrees = record {
    means_is = λ i xs. listed (map (t.means_is i) xs);
    allows = list_weaker legal allowed t.allows;
    is_legal = list_weaker allowed legal t.is_legal;
  }

  -- so many items
  pub array_agrees : (count : ℕ) → Agrees (λ xs. listed (map means xs)) (LegalArray count legal)
      (λ xs. listed (map seen xs)) (LegalArray count allowed)
  array_agrees count = record {
    means_is = λ i xs. listed (map (t.means_is i) xs);
    allows = array_weaker legal allowed t.allows count;
    is_legal = array_weaker allowed legal t.is_legal count;
  }

  pub set_agrees : Agrees (λ xs. set_means (item_set means xs)) (LegalSet legal)
      (λ xs. set_means (item_set seen xs)) (LegalSet allowed)
  set_agrees = record {
    means_is = λ i xs. set_means (item_set (t.means_is i) xs);
    allows = set_weaker legal allowed t.allows;
    is_legal = set_weaker allowed legal t.is_legal;
  }

  -- the set that holds its items in the order R
  pub ordered_agrees :
      (R : A → A → Ordering)
      → Agrees (ordered_means R means) (LegalSet legal) (ordered_means R seen) (LegalSet allowed)
  ordered_agrees R = record {
    means_is = λ i. ordered_means R (t.means_is i);
    allows = set_weaker legal allowed t.allows;
    is_legal = set_weaker allowed legal t.is_legal;
  }

module _ {A B : Type 0} {means : A → Meaning} {legal : Meaning → Type 0} {seen : A → Meaning}
    {allowed : Meaning → Type 0} {means' : B → Meaning} {legal' : Meaning → Type 0}
    {seen' : B → Meaning} {allowed' : Meaning → Type 0} (t : Agrees means legal seen allowed)
    (u : Agrees means' legal' seen' allowed') where
  pub pair_agrees : Agrees (λ x. paired (pair_map means means' x)) (LegalPair legal legal')
      (λ x. paired (pair_map seen seen' x)) (LegalPair allowed allowed')
  pair_agrees = record {
    means_is = λ i x. paired (pair_map (t.means_is i) (u.means_is i) x);
    allows = pair_weaker legal allowed legal' allowed' t.allows u.allows;
    is_legal = pair_weaker allowed legal allowed' legal' t.is_legal u.is_legal;
  }

  pub map_agrees : Agrees (λ es. table_means (table_of means means' es)) (LegalMap legal legal')
      (λ es. table_means (table_of seen seen' es)) (LegalMap allowed allowed')
  map_agrees = record {
    means_is = λ i es. table_means (table_of (t.means_is i) (u.means_is i) es);
    allows = map_weaker legal allowed legal' allowed' t.allows u.allows;
    is_legal = map_weaker allowed legal allowed' legal' t.is_legal u.is_legal;
  }

  -- the map that holds its entries in the order R of their keys
  pub ordered_map_agrees :
      (R : A → A → Ordering)
      → Agrees (ordered_map_means R means means') (LegalMap legal legal')
      (ordered_map_means R seen seen') (LegalMap allowed allowed')
  ordered_map_agrees R = record {
    means_is = λ i. ordered_map_means R (t.means_is i) (u.means_is i);
    allows = map_weaker legal allowed legal' allowed' t.allows u.allows;
    is_legal = map_weaker allowed legal allowed' legal' t.is_legal u.is_legal;
  }
