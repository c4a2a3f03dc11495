-- What the calls come to that read a field under its alias or under its own name.
use Rattle.std.specs.Prelude.{◌≡◌, ℕ, Bool, true, false, List, [], ◌∷◌, ◌++◌, map, bytes_eq, Result}
use Rattle.std.specs.Prelude.{◌||◌, if◌then◌else◌, refl}
use Rattle.std.proofs.Common.{sym, ◌∙◌, ap, subst}
use Rattle.std.proofs.lemmas.List.{map-append}
use Rattle.std.proofs.lemmas.Result.{MatchResult-weaker}
use Rattle.nano_value.specs.Meaning.{Meaning}
use Rattle.nano_text.specs.declared.place.Place.{Place}
use Rattle.nano_grammar.specs.Outcomes.{Report, Position, ReadsNone}
use Rattle.nano_grammar.specs.Fields.{Field, Shape}
use Rattle.nano_grammar.specs.Aliases.{own_of, under_own, aliased}
use Rattle.nano_grammar.specs.UserOutcomes.{FieldTokens, ReadField, LooksUp, LooksUpNone}
use Rattle.nano_grammar.specs.UserOutcomes.{GivesValues}
use Rattle.nano_grammar.specs.Plain.{LooksUpPlainly}
use Rattle.nano_grammar.proofs.TokenCalls.{none_as}

module _ {T : Type 0} (alias own : List ℕ) (shape : Shape T) where
  abbrev Own : List (Field T) → List (Field T)
  Own = map (under_own alias own)

  abbrev Also : Shape T
  Also = aliased alias own shape

  -- where the own name is known, each name is known as the one that counts
  known_as : shape.knows own ≡ true → (name n : List ℕ) → own_of alias own name ≡ n
      → Also.knows name ≡ shape.knows n
  known_as known name n is = counts ∙ ap shape.knows is where
    counts : Also.knows name ≡ shape.knows (own_of alias own name)
    counts = elim (bytes_eq name alias) as
        (λ b. (b || shape.knows name) ≡ shape.knows (if b then own else name)) [
          | true ↦ sym known
          | false ↦ refl
        ]

  -- what is held with a field under the name that counts is held with it under this name
  held_under : (name n : List ℕ) (value : List T) (before after : List (Field T) → Type 0)
      → own_of alias own name ≡ n
      → ((fs : List (Field T)) → before fs → after (fs ++ record { name = n; value = value } ∷ []))
      → (fs : List (Field T)) → before (Own fs)
      → after (Own (fs ++ record { name = name; value = value } ∷ []))
  held_under name n value before after is held fs h =
      let one = ap (λ (x : List ℕ). Own fs ++ record { name = x; value = value } ∷ []) is in
      let same = map-append (under_own alias own) fs (record { name = name; value = value } ∷ []) in
      subst after (sym (same ∙ one)) (held (Own fs) h)

  module _ (cut : List ℕ → T → List ℕ → Type 0) (name n : List ℕ)
      (is : own_of alias own name ≡ n) where
    takes_under : (us : List T) → shape.takes n us → Also.takes name us
    takes_under us t = subst (λ (x : List ℕ). shape.takes x us) (sym is) t

    taken_under : (us : List T) → Also.takes name us → shape.takes n us
    taken_under us t = subst (λ (x : List ℕ). shape.takes x us) is t

    -- ---- with a token pending

    module _ (prefix : List T) {start end : Position T} where
      pub no_field_under : {e : Report} {breaks : List ℕ → List ℕ → Type 0}
          → ReadsNone cut breaks (FieldTokens prefix n shape.takes) start end e
          → ReadsNone cut breaks (FieldTokens prefix name Also.takes) start end e
      no_field_under h =
          none_as cut (FieldTokens prefix name Also.takes) (FieldTokens prefix n shape.takes)
          (λ ts us e. (us, (e.0, taken_under us e.1))) h

      module _ {before after : List (Field T) → Type 0} where
        pub field_under : ReadField cut prefix n shape.takes before after start end
            → ReadField cut prefix name Also.takes (λ fs. before (Own fs)) (λ fs. after (Own fs))
            start end
        field_under r = record {
          value = r.value;
          allowed = takes_under r.value r.allowed;
          taken = r.taken;
          held = held_under name n r.value before after is r.held;
          place = r.place;
        }

        module _ {same : Type 0} (known : shape.knows own ≡ true) where
          pub looked_up_under : {found : Bool}
              → LooksUp cut prefix n shape before after same start end found
              → LooksUp cut prefix name Also (λ fs. before (Own fs)) (λ fs. after (Own fs)) same
              start end found
          looked_up_under h = record {
            known_is = h.known_is ∙ sym (known_as known name n is);
            read = λ e. field_under (h.read e);
            unknown = h.unknown;
          }

          pub looked_up_none_under : {e : Report} {breaks : List ℕ → List ℕ → Type 0}
              → LooksUpNone cut breaks prefix n shape before after same start end e
              → LooksUpNone cut breaks prefix name Also (λ fs. before (Own fs)) (λ fs. after (Own fs)) same
              start end e
          looked_up_none_under h = record {
            known = known_as known name n is ∙ h.known;
            none = no_field_under h.none;
          }

    -- ---- with no token pending

    module _ {before after : List (Field T) → Type 0} where
      pub looked_up_plainly_under : {same : Type 0} {text rest : List ℕ} {found : Bool}
          → shape.knows own ≡ true
          → LooksUpPlainly cut n shape before after same text rest found
          → LooksUpPlainly cut name Also (λ fs. before (Own fs)) (λ fs. after (Own fs)) same
          text rest found
      looked_up_plainly_under known h = record {
        known_is = h.known_is ∙ sym (known_as known name n is);
        taken = λ e.
            let r = h.taken e in
            record {
              value = r.value;
              allowed = takes_under r.value r.allowed;
              taken = r.taken;
              held = held_under name n r.value before after is r.held;
            };
        unknown = h.unknown;
      }

  -- ---- the values of the fields

  -- what is given by the fields under the names that count is given by them
  pub values_under : {A E : Type 0} (holds : List (Field T) → Type 0) (report : E → Report)
      (means : A → Meaning) (place : Place) (result : Result A E)
      → GivesValues shape holds report means place result
      → GivesValues Also (λ fs. holds (Own fs)) report means place result
  values_under holds report means place result h =
      MatchResult-weaker result h (λ values k fs. k (Own fs)) (λ e k. record {
        rejected = λ no.
            let missing = k.rejected no in
            record {
              name = missing.name;
              lacking = λ fs. missing.lacking (Own fs);
              said = missing.said;
            };
        made = k.made;
      })
