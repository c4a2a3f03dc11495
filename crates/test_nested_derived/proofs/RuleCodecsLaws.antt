-- Written by derive_files: what is proved of types that contain themselves.
use Rattle.std.specs.Prelude.{◌≡◌, ◌++◌, ℕ, refl, Box, Option}
use Rattle.std.specs.Global.{Global}
use Rattle.std.specs.Option.{option_map}
use Rattle.std.proofs.Common.{append_assoc, inl, inr, rules}
use Rattle.nano_value.specs.Meaning.{nothing, whole, optional, paired}
use Rattle.nano_schema.specs.declared.choices.Either.TheVariants.{First, Later}
use Rattle.nano_bin_bytes.specs.BaseCodecs.{codec_as}
use Rattle.nano_bin_bytes.specs.Scalars.{little_endian}
use Rattle.nano_bin.specs.ScalarCodecs.{u8_codec, unit_codec}
use Rattle.nano_bin.specs.ContainerCodecs.{option_codec}
use Rattle.nano_bin_nested.proofs.NestedLaws.{seen_legal, written_seen}
use Rattle.test_nested_derived.specs.declared.rule.Rule.{Rule}
use Rattle.test_nested_derived.specs.RuleCodecs.{rule_view, rule_means, rule_nested, rule_codec}
use Rattle.test_nested_derived.specs.declared.rule.Rule.{the_lemmas}
use Rattle.test_nested_derived.specs.declared.rule.Rule.{Always as Rule-Always}
use Rattle.test_nested_derived.specs.declared.rule.Rule.{From as Rule-From}
use Rattle.test_nested_derived.specs.declared.rule.Rule.{When as Rule-When}

-- ==== Rule

pub rule_view_always : rule_view Rule-Always ≡ First (tt {0})
rule_view_always = search (rules, the_lemmas)

pub rule_written_always : rule_codec.canonical.written Rule-Always
    ≡ little_endian 2 0
    ++ unit_codec.canonical.written (tt {0})
rule_written_always =
    written_seen rule_nested Rule-Always (First (tt {0})) rule_view_always

pub rule_legal_always : rule_codec.encoding.legal (rule_means Rule-Always)
rule_legal_always =
    seen_legal rule_nested Rule-Always (First (tt {0})) rule_view_always
    (inl (record { part = nothing; has = refl; is = refl }))

pub rule_view_from : (v : ℕ)
    → rule_view (Rule-From v) ≡ Later (First v)
rule_view_from v = search (rules, the_lemmas)

pub rule_written_from : (v : ℕ)
    → rule_codec.canonical.written (Rule-From v)
    ≡ little_endian 2 1
    ++ u8_codec.canonical.written v
rule_written_from v =
    written_seen rule_nested (Rule-From v) (Later (First v)) (rule_view_from v)

pub rule_legal_from : (v : ℕ)
    → u8_codec.encoding.legal (whole v)
    → rule_codec.encoding.legal (rule_means (Rule-From v))
rule_legal_from v h0 =
    seen_legal rule_nested (Rule-From v) (Later (First v)) (rule_view_from v)
    (inr (inl (record { part = whole v; has = h0; is = refl })))

pub rule_view_when : (v0 : Box Rule Global)
    → (v1 : Box Rule Global)
    → (v2 : Option (Box Rule Global))
    → rule_view (Rule-When v0 v1 v2) ≡ Later (Later (v0, (v1, v2)))
rule_view_when v0 v1 v2 = search (rules, the_lemmas)

pub rule_written_when : (v0 : Box Rule Global)
    → (v1 : Box Rule Global)
    → (v2 : Option (Box Rule Global))
    → rule_codec.canonical.written (Rule-When v0 v1 v2)
    ≡ little_endian 2 2
    ++ ((codec_as (λ (x : Box Rule Global). x.value) rule_codec).canonical.written v0
    ++ ((codec_as (λ (x : Box Rule Global). x.value) rule_codec).canonical.written v1
    ++ (option_codec (codec_as (λ (x : Box Rule Global). x.value) rule_codec)).canonical.written v2))
rule_written_when v0 v1 v2 =
    written_seen rule_nested (Rule-When v0 v1 v2) (Later (Later (v0, (v1, v2)))) (rule_view_when v0 v1 v2)

pub rule_legal_when : (v0 : Box Rule Global)
    → (v1 : Box Rule Global)
    → (v2 : Option (Box Rule Global))
    → (codec_as (λ (x : Box Rule Global). x.value) rule_codec).encoding.legal (rule_means v0.value)
    → (codec_as (λ (x : Box Rule Global). x.value) rule_codec).encoding.legal (rule_means v1.value)
    → (option_codec (codec_as (λ (x : Box Rule Global). x.value) rule_codec)).encoding.legal (optional (option_map (λ x. rule_means x.value) v2))
    → rule_codec.encoding.legal (rule_means (Rule-When v0 v1 v2))
rule_legal_when v0 v1 v2 h0 h1 h2 =
    seen_legal rule_nested (Rule-When v0 v1 v2) (Later (Later (v0, (v1, v2)))) (rule_view_when v0 v1 v2)
    (inr (inr (inl (record { part = paired (rule_means v0.value, paired (rule_means v1.value, optional (option_map (λ x. rule_means x.value) v2))); has = (record { part = (rule_means v0.value, paired (rule_means v1.value, optional (option_map (λ x. rule_means x.value) v2))); has = (h0, (record { part = (rule_means v1.value, optional (option_map (λ x. rule_means x.value) v2)); has = (h1, h2); is = refl })); is = refl }); is = refl }))))

pub ruleset rule_views = (rule_view_always, rule_view_from, rule_view_when)

pub ruleset rule_written_laws = (append_assoc, rule_written_always, rule_written_from, rule_written_when)
