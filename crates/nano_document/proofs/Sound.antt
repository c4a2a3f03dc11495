-- A document that is not too deep is sound.
use Rattle.std.proofs.Common.{◌<◌, ℕ, zero, suc, List, [], ◌∷◌, String, Global}
use Rattle.std.specs.List.{AllByRecursion}
use Rattle.nano_json.specs.Codec.{Codec}
use Rattle.nano_levels.specs.Kinds.{codecs_at}
use Rattle.nano_levels.proofs.LevelsLaws.{below_is_sound}
use Rattle.nano_document.specs.Documents.{Fields, depth, most_levels}
use Rattle.nano_document.specs.DocumentCodecs.{layers, json_nested, json_codec}
use Rattle.nano_document.specs.declared.json.Json.{Json}

entries_sound : (f : Codec Json) (es : List (String Global × Json)) → AllByRecursion (λ e. f.sound e.1) es
    → AllByRecursion (λ (e : String Global × Json). Unit {0} × f.sound e.1) es
entries_sound f [] h = tt
entries_sound f (e ∷ es) h = ((tt, h.0), entries_sound f es h.1)

content_sound : (f : Codec Json) (place : ℕ) (x : Fields Json place) → (layers place).All f.sound x
    → (codecs_at layers f place).sound x
content_sound f zero x h = tt
content_sound f (suc zero) x h = tt
content_sound f (suc (suc zero)) x h = tt
content_sound f (suc (suc (suc zero))) x h = tt
content_sound f (suc (suc (suc (suc zero)))) x h = h
content_sound f (suc (suc (suc (suc (suc zero))))) x h = entries_sound f x h
content_sound f (suc (suc (suc (suc (suc (suc zero)))))) x h = tt
content_sound f (suc (suc (suc (suc (suc (suc (suc place))))))) x h = absurd x

pub below_limit : (x : Json) → depth x < most_levels → json_codec.sound x
below_limit = below_is_sound json_nested most_levels (λ f x h. content_sound f x.tag x.fields h)
