-- Written by derive_files: types that contain themselves, and their codecs.
use Rattle.std.specs.Prelude.{ℕ, ℤ, suc, max, map, Bool, Box, Option, String, Vec, string_bytes}
use Rattle.std.specs.Global.{Global}
use Rattle.std.specs.Int.{w32}
use Rattle.std.specs.Option.{option_map}
use Rattle.nano_value.specs.Meaning.{Meaning, truth, number, text, optional, listed, paired, LegalSigned, LegalTruth, LegalText, LegalOption, LegalList, LegalPair}
use Rattle.nano_levels.specs.Layers.{greatest}
use Rattle.nano_schema_levels.specs.LegalLevels.{LegalStep}
use Rattle.nano_schema_levels.specs.Depths.{held_depth}
use Rattle.test_nested_derived_ron.specs.declared.comment.Comment.{Comment}
use Rattle.test_nested_derived_ron.specs.declared.comment.Comment.TheOpen.{Comment-F}
use Rattle.test_nested_derived_ron.specs.declared.comment.Comment.TheViews.{out-Comment}
use Rattle.test_nested_derived_ron.specs.declared.comment.Comment.TheFolds.{map-Comment, fold-Comment, fold_out-Comment}

-- ==== Comment: what a value is seen as

abbrev pub CommentContent : Type 0 → Type 0
CommentContent X =
    (String Global × (String Global × ℤ)) × (Option Bool × (Option (Box X Global) × Vec X Global))

abbrev pub comment_opened : {X : Type 0} → Comment-F X → CommentContent X
comment_opened y = ((y.author, (y.text, y.votes)), (y.pinned, (y.quoted, y.answers)))

abbrev pub comment_view : Comment → CommentContent Comment
comment_view x = comment_opened (out-Comment x)

-- ---- what it means, and how deep it is

abbrev pub comment_means_step : Comment-F Meaning → Meaning
comment_means_step y =
    paired (paired (text (string_bytes y.author), paired (text (string_bytes y.text), number y.votes)), paired (optional (option_map truth y.pinned), paired (optional (option_map (λ x. x.value) y.quoted), listed y.answers.items)))

abbrev pub comment_means : Comment → Meaning
comment_means = fold-Comment Meaning comment_means_step

abbrev pub comment_depth_step : Comment-F ℕ → ℕ
comment_depth_step y =
    max (held_depth (λ x. suc x.value) y.quoted) (greatest (map (λ x. suc x) y.answers.items))

abbrev pub comment_depth : Comment → ℕ
comment_depth = fold-Comment ℕ comment_depth_step

-- ---- which meanings are legal, given those that are of the values in it

abbrev pub comment_step : LegalStep
comment_step P =
    LegalPair (LegalPair LegalText (LegalPair LegalText (LegalSigned w32))) (LegalPair (LegalOption LegalTruth) (LegalPair (LegalOption P) (LegalList P)))
