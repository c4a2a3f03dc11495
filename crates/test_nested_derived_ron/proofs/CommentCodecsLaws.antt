-- Written by derive_files: what is proved of types that contain themselves.
use Rattle.test_nested_derived_ron.specs.declared.comment.Comment.{Comment}
use Rattle.test_nested_derived_ron.specs.CommentCodecs.{comment_view}
use Rattle.test_nested_derived_ron.specs.declared.comment.Comment.TheViews.{out-Comment}

-- ==== Comment
