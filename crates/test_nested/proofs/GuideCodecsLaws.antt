-- Written by derive_files: what is proved of types that contain themselves.
use Rattle.test_nested.specs.declared.guide.Way.{Way}
use Rattle.test_nested.specs.GuideCodecs.{way_view}
use Rattle.test_nested.specs.declared.guide.Guide.TheViews.{out-Way}
use Rattle.test_nested.specs.declared.guide.Stop.{Stop}
use Rattle.test_nested.specs.GuideCodecs.{stop_view}
use Rattle.test_nested.specs.declared.guide.Guide.TheViews.{out-Stop}
use Rattle.test_nested.specs.declared.guide.Guide.{Guide}
use Rattle.test_nested.specs.GuideCodecs.{guide_view}
use Rattle.test_nested.specs.declared.guide.Guide.TheViews.{out-Guide}

-- ==== Way

-- ==== Stop

-- ==== Guide
