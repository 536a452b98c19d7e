use Rattle.std.proofs.Common.{suc}
use Rattle.model_forest.specs.World.{deepest}
use Rattle.model_forest.specs.View.{view}
use Rattle.model_forest.specs.Paint.{paint}
use Rattle.model_forest.proofs.Views.{paint_within-is_view}
use Rattle.model_forest.proofs.paint_is_view.Goals as goal

pub returns : goal.returns
unfolding view paint
returns c = λ world i p ok live inside. paint_within-is_view world ok (suc deepest) i p live inside
