-- A display without pixels.
use Rattle.std.specs.Prelude.{false}
use Rattle.model_forest.specs.World.{no_rect}
use Rattle.r9_desktop.specs.Marks.{Display}

abbrev pub no_display : Display
no_display = record { r = no_rect; chan = 0; pixels = λ _ _. 0; marked = λ _ _. false; count = 0; nowhere = false }
