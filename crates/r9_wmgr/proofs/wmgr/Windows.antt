-- What options make is near.
use Rattle.std.proofs.Common.{◌≡◌, Bool, true, false, ◌&&◌, ◌-ℤ◌, List, Some}
use Rattle.r9_geom.specs.declared.Rect.{Rect}
use Rattle.model_files.specs.declared.wctl.Choice.{Choice}
use Rattle.model_files.specs.wctl.Rectangle.{applied, is_near, is_side}
use Rattle.model_files.proofs.wctl.Laws.{applied-is_window}

last_of : (a b c : Bool) → (a && b && c) ≡ true → c ≡ true
last_of true true c e = e
last_of true false c e = absurd cc
last_of false b c e = absurd cc

differ : (b : Bool) → b ≡ true → b ≡ false → ⊥
differ true e f = absurd cc
differ false e f = absurd cc

pub near_applied : (moves : Bool) (options : List Choice) (start r : Rect) → applied moves options start ≡ Some r → is_near r ≡ false → ⊥
near_applied moves options start r e far = differ (is_near r) (last_of (is_side (r.max.x -ℤ r.min.x)) (is_side (r.max.y -ℤ r.min.y)) (is_near r) (applied-is_window moves options start r e)) far
