-- What options make is a rectangle that a window may have.
use Rattle.std.proofs.Common.{◌≡◌, Bool, true, false, cond, List, Some, None, refl, sym, ap, ◌∙◌}
use Rattle.std.specs.List.{fold}
use Rattle.r9_geom.specs.declared.Rect.{Rect}
use Rattle.model_files.specs.wctl.Command.{Choice}
use Rattle.model_files.specs.wctl.Rectangle.{after_choice, is_window, applied}

chosen : {A : Type 0} (b : Bool) (x y : A) → cond b (Some x) None ≡ Some y → (b ≡ true) × (x ≡ y)
chosen true x y e = (refl, cc)
chosen false x y e = absurd cc

pub applied-is_window : (moves : Bool) (options : List Choice) (start r : Rect) → applied moves options start ≡ Some r → is_window r ≡ true
unfolding applied
applied-is_window moves options start r e =
    let c = chosen (is_window (fold (after_choice moves) start options)) (fold (after_choice moves) start options) r e in
    ap is_window (sym c.1) ∙ c.0
