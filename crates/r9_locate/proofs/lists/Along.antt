-- Windows that move along with the image on which they stand.
use Rattle.std.proofs.Common.{◌≡◌, ℕ, zero, suc, ◌<◌, List, [], ◌∷◌, get_or, length, refl, arith}
use Rattle.r9_geom.specs.declared.Point.{Point}
use Rattle.model_forest.specs.declared.Window.{Window}
use Rattle.model_forest.specs.Steps.{carried_rect}
use Rattle.r9_locate.proofs.lists.Ordered.{changed_to}

abbrev pub carried_window : Point → Point → Window → Window
carried_window from to w = record { image = w.image; place = carried_rect w.place from to }

-- an element that is not yet changed
pub changed_at : {X : Type 0} (f : X → X) (xs : List X) (k : ℕ) (d : X) → k < length xs → get_or (changed_to f k xs) k d ≡ get_or xs k d
changed_at f [] k d lt = absurd (omega arith)
changed_at f (x ∷ xs) zero d lt = refl
changed_at f (x ∷ xs) (suc k) d lt = changed_at f xs k d (omega arith)
