-- The windows of a rio as a view lists them.
use Rattle.std.proofs.Common.{◌≡◌, ◌∙◌, ℕ, List, [], ◌∷◌, map, refl, ap}
use Rattle.std.specs.List.{zip}
use Rattle.r9_event.specs.declared.window.Window.{Window}

zip-maps : (ws : List Window) → zip (map (λ w. w.number) ws) (map (λ w. w.serial) ws) ≡ map (λ w. (w.number, w.serial)) ws
zip-maps [] = refl
zip-maps (w ∷ ws) = ap (λ rest. (w.number, w.serial) ∷ rest) (zip-maps ws)

pub viewed : (numbers serials : List ℕ) (ws made : List Window) → numbers ≡ map (λ w. w.number) ws → serials ≡ map (λ w. w.serial) ws → ws ≡ made
    → zip numbers serials ≡ map (λ w. (w.number, w.serial)) made
viewed numbers serials ws made n s m = (λ i. zip (n i) (s i)) ∙ zip-maps ws ∙ ap (map (λ w. (w.number, w.serial))) m
