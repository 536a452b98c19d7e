use Rattle.std.proofs.Common.{◌≡◌, ◌∙◌, ℕ, zero, suc, ◌<◌, ◌++◌, List, [], ◌∷◌, get_or, set, map, take, drop, length, refl, sym, ap, arith, add-one}
use Rattle.model_forest.specs.declared.Window.{Window}
use Rattle.model_forest.specs.Stack.{moved_window}
use Rattle.model_forest.specs.World.{no_rect}
use Rattle.r9_forest.proofs.moving.place_each.Goals as goal

abbrev no_window : Window
no_window = record { image = 0; place = no_rect }

-- one more is changed
one_more : (f : Window → Window) (xs : List Window) (k : ℕ) (d : Window) → k < length xs → set (map f (take k xs) ++ drop k xs) k (f (get_or (map f (take k xs) ++ drop k xs) k d)) ≡ map f (take (suc k) xs) ++ drop (suc k) xs
one_more f [] k d lt = absurd (omega arith)
one_more f (x ∷ xs) zero d lt = refl
one_more f (x ∷ xs) (suc k) d lt = ap (λ (ys : List Window). f x ∷ ys) (one_more f xs k d (omega arith))

pub loop-k-preserved : goal.loop-k-preserved
loop-k-preserved c =
    let f = moved_window c.args.i c.args.place in
    let old = c.args.windows.now in
    let k = c.loop-k.k in
    ap (λ (w : Window). set c.loop-k.windows k w) c.place_one.ensures
    ∙ ap (λ (ws : List Window). set ws k (f (get_or ws k no_window))) c.loop-k.invariant
    ∙ one_more f old k no_window (omega (arith, c.loop-k-test.true))
    ∙ ap (λ n. map f (take n old) ++ drop n old) (sym (add-one k))
