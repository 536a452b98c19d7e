use Rattle.std.proofs.Common.{◌≡◌, ◌≤◌, ◌++◌, ◌==◌, if◌then◌else◌, List, ℕ, arith, ap, ◌∙◌, length, map, take, drop}
use Rattle.std.proofs.lemmas.List.{append-nil, drop_all, get_or_default, take_all, with_items_is}
use Rattle.std.proofs.lemmas.List.Edits.{map_over_more}
use Rattle.r9_geom.specs.declared.Rect.{Rect}
use Rattle.model_client.specs.declared.desk.Pane.{Pane}
use Rattle.r9_menu.proofs.panes.set_rect.Goals as goal

abbrev placed : ℕ → Rect → Pane → Pane
placed number r pane = if pane.number == number then (record { number = pane.number; r = r }) else pane

map_done : (f : Pane → Pane) (xs ys : List Pane) (i : ℕ) → length xs ≤ i → ys ≡ map f (take i xs) ++ drop i xs → ys ≡ map f xs
map_done f xs ys i h e =
    e ∙ ap (λ front. map f front ++ drop i xs) (take_all i xs h)
    ∙ ap (λ rest. map f xs ++ rest) (drop_all i xs h) ∙ append-nil (map f xs)

pub loop-pane-preserved : goal.loop-pane-preserved
loop-pane-preserved c =
    rw c.placed.ensures
    (map_over_more
    (placed c.args.number c.args.r)
    c.deref_mut-pane-items.result.now
    c.loop-pane.pane-items
    c.loop-pane.pane-index
    _
    c.loop-pane-test.true
    c.loop-pane.invariant
    (get_or_default c.loop-pane.pane-items c.loop-pane.pane-index _ _ (omega (arith, c.loop-pane.auto.pane-items))))

pub returns : goal.returns
returns c =
    let place = placed c.args.number c.args.r in
    with_items_is c.args.panes.now c.loop-pane.pane-items (omega (arith, c.loop-pane.auto.pane-items, c.deref_mut-pane-items.ensures.len))
    ∙ map_done place c.deref_mut-pane-items.result.now c.loop-pane.pane-items c.loop-pane.pane-index c.loop-pane-test.false c.loop-pane.invariant
    ∙ ap (map place) c.deref_mut-pane-items.ensures.value
