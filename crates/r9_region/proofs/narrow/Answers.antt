use Rattle.std.proofs.Common.{◌≡◌, ◌≤◌, ◌++◌, List, ℕ, arith, ap, ◌∙◌, length, map, take, drop}
use Rattle.std.proofs.lemmas.List.{append-nil, drop_all, get_or_default, take_all, with_items_is}
use Rattle.std.proofs.lemmas.List.Edits.{map_over_more}
use Rattle.r9_geom.specs.declared.Rect.{Rect}
use Rattle.r9_geom.specs.Geometry.{meet}
use Rattle.r9_region.proofs.narrow.Goals as goal

map_done : (f : Rect → Rect) (xs ys : List Rect) (i : ℕ) → length xs ≤ i → ys ≡ map f (take i xs) ++ drop i xs → ys ≡ map f xs
map_done f xs ys i h e =
    e ∙ ap (λ front. map f front ++ drop i xs) (take_all i xs h)
    ∙ ap (λ rest. map f xs ++ rest) (drop_all i xs h) ∙ append-nil (map f xs)

pub loop-part-preserved : goal.loop-part-preserved
loop-part-preserved c =
    rw c.meet.ensures.exact
    (map_over_more
    (λ part. meet part c.args.r.now)
    c.deref_mut-part-items.result.now
    c.loop-part.part-items
    c.loop-part.part-index
    _
    c.loop-part-test.true
    c.loop-part.invariant
    (get_or_default c.loop-part.part-items c.loop-part.part-index _ _ (omega (arith, c.loop-part.auto.part-items))))

pub returns : goal.returns
returns c =
    let narrow = λ (part : Rect). meet part c.args.r.now in
    with_items_is c.args.parts.now c.loop-part.part-items (omega (arith, c.loop-part.auto.part-items, c.deref_mut-part-items.ensures.len))
    ∙ map_done narrow c.deref_mut-part-items.result.now c.loop-part.part-items c.loop-part.part-index c.loop-part-test.false c.loop-part.invariant
    ∙ ap (map narrow) c.deref_mut-part-items.ensures.value
