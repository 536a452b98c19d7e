use Rattle.std.proofs.Common.{◌≡◌, ◌∙◌, ◌+ℤ◌, pos, min, arith, w64, to_z, of_z}
use Rattle.std.proofs.lemmas.Int.{ints}
use Rattle.r9_geom.specs.Geometry.{distance, height}
use Rattle.r9_cursor.proofs.Beside.{none_above, none_below}
use Rattle.r9_cursor.proofs.cursor.Cursor.rows.Goals as goal

pub returns-clause-above : goal.returns-clause-above
returns-clause-above c =
    let cursor = c.args.self.now in
    let top : to_z w64 (of_z w64 cursor.r.min.y) ≡ cursor.r.min.y = omega (arith, ints, cursor.near.min.top, cursor.near.min.bottom) in
    let place : to_z w64 (of_z w64 cursor.at.y) ≡ cursor.at.y = omega (arith, ints, cursor.at_near.top, cursor.at_near.bottom) in
    let first : c.own_places.result.0 ≡ min (distance cursor.r.min.y cursor.at.y) (height cursor.r) =
    c.own_places.ensures.first ∙ (λ i. min (distance (top i) (place i)) (c.height.ensures i)) in
    λ row n above. none_above cursor.r cursor.chan cursor.at row n c.own_places.result.0 first above

pub returns-clause-below : goal.returns-clause-below
returns-clause-below c =
    let cursor = c.args.self.now in
    let top : to_z w64 (of_z w64 cursor.r.min.y) ≡ cursor.r.min.y = omega (arith, ints, cursor.near.min.top, cursor.near.min.bottom) in
    let place : to_z w64 (of_z w64 cursor.at.y) ≡ cursor.at.y = omega (arith, ints, cursor.at_near.top, cursor.at_near.bottom) in
    let end : c.own_places.result.1 ≡ min (distance cursor.r.min.y (cursor.at.y +ℤ pos 16)) (height cursor.r) =
    c.own_places.ensures.end ∙ (λ i. min (distance (top i) (place i +ℤ pos 16)) (c.height.ensures i)) in
    λ row n below within. none_below cursor.r cursor.chan cursor.at row n c.own_places.result.1 end below within

pub returns-clause-end : goal.returns-clause-end
returns-clause-end c = omega (arith, c.own_places.ensures.end, c.height.ensures)
