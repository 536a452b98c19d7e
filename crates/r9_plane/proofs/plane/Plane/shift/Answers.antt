use Rattle.std.proofs.Common.{◌≡◌, ◌∙◌, ◌<◌, ◌≤◌, ◌^◌, ◌*◌, ℕ, ap, sym, subst, vec_len}
use Rattle.r9_geom.specs.declared.Rect.{Rect}
use Rattle.r9_geom.specs.Geometry.{height, width, IsOrdered, IsRectNear}
use Rattle.r9_marks.specs.marks.Cells.{cells_over}
use Rattle.r9_plane.specs.Pixels.{pixel_at, pixel_of}
use Rattle.r9_plane.proofs.Shifts.{height-at_min, ordered-at_min, pixel-at_min, width-at_min}
use Rattle.r9_plane.proofs.plane.Plane.shift.Goals as goal

pub invariant_of-self : goal.invariant_of-self
invariant_of-self c =
    let plane = c.args.self.now in
    let min = c.args.min in
    let is = sym c.at_min-self.ensures in
    let wide : width plane.r ≡ width c.at_min-self.result = sym (width-at_min plane.r min) ∙ ap width is in
    let tall : height plane.r ≡ height c.at_min-self.result = sym (height-at_min plane.r min) ∙ ap height is in
    record {
      near = subst IsRectNear is c.requires.near;
      ordered = subst IsOrdered is (ordered-at_min plane.r min plane.ordered);
      depth_is = plane.depth_is;
      lawful = plane.lawful;
      columns_are = plane.columns_are ∙ wide;
      countable = subst (λ (n : ℕ). n < 2 ^ 63) (λ j. tall j * wide j) plane.countable;
      room = subst (λ (n : ℕ). n * plane.depth ≤ 8 * vec_len plane.bytes) (λ j. tall j * wide j) plane.room;
      across = plane.across ∙ ap cells_over wide;
      down = plane.down ∙ ap cells_over tall;
    }

pub returns-clause-pixels : goal.returns-clause-pixels
unfolding pixel_at
returns-clause-pixels c q =
    let plane = c.args.self.now in
    ap (λ (r : Rect). pixel_of r plane.chan plane.bytes.items q) c.at_min-self.ensures
    ∙ pixel-at_min plane.r plane.chan plane.bytes.items c.args.min q
