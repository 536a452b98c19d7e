use Rattle.std.proofs.Common.{◌≡◌, ◌∙◌, ℕ, ◌+◌, ◌-◌, ◌*◌, ◌<◌, ◌≤◌, ◌^◌, ◌||◌, Option, true, false, refl, sym, subst, ap, arith}
use Rattle.r9_geom.specs.declared.Point.{Point}
use Rattle.r9_geom.specs.Geometry.{height, holds, width, IsNear}
use Rattle.r9_geom.proofs.GeometryLemmas.{band, band_all, band_none, bounds_of, distance_below, distance_is, height_most, width_most}
use Rattle.std.proofs.lemmas.Bool.{false_from_ne_true}
use Rattle.std.proofs.lemmas.Int.{ints}
use Rattle.r9_locate.specs.locate.Forms.{bits_in, Form, HasBits}
use Rattle.r9_locate.specs.locate.Table.{shape}
use Rattle.r9_restack.specs.Stacks.{after_of}
use Rattle.r9_shown.specs.Shown.{block}
use Rattle.r9_shown.proofs.Pieces.{band_part}
use Rattle.r9_restack.specs.Moving.{more_in, IsFreshIn}
use Rattle.r9_restack.proofs.Blocked.{done_below, fresh_below}
use Rattle.r9_restack.proofs.Changes.{changed-same}
use Rattle.r9_restack.proofs.Parting.{row_begins}
use Rattle.r9_restack.proofs.changing.change_within.Given.{Over}
use Rattle.r9_restack.proofs.changing.change_within.Goals as goal
use Rattle.r9_restack.proofs.changing.change_within.Goals.{After-point_at-at}

-- without columns there are no points
pub returns-then-columns-eq0-clause-moved : goal.returns-then-columns-eq0-clause-moved
returns-then-columns-eq0-clause-moved g c before done fresh m =
    let area = c.args.area.now in
    let none : (z : Point) → holds area z ≡ false = λ z.
    false_from_ne_true (holds area z)
    (λ h.
    let b = bounds_of area z h in
    let wide = distance_is area.min.x area.max.x c.requires.ordered.across in
    absurd (omega (arith, ints, b.left, b.right, wide, c.width-columns.ensures, c.if-columns-eq0.true))) in
    changed-same (shape c.args.lists.now) c.args.p (after_of c.args.stacks.now) c.args.w (g.S.Source.given c.args.source.now) (g.S.Source.fill c.args.source.now) before (g.P.Pixels.kept c.args.pixels.now) done (λ z. holds area z || done z) (λ z. ap (λ b. b || done z) (none z)) m

pub loop-row-init : goal.loop-row-init
loop-row-init g c = record {
  within = omega arith;
  moved = λ before done fresh m. changed-same (shape c.args.lists.now) c.args.p (after_of c.args.stacks.now) c.args.w (g.S.Source.given c.args.source.now) (g.S.Source.fill c.args.source.now) before (g.P.Pixels.kept c.args.pixels.now) done (more_in (band c.args.area.now 0) done) (λ z. ap (λ b. b || done z) (band_none c.args.area.now z)) m;
  has = refl;
  forms = refl;
  moment = refl;
  spare = refl;
  steps = omega arith;
  writes = refl;
}

pub point_at-at-requires-clause-row : goal.point_at-at-requires-clause-row
point_at-at-requires-clause-row g c = omega (arith, height_most c.args.area.now c.requires.near c.requires.ordered, c.loop-row.invariant.within)

-- a row begins near
begins_near : (g : Over) (c : After-point_at-at g) → IsNear c.point_at-at.result
begins_near g c =
    let area = c.args.area.now in
    let is = row_begins area c.point_at-at.result c.loop-row.row c.point_at-at.ensures in
    let bottom = distance_below area.min.y area.max.y c.loop-row.row (omega (arith, c.loop-row-test.true, c.height-height.ensures)) in
    record {
      left = omega (arith, ints, is.0, c.requires.near.min.left);
      right = omega (arith, ints, is.0, c.requires.near.min.right);
      top = omega (arith, ints, is.1, c.requires.near.min.top);
      bottom = omega (arith, ints, is.1, bottom, c.requires.near.max.bottom);
    }

-- the rows that are left are rows of the area
in_rows : (g : Over) (c : After-point_at-at g) (z : Point) → holds (block c.point_at-at.result c.width-columns.result (c.height-height.result - c.loop-row.row)) z ≡ true → holds c.args.area.now z ≡ true
in_rows g c z h =
    let area = c.args.area.now in
    let left = c.height-height.result - c.loop-row.row in
    let is = row_begins area c.point_at-at.result c.loop-row.row c.point_at-at.ensures in
    band_part area c.point_at-at.result z c.loop-row.row left c.requires.ordered is.0 is.1 (omega (arith, c.height-height.ensures, c.loop-row-test.true))
    (ap (λ n. holds (block c.point_at-at.result n left) z) (sym c.width-columns.ensures) ∙ h)

pub change_rows-row-requires-clause-start : goal.change_rows-row-requires-clause-start
change_rows-row-requires-clause-start g c = begins_near g (goal.at.change_rows-row-requires-clause-start g c).After-point_at-at

pub change_rows-row-requires-clause-columns : goal.change_rows-row-requires-clause-columns
change_rows-row-requires-clause-columns g c = omega (arith, c.width-columns.ensures, width_most c.args.area.now c.requires.near c.requires.ordered)

pub change_rows-row-requires-clause-rows : goal.change_rows-row-requires-clause-rows
change_rows-row-requires-clause-rows g c = omega (arith, c.height-height.ensures, height_most c.args.area.now c.requires.near c.requires.ordered)

pub change_rows-row-requires-clause-inside : goal.change_rows-row-requires-clause-inside
change_rows-row-requires-clause-inside g c z h = c.requires.inside z (in_rows g (goal.at.change_rows-row-requires-clause-inside g c).After-point_at-at z h)

pub change_rows-row-requires-clause-same : goal.change_rows-row-requires-clause-same
change_rows-row-requires-clause-same g c z h = c.stacks_within-near.ensures.same z (in_rows g (goal.at.change_rows-row-requires-clause-same g c).After-point_at-at z h)

pub change_rows-row-requires-clause-bits : goal.change_rows-row-requires-clause-bits
change_rows-row-requires-clause-bits g c = subst (HasBits (shape c.args.lists.now)) (sym c.loop-row.invariant.forms) c.requires.bits

pub change_rows-row-requires-clause-given : goal.change_rows-row-requires-clause-given
change_rows-row-requires-clause-given g c stands x = subst (λ (forms : ℕ → Option Form). g.S.Source.given c.args.source.now x < 2 ^ bits_in forms c.args.p) (sym c.loop-row.invariant.forms) (c.requires.given stands x)

pub change_rows-row-requires-clause-fill : goal.change_rows-row-requires-clause-fill
change_rows-row-requires-clause-fill g c z = subst (λ (forms : ℕ → Option Form). g.S.Source.fill c.args.source.now z < 2 ^ bits_in forms c.args.p) (sym c.loop-row.invariant.forms) (c.requires.fill z)

pub loop-row-preserved : goal.loop-row-preserved
loop-row-preserved g c =
    let area = c.args.area.now in
    let row = c.loop-row.row in
    let left = c.height-height.result - row in
    let rows = c.change_rows-row.result in
    let at = c.point_at-at.result in
    let is = row_begins area at row c.point_at-at.ensures in
    let fits : row + rows ≤ height area = omega (arith, c.change_rows-row.ensures.most, c.height-height.ensures, c.loop-row-test.true) in
    let all : row + left ≤ height area = omega (arith, c.height-height.ensures, c.loop-row-test.true) in
    let more_steps : width area * (row + rows) ≡ width area * row + width area * rows = grind arith in
    let wide : c.width-columns.result * rows ≡ width area * rows = ap (λ n. n * rows) c.width-columns.ensures in
    record {
      within = fits;
      moved = λ before done fresh m.
          let so_far = c.loop-row.invariant.moved before done fresh m in
          let until = more_in (band area row) done in
          let ready : IsFreshIn (block at c.width-columns.result left) until = subst (λ n. IsFreshIn (block at n left) until) (sym c.width-columns.ensures) (fresh_below area at row left done c.requires.ordered is.0 is.1 all fresh) in
          changed-same (shape c.args.lists.now) c.args.p (after_of c.args.stacks.now) c.args.w (g.S.Source.given c.args.source.now) (g.S.Source.fill c.args.source.now) before (g.P.Pixels.kept c.change_rows-row.new.pixels) (more_in (block at c.width-columns.result rows) until) (more_in (band area (row + rows)) done)
          (λ z. done_below area at row rows done z c.requires.ordered is.0 is.1 ∙ ap (λ n. more_in (block at n rows) until z) (sym c.width-columns.ensures))
          (c.change_rows-row.ensures.moved before until ready so_far);
      has = c.change_rows-row.ensures.has ∙ c.loop-row.invariant.has;
      forms = c.change_rows-row.ensures.forms ∙ c.loop-row.invariant.forms;
      moment = c.change_rows-row.ensures.moment ∙ c.loop-row.invariant.moment;
      spare = c.change_rows-row.ensures.spare ∙ c.loop-row.invariant.spare;
      steps = omega (arith, c.change_rows-row.ensures.steps, c.loop-row.invariant.steps, more_steps, wide);
      writes = omega (arith, c.change_rows-row.ensures.writes, c.loop-row.invariant.writes);
    }

pub returns-clause-moved : goal.returns-clause-moved
returns-clause-moved g c before done fresh m =
    let area = c.args.area.now in
    let end : c.loop-row.row ≡ height area = omega (arith, c.loop-row-test.false, c.loop-row.invariant.within, c.height-height.ensures) in
    changed-same (shape c.args.lists.now) c.args.p (after_of c.args.stacks.now) c.args.w (g.S.Source.given c.args.source.now) (g.S.Source.fill c.args.source.now) before (g.P.Pixels.kept c.loop-row.pixels) (more_in (band area c.loop-row.row) done) (λ z. holds area z || done z)
    (λ z. ap (λ b. b || done z) (sym (ap (λ n. holds (band area n) z) end ∙ band_all area z c.requires.ordered.down)))
    (c.loop-row.invariant.moved before done fresh m)

pub returns-clause-steps : goal.returns-clause-steps
returns-clause-steps g c =
    let area = c.args.area.now in
    let end : c.loop-row.row ≡ height area = omega (arith, c.loop-row-test.false, c.loop-row.invariant.within, c.height-height.ensures) in
    let all : width area * c.loop-row.row ≡ width area * height area = ap (λ n. width area * n) end in
    omega (arith, c.loop-row.invariant.steps, all)
