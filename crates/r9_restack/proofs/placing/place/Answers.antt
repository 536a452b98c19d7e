use Rattle.std.proofs.Common.{◌≡◌, ◌∙◌, ℕ, ◌+◌, ◌-◌, ◌*◌, ◌<◌, ◌^◌, Bool, true, false, refl, sym, subst, ap, arith, Option}
use Rattle.std.specs.Prelude.{◌&&◌, ◌||◌, not}
use Rattle.std.proofs.lemmas.Bool.{and_parts, false_from_ne_true, false≢true}
use Rattle.std.proofs.lemmas.Int.{ints}
use Rattle.r9_geom.specs.declared.Point.{Point}
use Rattle.r9_geom.specs.declared.Rect.{Rect}
use Rattle.r9_geom.specs.Geometry.{at_min, carried, height, holds, width, IsNear, IsRectNear}
use Rattle.r9_geom.proofs.GeometryLemmas.{band, band_all, band_none, bounds_of, cell_of, height_most, same_point, width_most}
use Rattle.model_forest.specs.World.{image_at}
use Rattle.model_kept.specs.Keeping.{own}
use Rattle.model_kept.specs.Restack.{with_own}
use Rattle.model_kept.proofs.Storing.{carried-back}
use Rattle.r9_locate.specs.locate.Forms.{bits_in, Form, HasBits}
use Rattle.r9_locate.specs.locate.Table.{shape}
use Rattle.r9_shown.specs.Shown.{block}
use Rattle.r9_shown.proofs.Pieces.{bands_more, band_part}
use Rattle.r9_restack.specs.Placing.{comes, shows, with_coming}
use Rattle.r9_restack.specs.Stacks.{after_of}
use Rattle.r9_restack.proofs.Carrying.{held_there, near_rows}
use Rattle.r9_restack.proofs.Changes.{changed-same}
use Rattle.r9_restack.proofs.Orders.{or_cases}
use Rattle.r9_restack.proofs.Parting.{row_begins}
use Rattle.r9_restack.proofs.Placed.{coming_rows}
use Rattle.r9_restack.proofs.Blocked.{block_carried}
use Rattle.r9_restack.proofs.placing.place.Given.{Over}
use Rattle.r9_restack.proofs.placing.place.Goals as goal
use Rattle.r9_restack.proofs.placing.place.Goals.{After-carried-q}

-- the rows that are left are rows of the rectangle, and their points are points of it
in_rows : (g : Over) (c : After-carried-q g) (z : Point) → holds (block c.point_at-x.result c.width-columns.result (c.height-height.result - c.loop-row.row)) z ≡ true → holds c.args.r.now z ≡ true
in_rows g c z h =
    let r = c.args.r.now in
    let left = c.height-height.result - c.loop-row.row in
    let is = row_begins r c.point_at-x.result c.loop-row.row c.point_at-x.ensures in
    band_part r c.point_at-x.result z c.loop-row.row left c.requires.ordered is.0 is.1 (omega (arith, c.height-height.ensures, c.loop-row-test.true)) (ap (λ n. holds (block c.point_at-x.result n left) z) (sym c.width-columns.ensures) ∙ h)

-- where a point of them stands
stands_at : (g : Over) (c : After-carried-q g) (z : Point) → carried z c.point_at-x.result c.carried-q.result ≡ carried z c.args.r.now.min c.args.corner
stands_at g c z =
    let x = ap (λ (p : Point). p.x) c.carried-q.ensures in
    let y = ap (λ (p : Point). p.y) c.carried-q.ensures in
    same_point (carried z c.point_at-x.result c.carried-q.result) (carried z c.args.r.now.min c.args.corner) (omega (arith, ints, x)) (omega (arith, ints, y))

-- a point of the block below, and that of the window
same_block : (g : Over) (c : After-carried-q g) (rows : ℕ) (z : Point) → holds (block c.point_at-x.result (width c.args.r.now) rows) (carried z c.args.corner c.args.r.now.min) ≡ holds (block c.carried-q.result c.width-columns.result rows) z
same_block g c rows z =
    let r = c.args.r.now in
    let x = c.point_at-x.result in
    let q = c.carried-q.result in
    sym (block_carried x q r.min c.args.corner (carried z c.args.corner r.min) (width r) rows c.carried-q.ensures)
    ∙ ap (holds (block q (width r) rows)) (carried-back z c.args.corner r.min)
    ∙ ap (λ m. holds (block q m rows) z) (sym c.width-columns.ensures)

none_wide : (r : Rect) (p : Point) → width r ≡ 0 → holds r p ≡ false
none_wide r p none = false_from_ne_true (holds r p) (λ h. absurd (omega (arith, none, (cell_of r p h).column)))

pub loop-row-init : goal.loop-row-init
loop-row-init g c =
    let world = shape c.args.lists.now in
    let r = c.args.r.now in
    let kept = g.P.Pixels.kept c.args.pixels.now in
    let comings = comes (image_at world c.args.p).r c.args.area.now (after_of c.args.stacks.now) c.args.w in
    record {
      within = omega arith;
      moved = λ before m.
          changed-same world c.args.p (after_of c.args.stacks.now) c.args.w (g.S.Source.given c.args.source.now) (g.S.Source.fill c.args.source.now) (with_own c.args.w (λ x. kept (own c.args.w x)) before) kept (holds c.args.area.now) (λ z. (holds (band r 0) (carried z c.args.corner r.min) && comings z) || holds c.args.area.now z)
          (λ z. ap (λ b. (b && comings z) || holds c.args.area.now z) (band_none r (carried z c.args.corner r.min)))
          m;
      kept = λ z h hid. absurd (false≢true (sym (band_none r z) ∙ h));
      has = refl;
      forms = refl;
      moment = refl;
      spare = refl;
      steps = omega arith;
      writes = refl;
    }

pub point_at-x-requires-clause-row : goal.point_at-x-requires-clause-row
point_at-x-requires-clause-row g c = omega (arith, height_most c.args.r.now c.requires.near c.requires.ordered, c.loop-row.invariant.within)

pub place_rows-row-requires-clause-near : goal.place_rows-row-requires-clause-near
place_rows-row-requires-clause-near g c =
    let left = c.height-height.result - c.loop-row.row in
    subst (λ n. IsRectNear (block c.point_at-x.result n left)) (sym c.width-columns.ensures)
    (near_rows c.args.r.now c.point_at-x.result c.loop-row.row left c.requires.near c.requires.ordered c.point_at-x.ensures (omega (arith, c.height-height.ensures, c.loop-row-test.true)))

pub place_rows-row-requires-clause-stands : goal.place_rows-row-requires-clause-stands
place_rows-row-requires-clause-stands g c z h =
    let now = (goal.at.place_rows-row-requires-clause-stands g c).After-carried-q in
    let r = c.args.r.now in
    let x = c.point_at-x.result in
    let left = c.height-height.result - c.loop-row.row in
    let y = carried z c.args.corner r.min in
    let there : holds (block x c.width-columns.result left) y ≡ true = ap (λ m. holds (block x m left) y) c.width-columns.ensures ∙ same_block g now left z ∙ h in
    subst IsNear (carried-back z c.args.corner r.min) (c.requires.stands y (in_rows g now y there))

pub place_rows-row-requires-clause-columns : goal.place_rows-row-requires-clause-columns
place_rows-row-requires-clause-columns g c = omega (arith, c.width-columns.ensures, width_most c.args.r.now c.requires.near c.requires.ordered)

pub place_rows-row-requires-clause-rows : goal.place_rows-row-requires-clause-rows
place_rows-row-requires-clause-rows g c = omega (arith, c.height-height.ensures, height_most c.args.r.now c.requires.near c.requires.ordered)

pub place_rows-row-requires-clause-apart : goal.place_rows-row-requires-clause-apart
place_rows-row-requires-clause-apart g c = c.stacks_within-near.ensures.apart c.args.w c.requires.stacks.apart

pub place_rows-row-requires-clause-same : goal.place_rows-row-requires-clause-same
place_rows-row-requires-clause-same g c z h =
    let now = (goal.at.place_rows-row-requires-clause-same g c).After-carried-q in
    let r = c.args.r.now in
    let x = c.point_at-x.result in
    let left = c.height-height.result - c.loop-row.row in
    let y = carried z c.args.corner r.min in
    let there : holds (block x c.width-columns.result left) y ≡ true = ap (λ m. holds (block x m left) y) c.width-columns.ensures ∙ same_block g now left z ∙ h in
    c.stacks_within-near.ensures.same z
    (ap (λ (s : Rect). holds s z) c.at_min.ensures
    ∙ ap (holds (at_min r c.args.corner)) (sym (carried-back z c.args.corner r.min))
    ∙ held_there r c.args.corner y (in_rows g now y there))

pub place_rows-row-requires-clause-bits : goal.place_rows-row-requires-clause-bits
place_rows-row-requires-clause-bits g c = subst (HasBits (shape c.args.lists.now)) (sym c.loop-row.invariant.forms) c.requires.bits

pub place_rows-row-requires-clause-given : goal.place_rows-row-requires-clause-given
place_rows-row-requires-clause-given g c z = subst (λ (forms : ℕ → Option Form). g.S.Source.given c.args.source.now z < 2 ^ bits_in forms c.args.p) (sym c.loop-row.invariant.forms) (c.requires.given z)

pub place_rows-row-requires-clause-fill : goal.place_rows-row-requires-clause-fill
place_rows-row-requires-clause-fill g c z = subst (λ (forms : ℕ → Option Form). g.S.Source.fill c.args.source.now z < 2 ^ bits_in forms c.args.p) (sym c.loop-row.invariant.forms) (c.requires.fill z)

pub place_rows-row-requires-clause-own : goal.place_rows-row-requires-clause-own
place_rows-row-requires-clause-own g c z h hid =
    let now = (goal.at.place_rows-row-requires-clause-own g c).After-carried-q in
    ap (λ h. h (own c.args.w z)) c.loop-row.invariant.has
    ∙ c.requires.own z (in_rows g now z h)
    (ap (shows (image_at (shape c.args.lists.now) c.args.p).r (after_of c.args.stacks.now) c.args.w) (sym (stands_at g now z)) ∙ hid)

pub loop-row-preserved : goal.loop-row-preserved
loop-row-preserved g c =
    let now = (goal.at.loop-row-preserved g c).After-carried-q in
    let world = shape c.args.lists.now in
    let r = c.args.r.now in
    let corner = c.args.corner in
    let area = c.args.area.now in
    let row = c.loop-row.row in
    let left = c.height-height.result - row in
    let rows = c.place_rows-row.result in
    let x = c.point_at-x.result in
    let q = c.carried-q.result in
    let n = c.width-columns.result in
    let is = row_begins r x row c.point_at-x.ensures in
    let kept = g.P.Pixels.kept c.place_rows-row.new.pixels in
    let given = g.S.Source.given c.args.source.now in
    let comings = comes (image_at world c.args.p).r area (after_of c.args.stacks.now) c.args.w in
    let until : Point → Bool = λ z. (holds (band r row) (carried z corner r.min) && comings z) || holds area z in
    let more_steps : width r * (row + rows) ≡ width r * row + width r * rows = grind arith in
    let wide : n * rows ≡ width r * rows = ap (λ m. m * rows) c.width-columns.ensures in
    record {
      within = omega (arith, c.place_rows-row.ensures.most, c.height-height.ensures, c.loop-row-test.true);
      moved = λ before m.
          changed-same world c.args.p (after_of c.args.stacks.now) c.args.w given (g.S.Source.fill c.args.source.now) (with_own c.args.w (λ y. kept (own c.args.w y)) before) kept (with_coming (block q n rows) comings until) (λ z. (holds (band r (row + rows)) (carried z corner r.min) && comings z) || holds area z)
          (λ z.
          let y = carried z corner r.min in
          ap (λ b. (b && comings z) || holds area z) (bands_more r x y row rows c.requires.ordered is.0 is.1)
          ∙ coming_rows (holds (block x (width r) rows) y) (holds (band r row) y) (comings z) (holds area z)
          ∙ ap (λ b. (b && comings z) || until z) (same_block g now rows z))
          (c.place_rows-row.ensures.moved before until
          (λ z here seen.
          let fresh : holds (band r row) (carried z corner r.min) ≡ false =
          false_from_ne_true (holds (band r row) (carried z corner r.min))
          (λ above.
          let a = bounds_of (band r row) (carried z corner r.min) above in
          let b = bounds_of (block x (width r) left) (carried z corner r.min) (same_block g now left z ∙ here) in
          absurd (omega (arith, ints, a.bottom, b.top, is.1))) in
          let away : holds area z ≡ false = not_true (holds area z) (and_parts (shows (image_at world c.args.p).r (after_of c.args.stacks.now) c.args.w z) (not (holds area z)) seen).1 in
          λ j. (fresh j && comings z) || away j)
          (c.loop-row.invariant.moved before m));
      kept = λ z h hid.
          or_cases (holds (block x (width r) rows) z) (holds (band r row) z) (sym (bands_more r x z row rows c.requires.ordered is.0 is.1) ∙ h)
          (λ here.
          c.place_rows-row.ensures.kept z (ap (λ m. holds (block x m rows) z) c.width-columns.ensures ∙ here)
          (ap (shows (image_at world c.args.p).r (after_of c.args.stacks.now) c.args.w) (stands_at g now z) ∙ hid))
          (λ above.
          c.place_rows-row.ensures.others z
          (false_from_ne_true (holds (block x n rows) z)
          (λ late.
          let a = bounds_of (band r row) z above in
          let b = bounds_of (block x n rows) z late in
          absurd (omega (arith, ints, a.bottom, b.top, is.1))))
          ∙ c.loop-row.invariant.kept z above hid);
      has = c.place_rows-row.ensures.has ∙ c.loop-row.invariant.has;
      forms = c.place_rows-row.ensures.forms ∙ c.loop-row.invariant.forms;
      moment = c.place_rows-row.ensures.moment ∙ c.loop-row.invariant.moment;
      spare = c.place_rows-row.ensures.spare ∙ c.loop-row.invariant.spare;
      steps = omega (arith, c.place_rows-row.ensures.steps, c.loop-row.invariant.steps, more_steps, wide);
      writes = omega (arith, c.place_rows-row.ensures.writes, c.loop-row.invariant.writes);
    }
  where
    not_true : (b : Bool) → not b ≡ true → b ≡ false
    not_true true e = absurd (false≢true e)
    not_true false e = refl

pub returns-clause-moved : goal.returns-clause-moved
returns-clause-moved g c before m =
    let world = shape c.args.lists.now in
    let r = c.args.r.now in
    let kept = g.P.Pixels.kept c.loop-row.pixels in
    let comings = comes (image_at world c.args.p).r c.args.area.now (after_of c.args.stacks.now) c.args.w in
    let end : c.loop-row.row ≡ height r = omega (arith, c.loop-row-test.false, c.loop-row.invariant.within, c.height-height.ensures) in
    changed-same world c.args.p (after_of c.args.stacks.now) c.args.w (g.S.Source.given c.args.source.now) (g.S.Source.fill c.args.source.now) (with_own c.args.w (λ x. kept (own c.args.w x)) before) kept (λ z. (holds (band r c.loop-row.row) (carried z c.args.corner r.min) && comings z) || holds c.args.area.now z) (λ z. (holds r (carried z c.args.corner r.min) && comings z) || holds c.args.area.now z)
    (λ z. ap (λ b. (b && comings z) || holds c.args.area.now z) (sym (ap (λ n. holds (band r n) (carried z c.args.corner r.min)) end ∙ band_all r (carried z c.args.corner r.min) c.requires.ordered.down)))
    (c.loop-row.invariant.moved before m)

pub returns-clause-kept : goal.returns-clause-kept
returns-clause-kept g c z h hid =
    let r = c.args.r.now in
    let end : c.loop-row.row ≡ height r = omega (arith, c.loop-row-test.false, c.loop-row.invariant.within, c.height-height.ensures) in
    c.loop-row.invariant.kept z (ap (λ n. holds (band r n) z) end ∙ band_all r z c.requires.ordered.down ∙ h) hid

pub returns-clause-steps : goal.returns-clause-steps
returns-clause-steps g c =
    let r = c.args.r.now in
    let end : c.loop-row.row ≡ height r = omega (arith, c.loop-row-test.false, c.loop-row.invariant.within, c.height-height.ensures) in
    let all : width r * c.loop-row.row ≡ width r * height r = ap (λ n. width r * n) end in
    omega (arith, all, c.loop-row.invariant.steps)

pub returns-then-columns-eq0-clause-moved : goal.returns-then-columns-eq0-clause-moved
returns-then-columns-eq0-clause-moved g c before m =
    let world = shape c.args.lists.now in
    let r = c.args.r.now in
    let kept = g.P.Pixels.kept c.args.pixels.now in
    let comings = comes (image_at world c.args.p).r c.args.area.now (after_of c.args.stacks.now) c.args.w in
    let none : width r ≡ 0 = omega (arith, c.if-columns-eq0.true, c.width-columns.ensures) in
    changed-same world c.args.p (after_of c.args.stacks.now) c.args.w (g.S.Source.given c.args.source.now) (g.S.Source.fill c.args.source.now) (with_own c.args.w (λ x. kept (own c.args.w x)) before) kept (holds c.args.area.now) (λ z. (holds r (carried z c.args.corner r.min) && comings z) || holds c.args.area.now z)
    (λ z. ap (λ b. (b && comings z) || holds c.args.area.now z) (none_wide r (carried z c.args.corner r.min) none))
    m
