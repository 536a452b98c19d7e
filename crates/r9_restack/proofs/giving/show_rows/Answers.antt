use Rattle.std.proofs.Common.{◌≡◌, ◌∙◌, ℕ, ◌+◌, ◌*◌, ◌<◌, ◌^◌, Option, true, refl, sym, subst, ap, arith}
use Rattle.std.specs.Prelude.{◌||◌}
use Rattle.std.proofs.lemmas.Bool.{false≢true, or_left, or_right}
use Rattle.std.proofs.lemmas.Int.{ints}
use Rattle.r9_geom.specs.declared.Point.{Point}
use Rattle.r9_geom.specs.Geometry.{carried, height, holds, strip, width, IsNear}
use Rattle.r9_geom.proofs.GeometryLemmas.{band, band_all, band_more, band_none, bounds_of, width_most}
use Rattle.r9_plane.specs.Pixels.{along}
use Rattle.r9_plane.proofs.PlaneLemmas.{along_holds}
use Rattle.model_forest.specs.World.{image_at}
use Rattle.model_kept.specs.Keeping.{keeping}
use Rattle.r9_locate.specs.locate.Forms.{bits_in, Form, HasBits}
use Rattle.r9_locate.specs.locate.Table.{shape}
use Rattle.r9_locate.proofs.locate.Apart.{keeping-injective}
use Rattle.r9_locate.proofs.locate.Locating.{strip_at}
use Rattle.r9_shown.proofs.Pieces.{band_part, corner_in}
use Rattle.r9_restack.specs.Giving.{pixels_of}
use Rattle.r9_restack.proofs.Carrying.{row_carried, row_start}
use Rattle.r9_restack.proofs.Orders.{or_cases}
use Rattle.r9_restack.proofs.Parting.{row_begins}
use Rattle.r9_restack.proofs.giving.show_rows.Given.{Over}
use Rattle.r9_restack.proofs.giving.show_rows.Goals as goal
use Rattle.r9_restack.proofs.giving.show_rows.Goals.{After-down}

pub loop-row-init : goal.loop-row-init
loop-row-init g c = record {
  at = λ z h. absurd (false≢true (sym (band_none c.args.r.now z) ∙ h));
  others = λ place apart. refl;
  has = refl;
  forms = refl;
  moment = refl;
  spare = refl;
  steps = omega arith;
  writes = refl;
}

-- points of the row are points of the rectangle
in_row : (g : Over) (c : After-down g) (z : Point) → holds (strip c.point_at-to.result c.width-columns.result) z ≡ true → holds c.args.r.now z ≡ true
in_row g c z h =
    let r = c.args.r.now in
    let is = row_begins r c.point_at-to.result c.loop-row.row c.point_at-to.ensures in
    band_part r c.point_at-to.result z c.loop-row.row 1 c.requires.ordered is.0 is.1 (omega (arith, c.loop-row-test.true, c.height-row-end.ensures))
    (ap (λ n. holds (strip c.point_at-to.result n) z) (sym c.width-columns.ensures) ∙ h)

pub show_row-requires-clause-at : goal.show_row-requires-clause-at
show_row-requires-clause-at g c some =
    let now = (goal.at.show_row-requires-clause-at g c).After-down in
    let r = c.args.r.now in
    let to = c.point_at-to.result in
    let first : holds (strip to c.width-columns.result) to ≡ true = corner_in to c.width-columns.result 1 some (omega arith) in
    subst IsNear
    (ap (λ z. carried z r.min c.args.at) c.point_at-to.ensures ∙ sym (row_start r c.args.at c.loop-row.row) ∙ sym c.down.ensures)
    (c.requires.points to (in_row g now to first))

pub show_row-requires-clause-width : goal.show_row-requires-clause-width
show_row-requires-clause-width g c = omega (arith, c.width-columns.ensures, width_most c.args.r.now c.requires.near c.requires.ordered)

pub show_row-requires-clause-inside : goal.show_row-requires-clause-inside
show_row-requires-clause-inside g c z h = c.requires.inside z (in_row g (goal.at.show_row-requires-clause-inside g c).After-down z h)

pub show_row-requires-clause-has : goal.show_row-requires-clause-has
show_row-requires-clause-has g c k below =
    let z = along c.point_at-to.result k in
    ap (λ h. h (keeping (shape c.args.lists.now) c.args.p z)) c.loop-row.invariant.has
    ∙ c.requires.has z (in_row g (goal.at.show_row-requires-clause-has g c).After-down z (along_holds c.point_at-to.result c.width-columns.result k below))

pub show_row-requires-clause-bits : goal.show_row-requires-clause-bits
show_row-requires-clause-bits g c = subst (HasBits (shape c.args.lists.now)) (sym c.loop-row.invariant.forms) c.requires.bits

pub show_row-requires-clause-below : goal.show_row-requires-clause-below
show_row-requires-clause-below g c z = subst (λ (forms : ℕ → Option Form). pixels_of (g.S.Source.given c.args.source.now) (g.S.Source.fill c.args.source.now) c.args.kind z < 2 ^ bits_in forms c.args.p) (sym c.loop-row.invariant.forms) (c.requires.below z)

pub loop-row-preserved : goal.loop-row-preserved
unfolding shape
loop-row-preserved g c =
    let world = shape c.args.lists.now in
    let p = c.args.p in
    let r = c.args.r.now in
    let row = c.loop-row.row in
    let to = c.point_at-to.result in
    let n = c.width-columns.result in
    let kept = g.P.Pixels.kept c.show_row.new.pixels in
    let pixels = pixels_of (g.S.Source.given c.args.source.now) (g.S.Source.fill c.args.source.now) c.args.kind in
    let is = row_begins r to row c.point_at-to.ensures in
    let split : (z : Point) → holds (band r (row + 1)) z ≡ (holds (strip to n) z || holds (band r row) z) = λ z.
    band_more r to z row c.requires.ordered is.0 is.1 ∙ ap (λ m. holds (strip to m) z || holds (band r row) z) (sym c.width-columns.ensures) in
    let more_steps : width r * (row + 1) ≡ width r * row + width r = grind arith in
    record {
      at = λ z h.
          or_cases (holds (strip to n) z) (holds (band r row) z) (sym (split z) ∙ h)
          (λ here.
          let found = strip_at to z n here in
          let there : along c.down.result found.0 ≡ carried z r.min c.args.at =
          ap (λ q. along q found.0) c.down.ensures ∙ row_carried r c.args.at row found.0 ∙ ap (λ q. carried (along q found.0) r.min c.args.at) (sym c.point_at-to.ensures) ∙ ap (λ q. carried q r.min c.args.at) (sym found.2) in
          ap (λ q. kept (keeping world p q)) found.2 ∙ c.show_row.ensures.at found.0 found.1 ∙ ap pixels there)
          (λ above.
          c.show_row.ensures.others (keeping world p z)
          (λ k lower same.
          let one : z ≡ along to k = keeping-injective world c.args.lists.now.standing (image_at world p).depth p z (along to k) c.requires.live same in
          let y = ap (λ (q : Point). q.y) one in
          let b = bounds_of (band r row) z above in
          absurd (omega (arith, ints, y, is.1, b.bottom)))
          ∙ c.loop-row.invariant.at z above);
      others = λ place apart.
          c.show_row.ensures.others place
          (λ k lower same. apart (along to k) (split (along to k) ∙ or_left (holds (strip to n) (along to k)) (holds (band r row) (along to k)) (along_holds to n k lower)) same)
          ∙ c.loop-row.invariant.others place (λ z above. apart z (split z ∙ or_right (holds (strip to n) z) (holds (band r row) z) above));
      has = c.show_row.ensures.has ∙ c.loop-row.invariant.has;
      forms = c.show_row.ensures.forms ∙ c.loop-row.invariant.forms;
      moment = c.show_row.ensures.moment ∙ c.loop-row.invariant.moment;
      spare = c.show_row.ensures.spare ∙ c.loop-row.invariant.spare;
      steps = omega (arith, c.show_row.ensures.steps, c.loop-row.invariant.steps, more_steps, c.width-columns.ensures);
      writes = omega (arith, c.show_row.ensures.writes, c.loop-row.invariant.writes);
    }

pub returns-clause-at : goal.returns-clause-at
returns-clause-at g c z h =
    let r = c.args.r.now in
    let end : c.loop-row.row ≡ height r = omega (arith, c.loop-row-test.false, c.loop-row.auto.row-end, c.height-row-end.ensures) in
    c.loop-row.invariant.at z (ap (λ n. holds (band r n) z) end ∙ band_all r z c.requires.ordered.down ∙ h)

pub returns-clause-others : goal.returns-clause-others
returns-clause-others g c place apart =
    let r = c.args.r.now in
    let end : c.loop-row.row ≡ height r = omega (arith, c.loop-row-test.false, c.loop-row.auto.row-end, c.height-row-end.ensures) in
    c.loop-row.invariant.others place (λ z h. apart z (sym (ap (λ n. holds (band r n) z) end ∙ band_all r z c.requires.ordered.down) ∙ h))

pub returns-clause-steps : goal.returns-clause-steps
returns-clause-steps g c =
    let r = c.args.r.now in
    let end : c.loop-row.row ≡ height r = omega (arith, c.loop-row-test.false, c.loop-row.auto.row-end, c.height-row-end.ensures) in
    let all : width r * c.loop-row.row ≡ width r * height r = ap (λ n. width r * n) end in
    omega (arith, c.loop-row.invariant.steps, all)
