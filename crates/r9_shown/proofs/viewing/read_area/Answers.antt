use Rattle.std.proofs.Common.{◌≡◌, ◌∙◌, ◌+◌, ℕ, get_or, sym, ap, arith, length, subst}
use Rattle.std.proofs.lemmas.Bool.{true≢false}
use Rattle.r9_geom.specs.declared.Point.{Point}
use Rattle.r9_geom.specs.Geometry.{height, holds}
use Rattle.r9_geom.proofs.GeometryLemmas.{band, band_all, band_none, empty_holds}
use Rattle.model_kept.specs.Keeping.{keeping}
use Rattle.r9_plane.specs.Pixels.{number_of}
use Rattle.r9_plane.proofs.PlaneLemmas.{number_tells}
use Rattle.r9_locate.specs.locate.Table.{shape}
use Rattle.r9_shown.specs.Shown.{rows_of}
use Rattle.r9_shown.proofs.Columns.{band_inside, rows_more, some_points, all_number, rows_among}
use Rattle.r9_shown.proofs.Writing.{filled_more, filled_none}
use Rattle.r9_plane.specs.Blocks.{number_in, HasRows}
use Rattle.r9_shown.proofs.viewing.read_area.Goals as goal

pub returns-then-is_empty : goal.returns-then-is_empty
returns-then-is_empty g c p h =
    absurd (true≢false (sym h ∙ empty_holds c.args.r.now p (sym c.is_empty.ensures.exact ∙ c.if-is_empty.true)))

pub read_block-requires-clause-has : goal.read_block-requires-clause-has
read_block-requires-clause-has g c p h =
    ap (g.P.Pixels.has c.args.pixels.now) (sym (c.keeps_all.ensures c.if-keeps_all.true p)) ∙ c.requires.has p h

pub read_block-requires-clause-rows : goal.read_block-requires-clause-rows
read_block-requires-clause-rows g c =
    let r = c.args.r.now in
    let count = length c.args.raws.now in
    subst (λ n. HasRows r 0 n count) (sym c.width.ensures) (rows_among r count c.requires.room)

pub returns-then-keeps_all : goal.returns-then-keeps_all
returns-then-keeps_all g c p h =
    let r = c.args.r.now in
    let number : number_in r 0 c.width.result p ≡ number_of r p = ap (λ n. number_in r 0 n p) c.width.ensures ∙ all_number r p in
    ap (λ m. get_or c.read_block.new.raws m 0) (sym number)
    ∙ c.read_block.ensures.pixels p h
    ∙ ap (g.P.Pixels.kept c.args.pixels.now) (sym (c.keeps_all.ensures c.if-keeps_all.true p))

pub loop-row-init : goal.loop-row-init
loop-row-init g c =
    record {
      within = omega arith;
      filled = filled_none ℕ (number_of c.args.r.now) (λ (p : Point). g.P.Pixels.kept c.args.pixels.now (keeping (shape c.args.lists.now) c.args.i p)) (λ (m : ℕ). get_or c.args.raws.now m 0) (band c.args.r.now 0) (band_none c.args.r.now);
    }

pub band_at-band-requires-clause-some : goal.band_at-band-requires-clause-some
band_at-band-requires-clause-some g c =
    some_points c.args.r.now (sym c.is_empty.ensures.exact ∙ c.if-is_empty.false)

pub band_at-band-requires-clause-row : goal.band_at-band-requires-clause-row
band_at-band-requires-clause-row g c =
    omega (arith, c.loop-row-test.true, c.height-height.ensures)

pub read_band-requires-clause-row : goal.read_band-requires-clause-row
read_band-requires-clause-row g c =
    omega (arith, c.loop-row-test.true, c.height-height.ensures)

pub read_band-requires-clause-room : goal.read_band-requires-clause-room
read_band-requires-clause-room g c =
    omega (arith, c.requires.room, c.loop-row.auto.raws)

pub loop-row-preserved : goal.loop-row-preserved
unfolding shape
loop-row-preserved g c =
    let w = shape c.args.lists.now in
    let i = c.args.i in
    let r = c.args.r.now in
    let row = c.loop-row.row in
    let rows = c.band_at-band.result.rows in
    let is = c.band_at-band.ensures in
    let ok = c.args.lists.now.standing in
    record {
      within = is.most;
      filled =
          filled_more ℕ (number_of c.args.r.now) (λ (p : Point). g.P.Pixels.kept c.args.pixels.now (keeping (shape c.args.lists.now) c.args.i p)) (λ (m : ℕ). get_or c.args.raws.now m 0) (λ (m : ℕ). get_or c.loop-row.raws m 0) (λ (m : ℕ). get_or c.read_band.new.raws m 0) r (band r row) (rows_of r row rows) (band r (row + rows))
          (number_tells r)
          (λ p h. band_inside r (row + rows) p c.requires.ordered is.most h)
          (λ p. rows_more r row rows p)
          c.loop-row.invariant.filled
          (record { at = c.read_band.ensures.pixels; others = c.read_band.ensures.others });
    }

pub returns : goal.returns
returns g c p h =
    let end : c.loop-row.row ≡ height c.args.r.now = omega (arith, c.loop-row-test.false, c.height-height.ensures, c.loop-row.invariant.within) in
    let all : (q : Point) → holds (band c.args.r.now c.loop-row.row) q ≡ holds c.args.r.now q = λ q. ap (λ n. holds (band c.args.r.now n) q) end ∙ band_all c.args.r.now q c.requires.ordered.down in
    c.loop-row.invariant.filled.at p (all p ∙ h)
