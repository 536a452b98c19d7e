use Rattle.std.proofs.Common.{◌≡◌, ◌∙◌, ◌+◌, ◌*◌, refl, sym, ap, subst, arith}
use Rattle.std.proofs.lemmas.Bool.{true≢false}
use Rattle.r9_geom.specs.declared.Point.{Point}
use Rattle.r9_geom.specs.Geometry.{area_of, carried, height, holds, width}
use Rattle.r9_geom.proofs.GeometryLemmas.{band, band_all, band_none, empty_holds}
use Rattle.model_kept.specs.Keeping.{keeping, own, Place}
use Rattle.r9_locate.specs.locate.Forms.{HasBits}
use Rattle.r9_locate.specs.locate.Table.{shape}
use Rattle.r9_locate.proofs.locate.Apart.{own-apart}
use Rattle.r9_shown.specs.Shown.{rows_of}
use Rattle.r9_shown.proofs.Columns.{band_inside, empty_area, rows_more, some_points}
use Rattle.r9_shown.proofs.Parts.{own_target}
use Rattle.r9_shown.proofs.Writing.{filled_more, filled_none}
use Rattle.model_forest.proofs.Changes.{live-standing}
use Rattle.r9_shown.proofs.viewing.save_area.Goals as goal

pub returns-then-is_empty-clause-at : goal.returns-then-is_empty-clause-at
returns-then-is_empty-clause-at g c p h =
    absurd (true≢false (sym h ∙ empty_holds c.args.r.now p (sym c.is_empty.ensures.exact ∙ c.if-is_empty.true)))

pub returns-then-is_empty-clause-steps : goal.returns-then-is_empty-clause-steps
returns-then-is_empty-clause-steps g c =
    let none = empty_area c.args.r.now c.requires.ordered (sym c.is_empty.ensures.exact ∙ c.if-is_empty.true) in
    omega (arith, none)

pub carry_block-requires-clause-apart : goal.carry_block-requires-clause-apart
unfolding shape
carry_block-requires-clause-apart g c same =
    let q = c.args.p in
    own-apart (shape c.args.lists.now) c.args.lists.now.standing c.args.i c.args.to q q c.requires.live c.requires.stands
    (ap (λ m. own m q) (sym same) ∙ sym (c.keeps_all.ensures c.if-keeps_all.true q))

pub carry_block-requires-clause-had : goal.carry_block-requires-clause-had
carry_block-requires-clause-had g c q h =
    ap (g.P.Pixels.has c.args.pixels.now) (sym (c.keeps_all.ensures c.if-keeps_all.true q)) ∙ c.requires.had q h

pub carry_block-requires-clause-bits : goal.carry_block-requires-clause-bits
carry_block-requires-clause-bits g c =
    sym (c.requires.bits c.args.to c.args.i (live-standing (shape c.args.lists.now) c.args.to c.args.i c.requires.stands) c.requires.stands)

pub returns-then-keeps_all-clause-at : goal.returns-then-keeps_all-clause-at
returns-then-keeps_all-clause-at g c q h =
    c.carry_block.ensures.at q h ∙ ap (g.P.Pixels.kept c.args.pixels.now) (sym (c.keeps_all.ensures c.if-keeps_all.true q))

pub loop-row-init : goal.loop-row-init
loop-row-init g c =
    record {
      within = omega arith;
      filled = filled_none Place (λ (q : Point). own c.args.to (carried q c.args.r.now.min c.args.p)) (λ (q : Point). g.P.Pixels.kept c.args.pixels.now (keeping (shape c.args.lists.now) c.args.i q)) (g.P.Pixels.kept c.args.pixels.now) (band c.args.r.now 0) (band_none c.args.r.now);
      has = refl;
      forms = refl;
      moment = refl;
      spare = refl;
      steps = omega arith;
      writes = refl;
    }

pub band_at-band-requires-clause-some : goal.band_at-band-requires-clause-some
band_at-band-requires-clause-some g c =
    some_points c.args.r.now (sym c.is_empty.ensures.exact ∙ c.if-is_empty.false)

pub band_at-band-requires-clause-row : goal.band_at-band-requires-clause-row
band_at-band-requires-clause-row g c =
    omega (arith, c.loop-row-test.true, c.height-height.ensures)

pub save_band-requires-clause-row : goal.save_band-requires-clause-row
save_band-requires-clause-row g c =
    omega (arith, c.loop-row-test.true, c.height-height.ensures)

pub save_band-requires-clause-had : goal.save_band-requires-clause-had
save_band-requires-clause-had g c p h =
    ap (λ has. has (keeping (shape c.args.lists.now) c.args.i p)) c.loop-row.invariant.has ∙ c.requires.had p h

pub save_band-requires-clause-has : goal.save_band-requires-clause-has
save_band-requires-clause-has g c p h =
    ap (λ has. has (own c.args.to (carried p c.args.r.now.min c.args.p))) c.loop-row.invariant.has ∙ c.requires.has p h

pub save_band-requires-clause-bits : goal.save_band-requires-clause-bits
save_band-requires-clause-bits g c =
    subst (HasBits (shape c.args.lists.now)) (sym c.loop-row.invariant.forms) c.requires.bits

pub loop-row-preserved : goal.loop-row-preserved
unfolding shape
loop-row-preserved g c =
    let w = shape c.args.lists.now in
    let i = c.args.i in
    let r = c.args.r.now in
    let row = c.loop-row.row in
    let rows = c.band_at-band.result.rows in
    let is = c.band_at-band.ensures in
    let ok = c.args.lists.now.standing in
    let more : width r * (row + rows) ≡ width r * row + width r * rows = grind arith in
    record {
      within = is.most;
      filled =
          filled_more Place (λ (q : Point). own c.args.to (carried q c.args.r.now.min c.args.p)) (λ (q : Point). g.P.Pixels.kept c.args.pixels.now (keeping (shape c.args.lists.now) c.args.i q)) (g.P.Pixels.kept c.args.pixels.now) (g.P.Pixels.kept c.loop-row.pixels) (g.P.Pixels.kept c.save_band.new.pixels) r (band r row) (rows_of r row rows) (band r (row + rows))
          (λ a b h k same. own_target c.args.r.now.min c.args.p c.args.to a b same)
          (λ p h. band_inside r (row + rows) p c.requires.ordered is.most h)
          (λ p. rows_more r row rows p)
          c.loop-row.invariant.filled
          (record {
            at = λ z h.
                c.save_band.ensures.at z h
                ∙ c.loop-row.invariant.filled.others (keeping w i z) (λ a k same. own-apart w ok i c.args.to (carried a r.min c.args.p) z c.requires.live c.requires.stands (sym same));
            others = c.save_band.ensures.others;
          });
      has = c.save_band.ensures.has ∙ c.loop-row.invariant.has;
      forms = c.save_band.ensures.forms ∙ c.loop-row.invariant.forms;
      moment = c.save_band.ensures.moment ∙ c.loop-row.invariant.moment;
      spare = c.save_band.ensures.spare ∙ c.loop-row.invariant.spare;
      steps = omega (arith, c.save_band.ensures.steps, c.loop-row.invariant.steps, more);
      writes = omega (arith, c.save_band.ensures.writes, c.loop-row.invariant.writes);
    }

pub returns-clause-at : goal.returns-clause-at
returns-clause-at g c p h =
    let end : c.loop-row.row ≡ height c.args.r.now = omega (arith, c.loop-row-test.false, c.height-height.ensures, c.loop-row.invariant.within) in
    let all : (q : Point) → holds (band c.args.r.now c.loop-row.row) q ≡ holds c.args.r.now q = λ q. ap (λ n. holds (band c.args.r.now n) q) end ∙ band_all c.args.r.now q c.requires.ordered.down in
    c.loop-row.invariant.filled.at p (all p ∙ h)

pub returns-clause-others : goal.returns-clause-others
returns-clause-others g c place apart =
    let end : c.loop-row.row ≡ height c.args.r.now = omega (arith, c.loop-row-test.false, c.height-height.ensures, c.loop-row.invariant.within) in
    let all : (q : Point) → holds (band c.args.r.now c.loop-row.row) q ≡ holds c.args.r.now q = λ q. ap (λ n. holds (band c.args.r.now n) q) end ∙ band_all c.args.r.now q c.requires.ordered.down in
    c.loop-row.invariant.filled.others place (λ p h. apart p (sym (all p) ∙ h))

pub returns-clause-steps : goal.returns-clause-steps
returns-clause-steps g c =
    let end : c.loop-row.row ≡ height c.args.r.now = omega (arith, c.loop-row-test.false, c.height-height.ensures, c.loop-row.invariant.within) in
    let size : width c.args.r.now * c.loop-row.row ≡ area_of c.args.r.now = ap (λ n. width c.args.r.now * n) end in
    omega (arith, c.loop-row.invariant.steps, size)
