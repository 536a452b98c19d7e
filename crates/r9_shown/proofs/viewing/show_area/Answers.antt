use Rattle.std.proofs.Common.{◌≡◌, ◌∙◌, ◌+◌, ◌*◌, true, refl, sym, ap, subst, arith}
use Rattle.std.proofs.lemmas.Bool.{true≢false}
use Rattle.r9_geom.specs.declared.Point.{Point}
use Rattle.r9_geom.specs.Geometry.{area_of, carried, height, holds, width, at_min, IsOrdered, IsRectNear}
use Rattle.r9_geom.proofs.GeometryLemmas.{band, band_all, band_none, empty_holds, holds_from}
use Rattle.model_kept.specs.Keeping.{keeping, own, Place}
use Rattle.r9_locate.specs.locate.Forms.{HasBits}
use Rattle.r9_locate.specs.locate.Table.{shape}
use Rattle.r9_locate.proofs.locate.Apart.{own-apart}
use Rattle.r9_shown.specs.Shown.{rows_of}
use Rattle.r9_shown.proofs.Columns.{band_inside, empty_area, rows_more, some_points}
use Rattle.r9_shown.proofs.Parts.{kept_apart}
use Rattle.r9_shown.proofs.Writing.{filled_more, filled_none}
use Rattle.std.proofs.lemmas.Int.{ints}
use Rattle.r9_geom.specs.declared.Rect.{Rect}
use Rattle.model_forest.specs.World.{image_at}
use Rattle.model_forest.proofs.Changes.{live-standing}
use Rattle.r9_plane.proofs.Shifts.{height-at_min, holds-at_min, ordered-at_min, width-at_min}
use Rattle.r9_shown.proofs.Carried.{carried-self, near_part}
use Rattle.r9_shown.proofs.Keepers.{carried_through}
use Rattle.r9_shown.proofs.viewing.show_area.Goals as goal

pub returns-then-is_empty-clause-at : goal.returns-then-is_empty-clause-at
returns-then-is_empty-clause-at g c p h =
    absurd (true≢false (sym h ∙ empty_holds c.args.r.now p (sym c.is_empty.ensures.exact ∙ c.if-is_empty.true)))

pub returns-then-is_empty-clause-steps : goal.returns-then-is_empty-clause-steps
returns-then-is_empty-clause-steps g c =
    let none = empty_area c.args.r.now c.requires.ordered (sym c.is_empty.ensures.exact ∙ c.if-is_empty.true) in
    omega (arith, none)

pub carry_block-requires-clause-near : goal.carry_block-requires-clause-near
unfolding shape
carry_block-requires-clause-near g c =
    let w = shape c.args.lists.now in
    let r = c.args.r.now in
    let at = c.args.at in
    let some = some_points r (sym c.is_empty.ensures.exact ∙ c.if-is_empty.false) in
    let corner : holds (at_min r at) at ≡ true =
    holds_from (at_min r at) at (record {
      left = omega (arith, ints);
      right = omega (arith, ints, some.across);
      top = omega (arith, ints);
      bottom = omega (arith, ints, some.down);
    }) in
    subst IsRectNear (sym c.at_min.ensures)
    (near_part (at_min r at) (image_at w c.args.from).r at (c.args.lists.now.near c.args.from (live-standing w c.args.from c.args.i c.requires.stands)).0 corner
    (λ x h.
    ap (holds (image_at w c.args.from).r) (sym (carried_through x at r.min at ∙ carried-self x at))
    ∙ c.requires.of_window (carried x at r.min) (sym (holds-at_min r at x) ∙ h)))

pub carry_block-requires-clause-ordered : goal.carry_block-requires-clause-ordered
carry_block-requires-clause-ordered g c = subst IsOrdered (sym c.at_min.ensures) (ordered-at_min c.args.r.now c.args.at c.requires.ordered)

pub carry_block-requires-clause-apart : goal.carry_block-requires-clause-apart
unfolding shape
carry_block-requires-clause-apart g c same =
    let q = c.args.at in
    own-apart (shape c.args.lists.now) c.args.lists.now.standing c.args.i c.args.from q q c.requires.live c.requires.stands
    (ap (λ m. own m q) same ∙ sym (c.keeps_all.ensures c.if-keeps_all.true q))

pub carry_block-requires-clause-had : goal.carry_block-requires-clause-had
carry_block-requires-clause-had g c x h =
    let r = c.args.r.now in
    let at = c.args.at in
    let z : Point = carried x at r.min in
    let inside : holds r z ≡ true = sym (holds-at_min r at x) ∙ ap (λ (s : Rect). holds s x) (sym c.at_min.ensures) ∙ h in
    let back : carried z r.min at ≡ x = carried_through x at r.min at ∙ carried-self x at in
    ap (λ y. g.P.Pixels.has c.args.pixels.now (own c.args.from y)) (sym back) ∙ c.requires.had z inside

pub carry_block-requires-clause-has : goal.carry_block-requires-clause-has
carry_block-requires-clause-has g c x h =
    let r = c.args.r.now in
    let at = c.args.at in
    let z : Point = carried x at r.min in
    let inside : holds r z ≡ true = sym (holds-at_min r at x) ∙ ap (λ (s : Rect). holds s x) (sym c.at_min.ensures) ∙ h in
    ap (λ (s : Rect). g.P.Pixels.has c.args.pixels.now (own c.args.i (carried x s.min r.min))) c.at_min.ensures
    ∙ ap (g.P.Pixels.has c.args.pixels.now) (sym (c.keeps_all.ensures c.if-keeps_all.true z))
    ∙ c.requires.has z inside

pub carry_block-requires-clause-bits : goal.carry_block-requires-clause-bits
carry_block-requires-clause-bits g c =
    c.requires.bits c.args.from c.args.i (live-standing (shape c.args.lists.now) c.args.from c.args.i c.requires.stands) c.requires.stands

pub returns-then-keeps_all-clause-at : goal.returns-then-keeps_all-clause-at
returns-then-keeps_all-clause-at g c q h =
    let r = c.args.r.now in
    let at = c.args.at in
    let after = g.P.Pixels.kept c.carry_block.new.self in
    let x : Point = carried q r.min at in
    let here : carried x at r.min ≡ q = carried_through q r.min at r.min ∙ carried-self q r.min in
    let inside : holds c.at_min.result x ≡ true = ap (λ (s : Rect). holds s x) c.at_min.ensures ∙ holds-at_min r at x ∙ ap (holds r) here ∙ h in
    ap after (c.keeps_all.ensures c.if-keeps_all.true q)
    ∙ ap (λ y. after (own c.args.i y)) (sym here)
    ∙ ap (λ (s : Rect). after (own c.args.i (carried x s.min r.min))) (sym c.at_min.ensures)
    ∙ c.carry_block.ensures.at x inside

pub returns-then-keeps_all-clause-others : goal.returns-then-keeps_all-clause-others
returns-then-keeps_all-clause-others g c place apart =
    let r = c.args.r.now in
    let at = c.args.at in
    c.carry_block.ensures.others place
    (λ x h same.
    let z : Point = carried x at r.min in
    let inside : holds r z ≡ true = sym (holds-at_min r at x) ∙ ap (λ (s : Rect). holds s x) (sym c.at_min.ensures) ∙ h in
    apart z inside (same ∙ ap (λ (s : Rect). own c.args.i (carried x s.min r.min)) c.at_min.ensures ∙ sym (c.keeps_all.ensures c.if-keeps_all.true z)))

pub returns-then-keeps_all-clause-steps : goal.returns-then-keeps_all-clause-steps
returns-then-keeps_all-clause-steps g c =
    let r = c.args.r.now in
    let at = c.args.at in
    let size : area_of c.at_min.result ≡ area_of r = ap area_of c.at_min.ensures ∙ (λ j. width-at_min r at j * height-at_min r at j) in
    omega (arith, c.carry_block.ensures.steps, size)

pub loop-row-init : goal.loop-row-init
loop-row-init g c =
    record {
      within = omega arith;
      filled = filled_none Place (keeping (shape c.args.lists.now) c.args.i) (λ (q : Point). g.P.Pixels.kept c.args.pixels.now (own c.args.from (carried q c.args.r.now.min c.args.at))) (g.P.Pixels.kept c.args.pixels.now) (band c.args.r.now 0) (band_none c.args.r.now);
      has = refl;
      forms = refl;
      moment = refl;
      spare = refl;
      steps = omega arith;
      writes = refl;
    }

pub band_at-band-requires-clause-some : goal.band_at-band-requires-clause-some
band_at-band-requires-clause-some g c =
    some_points c.args.r.now (sym c.is_empty.ensures.exact ∙ c.if-is_empty.false)

pub band_at-band-requires-clause-row : goal.band_at-band-requires-clause-row
band_at-band-requires-clause-row g c =
    omega (arith, c.loop-row-test.true, c.height-height.ensures)

pub show_band-requires-clause-row : goal.show_band-requires-clause-row
show_band-requires-clause-row g c =
    omega (arith, c.loop-row-test.true, c.height-height.ensures)

pub show_band-requires-clause-had : goal.show_band-requires-clause-had
show_band-requires-clause-had g c p h =
    ap (λ has. has (own c.args.from (carried p c.args.r.now.min c.args.at))) c.loop-row.invariant.has ∙ c.requires.had p h

pub show_band-requires-clause-has : goal.show_band-requires-clause-has
show_band-requires-clause-has g c p h =
    ap (λ has. has (keeping (shape c.args.lists.now) c.args.i p)) c.loop-row.invariant.has ∙ c.requires.has p h

pub show_band-requires-clause-bits : goal.show_band-requires-clause-bits
show_band-requires-clause-bits g c =
    subst (HasBits (shape c.args.lists.now)) (sym c.loop-row.invariant.forms) c.requires.bits

pub loop-row-preserved : goal.loop-row-preserved
unfolding shape
loop-row-preserved g c =
    let w = shape c.args.lists.now in
    let i = c.args.i in
    let r = c.args.r.now in
    let row = c.loop-row.row in
    let rows = c.band_at-band.result.rows in
    let is = c.band_at-band.ensures in
    let ok = c.args.lists.now.standing in
    let more : width r * (row + rows) ≡ width r * row + width r * rows = grind arith in
    record {
      within = is.most;
      filled =
          filled_more Place (keeping (shape c.args.lists.now) c.args.i) (λ (q : Point). g.P.Pixels.kept c.args.pixels.now (own c.args.from (carried q c.args.r.now.min c.args.at))) (g.P.Pixels.kept c.args.pixels.now) (g.P.Pixels.kept c.loop-row.pixels) (g.P.Pixels.kept c.show_band.new.pixels) r (band r row) (rows_of r row rows) (band r (row + rows))
          (kept_apart (shape c.args.lists.now) c.args.lists.now.standing c.args.i c.requires.live c.args.r.now)
          (λ p h. band_inside r (row + rows) p c.requires.ordered is.most h)
          (λ p. rows_more r row rows p)
          c.loop-row.invariant.filled
          (record {
            at = λ z h.
                c.show_band.ensures.at z h
                ∙ c.loop-row.invariant.filled.others (own c.args.from (carried z r.min c.args.at)) (λ a k. own-apart w ok i c.args.from (carried z r.min c.args.at) a c.requires.live c.requires.stands);
            others = c.show_band.ensures.others;
          });
      has = c.show_band.ensures.has ∙ c.loop-row.invariant.has;
      forms = c.show_band.ensures.forms ∙ c.loop-row.invariant.forms;
      moment = c.show_band.ensures.moment ∙ c.loop-row.invariant.moment;
      spare = c.show_band.ensures.spare ∙ c.loop-row.invariant.spare;
      steps = omega (arith, c.show_band.ensures.steps, c.loop-row.invariant.steps, more);
      writes = omega (arith, c.show_band.ensures.writes, c.loop-row.invariant.writes);
    }

pub returns-clause-at : goal.returns-clause-at
returns-clause-at g c p h =
    let end : c.loop-row.row ≡ height c.args.r.now = omega (arith, c.loop-row-test.false, c.height-height.ensures, c.loop-row.invariant.within) in
    let all : (q : Point) → holds (band c.args.r.now c.loop-row.row) q ≡ holds c.args.r.now q = λ q. ap (λ n. holds (band c.args.r.now n) q) end ∙ band_all c.args.r.now q c.requires.ordered.down in
    c.loop-row.invariant.filled.at p (all p ∙ h)

pub returns-clause-others : goal.returns-clause-others
returns-clause-others g c place apart =
    let end : c.loop-row.row ≡ height c.args.r.now = omega (arith, c.loop-row-test.false, c.height-height.ensures, c.loop-row.invariant.within) in
    let all : (q : Point) → holds (band c.args.r.now c.loop-row.row) q ≡ holds c.args.r.now q = λ q. ap (λ n. holds (band c.args.r.now n) q) end ∙ band_all c.args.r.now q c.requires.ordered.down in
    c.loop-row.invariant.filled.others place (λ p h. apart p (sym (all p) ∙ h))

pub returns-clause-steps : goal.returns-clause-steps
returns-clause-steps g c =
    let end : c.loop-row.row ≡ height c.args.r.now = omega (arith, c.loop-row-test.false, c.height-height.ensures, c.loop-row.invariant.within) in
    let size : width c.args.r.now * c.loop-row.row ≡ area_of c.args.r.now = ap (λ n. width c.args.r.now * n) end in
    omega (arith, c.loop-row.invariant.steps, size)
