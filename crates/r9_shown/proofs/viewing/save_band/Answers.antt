use Rattle.std.proofs.Common.{◌≡◌, ◌∙◌, ◌+◌, ◌*◌, true, refl, sym, ap, subst, arith}
use Rattle.r9_geom.specs.declared.Point.{Point}
use Rattle.r9_geom.specs.declared.Rect.{Rect}
use Rattle.r9_geom.specs.Geometry.{area_of, carried, holds, point_at, width, IsOrdered, IsRectNear}
use Rattle.r9_geom.proofs.GeometryLemmas.{height_most, width_most}
use Rattle.model_forest.proofs.Changes.{live-standing}
use Rattle.model_kept.specs.Keeping.{keeping, own, Place}
use Rattle.r9_locate.specs.locate.Forms.{bits_in}
use Rattle.r9_locate.specs.locate.Table.{shape}
use Rattle.r9_locate.proofs.locate.Apart.{own-apart}
use Rattle.r9_shown.specs.Shown.{block}
use Rattle.r9_shown.proofs.Columns.{left_none, left_of}
use Rattle.r9_shown.proofs.Keepers.{block_carried, carried_step, carried_through}
use Rattle.r9_shown.proofs.Parts.{columns_filled, part_bits, part_has, part_inside, part_more, part_near, part_of, own_target, beyond_is, carried-here}
use Rattle.r9_shown.proofs.Pieces.{block_area, block_ordered, corner_in}
use Rattle.r9_shown.proofs.Writing.{filled_block, filled_none}
use Rattle.r9_shown.proofs.viewing.save_band.Goals as goal

pub loop-done-init : goal.loop-done-init
loop-done-init g c =
    record {
      within = omega arith;
      filled = filled_none Place (λ (q : Point). own c.args.to (carried q c.args.r.now.min c.args.p)) (λ (q : Point). g.P.Pixels.kept c.args.pixels.now (keeping (shape c.args.lists.now) c.args.i q)) (g.P.Pixels.kept c.args.pixels.now) (left_of c.args.r.now c.args.row c.args.band.now.rows 0) (left_none c.args.r.now c.args.row c.args.band.now.rows);
      has = refl;
      forms = refl;
      moment = refl;
      spare = refl;
      steps = omega arith;
      writes = refl;
    }

pub part_at-part-requires-clause-column : goal.part_at-part-requires-clause-column
part_at-part-requires-clause-column g c =
    omega (arith, c.loop-done-test.true, c.width-columns.ensures)

pub kept_in-requires-clause-near : goal.kept_in-requires-clause-near
unfolding shape
kept_in-requires-clause-near g c =
    let w = shape c.args.lists.now in
    let i = c.args.i in
    let r = c.args.r.now in
    let row = c.args.row in
    let rows = c.args.band.now.rows in
    let done = c.loop-done.done in
    let part = c.part_at-part.result in
    let n = part.extent.columns in
    let is = part_of w i r row done c.args.band.now part c.requires.band c.part_at-part.ensures.some c.part_at-part.ensures.most c.part_at-part.ensures.rows c.part_at-part.ensures.kept in
    (part_near w c.args.lists.now.standing i c.requires.live r c.requires.ordered row rows done n part.image part.at is c.args.lists.now.near c.requires.inside).min

pub kept_in-requires-clause-columns : goal.kept_in-requires-clause-columns
kept_in-requires-clause-columns g c =
    omega (arith, c.part_at-part.ensures.most, width_most c.args.r.now c.requires.near c.requires.ordered)

pub kept_in-requires-clause-rows : goal.kept_in-requires-clause-rows
kept_in-requires-clause-rows g c =
    omega (arith, c.part_at-part.ensures.rows, c.requires.band.most, height_most c.args.r.now c.requires.near c.requires.ordered)

pub beyond-there-requires-clause-columns : goal.beyond-there-requires-clause-columns
beyond-there-requires-clause-columns g c =
    omega (arith, c.loop-done-test.true, c.width-columns.ensures, width_most c.args.r.now c.requires.near c.requires.ordered)

pub beyond-there-requires-clause-rows : goal.beyond-there-requires-clause-rows
beyond-there-requires-clause-rows g c =
    omega (arith, c.requires.row, height_most c.args.r.now c.requires.near c.requires.ordered)

pub carry_block-requires-clause-near : goal.carry_block-requires-clause-near
unfolding shape
carry_block-requires-clause-near g c =
    let w = shape c.args.lists.now in
    let i = c.args.i in
    let r = c.args.r.now in
    let row = c.args.row in
    let rows = c.args.band.now.rows in
    let done = c.loop-done.done in
    let part = c.part_at-part.result in
    let n = part.extent.columns in
    let is = part_of w i r row done c.args.band.now part c.requires.band c.part_at-part.ensures.some c.part_at-part.ensures.most c.part_at-part.ensures.rows c.part_at-part.ensures.kept in
    let rect : c.kept_in.result ≡ block part.at n rows = c.kept_in.ensures ∙ ap (block part.at n) c.part_at-part.ensures.rows in
    subst IsRectNear (sym rect) (part_near w c.args.lists.now.standing i c.requires.live r c.requires.ordered row rows done n part.image part.at is c.args.lists.now.near c.requires.inside)

pub carry_block-requires-clause-ordered : goal.carry_block-requires-clause-ordered
carry_block-requires-clause-ordered g c =
    subst IsOrdered (sym c.kept_in.ensures) (block_ordered c.part_at-part.result.at c.part_at-part.result.extent.columns c.part_at-part.result.extent.rows)

pub carry_block-requires-clause-apart : goal.carry_block-requires-clause-apart
unfolding shape
carry_block-requires-clause-apart g c same =
    let w = shape c.args.lists.now in
    let i = c.args.i in
    let r = c.args.r.now in
    let row = c.args.row in
    let rows = c.args.band.now.rows in
    let done = c.loop-done.done in
    let part = c.part_at-part.result in
    let n = part.extent.columns in
    let is = part_of w i r row done c.args.band.now part c.requires.band c.part_at-part.ensures.some c.part_at-part.ensures.most c.part_at-part.ensures.rows c.part_at-part.ensures.kept in
    let q : Point = point_at r done row in
    own-apart w c.args.lists.now.standing i c.args.to part.at q c.requires.live c.requires.stands
    (sym (is.kept q (corner_in q n rows is.some is.some_rows) ∙ ap (own part.image) (carried-here q part.at) ∙ ap (λ m. own m part.at) same))

pub carry_block-requires-clause-had : goal.carry_block-requires-clause-had
unfolding shape
carry_block-requires-clause-had g c x h =
    let w = shape c.args.lists.now in
    let i = c.args.i in
    let r = c.args.r.now in
    let row = c.args.row in
    let rows = c.args.band.now.rows in
    let done = c.loop-done.done in
    let part = c.part_at-part.result in
    let n = part.extent.columns in
    let is = part_of w i r row done c.args.band.now part c.requires.band c.part_at-part.ensures.some c.part_at-part.ensures.most c.part_at-part.ensures.rows c.part_at-part.ensures.kept in
    let rect : c.kept_in.result ≡ block part.at n rows = c.kept_in.ensures ∙ ap (block part.at n) c.part_at-part.ensures.rows in
    ap (λ has. has (own part.image x)) c.loop-done.invariant.has
    ∙ part_has w c.args.lists.now.standing i c.requires.live r c.requires.ordered row rows done n part.image part.at is (g.P.Pixels.has c.args.pixels.now) c.requires.had x (ap (λ (s : Rect). holds s x) (sym rect) ∙ h)

pub carry_block-requires-clause-has : goal.carry_block-requires-clause-has
unfolding shape
carry_block-requires-clause-has g c x h =
    let w = shape c.args.lists.now in
    let i = c.args.i in
    let r = c.args.r.now in
    let row = c.args.row in
    let rows = c.args.band.now.rows in
    let done = c.loop-done.done in
    let part = c.part_at-part.result in
    let n = part.extent.columns in
    let is = part_of w i r row done c.args.band.now part c.requires.band c.part_at-part.ensures.some c.part_at-part.ensures.most c.part_at-part.ensures.rows c.part_at-part.ensures.kept in
    let rect : c.kept_in.result ≡ block part.at n rows = c.kept_in.ensures ∙ ap (block part.at n) c.part_at-part.ensures.rows in
    let there = c.beyond-there.result in
    let onward : (q : Point) → carried q (point_at r done row) there ≡ carried q r.min c.args.p =
    λ q. ap (carried q (point_at r done row)) (beyond_is r row done c.args.p there c.beyond-there.ensures) ∙ sym (carried_step q (point_at r done row) r.min c.args.p) in
    let inside : holds (block part.at n rows) x ≡ true = ap (λ (s : Rect). holds s x) (sym rect) ∙ h in
    let q : Point = carried x part.at (point_at r done row) in
    ap (λ has. has (own c.args.to (carried x c.kept_in.result.min there))) c.loop-done.invariant.has
    ∙ ap (λ (s : Rect). g.P.Pixels.has c.args.pixels.now (own c.args.to (carried x s.min there))) rect
    ∙ ap (λ z. g.P.Pixels.has c.args.pixels.now (own c.args.to z)) (sym (carried_through x part.at (point_at r done row) there) ∙ onward q)
    ∙ c.requires.has q (part_inside w c.args.lists.now.standing i c.requires.live r c.requires.ordered row rows done n part.image part.at is q (block_carried part.at (point_at r done row) x n rows inside))

pub carry_block-requires-clause-bits : goal.carry_block-requires-clause-bits
unfolding shape
carry_block-requires-clause-bits g c =
    let w = shape c.args.lists.now in
    let i = c.args.i in
    let r = c.args.r.now in
    let row = c.args.row in
    let rows = c.args.band.now.rows in
    let done = c.loop-done.done in
    let part = c.part_at-part.result in
    let n = part.extent.columns in
    let is = part_of w i r row done c.args.band.now part c.requires.band c.part_at-part.ensures.some c.part_at-part.ensures.most c.part_at-part.ensures.rows c.part_at-part.ensures.kept in
    let forms = g.P.Pixels.forms c.args.pixels.now in
    ap (λ f. bits_in f part.image) c.loop-done.invariant.forms
    ∙ part_bits w c.args.lists.now.standing i c.requires.live r c.requires.ordered row rows done n part.image part.at is forms c.requires.bits
    ∙ sym (c.requires.bits c.args.to i (live-standing w c.args.to i c.requires.stands) c.requires.stands)
    ∙ sym (ap (λ f. bits_in f c.args.to) c.loop-done.invariant.forms)

pub loop-done-preserved : goal.loop-done-preserved
unfolding shape
loop-done-preserved g c =
    let w = shape c.args.lists.now in
    let i = c.args.i in
    let r = c.args.r.now in
    let row = c.args.row in
    let rows = c.args.band.now.rows in
    let done = c.loop-done.done in
    let part = c.part_at-part.result in
    let n = part.extent.columns in
    let is = part_of w i r row done c.args.band.now part c.requires.band c.part_at-part.ensures.some c.part_at-part.ensures.most c.part_at-part.ensures.rows c.part_at-part.ensures.kept in
    let rect : c.kept_in.result ≡ block part.at n rows = c.kept_in.ensures ∙ ap (block part.at n) c.part_at-part.ensures.rows in
    let there = c.beyond-there.result in
    let onward : (q : Point) → carried q (point_at r done row) there ≡ carried q r.min c.args.p =
    λ q. ap (carried q (point_at r done row)) (beyond_is r row done c.args.p there c.beyond-there.ensures) ∙ sym (carried_step q (point_at r done row) r.min c.args.p) in
    let size : area_of c.kept_in.result ≡ n * rows = ap area_of rect ∙ block_area part.at n rows in
    let more : (done + n) * rows ≡ done * rows + n * rows = grind arith in
    let ok = c.args.lists.now.standing in
    let q : Point = point_at r done row in
    let target = λ (z : Point). own c.args.to (carried z r.min c.args.p) in
    let before = g.P.Pixels.kept c.args.pixels.now in
    let mid = g.P.Pixels.kept c.loop-done.pixels in
    let after = g.P.Pixels.kept c.carry_block.new.self in
    let value = λ (z : Point). before (keeping w i z) in
    record {
      within = c.part_at-part.ensures.most;
      filled =
          part_more w c.args.lists.now.standing i c.requires.live r c.requires.ordered row rows done n part.image part.at is Place target value before mid after
          (λ a b h k same. own_target r.min c.args.p c.args.to a b same) c.loop-done.invariant.filled
          (filled_block Place target (λ x. own c.args.to (carried x part.at there)) value (λ x. mid (own part.image x)) mid after q part.at n rows
          (λ z h. ap (own c.args.to) (sym (onward z) ∙ sym (carried_through z q part.at there)))
          (λ z h.
          ap mid (sym (is.kept z h))
          ∙ c.loop-done.invariant.filled.others (keeping w i z) (λ a k same. own-apart w ok i c.args.to (carried a r.min c.args.p) z c.requires.live c.requires.stands (sym same)))
          (λ x h. ap (λ (s : Rect). after (own c.args.to (carried x s.min there))) (sym rect) ∙ c.carry_block.ensures.at x (ap (λ (s : Rect). holds s x) rect ∙ h))
          (λ k apart. c.carry_block.ensures.others k (λ x h same. apart x (ap (λ (s : Rect). holds s x) (sym rect) ∙ h) (same ∙ ap (λ (s : Rect). own c.args.to (carried x s.min there)) rect))));
      has = c.carry_block.ensures.has ∙ c.loop-done.invariant.has;
      forms = c.carry_block.ensures.forms ∙ c.loop-done.invariant.forms;
      moment = c.carry_block.ensures.moment ∙ c.loop-done.invariant.moment;
      spare = c.carry_block.ensures.spare ∙ c.loop-done.invariant.spare;
      steps = omega (arith, c.carry_block.ensures.steps, c.loop-done.invariant.steps, size, more);
      writes = omega (arith, c.carry_block.ensures.writes, c.loop-done.invariant.writes);
    }

pub returns-clause-at : goal.returns-clause-at
returns-clause-at g c =
    let end : c.loop-done.done ≡ width c.args.r.now = omega (arith, c.loop-done-test.false, c.width-columns.ensures, c.loop-done.invariant.within) in
    (columns_filled Place (λ (q : Point). own c.args.to (carried q c.args.r.now.min c.args.p)) (λ (q : Point). g.P.Pixels.kept c.args.pixels.now (keeping (shape c.args.lists.now) c.args.i q)) (g.P.Pixels.kept c.args.pixels.now) (g.P.Pixels.kept c.loop-done.pixels) c.args.r.now c.args.row c.args.band.now.rows c.loop-done.done c.requires.ordered end c.loop-done.invariant.filled).at

pub returns-clause-others : goal.returns-clause-others
returns-clause-others g c =
    let end : c.loop-done.done ≡ width c.args.r.now = omega (arith, c.loop-done-test.false, c.width-columns.ensures, c.loop-done.invariant.within) in
    (columns_filled Place (λ (q : Point). own c.args.to (carried q c.args.r.now.min c.args.p)) (λ (q : Point). g.P.Pixels.kept c.args.pixels.now (keeping (shape c.args.lists.now) c.args.i q)) (g.P.Pixels.kept c.args.pixels.now) (g.P.Pixels.kept c.loop-done.pixels) c.args.r.now c.args.row c.args.band.now.rows c.loop-done.done c.requires.ordered end c.loop-done.invariant.filled).others

pub returns-clause-steps : goal.returns-clause-steps
returns-clause-steps g c =
    let end : c.loop-done.done ≡ width c.args.r.now = omega (arith, c.loop-done-test.false, c.width-columns.ensures, c.loop-done.invariant.within) in
    let all : c.loop-done.done * c.args.band.now.rows ≡ width c.args.r.now * c.args.band.now.rows = ap (λ m. m * c.args.band.now.rows) end in
    omega (arith, c.loop-done.invariant.steps, all)
