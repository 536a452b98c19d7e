use Rattle.std.proofs.Common.{◌≡◌, ◌∙◌, ◌+◌, ◌*◌, ◌^◌, true, refl, sym, ap, subst, arith}
use Rattle.r9_geom.specs.declared.Point.{Point}
use Rattle.r9_geom.specs.declared.Rect.{Rect}
use Rattle.r9_geom.specs.Geometry.{area_of, carried, holds, point_at, width, IsOrdered, IsRectNear}
use Rattle.r9_geom.proofs.GeometryLemmas.{height_most, near_point, width_most}
use Rattle.model_forest.specs.World.{image_at}
use Rattle.model_forest.proofs.Changes.{live-standing}
use Rattle.model_kept.specs.Keeping.{keeping, own, Place}
use Rattle.r9_locate.specs.locate.Forms.{bits_in}
use Rattle.r9_locate.specs.locate.Table.{shape}
use Rattle.r9_locate.proofs.locate.Apart.{own-apart}
use Rattle.r9_shown.specs.Shown.{block}
use Rattle.r9_shown.proofs.Carried.{carried-self, near_part}
use Rattle.r9_shown.proofs.Columns.{left_none, left_of}
use Rattle.r9_shown.proofs.Keepers.{block_carried, carried_step, carried_through}
use Rattle.r9_shown.proofs.Parts.{columns_filled, kept_apart, part_bits, part_inside, part_more, part_of, beyond_is, carried-here}
use Rattle.r9_shown.proofs.Pieces.{block_area, block_ordered, corner_in}
use Rattle.r9_shown.proofs.Writing.{filled_block, filled_none}
use Rattle.r9_shown.proofs.viewing.show_band.Goals as goal

pub loop-done-init : goal.loop-done-init
loop-done-init g c =
    record {
      within = omega arith;
      filled = filled_none Place (keeping (shape c.args.lists.now) c.args.i) (λ (q : Point). g.P.Pixels.kept c.args.pixels.now (own c.args.from (carried q c.args.r.now.min c.args.at))) (g.P.Pixels.kept c.args.pixels.now) (left_of c.args.r.now c.args.row c.args.band.now.rows 0) (left_none c.args.r.now c.args.row c.args.band.now.rows);
      has = refl;
      forms = refl;
      moment = refl;
      spare = refl;
      steps = omega arith;
      writes = refl;
    }

pub part_at-part-requires-clause-column : goal.part_at-part-requires-clause-column
part_at-part-requires-clause-column g c =
    omega (arith, c.loop-done-test.true, c.width-columns.ensures)

pub beyond-here-requires-clause-columns : goal.beyond-here-requires-clause-columns
beyond-here-requires-clause-columns g c =
    omega (arith, c.loop-done-test.true, c.width-columns.ensures, width_most c.args.r.now c.requires.near c.requires.ordered)

pub beyond-here-requires-clause-rows : goal.beyond-here-requires-clause-rows
beyond-here-requires-clause-rows g c =
    omega (arith, c.requires.row, height_most c.args.r.now c.requires.near c.requires.ordered)

pub block-kept-requires-clause-near : goal.block-kept-requires-clause-near
unfolding shape
block-kept-requires-clause-near g c =
    let w = shape c.args.lists.now in
    let i = c.args.i in
    let r = c.args.r.now in
    let row = c.args.row in
    let rows = c.args.band.now.rows in
    let done = c.loop-done.done in
    let part = c.part_at-part.result in
    let n = part.extent.columns in
    let is = part_of w i r row done c.args.band.now part c.requires.band c.part_at-part.ensures.some c.part_at-part.ensures.most c.part_at-part.ensures.rows c.part_at-part.ensures.kept in
    let q : Point = point_at r done row in
    let here = c.beyond-here.result in
    let onward : (z : Point) → carried z q here ≡ carried z r.min c.args.at =
    λ z. ap (carried z q) (beyond_is r row done c.args.at here c.beyond-here.ensures) ∙ sym (carried_step z q r.min c.args.at) in
    let window = (image_at w c.args.from).r in
    let near = (c.args.lists.now.near c.args.from (live-standing w c.args.from i c.requires.stands)).0 in
    let room : (x : Point) → holds (block here n rows) x ≡ true → holds window x ≡ true =
    λ x h.
    let back = block_carried here q x n rows h in
    ap (holds window) (sym (carried_through x here q here ∙ carried-self x here)) ∙ ap (holds window) (onward (carried x here q)) ∙ c.requires.of_window (carried x here q) (part_inside w c.args.lists.now.standing i c.requires.live r c.requires.ordered row rows done n part.image part.at is (carried x here q) back) in
    near_point (2 ^ 40) window here near (room here (corner_in here n rows is.some is.some_rows))

pub block-kept-requires-clause-columns : goal.block-kept-requires-clause-columns
block-kept-requires-clause-columns g c =
    omega (arith, c.part_at-part.ensures.most, width_most c.args.r.now c.requires.near c.requires.ordered)

pub block-kept-requires-clause-rows : goal.block-kept-requires-clause-rows
block-kept-requires-clause-rows g c =
    omega (arith, c.part_at-part.ensures.rows, c.requires.band.most, height_most c.args.r.now c.requires.near c.requires.ordered)

pub carry_block-requires-clause-near : goal.carry_block-requires-clause-near
unfolding shape
carry_block-requires-clause-near g c =
    let w = shape c.args.lists.now in
    let i = c.args.i in
    let r = c.args.r.now in
    let row = c.args.row in
    let rows = c.args.band.now.rows in
    let done = c.loop-done.done in
    let part = c.part_at-part.result in
    let n = part.extent.columns in
    let is = part_of w i r row done c.args.band.now part c.requires.band c.part_at-part.ensures.some c.part_at-part.ensures.most c.part_at-part.ensures.rows c.part_at-part.ensures.kept in
    let q : Point = point_at r done row in
    let here = c.beyond-here.result in
    let rect : c.block-kept.result ≡ block here n rows = c.block-kept.ensures ∙ ap (block here n) c.part_at-part.ensures.rows in
    let onward : (z : Point) → carried z q here ≡ carried z r.min c.args.at =
    λ z. ap (carried z q) (beyond_is r row done c.args.at here c.beyond-here.ensures) ∙ sym (carried_step z q r.min c.args.at) in
    let window = (image_at w c.args.from).r in
    let near = (c.args.lists.now.near c.args.from (live-standing w c.args.from i c.requires.stands)).0 in
    let room : (x : Point) → holds (block here n rows) x ≡ true → holds window x ≡ true =
    λ x h.
    let back = block_carried here q x n rows h in
    ap (holds window) (sym (carried_through x here q here ∙ carried-self x here)) ∙ ap (holds window) (onward (carried x here q)) ∙ c.requires.of_window (carried x here q) (part_inside w c.args.lists.now.standing i c.requires.live r c.requires.ordered row rows done n part.image part.at is (carried x here q) back) in
    subst IsRectNear (sym rect) (near_part (block here n rows) window here near (corner_in here n rows is.some is.some_rows) room)

pub carry_block-requires-clause-ordered : goal.carry_block-requires-clause-ordered
carry_block-requires-clause-ordered g c =
    subst IsOrdered (sym c.block-kept.ensures) (block_ordered c.beyond-here.result c.part_at-part.result.extent.columns c.part_at-part.result.extent.rows)

pub carry_block-requires-clause-apart : goal.carry_block-requires-clause-apart
unfolding shape
carry_block-requires-clause-apart g c same =
    let w = shape c.args.lists.now in
    let i = c.args.i in
    let r = c.args.r.now in
    let row = c.args.row in
    let rows = c.args.band.now.rows in
    let done = c.loop-done.done in
    let part = c.part_at-part.result in
    let n = part.extent.columns in
    let is = part_of w i r row done c.args.band.now part c.requires.band c.part_at-part.ensures.some c.part_at-part.ensures.most c.part_at-part.ensures.rows c.part_at-part.ensures.kept in
    let q : Point = point_at r done row in
    own-apart w c.args.lists.now.standing i c.args.from part.at q c.requires.live c.requires.stands
    (sym (is.kept q (corner_in q n rows is.some is.some_rows) ∙ ap (own part.image) (carried-here q part.at) ∙ ap (λ m. own m part.at) (sym same)))

pub carry_block-requires-clause-had : goal.carry_block-requires-clause-had
unfolding shape
carry_block-requires-clause-had g c x h =
    let w = shape c.args.lists.now in
    let i = c.args.i in
    let r = c.args.r.now in
    let row = c.args.row in
    let rows = c.args.band.now.rows in
    let done = c.loop-done.done in
    let part = c.part_at-part.result in
    let n = part.extent.columns in
    let is = part_of w i r row done c.args.band.now part c.requires.band c.part_at-part.ensures.some c.part_at-part.ensures.most c.part_at-part.ensures.rows c.part_at-part.ensures.kept in
    let q : Point = point_at r done row in
    let here = c.beyond-here.result in
    let rect : c.block-kept.result ≡ block here n rows = c.block-kept.ensures ∙ ap (block here n) c.part_at-part.ensures.rows in
    let onward : (z : Point) → carried z q here ≡ carried z r.min c.args.at =
    λ z. ap (carried z q) (beyond_is r row done c.args.at here c.beyond-here.ensures) ∙ sym (carried_step z q r.min c.args.at) in
    let inside : holds (block here n rows) x ≡ true = ap (λ (s : Rect). holds s x) (sym rect) ∙ h in
    let z : Point = carried x here q in
    ap (λ has. has (own c.args.from x)) c.loop-done.invariant.has
    ∙ ap (λ y. g.P.Pixels.has c.args.pixels.now (own c.args.from y)) (sym (carried_through x here q here ∙ carried-self x here) ∙ onward z)
    ∙ c.requires.had z (part_inside w c.args.lists.now.standing i c.requires.live r c.requires.ordered row rows done n part.image part.at is z (block_carried here q x n rows inside))

pub carry_block-requires-clause-has : goal.carry_block-requires-clause-has
unfolding shape
carry_block-requires-clause-has g c x h =
    let w = shape c.args.lists.now in
    let i = c.args.i in
    let r = c.args.r.now in
    let row = c.args.row in
    let rows = c.args.band.now.rows in
    let done = c.loop-done.done in
    let part = c.part_at-part.result in
    let n = part.extent.columns in
    let is = part_of w i r row done c.args.band.now part c.requires.band c.part_at-part.ensures.some c.part_at-part.ensures.most c.part_at-part.ensures.rows c.part_at-part.ensures.kept in
    let q : Point = point_at r done row in
    let here = c.beyond-here.result in
    let rect : c.block-kept.result ≡ block here n rows = c.block-kept.ensures ∙ ap (block here n) c.part_at-part.ensures.rows in
    let onward : (z : Point) → carried z q here ≡ carried z r.min c.args.at =
    λ z. ap (carried z q) (beyond_is r row done c.args.at here c.beyond-here.ensures) ∙ sym (carried_step z q r.min c.args.at) in
    let inside : holds (block here n rows) x ≡ true = ap (λ (s : Rect). holds s x) (sym rect) ∙ h in
    let z : Point = carried x here q in
    let back = block_carried here q x n rows inside in
    ap (λ has. has (own part.image (carried x c.block-kept.result.min part.at))) c.loop-done.invariant.has
    ∙ ap (λ (s : Rect). g.P.Pixels.has c.args.pixels.now (own part.image (carried x s.min part.at))) rect
    ∙ ap (λ y. g.P.Pixels.has c.args.pixels.now (own part.image y)) (sym (carried_through x here q part.at))
    ∙ ap (g.P.Pixels.has c.args.pixels.now) (sym (is.kept z back))
    ∙ c.requires.has z (part_inside w c.args.lists.now.standing i c.requires.live r c.requires.ordered row rows done n part.image part.at is z back)

pub carry_block-requires-clause-bits : goal.carry_block-requires-clause-bits
unfolding shape
carry_block-requires-clause-bits g c =
    let w = shape c.args.lists.now in
    let i = c.args.i in
    let r = c.args.r.now in
    let row = c.args.row in
    let rows = c.args.band.now.rows in
    let done = c.loop-done.done in
    let part = c.part_at-part.result in
    let n = part.extent.columns in
    let is = part_of w i r row done c.args.band.now part c.requires.band c.part_at-part.ensures.some c.part_at-part.ensures.most c.part_at-part.ensures.rows c.part_at-part.ensures.kept in
    let forms = g.P.Pixels.forms c.args.pixels.now in
    ap (λ f. bits_in f c.args.from) c.loop-done.invariant.forms
    ∙ c.requires.bits c.args.from i (live-standing w c.args.from i c.requires.stands) c.requires.stands
    ∙ sym (part_bits w c.args.lists.now.standing i c.requires.live r c.requires.ordered row rows done n part.image part.at is forms c.requires.bits)
    ∙ sym (ap (λ f. bits_in f part.image) c.loop-done.invariant.forms)

pub loop-done-preserved : goal.loop-done-preserved
unfolding shape
loop-done-preserved g c =
    let w = shape c.args.lists.now in
    let i = c.args.i in
    let r = c.args.r.now in
    let row = c.args.row in
    let rows = c.args.band.now.rows in
    let done = c.loop-done.done in
    let part = c.part_at-part.result in
    let n = part.extent.columns in
    let is = part_of w i r row done c.args.band.now part c.requires.band c.part_at-part.ensures.some c.part_at-part.ensures.most c.part_at-part.ensures.rows c.part_at-part.ensures.kept in
    let q : Point = point_at r done row in
    let here = c.beyond-here.result in
    let rect : c.block-kept.result ≡ block here n rows = c.block-kept.ensures ∙ ap (block here n) c.part_at-part.ensures.rows in
    let onward : (z : Point) → carried z q here ≡ carried z r.min c.args.at =
    λ z. ap (carried z q) (beyond_is r row done c.args.at here c.beyond-here.ensures) ∙ sym (carried_step z q r.min c.args.at) in
    let size : area_of c.block-kept.result ≡ n * rows = ap area_of rect ∙ block_area here n rows in
    let more : (done + n) * rows ≡ done * rows + n * rows = grind arith in
    let ok = c.args.lists.now.standing in
    let before = g.P.Pixels.kept c.args.pixels.now in
    let mid = g.P.Pixels.kept c.loop-done.pixels in
    let after = g.P.Pixels.kept c.carry_block.new.self in
    let value = λ (z : Point). before (own c.args.from (carried z r.min c.args.at)) in
    record {
      within = c.part_at-part.ensures.most;
      filled =
          part_more w c.args.lists.now.standing i c.requires.live r c.requires.ordered row rows done n part.image part.at is Place (keeping w i) value before mid after (kept_apart w ok i c.requires.live r) c.loop-done.invariant.filled
          (filled_block Place (keeping w i) (λ x. own part.image (carried x here part.at)) value (λ x. mid (own c.args.from x)) mid after q here n rows
          (λ z h. is.kept z h ∙ ap (own part.image) (sym (carried_through z q here part.at)))
          (λ z h.
          ap (λ y. mid (own c.args.from y)) (onward z)
          ∙ c.loop-done.invariant.filled.others (own c.args.from (carried z r.min c.args.at)) (λ a k. own-apart w ok i c.args.from (carried z r.min c.args.at) a c.requires.live c.requires.stands))
          (λ x h. ap (λ (s : Rect). after (own part.image (carried x s.min part.at))) (sym rect) ∙ c.carry_block.ensures.at x (ap (λ (s : Rect). holds s x) rect ∙ h))
          (λ k apart. c.carry_block.ensures.others k (λ x h same. apart x (ap (λ (s : Rect). holds s x) (sym rect) ∙ h) (same ∙ ap (λ (s : Rect). own part.image (carried x s.min part.at)) rect))));
      has = c.carry_block.ensures.has ∙ c.loop-done.invariant.has;
      forms = c.carry_block.ensures.forms ∙ c.loop-done.invariant.forms;
      moment = c.carry_block.ensures.moment ∙ c.loop-done.invariant.moment;
      spare = c.carry_block.ensures.spare ∙ c.loop-done.invariant.spare;
      steps = omega (arith, c.carry_block.ensures.steps, c.loop-done.invariant.steps, size, more);
      writes = omega (arith, c.carry_block.ensures.writes, c.loop-done.invariant.writes);
    }

pub returns-clause-at : goal.returns-clause-at
returns-clause-at g c =
    let end : c.loop-done.done ≡ width c.args.r.now = omega (arith, c.loop-done-test.false, c.width-columns.ensures, c.loop-done.invariant.within) in
    (columns_filled Place (keeping (shape c.args.lists.now) c.args.i) (λ (q : Point). g.P.Pixels.kept c.args.pixels.now (own c.args.from (carried q c.args.r.now.min c.args.at))) (g.P.Pixels.kept c.args.pixels.now) (g.P.Pixels.kept c.loop-done.pixels) c.args.r.now c.args.row c.args.band.now.rows c.loop-done.done c.requires.ordered end c.loop-done.invariant.filled).at

pub returns-clause-others : goal.returns-clause-others
returns-clause-others g c =
    let end : c.loop-done.done ≡ width c.args.r.now = omega (arith, c.loop-done-test.false, c.width-columns.ensures, c.loop-done.invariant.within) in
    (columns_filled Place (keeping (shape c.args.lists.now) c.args.i) (λ (q : Point). g.P.Pixels.kept c.args.pixels.now (own c.args.from (carried q c.args.r.now.min c.args.at))) (g.P.Pixels.kept c.args.pixels.now) (g.P.Pixels.kept c.loop-done.pixels) c.args.r.now c.args.row c.args.band.now.rows c.loop-done.done c.requires.ordered end c.loop-done.invariant.filled).others

pub returns-clause-steps : goal.returns-clause-steps
returns-clause-steps g c =
    let end : c.loop-done.done ≡ width c.args.r.now = omega (arith, c.loop-done-test.false, c.width-columns.ensures, c.loop-done.invariant.within) in
    let all : c.loop-done.done * c.args.band.now.rows ≡ width c.args.r.now * c.args.band.now.rows = ap (λ m. m * c.args.band.now.rows) end in
    omega (arith, c.loop-done.invariant.steps, all)
