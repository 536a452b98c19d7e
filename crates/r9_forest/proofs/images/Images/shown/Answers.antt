use Rattle.std.proofs.Common.{◌≡◌, ◌∙◌, ◌<◌, ◌^◌, ℕ, List, length, get_or, lit≤, sym, ap, subst, arith}
use Rattle.std.proofs.lemmas.Bool.{false≢true}
use Rattle.std.proofs.lemmas.List.{with_items_is}
use Rattle.r9_geom.specs.declared.Rect.{Rect}
use Rattle.r9_geom.specs.Geometry.{height, holds}
use Rattle.r9_geom.proofs.GeometryLemmas.{band, band_all, band_none, height_most, rect_near_wider}
use Rattle.model_pixel.specs.Channels.{depth}
use Rattle.r9_plane.specs.Pixels.{along, pixel_at}
use Rattle.r9_locate.specs.locate.Table.{shape}
use Rattle.r9_pixels.specs.Kept.{kept_at}
use Rattle.model_forest.specs.View.{view}
use Rattle.model_forest.specs.World.{Image, image_at}
use Rattle.model_forest.proofs.Sound.{view-below}
use Rattle.r9_forest.specs.Images.{world}
use Rattle.r9_put.proofs.put.Grids.{band_shown, begins_row, row_lies}
use Rattle.r9_relist.proofs.arrive.Canvases.{bare_canvas}
use Rattle.r9_forest.proofs.images.Images.shown.Goals as goal

pub get-requires : goal.get-requires
unfolding world
get-requires g c = (bare_canvas (shape c.args.self.now.lists) (kept_at c.args.self.now.pixels)).live c.args.i ∙ c.requires.live

pub new-requires-clause-near : goal.new-requires-clause-near
new-requires-clause-near g c = rect_near_wider (2 ^ 36) (2 ^ 40) c.args.r (lit≤ tt) c.requires.near

pub point_at-at-requires-clause-near : goal.point_at-at-requires-clause-near
point_at-at-requires-clause-near g c = rect_near_wider (2 ^ 36) (2 ^ 40) c.args.r (lit≤ tt) c.requires.near

pub point_at-at-requires-clause-row : goal.point_at-at-requires-clause-row
point_at-at-requires-clause-row g c =
    omega (arith, height_most c.args.r (rect_near_wider (2 ^ 36) (2 ^ 40) c.args.r (lit≤ tt) c.requires.near) c.requires.ordered, c.loop-row-test.true, c.height-row-end.ensures)

pub loop-row-init : goal.loop-row-init
unfolding world
loop-row-init g c = record {
  rect = c.in_ok-plane.ensures.rect;
  chan = c.in_ok-plane.ensures.chan ∙ ap (λ (im : Image). im.chan) (sym c.get.ensures) ∙ (bare_canvas (shape c.args.self.now.lists) (kept_at c.args.self.now.pixels)).chan c.args.i;
  long = c.in_ok-raws.ensures.len ∙ c.width.ensures;
  pixels = λ q inside. absurd (false≢true (sym (band_none c.args.r q) ∙ inside));
}

pub read_view-requires-clause-inside : goal.read_view-requires-clause-inside
read_view-requires-clause-inside g c p h =
    let r = c.args.r in
    let below : c.loop-row.row < height r = omega (arith, c.loop-row-test.true, c.height-row-end.ensures) in
    let is = begins_row r c.point_at-at.result c.loop-row.row c.point_at-at.ensures below in
    c.requires.inside p (row_lies r c.point_at-at.result p c.loop-row.row _ (c.deref_mut.ensures.len ∙ c.loop-row.invariant.long) c.requires.ordered is h)

pub put_row-requires-clause-inside : goal.put_row-requires-clause-inside
put_row-requires-clause-inside g c p h =
    let r = c.args.r in
    let below : c.loop-row.row < height r = omega (arith, c.loop-row-test.true, c.height-row-end.ensures) in
    let is = begins_row r c.point_at-at.result c.loop-row.row c.point_at-at.ensures below in
    ap (λ (s : Rect). holds s p) c.loop-row.invariant.rect
    ∙ row_lies r c.point_at-at.result p c.loop-row.row _ (c.deref.ensures.len ∙ c.loop-row.invariant.long) c.requires.ordered is h

pub put_row-requires-clause-raws : goal.put_row-requires-clause-raws
unfolding world
put_row-requires-clause-raws g c k below =
    let here = world c.args.self.now in
    let i = c.args.i in
    let raws = c.read_view.new.raws in
    let items = c.deref.ensures.value ∙ with_items_is c.loop-row.raws raws (omega (arith, c.read_view.auto.raws, c.deref_mut.ensures.len)) in
    let short : k < length c.deref_mut.result.now = omega (arith, below, c.deref.ensures.len, c.deref_mut.ensures.len) in
    let value : get_or c.deref.result.now k 0 ≡ view here i (along c.point_at-at.result k) = ap (λ (ns : List ℕ). get_or ns k 0) items ∙ c.read_view.ensures k short in
    subst (λ n. get_or c.deref.result.now k 0 < 2 ^ depth n) (sym c.loop-row.invariant.chan)
    (subst (λ n. n < 2 ^ depth (image_at here i).chan) (sym value) (view-below here c.args.self.now.sound.forest i (along c.point_at-at.result k) c.requires.live))

pub loop-row-preserved : goal.loop-row-preserved
loop-row-preserved g c =
    let here = world c.args.self.now in
    let r = c.args.r in
    let at = c.point_at-at.result in
    let inv = c.loop-row.invariant in
    let raws = c.read_view.new.raws in
    let items = c.deref.ensures.value ∙ with_items_is c.loop-row.raws raws (omega (arith, c.read_view.auto.raws, c.deref_mut.ensures.len)) in
    record {
      rect = c.put_row.ensures.rect ∙ inv.rect;
      chan = c.put_row.ensures.chan ∙ inv.chan;
      long = inv.long;
      pixels = λ q.
          band_shown r at q c.loop-row.row (length c.deref.result.now) c.deref.result.now (view here c.args.i) (pixel_at c.loop-row.plane q) (pixel_at c.put_row.new.self q)
          c.requires.ordered c.point_at-at.ensures (c.deref.ensures.len ∙ inv.long) (c.put_row.ensures.pixels q)
          (λ k below. ap (λ (ns : List ℕ). get_or ns k 0) items ∙ c.read_view.ensures k (omega (arith, below, c.deref.ensures.len, c.deref_mut.ensures.len)))
          (inv.pixels q);
    }

pub returns-clause-rect : goal.returns-clause-rect
returns-clause-rect g c = c.loop-row.invariant.rect

pub returns-clause-chan : goal.returns-clause-chan
returns-clause-chan g c = c.loop-row.invariant.chan

pub returns-clause-pixels : goal.returns-clause-pixels
returns-clause-pixels g c p inside =
    let r = c.args.r in
    let end : c.loop-row.row ≡ height r = omega (arith, c.loop-row-test.false, c.loop-row.auto.row-end, c.height-row-end.ensures) in
    c.loop-row.invariant.pixels p (ap (λ n. holds (band r n) p) end ∙ band_all r p c.requires.ordered.down ∙ inside)
