use Rattle.std.proofs.Common.{◌≡◌, ◌∙◌, ◌+◌, ◌-◌, ◌<◌, ◌≤◌, length, get_or, drop, take, refl, sym, subst, ap, ⊎_elim, arith, length-append, length-drop}
use Rattle.std.proofs.lemmas.Bool.{cases_lt}
use Rattle.std.proofs.lemmas.List.{length-take-le, with_items_is}
use Rattle.r9_geom.specs.Geometry.{IsNear}
use Rattle.model_forest.specs.World.{World, IsLive}
use Rattle.model_kept.specs.Keeping.{with_kept}
use Rattle.r9_plane.specs.Pixels.{along}
use Rattle.r9_locate.specs.locate.Table.{shape}
use Rattle.r9_locate.proofs.locate.Locating.{along-along}
use Rattle.r9_pixels.specs.Kept.{kept_at}
use Rattle.r9_put.specs.fills.Fills.{fill_at}
use Rattle.r9_forest.specs.Images.{world}
use Rattle.r9_forest.proofs.images.Images.gather_row.Goals as goal
use Rattle.r9_forest.proofs.images.Images.gather_row.Goals.{At-loop-done}

pub loop-done-init : goal.loop-done-init
loop-done-init c = record {
  within = omega arith;
  long = refl;
  lists = refl;
  pixels = refl;
  spare = refl;
  len = refl;
  row = λ k below. absurd (omega (arith, below));
  before = λ j below. refl;
}

-- what is read is the same while pixels are gathered
same : (c : At-loop-done) → world c.loop-done.self ≡ world c.args.self.now
unfolding world
same c = λ j. with_kept (shape (c.loop-done.invariant.lists j)) (kept_at (c.loop-done.invariant.pixels j))

pub read_fill-requires-clause-live : goal.read_fill-requires-clause-live
read_fill-requires-clause-live c = subst (λ (w : World). IsLive w c.args.fill) (sym (same (goal.at.read_fill-requires-clause-live c).At-loop-done)) c.requires.live

pub read_fill-requires-clause-near : goal.read_fill-requires-clause-near
read_fill-requires-clause-near c = subst IsNear (sym c.along.ensures) (c.requires.near c.loop-done.done (omega (arith, c.loop-done-test.true)))

pub loop-done-preserved : goal.loop-done-preserved
loop-done-preserved c =
    let now = c.loop-done.invariant in
    let done = c.loop-done.done in
    let first = c.args.first in
    let size = c.min-size.result in
    let put = c.put_block.new.room in
    let chan = c.args.chan.now in
    let fill = c.args.fill in
    let start = c.args.at in
    let world_same = same (goal.at.loop-done-preserved c).At-loop-done in
    let fits : size ≤ length c.loop-done.block = omega (arith, now.long, c.min-size.ensures) in
    let long : length (take size c.loop-done.block) ≡ size = length-take-le size c.loop-done.block fits in
    let part : length c.read_fill.new.raws ≡ size = c.read_fill.auto.raws ∙ long in
    let within : done + size ≤ c.args.width = omega (arith, now.within, c.min-size.ensures) in
    let count : length put ≡ c.loop-done.self.room.len = omega (arith, c.put_block.auto.room, c.deref_mut.ensures.len) in
    let items = with_items_is c.loop-done.self.room put count in
    record {
      within = within;
      long = omega (arith, length-append c.read_fill.new.raws (drop size c.loop-done.block), length-drop size c.loop-done.block, part, now.long, c.min-size.ensures);
      lists = now.lists;
      pixels = now.pixels;
      spare = now.spare;
      len = now.len;
      row = λ k below.
          ap (λ l. get_or l (first + k) 0) items
          ∙ ⊎_elim
          (λ (early : k < done).
          c.put_block.ensures.before (first + k) (omega (arith, early)) ∙ ap (λ l. get_or l (first + k) 0) c.deref_mut.ensures.value ∙ now.row k early)
          (λ (late : done ≤ k).
          let j = k - done in
          let short : j < size = omega (arith, late, below) in
          let place : first + k ≡ first + done + j = omega (arith, late) in
          let point : along c.along.result j ≡ along start k = (let n : done + j ≡ k = omega (arith, late) in ap (λ p. along p j) c.along.ensures ∙ along-along start done j ∙ ap (along start) n) in
          ap (λ n. get_or put n 0) place
          ∙ c.put_block.ensures.block j (omega (arith, short, part))
          ∙ c.read_fill.ensures j (omega (arith, short, long))
          ∙ (λ i. fill_at (world_same i) chan fill (point i)))
          (cases_lt k done);
      before = λ j lt.
          ap (λ l. get_or l j 0) items ∙ c.put_block.ensures.before j (omega (arith, lt)) ∙ ap (λ l. get_or l j 0) c.deref_mut.ensures.value ∙ now.before j lt;
    }

pub returns-clause-row : goal.returns-clause-row
returns-clause-row c k below = c.loop-done.invariant.row k (omega (arith, below, c.loop-done-test.false))
