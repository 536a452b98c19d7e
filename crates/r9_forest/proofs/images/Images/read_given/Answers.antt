use Rattle.std.proofs.Common.{◌≡◌, ◌∙◌, ◌+◌, ◌-◌, ◌^◌, true, length, refl, sym, ap, subst, arith}
use Rattle.std.proofs.lemmas.Bool.{and_parts}
use Rattle.std.proofs.lemmas.Int.{ints}
use Rattle.r9_geom.specs.declared.Point.{Point}
use Rattle.r9_geom.specs.declared.Rect.{Rect}
use Rattle.r9_geom.specs.Geometry.{holds, strip, IsNearBy}
use Rattle.r9_geom.proofs.GeometryLemmas.{empty_holds}
use Rattle.model_pixel.specs.Channels.{expand, pack}
use Rattle.model_forest.specs.Draw.{reaches}
use Rattle.model_forest.specs.View.{at}
use Rattle.model_forest.specs.World.{Image, image_at}
use Rattle.r9_plane.specs.Pixels.{along}
use Rattle.r9_put.specs.fills.Fills.{fill_at}
use Rattle.r9_locate.specs.locate.Lists.{frame_image}
use Rattle.r9_forest.specs.Images.{world}
use Rattle.r9_locate.proofs.locate.Locating.{along-along}
use Rattle.r9_locate.proofs.locate.Parts.{length-part}
use Rattle.r9_put.proofs.fills.Runs.{fails, fill_fails, fill_passes, passes, run_strip, run_written}
use Rattle.r9_locate.specs.locate.Table.{shape}
use Rattle.r9_pixels.specs.Kept.{kept_at}
use Rattle.r9_relist.proofs.arrive.Canvases.{bare_canvas}
use Rattle.r9_forest.proofs.Going.{reach_is}
use Rattle.r9_forest.proofs.images.Images.read_given.Goals as goal
use Rattle.r9_forest.proofs.images.Images.read_given.Goals.{After-get-frame}

-- the points that the fill reaches
reach : (c : After-get-frame) (p : Point) → reaches (image_at (world c.args.self.now) c.args.fill) p ≡ reaches (frame_image c.get-frame.result.now) p
unfolding world
reach c p = reach_is (shape c.args.self.now.lists) (kept_at c.args.self.now.pixels) c.args.fill p ∙ ap (λ (im : Image). reaches im p) c.get-frame.ensures

-- and its channels
word : (c : After-get-frame) → c.get-frame.result.now.chan ≡ (image_at (world c.args.self.now) c.args.fill).chan
unfolding world
word c = ap (λ (im : Image). im.chan) (sym c.get-frame.ensures) ∙ (bare_canvas (shape c.args.self.now.lists) (kept_at c.args.self.now.pixels)).chan c.args.fill

pub get-frame-requires : goal.get-frame-requires
unfolding world
get-frame-requires c = (bare_canvas (shape c.args.self.now.lists) (kept_at c.args.self.now.pixels)).live c.args.fill ∙ c.requires.live

pub returns-then-is_empty : goal.returns-then-is_empty
returns-then-is_empty c k below =
    let w = world c.args.self.now in
    let image = frame_image c.get-frame.result.now in
    let given = c.reached-given.result in
    let none = empty_holds given (along c.args.at k) (sym c.is_empty.ensures.exact ∙ c.if-is_empty.true) in
    let out = fails c.args.at (length c.args.raws.now) c.strip.result given (reaches image) c.strip.ensures c.reached-given.ensures k below none in
    c.requires.zero k below ∙ sym (fill_fails w c.args.chan.now c.args.fill (along c.args.at k) (reach (goal.at.returns-then-is_empty c).After-get-frame (along c.args.at k) ∙ out))

pub columns_in-start-requires-clause-inside : goal.columns_in-start-requires-clause-inside
columns_in-start-requires-clause-inside c p h =
    ap (λ (r : Rect). holds r p) (sym c.strip.ensures)
    ∙ (and_parts (holds c.strip.result p) (reaches (frame_image c.get-frame.result.now) p) (sym (c.reached-given.ensures p) ∙ h)).0

pub read_row-requires-clause-near : goal.read_row-requires-clause-near
read_row-requires-clause-near c =
    let run = c.columns_in-start.ensures in
    let near = c.requires.near in
    subst (IsNearBy (2 ^ 41)) (sym run.begins)
    (record {
      left = omega (arith, ints, near.left);
      right = omega (arith, ints, near.right, run.some, run.within, c.requires.few);
      top = omega (arith, ints, near.top);
      bottom = omega (arith, ints, near.bottom);
    })

pub read_row-requires-clause-inside : goal.read_row-requires-clause-inside
read_row-requires-clause-inside c p h =
    let image = frame_image c.get-frame.result.now in
    let given = c.reached-given.result in
    let first = c.columns_in-start.result.start in
    let end = c.columns_in-start.result.end in
    let run = c.columns_in-start.ensures in
    let long = length-part c.args.raws.now first (end - first) (omega (arith, run.some, run.within)) in
    let inside : holds given p ≡ true = sym (run_strip c.args.at (length c.args.raws.now) given first end run p) ∙ ap (λ n. holds (strip given.min n) p) (sym long) ∙ h in
    reach (goal.at.read_row-requires-clause-inside c).After-get-frame p
    ∙ passes c.strip.result given (reaches image) c.reached-given.ensures p inside

pub returns : goal.returns
returns c =
    let w = world c.args.self.now in
    let chan = c.args.chan.now in
    let fill = c.args.fill in
    let start = c.args.at in
    let image = frame_image c.get-frame.result.now in
    let given = c.reached-given.result in
    let raws = c.args.raws.now in
    let n = length raws in
    let first = c.columns_in-start.result.start in
    let end = c.columns_in-start.result.end in
    let run = c.columns_in-start.ensures in
    let long = length-part raws first (end - first) (omega (arith, run.some, run.within)) in
    let at_frame = (goal.at.returns c).After-get-frame in
    let from = c.get-frame.result.now.chan in
    run_written (λ k v. v ≡ fill_at w chan fill (along start k)) start n given first end raws c.convert.new.raws run refl
    (c.convert.auto.raws ∙ c.read_row.auto.raws ∙ long) c.requires.zero
    (λ j short inside.
    let p = along start (first + j) in
    let point : along given.min j ≡ p = ap (λ (q : Point). along q j) run.begins ∙ along-along start first j in
    let reached : reaches (image_at w fill) p ≡ true = reach at_frame p ∙ passes c.strip.result given (reaches image) c.reached-given.ensures p inside in
    c.convert.ensures.value j (omega (arith, c.read_row.auto.raws, long, short))
    ∙ ap (λ v. pack chan (expand from v)) (c.read_row.ensures.raws j (omega (arith, long, short)))
    ∙ (λ i. pack chan (expand (word at_frame i) (at w fill (point i))))
    ∙ fill_passes w chan fill p reached)
    (λ k below out.
    sym (fill_fails w chan fill (along start k)
    (reach at_frame (along start k) ∙ fails start n c.strip.result given (reaches image) c.strip.ensures c.reached-given.ensures k below out)))
