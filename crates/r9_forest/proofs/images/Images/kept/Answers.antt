use Rattle.std.proofs.Common.{◌≡◌, ◌∙◌, ℕ, Option, Some, sym, ap, arith}
use Rattle.r9_geom.specs.Geometry.{holds}
use Rattle.model_forest.specs.World.{image_at}
use Rattle.model_kept.specs.Cells.{cell_of}
use Rattle.model_kept.specs.Keeping.{keeping, own, Place}
use Rattle.model_kept.proofs.Worlds.{standing-forest}
use Rattle.r9_plane.specs.Pixels.{along}
use Rattle.r9_locate.specs.locate.Forms.{form_of, Form}
use Rattle.r9_locate.specs.locate.Table.{shape}
use Rattle.r9_locate.proofs.locate.Locating.{along_none, keeping-root, strip_at}
use Rattle.r9_pixels.specs.Kept.{has_place, kept_at, tile_at}
use Rattle.r9_pixels.proofs.Tiled.{cell_tile}
use Rattle.r9_forest.specs.Images.{world}
use Rattle.r9_forest.specs.Keeping.{kept_itself, kept_of, tile_of}
use Rattle.r9_relist.proofs.arrive.Canvases.{bare_canvas}
use Rattle.r9_forest.proofs.Keepers.{hidden_keeps, hidden_tile, kept_nowhere, shown_keeps}
use Rattle.r9_forest.proofs.Showing.{keeping_seen, point_has, shown_kept}
use Rattle.r9_put.proofs.put.Forms.{form_live}
use Rattle.r9_forest.proofs.images.Images.kept.Goals as goal
use Rattle.r9_forest.proofs.images.Images.kept.Goals.{After-locate-run}

pub locate-run-requires-clause-live : goal.locate-run-requires-clause-live
unfolding world
locate-run-requires-clause-live c = (bare_canvas (shape c.args.self.now.lists) (kept_at c.args.self.now.pixels)).live c.args.i ∙ c.requires.live

pub locate-run-requires-clause-inside : goal.locate-run-requires-clause-inside
unfolding world
locate-run-requires-clause-inside c q h =
    let same = bare_canvas (shape c.args.self.now.lists) (kept_at c.args.self.now.pixels) in
    let found = strip_at c.args.p q 1 h in
    let first : found.0 ≡ 0 = omega (arith, found.1) in
    let is : q ≡ c.args.p = found.2 ∙ ap (along c.args.p) first ∙ along_none c.args.p in
    ap (λ r. holds r q) (same.r c.args.i) ∙ ap (holds (image_at (world c.args.self.now) c.args.i).r) is ∙ c.requires.inside

-- the place at which the point is kept
bare_place : (c : After-locate-run) → keeping (shape c.args.self.now.lists) c.args.i c.args.p ≡ own c.locate-run.result.image c.locate-run.result.at
bare_place c =
    let run = c.locate-run.result in
    ap (keeping (shape c.args.self.now.lists) c.args.i) (sym (along_none c.args.p))
    ∙ c.locate-run.ensures.kept 0 (omega (arith, c.locate-run.ensures.some))
    ∙ ap (own run.image) (along_none run.at)

place : (c : After-locate-run) → keeping (world c.args.self.now) c.args.i c.args.p ≡ own c.locate-run.result.image c.locate-run.result.at
unfolding world
place c =
    let was = c.args.self.now in
    keeping_seen (shape was.lists) (kept_at was.pixels) c.args.i c.args.p ∙ bare_place c

pub kept_itself-requires : goal.kept_itself-requires
unfolding world
kept_itself-requires c =
    let was = c.args.self.now in
    let same = bare_canvas (shape was.lists) (kept_at was.pixels) in
    ap (has_place was.pixels) (sym (bare_place (goal.at.kept_itself-requires c).After-locate-run))
    ∙ point_has was.lists was.pixels was.spare.items c.args.i c.args.p was.sound (same.live c.args.i ∙ c.requires.live) (ap (λ r. holds r c.args.p) (same.r c.args.i) ∙ c.requires.inside)

pub returns-clause-value : goal.returns-clause-value
returns-clause-value c =
    c.kept_itself.ensures.value ∙ ap (kept_itself c.args.self.now) (sym (place (goal.at.returns-clause-value c).After-locate-run))

pub returns-clause-nowhere : goal.returns-clause-nowhere
returns-clause-nowhere c root =
    let was = c.args.self.now in
    c.kept_itself.ensures.value
    ∙ ap (kept_itself was) (sym (place (goal.at.returns-clause-nowhere c).After-locate-run) ∙ keeping-root (world was) c.args.i c.args.p root)
    ∙ kept_nowhere was c.args.i c.args.p root

pub returns-clause-shown : goal.returns-clause-shown
unfolding world
returns-clause-shown c parent stands shown =
    let was = c.args.self.now in
    c.kept_itself.ensures.value
    ∙ ap (kept_itself was)
    (sym (place (goal.at.returns-clause-shown c).After-locate-run)
    ∙ shown_keeps (world was) (standing-forest (world was) was.sound.forest) c.args.i parent c.args.p c.requires.live stands shown)

pub returns-clause-hidden : goal.returns-clause-hidden
returns-clause-hidden c hidden =
    let was = c.args.self.now in
    let found = hidden_tile was c.args.i c.args.p c.requires.live c.requires.inside hidden in
    let is = c.kept_itself.ensures.value ∙ ap (kept_itself was) (sym (place (goal.at.returns-clause-hidden c).After-locate-run)) ∙ found.1.kept in
    (found.0, is, c.kept_itself.ensures.held found.0 (ap tile_of is))

pub returns-clause-alone : goal.returns-clause-alone
unfolding world
returns-clause-alone c j q hidden live inside also =
    let was = c.args.self.now in
    let here = world was in
    let i = c.args.i in
    let p = c.args.p in
    let run = c.locate-run.result in
    let bare = shape was.lists in
    let same = bare_canvas bare (kept_at was.pixels) in
    let mine = hidden_tile was i p c.requires.live c.requires.inside hidden in
    let other = hidden_tile was j q live inside also in
    let itself : own run.image run.at ≡ own i p =
    sym (place (goal.at.returns-clause-alone c).After-locate-run) ∙ (hidden_keeps here (standing-forest here was.sound.forest) i p c.requires.live hidden).0 in
    let is = c.kept_itself.ensures.value ∙ ap (kept_itself was) (sym (place (goal.at.returns-clause-alone c).After-locate-run)) ∙ mine.1.kept in
    let told : tile_of c.kept_itself.result ≡ Some mine.0 = ap tile_of is in
    let others : tile_of (kept_of was j q) ≡ Some other.0 = ap tile_of other.1.kept in
    let form = form_of (image_at bare i) in
    let formed = ap (λ (f : ℕ → Option Form). f i) was.sound.forms ∙ form_live bare i (same.live i ∙ c.requires.live) in (
      (λ one.
          let both = c.kept_itself.ensures.alone j mine.0 q told (other.1.there ∙ sym others ∙ one ∙ told) in (
            both.0 ∙ ap (λ (k : Place). k.image) itself,
            both.1 ∙ ap (λ (k : Place). cell_of (image_at here k.image).r k.at) itself,
          )),
      (λ both.
          let rect : form.r ≡ (image_at here i).r = same.r i in
          let at_j : cell_of (image_at here j).r q ≡ cell_of (image_at here i).r q = ap (λ n. cell_of (image_at here n).r q) both.0 in
          let cells : cell_of form.r q ≡ cell_of form.r p = ap (λ r. cell_of r q) rect ∙ sym at_j ∙ both.1 ∙ ap (λ r. cell_of r p) (sym rect) in
          others
          ∙ sym other.1.there
          ∙ ap (λ n. tile_at was.pixels (own n q)) both.0
          ∙ cell_tile was.pixels i q p form formed cells
          ∙ mine.1.there
          ∙ sym told),
    )

pub returns-clause-view : goal.returns-clause-view
unfolding world
returns-clause-view c =
    let was = c.args.self.now in
    shown_kept (shape was.lists) (kept_at was.pixels) c.args.i c.args.p was.sound.forest c.requires.live c.requires.inside
    ∙ ap (kept_at was.pixels) (bare_place (goal.at.returns-clause-view c).After-locate-run)
    ∙ sym c.kept_itself.ensures.pixel
