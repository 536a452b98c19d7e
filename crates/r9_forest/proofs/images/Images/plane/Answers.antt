use Rattle.std.proofs.Common.{◌≡◌, ◌∙◌, ℕ, Option, Some, sym, ap}
use Rattle.std.specs.Prelude.{option_map}
use Rattle.model_forest.specs.World.{image_at}
use Rattle.r9_locate.specs.locate.Forms.{form_of, Form}
use Rattle.r9_locate.specs.locate.Table.{shape}
use Rattle.r9_locate.proofs.locate.Locating.{keeping-root}
use Rattle.r9_pixels.specs.Kept.{kept_at}
use Rattle.r9_pixels.specs.Owns.{plane_form}
use Rattle.r9_forest.specs.Images.{world}
use Rattle.r9_forest.specs.Keeping.{on_plane}
use Rattle.r9_relist.proofs.arrive.Canvases.{bare_canvas, parent_same}
use Rattle.r9_forest.proofs.Showing.{shown_kept}
use Rattle.r9_put.proofs.put.Forms.{form_live, standing_nowhere}
use Rattle.r9_forest.proofs.images.Images.plane.Goals as goal
use Rattle.r9_forest.proofs.images.Images.plane.Goals.{After-plane}

-- what the image has for its pixels
form : (c : After-plane) → plane_form c.plane.result.now ≡ form_of (image_at (shape c.args.self.now.lists) c.args.i)
unfolding world
form c =
    let was = c.args.self.now in
    let same = bare_canvas (shape was.lists) (kept_at was.pixels) in
    let both : Some (plane_form c.plane.result.now) ≡ Some (form_of (image_at (shape was.lists) c.args.i)) =
    sym c.plane.ensures.form ∙ ap (λ (forms : ℕ → Option Form). forms c.args.i) was.sound.forms ∙ form_live (shape was.lists) c.args.i (same.live c.args.i ∙ c.requires.live) in
    cc

pub plane-requires : goal.plane-requires
unfolding world
plane-requires c =
    let was = c.args.self.now in
    let same = bare_canvas (shape was.lists) (kept_at was.pixels) in
    ap (λ (forms : ℕ → Option Form). option_map (λ (f : Form). f.is_window) (forms c.args.i)) was.sound.forms
    ∙ ap (option_map (λ (f : Form). f.is_window)) (form_live (shape was.lists) c.args.i (same.live c.args.i ∙ c.requires.live))
    ∙ ap (λ b. Some b) (standing_nowhere (image_at (shape was.lists) c.args.i).standing (parent_same (world was) (shape was.lists) same c.args.i ∙ c.requires.nowhere))

pub returns-clause-rect : goal.returns-clause-rect
unfolding world
returns-clause-rect c =
    let same = bare_canvas (shape c.args.self.now.lists) (kept_at c.args.self.now.pixels) in
    ap (λ (f : Form). f.r) (form (goal.at.returns-clause-rect c).After-plane) ∙ same.r c.args.i

pub returns-clause-chan : goal.returns-clause-chan
unfolding world
returns-clause-chan c =
    let same = bare_canvas (shape c.args.self.now.lists) (kept_at c.args.self.now.pixels) in
    ap (λ (f : Form). f.chan) (form (goal.at.returns-clause-chan c).After-plane) ∙ same.chan c.args.i

pub returns-clause-pixels : goal.returns-clause-pixels
unfolding world
returns-clause-pixels c p inside =
    let was = c.args.self.now in
    let same = bare_canvas (shape was.lists) (kept_at was.pixels) in
    let root = parent_same (world was) (shape was.lists) same c.args.i ∙ c.requires.nowhere in
    sym (c.plane.ensures.pixels p)
    ∙ ap (kept_at was.pixels) (sym (keeping-root (shape was.lists) c.args.i p root))
    ∙ sym (shown_kept (shape was.lists) (kept_at was.pixels) c.args.i p was.sound.forest c.requires.live inside)

pub returns-clause-kept : goal.returns-clause-kept
unfolding on_plane
returns-clause-kept c p = sym (c.plane.ensures.pixels p)
