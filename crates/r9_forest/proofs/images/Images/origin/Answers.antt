use Rattle.std.proofs.Common.{◌≡◌, ◌∙◌, Option, Some, sym, subst, ap, arith}
use Rattle.std.specs.Prelude.{IfSome, option_map}
use Rattle.model_forest.specs.declared.Standing.{Standing}
use Rattle.model_forest.specs.Stack.{moved}
use Rattle.model_forest.specs.Steps.{carried_rect}
use Rattle.model_forest.specs.World.{Image, World, image_at, IsLive}
use Rattle.model_forest.proofs.Windows.{lives-with_windows}
use Rattle.model_kept.specs.Keeping.{place_among}
use Rattle.r9_locate.specs.locate.Table.{shape}
use Rattle.r9_pixels.specs.Kept.{kept_at}
use Rattle.r9_forest.specs.Images.{world}
use Rattle.r9_relist.proofs.arrive.Canvases.{bare_canvas}
use Rattle.r9_forest.proofs.Moves.{origin_root, origin_window}
use Rattle.r9_forest.proofs.images.Images.origin.Given.{Over}
use Rattle.r9_forest.proofs.images.Images.origin.Goals as goal
use Rattle.r9_forest.proofs.images.Images.origin.Goals.{After-get, In-Some}

-- where the window stands
stands : (g : Over) (c : In-Some g) → (image_at (world c.args.self.now) c.args.i).standing ≡ Some c.in-Some.standing
unfolding world
stands g c =
    sym ((bare_canvas (shape c.args.self.now.lists) (kept_at c.args.self.now.pixels)).standing c.args.i)
    ∙ ap (λ (image : Image). image.standing) c.get.ensures ∙ c.in-Some.is

pub get-requires : goal.get-requires
unfolding world
get-requires g c = (bare_canvas (shape c.args.self.now.lists) (kept_at c.args.self.now.pixels)).live c.args.i ∙ c.requires.live

pub move_window-requires-clause-stands : goal.move_window-requires-clause-stands
move_window-requires-clause-stands g c = stands g (goal.at.move_window-requires-clause-stands g c).In-Some

pub shift_own-requires-2-clause-live : goal.shift_own-requires-2-clause-live
unfolding world
shift_own-requires-2-clause-live g c =
    let at = goal.at.shift_own-requires-2-clause-live g c in
    let w = world c.args.self.now in
    let p = c.in-Some.standing.parent in
    let r = (image_at w c.args.i).r in
    let below = c.args.self.now.sound.forest.parents c.args.i p c.requires.live (ap (option_map (λ (s : Standing). s.parent)) (stands g at.In-Some)) in
    subst (λ (v : World). IsLive v c.args.i) (sym c.in_ok-move_window.ensures.world)
    (lives-with_windows w p (moved c.args.i (carried_rect r r.min c.args.corner) (image_at w p).windows) c.args.i below ∙ c.requires.live)

pub returns-clause-moved : goal.returns-clause-moved
unfolding world
returns-clause-moved g c =
    let at = goal.at.returns-clause-moved g c in
    c.shift_own-2.ensures.world
    ∙ origin_window (world c.args.self.now) c.args.i c.in-Some.standing c.args.min c.args.corner c.args.self.now.sound.forest (stands g at.In-Some) (world c.move_window.new.self) c.in_ok-move_window.ensures.world

pub returns-in_default-clause-moved : goal.returns-in_default-clause-moved
unfolding world
returns-in_default-clause-moved g c =
    let nowhere =
    ap (option_map (λ (s : Standing). s.parent))
    (sym ((bare_canvas (shape c.args.self.now.lists) (kept_at c.args.self.now.pixels)).standing c.args.i)
    ∙ ap (λ (image : Image). image.standing) c.get.ensures ∙ c.in_default.is) in
    c.shift_own.ensures.world ∙ origin_root (world c.args.self.now) c.args.i c.args.min c.args.corner nowhere

pub returns-clause-still : goal.returns-clause-still
unfolding world
returns-clause-still g c has =
    let at = goal.at.returns-clause-still g c in
    let r = (image_at (world c.args.self.now) c.args.i).r in
    let place = carried_rect r r.min c.args.corner in
    c.move_window.ensures.still (subst (λ (o : Option Standing). IfSome o (λ s. place_among (image_at (world c.args.self.now) s.parent).windows c.args.i ≡ place)) (stands g at.In-Some) has)

pub returns-clause-moment : goal.returns-clause-moment
returns-clause-moment g c = c.shift_own-2.ensures.moment ∙ c.move_window.ensures.moment

pub returns-clause-writes : goal.returns-clause-writes
returns-clause-writes g c = omega (arith, c.shift_own-2.ensures.writes, c.move_window.ensures.writes)

pub returns-in_default-clause-writes : goal.returns-in_default-clause-writes
returns-in_default-clause-writes g c = omega (arith, c.shift_own.ensures.writes)
