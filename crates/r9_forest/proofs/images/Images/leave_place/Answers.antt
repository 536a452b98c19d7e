use Rattle.std.proofs.Common.{◌≡◌, ◌∙◌, ◌<◌, ◌≤◌, ◌^◌, true, Some, ℕ, length, List, sym, subst, ap, arith}
use Rattle.r9_geom.specs.declared.Point.{Point}
use Rattle.r9_geom.specs.declared.Rect.{Rect}
use Rattle.r9_geom.specs.Geometry.{area_of, holds}
use Rattle.model_pixel.specs.Channels.{depth, is_descriptor}
use Rattle.model_forest.specs.Stack.{with_windows}
use Rattle.model_forest.specs.World.{Image, World, image_at, IsForest}
use Rattle.model_kept.specs.Keeping.{with_kept}
use Rattle.r9_locate.specs.declared.locate.lists.Lists.{Lists}
use Rattle.r9_locate.specs.locate.Forms.{bits_in}
use Rattle.r9_locate.specs.locate.Table.{shape}
use Rattle.r9_pixels.specs.declared.keeping.KeptPixels.{KeptPixels}
use Rattle.r9_pixels.specs.Kept.{form_at, kept_at, spare_in, wanted_in, moment, writes}
use Rattle.r9_put.specs.fills.Content.{content}
use Rattle.r9_put.specs.fills.Fills.{fill_at}
use Rattle.r9_forest.specs.Given.{given_at, left_of}
use Rattle.r9_forest.specs.Groups.{IsMoved}
use Rattle.r9_forest.specs.Images.{numbers, world}
use Rattle.r9_forest.specs.Numbered.{numbers_of}
use Rattle.r9_relist.proofs.arrive.Canvases.{bare_canvas}
use Rattle.r9_forest.proofs.Placing.{left_covers, left_filled, left_inside, left_small, moves_change, moves_fills, moves_sound, still_numbers, still_world, stood_below, stood_bits, stood_fill, stood_forest, stood_lawful, stood_parent}
use Rattle.r9_forest.proofs.images.Images.leave_place.Given.{Over}
use Rattle.r9_forest.proofs.images.Images.leave_place.Goals as goal
use Rattle.r9_forest.proofs.images.Images.leave_place.Goals.{After-content, After-gather_left-fill, After-get, Start}

-- ---- before what fills is gathered

chan : (g : Over) (c : After-get g) → c.get.result.now.chan ≡ (image_at (shape c.args.self.now.lists) c.args.standing.parent).chan
chan g c = ap (λ (image : Image). image.chan) (sym c.get.ensures)

pub get-requires : goal.get-requires
unfolding world
get-requires g c =
    let was = c.args.self.now in stood_below was.lists was.pixels was.spare.items c.args.i c.args.standing was.sound c.requires.stands

pub gather_left-fill-requires-clause-live : goal.gather_left-fill-requires-clause-live
unfolding world
gather_left-fill-requires-clause-live g c =
    let was = c.args.self.now in stood_fill was.lists was.pixels was.spare.items c.args.i c.args.standing was.sound c.requires.stands

pub gather_left-fill-requires-clause-lawful : goal.gather_left-fill-requires-clause-lawful
unfolding world
gather_left-fill-requires-clause-lawful g c =
    let was = c.args.self.now in
    subst (λ (image : Image). is_descriptor image.chan ≡ true) c.get.ensures (stood_lawful was.lists was.pixels was.spare.items c.args.i c.args.standing was.sound c.requires.stands)

pub gather_left-fill-requires-clause-room : goal.gather_left-fill-requires-clause-room
unfolding world
gather_left-fill-requires-clause-room g c =
    let was = c.args.self.now in
    let most = left_small was.lists was.pixels was.spare.items c.args.i c.args.standing was.sound c.requires.stands in
    let room = was.fills c.args.i c.args.standing.parent (stood_parent was.lists was.pixels was.spare.items c.args.i c.args.standing was.sound c.requires.stands) in
    let here = ap area_of c.place_of-left.ensures.value in
    omega (arith, most, room, here)

-- ---- and then

same : (g : Over) (c : After-gather_left-fill g) → world c.gather_left-fill.new.self ≡ world c.args.self.now
same g c = still_world c.args.self.now c.gather_left-fill.new.self c.gather_left-fill.ensures.lists c.gather_left-fill.ensures.pixels

stands : (g : Over) (c : After-gather_left-fill g) → (image_at (with_kept (shape c.gather_left-fill.new.self.lists) (kept_at c.gather_left-fill.new.self.pixels)) c.args.i).standing ≡ Some c.args.standing
unfolding world
stands g c = ap (λ (w : World). (image_at w c.args.i).standing) (same g c) ∙ c.requires.stands

moves : (g : Over) (c : After-gather_left-fill g) → IsMoved (with_kept (shape c.gather_left-fill.new.self.lists) (kept_at c.gather_left-fill.new.self.pixels)) c.args.standing.parent c.args.i c.args.list.items
unfolding world
moves g c = subst (λ (w : World). IsMoved w c.args.standing.parent c.args.i c.args.list.items) (sym (same g c)) c.requires.list

ok : (g : Over) (c : After-gather_left-fill g) → IsForest (with_windows (with_kept (shape c.gather_left-fill.new.self.lists) (kept_at c.gather_left-fill.new.self.pixels)) c.args.standing.parent c.args.list.items)
unfolding world
ok g c = subst (λ (w : World). IsForest (with_windows w c.args.standing.parent c.args.list.items)) (sym (same g c)) c.requires.forest

left : (g : Over) (c : After-gather_left-fill g) → c.place_of-left.result ≡ left_of (shape c.gather_left-fill.new.self.lists) c.args.standing.parent c.args.i
left g c = c.place_of-left.ensures.value ∙ ap (λ (lists : Lists). left_of (shape lists) c.args.standing.parent c.args.i) (sym c.gather_left-fill.ensures.lists)

-- what fills is what was gathered
fill_is : (g : Over) (c : After-content g) (z : Point) → content c.content.result z ≡ given_at c.gather_left-fill.result c.place_of-left.result c.gather_left-fill.new.self.room.items z
fill_is g c z = c.content.ensures z ∙ ap (λ (raws : List ℕ). given_at c.gather_left-fill.result c.place_of-left.result raws z) c.deref.ensures.value

pub content-requires-clause-room : goal.content-requires-clause-room
unfolding world
content-requires-clause-room g c =
    let was = c.args.self.now in
    let most = left_small was.lists was.pixels was.spare.items c.args.i c.args.standing was.sound c.requires.stands in
    let room = was.fills c.args.i c.args.standing.parent (stood_parent was.lists was.pixels was.spare.items c.args.i c.args.standing was.sound c.requires.stands) in
    let here = ap area_of c.place_of-left.ensures.value in
    let items = ap length c.deref.ensures.value in
    omega (arith, most, room, here, items, c.gather_left-fill.ensures.len, c.gather_left-fill.new.self.room.ok.0)

pub hide-requires-clause-change : goal.hide-requires-clause-change
hide-requires-clause-change g c =
    let at = (goal.at.hide-requires-clause-change g c).After-gather_left-fill in
    let now = c.gather_left-fill.new.self in
    moves_change now.lists now.pixels now.spare.items c.args.i c.args.standing now.sound (stands g at) c.args.list.items (moves g at) (ok g at)

pub hide-requires-clause-before : goal.hide-requires-clause-before
hide-requires-clause-before g c =
    let at = (goal.at.hide-requires-clause-before g c).After-gather_left-fill in
    let now = c.gather_left-fill.new.self in
    stood_forest now.lists now.pixels now.spare.items c.args.i c.args.standing now.sound (stands g at)

pub hide-requires-clause-hidden : goal.hide-requires-clause-hidden
unfolding world
hide-requires-clause-hidden g c z inside =
    let at = (goal.at.hide-requires-clause-hidden g c).After-gather_left-fill in
    let now = c.gather_left-fill.new.self in
    let p = c.args.standing.parent in
    c.requires.hidden z
    (ap (λ (w : World). holds (image_at w p).r z) (sym (same g at)) ∙ ap (λ (r : Rect). holds r z) (sym ((bare_canvas (shape now.lists) (kept_at now.pixels)).r p)) ∙ inside)

pub hide-requires-clause-forms : goal.hide-requires-clause-forms
hide-requires-clause-forms g c = c.gather_left-fill.new.self.sound.forms

pub hide-requires-clause-cells : goal.hide-requires-clause-cells
hide-requires-clause-cells g c = c.gather_left-fill.new.self.sound.cells

pub hide-requires-clause-spare : goal.hide-requires-clause-spare
hide-requires-clause-spare g c =
    subst (λ (lists : Lists). wanted_in c.gather_left-fill.new.self.pixels (shape lists) c.args.standing.parent c.args.list.items ≤ spare_in c.gather_left-fill.new.self.pixels) (sym c.gather_left-fill.ensures.lists)
    (subst (λ (pixels : KeptPixels). wanted_in pixels (shape c.args.self.now.lists) c.args.standing.parent c.args.list.items ≤ spare_in pixels) (sym c.gather_left-fill.ensures.pixels) c.requires.spare)

pub hide-requires-clause-inside : goal.hide-requires-clause-inside
hide-requires-clause-inside g c z h =
    let at = (goal.at.hide-requires-clause-inside g c).After-gather_left-fill in
    let now = c.gather_left-fill.new.self in
    left_inside now.lists now.pixels now.spare.items c.args.i c.args.standing now.sound (stands g at) z (ap (λ (r : Rect). holds r z) (sym (left g at)) ∙ h)

pub hide-requires-clause-place : goal.hide-requires-clause-place
hide-requires-clause-place g c z inside there =
    let at = (goal.at.hide-requires-clause-place g c).After-gather_left-fill in
    let now = c.gather_left-fill.new.self in
    ap (λ (r : Rect). holds r z) (left g at) ∙ left_covers now.lists now.pixels now.spare.items c.args.i c.args.standing now.sound (stands g at) z inside there

pub hide-requires-clause-fill : goal.hide-requires-clause-fill
hide-requires-clause-fill g c z =
    let at = goal.at.hide-requires-clause-fill g c in
    let now = c.gather_left-fill.new.self in
    let p = c.args.standing.parent in
    let bits : bits_in (form_at now.pixels) p ≡ depth c.get.result.now.chan =
    stood_bits now.lists now.pixels now.spare.items c.args.i c.args.standing now.sound (stands g at.After-gather_left-fill)
    ∙ ap (λ (lists : Lists). depth (image_at (shape lists) p).chan) c.gather_left-fill.ensures.lists
    ∙ ap depth (sym (chan g at.After-get)) in
    subst (λ (n : ℕ). content c.content.result z < 2 ^ n) (sym bits)
    (subst (λ (n : ℕ). n < 2 ^ depth c.get.result.now.chan) (sym (fill_is g at.After-content z)) (c.gather_left-fill.ensures.below z))

pub hide-requires-clause-fills : goal.hide-requires-clause-fills
unfolding world
hide-requires-clause-fills g c =
    let at = goal.at.hide-requires-clause-fills g c in
    let now = c.gather_left-fill.new.self in
    let lists = c.gather_left-fill.ensures.lists in
    left_filled now.lists now.pixels now.spare.items c.args.i c.args.standing now.sound (stands g at.After-gather_left-fill) (content c.content.result)
    (λ z h.
    fill_is g at.After-content z
    ∙ c.gather_left-fill.ensures.filled z (ap (λ (r : Rect). holds r z) (left g at.After-gather_left-fill) ∙ h)
    ∙ (λ j. fill_at (sym (same g at.After-gather_left-fill) j) ((chan g at.After-get ∙ ap (λ (l : Lists). (image_at (shape l) c.args.standing.parent).chan) (sym lists)) j) c.args.standing.fill z))

pub invariant_of-self-2 : goal.invariant_of-self-2
invariant_of-self-2 g c =
    let at = (goal.at.invariant_of-self-2 g c).After-gather_left-fill in
    let now = c.gather_left-fill.new.self in
    let made = c.hide.ensures in
    record {
      sound =
          moves_sound now.lists now.pixels now.spare.items c.args.i c.args.standing now.sound (stands g at) c.args.list.items (moves g at) (ok g at) c.hide.new.lists c.hide.new.pixels made.lists made.made made.world made.cells made.forms;
      back = omega (arith, made.made, now.back);
      fills = moves_fills now.lists now.pixels now.spare.items c.args.i c.args.standing now.sound (stands g at) c.args.list.items (moves g at) (ok g at) c.hide.new.lists now.room.len made.lists now.fills;
    }

pub returns-clause-world : goal.returns-clause-world
unfolding world
returns-clause-world g c =
    c.hide.ensures.world ∙ ap (λ (w : World). with_windows w c.args.standing.parent c.args.list.items) (same g (goal.at.returns-clause-world g c).After-gather_left-fill)

pub returns-clause-numbers : goal.returns-clause-numbers
unfolding numbers
returns-clause-numbers g c =
    ap (λ (n : ℕ). numbers_of n c.gather_left-fill.new.self.spare.items) c.hide.ensures.made
    ∙ still_numbers c.args.self.now c.gather_left-fill.new.self c.gather_left-fill.ensures.lists c.gather_left-fill.ensures.spare

pub returns-clause-steps : goal.returns-clause-steps
unfolding world
returns-clause-steps g c =
    let was = c.args.self.now in
    let most = left_small was.lists was.pixels was.spare.items c.args.i c.args.standing was.sound c.requires.stands in
    let here = ap area_of c.place_of-left.ensures.value in
    let window = ap area_of ((bare_canvas (shape was.lists) (kept_at was.pixels)).r c.args.i) in
    omega (arith, most, here, window, c.hide.ensures.steps)

pub returns-clause-moment : goal.returns-clause-moment
returns-clause-moment g c = c.hide.ensures.moment ∙ ap moment c.gather_left-fill.ensures.pixels

pub returns-clause-writes : goal.returns-clause-writes
returns-clause-writes g c = let same = ap writes c.gather_left-fill.ensures.pixels in omega (arith, c.hide.ensures.writes, same)
