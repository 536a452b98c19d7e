use Rattle.std.proofs.Common.{◌≡◌, ◌∙◌, ◌<◌, ◌≤◌, ◌^◌, Some, ℕ, get_or, length, sym, subst, ap, arith}
use Rattle.std.specs.Prelude.{if◌then◌else◌}
use Rattle.r9_geom.specs.declared.Point.{Point}
use Rattle.r9_geom.specs.declared.Rect.{Rect}
use Rattle.r9_geom.specs.Geometry.{area_of, holds, IsOrdered, IsRectNear}
use Rattle.model_pixel.specs.Channels.{depth}
use Rattle.model_forest.specs.Stack.{with_windows}
use Rattle.model_forest.specs.World.{Image, World, image_at, IsForest}
use Rattle.model_kept.specs.Keeping.{with_kept}
use Rattle.r9_plane.specs.Pixels.{number_of}
use Rattle.r9_locate.specs.declared.locate.lists.Lists.{Lists}
use Rattle.r9_locate.specs.locate.Forms.{bits_in}
use Rattle.r9_locate.specs.locate.Table.{shape}
use Rattle.r9_pixels.specs.declared.keeping.KeptPixels.{KeptPixels}
use Rattle.r9_pixels.specs.Kept.{form_at, kept_at, spare_in, wanted_in, moment, writes}
use Rattle.r9_put.specs.fills.Content.{content}
use Rattle.r9_put.specs.fills.Fills.{fill_at}
use Rattle.r9_put.specs.fills.Gathered.{pictured}
use Rattle.r9_relist.specs.relist.Relisting.{IsAsBefore}
use Rattle.r9_relist.proofs.relist.Lists.{lists_near}
use Rattle.r9_forest.specs.Given.{filled_at, left_of, IsEnough}
use Rattle.r9_forest.specs.Groups.{IsMoved}
use Rattle.r9_forest.specs.Images.{numbers, world}
use Rattle.r9_forest.specs.Numbered.{numbers_of}
use Rattle.r9_forest.specs.Replaced.{IsShown}
use Rattle.r9_relist.proofs.arrive.Canvases.{bare_canvas}
use Rattle.r9_forest.proofs.Placing.{given_below, given_shown, left_covers, left_inside, left_small, moves_before, moves_change, moves_fills, moves_places, moves_sound, still_numbers, still_world, stood_alive, stood_bits, stood_forest, stood_parent, stood_shown}
use Rattle.r9_forest.proofs.images.Images.take_place.Given.{Over}
use Rattle.r9_forest.proofs.images.Images.take_place.Goals as goal
use Rattle.r9_forest.proofs.images.Images.take_place.Goals.{After-content, After-get, After-new, After-read_shown, After-relist}

-- ---- before what it shows is read

pub read_shown-requires-clause-live : goal.read_shown-requires-clause-live
unfolding world
read_shown-requires-clause-live g c =
    let was = c.args.self.now in stood_shown was.lists was.pixels was.spare.items c.args.i c.args.standing was.sound c.requires.stands

pub read_shown-requires-clause-room : goal.read_shown-requires-clause-room
unfolding world
read_shown-requires-clause-room g c =
    let was = c.args.self.now in
    let most = was.fills c.args.i c.args.standing.parent (stood_parent was.lists was.pixels was.spare.items c.args.i c.args.standing was.sound c.requires.stands) in
    let same = ap area_of ((bare_canvas (shape was.lists) (kept_at was.pixels)).r c.args.i) in
    omega (arith, most, same)

-- ---- and then

same : (g : Over) (c : After-read_shown g) → world c.read_shown.new.self ≡ world c.args.self.now
same g c = still_world c.args.self.now c.read_shown.new.self c.read_shown.ensures.lists c.read_shown.ensures.pixels

stands : (g : Over) (c : After-read_shown g) → (image_at (with_kept (shape c.read_shown.new.self.lists) (kept_at c.read_shown.new.self.pixels)) c.args.i).standing ≡ Some c.args.standing
unfolding world
stands g c = ap (λ (w : World). (image_at w c.args.i).standing) (same g c) ∙ c.requires.stands

moves : (g : Over) (c : After-read_shown g) → IsMoved (with_kept (shape c.read_shown.new.self.lists) (kept_at c.read_shown.new.self.pixels)) c.args.standing.parent c.args.i c.args.list.items
unfolding world
moves g c = subst (λ (w : World). IsMoved w c.args.standing.parent c.args.i c.args.list.items) (sym (same g c)) c.requires.list

ok : (g : Over) (c : After-read_shown g) → IsForest (with_windows (with_kept (shape c.read_shown.new.self.lists) (kept_at c.read_shown.new.self.pixels)) c.args.standing.parent c.args.list.items)
unfolding world
ok g c = subst (λ (w : World). IsForest (with_windows w c.args.standing.parent c.args.list.items)) (sym (same g c)) c.requires.forest

left : (g : Over) (c : After-read_shown g) → c.place_of-left.result ≡ left_of (shape c.read_shown.new.self.lists) c.args.standing.parent c.args.i
left g c = c.place_of-left.ensures.value ∙ ap (λ (lists : Lists). left_of (shape lists) c.args.standing.parent c.args.i) (sym c.read_shown.ensures.lists)

own : (g : Over) (c : After-get g) → c.get.result.now.r ≡ (image_at (shape c.read_shown.new.self.lists) c.args.i).r
own g c = ap (λ (image : Image). image.r) (sym c.get.ensures)

shows : (g : Over) (c : After-read_shown g) → IsShown (with_kept (shape c.read_shown.new.self.lists) (kept_at c.read_shown.new.self.pixels)) c.args.i c.read_shown.new.self.room.items
unfolding world
shows g c = subst (λ (w : World). IsShown w c.args.i c.read_shown.new.self.room.items) (sym (same g c)) c.read_shown.ensures.shown

told : (g : Over) (c : After-new g) → c.get.result.now.r ≡ (image_at (shape c.read_shown.new.self.lists) c.args.i).r → (x : Point) → pictured c.new.result x ≡ (if holds (image_at (shape c.read_shown.new.self.lists) c.args.i).r x then get_or c.read_shown.new.self.room.items (number_of (image_at (shape c.read_shown.new.self.lists) c.args.i).r x) 0 else 0)
told g c rect x = c.new.ensures x ∙ (λ j. if holds (rect j) x then get_or (c.deref.ensures.value j) (number_of (rect j) x) 0 else 0)

pub get-requires : goal.get-requires
get-requires g c =
    let at = goal.at.get-requires g c in
    let now = c.read_shown.new.self in
    stood_alive now.lists now.pixels now.spare.items c.args.i c.args.standing now.sound (stands g at.After-read_shown)

pub new-requires-clause-near : goal.new-requires-clause-near
new-requires-clause-near g c =
    let at = goal.at.new-requires-clause-near g c in
    let now = c.read_shown.new.self in
    subst (λ (image : Image). IsRectNear image.r) c.get.ensures (lists_near now.lists c.args.i (stood_alive now.lists now.pixels now.spare.items c.args.i c.args.standing now.sound (stands g at.After-read_shown))).0

pub new-requires-clause-ordered : goal.new-requires-clause-ordered
new-requires-clause-ordered g c =
    let at = goal.at.new-requires-clause-ordered g c in
    let now = c.read_shown.new.self in
    let stood = stands g at.After-read_shown in
    subst (λ (image : Image). IsOrdered image.r) c.get.ensures
    ((stood_forest now.lists now.pixels now.spare.items c.args.i c.args.standing now.sound stood).images c.args.i (stood_alive now.lists now.pixels now.spare.items c.args.i c.args.standing now.sound stood)).ordered

pub new-requires-clause-enough : goal.new-requires-clause-enough
new-requires-clause-enough g c =
    let at = goal.at.new-requires-clause-enough g c in
    let now = c.read_shown.new.self in
    let rect = ap area_of (own g at.After-get) in
    let most = now.fills c.args.i c.args.standing.parent (stood_parent now.lists now.pixels now.spare.items c.args.i c.args.standing now.sound (stands g at.After-read_shown)) in
    let items = ap length c.deref.ensures.value in
    omega (arith, rect, most, items, now.room.ok.0)

pub content-requires-clause-enough : goal.content-requires-clause-enough
content-requires-clause-enough g c = subst (IsEnough c.args.fill.now) (sym c.place_of-left.ensures.value) c.requires.enough

pub relist-requires-clause-change : goal.relist-requires-clause-change
relist-requires-clause-change g c =
    let at = (goal.at.relist-requires-clause-change g c).After-read_shown in
    let now = c.read_shown.new.self in
    moves_change now.lists now.pixels now.spare.items c.args.i c.args.standing now.sound (stands g at) c.args.list.items (moves g at) (ok g at)

pub relist-requires-clause-forms : goal.relist-requires-clause-forms
relist-requires-clause-forms g c = c.read_shown.new.self.sound.forms

pub relist-requires-clause-places : goal.relist-requires-clause-places
relist-requires-clause-places g c =
    let at = (goal.at.relist-requires-clause-places g c).After-read_shown in
    let now = c.read_shown.new.self in
    moves_places now.lists now.pixels now.spare.items c.args.i c.args.standing now.sound (stands g at) c.args.list.items (moves g at) (ok g at)

pub relist-requires-clause-spare : goal.relist-requires-clause-spare
relist-requires-clause-spare g c =
    subst (λ (lists : Lists). wanted_in c.read_shown.new.self.pixels (shape lists) c.args.standing.parent c.args.list.items ≤ spare_in c.read_shown.new.self.pixels) (sym c.read_shown.ensures.lists)
    (subst (λ (pixels : KeptPixels). wanted_in pixels (shape c.args.self.now.lists) c.args.standing.parent c.args.list.items ≤ spare_in pixels) (sym c.read_shown.ensures.pixels) c.requires.spare)

pub relist-requires-clause-inside : goal.relist-requires-clause-inside
relist-requires-clause-inside g c z h =
    let at = (goal.at.relist-requires-clause-inside g c).After-read_shown in
    let now = c.read_shown.new.self in
    left_inside now.lists now.pixels now.spare.items c.args.i c.args.standing now.sound (stands g at) z (ap (λ (r : Rect). holds r z) (sym (left g at)) ∙ h)

pub relist-requires-clause-place : goal.relist-requires-clause-place
relist-requires-clause-place g c z inside there =
    let at = (goal.at.relist-requires-clause-place g c).After-read_shown in
    let now = c.read_shown.new.self in
    ap (λ (r : Rect). holds r z) (left g at) ∙ left_covers now.lists now.pixels now.spare.items c.args.i c.args.standing now.sound (stands g at) z inside there

pub relist-requires-clause-given : goal.relist-requires-clause-given
relist-requires-clause-given g c x =
    let at = goal.at.relist-requires-clause-given g c in
    let now = c.read_shown.new.self in
    given_below now.lists now.pixels now.spare.items c.args.i c.args.standing now.sound (stands g at.After-read_shown) now.room.items (pictured c.new.result) (told g at.After-new (own g at.After-get)) (shows g at.After-read_shown) x

pub relist-requires-clause-fill : goal.relist-requires-clause-fill
relist-requires-clause-fill g c z =
    let at = (goal.at.relist-requires-clause-fill g c).After-read_shown in
    let now = c.read_shown.new.self in
    let p = c.args.standing.parent in
    let bits : bits_in (form_at now.pixels) p ≡ depth (image_at (shape c.args.self.now.lists) p).chan =
    stood_bits now.lists now.pixels now.spare.items c.args.i c.args.standing now.sound (stands g at) ∙ ap (λ (lists : Lists). depth (image_at (shape lists) p).chan) c.read_shown.ensures.lists in
    let is : content c.content.result z ≡ filled_at c.args.fill.now (left_of (shape c.args.self.now.lists) p c.args.i) z =
    c.content.ensures z ∙ ap (λ (r : Rect). filled_at c.args.fill.now r z) c.place_of-left.ensures.value in
    subst (λ (n : ℕ). content c.content.result z < 2 ^ n) (sym bits)
    (subst (λ (n : ℕ). n < 2 ^ depth (image_at (shape c.args.self.now.lists) p).chan) (sym is) (c.requires.below z))

-- the pixels before, with what is given and what fills
before : (g : Over) (c : After-relist g) → (image_at (with_kept (shape c.read_shown.new.self.lists) (kept_at c.read_shown.new.self.pixels)) c.args.i).standing ≡ Some c.args.standing → IsMoved (with_kept (shape c.read_shown.new.self.lists) (kept_at c.read_shown.new.self.pixels)) c.args.standing.parent c.args.i c.args.list.items → IsForest (with_windows (with_kept (shape c.read_shown.new.self.lists) (kept_at c.read_shown.new.self.pixels)) c.args.standing.parent c.args.list.items)
    → world c.read_shown.new.self ≡ world c.args.self.now → IsShown (with_kept (shape c.read_shown.new.self.lists) (kept_at c.read_shown.new.self.pixels)) c.args.i c.read_shown.new.self.room.items
    → ((x : Point) → pictured c.new.result x ≡ (if holds (image_at (shape c.read_shown.new.self.lists) c.args.i).r x then get_or c.read_shown.new.self.room.items (number_of (image_at (shape c.read_shown.new.self.lists) c.args.i).r x) 0 else 0))
    → IsAsBefore (shape c.read_shown.new.self.lists) c.args.standing.parent c.args.i c.args.list.items (pictured c.new.result) (content c.content.result) (kept_at c.read_shown.new.self.pixels) (kept_at c.read_shown.new.self.pixels)
unfolding world
before g c stood moved forest still shown_so told_so =
    let now = c.read_shown.new.self in
    let p = c.args.standing.parent in
    let lists = c.read_shown.ensures.lists in
    moves_before now.lists now.pixels now.spare.items c.args.i c.args.standing now.sound stood c.args.list.items moved forest (pictured c.new.result) (content c.content.result)
    (given_shown now.lists now.pixels now.spare.items c.args.i c.args.standing now.sound stood now.room.items (pictured c.new.result) told_so shown_so)
    (λ z h.
    c.content.ensures z
    ∙ ap (λ (r : Rect). filled_at c.args.fill.now r z) c.place_of-left.ensures.value
    ∙ c.requires.filled z (ap (λ (l : Lists). holds (left_of (shape l) p c.args.i) z) (sym lists) ∙ h)
    ∙ (λ j. fill_at (sym still j) (image_at (shape (sym lists j)) p).chan c.args.standing.fill z))

pub invariant_of-self : goal.invariant_of-self
unfolding world
invariant_of-self g c =
    let at = goal.at.invariant_of-self g c in
    let read = at.After-read_shown in
    let now = c.read_shown.new.self in
    let made = c.relist.ensures in
    let after = made.world (kept_at now.pixels) (before g at.After-relist (stands g read) (moves g read) (ok g read) (same g read) (shows g read) (told g at.After-new (own g at.After-get))) in
    record {
      sound =
          moves_sound now.lists now.pixels now.spare.items c.args.i c.args.standing now.sound (stands g read) c.args.list.items (moves g read) (ok g read) c.relist.new.lists c.relist.new.pixels made.lists made.made after made.cells made.forms;
      back = omega (arith, made.made, now.back);
      fills = moves_fills now.lists now.pixels now.spare.items c.args.i c.args.standing now.sound (stands g read) c.args.list.items (moves g read) (ok g read) c.relist.new.lists now.room.len made.lists now.fills;
    }

pub returns-clause-world : goal.returns-clause-world
unfolding world
returns-clause-world g c =
    let at = goal.at.returns-clause-world g c in
    let read = at.After-read_shown in
    let now = c.read_shown.new.self in
    c.relist.ensures.world (kept_at now.pixels) (before g at.After-relist (stands g read) (moves g read) (ok g read) (same g read) (shows g read) (told g at.After-new (own g at.After-get)))
    ∙ ap (λ (w : World). with_windows w c.args.standing.parent c.args.list.items) (same g read)

pub returns-clause-numbers : goal.returns-clause-numbers
unfolding numbers
returns-clause-numbers g c =
    ap (λ (n : ℕ). numbers_of n c.read_shown.new.self.spare.items) c.relist.ensures.made
    ∙ still_numbers c.args.self.now c.read_shown.new.self c.read_shown.ensures.lists c.read_shown.ensures.spare

pub returns-clause-steps : goal.returns-clause-steps
unfolding world
returns-clause-steps g c =
    let read = (goal.at.returns-clause-steps g c).After-read_shown in
    let now = c.read_shown.new.self in
    let most = left_small now.lists now.pixels now.spare.items c.args.i c.args.standing now.sound (stands g read) in
    let here = ap area_of (left g read) in
    let window = ap area_of ((bare_canvas (shape now.lists) (kept_at now.pixels)).r c.args.i) ∙ ap (λ (w : World). area_of (image_at w c.args.i).r) (same g read) in
    omega (arith, most, here, window, c.relist.ensures.steps)

pub returns-clause-moment : goal.returns-clause-moment
returns-clause-moment g c = c.relist.ensures.moment ∙ ap moment c.read_shown.ensures.pixels

pub returns-clause-writes : goal.returns-clause-writes
returns-clause-writes g c = let same = ap writes c.read_shown.ensures.pixels in omega (arith, c.relist.ensures.writes, same)
