use Rattle.std.proofs.Common.{◌≡◌, ◌∙◌, ℕ, ◌+◌, ◌<◌, ◌≤◌, ◌^◌, true, All, List, ◌∷◌, [], get_or, length, sym, ap, subst, arith}
use Rattle.std.specs.Prelude.{is_some, option_map, vec_capacity, vec_len, if◌then◌else◌}
use Rattle.r9_geom.specs.declared.Point.{Point}
use Rattle.r9_geom.specs.declared.Rect.{Rect}
use Rattle.r9_geom.specs.Geometry.{area_of, holds}
use Rattle.r9_plane.specs.Pixels.{number_of}
use Rattle.model_pixel.specs.Channels.{depth}
use Rattle.model_forest.specs.declared.Window.{Window}
use Rattle.model_forest.specs.Numbers.{next_number, taken}
use Rattle.model_forest.specs.World.{Image, World, image_at, SameSize}
use Rattle.model_forest.proofs.Changes.{live-standing}
use Rattle.model_kept.specs.Keeping.{place_among}
use Rattle.model_kept.proofs.Worlds.{pictured}
use Rattle.r9_locate.specs.declared.locate.lists.Lists.{Lists}
use Rattle.r9_locate.specs.locate.Table.{shape, HasRoom}
use Rattle.r9_locate.specs.locate.Table as table
use Rattle.r9_pixels.specs.declared.keeping.KeptPixels.{KeptPixels}
use Rattle.r9_pixels.specs.Kept.{kept_at, room_of, spare_in, wanted_in, moment, writes}
use Rattle.r9_pixels.specs.Places.{StandsOn}
use Rattle.r9_cells.specs.Fitting.{AreOne}
use Rattle.r9_relist.specs.arrive.Arriving.{after_coming, with_coming, IsLeft, IsLeftOf}
use Rattle.r9_relist.proofs.arrive.Bare.{bared_lists}
use Rattle.r9_relist.proofs.arrive.Canvases.{bare_canvas}
use Rattle.r9_relist.proofs.arrive.Entering.{on_err}
use Rattle.r9_relist.proofs.arrive.Windows.{later_stands}
use Rattle.r9_forest.specs.declared.coming.Given.{Given}
use Rattle.r9_forest.specs.Given.{given_at}
use Rattle.r9_forest.specs.Images.{numbers, world}
use Rattle.r9_forest.specs.Replaced.{moved_out, put_in, replaced, IsFarOff, IsLater, IsReplacing, IsShown}
use Rattle.r9_forest.proofs.Exchanged.{came, came_forest, first_stands, given_comes, given_fits, given_keeps, if_some_more, left_cells, left_forest, left_hidden, left_live, left_moved, left_ones, left_own, left_world, list_comes, old_rect, old_stands, stands_at}
use Rattle.r9_forest.proofs.Going.{parent_is}
use Rattle.r9_forest.proofs.Numbers.{peeked}
use Rattle.r9_forest.proofs.Placing.{still_numbers, still_world}
use Rattle.r9_forest.proofs.Sounding.{sound_forest, sound_live}
use Rattle.r9_forest.proofs.images.Images.exchange.Given.{Over}
use Rattle.r9_forest.proofs.images.Images.exchange.Goals as goal
use Rattle.r9_forest.proofs.images.Images.exchange.Goals.{After-given-given, In_ok-come}

pub given-given-requires-clause-room : goal.given-given-requires-clause-room
unfolding world
given-given-requires-clause-room g c =
    let now = c.reserve_window.new.self in
    let stands = ap (λ (w : World). (image_at w c.args.old).standing) c.in_ok-reserve_window.ensures.kept.world ∙ c.requires.left in
    let most = now.fills c.args.old c.args.left.parent (parent_is (shape now.lists) (kept_at now.pixels) c.args.old ∙ stands_at (world now) c.args.old c.args.left stands) in
    let size = ap area_of ((bare_canvas (shape now.lists) (kept_at now.pixels)).r c.args.old) in
    omega (arith, most, size)

-- ---- once the pixels are at hand: what was prepared is so still

same_made : (g : Over) (c : After-given-given g) → world c.given-given.new.self ≡ world c.reserve_window.new.self
same_made g c = still_world c.reserve_window.new.self c.given-given.new.self c.given-given.ensures.lists c.given-given.ensures.pixels

same : (g : Over) (c : After-given-given g) → world c.given-given.new.self ≡ world c.args.self.now
same g c = same_made g c ∙ c.in_ok-reserve_window.ensures.kept.world

number : (g : Over) (c : After-given-given g) → c.in_ok-exchange.exchange.window.image ≡ next_number (numbers c.given-given.new.self)
number g c = c.in_ok-exchange.ensures.number ∙ ap next_number (sym (still_numbers c.reserve_window.new.self c.given-given.new.self c.given-given.ensures.lists c.given-given.ensures.spare))

few : (g : Over) (c : After-given-given g) → ((image_at (shape c.given-given.new.self.lists) c.args.standing.parent).depth + 1 < 2 ^ 32) × (length (image_at (shape c.given-given.new.self.lists) c.args.standing.parent).windows + 1 < 2 ^ 32)
few g c =
    subst (λ (l : Lists). ((image_at (shape l) c.args.standing.parent).depth + 1 < 2 ^ 32) × (length (image_at (shape l) c.args.standing.parent).windows + 1 < 2 ^ 32)) (sym c.given-given.ensures.lists) c.in_ok-exchange.ensures.few

listed : (g : Over) (c : After-given-given g) → c.in_ok-exchange.exchange.list.items ≡ put_in c.args.rank c.in_ok-exchange.exchange.window (image_at (shape c.given-given.new.self.lists) c.args.standing.parent).windows
listed g c =
    c.in_ok-exchange.ensures.list ∙ ap (λ (l : Lists). put_in c.args.rank c.in_ok-exchange.exchange.window (image_at (shape l) c.args.standing.parent).windows) (sym c.given-given.ensures.lists)

moves : (g : Over) (c : After-given-given g) → IsLater (shape c.given-given.new.self.lists) c.args.old c.args.left.parent c.args.standing.parent c.in_ok-exchange.exchange.list.items c.in_ok-exchange.exchange.later.items
moves g c =
    subst (λ (l : Lists). IsLater (shape l) c.args.old c.args.left.parent c.args.standing.parent c.in_ok-exchange.exchange.list.items c.in_ok-exchange.exchange.later.items) (sym c.given-given.ensures.lists) c.in_ok-exchange.ensures.later

-- what the new window needs, by the world and by the lists
needs : (g : Over) (c : After-given-given g) → IsReplacing (world c.given-given.new.self) c.in_ok-exchange.exchange.window.image c.args.old c.args.left c.args.standing c.args.rank c.args.r c.args.corner c.args.raw c.args.keep
unfolding world numbers
needs g c =
    let now = c.given-given.new.self in
    let p = c.args.standing.parent in
    let i = c.in_ok-exchange.exchange.window.image in
    let is = same g c in
    let image = bare_canvas (shape now.lists) (kept_at now.pixels) in
    let deep = image.deep p in
    let long = ap length (image.windows p) in
    let room = few g c in
    record {
      free = ap (option_map {T = Image} (pictured (shape now.lists) (kept_at now.pixels) i)) (peeked (shape now.lists) (table.made now.lists) now.spare.items i (number g c) now.sound.numbers).1;
      left_at = ap (λ (w : World). (image_at w c.args.old).standing) is ∙ c.requires.left;
      beside = c.requires.beside;
      parent_live = ap (λ (w : World). is_some (w p)) is ∙ c.requires.parent;
      fill_live = ap (λ (w : World). is_some (w c.args.standing.fill)) is ∙ c.requires.fill;
      shallow = omega (arith, deep, room.0);
      few = omega (arith, long, room.1);
      near = c.requires.near;
      ordered = c.requires.ordered;
      near_corner = c.requires.corner;
      fits = subst (λ (w : World). c.args.raw < 2 ^ depth (image_at w p).chan) (sym is) c.requires.raw;
      chan = λ keep. ap (λ (w : World). (image_at w p).chan) is ∙ c.requires.chan keep ∙ sym (ap (λ (w : World). (image_at w c.args.old).chan) is);
    }

sized : (g : Over) (c : After-given-given g) → c.args.keep ≡ true → SameSize c.args.r (image_at (world c.given-given.new.self) c.args.old).r
sized g c keep = subst (λ (w : World). SameSize c.args.r (image_at w c.args.old).r) (sym (same g c)) (c.requires.size keep)

shows : (g : Over) (c : After-given-given g) → c.args.keep ≡ true → IsShown (world c.given-given.new.self) c.args.old c.given-given.new.self.room.items
shows g c keep = subst (λ (w : World). IsShown w c.args.old c.given-given.new.self.room.items) (sym (same_made g c)) (c.given-given.ensures.shown keep)

-- what it comes with
told : (g : Over) (c : After-given-given g) (p : Point) → given_at c.given-given.result c.args.r c.given-given.new.self.room.items p ≡ (if c.args.keep then (if holds c.args.r p then get_or c.given-given.new.self.room.items (number_of c.args.r p) 0 else 0) else c.args.raw)
told g c p = ap (λ (given : Given). given_at given c.args.r c.given-given.new.self.room.items p) c.given-given.ensures.value ∙ given_keeps c.args.keep c.args.raw c.args.r c.given-given.new.self.room.items p

fits : (g : Over) (c : After-given-given g) (p : Point) → given_at c.given-given.result c.args.r c.given-given.new.self.room.items p < 2 ^ depth (image_at (world c.given-given.new.self) c.args.standing.parent).chan
unfolding world
fits g c p =
    let now = c.given-given.new.self in
    let w = world now in
    let is = needs g c in
    given_fits w c.args.old c.args.r c.args.raw c.args.keep now.room.items (given_at c.given-given.result c.args.r now.room.items) (told g c) (sized g c) (shows g c) (image_at w c.args.standing.parent).chan now.sound.forest
    (live-standing w c.args.old c.args.left.parent (stands_at w c.args.old c.args.left is.left_at)) is.chan is.fits p

-- the world when it came
comes : (g : Over) (c : After-given-given g) → after_coming (world c.given-given.new.self) c.in_ok-exchange.exchange.window.image c.args.standing.parent c.args.standing.fill c.args.r (given_at c.given-given.result c.args.r c.given-given.new.self.room.items) c.in_ok-exchange.exchange.list.items ≡ replaced (world c.given-given.new.self) c.in_ok-exchange.exchange.window.image c.args.old c.args.standing c.args.rank c.args.r c.args.corner c.args.raw c.args.keep
unfolding world
comes g c =
    let now = c.given-given.new.self in
    let made = c.in_ok-exchange.exchange in
    came (shape now.lists) (kept_at now.pixels) made.window c.args.old c.args.left c.args.standing c.args.rank c.args.r c.args.corner c.args.raw c.args.keep now.sound.forest (needs g c) c.in_ok-exchange.ensures.place made.list.items (listed g c) (given_at c.given-given.result c.args.r now.room.items)
    (given_comes (world now) c.args.old c.args.r c.args.raw c.args.keep now.room.items (given_at c.given-given.result c.args.r now.room.items) (told g c) (sized g c) (shows g c) made.window.image c.args.standing.parent c.args.standing.fill made.list.items)

-- ---- what is asked for then

pub come-requires-clause-number : goal.come-requires-clause-number
come-requires-clause-number g c = number g (goal.at.come-requires-clause-number g c).After-given-given

pub come-requires-clause-room : goal.come-requires-clause-room
come-requires-clause-room g c =
    subst (λ (l : Lists). (i : ℕ) → i ≤ table.made l → HasRoom l i) (sym c.given-given.ensures.lists) c.in_ok-reserve_window.ensures.list

pub come-requires-clause-place : goal.come-requires-clause-place
come-requires-clause-place g c =
    subst (λ (l : Lists). table.made l < room_of c.given-given.new.self.pixels) (sym c.given-given.ensures.lists)
    (subst (λ (pixels : KeptPixels). table.made c.reserve_window.new.self.lists < room_of pixels) (sym c.given-given.ensures.pixels) c.in_ok-reserve_window.ensures.pixels)

pub come-requires-clause-back : goal.come-requires-clause-back
come-requires-clause-back g c =
    let count = ap table.made c.given-given.ensures.lists in
    let same_room : vec_capacity c.given-given.new.self.spare ≡ vec_capacity c.reserve_window.new.self.spare = λ j. vec_capacity (c.given-given.ensures.spare j) in
    omega (arith, count, same_room, c.in_ok-reserve_window.ensures.back)

pub come-requires-clause-fills : goal.come-requires-clause-fills
come-requires-clause-fills g c = omega (arith, c.given-given.ensures.len, c.in_ok-reserve_window.ensures.fills)

pub come-requires-clause-parent : goal.come-requires-clause-parent
come-requires-clause-parent g c = (needs g (goal.at.come-requires-clause-parent g c).After-given-given).parent_live

pub come-requires-clause-few : goal.come-requires-clause-few
come-requires-clause-few g c = (few g (goal.at.come-requires-clause-few g c).After-given-given).0

pub come-requires-clause-coming : goal.come-requires-clause-coming
unfolding world
come-requires-clause-coming g c =
    let at = (goal.at.come-requires-clause-coming g c).After-given-given in
    let now = c.given-given.new.self in
    let made = c.in_ok-exchange.exchange in
    list_comes (shape now.lists) (kept_at now.pixels) made.window c.args.old c.args.left c.args.standing c.args.rank c.args.r c.args.corner c.args.raw c.args.keep now.sound.forest (needs g at) c.in_ok-exchange.ensures.place made.list.items (listed g at)

pub come-requires-clause-forest : goal.come-requires-clause-forest
unfolding world
come-requires-clause-forest g c =
    let at = (goal.at.come-requires-clause-forest g c).After-given-given in
    let now = c.given-given.new.self in
    let made = c.in_ok-exchange.exchange in
    came_forest (shape now.lists) (kept_at now.pixels) made.window c.args.old c.args.left c.args.standing c.args.rank c.args.r c.args.corner c.args.raw c.args.keep now.sound.forest (needs g at) c.in_ok-exchange.ensures.place made.list.items (listed g at) (given_at c.given-given.result c.args.r now.room.items) (comes g at)

pub come-requires-clause-given : goal.come-requires-clause-given
unfolding world
come-requires-clause-given g c x =
    let now = c.given-given.new.self in
    subst (λ (n : ℕ). given_at c.given-given.result c.args.r now.room.items x < 2 ^ depth n) (sym ((bare_canvas (shape now.lists) (kept_at now.pixels)).chan c.args.standing.parent))
    (fits g (goal.at.come-requires-clause-given g c).After-given-given x)

pub come-requires-clause-also : goal.come-requires-clause-also
unfolding world
come-requires-clause-also g c =
    let now = c.given-given.new.self in
    sound_live now.lists (kept_at now.pixels) c.args.left.parent (left_live (world now) c.in_ok-exchange.exchange.window.image c.args.old c.args.left c.args.standing c.args.rank c.args.r c.args.corner c.args.raw c.args.keep now.sound.forest (needs g (goal.at.come-requires-clause-also g c).After-given-given))

pub come-requires-clause-later : goal.come-requires-clause-later
unfolding world numbers
come-requires-clause-later g c =
    let at = (goal.at.come-requires-clause-later g c).After-given-given in
    let now = c.given-given.new.self in
    let made = c.in_ok-exchange.exchange in
    let i = made.window.image in
    let p = c.args.standing.parent in
    let is = needs g at in
    let ws = made.list.items in
    let given = given_at c.given-given.result c.args.r now.room.items in
    let live = sound_live now.lists (kept_at now.pixels) c.args.left.parent (left_live (world now) i c.args.old c.args.left c.args.standing c.args.rank c.args.r c.args.corner c.args.raw c.args.keep now.sound.forest is) in
    subst (All (StandsOn (with_coming (shape now.lists) i p c.args.standing.fill c.args.r) c.args.left.parent)) (sym c.deref-2.ensures.value)
    (later_stands (shape now.lists) (kept_at now.pixels) i p c.args.standing.fill c.args.r
    (record {
      free = (peeked (shape now.lists) (table.made now.lists) now.spare.items i (number g at) now.sound.numbers).1;
      bare = bared_lists now.lists;
      whole = now.sound.forest;
      live = sound_live now.lists (kept_at now.pixels) p is.parent_live;
    })
    given ws c.args.left.parent made.later.items live
    (left_forest (shape now.lists) (kept_at now.pixels) made.window c.args.old c.args.left c.args.standing c.args.rank c.args.r c.args.corner c.args.raw c.args.keep now.sound.forest is c.in_ok-exchange.ensures.place ws (listed g at)
    (after_coming (world now) i p c.args.standing.fill c.args.r given ws) made.later.items (comes g at) (moves g at)))

pub come-requires-clause-later_one : goal.come-requires-clause-later_one
unfolding world
come-requires-clause-later_one g c =
    let at = (goal.at.come-requires-clause-later_one g c).After-given-given in
    let now = c.given-given.new.self in
    let made = c.in_ok-exchange.exchange in
    subst AreOne (sym c.deref-2.ensures.value)
    (left_ones (shape now.lists) (kept_at now.pixels) made.window c.args.old c.args.left c.args.standing c.args.rank c.args.r c.args.corner c.args.raw c.args.keep now.sound.forest (needs g at) c.in_ok-exchange.ensures.place made.list.items (listed g at)
    (after_coming (world now) made.window.image c.args.standing.parent c.args.standing.fill c.args.r (given_at c.given-given.result c.args.r now.room.items) made.list.items) made.later.items (comes g at) (moves g at))

pub come-requires-clause-left : goal.come-requires-clause-left
unfolding world
come-requires-clause-left g c =
    let at = (goal.at.come-requires-clause-left g c).After-given-given in
    let now = c.given-given.new.self in
    let made = c.in_ok-exchange.exchange in
    let cells = left_cells (shape now.lists) (kept_at now.pixels) made.window c.args.old c.args.left c.args.standing c.args.rank c.args.r c.args.corner c.args.raw c.args.keep now.sound.forest (needs g at) c.in_ok-exchange.ensures.place made.list.items (listed g at)
    made.later.items (sound_forest now.lists (kept_at now.pixels) now.sound.forest) (moves g at) in
    let place : c.place_among.result ≡ place_among made.later.items c.args.old = c.place_among.ensures ∙ (λ j. place_among (c.deref.ensures.value j) c.args.old) in
    subst (λ (vs : List Window). IsLeft (shape now.lists) c.args.standing.parent made.list.items c.args.left.parent vs (c.place_among.result ∷ [])) (sym c.deref-2.ensures.value)
    (subst (λ (r : Rect). IsLeft (shape now.lists) c.args.standing.parent made.list.items c.args.left.parent made.later.items (r ∷ [])) (sym place) cells)

pub come-requires-clause-left_own : goal.come-requires-clause-left_own
unfolding world
come-requires-clause-left_own g c =
    let at = (goal.at.come-requires-clause-left_own g c).After-given-given in
    let now = c.given-given.new.self in
    let made = c.in_ok-exchange.exchange in
    let cells = left_own (shape now.lists) (kept_at now.pixels) made.window c.args.old c.args.left c.args.standing c.args.rank c.args.r c.args.corner c.args.raw c.args.keep now.sound.forest (needs g at) c.in_ok-exchange.ensures.place made.list.items (listed g at)
    made.later.items (sound_forest now.lists (kept_at now.pixels) now.sound.forest) (moves g at) in
    let place : c.place_among.result ≡ place_among made.later.items c.args.old = c.place_among.ensures ∙ (λ j. place_among (c.deref.ensures.value j) c.args.old) in
    subst (λ (vs : List Window). IsLeftOf (shape now.lists) c.args.standing.parent made.list.items c.args.left.parent vs (c.place_among.result ∷ []) made.window.image c.args.r) (sym c.deref-2.ensures.value)
    (subst (λ (r : Rect). IsLeftOf (shape now.lists) c.args.standing.parent made.list.items c.args.left.parent made.later.items (r ∷ []) made.window.image c.args.r) (sym place) cells)

pub come-requires-clause-stands : goal.come-requires-clause-stands
unfolding world
come-requires-clause-stands g c =
    let at = (goal.at.come-requires-clause-stands g c).After-given-given in
    let now = c.given-given.new.self in
    let made = c.in_ok-exchange.exchange in
    first_stands (shape now.lists) (kept_at now.pixels) made.window c.args.old c.args.left c.args.standing c.args.rank c.args.r c.args.corner c.args.raw c.args.keep now.sound.forest (needs g at) c.in_ok-exchange.ensures.place made.list.items (listed g at)

-- ---- and when it came

after : (g : Over) (c : In_ok-come g) → after_coming (world c.given-given.new.self) c.in_ok-exchange.exchange.window.image c.args.standing.parent c.args.standing.fill c.args.r (given_at c.given-given.result c.args.r c.given-given.new.self.room.items) c.in_ok-exchange.exchange.list.items ≡ replaced (world c.given-given.new.self) c.in_ok-exchange.exchange.window.image c.args.old c.args.standing c.args.rank c.args.r c.args.corner c.args.raw c.args.keep → world c.come.new.self ≡ replaced (world c.given-given.new.self) c.in_ok-exchange.exchange.window.image c.args.old c.args.standing c.args.rank c.args.r c.args.corner c.args.raw c.args.keep
after g c comes = c.in_ok-come.ensures.world ∙ comes

pub move_away-requires-clause-stands : goal.move_away-requires-clause-stands
unfolding world
move_away-requires-clause-stands g c =
    let at = goal.at.move_away-requires-clause-stands g c in
    let now = c.given-given.new.self in
    ap (λ (w : World). (image_at w c.args.old).standing) (after g at.In_ok-come (comes g at.After-given-given))
    ∙ old_stands (world now) c.in_ok-exchange.exchange.window.image c.args.old c.args.left c.args.standing c.args.rank c.args.r c.args.corner c.args.raw c.args.keep now.sound.forest (needs g at.After-given-given)

-- the other is as large as it was
size : (g : Over) (c : In_ok-come g) (own : (image_at (replaced (world c.given-given.new.self) c.in_ok-exchange.exchange.window.image c.args.old c.args.standing c.args.rank c.args.r c.args.corner c.args.raw c.args.keep) c.args.old).r ≡ (image_at (world c.given-given.new.self) c.args.old).r) → world c.come.new.self ≡ replaced (world c.given-given.new.self) c.in_ok-exchange.exchange.window.image c.args.old c.args.standing c.args.rank c.args.r c.args.corner c.args.raw c.args.keep → area_of (image_at (world c.come.new.self) c.args.old).r ≡ area_of (image_at (world c.given-given.new.self) c.args.old).r
size g c own came_so = ap (λ (w : World). area_of (image_at w c.args.old).r) came_so ∙ ap area_of own

pub move_away-requires-clause-rows : goal.move_away-requires-clause-rows
unfolding world
move_away-requires-clause-rows g c =
    let at = goal.at.move_away-requires-clause-rows g c in
    let now = c.given-given.new.self in
    let own = old_rect (world now) c.in_ok-exchange.exchange.window.image c.args.old c.args.left c.args.standing c.args.rank c.args.r c.args.corner c.args.raw c.args.keep now.sound.forest (needs g at.After-given-given) in
    let same_size = size g at.In_ok-come own (after g at.In_ok-come (comes g at.After-given-given)) in
    let bare = ap area_of ((bare_canvas (shape now.lists) (kept_at now.pixels)).r c.args.old) in
    let lists = ap (λ (l : Lists). area_of (image_at (shape l) c.args.old).r) c.given-given.ensures.lists in
    if_some_more c.in_ok-exchange.exchange.rows (λ room. area_of (image_at (shape c.reserve_window.new.self.lists) c.args.old).r ≤ vec_len room) (λ room. area_of (image_at (world c.come.new.self) c.args.old).r ≤ vec_len room)
    (λ room most. omega (arith, same_size, bare, lists, most)) c.in_ok-exchange.ensures.enough

pub move_away-requires-clause-list : goal.move_away-requires-clause-list
unfolding world
move_away-requires-clause-list g c =
    let at = goal.at.move_away-requires-clause-list g c in
    let now = c.given-given.new.self in
    let made = c.in_ok-exchange.exchange in
    left_moved (shape now.lists) (kept_at now.pixels) made.window c.args.old c.args.left c.args.standing c.args.rank c.args.r c.args.corner c.args.raw c.args.keep now.sound.forest (needs g at.After-given-given) c.in_ok-exchange.ensures.place made.list.items (listed g at.After-given-given)
    (world c.come.new.self) made.later.items (after g at.In_ok-come (comes g at.After-given-given)) (moves g at.After-given-given)

pub move_away-requires-clause-hidden : goal.move_away-requires-clause-hidden
unfolding world
move_away-requires-clause-hidden g c none z inside =
    let at = goal.at.move_away-requires-clause-hidden g c in
    let now = c.given-given.new.self in
    let made = c.in_ok-exchange.exchange in
    left_hidden (shape now.lists) (kept_at now.pixels) made.window c.args.old c.args.left c.args.standing c.args.rank c.args.r c.args.corner c.args.raw c.args.keep now.sound.forest (needs g at.After-given-given) c.in_ok-exchange.ensures.place made.list.items (listed g at.After-given-given)
    (world c.come.new.self) made.later.items (after g at.In_ok-come (comes g at.After-given-given)) (moves g at.After-given-given)
    (subst (λ (l : Lists). IsFarOff (shape l) c.args.old c.args.left.parent) (sym c.given-given.ensures.lists) (c.in_ok-exchange.ensures.hidden none)) z inside

pub move_away-requires-clause-forest : goal.move_away-requires-clause-forest
unfolding world
move_away-requires-clause-forest g c =
    let at = goal.at.move_away-requires-clause-forest g c in
    let now = c.given-given.new.self in
    let made = c.in_ok-exchange.exchange in
    left_forest (shape now.lists) (kept_at now.pixels) made.window c.args.old c.args.left c.args.standing c.args.rank c.args.r c.args.corner c.args.raw c.args.keep now.sound.forest (needs g at.After-given-given) c.in_ok-exchange.ensures.place made.list.items (listed g at.After-given-given)
    (world c.come.new.self) made.later.items (after g at.In_ok-come (comes g at.After-given-given)) (moves g at.After-given-given)

pub move_away-requires-clause-spare : goal.move_away-requires-clause-spare
move_away-requires-clause-spare g c =
    subst (λ (vs : List Window). wanted_in c.come.new.self.pixels (shape c.come.new.self.lists) c.args.left.parent vs ≤ spare_in c.come.new.self.pixels) c.deref-2.ensures.value c.in_ok-come.ensures.later

pub returns-clause-needs : goal.returns-clause-needs
returns-clause-needs g c =
    let at = (goal.at.returns-clause-needs g c).After-given-given in
    subst (λ (w : World). IsReplacing w c.in_ok-exchange.exchange.window.image c.args.old c.args.left c.args.standing c.args.rank c.args.r c.args.corner c.args.raw c.args.keep) (same g at) (needs g at)

pub returns-clause-number : goal.returns-clause-number
returns-clause-number g c =
    number g (goal.at.returns-clause-number g c).After-given-given
    ∙ ap next_number (still_numbers c.reserve_window.new.self c.given-given.new.self c.given-given.ensures.lists c.given-given.ensures.spare ∙ c.in_ok-reserve_window.ensures.kept.numbers)

pub returns-clause-made : goal.returns-clause-made
unfolding world
returns-clause-made g c =
    let at = goal.at.returns-clause-made g c in
    let now = c.given-given.new.self in
    let made = c.in_ok-exchange.exchange in
    c.move_away.ensures.world
    ∙ left_world (shape now.lists) (kept_at now.pixels) made.window c.args.old c.args.left c.args.standing c.args.rank c.args.r c.args.corner c.args.raw c.args.keep now.sound.forest (needs g at.After-given-given) c.in_ok-exchange.ensures.place made.list.items (listed g at.After-given-given)
    (world c.come.new.self) made.later.items (after g at.In_ok-come (comes g at.After-given-given)) (moves g at.After-given-given)
    ∙ ap (λ (w : World). moved_out (replaced w made.window.image c.args.old c.args.standing c.args.rank c.args.r c.args.corner c.args.raw c.args.keep) c.args.left.parent c.args.old (image_at w c.args.old).r) (same g at.After-given-given)

pub returns-clause-taken : goal.returns-clause-taken
returns-clause-taken g c =
    c.move_away.ensures.numbers ∙ c.in_ok-come.ensures.taken
    ∙ ap taken (still_numbers c.reserve_window.new.self c.given-given.new.self c.given-given.ensures.lists c.given-given.ensures.spare ∙ c.in_ok-reserve_window.ensures.kept.numbers)

pub returns-clause-steps : goal.returns-clause-steps
unfolding world
returns-clause-steps g c =
    let at = goal.at.returns-clause-steps g c in
    let now = c.given-given.new.self in
    let own = old_rect (world now) c.in_ok-exchange.exchange.window.image c.args.old c.args.left c.args.standing c.args.rank c.args.r c.args.corner c.args.raw c.args.keep now.sound.forest (needs g at.After-given-given) in
    let same_size = size g at.In_ok-come own (after g at.In_ok-come (comes g at.After-given-given)) in
    let was = ap (λ (w : World). area_of (image_at w c.args.old).r) (same g at.After-given-given) in
    omega (arith, same_size, was, c.come.ensures.steps, c.move_away.ensures.steps)

pub returns-in_err-come-clause-err : goal.returns-in_err-come-clause-err
returns-in_err-come-clause-err g c =
    let lists = c.given-given.ensures.lists in
    on_err c.from_residual-in_err-come.result
    (record {
      world = c.in_err-come.ensures.err.world ∙ still_world c.reserve_window.new.self c.given-given.new.self c.given-given.ensures.lists c.given-given.ensures.pixels ∙ c.in_ok-reserve_window.ensures.kept.world;
      numbers = c.in_err-come.ensures.err.numbers ∙ still_numbers c.reserve_window.new.self c.given-given.new.self c.given-given.ensures.lists c.given-given.ensures.spare ∙ c.in_ok-reserve_window.ensures.kept.numbers;
    })

pub returns-in_err-come-clause-moment : goal.returns-in_err-come-clause-moment
returns-in_err-come-clause-moment g c = c.come.ensures.moment ∙ ap moment c.given-given.ensures.pixels ∙ c.reserve_window.ensures.moment

pub returns-in_err-come-clause-writes : goal.returns-in_err-come-clause-writes
returns-in_err-come-clause-writes g c = let same = ap writes c.given-given.ensures.pixels in omega (arith, c.come.ensures.writes, same, c.reserve_window.ensures.writes)

pub returns-clause-moment : goal.returns-clause-moment
returns-clause-moment g c = c.move_away.ensures.moment ∙ c.come.ensures.moment ∙ ap moment c.given-given.ensures.pixels ∙ c.reserve_window.ensures.moment

pub returns-clause-writes : goal.returns-clause-writes
returns-clause-writes g c = let same = ap writes c.given-given.ensures.pixels in omega (arith, c.move_away.ensures.writes, c.come.ensures.writes, same, c.reserve_window.ensures.writes)
