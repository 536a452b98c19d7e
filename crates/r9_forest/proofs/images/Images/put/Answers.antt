use Rattle.std.proofs.Common.{◌≡◌, ◌∙◌, ℕ, ◌+◌, ◌<◌, ◌≤◌, ◌^◌, true, Some, None, [], get_or, length, sym, ap, subst, arith}
use Rattle.std.specs.List.{count_by}
use Rattle.std.proofs.lemmas.List.Elements.{All-nil}
use Rattle.std.specs.Prelude.{◌==◌, is_some, option_map, vec_capacity, if◌then◌else◌}
use Rattle.r9_geom.specs.declared.Point.{Point}
use Rattle.r9_geom.specs.Geometry.{area_of, holds}
use Rattle.r9_plane.specs.Pixels.{number_of}
use Rattle.model_pixel.specs.Channels.{depth}
use Rattle.model_forest.specs.declared.Window.{Window}
use Rattle.model_forest.specs.Numbers.{next_number, taken}
use Rattle.model_forest.specs.World.{Image, World, image_at, SameSize}
use Rattle.model_forest.proofs.Changes.{live-standing}
use Rattle.model_kept.proofs.Worlds.{pictured}
use Rattle.r9_locate.specs.declared.locate.lists.Lists.{Lists}
use Rattle.r9_locate.specs.locate.Table.{shape, HasRoom}
use Rattle.r9_locate.specs.locate.Table as table
use Rattle.r9_pixels.specs.declared.keeping.KeptPixels.{KeptPixels}
use Rattle.r9_pixels.specs.Kept.{kept_at, room_of, moment, writes}
use Rattle.r9_pixels.specs.Places.{StandsOn}
use Rattle.r9_relist.specs.arrive.Arriving.{after_coming, with_coming}
use Rattle.r9_relist.proofs.arrive.Canvases.{bare_canvas}
use Rattle.r9_relist.proofs.arrive.Entering.{on_err}
use Rattle.r9_forest.specs.declared.coming.Given.{Given}
use Rattle.r9_forest.specs.Given.{given_at}
use Rattle.r9_forest.specs.Images.{numbers, world}
use Rattle.r9_forest.specs.Replaced.{put_in, replaced, IsReplacing, IsShown}
use Rattle.r9_forest.proofs.Exchanged.{came, came_forest, first_stands, given_comes, given_fits, given_keeps, list_comes, stands_at}
use Rattle.r9_forest.proofs.Going.{parent_is}
use Rattle.r9_forest.proofs.Numbers.{peeked}
use Rattle.r9_forest.proofs.Placing.{still_numbers, still_world}
use Rattle.r9_forest.proofs.Sounding.{sound_live}
use Rattle.r9_forest.proofs.images.Images.put.Given.{Over}
use Rattle.r9_forest.proofs.images.Images.put.Goals as goal
use Rattle.r9_forest.proofs.images.Images.put.Goals.{After-given-given, In_ok-come}

pub given-given-requires-clause-room : goal.given-given-requires-clause-room
unfolding world
given-given-requires-clause-room g c =
    let now = c.reserve_window.new.self in
    let stands = ap (λ (w : World). (image_at w c.args.old).standing) c.in_ok-reserve_window.ensures.kept.world ∙ c.requires.left in
    let most = now.fills c.args.old c.args.left.parent (parent_is (shape now.lists) (kept_at now.pixels) c.args.old ∙ stands_at (world now) c.args.old c.args.left stands) in
    let size = ap area_of ((bare_canvas (shape now.lists) (kept_at now.pixels)).r c.args.old) in
    omega (arith, most, size)

-- ---- once the pixels are at hand: what was prepared is so still

same_made : (g : Over) (c : After-given-given g) → world c.given-given.new.self ≡ world c.reserve_window.new.self
same_made g c = still_world c.reserve_window.new.self c.given-given.new.self c.given-given.ensures.lists c.given-given.ensures.pixels

same : (g : Over) (c : After-given-given g) → world c.given-given.new.self ≡ world c.args.self.now
same g c = same_made g c ∙ c.in_ok-reserve_window.ensures.kept.world

number : (g : Over) (c : After-given-given g) → c.in_ok-coming.coming.window.image ≡ next_number (numbers c.given-given.new.self)
number g c = c.in_ok-coming.ensures.number ∙ ap next_number (sym (still_numbers c.reserve_window.new.self c.given-given.new.self c.given-given.ensures.lists c.given-given.ensures.spare))

few : (g : Over) (c : After-given-given g) → ((image_at (shape c.given-given.new.self.lists) c.args.standing.parent).depth + 1 < 2 ^ 32) × (length (image_at (shape c.given-given.new.self.lists) c.args.standing.parent).windows + 1 < 2 ^ 32)
few g c =
    subst (λ (l : Lists). ((image_at (shape l) c.args.standing.parent).depth + 1 < 2 ^ 32) × (length (image_at (shape l) c.args.standing.parent).windows + 1 < 2 ^ 32)) (sym c.given-given.ensures.lists) c.in_ok-coming.ensures.few

listed : (g : Over) (c : After-given-given g) → c.in_ok-coming.coming.list.items ≡ put_in c.args.rank c.in_ok-coming.coming.window (image_at (shape c.given-given.new.self.lists) c.args.standing.parent).windows
listed g c =
    c.in_ok-coming.ensures.list ∙ ap (λ (l : Lists). put_in c.args.rank c.in_ok-coming.coming.window (image_at (shape l) c.args.standing.parent).windows) (sym c.given-given.ensures.lists)

-- what the new window needs, by the world and by the lists
needs : (g : Over) (c : After-given-given g) → IsReplacing (world c.given-given.new.self) c.in_ok-coming.coming.window.image c.args.old c.args.left c.args.standing c.args.rank c.args.r c.args.corner c.args.raw c.args.keep
unfolding world numbers
needs g c =
    let now = c.given-given.new.self in
    let p = c.args.standing.parent in
    let i = c.in_ok-coming.coming.window.image in
    let is = same g c in
    let image = bare_canvas (shape now.lists) (kept_at now.pixels) in
    let deep = image.deep p in
    let long = ap length (image.windows p) in
    let room = few g c in
    record {
      free = ap (option_map {T = Image} (pictured (shape now.lists) (kept_at now.pixels) i)) (peeked (shape now.lists) (table.made now.lists) now.spare.items i (number g c) now.sound.numbers).1;
      left_at = ap (λ (w : World). (image_at w c.args.old).standing) is ∙ c.requires.left;
      beside = c.requires.beside;
      parent_live = ap (λ (w : World). is_some (w p)) is ∙ c.requires.parent;
      fill_live = ap (λ (w : World). is_some (w c.args.standing.fill)) is ∙ c.requires.fill;
      shallow = omega (arith, deep, room.0);
      few = omega (arith, long, room.1);
      near = c.requires.near;
      ordered = c.requires.ordered;
      near_corner = c.requires.corner;
      fits = subst (λ (w : World). c.args.raw < 2 ^ depth (image_at w p).chan) (sym is) c.requires.raw;
      chan = λ keep. ap (λ (w : World). (image_at w p).chan) is ∙ c.requires.chan keep ∙ sym (ap (λ (w : World). (image_at w c.args.old).chan) is);
    }

sized : (g : Over) (c : After-given-given g) → c.args.keep ≡ true → SameSize c.args.r (image_at (world c.given-given.new.self) c.args.old).r
sized g c keep = subst (λ (w : World). SameSize c.args.r (image_at w c.args.old).r) (sym (same g c)) (c.requires.size keep)

shows : (g : Over) (c : After-given-given g) → c.args.keep ≡ true → IsShown (world c.given-given.new.self) c.args.old c.given-given.new.self.room.items
shows g c keep = subst (λ (w : World). IsShown w c.args.old c.given-given.new.self.room.items) (sym (same_made g c)) (c.given-given.ensures.shown keep)

-- what it comes with
told : (g : Over) (c : After-given-given g) (p : Point) → given_at c.given-given.result c.args.r c.given-given.new.self.room.items p ≡ (if c.args.keep then (if holds c.args.r p then get_or c.given-given.new.self.room.items (number_of c.args.r p) 0 else 0) else c.args.raw)
told g c p = ap (λ (given : Given). given_at given c.args.r c.given-given.new.self.room.items p) c.given-given.ensures.value ∙ given_keeps c.args.keep c.args.raw c.args.r c.given-given.new.self.room.items p

fits : (g : Over) (c : After-given-given g) (p : Point) → given_at c.given-given.result c.args.r c.given-given.new.self.room.items p < 2 ^ depth (image_at (world c.given-given.new.self) c.args.standing.parent).chan
unfolding world
fits g c p =
    let now = c.given-given.new.self in
    let w = world now in
    let is = needs g c in
    given_fits w c.args.old c.args.r c.args.raw c.args.keep now.room.items (given_at c.given-given.result c.args.r now.room.items) (told g c) (sized g c) (shows g c) (image_at w c.args.standing.parent).chan now.sound.forest
    (live-standing w c.args.old c.args.left.parent (stands_at w c.args.old c.args.left is.left_at)) is.chan is.fits p

-- the world when it came
comes : (g : Over) (c : After-given-given g) → after_coming (world c.given-given.new.self) c.in_ok-coming.coming.window.image c.args.standing.parent c.args.standing.fill c.args.r (given_at c.given-given.result c.args.r c.given-given.new.self.room.items) c.in_ok-coming.coming.list.items ≡ replaced (world c.given-given.new.self) c.in_ok-coming.coming.window.image c.args.old c.args.standing c.args.rank c.args.r c.args.corner c.args.raw c.args.keep
unfolding world
comes g c =
    let now = c.given-given.new.self in
    let made = c.in_ok-coming.coming in
    came (shape now.lists) (kept_at now.pixels) made.window c.args.old c.args.left c.args.standing c.args.rank c.args.r c.args.corner c.args.raw c.args.keep now.sound.forest (needs g c) c.in_ok-coming.ensures.place made.list.items (listed g c) (given_at c.given-given.result c.args.r now.room.items)
    (given_comes (world now) c.args.old c.args.r c.args.raw c.args.keep now.room.items (given_at c.given-given.result c.args.r now.room.items) (told g c) (sized g c) (shows g c) made.window.image c.args.standing.parent c.args.standing.fill made.list.items)

-- ---- what is asked for then

pub come-requires-clause-number : goal.come-requires-clause-number
come-requires-clause-number g c = number g (goal.at.come-requires-clause-number g c).After-given-given

pub come-requires-clause-room : goal.come-requires-clause-room
come-requires-clause-room g c =
    subst (λ (l : Lists). (i : ℕ) → i ≤ table.made l → HasRoom l i) (sym c.given-given.ensures.lists) c.in_ok-reserve_window.ensures.list

pub come-requires-clause-place : goal.come-requires-clause-place
come-requires-clause-place g c =
    subst (λ (l : Lists). table.made l < room_of c.given-given.new.self.pixels) (sym c.given-given.ensures.lists)
    (subst (λ (pixels : KeptPixels). table.made c.reserve_window.new.self.lists < room_of pixels) (sym c.given-given.ensures.pixels) c.in_ok-reserve_window.ensures.pixels)

pub come-requires-clause-back : goal.come-requires-clause-back
come-requires-clause-back g c =
    let count = ap table.made c.given-given.ensures.lists in
    let same_room : vec_capacity c.given-given.new.self.spare ≡ vec_capacity c.reserve_window.new.self.spare = λ j. vec_capacity (c.given-given.ensures.spare j) in
    omega (arith, count, same_room, c.in_ok-reserve_window.ensures.back)

pub come-requires-clause-fills : goal.come-requires-clause-fills
come-requires-clause-fills g c = omega (arith, c.given-given.ensures.len, c.in_ok-reserve_window.ensures.fills)

pub come-requires-clause-parent : goal.come-requires-clause-parent
come-requires-clause-parent g c = (needs g (goal.at.come-requires-clause-parent g c).After-given-given).parent_live

pub come-requires-clause-few : goal.come-requires-clause-few
come-requires-clause-few g c = (few g (goal.at.come-requires-clause-few g c).After-given-given).0

pub come-requires-clause-coming : goal.come-requires-clause-coming
unfolding world
come-requires-clause-coming g c =
    let at = (goal.at.come-requires-clause-coming g c).After-given-given in
    let now = c.given-given.new.self in
    let made = c.in_ok-coming.coming in
    list_comes (shape now.lists) (kept_at now.pixels) made.window c.args.old c.args.left c.args.standing c.args.rank c.args.r c.args.corner c.args.raw c.args.keep now.sound.forest (needs g at) c.in_ok-coming.ensures.place made.list.items (listed g at)

pub come-requires-clause-forest : goal.come-requires-clause-forest
unfolding world
come-requires-clause-forest g c =
    let at = (goal.at.come-requires-clause-forest g c).After-given-given in
    let now = c.given-given.new.self in
    let made = c.in_ok-coming.coming in
    came_forest (shape now.lists) (kept_at now.pixels) made.window c.args.old c.args.left c.args.standing c.args.rank c.args.r c.args.corner c.args.raw c.args.keep now.sound.forest (needs g at) c.in_ok-coming.ensures.place made.list.items (listed g at) (given_at c.given-given.result c.args.r now.room.items) (comes g at)

pub come-requires-clause-given : goal.come-requires-clause-given
unfolding world
come-requires-clause-given g c x =
    let now = c.given-given.new.self in
    subst (λ (n : ℕ). given_at c.given-given.result c.args.r now.room.items x < 2 ^ depth n) (sym ((bare_canvas (shape now.lists) (kept_at now.pixels)).chan c.args.standing.parent))
    (fits g (goal.at.come-requires-clause-given g c).After-given-given x)

pub come-requires-clause-also : goal.come-requires-clause-also
unfolding world
come-requires-clause-also g c =
    let now = c.given-given.new.self in
    sound_live now.lists (kept_at now.pixels) c.args.standing.parent (needs g (goal.at.come-requires-clause-also g c).After-given-given).parent_live

pub come-requires-clause-later : goal.come-requires-clause-later
come-requires-clause-later g c =
    All-nil (StandsOn (with_coming (shape c.given-given.new.self.lists) c.in_ok-coming.coming.window.image c.args.standing.parent c.args.standing.fill c.args.r) c.args.standing.parent)

pub come-requires-clause-later_one : goal.come-requires-clause-later_one
come-requires-clause-later_one g c = All-nil (λ (w : Window). count_by (λ (v : Window). v.image == w.image) [] ≡ 1)

pub come-requires-clause-left : goal.come-requires-clause-left
come-requires-clause-left g c at w k here below hidden shown unlisted = let none : None ≡ Some at = here.first in absurd (cc)

pub come-requires-clause-left_own : goal.come-requires-clause-left_own
come-requires-clause-left_own g c at w k here same below hidden shown = let none : None ≡ Some at = here.first in absurd (cc)

pub come-requires-clause-stands : goal.come-requires-clause-stands
unfolding world
come-requires-clause-stands g c =
    let at = (goal.at.come-requires-clause-stands g c).After-given-given in
    let now = c.given-given.new.self in
    let made = c.in_ok-coming.coming in
    first_stands (shape now.lists) (kept_at now.pixels) made.window c.args.old c.args.left c.args.standing c.args.rank c.args.r c.args.corner c.args.raw c.args.keep now.sound.forest (needs g at) c.in_ok-coming.ensures.place made.list.items (listed g at)

-- ---- and when it came

after : (g : Over) (c : In_ok-come g) → after_coming (world c.given-given.new.self) c.in_ok-coming.coming.window.image c.args.standing.parent c.args.standing.fill c.args.r (given_at c.given-given.result c.args.r c.given-given.new.self.room.items) c.in_ok-coming.coming.list.items ≡ replaced (world c.given-given.new.self) c.in_ok-coming.coming.window.image c.args.old c.args.standing c.args.rank c.args.r c.args.corner c.args.raw c.args.keep → world c.come.new.self ≡ replaced (world c.given-given.new.self) c.in_ok-coming.coming.window.image c.args.old c.args.standing c.args.rank c.args.r c.args.corner c.args.raw c.args.keep
after g c comes = c.in_ok-come.ensures.world ∙ comes

pub returns-clause-needs : goal.returns-clause-needs
returns-clause-needs g c =
    let at = (goal.at.returns-clause-needs g c).After-given-given in
    subst (λ (w : World). IsReplacing w c.in_ok-coming.coming.window.image c.args.old c.args.left c.args.standing c.args.rank c.args.r c.args.corner c.args.raw c.args.keep) (same g at) (needs g at)

pub returns-clause-number : goal.returns-clause-number
returns-clause-number g c =
    number g (goal.at.returns-clause-number g c).After-given-given
    ∙ ap next_number (still_numbers c.reserve_window.new.self c.given-given.new.self c.given-given.ensures.lists c.given-given.ensures.spare ∙ c.in_ok-reserve_window.ensures.kept.numbers)

pub returns-clause-made : goal.returns-clause-made
unfolding world
returns-clause-made g c =
    let at = goal.at.returns-clause-made g c in
    after g at.In_ok-come (comes g at.After-given-given)
    ∙ ap (λ (w : World). replaced w c.in_ok-coming.coming.window.image c.args.old c.args.standing c.args.rank c.args.r c.args.corner c.args.raw c.args.keep) (same g at.After-given-given)

pub returns-clause-taken : goal.returns-clause-taken
returns-clause-taken g c =
    c.in_ok-come.ensures.taken
    ∙ ap taken (still_numbers c.reserve_window.new.self c.given-given.new.self c.given-given.ensures.lists c.given-given.ensures.spare ∙ c.in_ok-reserve_window.ensures.kept.numbers)

pub returns-in_err-come-clause-err : goal.returns-in_err-come-clause-err
returns-in_err-come-clause-err g c =
    let lists = c.given-given.ensures.lists in
    on_err c.from_residual-in_err-come.result
    (record {
      world = c.in_err-come.ensures.err.world ∙ still_world c.reserve_window.new.self c.given-given.new.self c.given-given.ensures.lists c.given-given.ensures.pixels ∙ c.in_ok-reserve_window.ensures.kept.world;
      numbers = c.in_err-come.ensures.err.numbers ∙ still_numbers c.reserve_window.new.self c.given-given.new.self c.given-given.ensures.lists c.given-given.ensures.spare ∙ c.in_ok-reserve_window.ensures.kept.numbers;
    })

pub returns-in_err-come-clause-moment : goal.returns-in_err-come-clause-moment
returns-in_err-come-clause-moment g c = c.come.ensures.moment ∙ ap moment c.given-given.ensures.pixels ∙ c.reserve_window.ensures.moment

pub returns-in_err-come-clause-writes : goal.returns-in_err-come-clause-writes
returns-in_err-come-clause-writes g c = let same = ap writes c.given-given.ensures.pixels in omega (arith, c.come.ensures.writes, same, c.reserve_window.ensures.writes)

pub returns-clause-moment : goal.returns-clause-moment
returns-clause-moment g c = c.come.ensures.moment ∙ ap moment c.given-given.ensures.pixels ∙ c.reserve_window.ensures.moment

pub returns-clause-writes : goal.returns-clause-writes
returns-clause-writes g c = let same = ap writes c.given-given.ensures.pixels in omega (arith, c.come.ensures.writes, same, c.reserve_window.ensures.writes)
