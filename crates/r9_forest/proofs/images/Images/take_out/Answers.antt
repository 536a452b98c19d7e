use Rattle.std.proofs.Common.{◌≡◌, ◌∙◌, ◌<◌, ◌^◌, ◌++◌, ◌∷◌, [], true, Some, ℕ, length, List, sym, subst, ap, arith}
use Rattle.std.specs.Prelude.{option_map}
use Rattle.std.proofs.lemmas.Nat.{pow_pos}
use Rattle.r9_geom.specs.declared.Point.{Point}
use Rattle.r9_geom.specs.declared.Rect.{Rect}
use Rattle.r9_geom.specs.Geometry.{area_of, holds}
use Rattle.model_pixel.specs.Channels.{depth, is_descriptor}
use Rattle.model_forest.specs.declared.Standing.{Standing}
use Rattle.model_forest.specs.Numbers.{given_back}
use Rattle.model_forest.specs.Steps.{after_release}
use Rattle.model_forest.specs.World.{CanGo, Image, World, image_at}
use Rattle.model_kept.specs.Keeping.{with_kept}
use Rattle.r9_locate.specs.declared.locate.lists.Lists.{Lists}
use Rattle.r9_locate.specs.locate.Forms.{bits_in}
use Rattle.r9_locate.specs.locate.Table.{made, shape}
use Rattle.r9_pixels.specs.Kept.{form_at, kept_at, moment, writes}
use Rattle.r9_put.specs.fills.Content.{content}
use Rattle.r9_put.specs.fills.Fills.{fill_at}
use Rattle.r9_relist.specs.relist.Leaving.{gone, others, IsGoing}
use Rattle.r9_forest.specs.Given.{given_at, left_of}
use Rattle.r9_forest.specs.Images.{numbers, world}
use Rattle.r9_forest.specs.Numbered.{numbers_of}
use Rattle.r9_forest.specs.Sound.{IsSound}
use Rattle.r9_forest.proofs.Backs.{back_numbers, back_room, pushed, IsBack}
use Rattle.r9_relist.proofs.arrive.Canvases.{bare_canvas}
use Rattle.r9_forest.proofs.Going.{back_gone, going_shape, gone_sound, parent_is, released_from}
use Rattle.r9_forest.proofs.Placing.{left_covers, left_filled, left_inside, left_small, still_world, stood_below, stood_bits, stood_fill, stood_lawful, stood_parent}
use Rattle.r9_forest.proofs.Roomy.{fills_gone, fills_same}
use Rattle.r9_forest.proofs.Sounding.{sound_forest}
use Rattle.r9_forest.proofs.images.Images.take_out.Given.{Over}
use Rattle.r9_forest.proofs.images.Images.take_out.Goals as goal
use Rattle.r9_forest.proofs.images.Images.take_out.Goals.{After-content, After-gather_left-fill, After-get, After-push, After-take_away}

-- ---- before what fills is gathered

chan : (g : Over) (c : After-get g) → c.get.result.now.chan ≡ (image_at (shape c.args.self.now.lists) c.args.standing.parent).chan
chan g c = ap (λ (image : Image). image.chan) (sym c.get.ensures)

pub get-requires : goal.get-requires
unfolding world
get-requires g c =
    let was = c.args.self.now in stood_below was.lists was.pixels was.spare.items c.args.i c.args.standing was.sound c.requires.stands

pub gather_left-fill-requires-clause-live : goal.gather_left-fill-requires-clause-live
unfolding world
gather_left-fill-requires-clause-live g c =
    let was = c.args.self.now in stood_fill was.lists was.pixels was.spare.items c.args.i c.args.standing was.sound c.requires.stands

pub gather_left-fill-requires-clause-lawful : goal.gather_left-fill-requires-clause-lawful
unfolding world
gather_left-fill-requires-clause-lawful g c =
    let was = c.args.self.now in
    subst (λ (image : Image). is_descriptor image.chan ≡ true) c.get.ensures (stood_lawful was.lists was.pixels was.spare.items c.args.i c.args.standing was.sound c.requires.stands)

pub gather_left-fill-requires-clause-room : goal.gather_left-fill-requires-clause-room
unfolding world
gather_left-fill-requires-clause-room g c =
    let was = c.args.self.now in
    let most = left_small was.lists was.pixels was.spare.items c.args.i c.args.standing was.sound c.requires.stands in
    let room = was.fills c.args.i c.args.standing.parent (stood_parent was.lists was.pixels was.spare.items c.args.i c.args.standing was.sound c.requires.stands) in
    let here = ap area_of c.place_of-left.ensures.value in
    omega (arith, most, room, here)

-- ---- once it is

same : (g : Over) (c : After-gather_left-fill g) → world c.gather_left-fill.new.self ≡ world c.args.self.now
same g c = still_world c.args.self.now c.gather_left-fill.new.self c.gather_left-fill.ensures.lists c.gather_left-fill.ensures.pixels

can : (g : Over) (c : After-gather_left-fill g) → CanGo (with_kept (shape c.gather_left-fill.new.self.lists) (kept_at c.gather_left-fill.new.self.pixels)) c.args.i
unfolding world
can g c = subst (λ (w : World). CanGo w c.args.i) (sym (same g c)) c.requires.can

stands : (g : Over) (c : After-gather_left-fill g) → (image_at (with_kept (shape c.gather_left-fill.new.self.lists) (kept_at c.gather_left-fill.new.self.pixels)) c.args.i).standing ≡ Some c.args.standing
unfolding world
stands g c = ap (λ (w : World). (image_at w c.args.i).standing) (same g c) ∙ c.requires.stands

going : (g : Over) (c : After-gather_left-fill g) → IsGoing (shape c.gather_left-fill.new.self.lists) c.args.standing.parent c.args.i
going g c =
    let now = c.gather_left-fill.new.self in
    going_shape (shape now.lists) (kept_at now.pixels) c.args.i c.args.standing.parent (sound_forest now.lists (kept_at now.pixels) now.sound.forest) (can g c)
    (ap (option_map (λ (s : Standing). s.parent)) (stands g c))

left : (g : Over) (c : After-gather_left-fill g) → c.place_of-left.result ≡ left_of (shape c.gather_left-fill.new.self.lists) c.args.standing.parent c.args.i
left g c = c.place_of-left.ensures.value ∙ ap (λ (lists : Lists). left_of (shape lists) c.args.standing.parent c.args.i) (sym c.gather_left-fill.ensures.lists)

-- what fills is what was gathered
fill_is : (g : Over) (c : After-content g) (z : Point) → content c.content.result z ≡ given_at c.gather_left-fill.result c.place_of-left.result c.gather_left-fill.new.self.room.items z
fill_is g c z = c.content.ensures z ∙ ap (λ (raws : List ℕ). given_at c.gather_left-fill.result c.place_of-left.result raws z) c.deref.ensures.value

pub content-requires-clause-room : goal.content-requires-clause-room
unfolding world
content-requires-clause-room g c =
    let was = c.args.self.now in
    let most = left_small was.lists was.pixels was.spare.items c.args.i c.args.standing was.sound c.requires.stands in
    let room = was.fills c.args.i c.args.standing.parent (stood_parent was.lists was.pixels was.spare.items c.args.i c.args.standing was.sound c.requires.stands) in
    let here = ap area_of c.place_of-left.ensures.value in
    let items = ap length c.deref.ensures.value in
    omega (arith, most, room, here, items, c.gather_left-fill.ensures.len, c.gather_left-fill.new.self.room.ok.0)

pub take_away-requires-clause-going : goal.take_away-requires-clause-going
take_away-requires-clause-going g c = going g (goal.at.take_away-requires-clause-going g c).After-gather_left-fill

pub take_away-requires-clause-forms : goal.take_away-requires-clause-forms
take_away-requires-clause-forms g c = c.gather_left-fill.new.self.sound.forms

pub take_away-requires-clause-cells : goal.take_away-requires-clause-cells
take_away-requires-clause-cells g c = c.gather_left-fill.new.self.sound.cells

pub take_away-requires-clause-inside : goal.take_away-requires-clause-inside
take_away-requires-clause-inside g c z h =
    let at = (goal.at.take_away-requires-clause-inside g c).After-gather_left-fill in
    let now = c.gather_left-fill.new.self in
    left_inside now.lists now.pixels now.spare.items c.args.i c.args.standing now.sound (stands g at) z (ap (λ (r : Rect). holds r z) (sym (left g at)) ∙ h)

pub take_away-requires-clause-place : goal.take_away-requires-clause-place
take_away-requires-clause-place g c z inside there =
    let at = (goal.at.take_away-requires-clause-place g c).After-gather_left-fill in
    let now = c.gather_left-fill.new.self in
    ap (λ (r : Rect). holds r z) (left g at) ∙ left_covers now.lists now.pixels now.spare.items c.args.i c.args.standing now.sound (stands g at) z inside there

pub take_away-requires-clause-given : goal.take_away-requires-clause-given
take_away-requires-clause-given g c x = pow_pos (bits_in (form_at c.gather_left-fill.new.self.pixels) c.args.standing.parent)

pub take_away-requires-clause-fill : goal.take_away-requires-clause-fill
take_away-requires-clause-fill g c z =
    let at = goal.at.take_away-requires-clause-fill g c in
    let now = c.gather_left-fill.new.self in
    let p = c.args.standing.parent in
    let bits : bits_in (form_at now.pixels) p ≡ depth c.get.result.now.chan =
    stood_bits now.lists now.pixels now.spare.items c.args.i c.args.standing now.sound (stands g at.After-gather_left-fill)
    ∙ ap (λ (lists : Lists). depth (image_at (shape lists) p).chan) c.gather_left-fill.ensures.lists
    ∙ ap depth (sym (chan g at.After-get)) in
    subst (λ (n : ℕ). content c.content.result z < 2 ^ n) (sym bits)
    (subst (λ (n : ℕ). n < 2 ^ depth c.get.result.now.chan) (sym (fill_is g at.After-content z)) (c.gather_left-fill.ensures.below z))

pub take_away-requires-clause-fills : goal.take_away-requires-clause-fills
unfolding world
take_away-requires-clause-fills g c =
    let at = goal.at.take_away-requires-clause-fills g c in
    let now = c.gather_left-fill.new.self in
    let lists = c.gather_left-fill.ensures.lists in
    left_filled now.lists now.pixels now.spare.items c.args.i c.args.standing now.sound (stands g at.After-gather_left-fill) (content c.content.result)
    (λ z h.
    fill_is g at.After-content z
    ∙ c.gather_left-fill.ensures.filled z (ap (λ (r : Rect). holds r z) (left g at.After-gather_left-fill) ∙ h)
    ∙ (λ j. fill_at (sym (same g at.After-gather_left-fill) j) ((chan g at.After-get ∙ ap (λ (l : Lists). (image_at (shape l) c.args.standing.parent).chan) (sym lists)) j) c.args.standing.fill z))

-- ---- and then

back : (g : Over) (c : After-take_away g) → IsGoing (shape c.gather_left-fill.new.self.lists) c.args.standing.parent c.args.i → IsBack (shape c.gather_left-fill.new.self.lists) (shape c.take_away.new.lists) c.args.i
back g c is =
    let now = c.gather_left-fill.new.self in
    subst (λ (w : World). IsBack (shape now.lists) w c.args.i) (sym c.take_away.ensures.lists)
    (back_gone (shape now.lists) c.args.i c.args.standing.parent (others (shape now.lists) c.args.standing.parent c.args.i) is.can.live (is.before.parents c.args.i c.args.standing.parent is.can.live is.stands))

spare : (g : Over) (c : After-push g) → IsBack (shape c.gather_left-fill.new.self.lists) (shape c.take_away.new.lists) c.args.i → c.push.new.self.items ≡ c.gather_left-fill.new.self.spare.items ++ c.args.i ∷ []
spare g c back =
    let now = c.gather_left-fill.new.self in
    let few = back_room (shape now.lists) (shape c.take_away.new.lists) (made now.lists) c.args.i now.spare.items back now.sound.numbers in
    pushed now.spare.items c.push.new.self.items c.args.i c.push.ensures.items (c.push.ensures.succeeds (omega (arith, few, now.back, now.spare.ok.0)))

after : (g : Over) (c : After-take_away g) → IsGoing (shape c.gather_left-fill.new.self.lists) c.args.standing.parent c.args.i → with_kept (shape c.take_away.new.lists) (kept_at c.take_away.new.pixels) ≡ after_release (with_kept (shape c.gather_left-fill.new.self.lists) (kept_at c.gather_left-fill.new.self.pixels)) c.args.i
after g c is =
    let now = c.gather_left-fill.new.self in
    c.take_away.ensures.world
    ∙ released_from (shape now.lists) (kept_at now.pixels) c.args.i c.args.standing.parent (sym (parent_is (shape now.lists) (kept_at now.pixels) c.args.i) ∙ is.stands)

pub invariant_of-self-2 : goal.invariant_of-self-2
invariant_of-self-2 g c =
    let at = goal.at.invariant_of-self-2 g c in
    let now = c.gather_left-fill.new.self in
    let is = going g at.After-gather_left-fill in
    let came = back g at.After-take_away is in
    record {
      sound =
          subst (IsSound c.take_away.new.lists c.take_away.new.pixels) (sym (spare g at.After-push came))
          (gone_sound now.lists c.take_away.new.lists now.pixels c.take_away.new.pixels now.spare.items c.args.i now.sound (can g at.After-gather_left-fill) c.take_away.ensures.made (after g at.After-take_away is) came c.take_away.ensures.cells c.take_away.ensures.forms);
      back = omega (arith, c.take_away.ensures.made, now.back, c.push.ensures.capacity);
      fills =
          fills_same (gone (shape now.lists) c.args.standing.parent c.args.i) (shape c.take_away.new.lists) now.room.len c.take_away.ensures.lists
          (fills_gone (shape now.lists) now.room.len c.args.standing.parent c.args.i now.fills);
    }

pub returns-clause-world : goal.returns-clause-world
unfolding world
returns-clause-world g c =
    let at = goal.at.returns-clause-world g c in
    after g at.After-take_away (going g at.After-gather_left-fill) ∙ ap (λ (w : World). after_release w c.args.i) (same g at.After-gather_left-fill)

pub returns-clause-back : goal.returns-clause-back
unfolding numbers
returns-clause-back g c =
    let at = goal.at.returns-clause-back g c in
    let now = c.gather_left-fill.new.self in
    (λ j. numbers_of (c.take_away.ensures.made j) (spare g at.After-push (back g at.After-take_away (going g at.After-gather_left-fill)) j))
    ∙ back_numbers (made now.lists) c.args.i now.spare.items
    ∙ (λ j. given_back (numbers_of (made (c.gather_left-fill.ensures.lists j)) (c.gather_left-fill.ensures.spare j).items) c.args.i)

pub returns-clause-steps : goal.returns-clause-steps
unfolding world
returns-clause-steps g c =
    let was = c.args.self.now in
    let most = left_small was.lists was.pixels was.spare.items c.args.i c.args.standing was.sound c.requires.stands in
    let here = ap area_of c.place_of-left.ensures.value in
    let window = ap area_of ((bare_canvas (shape was.lists) (kept_at was.pixels)).r c.args.i) in
    omega (arith, most, here, window, c.take_away.ensures.steps)

pub returns-clause-moment : goal.returns-clause-moment
returns-clause-moment g c = c.take_away.ensures.moment ∙ ap moment c.gather_left-fill.ensures.pixels

pub returns-clause-writes : goal.returns-clause-writes
returns-clause-writes g c = let same = ap writes c.gather_left-fill.ensures.pixels in omega (arith, c.take_away.ensures.writes, same)
