use Rattle.std.proofs.Common.{◌≡◌, ◌∙◌, ℕ, ◌+◌, ◌<◌, ◌^◌, Option, Some, lit≤, refl, sym, subst, ap, arith}
use Rattle.std.specs.Prelude.{is_some, option_map}
use Rattle.r9_geom.proofs.GeometryLemmas.{rect_near_wider}
use Rattle.model_pixel.specs.Channels.{is_descriptor}
use Rattle.model_forest.specs.Numbers.{next_number, taken}
use Rattle.model_forest.specs.Steps.{after_image}
use Rattle.model_forest.specs.World.{Image, World, with_image, IsForest, IsLive}
use Rattle.model_kept.specs.Keeping.{with_kept}
use Rattle.model_kept.specs.Restack.{with_own}
use Rattle.model_kept.proofs.Once.{places-forest}
use Rattle.model_kept.proofs.Worlds.{pictured, standing-forest}
use Rattle.r9_plane.specs.Pixels.{pixel_at}
use Rattle.r9_locate.specs.locate.Forms.{form_of, Form}
use Rattle.r9_locate.specs.locate.Lists.{frame_image}
use Rattle.r9_locate.specs.locate.Table.{made, shape, HasRoom}
use Rattle.r9_locate.specs.watched.Moments.{moment_at, Moment}
use Rattle.r9_pixels.specs.Kept.{kept_at, moment, writes}
use Rattle.r9_forest.specs.Images.{numbers, world}
use Rattle.r9_forest.specs.Numbered.{bare_image, numbers_of, IsTaken}
use Rattle.r9_relist.proofs.arrive.Canvases.{bare_canvas}
use Rattle.r9_forest.proofs.Looking.{live-other, moment-other}
use Rattle.r9_forest.proofs.Making.{made_world, with_made}
use Rattle.r9_relist.proofs.relist.Near.{nearby}
use Rattle.r9_forest.proofs.Numbers.{taken_next, IsNext}
use Rattle.r9_forest.proofs.Sounding.{coming_forest, coming_sound, IsComing}
use Rattle.r9_forest.proofs.Roomy.{fills_put, fills_same, needs_nothing}
use Rattle.r9_forest.proofs.images.Images.image.Goals as goal
use Rattle.r9_forest.proofs.images.Images.image.Goals.{After-insert_whole, After-whole_frame}

next : (c : After-whole_frame) → IsNext (shape c.reserve.new.self.lists) (made c.reserve.new.self.lists) c.reserve.new.self.spare.items c.take_number-number.new.spare.items c.take_number-number.result
next c =
    taken_next (shape c.reserve.new.self.lists) (made c.reserve.new.self.lists) c.reserve.new.self.spare.items c.take_number-number.new.spare.items c.take_number-number.result
    (subst (λ (n : ℕ). IsTaken n c.reserve.new.self.spare.items c.take_number-number.new.spare.items c.take_number-number.result) c.len.ensures.value c.take_number-number.ensures.number)
    c.reserve.new.self.sound.numbers

coming : (c : After-whole_frame) → IsComing c.reserve.new.self.lists c.reserve.new.self.pixels c.in_ok-plane.plane c.take_number-number.result c.args.r c.args.chan c.args.raw
coming c = record {
  free = (next c).free;
  lawful = ap is_descriptor (sym c.word.ensures.value) ∙ c.word.ensures.descriptor;
  fits = c.requires.raw;
  near = c.requires.near;
  ordered = c.requires.ordered;
  whole = record { rect = c.in_ok-plane.ensures.rect; channels = c.in_ok-plane.ensures.chan; pixels = c.in_ok-plane.ensures.pixels };
}

-- the lists with it
forest : (c : After-whole_frame) → IsForest (with_image (shape c.reserve.new.self.lists) c.take_number-number.result (Some (frame_image c.whole_frame.result)))
forest c =
    subst (λ (image : Image). IsForest (with_image (shape c.reserve.new.self.lists) c.take_number-number.result (Some image))) (sym c.whole_frame.ensures)
    (coming_forest c.reserve.new.self.lists c.reserve.new.self.pixels c.in_ok-plane.plane c.reserve.new.self.spare.items c.take_number-number.result c.args.r c.args.chan c.args.raw c.reserve.new.self.sound (coming c))

few : (c : After-whole_frame) → made c.reserve.new.self.lists + 1 < 2 ^ 32
unfolding HasRoom
few c = let most = (c.in_ok-reserve.ensures.list (made c.reserve.new.self.lists) (omega arith)).most in omega (arith, most)

pub new-requires-clause-near : goal.new-requires-clause-near
new-requires-clause-near c = rect_near_wider (2 ^ 34) (2 ^ 40) c.args.r (lit≤ tt) c.requires.near

pub take_number-number-requires : goal.take_number-number-requires
take_number-number-requires c = omega (arith, c.len.ensures.value, c.reserve.new.self.sound.numbers.few)

pub insert-requires-clause-room : goal.insert-requires-clause-room
insert-requires-clause-room c =
    let at = (goal.at.insert-requires-clause-room c).After-whole_frame in
    c.in_ok-reserve.ensures.list c.take_number-number.result (next at).most

pub insert-requires-clause-free : goal.insert-requires-clause-free
insert-requires-clause-free c = (next (goal.at.insert-requires-clause-free c).After-whole_frame).free

pub insert-requires-clause-standing : goal.insert-requires-clause-standing
insert-requires-clause-standing c =
    let at = (goal.at.insert-requires-clause-standing c).After-whole_frame in
    standing-forest (with_image (shape c.reserve.new.self.lists) c.take_number-number.result (Some (frame_image c.whole_frame.result))) (forest at)

pub insert-requires-clause-places : goal.insert-requires-clause-places
insert-requires-clause-places c =
    let at = (goal.at.insert-requires-clause-places c).After-whole_frame in
    places-forest (with_image (shape c.reserve.new.self.lists) c.take_number-number.result (Some (frame_image c.whole_frame.result))) (forest at)

pub insert-requires-clause-near : goal.insert-requires-clause-near
insert-requires-clause-near c =
    let at = (goal.at.insert-requires-clause-near c).After-whole_frame in
    nearby (with_image (shape c.reserve.new.self.lists) c.take_number-number.result (Some (frame_image c.whole_frame.result))) (forest at)

pub insert_whole-requires-clause-room : goal.insert_whole-requires-clause-room
insert_whole-requires-clause-room c =
    let at = (goal.at.insert_whole-requires-clause-room c).After-whole_frame in
    omega (arith, (next at).most, c.in_ok-reserve.ensures.pixels)

pub insert_whole-requires-clause-free : goal.insert_whole-requires-clause-free
insert_whole-requires-clause-free c =
    let at = (goal.at.insert_whole-requires-clause-free c).After-whole_frame in
    ap (λ (forms : ℕ → Option Form). forms c.take_number-number.result) c.reserve.new.self.sound.forms ∙ ap (option_map form_of) (next at).free

-- the lists and the pixels then
listed : (c : After-insert_whole) → shape c.insert.new.self ≡ with_made (shape c.reserve.new.self.lists) c.take_number-number.result c.args.r c.args.chan
listed c = c.insert.ensures.world ∙ ap (λ (image : Image). with_image (shape c.reserve.new.self.lists) c.take_number-number.result (Some image)) c.whole_frame.ensures

pub invariant_of-self : goal.invariant_of-self
invariant_of-self c =
    let before = (goal.at.invariant_of-self c).After-whole_frame in
    let after = (goal.at.invariant_of-self c).After-insert_whole in
    record {
      sound =
          coming_sound c.reserve.new.self.lists c.insert.new.self c.reserve.new.self.pixels c.insert_whole.new.self c.in_ok-plane.plane c.reserve.new.self.spare.items c.take_number-number.new.spare.items c.take_number-number.result c.args.r c.args.chan c.args.raw
          c.reserve.new.self.sound (coming before) (next before) (listed after) c.insert.ensures.made (few before)
          c.insert_whole.ensures.kept c.insert_whole.ensures.has c.insert_whole.ensures.forms;
      back = omega (arith, c.insert.ensures.made, (next before).most, c.in_ok-reserve.ensures.back, c.take_number-number.ensures.room);
      fills =
          fills_same (with_made (shape c.reserve.new.self.lists) c.take_number-number.result c.args.r c.args.chan) (shape c.insert.new.self) c.reserve.new.self.room.len (listed after)
          (fills_put (shape c.reserve.new.self.lists) c.reserve.new.self.room.len c.take_number-number.result (Some (bare_image c.args.r c.args.chan)) (needs_nothing c.reserve.new.self.room.len (Some (bare_image c.args.r c.args.chan)) refl) c.reserve.new.self.fills);
    }

pub returns-clause-number : goal.returns-clause-number
unfolding numbers
returns-clause-number c =
    let before = (goal.at.returns-clause-number c).After-whole_frame in
    sym (next before).next ∙ ap next_number c.in_ok-reserve.ensures.kept.numbers

pub returns-clause-free : goal.returns-clause-free
unfolding world
returns-clause-free c =
    let before = (goal.at.returns-clause-free c).After-whole_frame in
    ap (λ (w : World). w c.take_number-number.result) (sym c.in_ok-reserve.ensures.kept.world)
    ∙ ap (option_map {T = Image} (pictured (shape c.reserve.new.self.lists) (kept_at c.reserve.new.self.pixels) c.take_number-number.result)) (next before).free

pub returns-clause-made : goal.returns-clause-made
unfolding world
returns-clause-made c =
    let before = (goal.at.returns-clause-made c).After-whole_frame in
    let after = (goal.at.returns-clause-made c).After-insert_whole in
    let lists = c.reserve.new.self.lists in
    let pixels = c.reserve.new.self.pixels in
    let plane = c.in_ok-plane.plane in
    let i = c.take_number-number.result in
    let with_pixels : with_kept (shape c.insert.new.self) (kept_at c.insert_whole.new.self) ≡ with_kept (with_made (shape lists) i c.args.r c.args.chan) (with_own i (pixel_at plane) (kept_at pixels)) = λ j. with_kept (listed after j) (c.insert_whole.ensures.kept j) in
    with_pixels
    ∙ made_world (shape lists) (kept_at pixels) plane i c.args.r c.args.chan c.args.raw (next before).free c.reserve.new.self.sound.forest (coming before).whole
    ∙ ap (λ (w : World). after_image w i c.args.r c.args.chan c.args.raw) c.in_ok-reserve.ensures.kept.world

pub returns-clause-taken : goal.returns-clause-taken
unfolding numbers
returns-clause-taken c =
    let before = (goal.at.returns-clause-taken c).After-whole_frame in
    ap (λ (n : ℕ). numbers_of n c.take_number-number.new.spare.items) c.insert.ensures.made
    ∙ sym (next before).numbers
    ∙ ap taken c.in_ok-reserve.ensures.kept.numbers

pub returns-in_err-reserve-clause-moment : goal.returns-in_err-reserve-clause-moment
returns-in_err-reserve-clause-moment c j live = ap (λ (moments : ℕ → Option Moment). moments j) c.reserve.ensures.moment

pub returns-clause-moment : goal.returns-clause-moment
unfolding world
returns-clause-moment c j live =
    let before = (goal.at.returns-clause-moment c).After-whole_frame in
    let lists = c.reserve.new.self.lists in
    let pixels = c.reserve.new.self.pixels in
    let i = c.take_number-number.result in
    let there : IsLive (with_kept (shape lists) (kept_at pixels)) j = ap (λ (w : World). is_some (w j)) c.in_ok-reserve.ensures.kept.world ∙ live in
    let other = live-other (shape lists) i j (next before).free ((bare_canvas (shape lists) (kept_at pixels)).live j ∙ there) in
    ap (λ (moments : ℕ → Option Moment). moments j) c.insert_whole.ensures.moment
    ∙ moment-other i j (Some (moment_at c.in_ok-plane.plane (writes pixels))) (moment pixels) other
    ∙ ap (λ (moments : ℕ → Option Moment). moments j) c.reserve.ensures.moment
