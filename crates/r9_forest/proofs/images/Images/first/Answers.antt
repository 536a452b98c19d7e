use Rattle.std.proofs.Common.{◌∙◌, ◌^◌, length, lit≤, sym, ap, arith}
use Rattle.r9_geom.proofs.GeometryLemmas.{near_wider, rect_near_wider}
use Rattle.model_forest.specs.Numbers.{next_number}
use Rattle.model_forest.specs.World.{Image}
use Rattle.r9_pixels.specs.Kept.{kept_at}
use Rattle.r9_forest.specs.Images.{numbers, world}
use Rattle.r9_forest.specs.Numbered.{numbers_of}
use Rattle.r9_forest.specs.Replaced.{put_in}
use Rattle.r9_forest.proofs.Sounding.{sound_live}
use Rattle.r9_forest.proofs.images.Images.first.Goals as goal

pub get-below-requires : goal.get-below-requires
unfolding world
get-below-requires c = sound_live c.args.self.now.lists (kept_at c.args.self.now.pixels) c.args.parent c.requires.parent

pub peek_number-image-requires : goal.peek_number-image-requires
peek_number-image-requires c = let few = c.args.self.now.sound.numbers.few in omega (arith, c.len-made.ensures.value, few)

pub carried_rect-place-requires-clause-rect : goal.carried_rect-place-requires-clause-rect
carried_rect-place-requires-clause-rect c = rect_near_wider (2 ^ 34) (2 ^ 40) c.args.r.now (lit≤ tt) c.requires.near

pub carried_rect-place-requires-clause-from : goal.carried_rect-place-requires-clause-from
carried_rect-place-requires-clause-from c = (rect_near_wider (2 ^ 34) (2 ^ 40) c.args.r.now (lit≤ tt) c.requires.near).min

pub carried_rect-place-requires-clause-to : goal.carried_rect-place-requires-clause-to
carried_rect-place-requires-clause-to c = near_wider (2 ^ 34) (2 ^ 40) c.args.corner (lit≤ tt) c.requires.corner

pub returns-clause-number : goal.returns-clause-number
unfolding numbers
returns-clause-number c = c.peek_number-image.ensures ∙ (λ j. next_number (numbers_of (c.len-made.ensures.value j) (c.deref.ensures.value j)))

pub returns-clause-few : goal.returns-clause-few
returns-clause-few c =
    let deep = ap (λ (im : Image). im.depth) c.get-below.ensures in
    let long = ap (λ (im : Image). length im.windows) c.get-below.ensures in
    let room = c.is_full.ensures c.if-is_full.false in
    (omega (arith, deep, room.0), omega (arith, long, room.1))

pub returns-clause-list : goal.returns-clause-list
returns-clause-list c =
    c.in_ok-list.ensures
    ∙ ap (put_in c.args.rank (record { image = c.peek_number-image.result; place = c.carried_rect-place.result })) (c.deref-2.ensures.value ∙ sym (ap (λ (im : Image). im.windows) c.get-below.ensures))
