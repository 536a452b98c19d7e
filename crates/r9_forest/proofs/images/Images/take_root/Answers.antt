use Rattle.std.proofs.Common.{◌≡◌, ◌∙◌, ℕ, ◌++◌, ◌∷◌, [], Option, None, refl, sym, subst, ap, arith}
use Rattle.std.specs.Prelude.{is_some}
use Rattle.model_forest.specs.Steps.{after_release}
use Rattle.model_forest.specs.World.{World, with_image, IsLive}
use Rattle.model_kept.specs.Keeping.{with_kept}
use Rattle.r9_locate.specs.locate.Table.{made, shape}
use Rattle.r9_locate.specs.watched.Moments.{Moment}
use Rattle.r9_pixels.specs.Kept.{kept_at, moment}
use Rattle.r9_forest.specs.Images.{numbers, world}
use Rattle.r9_forest.specs.Numbered.{numbers_of}
use Rattle.r9_forest.specs.Sound.{IsSound}
use Rattle.r9_forest.proofs.Backs.{back_numbers, back_room, pushed, IsBack}
use Rattle.r9_forest.proofs.Going.{back_root, can_shape, gone_sound, parent_is, released_root}
use Rattle.r9_forest.proofs.Looking.{gone-other, moment-other}
use Rattle.r9_forest.proofs.Roomy.{fills_put, fills_same, needs_nothing}
use Rattle.r9_forest.proofs.Sounding.{sound_forest}
use Rattle.r9_forest.proofs.images.Images.take_root.Goals as goal
use Rattle.r9_forest.proofs.images.Images.take_root.Goals.{After-push}

pub take_whole-requires-clause-before : goal.take_whole-requires-clause-before
take_whole-requires-clause-before c = sound_forest c.args.self.now.lists (kept_at c.args.self.now.pixels) c.args.self.now.sound.forest

pub take_whole-requires-clause-can : goal.take_whole-requires-clause-can
unfolding world
take_whole-requires-clause-can c = can_shape (shape c.args.self.now.lists) (kept_at c.args.self.now.pixels) c.args.i c.requires.can

pub take_whole-requires-clause-nowhere : goal.take_whole-requires-clause-nowhere
unfolding world
take_whole-requires-clause-nowhere c = parent_is (shape c.args.self.now.lists) (kept_at c.args.self.now.pixels) c.args.i ∙ c.requires.nowhere

pub take_whole-requires-clause-forms : goal.take_whole-requires-clause-forms
take_whole-requires-clause-forms c = c.args.self.now.sound.forms

pub take_whole-requires-clause-cells : goal.take_whole-requires-clause-cells
take_whole-requires-clause-cells c = c.args.self.now.sound.cells

-- the number comes back
back : (c : After-push) → IsBack (shape c.args.self.now.lists) (shape c.take_whole.new.lists) c.args.i
unfolding world
back c =
    let was = c.args.self.now in
    subst (λ (w : World). IsBack (shape was.lists) w c.args.i) (sym c.take_whole.ensures.lists)
    (back_root (shape was.lists) c.args.i (can_shape (shape was.lists) (kept_at was.pixels) c.args.i c.requires.can).live)

spare : (c : After-push) → c.push.new.self.items ≡ c.args.self.now.spare.items ++ c.args.i ∷ []
spare c =
    let was = c.args.self.now in
    let few = back_room (shape was.lists) (shape c.take_whole.new.lists) (made was.lists) c.args.i was.spare.items (back c) was.sound.numbers in
    pushed was.spare.items c.push.new.self.items c.args.i c.push.ensures.items (c.push.ensures.succeeds (omega (arith, few, was.back, was.spare.ok.0)))

-- the world then
after : (c : After-push) → with_kept (shape c.take_whole.new.lists) (kept_at c.take_whole.new.pixels) ≡ after_release (with_kept (shape c.args.self.now.lists) (kept_at c.args.self.now.pixels)) c.args.i
unfolding world
after c = c.take_whole.ensures.world ∙ released_root (shape c.args.self.now.lists) (kept_at c.args.self.now.pixels) c.args.i c.requires.nowhere

pub invariant_of-self : goal.invariant_of-self
unfolding world
invariant_of-self c =
    let at = (goal.at.invariant_of-self c).After-push in
    let was = c.args.self.now in
    let gone : World = with_image (shape was.lists) c.args.i None in
    record {
      sound =
          subst (IsSound c.take_whole.new.lists c.take_whole.new.pixels) (sym (spare at))
          (gone_sound was.lists c.take_whole.new.lists was.pixels c.take_whole.new.pixels was.spare.items c.args.i was.sound c.requires.can c.take_whole.ensures.made (after at) (back at) c.take_whole.ensures.cells c.take_whole.ensures.forms);
      back = omega (arith, c.take_whole.ensures.made, was.back, c.push.ensures.capacity);
      fills = fills_same gone (shape c.take_whole.new.lists) was.room.len c.take_whole.ensures.lists (fills_put (shape was.lists) was.room.len c.args.i None (needs_nothing was.room.len None refl) was.fills);
    }

pub returns-clause-world : goal.returns-clause-world
unfolding world
returns-clause-world c = after (goal.at.returns-clause-world c).After-push

pub returns-clause-back : goal.returns-clause-back
unfolding numbers
returns-clause-back c =
    let was = c.args.self.now in
    (λ j. numbers_of (c.take_whole.ensures.made j) (spare (goal.at.returns-clause-back c).After-push j)) ∙ back_numbers (made was.lists) c.args.i was.spare.items

pub returns-clause-moment : goal.returns-clause-moment
unfolding world
returns-clause-moment c j live =
    let was = c.args.self.now in
    let gone : IsLive (with_image (with_kept (shape was.lists) (kept_at was.pixels)) c.args.i None) j = ap (λ (w : World). is_some (w j)) (sym c.take_whole.ensures.world) ∙ live in
    ap (λ (moments : ℕ → Option Moment). moments j) c.take_whole.ensures.moment
    ∙ moment-other c.args.i j None (moment was.pixels) (gone-other (with_kept (shape was.lists) (kept_at was.pixels)) c.args.i j gone)
