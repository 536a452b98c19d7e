use Rattle.std.proofs.Common.{◌≡◌, ◌∙◌, ℕ, ◌<◌, ◌^◌, Some, refl, sym, ap, subst}
use Rattle.std.proofs.lemmas.Result.{IfOk-weaker}
use Rattle.model_pixel.specs.Channels.{depth}
use Rattle.model_exchanged.specs.exchanged.Exchanged.{after_put_under}
use Rattle.model_forest.specs.World.{Image, image_at}
use Rattle.r9_locate.specs.locate.Table.{shape}
use Rattle.r9_pixels.specs.Kept.{kept_at}
use Rattle.r9_relist.proofs.arrive.Canvases.{bare_canvas}
use Rattle.r9_forest.specs.declared.ranking.Rank.TheVariants.{Below}
use Rattle.r9_forest.specs.Images.{world}
use Rattle.r9_forest.specs.Replaced.{replaced, IsReplacing}
use Rattle.r9_forest.proofs.Exchanged.{if_ok_both, left_chan, put_under_world, stands_at}
use Rattle.r9_forest.proofs.Going.{fill_stands}
use Rattle.r9_forest.proofs.Groups.{stands-live}
use Rattle.r9_forest.proofs.Sounding.{sound_live}
use Rattle.r9_forest.proofs.images.Images.put_under.Given.{Over}
use Rattle.r9_forest.proofs.images.Images.put_under.Goals as goal
use Rattle.r9_forest.proofs.images.Images.put_under.Goals.{In-Some}

-- where the other stands
stands : (g : Over) (c : In-Some g) → (image_at (world c.args.self.now) c.args.old).standing ≡ Some c.in-Some.left
unfolding world
stands g c =
    sym ((bare_canvas (shape c.args.self.now.lists) (kept_at c.args.self.now.pixels)).standing c.args.old)
    ∙ ap (λ (image : Image). image.standing) c.get.ensures ∙ c.in-Some.is

pub get-requires : goal.get-requires
unfolding world
get-requires g c =
    let now = c.args.self.now in
    sound_live now.lists (kept_at now.pixels) c.args.old (stands-live (world now) c.args.old c.requires.window)

pub put-requires-clause-left : goal.put-requires-clause-left
put-requires-clause-left g c = stands g (goal.at.put-requires-clause-left g c).In-Some

same_number : (m n : ℕ) → Some m ≡ Some n → n ≡ m
same_number m n e = cc

pub put-requires-clause-beside : goal.put-requires-clause-beside
put-requires-clause-beside g c n e = (same_number c.args.old n e, refl)

pub put-requires-clause-parent : goal.put-requires-clause-parent
unfolding world
put-requires-clause-parent g c =
    let w = world c.args.self.now in
    let is = stands g (goal.at.put-requires-clause-parent g c).In-Some in
    c.args.self.now.sound.forest.parents c.args.old c.in-Some.left.parent (stands-live w c.args.old c.requires.window) (stands_at w c.args.old c.in-Some.left is)

pub put-requires-clause-fill : goal.put-requires-clause-fill
unfolding world
put-requires-clause-fill g c =
    (fill_stands (world c.args.self.now) c.args.old c.in-Some.left c.args.self.now.sound.forest (stands g (goal.at.put-requires-clause-fill g c).In-Some)).1

pub put-requires-clause-raw : goal.put-requires-clause-raw
unfolding world
put-requires-clause-raw g c =
    subst (λ (n : ℕ). c.args.raw < 2 ^ depth n)
    (left_chan (world c.args.self.now) c.args.old c.in-Some.left c.args.self.now.sound.forest (stands g (goal.at.put-requires-clause-raw g c).In-Some)) c.requires.raw

pub put-requires-clause-chan : goal.put-requires-clause-chan
unfolding world
put-requires-clause-chan g c = λ keep.
    sym (left_chan (world c.args.self.now) c.args.old c.in-Some.left c.args.self.now.sound.forest (stands g (goal.at.put-requires-clause-chan g c).In-Some))

pub returns-clause-free : goal.returns-clause-free
returns-clause-free g c = IfOk-weaker c.put.result _ _ (λ i is. is.free) c.put.ensures.needs

pub returns-clause-made : goal.returns-clause-made
unfolding world
returns-clause-made g c =
    let w = world c.args.self.now in
    let left = c.in-Some.left in
    if_ok_both
    (λ i. IsReplacing w i c.args.old left left (Below c.args.old) c.args.r c.args.corner c.args.raw c.args.keep)
    (λ i. world c.put.new.self ≡ replaced w i c.args.old left (Below c.args.old) c.args.r c.args.corner c.args.raw c.args.keep)
    (λ i. world c.put.new.self ≡ after_put_under w i c.args.old c.args.r c.args.corner c.args.raw c.args.keep) c.put.result c.put.ensures.needs c.put.ensures.made
    (λ i is made. made ∙ put_under_world w i c.args.old left c.args.r c.args.corner c.args.raw c.args.keep c.args.self.now.sound.forest is)
