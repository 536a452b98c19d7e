use Rattle.std.proofs.Common.{◌≡◌, ◌∙◌, ℕ, ◌<◌, ◌^◌, Some, refl, sym, ap, subst}
use Rattle.std.proofs.lemmas.Result.{IfOk-weaker}
use Rattle.model_pixel.specs.Channels.{depth}
use Rattle.model_forest.specs.Steps.{after_replace}
use Rattle.model_forest.specs.World.{Image, image_at}
use Rattle.r9_locate.specs.locate.Table.{shape}
use Rattle.r9_pixels.specs.Kept.{kept_at}
use Rattle.r9_relist.proofs.arrive.Canvases.{bare_canvas}
use Rattle.r9_forest.specs.declared.ranking.Rank.TheVariants.{Above}
use Rattle.r9_forest.specs.Images.{world}
use Rattle.r9_forest.specs.Replaced.{moved_out, replaced, IsReplacing}
use Rattle.r9_forest.proofs.Exchanged.{if_ok_both, left_chan, replace_world, stands_at}
use Rattle.r9_forest.proofs.Going.{fill_stands}
use Rattle.r9_forest.proofs.Groups.{stands-live}
use Rattle.r9_forest.proofs.Sounding.{sound_live}
use Rattle.r9_forest.proofs.images.Images.replace.Given.{Over}
use Rattle.r9_forest.proofs.images.Images.replace.Goals as goal
use Rattle.r9_forest.proofs.images.Images.replace.Goals.{In-Some}

-- where the other stands
stands : (g : Over) (c : In-Some g) → (image_at (world c.args.self.now) c.args.old).standing ≡ Some c.in-Some.left
unfolding world
stands g c =
    sym ((bare_canvas (shape c.args.self.now.lists) (kept_at c.args.self.now.pixels)).standing c.args.old)
    ∙ ap (λ (image : Image). image.standing) c.get.ensures ∙ c.in-Some.is

pub get-requires : goal.get-requires
unfolding world
get-requires g c =
    let now = c.args.self.now in
    sound_live now.lists (kept_at now.pixels) c.args.old (stands-live (world now) c.args.old c.requires.window)

pub exchange-requires-clause-left : goal.exchange-requires-clause-left
exchange-requires-clause-left g c = stands g (goal.at.exchange-requires-clause-left g c).In-Some

same_number : (m n : ℕ) → Some m ≡ Some n → n ≡ m
same_number m n e = cc

pub exchange-requires-clause-beside : goal.exchange-requires-clause-beside
exchange-requires-clause-beside g c n e = (same_number c.args.old n e, refl)

pub exchange-requires-clause-parent : goal.exchange-requires-clause-parent
unfolding world
exchange-requires-clause-parent g c =
    let w = world c.args.self.now in
    let is = stands g (goal.at.exchange-requires-clause-parent g c).In-Some in
    c.args.self.now.sound.forest.parents c.args.old c.in-Some.left.parent (stands-live w c.args.old c.requires.window) (stands_at w c.args.old c.in-Some.left is)

pub exchange-requires-clause-fill : goal.exchange-requires-clause-fill
unfolding world
exchange-requires-clause-fill g c =
    (fill_stands (world c.args.self.now) c.args.old c.in-Some.left c.args.self.now.sound.forest (stands g (goal.at.exchange-requires-clause-fill g c).In-Some)).1

pub exchange-requires-clause-raw : goal.exchange-requires-clause-raw
unfolding world
exchange-requires-clause-raw g c =
    subst (λ (n : ℕ). c.args.raw < 2 ^ depth n)
    (left_chan (world c.args.self.now) c.args.old c.in-Some.left c.args.self.now.sound.forest (stands g (goal.at.exchange-requires-clause-raw g c).In-Some)) c.requires.raw

pub exchange-requires-clause-chan : goal.exchange-requires-clause-chan
unfolding world
exchange-requires-clause-chan g c = λ keep.
    sym (left_chan (world c.args.self.now) c.args.old c.in-Some.left c.args.self.now.sound.forest (stands g (goal.at.exchange-requires-clause-chan g c).In-Some))

pub returns-clause-free : goal.returns-clause-free
returns-clause-free g c = IfOk-weaker c.exchange.result _ _ (λ i is. is.free) c.exchange.ensures.needs

pub returns-clause-made : goal.returns-clause-made
unfolding world
returns-clause-made g c =
    let w = world c.args.self.now in
    let left = c.in-Some.left in
    if_ok_both
    (λ i. IsReplacing w i c.args.old left left (Above c.args.old) c.args.r c.args.corner c.args.raw c.args.keep)
    (λ i. world c.exchange.new.self ≡ moved_out (replaced w i c.args.old left (Above c.args.old) c.args.r c.args.corner c.args.raw c.args.keep) left.parent c.args.old (image_at w c.args.old).r)
    (λ i. world c.exchange.new.self ≡ after_replace w i c.args.old c.args.r c.args.corner c.args.raw c.args.keep) c.exchange.result c.exchange.ensures.needs c.exchange.ensures.made
    (λ i is made. made ∙ replace_world w i c.args.old left c.args.r c.args.corner c.args.raw c.args.keep c.args.self.now.sound.forest is)
