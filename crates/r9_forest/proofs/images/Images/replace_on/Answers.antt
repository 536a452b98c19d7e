use Rattle.std.proofs.Common.{◌≡◌, ◌∙◌, ℕ, Some, None, sym, ap}
use Rattle.std.proofs.lemmas.Result.{IfOk-weaker}
use Rattle.model_forest.specs.declared.Standing.{Standing}
use Rattle.model_forest.specs.Steps.{after_replace_on}
use Rattle.model_forest.specs.World.{Image, image_at}
use Rattle.r9_locate.specs.locate.Table.{shape}
use Rattle.r9_pixels.specs.Kept.{kept_at}
use Rattle.r9_relist.proofs.arrive.Canvases.{bare_canvas}
use Rattle.r9_forest.specs.declared.ranking.Rank.TheVariants.{Top}
use Rattle.r9_forest.specs.Images.{world}
use Rattle.r9_forest.specs.Replaced.{moved_out, replaced, IsReplacing}
use Rattle.r9_forest.proofs.Exchanged.{if_ok_both, replace_on_world}
use Rattle.r9_forest.proofs.Groups.{stands-live}
use Rattle.r9_forest.proofs.Sounding.{sound_live}
use Rattle.r9_forest.proofs.images.Images.replace_on.Given.{Over}
use Rattle.r9_forest.proofs.images.Images.replace_on.Goals as goal
use Rattle.r9_forest.proofs.images.Images.replace_on.Goals.{In-Some}

-- where the other stands
stands : (g : Over) (c : In-Some g) → (image_at (world c.args.self.now) c.args.old).standing ≡ Some c.in-Some.left
unfolding world
stands g c =
    sym ((bare_canvas (shape c.args.self.now.lists) (kept_at c.args.self.now.pixels)).standing c.args.old)
    ∙ ap (λ (image : Image). image.standing) c.get.ensures ∙ c.in-Some.is

pub get-requires : goal.get-requires
unfolding world
get-requires g c =
    let now = c.args.self.now in
    sound_live now.lists (kept_at now.pixels) c.args.old (stands-live (world now) c.args.old c.requires.window)

pub exchange-requires-clause-left : goal.exchange-requires-clause-left
exchange-requires-clause-left g c = stands g (goal.at.exchange-requires-clause-left g c).In-Some

no_number : (n : ℕ) → None ≡ Some n → ⊥
no_number n e = cc

pub exchange-requires-clause-beside : goal.exchange-requires-clause-beside
exchange-requires-clause-beside g c n e = absurd (no_number n e)

pub returns-clause-free : goal.returns-clause-free
returns-clause-free g c = IfOk-weaker c.exchange.result _ _ (λ i is. is.free) c.exchange.ensures.needs

pub returns-clause-made : goal.returns-clause-made
unfolding world
returns-clause-made g c =
    let w = world c.args.self.now in
    let left = c.in-Some.left in
    let standing : Standing = record { parent = c.args.parent; fill = c.args.fill } in
    if_ok_both
    (λ i. IsReplacing w i c.args.old left standing Top c.args.r c.args.corner c.args.raw c.args.keep)
    (λ i. world c.exchange.new.self ≡ moved_out (replaced w i c.args.old standing Top c.args.r c.args.corner c.args.raw c.args.keep) left.parent c.args.old (image_at w c.args.old).r)
    (λ i. world c.exchange.new.self ≡ after_replace_on w i c.args.old c.args.parent c.args.fill c.args.r c.args.corner c.args.raw c.args.keep) c.exchange.result c.exchange.ensures.needs c.exchange.ensures.made
    (λ i is made. made ∙ replace_on_world w i c.args.old left standing c.args.r c.args.corner c.args.raw c.args.keep c.args.self.now.sound.forest is)
