use Rattle.std.proofs.Common.{◌≡◌, ◌∙◌, true, None, Option, ap, sym}
use Rattle.std.specs.Prelude.{is_some, option_map, IsSome}
use Rattle.std.proofs.lemmas.Bool.{true≢false}
use Rattle.model_forest.specs.declared.Standing.{Standing}
use Rattle.model_forest.specs.World.{Image, image_at, parent_of}
use Rattle.r9_locate.specs.locate.Table.{shape}
use Rattle.r9_pixels.specs.Kept.{kept_at}
use Rattle.r9_forest.specs.Images.{world}
use Rattle.r9_relist.proofs.arrive.Canvases.{bare_canvas}
use Rattle.r9_forest.proofs.Groups.{group_on, of_first, stands-live}
use Rattle.r9_forest.proofs.Sounding.{sound_live}
use Rattle.r9_forest.proofs.images.Images.parent_of_first.Goals as goal

pub get-requires : goal.get-requires
unfolding world
get-requires c =
    sound_live c.args.self.now.lists (kept_at c.args.self.now.pixels) c.in_ok-first.first.now.0
    (stands-live (world c.args.self.now) c.in_ok-first.first.now.0 (of_first (λ i. IsSome (parent_of (world c.args.self.now) i.0)) c.args.group.now c.in_ok-first.first.now c.in_ok-first.ensures.value c.requires.windows))

pub returns-in_err-standing-clause-none : goal.returns-in_err-standing-clause-none
unfolding world
returns-in_err-standing-clause-none c =
    let some : is_some (parent_of (world c.args.self.now) c.in_ok-first.first.now.0) ≡ true = of_first (λ i. IsSome (parent_of (world c.args.self.now) i.0)) c.args.group.now c.in_ok-first.first.now c.in_ok-first.ensures.value c.requires.windows in
    let none : (image_at (world c.args.self.now) c.in_ok-first.first.now.0).standing ≡ None =
    sym ((bare_canvas (shape c.args.self.now.lists) (kept_at c.args.self.now.pixels)).standing c.in_ok-first.first.now.0)
    ∙ ap (λ (image : Image). image.standing) c.get.ensures ∙ c.in_err-standing.was in
    absurd (true≢false (sym some ∙ ap (λ (o : Option Standing). is_some (option_map (λ (s : Standing). s.parent) o)) none))

pub returns-clause-parent : goal.returns-clause-parent
unfolding world
returns-clause-parent c =
    group_on (world c.args.self.now) c.args.group.now c.in_ok-first.first.now c.in_ok-standing.standing c.args.self.now.sound.forest c.in_ok-first.ensures.value
    (sym ((bare_canvas (shape c.args.self.now.lists) (kept_at c.args.self.now.pixels)).standing c.in_ok-first.first.now.0)
    ∙ ap (λ (image : Image). image.standing) c.get.ensures ∙ c.in_ok-standing.was)
