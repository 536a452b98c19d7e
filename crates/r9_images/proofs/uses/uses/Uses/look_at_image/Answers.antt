use Rattle.std.proofs.Common.{◌+◌, ◌≤◌, ◌∷◌, [], ℕ, Option, length, sym, ap, subst, ◌∙◌, vec_capacity}
use Rattle.std.specs.Option.{option_map_or}
use Rattle.model_draw_parts.specs.declared.images.Thing.TheVariants.{Image, Screen}
use Rattle.r9_images.specs.uses.Freed.{freed_of}
use Rattle.r9_images.proofs.uses.Falling.{all-known, fallen, fits, refers-known, roomy, screen-first, stayed, went}
use Rattle.r9_images.proofs.uses.uses.Uses.look_at_image.Goals as goal

pub returns-then-stays-clause-step : goal.returns-then-stays-clause-step
returns-then-stays-clause-step c = λ ties next_tie.
    stayed (freed_of c.args.self.now ties next_tie) (Image c.args.image) c.args.pending.now.things (sym (c.stays.ensures ties next_tie) ∙ c.if-stays.true)

pub refer_image-requires : goal.refer_image-requires
refer_image-requires c =
    let P : Option ℕ → Type 0 = λ o. length (option_map_or (λ s. Screen s ∷ []) o []) + length c.args.pending.now.things ≤ c.args.pending.now.most in
    subst P (sym c.let_image_go-screen.ensures.screen) (fits c.args.self.now (Image c.args.image) c.args.pending.now.things c.args.pending.now.most c.requires.most)

pub returns-clause-step : goal.returns-clause-step
returns-clause-step c = λ ties next_tie.
    went (freed_of c.args.self.now ties next_tie) (freed_of c.let_image_go-screen.new.self ties next_tie) (Image c.args.image) c.args.pending.now.things c.refer_image.new.pending.things
    (sym (c.stays.ensures ties next_tie) ∙ c.if-stays.false) (c.let_image_go-screen.ensures.freed ties next_tie)
    (c.refer_image.ensures.things ∙ screen-first c.args.self.now c.args.image _ c.args.pending.now.things c.let_image_go-screen.ensures.screen)

pub returns-clause-less : goal.returns-clause-less
returns-clause-less c =
    fallen c.args.self.now c.let_image_go-screen.new.self (Image c.args.image) c.args.pending.now.things c.refer_image.new.pending.things (c.let_image_go-screen.ensures.freed [] 0)
    (c.refer_image.ensures.things ∙ screen-first c.args.self.now c.args.image _ c.args.pending.now.things c.let_image_go-screen.ensures.screen)

pub returns-clause-room : goal.returns-clause-room
returns-clause-room c =
    roomy c.args.self.now c.let_image_go-screen.new.self (Image c.args.image) c.args.pending.now.things c.refer_image.new.pending.things (c.let_image_go-screen.ensures.freed [] 0)
    (c.refer_image.ensures.things ∙ screen-first c.args.self.now c.args.image _ c.args.pending.now.things c.let_image_go-screen.ensures.screen)
    c.let_image_go-screen.ensures.gone (ap vec_capacity c.let_image_go-screen.ensures.spare) c.let_image_go-screen.ensures.known

pub returns-clause-all : goal.returns-clause-all
returns-clause-all c =
    all-known c.args.self.now c.let_image_go-screen.new.self (Image c.args.image) c.args.pending.now.things c.refer_image.new.pending.things
    (c.refer_image.ensures.things ∙ screen-first c.args.self.now c.args.image _ c.args.pending.now.things c.let_image_go-screen.ensures.screen) c.let_image_go-screen.ensures.known
    (refers-known c.args.self.now c.args.image) c.requires.all
