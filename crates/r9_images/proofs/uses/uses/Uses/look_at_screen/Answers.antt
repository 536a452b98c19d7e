use Rattle.std.proofs.Common.{[], sym, ◌∙◌, arith}
use Rattle.model_draw_parts.specs.declared.images.Thing.TheVariants.{Screen}
use Rattle.r9_images.specs.uses.Freed.{freed_of}
use Rattle.r9_images.proofs.uses.Falling.{all-known, fallen, length-weight, roomy, stayed, went}
use Rattle.r9_images.proofs.uses.uses.Uses.look_at_screen.Goals as goal

pub returns-then-stays-clause-step : goal.returns-then-stays-clause-step
returns-then-stays-clause-step c = λ ties next_tie.
    stayed (freed_of c.args.self.now ties next_tie) (Screen c.args.screen) c.args.pending.now.things (sym (c.stays.ensures ties next_tie) ∙ c.if-stays.true)

pub refer_screen-requires-clause-room : goal.refer_screen-requires-clause-room
refer_screen-requires-clause-room c = omega (arith, length-weight c.args.pending.now.things, c.requires.most)

pub returns-clause-step : goal.returns-clause-step
returns-clause-step c = λ ties next_tie.
    went (freed_of c.args.self.now ties next_tie) (freed_of c.let_screen_go.new.self ties next_tie) (Screen c.args.screen) c.args.pending.now.things c.refer_screen.new.pending.things
    (sym (c.stays.ensures ties next_tie) ∙ c.if-stays.false) (c.let_screen_go.ensures.freed ties next_tie) (c.refer_screen.ensures.things ties next_tie)

pub returns-clause-less : goal.returns-clause-less
returns-clause-less c =
    fallen c.args.self.now c.let_screen_go.new.self (Screen c.args.screen) c.args.pending.now.things c.refer_screen.new.pending.things (c.let_screen_go.ensures.freed [] 0) (c.refer_screen.ensures.things [] 0)

pub returns-clause-room : goal.returns-clause-room
returns-clause-room c =
    roomy c.args.self.now c.let_screen_go.new.self (Screen c.args.screen) c.args.pending.now.things c.refer_screen.new.pending.things (c.let_screen_go.ensures.freed [] 0) (c.refer_screen.ensures.things [] 0)
    c.let_screen_go.ensures.gone c.let_screen_go.ensures.spare c.let_screen_go.ensures.known

pub returns-clause-all : goal.returns-clause-all
returns-clause-all c =
    all-known c.args.self.now c.let_screen_go.new.self (Screen c.args.screen) c.args.pending.now.things c.refer_screen.new.pending.things (c.refer_screen.ensures.things [] 0) c.let_screen_go.ensures.known
    c.refer_screen.ensures.known c.requires.all
