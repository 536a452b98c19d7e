use Rattle.std.proofs.Common.{◌==◌, ◌∙◌, arith}
use Rattle.model_draw_parts.specs.declared.images.ScreenId.{ScreenId}
use Rattle.r9_images.proofs.uses.Counts.{count-put_screen}
use Rattle.r9_images.proofs.uses.uses.Uses.put_screen_id.Goals as goal

pub invariant_of-self-clause-screens_counted : goal.invariant_of-self-clause-screens_counted
invariant_of-self-clause-screens_counted c = λ s.
    rw c.put.ensures.ids
    (omega (arith, c.add.ensures.counts s, c.args.self.now.screens_counted s, count-put_screen (λ (e : ScreenId). e.screen == s) c.args.e c.args.self.now.screen_ids.ids))

pub invariant_of-self-clause-screens_gone : goal.invariant_of-self-clause-screens_gone
invariant_of-self-clause-screens_gone c = λ s. c.add.ensures.gone s ∙ c.args.self.now.screens_gone s
