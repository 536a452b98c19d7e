use Rattle.std.proofs.Common.{◌∙◌, sym, ap, subst, option_map}
use Rattle.model_alone.specs.used.Look.{used_then}
use Rattle.r9_files.specs.around.Words.{mark_after}
use Rattle.r9_desktop.specs.World.{desktop_of}
use Rattle.r9_wire.specs.View.{r_of}
use Rattle.r9_hall.specs.seen.Telling.{IsTelling}
use Rattle.r9_hall.proofs.seen.Telling.{telling}
use Rattle.r9_hall.proofs.seen.answering.answer.Goals as goal

pub returns-clause-uses : goal.returns-clause-uses
returns-clause-uses c = λ watched.
    let number = c.args.session in
    let before = desktop_of c.args.desktop.now in
    let after = desktop_of c.answer.new.desktop in
    let answered = c.in_ok-answered.answered in
    let told = c.in_ok-answered.ensures in
    let mark = mark_after c.args.mark answered.short in
    let reply = option_map r_of answered.reply in
    let look_is = c.in_ok-look.ensures.watched watched in
    let tells = telling number c.args.found.now c.answer.new.found before after c.args.bytes.now c.args.mark answered.told answered.short reply told.answer told.short told.told told.messages in
    c.in_ok-uses.ensures number before mark (subst (IsTelling number before after mark answered.told answered.short) (sym look_is) tells)
    ∙ ap (used_then number before mark reply) look_is

pub returns-clause-unwatched : goal.returns-clause-unwatched
returns-clause-unwatched c = λ unwatched.
    let number = c.args.session in
    let before = desktop_of c.args.desktop.now in
    let after = desktop_of c.answer.new.desktop in
    let answered = c.in_ok-answered.answered in
    let look_is = c.in_ok-look.ensures.unwatched unwatched in (
      c.in_ok-uses.ensures number before c.args.mark (subst (IsTelling number before after c.args.mark answered.told answered.short) (sym look_is) tt)
          ∙ ap (used_then number before c.args.mark (option_map r_of answered.reply)) look_is,
      look_is,
    )
