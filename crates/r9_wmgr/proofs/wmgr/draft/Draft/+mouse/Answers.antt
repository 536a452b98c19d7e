use Rattle.std.proofs.Common.{◌∙◌, sym, ap}
use Rattle.model_rio.specs.rio.Table.{hold_of, is_host}
use Rattle.model_rio.specs.rio.Step.{noted}
use Rattle.model_rio.specs.rio.Routing.{receiver}
use Rattle.r9_wmgr.proofs.wmgr.Levels.{moused-zero, moused-none, moused-host, moused-window}
use Rattle.r9_wmgr.proofs.wmgr.Results.{on_ok}
use Rattle.r9_wmgr.proofs.wmgr.draft.Draft.+mouse.Goals as goal

pub returns-then-levels-eq0 : goal.returns-then-levels-eq0
returns-then-levels-eq0 t c = sym (moused-zero _ _ _ _ c.if-levels-eq0.true)

pub returns-in_default : goal.returns-in_default
returns-in_default t c =
    let to = ap (λ step. receiver step.table c.args.e c.args.host (hold_of step.table c.args.host)) (sym c.self.view_is) ∙ sym c.receiver-to.ensures ∙ c.in_default.is in
    moused-none c.args.levels c.args.e c.args.host c.args.self.now _ c.if-levels-eq0.false to c.in_ok-react.ensures

pub returns-then-is_host : goal.returns-then-is_host
returns-then-is_host t c =
    let to = ap (λ step. receiver step.table c.args.e c.args.host (hold_of step.table c.args.host)) (sym c.self.view_is) ∙ sym c.receiver-to.ensures ∙ c.in-Some.is in
    let hosts = ap (λ step. is_host step.table c.in-Some.serial) (sym c.self-2.view_is) ∙ sym c.is_host.ensures ∙ c.if-is_host.true in
    on_ok c.mouse.result (moused-host c.args.levels c.args.e c.args.host c.in-Some.serial c.args.self.now c.react.new.self _ c.if-levels-eq0.false to c.in_ok-react.ensures hosts) c.mouse.ensures

pub returns : goal.returns
returns t c =
    let to = ap (λ step. receiver step.table c.args.e c.args.host (hold_of step.table c.args.host)) (sym c.self.view_is) ∙ sym c.receiver-to.ensures ∙ c.in-Some.is in
    let hosts = ap (λ step. is_host step.table c.in-Some.serial) (sym c.self-2.view_is) ∙ sym c.is_host.ensures ∙ c.if-is_host.false in
    on_ok c.note.result
    (λ e. moused-window c.args.levels c.args.e c.args.host c.in-Some.serial c.args.self.now c.react.new.self _ c.if-levels-eq0.false to c.in_ok-react.ensures hosts
    (e ∙ ap (λ told. noted c.in-Some.serial told c.react.new.self) c.told.ensures))
    c.note.ensures
