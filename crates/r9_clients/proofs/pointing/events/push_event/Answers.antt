use Rattle.std.proofs.Common.{◌∙◌, ap, subst, List, map}
use Rattle.model_client.specs.declared.desk.Mode.{Mode}
use Rattle.model_client.specs.declared.desk.Text.{Text}
use Rattle.model_client.specs.desk.Table.{Desk}
use Rattle.model_clients.specs.piloted.History.{writes}
use Rattle.law_desk.specs.steered.Steered.{write_of}
use Rattle.law_menus.specs.menus.Writes.{bands_after, writes_for}
use Rattle.r9_clients.specs.saying.Lines.{IsSaid}
use Rattle.r9_clients.proofs.saying.Said.{on_ok_then}
use Rattle.r9_clients.proofs.pointing.Steps.{event_said}
use Rattle.r9_clients.proofs.pointing.events.push_event.Goals as goal

pub returns-clause-said : goal.returns-clause-said
returns-clause-said c =
    let d = c.args.desk.now in
    let e = c.args.e in
    let before = c.args.out.now in
    let between = c.push_texts.new.out in
    let out = c.push_menu.new.out in
    let texts =
    subst (λ (ts : List Text). IsSaid before between (map (λ text. writes (write_of text)) ts)) (c.as_slice.ensures ∙ c.in_ok-texts.ensures.texts) c.in_ok-push_texts.ensures
    in
    on_ok_then c.push_menu.result (IsSaid between out (map writes (bands_after c.mode-before.result c.mode.result))) (IsSaid before out (map writes (writes_for d e)))
    (λ said. event_said d e before between out texts
    (subst (λ (m : Mode). IsSaid between out (map writes (bands_after d.mode m))) (c.mode.ensures ∙ ap (λ (t : Desk). t.mode) c.in_ok-texts.ensures.table)
    (subst (λ (m : Mode). IsSaid between out (map writes (bands_after m c.mode.result))) c.mode-before.ensures said)))
    c.push_menu.ensures
