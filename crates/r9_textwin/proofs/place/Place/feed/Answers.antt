use Rattle.std.proofs.Common.{◌≡◌, ◌∙◌, ◌-◌, ◌<◌, subst, sym}
use Rattle.std.proofs.lemmas.Bool.{ne_eqb}
use Rattle.r9_textwin.proofs.Lines.{IsLine, line_first, newline_first}
use Rattle.r9_textwin.specs.Window.{Spot}
use Rattle.r9_textwin.specs.Steps.{run}
use Rattle.r9_textwin.proofs.Pages.{line_fed, newline_fed, room_left}
use Rattle.r9_textwin.proofs.place.Place.feed.Goals as goal

pub returns-then-bytes-eq10-clause-brings : goal.returns-then-bytes-eq10-clause-brings
returns-then-bytes-eq10-clause-brings c = λ s front brings.
    newline_fed s c.args.self c.in_ok-new_row.field-0 front c.args.bytes.now c.args.moves.now c.new_row.new.moves
    (newline_first c.args.bytes.now c.requires c.if-bytes-eq10.true) c.in_ok-new_row.ensures.moves c.in_ok-new_row.ensures.place brings

pub returns-clause-brings : goal.returns-clause-brings
returns-clause-brings c = λ s front brings.
    let place = c.in_ok-place.place in
    let bytes = c.args.bytes.now in
    let line = c.run-line.result.now in
    let most = place.columns - place.column in
    let line_is : line ≡ run most bytes = c.run-line.ensures ∙ (λ i. run ((c.place.view_is i).columns - (c.place.view_is i).column) bytes) in
    let some : 0 < most = subst (λ (t : Spot). 0 < t.columns - t.column) (sym c.in_ok-place.ensures.place) (room_left c.args.self brings.is) in
    let is : IsLine most bytes line = subst (IsLine most bytes) (sym line_is) (line_first most bytes c.requires (ne_eqb _ 10 c.if-bytes-eq10.false) some) in
    line_fed s c.args.self place c.in_ok-next.next front bytes line c.in_ok-codes_of.field-0 c.args.moves.now c.with_room.new.moves c.put.new.moves is
    c.in_ok-place.ensures.place c.in_ok-place.ensures.moves c.in_ok-codes_of.ensures c.in_ok-next.ensures.moves c.in_ok-next.ensures.place brings
