use Rattle.std.proofs.Common.{◌≡◌, ◌∙◌, ◌+◌, ◌-◌, suc, arith, sym, refl, subst, Option}
use Rattle.std.specs.Option.{option_map}
use Rattle.model_client.specs.mirror.Picture.{Picture, with_rows}
use Rattle.r9_mirror.specs.declared.place.Place.{Place}
use Rattle.r9_mirror.specs.Left.{Leaves}
use Rattle.r9_mirror.proofs.Steps.{cell_leads, cell_refused, with_picture}
use Rattle.r9_mirror.proofs.place.Place.cell.Goals as goal

pub returns-in-Err-clause-tells : goal.returns-in-Err-clause-tells
returns-in-Err-clause-tells c = λ picture outcome l.
    let place = c.args.self in
    let n = place.left - 1 in
    let left : place.left ≡ suc n = omega (arith, c.requires.left) in
    with_picture c.in-Some.size picture (l.size ∙ c.in-Some.is)
    (λ p s e.
    cell_refused c.args.chan n c.in-Err.place c.args.text.now place p outcome left (c.in-Err.ensures.cell n p s)
    (subst (λ (o : Option Picture). Leaves c.args.chan c.args.text.now place o outcome) e l))

pub returns-in-Ok-clause-tells : goal.returns-in-Ok-clause-tells
returns-in-Ok-clause-tells c = λ picture outcome l.
    let chan = c.args.chan in
    let text = c.args.text.now in
    let place = c.args.self in
    let n = place.left - 1 in
    let order = c.in-Ok.cell.order + 1 in
    let next : Place = record { at = c.in-Ok.at; left = n; first = order; size = place.size } in
    let shown = with_rows chan c.in-Ok.cell.r c.in-Ok.rows.now in
    let left : place.left ≡ suc n = omega (arith, c.requires.left) in
    with_picture c.in-Some.size picture (l.size ∙ c.in-Some.is)
    (λ p s e.
    subst (λ (o : Option Picture). Leaves chan text next (option_map shown o) outcome) (sym e)
    (cell_leads chan n order c.in-Ok.at text place p (shown p) outcome left c.in-Ok.ensures.within.0 refl (c.in-Ok.ensures.cell n p s)
    (subst (λ (o : Option Picture). Leaves chan text place o outcome) e l)))
