use Rattle.std.proofs.Common.{◌∙◌, ◌+◌, ◌*◌, sym, arith, refl, subst}
use Rattle.r9_geom.specs.declared.Rect.{Rect}
use Rattle.r9_mirror.specs.Sizes.{IsWithin}
use Rattle.r9_mirror.proofs.Within.{fits, lies}
use Rattle.r9_mirror.proofs.lines.cut.Goals as goal

pub overflow_mul-result : goal.overflow_mul-result
overflow_mul-result c =
    let f = fits c.args.size c.args.x c.args.y c.args.width c.args.height (sym c.is_cell.ensures ∙ c.if-is_cell.true) in
    omega (arith, f.down, c.requires.height)

pub overflow_add-result : goal.overflow_add-result
overflow_add-result c =
    let f = fits c.args.size c.args.x c.args.y c.args.width c.args.height (sym c.is_cell.ensures ∙ c.if-is_cell.true) in
    omega (arith, f.across, f.down, c.requires.width, c.requires.height)

pub area-requires-clause-x : goal.area-requires-clause-x
area-requires-clause-x c =
    let f = fits c.args.size c.args.x c.args.y c.args.width c.args.height (sym c.is_cell.ensures ∙ c.if-is_cell.true) in
    omega (arith, f.across, c.requires.width)

pub area-requires-clause-y : goal.area-requires-clause-y
area-requires-clause-y c =
    let f = fits c.args.size c.args.x c.args.y c.args.width c.args.height (sym c.is_cell.ensures ∙ c.if-is_cell.true) in
    omega (arith, f.down, c.requires.height)

pub area-requires-clause-width : goal.area-requires-clause-width
area-requires-clause-width c =
    let f = fits c.args.size c.args.x c.args.y c.args.width c.args.height (sym c.is_cell.ensures ∙ c.if-is_cell.true) in
    omega (arith, f.wide)

pub area-requires-clause-height : goal.area-requires-clause-height
area-requires-clause-height c =
    let f = fits c.args.size c.args.x c.args.y c.args.width c.args.height (sym c.is_cell.ensures ∙ c.if-is_cell.true) in
    omega (arith, f.tall)

pub returns-then-is_cell-clause-cell : goal.returns-then-is_cell-clause-cell
returns-then-is_cell-clause-cell c = rw (← c.is_cell.ensures, c.if-is_cell.true, c.area.ensures) refl

pub returns-then-is_cell-clause-within : goal.returns-then-is_cell-clause-within
returns-then-is_cell-clause-within c =
    let f = fits c.args.size c.args.x c.args.y c.args.width c.args.height (sym c.is_cell.ensures ∙ c.if-is_cell.true) in
    subst (λ (r : Rect). IsWithin c.args.size (record { order = 2048 * c.args.y + c.args.x; r = r })) (sym c.area.ensures) (lies c.args.size c.args.x c.args.y c.args.width c.args.height c.requires f)

pub returns-else-is_cell-clause-cell : goal.returns-else-is_cell-clause-cell
returns-else-is_cell-clause-cell c = rw (← c.is_cell.ensures, c.if-is_cell.false) refl
