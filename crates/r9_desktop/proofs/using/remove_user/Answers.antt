use Rattle.std.proofs.Common.{rules, ◌≡◌, None, sym, ◌∙◌}
use Rattle.model_text.specs.text.Map.{lookup}
use Rattle.r9_desktop.proofs.Maps.{with-absent}
use Rattle.r9_desktop.proofs.using.remove_user.Goals as goal

pub returns-in_default : goal.returns-in_default
returns-in_default c =
    let before = c.args.users.now.entries in
    let none : lookup before c.args.window ≡ None = search rules in
    let kept : c.get_mut.follows.lender-at-none.entries ≡ before = search rules in
    kept ∙ sym (with-absent before c.args.window _ none)
