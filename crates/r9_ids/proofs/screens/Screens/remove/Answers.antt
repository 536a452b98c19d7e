use Rattle.std.proofs.Common.{List, Option, None, Some, ap, sym, ◌∙◌}
use Rattle.std.specs.Prelude.{slice_set}
use Rattle.model_draw_parts.specs.declared.images.Screen.{Screen}
use Rattle.r9_ids.specs.screens.Screens.{Numbered}
use Rattle.r9_ids.proofs.screens.Table.{found, removed, screens-none, table-removed}
use Rattle.r9_ids.proofs.screens.Screens.remove.Goals as goal

pub returns-in_default-clause-removed : goal.returns-in_default-clause-removed
returns-in_default-clause-removed c =
    let none = found c.self.inside.keys.items c.deref.result.now c.args.number c.key_of.result None c.deref.ensures.value c.key_of.ensures c.in_default.is in
    let same = ap (λ (v : Numbered). v.screens) c.self.view_is in
    sym same ∙ screens-none c.self.inside.screens c.self.inside.keys.items c.args.number none ∙ ap (λ (screens : List (Option Screen)). slice_set screens c.args.number None) same

pub invariant_of-self : goal.invariant_of-self
invariant_of-self c =
    let is = found c.self.inside.keys.items c.deref.result.now c.args.number c.key_of.result (Some c.in-Some.key) c.deref.ensures.value c.key_of.ensures c.in-Some.is in
    table-removed c.self.inside.screens c.remove.new.self c.self.inside.keys.items c.args.number c.in-Some.key c.self.invariant is c.remove.ensures.updates

pub returns-clause-removed : goal.returns-clause-removed
returns-clause-removed c =
    let is = found c.self.inside.keys.items c.deref.result.now c.args.number c.key_of.result (Some c.in-Some.key) c.deref.ensures.value c.key_of.ensures c.in-Some.is in
    removed c.self.inside.screens c.remove.new.self c.self.inside.keys.items c.args.number c.in-Some.key c.self.invariant is c.remove.ensures.updates
    ∙ ap (λ (v : Numbered). slice_set v.screens c.args.number None) c.self.view_is
