use Rattle.std.proofs.Common.{◌≡◌, ◌∙◌, All, List, length, drop, map, sym, subst, ap, arith}
use Rattle.std.proofs.lemmas.List.{take_all, take-append-le}
use Rattle.r9_geom.specs.Geometry.{IsRectNear}
use Rattle.model_forest.specs.declared.Window.{Window}
use Rattle.r9_locate.proofs.lists.Along.{carried_window}
use Rattle.r9_locate.proofs.lists.carried.Goals as goal

pub carry_each-requires-clause-places : goal.carry_each-requires-clause-places
carry_each-requires-clause-places c =
    subst (λ (ws : List Window). All (λ w. IsRectNear w.place) ws) (sym c.deref_mut.ensures.value) c.requires.places

pub returns-clause-items : goal.returns-clause-items
returns-clause-items c =
    let new = c.carry_each.new.windows in
    let long : length new ≡ c.args.windows.now.len = c.carry_each.auto.windows ∙ c.deref_mut.ensures.len in
    take-append-le c.args.windows.now.len new (drop (length new) c.args.windows.now.items) (omega (arith, long))
    ∙ take_all c.args.windows.now.len new (omega (arith, long))
    ∙ c.carry_each.ensures
    ∙ ap (λ (ws : List Window). map (carried_window c.args.from c.args.to) ws) c.deref_mut.ensures.value
