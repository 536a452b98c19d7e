use Rattle.std.proofs.Common.{◌≡◌, ◌∙◌, sym, ap}
use Rattle.model_forest.specs.declared.Window.{Window}
use Rattle.model_forest.specs.View.{inward}
use Rattle.model_kept.specs.Keeping.{own}
use Rattle.r9_locate.specs.locate.Table.{shape}
use Rattle.r9_restack.proofs.Carrying.{inward_from}
use Rattle.r9_restack.proofs.Changes.{some_same}
use Rattle.r9_restack.proofs.changing.save.Goals as goal

pub save_area-requires-clause-has : goal.save_area-requires-clause-has
save_area-requires-clause-has g c q h =
    let v = c.in-Some.v in
    ap (λ y. g.P.Pixels.has c.args.pixels.now (own v.image y)) (inward_from (shape c.args.lists.now) v q c.args.r.now.min c.inward-x.result c.inward-x.ensures)
    ∙ c.requires.has v c.in-Some.is c.if-v-w.true q h

pub returns-then-v-w-clause-saved : goal.returns-then-v-w-clause-saved
returns-then-v-w-clause-saved g c v a_is apart z h =
    let world = shape c.args.lists.now in
    let now = g.P.Pixels.kept c.save_area.new.pixels in
    let same : c.in-Some.v ≡ v = some_same c.in-Some.v v (sym c.in-Some.is ∙ a_is) in
    ap (λ (u : Window). now (own u.image (inward world u z))) (sym same)
    ∙ ap (λ y. now (own c.in-Some.v.image y)) (sym (inward_from world c.in-Some.v z c.args.r.now.min c.inward-x.result c.inward-x.ensures))
    ∙ c.save_area.ensures.at z h

pub returns-then-v-w-clause-others : goal.returns-then-v-w-clause-others
returns-then-v-w-clause-others g c place apart =
    let v = c.in-Some.v in
    c.save_area.ensures.others place
    (λ q h same.
    apart v c.in-Some.is c.if-v-w.true q h
    (same ∙ ap (own v.image) (inward_from (shape c.args.lists.now) v q c.args.r.now.min c.inward-x.result c.inward-x.ensures)))
