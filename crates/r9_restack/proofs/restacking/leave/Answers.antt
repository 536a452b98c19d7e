use Rattle.std.proofs.Common.{ℕ, refl, ap, eq-eqb}
use Rattle.std.specs.Prelude.{if◌then◌else◌}
use Rattle.std.proofs.lemmas.Bool.{ne_eqb}
use Rattle.r9_geom.specs.declared.Point.{Point}
use Rattle.model_kept.specs.Keeping.{keeping, own}
use Rattle.r9_locate.specs.locate.Table.{shape}
use Rattle.r9_restack.proofs.restacking.leave.Goals as goal

pub returns-clause-moved : goal.returns-clause-moved
returns-clause-moved g c =
    let world = shape c.args.lists.now in
    let w = c.args.w in
    let kept = g.P.Pixels.kept in
    let pixels : Point → ℕ = λ x. kept c.args.pixels.now (keeping world w x) in
    c.change.ensures.moved (kept c.args.pixels.now) _
    (record {
      was_same = λ place apart. refl;
      pixels = λ q v h top is_w. absurd (c.requires.gone q v top is_w);
      now_same = λ place apart. ap (λ b. if b then pixels place.at else kept c.change.new.pixels place) (ne_eqb place.image w apart);
      hidden = λ x h none. ap (λ b. if b then pixels x else kept c.change.new.pixels (own w x)) (eq-eqb w w refl);
    })
