use Rattle.std.proofs.Common.{◌≡◌, ◌&&◌, rules}
use Rattle.std.proofs.lemmas.Fn.{filter_same}
use Rattle.r9_geom.specs.Geometry.{holds}
use Rattle.r9_region.proofs.Narrowed.{how_many-narrowed, is_solid, narrowed, narrowed_solid, within_apart, within_points}
use Rattle.r9_region.proofs.Points.{covers_both}
use Rattle.r9_region.proofs.Region.within.Goals as goal

pub invariant_of-self : goal.invariant_of-self
invariant_of-self c =
    let kept = filter_same _ is_solid _ (λ x b f' k. search rules) _ _ c.retain.ensures.filtered in
    let same : c.retain.new.self.items ≡ narrowed c.self.inside.parts.items c.args.r = rw c.narrow.ensures at kept in
    rw same
    (record {
      apart = λ p. within_apart (holds c.args.r p) _ _ (how_many-narrowed c.self.inside.parts.items c.args.r p) (c.self.invariant.apart p);
      solid = narrowed_solid c.self.inside.parts.items c.args.r;
    })

pub returns : goal.returns
returns c p =
    let kept = filter_same _ is_solid _ (λ x b f' k. search rules) _ _ c.retain.ensures.filtered in
    let same : c.retain.new.self.items ≡ narrowed c.self.inside.parts.items c.args.r = rw c.narrow.ensures at kept in
    rw (same, ← c.self.view_is)
    (covers_both _ c.self.inside.parts.items p (λ b. b && holds c.args.r p) (within_points (holds c.args.r p) _ _ (how_many-narrowed c.self.inside.parts.items c.args.r p)))
