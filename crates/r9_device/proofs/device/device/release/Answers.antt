use Rattle.std.proofs.Common.{◌≡◌, [], ◌∷◌, ℕ, List, ◌+◌, ◌≤◌, drop, refl, sym, subst, arith}
use Rattle.r9_layers.specs.declared.forest.Forest.{Forest}
use Rattle.r9_layers.specs.Forest.{world, writes}
use Rattle.model_draw.specs.cost.Cost.{going_all}
use Rattle.model_draw_parts.specs.declared.images.Thing.{Thing}
use Rattle.model_draw_parts.specs.declared.images.Thing.TheVariants.{Image, Screen}
use Rattle.r9_device.proofs.device.Costs.{image-within, screen-within}
use Rattle.r9_device.proofs.device.Going.{going-begins}
use Rattle.r9_device.proofs.device.Releasing.{IsReleasing, at-next, next-goes, next-of, releases-image, releases-screen}
use Rattle.r9_device.proofs.device.device.release.Goals as goal
use Rattle.r9_device.proofs.device.device.release.Goals.{in-Image, in_default}

pub loop-thing-init : goal.loop-thing-init
loop-thing-init g c = record {
  releasing = record {
    images = refl;
    returned = refl;
    space = omega arith;
    moments = λ j live. refl;
    book = c.requires.0;
    past = [];
    going = going-begins (world c.args.forest.now) c.requires.0 c.args.gone.now c.requires.1 c.keeps.ensures.parents;
  };
  within = omega arith;
  writes = refl;
}

pub release-requires : goal.release-requires
release-requires g c =
    let gone = c.args.gone.now in
    let n = c.loop-thing.thing-index in
    let r = at-next c.args.forest.now c.loop-thing.forest gone n (Image c.in-Image.i) c.loop-thing-test.true c.in-Image.is c.loop-thing.invariant.releasing in
    next-goes c.args.forest.now c.loop-thing.forest gone (drop (n + 1) gone) c.in-Image.i r c.keeps-in-Image.ensures

pub loop-thing-preserved : goal.loop-thing-preserved
loop-thing-preserved g c =
    let gone = c.args.gone.now in
    let n = c.loop-thing.thing-index in
    let before = c.args.forest.now in
    let now = c.loop-thing.forest in
    let rest = drop (n + 1) gone in
    let most : ℕ = c.args.steps.now + going_all (world before) gone in
    let P : Forest → Type 0 = λ f. IsReleasing before f gone rest in
    let Q : Forest → ℕ → Type 0 = λ f written. written + going_all (world f) rest ≤ most in
    let W : Forest → ℕ → Type 0 = λ f written. writes f + c.args.steps.now ≡ writes before + written in
    let R : List Thing → Type 0 = λ things. c.loop-thing.steps + going_all (world now) things ≤ most in
    record {
      releasing =
          elim c.match-thing.branch [
            | in-Image w ↦
                let r = at-next before now gone n (Image w.in-Image.i) c.loop-thing-test.true w.in-Image.is c.loop-thing.invariant.releasing in
                subst P (sym w.forest-is) (releases-image before now w.release.new.self gone rest w.in-Image.i r w.release.ensures.world w.release.ensures.back w.release.ensures.room w.release.ensures.moment)
            | in_default w ↦
                let r = at-next before now gone n (Screen w.in_default.field-0) c.loop-thing-test.true w.in_default.is c.loop-thing.invariant.releasing in
                subst P (sym w.forest-is) (releases-screen before now gone rest w.in_default.field-0 r)
          ];
      within =
          elim c.match-thing.branch [
            | in-Image w ↦
                let r = at-next before now gone n (Image w.in-Image.i) c.loop-thing-test.true w.in-Image.is c.loop-thing.invariant.releasing in
                let h : R (Image w.in-Image.i ∷ rest) = subst R (next-of gone n (Image w.in-Image.i) c.loop-thing-test.true w.in-Image.is) c.loop-thing.invariant.within in
                subst (λ (f : Forest). Q f c.match-thing.steps) (sym w.forest-is)
                (subst (Q w.release.new.self) (sym w.steps-is)
                (image-within r.book (world now) (world w.release.new.self) r.past rest w.in-Image.i c.loop-thing.steps w.release.new.steps most r.going w.release.ensures.world w.release.ensures.steps w.release.ensures.bare h))
            | in_default w ↦
                let h : R (Screen w.in_default.field-0 ∷ rest) = subst R (next-of gone n (Screen w.in_default.field-0) c.loop-thing-test.true w.in_default.is) c.loop-thing.invariant.within in
                subst (λ (f : Forest). Q f c.match-thing.steps) (sym w.forest-is)
                (subst (Q now) (sym w.steps-is) (screen-within (world now) rest w.in_default.field-0 c.loop-thing.steps most h))
          ];
      writes =
          elim c.match-thing.branch [
            | in-Image w ↦
                subst (λ (f : Forest). W f c.match-thing.steps) (sym w.forest-is)
                (subst (W w.release.new.self) (sym w.steps-is) (omega (arith, w.release.ensures.writes, c.loop-thing.invariant.writes)))
            | in_default w ↦
                subst (λ (f : Forest). W f c.match-thing.steps) (sym w.forest-is)
                (subst (W now) (sym w.steps-is) c.loop-thing.invariant.writes)
          ];
    }

pub returns-clause-steps : goal.returns-clause-steps
returns-clause-steps g c = let within = c.loop-thing.invariant.within in omega arith
