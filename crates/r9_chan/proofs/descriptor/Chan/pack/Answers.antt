use Rattle.std.proofs.Common.{◌≡◌, ◌<◌, ◌≤◌, ◌*◌, ◌^◌, arith, ◌∙◌, ap, subst, ℕ, pow_mono}
use Rattle.model_pixel.specs.Channels.{depth, pack}
use Rattle.r9_chan.proofs.ChannelLemmas.{Packs, packs, sound_of, packed_none, depth-step, depth_none, depth_fits}
use Rattle.r9_chan.proofs.descriptor.Chan.pack.Goals as goal

pub overflow_sub-part : goal.overflow_sub-part
overflow_sub-part c =
    (sound_of c.loop-rest.rest c.loop-rest.auto.rest-fits.fits c.loop-rest-test.true c.loop-rest.invariant.sound).most

pub overflow_shr-part : goal.overflow_shr-part
overflow_shr-part c =
    let low = sound_of c.loop-rest.rest c.loop-rest.auto.rest-fits.fits c.loop-rest-test.true c.loop-rest.invariant.sound in
    omega (arith, low.some)

-- what one turn of the loop does
turn : (c : goal.After-from) → Packs c.loop-rest.rest c.loop-rest.raw c.loop-rest.shift c.from.result c.args.colour
turn c =
    let rest = c.loop-rest.rest in
    let fits = c.loop-rest.auto.rest-fits.fits in
    let low = sound_of rest fits c.loop-rest-test.true c.loop-rest.invariant.sound in
    let most : depth c.args.self.now ≤ 32 = subst (λ (n : ℕ). depth n ≤ 32) c.self.view_is (depth_fits _ c.self.invariant) in
    packs rest c.loop-rest.raw c.loop-rest.shift _ _ c.from.result c.args.colour fits c.loop-rest-test.true low most
    c.loop-rest.invariant.room c.loop-rest.invariant.below c.component.type_inv c.component.ensures c.from.ensures

pub overflow_shl-raw : goal.overflow_shl-raw
overflow_shl-raw c = (turn c).room

pub overflow_add-raw : goal.overflow_add-raw
overflow_add-raw c = omega (arith, (turn c).below, pow_mono (turn c).fits)

pub overflow_add-shift : goal.overflow_add-shift
overflow_add-shift c = omega (arith, (turn c).fits)

pub loop-rest-preserved : goal.loop-rest-preserved
loop-rest-preserved c = record {
  same = (turn c).sum ∙ c.loop-rest.invariant.same;
  below = (turn c).below;
  room = omega (arith, c.loop-rest.invariant.room, depth-step c.loop-rest.rest c.loop-rest.auto.rest-fits.fits c.loop-rest-test.true);
  sound = (sound_of c.loop-rest.rest c.loop-rest.auto.rest-fits.fits c.loop-rest-test.true c.loop-rest.invariant.sound).others;
}

pub returns-clause-value : goal.returns-clause-value
unfolding pack
returns-clause-value c =
    let none = packed_none c.loop-rest.rest c.args.colour c.loop-rest-test.false in
    (omega (arith, ap (λ (n : ℕ). 2 ^ c.loop-rest.shift * n) none)) ∙ c.loop-rest.invariant.same

pub returns-clause-range : goal.returns-clause-range
returns-clause-range c =
    let none = depth_none c.loop-rest.rest c.loop-rest-test.false in
    let same : c.loop-rest.shift ≡ depth c.args.self.now = omega (arith, none, c.loop-rest.invariant.room) in
    subst (λ (n : ℕ). c.loop-rest.raw < 2 ^ n) same c.loop-rest.invariant.below
