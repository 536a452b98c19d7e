use Rattle.std.proofs.Common.{◌≡◌, subst, arith}
use Rattle.r9_pixels.specs.Carried.{IsCarried}
use Rattle.r9_pixels.proofs.Copied.{can_more, carried_more, carried_none, places_near}
use Rattle.r9_pixels.proofs.keeping.KeptPixels.copy_blocks.Goals as goal

pub loop-done-init : goal.loop-done-init
loop-done-init g c = record { within = omega arith; carried = carried_none c.args.self.now c.args.from c.args.at c.args.to c.args.p; steps = omega arith; writes = omega arith }

pub along-here-requires-clause-near : goal.along-here-requires-clause-near
along-here-requires-clause-near g c =
    (places_near c.args.self.now c.args.from c.args.at c.loop-done.done (c.requires.had 0 (omega (arith, c.loop-done-test.true))) (c.requires.had c.loop-done.done c.loop-done-test.true)).0

pub along-here-requires-clause-columns : goal.along-here-requires-clause-columns
along-here-requires-clause-columns g c =
    (places_near c.args.self.now c.args.from c.args.at c.loop-done.done (c.requires.had 0 (omega (arith, c.loop-done-test.true))) (c.requires.had c.loop-done.done c.loop-done-test.true)).1

pub along-there-requires-clause-near : goal.along-there-requires-clause-near
along-there-requires-clause-near g c =
    (places_near c.args.self.now c.args.to c.args.p c.loop-done.done (c.requires.has 0 (omega (arith, c.loop-done-test.true))) (c.requires.has c.loop-done.done c.loop-done-test.true)).0

pub along-there-requires-clause-columns : goal.along-there-requires-clause-columns
along-there-requires-clause-columns g c =
    (places_near c.args.self.now c.args.to c.args.p c.loop-done.done (c.requires.has 0 (omega (arith, c.loop-done-test.true))) (c.requires.has c.loop-done.done c.loop-done-test.true)).1

pub copy_through-requires-clause-some : goal.copy_through-requires-clause-some
copy_through-requires-clause-some g c = omega (arith, c.min-size.ensures, c.loop-done-test.true)

pub copy_through-requires-clause-most : goal.copy_through-requires-clause-most
copy_through-requires-clause-most g c = omega (arith, c.min-size.ensures)

pub copy_through-requires-clause-can : goal.copy_through-requires-clause-can
copy_through-requires-clause-can g c =
    can_more c.args.self.now c.loop-done.self c.args.from c.args.at c.args.to c.args.p c.args.n c.loop-done.done c.min-size.result c.along-here.result c.along-there.result c.along-here.ensures c.along-there.ensures
    (omega (arith, c.min-size.ensures, c.loop-done.invariant.within)) c.requires c.loop-done.invariant.carried

pub loop-done-preserved : goal.loop-done-preserved
loop-done-preserved g c = record {
  within = omega (arith, c.min-size.ensures, c.loop-done.invariant.within);
  carried =
      carried_more c.args.self.now c.loop-done.self c.copy_through.new.self c.args.from c.args.at c.args.to c.args.p c.loop-done.done c.min-size.result c.along-here.result c.along-there.result c.along-here.ensures c.along-there.ensures c.requires.apart c.loop-done.invariant.carried c.copy_through.ensures.carried;
  steps = omega (arith, c.copy_through.ensures.steps, c.loop-done.invariant.steps);
  writes = omega (arith, c.copy_through.ensures.writes, c.loop-done.invariant.writes);
}

pub returns-clause-carried : goal.returns-clause-carried
returns-clause-carried g c =
    let end : c.loop-done.done ≡ c.args.n = omega (arith, c.loop-done-test.false, c.loop-done.invariant.within) in
    subst (IsCarried c.args.self.now c.loop-done.self c.args.from c.args.at c.args.to c.args.p) end c.loop-done.invariant.carried

pub returns-clause-steps : goal.returns-clause-steps
returns-clause-steps g c = omega (arith, c.loop-done.invariant.steps, c.loop-done-test.false, c.loop-done.invariant.within)
