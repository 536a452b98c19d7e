use Rattle.std.proofs.Common.{None, arith}
use Rattle.std.specs.Prelude.{option_and_then, option_map}
use Rattle.r9_pixels.specs.Owns.{form_in, moment_in}
use Rattle.r9_pixels.proofs.Coming.{gone_bounded, gone_held, gone_pixel, gone_tabled, IsGone}
use Rattle.r9_pixels.proofs.Owning.{set_each}
use Rattle.r9_pixels.proofs.Telling.{removed_kept, removed_place}
use Rattle.r9_pixels.proofs.Few.{few_gone}
use Rattle.r9_pixels.proofs.keeping.KeptPixels.remove.Goals as goal
use Rattle.r9_pixels.proofs.keeping.KeptPixels.remove.Goals.{After-index_mut}

gone : (c : After-index_mut) → IsGone c.args.i c.args.self.now.cells c.give_all.new.self c.clear.new.self
gone c = record {
  below = omega (arith, c.requires, c.args.self.now.tabled.numbers);
  pixels = c.give_all.ensures.pixels;
  given = c.give_all.ensures.given;
  long = c.give_all.ensures.rows;
  lengths = c.give_all.ensures.lengths;
  rows = c.clear.ensures.rows;
  store = c.clear.ensures.store;
}

pub invariant_of-self : goal.invariant_of-self
invariant_of-self c =
    let owns = c.args.self.now.owns.items in
    let is = gone (goal.at.invariant_of-self c).After-index_mut in
    record {
      tabled = gone_tabled owns c.args.i c.args.self.now.cells c.give_all.new.self c.clear.new.self c.requires is c.args.self.now.tabled;
      bounded = gone_bounded owns c.args.i c.args.self.now.cells c.give_all.new.self c.clear.new.self c.requires is c.args.self.now.bounded;
      few = few_gone owns c.args.i c.args.self.now.writes.sum c.requires c.args.self.now.few;
    }

pub returns-clause-kept : goal.returns-clause-kept
returns-clause-kept c =
    let is = gone (goal.at.returns-clause-kept c).After-index_mut in
    λ j place. removed_kept c.args.self.now.owns.items c.args.i c.args.self.now.cells c.clear.new.self c.requires (gone_pixel c.args.i c.args.self.now.cells c.give_all.new.self c.clear.new.self is) place.image place.at j

pub returns-clause-has : goal.returns-clause-has
returns-clause-has c =
    let is = gone (goal.at.returns-clause-has c).After-index_mut in
    λ j place. removed_place c.args.self.now.owns.items c.args.i c.args.self.now.cells c.clear.new.self c.requires (gone_held c.args.i c.args.self.now.cells c.give_all.new.self c.clear.new.self is) place.image place.at j

pub returns-clause-forms : goal.returns-clause-forms
returns-clause-forms c = λ j n. set_each c.args.self.now.owns.items c.args.i None (option_map form_in) c.requires n j

pub returns-clause-moment : goal.returns-clause-moment
returns-clause-moment c = λ j n. set_each c.args.self.now.owns.items c.args.i None (option_and_then moment_in) c.requires n j
