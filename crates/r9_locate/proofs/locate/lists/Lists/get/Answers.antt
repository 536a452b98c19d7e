use Rattle.std.proofs.Common.{◌≡◌, ◌∙◌, None, is_some, sym, ap}
use Rattle.std.specs.Prelude.{option_copied}
use Rattle.std.proofs.lemmas.Bool.{both_ways}
use Rattle.r9_locate.specs.numbered.Numbered.{value_at}
use Rattle.r9_locate.specs.locate.Table.{shape}
use Rattle.r9_locate.proofs.locate.Slots.{image_is, slot_live}
use Rattle.r9_locate.proofs.locate.lists.Lists.get.Goals as goal

pub unreachable-requires : goal.unreachable-requires
unfolding shape
unreachable-requires c =
    let none : value_at c.args.self.now.frames c.args.i ≡ None = sym c.get.ensures ∙ ap option_copied c.in-None.is in
    both_ways _ (ap is_some none) (slot_live c.args.self.now.frames c.args.i c.requires)

pub returns : goal.returns
unfolding shape
returns c = image_is c.args.self.now.frames c.args.i c.in-Some.frame.now (sym c.get.ensures ∙ ap option_copied c.in-Some.is)
