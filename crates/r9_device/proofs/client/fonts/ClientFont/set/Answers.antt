use Rattle.std.proofs.Common.{◌≡◌, ◌^◌, true, Err, sym, subst}
use Rattle.model_draw_parts.specs.fonts.Font.{Font, AreWithin, has_index, with_cell}
use Rattle.model_draw_parts.proofs.fonts.Within.{within-with}
use Rattle.r9_fonts.specs.declared.font.FontFault.{FontFault}
use Rattle.r9_fonts.specs.View.{IfRefused}
use Rattle.r9_device.proofs.client.Characters.{never_refused}
use Rattle.r9_device.proofs.client.fonts.ClientFont.set.Goals as goal
use Rattle.r9_device.proofs.client.fonts.ClientFont.set.Goals.{in-Ok, in-Err-Memory}

pub unreachable-requires : goal.unreachable-requires
unreachable-requires c =
    let has = subst (λ (f : Font). has_index f c.args.index ≡ true) (sym c.self.view_is) c.requires.index in
    let refused = subst (λ (f : FontFault). IfRefused f (λ n. with_cell c.self.inside.font c.args.index c.args.cell ≡ Err n)) c.in-Err-Refused.field-0-is c.in-Err-Refused.ensures.refused in
    never_refused c.self.inside.font c.args.index c.in-Err-Refused.field-0-0 c.args.cell has refused

pub invariant_of-self : goal.invariant_of-self
invariant_of-self c = elim c.match-set.branch [
  | in-Ok w ↦ within-with (2 ^ 32) c.self.inside.font c.set.new.self c.args.index c.args.cell c.requires.near c.self.invariant w.in-Ok.ensures.ok
  | in-Err-Memory w ↦ subst (λ (f : Font). AreWithin (2 ^ 32) f.cells) (sym w.in-Err-Memory.ensures.kept) c.self.invariant
]
