use Rattle.std.proofs.Common.{◌^◌, sym, subst}
use Rattle.model_draw_parts.specs.fonts.Font.{Font, AreWithin}
use Rattle.model_draw_parts.proofs.fonts.Within.{within-new}
use Rattle.r9_device.proofs.device.Manager.{manager-changed}
use Rattle.r9_draw.proofs.messages.fonts.make_font.Goals as goal

pub put_font-requires-clause-near : goal.put_font-requires-clause-near
put_font-requires-clause-near c =
    subst (λ (font : Font). AreWithin (2 ^ 32) font.cells) (sym c.new-font.ensures) (within-new (2 ^ 32) c.args.n c.args.ascent)

pub invariant_of-device-clause-manager : goal.invariant_of-device-clause-manager
invariant_of-device-clause-manager c =
    manager-changed c.put_font.result c.args.device.now.clients.entries c.put_font.new.clients.entries c.args.client _ c.put_font.ensures.ok c.put_font.ensures.kept c.requires c.args.device.now.manager
