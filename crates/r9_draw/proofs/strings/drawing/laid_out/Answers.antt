use Rattle.std.proofs.Common.{◌≡◌, ◌^◌, Err, subst, arith}
use Rattle.model_draw_parts.specs.fonts.Font.{layout}
use Rattle.r9_fonts.specs.declared.font.FontFault.{FontFault}
use Rattle.r9_fonts.specs.View.{layout_of, IfRefused}
use Rattle.r9_draw.proofs.strings.Strings.{laid_is, never_refused}
use Rattle.r9_draw.proofs.strings.drawing.laid_out.Goals as goal

pub returns-in-Ok-clause-laid : goal.returns-in-Ok-clause-laid
returns-in-Ok-clause-laid c = laid_is c.args.font.now c.args.lettering.now.p c.args.lettering.now.sp c.args.indices.now (layout_of c.in-Ok.laid) c.requires.all c.in-Ok.ensures.ok

pub returns-in-Ok-clause-near : goal.returns-in-Ok-clause-near
returns-in-Ok-clause-near c = c.in-Ok.ensures.near (2 ^ 32) (2 ^ 34) (omega arith) c.requires.p c.requires.sp c.requires.near

pub returns-in-Ok-clause-end : goal.returns-in-Ok-clause-end
returns-in-Ok-clause-end c = c.in-Ok.ensures.end (2 ^ 32) (2 ^ 33) (omega arith) c.requires.p

pub unreachable-requires : goal.unreachable-requires
unreachable-requires c = never_refused c.args.font.now c.args.lettering.now.p c.args.lettering.now.sp c.args.indices.now _ c.requires.all (subst (λ (f : FontFault). IfRefused f (λ n. layout c.args.font.now c.args.lettering.now.p c.args.lettering.now.sp c.args.indices.now ≡ Err n)) c.in-Err-Refused.field-0-is c.in-Err-Refused.ensures.refused)
