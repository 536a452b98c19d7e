use Rattle.std.proofs.Common.{◌≡◌, false, sym, ap, ◌∙◌, ◌≤◌, arith}
use Rattle.model_draw.specs.draw.World.{at_number}
use Rattle.model_draw_parts.specs.images.Book.{is_screen_id_taken}
use Rattle.r9_locate.specs.declared.info.Info.{Info}
use Rattle.r9_device.specs.device.World.{world_of}
use Rattle.r9_draw.proofs.messages.Screened.{screening-made}
use Rattle.r9_draw.proofs.messages.screen.screening.Goals as goal

pub returns-clause-made : goal.returns-clause-made
returns-clause-made c =
    let w = world_of c.args.device.now in
    let fresh : is_screen_id_taken w.book c.args.client c.args.id c.args.public ≡ false = sym c.is_screen_taken.ensures ∙ c.if-is_screen_taken.false in
    let flat : (at_number w c.in_ok-image.image.0).repl ≡ false = sym (ap (λ (info : Info). info.repl) c.info-info.ensures) ∙ c.if-info.false in
    let told = ap (λ (info : Info). info.depth) c.info-info.ensures in
    let below = c.if-info-gt-DEEPEST_SCREEN.false in
    let shallow : (at_number w c.in_ok-image.image.0).depth ≤ 15 = omega (arith, told, below) in
    screening-made c.args.client w (record { id = c.args.id; public = c.args.public; image = c.in_ok-image.image; fill = c.in_ok-fill.fill }) c.args.imageid c.args.fillid
    c.if-id-eq0.false fresh c.in_ok-image.ensures.found c.in_ok-fill.ensures.found flat shallow
