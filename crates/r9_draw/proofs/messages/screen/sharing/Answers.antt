use Rattle.std.proofs.Common.{◌≡◌, ℕ, false, sym, ap, ◌∙◌}
use Rattle.model_draw.specs.draw.World.{at_number}
use Rattle.model_draw_parts.specs.images.Book.{image_of, is_screen_id_taken}
use Rattle.r9_locate.specs.declared.info.Info.{Info}
use Rattle.r9_device.specs.device.World.{world_of}
use Rattle.r9_draw.proofs.messages.Screened.{sharing-made}
use Rattle.r9_draw.proofs.messages.screen.sharing.Goals as goal

pub returns-clause-shared : goal.returns-clause-shared
returns-clause-shared c =
    let w = world_of c.args.device.now in
    let fresh : is_screen_id_taken w.book c.args.client c.args.id false ≡ false = sym c.is_screen_taken.ensures ∙ c.if-is_screen_taken.false in
    let alike : (at_number w (image_of w.book c.in_ok-screen.screen)).chan ≡ c.args.chan =
    ap (λ (n : ℕ). (at_number w n).chan) (sym c.image_of.ensures) ∙ sym (ap (λ (info : Info). info.chan) c.info.ensures) ∙ sym c.word.ensures.value ∙ c.if-word-chan.false in
    sharing-made c.args.client w c.args.id c.in_ok-screen.screen c.args.chan c.if-id-eq0.false fresh c.in_ok-screen.ensures.found alike
