use Rattle.std.proofs.Common.{◌≡◌, Bool, true, false, sym, ap, ◌∙◌}
use Rattle.std.specs.Prelude.{◌==◌, ◌||◌, ◌&&◌, is_ok, is_some}
use Rattle.std.specs.List.{list_any}
use Rattle.model_draw_parts.specs.images.Book.{screen_id}
use Rattle.r9_device.proofs.device.Lookups.{public-found, screen-found}
use Rattle.r9_draw.proofs.messages.screen.is_screen_taken.Goals as goal

neither : (a b c : Bool) → a ≡ false → c ≡ true → b ≡ (a || (c && b))
neither false b true h k = λ _. b
neither true b c h k = absurd cc
neither false b false h k = absurd cc

pub returns-then-public : goal.returns-then-public
returns-then-public c =
    let book = c.args.device.now.book.book in
    let own : is_some (screen_id book c.args.client c.args.id) ≡ false =
    sym (screen-found book c.args.client c.args.id) ∙ ap is_ok (sym c.screen.ensures) ∙ sym c.is_ok.ensures.value ∙ c.if-is_ok.false in
    let found : c.is_ok-then-public.result ≡ list_any (λ e. e.public && (e.id == c.args.id)) book.screen_ids =
    c.is_ok-then-public.ensures.value ∙ ap is_ok c.public.ensures ∙ public-found book c.args.id in
    found ∙ neither _ _ c.args.public own c.if-public.true
