-- The world once an id or a screen id is freed.
use Rattle.std.proofs.Common.{◌≡◌, ℕ, Ok, ap, ◌∙◌}
use Rattle.std.specs.Result.{result_unwrap_or}
use Rattle.model_text.specs.text.Map.{with}
use Rattle.model_text.specs.text.Outcome.{Outcome}
use Rattle.model_draw_parts.specs.images.Release.{Freed, free_id, free_screen, nothing_freed}
use Rattle.model_draw.specs.draw.World.{World, after_freed, client_of, with_book, with_client}
use Rattle.model_draw.specs.draw.Making.{forget_id}
use Rattle.r9_draw.specs.messages.Plans.{after_free, after_free_screen}
use Rattle.r9_device.proofs.device.Worlds.{fold-things, released_world}

pub freed-world : (w : World) (k id : ℕ) (f : Freed) → free_id w.book k id ≡ Ok f
    → after_free k w id ≡ record (released_world w f) { clients = with w.clients k (forget_id (client_of w k) id) }
unfolding after_free
freed-world w k id f e =
    ap (λ (g : Outcome Freed). with_client (after_freed w (result_unwrap_or g (nothing_freed w.book))) k (forget_id (client_of w k) id)) e
    ∙ ap (λ (left : World). with_client left k (forget_id (client_of w k) id)) (fold-things f.gone (with_book w f.book))

pub screen-freed-world : (w : World) (k id : ℕ) (f : Freed) → free_screen w.book k id ≡ Ok f → after_free_screen k w id ≡ released_world w f
unfolding after_free_screen
screen-freed-world w k id f e =
    ap (λ (g : Outcome Freed). after_freed w (result_unwrap_or g (nothing_freed w.book))) e ∙ fold-things f.gone (with_book w f.book)
