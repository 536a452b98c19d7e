-- The world once the window manager has freed an id.
use Rattle.std.proofs.Common.{◌≡◌, ℕ, Ok, Err, ap, ◌∙◌}
use Rattle.std.specs.Result.{result_unwrap_or}
use Rattle.model_text.specs.text.Outcome.{Outcome}
use Rattle.model_draw_parts.specs.images.Release.{Freed, free_id, free_screen, nothing_freed}
use Rattle.model_draw.specs.draw.World.{World, after_freed, with_book}
use Rattle.model_draw.specs.draw.Orders.{image_freed, screen_freed}
use Rattle.r9_device.proofs.device.Worlds.{fold-things, released_world}

-- ---- by the window manager

pub image-freed-world : (w : World) (window : ℕ) (f : Freed) → free_id w.book 0 window ≡ Ok f → after_freed w (image_freed w.book window) ≡ released_world w f
image-freed-world w window f e =
    ap (λ (g : Outcome Freed). after_freed w (result_unwrap_or g (nothing_freed w.book))) e ∙ fold-things f.gone (with_book w f.book)

pub screen-closed-world : (w : World) (host : ℕ) (f : Freed) → free_screen w.book 0 host ≡ Ok f → after_freed w (screen_freed w.book host) ≡ released_world w f
screen-closed-world w host f e =
    ap (λ (g : Outcome Freed). after_freed w (result_unwrap_or g (nothing_freed w.book))) e ∙ fold-things f.gone (with_book w f.book)

-- nothing goes where there is no such id
pub image-unknown-world : (w : World) (window n : ℕ) → free_id w.book 0 window ≡ Err n → after_freed w (image_freed w.book window) ≡ w
image-unknown-world w window n e = ap (λ (g : Outcome Freed). after_freed w (result_unwrap_or g (nothing_freed w.book))) e

pub screen-unknown-world : (w : World) (host n : ℕ) → free_screen w.book 0 host ≡ Err n → after_freed w (screen_freed w.book host) ≡ w
screen-unknown-world w host n e = ap (λ (g : Outcome Freed). after_freed w (result_unwrap_or g (nothing_freed w.book))) e
