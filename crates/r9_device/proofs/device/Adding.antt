-- A new image, and an id for it that is free.
use Rattle.r9_images.specs.declared.images.fault.BookFault.TheVariants as fault
use Rattle.std.proofs.Common.{◌≡◌, ℕ, true, false, Option, Ok, Err, refl, sym, ap, ◌∙◌, None}
use Rattle.std.specs.Prelude.{is_some, ◌==◌}
use Rattle.std.specs.Result.{result_unwrap_or}
use Rattle.model_draw_parts.specs.images.Book.{Book, add_id, is_image_id_taken}
use Rattle.std.proofs.lemmas.Bool.{eqb-true}
use Rattle.model_forest.specs.World.{World as Images}
use Rattle.r9_images.specs.declared.images.fault.BookFault.{BookFault}
use Rattle.r9_images.specs.images.View.{IfRefused, IsRefusal}
use Rattle.r9_device.proofs.device.Going.{not-true, not_both}

pub add_id-fresh : (book other : Book) (k id i : ℕ) (s : Option ℕ) → is_image_id_taken book k id ≡ false → add_id book k id i s ≡ Ok (result_unwrap_or (add_id book k id i s) other)
unfolding add_id
add_id-fresh book other k id i s h = rw h refl

-- an id that is free is not refused
pub never-refused : (f : BookFault) (book : Book) (k id i : ℕ) (s : Option ℕ) → IsRefusal f → IfRefused f (λ n. add_id book k id i s ≡ Err n) → is_image_id_taken book k id ≡ false → ⊥
never-refused (fault.Refused n) book k id i s is e free =
    let both : Ok (result_unwrap_or (add_id book k id i s) book) ≡ Err n = sym (add_id-fresh book book k id i s free) ∙ e in cc
never-refused fault.Memory book k id i s is e free = is

-- ---- the images

pub live_apart : (images : Images) (n i : ℕ) → is_some (images n) ≡ true → images i ≡ None → (n == i) ≡ false
live_apart images n i live free = not-true (n == i) (λ e. not_both (is_some (images n)) live (ap (λ k. is_some (images k)) (eqb-true n i e) ∙ ap is_some free))
