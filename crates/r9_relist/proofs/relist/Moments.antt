-- The moments of planes where an image without one goes: a window has none.
use Rattle.std.proofs.Common.{◌≡◌, ◌≢◌, ℕ, Option, None, Some, ◌∙◌, sym, ap, eq-eqb, ⊎_elim}
use Rattle.std.specs.Prelude.{option_and_then, if◌then◌else◌}
use Rattle.std.proofs.lemmas.Bool.{cases_eq, ne_eqb}
use Rattle.model_forest.specs.World.{World, parent_of}
use Rattle.r9_locate.specs.locate.Forms.{forms_of}
use Rattle.r9_pixels.specs.declared.keeping.KeptPixels.{KeptPixels}
use Rattle.r9_pixels.specs.Kept.{form_at, moment}
use Rattle.r9_pixels.specs.Owns.{moment_in}
use Rattle.r9_pixels.proofs.Standing.{window_own}
use Rattle.r9_locate.specs.watched.Moments.{with_moment, Moment}

-- moments of which one is as it was are as they were
pub moment_same : (moments : ℕ → Option Moment) (i : ℕ) (m : Option Moment) → moments i ≡ m → with_moment i m moments ≡ moments
moment_same moments i m is = λ j n. at n j
  where
    at : (n : ℕ) → with_moment i m moments n ≡ moments n
    at n =
        ⊎_elim
        (λ (here : n ≡ i). ap (λ b. if b then m else moments n) (eq-eqb n i here) ∙ sym is ∙ ap moments (sym here))
        (λ (other : n ≢ i). ap (λ b. if b then m else moments n) (ne_eqb n i other))
        (cases_eq n i)

pub window_moment : (pixels : KeptPixels) (world : World) (w p : ℕ) → form_at pixels ≡ forms_of world → parent_of world w ≡ Some p → moment pixels w ≡ None
window_moment pixels world w p forms stands = ap (option_and_then moment_in) (window_own pixels.owns.items world w p forms stands).1
