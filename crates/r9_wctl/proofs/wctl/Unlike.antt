-- Words that are not one.
use Rattle.std.proofs.Common.{◌≡◌, ◌-◌, ℕ, Bool, true, false, List, length, slice_index, refl, ap}
use Rattle.std.specs.Bool.{Decides}
use Rattle.std.specs.Str.{bytes_eq}
use Rattle.std.proofs.lemmas.Slice.Eq.{bytes_eq-Decides}

unlike : (xs ys : List ℕ) → (xs ≡ ys → ⊥) → false ≡ bytes_eq xs ys
unlike xs ys h = by_test (bytes_eq xs ys) (bytes_eq-Decides xs ys)
  where
    by_test : (b : Bool) → Decides b (xs ≡ ys) → false ≡ b
    by_test true d = absurd (h (d.0 refl))
    by_test false d = refl

pub unlike_lengths : (xs ys : List ℕ) → (length xs ≡ length ys → ⊥) → false ≡ bytes_eq xs ys
unlike_lengths xs ys h = unlike xs ys (λ e. h (ap length e))

pub unlike_ends : (xs ys : List ℕ) → (slice_index xs (length xs - 1) ≡ slice_index ys (length ys - 1) → ⊥) → false ≡ bytes_eq xs ys
unlike_ends xs ys h = unlike xs ys (λ e. h (ap (λ (zs : List ℕ). slice_index zs (length zs - 1)) e))
