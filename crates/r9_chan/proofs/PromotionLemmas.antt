-- A value's promotion, checked at each value of so many bits.
use Rattle.std.proofs.Common.{◌≡◌, ℕ, ◌<◌, ◌^◌, ◌∙◌, sym, subst, true, refl}
use Rattle.std.specs.Prelude.{◌==◌}
use Rattle.std.proofs.lemmas.Bool.{agree_below, agree_below_at, eqb-true}
use Rattle.model_pixel.specs.Channels.{promoted}

-- f promotes values of k bits, since it does at each of them
pub promoted_by : (k : ℕ) (f : ℕ → ℕ) → agree_below (λ v. f v == promoted k v) (λ _. true) (2 ^ k) ≡ true → (bits v filled : ℕ) → bits ≡ k → v < 2 ^ bits → filled ≡ f v → filled ≡ promoted bits v
promoted_by k f each bits v filled same below is =
    let below_k : v < 2 ^ k = subst (λ (n : ℕ). v < 2 ^ n) same below in
    is ∙ eqb-true _ _ (agree_below_at (λ v. f v == promoted k v) (λ _. true) (2 ^ k) v each below_k) ∙ sym (subst (λ (n : ℕ). promoted n v ≡ promoted k v) (sym same) refl)
