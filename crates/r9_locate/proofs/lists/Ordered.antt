-- Lists of windows, changed one after the other.
use Rattle.std.proofs.Common.{◌≡◌, ◌∙◌, ℕ, zero, suc, ◌+◌, ◌<◌, ◌≤◌, Bool, true, false, List, [], ◌∷◌, ◌++◌, length, get_or, set, take, drop, map, refl, sym, ap, arith, add-one}
use Rattle.std.specs.Prelude.{◌==◌, insert}
use Rattle.std.proofs.lemmas.Bool.Decides.{Decides-eqb}
use Rattle.model_forest.specs.declared.Window.{Window}
use Rattle.model_forest.specs.Steps.{put_above}

-- the elements before k changed
abbrev pub changed_to : {X : Type 0} → (X → X) → ℕ → List X → List X
changed_to f k xs = map f (take k xs) ++ drop k xs

-- and one more
pub changed_more : {X : Type 0} (f : X → X) (xs : List X) (k : ℕ) (d : X) → k < length xs → set (changed_to f k xs) k (f (get_or (changed_to f k xs) k d)) ≡ changed_to f (suc k) xs
changed_more f [] k d lt = absurd (omega arith)
changed_more f (x ∷ xs) zero d lt = refl
changed_more f (x ∷ xs) (suc k) d lt = ap (λ ys. f x ∷ ys) (changed_more f xs k d (omega arith))

pub changed_all : {X : Type 0} (f : X → X) (xs : List X) (k : ℕ) → length xs ≤ k → changed_to f k xs ≡ map f xs
changed_all f [] zero le = refl
changed_all f [] (suc k) le = refl
changed_all f (x ∷ xs) zero le = absurd (omega arith)
changed_all f (x ∷ xs) (suc k) le = ap (λ ys. f x ∷ ys) (changed_all f xs k (omega arith))

-- the list with a window above another, where none before k is that other
abbrev pub split_above : Window → ℕ → ℕ → List Window → List Window
split_above w old k ws = take k ws ++ put_above w old (drop k ws)

split_more : (w : Window) (old : ℕ) (ws : List Window) (k : ℕ) (d : Window) → k < length ws → ((get_or ws k d).image == old) ≡ false → split_above w old k ws ≡ split_above w old (suc k) ws
split_more w old [] k d lt other = absurd (omega arith)
split_more w old (v ∷ ws) zero d lt other = rw other refl
split_more w old (v ∷ ws) (suc k) d lt other = ap (λ ys. v ∷ ys) (split_more w old ws k d (omega arith) other)

pub split_past : (w : Window) (old : ℕ) (ws : List Window) (k : ℕ) (v : Window) → k < length ws → v ≡ get_or ws k v → (v.image ≡ old → ⊥) → split_above w old k ws ≡ split_above w old (k + 1) ws
split_past w old ws k v lt is apart =
    split_more w old ws k v lt (ap (λ (u : Window). u.image == old) (sym is) ∙ differ (v.image == old) refl) ∙ ap (λ n. split_above w old n ws) (sym (add-one k))
  where
    differ : (b : Bool) → (v.image == old) ≡ b → b ≡ false
    differ true e = absurd (apart ((Decides-eqb v.image old).0 e))
    differ false e = refl

split_at : (w : Window) (old : ℕ) (ws : List Window) (k : ℕ) (d : Window) → k < length ws → ((get_or ws k d).image == old) ≡ true → split_above w old k ws ≡ insert ws k w
split_at w old [] k d lt is = absurd (omega arith)
split_at w old (v ∷ ws) zero d lt is = rw is refl
split_at w old (v ∷ ws) (suc k) d lt is = ap (λ ys. v ∷ ys) (split_at w old ws k d (omega arith) is)

pub split_found : (w : Window) (old : ℕ) (ws : List Window) (k : ℕ) (v : Window) → k < length ws → v ≡ get_or ws k v → v.image ≡ old → split_above w old k ws ≡ insert ws k w
split_found w old ws k v lt is same =
    split_at w old ws k v lt (ap (λ (u : Window). u.image == old) (sym is) ∙ (Decides-eqb v.image old).1 same)

pub split_none : (w : Window) (old : ℕ) (ws : List Window) (k : ℕ) → length ws ≤ k → split_above w old k ws ≡ ws
split_none w old [] zero le = refl
split_none w old [] (suc k) le = refl
split_none w old (v ∷ ws) zero le = absurd (omega arith)
split_none w old (v ∷ ws) (suc k) le = ap (λ ys. v ∷ ys) (split_none w old ws k (omega arith))
