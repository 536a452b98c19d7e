-- One element more of a list that a loop goes over.
use Rattle.std.proofs.Common.{◌≡◌, ℕ, ◌+◌, ◌<◌, List, ◌∷◌, length, drop, get_or, ap, sym, subst, ◌∙◌, arith, suc, Bool, pos}
use Rattle.std.specs.List.{fold}
use Rattle.std.proofs.Math.Seq as seq
use Rattle.std.proofs.lemmas.Option.{slice_get-get_or}
use Rattle.r9_geom.specs.declared.Rect.{Rect}
use Rattle.model_files.specs.declared.wctl.Choice.{Choice}
use Rattle.model_files.specs.declared.wctl.Choice.TheVariants.{R}
use Rattle.model_files.specs.wctl.Rectangle.{after_choice}
use Rattle.r9_wctl.specs.wctl.Small.{AreOptions, IsSmallChoice}

pub drop_step : {A : Type 0} (xs : List A) (k : ℕ) (d : A) → k < length xs → drop k xs ≡ get_or xs k d ∷ drop (k + 1) xs
drop_step xs k d le = let e : suc k ≡ k + 1 = omega arith in subst (λ (n : ℕ). drop k xs ≡ get_or xs k d ∷ drop n xs) e (seq.drop-cons xs k d le)

pub fold_step : {A B : Type 0} (f : B → A → B) (r : B) (xs : List A) (k : ℕ) (d : A) → k < length xs → fold f r (drop k xs) ≡ fold f (f r (get_or xs k d)) (drop (k + 1) xs)
fold_step f r xs k d le = ap (fold f r) (drop_step xs k d le)

pub small_at : (xs : List Choice) (k : ℕ) (d : Choice) → AreOptions xs → k < length xs → IsSmallChoice (get_or xs k d)
small_at xs k d are le = are.small k (get_or xs k d) (slice_get-get_or xs k d le)

-- what a read past the end would give
abbrev pub blank : Choice
blank = R (record { min = record { x = pos 0; y = pos 0 }; max = record { x = pos 0; y = pos 0 } })

pub fold_on : (moves : Bool) (r next total : Rect) (xs : List Choice) (k : ℕ) → k < length xs → next ≡ after_choice moves r (get_or xs k blank) → fold (after_choice moves) r (drop k xs) ≡ total
    → fold (after_choice moves) next (drop (k + 1) xs) ≡ total
fold_on moves r next total xs k le e so_far =
    ap (λ (x : Rect). fold (after_choice moves) x (drop (k + 1) xs)) e ∙ sym (fold_step (after_choice moves) r xs k blank le) ∙ so_far
