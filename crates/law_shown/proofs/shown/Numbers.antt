-- The numbers of images that are out, where others are taken or come back.
use Rattle.std.proofs.Common.{◌≡◌, ℕ, true, false, List, [], ◌∷◌, refl, ap, subst, ◌∙◌, arith}
use Rattle.std.specs.Prelude.{◌==◌}
use Rattle.std.specs.List.{fold, list_any}
use Rattle.std.proofs.lemmas.Bool.{eqb-true}
use Rattle.model_forest.specs.Numbers.{Numbers, given_back, next_number, next_of, taken, taken_from}
use Rattle.model_draw_parts.specs.declared.images.Thing.{Thing}
use Rattle.model_draw_parts.specs.declared.images.Thing.TheVariants.{Image, Screen}
use Rattle.model_draw_parts.specs.images.Release.{IsOnce, same_thing}
use Rattle.model_draw.specs.draw.World.{World, at_number, without_thing}
use Rattle.law_shown.specs.shown.Showing.{AreSpare, IsOut}
use Rattle.law_shown.proofs.shown.Tests.{first_false, first_true, neither, not-true, not_both, same, second_false, second_true, turned}
use Rattle.law_shown.proofs.shown.Frames.{SameFrame, frame_then, itself, release_same}

-- ---- the next number

out_from : (made : ℕ) (spare : List ℕ) (i : ℕ) → IsOut (record { made = made; spare = spare }) i → IsOut (taken_from made spare) i
out_from made [] i out = let less = out.made in record { made = omega arith; kept = refl }
out_from made (n ∷ ns) i out = record { made = out.made; kept = second_false (n == i) _ out.kept }

pub out_taken : (numbers : Numbers) (i : ℕ) → IsOut numbers i → IsOut (taken numbers) i
out_taken numbers i out = out_from numbers.made numbers.spare i out

next_from : (made : ℕ) (spare : List ℕ) → AreSpare made spare → IsOut (taken_from made spare) (next_of made spare)
next_from made [] spare = record { made = omega arith; kept = refl }
next_from made (n ∷ ns) spare = record { made = spare.0; kept = spare.1 }

pub next_out : (numbers : Numbers) → AreSpare numbers.made numbers.spare → IsOut (taken numbers) (next_number numbers)
next_out numbers spare = next_from numbers.made numbers.spare spare

spare_from : (made : ℕ) (spare : List ℕ) → AreSpare made spare → AreSpare (taken_from made spare).made (taken_from made spare).spare
spare_from made [] spare = tt
spare_from made (n ∷ ns) spare = spare.2

pub spare_next : (numbers : Numbers) → AreSpare numbers.made numbers.spare → AreSpare (taken numbers).made (taken numbers).spare
spare_next numbers spare = spare_from numbers.made numbers.spare spare

in_from : (made : ℕ) (spare : List ℕ) → IsOut (record { made = made; spare = spare }) (next_of made spare) → ⊥
in_from made [] out = let less = out.made in omega arith
in_from made (n ∷ ns) out = not_both (n == n) (same n) (first_false (n == n) _ out.kept)

pub next_in : (numbers : Numbers) → IsOut numbers (next_number numbers) → ⊥
next_in numbers out = in_from numbers.made numbers.spare out

-- a number that is out is not the next
pub out_apart : (numbers : Numbers) (i : ℕ) → IsOut numbers i → (i == next_number numbers) ≡ false
out_apart numbers i out = not-true (i == next_number numbers) (λ is. next_in numbers (let same = eqb-true i (next_number numbers) is in subst (IsOut numbers) same out))

-- ---- numbers that come back

out_back : (numbers : Numbers) (n i : ℕ) → IsOut numbers i → (n == i) ≡ false → IsOut (given_back numbers n) i
out_back numbers n i out apart = record { made = out.made; kept = neither (n == i) _ apart out.kept }

pub gone-out : (things : List Thing) (w : World) (i : ℕ) → IsOut w.numbers i → list_any (same_thing (Image i)) things ≡ false → IsOut (fold without_thing w things).numbers i
gone-out [] w i out apart = out
gone-out (Image j ∷ things) w i out apart =
    gone-out things (without_thing w (Image j)) i (out_back w.numbers j i out (turned j i ∙ first_false (i == j) _ apart)) (second_false (i == j) _ apart)
gone-out (Screen s ∷ things) w i out apart = gone-out things w i out apart

pub gone-spare : (things : List Thing) (w : World) → AreSpare w.numbers.made w.numbers.spare → ((i : ℕ) → list_any (same_thing (Image i)) things ≡ true → IsOut w.numbers i) → IsOnce things
    → AreSpare (fold without_thing w things).numbers.made (fold without_thing w things).numbers.spare
gone-spare [] w spare out once = spare
gone-spare (Screen s ∷ things) w spare out once = gone-spare things w spare (λ i there. out i there) once.1
gone-spare (Image j ∷ things) w spare out once =
    let now = out j (first_true (j == j) _ (same j)) in
    gone-spare things (without_thing w (Image j)) (now.made, now.kept, spare) (λ i there. out_back w.numbers j i (out i (second_true (i == j) _ there)) (apart i there)) once.1
  where
    apart : (i : ℕ) → list_any (same_thing (Image i)) things ≡ true → (j == i) ≡ false
    apart i there =
        not-true (j == i) (λ is. not_both (list_any (same_thing (Image j)) things) (ap (λ (n : ℕ). list_any (same_thing (Image n)) things) (eqb-true j i is) ∙ there) once.0)

-- ---- what else is left

pub gone-frames : (things : List Thing) (w : World) (i : ℕ) → list_any (same_thing (Image i)) things ≡ false → SameFrame (at_number w i) (at_number (fold without_thing w things) i)
gone-frames [] w i apart = itself (at_number w i)
gone-frames (Image j ∷ things) w i apart =
    let next : World = without_thing w (Image j) in
    frame_then (at_number w i) (at_number next i) (at_number (fold without_thing next things) i) (release_same w.images j i (first_false (i == j) _ apart)) (gone-frames things next i (second_false (i == j) _ apart))
gone-frames (Screen s ∷ things) w i apart = gone-frames things w i apart

pub gone-book : (things : List Thing) (w : World) → (fold without_thing w things).book ≡ w.book
gone-book [] w = refl
gone-book (Image i ∷ things) w = gone-book things (without_thing w (Image i))
gone-book (Screen s ∷ things) w = gone-book things w

pub gone-opening : (things : List Thing) (w : World) → (fold without_thing w things).opening ≡ w.opening
gone-opening [] w = refl
gone-opening (Image i ∷ things) w = gone-opening things (without_thing w (Image i))
gone-opening (Screen s ∷ things) w = gone-opening things w
