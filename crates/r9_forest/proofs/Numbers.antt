-- The numbers that were given out, where one is taken.
use Rattle.std.proofs.Common.{◌≡◌, ◌≢◌, ◌∙◌, ℕ, ◌+◌, ◌<◌, ◌≤◌, ◌^◌, List, [], ◌∷◌, ◌++◌, length, get_or, Some, None, refl, sym, ap, subst, ⊎_elim, arith, reverse}
use Rattle.std.specs.Prelude.{max}
use Rattle.std.proofs.lemmas.List.{get_or_append_left, get_or_push, length_push, reverse-append, reverse-reverse}
use Rattle.std.proofs.lemmas.Grind.{reverse_onto}
use Rattle.model_forest.specs.Numbers.{next_of, taken_from}
use Rattle.model_forest.specs.World.{Image, World, image_at, with_image, IsLive}
use Rattle.model_forest.proofs.Changes.{live-apart, with_image-other}
use Rattle.model_forest.specs.declared.Window.{Window}
use Rattle.model_kept.specs.Restack.{with_list}
use Rattle.r9_forest.specs.Numbered.{numbers_of, IsNumbered, IsTaken}

numbers_as : (a b : ℕ) (rest : List ℕ) → a ≡ b → numbers_of a rest ≡ numbers_of b rest
numbers_as a b rest same = λ j. record { made = same j; spare = reverse rest }

-- the last of the numbers that came back
last_is : (spare rest : List ℕ) (i : ℕ) → spare ≡ rest ++ i ∷ [] → (length spare ≡ length rest + 1) × (get_or spare (length rest) 0 ≡ i)
last_is spare rest i same = (
  ap length same ∙ length_push rest i,
  ap (λ ns. get_or ns (length rest) 0) same ∙ get_or_push rest i 0 (length rest) refl,
)

early_is : (spare rest : List ℕ) (i k : ℕ) → spare ≡ rest ++ i ∷ [] → k < length rest → get_or spare k 0 ≡ get_or rest k 0
early_is spare rest i k same below = ap (λ ns. get_or ns k 0) same ∙ get_or_append_left rest (i ∷ []) 0 k below

back_below : (world : World) (made : ℕ) (spare rest : List ℕ) (i : ℕ) → spare ≡ rest ++ i ∷ [] → IsNumbered world made spare → i < made
back_below world made spare rest i same is =
    let last = last_is spare rest i same in
    subst (λ (n : ℕ). n < made) last.1 (is.below (length rest) (omega (arith, last.0)))

back_free : (world : World) (made : ℕ) (spare rest : List ℕ) (i : ℕ) → spare ≡ rest ++ i ∷ [] → IsNumbered world made spare → world i ≡ None
back_free world made spare rest i same is =
    let last = last_is spare rest i same in
    ap world (sym last.1) ∙ is.free (length rest) (omega (arith, last.0))

back_apart : (world : World) (made : ℕ) (spare rest : List ℕ) (i : ℕ) → spare ≡ rest ++ i ∷ [] → IsNumbered world made spare → (k : ℕ) → k < length rest → get_or rest k 0 ≢ i
back_apart world made spare rest i same is k below e =
    let last = last_is spare rest i same in
    is.apart k (length rest) below (omega (arith, last.0)) (early_is spare rest i k same below ∙ e ∙ sym last.1)

-- and the others
back_rest : (world : World) (made : ℕ) (spare rest : List ℕ) (i : ℕ) → spare ≡ rest ++ i ∷ [] → IsNumbered world made spare → IsNumbered world made rest
back_rest world made spare rest i same is =
    let last = last_is spare rest i same in
    record {
      few = is.few;
      below = λ k l. subst (λ (n : ℕ). n < made) (early_is spare rest i k same l) (is.below k (omega (arith, l, last.0)));
      free = λ k l. ap world (sym (early_is spare rest i k same l)) ∙ is.free k (omega (arith, l, last.0));
      apart = λ j k less l e. is.apart j k less (omega (arith, l, last.0)) (early_is spare rest i j same (omega (arith, less, l)) ∙ e ∙ sym (early_is spare rest i k same l));
      beyond = is.beyond;
    }

back_taken : (made : ℕ) (spare rest : List ℕ) (i : ℕ) → spare ≡ rest ++ i ∷ [] → i < made → taken_from made (reverse spare) ≡ numbers_of (max made (i + 1)) rest
back_taken made spare rest i same below =
    let most : made ≡ max made (i + 1) = omega (arith, below) in
    ap (λ ns. taken_from made (reverse ns)) same ∙ ap (taken_from made) (reverse-append rest (i ∷ []))
    ∙ numbers_as made (max made (i + 1)) rest most

-- the number that would be taken is free
pub peeked : (world : World) (made : ℕ) (spare : List ℕ) (i : ℕ) → i ≡ next_of made (reverse spare) → IsNumbered world made spare → (i ≤ made) × (world i ≡ None)
peeked world made spare i next is = at (reverse spare) refl next
  where
    at : (back : List ℕ) → reverse spare ≡ back → i ≡ next_of made back → (i ≤ made) × (world i ≡ None)
    at [] e same = (omega (arith, same), is.beyond i (omega (arith, same)))
    at (n ∷ ns) e same =
        let list : spare ≡ reverse ns ++ i ∷ [] = sym (reverse-reverse spare) ∙ ap reverse e ∙ reverse_onto ns n [] ∙ ap (λ m. reverse ns ++ m ∷ []) (sym same) in
        let below = back_below world made spare (reverse ns) i list is in
        (omega (arith, below), back_free world made spare (reverse ns) i list is)

-- ---- and where none is back

-- all that is known of the number that was taken
pub record IsNext (world : World) (made : ℕ) (spare rest : List ℕ) (i : ℕ) : Type 0 where
  pub most : i ≤ made
  pub free : world i ≡ None
  pub others : IsNumbered world made rest
  pub apart : (k : ℕ) → k < length rest → get_or rest k 0 ≢ i
  pub next : next_of made (reverse spare) ≡ i
  pub numbers : taken_from made (reverse spare) ≡ numbers_of (max made (i + 1)) rest

pub taken_next : (world : World) (made : ℕ) (spare rest : List ℕ) (i : ℕ) → IsTaken made spare rest i → IsNumbered world made spare → IsNext world made spare rest i
taken_next world made spare rest i taken is =
    ⊎_elim
    (λ (same : spare ≡ rest ++ i ∷ []).
    let below = back_below world made spare rest i same is in
    record {
      most = omega (arith, below);
      free = back_free world made spare rest i same is;
      others = back_rest world made spare rest i same is;
      apart = back_apart world made spare rest i same is;
      next = ap (λ ns. next_of made (reverse ns)) same ∙ ap (next_of made) (reverse-append rest (i ∷ []));
      numbers = back_taken made spare rest i same below;
    })
    (λ (fresh : (spare ≡ []) × ((rest ≡ []) × (i ≡ made))).
    let none : length rest ≡ 0 = ap length fresh.1.0 in
    let more : made + 1 ≡ max made (i + 1) = omega (arith, fresh.1.1) in
    record {
      most = omega (arith, fresh.1.1);
      free = is.beyond i (omega (arith, fresh.1.1));
      others = subst (IsNumbered world made) (fresh.0 ∙ sym fresh.1.0) is;
      apart = λ k below. absurd (omega (arith, below, none));
      next = ap (λ ns. next_of made (reverse ns)) fresh.0 ∙ sym fresh.1.1;
      numbers = ap (λ ns. taken_from made (reverse ns)) fresh.0 ∙ numbers_as (made + 1) (max made (i + 1)) [] more ∙ ap (numbers_of (max made (i + 1))) (sym fresh.1.0);
    })
    taken

-- the number that was seen before is the one that is taken
pub taken_peeked : (world : World) (made : ℕ) (spare rest : List ℕ) (i number : ℕ) → i ≡ next_of made (reverse spare) → IsTaken made spare rest number → IsNumbered world made spare → IsNext world made spare rest i
taken_peeked world made spare rest i number next taken is =
    let found = taken_next world made spare rest number taken is in
    subst (IsNext world made spare rest) (sym (next ∙ found.next)) found

-- an image comes under a number that none has
pub put_numbered : (world : World) (made i : ℕ) (rest : List ℕ) (image : Image) → i ≤ made → made + 1 < 2 ^ 32 → ((k : ℕ) → k < length rest → get_or rest k 0 ≢ i) → IsNumbered world made rest → IsNumbered (with_image world i (Some image)) (max made (i + 1)) rest
put_numbered world made i rest image most few apart is = record {
  few = omega (arith, most, few);
  below = λ k l. omega (arith, is.below k l);
  free = λ k l. with_image-other world i (get_or rest k 0) (Some image) (apart k l) ∙ is.free k l;
  apart = is.apart;
  beyond = λ n past. with_image-other world i n (Some image) (λ same. omega (arith, past, same)) ∙ is.beyond n (omega (arith, past));
}

-- an image becomes another one
pub stay_numbered : (world : World) (made i : ℕ) (spare : List ℕ) (image : Image) → IsLive world i → IsNumbered world made spare → IsNumbered (with_image world i (Some image)) made spare
stay_numbered world made i spare image live is = record {
  few = is.few;
  below = is.below;
  free = λ k l. stays (get_or spare k 0) (is.free k l);
  apart = is.apart;
  beyond = λ n past. stays n (is.beyond n past);
}
  where
    stays : (n : ℕ) → world n ≡ None → with_image world i (Some image) n ≡ None
    stays n none = with_image-other world i n (Some image) (λ e. live-apart world n i none live (sym e)) ∙ none

-- or gets another list
pub list_numbered : (world : World) (made p : ℕ) (spare : List ℕ) (ws : List Window) → IsLive world p → IsNumbered world made spare → IsNumbered (with_list world p ws) made spare
list_numbered world made p spare ws live is = stay_numbered world made p spare (record (image_at world p) { windows = ws }) live is
