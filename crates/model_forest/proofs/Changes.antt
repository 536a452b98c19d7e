-- One image of a world changes, and the others stay.
use Rattle.std.proofs.Common.{◌≡◌, ◌≢◌, ℕ, Bool, true, false, Option, Some, None, refl, sym, ◌∙◌, ap, subst, eq-eqb}
use Rattle.std.specs.Prelude.{◌==◌, is_some, option_map, unwrap_or, if◌then◌else◌}
use Rattle.std.proofs.lemmas.Bool.{true≢false}
use Rattle.std.proofs.lemmas.Bool.Decides.{Decides-eqb}
use Rattle.model_forest.specs.World.{Image, World, no_image, parent_of, with_image, IsLive}

pub with_image-at : (world : World) (i : ℕ) (slot : Option Image) → with_image world i slot i ≡ slot
with_image-at world i slot = let same : (i == i) ≡ true = eq-eqb i i refl in rw same

pub with_image-other : (world : World) (i n : ℕ) (slot : Option Image) → n ≢ i → with_image world i slot n ≡ world n
with_image-other world i n slot apart =
    let differ : (n == i) ≡ false = by_cases (n == i) refl in rw differ
  where
    by_cases : (b : Bool) → (n == i) ≡ b → b ≡ false
    by_cases true e = absurd (apart ((Decides-eqb n i).0 e))
    by_cases false e = refl

-- what holds of the new slot at its number and of the others where they were holds of each
pub with_image-each : (world : World) (i : ℕ) (slot : Option Image) (P : ℕ → Option Image → Type 0) → P i slot → ((n : ℕ) → n ≢ i → P n (world n)) → (n : ℕ) → P n (with_image world i slot n)
with_image-each world i slot P changed others n = by_cases (n == i) refl
  where
    by_cases : (b : Bool) → (n == i) ≡ b → P n (if n == i then slot else world n)
    by_cases true e =
        let same : n ≡ i = (Decides-eqb n i).0 e in
        subst (λ (k : ℕ). P k (if n == i then slot else world n)) (sym same) (rw e changed)
    by_cases false e = rw e (others n (λ same. let both : (n == i) ≡ true = eq-eqb n i same in true≢false (sym both ∙ e)))

-- a number that is live is not the free one
pub live-apart : (world : World) (i n : ℕ) → world i ≡ None → IsLive world n → n ≢ i
live-apart world i n free live same =
    let none : is_some (world n) ≡ false = ap (λ k. is_some (world k)) same ∙ ap is_some free in
    true≢false (sym live ∙ none)

-- the others stay as they are
pub with_image-free : (world : World) (i n : ℕ) (slot : Option Image) → world i ≡ None → IsLive world n → with_image world i slot n ≡ world n
with_image-free world i n slot free live = with_image-other world i n slot (live-apart world i n free live)

-- what stands somewhere is an image
pub live-standing : (world : World) (i p : ℕ) → parent_of world i ≡ Some p → IsLive world i
live-standing world i p = by_slot (world i)
  where
    by_slot : (slot : Option Image) → option_map (λ s. s.parent) (unwrap_or slot no_image).standing ≡ Some p → is_some slot ≡ true
    by_slot None stands = absurd (true≢false (sym (ap {A = Option ℕ} is_some stands)))
    by_slot (Some image) stands = refl

-- worlds that agree at each number are one
pub World-same : (a b : World) → ((n : ℕ) → a n ≡ b n) → a ≡ b
World-same a b same = λ i n. same n i

-- a world that agrees with a change at its number and elsewhere is that change
pub World-changed : (old new : World) (i : ℕ) (slot : Option Image) → new i ≡ slot → ((n : ℕ) → n ≢ i → new n ≡ old n) → new ≡ with_image old i slot
World-changed old new i slot changed others = World-same new (with_image old i slot) (λ n. at n (n == i) refl)
  where
    at : (n : ℕ) (b : Bool) → (n == i) ≡ b → new n ≡ with_image old i slot n
    at n true e =
        let same : n ≡ i = (Decides-eqb n i).0 e in
        subst (λ (k : ℕ). new k ≡ with_image old i slot k) (sym same) (changed ∙ sym (with_image-at old i slot))
    at n false e =
        let apart : n ≢ i = λ same. let both : (n == i) ≡ true = eq-eqb n i same in cc in
        others n apart ∙ sym (with_image-other old i n slot apart)
