-- A text that grows by what is taken, and what it tells of the input.
use Rattle.std.proofs.Common.{◌≡◌, ℕ, ◌<◌, ◌≤◌, List, [], ◌++◌, length, take, drop, Option, Some, None, refl, sym, ap, subst, ◌∙◌, append_assoc, arith}
use Rattle.std.specs.Prelude.{IfSome, IsSomeAnd}
use Rattle.std.proofs.lemmas.List.{take-append-drop, take_at, drop_at, take_all, drop_all, length-take}
use Rattle.r9_outside.specs.input.Taken.{HasTaken, HasRead, WasReadTo}

pub taken_nothing : (left : Option (List ℕ)) → HasTaken left [] left
taken_nothing None = tt
taken_nothing (Some bytes) = refl

pub taken_more : (before : Option (List ℕ)) (text more : List ℕ) (left after : Option (List ℕ)) (n : ℕ) → HasTaken before text left
    → IfSome left (λ bytes. (more ≡ text ++ take n bytes) × (after ≡ Some (drop n bytes))) → HasTaken before more after
taken_more None text more left after n so_far taken = tt
taken_more (Some all) text more None after n so_far taken = absurd so_far
taken_more (Some all) text more (Some bytes) after n so_far taken =
    subst (λ (a : Option (List ℕ)). IsSomeAnd a (λ rest. all ≡ more ++ rest)) (sym taken.1)
    (so_far ∙ ap (λ (b : List ℕ). text ++ b) (sym (take-append-drop n bytes)) ∙ sym (append_assoc text (take n bytes) (drop n bytes)) ∙ ap (λ (t : List ℕ). t ++ drop n bytes) (sym taken.0))

-- a text of so many bytes is the front of what was left
pub read_to_limit : (limit : ℕ) (before : Option (List ℕ)) (text : List ℕ) (after : Option (List ℕ)) → HasTaken before text after → length text ≡ limit → HasRead limit before text after
read_to_limit limit None text after taken long = tt
read_to_limit limit (Some all) text None taken long = absurd taken
read_to_limit limit (Some all) text (Some rest) taken long = (
  sym (ap (λ (t : List ℕ). take limit t) taken ∙ take_at text rest limit long),
  ap (λ (t : List ℕ). Some t) (sym (ap (λ (t : List ℕ). drop limit t) taken ∙ drop_at text rest limit long)),
)

-- nothing is left to be taken
pub read_to_end : (limit : ℕ) (before : Option (List ℕ)) (text more : List ℕ) (left after : Option (List ℕ)) (n : ℕ) → HasTaken before text left
    → IfSome left (λ bytes. (more ≡ text ++ take n bytes) × (after ≡ Some (drop n bytes))) → IfSome left (λ bytes. bytes ≡ []) → length more ≤ limit → HasRead limit before more after
read_to_end limit None text more left after n so_far taken none short = tt
read_to_end limit (Some all) text more None after n so_far taken none short = absurd so_far
read_to_end limit (Some all) text more (Some bytes) after n so_far taken none short =
    let nothing : take n bytes ≡ bytes = take_all n bytes (omega (arith, ap length none)) in
    let whole : all ≡ more = so_far ∙ ap (λ (b : List ℕ). text ++ b) (sym nothing) ∙ sym taken.0 in
    let short_all : length all ≤ limit = omega (arith, short, ap length whole) in
    let gone : drop n bytes ≡ [] = drop_all n bytes (omega (arith, ap length none)) in
    (sym whole ∙ sym (take_all limit all short_all), taken.1 ∙ ap (λ (t : List ℕ). Some t) (gone ∙ sym (drop_all limit all short_all)))

-- ---- what the text tells of the input

-- a text below the limit is all that was left
pub whole_text : (limit : ℕ) (left : Option (List ℕ)) (text : List ℕ) (after : Option (List ℕ)) → HasRead limit left text after → length text < limit → IfSome left (λ bytes. bytes ≡ text)
whole_text limit None text after read short = tt
whole_text limit (Some all) text after read short =
    let below : length all ≤ limit = omega (arith, short, ap length read.0, length-take limit all) in
    sym (read.0 ∙ take_all limit all below)

pub was_read : (limit : ℕ) (left : Option (List ℕ)) (text : List ℕ) (after : Option (List ℕ)) → HasRead limit left text after → WasReadTo limit left after
was_read limit None text after read = tt
was_read limit (Some all) text after read = read.1
