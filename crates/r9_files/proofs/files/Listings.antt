-- A listing that is cut at its stats, and what is given of it.
use Rattle.std.proofs.Common.{◌≡◌, ℕ, ◌+◌, ◌-◌, ◌≤◌, ◌==◌, ◌&&◌, not, Bool, true, false, cond, nat_le, List, [], ◌∷◌, ◌++◌, length, take, drop, slice_index, Some, None, Option, Ok, Err, refl, sym, ap, ◌∙◌, arith, All, length-append, length-drop, length-take, take-append-drop, append_assoc, append-nil, leb-true, ne_eqb}
use Rattle.std.specs.List.{concat}
use Rattle.std.specs.Int.{w16, from_le_bytes}
use Rattle.std.proofs.Math.Seq.{take-append_seam, drop-append_seam}
use Rattle.std.proofs.lemmas.List.{drop-drop, take_rest}
use Rattle.std.proofs.lemmas.List.Elements.{All-head, All-tail}
use Rattle.std.proofs.lemmas.Nat.{from_le_bytes-to_le_bytes_2}
use Rattle.model_text.specs.text.Outcome.{Outcome, ◌>>=◌, refuse_if}
use Rattle.model_files.specs.wire.Spelling.{sized}
use Rattle.model_files.proofs.wire.Parts.{length-sized, some_is}
use Rattle.model_files.specs.tree.Listing.{IsSized, fitting}
use Rattle.model_world.specs.Session.{Kept}
use Rattle.model_world.specs.Reading.{given}

concat-append : (xs ys : List (List ℕ)) → concat (xs ++ ys) ≡ concat xs ++ concat ys
concat-append [] ys = refl
concat-append (x ∷ xs) ys = ap (λ (l : List ℕ). x ++ l) (concat-append xs ys) ∙ sym (append_assoc x (concat xs) (concat ys))

take_front : (n : ℕ) (xs front rest : List ℕ) → xs ≡ front ++ rest → n ≡ length front → take n xs ≡ front
take_front n xs front rest e is = ap (λ (l : List ℕ). take n l) e ∙ ap (λ (k : ℕ). take k (front ++ rest)) is ∙ take-append_seam front rest

drop_front : (n : ℕ) (xs front rest : List ℕ) → xs ≡ front ++ rest → n ≡ length front → drop n xs ≡ rest
drop_front n xs front rest e is = ap (λ (l : List ℕ). drop n l) e ∙ ap (λ (k : ℕ). drop k (front ++ rest)) is ∙ drop-append_seam front rest

-- ---- the stat in front

pub long_enough : (listing piece rest : List ℕ) (s : IsSized piece) → listing ≡ piece ++ rest → (length piece ≡ 2 + length s.body) × (length piece ≤ length listing)
long_enough listing piece rest s e =
    (ap (λ (p : List ℕ). length p) s.spelled ∙ length-sized s.body, omega (arith, ap (λ (p : List ℕ). length p) e, length-append piece rest))

pub number_in_front : (listing piece rest : List ℕ) (s : IsSized piece) → listing ≡ piece ++ rest → from_le_bytes w16 (slice_index listing 0 ∷ slice_index listing 1 ∷ []) ≡ length s.body
unfolding sized
number_in_front listing piece rest s e =
    let spelled : listing ≡ sized s.body ++ rest = e ∙ ap (λ (p : List ℕ). p ++ rest) s.spelled in
    ap (λ (l : List ℕ). from_le_bytes w16 (slice_index l 0 ∷ slice_index l 1 ∷ [])) spelled ∙ from_le_bytes-to_le_bytes_2 (length s.body) s.fits

-- ---- cutting

-- the pieces are the stats that are cut off, and those that the rest is made of
pub record Goes (pieces stats : List (List ℕ)) (rest : List ℕ) : Type 0 where
  pub more : List (List ℕ)
  pub sized : All IsSized more
  pub are : pieces ≡ stats ++ more
  pub left : rest ≡ concat more

pub record IsCut (listing : List ℕ) (stats : List (List ℕ)) (rest : List ℕ) : Type 0 where
  pub bytes : concat stats ++ rest ≡ listing
  pub goes : (pieces : List (List ℕ)) → All IsSized pieces → listing ≡ concat pieces → Goes pieces stats rest

-- a length is the one of the piece in front
abbrev pub IsFirst : Option ℕ → List ℕ → Type 0
IsFirst found listing = (piece rest : List ℕ) → IsSized piece → listing ≡ piece ++ rest → found ≡ Some (length piece)

goes_more : (pieces stats : List (List ℕ)) (rest : List ℕ) (len : ℕ) (more : List (List ℕ)) → All IsSized more → pieces ≡ stats ++ more → rest ≡ concat more
    → 1 ≤ len → len ≤ length rest → IsFirst (Some len) rest → Goes pieces (stats ++ take len rest ∷ []) (drop len rest)
goes_more pieces stats rest len [] all are left low high first = absurd (omega (arith, low, high, ap (λ (l : List ℕ). length l) left))
goes_more pieces stats rest len (x ∷ xs) all are left low high first =
    let len-is : len ≡ length x = some_is _ _ (first x (concat xs) (All-head IsSized x xs all) left) in
    record {
      more = xs;
      sized = All-tail IsSized x xs all;
      are = are ∙ sym (append_assoc stats (x ∷ []) xs) ∙ ap (λ (p : List ℕ). (stats ++ p ∷ []) ++ xs) (sym (take_front len rest x (concat xs) left len-is));
      left = drop_front len rest x (concat xs) left len-is;
    }

bytes_more : (listing : List ℕ) (stats : List (List ℕ)) (rest : List ℕ) (len : ℕ) → concat stats ++ rest ≡ listing → concat (stats ++ take len rest ∷ []) ++ drop len rest ≡ listing
bytes_more listing stats rest len e =
    ap (λ (l : List ℕ). l ++ drop len rest) (concat-append stats (take len rest ∷ []) ∙ ap (λ (l : List ℕ). concat stats ++ l) (append-nil (take len rest)))
    ∙ append_assoc (concat stats) (take len rest) (drop len rest)
    ∙ ap (λ (l : List ℕ). concat stats ++ l) (take-append-drop len rest)
    ∙ e

pub cut_more : (listing : List ℕ) (stats : List (List ℕ)) (rest : List ℕ) (len : ℕ) → IsCut listing stats rest → 1 ≤ len → len ≤ length rest → IsFirst (Some len) rest
    → IsCut listing (stats ++ take len rest ∷ []) (drop len rest)
cut_more listing stats rest len is low high first = record {
  bytes = bytes_more listing stats rest len is.bytes;
  goes = λ pieces all whole.
      let so = is.goes pieces all whole in
      goes_more pieces stats rest len so.more so.sized so.are so.left low high first;
}

whole_by : (pieces stats : List (List ℕ)) (rest : List ℕ) (more : List (List ℕ)) → All IsSized more → pieces ≡ stats ++ more → rest ≡ concat more → IsFirst None rest → stats ≡ pieces
whole_by pieces stats rest [] all are left none = sym (are ∙ append-nil stats)
whole_by pieces stats rest (x ∷ xs) all are left none = let never = none x (concat xs) (All-head IsSized x xs all) left in absurd (cc never)

pub cut_whole : (listing : List ℕ) (stats : List (List ℕ)) (rest : List ℕ) → IsCut listing stats rest → IsFirst None rest → (pieces : List (List ℕ)) → All IsSized pieces → listing ≡ concat pieces → stats ≡ pieces
cut_whole listing stats rest is none pieces all whole =
    let so = is.goes pieces all whole in whole_by pieces stats rest so.more so.sized so.are so.left none

pub rest_is : (rest : List ℕ) (from : ℕ) → take (length rest - from) (drop from rest) ≡ drop from rest
rest_is rest from = take_rest rest from

-- ---- giving

fits_by : (count : ℕ) (x : List ℕ) (more : List (List ℕ)) (b : Bool) → nat_le (length x) count ≡ b → length (concat more) ≤ count - length x → length (concat (cond b (x ∷ more) [])) ≤ count
fits_by count x more true fits le = omega (arith, leb-true _ _ fits, le, length-append x (concat more))
fits_by count x more false fits le = omega arith

length-fitting-le : (count : ℕ) (xs : List (List ℕ)) → length (concat (fitting count xs)) ≤ count
length-fitting-le count [] = omega arith
length-fitting-le count (x ∷ xs) = fits_by count x (fitting (count - length x) xs) (nat_le (length x) count) refl (length-fitting-le (count - length x) xs)

front_by : (x : List ℕ) (xs more : List (List ℕ)) (b : Bool) → take (length more) xs ≡ more → take (length (cond b (x ∷ more) [])) (x ∷ xs) ≡ cond b (x ∷ more) []
front_by x xs more true e = ap (λ (l : List (List ℕ)). x ∷ l) e
front_by x xs more false e = refl

fitting_front : (count : ℕ) (xs : List (List ℕ)) → take (length (fitting count xs)) xs ≡ fitting count xs
fitting_front count [] = refl
fitting_front count (x ∷ xs) = front_by x xs (fitting (count - length x) xs) (nat_le (length x) count) (fitting_front (count - length x) xs)

pub fitting-le : (count : ℕ) (xs : List (List ℕ)) → length (fitting count xs) ≤ length xs
fitting-le count xs = omega (arith, ap (λ (l : List (List ℕ)). length l) (fitting_front count xs), length-take (length (fitting count xs)) xs)

length-given : (count : ℕ) (xs : List (List ℕ)) → length (concat (fitting count xs)) + length (concat (drop (length (fitting count xs)) xs)) ≡ length (concat xs)
length-given count xs =
    let front = fitting count xs in
    let back = drop (length front) xs in
    let parts : front ++ back ≡ xs = ap (λ (l : List (List ℕ)). l ++ back) (sym (fitting_front count xs)) ∙ take-append-drop (length front) xs in
    omega (arith, length-append (concat front) (concat back), ap (λ (l : List ℕ). length l) (sym (concat-append front back) ∙ ap concat parts))

passed : {A : Type 0} (b : Bool) (r : Outcome A) → b ≡ false → (refuse_if b 46 >>= λ _. r) ≡ r
passed true r is = absurd (cc is)
passed false r is = refl

refused_by : {A : Type 0} (b : Bool) (r : Outcome A) → b ≡ true → (refuse_if b 46 >>= λ _. r) ≡ Err 46
refused_by true r is = refl
refused_by false r is = absurd (cc is)

-- whether some are left and none fits
abbrev pub is_stuck : List (List ℕ) → ℕ → Bool
is_stuck left count = not (length left == 0) && (length (fitting count left) == 0)

-- so many of the items behind the first ones are given, and their bytes
pub record IsGiven (items : List (List ℕ)) (before count fit : ℕ) (bytes : List ℕ) : Type 0 where
  pub many : fit ≡ length (fitting count (drop before items))
  pub are : bytes ≡ concat (fitting count (drop before items))

-- the items behind the first ones, as a slice has them
abbrev pub behind : ℕ → List (List ℕ) → List (List ℕ)
behind before all = take (length all - before) (drop before all)

behind_is : (items all : List (List ℕ)) (before : ℕ) → all ≡ items → behind before all ≡ drop before items
behind_is items all before e = take_rest all before ∙ ap (λ (l : List (List ℕ)). drop before l) e

pub is_given : (items all : List (List ℕ)) (before count fit : ℕ) (bytes : List ℕ) → all ≡ items → fit ≡ length (fitting count (behind before all)) → bytes ≡ concat (take fit (behind before all))
    → IsGiven items before count fit bytes
is_given items all before count fit bytes same fit-is bytes-are =
    let left = behind_is items all before same in
    record {
      many = fit-is ∙ ap (λ (l : List (List ℕ)). length (fitting count l)) left;
      are = bytes-are
          ∙ ap (λ (k : ℕ). concat (take k (behind before all))) fit-is
          ∙ ap concat (fitting_front count (behind before all))
          ∙ ap (λ (l : List (List ℕ)). concat (fitting count l)) left;
    }

pub given-le : (items : List (List ℕ)) (before count fit : ℕ) (bytes : List ℕ) → IsGiven items before count fit bytes → length bytes ≤ count
given-le items before count fit bytes is = omega (arith, ap (λ (l : List ℕ). length l) is.are, length-fitting-le count (drop before items))

pub left_then : (items : List (List ℕ)) (before count fit : ℕ) (bytes : List ℕ) → IsGiven items before count fit bytes → length bytes + length (concat (drop (before + fit) items)) ≡ length (concat (drop before items))
left_then items before count fit bytes is =
    let left = drop before items in
    let same : drop fit left ≡ drop (before + fit) items = drop-drop fit before items in
    let back : drop fit left ≡ drop (length (fitting count left)) left = ap (λ (k : ℕ). drop k left) is.many in
    omega (arith, ap (λ (l : List ℕ). length l) is.are, ap (λ (l : List (List ℕ)). length (concat l)) (sym same ∙ back), length-given count left)

pub given_within : (items : List (List ℕ)) (before count fit : ℕ) (bytes : List ℕ) → IsGiven items before count fit bytes → before ≤ length items → before + fit ≤ length items
given_within items before count fit bytes is le = omega (arith, le, is.many, fitting-le count (drop before items), length-drop before items)

pub given_stuck : (items all : List (List ℕ)) (before next count fit : ℕ) (empty : Bool) → all ≡ items → fit ≡ length (fitting count (behind before all)) → empty ≡ (length (behind before all) == 0) → fit ≡ 0 → empty ≡ false
    → (let kept : Kept = record { left = drop before items; next = next } in given kept count ≡ Err 46)
unfolding given
given_stuck items all before next count fit empty same fit-is empty-is none some =
    let left = behind_is items all before same in
    let first : (length (drop before items) == 0) ≡ false = ap (λ (l : List (List ℕ)). length l == 0) (sym left) ∙ sym empty-is ∙ some in
    let second : (length (fitting count (drop before items)) == 0) ≡ true =
    ap (λ (l : List (List ℕ)). length (fitting count l) == 0) (sym left) ∙ ap (λ (k : ℕ). k == 0) (sym fit-is ∙ none) in
    let stuck : is_stuck (drop before items) count ≡ true = λ i. not (first i) && second i in
    refused_by (is_stuck (drop before items) count) _ stuck

pub not_stuck : (items all : List (List ℕ)) (before count : ℕ) (empty : Bool) → all ≡ items → empty ≡ (length (behind before all) == 0) → empty ≡ true → is_stuck (drop before items) count ≡ false
not_stuck items all before count empty same empty-is none =
    let first : (length (drop before items) == 0) ≡ true = ap (λ (l : List (List ℕ)). length l == 0) (sym (behind_is items all before same)) ∙ sym empty-is ∙ none in
    ap (λ (b : Bool). not b && (length (fitting count (drop before items)) == 0)) first

none_by : (b : Bool) → (b && false) ≡ false
none_by true = refl
none_by false = refl

pub some_fit : (items : List (List ℕ)) (before count fit : ℕ) (bytes : List ℕ) → IsGiven items before count fit bytes → (fit ≡ 0 → ⊥) → is_stuck (drop before items) count ≡ false
some_fit items before count fit bytes is some =
    let second : (length (fitting count (drop before items)) == 0) ≡ false = ap (λ (k : ℕ). k == 0) (sym is.many) ∙ ne_eqb fit 0 some in
    ap (λ (b : Bool). not (length (drop before items) == 0) && b) second ∙ none_by (not (length (drop before items) == 0))

pub given_more : (items : List (List ℕ)) (before next count fit len : ℕ) (bytes : List ℕ) → IsGiven items before count fit bytes → len ≡ length bytes → is_stuck (drop before items) count ≡ false
    → (let kept : ℕ → ℕ → Kept = λ first offset. record { left = drop first items; next = offset } in given (kept before next) count ≡ Ok (kept (before + fit) (next + len), bytes))
unfolding given
given_more items before next count fit len bytes is len-is free =
    let front = fitting count (drop before items) in
    let left : drop (length front) (drop before items) ≡ drop (before + fit) items = drop-drop (length front) before items ∙ ap (λ (k : ℕ). drop (before + k) items) (sym is.many) in
    let long : length (concat front) ≡ len = ap (λ (l : List ℕ). length l) (sym is.are) ∙ sym len-is in
    passed (is_stuck (drop before items) count) _ free ∙ (λ i. Ok (record { left = left i; next = next + long i }, sym is.are i))
