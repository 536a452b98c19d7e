-- Lanes of components, each below 256.
use Rattle.std.proofs.Common.{◌≡◌, ℕ, zero, suc, ◌+◌, ◌-◌, ◌*◌, ◌/◌, ◌%◌, ◌^◌, min, ◌<◌, ◌≤◌, Bool, true, false, cond, ltb, List, [], ◌∷◌, ◌++◌, map, length, get_or, replicate, Fits, w16, refl, sym, ap, ap₂, ◌∙◌, subst, arith, inl, inr}
use Rattle.std.proofs.Math.Nat.{mul-le-mul, mul_assoc}
use Rattle.std.proofs.lemmas.Bool.{cases_lt, lt-ltb, le-ltb}
use Rattle.std.proofs.lemmas.Simd.{Each1-zip2, Each2-of, Each2-all, length-zip2, get_or-zip2, get_or-replicate, get_or_narrower, get_or_wider, length-chunk, get_or-chunk, Each1-chunk}
use lib.Lanes.{Each1, zip2, chunk, number_l, digits_l, sel_l, top, pick_l}
use Rattle.model_pixel.specs.Channels.{colour_of}
use Rattle.model_pixel.specs.Composition.{mul, share, composed}

abbrev pub Bytes : List ℕ → Type 0
Bytes xs = Each1 (λ x. x < 256) xs

-- ---- the product

-- 257 / 65536 in place of 1 / 255
quotient : (p : ℕ) → p ≤ 65025 → (p + 128) * 257 / 65536 ≡ (2 * p + 255) / 510
quotient p h = omega arith

product_most : (x y : ℕ) → x < 256 → y < 256 → x * y ≤ 65025
product_most x y h k = let a : x ≤ 255 = omega arith in let b : y ≤ 255 = omega arith in mul-le-mul a b

pub mul-small : (x y : ℕ) → x < 256 → y < 256 → mul x y < 256
mul-small x y h k =
    let most = product_most x y h k in
    let same : 2 * x * y ≡ 2 * (x * y) = mul_assoc 2 x y in
    omega (arith, most, same)

-- what the lanes compute, in 16 bits
abbrev shr : ℕ → ℕ → ℕ
shr x s = x / 2 ^ s

abbrev add : ℕ → ℕ → ℕ
add x y = (x + y) % 65536

abbrev sub : ℕ → ℕ → ℕ
sub x y = (x + (65536 - y)) % 65536

abbrev times : ℕ → ℕ → ℕ
times x y = x * y % 65536

abbrev wide : ℕ → ℕ → ℕ
wide x y = x * y % 4294967296

rounded_is : (x y : ℕ) → x < 256 → y < 256 → shr (wide (add (times x y) 128) 257) 16 ≡ mul x y
rounded_is x y h k =
    let most = product_most x y h k in
    let same : 2 * x * y ≡ 2 * (x * y) = mul_assoc 2 x y in
    let a : (x * y % 65536 + 128) % 65536 ≡ x * y + 128 = omega (arith, most) in
    let b : (x * y + 128) * 257 % 4294967296 ≡ (x * y + 128) * 257 = omega (arith, most) in
    ap (λ t. t * 257 % 4294967296 / 65536) a ∙ ap (λ t. t / 65536) b ∙ quotient (x * y) most ∙ ap (λ t. (t + 255) / 510) (sym same)

-- what the lanes compute
abbrev in_lanes : ℕ → List ℕ → List ℕ → List ℕ
in_lanes n xs ys =
    let rounded = map (λ (x : ℕ). x) (zip2 add (zip2 times xs ys) (replicate n 128)) in
    map (λ (x : ℕ). x) (zip2 shr (zip2 wide rounded (replicate n 257)) (replicate n 16))

products : (xs ys : List ℕ) → Bytes xs → Bytes ys → in_lanes (length xs) xs ys ≡ zip2 mul xs ys
products [] ys h k = refl
products (x ∷ xs) [] h k = refl
products (x ∷ xs) (y ∷ ys) h k = ap₂ (λ (z : ℕ) zs. z ∷ zs) (rounded_is x y h.0 k.0) (products xs ys h.1 k.1)

pub products_is : (n : ℕ) (xs ys : List ℕ) → length xs ≡ n → Bytes xs → Bytes ys → in_lanes n xs ys ≡ zip2 mul xs ys
products_is n xs ys e h k = subst (λ (n : ℕ). in_lanes n xs ys ≡ zip2 mul xs ys) e (products xs ys h k)

pub halves_fit : (n : ℕ) (xs : List ℕ) → Each1 (Fits w16) (zip2 shr (zip2 wide xs (replicate n 257)) (replicate n 16))
halves_fit zero [] = tt
halves_fit zero (x ∷ xs) = tt
halves_fit (suc n) [] = tt
halves_fit (suc n) (x ∷ xs) = (record { fits = omega arith }, halves_fit n xs)

pub products-small : (xs ys : List ℕ) → Bytes xs → Bytes ys → Bytes (zip2 mul xs ys)
products-small xs ys h k =
    Each1-zip2 mul (λ z. z < 256) xs ys
    (Each2-of (λ x. x < 256) (λ y. y < 256) (λ x y. mul x y < 256) mul-small xs ys h k)

-- ---- shares

pub all_kept : (xs ys : List ℕ) → length xs ≡ length ys → xs ≡ zip2 (share true true) xs ys
all_kept [] ys e = refl
all_kept (x ∷ xs) [] e = absurd (omega arith)
all_kept (x ∷ xs) (y ∷ ys) e = ap (λ zs. x ∷ zs) (all_kept xs ys (omega arith))

none_kept : (xs ys : List ℕ) → length xs ≡ length ys → replicate (length xs) 0 ≡ zip2 (share false false) xs ys
none_kept [] ys e = refl
none_kept (x ∷ xs) [] e = absurd (omega arith)
none_kept (x ∷ xs) (y ∷ ys) e = ap (λ zs. 0 ∷ zs) (none_kept xs ys (omega arith))

pub none_kept_is : (n : ℕ) (xs ys : List ℕ) → length xs ≡ n → length ys ≡ n → replicate n 0 ≡ zip2 (share false false) xs ys
none_kept_is n xs ys e f = subst (λ (n : ℕ). replicate n 0 ≡ zip2 (share false false) xs ys) e (none_kept xs ys (omega arith))

rest_is : (y : ℕ) → y < 256 → sub 255 y ≡ 255 - y
rest_is y h = omega arith

outside_kept : (xs ys : List ℕ) → Bytes ys → zip2 mul xs (zip2 sub (replicate (length xs) 255) ys) ≡ zip2 (share false true) xs ys
outside_kept [] ys h = refl
outside_kept (x ∷ xs) [] h = refl
outside_kept (x ∷ xs) (y ∷ ys) h = ap₂ (λ (z : ℕ) zs. z ∷ zs) (ap (mul x) (rest_is y h.0)) (outside_kept xs ys h.1)

pub outside_kept_is : (n : ℕ) (xs ys : List ℕ) → length xs ≡ n → Bytes ys → zip2 mul xs (zip2 sub (replicate n 255) ys) ≡ zip2 (share false true) xs ys
outside_kept_is n xs ys e h = subst (λ (n : ℕ). zip2 mul xs (zip2 sub (replicate n 255) ys) ≡ zip2 (share false true) xs ys) e (outside_kept xs ys h)

rests : (n : ℕ) (ys : List ℕ) → Bytes ys → Bytes (zip2 sub (replicate n 255) ys)
rests zero ys h = tt
rests (suc n) [] h = tt
rests (suc n) (y ∷ ys) h = (omega (arith, h.0), rests n ys h.1)

pub rests_small : (ys : List ℕ) → Bytes ys → Bytes (zip2 sub (replicate 8 255) ys)
rests_small ys h = rests 8 ys h

share-small : (inside outside : Bool) (x y : ℕ) → x < 256 → y < 256 → share inside outside x y < 256
share-small true true x y h k = h
share-small true false x y h k = mul-small x y h k
share-small false true x y h k = mul-small x (255 - y) h (omega arith)
share-small false false x y h k = omega arith

pub shares-small : (inside outside : Bool) (xs ys : List ℕ) → Bytes xs → Bytes ys → Bytes (zip2 (share inside outside) xs ys)
shares-small inside outside xs ys h k =
    Each1-zip2 (share inside outside) (λ z. z < 256) xs ys
    (Each2-of (λ x. x < 256) (λ y. y < 256) (λ x y. share inside outside x y < 256) (share-small inside outside) xs ys h k)

-- ---- sums

capped : (x y : ℕ) → x < 256 → y < 256 → cond (top 15 (cond (ltb (add x y) 255) 65535 0)) (add x y) 255 ≡ min 255 (x + y)
capped x y h k =
    elim (cases_lt (add x y) 255) [
      | inl less ↦ ap (λ b. cond (top 15 (cond b 65535 0)) (add x y) 255) (lt-ltb (add x y) 255 less) ∙ omega arith
      | inr most ↦ ap (λ b. cond (top 15 (cond b 65535 0)) (add x y) 255) (le-ltb (add x y) 255 most) ∙ omega arith
    ]

-- the lesser of each lane and 255
abbrev at_most : ℕ → List ℕ → List ℕ
at_most n zs =
    sel_l (map (top 15) (zip2 (λ a b. cond (ltb a b) 65535 0) zs (replicate n 255))) zs (replicate n 255)

sums : (xs ys : List ℕ) → Bytes xs → Bytes ys → at_most (length xs) (zip2 add xs ys) ≡ zip2 (λ x y. min 255 (x + y)) xs ys
sums [] ys h k = refl
sums (x ∷ xs) [] h k = refl
sums (x ∷ xs) (y ∷ ys) h k = ap₂ (λ (z : ℕ) zs. z ∷ zs) (capped x y h.0 k.0) (sums xs ys h.1 k.1)

pub sums_is : (n : ℕ) (xs ys : List ℕ) → length xs ≡ n → Bytes xs → Bytes ys → at_most n (zip2 add xs ys) ≡ zip2 (λ x y. min 255 (x + y)) xs ys
sums_is n xs ys e h k = subst (λ (n : ℕ). at_most n (zip2 add xs ys) ≡ zip2 (λ x y. min 255 (x + y)) xs ys) e (sums xs ys h k)

pub sums-small : (xs ys : List ℕ) → Bytes xs → Bytes ys → Bytes (zip2 (λ x y. min 255 (x + y)) xs ys)
sums-small xs ys h k =
    Each1-zip2 (λ x y. min 255 (x + y)) (λ z. z < 256) xs ys
    (Each2-of (λ x. x < 256) (λ y. y < 256) (λ x y. min 255 (x + y) < 256) (λ x y h k. omega arith) xs ys h k)

abbrev add_bytes : ℕ → ℕ → ℕ
add_bytes x y = (x + y) % 256

abbrev not_byte : ℕ → ℕ
not_byte x = 255 - x

abbrev below_mask : ℕ → ℕ → ℕ
below_mask x y = cond (ltb x y) 255 0

saturated : (x y : ℕ) → x < 256 → y < 256 → add_bytes x (cond (top 7 (below_mask y (not_byte x))) y (not_byte x)) ≡ min 255 (x + y)
saturated x y h k =
    elim (cases_lt y (not_byte x)) [
      | inl less ↦ ap (λ b. add_bytes x (cond (top 7 (cond b 255 0)) y (not_byte x))) (lt-ltb y (not_byte x) less) ∙ omega arith
      | inr most ↦ ap (λ b. add_bytes x (cond (top 7 (cond b 255 0)) y (not_byte x))) (le-ltb y (not_byte x) most) ∙ omega arith
    ]

-- what a sum of bytes that saturates has at one of them
pub saturated_at : (xs ys : List ℕ) (n : ℕ) → n < length xs → n < length ys → get_or xs n 0 < 256 → get_or ys n 0 < 256
    → get_or (zip2 add_bytes xs (sel_l (map (top 7) (zip2 below_mask ys (map not_byte xs))) ys (map not_byte xs))) n 0 ≡ min 255 (get_or xs n 0 + get_or ys n 0)
saturated_at [] ys n p q h k = absurd (omega arith)
saturated_at (x ∷ xs) [] n p q h k = absurd (omega arith)
saturated_at (x ∷ xs) (y ∷ ys) zero p q h k = saturated x y h k
saturated_at (x ∷ xs) (y ∷ ys) (suc n) p q h k = saturated_at xs ys n (omega arith) (omega arith) h k

pub of_two : (P : ℕ → Type 0) → P 0 → P 1 → (k : ℕ) → k < 2 → P k
of_two P a b zero h = a
of_two P a b (suc zero) h = b
of_two P a b (suc (suc k)) h = absurd (omega arith)

-- ---- SoverD through a full mask

full_mask : (x : ℕ) → mul x 255 ≡ x
full_mask x = omega arith

pub over_is : (s sa d da : ℕ) → min 255 (s + mul d (255 - sa)) ≡ composed 11 (mul s 255) (mul sa 255) d da
unfolding composed
over_is s sa d da = λ i. min 255 (sym (full_mask s) i + mul d (255 - sym (full_mask sa) i))

-- ---- chosen lanes

byte_at : (xs : List ℕ) → Bytes xs → (k : ℕ) → get_or xs k 0 < 256
byte_at [] h k = omega arith
byte_at (x ∷ xs) h zero = h.0
byte_at (x ∷ xs) h (suc k) = byte_at xs h.1 k

both_bytes : (xs ys : List ℕ) → Bytes xs → Bytes ys → Bytes (xs ++ ys)
both_bytes [] ys h k = k
both_bytes (x ∷ xs) ys h k = (h.0, both_bytes xs ys h.1 k)

pub same_bytes : (xs : List ℕ) → Bytes xs → Bytes (map (λ x. x) xs)
same_bytes [] h = tt
same_bytes (x ∷ xs) h = (h.0, same_bytes xs h.1)

picked : (xs : List ℕ) → Bytes xs → (ks : List ℕ) → Bytes (pick_l 0 xs ks)
picked xs h [] = tt
picked xs h (k ∷ ks) = (byte_at xs h k, picked xs h ks)

pub picked_twice : (xs : List ℕ) → Bytes xs → (ks : List ℕ) → Bytes (pick_l 0 (xs ++ xs) ks)
picked_twice xs h ks = picked (xs ++ xs) (both_bytes xs xs h h) ks

-- ---- bytes side by side

abbrev up : ℕ → ℕ → ℕ
up x s = x * 2 ^ s % 65536

abbrev pairs : List ℕ → List ℕ → List ℕ
pairs xs ys = zip2 add xs (zip2 up ys (replicate 8 8))

pairs-small : (xs ys : List ℕ) → Each1 (λ x. x < 65536) (zip2 add xs ys)
pairs-small xs ys =
    Each1-zip2 add (λ z. z < 65536) xs ys (Each2-all (λ x y. add x y < 65536) (λ x y. omega arith) xs ys)

-- byte k of pair j
pub pair_is : (xs ys : List ℕ) (j k n : ℕ) → n ≡ 2 * j + k → length xs ≡ 8 → length ys ≡ 8 → j < 8 → k < 2
    → get_or (digits_l 256 16 (number_l 65536 (pairs xs ys))) n 0 ≡ add (get_or xs j 0) (up (get_or ys j 0) 8) / 256 ^ k % 256
pair_is xs ys j k n here e f less small =
    let high = zip2 up ys (replicate 8 8) in
    let long = length-zip2 up ys (replicate 8 8) (f ∙ refl) in
    ap (λ n. get_or (digits_l 256 16 (number_l 65536 (pairs xs ys))) n 0) here
    ∙ get_or_narrower 65536 2 256 16 (pairs xs ys) j k refl (pairs-small xs high) small (omega arith)
    ∙ ap (λ z. z / 256 ^ k % 256)
    (get_or-zip2 add xs high j 0 0 0 (omega arith) (omega (arith, long))
    ∙ ap (add (get_or xs j 0)) (get_or-zip2 up ys (replicate 8 8) j 0 0 0 (omega arith) less ∙ ap (up (get_or ys j 0)) (get_or-replicate 8 j 8 0 less)))

-- the higher of two bytes side by side
two : (ys : List ℕ) → length ys ≡ 2 → Bytes ys → number_l 256 ys / 2 ^ 8 ≡ get_or ys 1 0
two [] e h = absurd (omega arith)
two (a ∷ []) e h = absurd (omega arith)
two (a ∷ b ∷ []) e h = let A : a < 256 = h.0 in omega (arith, A)
two (a ∷ b ∷ c ∷ ys) e h = absurd (omega arith)

higher_is : (xs : List ℕ) (j : ℕ) → j + 2 ≤ length xs → Bytes xs → number_l 256 (chunk j 2 xs) / 2 ^ 8 ≡ get_or xs (j + 1) 0
higher_is xs j room h = two (chunk j 2 xs) (length-chunk j 2 xs room) (Each1-chunk (λ x. x < 256) j 2 xs h) ∙ get_or-chunk j 2 xs 1 0 (omega arith)

abbrev higher : ℕ → ℕ → List ℕ
higher n x = zip2 shr (digits_l 65536 n x) (replicate n 8)

higher_at : (n x j : ℕ) → j < n → get_or (higher n x) j 0 ≡ get_or (digits_l 65536 n x) j 0 / 2 ^ 8
higher_at zero x j less = absurd (omega arith)
higher_at (suc n) x zero less = refl
higher_at (suc n) x (suc j) less = higher_at n (x / 65536) j (omega arith)

pub higher_of : (n : ℕ) (xs : List ℕ) (j : ℕ) → length xs ≡ 2 * n → Bytes xs → j < n → get_or (higher n (number_l 256 xs)) j 0 ≡ get_or xs (2 * j + 1) 0
higher_of n xs j e h less =
    higher_at n (number_l 256 xs) j less
    ∙ ap (λ z. z / 2 ^ 8) (get_or_wider 256 2 65536 n xs j refl h less)
    ∙ higher_is xs (2 * j) (omega (arith, e)) h

pub higher_small : (n x : ℕ) → Bytes (higher n x)
higher_small zero x = tt
higher_small (suc n) x = (omega arith, higher_small n (x / 65536))

-- ---- pixels

pub words_small : (n x i : ℕ) → get_or (digits_l 4294967296 n x) i 0 < 4294967296
words_small zero x i = omega arith
words_small (suc n) x zero = omega arith
words_small (suc n) x (suc i) = words_small n (x / 4294967296) i

four : (ys : List ℕ) → length ys ≡ 4 → Bytes ys
    → colour_of (number_l 256 ys) ≡ record { r = get_or ys 3 0; g = get_or ys 2 0; b = get_or ys 1 0; a = get_or ys 0 0 }
four [] e h = absurd (omega arith)
four (a ∷ []) e h = absurd (omega arith)
four (a ∷ b ∷ []) e h = absurd (omega arith)
four (a ∷ b ∷ c ∷ []) e h = absurd (omega arith)
four (a ∷ b ∷ c ∷ d ∷ []) e h =
    let n = a + 256 * (b + 256 * (c + 256 * (d + 256 * 0))) in
    let A : a < 256 = h.0 in let B : b < 256 = h.1.0 in let C : c < 256 = h.1.1.0 in let D : d < 256 = h.1.1.1.0 in
    let r : n / 16777216 % 256 ≡ d = omega (arith, A, B, C, D) in
    let g : n / 65536 % 256 ≡ c = omega (arith, A, B, C, D) in
    let l : n / 256 % 256 ≡ b = omega (arith, A, B, C, D) in
    let t : n % 256 ≡ a = omega (arith, A, B, C, D) in
    λ i. record { r = r i; g = g i; b = l i; a = t i }
four (a ∷ b ∷ c ∷ d ∷ e' ∷ ys) e h = absurd (omega arith)

pub pixel_is : (xs : List ℕ) (j : ℕ) → j + 4 ≤ length xs → Bytes xs
    → colour_of (number_l 256 (chunk j 4 xs)) ≡ record { r = get_or xs (j + 3) 0; g = get_or xs (j + 2) 0; b = get_or xs (j + 1) 0; a = get_or xs j 0 }
pixel_is xs j room h =
    let at = λ (k : ℕ) (small : k < 4). get_or-chunk j 4 xs k 0 small in
    let r = at 3 (omega arith) in let g = at 2 (omega arith) in let b = at 1 (omega arith) in
    let a = at 0 (omega arith) ∙ ap (λ m. get_or xs m 0) (omega arith) in
    four (chunk j 4 xs) (length-chunk j 4 xs room) (Each1-chunk (λ x. x < 256) j 4 xs h) ∙ (λ i. record { r = r i; g = g i; b = b i; a = a i })
