-- A part of a list, and a list whose part was written.
use Rattle.std.proofs.Common.{◌≡◌, ◌∙◌, ℕ, ◌+◌, ◌-◌, ◌<◌, ◌≤◌, List, ◌++◌, length, get_or, take, drop, replicate, ap, arith, length-drop}
use Rattle.std.proofs.lemmas.List.{get_or-append_right, get_or-drop, get_or-take, get_or_append_left, length-append, length-replicate, length-take-le}
use Rattle.std.proofs.lemmas.Simd.{get_or-replicate}
use borrow.Rule.Slice.PartMut.{put_mid}

pub length-part : (xs : List ℕ) (a n : ℕ) → a + n ≤ length xs → length (take n (drop a xs)) ≡ n
length-part xs a n fits = length-take-le n (drop a xs) (omega (arith, length-drop a xs))

pub get_or-part : (xs : List ℕ) (a n k : ℕ) → k < n → get_or (take n (drop a xs)) k 0 ≡ get_or xs (a + k) 0
get_or-part xs a n k below = get_or-take n (drop a xs) k 0 below ∙ get_or-drop a xs k 0

-- after a write to k elements from a on
pub length-put_mid : (a k : ℕ) (xs ys : List ℕ) → a + k ≤ length xs → length ys ≡ k → length (put_mid a k xs ys) ≡ length xs
length-put_mid a k xs ys fits long =
    omega (arith, length-append (take a xs) (ys ++ drop k (drop a xs)), length-append ys (drop k (drop a xs)), length-drop k (drop a xs), length-drop a xs, length-take-le a xs (omega arith), long, fits)

pub put_mid_before : (a k : ℕ) (xs ys : List ℕ) (i : ℕ) → a ≤ length xs → i < a → get_or (put_mid a k xs ys) i 0 ≡ get_or xs i 0
put_mid_before a k xs ys i fits below =
    let front = length-take-le a xs fits in
    get_or_append_left (take a xs) (ys ++ drop k (drop a xs)) 0 i (omega (arith, front))
    ∙ get_or-take a xs i 0 below

pub put_mid_inside : (a k : ℕ) (xs ys : List ℕ) (j : ℕ) → a ≤ length xs → length ys ≡ k → j < k → get_or (put_mid a k xs ys) (a + j) 0 ≡ get_or ys j 0
put_mid_inside a k xs ys j fits long below =
    get_or-append_right (take a xs) (ys ++ drop k (drop a xs)) a (a + j) 0 (length-take-le a xs fits) (omega arith)
    ∙ ap (λ n. get_or (ys ++ drop k (drop a xs)) n 0) (omega arith)
    ∙ get_or_append_left ys (drop k (drop a xs)) 0 j (omega (arith, long))

pub put_mid_behind : (a k : ℕ) (xs ys : List ℕ) (i : ℕ) → a ≤ length xs → length ys ≡ k → a + k ≤ i → get_or (put_mid a k xs ys) i 0 ≡ get_or xs i 0
put_mid_behind a k xs ys i fits long above =
    get_or-append_right (take a xs) (ys ++ drop k (drop a xs)) a i 0 (length-take-le a xs fits) (omega arith)
    ∙ get_or-append_right ys (drop k (drop a xs)) k (i - a) 0 long (omega arith)
    ∙ get_or-drop k (drop a xs) (i - a - k) 0
    ∙ get_or-drop a xs (k + (i - a - k)) 0
    ∙ ap (λ n. get_or xs n 0) (omega arith)

abbrev pub block : List ℕ
block = replicate 64 0

-- what was written to the first so many of a block
pub block_written : (n : ℕ) (raws : List ℕ) (k : ℕ) → length raws ≡ n → k < n → get_or (take n (put_mid 0 n block raws)) k 0 ≡ get_or raws k 0
block_written n raws k long below =
    get_or-take n (put_mid 0 n block raws) k 0 below
    ∙ get_or_append_left raws (drop n block) 0 k (omega arith)

pub block_short : (n : ℕ) → n ≤ 64 → length (take n block) ≡ n
block_short n few = length-take-le n block (omega (arith, length-replicate {A = ℕ} 64 0))

-- what stands in the first so many of a repeated value
pub repeated : (n len i x : ℕ) → i < len → len ≤ n → get_or (take len (replicate n x)) i 0 ≡ x
repeated n len i x h k =
    get_or-take len (replicate n x) i 0 h ∙ get_or-replicate n i x 0 (omega arith)
