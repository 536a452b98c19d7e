-- A block of pixels, some of which are written.
use Rattle.std.proofs.Common.{◌≡◌, ◌∙◌, ℕ, ◌<◌, ◌≤◌, List, length, get_or, take, drop, replicate, arith}
use Rattle.std.proofs.lemmas.List.{get_or-take, get_or_append_left, length-append, length-replicate, length-take-le}
use borrow.Rule.Slice.PartMut.{put_mid}

abbrev pub block : List ℕ
block = replicate 256 0

-- so many of a block
pub short : (n : ℕ) → n ≤ 256 → length (take n block) ≡ n
short n few = length-take-le n block (omega (arith, length-replicate {A = ℕ} 256 0))

-- what was written to the first so many of a block
pub written : (n : ℕ) (raws : List ℕ) (k : ℕ) → length raws ≡ n → k < n → get_or (take n (put_mid 0 n block raws)) k 0 ≡ get_or raws k 0
written n raws k long below =
    get_or-take n (put_mid 0 n block raws) k 0 below
    ∙ get_or_append_left raws (drop n block) 0 k (omega arith)

pub length-written : (n : ℕ) (raws : List ℕ) → length raws ≡ n → length (take n (put_mid 0 n block raws)) ≡ n
length-written n raws long = length-take-le n (put_mid 0 n block raws) (omega (arith, length-append raws (drop n block), long))
