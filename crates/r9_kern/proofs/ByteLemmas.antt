-- Raw pixels of 32 bits in packed bytes.
use Rattle.std.proofs.Common.{◌≡◌, ℕ, zero, suc, ◌+◌, ◌-◌, ◌*◌, ◌/◌, ◌%◌, ◌^◌, ◌<◌, ◌≤◌, List, [], ◌∷◌, length, get_or, w32, refl, ap, sym, ◌∙◌, arith, inl, inr}
use Rattle.std.specs.Int.{to_le_bytes}
use Rattle.std.proofs.lemmas.Bool.{cases_lt}
use Rattle.std.proofs.lemmas.Simd.{length-chunk, get_or-chunk, get_or-put_chunk_below, get_or-put_chunk_at, get_or-put_chunk_above}
use Rattle.std.proofs.Math.Nat.{mul_comm}
use lib.Lanes.{chunk, put_chunk, number_l}
use Rattle.model_pixel.specs.Rows.{little, raw_at}

raw_at_four : (bytes : List ℕ) (n : ℕ) → raw_at 32 bytes n ≡ little 4 bytes (n * 4)
unfolding raw_at
raw_at_four bytes n = refl

pub raw_32 : (bytes : List ℕ) (n : ℕ) → raw_at 32 bytes n ≡ get_or bytes (4 * n) 0 + 256 * (get_or bytes (4 * n + 1) 0 + 256 * (get_or bytes (4 * n + 2) 0 + 256 * get_or bytes (4 * n + 3) 0))
raw_32 bytes n =
    let two : 4 * n + 1 + 1 ≡ 4 * n + 2 = omega arith in
    let three : 4 * n + 1 + 1 + 1 ≡ 4 * n + 3 = omega arith in
    raw_at_four bytes n ∙ ap (little 4 bytes) (mul_comm n 4) ∙ omega (arith, ap (λ i. get_or bytes i 0) two, ap (λ i. get_or bytes i 0) three)

at_first : (bytes : List ℕ) (n : ℕ) → get_or bytes (4 * n) 0 ≡ get_or bytes (4 * n + 0) 0
at_first bytes n = ap (λ i. get_or bytes i 0) (omega arith)

-- a pixel whose bytes are those of another
pub same_raw : (xs ys : List ℕ) (n m : ℕ) → ((k : ℕ) → k < 4 → get_or xs (4 * n + k) 0 ≡ get_or ys (4 * m + k) 0) → raw_at 32 xs n ≡ raw_at 32 ys m
same_raw xs ys n m same =
    let a = at_first xs n ∙ same 0 (omega arith) ∙ sym (at_first ys m) in
    let b = same 1 (omega arith) in
    let c = same 2 (omega arith) in
    let d = same 3 (omega arith) in
    raw_32 xs n ∙ (λ i. a i + 256 * (b i + 256 * (c i + 256 * d i))) ∙ sym (raw_32 ys m)

-- a pixel whose bytes are those of a number
pub digits_raw : (xs : List ℕ) (n v : ℕ) → v < 4294967296 → ((k : ℕ) → k < 4 → get_or xs (4 * n + k) 0 ≡ v / 256 ^ k % 256) → raw_at 32 xs n ≡ v
digits_raw xs n v fits digit =
    let a : get_or xs (4 * n) 0 ≡ v % 256 = at_first xs n ∙ digit 0 (omega arith) ∙ omega arith in
    let b : get_or xs (4 * n + 1) 0 ≡ v / 256 % 256 = digit 1 (omega arith) in
    let c : get_or xs (4 * n + 2) 0 ≡ v / 65536 % 256 = digit 2 (omega arith) in
    let d : get_or xs (4 * n + 3) 0 ≡ v / 16777216 % 256 = digit 3 (omega arith) in
    raw_32 xs n ∙ (λ i. a i + 256 * (b i + 256 * (c i + 256 * d i))) ∙ omega (arith, fits)

spelled : (ys : List ℕ) → length ys ≡ 4 → number_l 256 ys ≡ get_or ys 0 0 + 256 * (get_or ys 1 0 + 256 * (get_or ys 2 0 + 256 * get_or ys 3 0))
spelled [] e = absurd (omega arith)
spelled (a ∷ []) e = absurd (omega arith)
spelled (a ∷ b ∷ []) e = absurd (omega arith)
spelled (a ∷ b ∷ c ∷ []) e = absurd (omega arith)
spelled (a ∷ b ∷ c ∷ d ∷ []) e = omega arith
spelled (a ∷ b ∷ c ∷ d ∷ e' ∷ ys) e = absurd (omega arith)

-- the number that four bytes spell
pub word_raw : (xs : List ℕ) (i : ℕ) → 4 * i + 4 ≤ length xs → number_l 256 (chunk (4 * i) 4 xs) ≡ raw_at 32 xs i
word_raw xs i room =
    let at = λ (k : ℕ) (small : k < 4). get_or-chunk (4 * i) 4 xs k 0 small in
    let a = at 0 (omega arith) ∙ sym (at_first xs i) in
    let b = at 1 (omega arith) in
    let c = at 2 (omega arith) in
    let d = at 3 (omega arith) in
    spelled (chunk (4 * i) 4 xs) (length-chunk (4 * i) 4 xs room)
    ∙ (λ j. a j + 256 * (b j + 256 * (c j + 256 * d j)))
    ∙ sym (raw_32 xs i)

pub le_digit : (raw k : ℕ) → k < 4 → get_or (to_le_bytes w32 raw) k 0 ≡ raw / 256 ^ k % 256
le_digit raw zero h = omega arith
le_digit raw (suc zero) h = omega arith
le_digit raw (suc (suc zero)) h = omega arith
le_digit raw (suc (suc (suc zero))) h = omega arith
le_digit raw (suc (suc (suc (suc k)))) h = absurd (omega arith)

-- a pixel of a block that is read from bytes which are yet as they were
pub read_raw : (d old : List ℕ) (at j : ℕ) → at % 4 ≡ 0 → j < 4 → ((k : ℕ) → at ≤ k → get_or d k 0 ≡ get_or old k 0) → raw_at 32 (chunk at 16 d) j ≡ raw_at 32 old (at / 4 + j)
read_raw d old at j whole less left =
    same_raw (chunk at 16 d) old j (at / 4 + j)
    (λ k small. get_or-chunk at 16 d (4 * j + k) 0 (omega arith) ∙ left (at + (4 * j + k)) (omega arith) ∙ ap (λ i. get_or old i 0) (omega arith))

-- bytes of pixels that are put from a pixel on
pub record Puts (d new bs : List ℕ) (at : ℕ) : Type 0 where
  pub before : (n : ℕ) → 4 * n < at → raw_at 32 new n ≡ raw_at 32 d n
  pub here : (j : ℕ) → 4 * j < length bs → raw_at 32 new (at / 4 + j) ≡ raw_at 32 bs j
  pub after : (k : ℕ) → at + length bs ≤ k → get_or new k 0 ≡ get_or d k 0

pub puts : (d bs : List ℕ) (at : ℕ) → at % 4 ≡ 0 → length bs % 4 ≡ 0 → at + length bs ≤ length d → Puts d (put_chunk at d bs) bs at
puts d bs at whole long room = record {
  before = λ n early. same_raw (put_chunk at d bs) d n n (λ k small. get_or-put_chunk_below at d bs (4 * n + k) 0 (omega arith));
  here = λ j less.
      same_raw (put_chunk at d bs) bs (at / 4 + j) j
      (λ k small. ap (λ i. get_or (put_chunk at d bs) i 0) (omega arith) ∙ get_or-put_chunk_at at d bs (4 * j + k) 0 (omega arith) room);
  after = λ k late. get_or-put_chunk_above at d bs k 0 late;
}

-- pixels before a byte are made of those that were there, and the bytes from it on are as they were
pub record Done (f : ℕ → ℕ → ℕ) (s old new : List ℕ) (at : ℕ) : Type 0 where
  pub made : (n : ℕ) → 4 * n < at → raw_at 32 new n ≡ f (raw_at 32 s n) (raw_at 32 old n)
  pub left : (k : ℕ) → at ≤ k → get_or new k 0 ≡ get_or old k 0

pub done_more : (f : ℕ → ℕ → ℕ) (s old d new bs : List ℕ) (at next : ℕ) → at % 4 ≡ 0 → next ≡ at + length bs → Puts d new bs at → ((j : ℕ) → 4 * j < length bs → raw_at 32 bs j ≡ f (raw_at 32 s (at / 4 + j)) (raw_at 32 old (at / 4 + j))) → Done f s old d at → Done f s old new next
done_more f s old d new bs at next whole is put here done = record {
  made = λ n less.
      elim (cases_lt (4 * n) at) [
        | inl early ↦ put.before n early ∙ done.made n early
        | inr late ↦
            let j = n - at / 4 in
            let there : at / 4 + j ≡ n = omega arith in
            ap (raw_at 32 new) (sym there) ∙ put.here j (omega arith) ∙ here j (omega arith) ∙ ap (λ n. f (raw_at 32 s n) (raw_at 32 old n)) there
      ];
  left = λ k late. put.after k (omega arith) ∙ done.left k (omega arith);
}
