-- The numbers that bytes spell, one by one, and from no more bytes than they take.
use Rattle.std.proofs.Common.{◌≡◌, ℕ, zero, suc, ◌+◌, ◌*◌, ◌<◌, List, length, get_or, take, drop, Bool, true, false, cond, Option, Some, None, refl, ap, ◌∙◌, arith}
use Rattle.std.specs.Prelude.{nat_lt}
use Rattle.std.specs.Option.{option_map}
use Rattle.std.specs.Int.{Width, byte_len, from_le_bytes}
use Rattle.std.proofs.lemmas.List.{take-take, drop-take, drop-drop}
use Rattle.model_draw_parts.specs.dmsg.Reading.{numbers, numbers_of, some_bytes}

pub number_at_place : (w : Width) (n k : ℕ) (bytes : List ℕ) → k < n
    → get_or (numbers_of w n bytes) k 0 ≡ from_le_bytes w (take (byte_len w) (drop (byte_len w * k) bytes))
unfolding numbers_of
number_at_place w zero k bytes h = absurd (omega arith)
number_at_place w (suc n) zero bytes h =
    let none : 0 ≡ byte_len w * 0 = omega arith in
    ap (λ i. from_le_bytes w (take (byte_len w) (drop i bytes))) none
number_at_place w (suc n) (suc k) bytes h =
    let behind : byte_len w + byte_len w * k ≡ byte_len w * suc k = omega arith in
    number_at_place w n k (drop (byte_len w) bytes) (omega arith)
    ∙ ap (λ ys. from_le_bytes w (take (byte_len w) ys)) (drop-drop (byte_len w * k) (byte_len w) bytes ∙ ap (λ i. drop i bytes) behind)

numbers_of-take : (w : Width) (n : ℕ) (bytes : List ℕ) → numbers_of w n (take (n * byte_len w) bytes) ≡ numbers_of w n bytes
unfolding numbers_of
numbers_of-take w zero bytes = refl
numbers_of-take w (suc n) bytes =
    let size : suc n * byte_len w ≡ byte_len w + n * byte_len w = omega arith in
    rw (size, take-take (byte_len w) (byte_len w + n * byte_len w) bytes (omega arith), drop-take (byte_len w) (n * byte_len w) bytes, numbers_of-take w n (drop (byte_len w) bytes)) refl

same_items : (x y : List ℕ × List ℕ) → Some x ≡ Some y → x.0 ≡ y.0
same_items x y e = let same : x ≡ y = cc in ap (λ (z : List ℕ × List ℕ). z.0) same

-- so many numbers, from the bytes that they take alone
pub numbers_there : (w : Width) (n many : ℕ) (bytes items rest : List ℕ) → many ≡ n → Some (items, rest) ≡ some_bytes (n * byte_len w) bytes
    → Some (numbers_of w many items) ≡ option_map (λ (x : List ℕ × List ℕ). x.0) (numbers w n bytes)
unfolding numbers some_bytes
numbers_there w n many bytes items rest is e = tested (nat_lt (length bytes) (n * byte_len w)) e
  where
    tested : (b : Bool) → ◌≡◌ {A = Option (List ℕ × List ℕ)} (Some (items, rest)) (cond b None (Some (take (n * byte_len w) bytes, drop (n * byte_len w) bytes)))
        → Some (numbers_of w many items) ≡ option_map (λ (x : List ℕ × List ℕ). x.0) (cond b None (Some (numbers_of w n bytes, drop (n * byte_len w) bytes)))
    tested true e = absurd cc
    tested false e = rw (is, same_items (items, rest) (take (n * byte_len w) bytes, drop (n * byte_len w) bytes) e, numbers_of-take w n bytes) refl

-- fewer bytes than that
pub no_numbers : (w : Width) (n : ℕ) (bytes : List ℕ) → None ≡ some_bytes (n * byte_len w) bytes → None ≡ option_map (λ (x : List ℕ × List ℕ). x.0) (numbers w n bytes)
unfolding numbers some_bytes
no_numbers w n bytes e = tested (nat_lt (length bytes) (n * byte_len w)) e
  where
    tested : (b : Bool) → ◌≡◌ {A = Option (List ℕ × List ℕ)} None (cond b None (Some (take (n * byte_len w) bytes, drop (n * byte_len w) bytes)))
        → ◌≡◌ {A = Option (List ℕ)} None (option_map (λ (x : List ℕ × List ℕ). x.0) (cond b None (Some (numbers_of w n bytes, drop (n * byte_len w) bytes))))
    tested true e = refl
    tested false e = absurd cc
