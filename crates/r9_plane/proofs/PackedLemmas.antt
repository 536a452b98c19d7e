-- Raw pixels in packed bytes.
use Rattle.std.proofs.Common.{◌≡◌, ℕ, zero, suc, ◌+◌, ◌-◌, ◌*◌, ◌/◌, ◌%◌, ◌^◌, ◌<◌, ◌≤◌, ◌≢◌, ◌⊎◌, inl, inr, ⊎_elim, true, refl, ap, ◌∙◌, sym, subst, arith, List, drop, get_or, set, length, get_or-set_same, get_or-set_other}
use Rattle.std.specs.Prelude.{nat_lt, slice_index}
use Rattle.std.specs.Int.{from_le_bytes, to_le_bytes, w16, w32}
use Rattle.std.specs.Simd.{first_chunks}
use Rattle.std.proofs.lemmas.List.{get_or-take, get_or-drop}
use Rattle.std.proofs.lemmas.Bool.{cond-true, cond-false, lt-ltb, le-ltb, cases_lt, cases_eq}
use Rattle.std.proofs.lemmas.Bool.Decides.{nat_tests}
use Rattle.std.proofs.lemmas.Nat.{shr-shr, shr_below, shr_high, mod_low, mod-pow-add, field_of, pow-add, pow_pos, mul-add-lt, shl_whole, one_shl, mod_below}
use Rattle.std.proofs.Math.Pow.{mod-mod-pow}
use Rattle.std.proofs.Math.Nat.{mul_comm, mod-eq_of_lt, mul-le-mul_left}
use Rattle.model_pixel.specs.Channels.{is_depth}
use Rattle.model_pixel.specs.Rows.{byte_at, joined, raw_at, little}

small_cases : (depth : ℕ) → is_depth depth ≡ true → depth < 8 → (depth ≡ 1) ⊎ ((depth ≡ 2) ⊎ (depth ≡ 4))
small_cases depth is small = grind (arith, nat_tests)

one_times : (n : ℕ) → 1 * n ≡ n
one_times n = omega arith

mod_small : (a b : ℕ) → a < b → a % b ≡ a
mod_small a b h = mod-eq_of_lt h

pub raw_at_small : (depth : ℕ) (bytes : List ℕ) (n : ℕ) → depth < 8 → raw_at depth bytes n ≡ slice_index bytes (n / (8 / depth)) / 2 ^ (depth * (8 / depth - 1 - n % (8 / depth))) % 2 ^ depth
unfolding raw_at
raw_at_small depth bytes n small = cond-true (nat_lt depth 8) _ _ (lt-ltb depth 8 small)

pub raw_at_whole : (depth k : ℕ) (bytes : List ℕ) (n : ℕ) → 0 < k → depth ≡ 8 * k → raw_at depth bytes n ≡ little k bytes (k * n)
unfolding raw_at
raw_at_whole depth k bytes n some is =
    let size : depth / 8 ≡ k = omega arith in
    cond-false (nat_lt depth 8) _ _ (le-ltb depth 8 (omega arith))
    ∙ (λ i. little (size i) bytes (n * size i)) ∙ ap (little k bytes) (mul_comm n k)

pub size_of : (depth : ℕ) → is_depth depth ≡ true → 8 ≤ depth → depth ≡ 8 * (depth / 8)
size_of depth is whole = grind (arith, nat_tests)

pub depth_most : (depth : ℕ) → is_depth depth ≡ true → depth ≤ 32
depth_most depth is = grind (arith, nat_tests)

-- bytes written from a number, the lowest first, spell it
pub little-written : (k : ℕ) (bytes : List ℕ) (at raw : ℕ) → ((j : ℕ) → j < k → get_or bytes (at + j) 0 ≡ raw / 2 ^ (8 * j) % 256) → little k bytes at ≡ raw % 2 ^ (8 * k)
little-written zero bytes at raw each = omega arith
little-written (suc k) bytes at raw each =
    let first : get_or bytes at 0 ≡ raw % 256 = ap (λ i. get_or bytes i 0) (omega arith) ∙ each 0 (omega arith) ∙ omega arith in
    let others = little-written k bytes (at + 1) (raw / 256)
    (λ j h. ap (λ i. get_or bytes i 0) (omega arith) ∙ each (suc j) (omega arith) ∙ ap (λ v. v % 256) (sym (shr-shr raw 8 (8 * j) ∙ ap (λ e. raw / 2 ^ e) (omega arith)))) in
    let more : 8 * k + 8 ≡ 8 * suc k = omega arith in
    (omega (arith, first, others, mod-pow-add raw (8 * k) 8)) ∙ ap (λ e. raw % 2 ^ e) more

pub little-same : (k : ℕ) (bytes others : List ℕ) (at : ℕ) → ((j : ℕ) → at ≤ j → j < at + k → get_or bytes j 0 ≡ get_or others j 0) → little k bytes at ≡ little k others at
little-same zero bytes others at same = refl
little-same (suc k) bytes others at same =
    let first = same at (omega arith) (omega arith) in
    let rest = little-same k bytes others (at + 1) (λ j low high. same j (omega arith) (omega arith)) in
    omega (arith, first, rest)

-- a byte with other bits from shift on
pub record Bits (byte shift depth raw : ℕ) : Type 0 where
  pub high : byte / 2 ^ (shift + depth) * 2 ^ depth % 2 ^ 32 ≡ byte / 2 ^ (shift + depth) * 2 ^ depth
  pub joined : (byte / 2 ^ (shift + depth) * 2 ^ depth + raw) * 2 ^ shift % 2 ^ 32 ≡ (byte / 2 ^ (shift + depth) * 2 ^ depth + raw) * 2 ^ shift
  pub one : 1 * 2 ^ shift % 2 ^ 32 ≡ 2 ^ shift
  pub below : (byte / 2 ^ (shift + depth) * 2 ^ depth + raw) * 2 ^ shift + byte % 2 ^ shift < 256

pub bits_of : (byte shift depth raw : ℕ) → byte < 256 → shift + depth ≤ 8 → raw < 2 ^ depth → Bits byte shift depth raw
bits_of byte shift depth raw fits within small =
    let rest = 8 - (shift + depth) in
    let whole : rest + (shift + depth) ≡ 8 = omega arith in
    let byte_fits : byte < 2 ^ (rest + (shift + depth)) = rw whole fits in
    let top = shr_below byte rest (shift + depth) byte_fits in
    let upper : byte / 2 ^ (shift + depth) * 2 ^ depth + raw < 2 ^ (depth + rest) =
    rw (pow-add 2 depth rest) (mul-add-lt (byte / 2 ^ (shift + depth)) (2 ^ depth) raw (2 ^ rest) top small) in
    let sum : depth + rest + shift ≡ 8 = omega arith in
    let eight : 2 ^ (depth + rest) * 2 ^ shift ≡ 256 = sym (pow-add 2 (depth + rest) shift) ∙ ap (λ e. 2 ^ e) sum in
    record {
      high = shl_whole (byte / 2 ^ (shift + depth)) rest depth 32 top (omega arith);
      joined = shl_whole (byte / 2 ^ (shift + depth) * 2 ^ depth + raw) (depth + rest) shift 32 upper (omega arith);
      one = one_shl shift 32 (omega arith);
      below = omega (arith, eight, mul-add-lt (byte / 2 ^ (shift + depth) * 2 ^ depth + raw) (2 ^ shift) (byte % 2 ^ shift) (2 ^ (depth + rest)) upper (mod_below byte (2 ^ shift) (pow_pos shift)));
    }

-- the bits written, and the others
pub bits_written : (byte shift depth raw : ℕ) → raw < 2 ^ depth → ((byte / 2 ^ (shift + depth) * 2 ^ depth + raw) * 2 ^ shift + byte % 2 ^ shift) / 2 ^ shift % 2 ^ depth ≡ raw
bits_written byte shift depth raw small =
    ap (λ v. v % 2 ^ depth) (shr_high (byte / 2 ^ (shift + depth) * 2 ^ depth + raw) shift (byte % 2 ^ shift) (mod_below byte (2 ^ shift) (pow_pos shift)))
    ∙ mod_low (byte / 2 ^ (shift + depth)) depth raw small

pub bits_below_kept : (byte shift depth raw other : ℕ) → other + depth ≤ shift → ((byte / 2 ^ (shift + depth) * 2 ^ depth + raw) * 2 ^ shift + byte % 2 ^ shift) / 2 ^ other % 2 ^ depth ≡ byte / 2 ^ other % 2 ^ depth
bits_below_kept byte shift depth raw other within =
    let new = (byte / 2 ^ (shift + depth) * 2 ^ depth + raw) * 2 ^ shift + byte % 2 ^ shift in
    let gap = shift - (depth + other) in
    let sum : gap + (depth + other) ≡ shift = omega arith in
    let low : new % 2 ^ shift ≡ byte % 2 ^ shift = mod_low (byte / 2 ^ (shift + depth) * 2 ^ depth + raw) shift (byte % 2 ^ shift) (mod_below byte (2 ^ shift) (pow_pos shift)) in
    let part = λ (v : ℕ). sym (mod-mod-pow v gap (depth + other)) ∙ ap (λ e. v % 2 ^ e % 2 ^ (depth + other)) sum in
    let same : new % 2 ^ (depth + other) ≡ byte % 2 ^ (depth + other) = part new ∙ ap (λ v. v % 2 ^ (depth + other)) low ∙ sym (part byte) in
    sym (field_of new depth other) ∙ ap (λ v. v / 2 ^ other) same ∙ field_of byte depth other

pub bits_above_kept : (byte shift depth raw other : ℕ) → raw < 2 ^ depth → shift + depth ≤ other → ((byte / 2 ^ (shift + depth) * 2 ^ depth + raw) * 2 ^ shift + byte % 2 ^ shift) / 2 ^ other % 2 ^ depth ≡ byte / 2 ^ other % 2 ^ depth
bits_above_kept byte shift depth raw other small within =
    let new = (byte / 2 ^ (shift + depth) * 2 ^ depth + raw) * 2 ^ shift + byte % 2 ^ shift in
    let gap = other - (shift + depth) in
    let sum : shift + depth + gap ≡ other = omega arith in
    let top : new / 2 ^ (shift + depth) ≡ byte / 2 ^ (shift + depth) =
    sym (shr-shr new shift depth)
    ∙ ap (λ v. v / 2 ^ depth) (shr_high (byte / 2 ^ (shift + depth) * 2 ^ depth + raw) shift (byte % 2 ^ shift) (mod_below byte (2 ^ shift) (pow_pos shift)))
    ∙ shr_high (byte / 2 ^ (shift + depth)) depth raw small in
    let cut = λ (v : ℕ). sym (shr-shr v (shift + depth) gap ∙ ap (λ e. v / 2 ^ e) sum) in
    ap (λ v. v % 2 ^ depth) (cut new ∙ ap (λ v. v / 2 ^ gap) top ∙ sym (cut byte))

-- a statement on small depths, from its cases
pub by_depth : (P : ℕ → Type 0) (depth : ℕ) → is_depth depth ≡ true → depth < 8 → P 1 → P 2 → P 4 → P depth
by_depth P depth is small one two four =
    let cases : (depth ≡ 1) ⊎ ((depth ≡ 2) ⊎ (depth ≡ 4)) = small_cases depth is small in
    ⊎_elim (λ (h : depth ≡ 1). subst P (sym h) one)
    (⊎_elim (λ (h : depth ≡ 2). subst P (sym h) two) (λ (h : depth ≡ 4). subst P (sym h) four)) cases

whole_cases : (depth : ℕ) → is_depth depth ≡ true → 8 ≤ depth → (depth ≡ 8) ⊎ ((depth ≡ 16) ⊎ ((depth ≡ 24) ⊎ (depth ≡ 32)))
whole_cases depth is whole = grind (arith, nat_tests)

pub by_whole : (P : ℕ → Type 0) (depth : ℕ) → is_depth depth ≡ true → 8 ≤ depth → P 8 → P 16 → P 24 → P 32 → P depth
by_whole P depth is whole one two three four =
    ⊎_elim (λ (h : depth ≡ 8). subst P (sym h) one)
    (⊎_elim (λ (h : depth ≡ 16). subst P (sym h) two)
    (⊎_elim (λ (h : depth ≡ 24). subst P (sym h) three) (λ (h : depth ≡ 32). subst P (sym h) four)))
    (whole_cases depth is whole)

-- the place of a small pixel above the lowest bit of its byte
abbrev pub shift : ℕ → ℕ → ℕ
shift depth n = depth * (8 / depth - 1 - n % (8 / depth))

-- two pixels of one byte stand apart
pub record Apart (depth m n : ℕ) : Type 0 where
  pub below : m < n → m / (8 / depth) ≡ n / (8 / depth) → shift depth n + depth ≤ shift depth m

apart_at : (depth m n : ℕ) → is_depth depth ≡ true → depth < 8 → Apart depth m n
apart_at depth m n is small =
    by_depth (λ d. Apart d m n) depth is small
    (record { below = λ order same. omega arith }) (record { below = λ order same. omega arith }) (record { below = λ order same. omega arith })

pub apart : (depth m n : ℕ) → is_depth depth ≡ true → depth < 8 → m ≢ n → m / (8 / depth) ≡ n / (8 / depth) → (shift depth m + depth ≤ shift depth n) ⊎ (shift depth n + depth ≤ shift depth m)
apart depth m n is small other same =
    ⊎_elim (λ (h : m < n). inr ((apart_at depth m n is small).below h same))
    (λ (h : n ≤ m). inl ((apart_at depth n m is small).below (omega arith) (sym same)))
    (cases_lt m n)

pub record Within (depth n size : ℕ) : Type 0 where
  pub byte : n / (8 / depth) < size

pub within_at : (depth n size : ℕ) → is_depth depth ≡ true → depth < 8 → (n + 1) * depth ≤ 8 * size → Within depth n size
within_at depth n size is small fits =
    let all : (n + 1) * depth ≤ 8 * size → Within depth n size =
    by_depth (λ d. (n + 1) * d ≤ 8 * size → Within d n size) depth is small
    (λ h. record { byte = omega arith }) (λ h. record { byte = omega arith }) (λ h. record { byte = omega arith }) in
    all fits

-- a pixel in a byte that was written
pub small_written : (depth : ℕ) (bytes : List ℕ) (n raw byte : ℕ) → is_depth depth ≡ true → depth < 8 → (n + 1) * depth ≤ 8 * length bytes → raw < 2 ^ depth → byte ≡ (get_or bytes (n / (8 / depth)) 0 / 2 ^ (shift depth n + depth) * 2 ^ depth + raw) * 2 ^ shift depth n + get_or bytes (n / (8 / depth)) 0 % 2 ^ shift depth n → raw_at depth (set bytes (n / (8 / depth)) byte) n ≡ raw
small_written depth bytes n raw byte is small fits low byte_is =
    let at = n / (8 / depth) in
    let within : at < length bytes = (within_at depth n (length bytes) is small fits).byte in
    raw_at_small depth (set bytes at byte) n small
    ∙ ap (λ v. v / 2 ^ shift depth n % 2 ^ depth) (get_or-set_same bytes at byte 0 within ∙ byte_is)
    ∙ bits_written (get_or bytes at 0) (shift depth n) depth raw low

pub small_others : (depth : ℕ) (bytes : List ℕ) (n raw byte m : ℕ) → is_depth depth ≡ true → depth < 8 → (n + 1) * depth ≤ 8 * length bytes → raw < 2 ^ depth → byte ≡ (get_or bytes (n / (8 / depth)) 0 / 2 ^ (shift depth n + depth) * 2 ^ depth + raw) * 2 ^ shift depth n + get_or bytes (n / (8 / depth)) 0 % 2 ^ shift depth n → m ≢ n → raw_at depth (set bytes (n / (8 / depth)) byte) m ≡ raw_at depth bytes m
small_others depth bytes n raw byte m is small fits low byte_is other =
    let at = n / (8 / depth) in
    let old = get_or bytes at 0 in
    let within : at < length bytes = (within_at depth n (length bytes) is small fits).byte in
    let read = λ (v : ℕ). v / 2 ^ shift depth m % 2 ^ depth in
    raw_at_small depth (set bytes at byte) m small
    ∙ ⊎_elim
    (λ (same : m / (8 / depth) ≡ at).
    ap (λ k. read (get_or (set bytes at byte) k 0)) same
    ∙ ap read (get_or-set_same bytes at byte 0 within ∙ byte_is)
    ∙ ⊎_elim
    (λ (h : shift depth m + depth ≤ shift depth n). bits_below_kept old (shift depth n) depth raw (shift depth m) h)
    (λ (h : shift depth n + depth ≤ shift depth m). bits_above_kept old (shift depth n) depth raw (shift depth m) low h)
    (apart depth m n is small other same)
    ∙ ap (λ k. read (get_or bytes k 0)) (sym same))
    (λ (h : m / (8 / depth) ≢ at). ap read (get_or-set_other bytes at (m / (8 / depth)) byte 0 h))
    (cases_eq (m / (8 / depth)) at)
    ∙ sym (raw_at_small depth bytes m small)

-- whole pixels, byte by byte
pub raw_8 : (depth : ℕ) (bytes : List ℕ) (n : ℕ) → depth ≡ 8 → raw_at depth bytes n ≡ get_or bytes n 0
raw_8 depth bytes n is = omega (arith, raw_at_whole depth 1 bytes n (omega arith) is, ap (λ i. get_or bytes i 0) (one_times n))

pub raw_24 : (depth : ℕ) (bytes : List ℕ) (n : ℕ) → depth ≡ 24 → raw_at depth bytes n ≡ get_or bytes (3 * n) 0 + 256 * (get_or bytes (3 * n + 1) 0 + 256 * get_or bytes (3 * n + 2) 0)
raw_24 depth bytes n is =
    let two : 3 * n + 1 + 1 ≡ 3 * n + 2 = omega arith in
    omega (arith, raw_at_whole depth 3 bytes n (omega arith) is, ap (λ i. get_or bytes i 0) two)

pub raw_32 : (depth : ℕ) (bytes : List ℕ) (n : ℕ) → depth ≡ 32 → raw_at depth bytes n ≡ get_or bytes (4 * n) 0 + 256 * (get_or bytes (4 * n + 1) 0 + 256 * (get_or bytes (4 * n + 2) 0 + 256 * get_or bytes (4 * n + 3) 0))
raw_32 depth bytes n is =
    let two : 4 * n + 1 + 1 ≡ 4 * n + 2 = omega arith in
    let three : 4 * n + 1 + 1 + 1 ≡ 4 * n + 3 = omega arith in
    omega (arith, raw_at_whole depth 4 bytes n (omega arith) is, ap (λ i. get_or bytes i 0) two, ap (λ i. get_or bytes i 0) three)

-- a byte of a chunk
chunk_at : (size count : ℕ) (bytes : List ℕ) (n j : ℕ) (none : List ℕ) → n < count → j < size → get_or (get_or (first_chunks size count bytes) n none) j 0 ≡ get_or bytes (size * n + j) 0
chunk_at size zero bytes n j none h l = absurd (omega arith)
chunk_at size (suc count) bytes zero j none h l =
    let at : j ≡ size * 0 + j = omega arith in
    get_or-take size bytes j 0 l ∙ ap (λ i. get_or bytes i 0) at
chunk_at size (suc count) bytes (suc n) j none h l =
    let at : size + (size * n + j) ≡ size * suc n + j = omega arith in
    chunk_at size count (drop size bytes) n j none (omega arith) l
    ∙ get_or-drop size bytes (size * n + j) 0 ∙ ap (λ i. get_or bytes i 0) at

in_chunk : (size count : ℕ) (bytes : List ℕ) (cells : List (List ℕ)) (n j : ℕ) (none : List ℕ) → cells ≡ first_chunks size count bytes → n < count → j < size → get_or (get_or cells n none) j 0 ≡ get_or bytes (size * n + j) 0
in_chunk size count bytes cells n j none is h l =
    ap (λ chunks. get_or (get_or chunks n none) j 0) is ∙ chunk_at size count bytes n j none h l

-- whole pixels that are read as numbers of so many bytes
pub raw_16 : (depth : ℕ) (bytes : List ℕ) (n value : ℕ) (cells : List (List ℕ)) (none : List ℕ) → depth ≡ 16 → (n + 1) * depth ≤ 8 * length bytes → cells ≡ first_chunks 2 (length bytes / 2) bytes → value ≡ from_le_bytes w16 (get_or cells n none) → value ≡ raw_at depth bytes n
raw_16 depth bytes n value cells none is fits cells_are value_is =
    let count = length bytes / 2 in
    let bits : (n + 1) * depth ≡ (n + 1) * 16 = ap (λ d. (n + 1) * d) is in
    let within : n < count = omega (arith, bits, fits) in
    let begin : 2 * n + 0 ≡ 2 * n = omega arith in
    let low = in_chunk 2 count bytes cells n 0 none cells_are within (omega arith) ∙ ap (λ i. get_or bytes i 0) begin in
    let high = in_chunk 2 count bytes cells n 1 none cells_are within (omega arith) in
    omega (arith, value_is, low, high, raw_at_whole depth 2 bytes n (omega arith) is)

pub raw_four : (depth : ℕ) (bytes : List ℕ) (n value : ℕ) (cells : List (List ℕ)) (none : List ℕ) → depth ≡ 32 → (n + 1) * depth ≤ 8 * length bytes → cells ≡ first_chunks 4 (length bytes / 4) bytes → value ≡ from_le_bytes w32 (get_or cells n none) → value ≡ raw_at depth bytes n
raw_four depth bytes n value cells none is fits cells_are value_is =
    let count = length bytes / 4 in
    let bits : (n + 1) * depth ≡ (n + 1) * 32 = ap (λ d. (n + 1) * d) is in
    let within : n < count = omega (arith, bits, fits) in
    let begin : 4 * n + 0 ≡ 4 * n = omega arith in
    let zeroth = in_chunk 4 count bytes cells n 0 none cells_are within (omega arith) ∙ ap (λ i. get_or bytes i 0) begin in
    let first = in_chunk 4 count bytes cells n 1 none cells_are within (omega arith) in
    let second = in_chunk 4 count bytes cells n 2 none cells_are within (omega arith) in
    let third = in_chunk 4 count bytes cells n 3 none cells_are within (omega arith) in
    omega (arith, value_is, zeroth, first, second, third, raw_32 depth bytes n is)

pub le_digit : (raw j : ℕ) → j < 4 → get_or (to_le_bytes w32 raw) j 0 ≡ raw / 2 ^ (8 * j) % 256
le_digit raw zero h = omega arith
le_digit raw (suc zero) h = omega arith
le_digit raw (suc (suc zero)) h = omega arith
le_digit raw (suc (suc (suc zero))) h = omega arith
le_digit raw (suc (suc (suc (suc j)))) h = absurd (omega arith)

-- a whole pixel that was written byte by byte
pub record Written (old new : List ℕ) (at size raw : ℕ) : Type 0 where
  pub before : (j : ℕ) → j < at → get_or new j 0 ≡ get_or old j 0
  pub after : (j : ℕ) → at + size ≤ j → get_or new j 0 ≡ get_or old j 0
  pub written : (j : ℕ) → j < size → get_or new (at + j) 0 ≡ raw / 2 ^ (8 * j) % 256

pub written_none : (old : List ℕ) (at raw : ℕ) → Written old old at 0 raw
written_none old at raw = record { before = λ j h. refl; after = λ j h. refl; written = λ j h. absurd (omega arith) }

pub written_more : (old mid : List ℕ) (at size raw byte : ℕ) → at + size < length mid → byte ≡ raw / 2 ^ (8 * size) % 256 → Written old mid at size raw → Written old (set mid (at + size) byte) at (size + 1) raw
written_more old mid at size raw byte within is w =
    let other = λ (j : ℕ) (h : j ≢ at + size). get_or-set_other mid (at + size) j byte 0 h in
    record {
      before = λ j h. other j (omega arith) ∙ w.before j h;
      after = λ j h. other j (omega arith) ∙ w.after j (omega arith);
      written = λ j h.
          ⊎_elim
          (λ (e : j ≡ size). ap (λ n. get_or (set mid (at + size) byte) (at + n) 0) e ∙ get_or-set_same mid (at + size) byte 0 within ∙ is ∙ ap (λ n. raw / 2 ^ (8 * n) % 256) (sym e))
          (λ (e : j ≢ size). other (at + j) (λ same. e (omega arith)) ∙ w.written j (omega arith))
          (cases_eq j size);
    }

pub whole_written : (depth : ℕ) (old new : List ℕ) (n raw : ℕ) → is_depth depth ≡ true → 8 ≤ depth → raw < 2 ^ depth → Written old new (n * (depth / 8)) (depth / 8) raw → raw_at depth new n ≡ raw
whole_written depth old new n raw is whole low w =
    let size = size_of depth is whole in
    let k = depth / 8 in
    raw_at_whole depth k new n (omega arith) size
    ∙ ap (little k new) (mul_comm k n)
    ∙ little-written k new (n * k) raw w.written
    ∙ mod_small raw (2 ^ (8 * k)) (subst (λ (e : ℕ). raw < 2 ^ e) size low)

pub whole_others : (depth : ℕ) (old new : List ℕ) (n raw m : ℕ) → is_depth depth ≡ true → 8 ≤ depth → m ≢ n → Written old new (n * (depth / 8)) (depth / 8) raw → raw_at depth new m ≡ raw_at depth old m
whole_others depth old new n raw m is whole other w =
    let size = size_of depth is whole in
    let k = depth / 8 in
    raw_at_whole depth k new m (omega arith) size
    ∙ little-same k new old (k * m)
    (λ j low high. ⊎_elim
    (λ (h : m < n). let h' : m + 1 ≤ n = omega arith in w.before j (omega (arith, mul-le-mul_left k h')))
    (λ (h : n ≤ m). let h' : n + 1 ≤ m = omega arith in w.after j (omega (arith, mul-le-mul_left k h')))
    (cases_lt m n))
    ∙ sym (raw_at_whole depth k old m (omega arith) size)

-- a byte of packed pixels
pub byte_small : (depth : ℕ) (pixel : ℕ → ℕ) (k : ℕ) → depth < 8 → byte_at depth pixel k ≡ joined depth pixel (k * (8 / depth)) (8 / depth)
unfolding byte_at
byte_small depth pixel k small = cond-true (nat_lt depth 8) _ _ (lt-ltb depth 8 small)

pub byte_whole : (depth : ℕ) (pixel : ℕ → ℕ) (k : ℕ) → 8 ≤ depth → byte_at depth pixel k ≡ pixel (k / (depth / 8)) / 2 ^ (8 * (k % (depth / 8))) % 256
unfolding byte_at
byte_whole depth pixel k whole = cond-false (nat_lt depth 8) _ _ (le-ltb depth 8 whole)
