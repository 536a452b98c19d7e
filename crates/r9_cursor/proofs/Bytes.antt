-- Bytes of rows, whole pixels and pixels below 8 bits.
use Rattle.std.proofs.Common.{◌≡◌, ℕ, zero, suc, true, refl, ⊎_elim, List, [], ◌∷◌, drop, get_or, Some, None, ◌+◌, ◌-◌, ◌*◌, ◌/◌, ◌%◌, ◌^◌, ◌<◌, ◌≤◌, ap, ◌∙◌, sym, subst, arith, Option}
use Rattle.std.specs.Prelude.{nat_lt}
use Rattle.std.specs.Option.{unwrap_or, option_map_or}
use Rattle.std.proofs.lemmas.Nat.{pow-add, mul-le, mul-add-lt, pow_pos}
use Rattle.std.proofs.lemmas.Bool.{lt-ltb, le-ltb, cond-true, cond-false}
use Rattle.r9_geom.specs.declared.Point.{Point}
use Rattle.r9_geom.specs.declared.Rect.{Rect}
use Rattle.model_pixel.specs.Channels.{depth, is_depth}
use Rattle.model_pixel.specs.Rows.{byte_at, joined, raw_at, row_bytes}
use Rattle.model_client.specs.cursor.Rows.{over_byte, put_in}
use Rattle.r9_cursor.specs.Bytes.{byte_under, old_bits}
use Rattle.r9_plane.proofs.PackedLemmas.{by_depth, byte_small, byte_whole, raw_at_small}
use Rattle.r9_plane.proofs.RunLemmas.{byte_back}
use Rattle.std.proofs.lemmas.Nat.{div-mul-add, mod-mul-add}
use Rattle.std.proofs.lemmas.List.{get_or-drop}
use Rattle.std.proofs.lemmas.Bool.{cases_lt}
use Rattle.std.proofs.Math.Nat.{div-add-mod}

pub under_small : (depth : ℕ) (put : ℕ → Option ℕ) (k old : ℕ) → depth < 8 → byte_under depth put k old ≡ joined depth (λ n. unwrap_or (put n) (old_bits depth old n)) (k * (8 / depth)) (8 / depth)
unfolding byte_under
under_small depth put k old small = cond-true (nat_lt depth 8) _ _ (lt-ltb depth 8 small)

pub under_whole : (depth : ℕ) (put : ℕ → Option ℕ) (k old : ℕ) → 8 ≤ depth → byte_under depth put k old ≡ option_map_or (λ raw. raw / 2 ^ (8 * (k % (depth / 8))) % 256) (put (k / (depth / 8))) old
unfolding byte_under
under_whole depth put k old whole = cond-false (nat_lt depth 8) _ _ (le-ltb depth 8 whole)

-- the bits of one more pixel fit in the byte
pub room : (depth i : ℕ) → is_depth depth ≡ true → depth < 8 → i < 8 / depth → depth * i + depth ≤ 8
room depth i is small =
    by_depth (λ d. i < 8 / d → d * i + d ≤ 8) depth is small (λ h. omega (arith, h)) (λ h. omega (arith, h)) (λ h. omega (arith, h))

-- all of them
pub filled : (depth : ℕ) → is_depth depth ≡ true → depth < 8 → depth * (8 / depth) ≡ 8
filled depth is small = by_depth (λ d. d * (8 / d) ≡ 8) depth is small (omega arith) (omega arith) (omega arith)

pub range : (byte depth i raw : ℕ) → byte < 2 ^ (depth * i) → raw < 2 ^ depth → byte * 2 ^ depth + raw < 2 ^ (depth * (i + 1))
range byte depth i raw b r =
    let sum : depth * (i + 1) ≡ depth * i + depth = omega arith in
    let product : 2 ^ (depth * i + depth) ≡ 2 ^ (depth * i) * 2 ^ depth = pow-add 2 (depth * i) depth in
    let most = mul-add-lt byte (2 ^ depth) raw (2 ^ (depth * i)) b r in
    rw (sum, product) (omega (arith, most))

pub below : (byte depth i raw : ℕ) → is_depth depth ≡ true → depth < 8 → i < 8 / depth → byte < 2 ^ (depth * i) → raw < 2 ^ depth → byte * 2 ^ depth + raw < 256
below byte depth i raw is small within b r =
    let fits = room depth i is small within in
    let rest = 8 - (depth * i + depth) in
    let eight : depth * (i + 1) + rest ≡ 8 = omega (arith, fits) in
    let product : 2 ^ (depth * (i + 1) + rest) ≡ 2 ^ (depth * (i + 1)) * 2 ^ rest = pow-add 2 (depth * (i + 1)) rest in
    let whole : 2 ^ (depth * (i + 1)) * 2 ^ rest ≡ 256 = sym product ∙ ap (λ n. 2 ^ n) eight in
    let most = mul-le (2 ^ (depth * (i + 1))) 1 (2 ^ (depth * (i + 1))) (2 ^ rest) (omega arith) (pow_pos rest) in
    omega (arith, range byte depth i raw b r, most, whole)

-- one pixel more
pub joined_more : (depth : ℕ) (pixel : ℕ → ℕ) (n i byte raw result : ℕ) → byte ≡ joined depth pixel n i → raw ≡ pixel (n + i) → result ≡ byte * 2 ^ depth + raw → result ≡ joined depth pixel n (i + 1)
joined_more depth pixel n i byte raw result b r e =
    let next : i + 1 ≡ suc i = omega arith in
    e ∙ ap (λ v. v * 2 ^ depth + raw) b ∙ ap (λ v. joined depth pixel n i * 2 ^ depth + v) r ∙ sym (ap (joined depth pixel n) next)

-- ---- the byte that the pixels of the row with the cursor determine

-- two such bytes are one where their pixels are
joined_same : (depth : ℕ) (f g : ℕ → ℕ) (n m k : ℕ) → ((j : ℕ) → j < k → f (n + j) ≡ g (m + j)) → joined depth f n k ≡ joined depth g m k
joined_same depth f g n m zero same = refl
joined_same depth f g n m (suc k) same = λ i. joined_same depth f g n m k (λ j h. same j (omega (arith, h))) i * 2 ^ depth + same k (omega arith) i

abbrev pixel_over : ℕ → (ℕ → Option ℕ) → List ℕ → ℕ → ℕ
pixel_over depth put line n = unwrap_or (put n) (raw_at depth line n)

small_over : (depth : ℕ) (put : ℕ → Option ℕ) (line : List ℕ) (k : ℕ) → is_depth depth ≡ true → depth < 8 → byte_at depth (pixel_over depth put line) k ≡ byte_under depth put k (get_or line k 0)
small_over depth put line k is small =
    let per = 8 / depth in
    byte_small depth (pixel_over depth put line) k small
    ∙ joined_same depth (pixel_over depth put line) (λ n. unwrap_or (put n) (old_bits depth (get_or line k 0) n)) (k * per) (k * per) per
    (λ j h.
    let row : (k * per + j) / per ≡ k = div-mul-add k per j h in
    ap (unwrap_or (put (k * per + j)))
    (raw_at_small depth line (k * per + j) small
    ∙ ap (λ b. get_or line b 0 / 2 ^ (depth * (per - 1 - (k * per + j) % per)) % 2 ^ depth) row))
    ∙ sym (under_small depth put k (get_or line k 0) small)

whole_over : (depth : ℕ) (put : ℕ → Option ℕ) (line : List ℕ) (k : ℕ) → is_depth depth ≡ true → 8 ≤ depth → ((i : ℕ) → get_or line i 0 < 256) → byte_at depth (pixel_over depth put line) k ≡ byte_under depth put k (get_or line k 0)
whole_over depth put line k is whole fits =
    byte_whole depth (pixel_over depth put line) k whole
    ∙ by_put (put (k / (depth / 8)))
    ∙ sym (under_whole depth put k (get_or line k 0) whole)
  where
    by_put : (o : Option ℕ) → unwrap_or o (raw_at depth line (k / (depth / 8))) / 2 ^ (8 * (k % (depth / 8))) % 256 ≡ option_map_or (λ raw. raw / 2 ^ (8 * (k % (depth / 8))) % 256) o (get_or line k 0)
    by_put None = sym (byte_whole depth (raw_at depth line) k whole) ∙ byte_back depth line k is fits
    by_put (Some raw) = refl

over_line : (depth : ℕ) (put : ℕ → Option ℕ) (line : List ℕ) (k : ℕ) → is_depth depth ≡ true → ((i : ℕ) → get_or line i 0 < 256) → byte_at depth (pixel_over depth put line) k ≡ byte_under depth put k (get_or line k 0)
over_line depth put line k is fits =
    ⊎_elim
    (λ (small : depth < 8). small_over depth put line k is small)
    (λ (whole : 8 ≤ depth). whole_over depth put line k is whole fits)
    (cases_lt depth 8)

-- a byte of a cursor's own values is one of the rows'
pub over_is : (r s : Rect) (chan other : ℕ) (at place : Point) (bits line k old : ℕ) (rows : List ℕ) → s ≡ r → other ≡ chan → place ≡ at → bits ≡ depth other → line ≡ row_bytes r (depth chan) → old ≡ get_or rows k 0
    → is_depth bits ≡ true → ((i : ℕ) → get_or rows i 0 < 256) → byte_under bits (put_in s other place (k / line)) (k % line) old ≡ over_byte r chan at rows k
unfolding over_byte
over_is r s chan other at place bits line k old rows rect chans point bit lines olds is fits =
    let bits_are : bits ≡ depth chan = bit ∙ ap depth chans in
    let len = row_bytes r (depth chan) in
    let rest = drop (k / len * len) rows in
    let whole : k / len * len + k % len ≡ k = (omega (arith, div-add-mod k len)) in
    let here : get_or rest (k % len) 0 ≡ get_or rows k 0 = get_or-drop (k / len * len) rows (k % len) 0 ∙ ap (λ n. get_or rows n 0) whole in
    (λ i. byte_under (bits_are i) (put_in (rect i) (chans i) (point i) (k / lines i)) (k % lines i) ((olds ∙ sym here) i))
    ∙ sym (over_line (depth chan) (put_in r chan at (k / len)) rest (k % len) (subst (λ (n : ℕ). is_depth n ≡ true) bits_are is) (λ i. subst (λ (n : ℕ). n < 256) (sym (get_or-drop (k / len * len) rows i 0)) (fits (k / len * len + i))))

-- ---- bytes whose pixels are not put over

one_byte : (old : ℕ) → old < 256 → (i : ℕ) → get_or (old ∷ []) i 0 < 256
one_byte old fits zero = fits
one_byte old fits (suc i) = omega arith

pub small_kept : (depth : ℕ) (put : ℕ → Option ℕ) (k old : ℕ) → is_depth depth ≡ true → depth < 8 → old < 256 → ((j : ℕ) → j < 8 / depth → put (k * (8 / depth) + j) ≡ None) → byte_under depth put k old ≡ old
small_kept depth put k old is small fits none =
    let per = 8 / depth in
    let bits = λ (i : ℕ). old / 2 ^ (depth * (per - 1 - i)) % 2 ^ depth in
    let nothing : ℕ → Option ℕ = λ n. None in
    under_small depth put k old small
    ∙ joined_same depth (λ n. unwrap_or (put n) (old_bits depth old n)) (old_bits depth old) (k * per) (0 * per) per
    (λ j h. ap (λ o. unwrap_or o (old_bits depth old (k * per + j))) (none j h) ∙ ap bits (mod-mul-add k per j h ∙ sym (mod-mul-add 0 per j h)))
    ∙ sym (under_small depth nothing 0 old small)
    ∙ sym (over_line depth nothing (old ∷ []) 0 is (one_byte old fits))
    ∙ byte_back depth (old ∷ []) 0 is (one_byte old fits)

pub whole_kept : (depth : ℕ) (put : ℕ → Option ℕ) (k old : ℕ) → 8 ≤ depth → put (k / (depth / 8)) ≡ None → byte_under depth put k old ≡ old
whole_kept depth put k old whole none =
    under_whole depth put k old whole ∙ ap (λ o. option_map_or (λ raw. raw / 2 ^ (8 * (k % (depth / 8))) % 256) o old) none

pub none_kept : (depth : ℕ) (put : ℕ → Option ℕ) (k old : ℕ) → is_depth depth ≡ true → old < 256 → ((n : ℕ) → put n ≡ None) → byte_under depth put k old ≡ old
none_kept depth put k old is fits none =
    ⊎_elim
    (λ (small : depth < 8). small_kept depth put k old is small fits (λ j h. none (k * (8 / depth) + j)))
    (λ (whole : 8 ≤ depth). whole_kept depth put k old whole (none (k / (depth / 8))))
    (cases_lt depth 8)

-- a byte of a row
pub row_over : (r s : Rect) (chan other : ℕ) (at place : Point) (bits line row i old : ℕ) (rows : List ℕ) → s ≡ r → other ≡ chan → place ≡ at → bits ≡ depth other → line ≡ row_bytes r (depth chan) → i < line
    → old ≡ get_or rows (row * line + i) 0 → is_depth bits ≡ true → ((i : ℕ) → get_or rows i 0 < 256) → byte_under bits (put_in s other place row) i old ≡ over_byte r chan at rows (row * line + i)
row_over r s chan other at place bits line row i old rows rect chans point bit lines within olds is fits =
    (λ t. byte_under bits (put_in s other place (sym (div-mul-add row line i within) t)) (sym (mod-mul-add row line i within) t) old)
    ∙ over_is r s chan other at place bits line (row * line + i) old rows rect chans point bit lines olds is fits

-- a byte of a row that the cursor has no point in
pub row_same : (r s : Rect) (chan other : ℕ) (at place : Point) (bits line k : ℕ) (rows : List ℕ) → s ≡ r → other ≡ chan → place ≡ at → bits ≡ depth other → line ≡ row_bytes r (depth chan)
    → is_depth bits ≡ true → ((i : ℕ) → get_or rows i 0 < 256) → ((n : ℕ) → put_in s other place (k / line) n ≡ None) → get_or rows k 0 ≡ over_byte r chan at rows k
row_same r s chan other at place bits line k rows rect chans point bit lines is fits none =
    sym (none_kept bits (put_in s other place (k / line)) (k % line) (get_or rows k 0) is (fits k) none)
    ∙ over_is r s chan other at place bits line k (get_or rows k 0) rows rect chans point bit lines refl is fits
