-- Runs of pixels in packed bytes, and the bytes that packed pixels determine.
use Rattle.std.proofs.Common.{◌≡◌, ℕ, zero, suc, ◌+◌, ◌-◌, ◌*◌, ◌/◌, ◌%◌, ◌^◌, ◌<◌, ◌≤◌, ◌≢◌, ⊎_elim, true, refl, ap, ◌∙◌, sym, subst, arith, List, ◌++◌, take, drop, length, get_or, replicate}
use Rattle.std.specs.Prelude.{slice_index}
use borrow.Rule.Slice.PartMut.{put_mid}
use Rattle.std.proofs.lemmas.List.{length-drop, length-take, get_or_append_left, get_or-append_right, get_or-take, get_or-drop, get_or-replicate, get_or_past, length-replicate}
use Rattle.std.proofs.lemmas.Bool.{cases_lt, cases_eq}
use Rattle.std.proofs.lemmas.Nat.{shr-shr, shr_high, mod_low, mod_below, mul-le, div-mul-add, mod-mul-add}
use Rattle.std.proofs.Math.Nat.{mul_comm, mul-le-mul_left, div-add-mod, zero-div, zero-mod}
use Rattle.model_pixel.specs.Channels.{is_depth, repeated}
use Rattle.model_pixel.specs.Rows.{byte_at, joined, raw_at, little}
use Rattle.r9_plane.proofs.PackedLemmas.{by_depth, within_at, byte_small, byte_whole, raw_at_small, raw_at_whole, size_of, shift}

-- new bytes are old ones but for so many pixels from number first on
pub record Copied (depth first count : ℕ) (value : ℕ → ℕ) (old new : List ℕ) : Type 0 where
  pub written : (i : ℕ) → i < count → raw_at depth new (first + i) ≡ value i
  pub others : (n : ℕ) → ((i : ℕ) → i < count → n ≢ first + i) → raw_at depth new n ≡ raw_at depth old n

pub copied_none : (depth first : ℕ) (value : ℕ → ℕ) (old : List ℕ) → Copied depth first 0 value old old
copied_none depth first value old = record { written = λ i h. absurd (omega arith); others = λ n h. refl }

pub copied_more : (depth first k : ℕ) (value : ℕ → ℕ) (old mid new : List ℕ) → Copied depth first k value old mid → raw_at depth new (first + k) ≡ value k → ((m : ℕ) → m ≢ first + k → raw_at depth new m ≡ raw_at depth mid m) → Copied depth first (k + 1) value old new
copied_more depth first k value old mid new before here others = record {
  written = λ i h.
      ⊎_elim
      (λ (e : i ≡ k). ap (λ j. raw_at depth new (first + j)) e ∙ here ∙ ap value (sym e))
      (λ (e : i ≢ k). others (first + i) (λ same. e (omega arith)) ∙ before.written i (omega arith))
      (cases_eq i k);
  others = λ n apart. others n (apart k (omega arith)) ∙ before.others n (λ i h. apart i (omega arith));
}

-- and some more behind them
pub copied_joined : (depth first k size : ℕ) (value : ℕ → ℕ) (old mid new : List ℕ) → Copied depth first k value old mid → Copied depth (first + k) size (λ i. value (k + i)) mid new → Copied depth first (k + size) value old new
copied_joined depth first k size value old mid new before more = record {
  written = λ i h.
      ⊎_elim
      (λ (e : i < k). more.others (first + i) (λ j l. omega arith) ∙ before.written i e)
      (λ (e : k ≤ i).
      let at : first + i ≡ first + k + (i - k) = omega arith in
      let back : k + (i - k) ≡ i = omega arith in
      ap (raw_at depth new) at ∙ more.written (i - k) (omega arith) ∙ ap value back)
      (cases_lt i k);
  others = λ n apart. more.others n (λ i h same. apart (k + i) (omega arith) (omega (arith, same))) ∙ before.others n (λ i h. apart i (omega arith));
}

-- three runs from one run of another list, one behind the other
pub copied_thrice : (depth first head whole rest from_first : ℕ) (from old a b new : List ℕ) → Copied depth first head (λ i. raw_at depth from (from_first + i)) old a → Copied depth (first + head) whole (λ i. raw_at depth from (from_first + head + i)) a b → Copied depth (first + (head + whole)) rest (λ i. raw_at depth from (from_first + (head + whole) + i)) b new → Copied depth first (head + whole + rest) (λ i. raw_at depth from (from_first + i)) old new
copied_thrice depth first head whole rest from_first from old a b new begun more last =
    let value = λ (i : ℕ). raw_at depth from (from_first + i) in
    let two = copied_joined depth first head whole value old a b begun
    (record {
      written = λ i h. more.written i h ∙ ap (raw_at depth from) (let at : from_first + head + i ≡ from_first + (head + i) = omega arith in at);
      others = more.others;
    }) in
    copied_joined depth first (head + whole) rest value old b new two
    (record {
      written = λ i h. last.written i h ∙ ap (raw_at depth from) (let at : from_first + (head + whole) + i ≡ from_first + (head + whole + i) = omega arith in at);
      others = last.others;
    })

-- the bytes of a whole pixel, wherever they stand
pub little-moved : (k : ℕ) (bytes others : List ℕ) (at to : ℕ) → ((j : ℕ) → j < k → get_or bytes (at + j) 0 ≡ get_or others (to + j) 0) → little k bytes at ≡ little k others to
little-moved zero bytes others at to same = refl
little-moved (suc k) bytes others at to same =
    let first : get_or bytes at 0 ≡ get_or others to 0 =
    ap (λ i. get_or bytes i 0) (omega arith) ∙ same 0 (omega arith) ∙ ap (λ i. get_or others i 0) (omega arith) in
    let rest = little-moved k bytes others (at + 1) (to + 1)
    (λ j h. ap (λ i. get_or bytes i 0) (omega arith) ∙ same (suc j) (omega arith) ∙ ap (λ i. get_or others i 0) (omega arith)) in
    omega (arith, first, rest)

-- bytes whose stretch from start on was written anew
pub record Stretch (old new from : List ℕ) (start len from_start : ℕ) : Type 0 where
  pub before : (j : ℕ) → j < start → get_or new j 0 ≡ get_or old j 0
  pub after : (j : ℕ) → start + len ≤ j → get_or new j 0 ≡ get_or old j 0
  pub written : (j : ℕ) → j < len → get_or new (start + j) 0 ≡ get_or from (from_start + j) 0

-- the bytes of so many whole pixels
cell_within : (k count i j : ℕ) → i < count → j < k → k * i + j < count * k
cell_within k count i j h l =
    let more : i + 1 ≤ count = omega arith in
    omega (arith, mul-le-mul_left k more, mul_comm count k)

cell_before : (k first n j : ℕ) → n < first → j < k → k * n + j < first * k
cell_before k first n j h l = cell_within k first n j h l

cell_after : (k first count n : ℕ) → first + count ≤ n → first * k + count * k ≤ k * n
cell_after k first count n h = omega (arith, mul-le-mul_left k h, mul_comm (first + count) k)

-- a list after a write to its stretch from a on
pub stretch_put : (old ys : List ℕ) (a k : ℕ) → length ys ≡ k → a + k ≤ length old → Stretch old (put_mid a k old ys) ys a k 0
stretch_put old ys a k size fits =
    let front : length (take a old) ≡ a = omega (arith, length-take a old) in
    record {
      before = λ j h. get_or_append_left (take a old) _ 0 j (omega arith) ∙ get_or-take a old j 0 h;
      after = λ j h.
          let at : a + (k + (j - a - k)) ≡ j = omega arith in
          get_or-append_right (take a old) _ a j 0 front (omega arith)
          ∙ get_or-append_right ys _ k (j - a) 0 size (omega arith)
          ∙ get_or-drop k (drop a old) (j - a - k) 0 ∙ get_or-drop a old (k + (j - a - k)) 0
          ∙ ap (λ n. get_or old n 0) at;
      written = λ j h.
          let back : a + j - a ≡ j = omega arith in
          let here : j ≡ 0 + j = omega arith in
          get_or-append_right (take a old) _ a (a + j) 0 front (omega arith)
          ∙ ap (λ n. get_or (ys ++ drop k (drop a old)) n 0) back
          ∙ get_or_append_left ys _ 0 j (omega arith) ∙ ap (λ n. get_or ys n 0) here;
    }

-- what was written is a stretch of another list
pub stretch_of : (old new ys from : List ℕ) (a len from_start m : ℕ) → m ≡ len → ys ≡ take m (drop from_start from) → Stretch old new ys a len 0 → Stretch old new from a len from_start
stretch_of old new ys from a len from_start m same is s = record {
  before = s.before;
  after = s.after;
  written = λ j h.
      let here : 0 + j ≡ j = omega arith in
      s.written j h
      ∙ ap (λ n. get_or ys n 0) here ∙ ap (λ zs. get_or zs j 0) is
      ∙ get_or-take m (drop from_start from) j 0 (omega arith) ∙ get_or-drop from_start from j 0;
}

-- a stretch that was copied from another list
pub put_stretch : (old from ys : List ℕ) (start len from_start : ℕ) → start + len ≤ length old → from_start + len ≤ length from → ys ≡ take (from_start + len - from_start) (drop from_start from) → Stretch old (put_mid start (start + len - start) old ys) from start len from_start
put_stretch old from ys start len from_start here there is =
    let same : start + len - start ≡ len = omega arith in
    let from_same : from_start + len - from_start ≡ len = omega arith in
    let size : length ys ≡ len = ap length is ∙ omega (arith, there, length-take (from_start + len - from_start) (drop from_start from), length-drop from_start from) in
    let put = stretch_put old ys start (start + len - start) (size ∙ sym same) (omega (arith, here, same)) in
    let put_len = subst (λ (n : ℕ). Stretch old (put_mid start (start + len - start) old ys) ys start n 0) same put in
    stretch_of old (put_mid start (start + len - start) old ys) ys from start len from_start (from_start + len - from_start) from_same is put_len

-- a stretch that was copied from another before it, where the list was split
pub stretch_repeated : (old above below ys : List ℕ) (start len from m : ℕ) → above ≡ take start old → below ≡ drop start old → from + len ≤ start → start + len ≤ length old → m ≡ len → ys ≡ take m (drop from above) → Stretch old (above ++ (ys ++ drop len below)) old start len from
stretch_repeated old above below ys start len from m front back before room same is =
    let long : length above ≡ start = ap length front ∙ omega (arith, room, length-take start old) in
    let size : length ys ≡ len = ap length is ∙ omega (arith, same, long, before, length-take m (drop from above), length-drop from above) in
    let put = stretch_of old (put_mid start len old ys) ys above start len from m same is (stretch_put old ys start len size room) in
    let all : put_mid start len old ys ≡ above ++ (ys ++ drop len below) = λ i. sym front i ++ (ys ++ drop len (sym back i)) in
    subst (λ (new : List ℕ). Stretch old new old start len from) all
    (record {
      before = put.before;
      after = put.after;
      written = λ j h. put.written j h ∙ ap (λ xs. get_or xs (from + j) 0) front ∙ get_or-take start old (from + j) 0 (omega arith);
    })

-- one more line of bytes was written below others
pub lines_grow : (rows line : List ℕ) (row width k : ℕ) (f : ℕ → ℕ → ℕ) → k ≡ width → row * width + width ≤ length rows → length line ≡ width → ((j : ℕ) → j < row * width → get_or rows j 0 ≡ f (j / width) (j % width)) → ((j : ℕ) → j < width → get_or line j 0 ≡ f row j) → (j : ℕ) → j < (row + 1) * width → get_or (put_mid (row * width) k rows line) j 0 ≡ f (j / width) (j % width)
lines_grow rows line row width k f same fits size above here j below =
    let s = stretch_put rows line (row * width) k (size ∙ sym same) (omega arith) in
    ⊎_elim
    (λ (h : j < row * width). s.before j h ∙ above j h)
    (λ (h : row * width ≤ j).
    let i = j - row * width in
    let within : i < width = omega arith in
    let place : j ≡ row * width + i = omega arith in
    let first : 0 + i ≡ i = omega arith in
    ap (λ n. get_or (put_mid (row * width) k rows line) n 0) place
    ∙ s.written i (omega arith)
    ∙ ap (λ n. get_or line n 0) first ∙ here i within
    ∙ (λ t. f (sym (div-mul-add row width i within) t) (sym (mod-mul-add row width i within) t))
    ∙ ap (λ n. f (n / width) (n % width)) (sym place))
    (cases_lt j (row * width))

-- so many whole pixels in bytes
pub whole_fits : (depth n size : ℕ) → is_depth depth ≡ true → 8 ≤ depth → n * depth ≤ 8 * size → n * (depth / 8) ≤ size
whole_fits depth n size is whole fits =
    let bits = size_of depth is whole in
    let product : n * depth ≡ 8 * (n * (depth / 8)) = ap (λ d. n * d) bits ∙ omega arith in
    omega (arith, product, fits)

pub whole_copied : (depth first count from_first : ℕ) (old new from : List ℕ) → is_depth depth ≡ true → 8 ≤ depth → Stretch old new from (first * (depth / 8)) (count * (depth / 8)) (from_first * (depth / 8)) → Copied depth first count (λ i. raw_at depth from (from_first + i)) old new
whole_copied depth first count from_first old new from is whole s =
    let size = size_of depth is whole in
    let k = depth / 8 in
    let some : 0 < k = omega arith in
    record {
      written = λ i h.
          raw_at_whole depth k new (first + i) some size
          ∙ little-moved k new from (k * (first + i)) (k * (from_first + i))
          (λ j l.
          ap (λ n. get_or new n 0) (omega (arith, mul_comm first k))
          ∙ s.written (k * i + j) (cell_within k count i j h l)
          ∙ ap (λ n. get_or from n 0) (omega (arith, mul_comm from_first k)))
          ∙ sym (raw_at_whole depth k from (from_first + i) some size);
      others = λ n apart.
          raw_at_whole depth k new n some size
          ∙ little-moved k new old (k * n) (k * n)
          (λ j l.
          ⊎_elim
          (λ (h : n < first). s.before (k * n + j) (cell_before k first n j h l))
          (λ (h : first ≤ n).
          ⊎_elim
          (λ (e : n < first + count). absurd (apart (n - first) (omega arith) (omega arith)))
          (λ (e : first + count ≤ n). s.after (k * n + j) (omega (arith, cell_after k first count n e)))
          (cases_lt n (first + count)))
          (cases_lt n first))
          ∙ sym (raw_at_whole depth k old n some size);
    }

-- ---- whole bytes of small pixels

-- a pixel's byte and its place there, counted from a whole byte on
record Place (depth first start i : ℕ) : Type 0 where
  pub byte : (first + i) / (8 / depth) ≡ start + i / (8 / depth)
  pub place : (first + i) % (8 / depth) ≡ i % (8 / depth)

place_at : (depth first start i : ℕ) → is_depth depth ≡ true → depth < 8 → first ≡ start * (8 / depth) → Place depth first start i
place_at depth first start i is small begins =
    let all : first ≡ start * (8 / depth) → Place depth first start i =
    by_depth (λ d. first ≡ start * (8 / d) → Place d first start i) depth is small
    (λ e. record { byte = omega (arith, e); place = omega (arith, e) })
    (λ e. record { byte = omega (arith, e); place = omega (arith, e) })
    (λ e. record { byte = omega (arith, e); place = omega (arith, e) }) in
    all begins

-- the pixels of so many whole bytes
record Cells (depth first start count len n : ℕ) : Type 0 where
  pub before : n < first → n / (8 / depth) < start
  pub after : first + count ≤ n → start + len ≤ n / (8 / depth)
  pub inner : n < count → n / (8 / depth) < len

cells_at : (depth first start count len n : ℕ) → is_depth depth ≡ true → depth < 8 → first ≡ start * (8 / depth) → count ≡ len * (8 / depth) → Cells depth first start count len n
cells_at depth first start count len n is small begins whole =
    let all : first ≡ start * (8 / depth) → count ≡ len * (8 / depth) → Cells depth first start count len n =
    by_depth (λ d. first ≡ start * (8 / d) → count ≡ len * (8 / d) → Cells d first start count len n) depth is small
    (λ e f. record { before = λ h. omega (arith, e); after = λ h. omega (arith, e, f); inner = λ h. omega (arith, f) })
    (λ e f. record { before = λ h. omega (arith, e); after = λ h. omega (arith, e, f); inner = λ h. omega (arith, f) })
    (λ e f. record { before = λ h. omega (arith, e); after = λ h. omega (arith, e, f); inner = λ h. omega (arith, f) }) in
    all begins whole

pub whole_bytes : (depth n : ℕ) → is_depth depth ≡ true → depth < 8 → n % (8 / depth) ≡ 0 → n ≡ n / (8 / depth) * (8 / depth)
whole_bytes depth n is small none =
    let all : n % (8 / depth) ≡ 0 → n ≡ n / (8 / depth) * (8 / depth) =
    by_depth (λ d. n % (8 / d) ≡ 0 → n ≡ n / (8 / d) * (8 / d)) depth is small (λ e. omega (arith, e)) (λ e. omega (arith, e)) (λ e. omega (arith, e)) in
    all none

-- the bytes that so many whole bytes of pixels have
pub small_fits : (depth start count len size n : ℕ) → is_depth depth ≡ true → depth < 8 → n ≡ start * (8 / depth) → count ≡ len * (8 / depth) → (n + count) * depth ≤ 8 * size → start + len ≤ size
small_fits depth start count len size n is small begins whole fits =
    let all : n ≡ start * (8 / depth) → count ≡ len * (8 / depth) → (n + count) * depth ≤ 8 * size → start + len ≤ size =
    by_depth (λ d. n ≡ start * (8 / d) → count ≡ len * (8 / d) → (n + count) * d ≤ 8 * size → start + len ≤ size) depth is small
    (λ e f h. omega (arith, e, f, h)) (λ e f h. omega (arith, e, f, h)) (λ e f h. omega (arith, e, f, h)) in
    all begins whole fits

pub small_copied : (depth first count from_first start len from_start : ℕ) (old new from : List ℕ) → is_depth depth ≡ true → depth < 8 → first ≡ start * (8 / depth) → from_first ≡ from_start * (8 / depth) → count ≡ len * (8 / depth) → Stretch old new from start len from_start → Copied depth first count (λ i. raw_at depth from (from_first + i)) old new
small_copied depth first count from_first start len from_start old new from is small begins from_begins whole s =
    let per = 8 / depth in
    record {
      written = λ i h.
          let here = place_at depth first start i is small begins in
          let there = place_at depth from_first from_start i is small from_begins in
          let within = (cells_at depth first start count len i is small begins whole).inner h in
          raw_at_small depth new (first + i) small
          ∙ (λ t. get_or new (here.byte t) 0 / 2 ^ (depth * (per - 1 - here.place t)) % 2 ^ depth)
          ∙ ap (λ b. b / 2 ^ (depth * (per - 1 - i % per)) % 2 ^ depth) (s.written (i / per) within)
          ∙ (λ t. get_or from (sym there.byte t) 0 / 2 ^ (depth * (per - 1 - sym there.place t)) % 2 ^ depth)
          ∙ sym (raw_at_small depth from (from_first + i) small);
      others = λ n apart.
          let cells = cells_at depth first start count len n is small begins whole in
          raw_at_small depth new n small
          ∙ ap (λ b. b / 2 ^ shift depth n % 2 ^ depth)
          (⊎_elim
          (λ (h : n < first). s.before (n / per) (cells.before h))
          (λ (h : first ≤ n).
          ⊎_elim
          (λ (e : n < first + count). absurd (apart (n - first) (omega arith) (omega arith)))
          (λ (e : first + count ≤ n). s.after (n / per) (cells.after e))
          (cases_lt n (first + count)))
          (cases_lt n first))
          ∙ sym (raw_at_small depth old n small);
    }

-- ---- pixels of one value

repeated_at : (times depth raw j : ℕ) → raw < 2 ^ depth → j < times → repeated times depth raw / 2 ^ (depth * j) % 2 ^ depth ≡ raw
repeated_at zero depth raw j low h = absurd (omega arith)
repeated_at (suc times) depth raw zero low h =
    let zeroth : depth * 0 ≡ 0 = omega arith in
    let none : 2 ^ (depth * 0) ≡ 1 = ap (λ e. 2 ^ e) zeroth in
    let whole : (repeated times depth raw * 2 ^ depth + raw) / 1 ≡ repeated times depth raw * 2 ^ depth + raw = omega arith in
    (λ i. (repeated times depth raw * 2 ^ depth + raw) / none i % 2 ^ depth)
    ∙ ap (λ v. v % 2 ^ depth) whole
    ∙ mod_low (repeated times depth raw) depth raw low
repeated_at (suc times) depth raw (suc j) low h =
    let sum : depth + depth * j ≡ depth * suc j = omega arith in
    ap (λ e. (repeated times depth raw * 2 ^ depth + raw) / 2 ^ e % 2 ^ depth) (sym sum)
    ∙ ap (λ v. v % 2 ^ depth) (sym (shr-shr (repeated times depth raw * 2 ^ depth + raw) depth (depth * j)))
    ∙ ap (λ v. v / 2 ^ (depth * j) % 2 ^ depth) (shr_high (repeated times depth raw) depth raw low)
    ∙ repeated_at times depth raw j low (omega arith)

record PerByte (depth : ℕ) : Type 0 where
  pub some : 0 < 8 / depth
  pub whole : depth * (8 / depth) ≡ 8

some_in : (depth : ℕ) → is_depth depth ≡ true → depth < 8 → PerByte depth
some_in depth is small =
    by_depth (λ d. PerByte d) depth is small
    (record { some = omega arith; whole = refl }) (record { some = omega arith; whole = refl }) (record { some = omega arith; whole = refl })

pub small_filled : (depth count raw size byte : ℕ) (bytes : List ℕ) → is_depth depth ≡ true → depth < 8 → raw < 2 ^ depth → count * depth ≤ 8 * size → ((j : ℕ) → j < size → get_or bytes j 0 ≡ byte) → byte ≡ repeated (8 / depth) depth raw → (n : ℕ) → n < count → raw_at depth bytes n ≡ raw
small_filled depth count raw size byte bytes is small low fits all byte_is n below =
    let most = mul-le (n + 1) depth count depth (omega arith) (omega arith) in
    let within = (within_at depth n size is small (omega (arith, most, fits))).byte in
    let some = (some_in depth is small).some in
    raw_at_small depth bytes n small
    ∙ ap (λ b. b / 2 ^ shift depth n % 2 ^ depth) (all (n / (8 / depth)) within ∙ byte_is)
    ∙ repeated_at (8 / depth) depth raw (8 / depth - 1 - n % (8 / depth)) low (omega (arith, some))

-- ---- bytes that are all 0

little_zero : (k : ℕ) (bytes : List ℕ) (at : ℕ) → ((j : ℕ) → get_or bytes j 0 ≡ 0) → little k bytes at ≡ 0
little_zero zero bytes at none = refl
little_zero (suc k) bytes at none = omega (arith, none at, little_zero k bytes (at + 1) none)

zero_over : (e d : ℕ) → 0 / 2 ^ e % 2 ^ d ≡ 0
zero_over e d = ap (λ v. v % 2 ^ d) (zero-div (2 ^ e)) ∙ zero-mod (2 ^ d)

pub zeros_all : (n j : ℕ) → slice_index (replicate n 0) j ≡ 0
zeros_all n j =
    ⊎_elim
    (λ (h : j < n). get_or-replicate n j 0 0 h)
    (λ (h : n ≤ j). get_or_past (replicate n 0) j 0 (omega (arith, length-replicate {A = ℕ} n 0)))
    (cases_lt j n)

pub raw_zero : (depth : ℕ) (bytes : List ℕ) (n : ℕ) → is_depth depth ≡ true → ((j : ℕ) → get_or bytes j 0 ≡ 0) → raw_at depth bytes n ≡ 0
raw_zero depth bytes n is none =
    ⊎_elim
    (λ (small : depth < 8).
    raw_at_small depth bytes n small
    ∙ ap (λ b. b / 2 ^ shift depth n % 2 ^ depth) (none (n / (8 / depth))) ∙ zero_over (shift depth n) depth)
    (λ (whole : 8 ≤ depth).
    raw_at_whole depth (depth / 8) bytes n (omega arith) (size_of depth is whole)
    ∙ little_zero (depth / 8) bytes (depth / 8 * n) none)
    (cases_lt depth 8)

-- ---- the bytes that pixels determine

joined_same : (depth : ℕ) (f g : ℕ → ℕ) (n k : ℕ) → ((j : ℕ) → j < k → f (n + j) ≡ g (n + j)) → joined depth f n k ≡ joined depth g n k
joined_same depth f g n zero same = refl
joined_same depth f g n (suc k) same =
    (λ i. joined_same depth f g n k (λ j h. same j (omega arith)) i * 2 ^ depth + same k (omega arith) i)

-- the highest bits of a number, so many pixels of them
joined_top : (depth b per : ℕ) (f : ℕ → ℕ) (n k : ℕ) → k ≤ per → b / 2 ^ (depth * per) ≡ 0 → ((j : ℕ) → j < per → f (n + j) ≡ b / 2 ^ (depth * (per - 1 - j)) % 2 ^ depth) → joined depth f n k ≡ b / 2 ^ (depth * (per - k))
joined_top depth b per f n zero most none each = sym none ∙ ap (λ e. b / 2 ^ (depth * e)) (omega arith)
joined_top depth b per f n (suc k) most none each =
    let e = depth * (per - 1 - k) in
    let less : per - suc k ≡ per - 1 - k = omega arith in
    let one : depth * (per - k) ≡ e + depth = ap (λ v. depth * v) (let more : per - k ≡ per - 1 - k + 1 = omega arith in more) ∙ omega arith in
    (λ i. joined_top depth b per f n k (omega arith) none each i * 2 ^ depth + each k (omega arith) i)
    ∙ ap (λ v. b / 2 ^ v * 2 ^ depth + b / 2 ^ e % 2 ^ depth) one
    ∙ ap (λ v. v * 2 ^ depth + b / 2 ^ e % 2 ^ depth) (sym (shr-shr b e depth))
    ∙ (let whole = div-add-mod (b / 2 ^ e) (2 ^ depth) in omega (arith, whole, mul_comm (2 ^ depth) (b / 2 ^ e / 2 ^ depth)))
    ∙ ap (λ v. b / 2 ^ (depth * v)) (sym less)

small_back : (depth : ℕ) (bytes : List ℕ) (k : ℕ) → is_depth depth ≡ true → depth < 8 → get_or bytes k 0 < 256 → byte_at depth (raw_at depth bytes) k ≡ get_or bytes k 0
small_back depth bytes k is small fits =
    let b = get_or bytes k 0 in
    let per = 8 / depth in
    let s = some_in depth is small in
    let none : b / 2 ^ (depth * per) ≡ 0 = ap (λ e. b / 2 ^ e) s.whole ∙ omega (arith, fits) in
    byte_small depth (raw_at depth bytes) k small
    ∙ joined_top depth b per (raw_at depth bytes) (k * per) per (omega arith) none
    (λ j h.
    let row = div-mul-add k per j h in
    let column = mod-mul-add k per j h in
    raw_at_small depth bytes (k * per + j) small
    ∙ (λ i. get_or bytes (row i) 0 / 2 ^ (depth * (per - 1 - column i)) % 2 ^ depth))
    ∙ (let left : depth * (per - per) ≡ 0 = ap (λ v. depth * v) (let all : per - per ≡ 0 = omega arith in all) ∙ omega arith in ap (λ e. b / 2 ^ e) left)
    ∙ (let one : b / 1 ≡ b = omega arith in one)

little_digit : (k : ℕ) (bytes : List ℕ) (at j : ℕ) → j < k → ((i : ℕ) → get_or bytes i 0 < 256) → little k bytes at / 2 ^ (8 * j) % 256 ≡ get_or bytes (at + j) 0
little_digit zero bytes at j h fits = absurd (omega arith)
little_digit (suc k) bytes at zero h fits =
    let first = fits at in
    let none : (get_or bytes at 0 + 256 * little k bytes (at + 1)) / 1 % 256 ≡ get_or bytes at 0 = omega (arith, first) in
    let here : at ≡ at + 0 = omega arith in
    none ∙ ap (λ i. get_or bytes i 0) here
little_digit (suc k) bytes at (suc j) h fits =
    let sum : 8 + 8 * j ≡ 8 * suc j = omega arith in
    let first = fits at in
    let rest : (get_or bytes at 0 + 256 * little k bytes (at + 1)) / 2 ^ 8 ≡ little k bytes (at + 1) = omega (arith, first) in
    ap (λ e. little (suc k) bytes at / 2 ^ e % 256) (sym sum)
    ∙ ap (λ v. v % 256) (sym (shr-shr (little (suc k) bytes at) 8 (8 * j)))
    ∙ ap (λ v. v / 2 ^ (8 * j) % 256) rest
    ∙ little_digit k bytes (at + 1) j (omega arith) fits
    ∙ ap (λ i. get_or bytes i 0) (omega arith)

whole_back : (depth : ℕ) (bytes : List ℕ) (k : ℕ) → is_depth depth ≡ true → 8 ≤ depth → ((i : ℕ) → get_or bytes i 0 < 256) → byte_at depth (raw_at depth bytes) k ≡ get_or bytes k 0
whole_back depth bytes k is whole fits =
    let s = depth / 8 in
    let some : 0 < s = omega arith in
    byte_whole depth (raw_at depth bytes) k whole
    ∙ ap (λ v. v / 2 ^ (8 * (k % s)) % 256) (raw_at_whole depth s bytes (k / s) some (size_of depth is whole))
    ∙ little_digit s bytes (s * (k / s)) (k % s) (mod_below k s some) fits
    ∙ ap (λ i. get_or bytes i 0) (div-add-mod k s)

-- packed pixels have the bytes that they were read from
pub byte_back : (depth : ℕ) (bytes : List ℕ) (k : ℕ) → is_depth depth ≡ true → ((i : ℕ) → get_or bytes i 0 < 256) → byte_at depth (raw_at depth bytes) k ≡ get_or bytes k 0
byte_back depth bytes k is fits =
    ⊎_elim
    (λ (small : depth < 8). small_back depth bytes k is small (fits k))
    (λ (whole : 8 ≤ depth). whole_back depth bytes k is whole fits)
    (cases_lt depth 8)
