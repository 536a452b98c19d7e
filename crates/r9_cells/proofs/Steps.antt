-- Counts of cells from one on, and what is so for the cells before one.
use Rattle.std.proofs.Common.{◌≡◌, ◌∙◌, ℕ, suc, zero, ◌+◌, ◌-◌, ◌<◌, ◌≤◌, Bool, true, false, cond, refl, sym, ap, arith}
use Rattle.std.specs.Prelude.{◌==◌, ◌&&◌, ◌||◌, not, nat_lt, if◌then◌else◌}
use Rattle.std.specs.List.{count_by, range_with_len}
use Rattle.std.proofs.lemmas.Bool.{false_from_ne_true, false≢true}
use Rattle.std.proofs.lemmas.Bool.Decides.{Decides-ltb}
use Rattle.r9_geom.proofs.GeometryLemmas.{same_tests}
use Rattle.std.proofs.lemmas.List.Sums.{sum_by-cons}

-- how many numbers from one on, below another, pass a test
abbrev pub rest : (ℕ → Bool) → ℕ → ℕ → ℕ
rest q n k = count_by q (range_with_len k (n - k))

abbrev pub weight : Bool → ℕ
weight b = if b then 1 else 0

pub rest_more : (q : ℕ → Bool) (n k : ℕ) → k < n → rest q n k ≡ weight (q k) + rest q n (k + 1)
rest_more q n k below =
    let more : n - k ≡ suc (n - (k + 1)) = omega arith in
    ap (λ m. count_by q (range_with_len k m)) more ∙ sum_by-cons (λ j. cond (q j) 1 0) k (range_with_len (k + 1) (n - (k + 1)))

pub rest_none : (q : ℕ → Bool) (n : ℕ) → rest q n n ≡ 0
rest_none q n = let none : n - n ≡ 0 = omega arith in ap (λ m. count_by q (range_with_len n m)) none

pub rest_all : (q : ℕ → Bool) (n : ℕ) → rest q n 0 ≡ count_by q (range_with_len 0 n)
rest_all q n = let all : n - 0 ≡ n = omega arith in ap (λ m. count_by q (range_with_len 0 m)) all

-- a number is below the next one where it is below one, or is that
pub below_more : (l k : ℕ) → nat_lt l (k + 1) ≡ (nat_lt l k || (l == k))
below_more l k =
    same_tests _ _
    (λ (h : nat_lt l (k + 1) ≡ true). grind arith)
    (λ (h : (nat_lt l k || (l == k)) ≡ true). grind arith)

-- what is so for the cell that is next, after those before it
pub taken_more : (here before same is hid some : Bool) → (same ≡ true → is ≡ hid) → (((here && same) && is) || ((here && (before && hid)) || some)) ≡ ((here && ((before || same) && hid)) || some)
taken_more false before same is hid some e = refl
taken_more true false false is hid some e = refl
taken_more true false true is hid some e = ap (λ b. b || some) (e refl)
taken_more true true false is hid some e = refl
taken_more true true true is true some e = ap (λ b. b || true) (e refl)
taken_more true true true is false some e = ap (λ b. b || some) (e refl)

pub given_more : (here before same is hid some : Bool) → (same ≡ true → is ≡ hid) → (not ((here && same) && not is) && (not (here && (before && not hid)) && some)) ≡ (not (here && ((before || same) && not hid)) && some)
given_more false before same is hid some e = refl
given_more true false false is hid some e = refl
given_more true false true is hid some e = ap (λ b. not (not b) && some) (e refl)
given_more true true false is hid some e = refl
given_more true true true is true some e = ap (λ b. not (not b) && some) (e refl)
given_more true true true is false some e = ap (λ b. not (not b) && false) (e refl)

-- nothing was done yet to the cell that is next
pub below_self : (k : ℕ) → nat_lt k k ≡ false
below_self k = false_from_ne_true _ (λ h. absurd (omega (arith, (Decides-ltb k k).0 h)))

pub taken_next : (here before hid some : Bool) → before ≡ false → ((here && (before && hid)) || some) ≡ some
taken_next true before hid some e = ap (λ b. (b && hid) || some) e
taken_next false before hid some e = refl

-- what is kept while tiles go, one after the other
pub kept_twice : (given held : Bool) (x : ℕ) → (if given && held then (if held then x else 0) else 0) ≡ (if given && held then x else 0)
kept_twice true true x = refl
kept_twice true false x = refl
kept_twice false held x = refl

-- of numbers that pass a test, no fewer pass a weaker one
pub count_most : (q r : ℕ → Bool) (a n : ℕ) → ((k : ℕ) → q k ≡ true → r k ≡ true) → count_by q (range_with_len a n) ≤ count_by r (range_with_len a n)
count_most q r a zero weaker = omega arith
count_most q r a (suc n) weaker =
    let more = count_most q r (a + 1) n weaker in
    let one : weight (q a) ≤ weight (r a) = lighter (q a) (r a) (weaker a) in
    let left : count_by q (range_with_len a (suc n)) ≡ weight (q a) + count_by q (range_with_len (a + 1) n) = sum_by-cons (λ k. cond (q k) 1 0) a (range_with_len (a + 1) n) in
    let right : count_by r (range_with_len a (suc n)) ≡ weight (r a) + count_by r (range_with_len (a + 1) n) = sum_by-cons (λ k. cond (r k) 1 0) a (range_with_len (a + 1) n) in
    omega (arith, more, one, left, right)
  where
    lighter : (b c : Bool) → (b ≡ true → c ≡ true) → weight b ≤ weight c
    lighter true c e = let is = ap weight (e refl) in omega (arith, is)
    lighter false c e = omega arith

pub light : (b : Bool) → weight b ≤ 1
light true = omega arith
light false = omega arith

-- windows of a list one after the other, where those that are left are known
pub any_taken : (next mid left : Bool) → ((next || mid) || left) ≡ (mid || (next || left))
any_taken true true left = refl
any_taken true false left = refl
any_taken false mid left = refl

pub any_given : (next mid left : Bool) → (not left && (not next && mid)) ≡ (not (next || left) && mid)
any_given true mid true = refl
any_given true mid false = refl
any_given false mid left = refl

pub or_none : (b : Bool) → (b || false) ≡ b
or_none true = refl
or_none false = refl

-- a cell that wants a tile wanted one before
pub wants_less : (hid mid was : Bool) → (was ≡ true → mid ≡ true) → (hid && not mid) ≡ true → (hid && not was) ≡ true
wants_less true mid false grows e = refl
wants_less true mid true grows e = absurd (false≢true (sym (ap not (grows refl)) ∙ e))
wants_less false mid was grows e = e

-- the same where a tile is taken for a cell that is to have one and lacks it, or given back from one that is to have none and has it
pub taken_wanted : (here before same is hid some : Bool) → ((here && same) ≡ true → is ≡ (hid && not some)) → (((here && same) && is) || ((here && (before && hid)) || some)) ≡ ((here && ((before || same) && hid)) || some)
taken_wanted false before same is hid some e = refl
taken_wanted true false false is hid some e = refl
taken_wanted true true false is hid some e = refl
taken_wanted true false true is hid some e = ap (λ b. b || some) (e refl) ∙ join hid some
  where
    join : (h s : Bool) → ((h && not s) || s) ≡ (h || s)
    join true true = refl
    join true false = refl
    join false s = refl
taken_wanted true true true is hid some e = ap (λ b. b || (hid || some)) (e refl) ∙ join hid some
  where
    join : (h s : Bool) → ((h && not s) || (h || s)) ≡ (h || s)
    join true true = refl
    join true false = refl
    join false s = refl

pub given_spared : (here before same is hid some : Bool) → ((here && same) ≡ true → is ≡ (not hid && some)) → (not ((here && same) && is) && (not (here && (before && not hid)) && some)) ≡ (not (here && ((before || same) && not hid)) && some)
given_spared false before same is hid some e = refl
given_spared true false false is hid some e = refl
given_spared true true false is hid some e = refl
given_spared true false true is hid some e = ap (λ b. not b && some) (e refl) ∙ join hid some
  where
    join : (h s : Bool) → (not (not h && s) && s) ≡ (not (not h) && s)
    join true s = refl
    join false true = refl
    join false false = refl
given_spared true true true is hid some e = ap (λ b. not b && (not (not hid) && some)) (e refl) ∙ join hid some
  where
    join : (h s : Bool) → (not (not h && s) && (not (not h) && s)) ≡ (not (not h) && s)
    join true s = refl
    join false true = refl
    join false false = refl

pub given_next : (here before hid some : Bool) → before ≡ false → (not (here && (before && hid)) && some) ≡ some
given_next true before hid some e = ap (λ b. not (b && hid) && some) e
given_next false before hid some e = refl
