-- The ids of a connection, one after the other.
use Rattle.std.proofs.Common.{◌≡◌, ℕ, ◌+◌, Bool, true, false, cond, List, [], ◌∷◌, Some, None, refl, sym, ap, ◌∙◌, arith}
use Rattle.std.specs.Prelude.{not, ◌==◌, ◌&&◌, filter, nat_le}
use Rattle.std.proofs.lemmas.Bool.Decides.{nat_tests}
use Rattle.r9_ids.specs.declared.sorted.key.Key.{Key}
use Rattle.r9_ids.specs.sorted.Order.{key, comes_before}
use Rattle.r9_ids.specs.sorted.Rows.{is_before, first_from, AreAfter, Ascend}
use Rattle.r9_ids.proofs.sorted.Laws.{IsGroup, group-none, group-past}
use Rattle.r9_ids.proofs.sorted.Members.{after-holds}
use Rattle.r9_ids.proofs.ids.IdRows.{Kind, client_in, entries, id_in, key_in}
use Rattle.r9_ids.proofs.ids.Mapped.{filter-map}

drop-first : {X : Type 0} (p : X → Bool) (x : X) (xs : List X) → p x ≡ false → filter p (x ∷ xs) ≡ filter p xs
drop-first p x xs h = rw h refl

keep-first : {X : Type 0} (p : X → Bool) (x : X) (xs : List X) → p x ≡ true → filter p (x ∷ xs) ≡ x ∷ filter p xs
keep-first p x xs h = rw h refl

-- ---- keys

before-from : (a b c n : ℕ) → comes_before (key a b 0) (key c n 0) ≡ true → ((a == c) && nat_le n b) ≡ false
unfolding comes_before
before-from a b c n h = grind (arith, nat_tests)

at-from : (a b c n : ℕ) → comes_before (key a b 0) (key c n 0) ≡ false → (a == c) ≡ true → ((a == c) && nat_le n b) ≡ true
unfolding comes_before
at-from a b c n h k = grind (arith, nat_tests)

before-next : (a b c d n : ℕ) → comes_before (key a b 0) (key c d 0) ≡ true → (c == n) ≡ true → ((a == n) && nat_le (d + 1) b) ≡ false
unfolding comes_before
before-next a b c d n h k = grind (arith, nat_tests)

own-next : (a b c : ℕ) → ((a == c) && nat_le (b + 1) b) ≡ false
own-next a b c = grind (arith, nat_tests)

after-next : (a b c d m n : ℕ) → comes_before (key c d 0) (key a b 0) ≡ true → (c == m) ≡ true → comes_before (key c d 0) (key m n 0) ≡ false → ((a == m) && nat_le n b) ≡ ((a == m) && nat_le (d + 1) b)
unfolding comes_before
after-next a b c d m n h k l = grind (arith, nat_tests)

group-before : (c n : ℕ) (k : Key) → comes_before k (key c n 0) ≡ true → ((k.first == c) && nat_le n k.second) ≡ false
unfolding comes_before
group-before c n k h = grind (arith, nat_tests)

group-after : (c n : ℕ) (j k : Key) → comes_before j (key c n 0) ≡ false → ((j.first == c) && nat_le n j.second) ≡ false → comes_before j k ≡ true → ((k.first == c) && nat_le n k.second) ≡ false
unfolding comes_before
group-after c n j k l other h = grind (arith, nat_tests)

from-group : (c n : ℕ) → IsGroup (λ k. (k.first == c) && nat_le n k.second) (key c n 0)
from-group c n = record { before = group-before c n; after = group-after c n }

past-other : (c n : ℕ) (k : Key) → (k.first == c) ≡ false → ((k.first == c) && nat_le n k.second) ≡ false
past-other c n k h = rw h refl

module _ {T E : Type 0} (kind : Kind T E) where
  abbrev pub own_from : (client from : ℕ) → List E → List E
  own_from client from ids = filter (λ e. (kind.client e == client) && nat_le from (kind.id e)) ids

  abbrev rows_from : (client from : ℕ) → List T → List T
  rows_from client from rows = filter (λ row. (client_in kind row == client) && nat_le from (id_in kind row)) rows

  after-same : (c n : ℕ) (x : T) (xs : List T) → AreAfter (key_in kind) (key_in kind x) xs → (client_in kind x == c) ≡ true → comes_before (key_in kind x) (key c n 0) ≡ false
      → rows_from c n xs ≡ rows_from c (id_in kind x + 1) xs
  after-same c n x [] after own late = refl
  after-same c n x (y ∷ ys) after own late =
      let same = after-next (client_in kind y) (id_in kind y) (client_in kind x) (id_in kind x) c n after.0 own late in
      let rest = after-same c n x ys after.1 own late in
      λ i. cond (same i) (y ∷ rest i) (rest i)

  rows-next : (c n : ℕ) (rows : List T) (row : T) → Ascend (key_in kind) rows → first_from (key_in kind) (key c n 0) rows ≡ Some row → (client_in kind row == c) ≡ true
      → rows_from c n rows ≡ row ∷ rows_from c (id_in kind row + 1) rows
  rows-next c n [] row a h own = absurd cc
  rows-next c n (x ∷ xs) row a h own = by (rows-next c n xs row a.1) (is_before (key_in kind) (key c n 0) x) refl h own
    where
      by : (first_from (key_in kind) (key c n 0) xs ≡ Some row → (client_in kind row == c) ≡ true → rows_from c n xs ≡ row ∷ rows_from c (id_in kind row + 1) xs) → (t : Bool) → is_before (key_in kind) (key c n 0) x ≡ t
          → cond (not t) (Some x) (first_from (key_in kind) (key c n 0) xs) ≡ Some row → (client_in kind row == c) ≡ true → rows_from c n (x ∷ xs) ≡ row ∷ rows_from c (id_in kind row + 1) (x ∷ xs)
      by more true at h own =
          let below : comes_before (key_in kind x) (key_in kind row) ≡ true = after-holds (key_in kind) (key_in kind x) (λ r. not (is_before (key_in kind) (key c n 0) r)) xs row a.0 h in
          drop-first _ x xs (before-from (client_in kind x) (id_in kind x) c n at) ∙ more h own
          ∙ ap (λ (rs : List T). row ∷ rs) (sym (drop-first _ x xs (before-next (client_in kind x) (id_in kind x) (client_in kind row) (id_in kind row) c below own)))
      by more false at h own =
          let same : x ≡ row = cc in
          let its : (client_in kind x == c) ≡ true = ap (λ (r : T). client_in kind r == c) same ∙ own in
          keep-first _ x xs (at-from (client_in kind x) (id_in kind x) c n at its) ∙ ap (λ (rs : List T). x ∷ rs) (after-same c n x xs a.0 its at)
          ∙ ap (λ (rs : List T). x ∷ rs) (sym (drop-first _ x xs (own-next (client_in kind x) (id_in kind x) c)))
          ∙ ap (λ (r : T). r ∷ rows_from c (id_in kind r + 1) (x ∷ xs)) same

  pub next-some : (c n : ℕ) (rows : List T) (row : T) (ids : List E) → entries kind rows ≡ ids → Ascend (key_in kind) rows → first_from (key_in kind) (key c n 0) rows ≡ Some row → (client_in kind row == c) ≡ true
      → own_from c n ids ≡ kind.entry row ∷ own_from c (id_in kind row + 1) ids
  next-some c n rows row ids view a h own =
      ap (own_from c n) (sym view) ∙ filter-map kind.entry _ rows ∙ ap (entries kind) (rows-next c n rows row a h own)
      ∙ ap (λ (es : List E). kind.entry row ∷ es) (sym (filter-map kind.entry _ rows) ∙ ap (own_from c (id_in kind row + 1)) view)

  pub next-none : (c n : ℕ) (rows : List T) (ids : List E) → entries kind rows ≡ ids → first_from (key_in kind) (key c n 0) rows ≡ None → own_from c n ids ≡ []
  next-none c n rows ids view h =
      ap (own_from c n) (sym view) ∙ filter-map kind.entry _ rows
      ∙ ap (entries kind) (group-none (key_in kind) (λ k. (k.first == c) && nat_le n k.second) (key c n 0) (from-group c n) rows h)

  pub next-past : (c n : ℕ) (rows : List T) (row : T) (ids : List E) → entries kind rows ≡ ids → Ascend (key_in kind) rows → first_from (key_in kind) (key c n 0) rows ≡ Some row → (client_in kind row == c) ≡ false
      → own_from c n ids ≡ []
  next-past c n rows row ids view a h other =
      ap (own_from c n) (sym view) ∙ filter-map kind.entry _ rows
      ∙ ap (entries kind) (group-past (key_in kind) (λ k. (k.first == c) && nat_le n k.second) (key c n 0) (from-group c n) rows row a h (past-other c n (key_in kind row) other))
