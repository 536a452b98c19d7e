-- Rows in ascending order of their keys, each key once.
use Rattle.std.specs.Prelude.{◌≡◌, ℕ, Bool, true, not, List, [], ◌∷◌, Option, find, filter, if◌then◌else◌}
use Rattle.r9_ids.specs.declared.sorted.key.Key.{Key}
use Rattle.r9_ids.specs.sorted.Order.{comes_before, is_key}

-- what callers see: the rows, and how many more go in, at least, without memory
pub record Rows (T : Type 0) : Type 0 where
  pub rows : List T
  pub room : ℕ

module _ {T : Type 0} (key_of : T → Key) where
  -- the row has this key
  abbrev pub has_key : Key → T → Bool
  has_key key row = is_key (key_of row) key

  -- the row's key is smaller than this one
  abbrev pub is_before : Key → T → Bool
  is_before key row = comes_before (key_of row) key

  -- a row put before the first with a greater key
  abbrev pub put_in_order : T → List T → List T
  put_in_order row [] = row ∷ []
  put_in_order row (x ∷ xs) =
      if comes_before (key_of row) (key_of x) then row ∷ x ∷ xs else x ∷ put_in_order row xs

  -- the rows without the one that has the key
  abbrev pub without_key : Key → List T → List T
  without_key key rows = filter (λ row. not (has_key key row)) rows

  -- the first row whose key is not smaller than this one
  abbrev pub first_from : Key → List T → Option T
  first_from key rows = find (λ row. not (is_before key row)) rows

  -- the rows with this one in place of that of the same key
  abbrev pub set_row : T → List T → List T
  set_row row [] = []
  set_row row (x ∷ xs) = (if has_key (key_of row) x then row else x) ∷ set_row row xs

  -- the key is smaller than that of each row
  abbrev pub AreAfter : Key → List T → Type 0
  AreAfter key [] = Unit {0}
  AreAfter key (x ∷ xs) = (comes_before key (key_of x) ≡ true) × AreAfter key xs

  abbrev pub Ascend : List T → Type 0
  Ascend [] = Unit {0}
  Ascend (x ∷ xs) = AreAfter (key_of x) xs × Ascend xs
