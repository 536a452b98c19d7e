-- The order of keys.
use Rattle.std.specs.Prelude.{ℕ, ◌==◌, Bool, ◌&&◌, ◌||◌, nat_lt}
use Rattle.r9_ids.specs.declared.sorted.key.Key.{Key}

abbrev pub key : (first second third : ℕ) → Key
key first second third = record { first = first; second = second; third = third }

unfoldable pub is_key : Key → Key → Bool
is_key a b = (a.first == b.first) && (a.second == b.second) && (a.third == b.third)

unfoldable pub comes_before : Key → Key → Bool
comes_before a b =
    nat_lt a.first b.first
    || ((a.first == b.first) && (nat_lt a.second b.second || ((a.second == b.second) && nat_lt a.third b.third)))
