-- The rows of what the images of a connection count.
use Rattle.std.specs.Prelude.{ℕ, List, map}
use Rattle.std.specs.List.{sum_by}
use Rattle.r9_ids.specs.declared.sorted.key.Key.{Key}
use Rattle.r9_ids.specs.sorted.Order.{key}
use Rattle.r9_device.specs.declared.client.size.Size.{Size}

abbrev pub key_of : Size → Key
key_of row = key row.id 0 0

-- what an image id counts
abbrev pub entry_of_row : Size → ℕ × ℕ
entry_of_row row = (row.id, row.size)

abbrev pub entries_of : List Size → List (ℕ × ℕ)
entries_of rows = map entry_of_row rows

-- what all count together
abbrev pub total_of : List Size → ℕ
total_of rows = sum_by (λ e. e.1) (entries_of rows)
