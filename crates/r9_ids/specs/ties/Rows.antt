-- The keys of rows that stand for ties.
use Rattle.r9_ids.specs.declared.sorted.key.Key.{Key}
use Rattle.r9_ids.specs.sorted.Order.{key}
use Rattle.model_draw_parts.specs.declared.images.Tie.{Tie}
use Rattle.r9_ids.specs.declared.ties.rows.Numbered.{Numbered}
use Rattle.r9_ids.specs.declared.ties.rows.Owned.{Owned}

abbrev pub number_key : Numbered → Key
number_key row = key row.number 0 0

abbrev pub owned_key : Owned → Key
owned_key row = key row.client row.id row.number

abbrev pub numbered : Tie → Numbered
numbered t = record { number = t.number }

abbrev pub owned : Tie → Owned
owned t = record { client = t.client; id = t.id; number = t.number }
