-- The bytes of the stats of a directory's files, one by one.
use Rattle.std.specs.Prelude.{ℕ, List}
use Rattle.std.specs.Fmt.{decimal}
use Rattle.model_files.specs.wire.Spelling.{stat_bytes}
use Rattle.model_files.specs.declared.tree.Kind.{Kind}
use Rattle.model_files.specs.tree.Node.{Node, row}
use Rattle.model_files.specs.tree.Tree.{View, placed, connection_at, window_at, stat_named}

unfoldable pub kind_stat : View → Node → Kind → List ℕ
kind_stat view node kind = stat_bytes (stat_named (row kind).name (placed view node kind))

unfoldable pub numbered_stat : ℕ × Node → List ℕ
numbered_stat entry = stat_bytes (stat_named (decimal entry.0) entry.1)

abbrev pub connection_stat : Node → ℕ → List ℕ
connection_stat node n = numbered_stat (n, connection_at node n)

abbrev pub window_stat : Node → ℕ × ℕ → List ℕ
window_stat node w = numbered_stat (w.0, window_at node w.1)
