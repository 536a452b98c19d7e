-- What the code sees of messages as the definitions have it.
use Rattle.std.specs.Prelude.{ℕ, ◌==◌, List, ◌∷◌, map, Some, None, if◌then◌else◌}
use Rattle.std.specs.List.{filter_map, list_any}
use Rattle.r9_event.specs.declared.event.own.Use.{Use}
use Rattle.r9_event.specs.declared.event.own.Use.TheVariants as uses
use Rattle.model_rio.specs.rio.Table.{Table}
use Rattle.model_alone.specs.used.Look as model
use Rattle.r9_hall.specs.declared.seen.look.Look.{Look}
use Rattle.r9_hall.specs.declared.seen.look.Look.TheVariants as look

abbrev pub look_of : Look → model.Look
look_of (look.Uses uses) = model.Uses uses
look_of (look.UsesIfDone uses) = model.UsesIfDone uses
look_of (look.Attaches fid fresh) = model.Attaches fid fresh
look_of (look.Draws connection bytes) = model.Draws connection bytes

-- the serials of the hosts of all rios
abbrev pub hosts_of : Table → List ℕ
hosts_of table = map (λ rio. rio.host) (table.root ∷ table.rios)

-- the windows among hosts of rios that were no hosts before
abbrev pub hosts_among : (before : List ℕ) → (rios : List ℕ) → List Use
hosts_among before rios = filter_map (λ host. if list_any (λ n. n == host) before then None else Some (uses.Host host)) rios
