-- The hosts of rios, and the windows among them that became hosts.
use Rattle.std.proofs.Common.{◌≡◌, ℕ, Bool, true, false, cond, List, [], ◌∷◌, map, Option, Some, None, is_some, find, filter_map, drop, ◌==◌, ◌||◌, if◌then◌else◌, refl, ap, ◌∙◌}
use Rattle.std.specs.List.{cons_option, list_any}
use Rattle.r9_event.specs.declared.event.own.Use.TheVariants as uses
use Rattle.model_rio.specs.rio.Table.{Rio, Table, is_host}
use Rattle.model_alone.specs.alone.Uses.{new_hosts}
use Rattle.r9_hall.specs.seen.View.{hosts_among, hosts_of}

any_found : (serial : ℕ) (rios : List Rio) → list_any (λ n. n == serial) (map (λ rio. rio.host) rios) ≡ is_some (find (λ (rio : Rio). rio.host == serial) rios)
any_found serial [] = refl
any_found serial (rio ∷ rios) = by (rio.host == serial) (find (λ (rio : Rio). rio.host == serial) rios) (any_found serial rios)
  where
    by : (b : Bool) (o : Option Rio) {x : Bool} → x ≡ is_some o → (b || x) ≡ is_some (cond b (Some rio) o)
    by true o same = refl
    by false o same = same

added : (table : Table) (rios : List Rio) → hosts_among (hosts_of table) (map (λ rio. rio.host) rios) ≡ filter_map (λ rio. if is_host table rio.host then None else Some (uses.Host rio.host)) rios
added table [] = refl
added table (rio ∷ rios) =
    λ i. cons_option (if any_found rio.host (table.root ∷ table.rios) i then None else Some (uses.Host rio.host)) (added table rios i)

-- behind the host of the root rio stand those of the others
pub hosts_added : (before first : List ℕ) (rios : List ℕ) (table next : Table) → first ≡ hosts_of next → rios ≡ drop 1 first → before ≡ hosts_of table → hosts_among before rios ≡ new_hosts table next
hosts_added before first rios table next all behind is =
    (λ i. hosts_among (is i) ((behind ∙ ap (λ (l : List ℕ). drop 1 l) all) i)) ∙ added table next.rios
