-- Which calls of a form in memory fail.
use Rattle.std.specs.Prelude.{◌==◌, Bool}
use Rattle.std.specs.List.{list_any}
use Rattle.r9_outside.specs.outside.Count.{one_more}
use Rattle.r9_outside.specs.declared.outside.memory.Fails.{Fails}

-- the number of the next call stands in the list of those that fail
abbrev pub fails_next : Fails → Bool
fails_next fails = list_any (λ number. number == one_more fails.calls) fails.at.items
