-- A plane, and the moment that proofs look back to.
use Rattle.std.specs.Prelude.{ℕ}
use Rattle.r9_plane.specs.Marks.{mark_count}
use Rattle.r9_locate.specs.watched.Moments.{Moment, moment_at}
use Rattle.r9_locate.specs.declared.watched.Watched.{Watched}

abbrev pub moment_of : Watched → Moment
moment_of watched = moment_at watched.was.value watched.before.value.sum

-- how many cells are marked
abbrev pub count_of : Watched → ℕ
count_of watched = mark_count watched.plane
