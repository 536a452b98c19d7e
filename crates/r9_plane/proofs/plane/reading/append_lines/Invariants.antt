use Rattle.std.proofs.Common.{◌≡◌, ◌++◌}
use Rattle.r9_plane.specs.Lines.{lines_of}
use Rattle.r9_plane.proofs.plane.reading.append_lines.Given as goal

abbrev pub invariant-loop-n : goal.invariant-loop-n
invariant-loop-n l = l.all.items ≡ l.fn.front.items ++ lines_of l.bytes l.first l.across l.line l.n
