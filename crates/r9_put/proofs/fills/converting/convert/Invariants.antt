use Rattle.std.proofs.Common.{◌≡◌, ◌<◌, ◌≤◌, ◌^◌, ℕ, get_or}
use Rattle.model_pixel.specs.Channels.{depth, expand, pack}
use Rattle.r9_put.proofs.fills.converting.convert.Given as goal

abbrev pub invariant-loop-k : goal.invariant-loop-k
invariant-loop-k l = record {
  value : (j : ℕ) → j < l.k → get_or l.raws j 0 ≡ pack l.to (expand l.from (get_or l.fn.raws j 0));
  range : (j : ℕ) → j < l.k → get_or l.raws j 0 < 2 ^ depth l.to;
  left : (j : ℕ) → l.k ≤ j → get_or l.raws j 0 ≡ get_or l.fn.raws j 0;
  kept : l.value ≡ pack l.to (expand l.from l.last);
  fits : l.value < 2 ^ depth l.to;
}
