use Rattle.std.proofs.Common.{◌≡◌, ◌<◌, vec_len, vec_capacity}
use Rattle.model_forest.specs.Steps.{put_above}
use Rattle.r9_locate.proofs.lists.Ordered.{split_above}
use Rattle.r9_locate.proofs.lists.put_above.Given as goal

abbrev pub invariant-loop-k : goal.invariant-loop-k
invariant-loop-k l = record {
  same : l.windows.items ≡ l.fn.windows.items;
  room : vec_len l.windows < vec_capacity l.windows;
  len : vec_len l.windows ≡ vec_len l.fn.windows;
  above : put_above l.w l.old l.windows.items ≡ split_above l.w l.old l.k l.windows.items;
}
