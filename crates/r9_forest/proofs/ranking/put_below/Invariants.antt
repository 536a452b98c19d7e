use Rattle.std.proofs.Common.{◌≡◌, ◌<◌, vec_len, vec_capacity}
use Rattle.model_exchanged.specs.exchanged.Exchanged.{put_below}
use Rattle.r9_forest.proofs.Beneath.{split_below}
use Rattle.r9_forest.proofs.ranking.put_below.Given as goal

abbrev pub invariant-loop-k : goal.invariant-loop-k
invariant-loop-k l = record {
  same : l.windows.items ≡ l.fn.windows.items;
  room : vec_len l.windows < vec_capacity l.windows;
  len : vec_len l.windows ≡ vec_len l.fn.windows;
  below : put_below l.w l.old l.windows.items ≡ split_below l.w l.old l.k l.windows.items;
}
