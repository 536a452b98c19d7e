use Rattle.std.proofs.Common.{◌≡◌, ◌+◌, ◌*◌, ◌++◌, length, drop, map}
use Rattle.std.specs.List.{flat_map}
use Rattle.model_files.specs.wire.Spelling.{qid_bytes}
use Rattle.r9_wire.specs.Qid.{qid_of}
use Rattle.r9_wire.proofs.puts.put_each_qid.Given as goal

abbrev pub invariant-loop-qid : goal.invariant-loop-qid
invariant-loop-qid l =
    (l.out ++ flat_map qid_bytes (map qid_of (drop l.qid-index l.qids)) ≡ l.initial.out ++ flat_map qid_bytes (map qid_of l.qids))
    × (length l.out ≡ length l.initial.out + 13 * l.qid-index)
