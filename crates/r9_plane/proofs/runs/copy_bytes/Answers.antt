use Rattle.std.proofs.Common.{◌/◌, length}
use Rattle.r9_plane.proofs.RunLemmas.{put_stretch, small_copied, small_fits, whole_bytes}
use Rattle.r9_plane.proofs.runs.copy_bytes.Goals as goal

pub returns-clause-written : goal.returns-clause-written
returns-clause-written c =
    let depth = c.args.depth in
    let per = 8 / depth in
    let begins = whole_bytes depth c.args.first c.requires.depth c.requires.small c.requires.begins in
    let from_begins = whole_bytes depth c.args.from_first c.requires.depth c.requires.small c.requires.from_begins in
    let whole = whole_bytes depth c.args.count c.requires.depth c.requires.small c.requires.whole in
    (small_copied depth c.args.first c.args.count c.args.from_first (c.args.first / per) (c.args.count / per) (c.args.from_first / per)
    c.args.bytes.now _ c.args.from.now c.requires.depth c.requires.small begins from_begins whole
    (put_stretch c.args.bytes.now c.args.from.now c.copy_from_slice.new.self (c.args.first / per) (c.args.count / per) (c.args.from_first / per)
    (small_fits depth (c.args.first / per) c.args.count (c.args.count / per) (length c.args.bytes.now) c.args.first c.requires.depth c.requires.small begins whole c.requires.within)
    (small_fits depth (c.args.from_first / per) c.args.count (c.args.count / per) (length c.args.from.now) c.args.from_first c.requires.depth c.requires.small from_begins whole c.requires.from)
    c.copy_from_slice.ensures.after)).written

pub returns-clause-others : goal.returns-clause-others
returns-clause-others c =
    let depth = c.args.depth in
    let per = 8 / depth in
    let begins = whole_bytes depth c.args.first c.requires.depth c.requires.small c.requires.begins in
    let from_begins = whole_bytes depth c.args.from_first c.requires.depth c.requires.small c.requires.from_begins in
    let whole = whole_bytes depth c.args.count c.requires.depth c.requires.small c.requires.whole in
    (small_copied depth c.args.first c.args.count c.args.from_first (c.args.first / per) (c.args.count / per) (c.args.from_first / per)
    c.args.bytes.now _ c.args.from.now c.requires.depth c.requires.small begins from_begins whole
    (put_stretch c.args.bytes.now c.args.from.now c.copy_from_slice.new.self (c.args.first / per) (c.args.count / per) (c.args.from_first / per)
    (small_fits depth (c.args.first / per) c.args.count (c.args.count / per) (length c.args.bytes.now) c.args.first c.requires.depth c.requires.small begins whole c.requires.within)
    (small_fits depth (c.args.from_first / per) c.args.count (c.args.count / per) (length c.args.from.now) c.args.from_first c.requires.depth c.requires.small from_begins whole c.requires.from)
    c.copy_from_slice.ensures.after)).others
