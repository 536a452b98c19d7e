use Rattle.std.proofs.Common.{◌+◌, ◌∙◌, length, arith}
use Rattle.model_pixel.specs.Rows.{raw_at}
use Rattle.r9_plane.specs.Pixels.{pixel_at}
use Rattle.r9_plane.proofs.PlaneLemmas.{row_read, run_below, run_fits, some_of, start_in}
use Rattle.r9_plane.proofs.plane.Plane.get_row.Goals as goal

pub number-first-requires : goal.number-first-requires
number-first-requires c = start_in c.args.self.now.r c.args.at (length c.args.raws.now) (some_of (length c.args.raws.now) c.is_empty.ensures c.if-is_empty.false) c.requires.inside

pub read_run-requires-clause-numbers : goal.read_run-requires-clause-numbers
read_run-requires-clause-numbers c =
    let plane = c.args.self.now in
    omega (arith, run_below plane.r c.args.at (length c.args.raws.now) (some_of (length c.args.raws.now) c.is_empty.ensures c.if-is_empty.false) c.requires.inside, c.number-first.ensures.value, plane.countable)

pub read_run-requires-clause-within : goal.read_run-requires-clause-within
read_run-requires-clause-within c =
    let plane = c.args.self.now in
    let fits = run_fits plane.r c.args.at (length c.args.raws.now) c.number-first.result plane.depth plane.bytes.len (some_of (length c.args.raws.now) c.is_empty.ensures c.if-is_empty.false) c.requires.inside c.number-first.ensures.value plane.room in
    omega (arith, fits, c.deref.ensures.len)

pub returns-clause-pixels : goal.returns-clause-pixels
unfolding pixel_at
returns-clause-pixels c i h =
    let plane = c.args.self.now in
    c.read_run.ensures.value i h
    ∙ (λ t. raw_at (plane.depth_is t) (c.deref.ensures.value t) (c.number-first.ensures.value t + i))
    ∙ row_read plane.r plane.chan plane.bytes.items c.args.at (length c.args.raws.now) i c.requires.inside h
