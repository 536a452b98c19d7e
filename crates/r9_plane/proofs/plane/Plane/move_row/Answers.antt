use Rattle.std.proofs.Common.{◌≡◌, ◌+◌, ◌∙◌, ap, sym, length, arith}
use Rattle.std.specs.Int.Bits.{bit_and}
use Rattle.std.proofs.lemmas.List.{with_items_is}
use Rattle.model_pixel.specs.Rows.{raw_at}
use Rattle.r9_plane.specs.Pixels.{along, pixel_at, pixel_of}
use Rattle.r9_plane.proofs.PlaneLemmas.{row_read, row_written, run_below, run_fits, start_in}
use Rattle.r9_plane.proofs.plane.Plane.move_row.Goals as goal

pub number-first-requires : goal.number-first-requires
number-first-requires c = start_in c.args.self.now.r c.args.at c.args.width (omega arith) c.requires.inside

pub number-from_first-requires : goal.number-from_first-requires
number-from_first-requires c = start_in c.args.self.now.r c.args.from c.args.width (omega arith) c.requires.inside_from

pub move_run-requires-clause-numbers : goal.move_run-requires-clause-numbers
move_run-requires-clause-numbers c =
    let plane = c.args.self.now in
    omega (arith, run_below plane.r c.args.at c.args.width (omega arith) c.requires.inside, c.number-first.ensures.value, plane.countable)

pub move_run-requires-clause-from_numbers : goal.move_run-requires-clause-from_numbers
move_run-requires-clause-from_numbers c =
    let plane = c.args.self.now in
    omega (arith, run_below plane.r c.args.from c.args.width (omega arith) c.requires.inside_from, c.number-from_first.ensures.value, plane.countable)

pub move_run-requires-clause-within : goal.move_run-requires-clause-within
move_run-requires-clause-within c =
    let plane = c.args.self.now in
    let fits = run_fits plane.r c.args.at c.args.width c.number-first.result plane.depth plane.bytes.len (omega arith) c.requires.inside c.number-first.ensures.value plane.room in
    omega (arith, fits, c.deref_mut.ensures.len)

pub move_run-requires-clause-from : goal.move_run-requires-clause-from
move_run-requires-clause-from c =
    let plane = c.args.self.now in
    let fits = run_fits plane.r c.args.from c.args.width c.number-from_first.result plane.depth plane.bytes.len (omega arith) c.requires.inside_from c.number-from_first.ensures.value plane.room in
    omega (arith, fits, c.deref_mut.ensures.len)

pub returns-clause-pixels : goal.returns-clause-pixels
unfolding pixel_at
returns-clause-pixels c q =
    let plane = c.args.self.now in
    let first = c.number-first.ensures.value in
    let bytes = c.move_run.new.bytes in
    let size : length bytes ≡ plane.bytes.len = omega arith in
    ap (λ items. pixel_of plane.r plane.chan items q) (with_items_is plane.bytes bytes size)
    ∙ row_written plane.r plane.chan plane.bytes.items bytes c.args.at c.args.width (λ i. bit_and (pixel_at plane (along c.args.from i)) c.args.bits) c.requires.inside
    (record {
      written = λ i h.
          (λ t. raw_at (sym plane.depth_is t) bytes (sym first t + i))
          ∙ c.move_run.ensures.written i h
          ∙ ap (λ raw. bit_and raw c.args.bits)
          ((λ t. raw_at (plane.depth_is t) (c.deref_mut.ensures.value t) (c.number-from_first.ensures.value t + i))
          ∙ row_read plane.r plane.chan plane.bytes.items c.args.from c.args.width i c.requires.inside_from h);
      others = λ n apart.
          ap (λ d. raw_at d bytes n) (sym plane.depth_is)
          ∙ c.move_run.ensures.others n (λ i h same. apart i h (same ∙ ap (λ f. f + i) first))
          ∙ (λ t. raw_at (plane.depth_is t) (c.deref_mut.ensures.value t) n);
    }) q
