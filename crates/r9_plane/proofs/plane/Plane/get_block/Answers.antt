use Rattle.std.proofs.Common.{◌≡◌, ◌∙◌, ◌^◌, ◌<◌, ℕ, ap, sym, subst, length, arith}
use Rattle.std.proofs.lemmas.Bool.{both_ways}
use Rattle.model_pixel.specs.Channels.{depth}
use Rattle.model_pixel.specs.Rows.{raw_at}
use Rattle.r9_geom.proofs.GeometryLemmas.{empty_holds}
use Rattle.r9_plane.specs.Blocks.{number_in}
use Rattle.r9_plane.specs.Pixels.{pixel_at, pixel_of}
use Rattle.r9_plane.proofs.Among.{corner_of, number_in_plane, plane_rows_at}
use Rattle.r9_plane.proofs.PlaneLemmas.{pixel_inside}
use Rattle.r9_plane.proofs.plane.Plane.get_block.Goals as goal

pub returns-then-is_empty-clause-pixels : goal.returns-then-is_empty-clause-pixels
returns-then-is_empty-clause-pixels c p h = absurd (both_ways _ (empty_holds c.args.r.now p (sym c.is_empty.ensures.exact ∙ c.if-is_empty.true)) h)

pub returns-then-is_empty-clause-range : goal.returns-then-is_empty-clause-range
returns-then-is_empty-clause-range c p h = absurd (both_ways _ (empty_holds c.args.r.now p (sym c.is_empty.ensures.exact ∙ c.if-is_empty.true)) h)

pub number-from_first-requires : goal.number-from_first-requires
number-from_first-requires c =
    c.requires.inside c.args.r.now.min (corner_of c.args.self.now.r c.args.r.now (sym c.is_empty.ensures.exact ∙ c.if-is_empty.false) c.requires.inside)

pub read_packed-requires-clause-from_rows : goal.read_packed-requires-clause-from_rows
read_packed-requires-clause-from_rows c =
    let plane = c.args.self.now in
    plane_rows_at plane.r c.args.r.now plane.depth plane.bytes.len c.number-from_first.result plane.columns (length c.deref.result.now) c.requires.ordered (sym c.is_empty.ensures.exact ∙ c.if-is_empty.false) c.requires.inside plane.countable plane.room
    c.number-from_first.ensures.value plane.columns_are (omega (arith, c.deref.ensures.len))

pub returns-clause-pixels : goal.returns-clause-pixels
unfolding pixel_at
returns-clause-pixels c p h =
    let plane = c.args.self.now in
    let r = c.args.r.now in
    let first = c.requires.inside r.min (corner_of plane.r r (sym c.is_empty.ensures.exact ∙ c.if-is_empty.false) c.requires.inside) in
    c.read_packed.ensures.pixels p h
    ∙ (λ t. raw_at (plane.depth_is t) (c.deref.ensures.value t) (number_in r (c.number-from_first.ensures.value t) (plane.columns_are t) p))
    ∙ ap (raw_at (depth plane.chan) plane.bytes.items) (number_in_plane plane.r r p first h)
    ∙ sym (pixel_inside plane.r plane.chan plane.bytes.items p (c.requires.inside p h))

pub returns-clause-range : goal.returns-clause-range
unfolding pixel_at
returns-clause-range c p h =
    let plane = c.args.self.now in
    let r = c.args.r.now in
    let first = c.requires.inside r.min (corner_of plane.r r (sym c.is_empty.ensures.exact ∙ c.if-is_empty.false) c.requires.inside) in
    let read = raw_at plane.depth c.deref.result.now (number_in r c.number-from_first.result plane.columns p) in
    let is : read ≡ pixel_of plane.r plane.chan plane.bytes.items p =
    ((λ t. raw_at (plane.depth_is t) (c.deref.ensures.value t) (number_in r (c.number-from_first.ensures.value t) (plane.columns_are t) p))
    ∙ ap (raw_at (depth plane.chan) plane.bytes.items) (number_in_plane plane.r r p first h)
    ∙ sym (pixel_inside plane.r plane.chan plane.bytes.items p (c.requires.inside p h))) in
    subst (λ (v : ℕ). v < 2 ^ depth plane.chan) is (subst (λ (d : ℕ). read < 2 ^ d) plane.depth_is (c.read_packed.ensures.range p h))
