use Rattle.std.proofs.Common.{◌≡◌, ◌∙◌, ap, sym, length, get_or, arith}
use Rattle.std.proofs.lemmas.Bool.{cond-false}
use Rattle.std.proofs.lemmas.List.{with_items_is}
use Rattle.model_pixel.specs.Rows.{raw_at}
use Rattle.r9_geom.proofs.GeometryLemmas.{empty_holds}
use Rattle.r9_geom.specs.declared.Point.{Point}
use Rattle.r9_geom.specs.Geometry.{width}
use Rattle.r9_plane.specs.Blocks.{number_in}
use Rattle.r9_plane.specs.Pixels.{number_of, pixel_at, pixel_of}
use Rattle.r9_plane.proofs.Among.{block_written, corner_of, plane_rows_at}
use Rattle.r9_plane.proofs.plane.Plane.write_block.Goals as goal

pub returns-then-is_empty-clause-pixels : goal.returns-then-is_empty-clause-pixels
returns-then-is_empty-clause-pixels c q = sym (cond-false _ _ _ (empty_holds c.args.r.now q (sym c.is_empty.ensures.exact ∙ c.if-is_empty.true)))

pub number-to_first-requires : goal.number-to_first-requires
number-to_first-requires c =
    c.requires.inside c.args.r.now.min (corner_of c.args.self.now.r c.args.r.now (sym c.is_empty.ensures.exact ∙ c.if-is_empty.false) c.requires.inside)

pub write_packed-requires-clause-rows : goal.write_packed-requires-clause-rows
write_packed-requires-clause-rows c =
    let plane = c.args.self.now in
    plane_rows_at plane.r c.args.r.now plane.depth plane.bytes.len c.number-to_first.result plane.columns (length c.deref_mut.result.now) c.requires.ordered (sym c.is_empty.ensures.exact ∙ c.if-is_empty.false) c.requires.inside plane.countable plane.room
    c.number-to_first.ensures.value plane.columns_are (omega (arith, c.deref_mut.ensures.len))

pub returns-clause-pixels : goal.returns-clause-pixels
unfolding pixel_at
returns-clause-pixels c q =
    let plane = c.args.self.now in
    let r = c.args.r.now in
    let first = c.requires.inside r.min (corner_of plane.r r (sym c.is_empty.ensures.exact ∙ c.if-is_empty.false) c.requires.inside) in
    let bytes = c.write_packed.new.bytes in
    let size : length bytes ≡ plane.bytes.len = omega arith in
    let number : (p : Point) → number_in r c.number-to_first.result plane.columns p ≡ number_in r (number_of plane.r r.min) (width plane.r) p = (λ p. λ t. number_in r (c.number-to_first.ensures.value t) (plane.columns_are t) p) in
    ap (λ items. pixel_of plane.r plane.chan items q) (with_items_is plane.bytes bytes size)
    ∙ block_written plane.r r plane.chan plane.bytes.items bytes (λ (p : Point). get_or c.args.raws.now (number_in r c.args.first c.args.width p) 0) first c.requires.inside
    (λ p h. (λ t. raw_at (sym plane.depth_is t) bytes (sym (number p) t)) ∙ c.write_packed.ensures.pixels p h)
    (λ n apart.
    ap (λ d. raw_at d bytes n) (sym plane.depth_is)
    ∙ c.write_packed.ensures.others n (λ p h same. apart p h (same ∙ number p))
    ∙ (λ t. raw_at (plane.depth_is t) (c.deref_mut.ensures.value t) n))
    q
