use Rattle.std.proofs.Common.{◌≡◌, ◌∙◌, ◌<◌, ◌^◌, Bool, true, false, refl, sym, ap, subst}
use Rattle.std.specs.Prelude.{◌&&◌, not}
use Rattle.std.proofs.lemmas.Bool.{and_parts, false≢true}
use Rattle.r9_geom.specs.declared.Point.{Point}
use Rattle.r9_geom.specs.Geometry.{holds}
use Rattle.r9_geom.proofs.GeometryLemmas.{near_point}
use Rattle.model_forest.specs.World.{image_at}
use Rattle.model_forest.proofs.Changes.{live-standing}
use Rattle.model_kept.specs.Keeping.{own, Place}
use Rattle.model_kept.specs.Restack.{with_own}
use Rattle.r9_locate.specs.locate.Table.{shape}
use Rattle.r9_shown.specs.Shown.{block}
use Rattle.r9_shown.proofs.Pieces.{corner_in}
use Rattle.r9_restack.specs.Moving.{more_in}
use Rattle.r9_restack.specs.Placing.{comes, shows, with_coming}
use Rattle.r9_restack.specs.Stacks.{after_of}
use Rattle.r9_restack.proofs.Changes.{changed-none, changed-same, changing}
use Rattle.r9_restack.proofs.Parting.{nearby}
use Rattle.r9_restack.proofs.Showing.{seen, unshown}
use Rattle.r9_restack.proofs.Stacked.{from_not, from_not_false}
use Rattle.r9_restack.proofs.Placed.{coming_all, coming_none, own-stays, placed_more, placed_own}
use Rattle.r9_restack.proofs.placing.place_block.Goals as goal

-- a window has as many bits as the image below
pub keep_block-requires-clause-below : goal.keep_block-requires-clause-below
keep_block-requires-clause-below g c z =
    let world = shape c.args.lists.now in
    let alive = live-standing world c.args.w c.args.p c.requires.above in
    subst (λ m. g.S.Source.given c.args.source.now z < 2 ^ m) (sym (c.requires.bits c.args.w c.args.p alive c.requires.above)) (c.requires.given z)

pub change_block-requires-clause-near : goal.change_block-requires-clause-near
change_block-requires-clause-near g c =
    let world = shape c.args.lists.now in
    let q = c.args.q in
    let corner = corner_in q c.args.columns c.args.rows c.requires.some c.requires.some_rows in
    let told = seen (image_at world c.args.p).r c.args.area.now c.args.stacks.now c.args.w q c.in-Some.shown (c.requires.shown q corner ∙ c.in-Some.is) in
    near_point (2 ^ 40) (image_at world c.args.p).r q (nearby c.args.lists.now c.args.p c.requires.change.live).0 (and_parts (holds (image_at world c.args.p).r q) _ told.visible).0

pub change_block-requires-clause-inside : goal.change_block-requires-clause-inside
change_block-requires-clause-inside g c z h =
    let world = shape c.args.lists.now in
    let told = seen (image_at world c.args.p).r c.args.area.now c.args.stacks.now c.args.w z c.in-Some.shown (c.requires.shown z h ∙ c.in-Some.is) in
    (and_parts (holds (image_at world c.args.p).r z) _ told.visible).0

pub change_block-requires-clause-tops : goal.change_block-requires-clause-tops
change_block-requires-clause-tops g c z h =
    (seen (image_at (shape c.args.lists.now) c.args.p).r c.args.area.now c.args.stacks.now c.args.w z c.in-Some.shown (c.requires.shown z h ∙ c.in-Some.is)).tops

-- what is hidden is written with the window
pub returns-in_default-clause-moved : goal.returns-in_default-clause-moved
returns-in_default-clause-moved g c before done coming m =
    let world = shape c.args.lists.now in
    let new = after_of c.args.stacks.now in
    let given = g.S.Source.given c.args.source.now in
    let fill = g.S.Source.fill c.args.source.now in
    let kept = g.P.Pixels.kept in
    let now = kept c.keep_block.new.pixels in
    let comings = comes (image_at world c.args.p).r c.args.area.now new c.args.w in
    let hidden : (z : Point) → holds (block c.args.q c.args.columns c.args.rows) z ≡ true → shows (image_at world c.args.p).r new c.args.w z ≡ false =
    λ z h. unshown (image_at world c.args.p).r c.args.area.now c.args.stacks.now c.args.w z (c.requires.shown z h ∙ c.in_default.is) in
    let here = block c.args.q c.args.columns c.args.rows in
    changed-same world c.args.p new c.args.w given fill (with_own c.args.w (λ x. now (own c.args.w x)) before) now done (with_coming here comings done)
    (coming_none here comings done (λ z h. ap (λ b. b && not (holds c.args.area.now z)) (hidden z h)))
    (placed_own world c.args.p new c.args.w given fill (changing c.args.lists.now c.args.p new c.args.w c.requires.change) c.requires.above before (kept c.args.pixels.now) now done
    (λ place other. c.keep_block.ensures.others place (λ z h same. other (ap (λ (l : Place). l.image) same)))
    m)

pub returns-in_default-clause-others : goal.returns-in_default-clause-others
returns-in_default-clause-others g c z away =
    c.keep_block.ensures.others (own c.args.w z) (λ y h same. false≢true (sym away ∙ ap (holds (block c.args.x c.args.columns c.args.rows)) (ap (λ (l : Place). l.at) same) ∙ h))

-- what shows is moved
pub returns-then-not-shown-clause-moved : goal.returns-then-not-shown-clause-moved
returns-then-not-shown-clause-moved g c before done coming m =
    let world = shape c.args.lists.now in
    let new = after_of c.args.stacks.now in
    let given = g.S.Source.given c.args.source.now in
    let fill = g.S.Source.fill c.args.source.now in
    let comings = comes (image_at world c.args.p).r c.args.area.now new c.args.w in
    let kept = g.P.Pixels.kept in
    let now = kept c.change_block.new.pixels in
    let here = block c.args.q c.args.columns c.args.rows in
    let all : (z : Point) → holds here z ≡ true → comings z ≡ true =
    λ z h.
    let told = seen (image_at world c.args.p).r c.args.area.now c.args.stacks.now c.args.w z c.in-Some.shown (c.requires.shown z h ∙ c.in-Some.is) in
    let away : holds c.args.area.now z ≡ false = told.done ∙ from_not c.in-Some.shown.done c.if-not-shown.true in
    λ j. told.visible j && not (away j) in
    changed-same world c.args.p new c.args.w given fill (with_own c.args.w (λ x. now (own c.args.w x)) before) now (more_in here done) (with_coming here comings done)
    (coming_all here comings done all)
    (placed_more world c.args.p new c.args.w given fill (changing c.args.lists.now c.args.p new c.args.w c.requires.change) c.requires.above before (kept c.args.pixels.now) now done (more_in here done)
    (c.change_block.ensures.moved (with_own c.args.w (λ x. kept c.args.pixels.now (own c.args.w x)) before) done (λ z h. coming z h (all z h)))
    m)

pub returns-then-not-shown-clause-others : goal.returns-then-not-shown-clause-others
returns-then-not-shown-clause-others g c z away =
    let world = shape c.args.lists.now in
    let new = after_of c.args.stacks.now in
    let given = g.S.Source.given c.args.source.now in
    let fill = g.S.Source.fill c.args.source.now in
    let kept = g.P.Pixels.kept in
    own-stays world c.args.p new c.args.w given fill (changing c.args.lists.now c.args.p new c.args.w c.requires.change) c.requires.above (kept c.args.pixels.now) (kept c.change_block.new.pixels) (more_in (block c.args.q c.args.columns c.args.rows) (λ _. false)) z
    (c.change_block.ensures.moved (kept c.args.pixels.now) (λ _. false) (λ y h. refl)
    (changed-none world c.args.p new c.args.w given fill (kept c.args.pixels.now) (λ _. false) (λ _. refl)))

-- what is done stays
pub returns-else-not-shown-clause-moved : goal.returns-else-not-shown-clause-moved
returns-else-not-shown-clause-moved g c before done coming m =
    let world = shape c.args.lists.now in
    let new = after_of c.args.stacks.now in
    let below = (image_at world c.args.p).r in
    let kept = g.P.Pixels.kept c.args.pixels.now in
    let here = block c.args.q c.args.columns c.args.rows in
    changed-same world c.args.p new c.args.w (g.S.Source.given c.args.source.now) (g.S.Source.fill c.args.source.now) (with_own c.args.w (λ x. kept (own c.args.w x)) before) kept done (with_coming here (comes below c.args.area.now new c.args.w) done)
    (coming_none here (comes below c.args.area.now new c.args.w) done
    (λ z h.
    ap (λ b. shows below new c.args.w z && not b)
    ((seen below c.args.area.now c.args.stacks.now c.args.w z c.in-Some.shown (c.requires.shown z h ∙ c.in-Some.is)).done ∙ from_not_false c.in-Some.shown.done c.if-not-shown.false)
    ∙ and_none (shows below new c.args.w z)))
    m
  where
    and_none : (b : Bool) → (b && false) ≡ false
    and_none true = refl
    and_none false = refl

pub change_block-requires-clause-given : goal.change_block-requires-clause-given
change_block-requires-clause-given g c stands x = c.requires.given x
