use Rattle.std.proofs.Common.{◌∙◌, ap, sym, not, refl}
use Rattle.std.specs.Prelude.{is_some, if◌then◌else◌}
use Rattle.std.proofs.lemmas.Bool.{cond-false, cond-true}
use Rattle.r9_geom.specs.declared.Rect.{Rect}
use Rattle.r9_geom.specs.Geometry.{holds}
use Rattle.r9_plane.specs.Pixels.{pixel_at}
use Rattle.r9_mirror.specs.Sizes.{blank_of, size_of}
use Rattle.r9_mirror.specs.Shown.{shown}
use Rattle.r9_mirror.proofs.Screens.{shown_blank}
use Rattle.r9_mirror.proofs.viewer.begin.Goals as goal

pub returns-then-is_none-clause-shown : goal.returns-then-is_none-clause-shown
returns-then-is_none-clause-shown g c =
    let before = shown c.args.plane.now in
    sym (cond-false (is_some c.args.blank) (blank_of (size_of before)) before (c.is_none.ensures ∙ ap not c.if-is_none.true))

pub returns-clause-shown : goal.returns-clause-shown
returns-clause-shown g c =
    let plane = c.args.plane.now in
    let before = shown plane in
    sym
    (cond-true (is_some c.args.blank) (blank_of (size_of before)) before (c.is_none.ensures ∙ ap not c.if-is_none.false)
    ∙ shown_blank plane c.fill.new.self (size_of before) c.fill.ensures.rect refl
    (λ q. c.fill.ensures.pixels q ∙ ap (λ (r : Rect). if holds r q then 0 else pixel_at plane q) c.rect.ensures.value))
