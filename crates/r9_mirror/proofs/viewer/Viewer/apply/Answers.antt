use Rattle.std.proofs.Common.{◌≡◌, ◌∙◌, ℕ, Option, Some, Ok, IfSome, ap, subst, sym}
use Rattle.std.specs.Option.{option_map}
use Rattle.r9_plane.specs.declared.plane.Plane.{Plane}
use Rattle.r9_plane.specs.Pixels as planes
use Rattle.model_client.specs.mirror.Picture.{Picture}
use Rattle.model_client.specs.mirror.Frames.{viewed}
use Rattle.r9_mirror.specs.Sizes.{size_of}
use Rattle.r9_mirror.specs.Shown.{shown, IsScreen}
use Rattle.r9_mirror.specs.View.{picture_of}
use Rattle.r9_mirror.proofs.viewer.Viewer.apply.Goals as goal

pub returns-in-Some-clause-ok : goal.returns-in-Some-clause-ok
returns-in-Some-clause-ok c =
    let before = picture_of c.args.self.now in
    let text = c.args.text.now in
    let plane = c.in-Some.plane in
    let now = c.resize.new.self in
    let same = sym c.size-size.ensures.size in
    let read = c.in-Ok.ensures.last before same in
    let screen = subst (λ (o : Option Plane). IfSome o (IsScreen now.chan)) c.in-Some.is now.screen in
    let chan : planes.chan_of plane ≡ c.args.self.now.chan = screen.channels ∙ c.resize.ensures.chan in
    let here : picture_of now ≡ Some (shown plane) = ap (option_map shown) c.in-Some.is in
    let sized : Some (size_of (shown plane)) ≡ c.in-Ok.last = sym (ap (option_map size_of) here) ∙ c.in_ok-resize.ensures.size in
    read.1
    ∙ ap (λ (o : Option Picture). Ok o)
    (c.put.ensures.shown before read.0 same
    (λ e. sym (c.in_ok-resize.ensures.same (same ∙ e ∙ sized)) ∙ here)
    (ap (λ (n : ℕ). viewed n before text) chan ∙ read.1)
    (read.2 ∙ sym sized))
