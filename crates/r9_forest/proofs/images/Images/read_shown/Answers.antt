use Rattle.std.proofs.Common.{◌≡◌, ◌∙◌, true, get_or, length, sym, ap, subst, arith}
use Rattle.std.proofs.lemmas.List.{with_items_is}
use Rattle.r9_geom.specs.declared.Rect.{Rect}
use Rattle.r9_geom.specs.Geometry.{area_of, holds, IsOrdered, IsRectNear}
use Rattle.model_forest.specs.World.{Image, image_at, IsLive}
use Rattle.r9_plane.specs.Pixels.{number_of}
use Rattle.r9_locate.specs.locate.Table.{shape}
use Rattle.r9_pixels.specs.Kept.{kept_at}
use Rattle.r9_relist.proofs.relist.Lists.{lists_near}
use Rattle.r9_forest.specs.Images.{world}
use Rattle.r9_relist.proofs.arrive.Canvases.{bare_canvas}
use Rattle.r9_forest.proofs.Showing.{point_has, shown_kept}
use Rattle.r9_forest.proofs.Sounding.{sound_forest, sound_live}
use Rattle.r9_forest.proofs.images.Images.read_shown.Goals as goal
use Rattle.r9_forest.proofs.images.Images.read_shown.Goals.{After-get, Start}

live : (c : Start) → IsLive (shape c.args.self.now.lists) c.args.i
unfolding world
live c = sound_live c.args.self.now.lists (kept_at c.args.self.now.pixels) c.args.i c.requires.live

rect : (c : After-get) → c.get.result.now.r ≡ (image_at (shape c.args.self.now.lists) c.args.i).r
rect c = ap (λ (image : Image). image.r) (sym c.get.ensures)

shown_rect : (c : After-get) → c.get.result.now.r ≡ (image_at (world c.args.self.now) c.args.i).r
unfolding world
shown_rect c = rect c ∙ (bare_canvas (shape c.args.self.now.lists) (kept_at c.args.self.now.pixels)).r c.args.i

pub get-requires : goal.get-requires
get-requires c = live (goal.at.get-requires c).Start

pub read_area-requires-clause-live : goal.read_area-requires-clause-live
read_area-requires-clause-live c = live (goal.at.read_area-requires-clause-live c).Start

pub read_area-requires-clause-near : goal.read_area-requires-clause-near
read_area-requires-clause-near c =
    subst (λ (image : Image). IsRectNear image.r) c.get.ensures (lists_near c.args.self.now.lists c.args.i (live (goal.at.read_area-requires-clause-near c).Start)).0

pub read_area-requires-clause-ordered : goal.read_area-requires-clause-ordered
read_area-requires-clause-ordered c =
    let was = c.args.self.now in
    subst (λ (image : Image). IsOrdered image.r) c.get.ensures ((sound_forest was.lists (kept_at was.pixels) was.sound.forest).images c.args.i (live (goal.at.read_area-requires-clause-ordered c).Start)).ordered

pub read_area-requires-clause-room : goal.read_area-requires-clause-room
read_area-requires-clause-room c =
    let size = ap area_of (shown_rect (goal.at.read_area-requires-clause-room c).After-get) in
    omega (arith, size, c.requires.room, c.deref_mut.ensures.len)

pub read_area-requires-clause-inside : goal.read_area-requires-clause-inside
read_area-requires-clause-inside c p h = ap (λ (image : Image). holds image.r p) c.get.ensures ∙ h

pub read_area-requires-clause-has : goal.read_area-requires-clause-has
read_area-requires-clause-has c p h =
    let was = c.args.self.now in
    point_has was.lists was.pixels was.spare.items c.args.i p was.sound (live (goal.at.read_area-requires-clause-has c).Start) (ap (λ (image : Image). holds image.r p) c.get.ensures ∙ h)

pub returns-clause-shown : goal.returns-clause-shown
unfolding world
returns-clause-shown c p h =
    let was = c.args.self.now in
    let is = shown_rect (goal.at.returns-clause-shown c).After-get in
    let read = c.read_area.new.raws in
    let long : length read ≡ was.room.len = omega (arith, c.read_area.auto.raws, c.deref_mut.ensures.len) in
    let there : holds c.get.result.now.r p ≡ true = ap (λ (r : Rect). holds r p) is ∙ h in
    (λ j. get_or (with_items_is was.room read long j) (number_of (sym is j) p) 0)
    ∙ c.read_area.ensures p there
    ∙ sym (shown_kept (shape was.lists) (kept_at was.pixels) c.args.i p was.sound.forest c.requires.live h)
