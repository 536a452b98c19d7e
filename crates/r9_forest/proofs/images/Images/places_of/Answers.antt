use Rattle.std.proofs.Common.{◌≡◌, ◌∙◌, get_or, sym, ap}
use Rattle.std.specs.Prelude.{◌&&◌, ◌||◌}
use Rattle.r9_geom.specs.Geometry.{holds}
use Rattle.r9_locate.specs.declared.info.ImageNo.{ImageNo}
use Rattle.model_forest.specs.World.{Image, image_at}
use Rattle.model_kept.specs.Keeping.{place_among}
use Rattle.r9_region.specs.Region.{covers}
use Rattle.r9_locate.specs.locate.Table.{shape}
use Rattle.r9_forest.proofs.Groups.{corner_covers, places_all, places_more}
use Rattle.r9_forest.proofs.images.Images.places_of.Goals as goal

pub loop-i-init : goal.loop-i-init
loop-i-init c z = c.in_ok-places.ensures z ∙ corner_covers _ z

pub loop-i-preserved : goal.loop-i-preserved
loop-i-preserved c z =
    let group = c.args.group.now in
    let k = c.loop-i.i-index in
    let d : ImageNo = record { 0 = 0 } in
    let windows = c.deref.ensures.value ∙ sym (ap (λ (im : Image). im.windows) c.get-below.ensures) in
    let here : c.place_among.result ≡ place_among (image_at (shape c.args.self.now.lists) c.args.parent).windows (get_or group k d).0 =
    c.place_among.ensures ∙ ap (λ ws. place_among ws (get_or group k d).0) windows in
    places_more (shape c.args.self.now.lists) c.args.parent group k d z (covers c.add.new.self z) (covers c.loop-i.places z) c.loop-i-test.true
    (c.in_ok-add.ensures.points z ∙ ap (λ r. covers c.loop-i.places z || holds r z) here)
    (c.loop-i.invariant z)

pub returns : goal.returns
returns c z =
    c.within.ensures z
    ∙ (λ j. (c.loop-i.invariant z ∙ places_all (shape c.args.self.now.lists) c.args.parent c.args.group.now c.loop-i.i-index z c.loop-i-test.false) j && holds (sym (ap (λ (im : Image). im.r) c.get-below.ensures) j) z)
