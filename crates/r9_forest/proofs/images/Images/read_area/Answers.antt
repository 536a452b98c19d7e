use Rattle.std.proofs.Common.{◌≡◌, ◌∙◌, ◌||◌, true, false, sym, ap, arith}
use Rattle.std.specs.Prelude.{if◌then◌else◌}
use Rattle.std.proofs.lemmas.Bool.{and_parts}
use Rattle.std.proofs.Math.Nat.{mul_comm}
use Rattle.r9_geom.specs.declared.Point.{Point as Spot}
use Rattle.r9_geom.specs.Geometry.{height, holds, reduced, width}
use Rattle.model_forest.specs.World.{Image, image_at}
use Rattle.model_forest.specs.View.{view}
use Rattle.r9_locate.specs.locate.Table.{shape}
use Rattle.r9_pixels.specs.Kept.{kept_at}
use Rattle.r9_forest.specs.Images.{world}
use Rattle.r9_relist.proofs.arrive.Canvases.{bare_canvas}
use Rattle.r9_forest.proofs.Showing.{point_has, shown_kept}
use Rattle.r9_forest.proofs.images.Images.read_area.Goals as goal
use Rattle.r9_forest.proofs.images.Images.read_area.Goals.{After-get}

-- whether the image repeats
repeats : (c : After-get) → c.get.result.now.repl ≡ (image_at (world c.args.self.now) c.args.i).repl
unfolding world
repeats c =
    let same = bare_canvas (shape c.args.self.now.lists) (kept_at c.args.self.now.pixels) in
    ap (λ (im : Image). im.repl) (sym c.get.ensures) ∙ same.repl c.args.i

-- where it does not, its own points are read
own : (c : After-get) → c.get.result.now.repl ≡ false → (p : Spot) → holds c.args.r.now p ≡ true → holds (image_at (world c.args.self.now) c.args.i).r p ≡ true
own c once p h =
    let image = image_at (world c.args.self.now) c.args.i in
    let no : image.repl ≡ false = sym (repeats c) ∙ once in
    let both = and_parts (holds image.clipr p) (image.repl || holds image.r p) (c.requires.inside p h) in
    ap (λ b. b || holds image.r p) (sym no) ∙ both.1

pub get-requires : goal.get-requires
unfolding world
get-requires c = (bare_canvas (shape c.args.self.now.lists) (kept_at c.args.self.now.pixels)).live c.args.i ∙ c.requires.live

pub read_area-requires-clause-live : goal.read_area-requires-clause-live
unfolding world
read_area-requires-clause-live c = (bare_canvas (shape c.args.self.now.lists) (kept_at c.args.self.now.pixels)).live c.args.i ∙ c.requires.live

pub read_area-requires-clause-room : goal.read_area-requires-clause-room
read_area-requires-clause-room c = omega (arith, mul_comm (height c.args.r.now) (width c.args.r.now), c.requires.raws)

pub read_area-requires-clause-inside : goal.read_area-requires-clause-inside
unfolding world
read_area-requires-clause-inside c p h =
    ap (λ r. holds r p) ((bare_canvas (shape c.args.self.now.lists) (kept_at c.args.self.now.pixels)).r c.args.i)
    ∙ own (goal.at.read_area-requires-clause-inside c).After-get c.if-get.false p h

pub read_area-requires-clause-has : goal.read_area-requires-clause-has
unfolding world
read_area-requires-clause-has c p h =
    let was = c.args.self.now in
    let same = bare_canvas (shape was.lists) (kept_at was.pixels) in
    point_has was.lists was.pixels was.spare.items c.args.i p was.sound (same.live c.args.i ∙ c.requires.live)
    (ap (λ r. holds r p) (same.r c.args.i) ∙ own (goal.at.read_area-requires-clause-has c).After-get c.if-get.false p h)

pub returns-else-get : goal.returns-else-get
unfolding world
returns-else-get c p h =
    let was = c.args.self.now in
    let here = world was in
    let at = (goal.at.returns-else-get c).After-get in
    let no : (image_at here c.args.i).repl ≡ false = sym (repeats at) ∙ c.if-get.false in
    c.read_area.ensures p h
    ∙ sym (shown_kept (shape was.lists) (kept_at was.pixels) c.args.i p was.sound.forest c.requires.live (own at c.if-get.false p h))
    ∙ ap (λ b. view here c.args.i (if b then reduced (image_at here c.args.i).r p else p)) (sym no)
