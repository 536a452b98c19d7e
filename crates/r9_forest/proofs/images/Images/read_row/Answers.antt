use Rattle.std.proofs.Common.{◌≡◌, ◌∙◌, ◌<◌, ◌^◌, ◌||◌, true, false, get_or, sym, ap, subst, rules}
use Rattle.std.specs.Prelude.{if◌then◌else◌}
use Rattle.std.proofs.lemmas.Bool.{and_parts}
use Rattle.r9_geom.specs.Geometry.{holds, reduced}
use Rattle.model_pixel.specs.Channels.{depth}
use Rattle.r9_plane.specs.Pixels.{along}
use Rattle.model_forest.specs.World.{Image, image_at}
use Rattle.model_forest.specs.View.{view}
use Rattle.model_forest.proofs.Sound.{view-below}
use Rattle.r9_locate.specs.locate.Table.{shape}
use Rattle.r9_pixels.specs.Kept.{kept_at}
use Rattle.r9_forest.specs.Images.{world}
use Rattle.r9_relist.proofs.arrive.Canvases.{bare_canvas}
use Rattle.r9_forest.proofs.images.Images.read_row.Goals as goal
use Rattle.r9_forest.proofs.images.Images.read_row.Goals.{After-get}

-- whether the image repeats
repeats : (c : After-get) → c.get.result.now.repl ≡ (image_at (world c.args.self.now) c.args.i).repl
unfolding world
repeats c =
    let same = bare_canvas (shape c.args.self.now.lists) (kept_at c.args.self.now.pixels) in
    ap (λ (im : Image). im.repl) (sym c.get.ensures) ∙ same.repl c.args.i

pub get-requires : goal.get-requires
unfolding world
get-requires c = (bare_canvas (shape c.args.self.now.lists) (kept_at c.args.self.now.pixels)).live c.args.i ∙ c.requires.live

pub read_repeated-requires-clause-repl : goal.read_repeated-requires-clause-repl
read_repeated-requires-clause-repl c = sym (repeats (goal.at.read_repeated-requires-clause-repl c).After-get) ∙ c.if-get.true

pub read_view-requires-clause-inside : goal.read_view-requires-clause-inside
read_view-requires-clause-inside c p h =
    let image = image_at (world c.args.self.now) c.args.i in
    let no : image.repl ≡ false = sym (repeats (goal.at.read_view-requires-clause-inside c).After-get) ∙ c.if-get.false in
    let both = and_parts (holds image.clipr p) (image.repl || holds image.r p) (c.requires.inside p h) in
    ap (λ b. b || holds image.r p) (sym no) ∙ both.1

pub returns-in-Some-clause-range : goal.returns-in-Some-clause-range
unfolding world
returns-in-Some-clause-range c k below =
    let here = world c.args.self.now in
    let p = along c.args.from k in
    let filled : get_or c.fill.new.self k 0 ≡ c.in-Some.raw = search rules in
    subst (λ n. n < 2 ^ depth (image_at here c.args.i).chan) (c.in-Some.ensures p ∙ sym filled)
    (view-below here c.args.self.now.sound.forest c.args.i (if (image_at here c.args.i).repl then reduced (image_at here c.args.i).r p else p) c.requires.live)

pub returns-then-get-clause-raws : goal.returns-then-get-clause-raws
returns-then-get-clause-raws c k below =
    let here = world c.args.self.now in
    let image = image_at here c.args.i in
    let p = along c.args.from k in
    let yes : image.repl ≡ true = sym (repeats (goal.at.returns-then-get-clause-raws c).After-get) ∙ c.if-get.true in
    c.read_repeated.ensures k below ∙ ap (λ b. view here c.args.i (if b then reduced image.r p else p)) (sym yes)

pub returns-then-get-clause-range : goal.returns-then-get-clause-range
unfolding world
returns-then-get-clause-range c k below =
    let here = world c.args.self.now in
    let image = image_at here c.args.i in
    subst (λ n. n < 2 ^ depth image.chan) (sym (c.read_repeated.ensures k below))
    (view-below here c.args.self.now.sound.forest c.args.i (reduced image.r (along c.args.from k)) c.requires.live)

pub returns-else-get-clause-raws : goal.returns-else-get-clause-raws
returns-else-get-clause-raws c k below =
    let here = world c.args.self.now in
    let image = image_at here c.args.i in
    let p = along c.args.from k in
    let no : image.repl ≡ false = sym (repeats (goal.at.returns-else-get-clause-raws c).After-get) ∙ c.if-get.false in
    c.read_view.ensures k below ∙ ap (λ b. view here c.args.i (if b then reduced image.r p else p)) (sym no)

pub returns-else-get-clause-range : goal.returns-else-get-clause-range
unfolding world
returns-else-get-clause-range c k below =
    let here = world c.args.self.now in
    subst (λ n. n < 2 ^ depth (image_at here c.args.i).chan) (sym (c.read_view.ensures k below))
    (view-below here c.args.self.now.sound.forest c.args.i (along c.args.from k) c.requires.live)
