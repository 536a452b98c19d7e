use Rattle.std.proofs.Common.{◌≡◌, ◌∙◌, ℕ, ◌+◌, ◌<◌, ◌^◌, List, [], ◌∷◌, Some, None, cond, find, is_some, length, eq-eqb, refl, sym, subst, ap, arith}
use Rattle.std.specs.Prelude.{◌==◌, option_map}
use Rattle.std.specs.Option.{option_map_or}
use Rattle.std.specs.List.{count_by}
use Rattle.std.proofs.lemmas.List.Elements.{All-nil}
use Rattle.model_pixel.specs.Channels.{depth}
use Rattle.model_forest.specs.declared.Window.{Window}
use Rattle.model_forest.specs.Numbers.{next_number, taken}
use Rattle.model_forest.specs.Stack.{after_window}
use Rattle.model_forest.specs.World.{Image, World, image_at, no_rect, IsForest, IsLive}
use Rattle.model_forest.proofs.Steps.{IsForest-after_window}
use Rattle.model_kept.specs.Keeping.{place_among}
use Rattle.model_kept.proofs.Worlds.{pictured}
use Rattle.r9_locate.specs.locate.Table.{made, shape}
use Rattle.r9_pixels.specs.Kept.{kept_at}
use Rattle.r9_pixels.specs.Places.{StandsOn}
use Rattle.r9_relist.specs.arrive.Arriving.{after_coming, with_coming, IsComing}
use Rattle.r9_relist.proofs.arrive.Canvases.{bare_canvas}
use Rattle.r9_relist.proofs.arrive.Coming.{on_top_comes}
use Rattle.r9_relist.proofs.arrive.Entering.{on_err}
use Rattle.r9_forest.specs.Images.{numbers, world}
use Rattle.r9_forest.specs.Numbered.{numbers_of}
use Rattle.r9_forest.proofs.Numbers.{peeked}
use Rattle.r9_forest.proofs.Sounding.{sound_live}
use Rattle.r9_forest.proofs.images.Images.window.Given.{Over}
use Rattle.r9_forest.proofs.images.Images.window.Goals as goal
use Rattle.r9_forest.proofs.images.Images.window.Goals.{After-on_top, In_ok-reserve_window}

-- the parent after room was made
live : (g : Over) (c : In_ok-reserve_window g) → IsLive (world c.reserve_window.new.self) c.args.parent
live g c = ap (λ (w : World). is_some (w c.args.parent)) c.in_ok-reserve_window.ensures.kept.world ∙ c.requires.parent

below : (g : Over) (c : In_ok-reserve_window g) → IsLive (shape c.reserve_window.new.self.lists) c.args.parent
unfolding world
below g c = sound_live c.reserve_window.new.self.lists (kept_at c.reserve_window.new.self.pixels) c.args.parent (live g c)

fits : (g : Over) (c : In_ok-reserve_window g) → c.args.raw < 2 ^ depth (image_at (world c.reserve_window.new.self) c.args.parent).chan
fits g c = subst (λ (w : World). c.args.raw < 2 ^ depth (image_at w c.args.parent).chan) (sym c.in_ok-reserve_window.ensures.kept.world) c.requires.raw

-- the number that comes next
peek : (g : Over) (c : After-on_top g) → c.peek_number-i.result ≡ next_number (numbers c.reserve_window.new.self)
unfolding numbers
peek g c = c.peek_number-i.ensures ∙ (λ j. next_number (numbers_of (c.len-made.ensures.value j) (c.deref.ensures.value j)))

-- and is free
free : (g : Over) (c : After-on_top g) → world c.reserve_window.new.self c.peek_number-i.result ≡ None
unfolding world numbers
free g c =
    let now = c.reserve_window.new.self in
    ap (option_map {T = Image} (pictured (shape now.lists) (kept_at now.pixels) c.peek_number-i.result))
    (peeked (shape now.lists) (made now.lists) now.spare.items c.peek_number-i.result (peek g c) now.sound.numbers).1

-- the parent has room for a window more
few : (g : Over) (c : After-on_top g) → ((image_at (shape c.reserve_window.new.self.lists) c.args.parent).depth + 1 < 2 ^ 32) × (length (image_at (shape c.reserve_window.new.self.lists) c.args.parent).windows + 1 < 2 ^ 32)
few g c =
    let deep = ap (λ (im : Image). im.depth) c.get-below.ensures in
    let long = ap (λ (im : Image). length im.windows) c.get-below.ensures in
    let room = c.is_full.ensures c.if-is_full.false in
    (omega (arith, deep, room.0), omega (arith, long, room.1))

abbrev first : (g : Over) (c : After-on_top g) → Window
first g c = record { image = c.peek_number-i.result; place = c.args.r }

list : (g : Over) (c : After-on_top g) → c.on_top.new.list.items ≡ first g c ∷ (image_at (shape c.reserve_window.new.self.lists) c.args.parent).windows
list g c =
    c.on_top.ensures.items
    ∙ ap (λ (ws : List Window). first g c ∷ ws) (c.deref-2.ensures.value ∙ sym (ap (λ (im : Image). im.windows) c.get-below.ensures))

-- the world then
windowed : (g : Over) (c : After-on_top g) → after_coming (world c.reserve_window.new.self) c.peek_number-i.result c.args.parent c.args.fill c.args.r (λ _. c.args.raw) c.on_top.new.list.items ≡ after_window (world c.reserve_window.new.self) c.peek_number-i.result c.args.parent c.args.fill c.args.r c.args.raw
unfolding world after_window
windowed g c =
    let now = c.reserve_window.new.self in
    ap (after_coming (world now) c.peek_number-i.result c.args.parent c.args.fill c.args.r (λ _. c.args.raw))
    (list g c ∙ ap (λ (ws : List Window). first g c ∷ ws) ((bare_canvas (shape now.lists) (kept_at now.pixels)).windows c.args.parent))

after : (g : Over) (c : After-on_top g) (e : In_ok-reserve_window g) → IsLive (world c.reserve_window.new.self) c.args.parent → c.args.raw < 2 ^ depth (image_at (world c.reserve_window.new.self) c.args.parent).chan → IsForest (after_window (world c.reserve_window.new.self) c.peek_number-i.result c.args.parent c.args.fill c.args.r c.args.raw)
unfolding world
after g c e alive raw =
    let now = c.reserve_window.new.self in
    let same = bare_canvas (shape now.lists) (kept_at now.pixels) in
    let deep = same.deep c.args.parent in
    let long = ap length (same.windows c.args.parent) in
    let room = few g c in
    IsForest-after_window (world now) c.peek_number-i.result c.args.parent c.args.fill c.args.r c.args.raw (free g c) alive
    (ap (λ (w : World). is_some (w c.args.fill)) c.in_ok-reserve_window.ensures.kept.world ∙ c.requires.fill) (omega (arith, deep, room.0)) (omega (arith, long, room.1))
    raw c.requires.near c.requires.ordered now.sound.forest

pub get-below-requires : goal.get-below-requires
get-below-requires g c = below g (goal.at.get-below-requires g c).In_ok-reserve_window

pub peek_number-i-requires : goal.peek_number-i-requires
peek_number-i-requires g c = let few = c.reserve_window.new.self.sound.numbers.few in omega (arith, c.len-made.ensures.value, few)

pub returns-then-is_full-clause-err : goal.returns-then-is_full-clause-err
unfolding world numbers
returns-then-is_full-clause-err g c = record { world = c.in_ok-reserve_window.ensures.kept.world; numbers = c.in_ok-reserve_window.ensures.kept.numbers }

pub come-requires-clause-number : goal.come-requires-clause-number
unfolding numbers
come-requires-clause-number g c = peek g (goal.at.come-requires-clause-number g c).After-on_top

pub come-requires-clause-parent : goal.come-requires-clause-parent
unfolding world
come-requires-clause-parent g c = live g (goal.at.come-requires-clause-parent g c).In_ok-reserve_window

pub come-requires-clause-few : goal.come-requires-clause-few
come-requires-clause-few g c = (few g (goal.at.come-requires-clause-few g c).After-on_top).0

pub come-requires-clause-coming : goal.come-requires-clause-coming
come-requires-clause-coming g c =
    let at = goal.at.come-requires-clause-coming g c in
    let now = c.reserve_window.new.self in
    subst (IsComing (shape now.lists) c.args.parent (first g at.After-on_top)) (sym (list g at.After-on_top)) (on_top_comes (shape now.lists) c.args.parent (first g at.After-on_top))

pub come-requires-clause-forest : goal.come-requires-clause-forest
unfolding world
come-requires-clause-forest g c =
    let at = goal.at.come-requires-clause-forest g c in
    subst IsForest (sym (windowed g at.After-on_top)) (after g at.After-on_top at.In_ok-reserve_window (live g at.In_ok-reserve_window) (fits g at.In_ok-reserve_window))

-- the bits of the parent's pixels
shape_fits : (g : Over) (c : In_ok-reserve_window g) → c.args.raw < 2 ^ depth (image_at (shape c.reserve_window.new.self.lists) c.args.parent).chan
unfolding world
shape_fits g c =
    let now = c.reserve_window.new.self in
    subst (λ (n : ℕ). c.args.raw < 2 ^ depth n) (sym ((bare_canvas (shape now.lists) (kept_at now.pixels)).chan c.args.parent)) (fits g c)

pub come-requires-clause-given : goal.come-requires-clause-given
come-requires-clause-given g c = λ x. shape_fits g (goal.at.come-requires-clause-given g c).In_ok-reserve_window

pub come-requires-clause-also : goal.come-requires-clause-also
come-requires-clause-also g c = below g (goal.at.come-requires-clause-also g c).In_ok-reserve_window

pub come-requires-clause-later : goal.come-requires-clause-later
come-requires-clause-later g c =
    let now = c.reserve_window.new.self in
    All-nil (StandsOn (with_coming (shape now.lists) c.peek_number-i.result c.args.parent c.args.fill c.args.r) c.args.parent)

pub come-requires-clause-later_one : goal.come-requires-clause-later_one
come-requires-clause-later_one g c = All-nil (λ (w : Window). count_by (λ (v : Window). v.image == w.image) [] ≡ 1)

pub come-requires-clause-left : goal.come-requires-clause-left
come-requires-clause-left g c at w k here below hidden shown unlisted = let none : None ≡ Some at = here.first in absurd (cc)

pub come-requires-clause-left_own : goal.come-requires-clause-left_own
come-requires-clause-left_own g c at w k here same below hidden shown = let none : None ≡ Some at = here.first in absurd (cc)

pub come-requires-clause-stands : goal.come-requires-clause-stands
come-requires-clause-stands g c =
    let now = c.reserve_window.new.self in
    let i = c.peek_number-i.result in
    let ws = (image_at (shape now.lists) c.args.parent).windows in
    ap (λ (vs : List Window). place_among vs i) (list g (goal.at.come-requires-clause-stands g c).After-on_top)
    ∙ ap (λ b. option_map_or (λ (v : Window). v.place) (cond b (Some (record { image = i; place = c.args.r })) (find (λ (v : Window). v.image == i) ws)) no_rect) (eq-eqb i i refl)

pub returns-clause-number : goal.returns-clause-number
unfolding numbers
returns-clause-number g c = peek g (goal.at.returns-clause-number g c).After-on_top ∙ ap next_number c.in_ok-reserve_window.ensures.kept.numbers

pub returns-clause-free : goal.returns-clause-free
unfolding world
returns-clause-free g c = ap (λ (w : World). w c.peek_number-i.result) (sym c.in_ok-reserve_window.ensures.kept.world) ∙ c.come.ensures.free

pub returns-clause-made : goal.returns-clause-made
unfolding world after_window
returns-clause-made g c =
    let at = goal.at.returns-clause-made g c in
    c.in_ok-come.ensures.world ∙ windowed g at.After-on_top
    ∙ ap (λ (w : World). after_window w c.peek_number-i.result c.args.parent c.args.fill c.args.r c.args.raw) c.in_ok-reserve_window.ensures.kept.world

pub returns-clause-taken : goal.returns-clause-taken
unfolding numbers
returns-clause-taken g c = c.in_ok-come.ensures.taken ∙ ap taken c.in_ok-reserve_window.ensures.kept.numbers

pub returns-then-is_full-clause-moment : goal.returns-then-is_full-clause-moment
returns-then-is_full-clause-moment g c = c.reserve_window.ensures.moment

pub returns-then-is_full-clause-writes : goal.returns-then-is_full-clause-writes
returns-then-is_full-clause-writes g c = omega (arith, c.reserve_window.ensures.writes)

pub returns-clause-moment : goal.returns-clause-moment
returns-clause-moment g c = c.come.ensures.moment ∙ c.reserve_window.ensures.moment

pub returns-clause-writes : goal.returns-clause-writes
returns-clause-writes g c = omega (arith, c.come.ensures.writes, c.reserve_window.ensures.writes)

pub returns-in_err-come-clause-err : goal.returns-in_err-come-clause-err
unfolding world numbers
returns-in_err-come-clause-err g c =
    on_err c.from_residual-in_err-come.result
    (record {
      world = c.in_err-come.ensures.err.world ∙ c.in_ok-reserve_window.ensures.kept.world;
      numbers = c.in_err-come.ensures.err.numbers ∙ c.in_ok-reserve_window.ensures.kept.numbers;
    })
