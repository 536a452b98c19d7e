use Rattle.std.proofs.Common.{◌≡◌, ◌∙◌, ℕ, ◌<◌, ◌≤◌, ◌^◌, List, None, length, lit≤, sym, subst, ap, arith}
use Rattle.std.specs.Prelude.{option_map}
use Rattle.std.proofs.lemmas.Nat.{pow_pos}
use Rattle.r9_geom.specs.declared.Point.{Point}
use Rattle.r9_geom.proofs.GeometryLemmas.{rect_near_wider}
use Rattle.model_pixel.specs.Channels.{depth}
use Rattle.model_forest.specs.World.{Image, image_at, IsForest, IsLive}
use Rattle.model_kept.specs.Keeping.{with_kept}
use Rattle.model_kept.proofs.Worlds.{pictured}
use Rattle.r9_locate.specs.locate.Table.{made, shape, HasRoom}
use Rattle.r9_pixels.specs.Kept.{kept_at}
use Rattle.r9_put.specs.fills.Content.{content}
use Rattle.r9_relist.specs.arrive.Arriving.{after_coming, listed}
use Rattle.r9_relist.proofs.arrive.Bare.{bared_lists}
use Rattle.r9_relist.proofs.arrive.Entering.{on_err}
use Rattle.r9_relist.proofs.arrive.Windows.{coming_live}
use Rattle.r9_forest.specs.Given.{given_at}
use Rattle.r9_forest.specs.Images.{numbers, world}
use Rattle.r9_forest.specs.Numbered.{numbers_of, IsTaken}
use Rattle.r9_forest.proofs.Numbers.{peeked, taken_peeked, IsNext}
use Rattle.r9_forest.proofs.Roomy.{fills_same, fills_window}
use Rattle.r9_forest.proofs.Sounding.{sound_live, sound_same, window_sound}
use Rattle.r9_forest.proofs.images.Images.come.Given.{Over}
use Rattle.r9_forest.proofs.images.Images.come.Goals as goal
use Rattle.r9_forest.proofs.images.Images.come.Goals.{After-content, After-take_number, Start}

-- the number is free
next : (g : Over) (c : Start g) → (c.args.w.image ≤ made c.args.self.now.lists) × (shape c.args.self.now.lists c.args.w.image ≡ None)
unfolding numbers
next g c =
    let now = c.args.self.now in
    peeked (shape now.lists) (made now.lists) now.spare.items c.args.w.image c.requires.number now.sound.numbers

live : (g : Over) (c : Start g) → IsLive (shape c.args.self.now.lists) c.args.standing.parent
unfolding world
live g c = sound_live c.args.self.now.lists (kept_at c.args.self.now.pixels) c.args.standing.parent c.requires.parent

pub arrive-requires-clause-room : goal.arrive-requires-clause-room
arrive-requires-clause-room g c = c.requires.room c.args.w.image (next g (goal.at.arrive-requires-clause-room g c).Start).0

pub arrive-requires-clause-place : goal.arrive-requires-clause-place
arrive-requires-clause-place g c = let below = (next g (goal.at.arrive-requires-clause-place g c).Start).0 in omega (arith, below, c.requires.place)

pub arrive-requires-clause-free : goal.arrive-requires-clause-free
arrive-requires-clause-free g c = (next g (goal.at.arrive-requires-clause-free g c).Start).1

pub arrive-requires-clause-beyond : goal.arrive-requires-clause-beyond
arrive-requires-clause-beyond g c = c.args.self.now.sound.numbers.beyond

pub arrive-requires-clause-whole : goal.arrive-requires-clause-whole
arrive-requires-clause-whole g c = c.args.self.now.sound.forest

pub arrive-requires-clause-forms : goal.arrive-requires-clause-forms
arrive-requires-clause-forms g c = c.args.self.now.sound.forms

pub arrive-requires-clause-cells : goal.arrive-requires-clause-cells
arrive-requires-clause-cells g c = c.args.self.now.sound.cells

pub arrive-requires-clause-parent : goal.arrive-requires-clause-parent
arrive-requires-clause-parent g c = live g (goal.at.arrive-requires-clause-parent g c).Start

-- what is given
given_is : (g : Over) (c : After-content g) (x : Point) → content c.content.result x ≡ given_at c.args.given c.args.r c.args.self.now.room.items x
given_is g c x = c.content.ensures x ∙ ap (λ (raws : List ℕ). given_at c.args.given c.args.r raws x) c.deref.ensures.value

came : (g : Over) (c : After-content g) → after_coming (world c.args.self.now) c.args.w.image c.args.standing.parent c.args.standing.fill c.args.r (content c.content.result) c.args.list.items ≡ after_coming (world c.args.self.now) c.args.w.image c.args.standing.parent c.args.standing.fill c.args.r (given_at c.args.given c.args.r c.args.self.now.room.items) c.args.list.items
came g c =
    ap (λ (pixels : Point → ℕ). after_coming (world c.args.self.now) c.args.w.image c.args.standing.parent c.args.standing.fill c.args.r pixels c.args.list.items) (λ j x. given_is g c x j)

pub content-requires-clause-near : goal.content-requires-clause-near
content-requires-clause-near g c = rect_near_wider (2 ^ 34) (2 ^ 40) c.args.r (lit≤ tt) c.requires.near

pub content-requires-clause-room : goal.content-requires-clause-room
content-requires-clause-room g c = let items = ap length c.deref.ensures.value in omega (arith, items, c.requires.fills, c.args.self.now.room.ok.0)

pub arrive-requires-clause-forest : goal.arrive-requires-clause-forest
unfolding world
arrive-requires-clause-forest g c = subst IsForest (sym (came g (goal.at.arrive-requires-clause-forest g c).After-content)) c.requires.forest

pub arrive-requires-clause-given : goal.arrive-requires-clause-given
arrive-requires-clause-given g c x =
    subst (λ (n : ℕ). n < 2 ^ depth (image_at (shape c.args.self.now.lists) c.args.standing.parent).chan) (sym (given_is g (goal.at.arrive-requires-clause-given g c).After-content x)) (c.requires.given x)

pub arrive-requires-clause-fill : goal.arrive-requires-clause-fill
arrive-requires-clause-fill g c z = pow_pos (depth (image_at (shape c.args.self.now.lists) c.args.standing.parent).chan)

-- ---- where there is no memory

pub invariant_of-self : goal.invariant_of-self
invariant_of-self g c =
    let now = c.args.self.now in
    record {
      sound = sound_same now.lists c.arrive.new.lists now.pixels c.arrive.new.pixels now.spare.items c.in_err-arrive.ensures.lists_err c.in_err-arrive.ensures.made_err c.in_err-arrive.ensures.err now.sound;
      back = omega (arith, c.in_err-arrive.ensures.made_err, now.back);
      fills = fills_same (shape now.lists) (shape c.arrive.new.lists) now.room.len c.in_err-arrive.ensures.lists_err now.fills;
    }

pub returns-in_err-arrive-clause-err : goal.returns-in_err-arrive-clause-err
unfolding world numbers
returns-in_err-arrive-clause-err g c =
    on_err c.from_residual.result
    (record {
      world = λ j. with_kept (c.in_err-arrive.ensures.lists_err j) (c.in_err-arrive.ensures.err.kept j);
      numbers = λ j. numbers_of (c.in_err-arrive.ensures.made_err j) c.args.self.now.spare.items;
    })

pub returns-in_err-arrive-clause-free : goal.returns-in_err-arrive-clause-free
unfolding world
returns-in_err-arrive-clause-free g c =
    let now = c.args.self.now in
    ap (option_map {T = Image} (pictured (shape now.lists) (kept_at now.pixels) c.args.w.image)) (next g (goal.at.returns-in_err-arrive-clause-free g c).Start).1

-- ---- and then

taken_then : (g : Over) (c : After-take_number g) → IsNext (shape c.args.self.now.lists) (made c.args.self.now.lists) c.args.self.now.spare.items c.take_number.new.spare.items c.args.w.image
unfolding numbers
taken_then g c =
    let now = c.args.self.now in
    taken_peeked (shape now.lists) (made now.lists) now.spare.items c.take_number.new.spare.items c.args.w.image c.take_number.result c.requires.number
    (subst (λ (n : ℕ). IsTaken n now.spare.items c.take_number.new.spare.items c.take_number.result) c.len-made.ensures.value c.take_number.ensures.number) now.sound.numbers

pub take_number-requires : goal.take_number-requires
take_number-requires g c = let few = c.args.self.now.sound.numbers.few in omega (arith, c.len-made.ensures.value, few)

pub invariant_of-self-2 : goal.invariant_of-self-2
unfolding world HasRoom
invariant_of-self-2 g c =
    let at = goal.at.invariant_of-self-2 g c in
    let now = c.args.self.now in
    let i = c.args.w.image in
    let p = c.args.standing.parent in
    let most = (c.requires.room (made now.lists) (omega arith)).most in
    let is = taken_then g at.After-take_number in
    record {
      sound =
          window_sound now.lists c.arrive.new.lists now.pixels c.arrive.new.pixels now.spare.items c.take_number.new.spare.items i p c.args.standing.fill c.args.r c.args.list.items now.sound
          (coming_live (shape now.lists) (kept_at now.pixels) i p c.args.standing.fill c.args.r (record { free = (next g at.Start).1; bare = bared_lists now.lists; whole = now.sound.forest; live = live g at.Start })) is
          c.in_ok-arrive.ensures.lists c.in_ok-arrive.ensures.made (omega (arith, most))
          (subst IsForest (sym (c.in_ok-arrive.ensures.world ∙ came g at.After-content)) c.requires.forest)
          c.in_ok-arrive.ensures.cells c.in_ok-arrive.ensures.forms;
      back = omega (arith, c.in_ok-arrive.ensures.made, is.most, c.requires.back, c.take_number.ensures.room);
      fills =
          fills_same (listed (shape now.lists) i p c.args.standing.fill c.args.r c.args.list.items) (shape c.arrive.new.lists) now.room.len c.in_ok-arrive.ensures.lists
          (fills_window (shape now.lists) now.room.len i p c.args.standing.fill c.args.r c.args.list.items c.requires.fills now.fills);
    }

pub returns-clause-free : goal.returns-clause-free
unfolding world
returns-clause-free g c =
    let now = c.args.self.now in
    ap (option_map {T = Image} (pictured (shape now.lists) (kept_at now.pixels) c.args.w.image)) (next g (goal.at.returns-clause-free g c).Start).1

pub returns-clause-world : goal.returns-clause-world
unfolding world
returns-clause-world g c = c.in_ok-arrive.ensures.world ∙ came g (goal.at.returns-clause-world g c).After-content

pub returns-clause-taken : goal.returns-clause-taken
unfolding numbers
returns-clause-taken g c =
    ap (λ (n : ℕ). numbers_of n c.take_number.new.spare.items) c.in_ok-arrive.ensures.made
    ∙ sym (taken_then g (goal.at.returns-clause-taken g c).After-take_number).numbers

pub returns-clause-later : goal.returns-clause-later
returns-clause-later g c = c.in_ok-arrive.ensures.later

pub returns-in_err-arrive-clause-moment : goal.returns-in_err-arrive-clause-moment
returns-in_err-arrive-clause-moment g c = c.arrive.ensures.moment

pub returns-in_err-arrive-clause-writes : goal.returns-in_err-arrive-clause-writes
returns-in_err-arrive-clause-writes g c = c.arrive.ensures.writes

pub returns-clause-moment : goal.returns-clause-moment
returns-clause-moment g c = c.arrive.ensures.moment

pub returns-clause-writes : goal.returns-clause-writes
returns-clause-writes g c = c.arrive.ensures.writes
