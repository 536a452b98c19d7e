use Rattle.std.proofs.Common.{◌≡◌, ◌∙◌, ℕ, Option, refl, sym, subst, ap}
use Rattle.std.specs.Prelude.{is_some}
use Rattle.model_forest.specs.World.{image_at, parent_of, IsLive}
use Rattle.model_kept.specs.Keeping.{with_kept, Place}
use Rattle.r9_locate.specs.watched.Moments.{Moment}
use Rattle.r9_locate.specs.locate.Table.{shape}
use Rattle.r9_pixels.specs.Kept.{kept_at, mark_count, marked, moment, moment_now, writes}
use Rattle.r9_forest.specs.Images.{numbers, world}
use Rattle.r9_forest.specs.Marks.{shown_in, IsMoment}
use Rattle.r9_forest.specs.Sound.{IsSound}
use Rattle.r9_forest.proofs.Looking.{looked_sound, moment-here, moment-other, moment_is, moment_there}
use Rattle.r9_forest.proofs.images.Images.clear_marks.Goals as goal
use Rattle.r9_forest.proofs.images.Images.clear_marks.Goals.{After-clear_marks}

sound : (c : After-clear_marks) → IsSound c.args.self.now.lists c.clear_marks.new.self c.args.self.now.spare.items
sound c =
    let was = c.args.self.now in
    looked_sound was.lists was.pixels c.clear_marks.new.self was.spare.items c.clear_marks.ensures.kept c.clear_marks.ensures.has c.clear_marks.ensures.forms was.sound

live : (c : After-clear_marks) → IsLive (with_kept (shape c.args.self.now.lists) (kept_at c.clear_marks.new.self)) c.args.i
unfolding world
live c = subst (λ (kept : Place → ℕ). IsLive (with_kept (shape c.args.self.now.lists) kept) c.args.i) (sym c.clear_marks.ensures.kept) c.requires.live

here : (c : After-clear_marks) → moment c.clear_marks.new.self c.args.i ≡ moment_now c.clear_marks.new.self c.args.i
here c =
    ap (λ (moments : ℕ → Option Moment). moments c.args.i) c.clear_marks.ensures.moment
    ∙ moment-here c.args.i (moment_now c.clear_marks.new.self c.args.i) (moment c.args.self.now.pixels)

pub invariant_of-self : goal.invariant_of-self
invariant_of-self c =
    let was = c.args.self.now in
    record { sound = sound (goal.at.invariant_of-self c).After-clear_marks; back = was.back; fills = was.fills }

pub returns-clause-world : goal.returns-clause-world
unfolding world
returns-clause-world c = ap (with_kept (shape c.args.self.now.lists)) c.clear_marks.ensures.kept

pub returns-clause-numbers : goal.returns-clause-numbers
unfolding numbers
returns-clause-numbers c = refl

pub returns-clause-here : goal.returns-clause-here
unfolding world
returns-clause-here c was is =
    let at = (goal.at.returns-clause-here c).After-clear_marks in
    let lists = c.args.self.now.lists in
    let new = c.clear_marks.new.self in
    let i = c.args.i in
    subst (λ (n : ℕ). IsMoment was (image_at (with_kept (shape lists) (kept_at c.args.self.now.pixels)) i).r (shown_in (with_kept (shape lists) (kept_at c.args.self.now.pixels)) i) (marked new i) 0 n) c.clear_marks.ensures.writes
    (subst (λ (n : ℕ). IsMoment was (image_at (with_kept (shape lists) (kept_at c.args.self.now.pixels)) i).r (shown_in (with_kept (shape lists) (kept_at c.args.self.now.pixels)) i) (marked new i) n (writes new)) c.clear_marks.ensures.count
    (subst (λ (kept : Place → ℕ). IsMoment was (image_at (with_kept (shape lists) kept) i).r (shown_in (with_kept (shape lists) kept) i) (marked new i) (mark_count new i) (writes new)) c.clear_marks.ensures.kept
    (moment_is lists new c.args.self.now.spare.items i (sound at) (live at) was (sym (here at) ∙ is))))

pub returns-clause-nowhere : goal.returns-clause-nowhere
unfolding world
returns-clause-nowhere c nowhere =
    let at = (goal.at.returns-clause-nowhere c).After-clear_marks in
    let lists = c.args.self.now.lists in
    let new = c.clear_marks.new.self in
    ap is_some (here at)
    ∙ moment_there lists new c.args.self.now.spare.items c.args.i (sound at) (live at)
    (ap (λ (kept : Place → ℕ). parent_of (with_kept (shape lists) kept) c.args.i) c.clear_marks.ensures.kept ∙ nowhere)

pub returns-clause-elsewhere : goal.returns-clause-elsewhere
returns-clause-elsewhere c j other =
    ap (λ (moments : ℕ → Option Moment). moments j) c.clear_marks.ensures.moment
    ∙ moment-other c.args.i j (moment_now c.clear_marks.new.self c.args.i) (moment c.args.self.now.pixels) other

pub returns-clause-marks : goal.returns-clause-marks
returns-clause-marks c = c.clear_marks.ensures.marks

pub returns-clause-count : goal.returns-clause-count
returns-clause-count c = c.clear_marks.ensures.count

pub returns-clause-writes : goal.returns-clause-writes
returns-clause-writes c = c.clear_marks.ensures.writes
