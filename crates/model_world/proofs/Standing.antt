-- Reads that wait are answered until none can be.
use Rattle.std.proofs.Common.{◌≡◌, ◌≤◌, ◌+◌, ℕ, zero, suc, Bool, true, false, cond, eqb, List, [], ◌∷◌, ◌++◌, length, Option, Some, None, Ok, Err, Ordering, Less, Equal, Greater, nat_cmp, refl, ap, subst, ◌∙◌, arith, length-append}
use Rattle.std.specs.List.{sum_by}
use Rattle.std.specs.Option.{option_map, option_map_or}
use Rattle.std.specs.Ordering.{match_ordering}
use Rattle.std.proofs.lemmas.List.Sums.{sum_by-cons}
use Rattle.r9_event.specs.declared.event.event.Event.{Event}
use Rattle.r9_event.specs.declared.event.event.Event.TheVariants.{Begin, Msg, Take, End, Stop}
use Rattle.r9_event.specs.declared.event.event.Opening.{Opening}
use Rattle.r9_event.specs.declared.event.event.Reply.{Reply}
use Rattle.r9_event.specs.declared.event.rio.Note.{Note}
use Rattle.model_text.specs.text.Map.{lookup, with, and, without}
use Rattle.model_text.specs.text.Outcome.{Outcome}
use Rattle.model_files.specs.mouse.Queue.{answer_text}
use Rattle.model_files.specs.console.Console as console
use Rattle.model_rio.specs.window.Heard.{wctl_answer, wctl_text}
use Rattle.model_files.specs.declared.tree.Kind.{Kind}
use Rattle.model_files.specs.declared.tree.Kind.TheVariants as kind
use Rattle.model_text.proofs.map.Ascending.{ascend-and, ascend-with, ascend-without}
use Rattle.model_world.specs.Session.{Fid, Session, Wait, fresh}
use Rattle.model_world.specs.Outside.{Outside}
use Rattle.model_world.specs.Desktop.{Desktop}
use Rattle.model_world.specs.Whole.{desktop_for}
use Rattle.model_world.specs.World.{World, opened}
use Rattle.model_world.specs.Fids.{Left, cleared}
use Rattle.model_world.specs.Reading.{Given, given_now}
use Rattle.model_world.specs.Waiting.{answered_or, awaited, first_of, given_or_refused, one_answered, wait_answer}
use Rattle.model_world.specs.Answer.{answer}
use Rattle.model_world.specs.Replay.{and_replies, answered_in, ended, first_answered, served, settled, settled_within, step, turned, waiting_in, with_left, world_from}
use Rattle.model_world.specs.Standing.{AllWaitOn, AreInOrder}
use Rattle.model_world.proofs.Settling.{IfNext, all_in, first_leaves, settled_keeps}

-- ---- each answer takes one read out of those that wait

abbrev LeavesOneLess : {S : Type 0} → ℕ → Option (Left S) → Type 0
LeavesOneLess n (Some after) = length after.session.waiting + 1 ≡ n
LeavesOneLess n None = Unit {0}

late_less : {S : Type 0} (session : Session) (rest : S) (tag : ℕ) (wait : Wait) (n : ℕ) (o : Option (Outcome (Given S))) (later : Option (Left S)) → length session.waiting + 1 ≡ n → LeavesOneLess n later
    → LeavesOneLess n (answered_or session rest tag wait o later)
late_less session rest tag wait n None later here less = less
late_less session rest tag wait n (Some (Err k)) later here less = here
late_less session rest tag wait n (Some (Ok got)) later here less = here

pub first_less : {S : Type 0} (outside : Outside S) (session : Session) (rest : S) (before after : List (ℕ × Wait)) (n : ℕ) → length before + length after ≡ n → LeavesOneLess n (first_of outside session rest before after)
unfolding first_of
first_less outside session rest before [] n whole = tt
first_less outside session rest before ((tag, wait) ∷ after) n whole =
    late_less (record session { waiting = before ++ after }) rest tag wait n (wait_answer outside session rest wait) (first_of outside session rest (before ++ (tag, wait) ∷ []) after)
    (omega (arith, whole, length-append before after))
    (first_less outside session rest (before ++ (tag, wait) ∷ []) after n (omega (arith, whole, length-append before ((tag, wait) ∷ []))))

sum_with : {A : Type 0} (f : ℕ × A → ℕ) (es : List (ℕ × A)) (c : ℕ) (old new : A) → ((k : ℕ) (a : A) → f (k, a) ≡ f (c, a)) → lookup es c ≡ Some old
    → sum_by f (with es c new) + f (c, old) ≡ sum_by f es + f (c, new)
sum_with f [] c old new same at = absurd (cc at)
sum_with {A = A} f (e ∷ es) c old new same at = by (eqb e.0 c) at (sum_with f es c old new same)
  where
    by : (b : Bool) → cond b (Some e.1) (lookup es c) ≡ Some old → (lookup es c ≡ Some old → sum_by f (with es c new) + f (c, old) ≡ sum_by f es + f (c, new))
        → sum_by f (cond b ((e.0, new) ∷ es) (e ∷ with es c new)) + f (c, old) ≡ sum_by f (e ∷ es) + f (c, new)
    by true at more =
        let is : e.1 ≡ old = cc at in
        omega (arith, sum_by-cons f (e.0, new) es, sum_by-cons f e es, same e.0 new, same e.0 e.1, ap (λ (a : A). f (c, a)) is)
    by false at more = omega (arith, sum_by-cons f e (with es c new), sum_by-cons f e es, more at)

abbrev pub IsLess : World → World → Type 0
IsLess world next = AreInOrder next × (waiting_in next + 1 ≡ waiting_in world)

pub first_is_less : (world : World) → AreInOrder world → IfNext (IsLess world) (first_answered world world.sessions)
first_is_less world order = first_leaves (IsLess world) world world.sessions (all_in world.sessions order) (λ c session after at is.
    let P : Option (Left Desktop) → Type 0 = λ o. LeavesOneLess (length session.waiting) o in
    let less : length after.session.waiting + 1 ≡ length session.waiting = subst P is (first_less (desktop_for c) session world.desktop [] session.waiting (length session.waiting) (omega arith)) in (
      ascend-with world.sessions c after.session order,
      omega (arith, less, sum_with (λ (e : ℕ × Session). length e.1.waiting) world.sessions c session after.session (λ k a. refl) at),
    ))

pub settled_ends : (most : ℕ) (world : World) → AreInOrder world → waiting_in world ≤ most → AllWaitOn (settled_within most world).0
unfolding settled_within
settled_ends zero world order few = by (first_answered world world.sessions) refl (first_is_less world order)
  where
    by : (o : Option (World × List Reply)) → first_answered world world.sessions ≡ o → IfNext (IsLess world) o → first_answered world world.sessions ≡ None
    by None at less = at
    by (Some next) at less = absurd (omega (arith, less.1, few))
settled_ends (suc most) world order few = by (λ next order few. settled_ends most next order few) (first_answered world world.sessions) refl (first_is_less world order)
  where
    by : ((next : World) → AreInOrder next → waiting_in next ≤ most → AllWaitOn (settled_within most next).0) → (o : Option (World × List Reply)) → first_answered world world.sessions ≡ o → IfNext (IsLess world) o
        → AllWaitOn (option_map_or (λ next. and_replies next.1 (settled_within most next.0)) o (world, [])).0
    by further None at less = at
    by further (Some next) at less = further next.0 less.0 (omega (arith, less.1, few))

-- ---- settling, one answer at a time

pub settled_none : (world : World) → first_answered world world.sessions ≡ None → settled world ≡ (world, [])
unfolding settled_within
settled_none world none = by (waiting_in world)
  where
    by : (most : ℕ) → settled_within most world ≡ (world, [])
    by zero = refl
    by (suc most) = ap (λ (o : Option (World × List Reply)). option_map_or (λ next. and_replies next.1 (settled_within most next.0)) o (world, [])) none

pub settled_next : (world : World) (next : World × List Reply) → AreInOrder world → first_answered world world.sessions ≡ Some next → settled world ≡ and_replies next.1 (settled next.0)
unfolding settled_within
settled_next world next order is =
    let less : waiting_in next.0 + 1 ≡ waiting_in world = (let P : Option (World × List Reply) → Type 0 = λ o. IfNext (IsLess world) o in subst P is (first_is_less world order)).1 in
    by (waiting_in world) (omega (arith, less))
  where
    by : (most : ℕ) → most ≡ suc (waiting_in next.0) → settled_within most world ≡ and_replies next.1 (settled next.0)
    by zero more = absurd (omega (arith, more))
    by (suc most) more =
        let same : most ≡ waiting_in next.0 = omega (arith, more) in
        ap (λ (o : Option (World × List Reply)). option_map_or (λ next. and_replies next.1 (settled_within most next.0)) o (world, [])) is
        ∙ ap (λ (n : ℕ). and_replies next.1 (settled_within n next.0)) same

-- ---- each session by itself

abbrev pub EachWaitsOn : Desktop → List (ℕ × Session) → Type 0
EachWaitsOn desktop [] = Unit {0}
EachWaitsOn desktop (entry ∷ more) = (one_answered (desktop_for entry.0) entry.1 desktop ≡ None) × EachWaitsOn desktop more

pub each_of : (world : World) (sessions : List (ℕ × Session)) → first_answered world sessions ≡ None → EachWaitsOn world.desktop sessions
each_of world [] none = tt
each_of world ((c, session) ∷ more) none = by (λ none. each_of world more none) (one_answered (desktop_for c) session world.desktop) refl none
  where
    by : (first_answered world more ≡ None → EachWaitsOn world.desktop more) → (o : Option (Left Desktop)) → one_answered (desktop_for c) session world.desktop ≡ o → answered_in world c o (first_answered world more) ≡ None
        → (one_answered (desktop_for c) session world.desktop ≡ None) × EachWaitsOn world.desktop more
    by later None at none = (at, later none)
    by later (Some after) at none = absurd (cc none)

pub of_each : (world : World) (sessions : List (ℕ × Session)) → EachWaitsOn world.desktop sessions → first_answered world sessions ≡ None
of_each world [] each = refl
of_each world ((c, session) ∷ more) each = ap (λ (o : Option (Left Desktop)). answered_in world c o (first_answered world more)) each.0 ∙ of_each world more each.1

-- ---- what the windows were told, and what was asked, makes no difference

pub mapped_none : {A B : Type 0} (f : A → B) (o : Option A) → option_map f o ≡ None → o ≡ None
mapped_none f None none = refl
mapped_none f (Some x) none = absurd (cc none)

text_none : {A B : Type 0} (f g : A → B) (o : Option A) → option_map f o ≡ None → option_map g o ≡ None
text_none f g o none = ap (λ (x : Option _). option_map g x) (mapped_none f o none)

now_untold : (c : ℕ) (desktop : Desktop) (notes : List (ℕ × Note)) (cost : ℕ) (fid : Fid) (count : ℕ) (k : Kind) → given_now (desktop_for c) desktop fid count k ≡ None
    → given_now (desktop_for c) (record desktop { notes = notes; cost = cost }) fid count k ≡ None
now_untold c desktop notes cost fid count kind.Mouse none = text_none _ _ (answer_text ((desktop_for c).pane desktop fid.node.serial).mouse) none
now_untold c desktop notes cost fid count kind.Cons none = text_none _ _ (console.read count ((desktop_for c).pane desktop fid.node.serial).console) none
now_untold c desktop notes cost fid count kind.Wctl none = text_none _ _ (wctl_answer fid.told (wctl_text ((desktop_for c).pane desktop fid.node.serial).known)) none
now_untold c desktop notes cost fid count _ none = refl

given_untold : (c : ℕ) (desktop : Desktop) (notes : List (ℕ × Note)) (cost : ℕ) (count : ℕ) (fid : Outcome Fid) → given_or_refused (desktop_for c) desktop count fid ≡ None
    → given_or_refused (desktop_for c) (record desktop { notes = notes; cost = cost }) count fid ≡ None
given_untold c desktop notes cost count (Err n) none = absurd (cc none)
given_untold c desktop notes cost count (Ok fid) none =
    ap (λ (o : Option (Given Desktop)). option_map Ok o) (now_untold c desktop notes cost fid count fid.node.kind (mapped_none Ok (given_now (desktop_for c) desktop fid count fid.node.kind) none))

pub both_none : {S : Type 0} (session : Session) (rest : S) (tag : ℕ) (wait : Wait) (o : Option (Outcome (Given S))) (later : Option (Left S)) → answered_or session rest tag wait o later ≡ None → (o ≡ None) × (later ≡ None)
both_none session rest tag wait None later none = (refl, none)
both_none session rest tag wait (Some got) later none = absurd (cc none)

first_untold : (c : ℕ) (session : Session) (desktop : Desktop) (notes : List (ℕ × Note)) (cost : ℕ) (before after : List (ℕ × Wait)) → first_of (desktop_for c) session desktop before after ≡ None
    → first_of (desktop_for c) session (record desktop { notes = notes; cost = cost }) before after ≡ None
unfolding first_of wait_answer
first_untold c session desktop notes cost before [] none = refl
first_untold c session desktop notes cost before ((tag, wait) ∷ after) none =
    let rest : Session = record session { waiting = before ++ after } in
    let both = both_none rest desktop tag wait (wait_answer (desktop_for c) session desktop wait) (first_of (desktop_for c) session desktop (before ++ (tag, wait) ∷ []) after) none in
    let quiet : Desktop = record desktop { notes = notes; cost = cost } in
    ap (λ (o : Option (Outcome (Given Desktop))). answered_or rest quiet tag wait o (first_of (desktop_for c) session quiet (before ++ (tag, wait) ∷ []) after))
    (given_untold c desktop notes cost wait.count (awaited (desktop_for c) session desktop wait) both.0)
    ∙ first_untold c session desktop notes cost (before ++ (tag, wait) ∷ []) after both.1

each_untold : (desktop : Desktop) (notes : List (ℕ × Note)) (cost : ℕ) (sessions : List (ℕ × Session)) → EachWaitsOn desktop sessions → EachWaitsOn (record desktop { notes = notes; cost = cost }) sessions
each_untold desktop notes cost [] each = tt
each_untold desktop notes cost ((c, session) ∷ more) each = (first_untold c session desktop notes cost [] session.waiting each.0, each_untold desktop notes cost more each.1)

turned_waits : (world : World) (replies : List Reply) (closed : Option ℕ) → AllWaitOn world → AllWaitOn (turned world replies closed).world
turned_waits world replies closed all = of_each (turned world replies closed).world world.sessions (each_untold world.desktop [] 0 world.sessions (each_of world world.sessions all))

-- ---- each event

fresh_waits : (c : ℕ) (desktop : Desktop) → one_answered (desktop_for c) fresh desktop ≡ None
unfolding first_of
fresh_waits c desktop = refl

and_waits : (desktop : Desktop) (sessions : List (ℕ × Session)) (c : ℕ) → EachWaitsOn desktop sessions → EachWaitsOn desktop (and sessions c fresh)
and_waits desktop [] c each = (fresh_waits c desktop, tt)
and_waits desktop (entry ∷ more) c each = by (nat_cmp c entry.0) (and_waits desktop more c each.1)
  where
    by : (o : Ordering) → EachWaitsOn desktop (and more c fresh) → EachWaitsOn desktop (match_ordering o ((c, fresh) ∷ entry ∷ more) ((entry.0, fresh) ∷ more) (entry ∷ and more c fresh))
    by Less later = (fresh_waits c desktop, each)
    by Equal later = (fresh_waits entry.0 desktop, each.1)
    by Greater later = (each.0, later)

served_waits : (world : World) (c : ℕ) (bytes : List ℕ) (mark : Option ℕ) (found : Option Session) → AreInOrder world → AllWaitOn world → AllWaitOn (served world c bytes mark found).world
served_waits world c bytes mark None order all = turned_waits world [] None all
served_waits world c bytes mark (Some session) order all =
    let left = answer (desktop_for c) session world.desktop bytes mark in
    let after = with_left world c left in
    turned_waits (settled_within (waiting_in after) after).0 [] None (settled_ends (waiting_in after) after (ascend-with world.sessions c left.session order) (omega arith))

ended_waits : (world : World) (c : ℕ) (found : Option Session) → AreInOrder world → AllWaitOn world → AllWaitOn (ended world c found).world
ended_waits world c None order all = turned_waits world [] None all
ended_waits world c (Some session) order all =
    let after : World = record world { desktop = (cleared (desktop_for c) session world.desktop).1; sessions = without world.sessions c } in
    turned_waits (settled_within (waiting_in after) after).0 [] None (settled_ends (waiting_in after) after (ascend-without world.sessions c order) (omega arith))

pub step_waits : (world : World) (event : Event) → AreInOrder world → AllWaitOn world → AllWaitOn (step world event).world
step_waits world (Begin c) order all =
    let after : World = record world { sessions = and world.sessions c fresh } in
    turned_waits after [] None (of_each after after.sessions (and_waits world.desktop world.sessions c (each_of world world.sessions all)))
step_waits world (Msg c bytes mark) order all = served_waits world c bytes mark (lookup world.sessions c) order all
step_waits world (Take c) order all = turned_waits world [] None all
step_waits world (End c) order all = ended_waits world c (lookup world.sessions c) order all
step_waits world Stop order all = turned_waits world [] None all

-- ---- each world of a history

settled_order : (most : ℕ) (world : World) → AreInOrder world → AreInOrder (settled_within most world).0
settled_order most world order =
    settled_keeps AreInOrder (λ w are. first_leaves AreInOrder w w.sessions (all_in w.sessions are) (λ c session after at is. ascend-with w.sessions c after.session are)) most world order

served_order : (world : World) (c : ℕ) (bytes : List ℕ) (mark : Option ℕ) (found : Option Session) → AreInOrder world → AreInOrder (served world c bytes mark found).world
served_order world c bytes mark None order = order
served_order world c bytes mark (Some session) order =
    let left = answer (desktop_for c) session world.desktop bytes mark in
    let after = with_left world c left in settled_order (waiting_in after) after (ascend-with world.sessions c left.session order)

ended_order : (world : World) (c : ℕ) (found : Option Session) → AreInOrder world → AreInOrder (ended world c found).world
ended_order world c None order = order
ended_order world c (Some session) order =
    let after : World = record world { desktop = (cleared (desktop_for c) session world.desktop).1; sessions = without world.sessions c } in
    settled_order (waiting_in after) after (ascend-without world.sessions c order)

pub step_order : (world : World) (event : Event) → AreInOrder world → AreInOrder (step world event).world
step_order world (Begin c) order = ascend-and world.sessions c fresh order
step_order world (Msg c bytes mark) order = served_order world c bytes mark (lookup world.sessions c) order
step_order world (Take c) order = order
step_order world (End c) order = ended_order world c (lookup world.sessions c) order
step_order world Stop order = order

world_waits : (world : World) (events : List Event) → AreInOrder world → AllWaitOn world → AllWaitOn (world_from world events)
world_waits world [] order all = all
world_waits world (event ∷ events) order all = world_waits (step world event).world events (step_order world event order) (step_waits world event order all)

pub history_waits : (opening : Opening) (events : List Event) → AllWaitOn (world_from (opened opening) events)
history_waits opening events = world_waits (opened opening) events tt refl
