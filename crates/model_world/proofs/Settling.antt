-- What the answers to reads that wait leave of a world.
use Rattle.std.proofs.Common.{◌≡◌, ℕ, zero, suc, false, eqb, List, [], ◌∷◌, Option, Some, None, refl, ◌∙◌, arith}
use Rattle.std.specs.Prelude.{IfSome}
use Rattle.std.specs.Map.{keys_of}
use Rattle.std.specs.Option.{option_map_or}
use Rattle.r9_event.specs.declared.event.event.Reply.{Reply}
use Rattle.model_text.specs.text.Map.{lookup}
use Rattle.model_text.specs.map.Ascending.{AreAbove, Ascend}
use Rattle.model_text.proofs.map.Keys.{eqb-same, not_key}
use Rattle.model_world.specs.Session.{Session}
use Rattle.model_world.specs.Desktop.{Desktop}
use Rattle.model_world.specs.Whole.{desktop_for}
use Rattle.model_world.specs.World.{World}
use Rattle.model_world.specs.Fids.{Left}
use Rattle.model_world.specs.Waiting.{one_answered}
use Rattle.model_world.specs.Replay.{and_replies, answered_in, first_answered, reply_to, settled_within, with_left}

-- ---- the sessions of a world, by number

-- each of these sessions has its number in the world
abbrev pub AreIn : List (ℕ × Session) → List (ℕ × Session) → Type 0
AreIn all [] = Unit {0}
AreIn all (entry ∷ more) = (lookup all entry.0 ≡ Some entry.1) × AreIn all more

in_more : (c : ℕ) (session : Session) (all some : List (ℕ × Session)) → AreAbove c (keys_of some) → AreIn all some → AreIn ((c, session) ∷ all) some
in_more c session all [] above are = tt
in_more c session all (entry ∷ more) above are =
    let other : eqb c entry.0 ≡ false = not_key c entry.0 (λ is. omega (arith, is, above.0)) in (rw other are.0, in_more c session all more above.1 are.1)

pub all_in : (sessions : List (ℕ × Session)) → Ascend (keys_of sessions) → AreIn sessions sessions
all_in [] ascend = tt
all_in ((c, session) ∷ more) ascend = (rw (eqb-same c) refl, in_more c session more more ascend.0 (all_in more ascend.1))

-- ---- one read is answered

abbrev pub IfNext : (World → Type 0) → Option (World × List Reply) → Type 0
IfNext P o = IfSome o (λ next. P next.0)

-- what each answer to a read leaves and gives holds of what the first leaves and gives
pub first_gives : (P : World × List Reply → Type 0) (world : World) (sessions : List (ℕ × Session)) → AreIn world.sessions sessions
    → ((c : ℕ) (session : Session) (after : Left Desktop) → lookup world.sessions c ≡ Some session → one_answered (desktop_for c) session world.desktop ≡ Some after → P (with_left world c after, reply_to c after.reply))
    → IfSome (first_answered world sessions) P
first_gives P world [] are each = tt
first_gives P world ((c, session) ∷ more) are each = by (first_gives P world more are.1 each) (one_answered (desktop_for c) session world.desktop) refl
  where
    by : IfSome (first_answered world more) P → (o : Option (Left Desktop)) → one_answered (desktop_for c) session world.desktop ≡ o → IfSome (answered_in world c o (first_answered world more)) P
    by later None at = later
    by later (Some after) at = each c session after are.0 at

pub first_leaves : (P : World → Type 0) (world : World) (sessions : List (ℕ × Session)) → AreIn world.sessions sessions
    → ((c : ℕ) (session : Session) (after : Left Desktop) → lookup world.sessions c ≡ Some session → one_answered (desktop_for c) session world.desktop ≡ Some after → P (with_left world c after))
    → IfNext P (first_answered world sessions)
first_leaves P world sessions are each = first_gives (λ next. P next.0) world sessions are each

first_opening : (world : World) (sessions : List (ℕ × Session)) → IfNext (λ next. next.opening ≡ world.opening) (first_answered world sessions)
first_opening world [] = tt
first_opening world ((c, session) ∷ more) = by (first_opening world more) (one_answered (desktop_for c) session world.desktop)
  where
    by : IfNext (λ next. next.opening ≡ world.opening) (first_answered world more) → (o : Option (Left Desktop))
        → IfNext (λ next. next.opening ≡ world.opening) (answered_in world c o (first_answered world more))
    by later None = later
    by later (Some after) = refl

-- ---- all that can be

-- what each answer keeps is kept
pub settled_keeps : (P : World → Type 0) → ((world : World) → P world → IfNext P (first_answered world world.sessions)) → (most : ℕ) (world : World) → P world → P (settled_within most world).0
unfolding settled_within
settled_keeps P each zero world is = is
settled_keeps P each (suc most) world is = by (λ next left. settled_keeps P each most next left) (first_answered world world.sessions) (each world is)
  where
    by : ((next : World) → P next → P (settled_within most next).0) → (o : Option (World × List Reply)) → IfNext P o
        → P (option_map_or (λ next. and_replies next.1 (settled_within most next.0)) o (world, [])).0
    by further None left = is
    by further (Some next) left = further next.0 left

pub settled_opening : (most : ℕ) (world : World) → (settled_within most world).0.opening ≡ world.opening
settled_opening most world = settled_keeps (λ next. next.opening ≡ world.opening) (λ next same. by next same (first_answered next next.sessions) (first_opening next next.sessions)) most world refl
  where
    by : (next : World) → next.opening ≡ world.opening → (o : Option (World × List Reply)) → IfNext (λ w. w.opening ≡ next.opening) o → IfNext (λ w. w.opening ≡ world.opening) o
    by next same None is = tt
    by next same (Some after) is = is ∙ same
