-- After something happened only some sessions are asked, each once in ascending order, and all others wait on.
use Rattle.std.proofs.Common.{◌≡◌, ◌∙◌, ℕ, Bool, true, false, cond, eqb, not, List, [], ◌∷◌, Option, Some, None, refl, sym, ap, subst}
use Rattle.std.specs.Prelude.{◌<◌, ◌==◌, ◌&&◌}
use Rattle.std.specs.List.{filter}
use Rattle.std.specs.Map.{keys_of}
use Rattle.std.proofs.lemmas.Bool.{eqb-true}
use Rattle.r9_event.specs.declared.event.event.Reply.{Reply}
use Rattle.model_text.specs.text.Map.{lookup, without}
use Rattle.model_text.specs.map.Ascending.{AreAbove, Ascend}
use Rattle.model_text.proofs.map.Ascending.{without-here}
use Rattle.model_text.proofs.map.Maps.{with-others, without-others}
use Rattle.model_world.specs.Session.{Session}
use Rattle.model_world.specs.Desktop.{Desktop}
use Rattle.model_world.specs.Whole.{desktop_for}
use Rattle.model_world.specs.World.{World}
use Rattle.model_world.specs.Fids.{Left, cleared}
use Rattle.model_world.specs.Waiting.{one_answered}
use Rattle.model_world.specs.Answer.{answer}
use Rattle.model_world.specs.Replay.{answered_in, first_answered, reply_to, with_left}
use Rattle.model_world.specs.Standing.{AllWaitOn, AreInOrder}
use Rattle.model_world.specs.Sleeping.{AllWaitBut, AsksWoken, stirred, told_windows, written_at}
use Rattle.model_world.proofs.Others.{some_is}
use Rattle.model_world.proofs.Settling.{AreIn, IfNext, all_in, first_leaves}
use Rattle.model_world.proofs.Waking.{all_wait, end_spares, late_spares, message_spares}

-- ---- sessions that are still to be asked

is_asked : (asked : ℕ → Bool) (c d : ℕ) → asked c ≡ true → asked d ≡ false → d ≡ c → ⊥
is_asked asked c d own none same = let two : true ≡ false = sym own ∙ ap asked (sym same) ∙ none in cc two

-- after a message of session c
pub asked_message : (asked : ℕ → Bool) (world : World) (c : ℕ) (session : Session) (bytes : List ℕ) (mark : Option ℕ) → AllWaitOn world → lookup world.sessions c ≡ Some session → asked c ≡ true
    → AsksWoken asked world.sessions (stirred (answer (desktop_for c) session world.desktop bytes mark).rest.notes (written_at session bytes))
    → AllWaitBut asked (with_left world c (answer (desktop_for c) session world.desktop bytes mark))
asked_message asked world c session bytes mark all there own woken d other none at =
    let after = answer (desktop_for c) session world.desktop bytes mark in
    let before : lookup world.sessions d ≡ Some other = sym (with-others world.sessions c d after.session (λ same. is_asked asked c d own none same)) ∙ at in
    message_spares world c d session other bytes mark all before (woken d other none before)

-- after the end of session c
pub asked_end : (asked : ℕ → Bool) (world : World) (c : ℕ) (session : Session) → AreInOrder world → AllWaitOn world
    → AsksWoken asked (without world.sessions c) (told_windows (cleared (desktop_for c) session world.desktop).1.notes)
    → AllWaitBut asked (record world { desktop = (cleared (desktop_for c) session world.desktop).1; sessions = without world.sessions c })
asked_end asked world c session order all woken d other none at =
    let before : lookup world.sessions d ≡ Some other = sym (without-others world.sessions c d gone) ∙ at in
    end_spares world c d session other all before (woken d other none at)
  where
    gone : d ≡ c → ⊥
    gone same = let two : None ≡ Some other = sym (without-here world.sessions c order) ∙ ap (λ (k : ℕ). lookup (without world.sessions c) k) (sym same) ∙ at in cc two

-- after a late answer
pub asked_late : (asked : ℕ → Bool) (world : World) (c : ℕ) (session : Session) (after : Left Desktop) → AllWaitBut asked world → lookup world.sessions c ≡ Some session
    → one_answered (desktop_for c) session world.desktop ≡ Some after → AllWaitBut asked (with_left world c after)
asked_late asked world c session after all there is d other none at =
    let before : lookup world.sessions d ≡ Some other = sym (with-others world.sessions c d after.session another) ∙ at in
    late_spares c d session other world.desktop after is (all d other none before)
  where
    another : d ≡ c → ⊥
    another same = let two : None ≡ Some after = sym (all c session (ap asked (sym same) ∙ none) there) ∙ is in cc two

-- after the first of the late answers
pub asked_next : (asked : ℕ → Bool) (world : World) → AreInOrder world → AllWaitBut asked world → IfNext (AllWaitBut asked) (first_answered world world.sessions)
asked_next asked world order all =
    first_leaves (AllWaitBut asked) world world.sessions (all_in world.sessions order) (λ c session after there is. asked_late asked world c session after all there is)

-- a session that has been asked, and has no answer, is to be asked no more
pub asked_once : (asked : ℕ → Bool) (world : World) (c : ℕ) (session : Session) → AllWaitBut asked world → lookup world.sessions c ≡ Some session → one_answered (desktop_for c) session world.desktop ≡ None
    → AllWaitBut (λ d. asked d && not (d == c)) world
asked_once asked world c session all there waits d other none at = by (asked d) (eqb d c) refl refl
  where
    by : (a b : Bool) → asked d ≡ a → eqb d c ≡ b → one_answered (desktop_for d) other world.desktop ≡ None
    by false b is same = all d other is at
    by true true is same =
        let e : d ≡ c = eqb-true d c same in
        let one : session ≡ other = some_is session other (sym there ∙ ap (λ (k : ℕ). lookup world.sessions k) (sym e) ∙ at) in
        subst (λ (k : ℕ). one_answered (desktop_for k) other world.desktop ≡ None) (sym e) (subst (λ (s : Session). one_answered (desktop_for c) s world.desktop ≡ None) one waits)
    by true false is same = absurd (let two : true ≡ false = sym (ap (λ (b : Bool). b && not (d == c)) is ∙ ap not same) ∙ none in cc two)

-- nobody is to be asked any more
pub asked_all : (asked : ℕ → Bool) (world : World) → AreInOrder world → ((c : ℕ) (session : Session) → lookup world.sessions c ≡ Some session → asked c ≡ false) → AllWaitBut asked world → AllWaitOn world
asked_all asked world order none all = all_wait world order (λ c session at. all c session (none c session at) at)

-- ---- which is the next to be answered

above_less : (n key : ℕ) (session : Session) (sessions : List (ℕ × Session)) → AreAbove n (keys_of sessions) → lookup sessions key ≡ Some session → n < key
above_less n key session [] above there = absurd (cc there)
above_less n key session (entry ∷ more) above there = by (eqb entry.0 key) refl there (above_less n key session more above.1)
  where
    by : (b : Bool) → eqb entry.0 key ≡ b → cond b (Some entry.1) (lookup more key) ≡ Some session → (lookup more key ≡ Some session → n < key) → n < key
    by true is at later = subst (λ (k : ℕ). n < k) (eqb-true entry.0 key is) above.0
    by false is at later = later at

first_among : (world : World) (c : ℕ) (session : Session) (after : Left Desktop) (sessions : List (ℕ × Session))
    → ((d : ℕ) (other : Session) → d < c → lookup world.sessions d ≡ Some other → one_answered (desktop_for d) other world.desktop ≡ None) → one_answered (desktop_for c) session world.desktop ≡ Some after
    → Ascend (keys_of sessions) → AreIn world.sessions sessions → lookup sessions c ≡ Some session → first_answered world sessions ≡ Some (with_left world c after, reply_to c after.reply)
first_among world c session after [] below is ascend are there = absurd (cc there)
first_among world c session after ((d, other) ∷ more) below is ascend are there = by (eqb d c) refl there (first_among world c session after more below is ascend.1 are.1)
  where
    Found : Option (World × List Reply) → Type 0
    Found o = o ≡ Some (with_left world c after, reply_to c after.reply)

    by : (b : Bool) → eqb d c ≡ b → cond b (Some other) (lookup more c) ≡ Some session → (lookup more c ≡ Some session → Found (first_answered world more)) → Found (first_answered world ((d, other) ∷ more))
    by true same at later =
        let e : d ≡ c = eqb-true d c same in
        ap (λ (o : Option (Left Desktop)). answered_in world d o (first_answered world more))
        (ap (λ (k : ℕ). one_answered (desktop_for k) other world.desktop) e ∙ ap (λ (s : Session). one_answered (desktop_for c) s world.desktop) (some_is other session at) ∙ is)
        ∙ ap (λ (k : ℕ). Some (with_left world k after, reply_to k after.reply)) e
    by false same at later =
        ap (λ (o : Option (Left Desktop)). answered_in world d o (first_answered world more)) (below d other (above_less d c session more ascend.0 at) are.0) ∙ later at

-- a session that has an answer, where none below has one
pub first_is : (world : World) (c : ℕ) (session : Session) (after : Left Desktop) → AreInOrder world → lookup world.sessions c ≡ Some session → one_answered (desktop_for c) session world.desktop ≡ Some after
    → ((d : ℕ) (other : Session) → d < c → lookup world.sessions d ≡ Some other → one_answered (desktop_for d) other world.desktop ≡ None)
    → first_answered world world.sessions ≡ Some (with_left world c after, reply_to c after.reply)
first_is world c session after order there is below = first_among world c session after world.sessions below is order (all_in world.sessions order) there

first_filtered : (asked : ℕ → Bool) (world : World) (sessions : List (ℕ × Session)) → AllWaitBut asked world → AreIn world.sessions sessions
    → first_answered world (filter (λ entry. asked entry.0) sessions) ≡ first_answered world sessions
first_filtered asked world [] all are = refl
first_filtered asked world ((c, session) ∷ more) all are = by (asked c) refl (first_filtered asked world more all are.1)
  where
    by : (b : Bool) → asked c ≡ b → first_answered world (filter (λ entry. asked entry.0) more) ≡ first_answered world more
        → first_answered world (cond b ((c, session) ∷ filter (λ entry. asked entry.0) more) (filter (λ entry. asked entry.0) more)) ≡ first_answered world ((c, session) ∷ more)
    by true is later = ap (λ (o : Option (World × List Reply)). answered_in world c (one_answered (desktop_for c) session world.desktop) o) later
    by false is later = later ∙ sym (ap (λ (o : Option (Left Desktop)). answered_in world c o (first_answered world more)) (all c session is are.0))

-- the first of those that are to be asked is the first of all
pub asked_first : (asked : ℕ → Bool) (world : World) → AreInOrder world → AllWaitBut asked world → first_answered world (filter (λ entry. asked entry.0) world.sessions) ≡ first_answered world world.sessions
asked_first asked world order all = first_filtered asked world world.sessions all (all_in world.sessions order)
