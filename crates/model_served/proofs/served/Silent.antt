-- A session that is closed or is not there gets no reply.
use Rattle.std.proofs.Common.{◌≡◌, ℕ, zero, suc, Bool, true, false, eqb, List, [], ◌∷◌, ◌++◌, Option, Some, None, refl, sym, ap, subst, ◌∙◌}
use Rattle.std.specs.Prelude.{IfSome, is_some, if◌then◌else◌}
use Rattle.std.specs.List.{flat_map}
use Rattle.std.specs.Option.{option_map_or}
use Rattle.std.proofs.lemmas.Bool.{eqb-true, eqb-false}
use Rattle.r9_event.specs.declared.event.event.Event.{Event}
use Rattle.r9_event.specs.declared.event.event.Event.TheVariants.{Begin, Msg, Take, End, Stop}
use Rattle.r9_event.specs.declared.event.event.Reply.{Reply}
use Rattle.model_text.specs.text.Map.{lookup, without}
use Rattle.model_text.proofs.map.Keys.{not_key}
use Rattle.model_text.proofs.map.Maps.{with-here, with-others, without-others}
use Rattle.model_text.proofs.map.Ascending.{ascend-with, ascend-without, without-here}
use Rattle.model_files.specs.wire.Message.{R}
use Rattle.model_files.specs.wire.Spelling.{spelling_of_r}
use Rattle.model_world.specs.Session.{Session, Wait}
use Rattle.model_world.specs.Desktop.{Desktop}
use Rattle.model_world.specs.Whole.{desktop_for}
use Rattle.model_world.specs.World.{World}
use Rattle.model_world.specs.Fids.{Left, cleared}
use Rattle.model_world.specs.Waiting.{first_of, one_answered}
use Rattle.model_world.specs.Answer.{answer}
use Rattle.model_world.specs.Replay.{and_replies, bytes_for, ended, first_answered, reply_to, served, settled_within, step, waiting_in, with_left}
use Rattle.model_world.specs.Standing.{AreInOrder}
use Rattle.model_world.proofs.Settling.{all_in, first_gives}
use Rattle.model_world.proofs.Closed.{closed-ignores}
use Rattle.model_served.proofs.served.Pushed.{bytes_for-append}

-- no read of the session waits, if it is there
abbrev NoneWaits : Option Session → Type 0
NoneWaits o = IfSome o (λ session. session.waiting ≡ [])

abbrev AwaitsNothing : (c : ℕ) → World → Type 0
AwaitsNothing c world = AreInOrder world × NoneWaits (lookup world.sessions c)

abbrev IsUnanswered : (c : ℕ) → World × List Reply → Type 0
IsUnanswered c next = AwaitsNothing c next.0 × (bytes_for c next.1 ≡ [])

reply_others : (c d : ℕ) (o : Option R) → (d ≡ c → ⊥) → bytes_for c (reply_to d o) ≡ []
reply_others c d None other = refl
reply_others c d (Some r) other =
    let reply : Reply = record { session = d; bytes = spelling_of_r r } in
    ap (λ (b : Bool). flat_map (λ (reply : Reply). reply.bytes) (if b then reply ∷ [] else [])) (not_key d c other)

both_none : (c : ℕ) (before after : List Reply) → bytes_for c before ≡ [] → bytes_for c after ≡ [] → bytes_for c (before ++ after) ≡ []
both_none c before after none more = bytes_for-append c before after ∙ ap (λ (bytes : List ℕ). bytes ++ bytes_for c after) none ∙ more

-- ---- answers to reads that waited

first_none : (c : ℕ) (session : Session) (desktop : Desktop) → first_of (desktop_for c) session desktop [] [] ≡ None
unfolding first_of
first_none c session desktop = refl

none_answered : (c : ℕ) (session : Session) (desktop : Desktop) → session.waiting ≡ [] → one_answered (desktop_for c) session desktop ≡ None
none_answered c session desktop none = ap (λ (reads : List (ℕ × Wait)). first_of (desktop_for c) session desktop [] reads) none ∙ first_none c session desktop

late_others : (c d : ℕ) (world : World) (session : Session) (after : Left Desktop) → AwaitsNothing c world → lookup world.sessions d ≡ Some session → one_answered (desktop_for d) session world.desktop ≡ Some after → d ≡ c → ⊥
late_others c d world session after awaits at is same =
    let there : lookup world.sessions c ≡ Some session = ap (λ (k : ℕ). lookup world.sessions k) (sym same) ∙ at in
    let none : one_answered (desktop_for d) session world.desktop ≡ None = none_answered d session world.desktop (subst NoneWaits there awaits.1) in
    let two : None ≡ Some after = sym none ∙ is in cc two

first_unanswered : (c : ℕ) (world : World) → AwaitsNothing c world → IfSome (first_answered world world.sessions) (IsUnanswered c)
first_unanswered c world awaits = first_gives (IsUnanswered c) world world.sessions (all_in world.sessions awaits.0) (λ d session after at is.
    let other = late_others c d world session after awaits at is in
    ((ascend-with world.sessions d after.session awaits.0, subst NoneWaits (sym (with-others world.sessions d c after.session (λ same. other (sym same)))) awaits.1), reply_others c d after.reply other))

settled_unanswered : (c most : ℕ) (world : World) → AwaitsNothing c world → IsUnanswered c (settled_within most world)
unfolding settled_within
settled_unanswered c zero world awaits = (awaits, refl)
settled_unanswered c (suc most) world awaits = by (λ next still. settled_unanswered c most next still) (first_answered world world.sessions) (first_unanswered c world awaits)
  where
    by : ((next : World) → AwaitsNothing c next → IsUnanswered c (settled_within most next)) → (o : Option (World × List Reply)) → IfSome o (IsUnanswered c)
        → IsUnanswered c (option_map_or (λ next. and_replies next.1 (settled_within most next.0)) o (world, []))
    by more None first = (awaits, refl)
    by more (Some next) first = let rest = more next.0 first.0 in (rest.0, both_none c next.1 (settled_within most next.0).1 first.1 rest.1)

-- ---- events

-- it is closed and no read of it waits, or it is not there
abbrev pub IsMute : Option Session → Type 0
IsMute o = IfSome o (λ session. (is_some session.closed ≡ true) × (session.waiting ≡ []))

mute_waits : (o : Option Session) → IsMute o → NoneWaits o
mute_waits None mute = tt
mute_waits (Some session) mute = mute.1

served_mute : (c : ℕ) (world : World) (d : ℕ) (bytes : List ℕ) (mark : Option ℕ) (found : Option Session) → AreInOrder world → IsMute (lookup world.sessions c) → lookup world.sessions d ≡ found
    → bytes_for c (served world d bytes mark found).replies ≡ []
served_mute c world d bytes mark None order mute at = refl
served_mute c world d bytes mark (Some session) order mute at =
    let own = by (eqb d c) refl in
    both_none c (reply_to d left.reply) (settled_within (waiting_in after) after).1 own.1 (settled_unanswered c (waiting_in after) after (ascend-with world.sessions d left.session order, own.0)).1
  where
    left : Left Desktop
    left = answer (desktop_for d) session world.desktop bytes mark

    after : World
    after = with_left world d left

    by : (b : Bool) → eqb d c ≡ b → NoneWaits (lookup after.sessions c) × (bytes_for c (reply_to d left.reply) ≡ [])
    by true is =
        let same : d ≡ c = eqb-true d c is in
        let there : lookup world.sessions c ≡ Some session = ap (λ (k : ℕ). lookup world.sessions k) (sym same) ∙ at in
        let closed = subst IsMute there mute in
        let ignored = closed-ignores (desktop_for d) session world.desktop bytes mark closed.0 in
        let here : lookup after.sessions c ≡ Some left.session = ap (λ (k : ℕ). lookup after.sessions k) (sym same) ∙ with-here world.sessions d session left.session at in (
          subst NoneWaits (sym here) (ap (λ (l : Left Desktop). l.session.waiting) ignored ∙ closed.1),
          ap (λ (l : Left Desktop). bytes_for c (reply_to d l.reply)) ignored,
        )
    by false is =
        let other : d ≡ c → ⊥ = λ same. eqb-false d c is same in
        (subst NoneWaits (sym (with-others world.sessions d c left.session (λ same. other (sym same)))) (mute_waits (lookup world.sessions c) mute), reply_others c d left.reply other)

ended_mute : (c : ℕ) (world : World) (d : ℕ) (found : Option Session) → AreInOrder world → IsMute (lookup world.sessions c) → bytes_for c (ended world d found).replies ≡ []
ended_mute c world d None order mute = refl
ended_mute c world d (Some session) order mute = (settled_unanswered c (waiting_in after) after (ascend-without world.sessions d order, by (eqb d c) refl)).1
  where
    after : World
    after = record world { desktop = (cleared (desktop_for d) session world.desktop).1; sessions = without world.sessions d }

    by : (b : Bool) → eqb d c ≡ b → NoneWaits (lookup after.sessions c)
    by true is = subst NoneWaits (sym (ap (λ (k : ℕ). lookup after.sessions k) (sym (eqb-true d c is)) ∙ without-here world.sessions d order)) tt
    by false is = subst NoneWaits (sym (without-others world.sessions d c (λ same. eqb-false d c is (sym same)))) (mute_waits (lookup world.sessions c) mute)

-- it gets no reply
pub step_mute : (c : ℕ) (world : World) (event : Event) → AreInOrder world → IsMute (lookup world.sessions c) → bytes_for c (step world event).replies ≡ []
step_mute c world (Begin d) order mute = refl
step_mute c world (Msg d bytes mark) order mute = served_mute c world d bytes mark (lookup world.sessions d) order mute refl
step_mute c world (Take d) order mute = refl
step_mute c world (End d) order mute = ended_mute c world d (lookup world.sessions d) order mute
step_mute c world Stop order mute = refl
