-- What others do to a session that is alone, with all that comes after it, and events that answer nothing.
use Rattle.std.proofs.Common.{◌≡◌, ◌∙◌, ℕ, eqb, ◌==◌, ◌<◌, Bool, true, false, List, [], ◌∷◌, fold, Option, Some, None, refl, sym, ap, subst, arith}
use Rattle.std.specs.Prelude.{if◌then◌else◌}
use Rattle.std.specs.List.{cons_option}
use Rattle.std.specs.Option.{option_map_or}
use Rattle.std.proofs.lemmas.Bool.{eqb-false, eqb-true}
use Rattle.std.proofs.lemmas.List.Elements.{All-nil}
use Rattle.r9_event.specs.declared.event.event.Event.{Event}
use Rattle.r9_event.specs.declared.event.event.Event.TheVariants.{Begin, Take, Stop}
use Rattle.r9_event.specs.declared.event.event.Reply.{Reply}
use Rattle.r9_event.specs.declared.event.own.Item.{Item}
use Rattle.r9_event.specs.declared.event.own.Item.TheVariants.{Noted}
use Rattle.r9_event.specs.declared.event.rio.Note.{Note}
use Rattle.model_text.specs.text.Map.{and, lookup}
use Rattle.model_text.proofs.map.Ascending.{ascend-and}
use Rattle.model_text.proofs.map.Maps.{and-here, and-others}
use Rattle.model_rio.specs.window.Pane.{Pane}
use Rattle.model_rio.specs.rio.Table.{Table}
use Rattle.model_draw.specs.draw.World as draw
use Rattle.model_world.specs.Session.{Fid, Session, fresh}
use Rattle.model_world.specs.Desktop.{Desktop}
use Rattle.model_world.specs.World.{World}
use Rattle.model_world.specs.Standing.{AllWaitOn, AreInOrder}
use Rattle.model_world.specs.Replay.{Turn, settled, step, turned}
use Rattle.law_others.proofs.orders.Leading.{led_beside, led_itself}
use Rattle.model_alone.specs.alone.Isolated.{replies_to}
use Rattle.model_alone.specs.alone.Own.{Watched, judged, judged_by, noted}
use Rattle.model_alone.specs.alone.Uses.{event_used}
use Rattle.model_alone.specs.alone.Lone.{LoneDesktop, LoneWorld, all_settled, and_replies, answered_alone, lone_step, made_in, noted_alone, notes_in, with_notes}
use Rattle.model_alone.proofs.alone.Histories.{lone_after}
use Rattle.law_others.specs.told.Telling.{notes_of}
use Rattle.law_strangers.specs.followed.Devices.{AreNamesFree, IsDeviceLike}
use Rattle.law_strangers.specs.followed.Following.{SameDesktops, SameWindows}
use Rattle.law_strangers.proofs.strangers.Late.{IsAway, IsElsewhere}
use Rattle.law_strangers.proofs.events.Messages.{IsWith, notes_same, settled_still, settled_with}

-- a step of notes alone answers nothing first
only_notes : (seen : Watched) (notes : List (ℕ × Note)) (world : LoneWorld) → answered_alone world (noted seen notes) ≡ (world, [])
only_notes seen [] world = refl
only_notes seen (n ∷ notes) world = by (option_map_or (λ window. window == n.0) seen.window false) (only_notes seen notes world)
  where
    by : (b : Bool) → answered_alone world (noted seen notes) ≡ (world, []) → answered_alone world (cons_option (if b then Some (Noted n.1) else None) (noted seen notes)) ≡ (world, [])
    by true more = refl
    by false more = more

module _ (c : ℕ) (begin : 0 < c) (Like : Option (ℕ × ℕ) → Option (ℕ × List ℕ) → draw.World → draw.World → Type 0) (Named : draw.World → Table → List (ℕ × Pane) → Type 0) (laws : IsDeviceLike c Like) (names : AreNamesFree Named) (seen : Watched) where
  abbrev Have : Desktop → LoneDesktop → Type 0
  Have s t = SameDesktops Like Named seen.window s t

  abbrev With : World → LoneWorld → Type 0
  With world lone = IsWith c begin Like Named laws names seen world lone

  -- ---- the end of a turn

  -- that nothing is told and nothing was asked any more makes no difference
  pub quiet_same : (s : Desktop) (t : LoneDesktop) → Have s t → Have (record s { notes = []; cost = 0 }) t
  quiet_same s t is = record {
    drawn = (led_beside s s (record s { notes = []; cost = 0 }) refl refl (led_itself s is.drawn)).drawn;
    order = is.order;
    names = is.names;
    window = windows seen.window is.window;
    device = is.device;
  }
    where
      windows : (o : Option ℕ) → SameWindows s t o → SameWindows (record s { notes = []; cost = 0 }) t o
      windows None is = is
      windows (Some n) is = record { alone = is.alone; rect = is.rect; root = is.root; bare = is.bare; counted = is.counted }

  pub turned_with : (world : World) (lone : LoneWorld) → With world lone → (replies : List Reply) (closed : Option ℕ) → With (turned world replies closed).world lone
  turned_with world lone is replies closed = record { lives = is.lives; same = quiet_same world.desktop lone.desktop is.same; mine = is.mine; order = is.order; elsewhere = is.elsewhere }

  -- ---- what others do

  -- What another session left of the server, before reads that wait are answered: both worlds are the same as soon as the session's own
  -- takes what its window was told.
  pub record IsLeft (world next : World) (lone : LoneWorld) : Type 0 where
    pub lives : lookup next.sessions c ≡ Some lone.session
    pub same : (t : LoneDesktop) → Have world.desktop t → Have next.desktop (fold noted_alone t (notes_of seen.window next.desktop.notes))
    pub order : AreInOrder next
    pub elsewhere : (d : ℕ) (session : Session) → (d ≡ c → ⊥) → lookup next.sessions d ≡ Some session → IsElsewhere seen.window session

  module _ (world next : World) (lone : LoneWorld) (is : With world lone) (left : IsLeft world next lone) where
    -- what the session is told
    abbrev pub items : List Item
    items = noted seen (settled next).0.desktop.notes

    -- the session's own world, where an attach would give this window, once it took the notes
    abbrev told_world : Option ℕ → List Note → LoneWorld
    told_world made notes = with_notes (record lone { desktop = record lone.desktop { made = made } }) notes

    heard : (replies_to c (settled next).1 ≡ (lone_step lone items).1) × With (settled next).0 (lone_step lone items).0
    unfolding lone_step
    heard = (
      ends.0 ∙ ap (λ (l : LoneWorld). (all_settled l).1) taken
          ∙ sym (ap (λ (a : LoneWorld × List (List ℕ)). (and_replies a.1 (all_settled (with_notes a.0 (notes_in items)))).1) answered),
      subst (λ (l : LoneWorld). With (settled next).0 l)
          (ap (λ (l : LoneWorld). (all_settled l).0) taken ∙ sym (ap (λ (a : LoneWorld × List (List ℕ)). (and_replies a.1 (all_settled (with_notes a.0 (notes_in items)))).0) answered)) ends.1,
    )
      where
        made : Option ℕ
        made = made_in items

        t : LoneDesktop
        t = record lone.desktop { made = made }

        windows : (o : Option ℕ) → SameWindows world.desktop lone.desktop o → SameWindows world.desktop t o
        windows None same = same
        windows (Some n) same = record { alone = same.alone; rect = same.rect; root = same.root; bare = same.bare; counted = same.counted }

        both : With next (told_world made (notes_of seen.window next.desktop.notes))
        both = record {
          lives = left.lives;
          same = left.same t (record { drawn = is.same.drawn; order = is.same.order; names = is.same.names; window = windows seen.window is.same.window; device = is.same.device });
          mine = is.mine;
          order = left.order;
          elsewhere = left.elsewhere;
        }

        ends : (replies_to c (settled next).1 ≡ (all_settled (told_world made (notes_of seen.window next.desktop.notes))).1) × With (settled next).0 (all_settled (told_world made (notes_of seen.window next.desktop.notes))).0
            × ((settled next).0.desktop.notes ≡ next.desktop.notes)
        ends = settled_with c begin Like Named laws names seen next (told_world made (notes_of seen.window next.desktop.notes)) both

        taken : told_world made (notes_of seen.window next.desktop.notes) ≡ told_world made (notes_in items)
        taken = ap (told_world made) (ap (notes_of seen.window) (sym ends.2) ∙ sym (notes_same seen (settled next).0.desktop.notes))

        answered : answered_alone (record lone { desktop = t }) items ≡ (record lone { desktop = t }, [])
        answered = only_notes seen (settled next).0.desktop.notes (record lone { desktop = t })

    unheard : items ≡ [] → AllWaitOn world → (replies_to c (settled next).1 ≡ []) × With (settled next).0 lone
    unheard nothing waits = (
      ends.0 ∙ ap (λ (l : LoneWorld). (all_settled l).1) none ∙ ap (λ (l : LoneWorld × List (List ℕ)). l.1) still_so,
      subst (With (settled next).0) (ap (λ (l : LoneWorld). (all_settled l).0) none ∙ ap (λ (l : LoneWorld × List (List ℕ)). l.0) still_so) ends.1,
    )
      where
        told_so : List Note → LoneWorld
        told_so notes = with_notes lone notes

        ends : (replies_to c (settled next).1 ≡ (all_settled (told_so (notes_of seen.window next.desktop.notes))).1) × With (settled next).0 (all_settled (told_so (notes_of seen.window next.desktop.notes))).0
            × ((settled next).0.desktop.notes ≡ next.desktop.notes)
        ends =
            settled_with c begin Like Named laws names seen next (told_so (notes_of seen.window next.desktop.notes))
            (record { lives = left.lives; same = left.same lone.desktop is.same; mine = is.mine; order = left.order; elsewhere = left.elsewhere })

        none : told_so (notes_of seen.window next.desktop.notes) ≡ lone
        none = ap told_so (ap (notes_of seen.window) (sym ends.2) ∙ sym (notes_same seen (settled next).0.desktop.notes) ∙ ap notes_in nothing)

        still_so : all_settled lone ≡ (lone, [])
        still_so = settled_still c begin Like Named laws names seen world lone is waits

    -- The session's own world takes the notes of its window, if there are any, and gives the replies that the session gets.
    pub others_followed : AllWaitOn world → (replies_to c (settled next).1 ≡ (lone_after lone items).1) × With (settled next).0 (lone_after lone items).0
    others_followed waits = by items refl
      where
        by : (its : List Item) → items ≡ its → (replies_to c (settled next).1 ≡ (lone_after lone its).1) × With (settled next).0 (lone_after lone its).0
        by [] none = unheard none waits
        by (item ∷ more) some = subst (λ (all : List Item). (replies_to c (settled next).1 ≡ (lone_step lone all).1) × With (settled next).0 (lone_step lone all).0) some heard

  -- ---- events

  -- A turn is answered alike, and both worlds are the same after it, with nothing more to tell.
  pub record IsTurnAlike (lone : LoneWorld) (turn : Turn) (told : List Item) : Type 0 where
    pub replies : replies_to c turn.replies ≡ (lone_after lone told).1
    pub rest : With turn.world (lone_after lone told).0
    pub quiet : turn.world.desktop.notes ≡ []

  -- so is an event, by which the session is known no better
  pub record IsEventAlike (world : World) (lone : LoneWorld) (event : Event) : Type 0 where
    pub turn : IsTurnAlike lone (step world event) (judged c world seen event).items
    pub seen_so : (judged c world seen event).seen ≡ seen

  -- nothing happens
  pub silent_alike : (world : World) (lone : LoneWorld) → With world lone → IsTurnAlike lone (turned world [] None) []
  silent_alike world lone is = record { replies = refl; rest = turned_with world lone is [] None; quiet = refl }

  pub taken_alike : (world : World) (lone : LoneWorld) → With world lone → world.desktop.notes ≡ [] → (d : ℕ) → IsEventAlike world lone (Take d)
  unfolding judged_by event_used
  taken_alike world lone is quiet d = record { turn = subst (IsTurnAlike lone (step world (Take d))) (sym (ap (noted seen) quiet)) (silent_alike world lone is); seen_so = refl }

  pub stopped_alike : (world : World) (lone : LoneWorld) → With world lone → world.desktop.notes ≡ [] → IsEventAlike world lone Stop
  unfolding judged_by event_used
  stopped_alike world lone is quiet = record { turn = subst (IsTurnAlike lone (step world Stop)) (sym (ap (noted seen) quiet)) (silent_alike world lone is); seen_so = refl }

  -- a session that begins has nothing of any window
  pub fresh_elsewhere : IsElsewhere seen.window fresh
  fresh_elsewhere = record { fids = All-nil (λ (entry : ℕ × Fid). IsAway seen.window entry.1.node); counted = record { few = omega arith; within = tt; ascending = tt } }

  begun_with : (world : World) (lone : LoneWorld) → With world lone → (d : ℕ) → (d ≡ c → ⊥) → With (record world { sessions = and world.sessions d fresh }) lone
  begun_with world lone is d other = record {
    lives = and-others world.sessions d c fresh (λ same. other (sym same)) ∙ is.lives;
    same = is.same;
    mine = is.mine;
    order = ascend-and world.sessions d fresh is.order;
    elsewhere = λ e session away at. by e session away at (eqb e d) refl;
  }
    where
      by : (e : ℕ) (session : Session) → (e ≡ c → ⊥) → lookup (and world.sessions d fresh) e ≡ Some session → (b : Bool) → eqb e d ≡ b → IsElsewhere seen.window session
      by e session away at true here =
          let same : e ≡ d = eqb-true e d here in
          let two : ◌≡◌ {A = Option Session} (Some fresh) (Some session) = sym (and-here world.sessions d fresh) ∙ ap (lookup (and world.sessions d fresh)) (sym same) ∙ at in
          let it : fresh ≡ session = cc in
          subst (IsElsewhere seen.window) it fresh_elsewhere
      by e session away at false here = is.elsewhere e session away (sym (and-others world.sessions d e fresh (eqb-false e d here)) ∙ at)

  -- Another session begins.
  pub begun_alike : (world : World) (lone : LoneWorld) → With world lone → world.desktop.notes ≡ [] → (d : ℕ) → (d ≡ c → ⊥) → IsEventAlike world lone (Begin d)
  unfolding judged_by event_used
  begun_alike world lone is quiet d other = record {
    turn = subst (IsTurnAlike lone (step world (Begin d))) (sym (ap (noted seen) quiet)) (silent_alike (record world { sessions = and world.sessions d fresh }) lone (begun_with world lone is d other));
    seen_so = refl;
  }
