-- A desk's history does what the events of the mouse say.
use Rattle.std.proofs.Common.{◌≡◌, ◌∙◌, ◌≤◌, ◌+◌, ◌^◌, ℕ, zero, suc, List, [], ◌∷◌, ◌++◌, drop, fold, length, take, refl, sym, ap, subst, arith}
use Rattle.std.specs.Prelude.{All, map}
use Rattle.std.specs.List.{flat_map}
use Rattle.std.proofs.lemmas.Grind.{flat_map-append}
use Rattle.std.proofs.lemmas.List.{append-nil, length-take, map-append, take-append-drop, take-map, take_all, take_at}
use Rattle.std.proofs.lemmas.List.Elements.{All-take}
use Rattle.r9_event.specs.declared.event.event.Event.{Event}
use Rattle.r9_event.specs.declared.event.event.Event.TheVariants.{Begin}
use Rattle.model_files.specs.wire.Message.{R, T}
use Rattle.model_files.specs.wire.Spelling.{spelling_of_r}
use Rattle.law_shown.proofs.fitting.Lists.{Each, each_of}
use Rattle.model_files.specs.declared.mouse.Mouse.{Mouse}
use Rattle.model_client.specs.declared.desk.Mode.{Mode}
use Rattle.model_client.specs.declared.desk.Mode.TheVariants.{Drag, Drain, Idle, Menu, Pick, Sweep, Sweeping}
use Rattle.model_client.specs.declared.desk.Text.{Text}
use Rattle.model_client.specs.declared.desk.Text.TheVariants.{Mousein, Wctl}
use Rattle.model_client.specs.desk.Table.{Desk, start}
use Rattle.model_client.specs.desk.Pilot.{after, after_all, pilot, written, written_from}
use Rattle.model_world.specs.World.{World, opened}
use Rattle.model_world.specs.Replay.{replay, replies, replies_from, step}
use Rattle.model_clients.specs.client.Saying.{says}
use Rattle.law_text.specs.client.Saying.{AreAnswered, AreMessages}
use Rattle.law_text.proofs.client.Legal.{legal}
use Rattle.law_text.proofs.client.Saying.{all_said, nothing_said}
use Rattle.law_desk.specs.piloted.Following.{IsDeskIn, IsEvent}
use Rattle.model_clients.specs.piloted.History.{IsPiloted, ShowsDesk, ShowsMenu, Write, display, opening, opening_replies, texts_in, writes, written_all}
use Rattle.law_desk.specs.ready.Ready.{IsReady}
use Rattle.law_desk.proofs.ready.Kept.{ready_after, starts}
use Rattle.law_desk.specs.steered.Steered.{write_of}
use Rattle.law_desk.proofs.steered.All.{has_windows}
use Rattle.law_menus.specs.inked.Inked.{IsInked}
use Rattle.law_menus.specs.inking.Inking.{IsOpened}
use Rattle.law_menus.specs.menus.Writes.{bands_after, bands_in, desk_history, desk_messages, writes_for, writes_from}
use Rattle.law_menus.proofs.menus.Event.{written_for}

abbrev joined : List (List Write) → List Write
joined each = flat_map (λ some. some) each

-- ---- event by event

-- what is written from some table on
record IsRun (d : Desk) (events : List Mouse) (world : World) : Type 0 where
  left : World
  answered : AreAnswered world (map writes (joined (writes_from d events))) left (map written_all (joined (writes_from d events)))
  placed : IsDeskIn (fold after d events) left
  menu : ShowsMenu (fold after d events).mode left

run : (k : ℕ) (d : Desk) (world : World) (events : List Mouse) → IsDeskIn d world → IsReady k d → IsInked world.desktop.device world.desktop.table → ShowsMenu d.mode world → Each IsEvent events → k + length events ≤ 10 ^ 8
    → IsRun d events world
run k d world [] at ready inked menu each few = record { left = world; answered = nothing_said world; placed = at; menu = menu }
run k d world (e ∷ events) at ready inked menu each few =
    let first = written_for k d e world at ready each.0 (omega (arith, few)) inked menu in
    let rest = run (k + 1) (after d e) first.left events first.placed (ready_after k d e ready each.0) first.drawn first.menu each.1 (omega (arith, few)) in
    let here : List Write = writes_for d e in
    let more : List Write = joined (writes_from (after d e) events) in
    record {
      left = rest.left;
      answered = subst (λ (ms : List T). AreAnswered world ms rest.left (map written_all (here ++ more))) (sym (map-append writes here more))
          (subst (λ (rs : List R). AreAnswered world (map writes here ++ map writes more) rest.left rs) (sym (map-append written_all here more))
          (all_said world first.left rest.left (map writes here) (map writes more) (map written_all here) (map written_all more) first.answered rest.answered));
      placed = rest.placed;
      menu = rest.menu;
    }

-- ---- lists

take_writes : (d : Desk) (events : List Mouse) (k : ℕ) → writes_from d (take k events) ≡ take k (writes_from d events)
take_writes d events zero = refl
take_writes d [] (suc k) = refl
take_writes d (e ∷ events) (suc k) = ap (λ (each : List (List Write)). writes_for d e ∷ each) (take_writes (after d e) events k)

length-writes : (d : Desk) (events : List Mouse) → length (writes_from d events) ≡ length events
length-writes d [] = refl
length-writes d (e ∷ events) = ap suc (length-writes (after d e) events)

-- so many lists are the first writes of all
first_writes : (each : List (List Write)) (k : ℕ) → take (length (joined (take k each))) (joined each) ≡ joined (take k each)
first_writes each k =
    ap (λ (ws : List (List Write)). take (length (joined (take k each))) (joined ws)) (sym (take-append-drop k each))
    ∙ ap (take (length (joined (take k each)))) (flat_map-append (λ some. some) (take k each) (drop k each))
    ∙ take_at (joined (take k each)) (joined (drop k each)) (length (joined (take k each))) refl

-- ---- the texts

text_again : (text : Text) → texts_in (write_of text) ≡ text ∷ []
text_again (Mousein bytes) = refl
text_again (Wctl bytes) = refl

texts_again : (texts : List Text) → flat_map texts_in (map write_of texts) ≡ texts
texts_again [] = refl
texts_again (text ∷ texts) = λ i. text_again text i ++ texts_again texts i

bands_plain : (mode : Mode) → flat_map texts_in (bands_in mode) ≡ []
bands_plain Idle = refl
bands_plain (Menu at window) = refl
bands_plain (Pick what) = refl
bands_plain (Drain sweep) = refl
bands_plain (Sweep window) = refl
bands_plain (Sweeping window from) = refl
bands_plain (Drag pane from) = refl

after_plain : (before next : Mode) → flat_map texts_in (bands_after before next) ≡ []
after_plain Idle next = bands_plain next
after_plain (Menu at window) next = refl
after_plain (Pick what) next = refl
after_plain (Drain sweep) next = refl
after_plain (Sweep window) next = refl
after_plain (Sweeping window from) next = refl
after_plain (Drag pane from) next = refl

event_texts : (d : Desk) (e : Mouse) → flat_map texts_in (writes_for d e) ≡ written d e
unfolding writes_for
event_texts d e =
    flat_map-append texts_in (map write_of (written d e)) (bands_after d.mode (after d e).mode)
    ∙ (λ i. texts_again (written d e) i ++ after_plain d.mode (after d e).mode i) ∙ append-nil (written d e)

all_texts : (d : Desk) (events : List Mouse) → flat_map texts_in (joined (writes_from d events)) ≡ written_from d events
all_texts d [] = refl
all_texts d (e ∷ events) =
    flat_map-append texts_in (writes_for d e) (joined (writes_from (after d e) events)) ∙ (λ i. event_texts d e i ++ all_texts (after d e) events i)

-- ---- the history

-- the history so far
so_far : (messages : List T) (n : ℕ) → take (12 + n) (Begin 1 ∷ map says (opening ++ messages)) ≡ Begin 1 ∷ map says (opening ++ take n messages)
so_far messages n =
    let twelve : 12 + n ≡ suc (suc (suc (suc (suc (suc (suc (suc (suc (suc (suc (suc n))))))))))) = omega arith in
    ap (λ m. take m (Begin 1 ∷ map says (opening ++ messages))) twelve
    ∙ ap (λ (events : List Event). Begin 1 ∷ map says opening ++ events) (take-map says n messages)

module _ (is : IsOpened) (events : List Mouse) (are : All IsEvent events) (few : length events ≤ 10 ^ 8) where
  abbrev each : List (List Write)
  each = writes_from start events

  until : (k : ℕ) → IsRun start (take k events) is.left
  until k =
      let short = length-take k events in
      run 0 start is.left (take k events) is.at starts is.inked tt (each_of IsEvent (take k events) (All-take IsEvent k events are)) (omega (arith, few, short))

  abbrev begun : World
  begun = (step (opened display) (Begin 1)).world

  all_until : (k : ℕ) → AreAnswered begun (opening ++ map writes (joined (take k each))) (until k).left (opening_replies ++ map written_all (joined (take k each)))
  all_until k =
      subst (λ (ws : List (List Write)). AreAnswered begun (opening ++ map writes (joined ws)) (until k).left (opening_replies ++ map written_all (joined ws))) (take_writes start events k)
      (all_said begun is.left (until k).left opening (map writes (joined (writes_from start (take k events)))) opening_replies (map written_all (joined (writes_from start (take k events)))) is.answered (until k).answered)

  left_until : (k : ℕ) → replay display (take (12 + length (joined (take k each))) (desk_history events)) ≡ (until k).left
  unfolding desk_history
  left_until k =
      ap (replay display) (so_far (map writes (joined each)) (length (joined (take k each))))
      ∙ ap (λ (messages : List T). replay display (Begin 1 ∷ map says (opening ++ messages))) (take-map writes (length (joined (take k each))) (joined each) ∙ ap (map writes) (first_writes each k))
      ∙ (all_until k).left

  all_answered : replies display (desk_history events) ≡ map (λ reply. record { session = 1; bytes = spelling_of_r reply }) (opening_replies ++ map written_all (joined each))
  unfolding desk_history
  all_answered =
      let whole : take (length events) each ≡ each = ap (λ n. take n each) (sym (length-writes start events)) ∙ take_all (length each) each (omega arith) in
      subst (λ (ws : List (List Write)). replies_from begun (map says (opening ++ map writes (joined ws))) ≡ map (λ reply. record { session = 1; bytes = spelling_of_r reply }) (opening_replies ++ map written_all (joined ws))) whole
      (all_until (length events)).said

  shown_until : (k : ℕ) → ShowsDesk (after_all (take k events)) (replay display (take (12 + length (joined (take k each))) (desk_history events)))
  unfolding after_all
  shown_until k = subst (ShowsDesk (fold after start (take k events))) (sym (left_until k)) (record {
    windows = has_windows (fold after start (take k events)) (until k).left.desktop.table (until k).placed.follows;
    menu = (until k).menu;
  })

  pub piloted : AreMessages (desk_messages events) → IsPiloted events (desk_history events)
  unfolding desk_history pilot
  piloted whole = record {
    each = each;
    all = length-writes start events;
    said = refl;
    texts = all_texts start events;
    legal = legal (desk_messages events) whole;
    answered = all_answered;
    shown = λ k some. shown_until k;
  }
