-- What a desk writes for an event is answered without an error, and does to rio's windows what it does to those of its table.
use Rattle.std.proofs.Common.{◌≡◌, ◌∙◌, ◌<◌, ◌+◌, ◌^◌, ℕ, ◌==◌, ◌&&◌, Bool, true, false, List, [], ◌∷◌, ◌++◌, length, Option, Some, None, IsSome, refl, sym, ap, subst, arith, eqb-true}
use Rattle.std.specs.Prelude.{codes, nat_lt}
use Rattle.std.specs.Option.{option_map_or}
use Rattle.std.proofs.lemmas.Bool.{cond_both}
use Rattle.r9_geom.specs.declared.Point.{Point}
use Rattle.r9_geom.specs.declared.Rect.{Rect}
use Rattle.model_files.specs.declared.wctl.Choice.{Choice}
use Rattle.model_files.specs.declared.wctl.Choice.TheVariants as choice
use Rattle.model_files.specs.wctl.Command as wctl
use Rattle.model_files.specs.wctl.Rectangle.{is_window}
use Rattle.model_rio.specs.rio.Act as act
use Rattle.model_rio.specs.rio.Routing.{moused as routed}
use Rattle.model_rio.specs.rio.Step.{begun}
use Rattle.model_rio.specs.rio.Table.{deepest}
use Rattle.law_shown.specs.fitting.Fitting.{IsSpelled, IsWay}
use Rattle.law_shown.proofs.fitting.Lists.{all_of}
use Rattle.model_files.specs.wire.Message.{R, T, Rwrite}
use Rattle.model_files.specs.declared.mouse.Mouse.{Mouse}
use Rattle.model_files.specs.mouse.Pointer.{text}
use Rattle.model_client.specs.declared.desk.Act.{Act}
use Rattle.model_client.specs.declared.desk.Act.TheVariants.{Delete, Hide, Move, New, Nothing, Pass, Resize}
use Rattle.model_client.specs.declared.desk.Ask.{Ask}
use Rattle.model_client.specs.declared.desk.Mode.{Mode}
use Rattle.model_client.specs.declared.desk.Mode.TheVariants.{Drag, Drain, Idle, Menu, Pick, Sweep, Sweeping}
use Rattle.model_client.specs.declared.desk.Pane.{Pane}
use Rattle.model_client.specs.declared.desk.Text.{Text}
use Rattle.model_client.specs.declared.desk.Text.TheVariants.{Wctl}
use Rattle.model_client.specs.declared.desk.Item.{Item}
use Rattle.model_client.specs.declared.desk.Item.TheVariants as item
use Rattle.model_client.specs.declared.desk.Spot.{Spot}
use Rattle.model_client.specs.desk.Table.{Desk, done, pane_at}
use Rattle.model_client.specs.desk.Asked.{ask, asked, asked_in, picked, spot, swept, swept_to}
use Rattle.model_client.specs.desk.Spelled.{change, id_words, rect_words, spelled}
use Rattle.model_client.specs.desk.Pilot.{after, written}
use Rattle.model_world.specs.World.{World}
use Rattle.model_world.specs.Whole.{moused}
use Rattle.model_world.specs.Desktop.{Desktop, stepped}
use Rattle.model_world.specs.Replay.{Turn, step}
use Rattle.law_text.specs.client.Pointing.{command, point, pointer}
use Rattle.model_clients.specs.client.Saying.{says}
use Rattle.law_text.specs.client.Saying.{AreAnswered, answered, world_left}
use Rattle.law_text.proofs.client.Saying.{nothing_said, then_said}
use Rattle.model_clients.specs.piloted.Following.{pane_by}
use Rattle.law_desk.specs.piloted.Following.{IsDeskIn, IsEvent, is_over}
use Rattle.law_desk.proofs.piloted.Acts.{moves_on}
use Rattle.law_desk.proofs.piloted.Commands.{box}
use Rattle.law_desk.proofs.piloted.Ordered.{IsOrdered, delete_ordered, hide_ordered, move_ordered, new_ordered, resize_ordered}
use Rattle.law_desk.proofs.piloted.Pointed.{passed_on, passes}
use Rattle.law_shown.proofs.shown.Tests.{find-passes}
use Rattle.law_desk.specs.ready.Ready.{ArePanes, IsReady, IsThere}
use Rattle.law_desk.proofs.ready.Lists.{one_of}
use Rattle.law_desk.proofs.ready.Fair.{MayDo, is_pass}
use Rattle.law_desk.proofs.ready.Kept.{asks_fair}
use Rattle.law_desk.proofs.ready.Places.{step_read, step_word}
use Rattle.law_desk.specs.steered.Steered.{IsActOf, IsSteered, Takes, messages, replies_to, rests, takes}

-- ---- what is asked for

-- the texts are answered, and leave the windows of the desk's table
record IsObeyed (d : Desk) (asks : Act) (e : Mouse) (world : World) : Type 0 where
  left : World
  answered : AreAnswered world (messages (spelled asks e)) left (replies_to (spelled asks e))
  at : IsDeskIn (done asks d) left
  taken : Takes asks world.desktop left.desktop

-- one message that is answered
one_said : (world : World) (m : T) (next : Desktop) (reply : R) → step world (says m) ≡ answered world (pointer, next) reply → AreAnswered world (m ∷ []) (step world (says m)).world (reply ∷ [])
one_said world m next reply is =
    subst (λ (w : World). AreAnswered world (m ∷ []) w (reply ∷ [])) (sym (ap (λ (t : Turn). t.world) is))
    (then_said world (world_left world (pointer, next)) m [] (pointer, next) reply [] is (nothing_said (world_left world (pointer, next))))

-- a command
obeyed : (d : Desk) (asks : Act) (how : act.Act) (e : Mouse) (world : World) (bytes : List ℕ) → spelled asks e ≡ Wctl bytes ∷ [] → IsActOf asks how → IsSpelled how → IsOrdered d asks how bytes world → IsObeyed d asks e world
unfolding stepped
obeyed d asks how e world bytes spells acts ways is =
    let left : World = (step world (says (command bytes))).world in
    record {
      left = left;
      answered = subst (λ (texts : List Text). AreAnswered world (messages texts) left (replies_to texts)) (sym spells) (one_said world (command bytes) (stepped world.desktop is.made) (Rwrite 1 (length bytes)) is.is);
      at = is.at;
      taken = takes (record {
        how = how;
        is = acts;
        spelled = ways;
        step = is.made;
        acted = is.acted;
        table = ap (λ (t : Turn). t.world.desktop.table) is.is;
        device = ap (λ (t : Turn). t.world.desktop.device) is.is;
      });
    }

-- the window with a number, which was given
record IsHere (d : Desk) (n : ℕ) : Type 0 where
  pane : Pane
  is : pane_by n d.visible ≡ Some pane
  given : n < d.next

here : (d : Desk) (n : ℕ) → ArePanes d.next d.visible → IsThere n d.visible → IsHere d n
here d n panes there = by (pane_by n d.visible) refl there
  where
    by : (o : Option Pane) → pane_by n d.visible ≡ o → IsSome o → IsHere d n
    by (Some pane) is there =
        let number : pane.number ≡ n = eqb-true pane.number n (find-passes (λ (p : Pane). p.number == n) d.visible pane is) in
        record { pane = pane; is = is; given = subst (λ (m : ℕ). m < d.next) number (one_of d.next (λ p. p.number == n) d.visible pane panes is).given }
    by None is there = absurd (let both : false ≡ true = there in cc both)

module _ (d : Desk) (e : Mouse) (world : World) (at : IsDeskIn d world) (panes : ArePanes d.next d.visible) (early : d.next < 10 ^ 9) where
  new_obeyed : (r : Rect) → MayDo (is_over d.mode d.last) d (New r) → IsObeyed d (New r) e world
  unfolding spelled
  new_obeyed r may =
      let b = may.0.box in
      let far = b.far in
      let low = b.low in
      let wide = b.wide in
      let high = b.high in
      subst (λ (place : Rect). IsObeyed d (New place) e world) (sym b.is)
      (obeyed d (New (box b.left b.top b.right b.bottom)) (act.New 0 (choice.R (box b.left b.top b.right b.bottom) ∷ []) false) e world (codes "new" ++ rect_words (box b.left b.top b.right b.bottom)) refl refl tt
      (new_ordered d world b.left b.top b.right b.bottom at (omega (arith, far, wide)) (omega (arith, low, high)) (omega (arith, far)) (omega (arith, low))
      (subst (λ (place : Rect). is_window place ≡ true) b.is may.0.fits) may.1 (omega (arith, early))))

  resize_obeyed : (window : ℕ) (r : Rect) → MayDo (is_over d.mode d.last) d (Resize window r) → IsObeyed d (Resize window r) e world
  unfolding spelled
  resize_obeyed window r may =
      let b = may.1.box in
      let far = b.far in
      let low = b.low in
      let wide = b.wide in
      let high = b.high in
      let one = here d window panes may.0 in
      let given = one.given in
      subst (λ (place : Rect). IsObeyed d (Resize window place) e world) (sym b.is)
      (obeyed d (Resize window (box b.left b.top b.right b.bottom)) (act.Command window (wctl.Resize (choice.R (box b.left b.top b.right b.bottom) ∷ []))) e world
      (codes "resize" ++ rect_words (box b.left b.top b.right b.bottom) ++ id_words window) refl refl tt
      (resize_ordered d world at b.left b.top b.right b.bottom window one.pane one.is (omega (arith, far, wide)) (omega (arith, low, high)) (omega (arith, far)) (omega (arith, low))
      (omega (arith, given, early)) (subst (λ (place : Rect). is_window place ≡ true) b.is may.1.fits)))

  move_obeyed : (pane : Pane) (by : Point) → MayDo (is_over d.mode d.last) d (Move pane by) → IsObeyed d (Move pane by) e world
  unfolding spelled
  move_obeyed pane by may =
      let given = (one_of d.next (λ p. p.number == pane.number) d.visible pane panes may.here).given in
      let x = step_read by.x may.across in
      let y = step_read by.y may.down in
      let options : List Choice = choice.Minx x.by ∷ choice.Miny y.by ∷ [] in
      obeyed d (Move pane by) (act.Command pane.number (wctl.Move options)) e world (codes "move -minx " ++ change by.x ++ codes " -miny " ++ change by.y ++ id_words pane.number) refl (options, refl)
      (all_of IsWay options (tt, (tt, tt)))
      (move_ordered d world at pane by x y may.here (step_word by.x may.across) (step_word by.y may.down) (omega (arith, given, early)) may.fits)

  delete_obeyed : (window : ℕ) → MayDo (is_over d.mode d.last) d (Delete window) → IsObeyed d (Delete window) e world
  unfolding spelled
  delete_obeyed window may =
      let one = here d window panes may.0 in
      let given = one.given in
      obeyed d (Delete window) (act.Command window wctl.Delete) e world (codes "delete" ++ id_words window) refl refl tt (delete_ordered d world at window one.pane one.is may.1 (omega (arith, given, early)))

  hide_obeyed : (pane : Pane) → MayDo (is_over d.mode d.last) d (Hide pane) → IsObeyed d (Hide pane) e world
  unfolding spelled
  hide_obeyed pane may =
      let given = may.0.given in
      obeyed d (Hide pane) (act.Command pane.number wctl.Hide) e world (codes "hide" ++ id_words pane.number) refl refl tt (hide_ordered d world at pane may.0.own may.1 (omega (arith, given, early)))

  nothing_obeyed : IsObeyed d Nothing e world
  unfolding spelled done
  nothing_obeyed = record { left = world; answered = nothing_said world; at = at; taken = rests refl refl }

  -- all but what goes to the windows
  act_obeyed : (asks : Act) → MayDo (is_over d.mode d.last) d asks → is_pass asks ≡ false → IsObeyed d asks e world
  act_obeyed Nothing may other = nothing_obeyed
  act_obeyed (Pass raised) may other = absurd (let both : true ≡ false = other in cc both)
  act_obeyed (New r) may other = new_obeyed r may
  act_obeyed (Resize window r) may other = resize_obeyed window r may
  act_obeyed (Move pane by) may other = move_obeyed pane by may
  act_obeyed (Delete window) may other = delete_obeyed window may
  act_obeyed (Hide pane) may other = hide_obeyed pane may

-- ---- which events go to the windows

picked_not : (what : Item) (at : Spot) (o : Option Pane) → is_pass (option_map_or (picked what at) o (ask Nothing (Drain None))).act ≡ false
picked_not what at None = refl
picked_not item.Resize at (Some pane) = refl
picked_not item.Move at (Some pane) = refl
picked_not item.Delete at (Some pane) = refl
picked_not item.Hide at (Some pane) = refl

swept_not : (window : Option ℕ) (o : Option Rect) → is_pass (option_map_or (swept_to window) o Nothing) ≡ false
swept_not window None = refl
swept_not None (Some r) = refl
swept_not (Some window) (Some r) = refl

passes_not : (mode : Mode) (d : Desk) (e : Mouse) → is_over mode 1 ≡ true → is_pass (asked_in mode d e).act ≡ false
passes_not Idle d e busy = absurd (let both : false ≡ true = busy in cc both)
passes_not (Menu at window) d e busy = cond_both (e.buttons == 0) _ _ (λ (a : Ask). is_pass a.act ≡ false) (λ _. refl) (λ _. refl)
passes_not (Pick what) d e busy = cond_both (e.buttons == 0) _ _ (λ (a : Ask). is_pass a.act ≡ false) (λ _. refl) (λ _. picked_not what (spot e) (pane_at (spot e) d.visible))
passes_not (Drain sweep) d e busy = refl
passes_not (Sweep window) d e busy = refl
passes_not (Sweeping window from) d e busy = cond_both (e.buttons == 0) _ _ (λ (a : Ask). is_pass a.act ≡ false) (λ _. swept_not window (swept from (spot e))) (λ _. refl)
passes_not (Drag pane from) d e busy = cond_both (e.buttons == 0) _ _ (λ (a : Ask). is_pass a.act ≡ false) (λ _. refl) (λ _. refl)

-- where the menu is asked for it does not
menu_not : (d : Desk) (e : Mouse) → (e.buttons == 4 && d.last == 0) ≡ true → is_pass (asked_in Idle d e).act ≡ false
menu_not d e press = rw press (cond_both (nat_lt (length d.visible + length d.hidden) 64) _ _ (λ (a : Ask). is_pass a.act ≡ false) (λ _. refl) (λ _. refl))

-- ---- the event

done_over : (d : Desk) (asks : Act) → is_over (done asks d).mode (done asks d).last ≡ is_over d.mode d.last
unfolding done
done_over d Nothing = refl
done_over d (Pass raised) = refl
done_over d (New r) = refl
done_over d (Resize window r) = refl
done_over d (Move pane by) = refl
done_over d (Delete window) = refl
done_over d (Hide pane) = refl

module _ (k : ℕ) (d : Desk) (e : Mouse) (world : World) (at : IsDeskIn d world) (ready : IsReady k d) (event : IsEvent e) (early : k < 10 ^ 8) where
  -- it goes to the windows
  passed_steered : d.mode ≡ Idle → (e.buttons == 4 && d.last == 0) ≡ false → IsSteered d e world
  unfolding moused stepped
  passed_steered idle other =
      let turn = passed_on d e world at event idle other in
      let left : World = (step world (says (point (text 109 e)))).world in
      record {
        left = left;
        answered = subst (λ (texts : List Text). AreAnswered world (messages texts) left (replies_to texts)) (sym turn.texts)
            (one_said world (point (text 109 e)) (moused world.desktop e) (Rwrite 1 (length (text 109 e))) turn.is);
        at = turn.at;
        taken = takes (record {
          how = act.Mouse e;
          is = subst (λ (a : Ask). IsActOf a.act (act.Mouse e)) (sym (passes d e idle other)) (e, refl);
          spelled = tt;
          step = routed deepest e 0 (begun world.desktop.table);
          acted = refl;
          table = ap (λ (t : Turn). t.world.desktop.table) turn.is;
          device = ap (λ (t : Turn). t.world.desktop.device) turn.is;
        });
      }

  -- it does not
  other_steered : is_pass (asked d e).act ≡ false → IsSteered d e world
  unfolding after written
  other_steered other =
      let few = ready.few in
      let fair = asks_fair k d e ready event in
      let done_so = act_obeyed d e world at ready.panes (omega (arith, few, early)) (asked d e).act fair.does other in
      record {
        left = done_so.left;
        answered = done_so.answered;
        at = record {
          alone = done_so.at.alone;
          follows = moves_on (done (asked d e).act d) done_so.left.desktop.table (asked d e).mode e.buttons done_so.at.follows (fair.goes_on other ∙ sym (done_over d (asked d e).act));
        };
        taken = done_so.taken;
      }

  idle_steered : (b : Bool) → (e.buttons == 4 && d.last == 0) ≡ b → d.mode ≡ Idle → IsSteered d e world
  unfolding asked
  idle_steered true press idle = other_steered (ap (λ (mode : Mode). is_pass (asked_in mode d e).act) idle ∙ menu_not d e press)
  idle_steered false press idle = passed_steered idle press

  busy_steered : is_over d.mode 1 ≡ true → IsSteered d e world
  unfolding asked
  busy_steered busy = other_steered (passes_not d.mode d e busy)

  pub steered : IsSteered d e world
  steered = by d.mode refl
    where
      by : (mode : Mode) → d.mode ≡ mode → IsSteered d e world
      by Idle is = idle_steered (e.buttons == 4 && d.last == 0) refl is
      by (Menu at window) is = busy_steered (ap (λ (mode : Mode). is_over mode 1) is)
      by (Pick what) is = busy_steered (ap (λ (mode : Mode). is_over mode 1) is)
      by (Drain sweep) is = busy_steered (ap (λ (mode : Mode). is_over mode 1) is)
      by (Sweep window) is = busy_steered (ap (λ (mode : Mode). is_over mode 1) is)
      by (Sweeping window from) is = busy_steered (ap (λ (mode : Mode). is_over mode 1) is)
      by (Drag pane from) is = busy_steered (ap (λ (mode : Mode). is_over mode 1) is)
