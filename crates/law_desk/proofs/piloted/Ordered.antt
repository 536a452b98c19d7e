-- A command of a desk is written, answered without an error, and does to rio's windows what it does to those of the desk's table.
use Rattle.std.proofs.Common.{◌≡◌, ◌∙◌, ◌<◌, ◌≤◌, ◌+◌, ◌-◌, ◌^◌, ℕ, ◌==◌, ◌&&◌, Bool, true, false, cond, List, [], ◌∷◌, ◌++◌, find, length, Option, Some, None, Ok, refl, sym, ap, subst, arith, eq-eqb, leb-true}
use Rattle.std.specs.Prelude.{codes, nat_le}
use Rattle.r9_geom.specs.declared.Point.{Point}
use Rattle.r9_geom.specs.Geometry.{shifted}
use Rattle.model_files.specs.declared.wctl.Choice.TheVariants as choice
use Rattle.model_files.specs.wctl.Command as wctl
use Rattle.model_files.specs.wctl.Command.{Command}
use Rattle.model_text.specs.text.Reading.{◌>>=◌}
use Rattle.model_files.specs.wctl.Reading.{command_in, command_of}
use Rattle.model_files.specs.wctl.Words.{line_of, words_of}
use Rattle.model_files.specs.wctl.Rectangle.{is_window}
use Rattle.model_files.specs.wire.Message.{Rwrite}
use Rattle.model_rio.specs.rio.Act as act
use Rattle.model_rio.specs.rio.Rio.{rio}
use Rattle.model_rio.specs.rio.Step.{Step}
use Rattle.model_rio.specs.rio.Sound.{window_in}
use Rattle.model_rio.specs.rio.Table.{Table, Window, found}
use Rattle.law_shown.proofs.fitting.Lists.{Each, apart_of}
use Rattle.model_client.specs.declared.desk.Act.{Act}
use Rattle.model_client.specs.declared.desk.Act.TheVariants.{Delete, Hide, Move, New, Resize}
use Rattle.model_client.specs.declared.desk.Pane.{Pane}
use Rattle.model_client.specs.desk.Spelled.{change, id_words, rect_words}
use Rattle.model_client.specs.desk.Table.{Desk, done}
use Rattle.model_world.specs.World.{World}
use Rattle.model_world.specs.Desktop.{Desktop, stepped, stepped_or}
use Rattle.model_world.specs.Whole.{device_commanded}
use Rattle.model_world.specs.Replay.{Turn, step}
use Rattle.law_text.specs.client.Pointing.{command, pointer}
use Rattle.model_clients.specs.client.Saying.{says}
use Rattle.law_text.specs.client.Saying.{answered}
use Rattle.law_text.proofs.client.Pointing.{ordered}
use Rattle.law_text.proofs.client.Saying.{stays}
use Rattle.model_clients.specs.piloted.Following.{pane_by}
use Rattle.law_desk.specs.piloted.Following.{Follows, IsDeskIn, is_over}
use Rattle.law_desk.proofs.piloted.Acts.{IsDone, delete_done, hide_done, move_done, new_done, resize_done}
use Rattle.law_desk.proofs.piloted.Commands.{IsWord, box, delete_read, hide_read, move_read, new_read, resize_read}
use Rattle.law_desk.proofs.piloted.Numbers.{IsChange}
use Rattle.law_desk.proofs.piloted.Panes.{seen_window}
use Rattle.law_desk.proofs.piloted.Plain.{are_own}

-- the command is answered so, as an act of rio's that is not refused, and leaves the windows of the desk's table
pub record IsOrdered (d : Desk) (asks : Act) (how : act.Act) (bytes : List ℕ) (world : World) : Type 0 where
  pub made : Step
  pub acted : rio world.desktop.table how ≡ Ok made
  pub is : step world (says (command bytes)) ≡ answered world (pointer, stepped world.desktop made) (Rwrite 1 (length bytes))
  pub at : IsDeskIn (done asks d) (step world (says (command bytes))).world

-- a text that spells a command is short
read_short : (text : List ℕ) (c : Command) → command_of true text ≡ Some c → length text ≤ 1024
unfolding command_of
read_short text c read = by (nat_le (length text) 1024) (line_of text >>= (λ line. command_in true (words_of line))) refl read
  where
    by : (b : Bool) (o : Option Command) → nat_le (length text) 1024 ≡ b → cond b o None ≡ Some c → length text ≤ 1024
    by true o few e = leb-true (length text) 1024 few
    by false o few e = absurd cc

carried : (d : Desk) (world : World) (asks : Act) (how : act.Act) (bytes : List ℕ) (c : Command) → IsDeskIn d world → IsDone d asks (rio world.desktop.table how) → command_of true bytes ≡ Some c
    → device_commanded world.desktop bytes ≡ stepped_or world.desktop (rio world.desktop.table how) → IsOrdered d asks how bytes world
unfolding stepped
carried d world asks how bytes c at does read commands =
    let next : Desktop = stepped world.desktop does.step in
    let turn = ordered world bytes next at.alone (commands ∙ ap (stepped_or world.desktop) does.is) (omega (arith, read_short bytes c read)) in
    record {
      made = does.step;
      acted = does.is;
      is = turn;
      at = subst (λ (w : World). IsDeskIn (done asks d) w) (sym (ap (λ (t : Turn). t.world) turn)) (record { alone = stays world (pointer, next) refl refl refl; follows = does.follows });
    }

-- ---- the window that a command names

named_in : (ws : List Window) (n : ℕ) → Each (λ w. w.host ≡ 0) ws → Each (λ w. w.number ≡ w.serial) ws → find (λ w. (w.host == 0) && (w.number == n)) ws ≡ window_in ws n
named_in [] n root own = refl
named_in (w ∷ ws) n root own = rw (eq-eqb w.host 0 root.0, ap (λ m. m == n) own.0) (ap (λ (o : Option Window). cond (w.serial == n) (Some w) o) (named_in ws n root.1 own.1))

pub found_here : (d : Desk) (table : Table) (n : ℕ) (pane : Pane) → Follows d table → pane_by n d.visible ≡ Some pane → found table (n ∷ []) ≡ Some n
unfolding found
found_here d table n pane is e =
    let own = are_own d table is in
    let seen = seen_window table.windows n pane (apart_of table.windows is.sound.serials) own.own (ap (pane_by n) is.visible ∙ e) in
    rw (named_in table.windows n own.root own.own, seen.found) (ap (λ (serial : ℕ). Some serial) seen.serial)

-- ---- each command

pub new_ordered : (d : Desk) (world : World) (left top right bottom : ℕ) → IsDeskIn d world → left < 10 ^ 7 → top < 10 ^ 7 → right < 10 ^ 7 → bottom < 10 ^ 7
    → is_window (box left top right bottom) ≡ true → length d.visible + length d.hidden < 64 → d.next < 2 ^ 32 - 1 → IsOrdered d (New (box left top right bottom)) (act.New 0 (choice.R (box left top right bottom) ∷ []) false) (codes "new" ++ rect_words (box left top right bottom)) world
unfolding device_commanded
new_ordered d world left top right bottom at l t r b fits few early =
    let read = new_read left top right bottom l t r b in
    carried d world (New (box left top right bottom)) (act.New 0 (choice.R (box left top right bottom) ∷ []) false) (codes "new" ++ rect_words (box left top right bottom)) _ at
    (new_done d world.desktop.table (box left top right bottom) at.follows fits few early) read (rw read refl)

module _ (d : Desk) (world : World) (at : IsDeskIn d world) where
  pub delete_ordered : (n : ℕ) (pane : Pane) → pane_by n d.visible ≡ Some pane → is_over d.mode d.last ≡ true → n < 10 ^ 9 → IsOrdered d (Delete n) (act.Command n wctl.Delete) (codes "delete" ++ id_words n) world
  unfolding device_commanded
  delete_ordered n pane e over small =
      let read = delete_read n small in
      carried d world (Delete n) (act.Command n wctl.Delete) (codes "delete" ++ id_words n) _ at (delete_done d world.desktop.table n pane at.follows e over) read
      (rw (read, found_here d world.desktop.table n pane at.follows e) refl)

  pub hide_ordered : (pane : Pane) → pane_by pane.number d.visible ≡ Some pane → is_over d.mode d.last ≡ true → pane.number < 10 ^ 9 → IsOrdered d (Hide pane) (act.Command pane.number wctl.Hide) (codes "hide" ++ id_words pane.number) world
  unfolding device_commanded
  hide_ordered pane e over small =
      let read = hide_read pane.number small in
      carried d world (Hide pane) (act.Command pane.number wctl.Hide) (codes "hide" ++ id_words pane.number) _ at (hide_done d world.desktop.table pane at.follows e over) read
      (rw (read, found_here d world.desktop.table pane.number pane at.follows e) refl)

  pub resize_ordered : (left top right bottom n : ℕ) (pane : Pane) → pane_by n d.visible ≡ Some pane → left < 10 ^ 7 → top < 10 ^ 7 → right < 10 ^ 7 → bottom < 10 ^ 7 → n < 10 ^ 9
      → is_window (box left top right bottom) ≡ true → IsOrdered d (Resize n (box left top right bottom)) (act.Command n (wctl.Resize (choice.R (box left top right bottom) ∷ []))) (codes "resize" ++ rect_words (box left top right bottom) ++ id_words n) world
  unfolding device_commanded
  resize_ordered left top right bottom n pane e l t r b small fits =
      let read = resize_read left top right bottom n l t r b small in
      carried d world (Resize n (box left top right bottom)) (act.Command n (wctl.Resize (choice.R (box left top right bottom) ∷ []))) (codes "resize" ++ rect_words (box left top right bottom) ++ id_words n) _ at
      (resize_done d world.desktop.table n pane (box left top right bottom) at.follows e fits) read
      (rw (read, found_here d world.desktop.table n pane at.follows e) refl)

  pub move_ordered : (pane : Pane) (by : Point) (x : IsChange by.x) (y : IsChange by.y) → pane_by pane.number d.visible ≡ Some pane → IsWord (change by.x) → IsWord (change by.y) → pane.number < 10 ^ 9
      → is_window (shifted pane.r by) ≡ true → IsOrdered d (Move pane by) (act.Command pane.number (wctl.Move (choice.Minx x.by ∷ choice.Miny y.by ∷ []))) (codes "move -minx " ++ change by.x ++ codes " -miny " ++ change by.y ++ id_words pane.number) world
  unfolding device_commanded
  move_ordered pane by x y e one two small fits =
      let read = move_read by.x by.y pane.number x y one two small in
      carried d world (Move pane by) (act.Command pane.number (wctl.Move (choice.Minx x.by ∷ choice.Miny y.by ∷ []))) (codes "move -minx " ++ change by.x ++ codes " -miny " ++ change by.y ++ id_words pane.number) _ at
      (move_done d world.desktop.table pane by x.by y.by at.follows e (x.gives pane.r.min.x) (y.gives pane.r.min.y) fits) read
      (rw (read, found_here d world.desktop.table pane.number pane at.follows e) refl)
