-- What is read of a window that is not there.
use Rattle.std.proofs.Common.{◌≡◌, ℕ, Bool, false, cond, eqb, List, [], Option, Some, None, refl, sym, ap, ◌∙◌}
use Rattle.std.specs.Prelude.{option_map}
use Rattle.std.specs.Option.{option_map_or}
use Rattle.model_files.specs.mouse.Queue.{answer, answer_text}
use Rattle.model_files.specs.console.Console as console
use Rattle.model_rio.specs.window.Pane.{Pane, new_pane}
use Rattle.model_alone.specs.alone.Lone.{LoneDesktop, is_window, pane_alone}
use Rattle.r9_isol.specs.declared.isol.desktop.Desktop.{Desktop}
use Rattle.r9_isol.specs.declared.isol.desktop.Window.{Window}
use Rattle.r9_isol.specs.isol.World.{parts_of}

pub no_pane : (desktop : LoneDesktop) (serial : ℕ) → is_window desktop serial ≡ false → pane_alone desktop serial ≡ new_pane
no_pane desktop serial none = by desktop.window none
  where
    by : (o : Option (ℕ × Pane)) → option_map_or (λ w. eqb w.0 serial) o false ≡ false → option_map_or (λ w. cond (eqb w.0 serial) w.1 new_pane) o new_pane ≡ new_pane
    by None none = refl
    by (Some w) none = ap (λ b. cond b w.1 new_pane) none

pub no_mouse : (desktop : LoneDesktop) (serial : ℕ) → is_window desktop serial ≡ false → None ≡ answer_text (pane_alone desktop serial).mouse
unfolding answer
no_mouse desktop serial none = ap (λ (p : Pane). answer_text p.mouse) (sym (no_pane desktop serial none))

no_lines : (count : ℕ) (b : Bool) (o : Option (List ℕ)) → eqb count 0 ≡ b → o ≡ cond b (Some []) None → o ≡ console.read count new_pane.console
unfolding console.read
no_lines count b o is given = given ∙ ap (λ (empty : Bool). cond empty (Some []) None) (sym is)

-- a read of 0 bytes gives none, and another one waits
pub no_console : (count : ℕ) (desktop : LoneDesktop) (serial : ℕ) (b : Bool) (o : Option (List ℕ)) → is_window desktop serial ≡ false → eqb count 0 ≡ b → o ≡ cond b (Some []) None
    → o ≡ console.read count (pane_alone desktop serial).console
no_console count desktop serial b o none is given = no_lines count b o is given ∙ ap (λ (p : Pane). console.read count p.console) (sym (no_pane desktop serial none))

-- ---- no such window is there

pub none_there : (d : Desktop) (serial : ℕ) → d.window ≡ None → is_window (parts_of d) serial ≡ false
none_there d serial none = ap (λ (o : Option Window). option_map_or (λ (w : ℕ × Pane). eqb w.0 serial) (option_map (λ w. (w.serial, w.pane)) o) false) none

pub other_there : (d : Desktop) (serial : ℕ) (w : Window) → d.window ≡ Some w → eqb w.serial serial ≡ false → is_window (parts_of d) serial ≡ false
other_there d serial w is other = ap (λ (o : Option Window). option_map_or (λ (w : ℕ × Pane). eqb w.0 serial) (option_map (λ w. (w.serial, w.pane)) o) false) is ∙ other
