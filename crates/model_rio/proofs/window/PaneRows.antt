-- What is kept of a window after some lists of what happened, by computing.
use Rattle.std.specs.Prelude.{◌≡◌, refl, ℕ, true, false, pos, [], ◌∷◌, codes, replicate, Some}
use Rattle.r9_event.specs.declared.event.rio.Note.TheVariants as note
use Rattle.model_files.specs.wctl.Rectangle.{box}
use Rattle.model_files.specs.mouse.Queue.{fed, answered}
use Rattle.model_files.specs.console.Console.{keyed, with_raw, after_read}
use Rattle.model_rio.specs.window.Heard.{Noted, Raw, Written, MouseRead, ConsoleRead, MouseHeld, ConsctlHeld, Labelled}
use Rattle.model_rio.specs.window.Pane.{pane_heard, pane_after, new_pane}

-- all that the cases compute with
everything : ℕ
unfolding pane_after pane_heard fed answered keyed with_raw after_read
everything = 0

-- each thing that can happen shows in what is kept
all_kinds : pane_after (
    Noted (note.Made 2 7 (codes "window.2.7") (box (pos 10) (pos 10) (pos 50) (pos 40)) 1) ∷
    Noted (note.Current true) ∷
    Noted (note.Moved (codes "window.2.8") (box (pos 20) (pos 12) (pos 60) (pos 42))) ∷
    Noted (note.Mouse (pos 5) (pos 6) 1 100) ∷
    MouseRead ∷
    Noted (note.Mouse (pos 6) (pos 6) 1 101) ∷
    Noted (note.Key (codes "a")) ∷
    Raw true ∷
    Noted (note.Key (codes "b")) ∷
    Written (codes "out") ∷
    ConsoleRead 9 ∷
    Labelled (codes "shell") ∷
    MouseHeld true ∷
    ConsctlHeld true ∷
    Noted (note.Hidden true) ∷ [])
    ≡ (record {
      known = record { number = 2; name = codes "window.2.8"; r = box (pos 20) (pos 12) (pos 60) (pos 42); current = true; hidden = true };
      label = codes "shell";
      mouse = record {
        clicks = [];
        move = Some (record { x = pos 6; y = pos 6; buttons = 1; msec = 101 });
        last = record { x = pos 6; y = pos 6; buttons = 1; msec = 101 };
        changed = false;
      };
      console = record { line = []; ended = codes "b" ∷ []; raw = true; written = codes "aout" };
      mouse_held = true;
      consctl_held = true;
    })
unfolding everything
all_kinds = refl

-- of a label the first 256 bytes are kept, and the next one takes its place
long_label : (pane_after (Labelled (replicate 300 97) ∷ [])).label ≡ replicate 256 97
unfolding everything
long_label = refl

next_label : pane_after (Labelled (codes "one") ∷ Labelled [] ∷ []) ≡ new_pane
unfolding everything
next_label = refl

-- reads that wait leave all as it is
waiting_reads : pane_after (MouseRead ∷ ConsoleRead 5 ∷ Noted note.Deleted ∷ []) ≡ new_pane
unfolding everything
waiting_reads = refl

-- raw mode goes with `consctl`
raw_ends : (pane_after (ConsctlHeld true ∷ Raw true ∷ ConsctlHeld false ∷ Noted (note.Key (codes "b")) ∷ [])).console.line ≡ codes "b" ∷ []
unfolding everything
raw_ends = refl
