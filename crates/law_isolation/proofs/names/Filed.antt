-- What holds of each name that a window's files tell holds after a note, where it holds of the name that the note tells.
use Rattle.std.proofs.Common.{◌≡◌, ◌∙◌, ℕ, Bool, true, false, List, [], ◌∷◌, Option, Some, None, refl, sym, subst, eqb-true}
use Rattle.std.specs.Prelude.{◌==◌}
use Rattle.std.specs.Map.{keys_of}
use Rattle.std.specs.Option.{option_map}
use Rattle.std.proofs.lemmas.Bool.{eqb-false}
use Rattle.r9_event.specs.declared.event.rio.Note.{Note}
use Rattle.r9_event.specs.declared.event.rio.Note.TheVariants as note
use Rattle.model_text.specs.text.Map.{lookup}
use Rattle.model_text.specs.map.Ascending.{Ascend}
use Rattle.model_text.proofs.map.Maps.{with-others}
use Rattle.model_rio.specs.window.Heard.{Heard, Noted, Raw, Written, Labelled, MouseRead, ConsoleRead, MouseHeld, ConsctlHeld}
use Rattle.model_rio.specs.window.Pane.{Pane, new_pane, pane_heard}
use Rattle.model_world.specs.Desktop.{pane_of, pane_told, panes_told}
use Rattle.law_likeness.specs.agreement.Agreement.{IsDone}
use Rattle.law_shown.proofs.shown.Tests.{same_Some}
use Rattle.law_strangers.specs.followed.Following.{pane_noted}
use Rattle.law_strangers.proofs.followed.Noted.{heard_here, pane_after}

-- what a window has after one note
told_here : (panes : List (ℕ × Pane)) (at window : ℕ) (n : Note) → Ascend (keys_of panes) → (window == at) ≡ true → lookup (panes_told panes (at, n)) window ≡ pane_noted (lookup panes window) n
told_here panes at window n order is = pane_after window ((at, n) ∷ []) panes order ∙ rw is refl

told_elsewhere : (panes : List (ℕ × Pane)) (at window : ℕ) (n : Note) → Ascend (keys_of panes) → (window == at) ≡ false → lookup (panes_told panes (at, n)) window ≡ lookup panes window
told_elsewhere panes at window n order is = pane_after window ((at, n) ∷ []) panes order ∙ rw is refl

module _ (Q : ℕ → List ℕ → Type 0) where
  -- it holds of each name that files tell
  abbrev pub AllFiles : List (ℕ × Pane) → Type 0
  AllFiles panes = (window : ℕ) (p : Pane) → lookup panes window ≡ Some p → Q window p.known.name

  -- and of the name that a note tells
  abbrev pub Tells : (window : ℕ) → Note → Type 0
  Tells window (note.Made number serial name r depth) = Q window name
  Tells window (note.Moved name r) = Q window name
  Tells window (note.Resized name r) = Q window name
  Tells window _ = Unit {0}

  noted : (window : ℕ) (o : Option Pane) (n : Note) → Tells window n → ((p : Pane) → o ≡ Some p → Q window p.known.name) → (p : Pane) → pane_noted o n ≡ Some p → Q window p.known.name
  unfolding pane_heard
  noted window o (note.Made number serial name r depth) tells all p e = subst (λ (p : Pane). Q window p.known.name) (same_Some (pane_heard new_pane (Noted (note.Made number serial name r depth))) p e) tells
  noted window o note.Deleted tells all p e = absurd cc
  noted window None (note.Moved name r) tells all p e = absurd cc
  noted window None (note.Resized name r) tells all p e = absurd cc
  noted window None (note.Hidden hidden) tells all p e = absurd cc
  noted window None (note.Current current) tells all p e = absurd cc
  noted window None (note.Mouse x y buttons msec) tells all p e = absurd cc
  noted window None (note.Key bytes) tells all p e = absurd cc
  noted window (Some q) (note.Moved name r) tells all p e = subst (λ (p : Pane). Q window p.known.name) (same_Some (pane_heard q (Noted (note.Moved name r))) p e) tells
  noted window (Some q) (note.Resized name r) tells all p e = subst (λ (p : Pane). Q window p.known.name) (same_Some (pane_heard q (Noted (note.Resized name r))) p e) tells
  noted window (Some q) (note.Hidden hidden) tells all p e = subst (λ (p : Pane). Q window p.known.name) (same_Some (pane_heard q (Noted (note.Hidden hidden))) p e) (all q refl)
  noted window (Some q) (note.Current current) tells all p e = subst (λ (p : Pane). Q window p.known.name) (same_Some (pane_heard q (Noted (note.Current current))) p e) (all q refl)
  noted window (Some q) (note.Mouse x y buttons msec) tells all p e = subst (λ (p : Pane). Q window p.known.name) (same_Some (pane_heard q (Noted (note.Mouse x y buttons msec))) p e) (all q refl)
  noted window (Some q) (note.Key bytes) tells all p e = subst (λ (p : Pane). Q window p.known.name) (same_Some (pane_heard q (Noted (note.Key bytes))) p e) (all q refl)

  pub told_keeps : (panes : List (ℕ × Pane)) (at : ℕ) (n : Note) → Ascend (keys_of panes) → Tells at n → AllFiles panes → AllFiles (panes_told panes (at, n))
  told_keeps panes at n order tells all window p found = by (window == at) refl
    where
      by : (b : Bool) → (window == at) ≡ b → Q window p.known.name
      by true is =
          noted window (lookup panes window) n (subst (λ (k : ℕ). Tells k n) (sym (eqb-true window at is)) tells) (λ q e. all window q e) p (sym (told_here panes at window n order is) ∙ found)
      by false is = all window p (sym (told_elsewhere panes at window n order is) ∙ found)

  -- what is heard at a window tells no name
  heard : (window : ℕ) (o : Option Pane) (h : Heard) → IsDone h → ((p : Pane) → o ≡ Some p → Q window p.known.name) → (p : Pane) → option_map (λ p. pane_heard p h) o ≡ Some p → Q window p.known.name
  unfolding pane_heard
  heard window None h done all p e = absurd cc
  heard window (Some q) (Noted n) done all p e = absurd done
  heard window (Some q) (Raw raw) done all p e = subst (λ (p : Pane). Q window p.known.name) (same_Some (pane_heard q (Raw raw)) p e) (all q refl)
  heard window (Some q) (Written bytes) done all p e = subst (λ (p : Pane). Q window p.known.name) (same_Some (pane_heard q (Written bytes)) p e) (all q refl)
  heard window (Some q) (Labelled bytes) done all p e = subst (λ (p : Pane). Q window p.known.name) (same_Some (pane_heard q (Labelled bytes)) p e) (all q refl)
  heard window (Some q) MouseRead done all p e = subst (λ (p : Pane). Q window p.known.name) (same_Some (pane_heard q MouseRead) p e) (all q refl)
  heard window (Some q) (ConsoleRead count) done all p e = subst (λ (p : Pane). Q window p.known.name) (same_Some (pane_heard q (ConsoleRead count)) p e) (all q refl)
  heard window (Some q) (MouseHeld held) done all p e = subst (λ (p : Pane). Q window p.known.name) (same_Some (pane_heard q (MouseHeld held)) p e) (all q refl)
  heard window (Some q) (ConsctlHeld held) done all p e = subst (λ (p : Pane). Q window p.known.name) (same_Some (pane_heard q (ConsctlHeld held)) p e) (all q refl)

  pub heard_keeps : (panes : List (ℕ × Pane)) (at : ℕ) (h : Heard) → IsDone h → AllFiles panes → AllFiles (pane_told panes at h)
  heard_keeps panes at h done all window p found = by (window == at) refl
    where
      by : (b : Bool) → (window == at) ≡ b → Q window p.known.name
      by true is =
          let same : window ≡ at = eqb-true window at is in
          heard window (lookup panes window) h done (λ q e. all window q e) p
          (subst (λ (k : ℕ). option_map (λ p. pane_heard p h) (lookup panes k) ≡ lookup (pane_told panes at h) k) (sym same) (sym (heard_here panes at h)) ∙ found)
      by false is = all window p (sym (with-others panes at window (pane_heard (pane_of panes at) h) (eqb-false window at is)) ∙ found)

-- a window that is deleted has no files any more
pub deleted_keeps : (P Q : ℕ → List ℕ → Type 0) (panes : List (ℕ × Pane)) (at : ℕ) → Ascend (keys_of panes) → ((window : ℕ) (name : List ℕ) → (window == at) ≡ false → P window name → Q window name)
    → AllFiles P panes → AllFiles Q (panes_told panes (at, note.Deleted))
deleted_keeps P Q panes at order weaker all window p found = by (window == at) refl
  where
    by : (b : Bool) → (window == at) ≡ b → Q window p.known.name
    by true is = absurd (let two : ◌≡◌ {A = Option Pane} None (Some p) = sym (told_here panes at window note.Deleted order is) ∙ found in cc)
    by false is = weaker window p.known.name is (all window p (sym (told_elsewhere panes at window note.Deleted order is) ∙ found))
