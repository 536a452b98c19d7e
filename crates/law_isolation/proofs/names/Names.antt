-- The names of windows are free when orders give them, and apart.
use Rattle.std.proofs.Common.{◌≡◌, ◌<◌, ◌+◌, ◌-◌, ◌^◌, ◌∙◌, ℕ, Bool, true, false, List, [], fold, Option, Some, None, Ok, refl, sym, ap, subst, arith}
use Rattle.std.specs.Prelude.{◌==◌, is_some, length, nat_le}
use Rattle.std.specs.Map.{keys_of}
use Rattle.std.proofs.lemmas.Bool.Decides.{nat_tests}
use Rattle.std.proofs.lemmas.List.Elements.{All-nil, All-weaker}
use Rattle.model_text.specs.map.Ascending.{Ascend}
use Rattle.model_files.specs.declared.wctl.Choice.{Choice}
use Rattle.model_files.specs.wctl.Command.{Wctl}
use Rattle.model_files.specs.wctl.Command as wctl
use Rattle.model_files.specs.wctl.Rectangle.{applied}
use Rattle.model_rio.specs.window.Pane.{Pane}
use Rattle.model_draw_parts.specs.images.Book.{add_id, new_screen}
use Rattle.model_draw.specs.draw.World.{Opening, World, started}
use Rattle.model_draw.specs.draw.Orders.{carried_out, with_root_rio}
use Rattle.model_rio.specs.rio.Table.{Window, Table, deepest, name_by, opened, rectangle_of, rio_of, window_of}
use Rattle.model_rio.specs.rio.Act.{Act}
use Rattle.model_rio.specs.rio.Act as act
use Rattle.model_rio.specs.rio.Step.{Step, begun}
use Rattle.model_rio.specs.rio.Routing.{focus, keyed, keys_of as characters, moused}
use Rattle.model_rio.specs.rio.Rio.{command_to, commanded, first_rectangle, hidden, is_full, made, made_current, new_in, new_window, rio, shown, to_bottom, to_top}
use Rattle.model_rio.specs.rio.Moving.{deleted}
use Rattle.model_rio.specs.rio.Sound.{IsSound, window_in}
use Rattle.model_rio.proofs.rio.Soundness.{opened_sound, step_sound}
use Rattle.law_shown.proofs.shown.Tests.{refuse_ok, same_Ok, second_false, value_ok}
use Rattle.law_shown.specs.fitting.Fitting.{AllFit}
use Rattle.law_shown.proofs.fitting.Lists.{each_found}
use Rattle.model_world.specs.Desktop.{panes_told}
use Rattle.law_strangers.specs.followed.Devices.{AllFree, AreNamesFree}
use Rattle.law_isolation.specs.names.Named.{IsKept, IsNameOf, IsWindowTie, Named}
use Rattle.law_isolation.proofs.names.Placing.{StandsIn, all_same, names_apart, stands_itself, window_same}
use Rattle.law_others.proofs.tied.Messages.{uses_keep}
use Rattle.law_isolation.proofs.names.Filed.{heard_keeps}
use Rattle.law_isolation.proofs.names.Standing.{Stands, Tied, bottom_stands, hidden_stands, made_current_stands, shown_stands, top_stands}
use Rattle.law_isolation.proofs.names.Moving.{hosted_holds, keyed_holds, moused_holds, moved_by_holds, resized_holds}
use Rattle.law_isolation.proofs.names.Deleting.{Left, TiedStill, deleted_left}
use Rattle.law_isolation.proofs.names.Making.{few, made_holds}

-- ---- the start

start_named : (opening : Opening) → Named (with_root_rio (started opening)) (opened opening.r) []
unfolding started with_root_rio new_screen add_id
start_named opening = record {
  sound = opened_sound opening.r;
  few = omega arith;
  ties = All-nil (λ t. IsKept t.name → IsWindowTie (opened opening.r) t);
  panes = λ window p found. absurd (let two : ◌≡◌ {A = Option Pane} None (Some p) = found in cc);
}

-- ---- acts

-- what an act has to leave
abbrev Follows : World → List (ℕ × Pane) → Step → Type 0
Follows device panes out =
    ((window : ℕ) → AllFree window device out.orders) × Named (carried_out device out.orders) out.table (fold panes_told panes out.notes)

module _ (device : World) (panes : List (ℕ × Pane)) (ascend : Ascend (keys_of panes)) where
  -- where no window comes or goes
  stands_named : (large : Table) (ok : IsSound large) (few : large.serials < 2 ^ 32) (out : Step) → Stands large ok few device panes ascend out → IsSound out.table → Follows device panes out
  stands_named large ok few out is sound = (
    is.free,
    record {
      sound = sound;
      few = let same = is.serials in omega (arith, same, few);
      ties = All-weaker (Tied large ok few device panes ascend) (λ t. IsKept t.name → IsWindowTie out.table t) (λ t was kept. let tied = was kept in record { by = tied.by; name = later t.id t.name tied.name }) _ is.ties;
      panes = λ n p found. later n p.known.name (is.files n p found);
    },
  )
    where
      later : (n : ℕ) (name : List ℕ) → IsNameOf large n name → IsNameOf out.table n name
      later n name of = record {
        lives = is.lives n of.lives;
        generation = of.generation;
        is = of.is ∙ ap (λ (path : List ℕ). name_by path of.generation) (sym (all_same out.table large is.each is.lives 9 n));
      }

  -- where windows went
  left_named : (large : Table) (ok : IsSound large) (few : large.serials < 2 ^ 32) (out : Step) → Left large device panes ascend out → AllFit device out.orders → IsSound out.table → Follows device panes out
  left_named large ok few out is fit sound = (
    is.free,
    record {
      sound = sound;
      few = let same = is.serials in omega (arith, same, few);
      ties = All-weaker (TiedStill large device panes ascend out.table.windows) (λ t. IsKept t.name → IsWindowTie out.table t) (λ t was kept. let tied = was kept in record { by = tied.0.by; name = later t.id t.name tied.0.name tied.1 }) _ (is.ties fit);
      panes = λ n p found. let lasts = is.files n p found in later n p.known.name lasts.0 lasts.1;
    },
  )
    where
      later : (n : ℕ) (name : List ℕ) → IsNameOf large n name → is_some (window_in out.table.windows n) ≡ true → IsNameOf out.table n name
      later n name of lives = record {
        lives = lives;
        generation = of.generation;
        is = of.is ∙ ap (λ (path : List ℕ). name_by path of.generation) (sym (window_same out.table large is.each sound ok n lives));
      }

  module _ (table : Table) (named : Named device table panes) where
    abbrev Holds : Step → Type 0
    Holds step = Stands table named.sound named.few device panes ascend step

    begun_holds : Holds (begun table)
    begun_holds = record {
      serials = refl;
      each = stands_itself table named.sound;
      lives = λ n lives. lives;
      ties = named.ties;
      free = λ window. tt;
      files = named.panes;
    }

    begun_left : Left table device panes ascend (begun table)
    begun_left = record {
      serials = refl;
      each = stands_itself table named.sound;
      ties = λ fit. All-weaker (λ t. IsKept t.name → IsWindowTie table t) (TiedStill table device panes ascend table.windows) (λ t was kept. let tied = was kept in (tied, tied.name.lives)) device.book.ties named.ties;
      free = λ window. tt;
      files = λ n p found. let of = named.panes n p found in (of, of.lives);
    }

    -- ---- a new window

    not_full : (n : ℕ) → nat_le (2 ^ 32 - 1) n ≡ false → n + 1 < 2 ^ 32
    not_full n e = grind (arith, nat_tests)

    new_named : (host : ℕ) (options : List Choice) (hide : Bool) (out : Step) → IsSound out.table → new_in host options hide (begun table) ≡ Ok out → Follows device panes out
    unfolding new_in
    new_named host options hide out sound e =
        let home = value_ok (rio_of table host) 42 _ out e in
        let place = value_ok (applied false options (first_rectangle (rectangle_of table host))) 47 _ out home.2 in
        let room = refuse_ok (is_full table) 49 _ out place.2 in
        let w : Window = new_window table host home.0.next hide place.0 in
        let small : w.serial < 2 ^ 32 = not_full table.serials (second_false (nat_le 64 (length table.windows)) (nat_le (2 ^ 32 - 1) table.serials) room.0) in
        let same : made w (begun table) ≡ out = same_Ok (made w (begun table)) out room.1 in
        let whole : IsSound (made w (begun table)).table = subst (λ (s : Step). IsSound s.table) (sym same) sound in
        let fresh : table.serials < w.serial = omega arith in
        subst (Follows device panes) same
        (stands_named (made w (begun table)).table whole (few table named.sound w fresh small (ap is_some home.1) device panes ascend named whole) (made w (begun table))
        (made_holds table named.sound w fresh small (ap is_some home.1) device panes ascend named whole) whole)

    -- ---- commands

    still_named : (out : Step) → IsSound out.table → Holds out → Follows device panes out
    still_named out sound is = stands_named table named.sound named.few out is sound

    commanded_named : (what : Wctl) (w : Window) (out : Step) → StandsIn table w → AllFit device out.orders → IsSound out.table → commanded what w (begun table) ≡ Ok out → Follows device panes out
    commanded_named (wctl.New options hide) w out stands fit sound e = new_named w.host options hide out sound e
    commanded_named (wctl.Resize options) w out stands fit sound e = still_named out sound (moved_by_holds table named.sound named.few device panes ascend false options w (begun table) out stands begun_holds e)
    commanded_named (wctl.Move options) w out stands fit sound e = still_named out sound (moved_by_holds table named.sound named.few device panes ascend true options w (begun table) out stands begun_holds e)
    commanded_named wctl.Top w out stands fit sound e = still_named out sound (subst Holds (same_Ok (to_top w (begun table)) out e) (top_stands table named.sound named.few device panes ascend w (begun table) stands begun_holds))
    commanded_named wctl.Bottom w out stands fit sound e = still_named out sound (subst Holds (same_Ok (to_bottom w (begun table)) out e) (bottom_stands table named.sound named.few device panes ascend w (begun table) stands begun_holds))
    commanded_named wctl.Hide w out stands fit sound e = still_named out sound (subst Holds (same_Ok (hidden w (begun table)) out e) (hidden_stands table named.sound named.few device panes ascend w (begun table) stands begun_holds))
    commanded_named wctl.Unhide w out stands fit sound e = still_named out sound (subst Holds (same_Ok (shown w (begun table)) out e) (shown_stands table named.sound named.few device panes ascend w (begun table) stands begun_holds))
    commanded_named wctl.Current w out stands fit sound e = still_named out sound (subst Holds (same_Ok (made_current w (begun table)) out e) (made_current_stands table named.sound named.few device panes ascend w (begun table) stands begun_holds))
    commanded_named wctl.Delete w out stands fit sound e =
        left_named table named.sound named.few out (subst (Left table device panes ascend) (same_Ok (deleted deepest w (begun table)) out e) (deleted_left table device panes ascend deepest w (begun table) begun_left)) fit sound
    commanded_named (wctl.Scroll scrolls) w out stands fit sound e = still_named out sound (subst Holds (same_Ok (begun table) out e) begun_holds)
    commanded_named wctl.Set w out stands fit sound e = still_named out sound (subst Holds (same_Ok (begun table) out e) begun_holds)
    commanded_named wctl.Host w out stands fit sound e = still_named out sound (hosted_holds table named.sound named.few device panes ascend w (begun table) out begun_holds e)

    command_named : (serial : ℕ) (what : Wctl) (out : Step) → AllFit device out.orders → IsSound out.table → command_to serial what (begun table) ≡ Ok out → Follows device panes out
    unfolding command_to
    command_named serial what out fit sound e =
        let found = value_ok (window_of table serial) 42 _ out e in
        let stands = each_found (StandsIn table) (λ (w : Window). w.serial == serial) table.windows found.0 (stands_itself table named.sound) found.1 in
        commanded_named what found.0 out stands fit sound found.2

    acts_named : (a : Act) (out : Step) → AllFit device out.orders → IsSound out.table → rio table a ≡ Ok out → Follows device panes out
    acts_named (act.New host options hide) out fit sound e = new_named host options hide out sound e
    acts_named (act.Command window what) out fit sound e = command_named window what out fit sound e
    acts_named (act.Mouse pointer) out fit sound e =
        still_named out sound (subst Holds (same_Ok (moused deepest pointer 0 (begun table)) out e) (moused_holds table named.sound named.few device panes ascend deepest pointer 0 (begun table) begun_holds))
    acts_named (act.Keys bytes) out fit sound e =
        still_named out sound
        (subst Holds (same_Ok (keyed (focus deepest table 0) (characters bytes) (begun table)) out e) (keyed_holds table named.sound named.few device panes ascend (focus deepest table 0) (characters bytes) (begun table) begun_holds))
    acts_named (act.Gone window) out fit sound e = command_named window wctl.Delete out fit sound e
    acts_named (act.Size width height) out fit sound e = still_named out sound (resized_holds table named.sound named.few device panes ascend width height (begun table) out begun_holds e)

-- ---- each law

pub names_are_free : AreNamesFree Named
names_are_free = record {
  start = start_named;
  acts = λ device table panes a step sound orderly fit ascend named done. acts_named device panes ascend table named a step fit (step_sound table a step sound done) done;
  uses = λ device next table panes orderly named used. record {
    sound = named.sound;
    few = named.few;
    ties = uses_keep (λ t. IsKept t.name → IsWindowTie table t) (λ t other kept. absurd (let two : true ≡ false = sym kept ∙ other in cc)) device next used named.ties;
    panes = named.panes;
  };
  heard = λ device table panes window h done named. record {
    sound = named.sound;
    few = named.few;
    ties = named.ties;
    panes = heard_keeps (IsNameOf table) panes window h done named.panes;
  };
  apart = λ device table panes m n p q named one two same.
      names_apart table named.sound named.few m n p.known.name (named.panes m p one) (subst (IsNameOf table n) (sym same) (named.panes n q two));
}
