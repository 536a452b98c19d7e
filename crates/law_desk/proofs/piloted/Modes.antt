-- Between two events a press goes on that went to the windows, or none does, as the mode says.
use Rattle.std.proofs.Common.{◌≡◌, ◌∙◌, ℕ, ◌==◌, Bool, true, false, cond, Option, Some, None, refl, sym, subst}
use Rattle.std.specs.Option.{option_map_or}
use Rattle.std.proofs.lemmas.Bool.{cond_both}
use Rattle.model_files.specs.declared.mouse.Mouse.{Mouse}
use Rattle.model_rio.specs.rio.Table.{Table}
use Rattle.model_client.specs.declared.desk.Act.{Act}
use Rattle.model_client.specs.declared.desk.Act.TheVariants.{Nothing}
use Rattle.model_client.specs.declared.desk.Ask.{Ask}
use Rattle.model_client.specs.declared.desk.Item.{Item}
use Rattle.model_client.specs.declared.desk.Item.TheVariants as item
use Rattle.model_client.specs.declared.desk.Mode.{Mode}
use Rattle.model_client.specs.declared.desk.Mode.TheVariants.{Drag, Drain, Idle, Menu, Pick, Sweep, Sweeping}
use Rattle.model_client.specs.declared.desk.Pane.{Pane}
use Rattle.model_client.specs.declared.desk.Spot.{Spot}
use Rattle.model_client.specs.desk.Table.{Desk, done}
use Rattle.model_client.specs.desk.Asked.{after_drain, ask, asked, asked_in, picked}
use Rattle.model_client.specs.desk.Pilot.{after}
use Rattle.law_desk.specs.piloted.Following.{Follows, is_over}
use Rattle.law_desk.proofs.piloted.Acts.{moves_on}

-- without buttons none does
over_free : (mode : Mode) (buttons : ℕ) → (buttons == 0) ≡ true → is_over mode buttons ≡ true
over_free Idle buttons free = free
over_free (Menu at window) buttons free = refl
over_free (Pick item) buttons free = refl
over_free (Drain sweep) buttons free = refl
over_free (Sweep window) buttons free = refl
over_free (Sweeping window from) buttons free = refl
over_free (Drag pane from) buttons free = refl

over_either : (b : Bool) (x y : Ask) (n : ℕ) → (b ≡ true → is_over x.mode n ≡ true) → (b ≡ false → is_over y.mode n ≡ true) → is_over (cond b x y).mode n ≡ true
over_either b x y n one other = cond_both b x y (λ a. is_over a.mode n ≡ true) one other

over_picked : (what : Item) (at : Spot) (o : Option Pane) (n : ℕ) → is_over (option_map_or (picked what at) o (ask Nothing (Drain None))).mode n ≡ true
over_picked what at None n = refl
over_picked item.Resize at (Some pane) n = refl
over_picked item.Move at (Some pane) n = refl
over_picked item.Delete at (Some pane) n = refl
over_picked item.Hide at (Some pane) n = refl

over_waiting : (b : Bool) (sweep : Option ℕ) (n : ℕ) → (b ≡ true → (n == 0) ≡ true) → is_over (cond b (after_drain sweep) (Drain sweep)) n ≡ true
over_waiting b sweep n free = cond_both b (after_drain sweep) (Drain sweep) (λ mode. is_over mode n ≡ true) (λ is. over_free (after_drain sweep) n (free is)) (λ _. refl)

-- the modes but Idle: what went before and what comes is over
over_after : (mode : Mode) (d : Desk) (e : Mouse) → is_over mode 1 ≡ true → is_over (asked_in mode d e).mode e.buttons ≡ true
over_after Idle d e busy = absurd (let both : false ≡ true = busy in cc both)
over_after (Menu at window) d e busy = over_either (e.buttons == 0) _ _ e.buttons (λ free. over_free _ e.buttons free) (λ _. refl)
over_after (Pick what) d e busy = over_either (e.buttons == 0) _ _ e.buttons (λ _. refl) (λ _. over_picked what _ _ e.buttons)
over_after (Drain sweep) d e busy = over_waiting (e.buttons == 0) sweep e.buttons (λ free. free)
over_after (Sweep window) d e busy = cond_both (e.buttons == 0) _ _ (λ mode. is_over mode e.buttons ≡ true) (λ _. refl) (λ _. refl)
over_after (Sweeping window from) d e busy = over_either (e.buttons == 0) _ _ e.buttons (λ free. free) (λ _. refl)
over_after (Drag pane from) d e busy = over_either (e.buttons == 0) _ _ e.buttons (λ free. free) (λ _. refl)

over_before : (mode : Mode) (last : ℕ) → is_over mode 1 ≡ true → is_over mode last ≡ true
over_before Idle last busy = absurd (let both : false ≡ true = busy in cc both)
over_before (Menu at window) last busy = refl
over_before (Pick what) last busy = refl
over_before (Drain sweep) last busy = refl
over_before (Sweep window) last busy = refl
over_before (Sweeping window from) last busy = refl
over_before (Drag pane from) last busy = refl

-- An event that asks for nothing leaves all windows, and those of the desk's table.
pub quiet_follows : (d : Desk) (table : Table) (e : Mouse) → Follows d table → is_over d.mode 1 ≡ true → (asked d e).act ≡ Nothing → Follows (after d e) table
unfolding asked after done
quiet_follows d table e is busy none =
    let over : is_over (asked_in d.mode d e).mode e.buttons ≡ is_over d.mode d.last = over_after d.mode d e busy ∙ sym (over_before d.mode d.last busy) in
    subst (λ (what : Act). Follows (record (done what d) { last = e.buttons; mode = (asked_in d.mode d e).mode }) table) (sym none) (moves_on d table (asked_in d.mode d e).mode e.buttons is over)
