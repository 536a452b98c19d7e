-- When an event opens a menu.
use Rattle.std.proofs.Common.{◌≡◌, ℕ, pos, ◌-ℤ◌, zero, suc, ◌==◌, ◌&&◌, ◌+◌, ◌/◌, Bool, true, false, [], length, Option, Some, None, refl}
use Rattle.std.specs.Prelude.{nat_lt, slice_get}
use Rattle.std.specs.Option.{option_map_or, unwrap_or}
use Rattle.std.proofs.lemmas.Bool.{cond_both}
use Rattle.r9_geom.specs.Geometry.{distance}
use Rattle.model_files.specs.declared.mouse.Mouse.{Mouse}
use Rattle.model_client.specs.declared.desk.Act.TheVariants.{New, Nothing}
use Rattle.model_client.specs.declared.desk.Ask.{Ask}
use Rattle.model_client.specs.declared.desk.Item.{Item}
use Rattle.model_client.specs.declared.desk.Item.TheVariants as item
use Rattle.model_client.specs.declared.desk.Mode.{Mode}
use Rattle.model_client.specs.declared.desk.Mode.TheVariants.{Drag, Drain, Idle, Menu, Pick, Sweep, Sweeping}
use Rattle.model_client.specs.declared.desk.Pane.{Pane}
use Rattle.model_client.specs.declared.desk.Spot.{Spot}
use Rattle.model_client.specs.desk.Table.{Desk, pane_at}
use Rattle.model_client.specs.desk.Asked.{after_drain, ask, asked_in, chosen, is_within, items, menu_rect, picked, spot}
use Rattle.model_world.specs.World.{World}
use Rattle.model_clients.specs.piloted.History.{ShowsMenu}
use Rattle.law_menus.specs.menus.Writes.{bands_after, bands_in}

abbrev pub is_menu : Mode → Bool
is_menu Idle = false
is_menu (Menu at window) = true
is_menu (Pick what) = false
is_menu (Drain sweep) = false
is_menu (Sweep window) = false
is_menu (Sweeping window from) = false
is_menu (Drag pane from) = false

-- where there is none, nothing has to show, and nothing more is written
pub no_menu : (mode : Mode) (world : World) → is_menu mode ≡ false → ShowsMenu mode world
no_menu Idle world none = tt
no_menu (Menu at window) world none = absurd (let both : true ≡ false = none in cc both)
no_menu (Pick what) world none = tt
no_menu (Drain sweep) world none = tt
no_menu (Sweep window) world none = tt
no_menu (Sweeping window from) world none = tt
no_menu (Drag pane from) world none = tt

none_in : (mode : Mode) → is_menu mode ≡ false → bands_in mode ≡ []
none_in Idle none = refl
none_in (Menu at window) none = absurd (let both : true ≡ false = none in cc both)
none_in (Pick what) none = refl
none_in (Drain sweep) none = refl
none_in (Sweep window) none = refl
none_in (Sweeping window from) none = refl
none_in (Drag pane from) none = refl

pub no_bands : (before after : Mode) → is_menu after ≡ false → bands_after before after ≡ []
no_bands Idle after none = none_in after none
no_bands (Menu at window) after none = refl
no_bands (Pick what) after none = refl
no_bands (Drain sweep) after none = refl
no_bands (Sweep window) after none = refl
no_bands (Sweeping window from) after none = refl
no_bands (Drag pane from) after none = refl

-- ---- what each mode leads to

plain_item : (n : ℕ) → is_menu (unwrap_or (slice_get items n) Idle) ≡ false
plain_item zero = refl
plain_item (suc zero) = refl
plain_item (suc (suc zero)) = refl
plain_item (suc (suc (suc zero))) = refl
plain_item (suc (suc (suc (suc zero)))) = refl
plain_item (suc (suc (suc (suc (suc n))))) = refl

abbrev IsPlain : Ask → Type 0
IsPlain a = is_menu a.mode ≡ false

plain_picked : (what : Item) (at : Spot) (o : Option Pane) → IsPlain (option_map_or (picked what at) o (ask Nothing (Drain None)))
plain_picked what at None = refl
plain_picked item.Resize at (Some pane) = refl
plain_picked item.Move at (Some pane) = refl
plain_picked item.Delete at (Some pane) = refl
plain_picked item.Hide at (Some pane) = refl

plain_drain : (sweep : Option ℕ) → is_menu (after_drain sweep) ≡ false
plain_drain None = refl
plain_drain (Some window) = refl

plain_chosen : (menu at : Spot) → is_menu (chosen menu at) ≡ false
plain_chosen menu at =
    cond_both (is_within (pos 4) (pos 43) (at.x -ℤ menu.x) && is_within (pos 4) (pos 83) (at.y -ℤ menu.y)) _ _ (λ (mode : Mode). is_menu mode ≡ false)
    (λ _. plain_item (distance (pos 4) (at.y -ℤ menu.y) / 16)) (λ _. refl)

-- in a mode where no press goes to the windows, the menu stands as it did, or there is none
pub data Goes (mode : Mode) (d : Desk) (e : Mouse) : Type 0 where
  -- a menu comes
  opens : mode ≡ Idle → asked_in mode d e ≡ ask (New (menu_rect (spot e))) (Menu (spot e) d.next) → Goes mode d e
  -- nothing is asked for, and the menu stands
  stands : (at : Spot) (window : ℕ) → mode ≡ Menu at window → asked_in mode d e ≡ ask Nothing (Menu at window) → Goes mode d e
  plain : IsPlain (asked_in mode d e) → Goes mode d e

pub goes : (mode : Mode) (d : Desk) (e : Mouse) → Goes mode d e
goes Idle d e = by (e.buttons == 4 && d.last == 0) (nat_lt (length d.visible + length d.hidden) 64) refl refl
  where
    by : (b c : Bool) → (e.buttons == 4 && d.last == 0) ≡ b → nat_lt (length d.visible + length d.hidden) 64 ≡ c → Goes Idle d e
    by true true press room = opens refl (rw (press, room) refl)
    by true false press room = plain (rw (press, room) refl)
    by false c press room = plain (rw press refl)
goes (Menu at window) d e = by (e.buttons == 0) refl
  where
    by : (b : Bool) → (e.buttons == 0) ≡ b → Goes (Menu at window) d e
    by true free = plain (rw free (plain_chosen at (spot e)))
    by false held = stands at window refl (rw held refl)
goes (Pick what) d e = plain (cond_both (e.buttons == 0) _ _ IsPlain (λ _. refl) (λ _. plain_picked what (spot e) (pane_at (spot e) d.visible)))
goes (Drain sweep) d e = plain (cond_both (e.buttons == 0) _ _ (λ (mode : Mode). is_menu mode ≡ false) (λ _. plain_drain sweep) (λ _. refl))
goes (Sweep window) d e = plain (cond_both (e.buttons == 0) _ _ (λ (mode : Mode). is_menu mode ≡ false) (λ _. refl) (λ _. refl))
goes (Sweeping window from) d e = plain (cond_both (e.buttons == 0) _ _ IsPlain (λ _. refl) (λ _. refl))
goes (Drag pane from) d e = plain (cond_both (e.buttons == 0) _ _ IsPlain (λ _. refl) (λ _. refl))
