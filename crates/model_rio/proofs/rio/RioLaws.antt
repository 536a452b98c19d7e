-- What the definitions say of the mouse and of the order of windows.
use Rattle.std.proofs.Common.{◌≡◌, ℕ, ◌==◌, ◌&&◌, Bool, true, false, cond, not, List, [], ◌∷◌, map, find, Option, Some, Ok, refl, arith}
use Rattle.std.proofs.lemmas.Bool.Decides.{nat_tests}
use Rattle.r9_geom.specs.declared.Point.{Point}
use Rattle.r9_geom.specs.Geometry.{holds}
use Rattle.r9_event.specs.declared.event.rio.Note.TheVariants as note
use Rattle.model_files.specs.declared.mouse.Mouse.{Mouse}
use Rattle.model_rio.specs.rio.Table.{Window, Table, Held, is_host, hold_of}
use Rattle.model_rio.specs.rio.Act as act
use Rattle.model_rio.specs.rio.Step.{in_place}
use Rattle.model_rio.specs.rio.Routing.{moused, reacted}
use Rattle.model_rio.specs.rio.Rio.{rio}

pub held : (table : Table) (e : Mouse) (serial : ℕ) → hold_of table 0 ≡ Held serial → is_host table serial ≡ false → (e.buttons == 0) ≡ false
    → rio table (act.Mouse e) ≡ Ok (record { table = table; orders = []; notes = (serial, note.Mouse e.x e.y e.buttons e.msec) ∷ [] })
unfolding moused reacted
held table e serial holds hosts pressed = rw (holds, pressed, hosts) refl

pub same_serial : (b : Bool) (v w : Window) → (v.serial == w.serial) ≡ b → (cond b w v).serial ≡ v.serial
same_serial true v w e = grind (arith, nat_tests)
same_serial false v w e = refl

pub placed : (w : Window) (ws : List Window) → map (λ v. v.serial) (in_place w ws) ≡ map (λ v. v.serial) ws
placed w [] = refl
placed w (v ∷ ws) = λ i. same_serial (v.serial == w.serial) v w refl i ∷ placed w ws i

parts : (a b c : Bool) → (a && b && c) ≡ true → (a ≡ true) × (b ≡ true) × (c ≡ true)
parts true true c e = (refl, refl, e)
parts true false c e = absurd cc
parts false b c e = absurd cc

-- what the first of a list and the rest give
abbrev IsHit : ℕ → Point → Window → Type 0
IsHit host p w = ((w.host == host) ≡ true) × (not w.hidden ≡ true) × (holds w.r p ≡ true)

found_hit : (host : ℕ) (p : Point) (v w : Window) (rest : Option Window) (b : Bool) → ((v.host == host) && not v.hidden && holds v.r p) ≡ b
    → (rest ≡ Some w → IsHit host p w) → cond b (Some v) rest ≡ Some w → IsHit host p w
found_hit host p v w rest true f later e = let same : v ≡ w = cc in rw (← same) (parts (v.host == host) (not v.hidden) (holds v.r p) f)
found_hit host p v w rest false f later e = later e

pub hit : (host : ℕ) (p : Point) (ws : List Window) (w : Window) → find (λ (v : Window). (v.host == host) && not v.hidden && holds v.r p) ws ≡ Some w → IsHit host p w
hit host p [] w e = absurd cc
hit host p (v ∷ ws) w e = found_hit host p v w _ _ refl (hit host p ws w) e
