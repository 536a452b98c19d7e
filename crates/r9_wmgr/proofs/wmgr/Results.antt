-- What a call gave, and what that shows.
use Rattle.std.proofs.Common.{◌≡◌, ℕ, Result, Ok, Err, OnOk, OnErr, IfOk, IfErr, IsErrAnd, sym, subst}
use Rattle.model_rio.specs.rio.Act.{Act}
use Rattle.model_rio.specs.rio.Table.{Table}
use Rattle.model_rio.specs.rio.Rio.{rio}
use Rattle.model_rio.specs.rio.Sound.{IsSound}
use Rattle.model_rio.specs.rio.Notes.{AreInTurn}
use Rattle.model_rio.proofs.rio.Soundness.{step_sound}
use Rattle.model_rio.proofs.rio.Turns.{acts_turn}
use Rattle.r9_wmgr.specs.declared.wmgr.act.Step.{Step}
use Rattle.r9_wmgr.specs.declared.wmgr.act.ActFault.{ActFault}
use Rattle.r9_wmgr.specs.declared.wmgr.act.ActFault.TheVariants as fault
use Rattle.r9_wmgr.specs.wmgr.Acts.{IfRefused}

pub on_ok : {A E : Type 0} (r : Result A E) {P Q : Type 0} → (P → Q) → OnOk r P → OnOk r Q
on_ok (Ok x) f p = f p
on_ok (Err e) f p = tt

pub if_refused : (f : ActFault) (P Q : ℕ → Type 0) → ((n : ℕ) → P n → Q n) → IfRefused f P → IfRefused f Q
if_refused (fault.Refused n) P Q f p = f n p
if_refused fault.Memory P Q f p = tt

pub same_fault : {A : Type 0} (r : Result A ActFault) (f : ActFault) (P : ActFault → Type 0) → IsErrAnd r (λ e. e ≡ f) → P f → IfErr r P
same_fault (Ok x) f P e p = tt
same_fault (Err g) f P e p = subst P (sym e) p

-- what a step leaves sound
pub sound_after : (old new : Table) (act : Act) (r : Result Step ActFault) → IfOk r (λ s. rio old act ≡ Ok (record { table = new; orders = s.orders; notes = s.notes })) → OnErr r (new ≡ old) → IsSound old → IsSound new
sound_after old new act (Ok s) done kept ok = step_sound old act (record { table = new; orders = s.orders; notes = s.notes }) ok done
sound_after old new act (Err f) done kept ok = subst IsSound (sym kept) ok

-- what a step tells in turn
pub turn_after : (old new : Table) (act : Act) (r : Result Step ActFault) → IfOk r (λ s. rio old act ≡ Ok (record { table = new; orders = s.orders; notes = s.notes })) → IfOk r (λ s. IsSound old → AreInTurn s.notes)
turn_after old new act (Ok s) done = λ ok. acts_turn old act (record { table = new; orders = s.orders; notes = s.notes }) ok done
turn_after old new act (Err f) done = tt
