-- What serving says of out, input and the status.
use Rattle.std.proofs.Common.{◌≡◌, ◌≤◌, ◌^◌, ◌∙◌, inl, inr, ◌⊎◌, ℕ, Bool, List, Option, refl, sym, ap, subst, true, false, Bor}
use Rattle.std.specs.Prelude.{String}
use Rattle.std.specs.declared.alloc.Global.{Global}
use Rattle.r9_event.specs.declared.event.event.Opening.{Opening}
use Rattle.r9_outside.specs.outside.Count.{Rose}
use Rattle.r9_attend.specs.workers.Shifts.{Doors}
use Rattle.r9_service.specs.declared.service.outcome.Outcome.{Outcome}
use Rattle.r9_service.specs.declared.service.outcome.Outcome.TheVariants as outcome
use Rattle.r9_service.specs.service.Serving.{IsCaused, Serving, Side, kept_record}
use Rattle.r9_opts.specs.declared.job.Job.{Job}
use Rattle.r9_opts.specs.declared.job.Job.TheVariants.{Alone, Desk, Gen, Mirror, Replay, Serve, Text}
use Rattle.r9_serve.specs.declared.serve.status.Status.{Status}
use Rattle.r9_serve.specs.declared.serve.status.Status.TheVariants as status
use Rattle.r9_service.proofs.service.Whole.{not_started}
use Rattle.r9_serve.specs.serve.Run.{Ask, AskToServe, HasFailed, IsInputAfter, IsKeptRecord, IsOutAfter, IsServedOrSpent, WasServed, WrotePart, status_of}

module _ {D I O : Type 0} (doors : Doors D I O) where
  kept : (opening : Opening) (conns workers : ℕ) (found : Outcome) (told : Bool) (old new : List D) (out_old out err_old err : Side) (serving : Serving doors opening conns workers found told old new out_old out err_old err) → IsKeptRecord (kept_record serving.history)
  kept opening conns workers found told old new out_old out err_old err serving = record { history = serving.history; numbered = serving.numbered; legal = serving.legal; are_lines = refl }

  part : (asked : Job → Type 0) (left : Option (List ℕ)) (opening : Opening) (listen : String Global) (workers conns : ℕ) (found : Outcome) (told : Bool) (old new : List D) (out_old out err_old err : Side)
      → asked (Serve opening listen workers conns) → Serving doors opening conns workers found told old new out_old out err_old err → WrotePart asked left out_old.held out.held
  part asked left opening listen workers conns found told old new out_old out err_old err is serving = record {
    job = Serve opening listen workers conns;
    is_asked = is;
    lines = kept_record serving.history;
    are_lines = kept opening conns workers found told old new out_old out err_old err serving;
    appended = serving.front;
  }

  out_of : (asked : Job → Type 0) (left : Option (List ℕ)) (opening : Opening) (listen : String Global) (workers conns : ℕ) (found : Outcome) (told : Bool) (old new : List D) (out_old out err_old err : Side)
      → asked (Serve opening listen workers conns) → Serving doors opening conns workers found told old new out_old out err_old err → IsOutAfter asked (status_of found) left out_old.held out.held
  out_of asked left opening listen workers conns outcome.Done told old new out_old out err_old err is serving = record {
    job = Serve opening listen workers conns;
    is_asked = is;
    lines = kept_record serving.history;
    are_lines = kept opening conns workers outcome.Done told old new out_old out err_old err serving;
    appended = serving.whole refl;
  }
  out_of asked left opening listen workers conns (outcome.DoorFault worker) told old new out_old out err_old err is serving = part asked left opening listen workers conns _ told old new out_old out err_old err is serving
  out_of asked left opening listen workers conns (outcome.Spent count) told old new out_old out err_old err is serving = part asked left opening listen workers conns _ told old new out_old out err_old err is serving
  out_of asked left opening listen workers conns outcome.WriteFault told old new out_old out err_old err is serving = part asked left opening listen workers conns _ told old new out_old out err_old err is serving
  out_of asked left opening listen workers conns outcome.Memory told old new out_old out err_old err is serving = inr (part asked left opening listen workers conns _ told old new out_old out err_old err is serving)

  module _ (asked : Job → Type 0) (found : Status) (told : Bool) (old new : List D) (out_old out err_old err : Side) (was : WasServed doors asked found told old new out_old out err_old err) where
    pub served_out : (left : Option (List ℕ)) → IsOutAfter asked found left out_old.held out.held
    served_out left = subst (λ (s : Status). IsOutAfter asked s left out_old.held out.held) (sym was.status)
        (out_of asked left was.opening was.listen was.workers was.conns was.outcome told old new out_old out err_old err was.is_asked was.serving)

    pub served_input : (left : Option (List ℕ)) → IsInputAfter asked found left left
    served_input left = subst (λ (s : Status). IsInputAfter asked s left left) (sym was.status) (by was.outcome)
      where
        by : (o : Outcome) → IsInputAfter asked (status_of o) left left
        by outcome.Done = (Serve was.opening was.listen was.workers was.conns, was.is_asked, refl)
        by (outcome.DoorFault worker) = (Serve was.opening was.listen was.workers was.conns, was.is_asked, refl)
        by (outcome.Spent count) = (Serve was.opening was.listen was.workers was.conns, was.is_asked, refl)
        by outcome.WriteFault = (Serve was.opening was.listen was.workers was.conns, was.is_asked, refl)
        by outcome.Memory = tt

    -- the outcome behind a status
    done_as : (o : Outcome) → status_of o ≡ status.Done → o ≡ outcome.Done
    done_as outcome.Done is = refl
    done_as (outcome.DoorFault worker) is = absurd (cc is)
    done_as (outcome.Spent count) is = absurd (cc is)
    done_as outcome.WriteFault is = absurd (cc is)
    done_as outcome.Memory is = absurd (cc is)

    failed_as : (o : Outcome) → status_of o ≡ status.WriteFault → o ≡ outcome.WriteFault
    failed_as outcome.Done is = absurd (cc is)
    failed_as (outcome.DoorFault worker) is = absurd (cc is)
    failed_as (outcome.Spent count) is = absurd (cc is)
    failed_as outcome.WriteFault is = refl
    failed_as outcome.Memory is = absurd (cc is)

    pub served_flushed : found ≡ status.Done → out.unflushed ≡ false
    served_flushed is = was.serving.flushed (done_as was.outcome (sym was.status ∙ is))

    pub served_fault : found ≡ status.WriteFault → Rose out_old.faults out.faults ⊎ Rose err_old.faults err.faults
    served_fault is = subst (λ (o : Outcome). IsCaused doors o was.serving.history old new out_old out err_old err) (failed_as was.outcome (sym was.status ∙ is)) was.serving.caused

    worker_of : Status → ℕ
    worker_of (status.DoorFault worker) = worker
    worker_of _ = 0

    door_as : (o : Outcome) (worker : ℕ) → status_of o ≡ status.DoorFault worker → o ≡ outcome.DoorFault worker
    unfolding worker_of
    door_as outcome.Done worker is = absurd (cc is)
    door_as (outcome.DoorFault other) worker is = ap (λ (w : ℕ). outcome.DoorFault w) (ap worker_of is)
    door_as (outcome.Spent count) worker is = absurd (cc is)
    door_as outcome.WriteFault worker is = absurd (cc is)
    door_as outcome.Memory worker is = absurd (cc is)

    pub served_door : (worker : ℕ) → found ≡ status.DoorFault worker → HasFailed doors.faults worker old new
    served_door worker is = subst (λ (o : Outcome). IsCaused doors o was.serving.history old new out_old out err_old err) (door_as was.outcome worker (sym was.status ∙ is)) was.serving.caused

    count_of : Status → ℕ
    count_of (status.Spent count) = count
    count_of _ = 0

    spent_as : (o : Outcome) (count : ℕ) → status_of o ≡ status.Spent count → o ≡ outcome.Spent count
    unfolding count_of
    spent_as outcome.Done count is = absurd (cc is)
    spent_as (outcome.DoorFault worker) count is = absurd (cc is)
    spent_as (outcome.Spent other) count is = ap (λ (n : ℕ). outcome.Spent n) (ap count_of is)
    spent_as outcome.WriteFault count is = absurd (cc is)
    spent_as outcome.Memory count is = absurd (cc is)

    pub served_spent : (count : ℕ) → found ≡ status.Spent count → 2 ^ 62 ≤ count
    served_spent count is = (subst (λ (o : Outcome). IsCaused doors o was.serving.history old new out_old out err_old err) (spent_as was.outcome count (sym was.status ∙ is)) was.serving.caused).0

    -- where nothing failed
    pub served_well : (Rose out_old.faults out.faults → ⊥) → (Rose err_old.faults err.faults → ⊥) → ((worker : ℕ) → HasFailed doors.faults worker old new → ⊥) → IsServedOrSpent found
    served_well out_well err_well doors_well = subst (λ (s : Status). IsServedOrSpent s) (sym was.status) (by was.outcome was.serving.caused)
      where
        by : (o : Outcome) → IsCaused doors o was.serving.history old new out_old out err_old err → IsServedOrSpent (status_of o)
        by outcome.Done caused = inl refl
        by (outcome.DoorFault worker) caused = absurd (doors_well worker caused)
        by (outcome.Spent count) caused = inr (inl (count, refl))
        by outcome.WriteFault (inl rose) = absurd (out_well rose)
        by outcome.WriteFault (inr rose) = absurd (err_well rose)
        by outcome.Memory caused = inr (inr refl)

    -- statuses that serving never has
    abbrev IsOther : Status → Type 0
    IsOther status.Usage = ⊥
    IsOther (status.BadRecord place) = ⊥
    IsOther (status.LateRecord first) = ⊥
    IsOther (status.BadInput place) = ⊥
    IsOther (status.NotAlone entry reason) = ⊥
    IsOther status.ReadFault = ⊥
    IsOther _ = Unit {0}

    other : (o : Outcome) → IsOther (status_of o)
    other outcome.Done = tt
    other (outcome.DoorFault worker) = tt
    other (outcome.Spent count) = tt
    other outcome.WriteFault = tt
    other outcome.Memory = tt

    pub served_other : (s : Status) → found ≡ s → IsOther s
    served_other s is = subst (λ (t : Status). IsOther t) (sym was.status ∙ is) (other was.outcome)

  -- what was asked for is asked for by the words
  pub served_under : (asked : Job → Type 0) (opening : Opening) (listen : String Global) (workers conns : ℕ) (found : Status) (told : Bool) (old new : List D) (out_old out err_old err : Side)
      → asked (Serve opening listen workers conns) → WasServed doors (λ job. job ≡ Serve opening listen workers conns) found told old new out_old out err_old err → WasServed doors asked found told old new out_old out err_old err
  served_under asked opening listen workers conns found told old new out_old out err_old err is was = record {
    opening = was.opening;
    listen = was.listen;
    workers = was.workers;
    conns = was.conns;
    is_asked = subst (λ (job : Job). asked job) (sym was.is_asked) is;
    outcome = was.outcome;
    status = was.status;
    serving = was.serving;
  }

  -- for want of memory there was no serving
  pub none_served : (words : List (Bor (List ℕ))) (old : List D) (out err : Side) → AskToServe words → WasServed doors (Ask words) status.Memory true old old out out err err
  none_served words old out err (Serve opening listen workers conns, asked, is) = record {
    opening = opening;
    listen = listen;
    workers = workers;
    conns = conns;
    is_asked = asked;
    outcome = outcome.Memory;
    status = refl;
    serving = not_started doors opening conns workers old out err;
  }
  none_served words old out err (Replay opening screen, asked, is) = absurd is
  none_served words old out err (Mirror opening, asked, is) = absurd is
  none_served words old out err (Gen number, asked, is) = absurd is
  none_served words old out err (Text columns rows, asked, is) = absurd is
  none_served words old out err (Desk, asked, is) = absurd is
  none_served words old out err (Alone opening session, asked, is) = absurd is
