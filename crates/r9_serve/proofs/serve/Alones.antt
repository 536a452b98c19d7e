-- A session that is alone is answered, and of one that is not it is told from where on and why.
use Rattle.std.proofs.Common.{◌≡◌, ◌∙◌, inl, inr, ℕ, List, Option, Some, None, refl, sym, ap, subst, Bor}
use Rattle.std.specs.Prelude.{IfSome}
use Rattle.r9_event.specs.declared.event.event.Event.{Event}
use Rattle.r9_event.specs.declared.event.event.Opening.{Opening}
use Rattle.model_history.specs.records.Record.{IsRecord}
use Rattle.model_alone.specs.alone.Own.{not_alone}
use Rattle.r9_serve.specs.replay.Replays.{HadRecord, WasBadAt, WasLate}
use Rattle.r9_opts.specs.declared.job.Job.{Job}
use Rattle.r9_opts.specs.declared.job.Job.TheVariants.{Replay, Mirror, Serve, Alone, Text, Desk, Gen}
use Rattle.r9_opts.proofs.Options.{none_some, some_inj}
use Rattle.r9_journal.proofs.Headers.{record_not_late}
use Rattle.r9_journal.proofs.Records.{not_both}
use Rattle.r9_serve.specs.declared.serve.status.Status.{Status}
use Rattle.r9_serve.specs.declared.serve.status.Status.TheVariants as status
use Rattle.r9_serve.specs.serve.Run.{Ask, AskForAlone, IsFirstOutput, IsOutAfter, IsToldNotAlone, WasAskedNotAlone}
use Rattle.r9_serve.proofs.serve.Asking.{alone_not_replay, alone_of_record, desk_not_record, gen_not_record, serve_not_record, text_not_record}
use Rattle.r9_serve.proofs.serve.Displays.{asked_once}
use Rattle.r9_serve.proofs.serve.Statuses.{is_first}

module _ (words : List (Bor (List ℕ))) (left : Option (List ℕ)) (text : List ℕ) (events : List Event) (opening : Opening) (session : ℕ) where
  -- the record of an input is that of these events
  had_same : (found : List Event) → left ≡ Some text → IsRecord text events → HadRecord left found → found ≡ events
  had_same found told is had =
      let same : text ≡ had.text = subst (λ (l : Option (List ℕ)). IfSome l (λ bytes. bytes ≡ had.text)) told had.told in
      had.one events (subst (λ (t : List ℕ). IsRecord t events) same is)

  -- what is known of the session that was asked for, over the events that the record had, is known of this one
  of_asked : (other : Opening) (d : ℕ) (found : List Event) (told_from : Option (ℕ × ℕ)) → left ≡ Some text → IsRecord text events → AskForAlone words opening session → AskForAlone words other d
      → HadRecord left found → not_alone other d found ≡ told_from → not_alone opening session events ≡ told_from
  of_asked other d found told_from told is asks also had from =
      let once = asked_once words opening other session d asks also in
      ap (λ (o : Opening). not_alone o session events) once.0 ∙ ap (λ (c : ℕ). not_alone other c events) once.1
      ∙ ap (λ (es : List Event). not_alone other d es) (sym (had_same found told is had)) ∙ from

  lone_from : (entry reason : ℕ) → left ≡ Some text → IsRecord text events → AskForAlone words opening session → WasAskedNotAlone words left entry reason → not_alone opening session events ≡ Some (entry, reason)
  lone_from entry reason told is asks lone = of_asked lone.opening lone.session lone.was.events (Some (entry, reason)) told is asks lone.asks lone.was.had lone.was.is

  pub not_lone : (entry reason : ℕ) → left ≡ Some text → IsRecord text events → AskForAlone words opening session → not_alone opening session events ≡ None → WasAskedNotAlone words left entry reason → ⊥
  not_lone entry reason told is asks alone lone = none_some _ (sym alone ∙ lone_from entry reason told is asks lone)

  -- there is no output where the session is not alone
  no_lines : (job : Job) (lines : List ℕ) (entry reason : ℕ) → left ≡ Some text → IsRecord text events → AskForAlone words opening session → not_alone opening session events ≡ Some (entry, reason)
      → Ask words job → IsFirstOutput job left lines → ⊥
  no_lines (Alone other d) lines entry reason told is asks from ask out =
      none_some _ (sym (of_asked other d out.are.events None told is asks ask out.are.had out.are.alone) ∙ from)
  no_lines (Replay o screen) lines entry reason told is asks from ask out = alone_not_replay words opening session asks (Replay o screen, ask, tt)
  no_lines (Mirror o) lines entry reason told is asks from ask out = alone_not_replay words opening session asks (Mirror o, ask, tt)
  no_lines (Gen number) lines entry reason told is asks from ask out = gen_not_record words number (alone_of_record words opening session asks) ask
  no_lines (Serve o listen workers conns) lines entry reason told is asks from ask out = serve_not_record words (alone_of_record words opening session asks) (Serve o listen workers conns, ask, tt)
  no_lines (Text columns rows) lines entry reason told is asks from ask out = text_not_record words (Text columns rows, ask, tt) (alone_of_record words opening session asks)
  no_lines Desk lines entry reason told is asks from ask out = desk_not_record words (Desk, ask, tt) (alone_of_record words opening session asks)

pub accompanied_by : (words : List (Bor (List ℕ))) (found : Status) (left before after : Option (List ℕ)) (text : List ℕ) (events : List Event) (opening : Opening) (session entry reason : ℕ)
    → left ≡ Some text → IsRecord text events → AskForAlone words opening session → not_alone opening session events ≡ Some (entry, reason)
    → (found ≡ status.Usage → ⊥) → IsOutAfter (Ask words) found left before after → ((place : ℕ) → found ≡ status.BadRecord place → WasBadAt left place)
    → ((first : ℕ) → found ≡ status.LateRecord first → WasLate left first) → ((place : ℕ) → found ≡ status.BadInput place → ⊥)
    → ((n why : ℕ) → found ≡ status.NotAlone n why → WasAskedNotAlone words left n why) → (found ≡ status.ReadFault → ⊥) → IsToldNotAlone found entry reason
accompanied_by words status.Done left before after text events opening session entry reason told is asks from usage out bad late input alone read =
    absurd (no_lines words left text events opening session out.job out.lines entry reason told is asks from out.is_asked (is_first out.job left out.lines out.are_lines))
accompanied_by words status.Usage left before after text events opening session entry reason told is asks from usage out bad late input alone read = absurd (usage refl)
accompanied_by words (status.BadRecord place) left before after text events opening session entry reason told is asks from usage out bad late input alone read =
    absurd (not_both text place events (subst (λ (l : Option (List ℕ)). WasBadAt l place) told (bad place refl)) is)
accompanied_by words (status.LateRecord first) left before after text events opening session entry reason told is asks from usage out bad late input alone read =
    absurd (record_not_late text events first is (subst (λ (l : Option (List ℕ)). WasLate l first) told (late first refl)))
accompanied_by words (status.BadInput place) left before after text events opening session entry reason told is asks from usage out bad late input alone read = absurd (input place refl)
accompanied_by words (status.NotAlone n why) left before after text events opening session entry reason told is asks from usage out bad late input alone read =
    let same : (n, why) ≡ (entry, reason) = some_inj (sym (lone_from words left text events opening session n why told is asks (alone n why refl)) ∙ from) in
    inl (ap (λ (q : ℕ × ℕ). status.NotAlone q.0 q.1) same)
accompanied_by words status.ReadFault left before after text events opening session entry reason told is asks from usage out bad late input alone read = absurd (read refl)
accompanied_by words status.WriteFault left before after text events opening session entry reason told is asks from usage out bad late input alone read =
    absurd (no_lines words left text events opening session out.job out.lines entry reason told is asks from out.is_asked out.are_lines)
accompanied_by words status.Memory left before after text events opening session entry reason told is asks from usage out bad late input alone read = inr refl
accompanied_by words (status.DoorFault worker) left before after text events opening session entry reason told is asks from usage out bad late input alone read =
    absurd (no_lines words left text events opening session out.job out.lines entry reason told is asks from out.is_asked out.are_lines)
accompanied_by words (status.Spent count) left before after text events opening session entry reason told is asks from usage out bad late input alone read =
    absurd (no_lines words left text events opening session out.job out.lines entry reason told is asks from out.is_asked out.are_lines)
