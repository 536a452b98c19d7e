-- What a recorder stands for.
use Rattle.std.specs.Prelude.{◌≡◌, ◌≤◌, ◌<◌, ◌+◌, ◌-◌, ◌^◌, ◌⊎◌, ℕ, true, List, length, min, drop, Option}
use Rattle.r9_event.specs.declared.event.event.Entry.{Entry}
use Rattle.r9_outside.specs.outside.Count.{Rose}
use Rattle.r9_outside.specs.outside.Sink.{Appends}
use Rattle.r9_service.specs.recorder.Lines.{record_lines, line_at, front_of, size_of, size_limit}
use Rattle.r9_service.specs.declared.recorder.recorder.Recorder.{Recorder}

-- a sink as it was lent: which loan it is, what it held, and its count of faults
pub record Loan : Type 0 where
  pub name : ℕ
  pub held : Option (List ℕ)
  pub faults : ℕ

-- the sink holds of the record of the history the lines before the next one, and so many bytes of that
pub record IsPut (before : Option (List ℕ)) (next part : ℕ) (history : List Entry) (held : Option (List ℕ)) : Type 0 where
  pub reached : next ≤ length history + 1
  pub within : part ≤ length (line_at next (record_lines history))
  pub put : Appends before (front_of next part (record_lines history)) held

module _ {H O : Type 0} (first : H → ℕ) (stands : H → List Entry → Type 0) (held : O → Option (List ℕ)) (faults : O → ℕ) where
  -- A recorder stands for a history of which its hall stores all entries that were not put, the sink has a front of its record, and the
  -- count of its faults has risen where a put or a flush has failed.
  pub record Records (loan : Loan) (r : Recorder H O) (history : List Entry) : Type 0 where
    pub named : r.out.ghost_name ≡ loan.name
    pub stood : stands r.hall history
    pub put : IsPut loan.held r.next r.part history (held r.out.now)
    pub stored : (first r.hall ≤ r.next) ⊎ (first r.hall ≡ 1)
    pub size : r.size ≡ min (size_of (drop (first r.hall - 1) history)) (2 ^ 64 - 1)
    pub counted : loan.faults ≤ faults r.out.now
    pub failed : r.failed ≡ true → Rose loan.faults (faults r.out.now)

-- the lines of the entries are few, unless a put or a flush has failed or there was no memory
abbrev pub IsBounded : {H O : Type 0} → (H → List Entry) → Recorder H O → Type 0
IsBounded {H} {O} stored r = (r.failed ≡ true) ⊎ (r.stuck ≡ true) ⊎ (size_of (stored r.hall) < size_limit)
