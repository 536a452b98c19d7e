use Rattle.std.proofs.Common.{inl, inr, refl}
use Rattle.r9_serve.proofs.replay.Taking.{had_record, was_bad, was_late}
use Rattle.r9_serve.proofs.mirroring.Faults.{bad_of, late_of, unread, unwritten}
use Rattle.r9_serve.proofs.mirroring.Lengths.{record_few}
use Rattle.r9_serve.proofs.mirroring.Reading.{part_of_record, put_first_of}
use Rattle.r9_serve.proofs.mirroring.run.mirror_input.Goals as goal

pub put_frames-requires-clause-legal : goal.put_frames-requires-clause-legal
put_frames-requires-clause-legal g c = c.in-Ok-check.ensures.found.legal

pub put_frames-requires-clause-few : goal.put_frames-requires-clause-few
put_frames-requires-clause-few g c = record_few _ _ c.in-Ok-check.ensures.found

pub returns-in-Ok-put_frames-clause-frames : goal.returns-in-Ok-put_frames-clause-frames
returns-in-Ok-put_frames-clause-frames g c =
    let made = c.in-Ok-put_frames.ensures.ok in
    let had = had_record _ _ _ _ _ c.in-Ok.ensures.read c.as_slice.ensures c.in-Ok-check.ensures.found c.in-Ok-check.ensures.only in
    (made.0, record { events = _; had = had; are = made.1 }, made.2)

pub returns-clause-bad_record : goal.returns-clause-bad_record
returns-clause-bad_record g c = λ place is. was_bad _ _ _ _ _ place c.in-Ok.ensures.read c.as_slice.ensures (c.check.ensures.bad place (bad_of c.check.result _ _ place c.fault_of.ensures is cc)) refl

pub returns-clause-late_record : goal.returns-clause-late_record
returns-clause-late_record g c = λ first is. was_late _ _ _ _ _ first c.in-Ok.ensures.read c.as_slice.ensures ((c.check.ensures.late first).0 (late_of c.check.result _ _ first c.fault_of.ensures is cc)) refl

pub returns-clause-written : goal.returns-clause-written
returns-clause-written g c = λ is. absurd (unwritten _ _ c.fault_of.ensures is)

pub returns-clause-write_fault : goal.returns-clause-write_fault
returns-clause-write_fault g c = λ is. absurd (unwritten _ _ c.fault_of.ensures is)

pub returns-clause-read_fault : goal.returns-clause-read_fault
returns-clause-read_fault g c = λ is. absurd (unread _ _ c.fault_of.ensures is)

pub returns-in-Err-Failed-put_frames-clause-untouched : goal.returns-in-Err-Failed-put_frames-clause-untouched
returns-in-Err-Failed-put_frames-clause-untouched g c =
    let had = had_record _ _ _ _ _ c.in-Ok.ensures.read c.as_slice.ensures c.in-Ok-check.ensures.found c.in-Ok-check.ensures.only in
    part_of_record _ _ _ _ _ had c.put_frames.ensures.part (inl refl)

pub returns-in-Err-Failed-put_frames-clause-written : goal.returns-in-Err-Failed-put_frames-clause-written
returns-in-Err-Failed-put_frames-clause-written g c =
    let had = had_record _ _ _ _ _ c.in-Ok.ensures.read c.as_slice.ensures c.in-Ok-check.ensures.found c.in-Ok-check.ensures.only in
    λ _. put_first_of _ _ _ _ _ had (c.put_frames.ensures.written cc)

pub returns-in-Ok-check-clause-untouched : goal.returns-in-Ok-check-clause-untouched
returns-in-Ok-check-clause-untouched g c =
    let had = had_record _ _ _ _ _ c.in-Ok.ensures.read c.as_slice.ensures c.in-Ok-check.ensures.found c.in-Ok-check.ensures.only in
    part_of_record _ _ _ _ _ had c.put_frames.ensures.part (inr refl)
