use Rattle.std.proofs.Common.{◌≤◌, ◌⊎◌, inl, inr, ℕ, arith}
use Rattle.r9_attend.specs.attend.Calls.{told_ends}
use Rattle.r9_attend.specs.workers.Shifts.{told_doors}
use Rattle.r9_opts.specs.declared.job.Job.TheVariants.{Alone, Gen}
use Rattle.r9_serve.specs.serve.Run.{Ask}
use Rattle.r9_clients.specs.textfile.Input.{input_of}
use Rattle.r9_clients.specs.deskfile.Events.{events_of}
use Rattle.r9_serve.proofs.serve.Asking.{alone_of_record, desk_not_record, desk_not_serve, desk_refuses, gen_not_record, gen_refuses_not, lone_of_record, record_refuses_not, replay_not_lone, replay_of_record, serve_not_gen, serve_not_record, text_not_record, text_not_serve, text_refuses}
use Rattle.r9_serve.proofs.serve.Alones.{accompanied_by, not_lone}
use Rattle.r9_serve.proofs.serve.Desks.{had_no_events}
use Rattle.r9_serve.proofs.serve.Refusing.{left_bad_at, left_not_bad}
use Rattle.r9_serve.proofs.serve.Served.{served_door, served_spent, served_well}
use Rattle.r9_serve.proofs.serve.Statuses.{bad_unless, done_by, done_unless, late_by, made_by, refused_by}
use Rattle.r9_serve.proofs.serve.Texts.{had_no_text}
use Rattle.r9_serve.proofs.serve.call.run.Goals as goal

either : {A B C : Type 0} → (B → A) → (C → A) → B ⊎ C → A
either f g (inl b) = f b
either f g (inr c) = g c

later : (n a b : ℕ) → n ≤ a → a ≤ b → n ≤ b
later n a b first then = omega (arith, first, then)

pub returns-clause-serves : goal.returns-clause-serves
returns-clause-serves g c = λ asks. record {
  told = c.do_job-ending.result.told;
  between = _;
  served = c.do_job-ending.ensures.serves asks;
  line = c.tell_ending.ensures.line;
  silent = c.tell_ending.ensures.silent;
  counted = c.tell_ending.ensures.counted;
}

pub returns-clause-write_fault : goal.returns-clause-write_fault
returns-clause-write_fault g c =
    λ is. either inl (λ rose. inr (rose.0, later _ _ _ rose.1 c.tell_ending.ensures.counted)) (c.do_job-ending.ensures.write_fault is)

pub returns-clause-door_fault : goal.returns-clause-door_fault
returns-clause-door_fault g c =
    let job = c.do_job-ending.ensures in
    let doors = told_doors g.D.Door.ended g.D.Door.over g.D.Door.faults (told_ends g.D.In.Source.left g.D.In.Source.faults g.D.Out.Sink.held g.D.Out.Sink.unflushed g.D.Out.Sink.faults) in
    λ worker is. (job.serving worker is, served_door doors (Ask c.args.words.now) _ _ _ _ _ _ _ _ (job.serves (job.serving worker is)) worker is)

pub returns-clause-spent : goal.returns-clause-spent
returns-clause-spent g c =
    let job = c.do_job-ending.ensures in
    let doors = told_doors g.D.Door.ended g.D.Door.over g.D.Door.faults (told_ends g.D.In.Source.left g.D.In.Source.faults g.D.Out.Sink.held g.D.Out.Sink.unflushed g.D.Out.Sink.faults) in
    λ count is. (job.turns count is, served_spent doors (Ask c.args.words.now) _ _ _ _ _ _ _ _ (job.serves (job.turns count is)) count is)

pub returns-clause-complete : goal.returns-clause-complete
returns-clause-complete g c =
    let job = c.do_job-ending.ensures in
    let words = c.args.words.now in
    λ asks input out text events told is.
    let records = replay_of_record words asks in
    done_by _ _ text events told is (λ u. job.usage u asks.0 asks.1) (λ place b. (job.bad_record place b).1) (λ first l. (job.late_record first l).1)
    (λ place b. record_refuses_not words _ place records (job.bad_input place b)) (λ entry reason l. replay_not_lone words _ entry reason asks (job.not_alone entry reason l)) (λ r. input (job.read_fault r).1)
    (λ w. either out (λ serves. serve_not_record words records serves.0) (job.write_fault w)) (λ worker d. serve_not_record words records (job.serving worker d)) (λ count s. serve_not_record words records (job.turns count s))

pub returns-clause-refuses : goal.returns-clause-refuses
returns-clause-refuses g c =
    let job = c.do_job-ending.ensures in
    λ asks input text told none.
    refused_by c.args.words.now _ _ _ _ text told none asks (λ u. job.usage u asks.0 asks.1) job.out (λ first l. (job.late_record first l).1)
    (λ place b. record_refuses_not c.args.words.now _ place asks (job.bad_input place b)) job.not_alone (λ r. input (job.read_fault r).1)

pub returns-clause-late : goal.returns-clause-late
returns-clause-late g c =
    let job = c.do_job-ending.ensures in
    λ asks input text first told is.
    late_by c.args.words.now _ _ _ _ text first told is asks (λ u. job.usage u asks.0 asks.1) job.out (λ place b. (job.bad_record place b).1) (λ n l. (job.late_record n l).1)
    (λ place b. record_refuses_not c.args.words.now _ place asks (job.bad_input place b)) job.not_alone (λ r. input (job.read_fault r).1)

pub returns-clause-answered : goal.returns-clause-answered
returns-clause-answered g c =
    let job = c.do_job-ending.ensures in
    let words = c.args.words.now in
    λ opening session asks input out text events told is alone.
    let records = alone_of_record words opening session asks in
    done_by _ _ text events told is (λ u. job.usage u (Alone opening session) asks) (λ place b. (job.bad_record place b).1) (λ first l. (job.late_record first l).1)
    (λ place b. record_refuses_not words _ place records (job.bad_input place b)) (λ entry reason l. not_lone words _ text events opening session entry reason told is asks alone (job.not_alone entry reason l)) (λ r. input (job.read_fault r).1)
    (λ w. either out (λ serves. serve_not_record words records serves.0) (job.write_fault w)) (λ worker d. serve_not_record words records (job.serving worker d)) (λ count s. serve_not_record words records (job.turns count s))

pub returns-clause-accompanied : goal.returns-clause-accompanied
returns-clause-accompanied g c =
    let job = c.do_job-ending.ensures in
    let words = c.args.words.now in
    λ opening session asks input text events entry reason told is from.
    accompanied_by words _ _ _ _ text events opening session entry reason told is asks from (λ u. job.usage u (Alone opening session) asks) job.out (λ place b. (job.bad_record place b).1) (λ first l. (job.late_record first l).1)
    (λ place b. record_refuses_not words _ place (alone_of_record words opening session asks) (job.bad_input place b)) job.not_alone (λ r. input (job.read_fault r).1)

pub returns-clause-makes : goal.returns-clause-makes
returns-clause-makes g c =
    let job = c.do_job-ending.ensures in
    let words = c.args.words.now in
    λ number ask out. made_by words number _ ask (λ u. job.usage u (Gen number) ask) (λ place b. (job.bad_record place b).0) (λ first l. (job.late_record first l).0)
    (λ place b. gen_refuses_not words number _ place ask (job.bad_input place b))
    (λ entry reason l. gen_not_record words number (lone_of_record words _ entry reason (job.not_alone entry reason l)) ask) (λ r. (job.read_fault r).0) (λ w. either out (λ serves. serve_not_gen words number ask serves.0) (job.write_fault w)) job.serving job.turns

pub returns-clause-typed : goal.returns-clause-typed
returns-clause-typed g c =
    let job = c.do_job-ending.ensures in
    let words = c.args.words.now in
    λ asks input out bytes shown told is.
    done_unless _ (λ u. job.usage u asks.0 asks.1) (λ place b. text_not_record words asks (job.bad_record place b).0) (λ first l. text_not_record words asks (job.late_record first l).0)
    (λ place b. left_not_bad input_of _ bytes shown place told is (text_refuses words _ place asks (job.bad_input place b)))
    (λ entry reason l. text_not_record words asks (lone_of_record words _ entry reason (job.not_alone entry reason l))) (λ r. input (job.read_fault r).1)
    (λ w. either out (λ serves. text_not_serve words asks serves.0) (job.write_fault w)) (λ worker d. text_not_serve words asks (job.serving worker d)) (λ count s. text_not_serve words asks (job.turns count s))

pub returns-clause-mistyped : goal.returns-clause-mistyped
returns-clause-mistyped g c =
    let job = c.do_job-ending.ensures in
    let words = c.args.words.now in
    λ asks input bytes place told is.
    bad_unless (Ask words) _ _ _ _ place (λ other lines ask. had_no_text words other _ bytes lines place told is asks ask) (λ u. job.usage u asks.0 asks.1) job.out
    (λ at b. text_not_record words asks (job.bad_record at b).0) (λ first l. text_not_record words asks (job.late_record first l).0)
    (λ at b. left_bad_at input_of _ bytes at place told is (text_refuses words _ at asks (job.bad_input at b)))
    (λ entry reason l. text_not_record words asks (lone_of_record words _ entry reason (job.not_alone entry reason l))) (λ r. input (job.read_fault r).1)

pub returns-clause-pointed : goal.returns-clause-pointed
returns-clause-pointed g c =
    let job = c.do_job-ending.ensures in
    let words = c.args.words.now in
    λ asks input out bytes events told is.
    done_unless _ (λ u. job.usage u asks.0 asks.1) (λ place b. desk_not_record words asks (job.bad_record place b).0) (λ first l. desk_not_record words asks (job.late_record first l).0)
    (λ place b. left_not_bad events_of _ bytes events place told is (desk_refuses words _ place asks (job.bad_input place b)))
    (λ entry reason l. desk_not_record words asks (lone_of_record words _ entry reason (job.not_alone entry reason l))) (λ r. input (job.read_fault r).1)
    (λ w. either out (λ serves. desk_not_serve words asks serves.0) (job.write_fault w)) (λ worker d. desk_not_serve words asks (job.serving worker d)) (λ count s. desk_not_serve words asks (job.turns count s))

pub returns-clause-mispointed : goal.returns-clause-mispointed
returns-clause-mispointed g c =
    let job = c.do_job-ending.ensures in
    let words = c.args.words.now in
    λ asks input bytes place told is.
    bad_unless (Ask words) _ _ _ _ place (λ other lines ask. had_no_events words other _ bytes lines place told is asks ask) (λ u. job.usage u asks.0 asks.1) job.out
    (λ at b. desk_not_record words asks (job.bad_record at b).0) (λ first l. desk_not_record words asks (job.late_record first l).0)
    (λ at b. left_bad_at events_of _ bytes at place told is (desk_refuses words _ at asks (job.bad_input at b)))
    (λ entry reason l. desk_not_record words asks (lone_of_record words _ entry reason (job.not_alone entry reason l))) (λ r. input (job.read_fault r).1)

pub returns-clause-completes : goal.returns-clause-completes
returns-clause-completes g c =
    let job = c.do_job-ending.ensures in
    let doors = told_doors g.D.Door.ended g.D.Door.over g.D.Door.faults (told_ends g.D.In.Source.left g.D.In.Source.faults g.D.Out.Sink.held g.D.Out.Sink.unflushed g.D.Out.Sink.faults) in
    λ asks out err steady. served_well doors (Ask c.args.words.now) _ _ _ _ _ _ _ _ (job.serves asks) out (λ rose. err (later _ _ _ rose c.tell_ending.ensures.counted)) steady
