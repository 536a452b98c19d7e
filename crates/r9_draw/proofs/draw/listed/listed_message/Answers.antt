use Rattle.std.proofs.Common.{◌≡◌, ℕ, ◌+◌, Bool, [], refl, sym, subst, ◌∙◌, arith}
use Rattle.std.specs.Result.{result_unwrap_or}
use Rattle.model_draw.specs.draw.Act.{act}
use Rattle.r9_dmsg.specs.Listed.{listed_len, listed_message}
use Rattle.r9_device.specs.device.World.{world_of}
use Rattle.r9_draw.specs.draw.Steps.{IsDone, IsShortOf}
use Rattle.r9_draw.proofs.draw.Living.{listed-live}
use Rattle.r9_draw.proofs.draw.Messages.{act-listed, behind-listed, done-by, first-costs, list-of, listed-some, listed-wants, ok-is, refused-act, short-marked, short-memory}
use Rattle.r9_draw.proofs.draw.listed.listed_message.Goals as goal

pub returns-in-Err-clause-step : goal.returns-in-Err-clause-step
returns-in-Err-clause-step g c =
    let l = c.args.asked.now in
    let m = listed_message l in
    refused-act c.args.client (world_of c.args.device.now) c.args.bytes.now _ m c.in-Err.refusal c.requires.found (act-listed c.args.client (world_of c.args.device.now) m _ (list-of l) ∙ c.in-Err.ensures.refused)

pub returns-then-marked-clause-step : goal.returns-then-marked-clause-step
returns-then-marked-clause-step g c =
    let w = world_of c.args.device.now in
    let l = c.args.asked.now in
    let m = listed_message l in
    let P : Bool → Type 0 = λ b. IsShortOf c.args.client w c.args.bytes.now b w in
    subst P (sym c.if-marked.true)
    (short-marked c.args.client w (result_unwrap_or (act c.args.client w m []) w) c.args.bytes.now _ m c.requires.found
    (act-listed c.args.client w m _ (list-of l) ∙ ok-is (act c.args.client w m []) w c.in_default.ensures.accepted))

pub returns-in-Ok-clause-step : goal.returns-in-Ok-clause-step
returns-in-Ok-clause-step g c =
    let w = world_of c.args.device.now in
    let l = c.args.asked.now in
    let m = listed_message l in
    let bytes = c.args.bytes.now in
    let next = world_of c.do_listed.new.device in
    let P : ℕ → Type 0 = λ n. IsDone c.args.client w bytes c.args.marked n next in
    let Q : Bool → Type 0 = λ b. IsDone c.args.client w bytes b (listed_len l + 0) next in
    let size = c.spelled_len.ensures in
    let zero : listed_len l + 0 ≡ c.spelled_len.result = omega (arith, size) in
    subst P zero
    (subst Q (sym c.if-marked.false)
    (done-by c.args.client w next next bytes _ m (listed_len l) 0 c.requires.found (act-listed c.args.client w m _ (list-of l) ∙ c.in-Ok.ensures.done) refl refl (behind-listed c.args.client w m _ (list-of l))
    (listed-some l) c.requires.within (omega arith) (listed-live c.args.client w next m (list-of l) c.in-Ok.ensures.done c.requires.live)))

pub returns-in-Err-do_listed-clause-step : goal.returns-in-Err-do_listed-clause-step
returns-in-Err-do_listed-clause-step g c =
    let w = world_of c.args.device.now in
    let l = c.args.asked.now in
    let m = listed_message l in
    short-memory c.args.client w (result_unwrap_or (act c.args.client w m []) w) (world_of c.do_listed.new.device) c.args.bytes.now _ m c.args.marked c.requires.found
    (act-listed c.args.client w m _ (list-of l) ∙ ok-is (act c.args.client w m []) w c.in_default.ensures.accepted) (listed-wants c.args.client w m (list-of l)) c.in-Err-do_listed.ensures.kept

pub returns-in-Ok-clause-steps : goal.returns-in-Ok-clause-steps
returns-in-Ok-clause-steps g c =
    let first = first-costs c.args.client (world_of c.args.device.now) c.args.bytes.now _ (listed_message c.args.asked.now) c.requires.found in
    omega (arith, first, c.do_listed.ensures.steps)
