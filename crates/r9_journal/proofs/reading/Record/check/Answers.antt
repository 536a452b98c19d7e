use Rattle.std.proofs.Common.{ℕ, List, [], ◌∷◌, ◌++◌, refl, sym, subst, arith}
use Rattle.model_history.specs.records.Record.{IsBadAt, IsRecord}
use Rattle.r9_event.specs.declared.event.event.Event.{Event}
use Rattle.r9_journal.proofs.Records.{begins, reads_on, read_all, open_bad, line_bad, headless_bad, rest_within, shorter, place_is, not_both, bad_late, found_late, is_late, memory_late}
use Rattle.r9_journal.proofs.Headers.{headed_late, record_not_late}
use Rattle.r9_journal.proofs.Rest.{all_told, told_again, are_lines}
use Rattle.r9_journal.proofs.reading.Record.check.Goals as goal

pub returns-in_default-clause-only : goal.returns-in_default-clause-only
returns-in_default-clause-only c = λ events is.
    absurd (not_both _ 0 events (headless_bad _ c.if-text-ge-TEXT_LIMIT.false c.in_default.ensures.none) is)

pub returns-in_default-clause-bad : goal.returns-in_default-clause-bad
returns-in_default-clause-bad c = λ place e.
    subst (λ (n : ℕ). IsBadAt c.args.text.now n) (place_is _ 0 place e) (headless_bad _ c.if-text-ge-TEXT_LIMIT.false c.in_default.ensures.none)

pub lines-init : goal.lines-init
lines-init c = ([], begins _ _ _ _ _ c.if-text-ge-TEXT_LIMIT.false refl c.new-roll.ensures c.in-Some.ensures.found c.if-first-gt1.false)

pub overflow_sub-place : goal.overflow_sub-place
overflow_sub-place c = rest_within _ _ _ _ c.lines.invariant.1

pub returns-in_default-cut-clause-only : goal.returns-in_default-cut-clause-only
returns-in_default-cut-clause-only c = λ events is.
    absurd (not_both _ _ events (open_bad _ _ _ _ c.lines.invariant.1 (grind (arith, c.lines-test.true, c.is_empty.ensures)) (sym c.in_default-cut.ensures)) is)

pub returns-in_default-cut-clause-bad : goal.returns-in_default-cut-clause-bad
returns-in_default-cut-clause-bad c = λ place e.
    subst (λ (n : ℕ). IsBadAt c.args.text.now n) (place_is _ _ place e)
    (open_bad _ _ _ _ c.lines.invariant.1 (grind (arith, c.lines-test.true, c.is_empty.ensures)) (sym c.in_default-cut.ensures))

pub returns-then-not-fits-clause-only : goal.returns-then-not-fits-clause-only
returns-then-not-fits-clause-only c = λ events is.
    let none = c.in_ok-fits.ensures.unfit c.if-not-fits.true in
    absurd (not_both _ _ events (line_bad _ _ _ _ _ _ c.lines.invariant.1 (grind (arith, c.lines-test.true, c.is_empty.ensures)) (sym c.in-Some-cut.ensures) none) is)

pub returns-then-not-fits-clause-bad : goal.returns-then-not-fits-clause-bad
returns-then-not-fits-clause-bad c = λ place e.
    let none = c.in_ok-fits.ensures.unfit c.if-not-fits.true in
    subst (λ (n : ℕ). IsBadAt c.args.text.now n) (place_is _ _ place e)
    (line_bad _ _ _ _ _ _ c.lines.invariant.1 (grind (arith, c.lines-test.true, c.is_empty.ensures)) (sym c.in-Some-cut.ensures) none)

pub lines-smaller : goal.lines-smaller
lines-smaller c = shorter _ _ _ (sym c.in-Some-cut.ensures)

pub lines-preserved : goal.lines-preserved
lines-preserved c =
    let is = c.in_ok-fits.ensures.entered c.if-not-fits.false in
    (c.lines.invariant.0 ++ is.0 ∷ [], reads_on _ _ _ _ _ _ _ _ is.0 c.lines.invariant.1 (sym c.in-Some-cut.ensures) (is.1, is.2) refl is.3)

pub invariant_of-result : goal.invariant_of-result
invariant_of-result c =
    let whole = read_all _ _ _ _ c.lines.invariant.1 (grind (arith, c.lines-test.false, c.is_empty.ensures)) in
    told_again _ _ (are_lines _ _ _ _ whole c.in-Some.ensures.found)

pub returns-clause-found : goal.returns-clause-found
returns-clause-found c =
    let whole = read_all _ _ _ _ c.lines.invariant.1 (grind (arith, c.lines-test.false, c.is_empty.ensures)) in
    subst (λ (events : List Event). IsRecord c.args.text.now events) (sym (all_told _ _ (are_lines _ _ _ _ whole c.in-Some.ensures.found))) whole

pub returns-clause-only : goal.returns-clause-only
returns-clause-only c = λ events is. all_told _ _ (are_lines _ _ _ _ is c.in-Some.ensures.found)

-- ---- whether the text is late

pub returns-in_default-clause-late : goal.returns-in_default-clause-late
returns-in_default-clause-late c = bad_late _ c.args.text.now 0 (headless_bad _ c.if-text-ge-TEXT_LIMIT.false c.in_default.ensures.none)

pub returns-then-first-gt1-clause-only : goal.returns-then-first-gt1-clause-only
returns-then-first-gt1-clause-only c = λ events is.
    absurd (record_not_late _ events _ is (headed_late _ _ _ c.if-text-ge-TEXT_LIMIT.false c.if-first-gt1.true c.in-Some.ensures.found))

pub returns-then-first-gt1-clause-late : goal.returns-then-first-gt1-clause-late
returns-then-first-gt1-clause-late c =
    is_late _ c.args.text.now _ (headed_late _ _ _ c.if-text-ge-TEXT_LIMIT.false c.if-first-gt1.true c.in-Some.ensures.found)

pub returns-in_default-cut-clause-late : goal.returns-in_default-cut-clause-late
returns-in_default-cut-clause-late c =
    bad_late _ c.args.text.now _ (open_bad _ _ _ _ c.lines.invariant.1 (grind (arith, c.lines-test.true, c.is_empty.ensures)) (sym c.in_default-cut.ensures))

pub returns-in_err-fits-clause-late : goal.returns-in_err-fits-clause-late
returns-in_err-fits-clause-late c = memory_late _ c.args.text.now _ _ c.from_residual.ensures.1 c.lines.invariant.1.headed

pub returns-then-not-fits-clause-late : goal.returns-then-not-fits-clause-late
returns-then-not-fits-clause-late c =
    let none = c.in_ok-fits.ensures.unfit c.if-not-fits.true in
    bad_late _ c.args.text.now _
    (line_bad _ _ _ _ _ _ c.lines.invariant.1 (grind (arith, c.lines-test.true, c.is_empty.ensures)) (sym c.in-Some-cut.ensures) none)

pub returns-clause-late : goal.returns-clause-late
returns-clause-late c =
    found_late _ c.args.text.now _ _ (read_all _ _ _ _ c.lines.invariant.1 (grind (arith, c.lines-test.false, c.is_empty.ensures)))
