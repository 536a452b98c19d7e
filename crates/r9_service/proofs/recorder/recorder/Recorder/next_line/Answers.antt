use Rattle.std.proofs.Common.{◌⊎◌, ◌++◌, inl, inr, ◌≡◌, ◌+◌, ◌-◌, ◌<◌, ◌≤◌, ℕ, suc, List, length, drop, get_or, arith, sym, ap, subst, ◌∙◌}
use Rattle.std.proofs.lemmas.Bool.Decides.{nat_tests}
use Rattle.r9_event.specs.declared.event.event.Entry.{Entry}
use Rattle.model_history.specs.records.Line.{event_line}
use Rattle.r9_lock.specs.Histories.{Stores}
use Rattle.r9_service.specs.recorder.Lines.{record_lines, line_at}
use Rattle.r9_service.proofs.recorder.Putting.{stored_line}
use Rattle.r9_service.proofs.recorder.recorder.Recorder.next_line.Goals as goal

-- a stored entry is that of the next line
found : (history stored : List Entry) (entries first next index : ℕ) (e : Entry) → Stores history entries first stored → next ≡ first + index
    → index < length stored → e ≡ get_or stored index e → event_line e.event ≡ line_at next (record_lines history)
found history stored entries first next index e s is lt at =
    let lt' : index < length (drop (first - 1) history) = subst (λ (xs : List Entry). index < length xs) s.kept lt in
    let at' : e ≡ get_or (drop (first - 1) history) index e = subst (λ (xs : List Entry). e ≡ get_or xs index e) s.kept at in
    let same : suc (first - 1 + index) ≡ next = omega (arith, s.from, is) in
    sym (ap (λ (n : ℕ). line_at n (record_lines history)) (sym same) ∙ stored_line history (first - 1) index e lt' at')

-- the next line is the header, or that of a stored entry
reached : (first next : ℕ) → (first ≤ next) ⊎ (first ≡ 1) → 1 ≤ next → first ≤ next
reached first next (inl le) some = le
reached first next (inr one) some = omega (arith, one, some)

pub returns : goal.returns
returns g c = λ loan history is fits.
    let first = g.H.Keeps.first c.args.self.now.hall in
    let kept = g.met.H.Keeps.stands_for_stored c.args.self.now.hall history is.stood in
    let stored = subst (λ (xs : List Entry). Stores history (first - 1 + length (g.H.Keeps.stored c.args.self.now.hall)) first xs) (sym c.journal.ensures) kept in
    let some : 1 ≤ c.args.self.now.next = grind (arith, nat_tests, c.if-self-eq0.false) in
    let behind : first ≤ c.args.self.now.next = reached first c.args.self.now.next is.stored some in
    let lt : c.saturating_sub-index.result < length c.journal.result.now = grind (arith, nat_tests, c.in-Some.ensures.lookup.0) in
    let at : c.args.self.now.next ≡ first + c.saturating_sub-index.result = omega (arith, behind, c.saturating_sub-index.ensures, c.first.ensures) in
    let written : c.write_entry.new.out ≡ event_line c.in-Some.entry.now.event = c.in_ok-write_entry.ensures.ok ∙ ap (λ (t : List ℕ). t ++ event_line c.in-Some.entry.now.event) c.new-text.ensures in
    written ∙ found history c.journal.result.now _ first c.args.self.now.next c.saturating_sub-index.result c.in-Some.entry.now stored at lt c.in-Some.ensures.lookup.1
