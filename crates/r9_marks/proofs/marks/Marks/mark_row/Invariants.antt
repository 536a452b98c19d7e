use Rattle.std.proofs.Common.{◌≡◌, ◌+◌, ◌-◌, ◌<◌, ◌≤◌, ℕ, true}
use Rattle.r9_marks.specs.marks.Marks.{across_of, down_of, marked, marked_count}
use Rattle.r9_marks.proofs.marks.Marks.mark_row.Given as goal

abbrev pub invariant-loop-column : goal.invariant-loop-column
invariant-loop-column l = record {
  here : (c : ℕ) → l.first ≤ c → c < l.column → marked l.self c l.row ≡ true;
  others : (c r : ℕ) → (r ≡ l.row → l.first ≤ c → c < l.column → ⊥) → marked l.self c r ≡ marked l.fn.self c r;
  few : marked_count l.self ≤ marked_count l.fn.self + (l.column - l.first);
  across : across_of l.self ≡ across_of l.fn.self;
  down : down_of l.self ≡ down_of l.fn.self;
}
