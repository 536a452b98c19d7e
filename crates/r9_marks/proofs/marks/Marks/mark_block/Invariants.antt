use Rattle.std.proofs.Common.{◌≡◌, ◌+◌, ◌-◌, ◌*◌, ◌<◌, ◌≤◌, ℕ, true}
use Rattle.r9_marks.specs.marks.Marks.{across_of, down_of, marked, marked_count}
use Rattle.r9_marks.proofs.marks.Marks.mark_block.Given as goal

abbrev pub invariant-loop-row : goal.invariant-loop-row
invariant-loop-row l = record {
  here : (c r : ℕ) → l.first ≤ c → c < l.end → l.top ≤ r → r < l.row → marked l.self c r ≡ true;
  others : (c r : ℕ) → (l.first ≤ c → c < l.end → l.top ≤ r → r < l.row → ⊥) → marked l.self c r ≡ marked l.fn.self c r;
  few : marked_count l.self ≤ marked_count l.fn.self + (l.end - l.first) * (l.row - l.top);
  across : across_of l.self ≡ across_of l.fn.self;
  down : down_of l.self ≡ down_of l.fn.self;
}
