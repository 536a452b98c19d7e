use Rattle.std.proofs.Common.{◌≡◌, false, ℕ, drop, sym, ap, ◌∙◌, arith, length-take, Err}
use Rattle.model_world.specs.Session.{Kept}
use Rattle.model_world.specs.Reading.{given}
use Rattle.r9_files.proofs.files.Listings.{behind, fitting-le, is_given, is_stuck, given-le, left_then, given_within, given_stuck, not_stuck, some_fit, given_more}
use Rattle.r9_files.proofs.files.listing.Kept.give.Goals as goal
use Rattle.r9_files.proofs.files.listing.Kept.give.Goals.{else-fit-eq0-via-then-fit-eq0+else-not-is_empty, else-fit-eq0-via-else-fit-eq0}

pub returns-then-not-is_empty-clause-refused : goal.returns-then-not-is_empty-clause-refused
returns-then-not-is_empty-clause-refused c =
    let items = c.self.inside.stats.items in
    let stuck = given_stuck items c.deref.result.now c.self.inside.given c.self.inside.next c.args.count c.fitting-fit.result _ c.deref.ensures.value c.fitting-fit.ensures c.is_empty.ensures c.if-fit-eq0.true c.if-not-is_empty.true in
    λ n e. ap (λ (kept : Kept). given kept c.args.count) (sym c.self.view_is) ∙ stuck ∙ ap (λ (m : ℕ). Err m) (let same : 46 ≡ n = cc e in same)

pub slice_bounds-joined-end : goal.slice_bounds-joined-end
slice_bounds-joined-end c =
    let left = behind c.self.inside.given c.deref.result.now in
    omega (arith, c.fitting-fit.ensures, length-take c.fitting-fit.result left, fitting-le c.args.count left)

pub overflow_add-self : goal.overflow_add-self
overflow_add-self c =
    let is = is_given c.self.inside.stats.items _ _ _ _ _ c.deref.ensures.value c.fitting-fit.ensures c.in_ok-bytes.ensures in
    omega (arith, c.len.ensures, left_then _ _ _ _ _ is, c.self.invariant.in_range)

pub overflow_add-self-2 : goal.overflow_add-self-2
overflow_add-self-2 c =
    let is = is_given c.self.inside.stats.items _ _ _ _ _ c.deref.ensures.value c.fitting-fit.ensures c.in_ok-bytes.ensures in
    omega (arith, given_within _ _ _ _ _ is c.self.invariant.within, c.self.inside.stats.ok, c.self.inside.stats.small)

pub invariant_of-self : goal.invariant_of-self
invariant_of-self c =
    let is = is_given c.self.inside.stats.items _ _ _ _ _ c.deref.ensures.value c.fitting-fit.ensures c.in_ok-bytes.ensures in
    record {
      within = given_within _ _ _ _ _ is c.self.invariant.within;
      in_range = omega (arith, c.len.ensures, left_then _ _ _ _ _ is, c.self.invariant.in_range);
    }

pub returns-clause-given : goal.returns-clause-given
returns-clause-given c =
    let items = c.self.inside.stats.items in
    let before = c.self.inside.given in
    let is = is_given items _ before c.args.count _ _ c.deref.ensures.value c.fitting-fit.ensures c.in_ok-bytes.ensures in
    let free : is_stuck (drop before items) c.args.count ≡ false =
    elim c.else-fit-eq0.branch [
      | else-fit-eq0-via-then-fit-eq0+else-not-is_empty w ↦ not_stuck _ _ _ _ _ c.deref.ensures.value w.is_empty.ensures w.if-not-is_empty.false
      | else-fit-eq0-via-else-fit-eq0 w ↦ some_fit _ _ _ _ _ is w.if-fit-eq0.false
    ] in
    ap (λ (kept : Kept). given kept c.args.count) (sym c.self.view_is) ∙ given_more items before c.self.inside.next c.args.count _ _ _ is c.len.ensures free

pub returns-clause-short : goal.returns-clause-short
returns-clause-short c = given-le _ _ _ _ _ (is_given c.self.inside.stats.items _ _ _ _ _ c.deref.ensures.value c.fitting-fit.ensures c.in_ok-bytes.ensures)
