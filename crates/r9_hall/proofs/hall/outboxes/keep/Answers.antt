use Rattle.std.proofs.Common.{rules, ◌≡◌, Result, Ok, Err, OnOk, ap, ◌∙◌}
use Rattle.std.specs.Prelude.{[]}
use Rattle.std.specs.Map.{set_value}
use Rattle.std.specs.BTreeMap.{insert_entry}
use Rattle.std.specs.Ordering.{nat_cmp}
use Rattle.std.specs.Option.{unwrap_or}
use Rattle.model_text.specs.text.Map.{is_key}
use Rattle.model_text.proofs.map.Maps.{with-others, and-others}
use Rattle.r9_hall.specs.hall.Outboxes.{waiting}
use Rattle.r9_hall.proofs.hall.outboxes.keep.Goals as goal

on_ok : {A E P : Type 0} (r : Result A E) → P → OnOk r P
on_ok (Ok x) p = p
on_ok (Err e) p = tt

pub returns-in-Some-clause-others : goal.returns-in-Some-clause-others
returns-in-Some-clause-others c = on_ok c.push_all.result (λ other apart.
    let written : (c.get_mut.follows.lender c.push_all.new.self).entries ≡ set_value (is_key c.args.session) c.args.outboxes.now.entries c.push_all.new.self = search rules in
    ap (λ es. waiting es other) written ∙ ap (λ found. unwrap_or found []) (with-others c.args.outboxes.now.entries c.args.session other c.push_all.new.self apart))

pub returns-clause-others : goal.returns-clause-others
returns-clause-others c = λ other apart.
    let kept : c.get_mut.follows.lender-at-none.entries ≡ c.args.outboxes.now.entries = search rules in
    let found : c.insert.new.self.entries ≡ insert_entry nat_cmp c.get_mut.follows.lender-at-none.entries c.args.session c.in_ok-held.held = c.in_ok-insert.ensures.entries in
    ap (λ es. waiting es other) found
    ∙ ap (λ found. unwrap_or found []) (and-others c.get_mut.follows.lender-at-none.entries c.args.session other c.in_ok-held.held apart)
    ∙ ap (λ es. waiting es other) kept
