use Rattle.std.proofs.Common.{◌≡◌, ◌++◌}
use Rattle.std.specs.List.{flat_map}
use Rattle.model_draw.specs.looked.Again.{messages_read}
use Rattle.model_alone.specs.alone.Uses.{look_used}
use Rattle.r9_used.proofs.looked.again.look_within.Given as goal

-- what was added so far, and what the messages use that are left
abbrev pub invariant-messages : goal.invariant-messages
invariant-messages l =
    l.initial.uses ++ flat_map (look_used l.panes.entries) (messages_read l.initial.left l.initial.rows l.initial.bytes)
    ≡ l.uses ++ flat_map (look_used l.panes.entries) (messages_read l.left l.rows l.bytes)

abbrev pub decreases-messages : goal.decreases-messages
decreases-messages l = l.left
