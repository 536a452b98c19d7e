use Rattle.std.proofs.Common.{refl, ap, subst, ◌∷◌}
use Rattle.atomic_table.specs.Table.{rest}
use Rattle.r9_lock.proofs.Steps.{acted, lent, never_falls}
use Rattle.r9_lock.proofs.shared.Shared.act.Goals as goal

pub returns-clause-acted : goal.returns-clause-acted
returns-clause-acted g c = let h = c.requires.carries in let me = c.args.seat.now.me in let same = lent me h.value c.slot_mut.result.now h.slot c.slot_mut.ensures.value in
    let t = c.act.ensures.history me.0.seen (subst (λ v. g.T.Chronicle.stands v me.0.seen) same h.fits) in
    acted g.T.Chronicle.stands g.T.Chronicle.acts c.args.ask c.act.result.answer _ c.act.new.self c.act.result.entered t.0 (ap (λ l. (0, c.act.new.self) ∷ rest l) h.slot) t.1 t.2 t.3

pub returns-clause-first : goal.returns-clause-first
returns-clause-first g c = let me = c.args.seat.now.me in
    never_falls g.T.Chronicle.first me (me.0, (0, c.act.new.self) ∷ rest me.1) c.slot_mut.result.now c.act.new.self c.slot_mut.ensures.value refl c.act.ensures.first
