use Rattle.r9_wire.proofs.put_requests.request_body.Goals as goal

pub walk_body-requires-clause-texts : goal.walk_body-requires-clause-texts
walk_body-requires-clause-texts c = let fits = rw c.in-Walk.is at c.requires in fits.1
