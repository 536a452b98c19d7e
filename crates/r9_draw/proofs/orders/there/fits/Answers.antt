use Rattle.r9_draw.proofs.orders.there.fits.Goals as goal

pub unreachable-requires : goal.unreachable-requires
unreachable-requires c = c.requires c.in-Replace.window c.in-Replace.host c.in-Replace.r c.in-Replace.name c.in-Replace.keep c.in-Replace.hidden c.in-Replace.is
