use Rattle.r9_layers.proofs.composing.way_of.Goals as goal

pub returns : goal.returns
returns c = record { through = c.masks_of.ensures; source = c.is_plain.ensures; tint = c.tint_of.ensures }
