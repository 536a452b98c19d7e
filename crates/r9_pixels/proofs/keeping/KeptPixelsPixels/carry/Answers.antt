use Rattle.r9_pixels.proofs.keeping.KeptPixelsPixels.carry.Goals as goal

pub copy-requires : goal.copy-requires
copy-requires g c = record { apart = c.requires.apart; had = c.requires.had; has = c.requires.has; bits = c.requires.bits }

pub returns-clause-at : goal.returns-clause-at
returns-clause-at g c = c.copy.ensures.carried.pixels

pub returns-clause-others : goal.returns-clause-others
returns-clause-others g c = c.copy.ensures.carried.others

pub returns-clause-has : goal.returns-clause-has
returns-clause-has g c = c.copy.ensures.carried.has

pub returns-clause-forms : goal.returns-clause-forms
returns-clause-forms g c = c.copy.ensures.carried.forms

pub returns-clause-spare : goal.returns-clause-spare
returns-clause-spare g c = c.copy.ensures.carried.spare

pub returns-clause-moment : goal.returns-clause-moment
returns-clause-moment g c = c.copy.ensures.carried.moment
