use Rattle.r9_images.proofs.images.Taken.{untaken_screen}
use Rattle.r9_images.proofs.images.book.Book.is_screen_taken.Goals as goal

pub returns-clause-fresh : goal.returns-clause-fresh
returns-clause-fresh c = untaken_screen c.args.self.now.book c.args.client c.args.id c.args.public _ c.has_screen_id.ensures
