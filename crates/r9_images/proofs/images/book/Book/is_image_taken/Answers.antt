use Rattle.r9_images.proofs.images.Taken.{untaken}
use Rattle.r9_images.proofs.images.book.Book.is_image_taken.Goals as goal

pub returns-clause-fresh : goal.returns-clause-fresh
returns-clause-fresh c = untaken c.args.self.now.book c.args.client c.args.id _ c.has_image_id.ensures
