use Rattle.std.proofs.Common.{◌∙◌}
use Rattle.std.proofs.lemmas.Bool.{cond-false}
use Rattle.r9_geom.specs.Geometry.{holds}
use Rattle.r9_locate.specs.watched.Watched.{moment_of}
use Rattle.r9_locate.proofs.watched.Since.{since_written}
use Rattle.r9_locate.proofs.watched.Watched.move_kept.Goals as goal

pub invariant_of-self : goal.invariant_of-self
invariant_of-self g c =
    let watched = c.args.self.now in
    let part = c.args.r in
    let written = c.move_kept.ensures in
    record { since = since_written (moment_of watched) watched.plane c.move_kept.new.self part c.requires.inside written.rect (λ q beside. written.pixels q ∙ cond-false (holds part q) _ _ beside) written.marks watched.since }
