use Rattle.std.proofs.Common.{◌≡◌, length, take, sym, subst, arith}
use Rattle.std.proofs.lemmas.List.{length-take-le}
use Rattle.r9_pixels.specs.Carried.{CanCarry, IsCarried}
use Rattle.r9_pixels.proofs.keeping.KeptPixels.copy_through.Goals as goal

pub copy_part-requires-clause-some : goal.copy_part-requires-clause-some
copy_part-requires-clause-some g c =
    let long : length (take c.args.n c.args.room.now) ≡ c.args.n = length-take-le c.args.n c.args.room.now (omega (arith, c.requires.most, c.told-room)) in
    omega (arith, long, c.requires.some)

pub copy_part-requires-clause-can : goal.copy_part-requires-clause-can
copy_part-requires-clause-can g c =
    let long : length (take c.args.n c.args.room.now) ≡ c.args.n = length-take-le c.args.n c.args.room.now (omega (arith, c.requires.most, c.told-room)) in
    subst (CanCarry c.args.self.now c.args.from c.args.at c.args.to c.args.p) (sym long) c.requires.can

pub returns-clause-carried : goal.returns-clause-carried
returns-clause-carried g c =
    let long : length (take c.args.n c.args.room.now) ≡ c.args.n = length-take-le c.args.n c.args.room.now (omega (arith, c.requires.most, c.told-room)) in
    subst (IsCarried c.args.self.now c.copy_part.new.self c.args.from c.args.at c.args.to c.args.p) long c.copy_part.ensures.carried
