use Rattle.std.proofs.Common.{◌++◌, ap, sym, ◌∙◌}
use Rattle.r9_geom.specs.Geometry.{holds}
use Rattle.r9_locate.specs.declared.info.Info.{Info}
use Rattle.model_pixel.specs.Channels.{depth}
use Rattle.model_pixel.specs.Rows.{rows_of}
use Rattle.model_draw.specs.imgfile.ImageFile.{file_header}
use Rattle.model_forest.specs.Paint.{paint}
use Rattle.model_draw.specs.draw.World.{at_number}
use Rattle.model_draw.specs.draw.Files.{screen_file}
use Rattle.r9_draw.specs.draw.World.{world_of}
use Rattle.r9_draw.proofs.draw.Pictures.{display-picture}
use Rattle.r9_draw.proofs.draw.draw.Draw.screen.Goals as goal

pub unload-requires-clause-inside : goal.unload-requires-clause-inside
unload-requires-clause-inside c = λ p h. ap (λ (info : Info). holds info.r p) (sym c.info-info.ensures.told) ∙ h

pub returns-clause-file : goal.returns-clause-file
unfolding screen_file
returns-clause-file c =
    let world = world_of c.args.self.now in
    let image = at_number world 0 in
    c.in_ok-push_all.ensures.ok
    ∙ (λ j. c.in_ok-file.ensures j ++ c.as_slice.ensures j)
    ∙ (λ j. file_header c.info-info.result.chan c.info-info.result.r ++ c.in_ok-rows.ensures j)
    ∙ ap (λ (info : Info). file_header info.chan info.r ++ rows_of info.r (depth image.chan) (paint world.images 0)) c.info-info.ensures.told

pub returns-clause-picture : goal.returns-clause-picture
returns-clause-picture c = display-picture (world_of c.args.self.now) c.args.self.now.device.kept

pub returns-in_err-file-clause-picture : goal.returns-in_err-file-clause-picture
returns-in_err-file-clause-picture c = display-picture (world_of c.args.self.now) c.args.self.now.device.kept

pub returns-in_err-rows-clause-picture : goal.returns-in_err-rows-clause-picture
returns-in_err-rows-clause-picture c = display-picture (world_of c.args.self.now) c.args.self.now.device.kept

pub returns-in_err-push_all-clause-picture : goal.returns-in_err-push_all-clause-picture
returns-in_err-push_all-clause-picture c = display-picture (world_of c.args.self.now) c.args.self.now.device.kept
