use Rattle.std.proofs.Common.{◌∙◌, Some, sym, ap, arith}
use Rattle.std.specs.Prelude.{option_map}
use Rattle.r9_plane.specs.declared.plane.Plane.{Plane}
use Rattle.r9_plane.specs.Pixels.{pixel_at}
use Rattle.r9_pixels.specs.Owns.{form_in, plane_form}
use Rattle.r9_locate.specs.locate.Forms.{Form}
use Rattle.r9_pixels.proofs.Owning.{own_is, plane_told, whole_below}
use Rattle.r9_pixels.proofs.Telling.{kept_of}
use Rattle.r9_pixels.proofs.keeping.KeptPixels.plane.Goals as goal

pub index-requires : goal.index-requires
index-requires c = omega (arith, whole_below c.args.self.now.owns.items c.args.i c.requires, c.args.self.now.owns.ok.0)

pub plane_of-requires : goal.plane_of-requires
plane_of-requires c =
    let owns = c.args.self.now.owns.items in
    sym (ap (λ slot. option_map (λ (form : Form). form.is_window) (option_map form_in slot)) (own_is owns c.args.i c.index.result.now (whole_below owns c.args.i c.requires) c.index.ensures)) ∙ c.requires

pub returns-clause-form : goal.returns-clause-form
returns-clause-form c =
    let owns = c.args.self.now.owns.items in
    let told = plane_told c.index.result.now c.plane_of.result.now c.plane_of.ensures in
    ap (option_map form_in) (own_is owns c.args.i c.index.result.now (whole_below owns c.args.i c.requires) c.index.ensures ∙ told.slot_is)
    ∙ ap (λ (plane : Plane). Some (plane_form plane)) (sym told.plane_is)

pub returns-clause-pixels : goal.returns-clause-pixels
returns-clause-pixels c p =
    let self = c.args.self.now in
    let owns = self.owns.items in
    let told = plane_told c.index.result.now c.plane_of.result.now c.plane_of.ensures in
    ap (kept_of self.cells c.args.i p) (own_is owns c.args.i c.index.result.now (whole_below owns c.args.i c.requires) c.index.ensures ∙ told.slot_is)
    ∙ ap (λ (plane : Plane). pixel_at plane p) (sym told.plane_is)
