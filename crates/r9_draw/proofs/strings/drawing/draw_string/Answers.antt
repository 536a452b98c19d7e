use Rattle.std.proofs.Common.{◌∙◌}
use Rattle.std.proofs.lemmas.List.Elements.{All-weaker}
use Rattle.model_draw_parts.specs.declared.fonts.Piece.{Piece}
use Rattle.model_draw.specs.draw.Writing.{background_rect}
use Rattle.r9_fonts.specs.View.{layout_of}
use Rattle.r9_layers.specs.Forest.{room, world}
use Rattle.r9_draw.specs.strings.Ready.{Fits}
use Rattle.r9_draw.proofs.strings.Strings.{string_drawn, string_within, Alike, Alike-same, Alike-under, CanLetter-still, Fits-still}
use Rattle.r9_draw.proofs.strings.drawing.draw_string.Goals as goal

pub draw_characters-requires-clause-images : goal.draw_characters-requires-clause-images
draw_characters-requires-clause-images g c =
    CanLetter-still _ _ c.args.lettering.now
    (Alike-under (world c.args.forest.now) _ _ c.args.lettering.now _ c.requires.ready.dst (c.in_ok-room_for_characters.ensures.same.world ∙ c.in_ok-room_for_background.ensures.same.world) c.draw_background.ensures.drawn)
    c.requires.ready

pub draw_characters-requires-clause-room : goal.draw_characters-requires-clause-room
draw_characters-requires-clause-room g c =
    let before = world c.room_for_background.new.forest in
    let live = (Alike-same (world c.args.forest.now) before c.in_ok-room_for_background.ensures.same.world).lives _ c.requires.ready.dst in
    let alike : Alike before (world c.draw_background.new.forest) = Alike-under before _ _ c.args.lettering.now _ live c.in_ok-room_for_characters.ensures.same.world c.draw_background.ensures.drawn in
    All-weaker (λ (piece : Piece). Fits before c.args.lettering.now.dst.0 (room c.room_for_characters.new.forest) piece.r) (λ (piece : Piece). Fits (world c.draw_background.new.forest) c.args.lettering.now.dst.0 (room c.draw_background.new.forest) piece.r)
    (λ piece fits. Fits-still _ _ _ _ _ piece.r alike c.draw_background.ensures.room fits) _ c.in_ok-room_for_characters.ensures.ok

pub returns-clause-drawn : goal.returns-clause-drawn
returns-clause-drawn g c =
    let W = world c.args.forest.now in
    string_drawn W _ _ _ c.args.font.now c.args.lettering.now c.args.indices.now (layout_of c.in_ok-laid.laid) c.background_rect-under.result _ c.in_ok-laid.ensures.laid
    (c.background_rect-under.ensures.value
    ∙ (λ j. background_rect c.args.lettering.now.p c.in_ok-laid.laid.end (c.ascent.ensures j) (c.info.ensures j).r))
    c.as_slice-pieces.ensures
    (c.in_ok-room_for_characters.ensures.same.world ∙ c.in_ok-room_for_background.ensures.same.world)
    c.draw_background.ensures.drawn
    c.draw_characters.ensures.drawn

pub returns-clause-steps : goal.returns-clause-steps
returns-clause-steps g c =
    let W = world c.args.forest.now in
    string_within W _ _ c.args.font.now c.args.lettering.now c.args.indices.now (layout_of c.in_ok-laid.laid) c.background_rect-under.result _ _ _ _ c.requires.ready.dst c.in_ok-laid.ensures.laid
    (c.background_rect-under.ensures.value
    ∙ (λ j. background_rect c.args.lettering.now.p c.in_ok-laid.laid.end (c.ascent.ensures j) (c.info.ensures j).r))
    c.as_slice-pieces.ensures
    (c.in_ok-room_for_characters.ensures.same.world ∙ c.in_ok-room_for_background.ensures.same.world)
    c.draw_background.ensures.drawn
    c.draw_background.ensures.steps
    c.draw_characters.ensures.steps
