use Rattle.std.proofs.Common.{◌≡◌, ◌∙◌, ℕ, false, All, Bool, [], ◌∷◌, Option, Some, None, sym, subst, ap, arith}
use Rattle.std.specs.Prelude.{is_some, option_map}
use Rattle.r9_geom.specs.declared.Rect.{Rect}
use Rattle.model_forest.specs.World.{World, with_image, IsLive}
use Rattle.model_forest.proofs.Changes.{with_image-free}
use Rattle.model_kept.specs.Keeping.{HasOnePlaces, IsStanding, Place}
use Rattle.model_kept.specs.Restack.{with_own}
use Rattle.r9_locate.specs.locate.Forms.{form_of, forms_of, Form}
use Rattle.r9_locate.specs.locate.Lists.{frame_image, IsNearby}
use Rattle.r9_locate.specs.locate.Table.{shape}
use Rattle.r9_pixels.specs.Kept.{form_at, has_place}
use Rattle.r9_pixels.specs.Owns.{window_form}
use Rattle.r9_pixels.specs.Places.{with_form, with_places, HasLaterTaken, HasTakenOff, StandsOn}
use Rattle.r9_locate.specs.watched.Moments.{with_moment}
use Rattle.r9_relist.proofs.relist.Lists.{lists_near, lists_places, lists_standing}
use Rattle.r9_relist.proofs.relist.Off.{relisted_taken}
use Rattle.r9_relist.proofs.relist.Relisted.{relist_on, relist_ones}
use Rattle.r9_relist.proofs.arrive.Entering.{form_out, has_out, kept_out, later_taken, moment_out, put_forms, put_out}
use Rattle.r9_relist.proofs.arrive.enter.Goals as goal
use Rattle.r9_relist.proofs.arrive.enter.Goals.{After-insert, Start}

-- the number has no pixels
free : (c : After-insert) → form_at c.args.pixels.now c.args.i ≡ None
free c = ap (λ (forms : ℕ → Option Form). forms c.args.i) c.requires.forms ∙ ap (option_map form_of) c.requires.free

forms : (c : After-insert) → form_at c.insert_hidden.new.self ≡ forms_of (shape c.insert.new.self)
forms c =
    c.in_ok-insert_hidden.ensures.forms
    ∙ put_forms (shape c.args.lists.now) (form_at c.args.pixels.now) (window_form (record { r = c.args.frame.r; chan = c.args.frame.chan })) c.args.i (frame_image c.args.frame) c.requires.forms
    (λ j. record { r = c.args.frame.r; chan = c.args.frame.chan; is_window = sym c.requires.window j })
    ∙ ap forms_of (sym c.insert.ensures.world)

pub insert_hidden-requires-clause-free : goal.insert_hidden-requires-clause-free
insert_hidden-requires-clause-free c = ap (λ (forms : ℕ → Option Form). forms c.args.i) c.requires.forms ∙ ap (option_map form_of) c.requires.free

pub returns-in_err-insert_hidden-clause-forms : goal.returns-in_err-insert_hidden-clause-forms
returns-in_err-insert_hidden-clause-forms c = c.in_err-insert_hidden.ensures.err ∙ c.requires.forms

pub reserve_both-requires-clause-forms : goal.reserve_both-requires-clause-forms
reserve_both-requires-clause-forms c = forms (goal.at.reserve_both-requires-clause-forms c).After-insert

-- the lists with the frame
abbrev with_frame : (c : Start) → World
with_frame c = with_image (shape c.args.lists.now) c.args.i (Some (frame_image c.args.frame))

pub reserve_both-requires-clause-live : goal.reserve_both-requires-clause-live
reserve_both-requires-clause-live c = subst (λ (w : World). IsLive w c.args.parent) (sym c.insert.ensures.world) c.requires.change.live

pub reserve_both-requires-clause-windows : goal.reserve_both-requires-clause-windows
reserve_both-requires-clause-windows c =
    let at = goal.at.reserve_both-requires-clause-windows c in
    subst (λ (w : World). All (StandsOn w c.args.parent) c.args.list.now) (sym c.insert.ensures.world)
    (relist_on (with_frame at.Start) c.args.parent c.args.list.now c.requires.change.live c.requires.change.forest)

pub reserve_both-requires-clause-also : goal.reserve_both-requires-clause-also
reserve_both-requires-clause-also c =
    subst (λ (w : World). IsLive w c.args.q) (sym c.insert.ensures.world)
    (ap is_some (with_image-free (shape c.args.lists.now) c.args.i c.args.q (Some (frame_image c.args.frame)) c.requires.free c.requires.also) ∙ c.requires.also)

pub reserve_both-requires-clause-others : goal.reserve_both-requires-clause-others
reserve_both-requires-clause-others c = subst (λ (w : World). All (StandsOn w c.args.q) c.args.later.now) (sym c.insert.ensures.world) c.requires.later

pub reserve_both-requires-clause-one : goal.reserve_both-requires-clause-one
reserve_both-requires-clause-one c =
    let at = goal.at.reserve_both-requires-clause-one c in
    relist_ones (with_frame at.Start) c.args.parent c.args.list.now c.requires.change.live c.requires.change.forest

pub reserve_both-requires-clause-still : goal.reserve_both-requires-clause-still
reserve_both-requires-clause-still c =
    let at = goal.at.reserve_both-requires-clause-still c in
    let p = c.args.parent in
    let list = c.args.list.now in
    let mid = with_frame at.Start in
    subst (λ (w : World). HasTakenOff w p list c.args.from (c.args.place.now ∷ []) (has_place c.insert_hidden.new.self)) (sym c.insert.ensures.world)
    (subst (λ (has : Place → Bool). HasTakenOff mid p list c.args.from (c.args.place.now ∷ []) has) (sym c.insert_hidden.ensures.has)
    (subst (λ (r : Rect). HasTakenOff mid p list c.args.from (r ∷ []) (has_place c.args.pixels.now)) c.requires.place_is
    (relisted_taken mid p c.args.i list c.requires.change (c.requires.places p c.requires.change.live) c.args.from c.requires.front (has_place c.args.pixels.now) c.requires.before.cells)))

pub reserve_both-requires-clause-others_still : goal.reserve_both-requires-clause-others_still
reserve_both-requires-clause-others_still c =
    let at = goal.at.reserve_both-requires-clause-others_still c in
    let p = c.args.parent in
    let list = c.args.list.now in
    let later = c.args.later.now in
    let mid = with_frame at.Start in
    subst (λ (w : World). HasLaterTaken w p list c.args.q later 0 c.args.areas.now (has_place c.insert_hidden.new.self)) (sym c.insert.ensures.world)
    (subst (λ (has : Place → Bool). HasLaterTaken mid p list c.args.q later 0 c.args.areas.now has) (sym c.insert_hidden.ensures.has)
    (later_taken (shape c.args.lists.now) c.args.i (frame_image c.args.frame) p c.args.q list later c.args.areas.now (has_place c.args.pixels.now)
    c.requires.free c.requires.also c.requires.alone c.requires.change c.requires.later c.requires.cells c.requires.left c.requires.left_own))

-- without it the lists are as they were
out : (c : After-insert) → with_image (shape c.insert.new.self) c.args.i None ≡ shape c.args.lists.now
out c =
    ap (λ (w : World). with_image w c.args.i None) c.insert.ensures.world
    ∙ put_out (shape c.args.lists.now) c.args.i (frame_image c.args.frame) c.requires.free

pub remove-requires-clause-standing : goal.remove-requires-clause-standing
remove-requires-clause-standing c = subst IsStanding (sym (out (goal.at.remove-requires-clause-standing c).After-insert)) (lists_standing c.args.lists.now)

pub remove-requires-clause-places : goal.remove-requires-clause-places
remove-requires-clause-places c = subst HasOnePlaces (sym (out (goal.at.remove-requires-clause-places c).After-insert)) (lists_places c.args.lists.now)

pub remove-requires-clause-near : goal.remove-requires-clause-near
remove-requires-clause-near c = subst IsNearby (sym (out (goal.at.remove-requires-clause-near c).After-insert)) (lists_near c.args.lists.now)

pub shorten-requires : goal.shorten-requires
shorten-requires c n past =
    ap (λ (w : World). w n) (c.remove.ensures.world ∙ out (goal.at.shorten-requires c).After-insert) ∙ c.requires.beyond n (omega (arith, past, c.len-made.ensures.value))

pub returns-in-Ok-clause-forms : goal.returns-in-Ok-clause-forms
returns-in-Ok-clause-forms c = c.reserve_both.ensures.kept.forms ∙ forms (goal.at.returns-in-Ok-clause-forms c).After-insert

pub returns-in-Err-clause-lists_err : goal.returns-in-Err-clause-lists_err
returns-in-Err-clause-lists_err c = c.shorten.ensures.world ∙ c.remove.ensures.world ∙ out (goal.at.returns-in-Err-clause-lists_err c).After-insert

pub returns-in-Err-clause-kept : goal.returns-in-Err-clause-kept
returns-in-Err-clause-kept c =
    c.remove-in-Err.ensures.kept ∙ ap (with_own c.args.i (λ _. 0)) (c.reserve_both.ensures.kept.kept ∙ c.insert_hidden.ensures.kept)
    ∙ kept_out c.args.pixels.now c.args.i (free (goal.at.returns-in-Err-clause-kept c).After-insert)

pub returns-in-Err-clause-has : goal.returns-in-Err-clause-has
returns-in-Err-clause-has c =
    c.remove-in-Err.ensures.has ∙ ap (with_places c.args.i (λ _. false)) (c.reserve_both.ensures.kept.has ∙ c.insert_hidden.ensures.has)
    ∙ has_out c.args.pixels.now c.args.i (free (goal.at.returns-in-Err-clause-has c).After-insert)

pub returns-in-Err-clause-forms : goal.returns-in-Err-clause-forms
returns-in-Err-clause-forms c =
    c.remove-in-Err.ensures.forms
    ∙ ap (with_form c.args.i None) (c.reserve_both.ensures.kept.forms ∙ c.in_ok-insert_hidden.ensures.forms)
    ∙ form_out (form_at c.args.pixels.now) c.args.i (window_form (record { r = c.args.frame.r; chan = c.args.frame.chan })) (free (goal.at.returns-in-Err-clause-forms c).After-insert)
    ∙ c.requires.forms
    ∙ ap forms_of (sym (c.shorten.ensures.world ∙ c.remove.ensures.world ∙ out (goal.at.returns-in-Err-clause-forms c).After-insert))

pub returns-in-Err-clause-moment : goal.returns-in-Err-clause-moment
returns-in-Err-clause-moment c =
    c.remove-in-Err.ensures.moment ∙ ap (with_moment c.args.i None) (c.reserve_both.ensures.kept.moment ∙ c.insert_hidden.ensures.moment)
    ∙ moment_out c.args.pixels.now c.args.i (free (goal.at.returns-in-Err-clause-moment c).After-insert)
