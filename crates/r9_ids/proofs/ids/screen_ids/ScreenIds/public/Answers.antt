use Rattle.std.proofs.Common.{◌==◌, ◌&&◌, find, sym, ap, ◌∙◌}
use Rattle.model_draw_parts.specs.declared.images.ScreenId.{ScreenId}
use Rattle.r9_ids.specs.declared.sorted.key.Key.{Key}
use Rattle.r9_ids.specs.sorted.Rows.{first_from}
use Rattle.r9_ids.specs.ids.Rows.{public_key}
use Rattle.r9_ids.specs.ids.ScreenIds.{Ids}
use Rattle.r9_ids.proofs.ids.IdRows.{is-own, is-other}
use Rattle.r9_ids.proofs.ids.Publics.{public-none, public-past, public-first, public-among}
use Rattle.r9_ids.proofs.ids.screen_ids.ScreenIds.public.Goals as goal

pub returns-in-None : goal.returns-in-None
returns-in-None c =
    let rows = c.self.inside.rows.rows in
    let publics = c.self.inside.publics.rows in
    public-among c.args.id rows publics c.self.invariant _
    (public-none c.args.id rows publics c.self.invariant (ap (λ (k : Key). first_from public_key k publics) (sym c.key_of_public.ensures) ∙ sym c.first_from.ensures.found ∙ c.in-None.is))
    ∙ ap (λ (x : Ids). find (λ (e : ScreenId). e.public && (e.id == c.args.id)) x.ids) c.self.view_is

pub returns-then-row-id : goal.returns-then-row-id
returns-then-row-id c =
    let rows = c.self.inside.rows.rows in
    let publics = c.self.inside.publics.rows in
    public-among c.args.id rows publics c.self.invariant _
    (public-past c.args.id rows publics c.self.invariant c.in-Some.row c.first_from.ensures.order
    (ap (λ (k : Key). first_from public_key k publics) (sym c.key_of_public.ensures) ∙ sym c.first_from.ensures.found ∙ c.in-Some.is) (is-other _ _ c.if-row-id.true))
    ∙ ap (λ (x : Ids). find (λ (e : ScreenId). e.public && (e.id == c.args.id)) x.ids) c.self.view_is

pub returns-else-row-id : goal.returns-else-row-id
returns-else-row-id c =
    let rows = c.self.inside.rows.rows in
    let publics = c.self.inside.publics.rows in
    public-among c.args.id rows publics c.self.invariant _
    (public-first c.args.id rows publics c.self.invariant c.in-Some.row c.first_from.ensures.order
    (ap (λ (k : Key). first_from public_key k publics) (sym c.key_of_public.ensures) ∙ sym c.first_from.ensures.found ∙ c.in-Some.is) (is-own _ _ c.if-row-id.false))
    ∙ ap (λ (x : Ids). find (λ (e : ScreenId). e.public && (e.id == c.args.id)) x.ids) c.self.view_is
