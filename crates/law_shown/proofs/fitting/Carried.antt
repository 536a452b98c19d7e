-- Orders that fit are all carried out.
use Rattle.std.proofs.Common.{◌≡◌, Bool, List, [], ◌∷◌, fold, refl, ap, ◌∙◌}
use Rattle.std.specs.Prelude.{if◌then◌else◌}
use Rattle.r9_event.specs.declared.event.rio.Order.{Order}
use Rattle.model_draw.specs.draw.World.{World}
use Rattle.model_draw.specs.draw.Orders.{after_order, carried_out}
use Rattle.law_shown.specs.fitting.Fitting.{AllFit}

pub all_carried_out : (orders : List Order) (device : World) → AllFit device orders → carried_out device orders ≡ fold after_order device orders
all_carried_out [] device all = refl
all_carried_out (o ∷ orders) device all =
    let is = ap (λ (b : Bool). if b then after_order device o else device) all.0 in
    all_carried_out orders _ all.1 ∙ ap (λ (w : World). fold after_order w orders) is
