-- What a desk writes for an event is answered, and has the draw device carry out orders on windows.
use Rattle.std.proofs.Common.{◌≡◌, ◌∙◌, ◌<◌, ◌^◌, ℕ, false, [], ◌∷◌, sym, ap, subst}
use Rattle.model_files.specs.declared.wctl.Choice.TheVariants.{R}
use Rattle.model_files.specs.declared.mouse.Mouse.{Mouse}
use Rattle.model_rio.specs.rio.Act as act
use Rattle.model_rio.specs.rio.Rio.{rio}
use Rattle.model_draw.specs.draw.Orders.{carried_out}
use Rattle.law_shown.specs.fitting.Fitting.{FindsDisplay, Shows}
use Rattle.law_shown.proofs.fitting.Acts.{act_fits}
use Rattle.model_client.specs.declared.desk.Act.{Act}
use Rattle.model_client.specs.declared.desk.Act.TheVariants.{Delete, Hide, Move, New, Nothing, Pass, Resize}
use Rattle.model_client.specs.desk.Table.{Desk}
use Rattle.model_client.specs.desk.Asked.{asked}
use Rattle.model_draw.specs.draw.World as draw
use Rattle.model_world.specs.Desktop.{Desktop}
use Rattle.model_world.specs.World.{World}
use Rattle.law_desk.specs.piloted.Following.{IsDeskIn, IsEvent}
use Rattle.law_desk.specs.ready.Ready.{IsReady}
use Rattle.law_desk.specs.steered.Steered.{IsActOf, IsSteered, Takes, rests, takes}
use Rattle.law_desk.proofs.steered.Event.{steered}
use Rattle.law_menus.specs.inked.Carried.{IsCarried}
use Rattle.law_menus.proofs.done.Fine.{none_fine}
use Rattle.law_menus.proofs.done.Orders.{acts_fine, new_orders}

-- none of them gives the display another size
finds_display : (device : draw.World) (asks : Act) (how : act.Act) → IsActOf asks how → FindsDisplay device how
finds_display device Nothing how is = absurd is
finds_display device (Pass raised) how is = subst (FindsDisplay device) (sym is.1) tt
finds_display device (New r) how is = subst (FindsDisplay device) (sym is) tt
finds_display device (Resize window r) how is = subst (FindsDisplay device) (sym is) tt
finds_display device (Move pane by) how is = subst (FindsDisplay device) (sym is.1) tt
finds_display device (Delete window) how is = subst (FindsDisplay device) (sym is) tt
finds_display device (Hide pane) how is = subst (FindsDisplay device) (sym is) tt

carries : (d : Desk) (e : Mouse) (world : World) → IsDeskIn d world → (is : IsSteered d e world) → Takes (asked d e).act world.desktop is.left.desktop → IsCarried d e world
carries d e world at is (rests none same) = record {
  left = is.left;
  answered = is.answered;
  at = is.at;
  orders = [];
  device = ap (λ (desktop : Desktop). desktop.device) same;
  on = none_fine.on;
  named = none_fine.named;
  shows = λ orderly shown. subst (λ (desktop : Desktop). Shows desktop.device desktop.table) (sym same) shown;
  made = λ r new. absurd (let both : ◌≡◌ {A = Act} Nothing (New r) = sym none ∙ new in cc both);
}
carries d e world at is (takes taken) =
    let fine = acts_fine d world.desktop.table (asked d e).act taken.how taken.step at.follows taken.is taken.acted in
    record {
      left = is.left;
      answered = is.answered;
      at = is.at;
      orders = taken.step.orders;
      device = taken.device;
      on = fine.on;
      named = fine.named;
      shows = λ orderly shown.
          let fits = act_fits world.desktop.device world.desktop.table taken.how taken.step at.follows.sound orderly shown taken.spelled (finds_display world.desktop.device (asked d e).act taken.how taken.is) taken.acted in
          subst (λ (device : draw.World). Shows device is.left.desktop.table) (sym taken.device) (subst (Shows (carried_out world.desktop.device taken.step.orders)) (sym taken.table) fits.shows);
      made = λ r new.
          let how : taken.how ≡ act.New 0 (R r ∷ []) false = subst (λ (asks : Act). IsActOf asks taken.how) new taken.is in
          new_orders d world.desktop.table r taken.step at.follows (ap (rio world.desktop.table) (sym how) ∙ taken.acted);
    }

pub carried : (k : ℕ) (d : Desk) (e : Mouse) (world : World) → IsDeskIn d world → IsReady k d → IsEvent e → k < 10 ^ 8 → IsCarried d e world
carried k d e world at ready event early = let is = steered k d e world at ready event early in carries d e world at is is.taken
