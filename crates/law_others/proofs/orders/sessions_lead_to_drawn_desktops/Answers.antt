use Rattle.law_others.proofs.orders.Answers.{answer_drawn, cleared_drawn, one_drawn}
use Rattle.law_others.proofs.orders.Leading.{IsLed, led_itself, led_keeps}
use Rattle.law_others.proofs.orders.sessions_lead_to_drawn_desktops.Goals as goal

pub returns : goal.returns
returns c = record {
  message = λ k session desktop bytes mark begun drawn. let led = answer_drawn (IsLed desktop) (led_keeps desktop) k session desktop bytes mark begun (led_itself desktop drawn) in (led.drawn, led.leads);
  late = λ k session desktop after drawn e. let led = one_drawn (IsLed desktop) (led_keeps desktop) k session desktop after (led_itself desktop drawn) e in (led.drawn, led.leads);
  end = λ k session desktop begun drawn. let led = cleared_drawn (IsLed desktop) (led_keeps desktop) k session desktop begun (led_itself desktop drawn) in (led.drawn, led.leads);
}
