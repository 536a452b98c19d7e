use Rattle.law_others.proofs.orders.Between.{led_drawn}
use Rattle.law_others.proofs.orders.led_desktops_are_drawn.Goals as goal

pub returns : goal.returns
returns c = led_drawn
