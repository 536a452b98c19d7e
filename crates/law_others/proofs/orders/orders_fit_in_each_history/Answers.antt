use Rattle.law_others.proofs.orders.Histories.{history_acts, history_drawn, history_leads}
use Rattle.law_others.proofs.orders.orders_fit_in_each_history.Goals as goal

pub returns : goal.returns
returns c = record { leads = history_leads; drawn = history_drawn; acts = history_acts }
