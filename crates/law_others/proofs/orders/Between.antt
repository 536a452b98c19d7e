-- Each desktop to which a drawn one leads is drawn.
use Rattle.std.proofs.Common.{◌≡◌, sym, subst}
use Rattle.model_rio.specs.rio.Table.{Table}
use Rattle.model_rio.specs.rio.Sound.{IsSound}
use Rattle.model_draw.specs.draw.World.{World}
use Rattle.model_world.specs.Desktop.{Desktop}
use Rattle.law_shown.specs.shown.Showing.{IsOrderly}
use Rattle.law_shown.proofs.shown.Following.{follows_itself, none}
use Rattle.law_shown.proofs.lasting.Messages.{Still, connect_still, leave_still, written_still}
use Rattle.law_shown.specs.fitting.Fitting.{Shows}
use Rattle.law_shown.proofs.fitting.Stepping.{shows_follow}
use Rattle.law_others.specs.orders.Leading.{IsDrawn, Leads, Uses, acts, begins, chooses, ends, reads, rests, there, uses, writes}
use Rattle.law_others.proofs.orders.Furnished.{used_furnished}
use Rattle.law_others.proofs.orders.Desktops.{acted_drawn, choice_is, read_is}

uses_still : (old new : World) → Uses old new → IsOrderly old → Still old new
uses_still old new rests o = follows_itself none none old o
uses_still old new (writes k bytes mark other) o = written_still k old bytes mark other o
uses_still old new (reads k most got e) o = read_is k old most got o e
uses_still old new (chooses k bytes next e) o = choice_is k old bytes next o e
uses_still old new (begins k) o = connect_still old k o
uses_still old new (ends k other) o = leave_still old k other o

used_drawn : (desktop next : Desktop) → IsDrawn desktop → next.table ≡ desktop.table → Uses desktop.device next.device → Still desktop.device next.device → IsDrawn next
used_drawn desktop next is table used still = record {
  sound = subst IsSound (sym table) is.sound;
  orderly = still.orderly;
  furnished = used_furnished desktop.device next.device used is.orderly is.furnished;
  shows = subst (λ (t : Table). Shows next.device t) (sym table) (shows_follow desktop.device next.device desktop.table still is.shows);
}

pub led_drawn : (start desktop : Desktop) → IsDrawn start → Leads start desktop → IsDrawn desktop
led_drawn start desktop is there = is
led_drawn start desktop is (acts before a step leads spelled e fit) = acted_drawn before a step (led_drawn start before is leads) spelled e
led_drawn start desktop is (uses before next leads table used) =
    let drawn = led_drawn start before is leads in used_drawn before next drawn table used (uses_still before.device next.device used drawn.orderly)
