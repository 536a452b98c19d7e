-- What an ask, and a message with the take behind it, make of a display that another program holds.
use Rattle.std.specs.Prelude.{◌≡◌, ◌^◌, ℕ, Bool, true, false, List, IfSome, IfNone}
use Rattle.r9_event.specs.declared.event.ask.Ask.{Ask}
use Rattle.r9_event.specs.declared.event.ask.Ask.TheVariants as ask
use Rattle.r9_event.specs.declared.event.ask.Answer.{Answer}
use Rattle.r9_event.specs.declared.event.ask.Answer.TheVariants.{Went}
use Rattle.r9_hall.specs.hall.Acts.{IsAct, IsCounted}
use Rattle.r9_hall.specs.hall.HallView.{HallValue, entries}
use Rattle.r9_embed.specs.declared.embedded.Done.{Done}
use Rattle.r9_embed.specs.declared.embedded.Exchange.{Exchange}

-- The hall did what it was asked: of each history that it stood for it made what a server may, at most the pixels that its entry costs were
-- written, and if it made no entry it broke nothing.
pub record IsAsked (before : HallValue) (ask : Ask) (done : Done) (after : HallValue) : Type 0 where
  pub opening : after.opening ≡ before.opening
  pub first : after.first ≡ before.first
  pub history : IsAct before ask done.acted after
  pub counted : IsCounted before done.acted after 0 done.pixels
  pub whole : done.acted.entered ≡ false → after.broken ≡ before.broken

-- the message went, and its session may send more
abbrev pub is_gone : Answer → Bool
is_gone (Went msize) = true
is_gone answer = false

-- A message was asked, and what waits was asked behind it if the message went and the history was not full.
pub record IsExchanged (before : HallValue) (session : ℕ) (bytes : List ℕ) (exchange : Exchange) (after : HallValue) : Type 0 where
  pub between : HallValue
  pub heard : IsAsked before (Ask.Msg session bytes) exchange.heard between
  pub taken : IfSome exchange.taken (λ done. IsAsked between (Ask.Look session) done after)
  pub went : IfSome exchange.taken (λ _. is_gone exchange.heard.acted.answer ≡ true)
  pub untaken : IfNone exchange.taken (after ≡ between)
  pub none : IfNone exchange.taken (is_gone exchange.heard.acted.answer ≡ true → entries between ≡ 2 ^ 61)
