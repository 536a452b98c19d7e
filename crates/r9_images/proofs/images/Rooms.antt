-- What the room of a book says of its fields.
use Rattle.std.proofs.Common.{◌≡◌, ℕ, ◌<◌, sym, subst, arith}
use Rattle.std.specs.Prelude.{min}
use Rattle.r9_images.specs.uses.Room.{room}
use Rattle.r9_images.specs.declared.images.book.Book.TheInside.{Inside}
use Rattle.r9_images.specs.contracts.images.book.Book.{the_view}
use Rattle.r9_images.specs.images.View.{Roomy}

-- there is room for one more of each
pub record Room (referred tied : ℕ) : Type 0 where
  pub uses : 0 < referred
  pub ties : 0 < tied

rooms : (u t : ℕ) → 0 < min u t → Room u t
rooms u t h = record { uses = omega (arith, h); ties = omega (arith, h) }

pub room_in : (b : Inside) (x : Roomy) → the_view b ≡ x → 0 < x.room → Room (room b.uses) b.ties.room
room_in b x v h = rooms _ _ (let P : Roomy → Type 0 = λ y. 0 < y.room in subst P (sym v) h)
