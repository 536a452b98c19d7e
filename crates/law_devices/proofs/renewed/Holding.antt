-- A window's new image stands on the root rio's screen, and its name is tied.
use Rattle.std.proofs.Common.{◌≡◌, ℕ, true, List, [], Option, Some, None, sym, ap, subst, ◌∙◌}
use Rattle.std.specs.Prelude.{is_some}
use Rattle.std.specs.Option.{option_map_or}
use Rattle.model_forest.specs.Steps.{clamped_rect}
use Rattle.model_draw_parts.specs.declared.images.ImageId.{ImageId}
use Rattle.model_draw_parts.specs.declared.images.Tie.{Tie}
use Rattle.model_draw_parts.specs.images.Book.{Book, image_id, screen_of, tie_of}
use Rattle.model_draw.specs.draw.World.{World, at_number}
use Rattle.model_draw.specs.draw.Orders.{image_shown, manager}
use Rattle.law_likeness.specs.likeness.Likeness.{is_root}
use Rattle.law_likeness.proofs.making.Fresh.{IsFresh, placed_new}
use Rattle.law_devices.specs.beside.Rooted.{IsRooted, IsRootedWindow, IsTiedWindow}
use Rattle.law_devices.proofs.granted.Granting.{granted, new_id, new_name, nowhere}

module _ (w : World) (book : Book) (serial i s : ℕ) (name : List ℕ) (is : w.book ≡ granted book serial i s name) (none : image_id book manager serial ≡ None) (free : tie_of book name ≡ None) (fresh : IsFresh nowhere book i) (root : is_root book s ≡ true)
    (near : clamped_rect (at_number w i).clipr ≡ (at_number w i).clipr) where
  tied_here : is_some (tie_of w.book name) ≡ true
  tied_here = ap (λ (b : Book). is_some (tie_of b name)) is ∙ ap (λ (o : Option Tie). is_some o) (new_name book serial i s name free)

  pub granted_tied : IsTiedWindow (Some (serial, name)) w.book
  granted_tied n named at = subst (λ (o : Option (ℕ × List ℕ)). is_some (tie_of w.book (option_map_or (λ v. v.1) o [])) ≡ true) at tied_here

  shown : image_shown w serial ≡ i
  shown = ap (λ (b : Book). option_map_or (λ (e : ImageId). e.image) (image_id b manager serial) 0) is ∙ ap (λ (o : Option ImageId). option_map_or (λ e. e.image) o 0) (new_id book serial i s name none)

  rooted_here : IsRooted w (image_shown w serial)
  rooted_here = subst (IsRooted w) (sym shown) (record {
    screen = s;
    on = ap (λ (b : Book). screen_of b i) is ∙ placed_new i (Some s) book.windows fresh.nowhere;
    root = ap (λ (b : Book). is_root b s) is ∙ root;
    near = near;
  })

  pub granted_rooted : IsRootedWindow (Some (serial, name)) w
  granted_rooted n named at = subst (λ (o : Option (ℕ × List ℕ)). IsRooted w (image_shown w (option_map_or (λ v. v.0) o 0))) at rooted_here
