-- What the orders and the notes of a step make of the session's window in both worlds.
use Rattle.std.proofs.Common.{◌≡◌, ◌∙◌, ℕ, Bool, true, false, eqb, List, [], ◌∷◌, ◌++◌, fold, Option, Some, None, refl, sym, ap, subst}
use Rattle.std.specs.Prelude.{◌==◌, All, if◌then◌else◌}
use Rattle.std.specs.Option.{option_map, option_map_or, unwrap_or}
use Rattle.std.proofs.lemmas.Bool.{eqb-true, eqb-false}
use Rattle.std.proofs.lemmas.List.Sums.{fold-append}
use Rattle.std.proofs.lemmas.List.Elements.{All-cons, All-head, All-nil, All-tail, filter_map-append}
use Rattle.std.specs.Map.{keys_of}
use Rattle.r9_geom.specs.declared.Rect.{Rect}
use Rattle.r9_event.specs.declared.event.rio.Note.{Note}
use Rattle.r9_event.specs.declared.event.rio.Note.TheVariants as note
use Rattle.r9_event.specs.declared.event.rio.Order.{Order}
use Rattle.r9_event.specs.declared.event.rio.Order.TheVariants as order
use Rattle.model_text.specs.text.Map.{lookup, with}
use Rattle.model_text.specs.map.Ascending.{Ascend}
use Rattle.model_text.proofs.map.Ascending.{ascend-and, ascend-with, ascend-without, without-here}
use Rattle.model_text.proofs.map.Keys.{eqb-same}
use Rattle.model_text.proofs.map.Maps.{and-here, and-others, with-others, without-others}
use Rattle.model_rio.specs.window.Heard.{Heard, Noted}
use Rattle.model_rio.specs.window.Pane.{Pane, new_pane, pane_heard}
use Rattle.model_draw.specs.draw.World as draw
use Rattle.model_draw.specs.draw.Orders.{carried_out, fits, ordered}
use Rattle.model_world.specs.Desktop.{pane_of, pane_told, panes_told}
use Rattle.law_shown.specs.fitting.Fitting.{AllFit}
use Rattle.model_alone.specs.alone.Lone.{LoneDesktop, noted_alone, window_heard, window_noted}
use Rattle.law_others.specs.told.Telling.{IsBeside, IsSmall, Tells, begins, beside, drops, is_own, makes, notes_of, replaces, small, told_image}
use Rattle.law_others.specs.sized.Sizes.{IsForSize}
use Rattle.law_strangers.specs.followed.Devices.{AllFree, IsDeviceLike, IsFree, NamesFree, serial_in}
use Rattle.law_strangers.specs.followed.Following.{named_pane, pane_noted}

-- ---- the panes of windows

with_at : {A : Type 0} (es : List (ℕ × A)) (key : ℕ) (value : A) → lookup (with es key value) key ≡ option_map (λ _. value) (lookup es key)
with_at [] key value = refl
with_at (e ∷ es) key value = by (eqb e.0 key) refl (with_at es key value)
  where
    by : (b : Bool) → eqb e.0 key ≡ b → lookup (with es key value) key ≡ option_map (λ _. value) (lookup es key)
        → lookup (if b then (e.0, value) ∷ es else e ∷ with es key value) key ≡ option_map (λ _. value) (if b then Some e.1 else lookup es key)
    by true at more = rw at refl
    by false at more = rw at more

-- what is heard at a window
pub heard_here : (panes : List (ℕ × Pane)) (window : ℕ) (h : Heard) → lookup (pane_told panes window h) window ≡ option_map (λ p. pane_heard p h) (lookup panes window)
heard_here panes window h = with_at panes window (pane_heard (pane_of panes window) h) ∙ by (lookup panes window)
  where
    by : (o : Option Pane) → option_map (λ _. pane_heard (unwrap_or o new_pane) h) o ≡ option_map (λ p. pane_heard p h) o
    by None = refl
    by (Some p) = refl

pane_here : (panes : List (ℕ × Pane)) (window : ℕ) (n : Note) → Ascend (keys_of panes) → lookup (panes_told panes (window, n)) window ≡ pane_noted (lookup panes window) n
pane_here panes window (note.Made number serial name r depth) order = and-here panes window _
pane_here panes window note.Deleted order = without-here panes window order
pane_here panes window (note.Moved name r) order = heard_here panes window (Noted (note.Moved name r))
pane_here panes window (note.Resized name r) order = heard_here panes window (Noted (note.Resized name r))
pane_here panes window (note.Hidden hidden) order = heard_here panes window (Noted (note.Hidden hidden))
pane_here panes window (note.Current current) order = heard_here panes window (Noted (note.Current current))
pane_here panes window (note.Mouse x y buttons msec) order = heard_here panes window (Noted (note.Mouse x y buttons msec))
pane_here panes window (note.Key bytes) order = heard_here panes window (Noted (note.Key bytes))

pane_elsewhere : (panes : List (ℕ × Pane)) (at window : ℕ) (n : Note) → (window ≡ at → ⊥) → lookup (panes_told panes (at, n)) window ≡ lookup panes window
pane_elsewhere panes at window (note.Made number serial name r depth) apart = and-others panes at window _ apart
pane_elsewhere panes at window note.Deleted apart = without-others panes at window apart
pane_elsewhere panes at window n apart = with-others panes at window _ apart

told_order : (panes : List (ℕ × Pane)) (at : ℕ) (n : Note) → Ascend (keys_of panes) → Ascend (keys_of (panes_told panes (at, n)))
told_order panes at (note.Made number serial name r depth) order = ascend-and panes at _ order
told_order panes at note.Deleted order = ascend-without panes at order
told_order panes at n order = ascend-with panes at _ order

-- the note, if it is one of the session's window
abbrev pub own_note : (own : Option ℕ) → ℕ × Note → Option Note
own_note own told = if is_own own told.0 then Some told.1 else None

pub all_order : (notes : List (ℕ × Note)) (panes : List (ℕ × Pane)) → Ascend (keys_of panes) → Ascend (keys_of (fold panes_told panes notes))
all_order [] panes order = order
all_order (told ∷ notes) panes order = all_order notes (panes_told panes told) (told_order panes told.0 told.1 order)

-- the pane of a window after notes depends on those of the window alone
pub pane_after : (window : ℕ) (notes : List (ℕ × Note)) (panes : List (ℕ × Pane)) → Ascend (keys_of panes)
    → lookup (fold panes_told panes notes) window ≡ fold pane_noted (lookup panes window) (notes_of (Some window) notes)
pane_after window [] panes order = refl
pane_after window ((at, n) ∷ notes) panes order =
    pane_after window notes (panes_told panes (at, n)) (told_order panes at n order) ∙ by (window == at) refl
  where
    rest : List Note
    rest = notes_of (Some window) notes

    by : (b : Bool) → (window == at) ≡ b → fold pane_noted (lookup (panes_told panes (at, n)) window) rest ≡ fold pane_noted (lookup panes window) (notes_of (Some window) ((at, n) ∷ notes))
    by true is =
        let same : window ≡ at = eqb-true window at is in
        rw is (ap (λ (o : Option Pane). fold pane_noted o rest) (subst (λ (k : ℕ). lookup (panes_told panes (k, n)) window ≡ pane_noted (lookup panes window) n) same (pane_here panes window n order)))
    by false is = rw is (ap (λ (o : Option Pane). fold pane_noted o rest) (pane_elsewhere panes at window n (eqb-false window at is)))

-- ---- notes and orders, one after the other

pub own_more : (window : ℕ) (notes : List (ℕ × Note)) (n : Note) → notes_of (Some window) (notes ++ (window, n) ∷ []) ≡ notes_of (Some window) notes ++ n ∷ []
own_more window notes n = filter_map-append (own_note (Some window)) notes ((window, n) ∷ []) ∙ ap (λ (more : List Note). notes_of (Some window) notes ++ more) one
  where
    one : notes_of (Some window) ((window, n) ∷ []) ≡ n ∷ []
    one = rw (eqb-same window) refl

pub others_more : (window : ℕ) (notes : List (ℕ × Note)) (at : ℕ) (n : Note) → (window == at) ≡ false → notes_of (Some window) (notes ++ (at, n) ∷ []) ≡ notes_of (Some window) notes
others_more window notes at n other = filter_map-append (own_note (Some window)) notes ((at, n) ∷ []) ∙ ap (λ (more : List Note). notes_of (Some window) notes ++ more) one ∙ no_more (notes_of (Some window) notes)
  where
    one : notes_of (Some window) ((at, n) ∷ []) ≡ []
    one = rw other refl

    no_more : (xs : List Note) → xs ++ [] ≡ xs
    no_more [] = refl
    no_more (x ∷ xs) = ap (λ (rest : List Note). x ∷ rest) (no_more xs)

-- what holds of orders holds of those before the last, and then of the last
fit_parts : (orders : List Order) (o : Order) (device : draw.World) → AllFit device (orders ++ o ∷ []) → AllFit device orders × (fits (carried_out device orders) o ≡ true)
fit_parts [] o device all = (tt, all.0)
fit_parts (p ∷ orders) o device all = let rest = fit_parts orders o (ordered device p) all.1 in ((all.0, rest.0), rest.1)

free_parts : (window : ℕ) (orders : List Order) (o : Order) (device : draw.World) → AllFree window device (orders ++ o ∷ []) → AllFree window device orders × NamesFree window (carried_out device orders).book o
free_parts window [] o device all = (tt, all.0)
free_parts window (p ∷ orders) o device all = let rest = free_parts window orders o (ordered device p) all.1 in ((all.0, rest.0), rest.1)

-- so do sizes
size_parts : (size : Option (ℕ × ℕ)) (orders : List Order) (o : Order) → All (IsForSize size) (orders ++ o ∷ []) → All (IsForSize size) orders × IsForSize size o
size_parts size [] o all = (All-nil (IsForSize size), All-head (IsForSize size) o [] all)
size_parts size (p ∷ orders) o all =
    let rest = size_parts size orders o (All-tail (IsForSize size) p (orders ++ o ∷ []) all) in
    (All-cons (IsForSize size) p orders (All-head (IsForSize size) p (orders ++ o ∷ []) all) rest.0, rest.1)

module _ (c : ℕ) (Like : Option (ℕ × ℕ) → Option (ℕ × List ℕ) → draw.World → draw.World → Type 0) (laws : IsDeviceLike c Like) (size : Option (ℕ × ℕ)) (window : ℕ) (counted : (window == 0) ≡ false) where
  -- the window with this rectangle and pane, in the server's device and in a world of the session's own
  pub record IsHeld (now : Option Rect) (device : draw.World) (pane : Option Pane) (t : LoneDesktop) : Type 0 where
    pub alone : t.window ≡ option_map (λ p. (window, p)) pane
    pub rect : now ≡ option_map (λ p. p.known.r) pane
    pub like : Like size (named_pane window pane) device t.device

  -- ---- an order that is beside

  beside_none : (own : Option ℕ) (o : Order) → IsBeside own o → IsBeside None o
  beside_none own (order.Make at host r name hide depth) is = refl
  beside_none own (order.Place at p) is = tt
  beside_none own (order.Replace at host r name keep hidden) is = refl
  beside_none own (order.Raise at) is = tt
  beside_none own (order.Lower at) is = tt
  beside_none own (order.Drop at) is = refl
  beside_none own (order.Host at fill) is = refl
  beside_none own (order.Leave client) is = absurd is
  beside_none own (order.Size width height) is = tt

  beside_pane : (pane : Option Pane) (o : Order) → IsBeside (Some window) o → IsBeside (serial_in (named_pane window pane)) o
  beside_pane None o is = beside_none (Some window) o is
  beside_pane (Some p) o is = is

  beside_held : (now : Option Rect) (device : draw.World) (pane : Option Pane) (t : LoneDesktop) (o : Order) → IsHeld now device pane t → fits device o ≡ true → IsBeside (Some window) o → IsForSize size o → IsHeld now (ordered device o) pane t
  beside_held now device pane t o is fit other sized =
      record { alone = is.alone; rect = is.rect; like = laws.beside size (named_pane window pane) device t.device is.like o fit (beside_pane pane o other) sized }

  -- ---- notes that tell of no image

  heard_alone : (pane : Option Pane) (n : Note) → window_heard (option_map (λ p. (window, p)) pane) (Noted n) ≡ option_map (λ p. (window, p)) (option_map (λ p. pane_heard p (Noted n)) pane)
  heard_alone None n = refl
  heard_alone (Some p) n = refl

  small_rect : (pane : Option Pane) (n : Note) → IsSmall n → option_map (λ p. p.known.r) pane ≡ option_map (λ p. p.known.r) (pane_noted pane n)
  unfolding pane_heard
  small_rect None (note.Hidden hidden) is = refl
  small_rect None (note.Current current) is = refl
  small_rect None (note.Mouse x y buttons msec) is = refl
  small_rect None (note.Key bytes) is = refl
  small_rect (Some p) (note.Hidden hidden) is = refl
  small_rect (Some p) (note.Current current) is = refl
  small_rect (Some p) (note.Mouse x y buttons msec) is = refl
  small_rect (Some p) (note.Key bytes) is = refl
  small_rect pane (note.Made number serial name r depth) is = absurd is
  small_rect pane (note.Moved name r) is = absurd is
  small_rect pane (note.Resized name r) is = absurd is
  small_rect pane note.Deleted is = absurd is

  small_name : (pane : Option Pane) (n : Note) → IsSmall n → named_pane window pane ≡ named_pane window (pane_noted pane n)
  unfolding pane_heard
  small_name None (note.Hidden hidden) is = refl
  small_name None (note.Current current) is = refl
  small_name None (note.Mouse x y buttons msec) is = refl
  small_name None (note.Key bytes) is = refl
  small_name (Some p) (note.Hidden hidden) is = refl
  small_name (Some p) (note.Current current) is = refl
  small_name (Some p) (note.Mouse x y buttons msec) is = refl
  small_name (Some p) (note.Key bytes) is = refl
  small_name pane (note.Made number serial name r depth) is = absurd is
  small_name pane (note.Moved name r) is = absurd is
  small_name pane (note.Resized name r) is = absurd is
  small_name pane note.Deleted is = absurd is

  small_device : (t : LoneDesktop) (n : Note) → IsSmall n → (noted_alone t n).device ≡ t.device
  small_device t (note.Hidden hidden) is = refl
  small_device t (note.Current current) is = refl
  small_device t (note.Mouse x y buttons msec) is = refl
  small_device t (note.Key bytes) is = refl
  small_device t (note.Made number serial name r depth) is = absurd is
  small_device t (note.Moved name r) is = absurd is
  small_device t (note.Resized name r) is = absurd is
  small_device t note.Deleted is = absurd is

  small_alone : (w : Option (ℕ × Pane)) (pane : Option Pane) (n : Note) → IsSmall n → w ≡ option_map (λ p. (window, p)) pane → window_noted w n ≡ option_map (λ p. (window, p)) (pane_noted pane n)
  small_alone w pane (note.Hidden hidden) is at = ap (λ (o : Option (ℕ × Pane)). window_heard o (Noted (note.Hidden hidden))) at ∙ heard_alone pane (note.Hidden hidden)
  small_alone w pane (note.Current current) is at = ap (λ (o : Option (ℕ × Pane)). window_heard o (Noted (note.Current current))) at ∙ heard_alone pane (note.Current current)
  small_alone w pane (note.Mouse x y buttons msec) is at = ap (λ (o : Option (ℕ × Pane)). window_heard o (Noted (note.Mouse x y buttons msec))) at ∙ heard_alone pane (note.Mouse x y buttons msec)
  small_alone w pane (note.Key bytes) is at = ap (λ (o : Option (ℕ × Pane)). window_heard o (Noted (note.Key bytes))) at ∙ heard_alone pane (note.Key bytes)
  small_alone w pane (note.Made number serial name r depth) is at = absurd is
  small_alone w pane (note.Moved name r) is at = absurd is
  small_alone w pane (note.Resized name r) is at = absurd is
  small_alone w pane note.Deleted is at = absurd is

  small_held : (now : Option Rect) (device : draw.World) (pane : Option Pane) (t : LoneDesktop) (n : Note) → IsSmall n → IsHeld now device pane t → IsHeld now device (pane_noted pane n) (noted_alone t n)
  small_held now device pane t n little is = record {
    alone = small_alone t.window pane n little is.alone;
    rect = is.rect ∙ small_rect pane n little;
    like = subst (λ (w : Option (ℕ × List ℕ)). Like size w device (noted_alone t n).device) (small_name pane n little) (subst (Like size (named_pane window pane) device) (sym (small_device t n little)) is.like);
  }

  -- ---- an image comes, is replaced, and goes

  made_held : (device : draw.World) (pane : Option Pane) (t : LoneDesktop) (number depth : ℕ) (name : List ℕ) (r : Rect) (hide : Bool) → IsHeld None device pane t
      → fits device (order.Make window 0 r name hide depth) ≡ true → IsFree device.book window name
      → IsHeld (Some r) (ordered device (order.Make window 0 r name hide depth)) (pane_noted pane (note.Made number window name r depth)) (noted_alone t (note.Made number window name r depth))
  unfolding pane_heard
  made_held device pane t number depth name r hide is fit free = by pane is.rect is.like
    where
      by : (p : Option Pane) → None ≡ option_map (λ p. p.known.r) p → Like size (named_pane window p) device t.device
          → IsHeld (Some r) (ordered device (order.Make window 0 r name hide depth)) (pane_noted pane (note.Made number window name r depth)) (noted_alone t (note.Made number window name r depth))
      by None none like = record { alone = refl; rect = refl; like = laws.made size device t.device like window depth name r hide counted fit free }
      by (Some p) none like = absurd cc

  replaced_held : (old : Rect) (device : draw.World) (pane : Option Pane) (t : LoneDesktop) (keep hidden : Bool) (name : List ℕ) (r : Rect) → IsHeld (Some old) device pane t
      → fits device (order.Replace window 0 r name keep hidden) ≡ true → IsFree device.book window name
      → IsHeld (Some r) (ordered device (order.Replace window 0 r name keep hidden)) (pane_noted pane (told_image keep name r)) (noted_alone t (told_image keep name r))
  unfolding pane_heard
  replaced_held old device pane t keep hidden name r is fit free = by pane is.alone is.rect is.like keep (λ p like. laws.replaced size window p.known.name device t.device like name r keep hidden fit free)
    where
      serial_of : Option (ℕ × Pane) → ℕ
      serial_of w = option_map_or (λ w. w.0) w 0

      by : (p : Option Pane) → t.window ≡ option_map (λ p. (window, p)) p → Some old ≡ option_map (λ p. p.known.r) p → Like size (named_pane window p) device t.device → (k : Bool)
          → ((q : Pane) → Like size (Some (window, q.known.name)) device t.device → Like size (Some (window, name)) (ordered device (order.Replace window 0 r name keep hidden)) (ordered t.device (order.Replace window 0 r name k false)))
          → IsHeld (Some r) (ordered device (order.Replace window 0 r name keep hidden)) (pane_noted p (told_image k name r)) (noted_alone t (told_image k name r))
      by None alone some like k law = absurd cc
      by (Some p) alone some like true law = record {
        alone = ap (λ (o : Option (ℕ × Pane)). window_noted o (note.Moved name r)) alone;
        rect = refl;
        like = subst (λ (n : ℕ). Like size (Some (window, name)) (ordered device (order.Replace window 0 r name keep hidden)) (ordered t.device (order.Replace n 0 r name true false))) (sym (ap serial_of alone)) (law p like);
      }
      by (Some p) alone some like false law = record {
        alone = ap (λ (o : Option (ℕ × Pane)). window_noted o (note.Resized name r)) alone;
        rect = refl;
        like = subst (λ (n : ℕ). Like size (Some (window, name)) (ordered device (order.Replace window 0 r name keep hidden)) (ordered t.device (order.Replace n 0 r name false false))) (sym (ap serial_of alone)) (law p like);
      }

  dropped_held : (old : Rect) (device : draw.World) (pane : Option Pane) (t : LoneDesktop) → IsHeld (Some old) device pane t → fits device (order.Drop window) ≡ true
      → IsHeld None (ordered device (order.Drop window)) (pane_noted pane note.Deleted) (noted_alone t note.Deleted)
  dropped_held old device pane t is fit = by pane is.alone is.rect is.like
    where
      by : (p : Option Pane) → t.window ≡ option_map (λ p. (window, p)) p → Some old ≡ option_map (λ p. p.known.r) p → Like size (named_pane window p) device t.device
          → IsHeld None (ordered device (order.Drop window)) None (noted_alone t note.Deleted)
      by None alone some like = absurd cc
      by (Some p) alone some like = record {
        alone = refl;
        rect = refl;
        like = subst (λ (n : ℕ). Like size None (ordered device (order.Drop window)) (ordered t.device (order.Drop n))) (sym (ap (λ (o : Option (ℕ × Pane)). option_map_or (λ w. w.0) o 0) alone)) (laws.dropped size window p.known.name device t.device like fit);
      }

  -- ---- all of a step

  -- after one order more
  last_order : (orders : List Order) (o : Order) (device : draw.World) → carried_out device (orders ++ o ∷ []) ≡ ordered (carried_out device orders) o
  last_order orders o device = fold-append ordered device orders (o ∷ [])

  module _ (start : Option Rect) (device : draw.World) (pane : Option Pane) (t : LoneDesktop) (is : IsHeld start device pane t) where
    abbrev After : Option Rect → List Order → List Note → Type 0
    After now orders notes = IsHeld now (carried_out device orders) (fold pane_noted pane notes) (fold noted_alone t notes)

    with_order : (now : Option Rect) (orders : List Order) (o : Order) (notes : List Note) → IsHeld now (ordered (carried_out device orders) o) (fold pane_noted pane notes) (fold noted_alone t notes)
        → After now (orders ++ o ∷ []) notes
    with_order now orders o notes held = subst (λ (d : draw.World). IsHeld now d (fold pane_noted pane notes) (fold noted_alone t notes)) (sym (last_order orders o device)) held

    with_note : (now : Option Rect) (orders : List Order) (notes : List Note) (n : Note) → IsHeld now (carried_out device orders) (pane_noted (fold pane_noted pane notes) n) (noted_alone (fold noted_alone t notes) n)
        → After now orders (notes ++ n ∷ [])
    with_note now orders notes n held =
        subst (λ (p : Option Pane). IsHeld now (carried_out device orders) p (fold noted_alone t (notes ++ n ∷ []))) (sym (fold-append pane_noted pane notes (n ∷ [])))
        (subst (λ (u : LoneDesktop). IsHeld now (carried_out device orders) (pane_noted (fold pane_noted pane notes) n) u) (sym (fold-append noted_alone t notes (n ∷ []))) held)

    -- with an order and the note that goes with it
    with_both : (now : Option Rect) (orders : List Order) (o : Order) (notes : List (ℕ × Note)) (n : Note)
        → IsHeld now (ordered (carried_out device orders) o) (pane_noted (fold pane_noted pane (notes_of (Some window) notes)) n) (noted_alone (fold noted_alone t (notes_of (Some window) notes)) n)
        → After now (orders ++ o ∷ []) (notes_of (Some window) (notes ++ (window, n) ∷ []))
    with_both now orders o notes n held =
        subst (After now (orders ++ o ∷ [])) (sym (own_more window notes n))
        (with_note now (orders ++ o ∷ []) (notes_of (Some window) notes) n
        (subst (λ (d : draw.World). IsHeld now d (pane_noted (fold pane_noted pane (notes_of (Some window) notes)) n) (noted_alone (fold noted_alone t (notes_of (Some window) notes)) n)) (sym (last_order orders o device)) held))

    pub tells_held : (now : Option Rect) (orders : List Order) (notes : List (ℕ × Note)) → Tells window start now orders notes → AllFit device orders → AllFree window device orders → All (IsForSize size) orders → After now orders (notes_of (Some window) notes)
    tells_held now orders notes begins fit free sizes = is
    tells_held now all notes (beside _ orders _ tells o other) fit free sizes =
        let fits = fit_parts orders o device fit in
        let frees = free_parts window orders o device free in
        let sized = size_parts size orders o sizes in
        let before = tells_held now orders notes tells fits.0 frees.0 sized.0 in
        with_order now orders o (notes_of (Some window) notes) (beside_held now (carried_out device orders) (fold pane_noted pane (notes_of (Some window) notes)) (fold noted_alone t (notes_of (Some window) notes)) o before fits.1 other sized.1)
    tells_held now orders all (small _ _ notes tells at n little) fit free sizes =
        by (window == at) refl (tells_held now orders notes tells fit free sizes)
      where
        by : (b : Bool) → (window == at) ≡ b → After now orders (notes_of (Some window) notes) → After now orders (notes_of (Some window) (notes ++ (at, n) ∷ []))
        by true same before =
            let here : window ≡ at = eqb-true window at same in
            subst (λ (k : ℕ). After now orders (notes_of (Some window) (notes ++ (k, n) ∷ []))) here
            (subst (After now orders) (sym (own_more window notes n))
            (with_note now orders (notes_of (Some window) notes) n (small_held now (carried_out device orders) (fold pane_noted pane (notes_of (Some window) notes)) (fold noted_alone t (notes_of (Some window) notes)) n (little (sym here)) before)))
        by false other before = subst (After now orders) (sym (others_more window notes at n other)) before
    tells_held now all others (makes orders notes tells number depth name r hide) fit free sizes =
        let o = order.Make window 0 r name hide depth in
        let fits = fit_parts orders o device fit in
        let frees = free_parts window orders o device free in
        let before = tells_held None orders notes tells fits.0 frees.0 (size_parts size orders o sizes).0 in
        with_both (Some r) orders o notes (note.Made number window name r depth)
        (made_held (carried_out device orders) (fold pane_noted pane (notes_of (Some window) notes)) (fold noted_alone t (notes_of (Some window) notes)) number depth name r hide before fits.1 (frees.1 refl))
    tells_held now all others (replaces old orders notes tells keep hidden name r) fit free sizes =
        let o = order.Replace window 0 r name keep hidden in
        let fits = fit_parts orders o device fit in
        let frees = free_parts window orders o device free in
        let before = tells_held (Some old) orders notes tells fits.0 frees.0 (size_parts size orders o sizes).0 in
        with_both (Some r) orders o notes (told_image keep name r)
        (replaced_held old (carried_out device orders) (fold pane_noted pane (notes_of (Some window) notes)) (fold noted_alone t (notes_of (Some window) notes)) keep hidden name r before fits.1 (frees.1 refl))
    tells_held now all others (drops old orders notes tells) fit free sizes =
        let o = order.Drop window in
        let fits = fit_parts orders o device fit in
        let frees = free_parts window orders o device free in
        let before = tells_held (Some old) orders notes tells fits.0 frees.0 (size_parts size orders o sizes).0 in
        with_both None orders o notes note.Deleted (dropped_held old (carried_out device orders) (fold pane_noted pane (notes_of (Some window) notes)) (fold noted_alone t (notes_of (Some window) notes)) before fits.1)
