-- Each act of the window manager keeps both worlds the same to the session, once its own world takes the notes of its window.
use Rattle.std.proofs.Common.{◌≡◌, ◌∙◌, ℕ, zero, suc, ◌==◌, ◌+◌, ◌<◌, ◌≤◌, Bool, true, false, List, [], ◌∷◌, ◌++◌, fold, Option, Some, None, Ok, refl, sym, ap, subst, arith, eqb-true, ne_eqb}
use Rattle.std.specs.Prelude.{◌||◌, All, IsSomeAnd, not, if◌then◌else◌}
use Rattle.std.specs.Option.{option_map}
use Rattle.std.specs.Map.{keys_of}
use Rattle.std.proofs.lemmas.List.Elements.{All-head, All-tail, All-weaker}
use Rattle.std.proofs.lemmas.List.Sums.{fold-append}
use Rattle.r9_geom.specs.declared.Rect.{Rect}
use Rattle.r9_geom.specs.Geometry.{height, width}
use Rattle.r9_event.specs.declared.event.rio.Note.{Note}
use Rattle.r9_event.specs.declared.event.rio.Note.TheVariants as note
use Rattle.r9_event.specs.declared.event.rio.Order.{Order}
use Rattle.r9_event.specs.declared.event.rio.Order.TheVariants as order
use Rattle.r9_event.specs.event.Orders.{EndNoConnection, EndsNoConnection}
use Rattle.model_text.specs.text.Map.{lookup}
use Rattle.model_text.specs.map.Ascending.{Ascend}
use Rattle.model_rio.specs.window.Pane.{Pane}
use Rattle.model_files.specs.declared.wctl.Choice.{Choice}
use Rattle.model_rio.specs.rio.Table.{Rio, Table, Window, is_host, window_of}
use Rattle.model_rio.specs.rio.Sound.{IsNested, IsSound, IsSoundRio, IsSoundWindow, window_in}
use Rattle.model_rio.specs.rio.Act.{Act}
use Rattle.model_rio.specs.rio.Act as act
use Rattle.model_rio.specs.rio.Step.{Step}
use Rattle.model_rio.specs.rio.Rio.{rio}
use Rattle.model_rio.proofs.rio.Orders.{acts_keep_connections}
use Rattle.model_draw.specs.draw.World as draw
use Rattle.model_draw.specs.draw.Orders.{carried_out, ordered}
use Rattle.model_world.specs.Desktop.{Desktop, is_as_large, panes_told, stepped}
use Rattle.law_shown.specs.fitting.Fitting.{AllFit, IsSpelled}
use Rattle.law_shown.proofs.shown.Tests.{find-passes, split}
use Rattle.law_shown.proofs.fitting.Acts.{act_fits}
use Rattle.law_shown.proofs.fitting.Lists.{each_found, each_of, each_then}
use Rattle.law_others.specs.orders.Leading.{IsDrawn}
use Rattle.law_others.proofs.orders.Furnished.{finds_display}
use Rattle.law_others.proofs.orders.Leading.{IsLed, led_itself, led_keeps}
use Rattle.law_others.proofs.orders.Desktops.{step_drawn}
use Rattle.model_alone.specs.alone.Lone.{LoneDesktop, noted_alone}
use Rattle.law_others.specs.told.Telling.{IsBeside, Tells, begins, beside, drops, makes, notes_of, rect_in, replaces, small, told_image}
use Rattle.law_others.proofs.told.Standing.{no_host}
use Rattle.law_others.proofs.told.Acts.{IfHosts, Leads, MakesOther, act_leads, led_root, led_to, next_leads}
use Rattle.law_others.specs.sized.Sizes.{IsForSize, sides_of}
use Rattle.law_others.proofs.sized.Acts.{acts_give_size}
use Rattle.law_strangers.specs.followed.Devices.{AreNamesFree, IsDeviceLike}
use Rattle.law_strangers.specs.followed.Following.{SameDesktops, known_size, named_in, named_pane, pane_noted}
use Rattle.law_strangers.proofs.followed.Noted.{IsHeld, all_order, others_more, own_more, pane_after, tells_held}

-- of no window there are no notes
pub notes_none : (notes : List (ℕ × Note)) → notes_of None notes ≡ []
notes_none [] = refl
notes_none (told ∷ notes) = notes_none notes

-- one note more
one_more : (p q : Option Pane) (window : ℕ) (notes : List (ℕ × Note)) (n : Note) → pane_noted (fold pane_noted p (notes_of (Some window) notes)) n ≡ pane_noted (fold pane_noted q (notes_of (Some window) notes)) n
    → fold pane_noted p (notes_of (Some window) (notes ++ (window, n) ∷ [])) ≡ fold pane_noted q (notes_of (Some window) (notes ++ (window, n) ∷ []))
one_more p q window notes n same = all p ∙ same ∙ sym (all q)
  where
    all : (o : Option Pane) → fold pane_noted o (notes_of (Some window) (notes ++ (window, n) ∷ [])) ≡ pane_noted (fold pane_noted o (notes_of (Some window) notes)) n
    all o = ap (fold pane_noted o) (own_more window notes n) ∙ fold-append pane_noted o (notes_of (Some window) notes) (n ∷ [])

-- where a session has no window no order is about one
beside_nothing : (o : Order) → EndsNoConnection o → IsBeside None o
beside_nothing (order.Make at host r name hide depth) ends = refl
beside_nothing (order.Place at p) ends = tt
beside_nothing (order.Replace at host r name keep hidden) ends = refl
beside_nothing (order.Raise at) ends = tt
beside_nothing (order.Lower at) ends = tt
beside_nothing (order.Drop at) ends = refl
beside_nothing (order.Host at fill) ends = refl
beside_nothing (order.Leave client) ends = absurd ends
beside_nothing (order.Size width height) ends = tt

-- ---- what is known of the display

same_sides : (old new : Rect) → is_as_large old new ≡ true → sides_of old ≡ sides_of new
same_sides old new large =
    let parts = split (width old == width new) (height old == height new) large in
    let across = eqb-true (width old) (width new) parts.0 in
    let down = eqb-true (height old) (height new) parts.1 in
    λ i. (across i, down i)

-- the orders are for a size that is known
sizes_known : (sized : Bool) (r : Rect) (orders : List Order) → All (IsForSize (Some (sides_of r))) orders → All (IsForSize (if sized then None else Some (sides_of r))) orders
sizes_known true r orders all = All-weaker (IsForSize (Some (sides_of r))) (IsForSize None) (λ o _. tt) orders all
sizes_known false r orders all = all

module _ (c : ℕ) (Like : Option (ℕ × ℕ) → Option (ℕ × List ℕ) → draw.World → draw.World → Type 0) (Named : draw.World → Table → List (ℕ × Pane) → Type 0) (laws : IsDeviceLike c Like) (names : AreNamesFree Named) where
  abbrev Same : Option ℕ → Desktop → LoneDesktop → Type 0
  Same own s t = SameDesktops Like Named own s t

  -- orders where the session has no window
  all_beside : (size : Option (ℕ × ℕ)) (orders : List Order) (device : draw.World) (b : draw.World) → AllFit device orders → EndNoConnection orders → All (IsForSize size) orders → Like size None device b → Like size None (carried_out device orders) b
  all_beside size [] device b fit ends sizes like = like
  all_beside size (o ∷ orders) device b fit ends sizes like =
      all_beside size orders (ordered device o) b fit.1 (All-tail EndsNoConnection o orders ends) (All-tail (IsForSize size) o orders sizes)
      (laws.beside size None device b like o fit.0 (beside_nothing o (All-head EndsNoConnection o orders ends)) (All-head (IsForSize size) o orders sizes))

  -- what is known of the display after a step was known before it
  later_known : (s : Desktop) (step : Step) (window : Option (ℕ × List ℕ)) (a b : draw.World) → Like (known_size s) window a b → Like (known_size (stepped s step)) window a b
  unfolding stepped
  later_known s step window a b like = by s.sized (is_as_large s.table.r step.table.r) refl like
    where
      by : (sized large : Bool) → is_as_large s.table.r step.table.r ≡ large → Like (if sized then None else Some (sides_of s.table.r)) window a b
          → Like (if sized || not large then None else Some (sides_of step.table.r)) window a b
      by true large is like = like
      by false false is like = laws.forget (Some (sides_of s.table.r)) window a b like
      by false true is like = subst (λ (sides : ℕ × ℕ). Like (Some sides) window a b) (same_sides s.table.r step.table.r is) like

  -- and the step's orders are for that size
  later_sizes : (s : Desktop) (a : Act) (step : Step) → rio s.table a ≡ Ok step → All (IsForSize (known_size (stepped s step))) step.orders
  unfolding stepped
  later_sizes s a step e = sizes_known (s.sized || not (is_as_large s.table.r step.table.r)) step.table.r step.orders (acts_give_size s.table a step e)

  -- what each server's desktop keeps
  record IsKept (s : Desktop) : Type 0 where
    drawn : IsDrawn s
    order : Ascend (keys_of s.panes)
    named : Named s.device s.table s.panes

  all_fit : (s : Desktop) (a : Act) (step : Step) → IsDrawn s → IsSpelled a → rio s.table a ≡ Ok step → AllFit s.device step.orders
  all_fit s a step drawn spelled e = (act_fits s.device s.table a step drawn.sound drawn.orderly drawn.shows spelled (finds_display s.device a drawn.furnished) e).all

  kept_after : (s : Desktop) (a : Act) (step : Step) → IsKept s → IsSpelled a → rio s.table a ≡ Ok step → IsKept (stepped s step)
  unfolding stepped
  kept_after s a step is spelled e = record {
    drawn = (step_drawn (IsLed s) (led_keeps s) s a step (led_itself s is.drawn) spelled e).drawn;
    order = all_order step.notes s.panes is.order;
    named = (names.acts s.device s.table s.panes a step is.drawn.sound is.drawn.orderly (all_fit s a step is.drawn spelled e) is.order is.named e).1;
  }

  -- The window that the session has after a step, where its pane comes from this one before it.
  same_after : (s : Desktop) (t : LoneDesktop) (a : Act) (step : Step) (window : ℕ) (counted : (window == 0) ≡ false) (start : Option Rect) (pane : Option Pane) → IsKept s → IsSpelled a → rio s.table a ≡ Ok step
      → Leads window start step → IsHeld c Like laws (known_size (stepped s step)) window counted start s.device pane t → lookup (fold panes_told s.panes step.notes) window ≡ fold pane_noted pane (notes_of (Some window) step.notes)
      → Same (Some window) (stepped s step) (fold noted_alone t (notes_of (Some window) step.notes))
  unfolding stepped
  same_after s t a step window counted start pane kept spelled e is before shown = record {
    drawn = after.drawn;
    order = after.order;
    names = after.named;
    window = record {
      alone = held.alone ∙ ap (option_map (λ p. (window, p))) (sym shown);
      rect = led_to window start step is ∙ held.rect ∙ ap (option_map (λ (p : Pane). p.known.r)) (sym shown);
      root = led_root window start step is;
      bare = no_host step.table window is.stands.bare;
      counted = counted;
    };
    device = subst (λ (o : Option Pane). Like (known_size (stepped s step)) (named_pane window o) (carried_out s.device step.orders) (fold noted_alone t notes).device) (sym shown) held.like;
  }
    where
      notes : List Note
      notes = notes_of (Some window) step.notes

      after : IsKept (stepped s step)
      after = kept_after s a step kept spelled e

      held : IsHeld c Like laws (known_size (stepped s step)) window counted is.now (carried_out s.device step.orders) (fold pane_noted pane notes) (fold noted_alone t notes)
      held =
          let fit = all_fit s a step kept.drawn spelled e in
          tells_held c Like laws (known_size (stepped s step)) window counted start s.device pane t before is.now step.orders step.notes is.stands.tells fit
          ((names.acts s.device s.table s.panes a step kept.drawn.sound kept.drawn.orderly fit kept.order kept.named e).0 window) (later_sizes s a step e)

  kept_of : (own : Option ℕ) (s : Desktop) (t : LoneDesktop) → Same own s t → IsKept s
  kept_of own s t same = record { drawn = same.drawn; order = same.order; named = same.names }

  -- ---- each act

  -- the act makes no window of the session's serial, and starts no rio in its window
  abbrev pub SparesOwn : Option ℕ → Table → Act → Step → Type 0
  SparesOwn None table a step = Unit {0}
  SparesOwn (Some window) table a step = MakesOther window table a × IfHosts a (is_host step.table window ≡ false)

  pub act_same : (own : Option ℕ) (s : Desktop) (t : LoneDesktop) (a : Act) (step : Step) → Same own s t → IsSpelled a → SparesOwn own s.table a step → rio s.table a ≡ Ok step
      → Same own (stepped s step) (fold noted_alone t (notes_of own step.notes))
  unfolding stepped
  act_same None s t a step same spelled spares e =
      let after = kept_after s a step (kept_of None s t same) spelled e in
      subst (λ (notes : List Note). Same None (stepped s step) (fold noted_alone t notes)) (sym (notes_none step.notes)) (record {
        drawn = after.drawn;
        order = after.order;
        names = after.named;
        window = same.window;
        device =
            all_beside (known_size (stepped s step)) step.orders s.device t.device (all_fit s a step same.drawn spelled e) (acts_keep_connections s.table a step e) (later_sizes s a step e)
            (later_known s step None s.device t.device same.device);
      })
  act_same (Some window) s t a step same spelled spares e =
      same_after s t a step window same.window.counted (rect_in s.table window) (lookup s.panes window) (kept_of (Some window) s t same) spelled e
      (act_leads window s.table a step same.drawn.sound (record { root = same.window.root; bare = same.window.bare }) spares.0 spares.1 e)
      (record { alone = same.window.alone; rect = same.window.rect; like = later_known s step (named_in s (Some window)) s.device t.device same.device })
      (pane_after window step.notes s.panes same.order)

  -- ---- the window comes

  -- what a window's files have does not depend on what was told to none
  fresh_pane : (window : ℕ) (now : Option Rect) (orders : List Order) (notes : List (ℕ × Note)) → Tells window None now orders notes → (r : Rect) → now ≡ Some r → (pane : Option Pane)
      → fold pane_noted pane (notes_of (Some window) notes) ≡ fold pane_noted None (notes_of (Some window) notes)
  fresh_pane window now orders notes begins r is pane = absurd cc
  fresh_pane window now all notes (beside _ orders _ tells o other) r is pane = fresh_pane window now orders notes tells r is pane
  fresh_pane window now orders all (small _ _ notes tells at n little) r is pane = by (window == at) refl (fresh_pane window now orders notes tells r is pane)
    where
      by : (b : Bool) → (window == at) ≡ b → fold pane_noted pane (notes_of (Some window) notes) ≡ fold pane_noted None (notes_of (Some window) notes)
          → fold pane_noted pane (notes_of (Some window) (notes ++ (at, n) ∷ [])) ≡ fold pane_noted None (notes_of (Some window) (notes ++ (at, n) ∷ []))
      by true same before =
          let here : window ≡ at = eqb-true window at same in
          subst (λ (k : ℕ). fold pane_noted pane (notes_of (Some window) (notes ++ (k, n) ∷ [])) ≡ fold pane_noted None (notes_of (Some window) (notes ++ (k, n) ∷ []))) here
          (one_more pane None window notes n (ap (λ (o : Option Pane). pane_noted o n) before))
      by false other before =
          ap (fold pane_noted pane) (others_more window notes at n other) ∙ before ∙ sym (ap (fold pane_noted None) (others_more window notes at n other))
  fresh_pane window now all others (makes orders notes tells number depth name r hide) q is pane = one_more pane None window notes (note.Made number window name r depth) refl
  fresh_pane window now all others (replaces old orders notes tells keep hidden name r) q is pane =
      one_more pane None window notes (told_image keep name r) (ap (λ (o : Option Pane). pane_noted o (told_image keep name r)) (fresh_pane window (Some old) orders notes tells old refl pane))
  fresh_pane window now all others (drops old orders notes tells) q is pane = absurd cc

  -- ---- hosts are windows

  host_given : (table : Table) → IsSound table → (levels host : ℕ) → IsNested table.windows levels host → host ≤ table.serials
  host_given table ok zero host is = omega (arith, is)
  host_given table ok (suc levels) host is = by (window_in table.windows host) refl is
    where
      by : (o : Option Window) → window_in table.windows host ≡ o → IsSomeAnd o (λ w. IsNested table.windows levels w.host) → host ≤ table.serials
      by None at none = absurd none
      by (Some w) at nested =
          let sound = each_found (IsSoundWindow table) (λ (v : Window). v.serial == host) table.windows w (each_of (IsSoundWindow table) table.windows ok.windows) at in
          let given = sound.given in
          let same = eqb-true w.serial host (find-passes (λ (v : Window). v.serial == host) table.windows w at) in
          omega (arith, given, same)

  pub no_later_host : (table : Table) → IsSound table → (window : ℕ) → table.serials < window → is_host table window ≡ false
  no_later_host table ok window later = no_host table window (each_then (IsSoundRio table.windows) (λ rio. (rio.host == window) ≡ false) other (table.root ∷ table.rios) (each_of (IsSoundRio table.windows) (table.root ∷ table.rios) ok.rios))
    where
      other : (rio : Rio) → IsSoundRio table.windows rio → (rio.host == window) ≡ false
      other rio sound = let given = host_given table ok sound.nested.0 rio.host sound.nested.2 in ne_eqb rio.host window (λ same. omega (arith, given, same, later))

  pub new_same : (s : Desktop) (t : LoneDesktop) (options : List Choice) (hide : Bool) (step : Step) (w : Window) → Same None s t → rio s.table (act.New 0 options hide) ≡ Ok step
      → window_of step.table (s.table.serials + 1) ≡ Some w → Same (Some (s.table.serials + 1)) (stepped s step) (fold noted_alone t (notes_of (Some (s.table.serials + 1)) step.notes))
  new_same s t options hide step w same e there =
      let next = s.table.serials + 1 in
      let is = next_leads s.table options hide step same.drawn.sound (no_later_host s.table same.drawn.sound next (omega arith)) e in
      let now : is.now ≡ Some w.r = sym (led_to next None step is) ∙ ap (option_map (λ (v : Window). v.r)) there in
      same_after s t (act.New 0 options hide) step next (ne_eqb next 0 (λ zero. absurd (omega (arith, zero)))) None None (kept_of None s t same) tt e is
      (record { alone = same.window; rect = refl; like = later_known s step None s.device t.device same.device })
      (pane_after next step.notes s.panes same.order ∙ fresh_pane next is.now step.orders step.notes is.stands.tells w.r now (lookup s.panes next))
