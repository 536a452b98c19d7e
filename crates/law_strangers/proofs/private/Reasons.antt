-- Where an event gives no reason, what draw messages name is what a session that is alone may name.
use Rattle.std.proofs.Common.{◌≡◌, ◌∙◌, ◌<◌, arith, ℕ, ◌==◌, Bool, true, false, eqb, List, [], ◌∷◌, ◌++◌, find, Option, Some, None, refl, sym, ap, subst, eqb-true}
use Rattle.std.specs.Prelude.{All, if◌then◌else◌, not}
use Rattle.std.specs.List.{flat_map, list_any}
use Rattle.std.specs.Map.{keys_of}
use Rattle.std.specs.Option.{option_map, option_map_or}
use Rattle.std.specs.Str.{bytes_eq}
use Rattle.std.proofs.lemmas.List.Elements.{All-cons, All-head, All-nil, All-tail}
use Rattle.std.proofs.lemmas.Slice.Eq.{bytes_eq-Decides}
use Rattle.r9_event.specs.declared.event.own.Use.{Use}
use Rattle.r9_event.specs.declared.event.own.Use.TheVariants as uses
use Rattle.model_text.specs.text.Map.{lookup}
use Rattle.model_text.specs.map.Ascending.{AreAbove, Ascend}
use Rattle.model_text.proofs.map.Keys.{eqb-same, not_key}
use Rattle.model_rio.specs.window.Pane.{Pane}
use Rattle.model_draw_parts.specs.dmsg.Message.{Message, UpA, UpN, LowN, UpS}
use Rattle.model_draw.specs.draw.Making.{flag}
use Rattle.model_world.specs.Desktop.{Desktop}
use Rattle.model_alone.specs.alone.Own.{Watched, after_use, is_its, only_if, reasons, reasons_from}
use Rattle.model_alone.specs.alone.Uses.{images_named, look_used, shared_used, window_named}
use Rattle.law_strangers.specs.followed.Devices.{KeepsWithin, LeavesName, SharesNothing}
use Rattle.law_strangers.specs.followed.Following.{named_in, named_pane}

-- ---- lists of uses

-- an attach makes known a window, other uses do not
abbrev pub IsNoAttach : Use → Type 0
IsNoAttach (uses.Attach fresh window root) = ⊥
IsNoAttach _ = Unit {0}

seen_same : (u : Use) (seen : Watched) (own : Bool) → IsNoAttach u → after_use own seen u ≡ seen
seen_same (uses.Attach fresh window root) seen own quiet = absurd quiet
seen_same (uses.Name window) seen own quiet = either own
  where
    either : (own : Bool) → after_use own seen (uses.Name window) ≡ seen
    either true = refl
    either false = refl
seen_same (uses.Walk window) seen own quiet = either own
  where
    either : (own : Bool) → after_use own seen (uses.Walk window) ≡ seen
    either true = refl
    either false = refl
seen_same (uses.Host window) seen own quiet = either own
  where
    either : (own : Bool) → after_use own seen (uses.Host window) ≡ seen
    either true = refl
    either false = refl
seen_same (uses.Own reason) seen own quiet = either own
  where
    either : (own : Bool) → after_use own seen (uses.Own reason) ≡ seen
    either true = refl
    either false = refl

nothing_parts : {A : Type 0} (xs ys : List A) → xs ++ ys ≡ [] → (xs ≡ []) × (ys ≡ [])
nothing_parts [] ys none = (refl, none)
nothing_parts (x ∷ xs) ys none = absurd cc

-- no reason of uses, first and then
pub fine_parts : (own : Bool) (seen : Watched) (xs ys : List Use) → All IsNoAttach xs → reasons_from own seen (xs ++ ys) ≡ [] → (reasons_from own seen xs ≡ []) × (reasons_from own seen ys ≡ [])
fine_parts own seen [] ys quiet fine = (refl, fine)
fine_parts own seen (x ∷ xs) ys quiet fine =
    let same = seen_same x seen own (All-head IsNoAttach x xs quiet) in
    let parts = nothing_parts (reasons own seen x) (reasons_from own (after_use own seen x) (xs ++ ys)) fine in
    let rest = fine_parts own seen xs ys (All-tail IsNoAttach x xs quiet) (subst (λ (w : Watched). reasons_from own w (xs ++ ys) ≡ []) same parts.1) in
    (ap (λ (ns : List ℕ). ns ++ reasons_from own (after_use own seen x) xs) parts.0 ∙ subst (λ (w : Watched). reasons_from own w xs ≡ []) (sym same) rest.0, rest.1)

-- ---- a draw message

no_attach : (panes : List (ℕ × Pane)) (m : Message) → All IsNoAttach (look_used panes m)
no_attach panes m = by (list_any (λ id. id == 0) (images_named m)) m
  where
    one : (u : Use) → IsNoAttach u → All IsNoAttach (u ∷ [])
    one u is = All-cons IsNoAttach u [] is (All-nil IsNoAttach)

    either : (b : Bool) → All IsNoAttach (if b then uses.Own 8 ∷ [] else [])
    either true = one (uses.Own 8) tt
    either false = All-nil IsNoAttach

    shared : (m : Message) → All IsNoAttach (shared_used panes m)
    shared (UpA id imageid fillid public) = either (flag public)
    shared (UpN id tied name) = one (uses.Own 8) tt
    shared (LowN id name) = one (uses.Name (window_named panes name)) tt
    shared (UpS id chan) = one (uses.Own 8) tt
    shared _ = All-nil IsNoAttach

    by : (b : Bool) (m : Message) → All IsNoAttach ((if b then uses.Own 7 ∷ [] else []) ++ shared_used panes m)
    by true m = All-cons IsNoAttach (uses.Own 7) (shared_used panes m) tt (shared m)
    by false m = shared m

-- no reason of messages is none of each
pub each_fine : (own : Bool) (seen : Watched) (panes : List (ℕ × Pane)) (ms : List Message) → reasons_from own seen (flat_map (look_used panes) ms) ≡ []
    → All (λ m. reasons_from own seen (look_used panes m) ≡ []) ms
each_fine own seen panes [] fine = All-nil (λ m. reasons_from own seen (look_used panes m) ≡ [])
each_fine own seen panes (m ∷ ms) fine =
    let parts = fine_parts own seen (look_used panes m) (flat_map (look_used panes) ms) (no_attach panes m) fine in
    All-cons (λ m. reasons_from own seen (look_used panes m) ≡ []) m ms parts.0 (each_fine own seen panes ms parts.1)

-- ---- names of windows

-- what is found is above what all keys are above
found_above : (n : ℕ) (panes : List (ℕ × Pane)) (serial : ℕ) (p : Pane) → AreAbove n (keys_of panes) → lookup panes serial ≡ Some p → n < serial
found_above n [] serial p above is = absurd cc
found_above n (e ∷ es) serial p above is = by (eqb e.0 serial) refl is (found_above n es serial p above.1)
  where
    by : (b : Bool) → eqb e.0 serial ≡ b → (if b then Some e.1 else lookup es serial) ≡ Some p → (lookup es serial ≡ Some p → n < serial) → n < serial
    by true at is more = let same = eqb-true e.0 serial at in let first = above.0 in omega (arith, same, first)
    by false at is more = more is

-- a pane of a name, by its window's serial
pub named_found : (panes : List (ℕ × Pane)) (name : List ℕ) (serial : ℕ) → Ascend (keys_of panes) → window_named panes name ≡ Some serial
    → (p : Pane) × (lookup panes serial ≡ Some p) × (p.known.name ≡ name)
named_found panes name serial order is = by panes order is
  where
    Found : List (ℕ × Pane) → Type 0
    Found panes = (p : Pane) × (lookup panes serial ≡ Some p) × (p.known.name ≡ name)

    by : (panes : List (ℕ × Pane)) → Ascend (keys_of panes) → window_named panes name ≡ Some serial → Found panes
    by [] order is = absurd cc
    by (e ∷ es) order is = here (bytes_eq e.1.known.name name) refl (by es order.1) is
      where
        here : (b : Bool) → bytes_eq e.1.known.name name ≡ b → (window_named es name ≡ Some serial → Found es) → option_map (λ entry. entry.0) (if b then Some e else find (λ entry. bytes_eq entry.1.known.name name) es) ≡ Some serial
            → Found (e ∷ es)
        here true same more is =
            let at : e.0 ≡ serial = cc in
            (e.1, ap (λ (b : Bool). if b then Some e.1 else lookup es serial) (subst (λ (n : ℕ). eqb e.0 n ≡ true) at (eqb-same e.0)), (bytes_eq-Decides e.1.known.name name).0 same)
        here false same more is =
            let rest = more is in
            (rest.0, ap (λ (b : Bool). if b then Some e.1 else lookup es serial) (not_key e.0 serial (λ at. (let above = found_above e.0 es serial rest.0 order.0 rest.1 in omega (arith, above, at)))) ∙ rest.1, rest.2)

-- a name that some pane has is found
pub named_there : (panes : List (ℕ × Pane)) (serial : ℕ) (p : Pane) → lookup panes serial ≡ Some p → (n : ℕ) × (window_named panes p.known.name ≡ Some n)
named_there [] serial p is = absurd cc
named_there (e ∷ es) serial p is = by (eqb e.0 serial) is (named_there es serial p)
  where
    found : (b : Bool) → bytes_eq e.1.known.name p.known.name ≡ b → (n : ℕ) × (window_named es p.known.name ≡ Some n) → (n : ℕ) × (window_named (e ∷ es) p.known.name ≡ Some n)
    found true same rest = (e.0, ap (λ (b : Bool). option_map (λ (entry : ℕ × Pane). entry.0) (if b then Some e else find (λ entry. bytes_eq entry.1.known.name p.known.name) es)) same)
    found false same rest = (rest.0, ap (λ (b : Bool). option_map (λ (entry : ℕ × Pane). entry.0) (if b then Some e else find (λ entry. bytes_eq entry.1.known.name p.known.name) es)) same ∙ rest.1)

    by : (b : Bool) → (if b then Some e.1 else lookup es serial) ≡ Some p → (lookup es serial ≡ Some p → (n : ℕ) × (window_named es p.known.name ≡ Some n)) → (n : ℕ) × (window_named (e ∷ es) p.known.name ≡ Some n)
    by true is more =
        let at : e.1 ≡ p = cc in
        let same : bytes_eq e.1.known.name p.known.name ≡ true = (bytes_eq-Decides e.1.known.name p.known.name).1 (ap (λ (q : Pane). q.known.name) at) in
        (e.0, ap (λ (b : Bool). option_map (λ (entry : ℕ × Pane). entry.0) (if b then Some e else find (λ entry. bytes_eq entry.1.known.name p.known.name) es)) same)
    by false is more = found (bytes_eq e.1.known.name p.known.name) refl (more is)

-- the window is the session's
its_own : (seen : Watched) (o : Option ℕ) → is_its seen o ≡ true → (n : ℕ) × (o ≡ Some n) × (seen.window ≡ Some n)
its_own seen None is = absurd cc
its_own seen (Some n) is = (n, refl, by seen.window is)
  where
    by : (o : Option ℕ) → option_map_or (λ window. window == n) o false ≡ true → o ≡ Some n
    by None is = absurd cc
    by (Some w) is = ap Some (eqb-true w n is)

none_only : (b : Bool) (reason : ℕ) → only_if b reason ++ [] ≡ [] → b ≡ false
none_only true reason none = absurd cc
none_only false reason none = refl

not_true : (b : Bool) → not b ≡ false → b ≡ true
not_true true is = refl
not_true false is = absurd cc

module _ (s : Desktop) (seen : Watched) (order : Ascend (keys_of s.panes)) where
  -- a message of the session itself
  pub own_message : (m : Message) → reasons_from true seen (look_used s.panes m) ≡ [] → KeepsWithin (named_in s seen.window) m
  own_message m fine = record { images = images (list_any (λ id. id == 0) (images_named m)) fine; names = names m (rest (list_any (λ id. id == 0) (images_named m)) fine) }
    where
      images : (b : Bool) → reasons_from true seen ((if b then uses.Own 7 ∷ [] else []) ++ shared_used s.panes m) ≡ [] → b ≡ false
      images true fine = absurd cc
      images false fine = refl

      rest : (b : Bool) → reasons_from true seen ((if b then uses.Own 7 ∷ [] else []) ++ shared_used s.panes m) ≡ [] → reasons_from true seen (shared_used s.panes m) ≡ []
      rest true fine = absurd cc
      rest false fine = fine

      public_off : (b : Bool) → reasons_from true seen (if b then uses.Own 8 ∷ [] else []) ≡ [] → b ≡ false
      public_off true fine = absurd cc
      public_off false fine = refl

      names : (m : Message) → reasons_from true seen (shared_used s.panes m) ≡ [] → SharesNothing (named_in s seen.window) m
      names (UpA id imageid fillid public) fine = public_off (flag public) fine
      names (UpN id tied name) fine = absurd cc
      names (LowN id name) fine =
          let its = its_own seen (window_named s.panes name) (not_true (is_its seen (window_named s.panes name)) (none_only (not (is_its seen (window_named s.panes name))) 8 fine)) in
          let found = named_found s.panes name its.0 order its.1 in
          (its.0, ap (named_in s) its.2 ∙ ap (named_pane its.0) found.1 ∙ ap (λ (n : List ℕ). Some (its.0, n)) found.2)
      names (UpS id chan) fine = absurd cc
      names _ fine = tt

  -- a message of another session, where no two windows have one name
  module _ (apart : (m n : ℕ) (p q : Pane) → lookup s.panes m ≡ Some p → lookup s.panes n ≡ Some q → p.known.name ≡ q.known.name → m ≡ n) where
    pub others_message : (m : Message) → reasons_from false seen (look_used s.panes m) ≡ [] → LeavesName (named_in s seen.window) m
    others_message m fine = names m (rest (list_any (λ id. id == 0) (images_named m)) fine)
      where
        rest : (b : Bool) → reasons_from false seen ((if b then uses.Own 7 ∷ [] else []) ++ shared_used s.panes m) ≡ [] → reasons_from false seen (shared_used s.panes m) ≡ []
        rest true fine = fine
        rest false fine = fine

        its : (own : Option ℕ) (serial : ℕ) (name : List ℕ) → named_in s own ≡ Some (serial, name) → (p : Pane) × (own ≡ Some serial) × (lookup s.panes serial ≡ Some p) × (p.known.name ≡ name)
        its None serial name is = absurd cc
        its (Some w) serial name is = by (lookup s.panes w) refl is
          where
            by : (o : Option Pane) → lookup s.panes w ≡ o → named_pane w o ≡ Some (serial, name) → (p : Pane) × (Some w ≡ Some serial) × (lookup s.panes serial ≡ Some p) × (p.known.name ≡ name)
            by None at is = absurd cc
            by (Some p) at is =
                let both : ◌≡◌ {A = ℕ × List ℕ} (w, p.known.name) (serial, name) = cc in
                let one : w ≡ serial = ap (λ (x : ℕ × List ℕ). x.0) both in
                (p, ap Some one, subst (λ (n : ℕ). lookup s.panes n ≡ Some p) one at, ap (λ (x : ℕ × List ℕ). x.1) both)

        names : (m : Message) → reasons_from false seen (shared_used s.panes m) ≡ [] → LeavesName (named_in s seen.window) m
        names (LowN id name) fine = λ serial is.
            let own = its seen.window serial name is in
            let there = named_there s.panes serial own.0 own.2 in
            let named : window_named s.panes name ≡ Some there.0 = ap (window_named s.panes) (sym own.3) ∙ there.1 in
            let found = named_found s.panes name there.0 order named in
            let same : there.0 ≡ serial = apart there.0 serial found.0 own.0 found.1 own.2 (found.2 ∙ sym own.3) in
            let is_not : is_its seen (window_named s.panes name) ≡ false = none_only (is_its seen (window_named s.panes name)) 4 fine in
            let is_it : is_its seen (Some serial) ≡ true = ap (λ (o : Option ℕ). option_map_or (λ window. window == serial) o false) own.1 ∙ eqb-same serial in
            absurd (let two : true ≡ false = sym is_it ∙ ap (is_its seen) (sym (named ∙ ap Some same)) ∙ is_not in cc)
        names (UpA id imageid fillid public) fine = tt
        names (UpN id tied name) fine = tt
        names (UpS id chan) fine = tt
        names _ fine = tt
