-- A walk and an attach of another session that give no reason lead to no file of the session's window.
use Rattle.std.proofs.Common.{◌≡◌, ◌∙◌, ℕ, eqb, ◌==◌, Bool, true, false, cond, not, List, [], ◌∷◌, ◌++◌, Option, Some, None, is_some, Ok, Err, refl, sym, ap, subst, inl, inr}
use Rattle.std.specs.Prelude.{◌⊎◌, All, IfOk, IfSome, ◌&&◌, codes, find, map, if◌then◌else◌}
use Rattle.std.specs.List.{flat_map}
use Rattle.std.specs.Option.{option_map_or}
use Rattle.std.specs.Fmt.{decimal}
use Rattle.std.specs.Map as map
use Rattle.std.specs.Str.{bytes_eq}
use Rattle.std.proofs.lemmas.Bool.{eqb-false, eqb-true}
use Rattle.std.proofs.lemmas.List.Elements.{All-append, All-cons, All-head, All-nil, All-tail}
use Rattle.std.proofs.lemmas.Map.Entries.{All-lookup}
use Rattle.r9_event.specs.declared.event.own.Use.{Use}
use Rattle.model_text.proofs.map.Keys.{eqb-same}
use Rattle.model_text.proofs.map.Maps.{and-here}
use Rattle.model_text.specs.text.Map.{lookup}
use Rattle.model_text.specs.text.Outcome.{Outcome, refuse_if, value_or_refuse}
use Rattle.model_files.specs.wire.Message.{T, Tattach, Twalk, Topen, Twrite, Tversion, Tauth, Tflush, Tcreate, Tread, Tclunk, Tremove, Tstat, Twstat, Rattach, no_fid, no_tag, tag_of_t}
use Rattle.model_rio.specs.rio.Table.{Table, Window, is_host, window_of}
use Rattle.model_rio.specs.rio.Sound.{IsSound, IsSoundWindow}
use Rattle.model_files.specs.declared.tree.Kind.{Kind}
use Rattle.model_files.specs.declared.tree.Kind.TheVariants as kind
use Rattle.model_files.specs.tree.Attach.{attach_of}
use Rattle.model_files.specs.tree.Node.{Node, Owner, OfSession, OfConnection, OfRio, OfWindow, is_directory, qid, row}
use Rattle.model_files.specs.tree.Tree as tree
use Rattle.model_files.specs.tree.Tree.{View, above, check_live, connection_at, files, kinds_in, numbered_in, owned, placed, root_of, walk}
use Rattle.model_world.specs.Session.{Fid, Session, fid_at}
use Rattle.model_world.specs.Desktop.{Desktop}
use Rattle.model_world.specs.Fids.{Done, Left, and_fid, fid_of, is_bound, is_full, left}
use Rattle.model_world.specs.Answer.{is_version}
use Rattle.model_world.specs.Walking.{attach_answer, ctl_of, walk_answer, walk_ended, walk_on, walked}
use Rattle.model_world.specs.Whole.{desktop_for, host_by, view_of}
use Rattle.model_world.proofs.Others.{after_step}
use Rattle.model_alone.specs.alone.Own.{Watched, is_its, only_if, reasons, reasons_from}
use Rattle.model_alone.specs.alone.Uses.{attach_used, if_bound, if_done, is_name_looked_at, message_used, node_used, read_used, step_used, window_at}
use Rattle.law_strangers.proofs.strangers.Late.{IsAway}
use Rattle.law_strangers.proofs.elsewhere.Nodes.{Leads}

-- ---- reasons

nothing_parts : {A : Type 0} (xs ys : List A) → xs ++ ys ≡ [] → (xs ≡ []) × (ys ≡ [])
nothing_parts [] ys none = (refl, none)
nothing_parts (x ∷ xs) ys none = absurd cc

-- no reason of another session's uses, first and then
pub others_parts : (seen : Watched) (xs ys : List Use) → reasons_from false seen (xs ++ ys) ≡ [] → (reasons_from false seen xs ≡ []) × (reasons_from false seen ys ≡ [])
others_parts seen [] ys fine = (refl, fine)
others_parts seen (x ∷ xs) ys fine =
    let parts = nothing_parts (reasons false seen x) (reasons_from false seen (xs ++ ys)) fine in
    let rest = others_parts seen xs ys parts.1 in
    (ap (λ (ns : List ℕ). ns ++ reasons_from false seen xs) parts.0 ∙ rest.0, rest.1)

-- what gives no reason is not the session's window
pub not_its : (seen : Watched) (serial reason : ℕ) (more : List ℕ) → only_if (is_its seen (Some serial)) reason ++ more ≡ [] → seen.window ≡ Some serial → ⊥
not_its seen serial reason more fine is =
    let its : is_its seen (Some serial) ≡ true = ap (λ (o : Option ℕ). option_map_or (λ window. window == serial) o false) is ∙ eqb-same serial in
    let two : only_if true reason ++ more ≡ [] = subst (λ (b : Bool). only_if b reason ++ more ≡ []) its fine in
    cc two

-- what holds of each holds of the one that is found
found_holds : {X : Type 0} (P : X → Type 0) (p : X → Bool) (xs : List X) (x : X) → All P xs → find p xs ≡ Some x → P x
found_holds P p [] x all e = absurd cc
found_holds P p (y ∷ ys) x all e = here (p y) (found_holds P p ys x (All-tail P y ys all)) e
  where
    here : (b : Bool) → (find p ys ≡ Some x → P x) → cond b (Some y) (find p ys) ≡ Some x → P x
    here true later e = let same : y ≡ x = cc in subst P same (All-head P y ys all)
    here false later e = later e

-- ---- files

-- it is away, or it is the session's window in a directory of windows
abbrev pub IsNext : Option ℕ → Node → Type 0
IsNext own node = IsAway own node ⊎ ((node.kind ≡ kind.Listed) × (own ≡ Some node.serial))

-- a window is the session's or not
own_or_not : (own : Option ℕ) (serial : ℕ) → (own ≡ Some serial → ⊥) ⊎ (own ≡ Some serial)
own_or_not None serial = inl (λ is. absurd cc)
own_or_not (Some w) serial = by (eqb w serial) refl
  where
    by : (b : Bool) → eqb w serial ≡ b → (◌≡◌ {A = Option ℕ} (Some w) (Some serial) → ⊥) ⊎ ◌≡◌ {A = Option ℕ} (Some w) (Some serial)
    by true at = inr (ap Some (eqb-true w serial at))
    by false at = inl (λ is. eqb-false w serial at cc)

module _ (own : Option ℕ) (counted : own ≡ Some 0 → ⊥) where
  -- the ctl of a connection that an open makes
  pub ctl_away : (node : Node) (n : ℕ) → IsAway own node → IsAway own (ctl_of node n)
  ctl_away node n away = record { serial = counted; root = away.root }

  -- the root of an attach
  pub root_away : (root : ℕ) → (own ≡ Some root → ⊥) → IsAway own (root_of root)
  root_away root away = by (root == 0) refl
    where
      by : (b : Bool) → (root == 0) ≡ b → IsAway own (root_of root)
      by true at = rw at (record { serial = counted; root = counted })
      by false at = rw at (record { serial = away; root = away })

  module _ (view : View) (home : own ≡ Some view.host → ⊥) (node : Node) (away : IsAway own node) where
    owned_away : (of : Kind) (owner : Owner) → IsAway own (owned view node of owner)
    owned_away of OfSession = record { serial = counted; root = away.root }
    owned_away of OfConnection = record { serial = counted; root = away.root }
    owned_away of OfRio = record { serial = home; root = away.root }
    owned_away of OfWindow = record { serial = away.serial; root = away.root }

    above_away : (of : Kind) → IsAway own (above view node of)
    above_away kind.Connection = owned_away kind.Draw (row kind.Draw).owner
    above_away kind.Listed = owned_away kind.Wsys (row kind.Wsys).owner
    above_away _ = root_away node.root away.root

    abbrev Next : List ℕ × Node → Type 0
    Next file = IsNext own file.1

    kinds_next : (ks : List Kind) → All Next (map (λ k. ((row k).name, placed view node k)) ks)
    kinds_next [] = All-nil Next
    kinds_next (k ∷ ks) = All-cons Next ((row k).name, placed view node k) (map (λ j. ((row j).name, placed view node j)) ks) (inl (owned_away k (row k).owner)) (kinds_next ks)

    abbrev named : ℕ × Node → List ℕ × Node
    named entry = (decimal entry.0, entry.1)

    connections_next : (ns : List ℕ) → All Next (map named (map (λ n. (n, connection_at node n)) ns))
    connections_next [] = All-nil Next
    connections_next (n ∷ ns) = All-cons Next (decimal n, connection_at node n) (map named (map (λ n. (n, connection_at node n)) ns)) (inl (record { serial = counted; root = away.root })) (connections_next ns)

    windows_next : (ws : List (ℕ × ℕ)) → All Next (map named (map (λ w. (w.0, tree.window_at node w.1)) ws))
    windows_next [] = All-nil Next
    windows_next (w ∷ ws) = All-cons Next (decimal w.0, tree.window_at node w.1) (map named (map (λ w. (w.0, tree.window_at node w.1)) ws)) (by (own_or_not own w.1)) (windows_next ws)
      where
        by : (own ≡ Some w.1 → ⊥) ⊎ (own ≡ Some w.1) → IsNext own (tree.window_at node w.1)
        by (inl other) = inl (record { serial = other; root = away.root })
        by (inr is) = inr (refl, is)

    numbered_next : (of : Kind) → All Next (map named (numbered_in view node of))
    numbered_next kind.Draw = connections_next view.connections
    numbered_next kind.Wsys = windows_next view.windows
    numbered_next _ = All-nil Next

    files_next : All Next (files view node)
    unfolding files
    files_next = All-append Next (map (λ k. ((row k).name, placed view node k)) (kinds_in node.kind)) (map named (numbered_in view node node.kind)) (kinds_next (kinds_in node.kind)) (numbered_next node.kind)

    found_next : (o : Option Node) → IfSome o (IsNext own) → IfOk (value_or_refuse o 34) (IsNext own)
    found_next None found = tt
    found_next (Some next) found = found

    walk_next : (name : List ℕ) → IfOk (walk view node name) (IsNext own)
    unfolding walk
    walk_next name =
        after_step (IsNext own) (check_live view node) _ (λ _ _.
        after_step (IsNext own) (refuse_if (not (is_directory node)) 35) _ (λ _ _.
        either (bytes_eq name (codes "..")) (inl (above_away node.kind)) (found_next (map.lookup (bytes_eq name) (files view node)) (All-lookup (IsNext own) (bytes_eq name) (files view node) files_next))))
      where
        either : (b : Bool) → IsNext own (above view node node.kind) → IfOk (value_or_refuse (map.lookup (bytes_eq name) (files view node)) 34) (IsNext own)
            → IfOk (if b then Ok (above view node node.kind) else value_or_refuse (map.lookup (bytes_eq name) (files view node)) 34) (IsNext own)
        either true up down = up
        either false up down = down

  -- the rio that a node has to do with runs not in the session's window, where that hosts none
  host_away : (table : Table) → IsSound table → ((window : ℕ) → own ≡ Some window → is_host table window ≡ false) → (node : Node) (of : Kind) → (own ≡ Some node.serial → ⊥) → own ≡ Some (host_by table node of) → ⊥
  host_away table sound bare node kind.Wsys away is = away is
  host_away table sound bare node kind.Screen away is = away is
  host_away table sound bare node kind.Snarf away is = away is
  host_away table sound bare node _ away is = by (window_of table node.serial) refl is
    where
      by : (o : Option Window) → window_of table node.serial ≡ o → own ≡ Some (option_map_or (λ w. w.host) o 0) → ⊥
      by None at is = counted is
      by (Some v) at is =
          let housed : is_host table v.host ≡ true = (found_holds (IsSoundWindow table) (λ (w : Window). w.serial == node.serial) table.windows v sound.windows at).housed in
          let two : true ≡ false = sym housed ∙ bare v.host is in cc two

-- ---- whole walks

module _ (seen : Watched) (counted : seen.window ≡ Some 0 → ⊥) where
  -- the session's window in a directory of windows is a reason
  no_window : (node : Node) → node.kind ≡ kind.Listed → seen.window ≡ Some node.serial → reasons_from false seen (step_used node) ≡ [] → ⊥
  no_window node listed is fine =
      let two : reasons_from false seen (node_used node kind.Listed) ≡ [] = subst (λ (k : Kind). reasons_from false seen (node_used node k) ≡ []) listed fine in
      not_its seen node.serial 5 [] two is

  module _ (view : Node → View) (home : (node : Node) → IsAway seen.window node → seen.window ≡ Some (view node).host → ⊥) where
    walked_away : (names : List (List ℕ)) (node : Node) → IsAway seen.window node → reasons_from false seen (flat_map step_used (walked view node names).0) ≡ [] → All (IsAway seen.window) (walked view node names).0
    walked_away [] node away fine = All-nil (IsAway seen.window)
    walked_away (name ∷ names) node away fine = by (walk (view node) node name) (walk_next seen.window counted (view node) (home node away) node away name) (λ next is. walked_away names next is) fine
      where
        by : (o : Outcome Node) → IfOk o (IsNext seen.window) → ((next : Node) → IsAway seen.window next → reasons_from false seen (flat_map step_used (walked view next names).0) ≡ [] → All (IsAway seen.window) (walked view next names).0)
            → reasons_from false seen (flat_map step_used (walk_on o (λ next. walked view next names)).0) ≡ [] → All (IsAway seen.window) (walk_on o (λ next. walked view next names)).0
        by (Err n) next_is more fine = All-nil (IsAway seen.window)
        by (Ok next) next_is more fine = decide next_is
          where
            parts : (reasons_from false seen (step_used next) ≡ []) × (reasons_from false seen (flat_map step_used (walked view next names).0) ≡ [])
            parts = others_parts seen (step_used next) (flat_map step_used (walked view next names).0) fine

            decide : IsNext seen.window next → All (IsAway seen.window) (next ∷ (walked view next names).0)
            decide (inl is) = All-cons (IsAway seen.window) next (walked view next names).0 is (more next is parts.1)
            decide (inr window) = absurd (no_window next window.0 window.1 parts.0)

  -- ---- messages

  module _ (d : ℕ) (s : Desktop) (sound : IsSound s.table) (bare : (window : ℕ) → seen.window ≡ Some window → is_host s.table window ≡ false) where
    home : (connections : List ℕ) (node : Node) → IsAway seen.window node → seen.window ≡ Some ((desktop_for d).view s connections node).host → ⊥
    unfolding view_of
    home connections node away is = host_away seen.window counted s.table sound bare node node.kind away.serial is

    ended_fine : (session : Session) (tag fid newfid : ℕ) (node : Node) (w : List Node × Option ℕ) (used : List Use) → reasons_from false seen (if_done (walk_ended session tag fid newfid node w) used) ≡ [] → (w.0 ≡ []) ⊎ (reasons_from false seen used ≡ [])
    ended_fine session tag fid newfid node (nodes, None) used fine = inr fine
    ended_fine session tag fid newfid node ([], Some n) used fine = inl refl
    ended_fine session tag fid newfid node (next ∷ nodes, Some n) used fine = inr fine

    bound_is : (session : Session) (number : ℕ) (fid : Fid) → fid_of session number ≡ Ok fid → lookup session.fids number ≡ Some fid
    bound_is session number fid is = by (lookup session.fids number) is
      where
        by : (o : Option Fid) → value_or_refuse o 32 ≡ Ok fid → o ≡ Some fid
        by (Some f) is = cc
        by None is = absurd cc

    walk_leads : (session : Session) (tag fid newfid : ℕ) (names : List (List ℕ)) (from : Fid) → fid_of session fid ≡ Ok from → IsAway seen.window from.node
        → is_some from.mode ≡ false → (not (newfid == fid) && is_bound session newfid) ≡ false → (not (newfid == fid) && is_full session) ≡ false
        → reasons_from false seen (if_done (walk_answer (desktop_for d) session s tag fid newfid names) (if_bound session fid (λ f. flat_map step_used (walked ((desktop_for d).view s session.connections) f.node names).0))) ≡ []
        → All (IsAway seen.window) (walked ((desktop_for d).view s session.connections) from.node names).0
    unfolding walk_answer
    walk_leads session tag fid newfid names from is away closed free room fine = by (ended_fine session tag fid newfid from.node (walked view from.node names) (flat_map step_used (walked view from.node names).0) here)
      where
        view : Node → View
        view = (desktop_for d).view s session.connections

        answer : walk_answer (desktop_for d) session s tag fid newfid names ≡ walk_ended session tag fid newfid from.node (walked view from.node names)
        answer = rw (is, closed, free, room) refl

        here : reasons_from false seen (if_done (walk_ended session tag fid newfid from.node (walked view from.node names)) (flat_map step_used (walked view from.node names).0)) ≡ []
        here =
            subst (λ (o : Option Fid). reasons_from false seen (if_done (walk_ended session tag fid newfid from.node (walked view from.node names)) (option_map_or (λ f. flat_map step_used (walked view f.node names).0) o [])) ≡ []) (bound_is session fid from is)
            (subst (λ (o : Outcome Done). reasons_from false seen (if_done o (if_bound session fid (λ f. flat_map step_used (walked view f.node names).0))) ≡ []) answer fine)

        by : ((walked view from.node names).0 ≡ []) ⊎ (reasons_from false seen (flat_map step_used (walked view from.node names).0) ≡ []) → All (IsAway seen.window) (walked view from.node names).0
        by (inl none) = subst (All (IsAway seen.window)) (sym none) (All-nil (IsAway seen.window))
        by (inr quiet) = walked_away view (home session.connections) names from.node away quiet

    -- the window to which the attach of a fid led is known still
    abbrev pub IsKnownStill : (after : Session) → Session → T → Type 0
    IsKnownStill after session (Tattach tag fid afid uname aname) =
        (l : Left Desktop) → attach_answer (desktop_for d) session s tag fid afid aname ≡ Ok l → window_at after fid ≡ window_at l.session fid
    IsKnownStill after session _ = Unit {0}

    attach_leads : (session after : Session) (table : Table) (tag fid afid : ℕ) (aname : List ℕ)
        → ((l : Left Desktop) → attach_answer (desktop_for d) session s tag fid afid aname ≡ Ok l → window_at after fid ≡ window_at l.session fid)
        → reasons_from false seen (if is_name_looked_at session fid afid then attach_used table aname (window_at after fid) ∷ [] else []) ≡ []
        → is_name_looked_at session fid afid ≡ true → (root : Desktop × ℕ) → (desktop_for d).attached s (attach_of aname) ≡ Ok root → IsAway seen.window (root_of root.1)
    unfolding attach_answer
    attach_leads session after table tag fid afid aname known fine looked root is = by (root.1 == 0) refl
      where
        parts : (a b c : Bool) → (a && not b && not c) ≡ true → (not a ≡ false) × (b ≡ false) × (c ≡ false)
        parts true false false e = (refl, refl, refl)
        parts false b c e = absurd cc
        parts true true c e = absurd cc
        parts true false true e = absurd cc

        tests : (not (afid == no_fid) ≡ false) × (is_bound session fid ≡ false) × (is_full session ≡ false)
        tests = parts (afid == no_fid) (is_bound session fid) (is_full session) looked

        left_session : Session
        left_session = and_fid session fid (fid_at (root_of root.1))

        there : window_at after fid ≡ window_at left_session fid
        there = known (left (left_session, root.0) (Rattach tag (qid (root_of root.1)))) (rw (tests.0, tests.1, tests.2, is) refl)

        reason : only_if (is_its seen (window_at left_session fid)) 3 ++ [] ≡ []
        reason =
            subst (λ (w : Option ℕ). only_if (is_its seen w) 3 ++ [] ≡ []) there
            (subst (λ (b : Bool). reasons_from false seen (if b then attach_used table aname (window_at after fid) ∷ [] else []) ≡ []) looked fine)

        bound : window_at left_session fid ≡ (if (root_of root.1).root == 0 then None else Some (root_of root.1).root)
        bound = ap (λ (o : Option Fid). option_map_or (λ f. if f.node.root == 0 then None else Some f.node.root) o None) (and-here session.fids fid (fid_at (root_of root.1)))

        by : (b : Bool) → (root.1 == 0) ≡ b → IsAway seen.window (root_of root.1)
        by true at = rw at (record { serial = counted; root = counted })
        by false at =
            let given : window_at left_session fid ≡ Some root.1 = bound ∙ rw (at, at) refl in
            root_away seen.window counted root.1 (not_its seen root.1 3 [] (subst (λ (w : Option ℕ). only_if (is_its seen w) 3 ++ [] ≡ []) given reason))

    used : (a n : Bool) → not a ≡ false → n ≡ false → (xs : List Use) → reasons_from false seen (if a && not n then xs else []) ≡ [] → reasons_from false seen xs ≡ []
    used true false x y xs fine = fine
    used false n x y xs fine = absurd cc
    used true true x y xs fine = absurd cc

    -- What a message of another session leads to that gives no reason.
    pub message_leads : (session after : Session) (table : Table) (mark : Option ℕ) (m : T) → ((number : ℕ) (fid : Fid) → fid_of session number ≡ Ok fid → IsAway seen.window fid.node) → IsKnownStill after session m
        → (not (is_version m) && (tag_of_t m == no_tag)) ≡ false → (not (is_version m) && not session.agreed) ≡ false → reasons_from false seen (read_used d session s after table mark (Some m)) ≡ []
        → Leads (desktop_for d) (IsAway seen.window) (ctl_away seen.window counted) session s m
    message_leads session after table mark (Tattach tag fid afid uname aname) away known tagged agreed fine = λ looked root is.
        attach_leads session after table tag fid afid aname known (used session.agreed (tag == no_tag) agreed tagged (message_used d session s after table mark (Tattach tag fid afid uname aname)) fine) looked root is
    message_leads session after table mark (Twalk tag fid newfid names) away known tagged agreed fine = λ from is closed free room.
        walk_leads session tag fid newfid names from is (away fid from is) closed free room (used session.agreed (tag == no_tag) agreed tagged (message_used d session s after table mark (Twalk tag fid newfid names)) fine)
    message_leads session after table mark (Topen tag fid mode) away known tagged agreed fine = tt
    message_leads session after table mark (Twrite tag fid offset bytes) away known tagged agreed fine = tt
    message_leads session after table mark (Tversion tag msize version) away known tagged agreed fine = tt
    message_leads session after table mark (Tauth tag afid uname aname) away known tagged agreed fine = tt
    message_leads session after table mark (Tflush tag oldtag) away known tagged agreed fine = tt
    message_leads session after table mark (Tcreate tag fid name perm mode) away known tagged agreed fine = tt
    message_leads session after table mark (Tread tag fid offset count) away known tagged agreed fine = tt
    message_leads session after table mark (Tclunk tag fid) away known tagged agreed fine = tt
    message_leads session after table mark (Tremove tag fid) away known tagged agreed fine = tt
    message_leads session after table mark (Tstat tag fid) away known tagged agreed fine = tt
    message_leads session after table mark (Twstat tag fid stat) away known tagged agreed fine = tt
