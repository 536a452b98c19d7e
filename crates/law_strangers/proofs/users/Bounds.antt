-- The fids of sessions tell of no window that is still to be made.
use Rattle.std.proofs.Common.{◌≡◌, ℕ, zero, suc, ◌==◌, ◌≤◌, Bool, true, false, not, List, [], ◌∷◌, ◌++◌, Option, Some, None, is_some, Ok, Err, refl, sym, subst, arith, eqb-true}
use Rattle.std.specs.Prelude.{All, IfOk, IfSome, IsSomeAnd, ◌&&◌, codes, map, if◌then◌else◌}
use Rattle.std.specs.Option.{option_map, option_map_or}
use Rattle.std.specs.Fmt.{decimal}
use Rattle.std.specs.Map as map
use Rattle.std.specs.Str.{bytes_eq}
use Rattle.std.proofs.lemmas.List.Elements.{All-append, All-cons, All-head, All-nil, All-tail, All-weaker}
use Rattle.std.proofs.lemmas.Map.Entries.{All-lookup}
use Rattle.model_text.specs.text.Map.{is_key, lookup}
use Rattle.model_text.specs.text.Outcome.{Outcome, ◌>>=◌, refuse_if, value_or_refuse}
use Rattle.model_files.specs.mouse.Queue.{answer_text}
use Rattle.model_files.specs.console.Console as console
use Rattle.model_rio.specs.window.Heard.{wctl_answer, wctl_text}
use Rattle.model_files.specs.wire.Message.{T, Tattach, Twalk, Topen, Twrite, Tversion, Tauth, Tflush, Tcreate, Tread, Tclunk, Tremove, Tstat, Twstat, no_fid, no_tag}
use Rattle.model_files.specs.wire.Reading.{message_of}
use Rattle.model_rio.specs.rio.Table.{Rio, Table, Window, is_host, made_in, rio_of, window_of, windows_in}
use Rattle.model_rio.specs.rio.Act.{Act}
use Rattle.model_rio.specs.rio.Step.{Step}
use Rattle.model_rio.specs.rio.Rio.{rio}
use Rattle.model_rio.specs.rio.Sound.{IsNested, IsSound, IsSoundRio, IsSoundWindow}
use Rattle.model_files.specs.declared.tree.Kind.{Kind}
use Rattle.model_files.specs.declared.tree.Kind.TheVariants as kind
use Rattle.model_files.specs.tree.Attach.{Attach, Whole, Existing, Fresh, Unknown, attach_of}
use Rattle.model_files.specs.tree.Node.{Node, Owner, OfSession, OfConnection, OfRio, OfWindow, is_directory, row}
use Rattle.model_files.specs.tree.Tree as tree
use Rattle.model_files.specs.tree.Tree.{View, above, check_live, connection_at, files, kinds_in, numbered_in, owned, placed, root_of, walk}
use Rattle.model_world.specs.Session.{Fid, Session, Wait}
use Rattle.model_world.specs.Outside.{Outside}
use Rattle.model_world.specs.Desktop.{Desktop, stepped}
use Rattle.model_world.specs.Fids.{Left, fid_of, is_bound, is_full}
use Rattle.model_world.specs.Reading.{Given, given_now}
use Rattle.model_world.specs.Waiting.{answered_or, awaited, first_of, given_or_refused, one_answered, wait_answer}
use Rattle.model_world.specs.Answer.{Reads, answer, answer_read, taking}
use Rattle.model_world.specs.Walking.{attach_answer, ctl_of, walk_on, walked}
use Rattle.model_world.specs.Whole as whole
use Rattle.model_world.specs.Whole.{desktop_for, host_by, serial_of, view_of, window_made}
use Rattle.model_world.proofs.Others.{after_step}
use Rattle.law_likeness.proofs.agreement.Keeping.{all-with}
use Rattle.model_alone.specs.alone.Uses.{is_name_looked_at}
use Rattle.law_shown.proofs.fitting.Lists.{Each, each_filter, each_found, each_of, fold_each}
use Rattle.law_shown.proofs.shown.Tests.{find-passes}
use Rattle.law_strangers.proofs.elsewhere.Nodes.{LeadsIf, answer_keeps_such}
use Rattle.law_others.proofs.serials.Acts.{acts_count}
use Rattle.law_strangers.proofs.steady.Messages.{each_answer_keeps}
use Rattle.law_strangers.proofs.steady.Desktops.{DesktopKeeps, all_keep, attached_keeps, left_keeps}
use Rattle.law_strangers.proofs.users.Users.{found_given, made_window, path_given}

-- ---- serials that were given

-- so many serials were given
abbrev pub Counts : (least : ℕ) → Desktop → Type 0
Counts least s = least ≤ s.table.serials

module _ (d least : ℕ) where
  counts_acts : (s : Desktop) (a : Act) (step : Step) → Counts least s → rio s.table a ≡ Ok step → Counts least (stepped s step)
  unfolding stepped
  counts_acts s a step is e = let more = acts_count s.table a step e in omega (arith, more, is)

  pub counts_keep : DesktopKeeps d (Counts least)
  counts_keep = record {
    acts = counts_acts;
    beside = λ s next table users notes is. subst (λ (t : Table). least ≤ t.serials) (sym table) is;
    leaves = left_keeps d (Counts least) counts_acts (λ s window is. is);
  }

  pub counts_answer : (session : Session) (s : Desktop) (bytes : List ℕ) (mark : Option ℕ) → Counts least s → Counts least (answer (desktop_for d) session s bytes mark).rest
  counts_answer session s bytes mark is =
      each_answer_keeps (desktop_for d) (Counts least) (all_keep d (Counts least) counts_keep) (attached_keeps d (Counts least) counts_keep (λ s window is. is)) session s bytes mark is

-- ---- nodes

-- a node whose serials are within a bound
pub record IsWithin (most : ℕ) (node : Node) : Type 0 where
  pub serial : node.serial ≤ most
  pub root : node.root ≤ most

pub within_more : (less more : ℕ) → less ≤ more → (node : Node) → IsWithin less node → IsWithin more node
within_more less more few node is = (let one = is.serial in let two = is.root in record { serial = omega (arith, few, one); root = omega (arith, few, two) })

module _ (most : ℕ) where
  ctl_within : (node : Node) (n : ℕ) → IsWithin most node → IsWithin most (ctl_of node n)
  ctl_within node n is = record { serial = omega arith; root = is.root }

  root_within : (root : ℕ) → root ≤ most → IsWithin most (root_of root)
  root_within root few = by (root == 0) refl
    where
      by : (b : Bool) → (root == 0) ≡ b → IsWithin most (root_of root)
      by true at = rw at (record { serial = omega arith; root = omega arith })
      by false at = rw at (record { serial = few; root = few })

  module _ (view : View) (home : view.host ≤ most) (windows : All (λ (w : ℕ × ℕ). w.1 ≤ most) view.windows) (node : Node) (is : IsWithin most node) where
    owned_within : (of : Kind) (owner : Owner) → IsWithin most (owned view node of owner)
    owned_within of OfSession = record { serial = omega arith; root = is.root }
    owned_within of OfConnection = record { serial = omega arith; root = is.root }
    owned_within of OfRio = record { serial = home; root = is.root }
    owned_within of OfWindow = record { serial = is.serial; root = is.root }

    above_within : (of : Kind) → IsWithin most (above view node of)
    above_within kind.Connection = owned_within kind.Draw (row kind.Draw).owner
    above_within kind.Listed = owned_within kind.Wsys (row kind.Wsys).owner
    above_within _ = root_within node.root is.root

    abbrev Named : List ℕ × Node → Type 0
    Named file = IsWithin most file.1

    abbrev named : ℕ × Node → List ℕ × Node
    named entry = (decimal entry.0, entry.1)

    kinds_within : (ks : List Kind) → All Named (map (λ k. ((row k).name, placed view node k)) ks)
    kinds_within [] = All-nil Named
    kinds_within (k ∷ ks) = All-cons Named ((row k).name, placed view node k) (map (λ j. ((row j).name, placed view node j)) ks) (owned_within k (row k).owner) (kinds_within ks)

    connections_within : (ns : List ℕ) → All Named (map named (map (λ n. (n, connection_at node n)) ns))
    connections_within [] = All-nil Named
    connections_within (n ∷ ns) = All-cons Named (decimal n, connection_at node n) (map named (map (λ n. (n, connection_at node n)) ns)) (record { serial = omega arith; root = is.root }) (connections_within ns)

    windows_within : (ws : List (ℕ × ℕ)) → All (λ (w : ℕ × ℕ). w.1 ≤ most) ws → All Named (map named (map (λ w. (w.0, tree.window_at node w.1)) ws))
    windows_within [] few = All-nil Named
    windows_within (w ∷ ws) few =
        All-cons Named (decimal w.0, tree.window_at node w.1) (map named (map (λ w. (w.0, tree.window_at node w.1)) ws)) (record { serial = All-head (λ (w : ℕ × ℕ). w.1 ≤ most) w ws few; root = is.root })
        (windows_within ws (All-tail (λ (w : ℕ × ℕ). w.1 ≤ most) w ws few))

    numbered_within : (of : Kind) → All Named (map named (numbered_in view node of))
    numbered_within kind.Draw = connections_within view.connections
    numbered_within kind.Wsys = windows_within view.windows windows
    numbered_within _ = All-nil Named

    files_within : All Named (files view node)
    unfolding files
    files_within = All-append Named (map (λ k. ((row k).name, placed view node k)) (kinds_in node.kind)) (map named (numbered_in view node node.kind)) (kinds_within (kinds_in node.kind)) (numbered_within node.kind)

    found_within : (o : Option Node) → IfSome o (IsWithin most) → IfOk (value_or_refuse o 34) (IsWithin most)
    found_within None found = tt
    found_within (Some next) found = found

    walk_within : (name : List ℕ) → IfOk (walk view node name) (IsWithin most)
    unfolding walk
    walk_within name =
        after_step (IsWithin most) (check_live view node) _ (λ _ _.
        after_step (IsWithin most) (refuse_if (not (is_directory node)) 35) _ (λ _ _.
        either (bytes_eq name (codes "..")) (above_within node.kind) (found_within (map.lookup (bytes_eq name) (files view node)) (All-lookup (IsWithin most) (bytes_eq name) (files view node) files_within))))
      where
        either : (b : Bool) → IsWithin most (above view node node.kind) → IfOk (value_or_refuse (map.lookup (bytes_eq name) (files view node)) 34) (IsWithin most)
            → IfOk (if b then Ok (above view node node.kind) else value_or_refuse (map.lookup (bytes_eq name) (files view node)) 34) (IsWithin most)
        either true up down = up
        either false up down = down

  module _ (view : Node → View) (home : (node : Node) → IsWithin most node → (view node).host ≤ most) (windows : (node : Node) → IsWithin most node → All (λ (w : ℕ × ℕ). w.1 ≤ most) (view node).windows) where
    walked_within : (names : List (List ℕ)) (node : Node) → IsWithin most node → All (IsWithin most) (walked view node names).0
    walked_within [] node is = All-nil (IsWithin most)
    walked_within (name ∷ names) node is = by (walk (view node) node name) (walk_within (view node) (home node is) (windows node is) node is name) (λ next within. walked_within names next within)
      where
        by : (o : Outcome Node) → IfOk o (IsWithin most) → ((next : Node) → IsWithin most next → All (IsWithin most) (walked view next names).0) → All (IsWithin most) (walk_on o (λ next. walked view next names)).0
        by (Err n) within more = All-nil (IsWithin most)
        by (Ok next) within more = All-cons (IsWithin most) next (walked view next names).0 within (more next within)

-- ---- what a session sees of a server

module _ (table : Table) (sound : IsSound table) where
  nested_given : (levels host : ℕ) → IsNested table.windows levels host → host ≤ table.serials
  nested_given zero host is = omega (arith, is)
  nested_given (suc levels) host is = by (window_of table host) refl is
    where
      by : (o : Option Window) → window_of table host ≡ o → IsSomeAnd o (λ w. IsNested table.windows levels w.host) → host ≤ table.serials
      by None at none = absurd none
      by (Some w) at nested = found_given table sound host w at

  host_given : (host : ℕ) → is_host table host ≡ true → host ≤ table.serials
  host_given host is = by (rio_of table host) refl is
    where
      by : (o : Option Rio) → rio_of table host ≡ o → is_some o ≡ true → host ≤ table.serials
      by None at is = absurd cc
      by (Some rio) at is =
          let known = each_found (IsSoundRio table.windows) (λ (r : Rio). r.host == host) (table.root ∷ table.rios) rio (each_of (IsSoundRio table.windows) (table.root ∷ table.rios) sound.rios) at in
          let same : rio.host ≡ host = eqb-true rio.host host (find-passes (λ (r : Rio). r.host == host) (table.root ∷ table.rios) rio at) in
          subst (λ (n : ℕ). n ≤ table.serials) same (nested_given known.nested.0 rio.host known.nested.2)

  window_host : (serial : ℕ) → option_map_or (λ w. w.host) (window_of table serial) 0 ≤ table.serials
  window_host serial = by (window_of table serial) refl
    where
      by : (o : Option Window) → window_of table serial ≡ o → option_map_or (λ w. w.host) o 0 ≤ table.serials
      by None at = omega arith
      by (Some w) at = host_given w.host (each_found (IsSoundWindow table) (λ (v : Window). v.serial == serial) table.windows w (each_of (IsSoundWindow table) table.windows sound.windows) at).housed

  home_within : (node : Node) (of : Kind) → node.serial ≤ table.serials → host_by table node of ≤ table.serials
  home_within node kind.Wsys few = few
  home_within node kind.Screen few = few
  home_within node kind.Snarf few = few
  home_within node _ few = window_host node.serial

  listed_within : (ws : List Window) → Each (λ (w : Window). w.serial ≤ table.serials) ws → All (λ (w : ℕ × ℕ). w.1 ≤ table.serials) (map (λ w. (w.number, w.serial)) ws)
  listed_within [] each = All-nil (λ (w : ℕ × ℕ). w.1 ≤ table.serials)
  listed_within (w ∷ ws) each = All-cons (λ (w : ℕ × ℕ). w.1 ≤ table.serials) (w.number, w.serial) (map (λ w. (w.number, w.serial)) ws) each.0 (listed_within ws each.1)

  made_within : (host : ℕ) → All (λ (w : ℕ × ℕ). w.1 ≤ table.serials) (map (λ w. (w.number, w.serial)) (made_in table host))
  made_within host =
      listed_within (made_in table host)
      (fold_each (λ (w : Window). w.serial ≤ table.serials) (windows_in table host) [] tt
      (each_filter (IsSoundWindow table) (λ (w : Window). w.serial ≤ table.serials) (λ w. w.host == host) (λ w _ is. is.given) table.windows (each_of (IsSoundWindow table) table.windows sound.windows)))

module _ (d : ℕ) (s : Desktop) (sound : IsSound s.table) where
  -- where a walk of a session leads
  walks_within : (connections : List ℕ) (names : List (List ℕ)) (node : Node) → IsWithin s.table.serials node → All (IsWithin s.table.serials) (walked ((desktop_for d).view s connections) node names).0
  unfolding view_of
  walks_within connections names node is =
      walked_within s.table.serials ((desktop_for d).view s connections) (λ n within. home_within s.table sound n n.kind within.serial) (λ n within. made_within s.table sound (host_by s.table n n.kind)) names node is

  -- and an attach
  attached_within : (asked : Attach) (root : Desktop × ℕ) → whole.attached d s asked ≡ Ok root → root.1 ≤ root.0.table.serials
  unfolding whole.attached
  attached_within asked root e = by asked e
    where
      path_leads : (path : List ℕ) (o : Outcome ℕ) → serial_of s.table path 41 ≡ o → (o >>= λ n. Ok (whole.used_by d (s, n))) ≡ Ok root → root.1 ≤ root.0.table.serials
      path_leads path (Ok n) at e =
          let same : whole.used_by d (s, n) ≡ root = cc in
          subst (λ (r : Desktop × ℕ). r.1 ≤ r.0.table.serials) same (path_given d s.table sound path 41 n at)
      path_leads path (Err n) at e = absurd cc

      made_leads : (path text : List ℕ) (o : Outcome (Desktop × ℕ)) → window_made s path text ≡ o → (o >>= λ made. Ok (whole.used_by d made)) ≡ Ok root → root.1 ≤ root.0.table.serials
      made_leads path text (Ok made) at e =
          let same : whole.used_by d made ≡ root = cc in
          let last = made_window d s path text made at in
          subst (λ (r : Desktop × ℕ). r.1 ≤ r.0.table.serials) same (omega (arith, last))
      made_leads path text (Err n) at e = absurd cc

      by : (asked : Attach) → whole.attached d s asked ≡ Ok root → root.1 ≤ root.0.table.serials
      by Whole e = let same : (s, 0) ≡ root = cc in subst (λ (r : Desktop × ℕ). r.1 ≤ r.0.table.serials) same (omega arith)
      by Unknown e = absurd cc
      by (Existing path) e = path_leads path (serial_of s.table path 41) refl e
      by (Fresh path text) e = made_leads path text (window_made s path text) refl e

  module _ (session : Session) (bytes : List ℕ) (mark : Option ℕ) where
    abbrev after : Left Desktop
    after = answer (desktop_for d) session s bytes mark

    abbrev most : ℕ
    most = after.rest.table.serials

    grown : s.table.serials ≤ most
    grown = counts_answer d s.table.serials session s bytes mark (omega arith)

    parts : (a b c : Bool) → (a && not b && not c) ≡ true → (not a ≡ false) × (b ≡ false) × (c ≡ false)
    parts true false false e = (refl, refl, refl)
    parts false b c e = absurd cc
    parts true true c e = absurd cc
    parts true false true e = absurd cc

    -- what an attach leaves that is answered
    pub attach_rest : (tag fid afid : ℕ) (uname aname : List ℕ) → taking session bytes ≡ Reads → message_of bytes ≡ Some (Tattach tag fid afid uname aname) → (tag == no_tag) ≡ false → not session.agreed ≡ false
        → is_name_looked_at session fid afid ≡ true → (root : Desktop × ℕ) → whole.attached d s (attach_of aname) ≡ Ok root → after.rest ≡ root.0
    unfolding answer answer_read attach_answer
    attach_rest tag fid afid uname aname reads spelled tagged agreed looked root is =
        let tests = parts (afid == no_fid) (is_bound session fid) (is_full session) looked in rw (reads, spelled, tagged, agreed, tests.0, tests.1, tests.2, is) refl

    leads : All (λ (entry : ℕ × Fid). IsWithin s.table.serials entry.1.node) session.fids → taking session bytes ≡ Reads → LeadsIf (desktop_for d) (IsWithin most) (ctl_within most) session s (message_of bytes)
    leads all reads = by (message_of bytes) refl
      where
        bound : (number : ℕ) (fid : Fid) → fid_of session number ≡ Ok fid → IsWithin s.table.serials fid.node
        bound number fid e = at (lookup session.fids number) (All-lookup (λ (f : Fid). IsWithin s.table.serials f.node) (is_key number) session.fids all) e
          where
            at : (o : Option Fid) → IfSome o (λ (f : Fid). IsWithin s.table.serials f.node) → value_or_refuse o 32 ≡ Ok fid → IsWithin s.table.serials fid.node
            at (Some f) within e = let same : f ≡ fid = cc in subst (λ (g : Fid). IsWithin s.table.serials g.node) same within
            at None within e = absurd cc

        by : (o : Option T) → message_of bytes ≡ o → LeadsIf (desktop_for d) (IsWithin most) (ctl_within most) session s o
        by None spelled = tt
        by (Some (Tattach tag fid afid uname aname)) spelled = λ tagged agreed looked root is.
            root_within most root.1
            (subst (λ (next : Desktop). root.1 ≤ next.table.serials) (sym (attach_rest tag fid afid uname aname reads spelled tagged agreed looked root is)) (attached_within (attach_of aname) root is))
        by (Some (Twalk tag fid newfid names)) spelled = λ tagged agreed from is closed free room.
            All-weaker (IsWithin s.table.serials) (IsWithin most) (within_more s.table.serials most grown) (walked ((desktop_for d).view s session.connections) from.node names).0 (walks_within session.connections names from.node (bound fid from is))
        by (Some (Topen tag fid mode)) spelled = λ tagged agreed. tt
        by (Some (Twrite tag fid offset data_bytes)) spelled = λ tagged agreed. tt
        by (Some (Tversion tag msize version)) spelled = λ tagged agreed. tt
        by (Some (Tauth tag afid uname aname)) spelled = λ tagged agreed. tt
        by (Some (Tflush tag oldtag)) spelled = λ tagged agreed. tt
        by (Some (Tcreate tag fid name perm mode)) spelled = λ tagged agreed. tt
        by (Some (Tread tag fid offset count)) spelled = λ tagged agreed. tt
        by (Some (Tclunk tag fid)) spelled = λ tagged agreed. tt
        by (Some (Tremove tag fid)) spelled = λ tagged agreed. tt
        by (Some (Tstat tag fid)) spelled = λ tagged agreed. tt
        by (Some (Twstat tag fid stat)) spelled = λ tagged agreed. tt

    -- The fids of a session tell of windows that were made, after each message too.
    pub answer_within : All (λ (entry : ℕ × Fid). IsWithin s.table.serials entry.1.node) session.fids → All (λ (entry : ℕ × Fid). IsWithin most entry.1.node) after.session.fids
    answer_within all =
        answer_keeps_such (desktop_for d) (IsWithin most) (ctl_within most) session s bytes mark
        (All-weaker (λ (entry : ℕ × Fid). IsWithin s.table.serials entry.1.node) (λ (entry : ℕ × Fid). IsWithin most entry.1.node) (λ entry is. within_more s.table.serials most grown entry.1.node is) session.fids all) (leads all)

-- ---- late answers

module _ {S : Type 0} (outside : Outside S) (Such : Node → Type 0) where
  abbrev Keeps : Session → Type 0
  Keeps session = All (λ (entry : ℕ × Fid). Such entry.1.node) session.fids

  mapped : (o : Option (List ℕ)) (f : List ℕ → Given S) → ((x : List ℕ) → Such (f x).fid.node) → IfSome (option_map f o) (λ got. Such got.fid.node)
  mapped None f each = tt
  mapped (Some x) f each = each x

  given_such : (s : S) (fid : Fid) (count : ℕ) (of : Kind) → Such fid.node → IfSome (given_now outside s fid count of) (λ got. Such got.fid.node)
  given_such s fid count kind.Mouse such = mapped (answer_text (outside.pane s fid.node.serial).mouse) _ (λ text. such)
  given_such s fid count kind.Cons such = mapped (console.read count (outside.pane s fid.node.serial).console) _ (λ text. such)
  given_such s fid count kind.Wctl such = mapped (wctl_answer fid.told (wctl_text (outside.pane s fid.node.serial).known)) _ (λ text. such)
  given_such s fid count _ such = tt

  late_such : (session : Session) (s : S) (tag : ℕ) (wait : Wait) (o : Outcome Fid) (later : Option (Left S)) → Keeps session → IfOk o (λ fid. Such fid.node) → IfSome later (λ l. Keeps l.session)
      → IfSome (answered_or session s tag wait (given_or_refused outside s wait.count o) later) (λ l. Keeps l.session)
  late_such session s tag wait (Err n) later keeps such more = keeps
  late_such session s tag wait (Ok fid) later keeps such more = by (given_now outside s fid wait.count fid.node.kind) (given_such s fid wait.count fid.node.kind such)
    where
      by : (o : Option (Given S)) → IfSome o (λ got. Such got.fid.node) → IfSome (answered_or session s tag wait (option_map Ok o) later) (λ l. Keeps l.session)
      by None given = more
      by (Some got) given = all-with (λ (f : Fid). Such f.node) session.fids wait.fid got.fid keeps given

  awaited_such : (session : Session) (s : S) (wait : Wait) → Keeps session → IfOk (awaited outside session s wait) (λ fid. Such fid.node)
  awaited_such session s wait keeps =
      after_step (λ (fid : Fid). Such fid.node) (fid_of session wait.fid) _ (λ fid is.
      after_step (λ (fid : Fid). Such fid.node) (check_live (outside.view s session.connections fid.node) fid.node) _ (λ _ _. bound fid is))
    where
      bound : (fid : Fid) → fid_of session wait.fid ≡ Ok fid → Such fid.node
      bound fid is = by (lookup session.fids wait.fid) (All-lookup (λ (f : Fid). Such f.node) (is_key wait.fid) session.fids keeps) is
        where
          by : (o : Option Fid) → IfSome o (λ (f : Fid). Such f.node) → value_or_refuse o 32 ≡ Ok fid → Such fid.node
          by (Some f) such e = let same : f ≡ fid = cc in subst (λ (g : Fid). Such g.node) same such
          by None such e = absurd cc

  first_such : (session : Session) (s : S) (before after : List (ℕ × Wait)) → Keeps session → IfSome (first_of outside session s before after) (λ l. Keeps l.session)
  unfolding first_of wait_answer
  first_such session s before [] keeps = tt
  first_such session s before ((tag, wait) ∷ after) keeps =
      late_such (record session { waiting = before ++ after }) s tag wait (awaited outside session s wait) _ keeps (awaited_such session s wait keeps) (first_such session s (before ++ (tag, wait) ∷ []) after keeps)

  -- A late answer leaves the fids of a session what they stand for.
  pub one_such : (session : Session) (s : S) (left : Left S) → Keeps session → one_answered outside session s ≡ Some left → Keeps left.session
  one_such session s left keeps is = subst (λ (o : Option (Left S)). IfSome o (λ l. Keeps l.session)) is (first_such session s [] session.waiting keeps)
