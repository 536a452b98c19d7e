-- Late answers leave the windows as they are, and each session the windows to which its attaches led.
use Rattle.std.proofs.Common.{◌≡◌, ◌∙◌, ℕ, eqb, ◌==◌, Bool, true, false, List, [], ◌∷◌, ◌++◌, Option, Some, None, Ok, Err, refl, sym, ap, subst}
use Rattle.std.specs.Prelude.{IfSome, if◌then◌else◌}
use Rattle.std.specs.Option.{option_map, option_map_or}
use Rattle.std.proofs.lemmas.Bool.{eqb-false, eqb-true}
use Rattle.model_text.specs.text.Outcome.{Outcome, ◌>>=◌, value_or_refuse}
use Rattle.model_text.specs.text.Map.{lookup, with}
use Rattle.model_text.proofs.map.Ascending.{ascend-with}
use Rattle.model_text.proofs.map.Maps.{with-here, with-others}
use Rattle.model_files.specs.mouse.Queue.{answer_text}
use Rattle.model_files.specs.console.Console as console
use Rattle.model_rio.specs.window.Heard.{wctl_answer, wctl_text}
use Rattle.model_files.specs.declared.tree.Kind.{Kind}
use Rattle.model_files.specs.declared.tree.Kind.TheVariants as kind
use Rattle.model_files.specs.tree.Node.{Node}
use Rattle.model_files.specs.tree.Tree.{check_live}
use Rattle.model_world.specs.Session.{Fid, Session, Wait}
use Rattle.model_world.specs.Fids.{Left, fid_of}
use Rattle.model_world.specs.Reading.{Given, given_now}
use Rattle.model_world.specs.Waiting.{answered_or, awaited, first_of, given_or_refused, one_answered, wait_answer}
use Rattle.model_world.specs.Desktop.{Desktop}
use Rattle.model_world.specs.Whole.{desktop_for}
use Rattle.model_world.specs.World.{World}
use Rattle.model_world.specs.Standing.{AreInOrder}
use Rattle.model_world.specs.Replay.{first_answered, settled, waiting_in, with_left}
use Rattle.model_world.proofs.Settling.{IfNext, all_in, first_leaves, settled_keeps}
use Rattle.model_alone.specs.alone.Uses.{window_at}

-- what a late answer leaves of the windows, and of those to which the attaches of the session led
pub record LeavesWindows (s : Desktop) (session : Session) (left : Left Desktop) : Type 0 where
  pub table : left.rest.table ≡ s.table
  pub windows : (n : ℕ) → window_at left.session n ≡ window_at session n

-- what a read leaves
record GivesSame (s : Desktop) (node : Node) (got : Given Desktop) : Type 0 where
  table : got.rest.table ≡ s.table
  node_is : got.fid.node ≡ node

abbrev root_at : Node → Option ℕ
root_at node = if node.root == 0 then None else Some node.root

bound_is : (session : Session) (number : ℕ) (fid : Fid) → fid_of session number ≡ Ok fid → lookup session.fids number ≡ Some fid
bound_is session number fid is = by (lookup session.fids number) is
  where
    by : (o : Option Fid) → value_or_refuse o 32 ≡ Ok fid → o ≡ Some fid
    by (Some f) is = cc
    by None is = absurd cc

-- a fid that stands for the same file makes no difference
same_windows : (session : Session) (number : ℕ) (fid after : Fid) → lookup session.fids number ≡ Some fid → after.node ≡ fid.node → (n : ℕ) → window_at (record session { fids = with session.fids number after }) n ≡ window_at session n
same_windows session number fid after bound same n = by (eqb n number) refl
  where
    at : Option Fid → Option ℕ
    at o = option_map_or (λ f. root_at f.node) o None

    by : (b : Bool) → eqb n number ≡ b → at (lookup (with session.fids number after) n) ≡ at (lookup session.fids n)
    by true here =
        let is : n ≡ number = eqb-true n number here in
        ap (λ (k : ℕ). at (lookup (with session.fids number after) k)) is ∙ ap at (with-here session.fids number fid after bound) ∙ ap root_at same
        ∙ sym (ap (λ (k : ℕ). at (lookup session.fids k)) is ∙ ap at bound)
    by false here = ap at (with-others session.fids number n after (eqb-false n number here))

module _ (d : ℕ) (s : Desktop) where
  mapped : (node : Node) (o : Option (List ℕ)) (f : List ℕ → Given Desktop) → ((x : List ℕ) → GivesSame s node (f x)) → IfSome (option_map f o) (GivesSame s node)
  mapped node None f each = tt
  mapped node (Some x) f each = each x

  given_same : (fid : Fid) (count : ℕ) (of : Kind) → IfSome (given_now (desktop_for d) s fid count of) (GivesSame s fid.node)
  given_same fid count kind.Mouse = mapped fid.node (answer_text ((desktop_for d).pane s fid.node.serial).mouse) _ (λ text. record { table = refl; node_is = refl })
  given_same fid count kind.Cons = mapped fid.node (console.read count ((desktop_for d).pane s fid.node.serial).console) _ (λ text. record { table = refl; node_is = refl })
  given_same fid count kind.Wctl = mapped fid.node (wctl_answer fid.told (wctl_text ((desktop_for d).pane s fid.node.serial).known)) _ (λ text. record { table = refl; node_is = refl })
  given_same fid count _ = tt

  late_same : (session : Session) (tag : ℕ) (wait : Wait) (o : Outcome Fid) (later : Option (Left Desktop)) → ((f : Fid) → o ≡ Ok f → fid_of session wait.fid ≡ Ok f)
      → IfSome later (LeavesWindows s session) → IfSome (answered_or session s tag wait (given_or_refused (desktop_for d) s wait.count o) later) (LeavesWindows s session)
  late_same session tag wait (Err n) later bound more = record { table = refl; windows = λ n. refl }
  late_same session tag wait (Ok fid) later bound more = by (given_now (desktop_for d) s fid wait.count fid.node.kind) (given_same fid wait.count fid.node.kind)
    where
      by : (o : Option (Given Desktop)) → IfSome o (GivesSame s fid.node) → IfSome (answered_or session s tag wait (option_map Ok o) later) (LeavesWindows s session)
      by None given = more
      by (Some got) given = record { table = given.table; windows = same_windows session wait.fid fid got.fid (bound_is session wait.fid fid (bound fid refl)) given.node_is }

  awaited_bound : (session : Session) (wait : Wait) (f : Fid) → awaited (desktop_for d) session s wait ≡ Ok f → fid_of session wait.fid ≡ Ok f
  awaited_bound session wait f e = by (fid_of session wait.fid) e
    where
      live : (fid : Fid) (o : Outcome (Unit {0})) → (o >>= λ _. Ok fid) ≡ Ok f → ◌≡◌ {A = Outcome Fid} (Ok fid) (Ok f)
      live fid (Ok u) e = e
      live fid (Err n) e = absurd cc

      by : (o : Outcome Fid) → (o >>= λ fid. check_live ((desktop_for d).view s session.connections fid.node) fid.node >>= λ _. Ok fid) ≡ Ok f → o ≡ Ok f
      by (Ok fid) e = live fid (check_live ((desktop_for d).view s session.connections fid.node) fid.node) e
      by (Err n) e = absurd cc

  first_same : (session : Session) (before after : List (ℕ × Wait)) → IfSome (first_of (desktop_for d) session s before after) (LeavesWindows s session)
  unfolding first_of wait_answer
  first_same session before [] = tt
  first_same session before ((tag, wait) ∷ after) =
      again (answered_or (record session { waiting = before ++ after }) s tag wait (wait_answer (desktop_for d) session s wait) (first_of (desktop_for d) session s (before ++ (tag, wait) ∷ []) after)) (late_same (record session { waiting = before ++ after }) tag wait (awaited (desktop_for d) session s wait) (first_of (desktop_for d) session s (before ++ (tag, wait) ∷ []) after) (awaited_bound session wait) (so (first_of (desktop_for d) session s (before ++ (tag, wait) ∷ []) after) (first_same session (before ++ (tag, wait) ∷ []) after)))
    where
      so : (o : Option (Left Desktop)) → IfSome o (LeavesWindows s session) → IfSome o (LeavesWindows s (record session { waiting = before ++ after }))
      so None is = tt
      so (Some left) is = record { table = is.table; windows = is.windows }

      again : (o : Option (Left Desktop)) → IfSome o (LeavesWindows s (record session { waiting = before ++ after })) → IfSome o (LeavesWindows s session)
      again None is = tt
      again (Some left) is = record { table = is.table; windows = is.windows }

  pub one_same : (session : Session) (left : Left Desktop) → one_answered (desktop_for d) session s ≡ Some left → LeavesWindows s session left
  one_same session left e = subst (λ (o : Option (Left Desktop)). IfSome o (LeavesWindows s session)) e (first_same session [] session.waiting)

-- ---- until none can be answered any more

-- the windows to which the attaches of a session led, where it lives
abbrev pub windows_of : World → (d n : ℕ) → Option (Option ℕ)
windows_of world d n = option_map (λ session. window_at session n) (lookup world.sessions d)

pub record KeepsWindows (start world : World) (d : ℕ) : Type 0 where
  pub order : AreInOrder world
  pub table : world.desktop.table ≡ start.desktop.table
  pub windows : (n : ℕ) → windows_of world d n ≡ windows_of start d n

late_kept : (start : World) (d : ℕ) (world : World) → KeepsWindows start world d → IfNext (λ next. KeepsWindows start next d) (first_answered world world.sessions)
late_kept start d world is = first_leaves (λ next. KeepsWindows start next d) world world.sessions (all_in world.sessions is.order) (λ e session after at answered.
    let same = one_same e world.desktop session after answered in
    record { order = ascend-with world.sessions e after.session is.order; table = same.table ∙ is.table; windows = λ n. by e session after at same n (eqb d e) refl ∙ is.windows n })
  where
    by : (e : ℕ) (session : Session) (after : Left Desktop) → lookup world.sessions e ≡ Some session → LeavesWindows world.desktop session after → (n : ℕ) (b : Bool) → eqb d e ≡ b → windows_of (with_left world e after) d n ≡ windows_of world d n
    by e session after at same n true here =
        let it : d ≡ e = eqb-true d e here in
        ap (λ (k : ℕ). windows_of (with_left world e after) k n) it ∙ ap (option_map (λ (t : Session). window_at t n)) (with-here world.sessions e session after.session at) ∙ ap Some (same.windows n)
        ∙ sym (ap (λ (k : ℕ). windows_of world k n) it ∙ ap (option_map (λ (t : Session). window_at t n)) at)
    by e session after at same n false here = ap (option_map (λ (t : Session). window_at t n)) (with-others world.sessions e d after.session (eqb-false d e here))

pub settled_windows : (world : World) (d : ℕ) → AreInOrder world → KeepsWindows world (settled world).0 d
settled_windows world d order = settled_keeps (λ next. KeepsWindows world next d) (late_kept world d) (waiting_in world) world (record { order = order; table = refl; windows = λ n. refl })
