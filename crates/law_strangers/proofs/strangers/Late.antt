-- Late answers: those of the session itself are alike, and those of others change nothing of what it sees.
use Rattle.std.proofs.Common.{◌≡◌, ◌∙◌, ℕ, ◌<◌, List, [], ◌∷◌, ◌++◌, Option, Some, None, Ok, Err, refl, sym, ap, subst, arith}
use Rattle.std.specs.Prelude.{All, IfSome}
use Rattle.std.specs.Option.{option_map}
use Rattle.std.proofs.lemmas.Map.Entries.{All-lookup}
use Rattle.model_text.specs.text.Outcome.{Outcome, ◌>>=◌, value_or_refuse}
use Rattle.model_text.specs.text.Map.{is_key, lookup}
use Rattle.model_text.proofs.map.Ascending.{ascend-with}
use Rattle.model_text.proofs.map.Maps.{with-others}
use Rattle.model_files.specs.mouse.Queue.{answer_text}
use Rattle.model_files.specs.console.Console as console
use Rattle.model_rio.specs.window.Heard.{ConsoleRead, Heard, MouseRead, wctl_answer, wctl_text}
use Rattle.model_rio.specs.window.Pane.{Pane}
use Rattle.model_rio.specs.rio.Table.{Table}
use Rattle.model_draw.specs.draw.World as draw
use Rattle.model_files.specs.declared.tree.Kind.{Kind}
use Rattle.model_files.specs.declared.tree.Kind.TheVariants as kind
use Rattle.model_files.specs.tree.Node.{Node}
use Rattle.model_files.specs.tree.Tree.{check_live}
use Rattle.model_world.specs.Session.{Fid, Session, Wait}
use Rattle.model_world.specs.Fids.{Left, fid_of}
use Rattle.model_world.specs.Reading.{Given, given_now}
use Rattle.model_world.specs.Waiting.{answered_or, awaited, first_of, given_or_refused, one_answered, wait_answer}
use Rattle.model_world.specs.Desktop.{Desktop, pane_told}
use Rattle.model_world.specs.Whole.{desktop_for}
use Rattle.model_world.specs.Links.{AreCounted}
use Rattle.law_others.proofs.orders.Leading.{led_beside, led_itself}
use Rattle.law_likeness.specs.agreement.Agreement.{Alike, IsDone}
use Rattle.law_likeness.proofs.agreement.Keeping.{all-with}
use Rattle.law_likeness.proofs.agreement.Relations.{weaken}
use Rattle.model_alone.specs.alone.Lone.{LoneDesktop, lone_desktop}
use Rattle.law_strangers.specs.followed.Devices.{AreNamesFree, IsDeviceLike}
use Rattle.law_strangers.specs.followed.Following.{HasConnection, HasWindow, SameDesktops, SameWindows, known_size, named_in, named_pane}
use Rattle.law_strangers.proofs.followed.Outsides.{connect_same, heard_same, leave_same, pane_same, picture_same, read_same, view_same}

-- a node that is not of the session's window
pub record IsAway (own : Option ℕ) (node : Node) : Type 0 where
  pub serial : own ≡ Some node.serial → ⊥
  pub root : own ≡ Some node.root → ⊥

-- another session, which has nothing of the session's window
pub record IsElsewhere (own : Option ℕ) (session : Session) : Type 0 where
  pub fids : All (λ (entry : ℕ × Fid). IsAway own entry.1.node) session.fids
  pub counted : AreCounted session.made session.connections

module _ (c : ℕ) (begin : 0 < c) (Like : Option (ℕ × ℕ) → Option (ℕ × List ℕ) → draw.World → draw.World → Type 0) (Named : draw.World → Table → List (ℕ × Pane) → Type 0) (laws : IsDeviceLike c Like) (names : AreNamesFree Named) (own : Option ℕ) where
  abbrev Have : Desktop → LoneDesktop → Type 0
  Have s t = SameDesktops Like Named own s t

  -- ---- the session's own

  -- Late answers are alike, whatever was told in the turn.
  pub late_alike : Alike (desktop_for c) lone_desktop Have (λ s t. Unit {0}) (HasWindow own) HasConnection (λ s asked. ⊥)
  late_alike = record {
    numbers = λ n few. omega (arith, few);
    unchanged = λ s t is. tt;
    view = view_same c begin Like Named laws names own;
    pane = pane_same c begin Like Named laws names own;
    hear = heard_same c begin Like Named laws names own;
    picture = picture_same c begin Like Named laws names own;
    connect = connect_same c begin Like Named laws names own;
    leave = leave_same c begin Like Named laws names own;
    write_data = λ s t is n bytes mark told few may. absurd may;
    read_data = λ s t is n most few. weaken (λ (a : List ℕ × Desktop) (b : List ℕ × LoneDesktop). (a.0 ≡ b.0) × Have a.1 b.1 × (a.1.notes ≡ s.notes)) (λ (a : List ℕ × Desktop) (b : List ℕ × LoneDesktop). (a.0 ≡ b.0) × Have a.1 b.1)
        ((desktop_for c).read_data s n most) (lone_desktop.read_data t n most) (λ a b p. (p.0, p.1)) (read_same c begin Like Named laws names own s t is n most few);
    read_ctl = λ s t is n few may. absurd may;
    write_ctl = λ s t is n bytes few may. absurd may;
    left = λ s t is windows. tt;
    attached = λ s t is asked may. absurd may;
    command = λ s t is connections node has live text may. absurd may;
  }

  -- ---- those of others

  -- what is done at another window
  pub heard_elsewhere : (s : Desktop) (t : LoneDesktop) (window : ℕ) (h : Heard) → IsDone h → (own ≡ Some window → ⊥) → Have s t → Have (record s { panes = pane_told s.panes window h }) t
  heard_elsewhere s t window h done away same = record {
    drawn = (led_beside s s (record s { panes = panes }) refl refl (led_itself s same.drawn)).drawn;
    order = ascend-with s.panes window _ same.order;
    names = names.heard s.device s.table s.panes window h done same.names;
    window = windows own away same.window;
    device = subst (λ (w : Option (ℕ × List ℕ)). Like (known_size s) w s.device t.device) (name own away) same.device;
  }
    where
      panes : List (ℕ × Pane)
      panes = pane_told s.panes window h

      still : (n : ℕ) → (◌≡◌ {A = Option ℕ} (Some n) (Some window) → ⊥) → lookup panes n ≡ lookup s.panes n
      still n away = with-others s.panes window n _ (λ same. away (ap Some same))

      windows : (o : Option ℕ) → (o ≡ Some window → ⊥) → SameWindows s t o → SameWindows (record s { panes = panes }) t o
      windows None away is = is
      windows (Some n) away is = record {
        alone = is.alone ∙ ap (option_map (λ p. (n, p))) (sym (still n away));
        rect = is.rect ∙ ap (option_map (λ (p : Pane). p.known.r)) (sym (still n away));
        root = is.root;
        bare = is.bare;
        counted = is.counted;
      }

      name : (o : Option ℕ) → (o ≡ Some window → ⊥) → named_in s o ≡ named_in (record s { panes = panes }) o
      name None away = refl
      name (Some n) away = ap (named_pane n) (sym (still n away))

  module _ (d : ℕ) (t : LoneDesktop) where
    -- what a read leaves
    record GivesAway (rest : Desktop) (node : Node) (got : Given Desktop) : Type 0 where
      same : Have got.rest t
      notes : got.rest.notes ≡ rest.notes
      node_is : got.fid.node ≡ node

    mapped : (s : Desktop) (node : Node) (o : Option (List ℕ)) (f : List ℕ → Given Desktop) → ((x : List ℕ) → GivesAway s node (f x)) → IfSome (option_map f o) (GivesAway s node)
    mapped s node None f each = tt
    mapped s node (Some x) f each = each x

    given_away : (s : Desktop) (fid : Fid) (count : ℕ) (of : Kind) → Have s t → IsAway own fid.node → IfSome (given_now (desktop_for d) s fid count of) (GivesAway s fid.node)
    given_away s fid count kind.Mouse same away = mapped s fid.node (answer_text ((desktop_for d).pane s fid.node.serial).mouse) _ (λ text. record { same = heard_elsewhere s t fid.node.serial MouseRead tt away.serial same; notes = refl; node_is = refl })
    given_away s fid count kind.Cons same away = mapped s fid.node (console.read count ((desktop_for d).pane s fid.node.serial).console) _ (λ text. record { same = heard_elsewhere s t fid.node.serial (ConsoleRead count) tt away.serial same; notes = refl; node_is = refl })
    given_away s fid count kind.Wctl same away = mapped s fid.node (wctl_answer fid.told (wctl_text ((desktop_for d).pane s fid.node.serial).known)) _ (λ text. record { same = same; notes = refl; node_is = refl })
    given_away s fid count _ same away = tt

    -- what a late answer leaves of the desktop and of its session
    pub record LeftAway (s : Desktop) (left : Left Desktop) : Type 0 where
      pub same : Have left.rest t
      pub notes : left.rest.notes ≡ s.notes
      pub elsewhere : IsElsewhere own left.session

    bound_away : (session : Session) → IsElsewhere own session → (number : ℕ) (fid : Fid) → fid_of session number ≡ Ok fid → IsAway own fid.node
    bound_away session is number fid e = by (lookup session.fids number) (All-lookup (λ (f : Fid). IsAway own f.node) (is_key number) session.fids is.fids) e
      where
        by : (o : Option Fid) → IfSome o (λ (f : Fid). IsAway own f.node) → value_or_refuse o 32 ≡ Ok fid → IsAway own fid.node
        by (Some f) away e = let same : f ≡ fid = cc in subst (λ (g : Fid). IsAway own g.node) same away
        by None away e = absurd cc

    late_away : (s : Desktop) (session : Session) (tag : ℕ) (wait : Wait) (o : Outcome Fid) (later : Option (Left Desktop)) → Have s t → IsElsewhere own session → ((f : Fid) → o ≡ Ok f → IsAway own f.node)
        → IfSome later (LeftAway s) → IfSome (answered_or session s tag wait (given_or_refused (desktop_for d) s wait.count o) later) (LeftAway s)
    late_away s session tag wait (Err n) later same is away more = record { same = same; notes = refl; elsewhere = is }
    late_away s session tag wait (Ok fid) later same is away more = by (given_now (desktop_for d) s fid wait.count fid.node.kind) (given_away s fid wait.count fid.node.kind same (away fid refl))
      where
        by : (o : Option (Given Desktop)) → IfSome o (GivesAway s fid.node) → IfSome (answered_or session s tag wait (option_map Ok o) later) (LeftAway s)
        by None given = more
        by (Some got) given = record {
          same = given.same;
          notes = given.notes;
          elsewhere = record {
            fids = all-with (λ (f : Fid). IsAway own f.node) session.fids wait.fid got.fid is.fids (subst (IsAway own) (sym given.node_is) (away fid refl));
            counted = is.counted;
          };
        }

    awaited_bound : (s : Desktop) (session : Session) (wait : Wait) (f : Fid) → awaited (desktop_for d) session s wait ≡ Ok f → fid_of session wait.fid ≡ Ok f
    awaited_bound s session wait f e = by (fid_of session wait.fid) e
      where
        live : (fid : Fid) (o : Outcome (Unit {0})) → (o >>= λ _. Ok fid) ≡ Ok f → ◌≡◌ {A = Outcome Fid} (Ok fid) (Ok f)
        live fid (Ok u) e = e
        live fid (Err n) e = absurd cc

        by : (o : Outcome Fid) → (o >>= λ fid. check_live ((desktop_for d).view s session.connections fid.node) fid.node >>= λ _. Ok fid) ≡ Ok f → o ≡ Ok f
        by (Ok fid) e = live fid (check_live ((desktop_for d).view s session.connections fid.node) fid.node) e
        by (Err n) e = absurd cc

    first_away : (s : Desktop) (session : Session) (before after : List (ℕ × Wait)) → Have s t → IsElsewhere own session → IfSome (first_of (desktop_for d) session s before after) (LeftAway s)
    unfolding first_of wait_answer
    first_away s session before [] same is = tt
    first_away s session before ((tag, wait) ∷ after) same is =
        late_away s (record session { waiting = before ++ after }) tag wait (awaited (desktop_for d) session s wait) _ same (record { fids = is.fids; counted = is.counted })
        (λ f e. bound_away session is wait.fid f (awaited_bound s session wait f e)) (first_away s session (before ++ (tag, wait) ∷ []) after same is)

    -- A late answer of another session leaves what the session sees, and that session elsewhere.
    pub one_away : (s : Desktop) (session : Session) (left : Left Desktop) → Have s t → IsElsewhere own session → one_answered (desktop_for d) session s ≡ Some left → LeftAway s left
    one_away s session left same is e = subst (λ (o : Option (Left Desktop)). IfSome o (LeftAway s)) e (first_away s session [] session.waiting same is)
