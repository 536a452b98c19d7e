-- The attach that gives a session that is alone its window.
use Rattle.std.proofs.Common.{◌≡◌, ◌∙◌, ℕ, ◌==◌, ◌+◌, ◌<◌, ◌≤◌, Bool, true, false, List, [], ◌∷◌, ◌++◌, fold, Option, Some, None, Ok, Err, refl, sym, ap, subst, arith, ne_eqb, inr}
use Rattle.std.specs.Prelude.{All, not, ◌&&◌}
use Rattle.std.specs.Option.{option_map, unwrap_or}
use Rattle.std.proofs.lemmas.List.Elements.{All-cons, All-head, All-nil, All-weaker}
use Rattle.r9_event.specs.declared.event.own.Item.{Item}
use Rattle.r9_event.specs.declared.event.own.Item.TheVariants.{Sent}
use Rattle.r9_event.specs.declared.event.rio.Note.{Note}
use Rattle.model_text.specs.text.Map.{and, lookup}
use Rattle.model_text.specs.text.Outcome.{Outcome, ◌>>=◌, value_or_refuse}
use Rattle.model_text.proofs.map.Ascending.{ascend-with}
use Rattle.model_text.proofs.map.Maps.{and-here, with-here, with-others}
use Rattle.model_rio.specs.window.Pane.{Pane}
use Rattle.model_files.specs.declared.wctl.Choice.{Choice}
use Rattle.model_files.specs.wctl.Command.{Wctl}
use Rattle.model_files.specs.wctl.Command as wctl
use Rattle.model_files.specs.wctl.Reading.{command_of}
use Rattle.model_files.specs.wire.Message.{Tattach, Rattach, no_fid, no_tag}
use Rattle.model_files.specs.wire.Reading.{message_of, tag_of}
use Rattle.model_rio.specs.rio.Table.{Table, Window, window_of}
use Rattle.model_rio.specs.rio.Act as act
use Rattle.model_rio.specs.rio.Step.{Step}
use Rattle.model_rio.specs.rio.Rio.{rio}
use Rattle.model_draw.specs.draw.World as draw
use Rattle.model_files.specs.tree.Attach.{Fresh, attach_of}
use Rattle.model_files.specs.tree.Node.{Node, qid, row}
use Rattle.model_files.specs.tree.Tree.{root_of}
use Rattle.model_world.specs.Session.{Fid, Session, fid_at}
use Rattle.model_world.specs.Outside.{Outside}
use Rattle.model_world.specs.Refusal.{refusal}
use Rattle.model_world.specs.Desktop.{Desktop, stepped, stepped_or, users_told, with_user}
use Rattle.model_world.specs.Fids.{Left, and_fid, is_bound, is_full, left, put}
use Rattle.model_world.specs.Walking.{attach_answer}
use Rattle.model_world.specs.Answer.{Reads, answer, answer_read, taking}
use Rattle.model_world.specs.Whole as whole
use Rattle.model_world.specs.Whole.{desktop_for, host_of, made_by, used_by, window_made}
use Rattle.model_world.specs.World.{World}
use Rattle.model_world.specs.Standing.{AreInOrder}
use Rattle.model_world.specs.Replay.{first_answered, reply_to, settled, waiting_in, with_left}
use Rattle.model_world.proofs.Settling.{IfNext, all_in, first_leaves, settled_keeps}
use Rattle.model_world.proofs.Sleeping.{one_quiet}
use Rattle.law_shown.proofs.shown.Tests.{same_Ok, then_ok, value_ok}
use Rattle.law_others.proofs.orders.Leading.{led_beside, led_itself}
use Rattle.model_alone.specs.alone.Isolated.{replies_to}
use Rattle.model_alone.specs.alone.Own.{Watched, noted}
use Rattle.model_alone.specs.alone.Uses.{is_name_looked_at}
use Rattle.model_alone.specs.alone.Lone.{LoneDesktop, LoneWorld, all_settled, lone_desktop, lone_step, made_in, noted_alone, notes_in, replied}
use Rattle.model_alone.proofs.alone.Histories.{replies-append}
use Rattle.law_strangers.proofs.isolation.Settling.{own-reply}
use Rattle.law_others.specs.told.Telling.{notes_of}
use Rattle.law_others.proofs.told.Acts.{led_to, next_leads}
use Rattle.law_strangers.specs.followed.Devices.{AreNamesFree, IsDeviceLike}
use Rattle.law_strangers.specs.followed.Following.{SameDesktops}
use Rattle.law_strangers.proofs.followed.Stepping.{new_same, no_later_host}
use Rattle.law_strangers.proofs.private.Keeping.{IsMineFid, KeepsMine}
use Rattle.law_strangers.proofs.private.Walks.{IsMine}
use Rattle.law_strangers.proofs.strangers.Late.{IsAway, IsElsewhere}
use Rattle.law_strangers.proofs.events.Messages.{IsWith, notes_same, settled_with}
use Rattle.law_strangers.proofs.users.Users.{IsRegular, IsUsedBy, all_unused}
use Rattle.law_strangers.proofs.users.Emptied.{some_and}
use Rattle.model_rio.proofs.rio.Soundness.{step_sound}
use Rattle.law_strangers.proofs.users.Bounds.{IsWithin}
use Rattle.law_strangers.proofs.users.Worlds.{IsWell}
use Rattle.law_isolation.proofs.attached.Making.{last_made, new_made, tells_last}

-- ---- what an attach is answered

parts : (a b c : Bool) → (a && not b && not c) ≡ true → (not a ≡ false) × (b ≡ false) × (c ≡ false)
parts true false false e = (refl, refl, refl)
parts false b c e = absurd cc
parts true true c e = absurd cc
parts true false true e = absurd cc

-- An attach that is looked at
pub record IsAttach (session : Session) (bytes : List ℕ) (tag fid afid : ℕ) (uname aname : List ℕ) : Type 0 where
  pub reads : taking session bytes ≡ Reads
  pub spelled : message_of bytes ≡ Some (Tattach tag fid afid uname aname)
  pub tagged : (tag == no_tag) ≡ false
  pub agreed : not session.agreed ≡ false
  pub looked : is_name_looked_at session fid afid ≡ true

module _ {S : Type 0} (outside : Outside S) (session : Session) (s : S) (bytes : List ℕ) (mark : Option ℕ) (tag fid afid : ℕ) (uname aname : List ℕ) (is : IsAttach session bytes tag fid afid uname aname) where
  pub attach_answered : (root : S × ℕ) → outside.attached s (attach_of aname) ≡ Ok root → answer outside session s bytes mark ≡ left (and_fid session fid (fid_at (root_of root.1)), root.0) (Rattach tag (qid (root_of root.1)))
  unfolding answer answer_read attach_answer
  attach_answered root e =
      let tests = parts (afid == no_fid) (is_bound session fid) (is_full session) is.looked in rw (is.reads, is.spelled, is.tagged, is.agreed, tests.0, tests.1, tests.2, e) refl

  pub attach_refused : (n : ℕ) → outside.attached s (attach_of aname) ≡ Err n → answer outside session s bytes mark ≡ left (session, s) (refusal (tag_of bytes) n)
  unfolding answer answer_read attach_answer
  attach_refused n e =
      let tests = parts (afid == no_fid) (is_bound session fid) (is_full session) is.looked in rw (is.reads, is.spelled, is.tagged, is.agreed, tests.0, tests.1, tests.2, e) refl

-- ---- a new window

-- the act by which a name gives a new window
pub record IsFresh (c : ℕ) (s : Desktop) (root : Desktop × ℕ) : Type 0 where
  pub host : ℕ
  pub options : List Choice
  pub hide : Bool
  pub step : Step
  pub done : rio s.table (act.New host options hide) ≡ Ok step
  pub left_so : root ≡ used_by c (stepped s step, step.table.serials)

module _ (c : ℕ) (s : Desktop) (root : Desktop × ℕ) where
  by_command : (host : ℕ) (what : Wctl) (next : Desktop) → made_by s host what ≡ Ok next → root ≡ used_by c (next, next.table.serials) → IsFresh c s root
  unfolding stepped
  by_command host (wctl.New options hide) next e so = by (rio s.table (act.New host options hide)) refl e
    where
      by : (o : Outcome Step) → rio s.table (act.New host options hide) ≡ o → stepped_or s o ≡ Ok next → IsFresh c s root
      by (Ok step) at e = let same : stepped s step ≡ next = same_Ok (stepped s step) next e in record {
        host = host;
        options = options;
        hide = hide;
        step = step;
        done = at;
        left_so = so ∙ ap (λ (d : Desktop). used_by c (d, d.table.serials)) (sym same);
      }
      by (Err n) at e = absurd cc
  by_command host (wctl.Resize options) next e so = absurd cc
  by_command host (wctl.Move options) next e so = absurd cc
  by_command host wctl.Top next e so = absurd cc
  by_command host wctl.Bottom next e so = absurd cc
  by_command host wctl.Hide next e so = absurd cc
  by_command host wctl.Unhide next e so = absurd cc
  by_command host wctl.Current next e so = absurd cc
  by_command host wctl.Delete next e so = absurd cc
  by_command host (wctl.Scroll scrolls) next e so = absurd cc
  by_command host wctl.Set next e so = absurd cc
  by_command host wctl.Host next e so = absurd cc

  pub fresh_of : (path text : List ℕ) → whole.attached c s (Fresh path text) ≡ Ok root → IsFresh c s root
  unfolding whole.attached window_made
  fresh_of path text e =
      let made = then_ok (window_made s path text) (λ m. Ok (used_by c m)) root e in
      let host = then_ok (host_of s.table path 41) _ made.0 made.1 in
      let command = value_ok (command_of false text) 47 _ made.0 host.2 in
      let next = then_ok (made_by s host.0 command.0.what) _ made.0 command.2 in
      by_command host.0 command.0.what next.0 next.1 (sym (same_Ok (used_by c made.0) root made.2) ∙ ap (used_by c) (sym (same_Ok (next.0, next.0.table.serials) made.0 next.2)))

-- ---- what comes after it

quiet_late : (notes : List (ℕ × Note)) (world : World) → AreInOrder world × (world.desktop.notes ≡ notes) → IfNext (λ next. AreInOrder next × (next.desktop.notes ≡ notes)) (first_answered world world.sessions)
quiet_late notes world is =
    first_leaves (λ next. AreInOrder next × (next.desktop.notes ≡ notes)) world world.sessions (all_in world.sessions is.0)
    (λ d session after at answered. (ascend-with world.sessions d after.session is.0, (one_quiet d session world.desktop after answered).0 ∙ is.1))

-- late answers tell nothing
pub settled_notes : (world : World) → AreInOrder world → (settled world).0.desktop.notes ≡ world.desktop.notes
settled_notes world order = (settled_keeps (λ next. AreInOrder next × (next.desktop.notes ≡ world.desktop.notes)) (quiet_late world.desktop.notes) (waiting_in world) world (order, refl)).1

-- a session without a window has no fid
pub none_mine : (session : Session) → KeepsMine None session → session.fids ≡ []
none_mine session keeps = by session.fids keeps.fids
  where
    by : (fids : List (ℕ × Fid)) → All (λ (entry : ℕ × Fid). IsMineFid None entry.1) fids → fids ≡ []
    by [] all = refl
    by (entry ∷ fids) all = (let root = (All-head (λ (entry : ℕ × Fid). IsMineFid None entry.1) entry fids all).node.root in absurd cc)

-- the root of the window's tree is the session's own
root_mine : (window : ℕ) → (window == 0) ≡ false → IsMine (Some window) (root_of window)
unfolding row
root_mine window counted = rw counted (record {
  plain = record { kind = refl; window = inr refl; place = counted; connection = omega arith };
  inside = refl;
  root = refl;
  counted = counted;
})

module _ (c : ℕ) (begin : 0 < c) (Like : Option (ℕ × ℕ) → Option (ℕ × List ℕ) → draw.World → draw.World → Type 0) (Named : draw.World → Table → List (ℕ × Pane) → Type 0) (laws : IsDeviceLike c Like) (names : AreNamesFree Named) where
  module _ (seen : Watched) (world : World) (lone : LoneWorld) (is : IsWith c begin Like Named laws names seen world lone) (none : seen.window ≡ None) (quiet : world.desktop.notes ≡ []) (well : IsWell world) where
    module _ (bytes : List ℕ) (mark : Option ℕ) (tag fid afid : ℕ) (uname aname : List ℕ) (attach : IsAttach lone.session bytes tag fid afid uname aname) (path text : List ℕ) (asked : attach_of aname ≡ Fresh path text)
        (root : Desktop × ℕ) (given : whole.attached c world.desktop (attach_of aname) ≡ Ok root) (fresh : IsFresh c world.desktop root) where
      abbrev pub attached : Left Desktop
      attached = answer (desktop_for c) lone.session world.desktop bytes mark

      abbrev pub after_attach : World
      after_attach = with_left world c attached

      -- what is known of the session then
      abbrev pub known : Watched
      known = record { attached = true; window = Some root.1 }

      answered : attached ≡ left (and_fid lone.session fid (fid_at (root_of root.1)), root.0) (Rattach tag (qid (root_of root.1)))
      answered = attach_answered (desktop_for c) lone.session world.desktop bytes mark tag fid afid uname aname attach root given

      pub serial : root.1 ≡ world.desktop.table.serials + 1
      serial = ap (λ (r : Desktop × ℕ). r.1) fresh.left_so ∙ (new_made world.desktop.table fresh.host fresh.options fresh.hide fresh.step fresh.done).serials

      pub counted : (root.1 == 0) ≡ false
      counted = ne_eqb root.1 0 (λ zero. absurd (omega (arith, zero, serial)))

      module _ (home : fresh.host ≡ 0) where
        done : rio world.desktop.table (act.New 0 fresh.options fresh.hide) ≡ Ok fresh.step
        done = subst (λ (host : ℕ). rio world.desktop.table (act.New host fresh.options fresh.hide) ≡ Ok fresh.step) home fresh.done

        there : window_of fresh.step.table (world.desktop.table.serials + 1) ≡ Some (new_made world.desktop.table 0 fresh.options fresh.hide fresh.step done).window
        there = (new_made world.desktop.table 0 fresh.options fresh.hide fresh.step done).there

        -- the notes of the turn are those of the act
        told : attached.rest.notes ≡ fresh.step.notes
        unfolding stepped
        told = ap (λ (l : Left Desktop). l.rest.notes) answered ∙ ap (λ (r : Desktop × ℕ). r.0.notes) fresh.left_so ∙ ap (λ (ns : List (ℕ × Note)). ns ++ fresh.step.notes) quiet

        -- and make the window
        last : last_made (notes_of (Some root.1) fresh.step.notes) ≡ Some root.1
        last =
            subst (λ (n : ℕ). last_made (notes_of (Some n) fresh.step.notes) ≡ Some n) (sym serial)
            (let made = (new_made world.desktop.table 0 fresh.options fresh.hide fresh.step done).window in
            let next = world.desktop.table.serials + 1 in
            let leads = next_leads world.desktop.table fresh.options fresh.hide fresh.step is.same.drawn.sound (no_later_host c Like Named laws names world.desktop.table is.same.drawn.sound next (omega arith)) done in
            tells_last next leads.now fresh.step.orders fresh.step.notes leads.stands.tells made.r
            (sym (led_to next None fresh.step leads) ∙ ap (option_map (λ (v : Window). v.r)) there))

        -- ---- the session's own world

        module _ (mark_told : Option ℕ) where
          -- what the session is told
          abbrev pub items : List Item
          items = Sent bytes mark_told ∷ noted known (settled after_attach).0.desktop.notes

          order_after : AreInOrder after_attach
          order_after = ascend-with world.sessions c attached.session is.order

          noted_so : notes_in items ≡ notes_of (Some root.1) fresh.step.notes
          noted_so = notes_same known (settled after_attach).0.desktop.notes ∙ ap (notes_of (Some root.1)) (settled_notes after_attach order_after ∙ told)

          made_so : made_in items ≡ Some root.1
          made_so = ap last_made noted_so ∙ last

          abbrev t : LoneDesktop
          t = record lone.desktop { made = made_in items }

          given_alone : lone_desktop.attached t (attach_of aname) ≡ Ok (t, root.1)
          given_alone = rw asked (by (made_in items) made_so)
            where
              gives : ℕ → Outcome (LoneDesktop × ℕ)
              gives serial = Ok (t, serial)

              by : (o : Option ℕ) → o ≡ Some root.1 → ◌>>=◌ {B = LoneDesktop × ℕ} (value_or_refuse o 41) (λ serial. Ok (t, serial)) ≡ Ok (t, root.1)
              by (Some n) e = let same : n ≡ root.1 = cc in ap gives same
              by None e = absurd cc

          abbrev alone_left : Left LoneDesktop
          alone_left = answer lone_desktop lone.session t bytes mark_told

          answered_alone : alone_left ≡ left (and_fid lone.session fid (fid_at (root_of root.1)), t) (Rattach tag (qid (root_of root.1)))
          answered_alone = attach_answered lone_desktop lone.session t bytes mark_told tag fid afid uname aname attach (t, root.1) given_alone

          same_first : SameDesktops Like Named None world.desktop t
          same_first =
              let before = subst (λ (o : Option ℕ). SameDesktops Like Named o world.desktop lone.desktop) none is.same in
              record { drawn = before.drawn; order = before.order; names = before.names; window = before.window; device = before.device }

          abbrev Have : ℕ → Desktop → LoneDesktop → Type 0
          Have n s u = SameDesktops Like Named (Some n) s u

          -- who uses windows makes no difference
          beside_users : (n : ℕ) (s : Desktop) (u : LoneDesktop) (users : List (ℕ × List ℕ)) → Have n s u → Have n (record s { users = users }) u
          beside_users n s u users same = record {
            drawn = (led_beside s s (record s { users = users }) refl refl (led_itself s same.drawn)).drawn;
            order = same.order;
            names = same.names;
            window = record { alone = same.window.alone; rect = same.window.rect; root = same.window.root; bare = same.window.bare; counted = same.window.counted };
            device = same.device;
          }

          same_after : Have root.1 attached.rest (fold noted_alone alone_left.rest (notes_of (Some root.1) attached.rest.notes))
          same_after =
              subst (λ (ns : List (ℕ × Note)). Have root.1 attached.rest (fold noted_alone alone_left.rest (notes_of (Some root.1) ns))) (sym told)
              (subst (λ (l : Left LoneDesktop). Have root.1 attached.rest (fold noted_alone l.rest (notes_of (Some root.1) fresh.step.notes))) (sym answered_alone)
              (subst (λ (l : Left Desktop). Have root.1 l.rest (fold noted_alone t (notes_of (Some root.1) fresh.step.notes))) (sym answered)
              (subst (λ (r : Desktop × ℕ). Have root.1 r.0 (fold noted_alone t (notes_of (Some root.1) fresh.step.notes))) (sym fresh.left_so)
              (subst (λ (n : ℕ). Have n (used_by c (stepped world.desktop fresh.step, fresh.step.table.serials)).0 (fold noted_alone t (notes_of (Some n) fresh.step.notes))) (sym serial)
              (beside_users (world.desktop.table.serials + 1) (stepped world.desktop fresh.step) (fold noted_alone t (notes_of (Some (world.desktop.table.serials + 1)) fresh.step.notes))
              (with_user (stepped world.desktop fresh.step).users fresh.step.table.serials c)
              (new_same c Like Named laws names world.desktop t fresh.options fresh.hide fresh.step (new_made world.desktop.table 0 fresh.options fresh.hide fresh.step done).window same_first done there))))))

          -- the session has the root of its window's tree, and nothing else
          mine_none : KeepsMine None lone.session
          mine_none = subst (λ (o : Option ℕ). KeepsMine o lone.session) none is.mine

          mine_after : KeepsMine (Some root.1) (and_fid lone.session fid (fid_at (root_of root.1)))
          mine_after = record {
            fids = subst (λ (fids : List (ℕ × Fid)). All (λ (entry : ℕ × Fid). IsMineFid (Some root.1) entry.1) (and fids fid (fid_at (root_of root.1)))) (sym (none_mine lone.session mine_none))
                (All-cons (λ (entry : ℕ × Fid). IsMineFid (Some root.1) entry.1) (fid, fid_at (root_of root.1)) [] (record { node = root_mine root.1 counted; opened = λ opened. absurd cc }) (All-nil (λ (entry : ℕ × Fid). IsMineFid (Some root.1) entry.1)));
            connections = mine_none.connections;
          }

          -- others have nothing of it
          away : (d : ℕ) (session : Session) → (d ≡ c → ⊥) → lookup world.sessions d ≡ Some session → IsElsewhere (Some root.1) session
          away d session other at = record {
            fids = All-weaker (λ (entry : ℕ × Fid). IsWithin world.desktop.table.serials entry.1.node) (λ (entry : ℕ × Fid). IsAway (Some root.1) entry.1.node) (λ entry within. apart entry.1.node within) session.fids (well.within d session at);
            counted = (is.elsewhere d session other at).counted;
          }
            where
              later : (n : ℕ) → n ≤ world.desktop.table.serials → Some root.1 ≡ Some n → ⊥
              later n few e = let same : root.1 ≡ n = cc in omega (arith, few, same, serial)

              apart : (node : Node) → IsWithin world.desktop.table.serials node → IsAway (Some root.1) node
              apart node within = record { serial = later node.serial within.serial; root = later node.root within.root }

          -- the session's own world once it took the notes
          abbrev told_world : List Note → LoneWorld
          told_world ns = record { session = alone_left.session; desktop = fold noted_alone alone_left.rest ns }

          session_so : attached.session ≡ and_fid lone.session fid (fid_at (root_of root.1))
          session_so = ap (λ (l : Left Desktop). l.session) answered

          alone_so : alone_left.session ≡ and_fid lone.session fid (fid_at (root_of root.1))
          alone_so = ap (λ (l : Left LoneDesktop). l.session) answered_alone

          both : IsWith c begin Like Named laws names known after_attach (told_world (notes_of (Some root.1) attached.rest.notes))
          both = record {
            lives = with-here world.sessions c lone.session attached.session is.lives ∙ ap Some (session_so ∙ sym alone_so);
            same = same_after;
            mine = subst (KeepsMine (Some root.1)) (sym alone_so) mine_after;
            order = order_after;
            elsewhere = λ d session other at. away d session other (sym (with-others world.sessions c d attached.session other) ∙ at);
          }

          ends : (replies_to c (settled after_attach).1 ≡ (all_settled (told_world (notes_of (Some root.1) attached.rest.notes))).1) × IsWith c begin Like Named laws names known (settled after_attach).0 (all_settled (told_world (notes_of (Some root.1) attached.rest.notes))).0
              × ((settled after_attach).0.desktop.notes ≡ attached.rest.notes)
          ends = settled_with c begin Like Named laws names known after_attach (told_world (notes_of (Some root.1) attached.rest.notes)) both

          taken : told_world (notes_of (Some root.1) attached.rest.notes) ≡ told_world (notes_in items)
          taken = ap told_world (ap (notes_of (Some root.1)) told ∙ sym noted_so)

          -- The attach is answered alike with all that comes after it, and both worlds are the same to the session then.
          pub attach_alike : (replies_to c (reply_to c attached.reply ++ (settled after_attach).1) ≡ (lone_step lone items).1) × IsWith c begin Like Named laws names known (settled after_attach).0 (lone_step lone items).0
          unfolding lone_step
          attach_alike = (
            replies-append c (reply_to c attached.reply) (settled after_attach).1
                ∙ ap (λ (first : List (List ℕ)). first ++ replies_to c (settled after_attach).1) (own-reply c attached.reply ∙ ap replied (ap (λ (l : Left Desktop). l.reply) answered ∙ sym (ap (λ (l : Left LoneDesktop). l.reply) answered_alone)))
                ∙ ap (λ (rest : List (List ℕ)). replied alone_left.reply ++ rest) (ends.0 ∙ ap (λ (l : LoneWorld). (all_settled l).1) taken),
            subst (λ (l : LoneWorld). IsWith c begin Like Named laws names known (settled after_attach).0 (all_settled l).0) taken ends.1,
          )

        -- ---- who uses the window

        -- The session alone uses it, and has a fid of it.
        pub attach_used : IsRegular world.desktop → IsUsedBy c root.1 attached.rest
        unfolding stepped
        attach_used regular =
            subst (λ (l : Left Desktop). IsUsedBy c root.1 l.rest) (sym answered)
            (subst (λ (r : Desktop × ℕ). IsUsedBy c root.1 r.0) (sym fresh.left_so) (record {
              sound = step_sound world.desktop.table (act.New 0 fresh.options fresh.hide) fresh.step is.same.drawn.sound done;
              given = (let two = (new_made world.desktop.table 0 fresh.options fresh.hide fresh.step done).serials in omega (arith, serial, two));
              alone = inr (alone_there);
            }))
          where
            serials_so : fresh.step.table.serials ≡ root.1
            serials_so = (new_made world.desktop.table 0 fresh.options fresh.hide fresh.step done).serials ∙ sym serial

            old : lookup (fold users_told world.desktop.users fresh.step.notes) root.1 ≡ None
            old = all_unused fresh.step.notes world.desktop.users root.1 (regular.unused root.1 (omega (arith, serial)))

            alone_there : lookup (with_user (fold users_told world.desktop.users fresh.step.notes) fresh.step.table.serials c) root.1 ≡ Some (c ∷ [])
            alone_there =
                subst (λ (n : ℕ). lookup (with_user (fold users_told world.desktop.users fresh.step.notes) n c) root.1 ≡ Some (c ∷ [])) (sym serials_so)
                (and-here (fold users_told world.desktop.users fresh.step.notes) root.1 _ ∙ ap (λ (o : Option (List ℕ)). Some (put c (unwrap_or o []))) old)

        pub attach_some : attached.session.fids ≡ [] → ⊥
        attach_some empty = some_and lone.session.fids fid (fid_at (root_of root.1)) (sym (ap (λ (l : Left Desktop). l.session.fids) answered) ∙ empty)
