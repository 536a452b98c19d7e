-- A message of another session keeps the server and a world of the session's own the same to it, once that world takes its notes.
use Rattle.std.proofs.Common.{◌≡◌, ℕ, ◌==◌, ◌+◌, ◌<◌, ◌≤◌, Bool, true, false, List, [], ◌∷◌, fold, length, Option, Some, None, is_some, Ok, Err, refl, ap, subst, arith, eqb-true}
use Rattle.std.specs.Prelude.{All, IfOk, IfSome, filter, map, nat_le, nat_lt, not, is_none, ◌&&◌, ◌||◌}
use Rattle.std.specs.List.{list_any}
use Rattle.std.specs.Option.{option_map}
use Rattle.std.proofs.lemmas.Bool.{cond_both}
use Rattle.std.proofs.lemmas.Bool.Decides.{nat_tests}
use Rattle.std.proofs.lemmas.List.Elements.{All-cons, All-filter, All-head, All-map, All-nil, All-tail}
use Rattle.std.proofs.lemmas.Map.Entries.{All-lookup}
use Rattle.model_text.specs.text.Outcome.{Outcome, ◌>>=◌, refuse_if, value_or_refuse}
use Rattle.model_text.specs.text.Map.{is_key, lookup, without}
use Rattle.model_history.specs.words.Values.{sides_of}
use Rattle.model_files.specs.wire.Message.{T, Tattach, Twalk, Topen, Twrite, Tversion, Tauth, Tflush, Tcreate, Tread, Tclunk, Tremove, Tstat, Twstat, R, Rclunk, no_fid, no_tag, tag_of_t}
use Rattle.model_files.specs.wire.Reading.{message_of, tag_of}
use Rattle.model_files.specs.mouse.Pointer.{pointer_of}
use Rattle.model_files.specs.mouse.Queue.{answer_text}
use Rattle.model_files.specs.console.Console as console
use Rattle.model_rio.specs.window.Heard.{ConsctlHeld, ConsoleRead, Labelled, MouseHeld, MouseRead, Raw, Written, wctl_answer, wctl_text}
use Rattle.model_rio.specs.window.Pane.{Pane}
use Rattle.model_rio.specs.rio.Table.{Table}
use Rattle.model_draw.specs.draw.World as draw
use Rattle.model_files.specs.declared.tree.Kind.{Kind}
use Rattle.model_files.specs.declared.tree.Kind.TheVariants as kind
use Rattle.model_files.specs.tree.Node.{Node, is_directory, may, reads, row, writes}
use Rattle.model_files.specs.tree.Tree.{View, check_live, is_gone, is_of_connection}
use Rattle.model_files.specs.tree.Attach.{attach_of}
use Rattle.model_files.specs.tree.Listing.{stats}
use Rattle.model_world.specs.Session.{Fid, Session}
use Rattle.model_world.specs.Fids.{Done, Left, beside, cleared, fid_of, fids_gone, is_bound, is_full, is_kept, is_kind, left_by, let_go, settled, with_held}
use Rattle.model_world.specs.Walking.{attach_answer, is_taken, most_made, open_answer, opened, walk_answer}
use Rattle.model_world.specs.Reading.{Given, count_within, ctl_read, directory_read, file_read, given_in, given_now, is_open_for, most_waiting, mouse_len, node_read, read_answer, read_ended, wctl_len}
use Rattle.model_world.specs.Writing.{are_keys, file_written, line_of, raw_asked, snarf_written, whole_or_refused, with_raw_asked, write_answer}
use Rattle.model_world.specs.Refusal.{refusal}
use Rattle.model_world.specs.Answer.{Taking, Ignored, TooLong, Closes, Reads, agreed_on, answer, answer_read, answer_to, asks_for_9p, clunk_answer, denied, is_version, read_or_not, replied, stat_answer, taken, taking, version_answer}
use Rattle.model_world.specs.Desktop.{Desktop}
use Rattle.model_world.specs.Whole as whole
use Rattle.model_world.specs.Whole.{client, desktop_for}
use Rattle.model_world.proofs.Others.{after_if, after_step}
use Rattle.law_likeness.proofs.agreement.Relations.{not_refused}
use Rattle.model_alone.specs.alone.Uses.{looked_at}
use Rattle.model_alone.specs.alone.Lone.{LoneDesktop}
use Rattle.law_strangers.specs.followed.Devices.{AreNamesFree, IsDeviceLike, LeavesName}
use Rattle.law_strangers.specs.followed.Following.{HasConnection, named_in}
use Rattle.law_strangers.proofs.followed.Answers.{all_left_told}
use Rattle.law_strangers.proofs.strangers.Late.{IsAway}
use Rattle.law_strangers.proofs.strangers.Others.{IsGiven, Reached, Told, attached_reached, beside_told, choose_told, commanded_reached, connect_told, device_commanded_reached, heard_told, leave_told, moused_reached, read_told, resized_reached, typed_reached, write_told}

-- the connection of a node that is not refused is one of the session's
live_connection : (view : View) (node : Node) (u : Unit {0}) → is_of_connection node.kind ≡ true → check_live view node ≡ Ok u → list_any (λ n. n == node.connection) view.connections ≡ true
unfolding check_live
live_connection view node u of fine = by (is_gone view node) (list_any (λ n. n == node.connection) view.connections) fine
  where
    by : (gone among : Bool) → (refuse_if gone 42 >>= λ _. refuse_if (is_of_connection node.kind && not among) 34) ≡ Ok u → among ≡ true
    by gone true fine = refl
    by true false fine = absurd cc
    by false false fine = absurd (ended (is_of_connection node.kind) of fine)
      where
        ended : (b : Bool) → b ≡ true → refuse_if (b && true) 34 ≡ Ok u → ⊥
        ended true is fine = cc fine
        ended false is fine = cc is

among_few : (ns : List ℕ) (n : ℕ) → All HasConnection ns → list_any (λ m. m == n) ns ≡ true → HasConnection n
among_few [] n all is = absurd cc
among_few (m ∷ ms) n all is = by (m == n) refl is (among_few ms n (All-tail HasConnection m ms all))
  where
    by : (b : Bool) → (m == n) ≡ b → (b || list_any (λ k. k == n) ms) ≡ true → (list_any (λ k. k == n) ms ≡ true → HasConnection n) → HasConnection n
    by true same is more = subst HasConnection (eqb-true m n same) (All-head HasConnection m ms all)
    by false same is more = more is

module _ (c : ℕ) (begin : 0 < c) (Like : Option (ℕ × ℕ) → Option (ℕ × List ℕ) → draw.World → draw.World → Type 0) (Named : draw.World → Table → List (ℕ × Pane) → Type 0) (laws : IsDeviceLike c Like) (names : AreNamesFree Named) (own : Option ℕ) (d : ℕ) (first : 1 ≤ d) (other : d ≡ c → ⊥) (t : LoneDesktop) where
  abbrev Tells : Desktop → Type 0
  Tells s = Told c begin Like Named laws names own d first other t s

  abbrev Reaches : Desktop → Type 0
  Reaches s = Reached c begin Like Named laws names own d first other t s

  abbrev Knows : Desktop → Type 0
  Knows s = IsGiven c begin Like Named laws names own d first other t s

  -- ---- fids that go

  held_told : (held : Bool) (s : Desktop) (node : Node) → IsAway own node → Tells s → Tells (with_held (desktop_for d) held s node)
  held_told held s node away is =
      cond_both (is_kind kind.Mouse node.kind) ((desktop_for d).hear s node.serial (MouseHeld held)) _ Tells (λ _. heard_told c begin Like Named laws names own d first other t s node.serial (MouseHeld held) tt away.serial is)
      (λ _. cond_both (is_kind kind.Consctl node.kind) ((desktop_for d).hear s node.serial (ConsctlHeld held)) s Tells (λ _. heard_told c begin Like Named laws names own d first other t s node.serial (ConsctlHeld held) tt away.serial is) (λ _. is))

  let_go_told : (s : Desktop) (fid : Fid) → IsAway own fid.node → Tells s → Tells (let_go (desktop_for d) s fid)
  let_go_told s fid away is = cond_both (is_some fid.mode) (with_held (desktop_for d) false s fid.node) s Tells (λ _. held_told false s fid.node away is) (λ _. is)

  all_let_go_told : (gone : List Fid) (s : Desktop) → All (λ (fid : Fid). IsAway own fid.node) gone → Tells s → Tells (fold (let_go (desktop_for d)) s gone)
  all_let_go_told [] s away is = is
  all_let_go_told (fid ∷ gone) s away is =
      all_let_go_told gone (let_go (desktop_for d) s fid) (All-tail (λ (f : Fid). IsAway own f.node) fid gone away) (let_go_told s fid (All-head (λ (f : Fid). IsAway own f.node) fid gone away) is)

  all_leave_told : (gone : List ℕ) (s : Desktop) → All HasConnection gone → Tells s → Tells (fold (desktop_for d).leave s gone)
  all_leave_told [] s few is = is
  all_leave_told (n ∷ gone) s few is =
      all_leave_told gone ((desktop_for d).leave s n) (All-tail HasConnection n gone few) (leave_told c begin Like Named laws names own d first other t s n (All-head HasConnection n gone few) is)

  gone_told : (session : Session) (s : Desktop) (gone : List Fid) → All HasConnection session.connections → All (λ (fid : Fid). IsAway own fid.node) gone → Tells s → Tells (fids_gone (desktop_for d) session s gone).1
  unfolding fids_gone settled
  gone_told session s gone few away is =
      let ended : Desktop = fold (desktop_for d).leave s (filter (λ n. not (is_kept session n)) session.connections) in
      let let_all : Desktop = fold (let_go (desktop_for d)) ended gone in
      all_left_told c begin Like Named laws names own d (left_by (settled (desktop_for d) session s).0 gone) let_all t
      (all_let_go_told gone ended away (all_leave_told (filter (λ n. not (is_kept session n)) session.connections) s (All-filter (λ n. not (is_kept session n)) HasConnection session.connections few) is))

  abbrev AllAway : Session → Type 0
  AllAway session = All (λ (entry : ℕ × Fid). IsAway own entry.1.node) session.fids

  pub cleared_told : (session : Session) (s : Desktop) → All HasConnection session.connections → AllAway session → Tells s → Tells (cleared (desktop_for d) session s).1
  cleared_told session s few away is =
      gone_told (record session { fids = []; waiting = [] }) s (map (λ entry. entry.1) session.fids) few (All-map (λ (fid : Fid). IsAway own fid.node) (λ (entry : ℕ × Fid). entry.1) session.fids away) is

  abbrev ReachesLeft : Outcome (Left Desktop) → Type 0
  ReachesLeft o = IfOk o (λ l. Reaches l.rest)

  bound_away : (session : Session) → AllAway session → (number : ℕ) (fid : Fid) → fid_of session number ≡ Ok fid → IsAway own fid.node
  bound_away session away number fid e = by (lookup session.fids number) (All-lookup (λ (f : Fid). IsAway own f.node) (is_key number) session.fids away) e
    where
      by : (o : Option Fid) → IfSome o (λ (f : Fid). IsAway own f.node) → value_or_refuse o 32 ≡ Ok fid → IsAway own fid.node
      by (Some f) away e = let same : f ≡ fid = cc in subst (λ (g : Fid). IsAway own g.node) same away
      by None away e = absurd cc

  clunk_told : (session : Session) (s : Desktop) (number : ℕ) (reply : R) → All HasConnection session.connections → AllAway session → Tells s → ReachesLeft (clunk_answer (desktop_for d) session s number reply)
  unfolding clunk_answer
  clunk_told session s number reply few away is =
      after_step (λ l. Reaches l.rest) (fid_of session number) _ (λ fid e bare.
      gone_told (record session { fids = without session.fids number }) s (fid ∷ []) few (All-cons (λ (f : Fid). IsAway own f.node) fid [] (bound_away session away number fid e) (All-nil (λ (f : Fid). IsAway own f.node))) is)

  version_told : (session : Session) (s : Desktop) (tag msize : ℕ) (version : List ℕ) → All HasConnection session.connections → AllAway session → Tells s → ReachesLeft (version_answer (desktop_for d) session s tag msize version)
  unfolding version_answer
  version_told session s tag msize version few away is = after_step (λ l. Reaches l.rest) (refuse_if (nat_lt msize 256) 48) _ (λ _ _. by (asks_for_9p version) refl)
    where
      by : (b : Bool) → asks_for_9p version ≡ b → Reaches (agreed_on tag msize version (cleared (desktop_for d) session s)).rest
      by true at = rw at (λ bare. cleared_told session s few away is)
      by false at = rw at (λ bare. cleared_told session s few away is)

  -- ---- attaches and opens

  attach_told : (session : Session) (s : Desktop) (tag fid afid : ℕ) (aname : List ℕ) → Tells s → Knows s → ReachesLeft (attach_answer (desktop_for d) session s tag fid afid aname)
  unfolding attach_answer
  attach_told session s tag fid afid aname is given =
      after_step (λ l. Reaches l.rest) (refuse_if (not (afid == no_fid)) 40) _ (λ _ _.
      after_step (λ l. Reaches l.rest) (refuse_if (is_bound session fid) 33) _ (λ _ _.
      after_step (λ l. Reaches l.rest) (refuse_if (is_full session) 44) _ (λ _ _.
      after_if (λ l. Reaches l.rest) (λ made. Reaches made.0) ((desktop_for d).attached s (attach_of aname)) _ (attached_reached c begin Like Named laws names own d first other t s (attach_of aname) is given) (λ made reached. reached))))

  opened_told : (session : Session) (s : Desktop) (tag number mode : ℕ) (fid : Fid) (new : Bool) → is_kind kind.New fid.node.kind ≡ new → IsAway own fid.node → (new ≡ true → session.made + 1 ≤ most_made) → Tells s
      → Reaches (opened (desktop_for d) session s tag number mode fid).rest
  opened_told session s tag number mode fid true is away few told = rw is (λ bare. connect_told c begin Like Named laws names own d first other t s (session.made + 1) (let most = few refl in omega (arith, most)) told)
  opened_told session s tag number mode fid false is away few told = rw is (λ bare. held_told true s fid.node away told)

  below_most : (new : Bool) (made : ℕ) → (new && nat_le most_made made) ≡ false → new ≡ true → made + 1 ≤ most_made
  below_most true made fine is = grind (arith, nat_tests)
  below_most false made fine is = absurd cc

  open_told : (session : Session) (s : Desktop) (tag number mode : ℕ) → AllAway session → Tells s → ReachesLeft (open_answer (desktop_for d) session s tag number mode)
  unfolding open_answer
  open_told session s tag number mode away is =
      after_step (λ l. Reaches l.rest) (fid_of session number) _ (λ fid e.
      after_step (λ l. Reaches l.rest) (refuse_if (is_some fid.mode) 36) _ (λ _ _.
      after_step (λ l. Reaches l.rest) (check_live ((desktop_for d).view s session.connections fid.node) fid.node) _ (λ _ _.
      after_step (λ l. Reaches l.rest) (refuse_if (not (may fid.node mode)) 38) _ (λ _ _.
      after_step (λ l. Reaches l.rest) (refuse_if (is_taken (desktop_for d) session s fid.node) 43) _ (λ _ _.
      after_step (λ l. Reaches l.rest) (refuse_if (is_kind kind.New fid.node.kind && nat_le most_made session.made) 44) _ (λ u fine.
      opened_told session s tag number mode fid (is_kind kind.New fid.node.kind) refl (bound_away session away number fid e)
      (below_most (is_kind kind.New fid.node.kind) session.made (not_refused (is_kind kind.New fid.node.kind && nat_le most_made session.made) 44 u fine)) is))))))

  -- ---- reads

  abbrev IfGiven : Option (Given Desktop) → Type 0
  IfGiven o = IfSome o (λ got. Tells got.rest)

  mapped : (o : Option (List ℕ)) (f : List ℕ → Given Desktop) → ((x : List ℕ) → Tells (f x).rest) → IfGiven (option_map f o)
  mapped None f each = tt
  mapped (Some x) f each = each x

  now_told : (s : Desktop) (fid : Fid) (count : ℕ) (of : Kind) → IsAway own fid.node → Tells s → IfGiven (given_now (desktop_for d) s fid count of)
  now_told s fid count kind.Mouse away is = mapped (answer_text ((desktop_for d).pane s fid.node.serial).mouse) _ (λ text. heard_told c begin Like Named laws names own d first other t s fid.node.serial MouseRead tt away.serial is)
  now_told s fid count kind.Cons away is = mapped (console.read count ((desktop_for d).pane s fid.node.serial).console) _ (λ text. heard_told c begin Like Named laws names own d first other t s fid.node.serial (ConsoleRead count) tt away.serial is)
  now_told s fid count kind.Wctl away is = mapped (wctl_answer fid.told (wctl_text ((desktop_for d).pane s fid.node.serial).known)) _ (λ text. is)
  now_told s fid count _ away is = tt

  in_told : (s : Desktop) (fid : Fid) (least count : ℕ) (of : Kind) → IsAway own fid.node → Tells s → IfOk (given_in (desktop_for d) s fid least count of) IfGiven
  in_told s fid least count of away is = after_step IfGiven (refuse_if (nat_lt count least) 46) _ (λ _ _. now_told s fid count of away is)

  file_told : (connections : List ℕ) (s : Desktop) (fid : Fid) (offset count : ℕ) (of : Kind) → (of ≡ kind.Data → HasConnection fid.node.connection) → IsAway own fid.node → Tells s → IfOk (file_read (desktop_for d) s fid offset count of) IfGiven
  file_told connections s fid offset count kind.Ctl few away is = after_step IfGiven (ctl_read (desktop_for d) s fid.node offset count) _ (λ _ _. is)
  file_told connections s fid offset count kind.Data few away is =
      after_if IfGiven (λ got. Tells got.1) ((desktop_for d).read_data s fid.node.connection count) _ (read_told c begin Like Named laws names own d first other t s fid.node.connection count (few refl) is) (λ got told. told)
  file_told connections s fid offset count kind.Screen few away is = is
  file_told connections s fid offset count kind.Snarf few away is = is
  file_told connections s fid offset count kind.Hwsize few away is = is
  file_told connections s fid offset count kind.Label few away is = is
  file_told connections s fid offset count kind.Text few away is = is
  file_told connections s fid offset count kind.Winid few away is = is
  file_told connections s fid offset count kind.Winname few away is = is
  file_told connections s fid offset count kind.Picture few away is = is
  file_told connections s fid offset count kind.Mouse few away is = in_told s fid mouse_len count kind.Mouse away is
  file_told connections s fid offset count kind.Wctl few away is = in_told s fid wctl_len count kind.Wctl away is
  file_told connections s fid offset count kind.Cons few away is = now_told s fid count kind.Cons away is
  file_told connections s fid offset count _ few away is = tt

  node_told : (connections : List ℕ) (s : Desktop) (fid : Fid) (offset count : ℕ) → (fid.node.kind ≡ kind.Data → HasConnection fid.node.connection) → IsAway own fid.node → Tells s → IfOk (node_read (desktop_for d) connections s fid offset count) IfGiven
  node_told connections s fid offset count few away is =
      cond_both (is_directory fid.node) _ (file_read (desktop_for d) s fid offset count fid.node.kind) (λ o. IfOk o IfGiven)
      (λ _. after_step IfGiven (directory_read (stats ((desktop_for d).view s connections fid.node) fid.node) fid offset count) _ (λ _ _. is))
      (λ _. file_told connections s fid offset count fid.node.kind few away is)

  end_told : (session : Session) (s : Desktop) (tag number count : ℕ) (got : Option (Given Desktop)) → Tells s → IfGiven got → ReachesLeft (read_ended session s tag number count got)
  end_told session s tag number count (Some got) is told = λ bare. told
  end_told session s tag number count None is told = after_step (λ l. Reaches l.rest) (refuse_if (nat_le most_waiting (length session.waiting)) 45) _ (λ _ _ bare. is)

  -- the connection of a file that lives
  seen_connection : (s : Desktop) (session : Session) (node : Node) (u : Unit {0}) → All HasConnection session.connections → check_live ((desktop_for d).view s session.connections node) node ≡ Ok u → is_of_connection node.kind ≡ true → HasConnection node.connection
  unfolding whole.view_of
  seen_connection s session node u few live of = among_few session.connections node.connection few (live_connection ((desktop_for d).view s session.connections node) node u of live)

  data_of : (node : Node) → node.kind ≡ kind.Data → is_of_connection node.kind ≡ true
  unfolding row
  data_of node is = ap is_of_connection is

  ctl_of : (node : Node) → node.kind ≡ kind.Ctl → is_of_connection node.kind ≡ true
  unfolding row
  ctl_of node is = ap is_of_connection is

  read_reached : (session : Session) (s : Desktop) (tag number offset count : ℕ) → All HasConnection session.connections → AllAway session → Tells s → ReachesLeft (read_answer (desktop_for d) session s tag number offset count)
  unfolding read_answer
  read_reached session s tag number offset count few away is =
      after_step (λ l. Reaches l.rest) (fid_of session number) _ (λ fid e.
      after_step (λ l. Reaches l.rest) (refuse_if (is_none fid.mode) 37) _ (λ _ _.
      after_step (λ l. Reaches l.rest) (refuse_if (not (is_open_for reads fid)) 38) _ (λ _ _.
      after_step (λ l. Reaches l.rest) (check_live ((desktop_for d).view s session.connections fid.node) fid.node) _ (λ u live.
      after_if (λ l. Reaches l.rest) IfGiven (node_read (desktop_for d) session.connections s fid offset (count_within session count)) _
      (node_told session.connections s fid offset (count_within session count) (λ of. seen_connection s session fid.node u few live (data_of fid.node of)) (bound_away session away number fid e) is)
      (λ got told. end_told session s tag number (count_within session count) got is told)))))

  -- ---- writes

  abbrev IfAfter : Desktop × Option ℕ → Type 0
  IfAfter after = Reaches after.0

  whole_told : (o : Outcome Desktop) → IfOk o Reaches → IfOk (whole_or_refused o) IfAfter
  whole_told (Ok next) reached = reached
  whole_told (Err n) reached = tt

  raw_told : (s : Desktop) (node : Node) (asked : Option Bool) → IsAway own node → Tells s → Tells (with_raw_asked (desktop_for d) s node.serial asked)
  raw_told s node None away is = is
  raw_told s node (Some raw) away is = heard_told c begin Like Named laws names own d first other t s node.serial (Raw raw) tt away.serial is

  told_reached : (o : Outcome Desktop) → IfOk o Tells → IfOk o Reaches
  told_reached (Ok next) told = λ bare. told
  told_reached (Err n) told = tt

  file_reached : (s : Desktop) (node : Node) (offset : ℕ) (bytes : List ℕ) (mark : Option ℕ) (of : Kind) → (is_of_connection of ≡ true → HasConnection node.connection)
      → (of ≡ kind.Data → All (LeavesName (named_in s own)) (looked_at (client d node.connection) s.device bytes mark)) → IsAway own node → Knows s → Tells s
      → IfOk (file_written (desktop_for d) s node offset bytes mark of) IfAfter
  unfolding row
  file_reached s node offset bytes mark kind.Ctl few leaves away given is = whole_told ((desktop_for d).write_ctl s node.connection bytes) (told_reached ((desktop_for d).write_ctl s node.connection bytes) (choose_told c begin Like Named laws names own d first other t s node.connection bytes (few refl) is))
  file_reached s node offset bytes mark kind.Data few leaves away given is = λ bare. write_told c begin Like Named laws names own d first other t s node.connection bytes mark (few refl) (leaves refl) is
  file_reached s node offset bytes mark kind.Mousein few leaves away given is =
      whole_told (value_or_refuse (pointer_of bytes) 51 >>= λ e. Ok (whole.moused s e)) (after_step Reaches (value_or_refuse (pointer_of bytes) 51) _ (λ e _. moused_reached c begin Like Named laws names own d first other t s e is given))
  file_reached s node offset bytes mark kind.Kbdin few leaves away given is =
      whole_told (refuse_if (not (are_keys bytes)) 51 >>= λ _. Ok (whole.typed s bytes)) (after_step Reaches (refuse_if (not (are_keys bytes)) 51) _ (λ _ _. typed_reached c begin Like Named laws names own d first other t s bytes is given))
  file_reached s node offset bytes mark kind.Hwsize few leaves away given is =
      whole_told (value_or_refuse (sides_of (line_of bytes)) 51 >>= λ size. whole.resized s size) (resized_reached c begin Like Named laws names own d first other t s (line_of bytes) is given)
  file_reached s node offset bytes mark kind.Snarf few leaves away given is =
      let old = (desktop_for d).snarf s node.serial in
      whole_told (snarf_written old offset bytes >>= λ new. Ok ((desktop_for d).with_snarf s node.serial new)) (after_step Reaches (snarf_written old offset bytes) _ (λ new _ bare. beside_told c begin Like Named laws names own d first other t s s.users _ s.pointer is))
  file_reached s node offset bytes mark kind.DeviceWctl few leaves away given is = whole_told (whole.device_commanded s bytes) (device_commanded_reached c begin Like Named laws names own d first other t s bytes is given)
  file_reached s node offset bytes mark kind.Cons few leaves away given is = λ bare. heard_told c begin Like Named laws names own d first other t s node.serial (Written bytes) tt away.serial is
  file_reached s node offset bytes mark kind.Consctl few leaves away given is =
      whole_told (raw_asked (line_of bytes) >>= λ asked. Ok (with_raw_asked (desktop_for d) s node.serial asked)) (after_step Reaches (raw_asked (line_of bytes)) _ (λ asked _ bare. raw_told s node asked away is))
  file_reached s node offset bytes mark kind.Mouse few leaves away given is = λ bare. is
  file_reached s node offset bytes mark kind.Label few leaves away given is = λ bare. heard_told c begin Like Named laws names own d first other t s node.serial (Labelled bytes) tt away.serial is
  file_reached s node offset bytes mark kind.Wctl few leaves away given is = whole_told (whole.commanded s node.serial bytes) (commanded_reached c begin Like Named laws names own d first other t s node.serial bytes is given)
  file_reached s node offset bytes mark _ few leaves away given is = tt

  -- what a write of draw messages must leave alone
  abbrev pub LeavesNames : Session → Desktop → (mark : Option ℕ) → T → Type 0
  LeavesNames session s mark (Twrite tag fid offset bytes) =
      (f : Fid) → fid_of session fid ≡ Ok f → is_none f.mode ≡ false → is_open_for writes f ≡ true → check_live ((desktop_for d).view s session.connections f.node) f.node ≡ Ok tt → f.node.kind ≡ kind.Data
      → All (LeavesName (named_in s own)) (looked_at (client d f.node.connection) s.device bytes mark)
  LeavesNames session s mark _ = Unit {0}

  is_so : (b : Bool) → not b ≡ false → b ≡ true
  is_so true off = refl
  is_so false off = absurd cc

  write_reached : (session : Session) (s : Desktop) (tag number offset : ℕ) (bytes : List ℕ) (mark : Option ℕ) → All HasConnection session.connections → AllAway session → LeavesNames session s mark (Twrite tag number offset bytes) → Knows s → Tells s
      → ReachesLeft (write_answer (desktop_for d) session s tag number offset bytes mark)
  unfolding write_answer
  write_reached session s tag number offset bytes mark few away leaves given is =
      after_step (λ l. Reaches l.rest) (fid_of session number) _ (λ fid e.
      after_step (λ l. Reaches l.rest) (refuse_if (is_none fid.mode) 37) _ (λ v opened.
      after_step (λ l. Reaches l.rest) (refuse_if (not (is_open_for writes fid)) 38) _ (λ w writing.
      after_step (λ l. Reaches l.rest) (check_live ((desktop_for d).view s session.connections fid.node) fid.node) _ (λ u live.
      after_if (λ l. Reaches l.rest) IfAfter (file_written (desktop_for d) s fid.node offset bytes mark fid.node.kind) _
      (file_reached s fid.node offset bytes mark fid.node.kind (λ of. seen_connection s session fid.node u few live of)
      (λ of. leaves fid e (not_refused (is_none fid.mode) 37 v opened) (is_so (is_open_for writes fid) (not_refused (not (is_open_for writes fid)) 38 w writing)) live of) (bound_away session away number fid e) given is)
      (λ after reached. reached)))))

  -- ---- each message

  beside_reached : (s : Desktop) (o : Outcome Done) → Tells s → ReachesLeft (beside s o)
  beside_reached s (Ok done) is = λ bare. is
  beside_reached s (Err n) is = tt

  to_reached : (session : Session) (s : Desktop) (mark : Option ℕ) (m : T) → All HasConnection session.connections → AllAway session → LeavesNames session s mark m → Knows s → Tells s → ReachesLeft (answer_to (desktop_for d) session s mark m)
  to_reached session s mark (Tversion tag msize version) few away leaves given is = version_told session s tag msize version few away is
  to_reached session s mark (Tauth tag afid uname aname) few away leaves given is = tt
  to_reached session s mark (Tattach tag fid afid uname aname) few away leaves given is = attach_told session s tag fid afid aname is given
  to_reached session s mark (Tflush tag oldtag) few away leaves given is = λ bare. is
  to_reached session s mark (Twalk tag fid newfid names) few away leaves given is = beside_reached s (walk_answer (desktop_for d) session s tag fid newfid names) is
  to_reached session s mark (Topen tag fid mode) few away leaves given is = open_told session s tag fid mode away is
  to_reached session s mark (Tcreate tag fid name perm mode) few away leaves given is = beside_reached s (denied session fid) is
  to_reached session s mark (Tread tag fid offset count) few away leaves given is = read_reached session s tag fid offset count few away is
  to_reached session s mark (Twrite tag fid offset bytes) few away leaves given is = write_reached session s tag fid offset bytes mark few away leaves given is
  to_reached session s mark (Tclunk tag fid) few away leaves given is = clunk_told session s fid (Rclunk tag) few away is
  to_reached session s mark (Tremove tag fid) few away leaves given is = clunk_told session s fid (refusal tag 38) few away is
  to_reached session s mark (Tstat tag fid) few away leaves given is = beside_reached s (stat_answer (desktop_for d) session s tag fid) is
  to_reached session s mark (Twstat tag fid stat) few away leaves given is = beside_reached s (denied session fid) is

  abbrev pub LeavesNamesIf : Session → Desktop → (mark : Option ℕ) → Option T → Type 0
  LeavesNamesIf session s mark None = Unit {0}
  LeavesNamesIf session s mark (Some m) = (not (is_version m) && (tag_of_t m == no_tag)) ≡ false → (not (is_version m) && not session.agreed) ≡ false → LeavesNames session s mark m

  or_reached : (session : Session) (s : Desktop) (mark : Option ℕ) (m : Option T) → All HasConnection session.connections → AllAway session → LeavesNamesIf session s mark m → Knows s → Tells s → ReachesLeft (read_or_not (desktop_for d) session s mark m)
  unfolding answer_read
  or_reached session s mark None few away leaves given is = tt
  or_reached session s mark (Some m) few away leaves given is =
      after_step (λ l. Reaches l.rest) (refuse_if (not (is_version m) && (tag_of_t m == no_tag)) 30) _ (λ u tagged.
      after_step (λ l. Reaches l.rest) (refuse_if (not (is_version m) && not session.agreed) 31) _ (λ v agreed.
      to_reached session s mark m few away (leaves (not_refused (not (is_version m) && (tag_of_t m == no_tag)) 30 u tagged) (not_refused (not (is_version m) && not session.agreed) 31 v agreed)) given is))

  replied_reached : (session : Session) (s : Desktop) (tag : ℕ) (o : Outcome (Left Desktop)) → Tells s → ReachesLeft o → Reaches (replied session s tag o).rest
  replied_reached session s tag (Ok l) is reached = reached
  replied_reached session s tag (Err n) is reached = λ bare. is

  -- Each message of another session.
  pub answer_reached : (session : Session) (s : Desktop) (bytes : List ℕ) (mark : Option ℕ) → All HasConnection session.connections → AllAway session → (taking session bytes ≡ Reads → LeavesNamesIf session s mark (message_of bytes)) → Knows s → Tells s
      → Reaches (answer (desktop_for d) session s bytes mark).rest
  unfolding answer
  answer_reached session s bytes mark few away leaves given is = by (taking session bytes) leaves
    where
      by : (how : Taking) → (how ≡ Reads → LeavesNamesIf session s mark (message_of bytes)) → Reaches (taken (desktop_for d) session s bytes mark how).rest
      by Ignored leaves = λ bare. is
      by TooLong leaves = λ bare. is
      by Closes leaves = λ bare. cleared_told session s few away is
      by Reads leaves = replied_reached session s (tag_of bytes) (read_or_not (desktop_for d) session s mark (message_of bytes)) is (or_reached session s mark (message_of bytes) few away (leaves refl) given is)
