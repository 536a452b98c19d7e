-- What a session answers leaves each desktop drawn.
use Rattle.std.proofs.Common.{◌≡◌, ℕ, ◌<◌, ◌+◌, Bool, true, false, not, List, [], ◌∷◌, ◌++◌, length, Option, Some, None, Ok, Err, refl, subst}
use Rattle.std.specs.Prelude.{◌==◌, ◌&&◌, filter, is_none, is_some, map, nat_le, nat_lt, IfOk, if◌then◌else◌}
use Rattle.std.specs.List.{fold}
use Rattle.std.specs.Option.{option_map}
use Rattle.model_text.specs.text.Outcome.{Outcome, ◌>>=◌, refuse_if, value_or_refuse}
use Rattle.model_text.specs.text.Map.{without}
use Rattle.model_files.specs.mouse.Pointer.{pointer_of}
use Rattle.model_files.specs.mouse.Queue.{answer_text}
use Rattle.model_files.specs.console.Console as console
use Rattle.model_rio.specs.window.Heard.{wctl_answer, wctl_text}
use Rattle.model_files.specs.wire.Message.{T, Tversion, Tauth, Tattach, Tflush, Twalk, Topen, Tcreate, Tread, Twrite, Tclunk, Tremove, Tstat, Twstat, Rclunk, R, no_fid, no_tag, tag_of_t}
use Rattle.model_files.specs.wire.Reading.{message_of, tag_of}
use Rattle.model_history.specs.words.Values.{sides_of}
use Rattle.model_files.specs.declared.tree.Kind.{Kind}
use Rattle.model_files.specs.declared.tree.Kind.TheVariants as kind
use Rattle.model_files.specs.tree.Attach.{attach_of}
use Rattle.model_files.specs.tree.Node.{Node, is_directory, may, reads, writes}
use Rattle.model_files.specs.tree.Listing.{stats}
use Rattle.model_files.specs.tree.Tree.{check_live}
use Rattle.model_world.specs.Session.{Fid, Session, Wait}
use Rattle.model_world.specs.Desktop.{Desktop}
use Rattle.model_world.specs.Whole.{attached, client, commanded, ctl_written, data_read, desktop_for, device_commanded, moused, resized, typed}
use Rattle.model_world.specs.Refusal.{refusal}
use Rattle.model_world.specs.Fids.{Done, Left, beside, cleared, fid_of, fids_gone, is_bound, is_full, is_kept, is_kind, left_by, let_go, settled}
use Rattle.model_world.specs.Walking.{attach_answer, is_taken, most_made, open_answer, opened, walk_answer}
use Rattle.model_world.specs.Reading.{Given, count_within, ctl_read, directory_read, file_read, given_in, given_now, is_open_for, most_waiting, mouse_len, node_read, read_answer, read_ended, wctl_len}
use Rattle.model_world.specs.Writing.{are_keys, file_written, line_of, raw_asked, snarf_written, whole_or_refused, with_raw_asked, write_answer}
use Rattle.model_world.specs.Waiting.{answered_or, awaited, first_of, given_or_refused, one_answered, wait_answer}
use Rattle.model_world.specs.Answer.{Taking, Ignored, TooLong, Closes, Reads, agreed_on, answer, answer_read, answer_to, asks_for_9p, clunk_answer, denied, is_version, read_or_not, replied, stat_answer, taken, taking, version_answer}
use Rattle.model_world.proofs.Others.{after_if, after_step}
use Rattle.law_others.proofs.orders.Leading.{Keeps}
use Rattle.law_others.proofs.orders.Desktops.{IsMadeDrawn, IsReadDrawn, all_leave_drawn, all_let_go_drawn, attached_drawn, client_other, commanded_drawn, connect_drawn, ctl_written_drawn, data_read_drawn, device_commanded_drawn, held_drawn, left_drawn, moused_drawn, resized_drawn, typed_drawn, written_data_drawn}

module _ (Led : Desktop → Type 0) (keep : Keeps Led) where
  abbrev IfLed : Outcome Desktop → Type 0
  IfLed o = IfOk o Led

  abbrev pub IsLeftDrawn : Left Desktop → Type 0
  IsLeftDrawn l = Led l.rest

  abbrev LeavesDrawn : Outcome (Left Desktop) → Type 0
  LeavesDrawn o = IfOk o IsLeftDrawn

  abbrev IsPairDrawn : Session × Desktop → Type 0
  IsPairDrawn after = Led after.1

  -- ---- reads of files

  abbrev IsGivenDrawn : Option (Given Desktop) → Type 0
  IsGivenDrawn None = Unit {0}
  IsGivenDrawn (Some got) = Led got.rest

  text_drawn : (given : List ℕ → Given Desktop) (text : Option (List ℕ)) → ((bytes : List ℕ) → Led (given bytes).rest) → IsGivenDrawn (option_map given text)
  text_drawn given None drawn = tt
  text_drawn given (Some bytes) drawn = drawn bytes

  given_now_drawn : (c : ℕ) (desktop : Desktop) (fid : Fid) (count : ℕ) (k : Kind) → Led desktop → IsGivenDrawn (given_now (desktop_for c) desktop fid count k)
  given_now_drawn c desktop fid count kind.Mouse is = text_drawn _ (answer_text ((desktop_for c).pane desktop fid.node.serial).mouse) (λ _. keep.beside desktop _ refl refl refl is)
  given_now_drawn c desktop fid count kind.Cons is = text_drawn _ (console.read count ((desktop_for c).pane desktop fid.node.serial).console) (λ _. keep.beside desktop _ refl refl refl is)
  given_now_drawn c desktop fid count kind.Wctl is = text_drawn _ (wctl_answer fid.told (wctl_text ((desktop_for c).pane desktop fid.node.serial).known)) (λ _. is)
  given_now_drawn c desktop fid count _ is = tt

  given_in_drawn : (c : ℕ) (desktop : Desktop) (fid : Fid) (least count : ℕ) (k : Kind) → Led desktop → IfOk (given_in (desktop_for c) desktop fid least count k) IsGivenDrawn
  given_in_drawn c desktop fid least count k is = after_step _ (refuse_if (nat_lt count least) 46) _ (λ _ _. given_now_drawn c desktop fid count k is)

  file_read_drawn : (c : ℕ) (desktop : Desktop) (fid : Fid) (offset count : ℕ) (k : Kind) → Led desktop → IfOk (file_read (desktop_for c) desktop fid offset count k) IsGivenDrawn
  file_read_drawn c desktop fid offset count kind.Ctl is = after_step _ (ctl_read (desktop_for c) desktop fid.node offset count) _ (λ _ _. is)
  file_read_drawn c desktop fid offset count kind.Data is = after_if _ (IsReadDrawn Led keep) (data_read (client c fid.node.connection) desktop count) _ (data_read_drawn Led keep (client c fid.node.connection) desktop count is) (λ got drawn. drawn)
  file_read_drawn c desktop fid offset count kind.Screen is = is
  file_read_drawn c desktop fid offset count kind.Snarf is = is
  file_read_drawn c desktop fid offset count kind.Label is = is
  file_read_drawn c desktop fid offset count kind.Text is = is
  file_read_drawn c desktop fid offset count kind.Winid is = is
  file_read_drawn c desktop fid offset count kind.Winname is = is
  file_read_drawn c desktop fid offset count kind.Picture is = is
  file_read_drawn c desktop fid offset count kind.Hwsize is = is
  file_read_drawn c desktop fid offset count kind.Mouse is = given_in_drawn c desktop fid mouse_len count kind.Mouse is
  file_read_drawn c desktop fid offset count kind.Wctl is = given_in_drawn c desktop fid wctl_len count kind.Wctl is
  file_read_drawn c desktop fid offset count kind.Cons is = given_now_drawn c desktop fid count kind.Cons is
  file_read_drawn c desktop fid offset count _ is = tt

  if_case : {A : Type 0} (P : A → Type 0) (b : Bool) (x y : Outcome A) → IfOk x P → IfOk y P → IfOk (if b then x else y) P
  if_case P true x y one two = one
  if_case P false x y one two = two

  node_read_drawn : (c : ℕ) (connections : List ℕ) (desktop : Desktop) (fid : Fid) (offset count : ℕ) → Led desktop → IfOk (node_read (desktop_for c) connections desktop fid offset count) IsGivenDrawn
  node_read_drawn c connections desktop fid offset count is =
      if_case IsGivenDrawn (is_directory fid.node) _ _
      (after_step _ (directory_read (stats ((desktop_for c).view desktop connections fid.node) fid.node) fid offset count) _ (λ _ _. is))
      (file_read_drawn c desktop fid offset count fid.node.kind is)

  -- ---- writes of files

  abbrev IsAfterDrawn : Desktop × Option ℕ → Type 0
  IsAfterDrawn after = Led after.0

  whole_drawn : (desktop : Desktop) (o : Outcome Desktop) → IfLed o → IfOk (whole_or_refused o) IsAfterDrawn
  whole_drawn desktop (Ok next) drawn = drawn
  whole_drawn desktop (Err n) drawn = tt

  raw_drawn : (c : ℕ) (desktop : Desktop) (window : ℕ) (asked : Option Bool) → Led desktop → Led (with_raw_asked (desktop_for c) desktop window asked)
  raw_drawn c desktop window None is = is
  raw_drawn c desktop window (Some raw) is = keep.beside desktop _ refl refl refl is

  file_written_drawn : (c : ℕ) (desktop : Desktop) (node : Node) (offset : ℕ) (bytes : List ℕ) (mark : Option ℕ) (k : Kind) → 0 < c → Led desktop → IfOk (file_written (desktop_for c) desktop node offset bytes mark k) IsAfterDrawn
  file_written_drawn c desktop node offset bytes mark kind.Ctl begun is = whole_drawn desktop (ctl_written (client c node.connection) desktop bytes) (ctl_written_drawn Led keep (client c node.connection) desktop bytes is)
  file_written_drawn c desktop node offset bytes mark kind.Data begun is = written_data_drawn Led keep (client c node.connection) desktop bytes mark (client_other c node.connection begun) is
  file_written_drawn c desktop node offset bytes mark kind.Mousein begun is =
      whole_drawn desktop (value_or_refuse (pointer_of bytes) 51 >>= λ e. Ok (moused desktop e)) (after_step _ (value_or_refuse (pointer_of bytes) 51) _ (λ e _. moused_drawn Led keep desktop e is))
  file_written_drawn c desktop node offset bytes mark kind.Kbdin begun is =
      whole_drawn desktop (refuse_if (not (are_keys bytes)) 51 >>= λ _. Ok (typed desktop bytes)) (after_step _ (refuse_if (not (are_keys bytes)) 51) _ (λ _ _. typed_drawn Led keep desktop bytes is))
  file_written_drawn c desktop node offset bytes mark kind.Snarf begun is =
      let old = (desktop_for c).snarf desktop node.serial in
      whole_drawn desktop (snarf_written old offset bytes >>= λ new. Ok ((desktop_for c).with_snarf desktop node.serial new)) (after_step _ (snarf_written old offset bytes) _ (λ _ _. keep.beside desktop _ refl refl refl is))
  file_written_drawn c desktop node offset bytes mark kind.DeviceWctl begun is = whole_drawn desktop (device_commanded desktop bytes) (device_commanded_drawn Led keep desktop bytes is)
  file_written_drawn c desktop node offset bytes mark kind.Cons begun is = keep.beside desktop _ refl refl refl is
  file_written_drawn c desktop node offset bytes mark kind.Consctl begun is =
      whole_drawn desktop (raw_asked (line_of bytes) >>= λ asked. Ok (with_raw_asked (desktop_for c) desktop node.serial asked)) (after_step _ (raw_asked (line_of bytes)) _ (λ asked _. raw_drawn c desktop node.serial asked is))
  file_written_drawn c desktop node offset bytes mark kind.Hwsize begun is =
      whole_drawn desktop (value_or_refuse (sides_of (line_of bytes)) 51 >>= λ size. resized desktop size) (resized_drawn Led keep desktop (line_of bytes) is)
  file_written_drawn c desktop node offset bytes mark kind.Mouse begun is = is
  file_written_drawn c desktop node offset bytes mark kind.Label begun is = keep.beside desktop _ refl refl refl is
  file_written_drawn c desktop node offset bytes mark kind.Wctl begun is = whole_drawn desktop (commanded desktop node.serial bytes) (commanded_drawn Led keep desktop node.serial bytes is)
  file_written_drawn c desktop node offset bytes mark _ begun is = tt

  -- ---- messages that keep all fids

  beside_drawn : (desktop : Desktop) (o : Outcome Done) → Led desktop → LeavesDrawn (beside desktop o)
  beside_drawn desktop (Ok d) is = is
  beside_drawn desktop (Err n) is = tt

  attach_drawn : (c : ℕ) (session : Session) (desktop : Desktop) (tag fid afid : ℕ) (aname : List ℕ) → Led desktop → LeavesDrawn (attach_answer (desktop_for c) session desktop tag fid afid aname)
  unfolding attach_answer
  attach_drawn c session desktop tag fid afid aname is =
      after_step _ (refuse_if (not (afid == no_fid)) 40) _ (λ _ _.
      after_step _ (refuse_if (is_bound session fid) 33) _ (λ _ _.
      after_step _ (refuse_if (is_full session) 44) _ (λ _ _.
      after_if _ (IsMadeDrawn Led keep) (attached c desktop (attach_of aname)) _ (attached_drawn Led keep c desktop (attach_of aname) is) (λ root drawn. drawn))))

  end_drawn : (session : Session) (desktop : Desktop) (tag number count : ℕ) (got : Option (Given Desktop)) → Led desktop → IsGivenDrawn got → LeavesDrawn (read_ended session desktop tag number count got)
  end_drawn session desktop tag number count (Some got) is drawn = drawn
  end_drawn session desktop tag number count None is drawn = after_step _ (refuse_if (nat_le most_waiting (length session.waiting)) 45) _ (λ _ _. is)

  read_drawn : (c : ℕ) (session : Session) (desktop : Desktop) (tag number offset count : ℕ) → Led desktop → LeavesDrawn (read_answer (desktop_for c) session desktop tag number offset count)
  unfolding read_answer
  read_drawn c session desktop tag number offset count is =
      after_step _ (fid_of session number) _ (λ fid _.
      after_step _ (refuse_if (is_none fid.mode) 37) _ (λ _ _.
      after_step _ (refuse_if (not (is_open_for reads fid)) 38) _ (λ _ _.
      after_step _ (check_live ((desktop_for c).view desktop session.connections fid.node) fid.node) _ (λ _ _.
      after_if _ IsGivenDrawn (node_read (desktop_for c) session.connections desktop fid offset (count_within session count)) _
      (node_read_drawn c session.connections desktop fid offset (count_within session count) is) (λ got drawn. end_drawn session desktop tag number (count_within session count) got is drawn)))))

  write_drawn : (c : ℕ) (session : Session) (desktop : Desktop) (tag number offset : ℕ) (bytes : List ℕ) (mark : Option ℕ) → 0 < c → Led desktop → LeavesDrawn (write_answer (desktop_for c) session desktop tag number offset bytes mark)
  unfolding write_answer
  write_drawn c session desktop tag number offset bytes mark begun is =
      after_step _ (fid_of session number) _ (λ fid _.
      after_step _ (refuse_if (is_none fid.mode) 37) _ (λ _ _.
      after_step _ (refuse_if (not (is_open_for writes fid)) 38) _ (λ _ _.
      after_step _ (check_live ((desktop_for c).view desktop session.connections fid.node) fid.node) _ (λ _ _.
      after_if _ IsAfterDrawn (file_written (desktop_for c) desktop fid.node offset bytes mark fid.node.kind) _
      (file_written_drawn c desktop fid.node offset bytes mark fid.node.kind begun is) (λ after drawn. drawn)))))

  -- ---- fids go

  pub gone_drawn : (c : ℕ) (session : Session) (desktop : Desktop) (gone : List Fid) → 0 < c → Led desktop → IsPairDrawn (fids_gone (desktop_for c) session desktop gone)
  unfolding fids_gone settled
  gone_drawn c session desktop gone begun is =
      let ended : Desktop = fold (desktop_for c).leave desktop (filter (λ k. not (is_kept session k)) session.connections) in
      let let_all : Desktop = fold (let_go (desktop_for c)) ended gone in
      left_drawn Led keep c (left_by (settled (desktop_for c) session desktop).0 gone) let_all (all_let_go_drawn Led keep c gone ended (all_leave_drawn Led keep c (filter (λ k. not (is_kept session k)) session.connections) desktop begun is))

  pub cleared_drawn : (c : ℕ) (session : Session) (desktop : Desktop) → 0 < c → Led desktop → IsPairDrawn (cleared (desktop_for c) session desktop)
  cleared_drawn c session desktop begun is = gone_drawn c (record session { fids = []; waiting = [] }) desktop (map (λ entry. entry.1) session.fids) begun is

  clunk_drawn : (c : ℕ) (session : Session) (desktop : Desktop) (number : ℕ) (reply : R) → 0 < c → Led desktop → LeavesDrawn (clunk_answer (desktop_for c) session desktop number reply)
  unfolding clunk_answer
  clunk_drawn c session desktop number reply begun is =
      after_step _ (fid_of session number) _ (λ fid _. gone_drawn c (record session { fids = without session.fids number }) desktop (fid ∷ []) begun is)

  agreed_drawn : (tag msize : ℕ) (version : List ℕ) (after : Session × Desktop) → IsPairDrawn after → IsLeftDrawn (agreed_on tag msize version after)
  agreed_drawn tag msize version after is = by (asks_for_9p version) refl
    where
      by : (b : Bool) → asks_for_9p version ≡ b → IsLeftDrawn (agreed_on tag msize version after)
      by true at = rw at is
      by false at = rw at is

  version_drawn : (c : ℕ) (session : Session) (desktop : Desktop) (tag msize : ℕ) (version : List ℕ) → 0 < c → Led desktop → LeavesDrawn (version_answer (desktop_for c) session desktop tag msize version)
  unfolding version_answer
  version_drawn c session desktop tag msize version begun is =
      after_step _ (refuse_if (nat_lt msize 256) 48) _ (λ _ _. agreed_drawn tag msize version (cleared (desktop_for c) session desktop) (cleared_drawn c session desktop begun is))

  -- ---- an open

  opened_drawn : (c : ℕ) (session : Session) (desktop : Desktop) (tag number mode : ℕ) (fid : Fid) → Led desktop → IsLeftDrawn (opened (desktop_for c) session desktop tag number mode fid)
  opened_drawn c session desktop tag number mode fid is = by (is_kind kind.New fid.node.kind) refl
    where
      by : (b : Bool) → is_kind kind.New fid.node.kind ≡ b → IsLeftDrawn (opened (desktop_for c) session desktop tag number mode fid)
      by true at = rw at (connect_drawn Led keep desktop (client c (session.made + 1)) is)
      by false at = rw at (held_drawn Led keep c true desktop fid.node is)

  open_drawn : (c : ℕ) (session : Session) (desktop : Desktop) (tag number mode : ℕ) → Led desktop → LeavesDrawn (open_answer (desktop_for c) session desktop tag number mode)
  unfolding open_answer
  open_drawn c session desktop tag number mode is =
      after_step _ (fid_of session number) _ (λ fid _.
      after_step _ (refuse_if (is_some fid.mode) 36) _ (λ _ _.
      after_step _ (check_live ((desktop_for c).view desktop session.connections fid.node) fid.node) _ (λ _ _.
      after_step _ (refuse_if (not (may fid.node mode)) 38) _ (λ _ _.
      after_step _ (refuse_if (is_taken (desktop_for c) session desktop fid.node) 43) _ (λ _ _.
      after_step _ (refuse_if (is_kind kind.New fid.node.kind && nat_le most_made session.made) 44) _ (λ _ _.
      opened_drawn c session desktop tag number mode fid is))))))

  -- ---- each message

  answer_to_drawn : (c : ℕ) (session : Session) (desktop : Desktop) (mark : Option ℕ) (m : T) → 0 < c → Led desktop → LeavesDrawn (answer_to (desktop_for c) session desktop mark m)
  answer_to_drawn c session desktop mark (Tversion tag msize version) begun is = version_drawn c session desktop tag msize version begun is
  answer_to_drawn c session desktop mark (Tauth tag afid uname aname) begun is = tt
  answer_to_drawn c session desktop mark (Tattach tag fid afid uname aname) begun is = attach_drawn c session desktop tag fid afid aname is
  answer_to_drawn c session desktop mark (Tflush tag oldtag) begun is = is
  answer_to_drawn c session desktop mark (Twalk tag fid newfid names) begun is = beside_drawn desktop (walk_answer (desktop_for c) session desktop tag fid newfid names) is
  answer_to_drawn c session desktop mark (Topen tag fid mode) begun is = open_drawn c session desktop tag fid mode is
  answer_to_drawn c session desktop mark (Tcreate tag fid name perm mode) begun is = beside_drawn desktop (denied session fid) is
  answer_to_drawn c session desktop mark (Tread tag fid offset count) begun is = read_drawn c session desktop tag fid offset count is
  answer_to_drawn c session desktop mark (Twrite tag fid offset bytes) begun is = write_drawn c session desktop tag fid offset bytes mark begun is
  answer_to_drawn c session desktop mark (Tclunk tag fid) begun is = clunk_drawn c session desktop fid (Rclunk tag) begun is
  answer_to_drawn c session desktop mark (Tremove tag fid) begun is = clunk_drawn c session desktop fid (refusal tag 38) begun is
  answer_to_drawn c session desktop mark (Tstat tag fid) begun is = beside_drawn desktop (stat_answer (desktop_for c) session desktop tag fid) is
  answer_to_drawn c session desktop mark (Twstat tag fid stat) begun is = beside_drawn desktop (denied session fid) is

  read_or_not_drawn : (c : ℕ) (session : Session) (desktop : Desktop) (mark : Option ℕ) (m : Option T) → 0 < c → Led desktop → LeavesDrawn (read_or_not (desktop_for c) session desktop mark m)
  unfolding answer_read
  read_or_not_drawn c session desktop mark None begun is = tt
  read_or_not_drawn c session desktop mark (Some m) begun is =
      after_step _ (refuse_if (not (is_version m) && (tag_of_t m == no_tag)) 30) _ (λ _ _.
      after_step _ (refuse_if (not (is_version m) && not session.agreed) 31) _ (λ _ _. answer_to_drawn c session desktop mark m begun is))

  replied_drawn : (session : Session) (desktop : Desktop) (tag : ℕ) (o : Outcome (Left Desktop)) → Led desktop → LeavesDrawn o → IsLeftDrawn (replied session desktop tag o)
  replied_drawn session desktop tag (Ok l) is drawn = drawn
  replied_drawn session desktop tag (Err n) is drawn = is

  pub answer_drawn : (c : ℕ) (session : Session) (desktop : Desktop) (bytes : List ℕ) (mark : Option ℕ) → 0 < c → Led desktop → IsLeftDrawn (answer (desktop_for c) session desktop bytes mark)
  unfolding answer
  answer_drawn c session desktop bytes mark begun is = by (taking session bytes)
    where
      by : (t : Taking) → IsLeftDrawn (taken (desktop_for c) session desktop bytes mark t)
      by Ignored = is
      by TooLong = is
      by Closes = cleared_drawn c session desktop begun is
      by Reads = replied_drawn session desktop (tag_of bytes) _ is (read_or_not_drawn c session desktop mark (message_of bytes) begun is)

  -- ---- reads that waited

  abbrev IsSomeDrawn : Option (Left Desktop) → Type 0
  IsSomeDrawn (Some l) = Led l.rest
  IsSomeDrawn None = Unit {0}

  late_drawn : (c : ℕ) (session : Session) (desktop : Desktop) (tag : ℕ) (wait : Wait) (fid : Outcome Fid) (later : Option (Left Desktop)) → Led desktop → IsSomeDrawn later
      → IsSomeDrawn (answered_or session desktop tag wait (given_or_refused (desktop_for c) desktop wait.count fid) later)
  late_drawn c session desktop tag wait (Err n) later is drawn = is
  late_drawn c session desktop tag wait (Ok fid) later is drawn = by (given_now (desktop_for c) desktop fid wait.count fid.node.kind) (given_now_drawn c desktop fid wait.count fid.node.kind is)
    where
      by : (o : Option (Given Desktop)) → IsGivenDrawn o → IsSomeDrawn (answered_or session desktop tag wait (option_map Ok o) later)
      by None given = drawn
      by (Some got) given = given

  first_drawn : (c : ℕ) (session : Session) (desktop : Desktop) (before after : List (ℕ × Wait)) → Led desktop → IsSomeDrawn (first_of (desktop_for c) session desktop before after)
  unfolding first_of wait_answer
  first_drawn c session desktop before [] is = tt
  first_drawn c session desktop before ((tag, wait) ∷ after) is =
      late_drawn c (record session { waiting = before ++ after }) desktop tag wait (awaited (desktop_for c) session desktop wait) _ is (first_drawn c session desktop (before ++ (tag, wait) ∷ []) after is)

  pub one_drawn : (c : ℕ) (session : Session) (desktop : Desktop) (after : Left Desktop) → Led desktop → one_answered (desktop_for c) session desktop ≡ Some after → Led after.rest
  one_drawn c session desktop after is e = subst IsSomeDrawn e (first_drawn c session desktop [] session.waiting is)
