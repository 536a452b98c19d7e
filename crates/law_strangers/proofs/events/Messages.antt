-- A message of the session itself, once it has its window or before it asks for one.
use Rattle.std.proofs.Common.{◌≡◌, ◌∙◌, ℕ, eqb, ◌==◌, ◌<◌, Bool, true, false, List, [], ◌∷◌, ◌++◌, fold, length, Option, Some, None, refl, sym, ap, subst}
use Rattle.std.specs.Prelude.{not, ◌==◌, ◌&&◌, if◌then◌else◌}
use Rattle.std.specs.List.{cons_option, filter_map}
use Rattle.std.specs.Option.{option_map_or}
use Rattle.std.proofs.lemmas.Bool.{eqb-false, eqb-true}
use Rattle.r9_event.specs.declared.event.event.Reply.{Reply}
use Rattle.r9_event.specs.declared.event.own.Item.{Item}
use Rattle.r9_event.specs.declared.event.own.Item.TheVariants.{Sent, Noted}
use Rattle.r9_event.specs.declared.event.rio.Note.{Note}
use Rattle.model_text.specs.text.Map.{lookup}
use Rattle.model_text.proofs.map.Ascending.{ascend-with}
use Rattle.model_text.proofs.map.Maps.{with-here, with-others}
use Rattle.model_rio.specs.window.Pane.{Pane}
use Rattle.model_files.specs.wire.Message.{T, no_tag, tag_of_t}
use Rattle.model_files.specs.wire.Reading.{message_of}
use Rattle.model_rio.specs.rio.Table.{Table}
use Rattle.model_draw.specs.draw.World as draw
use Rattle.model_world.specs.Session.{Session}
use Rattle.model_world.specs.Fids.{Left}
use Rattle.model_world.specs.Answer.{Reads, answer, is_version, taking}
use Rattle.model_world.specs.Desktop.{Desktop}
use Rattle.model_world.specs.Whole.{desktop_for}
use Rattle.model_world.specs.World.{World}
use Rattle.model_world.specs.Waiting.{one_answered}
use Rattle.model_world.specs.Standing.{AllWaitOn, AreInOrder}
use Rattle.model_world.specs.Replay.{first_answered, reply_to, settled, waiting_in, with_left}
use Rattle.model_world.proofs.Settling.{IfNext, all_in, first_leaves, settled_keeps}
use Rattle.model_world.proofs.Sleeping.{one_quiet}
use Rattle.model_alone.specs.alone.Isolated.{replies_to}
use Rattle.model_alone.specs.alone.Own.{Watched, noted, reasons_from}
use Rattle.model_alone.specs.alone.Uses.{bytes_used}
use Rattle.model_alone.specs.alone.Lone.{LoneDesktop, LoneWorld, all_settled, lone_desktop, lone_step, made_in, note_in, noted_alone, notes_in, replied}
use Rattle.model_alone.proofs.alone.Histories.{replies-append}
use Rattle.law_likeness.specs.agreement.Agreement.{SameLeft}
use Rattle.law_strangers.proofs.isolation.Settling.{EndsAlike, own-reply, settled_alike, still, waits_alone}
use Rattle.law_others.specs.told.Telling.{notes_of}
use Rattle.law_strangers.specs.followed.Devices.{AreNamesFree, IsDeviceLike}
use Rattle.law_strangers.specs.followed.Following.{HasConnection, HasWindow, SameDesktops, SameOnceTold, SameWindows}
use Rattle.law_strangers.proofs.private.Keeping.{KeepsMine, keeps_itself, one_mine}
use Rattle.law_strangers.proofs.private.Marks.{bytes_quiet, told_of}
use Rattle.law_strangers.proofs.private.Own.{own_message_alike}
use Rattle.law_strangers.proofs.private.Privacy.{IsNoFreshAttach}
use Rattle.law_strangers.proofs.strangers.Late.{IsElsewhere, late_alike, one_away}

-- the notes of a step are those of the session's window
pub notes_same : (seen : Watched) (notes : List (ℕ × Note)) → notes_in (noted seen notes) ≡ notes_of seen.window notes
notes_same seen [] = refl
notes_same seen (n ∷ notes) = by (option_map_or (λ window. window == n.0) seen.window false) (notes_same seen notes)
  where
    by : (b : Bool) → notes_in (noted seen notes) ≡ notes_of seen.window notes
        → filter_map note_in (cons_option (if b then Some (Noted n.1) else None) (noted seen notes)) ≡ cons_option (if b then Some n.1 else None) (notes_of seen.window notes)
    by true same = ap (λ (rest : List Note). n.1 ∷ rest) same
    by false same = same

module _ (c : ℕ) (begin : 0 < c) (Like : Option (ℕ × ℕ) → Option (ℕ × List ℕ) → draw.World → draw.World → Type 0) (Named : draw.World → Table → List (ℕ × Pane) → Type 0) (laws : IsDeviceLike c Like) (names : AreNamesFree Named) (seen : Watched) where
  abbrev Have : Desktop → LoneDesktop → Type 0
  Have s t = SameDesktops Like Named seen.window s t

  -- The session lives in both worlds, which are the same to it; it has only what is its own, and no other has anything of its window.
  pub record IsWith (world : World) (lone : LoneWorld) : Type 0 where
    pub lives : lookup world.sessions c ≡ Some lone.session
    pub same : Have world.desktop lone.desktop
    pub mine : KeepsMine seen.window lone.session
    pub order : AreInOrder world
    pub elsewhere : (d : ℕ) (session : Session) → (d ≡ c → ⊥) → lookup world.sessions d ≡ Some session → IsElsewhere seen.window session

  -- ---- late answers

  others_away : (d : ℕ) (session : Session) (s : Desktop) (after : Left Desktop) (t : LoneDesktop) → (d ≡ c → ⊥) → IsElsewhere seen.window session → one_answered (desktop_for d) session s ≡ Some after → Have s t
      → Have after.rest t × IsElsewhere seen.window after.session
  others_away d session s after t other is e same = (let left = one_away c begin Like Named laws names seen.window d t s session after same is e in (left.same, left.elsewhere))

  -- what late answers leave: the notes, and what is the session's own
  late_mine : (notes : List (ℕ × Note)) (world : World) → AreInOrder world × (world.desktop.notes ≡ notes) × ((session : Session) → lookup world.sessions c ≡ Some session → KeepsMine seen.window session)
      → IfNext (λ next. AreInOrder next × (next.desktop.notes ≡ notes) × ((session : Session) → lookup next.sessions c ≡ Some session → KeepsMine seen.window session)) (first_answered world world.sessions)
  late_mine notes world is =
      first_leaves (λ next. AreInOrder next × (next.desktop.notes ≡ notes) × ((session : Session) → lookup next.sessions c ≡ Some session → KeepsMine seen.window session)) world world.sessions (all_in world.sessions is.0)
      (λ d session after at answered. (ascend-with world.sessions d after.session is.0, (one_quiet d session world.desktop after answered).0 ∙ is.1, mine d session after at answered))
    where
      mine : (d : ℕ) (session : Session) (after : Left Desktop) → lookup world.sessions d ≡ Some session → one_answered (desktop_for d) session world.desktop ≡ Some after
          → (next : Session) → lookup (with_left world d after).sessions c ≡ Some next → KeepsMine seen.window next
      mine d session after at answered next there = by (eqb c d) refl
        where
          by : (b : Bool) → eqb c d ≡ b → KeepsMine seen.window next
          by true here =
              let same : c ≡ d = eqb-true c d here in
              let own : lookup world.sessions c ≡ Some session = subst (λ (k : ℕ). lookup world.sessions k ≡ Some session) (sym same) at in
              let two : ◌≡◌ {A = Option Session} (Some after.session) (Some next) = sym (with-here world.sessions d session after.session at) ∙ ap (lookup (with_left world d after).sessions) (sym same) ∙ there in
              let it : after.session ≡ next = cc in
              subst (KeepsMine seen.window) it (one_mine (desktop_for d) seen.window session world.desktop after (is.2 session own) answered)
          by false here = is.2 next (sym (with-others world.sessions d c after.session (eqb-false c d here)) ∙ there)

  -- Late answers are alike, and leave both worlds so.
  pub settled_with : (world : World) (lone : LoneWorld) → IsWith world lone
      → (replies_to c (settled world).1 ≡ (all_settled lone).1) × IsWith (settled world).0 (all_settled lone).0 × ((settled world).0.desktop.notes ≡ world.desktop.notes)
  settled_with world lone is = (ends.replies, record { lives = ends.both.lives; same = ends.both.same; mine = kept.2 (all_settled lone).0.session ends.both.lives; order = ends.both.order; elsewhere = ends.both.elsewhere }, kept.1)
    where
      ends : EndsAlike c Have (λ s t. Unit {0}) (HasWindow seen.window) HasConnection (λ s asked. ⊥) (late_alike c begin Like Named laws names seen.window) (λ d session. IsElsewhere seen.window session) others_away world lone
      ends =
          settled_alike c Have (λ s t. Unit {0}) (HasWindow seen.window) HasConnection (λ s asked. ⊥) (late_alike c begin Like Named laws names seen.window) (λ d session. IsElsewhere seen.window session) others_away world lone
          (record { lives = is.lives; same = is.same; keeps = keeps_itself seen.window lone.session is.mine; order = is.order; elsewhere = is.elsewhere })

      kept : AreInOrder (settled world).0 × ((settled world).0.desktop.notes ≡ world.desktop.notes) × ((session : Session) → lookup (settled world).0.sessions c ≡ Some session → KeepsMine seen.window session)
      kept =
          settled_keeps (λ next. AreInOrder next × (next.desktop.notes ≡ world.desktop.notes) × ((session : Session) → lookup next.sessions c ≡ Some session → KeepsMine seen.window session)) (late_mine world.desktop.notes) (waiting_in world) world
          (is.order, refl, λ session at. (let two : ◌≡◌ {A = Option Session} (Some lone.session) (Some session) = sym is.lives ∙ at in let it : lone.session ≡ session = cc in subst (KeepsMine seen.window) it is.mine))

  -- Where no read that waits can be answered, the session's own world answers none either.
  pub settled_still : (world : World) (lone : LoneWorld) → IsWith world lone → AllWaitOn world → all_settled lone ≡ (lone, [])
  settled_still world lone is waits =
      still c Have (λ s t. Unit {0}) (HasWindow seen.window) HasConnection (λ s asked. ⊥) (late_alike c begin Like Named laws names seen.window) (λ d session. IsElsewhere seen.window session) others_away (length lone.session.waiting) lone
      (waits_alone c Have (λ s t. Unit {0}) (HasWindow seen.window) HasConnection (λ s asked. ⊥) (late_alike c begin Like Named laws names seen.window) (λ d session. IsElsewhere seen.window session) others_away world lone
      (record { lives = is.lives; same = is.same; keeps = keeps_itself seen.window lone.session is.mine; order = is.order; elsewhere = is.elsewhere }) waits)

  -- ---- a message of the session

  module _ (world : World) (lone : LoneWorld) (is : IsWith world lone) (quiet : world.desktop.notes ≡ []) (bytes : List ℕ) (mark : Option ℕ) where
    abbrev pub after : Left Desktop
    after = answer (desktop_for c) lone.session world.desktop bytes mark

    abbrev pub next : World
    next = with_left world c after

    -- what the session is told
    abbrev pub items : List Item
    items = Sent bytes (told_of c begin Like Named laws names seen lone.session world.desktop bytes mark (settled next).1) ∷ noted seen (settled next).0.desktop.notes

    -- A message that gives no reason, and is no attach that is looked at, is answered alike with all that comes after it.
    pub own_message : (left : Session) (table : Table)
        → (taking lone.session bytes ≡ Reads → (m : T) → message_of bytes ≡ Some m → (not (is_version m) && (tag_of_t m == no_tag)) ≡ false → (not (is_version m) && not lone.session.agreed) ≡ false
        → IsNoFreshAttach c begin Like Named laws names seen lone.session m)
        → reasons_from true seen (bytes_used c lone.session world.desktop left table mark bytes (taking lone.session bytes)) ≡ []
        → (replies_to c (reply_to c after.reply ++ (settled next).1) ≡ (lone_step lone items).1) × IsWith (settled next).0 (lone_step lone items).0
    unfolding lone_step
    own_message left table fresh fine = (
      replies-append c (reply_to c after.reply) (settled next).1
          ∙ ap (λ (first : List (List ℕ)). first ++ replies_to c (settled next).1) (own-reply c after.reply ∙ ap replied alike.0.reply)
          ∙ ap (λ (rest : List (List ℕ)). replied there.reply ++ rest) (ends.0 ∙ ap (λ (l : LoneWorld). (all_settled l).1) taken),
      subst (λ (l : LoneWorld). IsWith (settled next).0 (all_settled l).0) taken ends.1,
    )
      where
        late : List Reply
        late = (settled next).1

        told : Option ℕ
        told = told_of c begin Like Named laws names seen lone.session world.desktop bytes mark late

        t : LoneDesktop
        t = record lone.desktop { made = made_in items }

        windows : (o : Option ℕ) → SameWindows world.desktop lone.desktop o → SameWindows world.desktop t o
        windows None same = same
        windows (Some n) same = record { alone = same.alone; rect = same.rect; root = same.root; bare = same.bare; counted = same.counted }

        first : Have world.desktop t
        first = record { drawn = is.same.drawn; order = is.same.order; names = is.same.names; window = windows seen.window is.same.window; device = is.same.device }

        there : Left LoneDesktop
        there = answer lone_desktop lone.session t bytes told

        alike : SameLeft (λ s u. SameOnceTold Like Named seen.window s u) after there × KeepsMine seen.window after.session
        alike =
            own_message_alike c begin Like Named laws names seen lone.session world.desktop t bytes left table mark told (record { quiet = quiet; same = first }) is.mine
            (bytes_quiet c begin Like Named laws names seen lone.session world.desktop left table bytes mark late fresh fine)

        -- the session's own world once it took the notes
        told_world : List Note → LoneWorld
        told_world notes = record { session = there.session; desktop = fold noted_alone there.rest notes }

        both : IsWith next (told_world (notes_of seen.window after.rest.notes))
        both = record {
          lives = with-here world.sessions c lone.session after.session is.lives ∙ ap Some alike.0.session;
          same = alike.0.rest;
          mine = subst (KeepsMine seen.window) alike.0.session alike.1;
          order = ascend-with world.sessions c after.session is.order;
          elsewhere = λ d session other at. is.elsewhere d session other (sym (with-others world.sessions c d after.session other) ∙ at);
        }

        ends : (replies_to c (settled next).1 ≡ (all_settled (told_world (notes_of seen.window after.rest.notes))).1) × IsWith (settled next).0 (all_settled (told_world (notes_of seen.window after.rest.notes))).0
            × ((settled next).0.desktop.notes ≡ next.desktop.notes)
        ends = settled_with next (told_world (notes_of seen.window after.rest.notes)) both

        taken : told_world (notes_of seen.window after.rest.notes) ≡ told_world (notes_in items)
        taken = ap told_world (ap (notes_of seen.window) (sym ends.2) ∙ sym (notes_same seen (settled next).0.desktop.notes))
