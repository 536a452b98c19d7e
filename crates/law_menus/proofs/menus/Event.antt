-- What is written for an event, with the bands of a menu that it opens.
use Rattle.std.proofs.Common.{◌≡◌, ◌∙◌, ◌<◌, ◌^◌, ℕ, false, List, [], ◌∷◌, ◌++◌, length, refl, sym, ap, subst}
use Rattle.std.specs.Prelude.{map}
use Rattle.std.proofs.lemmas.List.{append-nil, map-append}
use Rattle.std.proofs.lemmas.Simd.{map-map}
use Rattle.r9_geom.specs.Geometry.{natural}
use Rattle.model_files.specs.wire.Message.{R, Rwrite, T}
use Rattle.model_files.specs.declared.mouse.Mouse.{Mouse}
use Rattle.model_client.specs.declared.desk.Act.TheVariants.{New, Nothing}
use Rattle.model_client.specs.declared.desk.Ask.{Ask}
use Rattle.model_client.specs.declared.desk.Mode.{Mode}
use Rattle.model_client.specs.declared.desk.Mode.TheVariants.{Idle, Menu}
use Rattle.model_client.specs.declared.desk.Spot.{Spot}
use Rattle.model_client.specs.declared.desk.Text.{Text}
use Rattle.model_client.specs.desk.Spelled.{spelled}
use Rattle.model_client.specs.desk.Table.{Desk}
use Rattle.model_client.specs.desk.Asked.{ask, asked, asked_in, menu_rect, spot}
use Rattle.model_client.specs.desk.Pilot.{after, written}
use Rattle.model_world.specs.World.{World}
use Rattle.model_world.specs.Replay.{world_from}
use Rattle.law_text.specs.client.Pointing.{paint}
use Rattle.model_clients.specs.client.Saying.{says}
use Rattle.law_text.specs.client.Saying.{AreAnswered}
use Rattle.law_desk.specs.bands.Bands.{bands}
use Rattle.law_desk.specs.piloted.Following.{IsDeskIn, IsEvent}
use Rattle.model_clients.specs.piloted.History.{ShowsMenu, Write, writes, written_all}
use Rattle.law_desk.specs.ready.Ready.{IsReady}
use Rattle.law_desk.specs.steered.Steered.{messages, replies_to, write_of}
use Rattle.law_menus.specs.inked.Inked.{IsInked}
use Rattle.law_menus.specs.inked.Carried.{IsCarried}
use Rattle.law_menus.proofs.inked.Kept.{inked_after}
use Rattle.law_menus.proofs.done.Carried.{carried}
use Rattle.law_menus.specs.menus.Writes.{bands_after, writes_for}
use Rattle.law_menus.proofs.menus.Modes.{Goes, goes, is_menu, no_bands, no_menu, opens, plain, stands}
use Rattle.law_menus.proofs.menus.Opening.{menu_opened}

-- What is written for an event is answered, the windows are those of the desk's table then, and a menu shows its bands.
pub record IsWrittenFor (d : Desk) (e : Mouse) (world : World) : Type 0 where
  pub left : World
  pub answered : AreAnswered world (map writes (writes_for d e)) left (map written_all (writes_for d e))
  pub placed : IsDeskIn (after d e) left
  pub drawn : IsInked left.desktop.device left.desktop.table
  pub menu : ShowsMenu (after d e).mode left

module _ (k : ℕ) (d : Desk) (e : Mouse) (world : World) (at : IsDeskIn d world) (ready : IsReady k d) (event : IsEvent e) (early : k < 10 ^ 8) (inked : IsInked world.desktop.device world.desktop.table)
    (menu : ShowsMenu d.mode world) where
  c : IsCarried d e world
  c = carried k d e world at ready event early

  asked_is : (mode : Mode) → d.mode ≡ mode → asked d e ≡ asked_in mode d e
  unfolding asked
  asked_is mode is = ap (λ (m : Mode). asked_in m d e) is

  mode_is : (a : Ask) → asked d e ≡ a → (after d e).mode ≡ a.mode
  unfolding after
  mode_is a is = ap (λ (b : Ask). b.mode) is

  -- ---- no bands are written

  only_texts : bands_after d.mode (after d e).mode ≡ [] → writes_for d e ≡ map write_of (written d e)
  unfolding writes_for
  only_texts none = ap (λ (more : List Write). map write_of (written d e) ++ more) none ∙ append-nil (map write_of (written d e))

  texts_written : bands_after d.mode (after d e).mode ≡ [] → ShowsMenu (after d e).mode c.left → IsWrittenFor d e world
  texts_written none shows =
      let said : map writes (writes_for d e) ≡ messages (written d e) = ap (map writes) (only_texts none) ∙ map-map writes write_of (written d e) in
      let told : map written_all (writes_for d e) ≡ replies_to (written d e) = ap (map written_all) (only_texts none) ∙ map-map written_all write_of (written d e) in
      record {
        left = c.left;
        answered = subst (λ (ms : List T). AreAnswered world ms c.left (map written_all (writes_for d e))) (sym said)
            (subst (λ (rs : List R). AreAnswered world (messages (written d e)) c.left rs) (sym told) c.answered);
        placed = c.at;
        drawn = inked_after d e world c inked;
        menu = shows;
      }

  plain_written : is_menu (asked d e).mode ≡ false → IsWrittenFor d e world
  unfolding after
  plain_written none = texts_written (no_bands d.mode (after d e).mode none) (no_menu (after d e).mode c.left none)

  -- the menu stands as it did
  nothing_written : (mode : Mode) → asked d e ≡ ask Nothing mode → written d e ≡ []
  unfolding written spelled
  nothing_written mode is = ap (λ (a : Ask). spelled a.act e) is

  stands_written : (spot : Spot) (window : ℕ) → d.mode ≡ Menu spot window → asked d e ≡ ask Nothing (Menu spot window) → IsWrittenFor d e world
  stands_written spot window is asks =
      let same : world ≡ c.left = sym (ap (λ (texts : List Text). world_from world (map says (messages texts))) (nothing_written (Menu spot window) asks)) ∙ c.answered.left in
      let mode : d.mode ≡ (after d e).mode = is ∙ sym (mode_is (ask Nothing (Menu spot window)) asks) in
      texts_written (ap (λ (m : Mode). bands_after m (after d e).mode) is) (subst (λ (w : World). ShowsMenu (after d e).mode w) same (subst (λ (m : Mode). ShowsMenu m world) mode menu))

  -- ---- a menu comes

  bands_too : d.mode ≡ Idle → asked d e ≡ ask (New (menu_rect (spot e))) (Menu (spot e) d.next)
      → writes_for d e ≡ map write_of (written d e) ++ (4, bands d.next (natural e.x) (natural e.y)) ∷ []
  unfolding writes_for
  bands_too idle asks =
      ap (λ (m : Mode). map write_of (written d e) ++ bands_after m (after d e).mode) idle
      ∙ ap (λ (m : Mode). map write_of (written d e) ++ bands_after Idle m) (mode_is (ask (New (menu_rect (spot e))) (Menu (spot e) d.next)) asks)

  opens_written : d.mode ≡ Idle → asked d e ≡ ask (New (menu_rect (spot e))) (Menu (spot e) d.next) → IsWrittenFor d e world
  opens_written idle asks =
      let is = menu_opened k d e world at ready event early inked c asks in
      let bytes : List ℕ = bands d.next (natural e.x) (natural e.y) in
      let said : map writes (writes_for d e) ≡ messages (written d e) ++ paint bytes ∷ [] =
      ap (map writes) (bands_too idle asks) ∙ map-append writes (map write_of (written d e)) ((4, bytes) ∷ []) ∙ ap (λ (ms : List T). ms ++ paint bytes ∷ []) (map-map writes write_of (written d e))
      in
      let told : map written_all (writes_for d e) ≡ replies_to (written d e) ++ Rwrite 1 (length bytes) ∷ [] =
      ap (map written_all) (bands_too idle asks) ∙ map-append written_all (map write_of (written d e)) ((4, bytes) ∷ [])
      ∙ ap (λ (rs : List R). rs ++ Rwrite 1 (length bytes) ∷ []) (map-map written_all write_of (written d e))
      in
      record {
        left = is.left;
        answered = subst (λ (ms : List T). AreAnswered world ms is.left (map written_all (writes_for d e))) (sym said)
            (subst (λ (rs : List R). AreAnswered world (messages (written d e) ++ paint bytes ∷ []) is.left rs) (sym told) is.answered);
        placed = is.placed;
        drawn = is.drawn;
        menu = is.menu;
      }

  pub written_for : IsWrittenFor d e world
  written_for = by d.mode refl (goes d.mode d e)
    where
      by : (mode : Mode) → d.mode ≡ mode → Goes mode d e → IsWrittenFor d e world
      by mode is (opens idle asks) = opens_written (is ∙ idle) (asked_is mode is ∙ asks)
      by mode is (stands at window here asks) = stands_written at window (is ∙ here) (asked_is mode is ∙ asks)
      by mode is (plain none) = plain_written (ap (λ (a : Ask). is_menu a.mode) (asked_is mode is) ∙ none)
