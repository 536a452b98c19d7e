-- A piece of text is answered by the number of its bytes, and leads to the next page.
use Rattle.std.proofs.Common.{◌≡◌, ◌<◌, ◌≤◌, ℕ, List, length, Some, refl, sym, ap, subst, arith}
use Rattle.std.specs.List.{All}
use Rattle.model_text.specs.text.Number.{AreBytes}
use Rattle.model_files.specs.wire.Message.{Rwrite}
use Rattle.model_client.specs.declared.textwin.Move.{Move}
use Rattle.model_client.specs.textwin.Moves.{all_moved, put_codes}
use Rattle.model_draw.specs.draw.World as draw
use Rattle.model_world.specs.Whole.{client, with_device}
use Rattle.model_world.specs.World.{World}
use Rattle.model_world.specs.Replay.{step}
use Rattle.model_clients.specs.client.Saying.{says}
use Rattle.law_text.specs.client.Saying.{IsClient, answered, drawn}
use Rattle.law_text.proofs.client.May.{may_write}
use Rattle.law_text.proofs.client.Saying.{said, stays}
use Rattle.law_text.proofs.client.Answering.{wrote_data}
use Rattle.law_text.proofs.client.Writes.{Leads, leads_written}
use Rattle.model_clients.specs.page.Text.{Shape, cells, moves_bytes, write}
use Rattle.law_text.specs.page.Page.{AreApart, IsShape, Numbers}
use Rattle.law_text.proofs.page.Acting.{moves_lead}
use Rattle.law_text.specs.typed.Typing.{ShowsPage, typist}

-- the step of draw messages
pub record IsTyped (shape : Shape) (pixels : List ℕ) (n : Numbers) (next : List (List ℕ)) (world : World) (bytes : List ℕ) : Type 0 where
  pub after : draw.World
  pub is : step world (says (write bytes)) ≡ answered world (typist, drawn (client 1 1) world.desktop after bytes) (Rwrite 1 (length bytes))
  pub shows : ShowsPage shape pixels n next (step world (says (write bytes))).world

pub written_step : (world : World) (bytes : List ℕ) (after : draw.World) → length bytes ≤ 65537 → Leads (client 1 1) world.desktop.device after bytes → IsClient world typist
    → step world (says (write bytes)) ≡ answered world (typist, drawn (client 1 1) world.desktop after bytes) (Rwrite 1 (length bytes))
written_step world bytes after few leads alone =
    let run = leads_written (client 1 1) world.desktop.device after bytes leads in
    said world typist (write bytes) (typist, drawn (client 1 1) world.desktop after bytes) (Rwrite 1 (length bytes)) alone (may_write typist 2 bytes refl (omega arith) few)
    (wrote_data typist world.desktop 1 2 1 1 2 0 run.done bytes after refl refl refl run.is)
    refl

-- moves of the text are written, and shown
pub typed : (shape : Shape) (pixels : List ℕ) (n : Numbers) (rows next : List (List ℕ)) (world : World) (moves : List Move) → IsShape shape → AreApart n → AreBytes pixels
    → ShowsPage shape pixels n rows world → all_moved shape.columns moves rows ≡ Some next → All (λ code. code < cells) (put_codes moves) → length (moves_bytes shape moves) ≤ 65537
    → IsTyped shape pixels n next world (moves_bytes shape moves)
typed shape pixels n rows next world moves is apart are shows fits within few =
    let bytes : List ℕ = moves_bytes shape moves in
    let moved = moves_lead (client 1 1) shape pixels n is apart are moves rows next world.desktop.device shows.device fits within in
    let turn = written_step world bytes moved.after few moved.leads shows.alone in
    record {
      after = moved.after;
      is = turn;
      shows = subst (λ (w : World). ShowsPage shape pixels n next w) (sym (ap (λ turn. turn.world) turn)) (record {
        alone = stays world (typist, with_device world.desktop moved.after) refl refl refl;
        lives = shows.lives;
        device = moved.shows;
      });
    }
