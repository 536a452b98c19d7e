-- The draw messages by which a client that points makes the colours of a menu's bands (draw(3)).
use Rattle.std.specs.Prelude.{ℕ, List, ◌++◌}
use Rattle.model_clients.specs.client.Messages.{image}
use Rattle.model_clients.specs.page.Text.{dot, everywhere, rgb24}

-- white, through which all is drawn, and the colours of the bands from the top
unfoldable pub inks : List ℕ
inks =
    image 1 rgb24 1 dot everywhere 0xffffffff
    ++ image 2 rgb24 1 dot everywhere 0xff0000ff
    ++ image 3 rgb24 1 dot everywhere 0x00ff00ff
    ++ image 4 rgb24 1 dot everywhere 0x0000ffff
    ++ image 5 rgb24 1 dot everywhere 0xffff00ff
    ++ image 6 rgb24 1 dot everywhere 0x808080ff
