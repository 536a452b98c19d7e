-- What some texts spell, by computing.
use Rattle.std.specs.Prelude.{◌≡◌, refl, ℕ, Bool, true, false, pos, negsuc, List, [], ◌∷◌, ◌++◌, map, codes, Option, Some, None}
use Rattle.std.specs.List.{repeat}
use Rattle.model_files.specs.wctl.Command as wctl
use Rattle.model_files.specs.wctl.Command.{Command, Choice}
use Rattle.r9_geom.specs.declared.Rect.{Rect}
use Rattle.model_files.specs.wctl.Words.{words_of, line_of}
use Rattle.model_files.specs.wctl.Reading.{parts, setting, asked, command_of}
use Rattle.model_files.specs.wctl.Rectangle.{box, applied}

abbrev commands : List (Bool × List ℕ) → List (Option Command)
commands texts = map (λ text. command_of text.0 text.1) texts

texts : commands
    (
    (false, (codes "new -r 10 10 50 40")) ∷
    (false, (codes "new -r 10 10 50 40 -hide -pid 4 -cd /usr/glenda -scroll" ++ (10 ∷ []))) ∷
    (true, (codes "move -minx 20 -miny 12 -id 1")) ∷
    (true, (codes "move -minx 20 -miny 12")) ∷
    (true, (codes "top -id 9")) ∷
    (true, (codes "top -id 3/1")) ∷
    (true, (codes "top -id 1 -id 1")) ∷
    (false, (codes "top -id 1")) ∷
    (true, (codes "top -id /1")) ∷
    (true, (codes "top -id 1234567890")) ∷
    (true, (codes "new -id 3")) ∷
    (true, (codes "new")) ∷
    (false, (codes "  resize" ++ (9 ∷ []) ++ codes "-dx +5  -dy 00012 ")) ∷
    (false, (codes "resize -r -1 0 12345678 4")) ∷
    (false, (codes "resize -r -1 0 1234567 -0")) ∷
    (false, (codes "resize -r 1 2 3")) ∷
    (false, (codes "move -maxx 3")) ∷
    (false, (codes "set -pid -7")) ∷
    (false, (codes "set")) ∷
    (false, []) ∷
    (false, ((10 ∷ []))) ∷
    (false, (codes "top" ++ (10 ∷ []) ++ (10 ∷ []))) ∷
    (false, (codes "top" ++ (10 ∷ []) ++ codes "top")) ∷
    (false, (codes "hosts")) ∷
    (false, (codes "noscroll")) ∷
    (false, (codes "host")) ∷
    (false, (codes "current -hide")) ∷
    (false, (codes "new -minx +")) ∷
    (false, (codes "new -minx --3")) ∷
    (false, (codes "new -cd")) ∷
    (false, (codes "new -cd -hide")) ∷ [])
    ≡ (
    Some (record { what = wctl.New (wctl.R (box (pos 10) (pos 10) (pos 50) (pos 40)) ∷ []) false; id = ([]) }) ∷
    Some (record { what = wctl.New (wctl.R (box (pos 10) (pos 10) (pos 50) (pos 40)) ∷ []) true; id = ([]) }) ∷
    Some (record { what = wctl.Move (wctl.Minx (wctl.Is (pos 20)) ∷ wctl.Miny (wctl.Is (pos 12)) ∷ []); id = (1 ∷ []) }) ∷
    None ∷
    Some (record { what = wctl.Top; id = (9 ∷ []) }) ∷
    Some (record { what = wctl.Top; id = (3 ∷ 1 ∷ []) }) ∷
    None ∷
    None ∷
    None ∷
    None ∷
    Some (record { what = wctl.New ([]) false; id = (3 ∷ []) }) ∷
    Some (record { what = wctl.New ([]) false; id = ([]) }) ∷
    Some (record { what = wctl.Resize (wctl.Dx (wctl.Plus (pos 5)) ∷ wctl.Dy (wctl.Is (pos 12)) ∷ []); id = ([]) }) ∷
    None ∷
    Some (record { what = wctl.Resize (wctl.R (box (negsuc 0) (pos 0) (pos 1234567) (pos 0)) ∷ []); id = ([]) }) ∷
    None ∷
    None ∷
    Some (record { what = wctl.Set; id = ([]) }) ∷
    Some (record { what = wctl.Set; id = ([]) }) ∷
    None ∷
    None ∷
    None ∷
    None ∷
    None ∷
    Some (record { what = wctl.Scroll false; id = ([]) }) ∷
    Some (record { what = wctl.Host; id = ([]) }) ∷
    None ∷
    None ∷
    None ∷
    None ∷
    Some (record { what = wctl.New ([]) false; id = ([]) }) ∷ [])
unfolding words_of line_of parts setting asked command_of
texts = refl

-- a text of more than 1,024 bytes
long : command_of false (codes "top" ++ repeat 1022 (32 ∷ [])) ≡ None
unfolding command_of
long = refl

-- rectangles that options make of a first one
rectangles : map (λ (row : Bool × List Choice × Rect). applied row.0 row.1 row.2)
    (
    (false, (wctl.Maxy (wctl.Minus (pos 296)) ∷ []), (box (pos 17) (negsuc 16) (pos 86) (pos 22))) ∷
    (false, ([]), (box (pos 7) (pos 6) (pos 20) (pos 48))) ∷
    (false, (wctl.Minx (wctl.Minus (pos 129734)) ∷ wctl.Dx (wctl.Plus (pos 97690)) ∷ wctl.Miny (wctl.Plus (pos 247028)) ∷ []), (box (negsuc 0) (pos 15) (pos 91) (pos 50))) ∷
    (false, (wctl.Maxx (wctl.Is (pos 131678)) ∷ []), (box (negsuc 16) (pos 19) (pos 14) (pos 94))) ∷
    (true, (wctl.Miny (wctl.Plus (pos 1856)) ∷ wctl.Minx (wctl.Is (pos 171662)) ∷ wctl.Miny (wctl.Minus (pos 1406)) ∷ []), (box (pos 18) (negsuc 15) (pos 38) (pos 61))) ∷
    (false, (wctl.Maxx (wctl.Is (pos 59)) ∷ []), (box (negsuc 15) (pos 15) (pos 62) (pos 67))) ∷
    (false, (wctl.Dx (wctl.Plus (pos 37)) ∷ wctl.Maxx (wctl.Plus (pos 44)) ∷ []), (box (negsuc 0) (pos 16) (pos 91) (pos 85))) ∷
    (false, (wctl.Dy (wctl.Plus (pos 1)) ∷ wctl.Dx (wctl.Is (pos 241)) ∷ wctl.Miny (wctl.Minus (pos 1629)) ∷ []), (box (negsuc 14) (negsuc 9) (pos 47) (pos 53))) ∷
    (true, (wctl.Minx (wctl.Plus (pos 583891)) ∷ wctl.Miny (wctl.Plus (pos 43)) ∷ []), (box (negsuc 14) (negsuc 8) (pos 9) (pos 32))) ∷
    (true, (wctl.Minx (wctl.Plus (pos 2413)) ∷ []), (box (negsuc 1) (negsuc 19) (pos 21) (pos 45))) ∷
    (true, (wctl.Miny (wctl.Is (pos 2111)) ∷ wctl.Miny (wctl.Plus (pos 1614)) ∷ []), (box (pos 5) (negsuc 16) (pos 34) (pos 3))) ∷
    (false, (wctl.Miny (wctl.Is (pos 21)) ∷ wctl.Minx (wctl.Minus (pos 2197)) ∷ wctl.Dx (wctl.Is (pos 4)) ∷ []), (box (negsuc 3) (pos 2) (pos 78) (pos 60))) ∷
    (false, ([]), (box (negsuc 12) (pos 11) (pos 51) (pos 84))) ∷
    (false, (wctl.Minx (wctl.Is (pos 1403)) ∷ wctl.Dy (wctl.Is (pos 430367)) ∷ []), (box (pos 3) (negsuc 10) (pos 96) (pos 70))) ∷
    (false, (wctl.Dy (wctl.Is (pos 1069)) ∷ wctl.Miny (wctl.Plus (pos 912)) ∷ []), (box (negsuc 5) (pos 19) (pos 23) (pos 61))) ∷
    (false, (wctl.Miny (wctl.Minus (pos 31)) ∷ []), (box (negsuc 2) (pos 10) (pos 35) (pos 46))) ∷
    (true, (wctl.Miny (wctl.Minus (pos 22)) ∷ wctl.Minx (wctl.Is (pos 30)) ∷ []), (box (pos 10) (pos 19) (pos 93) (pos 31))) ∷
    (false, (wctl.Dy (wctl.Is (pos 2705)) ∷ wctl.Dy (wctl.Is (pos 910006)) ∷ []), (box (pos 1) (negsuc 14) (pos 98) (pos 47))) ∷
    (false, (wctl.Dy (wctl.Is (pos 46)) ∷ wctl.Minx (wctl.Is (pos 306549)) ∷ wctl.Dx (wctl.Plus (pos 326972)) ∷ []), (box (pos 15) (negsuc 11) (pos 22) (pos 1))) ∷
    (true, ([]), (box (pos 13) (negsuc 11) (pos 73) (pos 24))) ∷
    (false, ([]), (box (negsuc 3) (negsuc 6) (pos 38) (pos 69))) ∷
    (false, (wctl.Maxx (wctl.Minus (pos 127726)) ∷ wctl.Maxx (wctl.Plus (pos 2389)) ∷ []), (box (pos 12) (negsuc 11) (pos 85) (pos 19))) ∷
    (true, ([]), (box (pos 8) (negsuc 8) (pos 90) (pos 3))) ∷
    (false, (wctl.Miny (wctl.Plus (pos 252364)) ∷ []), (box (negsuc 16) (pos 0) (pos 75) (pos 78))) ∷
    (true, (wctl.Minx (wctl.Minus (pos 1017)) ∷ wctl.Minx (wctl.Is (pos 32)) ∷ wctl.Miny (wctl.Plus (pos 39)) ∷ []), (box (negsuc 2) (pos 8) (pos 67) (pos 88))) ∷
    (false, (wctl.Dy (wctl.Minus (pos 1063)) ∷ []), (box (negsuc 11) (pos 6) (pos 8) (pos 68))) ∷
    (false, (wctl.Minx (wctl.Minus (pos 15)) ∷ wctl.Dy (wctl.Plus (pos 323898)) ∷ []), (box (pos 3) (negsuc 10) (pos 40) (pos 18))) ∷
    (false, (wctl.Dy (wctl.Is (pos 341406)) ∷ []), (box (negsuc 5) (negsuc 9) (pos 89) (pos 57))) ∷
    (true, (wctl.Miny (wctl.Plus (pos 12)) ∷ wctl.Miny (wctl.Is (pos 2269)) ∷ wctl.Minx (wctl.Plus (pos 619612)) ∷ []), (box (negsuc 15) (negsuc 12) (pos 18) (pos 12))) ∷
    (false, (wctl.Maxx (wctl.Is (pos 57)) ∷ wctl.Maxy (wctl.Minus (pos 52)) ∷ []), (box (pos 14) (pos 12) (pos 92) (pos 87))) ∷
    (true, (wctl.Minx (wctl.Plus (pos 2818)) ∷ wctl.Minx (wctl.Plus (pos 2598)) ∷ []), (box (negsuc 14) (pos 18) (pos 18) (pos 38))) ∷
    (false, ([]), (box (pos 9) (negsuc 19) (pos 57) (pos 62))) ∷
    (false, (wctl.Dx (wctl.Is (pos 2)) ∷ wctl.Miny (wctl.Plus (pos 741)) ∷ []), (box (negsuc 0) (pos 13) (pos 30) (pos 62))) ∷
    (false, (wctl.Maxx (wctl.Plus (pos 51)) ∷ []), (box (negsuc 19) (negsuc 18) (pos 78) (pos 57))) ∷
    (true, (wctl.Miny (wctl.Is (pos 222888)) ∷ []), (box (pos 7) (pos 11) (pos 81) (pos 73))) ∷
    (true, (wctl.Minx (wctl.Is (pos 813)) ∷ wctl.Miny (wctl.Is (pos 53)) ∷ []), (box (negsuc 3) (pos 7) (pos 21) (pos 26))) ∷
    (false, (wctl.Dx (wctl.Minus (pos 507957)) ∷ wctl.Maxx (wctl.Is (pos 759)) ∷ wctl.Maxy (wctl.Is (pos 689808)) ∷ []), (box (pos 0) (negsuc 4) (pos 9) (pos 46))) ∷
    (false, (wctl.Miny (wctl.Is (pos 1563)) ∷ wctl.Maxx (wctl.Minus (pos 520469)) ∷ []), (box (negsuc 19) (negsuc 14) (pos 18) (pos 8))) ∷
    (false, (wctl.Dx (wctl.Is (pos 92)) ∷ wctl.Dy (wctl.Is (pos 325587)) ∷ wctl.Dy (wctl.Minus (pos 24)) ∷ []), (box (negsuc 1) (pos 19) (pos 85) (pos 49))) ∷
    (false, (wctl.Dy (wctl.Minus (pos 292149)) ∷ wctl.Dx (wctl.Minus (pos 53)) ∷ wctl.Minx (wctl.Is (pos 8)) ∷ []), (box (pos 4) (pos 8) (pos 80) (pos 26))) ∷
    (true, ([]), (box (pos 14) (negsuc 4) (pos 81) (pos 40))) ∷
    (false, (wctl.Minx (wctl.Minus (pos 192816)) ∷ wctl.Dx (wctl.Is (pos 47)) ∷ wctl.Maxx (wctl.Is (pos 483888)) ∷ []), (box (pos 9) (pos 11) (pos 62) (pos 32))) ∷
    (false, (wctl.Minx (wctl.Minus (pos 40)) ∷ wctl.Dx (wctl.Is (pos 638409)) ∷ []), (box (pos 16) (negsuc 11) (pos 22) (pos 61))) ∷
    (false, (wctl.Maxx (wctl.Minus (pos 456536)) ∷ wctl.Maxy (wctl.Plus (pos 2115)) ∷ wctl.Maxy (wctl.Plus (pos 485)) ∷ []), (box (negsuc 14) (pos 10) (negsuc 7) (pos 59))) ∷
    (false, ([]), (box (pos 12) (pos 8) (pos 51) (pos 69))) ∷
    (false, (wctl.Minx (wctl.Minus (pos 580)) ∷ []), (box (pos 3) (negsuc 11) (pos 85) (pos 80))) ∷
    (true, (wctl.Minx (wctl.Minus (pos 947)) ∷ wctl.Miny (wctl.Is (pos 1031161)) ∷ []), (box (pos 8) (pos 5) (pos 51) (pos 35))) ∷
    (false, (wctl.Maxy (wctl.Plus (pos 1357)) ∷ wctl.Maxx (wctl.Plus (pos 24582)) ∷ []), (box (negsuc 1) (negsuc 3) (pos 50) (pos 16))) ∷
    (false, (wctl.Dx (wctl.Is (pos 23)) ∷ wctl.Maxx (wctl.Is (pos 598995)) ∷ wctl.Miny (wctl.Is (pos 1786)) ∷ []), (box (negsuc 7) (pos 3) (pos 51) (pos 18))) ∷
    (true, (wctl.Minx (wctl.Minus (pos 202)) ∷ wctl.Minx (wctl.Minus (pos 55)) ∷ wctl.Minx (wctl.Is (pos 1699)) ∷ []), (box (negsuc 0) (negsuc 3) (pos 98) (pos 91))) ∷
    (false, (wctl.Dy (wctl.Is (pos 19)) ∷ wctl.Miny (wctl.Minus (pos 435940)) ∷ wctl.Maxy (wctl.Minus (pos 1855)) ∷ []), (box (pos 7) (negsuc 11) (pos 82) (pos 24))) ∷
    (false, ([]), (box (negsuc 8) (pos 1) (pos 67) (pos 24))) ∷
    (false, (wctl.Maxx (wctl.Plus (pos 51)) ∷ []), (box (pos 6) (pos 4) (pos 63) (pos 83))) ∷
    (false, (wctl.Maxx (wctl.Plus (pos 254)) ∷ wctl.Dx (wctl.Plus (pos 1055697)) ∷ wctl.Dy (wctl.Is (pos 1110)) ∷ []), (box (pos 5) (pos 8) (pos 65) (pos 59))) ∷
    (false, (wctl.Minx (wctl.Plus (pos 45)) ∷ []), (box (negsuc 15) (pos 5) (pos 56) (pos 76))) ∷
    (false, (wctl.Minx (wctl.Is (pos 1095480)) ∷ []), (box (negsuc 13) (pos 9) (pos 1) (pos 91))) ∷
    (false, ([]), (box (negsuc 11) (negsuc 5) (pos 65) (pos 10))) ∷
    (true, (wctl.Minx (wctl.Minus (pos 917358)) ∷ wctl.Minx (wctl.Is (pos 1099823)) ∷ []), (box (negsuc 7) (pos 4) (pos 30) (pos 44))) ∷
    (true, ([]), (box (negsuc 19) (pos 14) (pos 23) (pos 84))) ∷
    (false, (wctl.Dy (wctl.Is (pos 492344)) ∷ wctl.Miny (wctl.Is (pos 26)) ∷ []), (box (negsuc 18) (negsuc 7) (pos 49) (pos 90))) ∷ [])
    ≡ (
    None ∷
    Some (box (pos 7) (pos 6) (pos 20) (pos 48)) ∷
    None ∷
    None ∷
    Some (box (pos 171662) (pos 434) (pos 171682) (pos 511)) ∷
    Some (box (negsuc 15) (pos 15) (pos 59) (pos 67)) ∷
    Some (box (negsuc 0) (pos 16) (pos 172) (pos 85)) ∷
    Some (box (negsuc 14) (negsuc 1638) (pos 226) (pos 54)) ∷
    Some (box (pos 583876) (pos 34) (pos 583900) (pos 75)) ∷
    Some (box (pos 2411) (negsuc 19) (pos 2434) (pos 45)) ∷
    Some (box (pos 5) (pos 3725) (pos 34) (pos 3745)) ∷
    None ∷
    Some (box (negsuc 12) (pos 11) (pos 51) (pos 84)) ∷
    None ∷
    Some (box (negsuc 5) (pos 931) (pos 23) (pos 1088)) ∷
    Some (box (negsuc 2) (negsuc 20) (pos 35) (pos 46)) ∷
    Some (box (pos 30) (negsuc 2) (pos 113) (pos 9)) ∷
    None ∷
    None ∷
    Some (box (pos 13) (negsuc 11) (pos 73) (pos 24)) ∷
    Some (box (negsuc 3) (negsuc 6) (pos 38) (pos 69)) ∷
    None ∷
    Some (box (pos 8) (negsuc 8) (pos 90) (pos 3)) ∷
    None ∷
    Some (box (pos 32) (pos 47) (pos 102) (pos 127)) ∷
    None ∷
    None ∷
    None ∷
    Some (box (pos 619596) (pos 2269) (pos 619630) (pos 2294)) ∷
    Some (box (pos 14) (pos 12) (pos 57) (pos 35)) ∷
    Some (box (pos 5401) (pos 18) (pos 5434) (pos 38)) ∷
    Some (box (pos 9) (negsuc 19) (pos 57) (pos 62)) ∷
    None ∷
    Some (box (negsuc 19) (negsuc 18) (pos 129) (pos 57)) ∷
    Some (box (pos 7) (pos 222888) (pos 81) (pos 222950)) ∷
    Some (box (pos 813) (pos 53) (pos 838) (pos 72)) ∷
    None ∷
    None ∷
    None ∷
    None ∷
    Some (box (pos 14) (negsuc 4) (pos 81) (pos 40)) ∷
    None ∷
    None ∷
    None ∷
    Some (box (pos 12) (pos 8) (pos 51) (pos 69)) ∷
    Some (box (negsuc 576) (negsuc 11) (pos 85) (pos 80)) ∷
    Some (box (negsuc 938) (pos 1031161) (negsuc 895) (pos 1031191)) ∷
    None ∷
    None ∷
    Some (box (pos 1699) (negsuc 3) (pos 1798) (pos 91)) ∷
    None ∷
    Some (box (negsuc 8) (pos 1) (pos 67) (pos 24)) ∷
    Some (box (pos 6) (pos 4) (pos 114) (pos 83)) ∷
    None ∷
    Some (box (pos 29) (pos 5) (pos 56) (pos 76)) ∷
    None ∷
    Some (box (negsuc 11) (negsuc 5) (pos 65) (pos 10)) ∷
    None ∷
    Some (box (negsuc 19) (pos 14) (pos 23) (pos 84)) ∷
    None ∷ [])
unfolding applied
rectangles = refl
