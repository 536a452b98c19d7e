-- Worked cases, which the check computes: messages of one connection on a display of 64 by 48, x8r8g8b8.
use Rattle.std.specs.Prelude.{◌≡◌, ℕ, List, [], ◌∷◌, Option, Some, None, Ok, Err, pos, neg_ℤ, codes, refl}
use Rattle.r9_geom.specs.declared.Point.{Point}
use Rattle.r9_geom.specs.declared.Rect.{Rect}
use Rattle.model_text.specs.text.Outcome.{Outcome, ◌>>=◌}
use Rattle.model_draw_parts.specs.dmsg.Message.{Message, Writing, LowB, LowD, LowF, LowI, LowL, UpN, LowN, UpO, LowR, LowS, LowX, LowY}
use Rattle.model_draw.specs.draw.World.{World, client_of, look, at_number, started, after_connect}
use Rattle.model_draw.specs.draw.Act.{act, written}
use Rattle.model_draw.specs.draw.Files.{read_ctl, write_ctl}
use Rattle.model_draw.specs.draw.Act as a
use Rattle.model_draw.specs.draw.Making as m
use Rattle.model_draw.specs.draw.Drawing as d
use Rattle.model_draw.specs.draw.Naming as n
use Rattle.model_draw.specs.draw.Writing as string
use Rattle.model_draw.specs.draw.Files as f
use Rattle.model_draw.specs.draw.World as w
use Rattle.model_draw_parts.specs.fonts.Font as font
use Rattle.model_draw_parts.specs.images.Book as b
use Rattle.model_draw_parts.specs.images.Release as r
use Rattle.model_draw_parts.specs.dmsg.Reading as read
use Rattle.model_forest.specs.World as forest
use Rattle.model_forest.specs.Steps as steps
use Rattle.model_forest.specs.Draw as drawing
use Rattle.model_forest.specs.View as views
use Rattle.model_pixel.specs.Channels as channels
use Rattle.model_pixel.specs.Composition as composition
use Rattle.model_pixel.specs.Rows as rows

-- all that the cases compute with
everything : ℕ
unfolding a.act a.behind a.one_message a.written m.allocate m.set_clip m.free_image d.drawing_of d.draw d.set_operator d.read_pixels d.write_pixels n.name_image n.use_name string.make_font string.load_cell string.string_drawings string.write_string f.read_data f.read_ctl f.write_ctl w.started font.with_cell font.pieces font.layout b.image b.screen b.add_id b.add_named b.tie b.untie r.free_id read.first_message read.behind read.low_b read.low_c read.up_o read.byte read.long read.rect read.point read.coordinate forest.deepest steps.after_image steps.after_set steps.after_release drawing.after_draw drawing.after_load views.view channels.channels channels.promoted channels.expand channels.pack channels.mask composition.composed composition.comp composition.composed_raw rows.raw_at rows.byte_at rows.row_bytes rows.skip rows.rows_of
everything = 0

abbrev rect : (a b c d : ℕ) → Rect
rect a b c d = record { min = record { x = pos a; y = pos b }; max = record { x = pos c; y = pos d } }

abbrev at : (a b : ℕ) → Point
at a b = record { x = pos a; y = pos b }

abbrev wide : Rect
wide = record {
  min = record { x = neg_ℤ (pos 1000); y = neg_ℤ (pos 1000) };
  max = record { x = pos 1000; y = pos 1000 };
}

abbrev device : World
device = after_connect (started (record { r = rect 0 0 64 48; chan = 0x68081828 })) 1

abbrev all_of : Outcome World → List (Message × List ℕ) → Outcome World
all_of left [] = left
all_of left (m ∷ ms) = all_of (left >>= λ world. act 1 world m.0 m.1) ms

abbrev pending : Outcome World → List ℕ
pending (Ok world) = (client_of world 1).pending
pending (Err n) = []

abbrev refusal : Outcome World → ℕ
refusal (Ok world) = 0
refusal (Err n) = n

-- one pixel that repeats
abbrev dot : (id chan color : ℕ) → Message × List ℕ
dot id chan color = (LowB id 0 0 chan 1 (rect 0 0 1 1) wide color, [])

abbrev plain : (id chan : ℕ) → Rect → ℕ → Message × List ℕ
plain id chan r color = (LowB id 0 0 chan 0 r r color, [])

abbrev drawn : (dst src : ℕ) → Rect → Message × List ℕ
drawn dst src r = (LowD dst src 1 r (at 0 0) (at 0 0), [])

abbrev readd : ℕ → Rect → Message × List ℕ
readd id r = (LowR id r, [])

-- half transparent red over white
red_over_white : pending (all_of (Ok device) (dot 1 0x31 0xffffffff ∷ dot 2 0x68081828 0xffffffff ∷ drawn 0 2 (rect 0 0 64 48) ∷ dot 5 0x08182848 0x80000080 ∷ drawn 0 5 (rect 0 0 1 1) ∷ readd 0 (rect 0 0 1 1) ∷ [])) ≡ 0x7f ∷ 0x7f ∷ 0xff ∷ 0 ∷ []
unfolding everything
red_over_white = refl

-- pure colours drawn into grey
greys : pending (all_of (Ok device) (dot 1 0x31 0xffffffff ∷ plain 3 0x38 (rect 0 0 4 1) 0 ∷ dot 4 0x68081828 0xff0000ff ∷ dot 5 0x68081828 0x00ff00ff ∷ dot 7 0x68081828 0x0000ffff ∷ dot 8 0x68081828 0xffffffff ∷ drawn 3 4 (rect 0 0 1 1) ∷ drawn 3 5 (rect 1 0 2 1) ∷ drawn 3 7 (rect 2 0 3 1) ∷ drawn 3 8 (rect 3 0 4 1) ∷ readd 3 (rect 0 0 4 1) ∷ [])) ≡ 76 ∷ 149 ∷ 29 ∷ 255 ∷ []
unfolding everything
greys = refl

-- bits outside a rectangle are 0
bits : pending (all_of (Ok device) (plain 3 0x31 (rect 0 0 16 1) 0xffffffff ∷ readd 3 (rect 3 0 11 1) ∷ [])) ≡ 0x1f ∷ 0xe0 ∷ []
unfolding everything
bits = refl

-- a drawing onto its own source reads the state before
overlapping : pending (all_of (Ok device) (dot 1 0x31 0xffffffff ∷ plain 8 0x38 (rect 0 0 1 4) 0 ∷ (LowY 8 (rect 0 0 1 4), 1 ∷ 2 ∷ 3 ∷ 4 ∷ []) ∷ drawn 8 8 (rect 0 1 1 4) ∷ readd 8 (rect 0 0 1 4) ∷ [])) ≡ 1 ∷ 1 ∷ 2 ∷ 3 ∷ []
unfolding everything
overlapping = refl

-- rows that end too early, and rows beside the image
short_rows : refusal (all_of (Ok device) (plain 8 0x38 (rect 0 0 1 4) 0 ∷ (LowY 8 (rect 0 0 1 4), 1 ∷ 2 ∷ 3 ∷ []) ∷ [])) ≡ 1
unfolding everything
short_rows = refl

rows_beside : refusal (all_of (Ok device) (plain 8 0x38 (rect 0 0 1 4) 0 ∷ (LowY 8 (rect 0 0 1 5), 1 ∷ 2 ∷ 3 ∷ 4 ∷ 5 ∷ []) ∷ [])) ≡ 13
unfolding everything
rows_beside = refl

-- one image of 2^24 bytes is possible, a larger one is not, nor a second one
large : refusal (all_of (Ok device) (plain 8 0x68081828 (rect 0 0 2048 2048) 0 ∷ [])) ≡ 0
unfolding everything
large = refl

too_large : refusal (all_of (Ok device) (plain 8 0x68081828 (rect 0 0 2048 2049) 0 ∷ [])) ≡ 10
unfolding everything
too_large = refl

second_large : refusal (all_of (Ok device) (plain 8 0x68081828 (rect 0 0 2048 2048) 0 ∷ plain 9 0x68081828 (rect 0 0 2048 2048) 0 ∷ [])) ≡ 10
unfolding everything
second_large = refl

-- of an image, an operator and an unsupported message the first two stand; a mark before the second leaves the first alone
abbrev three : List ℕ
three =
    98 ∷ 5 ∷ 0 ∷ 0 ∷ 0 ∷ 0 ∷ 0 ∷ 0 ∷ 0 ∷ 0 ∷ 40 ∷ 24 ∷ 8 ∷ 104 ∷ 0 ∷ 0 ∷ 0 ∷ 0 ∷ 0 ∷ 0 ∷ 0 ∷ 0 ∷ 0 ∷ 1 ∷ 0 ∷ 0 ∷ 0 ∷ 1 ∷ 0 ∷ 0 ∷ 0
    ∷ 0 ∷ 0 ∷ 0 ∷ 0 ∷ 0 ∷ 0 ∷ 0 ∷ 0 ∷ 1 ∷ 0 ∷ 0 ∷ 0 ∷ 1 ∷ 0 ∷ 0 ∷ 0 ∷ 0 ∷ 0 ∷ 0 ∷ 0 ∷ 79 ∷ 10 ∷ 76 ∷ []

abbrev three_left : Option ℕ → ℕ × (ℕ × (Outcome ℕ × Option ℕ))
three_left mark =
    let left = written 1 device three mark in (left.done, ((client_of left.world 1).op, (look left.world 1 5, left.refusal)))

unmarked : three_left None ≡ (2, (10, (Ok 1, Some 3)))
unfolding everything
unmarked = refl

marked : three_left (Some 1) ≡ (1, (11, (Ok 1, Some 24)))
unfolding everything
marked = refl

marked_behind : three_left (Some 2) ≡ (2, (10, (Ok 1, Some 3)))
unfolding everything
marked_behind = refl

-- what `ctl` describes goes with its id
abbrev read_of : Outcome (List ℕ) → ℕ
read_of (Ok bytes) = 0
read_of (Err n) = n

abbrev described : List (Message × List ℕ) → ℕ
described ms =
    read_of
    (all_of (Ok device) (plain 5 0x38 (rect 0 0 1 1) 0 ∷ []) >>= λ made.
    write_ctl 1 made (5 ∷ 0 ∷ 0 ∷ 0 ∷ []) >>= λ chosen.
    all_of (Ok chosen) ms >>= λ left. read_ctl 1 left 1)

described_is : described [] ≡ 0
unfolding everything
described_is = refl

described_gone : described ((LowF 5, []) ∷ []) ≡ 4
unfolding everything
described_gone = refl

-- ---- names

-- messages of connections
abbrev said : Outcome World → List (ℕ × Message) → Outcome World
said left [] = left
said left (m ∷ ms) = said (left >>= λ world. act m.0 world m.1 []) ms

abbrev small : ℕ → Message
small id = LowB id 0 0 0x38 0 (rect 0 0 1 1) (rect 0 0 1 1) 0

-- two connections, the first with images 9 and 10, numbers 1 and 2; its 9 has a name, under which the second knows it as 1
abbrev named : Outcome World
named =
    said (Ok (after_connect device 2))
    ((1, small 9) ∷ (1, small 10) ∷ (2, small 3) ∷ (1, UpN 9 1 (codes "pic")) ∷ (2, LowN 1 (codes "pic")) ∷ [])

-- the name then goes to 10
abbrev renamed : Outcome World
renamed = said named ((1, UpN 9 0 (codes "pic")) ∷ (1, UpN 10 1 (codes "pic")) ∷ [])

named_is : (named >>= λ world. look world 2 1) ≡ Ok 1
unfolding everything
named_is = refl

-- `ctl` describes the new id
named_described : (named >>= λ world. Ok (client_of world 2).described) ≡ Ok 1
unfolding everything
named_described = refl

stale_target : refusal (said renamed ((2, LowD 1 3 3 (rect 0 0 1 1) (at 0 0) (at 0 0)) ∷ [])) ≡ 18
unfolding everything
stale_target = refl

stale_freed : refusal (said renamed ((2, LowF 1) ∷ [])) ≡ 0
unfolding everything
stale_freed = refl

stale_again : (said renamed ((2, LowF 1) ∷ (2, LowN 1 (codes "pic")) ∷ []) >>= λ world. look world 2 1) ≡ Ok 2
unfolding everything
stale_again = refl

-- the tie ends with the id that made it
tie_ended : refusal (said named ((1, LowF 9) ∷ (2, LowR 1 (rect 0 0 1 1)) ∷ [])) ≡ 18
unfolding everything
tie_ended = refl

id_taken : refusal (said named ((2, LowN 3 (codes "none")) ∷ [])) ≡ 6
unfolding everything
id_taken = refl

unnamed : refusal (said named ((2, LowN 4 (codes "none")) ∷ [])) ≡ 17
unfolding everything
unnamed = refl

no_name : refusal (said named ((1, UpN 9 1 []) ∷ [])) ≡ 23
unfolding everything
no_name = refl

untied : refusal (said named ((1, UpN 9 0 (codes "none")) ∷ [])) ≡ 17
unfolding everything
untied = refl

tied_to_another : refusal (said named ((1, UpN 10 0 (codes "pic")) ∷ [])) ≡ 19
unfolding everything
tied_to_another = refl

tied_already : refusal (said named ((1, UpN 10 1 (codes "pic")) ∷ [])) ≡ 16
unfolding everything
tied_already = refl

-- the manager's names
kept_name : refusal (said named ((1, UpN 10 1 (codes "window.1")) ∷ [])) ≡ 16
unfolding everything
kept_name = refl

kept_name_unknown : refusal (said named ((2, LowN 4 (codes "window.1")) ∷ [])) ≡ 17
unfolding everything
kept_name_unknown = refl

-- the display under another id
abbrev display_named : Outcome World
display_named = said (Ok device) ((1, UpN 0 1 (codes "d")) ∷ (1, LowN 7 (codes "d")) ∷ [])

display_named_is : (display_named >>= λ world. look world 1 7) ≡ Ok 0
unfolding everything
display_named_is = refl

-- a `c` of it, in bytes: how the write ends, and the display's clip rectangle, which is as before
abbrev clipped : World → Option ℕ × Rect
clipped world =
    let left = written 1 world (99 ∷ 7 ∷ 0 ∷ 0 ∷ 0 ∷ 0 ∷ 0 ∷ 0 ∷ 0 ∷ 0 ∷ 0 ∷ 0 ∷ 0 ∷ 0 ∷ 1 ∷ 0 ∷ 0 ∷ 0 ∷ 1 ∷ 0 ∷ 0 ∷ 0 ∷ []) None in
    (left.refusal, (at_number left.world 0).clipr)

display_clip : (display_named >>= λ world. Ok (clipped world)) ≡ Ok (Some 23, rect 0 0 64 48)
unfolding everything
display_clip = refl

-- ---- fonts

no_font_by_name : refusal (said named ((2, LowI 1 1 6) ∷ [])) ≡ 23
unfolding everything
no_font_by_name = refl

no_font_on_display : refusal (said named ((1, LowI 0 1 6) ∷ [])) ≡ 23
unfolding everything
no_font_on_display = refl

no_font_without_characters : refusal (said named ((1, LowI 9 0 6) ∷ [])) ≡ 23
unfolding everything
no_font_without_characters = refl

no_larger_font : refusal (said named ((1, LowI 9 4097 6) ∷ [])) ≡ 23
unfolding everything
no_larger_font = refl

largest_font : refusal (said named ((1, LowI 9 4096 6) ∷ [])) ≡ 0
unfolding everything
largest_font = refl

-- the operator that is set
abbrev operator : Outcome World → ℕ
operator (Ok world) = (client_of world 1).op
operator (Err n) = 99

-- blue 2 and red 3, and the font 7 with one character
abbrev lettered : Outcome World
lettered =
    all_of (Ok device)
    (dot 1 0x31 0xffffffff ∷ dot 2 0x68081828 0x0000ffff ∷ dot 3 0x68081828 0xff0000ff ∷ plain 7 0x38 (rect 0 0 8 8) 0
    ∷ (LowI 7 1 6, []) ∷ (LowL 7 1 0 (rect 0 0 3 8) (at 0 0) (pos 1) 5, []) ∷ [])

abbrev character_in : (index : ℕ) → Rect → Message × List ℕ
character_in index r = (LowL 7 1 index r (at 0 0) (pos 0) 5, [])

no_such_character : refusal (all_of lettered (character_in 1 (rect 3 0 2 8) ∷ [])) ≡ 15
unfolding everything
no_such_character = refl

turned_character : refusal (all_of lettered (character_in 0 (rect 3 0 2 8) ∷ [])) ≡ 9
unfolding everything
turned_character = refl

character_beside : refusal (all_of lettered (character_in 0 (rect 6 0 9 8) ∷ [])) ≡ 9
unfolding everything
character_beside = refl

-- an empty character is inside each image
empty_character : refusal (all_of lettered (character_in 0 (rect 9 9 9 9) ∷ [])) ≡ 0
unfolding everything
empty_character = refl

-- a character is loaded with the operator S, and the one that was set stays
operator_kept : operator (all_of lettered ((UpO 0, []) ∷ character_in 0 (rect 3 0 6 8) ∷ [])) ≡ 0
unfolding everything
operator_kept = refl

loaded : pending (all_of lettered ((UpO 0, []) ∷ character_in 0 (rect 4 0 6 8) ∷ readd 7 (rect 0 0 8 1) ∷ [])) ≡ 255 ∷ 255 ∷ 255 ∷ 0 ∷ 255 ∷ 255 ∷ 0 ∷ 0 ∷ []
unfolding everything
loaded = refl

-- ---- strings

abbrev blue : (fontid : ℕ) → List ℕ → Writing
blue fontid indices = record {
  dstid = 0;
  srcid = 2;
  fontid = fontid;
  p = at 10 20;
  clipr = rect 0 0 64 48;
  sp = at 0 0;
  indices = indices;
}

-- one character on (11, 14, 14, 22)
across : pending (all_of lettered ((LowS (blue 7 (0 ∷ [])), []) ∷ readd 0 (rect 10 14 15 15) ∷ [])) ≡ 119 ∷ 119 ∷ 119 ∷ 0 ∷ 255 ∷ 0 ∷ 0 ∷ 0 ∷ 255 ∷ 0 ∷ 0 ∷ 0 ∷ 255 ∷ 0 ∷ 0 ∷ 0 ∷ 119 ∷ 119 ∷ 119 ∷ 0 ∷ []
unfolding everything
across = refl

down : pending (all_of lettered ((LowS (blue 7 (0 ∷ [])), []) ∷ readd 0 (rect 13 13 14 23) ∷ [])) ≡ 119 ∷ 119 ∷ 119 ∷ 0 ∷ 255 ∷ 0 ∷ 0 ∷ 0 ∷ 255 ∷ 0 ∷ 0 ∷ 0 ∷ 255 ∷ 0 ∷ 0 ∷ 0 ∷ 255 ∷ 0 ∷ 0 ∷ 0 ∷ 255 ∷ 0 ∷ 0 ∷ 0 ∷ 255 ∷ 0 ∷ 0 ∷ 0 ∷ 255 ∷ 0 ∷ 0 ∷ 0 ∷ 255 ∷ 0 ∷ 0 ∷ 0 ∷ 119 ∷ 119 ∷ 119 ∷ 0 ∷ []
unfolding everything
down = refl

-- an index out of range refuses the whole string
no_index : refusal (all_of lettered ((LowS (blue 7 (0 ∷ 1 ∷ [])), []) ∷ [])) ≡ 15
unfolding everything
no_index = refl

no_font : refusal (all_of lettered ((LowS (blue 1 (0 ∷ [])), []) ∷ [])) ≡ 14
unfolding everything
no_font = refl

-- a font is asked for before a background, and a background before the indices
no_font_nor_background : refusal (all_of lettered ((LowX (blue 1 (1 ∷ [])) 9 (at 0 0), []) ∷ [])) ≡ 14
unfolding everything
no_font_nor_background = refl

no_background : refusal (all_of lettered ((LowX (blue 7 (1 ∷ [])) 9 (at 0 0), []) ∷ [])) ≡ 4
unfolding everything
no_background = refl

-- an id that was freed is no font any more
font_freed : refusal (all_of lettered ((LowF 7, []) ∷ plain 7 0x38 (rect 0 0 8 8) 0 ∷ (LowS (blue 7 []), []) ∷ [])) ≡ 14
unfolding everything
font_freed = refl

-- a font that is made anew has empty characters
font_again : pending (all_of lettered ((LowI 7 1 6, []) ∷ (LowS (blue 7 (0 ∷ [])), []) ∷ readd 0 (rect 11 14 12 15) ∷ [])) ≡ 119 ∷ 119 ∷ 119 ∷ 0 ∷ []
unfolding everything
font_again = refl

-- a string without characters sets the operator back
operator_back : operator (all_of lettered ((UpO 10, []) ∷ (LowS (blue 7 []), []) ∷ [])) ≡ 11
unfolding everything
operator_back = refl

-- two characters, on (11, 14, 14, 22) and (16, 14, 19, 22), on a background on (10, 14, 20, 22)
abbrev grounded : Rect → List ℕ
grounded r = pending (all_of lettered ((LowX (blue 7 (0 ∷ 0 ∷ [])) 3 (at 0 0), []) ∷ readd 0 r ∷ []))

grounded_across : grounded (rect 9 14 21 15) ≡ 119 ∷ 119 ∷ 119 ∷ 0 ∷ 0 ∷ 0 ∷ 255 ∷ 0 ∷ 255 ∷ 0 ∷ 0 ∷ 0 ∷ 255 ∷ 0 ∷ 0 ∷ 0 ∷ 255 ∷ 0 ∷ 0 ∷ 0 ∷ 0 ∷ 0 ∷ 255 ∷ 0 ∷ 0 ∷ 0 ∷ 255 ∷ 0 ∷ 255 ∷ 0 ∷ 0 ∷ 0 ∷ 255 ∷ 0 ∷ 0 ∷ 0 ∷ 255 ∷ 0 ∷ 0 ∷ 0 ∷ 0 ∷ 0 ∷ 255 ∷ 0 ∷ 119 ∷ 119 ∷ 119 ∷ 0 ∷ []
unfolding everything
grounded_across = refl

grounded_down : grounded (rect 10 13 11 23) ≡ 119 ∷ 119 ∷ 119 ∷ 0 ∷ 0 ∷ 0 ∷ 255 ∷ 0 ∷ 0 ∷ 0 ∷ 255 ∷ 0 ∷ 0 ∷ 0 ∷ 255 ∷ 0 ∷ 0 ∷ 0 ∷ 255 ∷ 0 ∷ 0 ∷ 0 ∷ 255 ∷ 0 ∷ 0 ∷ 0 ∷ 255 ∷ 0 ∷ 0 ∷ 0 ∷ 255 ∷ 0 ∷ 0 ∷ 0 ∷ 255 ∷ 0 ∷ 119 ∷ 119 ∷ 119 ∷ 0 ∷ []
unfolding everything
grounded_down = refl

-- a string onto its own source: the second character reads what the first has drawn
onto_itself : pending (all_of (Ok device) (plain 7 0x38 (rect 0 0 1 1) 0xffffffff ∷ (LowI 7 1 0, []) ∷ (LowL 7 7 0 (rect 0 0 1 1) (at 0 0) (pos 0) 1, []) ∷ plain 8 0x38 (rect 0 0 4 1) 0 ∷ (LowY 8 (rect 0 0 4 1), 1 ∷ 2 ∷ 3 ∷ 4 ∷ []) ∷ (LowS (record { dstid = 8; srcid = 8; fontid = 7; p = at 1 0; clipr = rect 0 0 4 1; sp = at 0 0; indices = 0 ∷ 0 ∷ [] }), []) ∷ readd 8 (rect 0 0 4 1) ∷ [])) ≡ 1 ∷ 1 ∷ 1 ∷ 4 ∷ []
unfolding everything
onto_itself = refl
