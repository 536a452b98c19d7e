-- Rows with a cursor over them, by computing.
use Rattle.std.specs.Prelude.{◌≡◌, refl, ℕ, pos, negsuc, [], ◌∷◌, ◌++◌, replicate}
use Rattle.model_pixel.specs.Channels.{channels, pack}
use Rattle.model_pixel.specs.Rows.{byte_at, raw_at, row_bytes, skip}
use Rattle.model_client.specs.cursor.Rows.{over_byte, over_rows}

-- all that the cases compute with
everything : ℕ
unfolding channels pack byte_at raw_at row_bytes skip over_byte
everything = 0

-- one bit each, from left of 0 on; bits beside the rectangle stay
bits : over_rows (record { min = record { x = negsuc 2; y = pos 4 }; max = record { x = pos 10; y = pos 8 } }) 0x31 (record { x = negsuc 0; y = pos 4 })
    (3 ∷ 48 ∷ 64 ∷ 2 ∷ 159 ∷ 192 ∷ 1 ∷ 14 ∷ 0 ∷ 0 ∷ 125 ∷ 128 ∷ [])
    ≡ (2 ∷ 48 ∷ 64 ∷ 2 ∷ 31 ∷ 192 ∷ 0 ∷ 142 ∷ 0 ∷ 0 ∷ 221 ∷ 128 ∷ [])
unfolding everything
bits = refl

-- two bits each; the cursor stands above the rows
pairs : over_rows (record { min = record { x = pos 3; y = pos 10 }; max = record { x = pos 12; y = pos 13 } }) 0x32 (record { x = pos 4; y = pos 0 })
    (3 ∷ 48 ∷ 85 ∷ 2 ∷ 159 ∷ 196 ∷ 1 ∷ 14 ∷ 51 ∷ [])
    ≡ (3 ∷ 63 ∷ 255 ∷ 2 ∷ 63 ∷ 255 ∷ 1 ∷ 63 ∷ 255 ∷ [])
unfolding everything
pairs = refl

-- 16 bits each; the cursor begins left of the rows
words : over_rows (record { min = record { x = pos 6; y = pos 7 }; max = record { x = pos 9; y = pos 9 } }) 0x51625 (record { x = pos 5; y = pos 5 })
    (11 ∷ 48 ∷ 85 ∷ 122 ∷ 159 ∷ 196 ∷ 233 ∷ 14 ∷ 51 ∷ 88 ∷ 125 ∷ 162 ∷ [])
    ≡ (255 ∷ 255 ∷ 0 ∷ 0 ∷ 159 ∷ 196 ∷ 255 ∷ 255 ∷ 255 ∷ 255 ∷ 0 ∷ 0 ∷ [])
unfolding everything
words = refl

-- 32 bits each; the second row stands below the cursor's last
colours : over_rows (record { min = record { x = pos 7; y = pos 20 }; max = record { x = pos 9; y = pos 22 } }) 0x68081828 (record { x = pos 5; y = pos 5 })
    (11 ∷ 48 ∷ 85 ∷ 122 ∷ 159 ∷ 196 ∷ 233 ∷ 14 ∷ 51 ∷ 88 ∷ 125 ∷ 162 ∷ 199 ∷ 236 ∷ 17 ∷ 54 ∷ [])
    ≡ (replicate 8 0 ++ 51 ∷ 88 ∷ 125 ∷ 162 ∷ 199 ∷ 236 ∷ 17 ∷ 54 ∷ [])
unfolding everything
colours = refl
