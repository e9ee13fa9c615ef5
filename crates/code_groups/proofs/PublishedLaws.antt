-- The definitions give the published table.
use Rattle.std.proofs.Common.{◌≡◌, ℕ, ◌+◌, ◌*◌, ◌/◌, ◌%◌, ◌<◌, Bool, true, not, ◌&&◌, ◌||◌, ◌==◌, nat_lt, if◌then◌else◌, get_or, refl}
use Rattle.std.proofs.lemmas.Bool.{and_parts, eqb-true, ltb-true}
use Rattle.rio_chars.specs.declared.chars.Char.{Char}
use Rattle.rio_chars.specs.declared.chars.Char.TheVariants.{Data, Special}
use Rattle.code_groups.specs.declared.disparity.Disparity.TheVariants.{Negative, Positive}
use Rattle.code_groups.specs.Groups.{has_group, is_special, group_of}
use Rattle.code_groups.specs.Published.{published_data, special_bytes, published_special}
use Rattle.code_groups.proofs.Characters.{every, every_at, then_second}

data_row : ℕ → Bool
data_row byte =
    (group_of Negative (Data byte) == get_or published_data (2 * byte) 0)
    && (group_of Positive (Data byte) == get_or published_data (2 * byte + 1) 0)

all_data_rows : every 256 data_row ≡ true
unfolding data_row
all_data_rows = refl

pub data_rows : (byte : ℕ) → byte < 256
    → (group_of Negative (Data byte) ≡ get_or published_data (2 * byte) 0)
    × (group_of Positive (Data byte) ≡ get_or published_data (2 * byte + 1) 0)
unfolding data_row
data_rows byte low =
    let parts = and_parts _ _ (every_at 256 data_row byte all_data_rows low) in
    (eqb-true _ _ parts.0, eqb-true _ _ parts.1)

abbrev special_at : ℕ → Char
special_at row = Special (get_or special_bytes row 0)

special_row : ℕ → Bool
special_row row =
    has_group (special_at row)
    && ((group_of Negative (special_at row) == get_or published_special (2 * row) 0)
    && (group_of Positive (special_at row) == get_or published_special (2 * row + 1) 0))

all_special_rows : every 12 special_row ≡ true
unfolding special_row
all_special_rows = refl

pub special_rows : (row : ℕ) → row < 12
    → (has_group (special_at row) ≡ true)
    × (group_of Negative (special_at row) ≡ get_or published_special (2 * row) 0)
    × (group_of Positive (special_at row) ≡ get_or published_special (2 * row + 1) 0)
unfolding special_row
special_rows row low =
    let parts = and_parts _ _ (every_at 12 special_row row all_special_rows low) in
    let both = and_parts _ _ parts.1 in
    (parts.0, eqb-true _ _ both.0, eqb-true _ _ both.1)

-- the row of a special character
row_of : ℕ → ℕ
row_of byte =
    if byte % 32 == 28 then byte / 32 else
    if byte == 0xf7 then 8 else
    if byte == 0xfb then 9 else
    if byte == 0xfd then 10 else 11

row_test : ℕ → Bool
row_test byte =
    not (is_special byte)
    || (nat_lt (row_of byte) 12 && (get_or special_bytes (row_of byte) 0 == byte))

all_rows : every 256 row_test ≡ true
unfolding row_test row_of
all_rows = refl

pub row_found : (byte : ℕ) → is_special byte ≡ true
    → (row : ℕ) × (row < 12) × (get_or special_bytes row 0 ≡ byte)
unfolding row_test
row_found byte h =
    let low : byte < 256 = ltb-true byte 256 (and_parts _ _ h).0 in
    let parts = and_parts _ _
    (then_second (is_special byte) _ h (every_at 256 row_test byte all_rows low)) in
    (row_of byte, ltb-true _ _ parts.0, eqb-true _ _ parts.1)
