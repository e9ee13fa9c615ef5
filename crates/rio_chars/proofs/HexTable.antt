-- The table of hexadecimal digits.
use Rattle.std.proofs.Common.{◌≡◌, ◌≢◌, ◌≤◌, ℕ, ◌-◌, ◌<◌, nat_lt, if◌then◌else◌, get_or, map, refl, sym, subst, ap, ◌∙◌, arith}
use Rattle.std.specs.List.{range_with_len}
use Rattle.std.proofs.lemmas.Bool.Decides.{nat_tests}
use Rattle.std.proofs.lemmas.List.FromFn.{get_or-map-range_with_len}
use Rattle.rio_chars.specs.HexText.{hex_digit}
use Rattle.rio_chars.specs.declared.digits.TheConstants.{HEX_VALUES}

-- what the table has for a byte
abbrev value_of : ℕ → ℕ
value_of byte =
    if nat_lt byte 48 then 255 else
    if nat_lt byte 58 then byte - 48 else
    if nat_lt byte 97 then 255 else
    if nat_lt byte 103 then byte - 87 else 255

table_is : HEX_VALUES ≡ map value_of (range_with_len 0 256)
table_is = refl

value_at : (byte : ℕ) → byte < 256 → get_or HEX_VALUES byte 0 ≡ value_of byte
value_at byte below =
    ap (λ table. get_or table byte 0) table_is
    ∙ get_or-map-range_with_len value_of 0 256 byte byte 0 below (omega arith)

value_digit : (byte : ℕ) → value_of byte < 16 → byte ≡ hex_digit (value_of byte)
value_digit byte few = grind (arith, nat_tests)

value_none : (byte number : ℕ) → 16 ≤ value_of byte → number < 16 → byte ≢ hex_digit number
value_none byte number many below = grind (arith, nat_tests)

-- what the table has is the number of the digit
pub entry_digit : (byte : ℕ) → byte < 256 → get_or HEX_VALUES byte 0 < 16
    → byte ≡ hex_digit (get_or HEX_VALUES byte 0)
entry_digit byte below few =
    let is = value_at byte below in
    let few_here : value_of byte < 16 = subst (λ n. n < 16) is few in
    value_digit byte few_here ∙ ap hex_digit (sym is)

-- where it has more than 15 there is no digit
pub entry_none : (byte : ℕ) → byte < 256 → 16 ≤ get_or HEX_VALUES byte 0 → (number : ℕ)
    → number < 16 → byte ≢ hex_digit number
entry_none byte below many number small =
    let is = value_at byte below in
    let many_here : 16 ≤ value_of byte = subst (λ n. 16 ≤ n) is many in
    value_none byte number many_here small
