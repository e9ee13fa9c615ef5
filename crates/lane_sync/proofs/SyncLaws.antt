-- What a lane hears of what is sent.
use Rattle.std.proofs.Common.{◌≡◌, ℕ, true, false, List, [], ◌∷◌, refl, sym, ap, ◌∙◌, subst, true≢false}
use Rattle.rio_chars.specs.declared.chars.Char.{Char}
use Rattle.rio_chars.specs.declared.chars.Char.TheVariants.{Data, Special, Invalid}
use Rattle.code_groups.specs.declared.disparity.Disparity.{Disparity}
use Rattle.code_groups.specs.declared.disparity.Disparity.TheVariants.{Negative, Positive}
use Rattle.code_groups.specs.Disparities.{after_group}
use Rattle.code_groups.specs.Groups.{has_group, group_of, disparity_after, IsHeardAs}
use Rattle.code_groups.specs.Streams.{HaveGroups, groups_from, after_chars}
use Rattle.code_groups.proofs.Plain.{heard_group, heard_one}
use Rattle.lane_sync.specs.declared.lane.LaneState.{LaneState}
use Rattle.lane_sync.specs.Syncing.{lane_out, lane_in, comma_disparity, is_invalid, out_goes, in_goes, told_char, LaneHears, LaneHearsAll}

read_is : (before : Disparity) (c x : Char) → has_group c ≡ true
    → IsHeardAs before (group_of before c) x → x ≡ c
read_is before c x has h =
    heard_one before (group_of before c) x c h
    (heard_group before (group_of before c) c (has, refl))

valid : (c : Char) → has_group c ≡ true → is_invalid c ≡ false
valid (Data byte) h = refl
valid (Special byte) h = refl
valid Invalid h = absurd (true≢false (sym h))

-- one character on a lane in sync
one_in : (commas more : ℕ) (before : Disparity) (c x : Char) (to : LaneState) → has_group c ≡ true
    → LaneHears commas (lane_in 3 more before) (group_of before c) to x
    → (x ≡ c) × (to ≡ lane_in 3 more (disparity_after before c))
one_in commas more before c x to has h =
    let read : h.read ≡ c = read_is before c h.read has h.is_read in
    let goes : to ≡ lane_in 3 more (disparity_after before c) =
    h.goes
    ∙ ap (λ (r : Char). in_goes commas 3 more (disparity_after before c) (is_invalid r)) read
    ∙ ap (in_goes commas 3 more (disparity_after before c)) (valid c has) in
    (h.tells ∙ ap (λ (s : LaneState). told_char s h.read) goes ∙ read, goes)

pub all_in : (commas more : ℕ) (before : Disparity) (chars heard : List Char) (to : LaneState)
    → HaveGroups chars
    → LaneHearsAll commas (lane_in 3 more before) (groups_from before chars) to heard
    → (heard ≡ chars) × (to ≡ lane_in 3 more (after_chars before chars))
all_in commas more before [] heard to have h = (h.1, h.0)
all_in commas more before (c ∷ chars) [] to have h = absurd h
all_in commas more before (c ∷ chars) (x ∷ heard) to have h =
    let here = one_in commas more before c x h.0 have.0 h.1 in
    let rest =
    all_in commas more (disparity_after before c) chars heard to have.1
    (subst (λ (s : LaneState). LaneHearsAll commas s
    (groups_from (disparity_after before c) chars) to heard) here.1 h.2) in
    let whole : x ∷ heard ≡ c ∷ chars =
    ap (λ (y : Char). y ∷ heard) here.0 ∙ ap (λ (ys : List Char). c ∷ ys) rest.0 in
    (whole, rest.1)

-- the first comma
comma_tells : (before : Disparity) → comma_disparity (group_of before (Special 0xbc)) ≡ before
comma_tells Negative = refl
comma_tells Positive = refl

comma_goes : (before : Disparity) (read : Char) → read ≡ Special 0xbc → (to : LaneState)
    → to ≡ out_goes 1 1 (after_group before (group_of before (Special 0xbc))) (is_invalid read)
    true
    → to ≡ lane_in 3 255 (disparity_after before (Special 0xbc))
comma_goes before read e to goes =
    goes
    ∙ ap (λ (r : Char). out_goes 1 1 (disparity_after before (Special 0xbc)) (is_invalid r) true) e

first_comma : (before own : Disparity) (x : Char) (to : LaneState)
    → LaneHears 1 (lane_out 1 own) (group_of before (Special 0xbc)) to x
    → (x ≡ Special 0xbc) × (to ≡ lane_in 3 255 (disparity_after before (Special 0xbc)))
first_comma Negative own x to h =
    let read : h.read ≡ Special 0xbc = read_is Negative (Special 0xbc) h.read refl h.is_read in
    let goes = comma_goes Negative h.read read to h.goes in
    (h.tells ∙ ap (λ (s : LaneState). told_char s h.read) goes ∙ read, goes)
first_comma Positive own x to h =
    let read : h.read ≡ Special 0xbc = read_is Positive (Special 0xbc) h.read refl h.is_read in
    let goes = comma_goes Positive h.read read to h.goes in
    (h.tells ∙ ap (λ (s : LaneState). told_char s h.read) goes ∙ read, goes)

pub all_from_comma : (before own : Disparity) (chars heard : List Char) (to : LaneState)
    → HaveGroups chars
    → LaneHearsAll 1 (lane_out 1 own) (groups_from before (Special 0xbc ∷ chars)) to heard
    → (heard ≡ Special 0xbc ∷ chars)
    × (to ≡ lane_in 3 255 (after_chars before (Special 0xbc ∷ chars)))
all_from_comma before own chars [] to have h = absurd h
all_from_comma before own chars (x ∷ heard) to have h =
    let next : Disparity = disparity_after before (Special 0xbc) in
    let here = first_comma before own x h.0 h.1 in
    let rest =
    all_in 1 255 next chars heard to have
    (subst (λ (s : LaneState). LaneHearsAll 1 s (groups_from next chars) to heard) here.1 h.2) in
    let whole : x ∷ heard ≡ Special 0xbc ∷ chars =
    ap (λ (y : Char). y ∷ heard) here.0 ∙ ap (λ (ys : List Char). Special 0xbc ∷ ys) rest.0 in
    (whole, rest.1)
