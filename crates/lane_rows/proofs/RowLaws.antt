-- Rows of four lanes, sent and heard.
use Rattle.std.proofs.Common.{◌≡◌, ℕ, zero, suc, ◌+◌, ◌-◌, ◌*◌, ◌/◌, ◌%◌, ◌≤◌, List, [], ◌∷◌, ◌++◌, length, get_or, take, drop, replicate, refl, sym, ap, ◌∙◌, subst, arith, append_assoc, length-append}
use Rattle.rio_chars.specs.declared.chars.Char.{Char}
use Rattle.rio_chars.specs.declared.chars.Char.TheVariants.{Special}
use Rattle.rio_chars.proofs.SpacedLaws.{front_one}
use Rattle.code_groups.specs.declared.disparity.Disparity.{Disparity}
use Rattle.code_groups.specs.declared.disparity.Disparity.TheVariants.{Negative}
use Rattle.code_groups.specs.Groups.{group_of, disparity_after}
use Rattle.code_groups.proofs.CommaLaws.{group-range}
use Rattle.code_groups.specs.Streams.{HaveGroups, HaveTenBits, groups_from}
use Rattle.lane_columns.specs.Columns.{chars_of_columns, columns_of}
use Rattle.lane_columns.specs.Skews.{lane_from_align}
use Rattle.lane_sync.specs.declared.lane.LaneState.{LaneState}
use Rattle.lane_sync.specs.Syncing.{lane_out, LaneHearsAll}
use Rattle.lane_sync.proofs.SyncLaws.{all_from_comma}
use Rattle.lane_rows.specs.declared.sending.FourSenders.{FourSenders}
use Rattle.lane_rows.specs.declared.hearing.FourReceivers.{FourReceivers}
use Rattle.lane_rows.specs.Rows.{every_fourth, idle_row, align_row, idles_behind, burst_rows}
use Rattle.lane_rows.specs.RowSending.{senders_after, rows_from, after_rows}
use Rattle.lane_rows.specs.RowHearing.{HearsRows, ComeLate, late_groups, new_receivers}

-- a lane's turn
pub fourth_later : (wait x : ℕ) (xs : List ℕ) → 1 ≤ wait
    → every_fourth wait (x ∷ xs) ≡ every_fourth (wait - 1) xs
fourth_later zero x xs some = absurd (omega arith)
fourth_later (suc wait) x xs some =
    ap (λ (w : ℕ). every_fourth w xs) (let e : wait ≡ suc wait - 1 = omega arith in e)

pub tens_fourth : (wait : ℕ) (groups : List ℕ) → HaveTenBits groups
    → HaveTenBits (every_fourth wait groups)
tens_fourth wait [] h = tt
tens_fourth zero (group ∷ groups) h = (h.0, tens_fourth 3 groups h.1)
tens_fourth (suc wait) (group ∷ groups) h = tens_fourth wait groups h.1

have_fourth : (wait : ℕ) (chars : List Char) → HaveGroups chars
    → HaveGroups (every_fourth wait chars)
have_fourth wait [] h = tt
have_fourth zero (c ∷ chars) h = (h.0, have_fourth 3 chars h.1)
have_fourth (suc wait) (c ∷ chars) h = have_fourth wait chars h.1

-- what is sent, lane by lane
pub record Sides (lanes : FourSenders) (chars : List Char) : Type 0 where
  pub a : every_fourth 0 (rows_from lanes chars) ≡ groups_from lanes.a (every_fourth 0 chars)
  pub b : every_fourth 1 (rows_from lanes chars) ≡ groups_from lanes.b (every_fourth 1 chars)
  pub c : every_fourth 2 (rows_from lanes chars) ≡ groups_from lanes.c (every_fourth 2 chars)
  pub d : every_fourth 3 (rows_from lanes chars) ≡ groups_from lanes.d (every_fourth 3 chars)

pub sides : (lanes : FourSenders) (chars : List Char) → Sides lanes chars
sides lanes [] = record { a = refl; b = refl; c = refl; d = refl }
sides lanes (first ∷ chars) =
    let rest = sides (senders_after lanes first) chars in
    record {
      a = ap (λ (gs : List ℕ). group_of lanes.a first ∷ gs) rest.d;
      b = rest.a;
      c = rest.b;
      d = rest.c;
    }

-- idles before and behind
idles_slide : (late : ℕ) (chars : List Char)
    → replicate late (Special 0xbc) ++ Special 0xbc ∷ chars
    ≡ Special 0xbc ∷ (replicate late (Special 0xbc) ++ chars)
idles_slide zero chars = refl
idles_slide (suc late) chars = ap (λ (l : List Char). Special 0xbc ∷ l) (idles_slide late chars)

have_idles : (late : ℕ) (chars : List Char) → HaveGroups chars
    → HaveGroups (replicate late (Special 0xbc) ++ chars)
have_idles zero chars h = h
have_idles (suc late) chars h = (refl, have_idles late chars h)

have_only : (count : ℕ) → HaveGroups (replicate count (Special 0xbc))
have_only zero = tt
have_only (suc count) = (refl, have_only count)

have_both : (chars more : List Char) → HaveGroups chars → HaveGroups more
    → HaveGroups (chars ++ more)
have_both [] more h k = k
have_both (c ∷ chars) more h k = (h.0, have_both chars more h.1 k)

-- what is sent has groups, and they have ten bits
pub have_rows : (chars : List Char) → HaveGroups chars → HaveGroups (burst_rows chars)
have_rows chars h =
    let body = have_both chars (idles_behind chars) h
    (have_only (7 - (length chars % 4 + 3) % 4)) in
    (refl, (refl, (refl, (refl, (refl, (refl, (refl, (refl, body))))))))

pub tens_rows : (lanes : FourSenders) (chars : List Char) → HaveGroups chars
    → HaveTenBits (rows_from lanes chars)
tens_rows lanes [] h = tt
tens_rows lanes (c ∷ chars) h =
    ((group-range lanes.a c h.0).1, tens_rows (senders_after lanes c) chars h.1)

align_after : (late : ℕ) (body : List Char)
    → lane_from_align (replicate late (Special 0xbc) ++ Special 0xbc ∷ Special 0xfb ∷ body)
    ≡ Special 0xfb ∷ body
align_after zero body = refl
align_after (suc late) body = align_after late body

-- what a late lane hears from its first align character on
lane_late : (before : Disparity) (late : ℕ) (body heard : List Char) (to : LaneState)
    → HaveGroups body
    → LaneHearsAll 1 (lane_out 1 Negative)
    (late_groups before late (Special 0xbc ∷ Special 0xfb ∷ body)) to heard
    → lane_from_align heard ≡ Special 0xfb ∷ body
lane_late before late body heard to have h =
    let later : List Char = replicate late (Special 0xbc) ++ Special 0xfb ∷ body in
    let slid : replicate late (Special 0xbc) ++ Special 0xbc ∷ Special 0xfb ∷ body
    ≡ Special 0xbc ∷ later = idles_slide late (Special 0xfb ∷ body) in
    let all =
    all_from_comma before Negative later heard to
    (have_idles late (Special 0xfb ∷ body) (refl, have))
    (subst (λ (cs : List Char). LaneHearsAll 1 (lane_out 1 Negative) (groups_from before cs) to
    heard) slid h) in
    ap lane_from_align (all.0 ∙ sym slid) ∙ align_after late body

-- four lanes of whole columns, joined
fours : (n : ℕ) (body : List Char) → length body ≡ 4 * n
    → chars_of_columns (columns_of (every_fourth 0 body) (every_fourth 1 body)
    (every_fourth 2 body) (every_fourth 3 body)) ≡ body
fours zero [] h = refl
fours zero (a ∷ rest) h = absurd (omega (arith, h))
fours (suc n) [] h = absurd (omega (arith, h))
fours (suc n) (a ∷ []) h = absurd (omega (arith, h))
fours (suc n) (a ∷ b ∷ []) h = absurd (omega (arith, h))
fours (suc n) (a ∷ b ∷ c ∷ []) h = absurd (omega (arith, h))
fours (suc n) (a ∷ b ∷ c ∷ d ∷ rest) h =
    let shorter : length rest ≡ 4 * n = omega (arith, h) in
    ap (λ (l : List Char). a ∷ b ∷ c ∷ d ∷ l) (fours n rest shorter)

length_idles : (count : ℕ) → length (replicate count (Special 0xbc)) ≡ count
length_idles zero = refl
length_idles (suc count) = ap suc (length_idles count)

whole : (chars : List Char)
    → length (chars ++ idles_behind chars) ≡ 4 * ((length chars + 3) / 4 + 1)
whole chars =
    let both = length-append chars (idles_behind chars) in
    let behind = length_idles (7 - (length chars % 4 + 3) % 4) in
    omega (arith, both, behind)

module _ (chars : List Char) where
  -- what each lane has of a burst
  lane_0 : every_fourth 0 (burst_rows chars)
      ≡ Special 0xbc ∷ Special 0xfb ∷ every_fourth 0 (chars ++ idles_behind chars)
  lane_0 = refl

  lane_1 : every_fourth 1 (burst_rows chars)
      ≡ Special 0xbc ∷ Special 0xfb ∷ every_fourth 1 (chars ++ idles_behind chars)
  lane_1 = refl

  lane_2 : every_fourth 2 (burst_rows chars)
      ≡ Special 0xbc ∷ Special 0xfb ∷ every_fourth 2 (chars ++ idles_behind chars)
  lane_2 = refl

  lane_3 : every_fourth 3 (burst_rows chars)
      ≡ Special 0xbc ∷ Special 0xfb ∷ every_fourth 3 (chars ++ idles_behind chars)
  lane_3 = refl

-- one lane of a burst that comes late
lane_heard : (before : Disparity) (late wait : ℕ) (groups : List ℕ) (lane chars heard : List Char)
    (to : LaneState) → HaveGroups chars
    → lane ≡ Special 0xbc ∷ Special 0xfb ∷ every_fourth wait (chars ++ idles_behind chars)
    → groups ≡ late_groups before late lane
    → LaneHearsAll 1 (lane_out 1 Negative) groups to heard
    → lane_from_align heard ≡ Special 0xfb ∷ every_fourth wait (chars ++ idles_behind chars)
lane_heard before late wait groups lane chars heard to have is carried h =
    let body : List Char = chars ++ idles_behind chars in
    lane_late before late (every_fourth wait body) heard to
    (have_fourth wait body (have_both chars (idles_behind chars) have
    (have_only (7 - (length chars % 4 + 3) % 4))))
    (subst (λ (gs : List ℕ). LaneHearsAll 1 (lane_out 1 Negative) gs to heard)
    (carried ∙ ap (late_groups before late) is) h)

pub late_joined : (senders : FourSenders) (chars heard : List Char) (groups : List ℕ)
    (late_a late_b late_c late_d : ℕ) (to : FourReceivers) → HaveGroups chars
    → ComeLate senders chars groups late_a late_b late_c late_d
    → HearsRows 1 (new_receivers 1) groups to heard
    → heard ≡ align_row ++ chars ++ idles_behind chars
late_joined senders chars heard groups late_a late_b late_c late_d to have come h =
    let body : List Char = chars ++ idles_behind chars in
    let e_a = lane_heard senders.a late_a 0 (every_fourth 0 groups)
    (every_fourth 0 (burst_rows chars)) chars h.chars_a to.a have (lane_0 chars) come.lane_a
    h.hears_a in
    let e_b = lane_heard senders.b late_b 1 (every_fourth 1 groups)
    (every_fourth 1 (burst_rows chars)) chars h.chars_b to.b have (lane_1 chars) come.lane_b
    h.hears_b in
    let e_c = lane_heard senders.c late_c 2 (every_fourth 2 groups)
    (every_fourth 2 (burst_rows chars)) chars h.chars_c to.c have (lane_2 chars) come.lane_c
    h.hears_c in
    let e_d = lane_heard senders.d late_d 3 (every_fourth 3 groups)
    (every_fourth 3 (burst_rows chars)) chars h.chars_d to.d have (lane_3 chars) come.lane_d
    h.hears_d in
    h.are
    ∙ ap (λ (l : List Char). chars_of_columns (columns_of l (lane_from_align h.chars_b)
    (lane_from_align h.chars_c) (lane_from_align h.chars_d))) e_a
    ∙ ap (λ (l : List Char). chars_of_columns (columns_of (Special 0xfb ∷ every_fourth 0 body) l
    (lane_from_align h.chars_c) (lane_from_align h.chars_d))) e_b
    ∙ ap (λ (l : List Char). chars_of_columns (columns_of (Special 0xfb ∷ every_fourth 0 body)
    (Special 0xfb ∷ every_fourth 1 body) l (lane_from_align h.chars_d))) e_c
    ∙ ap (λ (l : List Char). chars_of_columns (columns_of (Special 0xfb ∷ every_fourth 0 body)
    (Special 0xfb ∷ every_fourth 1 body) (Special 0xfb ∷ every_fourth 2 body) l)) e_d
    ∙ ap (λ (l : List Char). Special 0xfb ∷ Special 0xfb ∷ Special 0xfb ∷ Special 0xfb ∷ l)
    (fours ((length chars + 3) / 4 + 1) body (whole chars))

-- the first of what is left was sent
pub row_sent : (lanes next end : FourSenders) (groups more total : List ℕ) (left : List Char)
    (d : Char) (group : ℕ) → 1 ≤ length left → HaveGroups left
    → groups ++ rows_from lanes left ≡ total → after_rows lanes left ≡ end
    → group ≡ group_of lanes.a (get_or left 0 d) → next ≡ senders_after lanes (get_or left 0 d)
    → more ≡ groups ++ group ∷ []
    → HaveGroups (take (length left - 1) (drop 1 left))
    × (more ++ rows_from next (take (length left - 1) (drop 1 left)) ≡ total)
    × (after_rows next (take (length left - 1) (drop 1 left)) ≡ end)
row_sent lanes next end groups more total left d group some have sum stop is goes pushed =
    let c : Char = get_or left 0 d in
    let rest : List Char = take (length left - 1) (drop 1 left) in
    let parts : left ≡ c ∷ rest = front_one left d some in
    let next_lanes : FourSenders = senders_after lanes c in (
      (subst HaveGroups parts have).1,
      ap (λ (n : FourSenders). more ++ rows_from n rest) goes
          ∙ ap (λ (gs : List ℕ). gs ++ rows_from next_lanes rest)
          (pushed ∙ ap (λ (g : ℕ). groups ++ g ∷ []) is)
          ∙ append_assoc groups (group_of lanes.a c ∷ []) (rows_from next_lanes rest)
          ∙ ap (λ (l : List Char). groups ++ rows_from lanes l) (sym parts)
          ∙ sum,
      ap (λ (n : FourSenders). after_rows n rest) goes
          ∙ ap (after_rows lanes) (sym parts) ∙ stop,
    )
