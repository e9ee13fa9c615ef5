-- What is read and heard of the bits of what is sent.
use Rattle.std.proofs.Common.{◌≡◌, ◌≢◌, ℕ, zero, suc, ◌+◌, ◌*◌, ◌/◌, ◌%◌, ◌<◌, ◌≤◌, ◌==◌, nat_le, true≢false, if◌then◌else◌, Bool, true, false, List, [], ◌∷◌, ◌++◌, map, Option, Some, None, refl, sym, ap, ◌∙◌, subst, inl, inr, arith, append_assoc, append-nil}
use Rattle.rio_chars.specs.declared.chars.Char.{Char}
use Rattle.rio_chars.specs.declared.chars.Char.TheVariants.{Data, Special, Invalid}
use Rattle.code_groups.specs.declared.disparity.Disparity.{Disparity}
use Rattle.code_groups.specs.declared.disparity.Disparity.TheVariants.{Negative, Positive}
use Rattle.code_groups.specs.Commas.{is_comma, ten_bits_at, NoneOfK28_7}
use Rattle.code_groups.specs.Groups.{has_group, group_of, disparity_after}
use Rattle.code_groups.specs.Streams.{HaveGroups, groups_from}
use Rattle.code_groups.proofs.CommaLaws.{no_comma_across, group-range}
use Rattle.lane_sync.specs.declared.lane.LaneState.{LaneState}
use Rattle.lane_sync.specs.Syncing.{lane_out, LaneHears, LaneHearsAll}
use Rattle.lane_sync.proofs.SyncLaws.{all_from_comma}
use Rattle.lane_bits.specs.declared.align.Aligner.{Aligner}
use Rattle.lane_bits.specs.declared.align.Aligner.TheVariants.{Seeking, Aligned}
use Rattle.lane_bits.specs.declared.align.AlignStep.{AlignStep}
use Rattle.lane_bits.specs.declared.align.BitPiece.{BitPiece}
use Rattle.lane_bits.specs.declared.align.BitPiece.TheVariants.{Slip, Group}
use Rattle.lane_bits.specs.Aligning.{with_bit, nine_kept, ends_comma, aligned_at, align_step, slip_at, aligned_reads, reads_bit, with_piece, new_aligner, after_bits, bit_pieces, group_bits, bits_of_groups, AreBits}
use Rattle.lane_bits.specs.BitHearing.{HearsPieces, HoldTens, IsNewPlace, place_told, six_bits}
use Rattle.lane_bits.proofs.BitLaws.{after_both, pieces_both}
use Rattle.lane_bits.proofs.GroupLaws.{Goes, at, NoneFrom, NoneWithin, one_group}
use Rattle.lane_bits.proofs.NewPlaceLaws.{comma_group, recent_of, bits_kept}

none_from : (before : Disparity) (c d : Char) → has_group c ≡ true → has_group d ≡ true
    → c ≢ Special 0xfc → NoneFrom (group_of before c) (group_of (disparity_after before c) d)
none_from before c d hc hd ne = record {
  at_4 = no_comma_across before c d 4 hc hd ne (omega arith) (omega arith);
  at_5 = no_comma_across before c d 5 hc hd ne (omega arith) (omega arith);
  at_6 = no_comma_across before c d 6 hc hd ne (omega arith) (omega arith);
  at_7 = no_comma_across before c d 7 hc hd ne (omega arith) (omega arith);
  at_8 = no_comma_across before c d 8 hc hd ne (omega arith) (omega arith);
  at_9 = no_comma_across before c d 9 hc hd ne (omega arith) (omega arith);
}

-- a group that comes after another one
abbrev next_group : Disparity → Char → ℕ
next_group before c = group_of (disparity_after before c) (Data 0)

none_within : (before : Disparity) (c : Char) → has_group c ≡ true → c ≢ Special 0xfc
    → NoneWithin (group_of before c) (next_group before c)
none_within before c hc ne = record {
  at_1 = no_comma_across before c (Data 0) 1 hc refl ne (omega arith) (omega arith);
  at_2 = no_comma_across before c (Data 0) 2 hc refl ne (omega arith) (omega arith);
  at_3 = no_comma_across before c (Data 0) 3 hc refl ne (omega arith) (omega arith);
}

ten_low : (before : Disparity) (c : Char) → has_group c ≡ true → group_of before c < 1024
ten_low before c h = (group-range before c h).1

-- the groups after one where groups begin
pub groups_go : (before : Disparity) (c : Char) (chars : List Char) (recent : ℕ)
    → has_group c ≡ true → c ≢ Special 0xfc → HaveGroups chars → NoneOfK28_7 chars
    → recent % 64 ≡ group_of before c % 64
    → bit_pieces (at recent 0) (bits_of_groups (groups_from (disparity_after before c) chars))
    ≡ map Group (groups_from (disparity_after before c) chars)
groups_go before c [] recent hc ne have none same = refl
groups_go before c (d ∷ chars) recent hc ne have none same =
    let next : Disparity = disparity_after before c in
    let g : ℕ = group_of next d in
    let others : List ℕ = groups_from (disparity_after next d) chars in
    let here = one_group (group_of before c) g (next_group next d) recent (ten_low next d have.0)
    (ten_low (disparity_after next d) (Data 0) refl) same (none_from before c d hc have.0 ne)
    (none_within next d have.0 none.0) in
    let rest = groups_go next d chars here.0 have.0 none.0 have.1 none.1 here.2 in
    pieces_both (at recent 0) (group_bits g) (bits_of_groups others)
    ∙ ap (λ (ps : List BitPiece). ps ++ bit_pieces (after_bits (at recent 0) (group_bits g))
    (bits_of_groups others)) here.1.told
    ∙ ap (λ (s : Aligner). Group g ∷ bit_pieces s (bits_of_groups others)) here.1.after
    ∙ ap (λ (ps : List BitPiece). Group g ∷ ps) rest

comma_is : (before : Disparity) → is_comma (group_of before (Special 0xbc)) ≡ true
comma_is Negative = refl
comma_is Positive = refl

is_idle : Char → Bool
is_idle (Data byte) = false
is_idle (Special byte) = byte == 0xbc
is_idle Invalid = false

idle_not : Special 0xbc ≢ Special 0xfc
unfolding is_idle
idle_not e = true≢false (ap is_idle e)

module _ (front : List ℕ) (before : Disparity) (chars : List Char) (have : HaveGroups chars)
    (none : NoneOfK28_7 chars) where
  pub comma_begins : IsNewPlace (after_bits new_aligner
      (front ++ six_bits (group_of before (Special 0xbc))))
      → bit_pieces new_aligner
      (front ++ bits_of_groups (groups_from before (Special 0xbc ∷ chars)))
      ≡ bit_pieces new_aligner (front ++ six_bits (group_of before (Special 0xbc)))
      ++ place_told (after_bits new_aligner (front ++ six_bits (group_of before (Special 0xbc))))
      ++ map Group (groups_from before (Special 0xbc ∷ chars))
  comma_begins new =
      let g : ℕ = group_of before (Special 0xbc) in
      let state : Aligner = after_bits new_aligner front in
      let six : Aligner = after_bits state (six_bits g) in
      let others : List ℕ = groups_from (disparity_after before (Special 0xbc)) chars in
      let same_six : after_bits new_aligner (front ++ six_bits g) ≡ six =
      after_both new_aligner front (six_bits g) in
      let some : 1 ≤ recent_of state % 1024 =
      bits_kept new_aligner front (omega arith) in
      let here = comma_group state g (next_group before (Special 0xbc))
      (ten_low before (Special 0xbc) refl)
      (ten_low (disparity_after before (Special 0xbc)) (Data 0) refl) some
      (subst IsNewPlace same_six new) (comma_is before)
      (none_within before (Special 0xbc) refl idle_not) in
      let rest = groups_go before (Special 0xbc) chars here.0 refl idle_not have none here.2 in
      let early : List BitPiece = bit_pieces state (six_bits g) in
      let told : List BitPiece = early ++ place_told six in
      let all : bit_pieces state (group_bits g ++ bits_of_groups others)
      ≡ told ++ Group g ∷ map Group others =
      pieces_both state (group_bits g) (bits_of_groups others)
      ∙ ap (λ (s : Aligner). bit_pieces state (group_bits g)
      ++ bit_pieces s (bits_of_groups others))
      here.1.after
      ∙ ap (λ (ps : List BitPiece). bit_pieces state (group_bits g) ++ ps) rest
      ∙ ap (λ (ps : List BitPiece). ps ++ map Group others) here.1.told
      ∙ append_assoc told (Group g ∷ []) (map Group others) in
      pieces_both new_aligner front (group_bits g ++ bits_of_groups others)
      ∙ ap (λ (ps : List BitPiece). bit_pieces new_aligner front ++ ps) all
      ∙ sym (append_assoc (bit_pieces new_aligner front) told (Group g ∷ map Group others))
      ∙ ap (λ (ps : List BitPiece). ps ++ Group g ∷ map Group others)
      (sym (append_assoc (bit_pieces new_aligner front) early (place_told six)))
      ∙ ap (λ (ps : List BitPiece). ps ++ place_told six ++ Group g ∷ map Group others)
      (sym (pieces_both new_aligner front (six_bits g)))
      ∙ ap (λ (s : Aligner). bit_pieces new_aligner (front ++ six_bits g) ++ place_told s
      ++ Group g ∷ map Group others) (sym same_six)

-- before a comma no piece ends
abbrev IsSeeking : Aligner → Type 0
IsSeeking (Seeking recent) = Unit {0}
IsSeeking (Aligned bits) = ⊥

seeking_if : (c : Bool) (word : ℕ)
    → (if c then align_step (aligned_at word 7) None
    else align_step (Seeking (nine_kept word)) None).piece ≡ None
seeking_if true word = refl
seeking_if false word = refl

aligned_on : (c : Bool) (word count : ℕ) → IsSeeking
    (if c then align_step (aligned_at word 0) (Some (Group (word % 1024)))
    else align_step (aligned_at word (count + 1)) None).state → ⊥
aligned_on true word count h = h
aligned_on false word count h = h

aligned_if : (c : Bool) (word count : ℕ) → IsSeeking
    (if c then align_step (aligned_at word 7) (slip_at count)
    else aligned_reads word count).state → ⊥
aligned_if true word count h = h
aligned_if false word count h = aligned_on (nat_le 9 count) word count h

still_one : (state : Aligner) (bit : ℕ) → IsSeeking (reads_bit state bit).state
    → IsSeeking state × ((reads_bit state bit).piece ≡ None)
still_one (Seeking recent) bit h =
    let word : ℕ = with_bit recent bit in (tt, seeking_if (ends_comma word) word)
still_one (Aligned bits) bit h =
    let word : ℕ = with_bit bits.recent bit in
    absurd (aligned_if (ends_comma word) word bits.count h)

still : (state : Aligner) (bits : List ℕ) → IsSeeking (after_bits state bits)
    → IsSeeking state × (bit_pieces state bits ≡ [])
still state [] h = (h, refl)
still state (bit ∷ bits) h =
    let rest = still (reads_bit state bit).state bits h in
    let here = still_one state bit rest.0 in (
      here.0,
      ap (λ (p : Option BitPiece). with_piece p (bit_pieces (reads_bit state bit).state bits))
          here.1
          ∙ rest.1,
    )

-- groups alone are heard as a lane hears groups
pub groups_heard : (commas : ℕ) (from : LaneState) (groups : List ℕ) (to : LaneState)
    (heard : List Char) → HearsPieces commas from (map Group groups) to heard
    → LaneHearsAll commas from groups to heard
groups_heard commas from [] to heard h = h
groups_heard commas from (group ∷ groups) to [] h = absurd h
groups_heard commas from (group ∷ groups) to (c ∷ heard) h =
    (h.0, h.1, groups_heard commas h.0 groups to heard h.2)

-- what is heard after bits that end no comma
pub sent_bits_heard : (front : List ℕ) (recent : ℕ) (before own : Disparity)
    (chars heard : List Char) (to : LaneState) → HaveGroups chars → NoneOfK28_7 chars
    → after_bits new_aligner (front ++ six_bits (group_of before (Special 0xbc)))
    ≡ Seeking recent
    → HearsPieces 1 (lane_out 1 own) (bit_pieces new_aligner
    (front ++ bits_of_groups (groups_from before (Special 0xbc ∷ chars)))) to heard
    → heard ≡ Special 0xbc ∷ chars
sent_bits_heard front recent before own chars heard to have none seeks h =
    let six : Aligner =
    after_bits new_aligner (front ++ six_bits (group_of before (Special 0xbc))) in
    let early : List BitPiece =
    bit_pieces new_aligner (front ++ six_bits (group_of before (Special 0xbc))) in
    let groups : List ℕ = groups_from before (Special 0xbc ∷ chars) in
    let nothing : early ≡ [] =
    (still new_aligner (front ++ six_bits (group_of before (Special 0xbc)))
    (subst IsSeeking (sym seeks) tt)).1 in
    let pieces : bit_pieces new_aligner (front ++ bits_of_groups groups) ≡ map Group groups =
    comma_begins front before chars have none (subst IsNewPlace (sym seeks) tt)
    ∙ ap (λ (ps : List BitPiece). ps ++ place_told six ++ map Group groups) nothing
    ∙ ap (λ (s : Aligner). place_told s ++ map Group groups) seeks in
    (all_from_comma before own chars heard to have
    (groups_heard 1 (lane_out 1 own) groups to heard
    (subst (λ (ps : List BitPiece). HearsPieces 1 (lane_out 1 own) ps to heard) pieces h))).0

-- one piece more was heard
pub hears_one : (commas : ℕ) (from next to : LaneState) (piece : BitPiece)
    (pieces : List BitPiece) (heard rest : List Char)
    → HearsPieces commas from (piece ∷ []) next heard → HearsPieces commas next pieces to rest
    → HearsPieces commas from (piece ∷ pieces) to (heard ++ rest)
hears_one commas from next to Slip pieces heard rest h k =
    subst (λ (cs : List Char). HearsPieces commas (lane_out commas Negative) pieces to (cs ++ rest))
    (sym h.1)
    (subst (λ (s : LaneState). HearsPieces commas s pieces to rest) h.0 k)
hears_one commas from next to (Group group) pieces [] rest h k = absurd h
hears_one commas from next to (Group group) pieces (c ∷ heard) rest h k = (
  h.0,
  h.1,
  subst (λ (cs : List Char). HearsPieces commas h.0 pieces to (cs ++ rest)) (sym h.2.1)
      (subst (λ (s : LaneState). HearsPieces commas s pieces to rest) h.2.0 k),
)
