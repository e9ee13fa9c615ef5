use Rattle.std.proofs.Common.{List, ◌++◌, Some, None, codes, refl, sym, ap, ◌∙◌, subst}
use Rattle.rio_chars.specs.declared.chars.Char.{Char}
use Rattle.rio_chars.specs.Written.{Writes}
use Rattle.lane_bits.specs.declared.align.Aligner.{Aligner}
use Rattle.lane_bits.specs.declared.align.BitPiece.{BitPiece}
use Rattle.lane_bits.specs.Aligning.{after_bits}
use Rattle.lane_bits.specs.BitHearing.{HearsPieces, HoldTens}
use Rattle.rio_lane.specs.LaneAnswers.{lane_says, joined_chars}
use Rattle.rio_lane.proofs.hearing.hear_bits.Goals as goal

pub returns-in_default-clause-answer : goal.returns-in_default-clause-answer
returns-in_default-clause-answer g c =
    let none = rw c.in_default.is at c.in_ok-aligner.ensures in (
      lane_says c.args.ends.now (codes "refused bit\n"),
      record { read = None; reads = none; is = refl },
      refl,
      c.write.ensures,
    )

pub hear_pieces-requires : goal.hear_pieces-requires
hear_pieces-requires g c =
    let read = rw c.in-Some.is at c.in_ok-aligner.ensures in
    subst HoldTens (sym c.as_slice.ensures.value) read.4

pub returns-clause-answer : goal.returns-clause-answer
returns-clause-answer g c =
    let read = rw c.in-Some.is at c.in_ok-aligner.ensures in
    let ends = c.args.ends.now in
    let state = c.in_ok-state.state in
    let heard = c.in_ok-state.chars in
    let bits = read.0 in (
      lane_says (record ends { receiver = state; aligner = after_bits ends.aligner bits })
          (joined_chars heard ++ codes "\n"),
      record {
        read = Some bits;
        reads = read.1;
        is = (
          heard,
          state,
          subst (λ (ps : List BitPiece).
              HearsPieces c.args.place.commas ends.receiver ps state heard)
              (c.as_slice.ensures.value ∙ read.3) c.in_ok-state.ensures,
          refl,
        );
      },
      ap (λ (a : Aligner). record ends { receiver = state; aligner = a }) read.2,
      subst (λ (cs : List Char). Writes c.args.outbox.now c.write_line.new.outbox
          (joined_chars cs ++ codes "\n")) c.as_slice-2.ensures c.write_line.ensures,
    )
