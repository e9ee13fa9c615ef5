use Rattle.code_groups.proofs.StreamLaws.{none_left}
use Rattle.lane_bits.proofs.BitLaws.{digit_stops, one_done, all_done}
use Rattle.lane_bits.proofs.pieces.read_pieces.Goals as goal

pub returns-in_default-bit_of : goal.returns-in_default-bit_of
returns-in_default-bit_of c =
    digit_stops c.args.begin c.args.digits.now c.loop-left.left.now c.loop-left.state
    c.loop-left.pieces.items _ c.loop-left.invariant c.in-len1-up.len_at_least
    c.in_default-bit_of.ensures.0 c.in_default-bit_of.ensures.1

pub loop-left-preserved : goal.loop-left-preserved
loop-left-preserved c =
    one_done c.args.begin c.args.digits.now c.loop-left.left.now c.loop-left.state
    c.loop-left.pieces.items c.push_piece.new.pieces.items c.in-Some.bit _ c.read-step.result
    c.loop-left.invariant c.in-len1-up.len_at_least c.in-Some.ensures.1 c.in-Some.ensures.0
    c.read-step.ensures c.in_ok-push_piece.ensures

pub returns : goal.returns
returns c =
    all_done c.args.begin c.args.digits.now c.loop-left.left.now c.loop-left.state
    c.loop-left.pieces.items c.loop-left.invariant
    (none_left c.loop-left.left.now c.in_default.len_below)
