use Rattle.std.proofs.Common.{◌≡◌, ◌<◌, ◌*◌, ◌+◌, ◌%◌, get_or, length, take, arith}
use Rattle.std.proofs.lemmas.List.{take_more_set}
use Rattle.std.proofs.lemmas.List.Elements.{All-push}
use Rattle.rio_chars.proofs.HexWords.{IsRead, pairs-spelled, pairs-none}
use Rattle.rio_chars.proofs.digits.read_pairs.Goals as goal

pub loop-i-preserved : goal.loop-i-preserved
loop-i-preserved c =
    let loop = c.loop-i in
    let digits = c.args.digits.now in
    let below : loop.i < length loop.room = omega arith in
    let fits : length digits ≡ 2 * length loop.room = omega arith in
    let high = c.hex_number-high in
    let low = c.hex_number-low in
    let first : IsRead (get_or digits (2 * loop.i) 0) high.result =
    (high.ensures.digit, high.ensures.none) in
    let second : IsRead (get_or digits (2 * loop.i + 1) 0) low.result =
    (low.ensures.digit, low.ensures.none) in
    let byte = high.result % 16 * 16 + low.result % 16 in
    record {
      below =
          rw (take_more_set loop.room loop.i byte below) (All-push (λ byte. byte < 256)
          (take loop.i loop.room) byte loop.invariant.below (omega arith));
      spelled =
          pairs-spelled digits loop.room loop.i high.result low.result loop.are_digits below fits
          first second loop.invariant.spelled;
      none =
          pairs-none digits loop.room loop.i high.result low.result loop.are_digits below fits first
          second loop.invariant.none;
    }
