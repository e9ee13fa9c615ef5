use Rattle.std.proofs.Common.{◌≡◌, ◌<◌, length, slice_index_or, rules}
use Rattle.trace_counts.specs.Sums.{sent, PortCounts}
use Rattle.trace_counts.specs.Counts.{count_place}
use Rattle.trace_counts.proofs.RoomLaws.{on_err, full-port}
use Rattle.trace_counts.proofs.tally.Tallies.send.Goals as goal

pub returns-in_err-send-clause-too_many : goal.returns-in_err-send-clause-too_many
returns-in_err-send-clause-too_many c =
    let all = c.args.self.now in
    let n = c.place_of-place.result in
    let place : n ≡ count_place c.args.port = c.place_of-place.ensures in
    let within : n < length all = search rules in
    let read = c.index_mut.result.now in
    let one : read ≡ slice_index_or all n read = search (rules, c.index_mut.ensures.value) in
    let change = λ (v : PortCounts). sent v c.args.chars.now in
    on_err c.from_residual.result (full-port all c.args.port change n read place within one
    c.in_err-send.ensures.too_many)
