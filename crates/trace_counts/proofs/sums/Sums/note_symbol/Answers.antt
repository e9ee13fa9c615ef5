use Rattle.std.proofs.Common.{◌≡◌, ◌+◌, ◌<◌, ◌≤◌, ◌==◌, true, length, slice_index_or, rules}
use Rattle.rio_symbols.specs.declared.stype0.TheConstants.{PACKET_NOT_ACCEPTED}
use Rattle.trace_counts.proofs.RoomLaws.{on_err, full-senders, full-receivers, full-causes}
use Rattle.trace_counts.proofs.sums.Sums.note_symbol.Goals as goal

pub returns-in_err-raise-clause-too_many : goal.returns-in_err-raise-clause-too_many
returns-in_err-raise-clause-too_many c =
    let sums = c.args.self.now in
    let symbol = c.args.symbol.now in
    let within : symbol.s0 < length sums.senders = search rules in
    let many : 18446744073709551616 ≤ slice_index_or sums.senders symbol.s0 0 + 1 =
    search (rules, c.in_err-raise.ensures.too_many) in
    on_err c.from_residual.result (full-senders sums symbol within many)

pub returns-in_err-raise-2-clause-too_many : goal.returns-in_err-raise-2-clause-too_many
returns-in_err-raise-2-clause-too_many c =
    let sums = c.args.self.now in
    let symbol = c.args.symbol.now in
    let within : symbol.s1 < length sums.receivers = search rules in
    let many : 18446744073709551616 ≤ slice_index_or sums.receivers symbol.s1 0 + 1 =
    search (rules, c.in_err-raise-2.ensures.too_many) in
    on_err c.from_residual-in_err-raise-2.result (full-receivers sums symbol within many)

pub returns-in_err-raise-3-clause-too_many : goal.returns-in_err-raise-3-clause-too_many
returns-in_err-raise-3-clause-too_many c =
    let sums = c.args.self.now in
    let symbol = c.args.symbol.now in
    let refused : (symbol.s0 == PACKET_NOT_ACCEPTED) ≡ true = search rules in
    let within : symbol.p1 < length sums.causes = search rules in
    let many : 18446744073709551616 ≤ slice_index_or sums.causes symbol.p1 0 + 1 =
    search (rules, c.in_err-raise-3.ensures.too_many) in
    on_err c.from_residual-in_err-raise-3.result (full-causes sums symbol refused within many)
