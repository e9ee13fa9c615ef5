use Rattle.std.proofs.Common.{◌≡◌, replicate}
use Rattle.io_rounds.specs.Stations.{new_station}
use Rattle.io_rounds.proofs.stations.new_stations.Given as goal

abbrev pub invariant-loop : goal.invariant-loop
invariant-loop l = l.stations.items ≡ replicate l.counter new_station
