use Rattle.host_contest.proofs.Prelude.{◌≡◌, ◌++◌, take, flat_map, route_pending}
use Rattle.host_contest.proofs.writes.push_routes.Given as goal

abbrev pub invariant-loop-device : goal.invariant-loop-device
invariant-loop-device l =
    l.todo ≡ l.fn.todo ++ flat_map (route_pending l.path l.id) (take l.device-index l.devices)
