use Rattle.host_enumerate.proofs.Prelude.{refl, sym, subst, ◌∙◌, onward, IsNumbering, HasFound}
use Rattle.host_enumerate.proofs.Carrying.{answered_none, answered_on, walk_handed_on}
use Rattle.host_enumerate.proofs.Tried.{PathTried}
use Rattle.host_enumerate.proofs.Starting.{first_past, first_endpoint, first_found, first_done}
use Rattle.host_enumerate.proofs.Begun.{HostTried, begins_here, begins_askable, first_path, met_host, met_here, met_some, met_next, met_askable, neighbour, switch_underway, walk_done}
use Rattle.host_enumerate.proofs.walk.number_devices.Given.{Over}
use Rattle.host_enumerate.proofs.walk.number_devices.Goals.{After-onward-path, In_ok-kind}
use Rattle.host_enumerate.proofs.walk.number_devices.Goals as goal

pub meet-requires-clause-askable : goal.meet-requires-clause-askable
meet-requires-clause-askable g c = begins_askable c.of_host-host.ensures c.requires.begun

pub returns-in_err-meet-clause-went : goal.returns-in_err-meet-clause-went
returns-in_err-meet-clause-went g c =
    walk_handed_on (answered_none g.M.Maint c.args.maint.now c.requires.whole) _
    c.from_residual.result c.from_residual.ensures.1
    (λ before underway. begins_here c.new.ensures.items c.of_host-host.ensures underway)
    c.in_err-meet.ensures.went

-- the host was tried
host_tried : (g : Over) (c : After-onward-path g)
    → HostTried g.M.Maint c.args.maint.now c.meet.new.maint
    record { host_id = c.args.host_id; next_id = 0; devices = c.new.result }
    c.meet.new.numbering c.of_host-host.result c.onward-path.result c.in_ok-meet.field-0
host_tried g c = record {
  is_none = c.new.ensures.items;
  is_first = refl;
  is_host = c.of_host-host.ensures;
  is_path = c.onward-path.ensures;
  some = c.requires.begun;
  tried = c.in_ok-meet.ensures.tried;
}

-- then its neighbour
neighbour_tried : (g : Over) (c : In_ok-kind g)
    → PathTried g.M.Maint c.meet.new.maint c.meet-2.new.maint c.meet.new.numbering
    c.meet-2.new.numbering c.onward-path.result c.in_ok-kind.field-0
neighbour_tried g c = record {
  topology = c.in_ok-kind.ensures.went.topology;
  tried = c.in_ok-kind.ensures.tried;
  opened = c.in_ok-kind.ensures.opened;
}

pub meet-requires-2-clause-underway : goal.meet-requires-2-clause-underway
meet-requires-2-clause-underway g c = (
  c.requires.begun.0,
  met_here (host_tried g (goal.at.meet-requires-2-clause-underway g c).After-onward-path)
      c.requires.begun.0 c.requires.begun.1,
)

pub meet-requires-2-clause-next : goal.meet-requires-2-clause-next
meet-requires-2-clause-next g c =
    met_next (host_tried g (goal.at.meet-requires-2-clause-next g c).After-onward-path)

pub meet-requires-2-clause-askable : goal.meet-requires-2-clause-askable
meet-requires-2-clause-askable g c =
    met_askable (host_tried g (goal.at.meet-requires-2-clause-askable g c).After-onward-path)

pub returns-in_err-kind-clause-went : goal.returns-in_err-kind-clause-went
returns-in_err-kind-clause-went g c =
    let at = goal.at.returns-in_err-kind-clause-went g c in
    walk_handed_on c.in_ok-meet.ensures.went _ c.from_residual-in_err-kind.result
    c.from_residual-in_err-kind.ensures.1
    (met_here (host_tried g at.After-onward-path)) c.in_err-kind.ensures.went

pub returns-in_default-clause-numbered : goal.returns-in_default-clause-numbered
returns-in_default-clause-numbered g c before underway =
    let at = goal.at.returns-in_default-clause-numbered g c in
    let first = host_tried g at.After-onward-path in
    walk_done (sym (c.in_ok-kind.ensures.host ∙ c.in_ok-meet.ensures.host))
    (first_past (neighbour first (neighbour_tried g at.In_ok-kind)) (met_some first)
    c.in_default.is before (met_host first before underway))

pub returns-in_default-kind-clause-numbered : goal.returns-in_default-kind-clause-numbered
returns-in_default-kind-clause-numbered g c before underway =
    let at = goal.at.returns-in_default-kind-clause-numbered g c in
    let first = host_tried g at.After-onward-path in
    walk_done (sym (c.in_ok-kind.ensures.host ∙ c.in_ok-meet.ensures.host))
    (first_endpoint (neighbour first (neighbour_tried g at.In_ok-kind)) (met_some first)
    c.in-Some.is c.in_default-kind.is before (met_host first before underway))

pub explore-requires-clause-found : goal.explore-requires-clause-found
explore-requires-clause-found g c =
    let at = goal.at.explore-requires-clause-found g c in
    let first = host_tried g at.After-onward-path in
    subst (λ l. HasFound g.M.Maint c.meet-2.new.maint c.meet-2.new.numbering
    record { path = l; ports = c.in-Switch.ports; entry = c.in-Switch.entry })
    (sym (first_path first))
    (first_found (neighbour first (neighbour_tried g at.In_ok-kind)) (met_some first) c.in-Some.is
    c.in-Switch.is)

pub explore-requires-clause-underway : goal.explore-requires-clause-underway
explore-requires-clause-underway g c =
    let at = goal.at.explore-requires-clause-underway g c in (
      c.requires.begun.0,
      switch_underway (host_tried g at.After-onward-path) (neighbour_tried g at.In_ok-kind)
          c.in-Some.is c.requires.begun.0 c.requires.begun.1,
    )

pub returns-in_err-explore-clause-went : goal.returns-in_err-explore-clause-went
returns-in_err-explore-clause-went g c =
    let at = goal.at.returns-in_err-explore-clause-went g c in
    walk_handed_on (answered_on c.in_ok-meet.ensures.went c.in_ok-kind.ensures.went) _
    c.from_residual-in_err-explore.result c.from_residual-in_err-explore.ensures.1
    (switch_underway (host_tried g at.After-onward-path) (neighbour_tried g at.In_ok-kind)
    c.in-Some.is) c.in_err-explore.ensures.went

pub returns-clause-numbered : goal.returns-clause-numbered
returns-clause-numbered g c before underway =
    let at = goal.at.returns-clause-numbered g c in
    let first = host_tried g at.After-onward-path in
    let new = c.explore.new.numbering in
    walk_done (sym (c.in_ok-explore.ensures.host
    ∙ (c.in_ok-kind.ensures.host ∙ c.in_ok-meet.ensures.host)))
    (first_done (subst (λ l. HasFound g.M.Maint c.explore.new.maint new
    record { path = l; ports = c.in-Switch.ports; entry = c.in-Switch.entry }) (first_path first)
    c.in_ok-explore.ensures.found)
    (subst (λ l. IsNumbering g.M.Maint c.explore.new.maint new (onward l c.in-Switch.ports) before)
    (first_path first) (c.in_ok-explore.ensures.tried before
    (switch_underway first (neighbour_tried g at.In_ok-kind) c.in-Some.is before underway))))
