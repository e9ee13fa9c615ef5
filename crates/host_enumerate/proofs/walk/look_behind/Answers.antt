use Rattle.host_enumerate.proofs.Prelude.{ap, ◌∙◌, entered}
use Rattle.host_enumerate.proofs.Carrying.{answered_on, walk_handed_on}
use Rattle.host_enumerate.proofs.Looking.{found_askable, found_short, status_answers, unlinked, linked, unlinked_passed, found_now, settable_now, IsSetTo, underway_here, askable_here}
use Rattle.host_enumerate.proofs.Tried.{PathTried}
use Rattle.host_enumerate.proofs.Looked.{none_looked, none_found, none_longer, some_longer, endpoint_looked, some_found, switch_looked, switch_is_found}
use Rattle.host_enumerate.proofs.walk.look_behind.Given.{Over}
use Rattle.host_enumerate.proofs.walk.look_behind.Goals.{After-onward-path, In_ok-kind}
use Rattle.host_enumerate.proofs.walk.look_behind.Goals as goal

pub read-requires-clause-askable : goal.read-requires-clause-askable
read-requires-clause-askable g c = (
  c.args.numbering.now.host_id,
  c.requires.found.at,
  found_askable c.args.port c.requires.found c.requires.underway,
  status_answers c.args.port c.requires.found c.requires.underway
      c.from.result (g.M.Maint.whole_fits c.args.maint.now c.requires.whole) c.from.ensures
      c.requires.below,
)

pub returns-then-status-ne-LINKED-clause-looked : goal.returns-then-status-ne-LINKED-clause-looked
returns-then-status-ne-LINKED-clause-looked g c =
    unlinked_passed c.args.port c.requires.found c.requires.underway
    (g.M.Maint.registers c.read.new.maint) c.in_ok-status.ensures.went.topology
    c.in_ok-status.ensures.registers
    (unlinked c.args.port c.requires.found c.requires.underway c.from.result
    c.in_ok-status.status (g.M.Maint.whole_fits c.args.maint.now c.requires.whole)
    c.from.ensures c.requires.below
    (c.in_ok-status.ensures.value c.requires.found.at c.requires.found.leads)
    c.if-status-ne-LINKED.true)

pub returns-then-status-ne-LINKED-clause-found : goal.returns-then-status-ne-LINKED-clause-found
returns-then-status-ne-LINKED-clause-found g c =
    found_now c.args.port c.requires.found c.requires.underway
    (g.M.Maint.registers c.read.new.maint) c.in_ok-status.ensures.went.topology
    c.in_ok-status.ensures.registers

pub set_entry-requires-clause-askable : goal.set_entry-requires-clause-askable
set_entry-requires-clause-askable g c =
    let known = settable_now c.args.port c.requires.found c.requires.underway
    (g.M.Maint.topology c.read.new.maint) (g.M.Maint.registers c.read.new.maint)
    c.in_ok-status.ensures.went.topology
    c.in_ok-status.ensures.registers (g.M.Maint.whole_fits c.args.maint.now c.requires.whole) in
    (c.args.numbering.now.host_id, c.requires.found.at, known.0, known.1, known.2)

pub onward-path-requires : goal.onward-path-requires
onward-path-requires g c = found_short c.args.port c.requires.found c.requires.underway

-- the table of the switch leads to the port now
set_here : (g : Over) (c : After-onward-path g)
    → IsSetTo g.M.Maint c.args.maint.now c.read.new.maint c.set_entry.new.maint
    c.args.numbering.now c.args.switch.now c.args.port c.onward-path.result
set_here g c = record {
  found = c.requires.found;
  some = c.requires.underway;
  is_topology = c.in_ok-set_entry.ensures.went.topology ∙ c.in_ok-status.ensures.went.topology;
  same = c.in_ok-status.ensures.registers;
  becomes = c.in_ok-set_entry.ensures.registers c.requires.found.at
      (ap (λ t. entered t c.args.switch.now.path) c.in_ok-status.ensures.went.topology
      ∙ c.requires.found.leads);
  link = linked c.args.port c.requires.found c.requires.underway c.from.result
      c.in_ok-status.status (g.M.Maint.whole_fits c.args.maint.now c.requires.whole)
      c.from.ensures c.requires.below
      (c.in_ok-status.ensures.value c.requires.found.at c.requires.found.leads)
      c.if-status-ne-LINKED.false;
  below = c.requires.below;
  apart = c.requires.apart;
  is_path = c.onward-path.ensures;
}

pub meet-requires-clause-underway : goal.meet-requires-clause-underway
meet-requires-clause-underway g c = (
  c.requires.underway.0,
  underway_here (set_here g (goal.at.meet-requires-clause-underway g c).After-onward-path)
      c.requires.underway.0 c.requires.underway.1,
)

pub meet-requires-clause-askable : goal.meet-requires-clause-askable
meet-requires-clause-askable g c =
    let set = set_here g (goal.at.meet-requires-clause-askable g c).After-onward-path in (
      set.link.0,
      askable_here set (g.M.Maint.whole_fits c.args.maint.now c.requires.whole)
          (g.M.Maint.whole_fits c.set_entry.new.maint c.in_ok-set_entry.ensures.went.whole),
    )

pub returns-in_err-kind-clause-went : goal.returns-in_err-kind-clause-went
returns-in_err-kind-clause-went g c =
    walk_handed_on (answered_on c.in_ok-status.ensures.went c.in_ok-set_entry.ensures.went) _
    c.from_residual-in_err-kind.result c.from_residual-in_err-kind.ensures.1
    (underway_here (set_here g (goal.at.returns-in_err-kind-clause-went g c).After-onward-path))
    c.in_err-kind.ensures.went

-- and the path behind the port was tried
met_behind : (g : Over) (c : In_ok-kind g)
    → PathTried g.M.Maint c.set_entry.new.maint c.meet.new.maint c.args.numbering.now
    c.meet.new.numbering c.onward-path.result c.in_ok-kind.field-0
met_behind g c = record {
  topology = c.in_ok-kind.ensures.went.topology;
  tried = c.in_ok-kind.ensures.tried;
  opened = c.in_ok-kind.ensures.opened;
}

pub returns-in_default-clause-looked : goal.returns-in_default-clause-looked
returns-in_default-clause-looked g c =
    let at = goal.at.returns-in_default-clause-looked g c in
    none_looked (set_here g at.After-onward-path) (met_behind g at.In_ok-kind) c.in_default.is

pub returns-in_default-clause-found : goal.returns-in_default-clause-found
returns-in_default-clause-found g c =
    let at = goal.at.returns-in_default-clause-found g c in
    none_found (set_here g at.After-onward-path) (met_behind g at.In_ok-kind) c.in_default.is

pub returns-in_default-clause-longer : goal.returns-in_default-clause-longer
returns-in_default-clause-longer g c =
    let at = goal.at.returns-in_default-clause-longer g c in
    none_longer (set_here g at.After-onward-path) (met_behind g at.In_ok-kind) c.in_default.is

pub returns-in_default-kind-clause-looked : goal.returns-in_default-kind-clause-looked
returns-in_default-kind-clause-looked g c =
    let at = goal.at.returns-in_default-kind-clause-looked g c in
    endpoint_looked (set_here g at.After-onward-path) (met_behind g at.In_ok-kind)
    c.in-Some.is c.in_default-kind.is

pub returns-in_default-kind-clause-found : goal.returns-in_default-kind-clause-found
returns-in_default-kind-clause-found g c =
    let at = goal.at.returns-in_default-kind-clause-found g c in
    some_found (set_here g at.After-onward-path) (met_behind g at.In_ok-kind)
    c.in-Some.is

pub returns-in_default-kind-clause-longer : goal.returns-in_default-kind-clause-longer
returns-in_default-kind-clause-longer g c =
    let at = goal.at.returns-in_default-kind-clause-longer g c in
    some_longer (set_here g at.After-onward-path) (met_behind g at.In_ok-kind)
    c.in-Some.is

pub returns-clause-looked : goal.returns-clause-looked
returns-clause-looked g c =
    let at = goal.at.returns-clause-looked g c in
    switch_looked (set_here g at.After-onward-path) (met_behind g at.In_ok-kind)
    c.in-Some.is

pub returns-clause-found : goal.returns-clause-found
returns-clause-found g c =
    let at = goal.at.returns-clause-found g c in
    switch_is_found (set_here g at.After-onward-path) (met_behind g at.In_ok-kind)
    c.in-Some.is c.in-Switch.is

pub returns-clause-longer : goal.returns-clause-longer
returns-clause-longer g c =
    let at = goal.at.returns-clause-longer g c in
    some_longer (set_here g at.After-onward-path) (met_behind g at.In_ok-kind)
    c.in-Some.is
