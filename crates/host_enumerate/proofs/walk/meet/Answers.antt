use Rattle.host_enumerate.proofs.Prelude.{List, Some, refl, sym, subst, ◌∙◌, Device, EndsAtLock}
use Rattle.host_enumerate.proofs.Tried.{apart_free, is_few, has_room, once_now, locked_askable, PathTried, still_underway, still_opened, taken_on, met_on, met_opened, other_ends}
use Rattle.host_enumerate.proofs.walk.meet.Given.{Over}
use Rattle.host_enumerate.proofs.walk.meet.Goals.{In_ok-kind-in-Taken}
use Rattle.host_enumerate.proofs.walk.meet.Goals as goal

pub take-requires-clause-askable : goal.take-requires-clause-askable
take-requires-clause-askable g c =
    let at = c.requires.askable.0 in (
      at,
      c.requires.askable.1,
      apart_free c.requires.underway c.requires.next c.requires.askable.1,
    )

pub take_in-requires-clause-askable : goal.take_in-requires-clause-askable
take_in-requires-clause-askable g c =
    let at = c.requires.askable.0 in
    let found = locked_askable
    c.requires.underway c.requires.next c.requires.askable.1 c.in_ok-take.ensures.went.topology
    (g.M.Maint.registers c.take.new.maint) c.in-Taken.is
    (c.in_ok-take.ensures.holder at c.requires.askable.1.leads) in
    (at, found.0, found.1)

pub take_in-requires-clause-once : goal.take_in-requires-clause-once
take_in-requires-clause-once g c =
    once_now c.requires.underway c.requires.next c.requires.askable.1
    (g.M.Maint.topology c.take.new.maint) c.in_ok-take.ensures.went.topology

pub take_in-requires-clause-few : goal.take_in-requires-clause-few
take_in-requires-clause-few g c =
    is_few c.requires.underway c.requires.next c.requires.askable.1 c.requires.begins

pub take_in-requires-clause-room : goal.take_in-requires-clause-room
take_in-requires-clause-room g c = has_room c.requires.underway c.requires.next c.requires.askable.1

-- the device was taken in
taken : (g : Over) (c : In_ok-kind-in-Taken g)
    → PathTried g.M.Maint c.args.maint.now c.take_in.new.maint c.args.numbering.now
    c.take_in.new.numbering c.args.path.now (Some c.in_ok-kind-in-Taken.kind)
taken g c =
    let is = c.in_ok-kind-in-Taken.ensures.went.topology ∙ c.in_ok-take.ensures.went.topology in
    let same = c.in_ok-kind-in-Taken.ensures.host in
    let on = taken_on c.requires.underway c.requires.next c.requires.askable.1
    c.in_ok-take.ensures.went.topology (g.M.Maint.registers c.take.new.maint) c.in-Taken.is
    (c.in_ok-take.ensures.holder c.requires.askable.0 c.requires.askable.1.leads)
    (g.M.Maint.whole_fits c.args.maint.now c.requires.whole) c.requires.begins
    (g.M.Maint.registers c.take_in.new.maint) c.take_in.new.numbering.next_id
    c.in_ok-kind-in-Taken.kind c.in_ok-kind-in-Taken.ensures.devices
    c.in_ok-kind-in-Taken.ensures.taken in
    record {
      topology = is;
      tried = λ before underway.
          (c.in_ok-kind-in-Taken.ensures.devices, still_underway is same (on before underway).0);
      opened = still_opened is same (on c.requires.underway.0 c.requires.underway.1).1;
    }

pub returns-in_ok-kind-in-Taken-clause-tried : goal.returns-in_ok-kind-in-Taken-clause-tried
returns-in_ok-kind-in-Taken-clause-tried g c =
    let at = goal.at.returns-in_ok-kind-in-Taken-clause-tried g c in
    (taken g at.In_ok-kind-in-Taken).tried

pub returns-in_ok-kind-in-Taken-clause-opened : goal.returns-in_ok-kind-in-Taken-clause-opened
returns-in_ok-kind-in-Taken-clause-opened g c =
    let at = goal.at.returns-in_ok-kind-in-Taken-clause-opened g c in
    (taken g at.In_ok-kind-in-Taken).opened

pub returns-in-Met-clause-tried : goal.returns-in-Met-clause-tried
returns-in-Met-clause-tried g c before underway =
    let on = met_on c.requires.underway c.requires.next c.requires.askable.1
    (g.M.Maint.registers c.take.new.maint) c.in-Met.is
    (c.in_ok-take.ensures.holder c.requires.askable.0 c.requires.askable.1.leads)
    c.in_ok-take.ensures.went.topology before underway in
    (refl {A = List Device}, refl, on.0, on.1)

pub returns-in-Met-clause-opened : goal.returns-in-Met-clause-opened
returns-in-Met-clause-opened g c =
    met_opened c.requires.underway c.requires.next c.requires.askable.1
    (g.M.Maint.registers c.take.new.maint) c.in-Met.is
    (c.in_ok-take.ensures.holder c.requires.askable.0 c.requires.askable.1.leads)
    c.in_ok-take.ensures.went.topology

pub returns-in-Other-clause-went : goal.returns-in-Other-clause-went
returns-in-Other-clause-went g c = record {
  topology = c.in_ok-take.ensures.went.topology;
  leaves = λ origin is. g.M.Maint.follows_leaves origin c.take.new.maint
      (c.in_ok-take.ensures.went.follows origin is);
  cause = (
    (
      c.in_ok-take.ensures.went.whole,
      c.in_ok-take.ensures.went.follows,
      λ before underway. subst (λ l. EndsAtLock (g.M.Maint.topology c.args.maint.now) before
          (g.M.Maint.registers c.take.new.maint) l c.in-Other.id) (sym c.copied.ensures)
          (other_ends c.requires.underway c.requires.next c.requires.askable.1
          (g.M.Maint.registers c.take.new.maint) c.in-Other.is
          (c.in_ok-take.ensures.holder c.requires.askable.0 c.requires.askable.1.leads) before
          underway),
    ),
    c.in_ok-take.ensures.went.undetected,
    c.in_ok-take.ensures.went.faults,
  );
}
