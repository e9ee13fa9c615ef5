use Rattle.host_enumerate.proofs.Prelude.{◌∙◌, sym, ap, subst, entries_of, IsNumbered}
use Rattle.host_enumerate.proofs.Carrying.{end_of_walk, enumerated_so}
use Rattle.host_enumerate.proofs.Numbering.{OwnIdRead, AllNumbered, can_read, id_fits, underway_first, is_numbered, is_free}
use Rattle.host_enumerate.proofs.walk.enumerate.Given.{Over}
use Rattle.host_enumerate.proofs.walk.enumerate.Goals.{In_ok-own_id, In_ok-devices}
use Rattle.host_enumerate.proofs.walk.enumerate.Goals as goal

pub read-requires-clause-askable : goal.read-requires-clause-askable
read-requires-clause-askable g c =
    can_read (g.M.Maint.whole_is_proper c.args.maint.now c.requires.whole)
    (g.M.Maint.whole_fits c.args.maint.now c.requires.whole) c.of_host.ensures

-- the host has read its own ID
own : (g : Over) (c : In_ok-own_id g)
    → OwnIdRead (g.M.Maint.topology c.args.maint.now) (g.M.Maint.topology c.read.new.maint)
    (g.M.Maint.registers c.args.maint.now) (g.M.Maint.registers c.read.new.maint)
    c.of_host.result c.in_ok-own_id.own_id
own g c = record {
  proper = g.M.Maint.whole_is_proper c.args.maint.now c.requires.whole;
  fits = g.M.Maint.whole_fits c.args.maint.now c.requires.whole;
  empty = c.of_host.ensures;
  is_one = c.in_ok-own_id.ensures.went.topology;
  same = c.in_ok-own_id.ensures.registers;
  told = c.in_ok-own_id.ensures.value;
  below = c.requires.host;
  untagged = c.requires.untagged;
}

-- and then all devices were numbered
all : (g : Over) (c : In_ok-devices g)
    → AllNumbered (g.M.Maint.topology c.read.new.maint)
    (g.M.Maint.topology c.number_devices.new.maint) (g.M.Maint.registers c.read.new.maint)
    (g.M.Maint.registers c.number_devices.new.maint) c.in_ok-own_id.own_id
    c.in_ok-devices.devices.items
all g c = record {
  is_two = c.in_ok-devices.ensures.went.topology;
  fits_after = g.M.Maint.whole_fits c.number_devices.new.maint
      c.in_ok-devices.ensures.went.whole;
  numbered = c.in_ok-devices.ensures.numbered;
}

pub overflow_cast-own_id : goal.overflow_cast-own_id
overflow_cast-own_id g c =
    record { fits = id_fits (own g (goal.at.overflow_cast-own_id g c).In_ok-own_id) }

pub number_devices-requires-clause-begun : goal.number_devices-requires-clause-begun
number_devices-requires-clause-begun g c = (
  (g.M.Maint.registers c.args.maint.now),
  underway_first (own g (goal.at.number_devices-requires-clause-begun g c).In_ok-own_id),
)

pub returns-in_err-devices-clause-end : goal.returns-in_err-devices-clause-end
returns-in_err-devices-clause-end g c =
    end_of_walk c.in_ok-own_id.ensures.went c.from_residual-in_err-devices.result
    c.from_residual-in_err-devices.ensures.1 c.in_err-devices.ensures.went

pub returns-in_err-devices-clause-enumerated : goal.returns-in_err-devices-clause-enumerated
returns-in_err-devices-clause-enumerated g c =
    enumerated_so c.in_ok-own_id.ensures.went c.from_residual-in_err-devices.result
    c.from_residual-in_err-devices.ensures.1
    (underway_first (own g (goal.at.returns-in_err-devices-clause-enumerated g c).In_ok-own_id))
    c.in_err-devices.ensures.went

pub returns-clause-enumerated : goal.returns-clause-enumerated
returns-clause-enumerated g c =
    let at = goal.at.returns-clause-enumerated g c in (
      subst (λ l. IsNumbered (g.M.Maint.topology c.args.maint.now) c.in_ok-devices.devices.items l
          (g.M.Maint.registers c.args.maint.now) (g.M.Maint.registers c.number_devices.new.maint))
          (sym (c.in_ok-entries.ensures ∙ ap entries_of c.as_slice.ensures.value))
          (is_numbered (own g at.In_ok-own_id) (all g at.In_ok-devices)),
      is_free (own g at.In_ok-own_id) (all g at.In_ok-devices),
    )
