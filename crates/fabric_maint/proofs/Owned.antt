-- A host reads and writes its own registers.
use Rattle.std.proofs.Common.{◌≡◌, ℕ, ◌<◌, Bool, true, false, List, [], length, is_some, Option, Some, None, option_map, slice_get, refl, sym, ap, ◌∙◌, subst}
use Rattle.std.proofs.lemmas.Option.{same_Some, slice_get_within, get_or_from_slice_get}
use Rattle.maint_registers.specs.Devices.{Registers, IsSameDevice, is_switch, new_endpoint}
use Rattle.maint_registers.specs.Access.{value_at, written_at}
use Rattle.maint_registers.specs.Changes.{with_device}
use Rattle.maint_registers.specs.Within.{IsWithin}
use Rattle.maint_registers.proofs.ChangeLaws.{device-changed}
use Rattle.maint_registers.proofs.SameLaws.{same_kind}
use Rattle.rio_chars.specs.declared.edit.Edit.{Edit}
use Rattle.fabric_script.specs.declared.ports.PortRef.{PortRef}
use Rattle.fabric_script.specs.Ports.{port_at}
use Rattle.fabric_map.specs.Topology.{Topology}
use Rattle.fabric_map.specs.Routes.{AllRegisters}
use Rattle.fabric_map.specs.Fitting.{Fits}
use Rattle.fabric_map.specs.Plain.{topology_of, registers_of}
use Rattle.fabric_model.proofs.Forms.{device_at}
use Rattle.fabric_trace.specs.Known.{Seen}
use Rattle.fabric_ports.specs.Standing.{Stands}
use Rattle.fabric_ports.specs.OwnRegisters.{device_with, seen_with, OwnWritten}
use Rattle.fabric_ports.specs.declared.fabric.Fabric.{Fabric}
use Rattle.host_enumerate.specs.declared.maint.Access.{Access}
use Rattle.host_enumerate.specs.declared.maint.Access.TheVariants.{Read, Write}
use Rattle.host_enumerate.specs.Accesses.{access_answer, answered, registers_with, after_access}
use Rattle.host_enumerate.proofs.AccessKeeps.{access_keeps}
use Rattle.host_enumerate.proofs.Accessed.{Keeps, fits-with}
use Rattle.host_enumerate.proofs.Frames.{with_device-itself}
use Rattle.fabric_maint.specs.Asked.{Owns}
use Rattle.fabric_maint.specs.Going.{topology_in, registers_in, MaintRestsAt, StandsWhole, Went, Followed}
use Rattle.fabric_maint.specs.declared.maint.FabricMaint.{FabricMaint}
use Rattle.fabric_maint.proofs.Tables.{registers_of-changed, topology_of-changed}
use Rattle.fabric_maint.proofs.Leading.{IsHostDevice, host_device, leads_own}

-- ---- the device of the host

pub registers_at : (devices : List Registers) (node : ℕ) (device : Registers)
    → slice_get devices node ≡ Some device → registers_of devices node ≡ device
registers_at devices node device stands =
    get_or_from_slice_get devices node device (new_endpoint 0 false) stands

module _ {N K : Type 0} (old : FabricMaint N K) (whole : StandsWhole old) where
  pub own_device : IsHostDevice old.host whole.s
  own_device = host_device old.host whole.s whole.rests.can.laid.host_is

  pub own_is : registers_in old old.host ≡ own_device.device
  own_is = registers_at old.fabric.now.devices.items old.host own_device.device
      (subst (λ (devices : List Registers). slice_get devices old.host ≡ Some own_device.device)
      whole.rests.can.stands.shows.registers own_device.stands)

  -- ---- what it answers

  of_access : (access what : Access) → access ≡ what
      → (answered own_device.device 0 what).answer
      ≡ (answered (registers_in old old.host) 0 access).answer
  of_access access what is =
      ap (λ (a : Access). (answered own_device.device 0 a).answer) (sym is)
      ∙ ap (λ (d : Registers). (answered d 0 access).answer) (sym own_is)

  pub read_answer : (access : Access) (offset : ℕ) (o : Option ℕ) → access ≡ Read offset
      → o ≡ value_at own_device.device offset 0
      → access_answer o ≡ (answered (registers_in old old.host) 0 access).answer
  read_answer access offset o is same =
      ap access_answer same ∙ of_access access (Read offset) is

  pub read_registers : (access : Access) (offset : ℕ) → access ≡ Read offset
      → registers_in old ≡ after_access (registers_in old) (port_at old.host 0) access
  read_registers access offset is =
      sym (with_device-itself (registers_in old) old.host)
      ∙ ap (λ (a : Access). after_access (registers_in old) (port_at old.host 0) a) (sym is)

  -- a write that was done, or not
  pub done_answer : (access : Access) (offset value : ℕ) → access ≡ Write offset value
      → is_some (written_at own_device.device offset value) ≡ true
      → access_answer (Some 0) ≡ (answered (registers_in old old.host) 0 access).answer
  done_answer access offset value is some =
      sym (go (written_at own_device.device offset value) some)
      ∙ of_access access (Write offset value) is
    where
      go : (o : Option Registers) → is_some o ≡ true
          → access_answer (option_map (λ next. 0) o) ≡ access_answer (Some 0)
      go None is = absurd cc
      go (Some next) is = refl

  pub failed_answer : (access : Access) (offset value : ℕ) → access ≡ Write offset value
      → (is_some (written_at own_device.device offset value) ≡ true → ⊥)
      → access_answer None ≡ (answered (registers_in old old.host) 0 access).answer
  failed_answer access offset value is none =
      sym (go (written_at own_device.device offset value) none)
      ∙ of_access access (Write offset value) is
    where
      go : (o : Option Registers) → (is_some o ≡ true → ⊥)
          → access_answer (option_map (λ next. 0) o) ≡ access_answer None
      go None is = refl
      go (Some next) is = absurd (is refl)

-- ---- a write, from any state that the fabric stands for

device_set : (devices : List Registers) (node : ℕ) (device next : Registers)
    → slice_get devices node ≡ Some device
    → slice_get (with_device devices node (λ other. next)) node ≡ Some next
device_set devices node device next stands =
    device-changed devices node (λ other. next) ∙ ap (option_map (λ other. next)) stands

module _ (host : ℕ) (t : Seen) (old new : Fabric) (rests : MaintRestsAt host t old)
    (own : IsHostDevice host t) (offset value : ℕ) (answer : Bool)
    (written : OwnWritten host own.device offset value t [] old new answer) where
  abbrev next : Registers
  next = device_with own.device offset value

  abbrev end : Seen
  end = seen_with host own.device offset value t

  changed_at : slice_get end.network.registers host ≡ Some next
  changed_at = device_set t.network.registers host own.device next own.stands

  pub next_within : IsWithin next
  next_within = device_at end.network.registers host next changed_at
      written.stands.ready.formed.registers

  next_keeps : Keeps own.device next
  next_keeps = access_keeps own.device 0 (Write offset value)

  pub next_kind : is_switch next ≡ false
  next_kind = same_kind own.device next next_keeps.same ∙ own.kind

  pub rests_on : MaintRestsAt host end new
  rests_on = record { can = written.asks host rests.can; quiet = rests.quiet }

  inside : host < length t.network.registers
  inside = slice_get_within t.network.registers host own.device own.stands

  pub registers_on : registers_of end.network.registers
      ≡ registers_with (registers_of t.network.registers) host next
  registers_on = registers_of-changed t.network.registers host (λ other. next) inside

  pub topology_on : (links : List (PortRef × PortRef))
      → topology_of end.network.registers links host
      ≡ topology_of t.network.registers links host
  topology_on links = topology_of-changed t.network.registers links host host (λ other. next)
      (λ device stands. subst (λ (d : Registers). IsSameDevice d next)
      (same_Some own.device device (sym own.stands ∙ stands)) next_keeps.same)

  pub fits_on : (topology : Topology) → Fits topology (registers_of t.network.registers)
      → Fits topology (registers_of end.network.registers)
  fits_on topology fits = subst (Fits topology) (sym registers_on)
      (fits-with topology (registers_of t.network.registers) host next fits
      (subst (λ (d : Registers). Keeps d next)
      (sym (registers_at t.network.registers host own.device own.stands)) next_keeps))

-- ---- a write of a host that stands whole

module _ {N K : Type 0} (old : FabricMaint N K) (whole : StandsWhole old) (fabric : Fabric)
    (offset value : ℕ) (answer : Bool)
    (written : OwnWritten old.host (own_device old whole).device offset value whole.s []
    old.fabric.now
    fabric answer) where
  abbrev host : ℕ
  host = old.host

  abbrev device : Registers
  device = (own_device old whole).device

  pub written_registers : (access : Access) → access ≡ Write offset value
      → registers_of fabric.devices.items
      ≡ after_access (registers_in old) (port_at old.host 0) access
  written_registers access is =
      sym (ap registers_of written.stands.shows.registers)
      ∙ registers_on host whole.s old.fabric.now fabric whole.rests (own_device old whole) offset
      value
      answer written
      ∙ ap (λ (r : AllRegisters). registers_with r host (device_with device offset value))
      (ap registers_of whole.rests.can.stands.shows.registers)
      ∙ ap (λ (d : Registers). registers_with (registers_in old) host
      (answered d 0 (Write offset value)).device) (sym (own_is old whole))
      ∙ ap (λ (a : Access). after_access (registers_in old) (port_at old.host 0) a) (sym is)

  pub written_whole : StandsWhole (record old { fabric = record old.fabric { now = fabric } })
  written_whole = record {
    passes = whole.passes;
    host = whole.host;
    named = whole.named;
    few = whole.few;
    s = seen_with old.host device offset value whole.s;
    rests = rests_on host whole.s old.fabric.now fabric whole.rests (own_device old whole) offset
        value
        answer written;
    topology = topology_on host whole.s old.fabric.now fabric whole.rests (own_device old whole)
        offset
        value answer written whole.s.network.links ∙ whole.topology;
    fits = fits_on host whole.s old.fabric.now fabric whole.rests (own_device old whole) offset
        value
        answer written (topology_in old) whole.fits;
  }

-- whoever has followed so far follows on
pub written_follows : {N K : Type 0} (edits : N → List Edit) (telling : K → Option (List ℕ))
    (faults : K → ℕ) (origin old : FabricMaint N K) (fabric : Fabric) (offset value : ℕ)
    (answer : Bool)
    → ((t : Seen) (device : Registers) → Stands t [] old.fabric.now
    → slice_get t.network.registers old.host ≡ Some device
    → OwnWritten old.host device offset value t [] old.fabric.now fabric answer)
    → Followed edits telling faults origin old
    → Followed edits telling faults origin
    (record old { fabric = record old.fabric { now = fabric } })
written_follows {N} {K} edits telling faults origin old fabric offset value answer written
    followed =
    record {
      never_falls = followed.never_falls;
      same = record {
        script = followed.same.script;
        host = followed.same.host;
        fabric = followed.same.fabric;
        noise = followed.same.noise;
        sink = followed.same.sink;
      };
      went = λ s rests. went_on s (followed.went s rests);
    }
  where
    went_on : (s : Seen) → Went edits telling s origin old
        → Went edits telling s origin (record old { fabric = record old.fabric { now = fabric } })
    went_on s went =
        let own = host_device old.host went.end went.rests.can.laid.host_is in
        let wrote = written went.end own.device went.rests.can.stands own.stands in
        record {
          lines = went.lines;
          end = seen_with old.host own.device offset value went.end;
          asked = Owns went.end (device_with own.device offset value) went.asked
              (next_kind old.host went.end old.fabric.now fabric went.rests own offset value answer
              wrote)
              (next_within old.host went.end old.fabric.now fabric went.rests own offset value
              answer
              wrote) refl;
          leads = leads_own old.host s went.end went.lines (device_with own.device offset value)
              (next_kind old.host went.end old.fabric.now fabric went.rests own offset value answer
              wrote)
              went.leads;
          told = went.told;
          rests = rests_on old.host went.end old.fabric.now fabric went.rests own offset value
              answer
              wrote;
        }
