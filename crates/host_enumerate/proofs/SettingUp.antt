-- A switch is set up, one step after another.
use Rattle.host_enumerate.proofs.Prelude.{◌≡◌, ℕ, ◌+◌, ◌*◌, ◌/◌, ◌%◌, ◌≤◌, ◌<◌, true, List, Some, arith, refl, sym, ap, subst, ◌∙◌, same_Some, PortRef, Registers, is_switch, value_at, written_at, port_information-read, default_port-written, entry-set_same, entry-set_other, Topology, IsTopology, entered, AllRegisters, Fits, entered-inside, entered-port, IsAskable, IsApart, IsWritable, AreSame, Becomes, with_entry, IsSameBut, IsCleared, SwitchIsSetUp}
use Rattle.host_enumerate.proofs.Frames.{with_device-itself}
use Rattle.host_enumerate.proofs.Opening.{became}
use Rattle.host_enumerate.proofs.Entries.{Leaves, becomes-twice, askable-written}
use Rattle.host_enumerate.proofs.Clearing.{same_but-itself, same_but-entry, is_switch-kind, destinations_of}

-- what a switch told: how many ports it has, and by which it was asked
pub record IsInformed (device : Registers) (port information : ℕ) : Type 0 where
  pub ports : information / 0x100 ≡ device.ports
  pub entry : information % 0x100 ≡ port
  pub few_ports : information / 0x100 < 256
  pub few : port < 256

pub informed : {topology : Topology} {registers : AllRegisters} (path : List ℕ) {at : PortRef}
    {information : ℕ} → IsTopology topology → Fits topology registers
    → entered topology path ≡ Some at → is_switch (registers at.node) ≡ true
    → value_at (registers at.node) 0x14 at.port ≡ Some information
    → IsInformed (registers at.node) at.port information
informed {topology} {registers} path {at} {information} proper fits enters is told = record {
  ports = omega (arith, same, few);
  entry = omega (arith, same, few);
  few_ports = omega (arith, same, few, many);
  few = few;
}
  where
    same : information ≡ (registers at.node).ports * 0x100 + at.port
    same = same_Some information ((registers at.node).ports * 0x100 + at.port)
        (sym told ∙ port_information-read (registers at.node) at.port is)

    many : (registers at.node).ports ≤ 16
    many = (fits.devices at.node (entered-inside topology path at proper enters)).most_ports

    few : at.port < 256
    few = omega
        (arith, (entered-port topology path at proper enters).port, proper.most_ports at.node)

-- what is known of the switch while it is set up
pub record IsStage (topology now : Topology) (old new : AllRegisters) (at : PortRef)
    (held : Registers) : Type 0 where
  pub stays : now ≡ topology
  pub becomes : Becomes old new at.node held
  pub same : IsSameBut (old at.node) held

pub stage_askable : {topology now : Topology} {old new : AllRegisters} {host_id : ℕ}
    {path : List ℕ} {at : PortRef} {held : Registers} → IsAskable topology old host_id path at
    → IsApart topology path at.node → is_switch (old at.node) ≡ true
    → IsStage topology now old new at held
    → IsAskable now new host_id path at × IsApart now path at.node
    × (is_switch (new at.node) ≡ true)
stage_askable {topology} {now} {old} {new} {host_id} {path} {at} {held} askable apart is stage = (
  subst (λ t. IsAskable t new host_id path at) (sym stage.stays)
      (askable-written new held askable stage.becomes apart
      (λ _. ap (λ (d : Registers). d.base_id) stage.same.rest)),
  subst (λ t. IsApart t path at.node) (sym stage.stays) apart,
  ap is_switch (became old new at.node held stage.becomes)
      ∙ (is_switch-kind held (old at.node) (ap (λ (d : Registers). d.kind) stage.same.rest) ∙ is),
)

-- a read changes nothing
pub stage_read : {topology now : Topology} {old new : AllRegisters} (at : PortRef)
    → now ≡ topology → AreSame old new → IsStage topology now old new at (old at.node)
stage_read {topology} {now} {old} {new} at is_now same = record {
  stays = is_now;
  becomes = λ other. same other ∙ sym (ap (λ r. r other) (with_device-itself old at.node));
  same = same_but-itself (old at.node);
}

pub default-writable : (topology : Topology) (registers : AllRegisters) (path : List ℕ)
    (at : PortRef) {value port : ℕ} → value ≡ port → port < 256
    → is_switch (registers at.node) ≡ true → IsApart topology path at.node
    → IsWritable topology registers path at 0x78 value
    (record (registers at.node) { default_port = port })
default-writable topology registers path at {value} {port} is fits kind apart = record {
  written = default_port-written (registers at.node) value kind
      ∙ ap (λ n. Some (record (registers at.node) { default_port = n }))
      (ap (λ n. n % 0x100) is ∙ omega (arith, fits));
  apart = apart;
  id = λ _. refl;
}

-- the default port is written
pub stage_default : {topology first second : Topology} {old mid : AllRegisters}
    (new : AllRegisters) (path : List ℕ) {at : PortRef} {value port : ℕ} → value ≡ port
    → port < 256 → second ≡ first
    → is_switch (old at.node) ≡ true → entered topology path ≡ Some at
    → IsStage topology first old mid at (old at.node) → Leaves first mid new path 0x78 value
    → IsStage topology second old new at (record (old at.node) { default_port = port })
stage_default {topology} {first} {second} {old} {mid} new path {at} {value} {port} is fits
    is_second kind enters stage leaves = record {
      stays = is_second ∙ stage.stays;
      becomes = becomes-twice old mid new at.node (old at.node)
          (record (old at.node) { default_port = port }) stage.becomes
          (leaves at (record (old at.node) { default_port = port })
          (ap (λ t. entered t path) stage.stays ∙ enters)
          (ap (λ d. written_at d 0x78 value) there
          ∙ (default_port-written (old at.node) value kind
          ∙ ap (λ n. Some (record (old at.node) { default_port = n }))
          (ap (λ n. n % 0x100) is ∙ omega (arith, fits)))));
      same = record { rest = refl };
    }
  where
    there : mid at.node ≡ old at.node
    there = became old mid at.node (old at.node) stage.becomes

-- the entries are cleared
pub stage_cleared : {topology first second : Topology} {old mid new : AllRegisters} {host_id : ℕ}
    {at : PortRef} {base held : Registers} → second ≡ first
    → IsStage topology first old mid at base → Becomes mid new at.node held
    → IsCleared host_id 63 (mid at.node) held
    → IsStage topology second old new at held × IsCleared host_id 63 base held
stage_cleared {topology} {first} {second} {old} {mid} {new} {host_id} {at} {base} {held} is_second
    stage becomes cleared = (
      record {
        stays = is_second ∙ stage.stays;
        becomes = becomes-twice old mid new at.node base held stage.becomes becomes;
        same = record {
          rest = on.same.rest
              ∙ ap (λ (d : Registers). record d {
                routes = held.routes;
                default_port = held.default_port;
                select = held.select;
              }) stage.same.rest;
        };
      },
      on,
    )
  where
    on : IsCleared host_id 63 base held
    on = subst (λ d. IsCleared host_id 63 d held) (became old mid at.node base stage.becomes)
        cleared

-- and the entry of the host's ID is set
pub set_up : {topology first : Topology} {old mid : AllRegisters} (new : AllRegisters) {host_id : ℕ}
    (path : List ℕ) {at : PortRef} {port : ℕ} {held : Registers} → IsTopology topology
    → Fits topology old → host_id < 255 → port ≡ at.port → entered topology path ≡ Some at
    → IsStage topology first old mid at held
    → IsCleared host_id 63 (record (old at.node) { default_port = at.port }) held
    → Becomes mid new at.node (with_entry (mid at.node) host_id port)
    → Becomes old new at.node (with_entry held host_id at.port)
    × SwitchIsSetUp host_id at.port (old at.node) (with_entry held host_id at.port)
set_up {topology} {first} {old} {mid} new {host_id} path {at} {port} {held} proper fits below is
    enters stage cleared becomes = (
      becomes-twice old mid new at.node held (with_entry held host_id at.port) stage.becomes
          (subst (λ d. Becomes mid new at.node d) there becomes),
      record {
        same = same_but-entry (old at.node) held host_id at.port stage.same;
        default = cleared.default;
        home = entry-set_same held.routes host_id at.port
            (omega (
              arith,
              below,
              cleared.destinations,
              destinations_of path proper fits enters,
            ));
        cleared = λ id less other.
            entry-set_other held.routes host_id id at.port other ∙ cleared.cleared id less other;
        kept = λ id more other.
            entry-set_other held.routes host_id id at.port other
            ∙ cleared.kept id (omega (arith, more));
      },
    )
  where
    there : with_entry (mid at.node) host_id port ≡ with_entry held host_id at.port
    there =
        ap (λ d. with_entry d host_id port) (became old mid at.node held stage.becomes)
        ∙ ap (λ n. with_entry held host_id n) is
