-- A device that was taken gets its tag.
use Rattle.host_enumerate.proofs.Prelude.{◌≡◌, ℕ, ◌+◌, List, length, Some, refl, sym, ap, subst, ◌∙◌, PortRef, tag-written, Kind, Device, Topology, entered, AllRegisters, IsAskable, IsApart, IsWritable, Becomes, IsKindLeft, IsTakenIn}
use Rattle.host_enumerate.proofs.Entries.{Leaves, askable-written}

pub tag-writable : (topology : Topology) (registers : AllRegisters) (path : List ℕ) (at : PortRef)
    {count : ℕ} (devices : List Device) → count ≡ length devices
    → IsApart topology path at.node
    → IsWritable topology registers path at 0x6c (count + 1)
    (record (registers at.node) { tag = length devices + 1 })
tag-writable topology registers path at {count} devices is apart = record {
  written = tag-written (registers at.node) (count + 1)
      ∙ ap (λ n. Some (record (registers at.node) { tag = n + 1 })) is;
  apart = apart;
  id = λ _. refl;
}

pub tagged : (topology : Topology) (old new : AllRegisters) (path : List ℕ) {at : PortRef}
    {count : ℕ} (devices : List Device) → count ≡ length devices
    → Leaves topology old new path 0x6c (count + 1) → entered topology path ≡ Some at
    → Becomes old new at.node (record (old at.node) { tag = length devices + 1 })
tagged topology old new path {at} {count} devices is leaves enters =
    leaves at (record (old at.node) { tag = length devices + 1 }) enters
    (tag-written (old at.node) (count + 1)
    ∙ ap (λ n. Some (record (old at.node) { tag = n + 1 })) is)

pub tagged_askable : {topology now : Topology} {old : AllRegisters} (new : AllRegisters)
    {host_id : ℕ} {path : List ℕ} {at : PortRef} (tag : ℕ) → now ≡ topology
    → IsAskable topology old host_id path at → IsApart topology path at.node
    → Becomes old new at.node (record (old at.node) { tag = tag })
    → IsAskable now new host_id path at × IsApart now path at.node
tagged_askable {topology} {now} {old} new {host_id} {path} {at} tag is_now askable apart becomes = (
  subst (λ t. IsAskable t new host_id path at) (sym is_now)
      (askable-written new (record (old at.node) { tag = tag }) askable becomes apart (λ _. refl)),
  subst (λ t. IsApart t path at.node) (sym is_now) apart,
)

pub taken_in : {topology now : Topology} (host_id next next_after : ℕ) (devices : List Device)
    (old mid new : AllRegisters) (path : List ℕ) {at : PortRef} {count : ℕ} (kind : Kind)
    → now ≡ topology → count ≡ length devices → entered topology path ≡ Some at
    → Leaves topology old mid path 0x6c (count + 1)
    → ((at : PortRef) → entered now path ≡ Some at
    → IsKindLeft now host_id next next_after mid new path at kind)
    → IsTakenIn topology host_id devices next next_after old new path at kind
taken_in {topology} {now} host_id next next_after devices old mid new path {at} {count} kind is_now
    is enters leaves left = (
      mid,
      tagged topology old mid path devices is leaves enters,
      subst (λ t. IsKindLeft t host_id next next_after mid new path at kind) is_now
          (left at (ap (λ t. entered t path) is_now ∙ enters)),
    )
