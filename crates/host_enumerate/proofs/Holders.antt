-- A device is taken, or found to be held.
use Rattle.host_enumerate.proofs.Prelude.{rules, ◌≡◌, ℕ, ◌%◌, ◌<◌, List, Some, IsSome, arith, refl, sym, ap, subst, ◌∙◌, same_Some, PortRef, Registers, value_at, written_at, locked, lock-read, tag-read, lock-written, Topology, IsTopology, entered, AllRegisters, Fits, some_from_same, entered-inside, IsAskable, IsApart, IsWritable, AreSame}
use Rattle.host_enumerate.proofs.Opening.{opened-same}

-- a read leaves what can be asked
pub askable-same : {topology now : Topology} {old : AllRegisters} (new : AllRegisters)
    {host_id : ℕ} {path : List ℕ} {at : PortRef} → now ≡ topology → AreSame old new
    → IsAskable topology old host_id path at
    → IsAskable now new host_id path at
askable-same {topology} {now} {old} new {host_id} {path} {at} is_now same askable =
    subst (λ t. IsAskable t new host_id path at) (sym is_now) (search (
      rules,
      ap (λ (d : Registers). d.base_id) (same topology.host) ∙ askable.id,
      opened-same new askable.opened same,
    ))

pub lock_is : (device : Registers) (port : ℕ) {lock : ℕ} → value_at device 0x68 port ≡ Some lock
    → device.lock ≡ lock
lock_is device port {lock} told = same_Some device.lock lock (sym (lock-read device port) ∙ told)

pub lock_fits : {topology : Topology} {registers : AllRegisters} (path : List ℕ) {at : PortRef}
    {lock : ℕ} → IsTopology topology → Fits topology registers
    → entered topology path ≡ Some at
    → value_at (registers at.node) 0x68 at.port ≡ Some lock → lock < 65536
lock_fits {topology} {registers} path {at} {lock} proper fits enters told =
    subst (λ n. n < 65536) (lock_is (registers at.node) at.port told)
    (fits.locks at.node (entered-inside topology path at proper enters))

pub tag_answers : (device : Registers) (port : ℕ) → IsSome (value_at device 0x6c port)
tag_answers device port = some_from_same (value_at device 0x6c port) device.tag
    (tag-read device port)

-- a free lock is taken
locks : (device : Registers) (value host_id : ℕ) → device.lock ≡ 0xffff → value ≡ host_id
    → host_id < 256 → locked device.lock (value % 0x10000) ≡ host_id
locks device value host_id free is fits =
    ap (λ n. locked n (value % 0x10000)) free
    ∙ (ap (λ n. n % 0x10000) is ∙ omega (arith, fits))

pub lock_written : (device : Registers) (value host_id : ℕ) → device.lock ≡ 0xffff
    → value ≡ host_id → host_id < 256
    → written_at device 0x68 value ≡ Some (record device { lock = host_id })
lock_written device value host_id free is fits =
    lock-written device value
    ∙ ap (λ n. Some (record device { lock = n })) (locks device value host_id free is fits)

pub lock-writable : {topology now : Topology} (old new : AllRegisters) (path : List ℕ)
    (at : PortRef) {value host_id : ℕ} → now ≡ topology → AreSame old new
    → (old at.node).lock ≡ 0xffff → value ≡ host_id → host_id < 256
    → IsApart topology path at.node
    → IsWritable now new path at 0x68 value (record (new at.node) { lock = host_id })
lock-writable {topology} {now} old new path at {value} {host_id} is_now same free is fits apart =
    subst (λ t. IsWritable t new path at 0x68 value (record (new at.node) { lock = host_id }))
    (sym is_now) (record {
      written = lock_written (new at.node) value host_id
          (ap (λ (d : Registers). d.lock) (same at.node) ∙ free) is fits;
      apart = apart;
      id = λ _. refl;
    })
