-- What the writes of a host do to the device that it asks.
use Rattle.host_enumerate.proofs.Prelude.{rules, ◌≡◌, ◌≢◌, ℕ, ◌%◌, ◌<◌, ◌==◌, Bool, true, false, List, [], slice_set, Some, arith, refl, sym, ap, subst, ◌∙◌, eqb-true, eqb-false, PortRef, Registers, is_switch, written_at, select-written, entry-written, Topology, entered, AllRegisters, registers_with, IsAskable, IsApart, IsWritable, Becomes, with_entry}
use Rattle.host_enumerate.proofs.Frames.{with_device-at, with_device-other}
use Rattle.host_enumerate.proofs.Opening.{base_id_stays, became, stays, opened-apart}

-- a device becomes one thing after another
pub becomes-twice : (old mid new : AllRegisters) (node : ℕ) (first second : Registers)
    → Becomes old mid node first → Becomes mid new node second → Becomes old new node second
becomes-twice old mid new node first second one two other = go (other == node) refl
  where
    go : (is : Bool) → (other == node) ≡ is → new other ≡ registers_with old node second other
    go true is =
        let same = eqb-true other node is in
        subst (λ n. new n ≡ registers_with old node second n) (sym same)
        (became mid new node second two ∙ sym (with_device-at old node second))
    go false is =
        let apart : other ≢ node = eqb-false other node is in
        stays mid new node other second two apart
        ∙ (stays old mid node other first one apart
        ∙ sym (with_device-other old node other second apart))

-- the device can still be asked after it was written
pub askable-written : {topology : Topology} {old : AllRegisters} (new : AllRegisters)
    {host_id : ℕ} {path : List ℕ} {at : PortRef} (held : Registers)
    → IsAskable topology old host_id path at
    → Becomes old new at.node held → IsApart topology path at.node
    → (path ≡ [] → held.base_id ≡ (old at.node).base_id)
    → IsAskable topology new host_id path at
askable-written {topology} {old} new {host_id} {path} {at} held askable becomes apart keeps =
    search (
      rules,
      base_id_stays topology old new at.node held becomes
          (λ same. keeps (askable.not_host (sym same))) ∙ askable.id,
      opened-apart new at.node held askable.opened becomes apart,
    )

pub selectable : (topology : Topology) (registers : AllRegisters) (path : List ℕ) (at : PortRef)
    (value : ℕ) → is_switch (registers at.node) ≡ true → IsApart topology path at.node
    → IsWritable topology registers path at 0x70 value
    (record (registers at.node) { select = value % 0x400 })
selectable topology registers path at value is apart = record {
  written = select-written (registers at.node) value is;
  apart = apart;
  id = λ _. refl;
}

pub settable : (topology : Topology) (registers : AllRegisters) (path : List ℕ) (at : PortRef)
    (value : ℕ) → is_switch (registers at.node) ≡ true → IsApart topology path at.node
    → IsWritable topology registers path at 0x74 value (record (registers at.node) {
      routes = slice_set (registers at.node).routes (registers at.node).select (value % 0x100);
    })
settable topology registers path at value is apart = record {
  written = entry-written (registers at.node) value is;
  apart = apart;
  id = λ _. refl;
}

pub entry-set : (old mid new : AllRegisters) (node id port id_value port_value : ℕ)
    → id_value ≡ id → port_value ≡ port → id < 256 → port < 256
    → Becomes old mid node (record (old node) { select = id_value % 0x400 })
    → Becomes mid new node (record (mid node) {
      routes = slice_set (mid node).routes (mid node).select (port_value % 0x100);
    })
    → Becomes old new node (with_entry (old node) id port)
entry-set old mid new node id port id_value port_value is_id is_port id_fits port_fits one two =
    becomes-twice old mid new node (record (old node) { select = id_value % 0x400 })
    (with_entry (old node) id port) one
    (subst (λ d. Becomes mid new node d) same two)
  where
    same : record (mid node) {
      routes = slice_set (mid node).routes (mid node).select (port_value % 0x100);
    } ≡ with_entry (old node) id port
    same =
        ap (λ (d : Registers). record d {
          routes = slice_set d.routes d.select (port_value % 0x100);
        }) (became old mid node (record (old node) { select = id_value % 0x400 }) one)
        ∙ (ap (λ n. record (old node) {
          select = n;
          routes = slice_set (old node).routes n (port_value % 0x100);
        }) selected
        ∙ ap (λ n. with_entry (old node) id n) sent)
      where
        selected : id_value % 0x400 ≡ id
        selected = ap (λ n. n % 0x400) is_id ∙ omega (arith, id_fits)

        sent : port_value % 0x100 ≡ port
        sent = ap (λ n. n % 0x100) is_port ∙ omega (arith, port_fits)

-- what a write is said to leave
abbrev pub Leaves : Topology → AllRegisters → AllRegisters → List ℕ → ℕ → ℕ → Type 0
Leaves topology old new path offset value = (at : PortRef) (held : Registers)
    → entered topology path ≡ Some at → written_at (old at.node) offset value ≡ Some held
    → Becomes old new at.node held

pub selected : (topology : Topology) (old new : AllRegisters) (path : List ℕ) (at : PortRef)
    (value : ℕ) → Leaves topology old new path 0x70 value → entered topology path ≡ Some at
    → is_switch (old at.node) ≡ true
    → Becomes old new at.node (record (old at.node) { select = value % 0x400 })
selected topology old new path at value leaves leads is =
    leaves at (record (old at.node) { select = value % 0x400 }) leads
    (select-written (old at.node) value is)

pub still_switch : (old new : AllRegisters) (node value : ℕ) → is_switch (old node) ≡ true
    → Becomes old new node (record (old node) { select = value % 0x400 })
    → is_switch (new node) ≡ true
still_switch old new node value is becomes =
    ap is_switch (became old new node (record (old node) { select = value % 0x400 }) becomes) ∙ is

-- the two writes that set an entry
pub entry-left : (topology : Topology) (old mid new : AllRegisters) (path : List ℕ) (at : PortRef)
    (id port id_value port_value : ℕ) → Leaves topology old mid path 0x70 id_value
    → Leaves topology mid new path 0x74 port_value → entered topology path ≡ Some at
    → is_switch (old at.node) ≡ true → id_value ≡ id → port_value ≡ port → id < 256
    → port < 256 → Becomes old new at.node (with_entry (old at.node) id port)
entry-left topology old mid new path at id port id_value port_value one two leads is is_id is_port
    id_fits port_fits =
    let first = selected topology old mid path at id_value one leads is in
    entry-set old mid new at.node id port id_value port_value is_id is_port id_fits port_fits first
    (two at (record (mid at.node) {
      routes = slice_set (mid at.node).routes (mid at.node).select (port_value % 0x100);
    }) leads (entry-written (mid at.node) port_value
    (still_switch old mid at.node id_value is first)))
