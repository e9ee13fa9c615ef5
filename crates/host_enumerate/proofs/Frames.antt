-- What single accesses answer, and what they leave of the registers of all devices.
use Rattle.host_enumerate.proofs.Prelude.{◌≡◌, ◌≢◌, ℕ, ◌<◌, ◌==◌, Bool, true, false, eqb, Some, is_some, if◌then◌else◌, refl, sym, ap, subst, ◌∙◌, ne_eqb, eq-eqb, eqb-true, port_at, fun_ext, Registers, value_at, status-read, Topology, device_ports, AllRegisters, Fits, registers_with}
use Rattle.maint_registers.specs.Table.{status_offset}

-- the device itself
pub with_device-at : (registers : AllRegisters) (node : ℕ) (device : Registers)
    → registers_with registers node device node ≡ device
with_device-at registers node device = rw (eq-eqb node node refl) refl

-- and another
pub with_device-other : (registers : AllRegisters) (node other : ℕ) (device : Registers)
    → other ≢ node → registers_with registers node device other ≡ registers other
with_device-other registers node other device apart = rw (ne_eqb other node apart) refl

pub with_device-itself : (registers : AllRegisters) (node : ℕ)
    → registers_with registers node (registers node) ≡ registers
with_device-itself registers node = fun_ext (λ other. go other (eqb other node) refl)
  where
    go : (other : ℕ) (b : Bool) → eqb other node ≡ b
        → (if b then registers node else registers other) ≡ registers other
    go other true is = ap registers (sym (eqb-true other node is))
    go other false is = refl

module _ (topology : Topology) (registers : AllRegisters) (fits : Fits topology registers)
    (node : ℕ) (inside : node < topology.nodes) where
  -- whether a port has a link
  pub status-shows : (n port : ℕ) → n < device_ports topology node
      → value_at (registers node) (status_offset n) port
      ≡ Some (if is_some (topology.peer (port_at node n)) then 2 else 1)
  status-shows n port below =
      status-read (registers node) n port (subst (λ k. n < k) (sym (fits.ports node inside)) below)
      ∙ ap (λ k. Some k) (ap (λ k. if k == 1 then 2 else 1) (fits.linked node n inside below)
      ∙ go (is_some (topology.peer (port_at node n))))
    where
      shown : ℕ → ℕ
      shown bit = if bit == 1 then 2 else 1

      go : (b : Bool) → shown (if b then 1 else 0) ≡ (if b then 2 else 1)
      go true = refl
      go false = refl
