-- The writes that are left for an endpoint's ID set one entry in each switch on the way.
use Rattle.contest_machine.proofs.Prelude.{◌≡◌, ◌≢◌, ℕ, ◌<◌, true, List, [], ◌∷◌, ◌++◌, Some, Contains, arith, ◌⊎◌, inl, inr, sym, refl, ap, ◌∙◌, PortRef, is_switch, Device, Topology, entered, node_at, AllRegisters, IsOpened, paths_of, toward, path_listed, node_at-entered, Contains-first, Contains-cases, next_port, with_entry, with_device-at, PendingWrite, entry_set, route_pending, routes_to, AreOnce}
use Rattle.contest_machine.proofs.Numbering.OnWay.{one_performed, performed}
use Rattle.contest_machine.proofs.Keeping.Lists.{Leads}
use Rattle.contest_machine.proofs.Keeping.Turning.{route_own, routes_own}
use Rattle.contest_machine.proofs.Numbering.Performing.{performed-beside}
use Rattle.contest_machine.proofs.Numbering.Settling.{performed-one, after-entry}

-- The way to a path stays open if the switches that it passes stay.
pub opened-stays : (view : Topology) (old new : AllRegisters) (host_id : ℕ) (path : List ℕ)
    → ((first : ℕ) (front rest : List ℕ) (port : ℕ) (at : PortRef)
    → path ≡ first ∷ front ++ port ∷ rest → entered view (first ∷ front) ≡ Some at
    → new at.node ≡ old at.node)
    → IsOpened view old host_id path → IsOpened view new host_id path
opened-stays view old new host_id path stays opened = record {
  onwards = λ first front rest port at is enters.
      ap (λ d. next_port d 255) (stays first front rest port at is enters)
      ∙ opened.onwards first front rest port at is enters;
  home = λ first front rest port at is enters.
      ap (λ d. next_port d host_id) (stays first front rest port at is enters)
      ∙ opened.home first front rest port at is enters;
  not_host = opened.not_host;
}

pub performed-append : (view : Topology) (now : AllRegisters) (first second : List PendingWrite)
    → performed view now (first ++ second) ≡ performed view (performed view now first) second
performed-append view now [] second = refl
performed-append view now (p ∷ rest) second =
    performed-append view (one_performed now p (entered view p.path)) rest second

module _ (view : Topology) (path : List ℕ) (id : ℕ) where
  -- a device that has none of these writes
  pub routes-beside : (devices : List Device) (now : AllRegisters) (node : ℕ)
      → ¬ Leads view (paths_of devices) node
      → performed view now (routes_to devices path id) node ≡ now node
  routes-beside devices now node none =
      performed-beside view (paths_of devices) (routes_to devices path id) now
      (routes_own (paths_of devices) devices path id (λ p listed. listed)) node none

  pub one-beside : (device : Device) (now : AllRegisters) (node : ℕ)
      → node_at view device.path ≢ Some node
      → performed view now (route_pending path id device) node ≡ now node
  one-beside device now node other =
      performed-beside view (device.path ∷ []) (route_pending path id device) now
      (route_own (device.path ∷ []) device.path id device.kind (toward device.path path)
      (Contains-first device.path [])) node
      (λ found. at found.0 found.2 (Contains-cases device.path [] found.0 found.1))
    where
      at : (p : List ℕ) → node_at view p ≡ Some node → (device.path ≡ p) ⊎ Contains [] p → ⊥
      at p leads (inl same) = other (ap (λ l. node_at view l) same ∙ leads)
      at p leads (inr none) = omega (arith, none.1)

  -- the device that has them
  pub routes-passed : (devices : List Device) (device : Device) (at : PortRef) (port : ℕ)
      (now : AllRegisters) → AreOnce view (paths_of devices) → Contains devices device
      → entered view device.path ≡ Some at
      → route_pending path id device ≡ entry_set device.path id port
      → is_switch (now at.node) ≡ true → id < 256 → port < 256
      → performed view now (routes_to devices path id) at.node ≡ with_entry (now at.node) id port
  routes-passed [] device at port now once listed enters is switch few small =
      absurd (omega (arith, listed.1))
  routes-passed (first ∷ rest) device at port now once listed enters is switch few small =
      ap (λ r. r at.node)
      (performed-append view now (route_pending path id first) (routes_to rest path id))
      ∙ go (Contains-cases first rest device listed)
      (λ now later. routes-passed rest device at port now once.1 later enters is)
    where
      middle : AllRegisters
      middle = performed view now (route_pending path id first)

      leads : node_at view device.path ≡ Some at.node
      leads = node_at-entered view device.path at enters

      go : (first ≡ device) ⊎ Contains rest device
          → ((now : AllRegisters) → Contains rest device → is_switch (now at.node) ≡ true → id < 256
          → port < 256
          → performed view now (routes_to rest path id) at.node ≡ with_entry (now at.node) id port)
          → performed view middle (routes_to rest path id) at.node
          ≡ with_entry (now at.node) id port
      go (inl same) on =
          routes-beside rest middle at.node
          (λ found. once.0 found.0 found.1
          (ap (λ (d : Device). node_at view d.path) same ∙ (leads ∙ sym found.2)))
          ∙ (ap (λ (d : Device). performed view now (route_pending path id d) at.node) same
          ∙ (ap (λ t. performed view now t at.node) is
          ∙ (performed-one view device.path at (entry_set device.path id port) now enters
          (refl, (refl, tt)) at.node
          ∙ (with_device-at now at.node _
          ∙ after-entry (now at.node) at.port device.path id port switch few small))))
      go (inr later) on =
          let beside = one-beside first now at.node
          (λ same. once.0 device.path (path_listed rest device later) (same ∙ sym leads)) in
          on middle later (ap is_switch beside ∙ switch) few small
          ∙ ap (λ d. with_entry d id port) beside
