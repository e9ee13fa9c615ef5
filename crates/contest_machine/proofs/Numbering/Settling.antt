-- The writes that are left for a switch, made one after another, set it up.
use Rattle.contest_machine.proofs.Prelude.{◌≡◌, ◌≢◌, ℕ, zero, suc, ◌+◌, ◌%◌, ◌<◌, ◌≤◌, ◌==◌, Bool, true, false, eqb, List, [], ◌∷◌, ◌++◌, length, Some, arith, ◌⊎◌, inl, inr, subst, sym, refl, ap, ◌∙◌, if◌then◌else◌, unwrap_or, cases_eq, eqb-true, PortRef, Registers, is_switch, select-written, entry-written, default_port-written, Topology, entered, AllRegisters, Write, answered, registers_with, after_access, with_entry, IsCleared, SwitchIsSetUp, with_device-at, with_device-other, with_device-itself, PendingWrite, entry_set, cleared_below, home_set}
use Rattle.maint_registers.proofs.RouteLaws.{entry-set_same, entry-set_other}
use Rattle.host_enumerate.proofs.Clearing.{same_but-entry, cleared-none, cleared-next, cleared-past, is_switch-kind}
use Rattle.contest_machine.proofs.Numbering.OnWay.{one_performed, performed}

-- one device after writes to it
abbrev pub device_after : Registers → ℕ → List PendingWrite → Registers
device_after device port [] = device
device_after device port (p ∷ rest) =
    device_after (answered device port (Write p.offset p.value)).device port rest

abbrev pub AreAt : List ℕ → List PendingWrite → Type 0
AreAt path [] = Unit {0}
AreAt path (p ∷ rest) = (p.path ≡ path) × AreAt path rest

pub performed-one : (view : Topology) (path : List ℕ) (at : PortRef) (todo : List PendingWrite)
    (now : AllRegisters) → entered view path ≡ Some at → AreAt path todo
    → (node : ℕ) → performed view now todo node
    ≡ registers_with now at.node (device_after (now at.node) at.port todo) node
performed-one view path at [] now enters are node =
    ap (λ r. r node) (sym (with_device-itself now at.node))
performed-one view path at (p ∷ rest) now enters are node =
    ap (λ o. performed view (one_performed now p o) rest node)
    (ap (λ l. entered view l) are.0 ∙ enters)
    ∙ (performed-one view path at rest (after_access now at (Write p.offset p.value)) enters are.1
    node ∙ go (cases_eq node at.node))
  where
    next : AllRegisters
    next = after_access now at (Write p.offset p.value)

    here : next at.node ≡ (answered (now at.node) at.port (Write p.offset p.value)).device
    here = with_device-at now at.node _

    go : (node ≡ at.node) ⊎ (node ≢ at.node)
        → registers_with next at.node (device_after (next at.node) at.port rest) node
        ≡ registers_with now at.node (device_after (now at.node) at.port (p ∷ rest)) node
    go (inl same) =
        ap (λ n. registers_with next at.node (device_after (next at.node) at.port rest) n) same
        ∙ (with_device-at next at.node _
        ∙ (ap (λ d. device_after d at.port rest) here
        ∙ (sym (with_device-at now at.node _)
        ∙ ap (λ n. registers_with now at.node (device_after (now at.node) at.port (p ∷ rest)) n)
        (sym same))))
    go (inr apart) =
        with_device-other next at.node node _ apart
        ∙ (with_device-other now at.node node _ apart
        ∙ sym (with_device-other now at.node node _ apart))

after-append : (device : Registers) (port : ℕ) (first second : List PendingWrite)
    → device_after device port (first ++ second)
    ≡ device_after (device_after device port first) port second
after-append device port [] second = refl
after-append device port (p ∷ rest) second =
    after-append (answered device port (Write p.offset p.value)).device port rest second

-- the two writes of an entry
pub entry_after : (device : Registers) (port : ℕ) (path : List ℕ) (id value : ℕ)
    → is_switch device ≡ true → id < 256
    → device_after device port (entry_set path id value) ≡ with_entry device id (value % 0x100)
entry_after device port path id value is few =
    ap (λ d. (answered d port (Write 0x74 value)).device) selected
    ∙ ap (λ o. unwrap_or o (record device { select = id }))
    (entry-written (record device { select = id }) value is)
  where
    selected : (answered device port (Write 0x70 id)).device ≡ record device { select = id }
    selected =
        ap (λ o. unwrap_or o device) (select-written device id is)
        ∙ ap (λ n. record device { select = n }) (omega (arith, few))

-- of a port that fits
pub after-entry : (device : Registers) (port : ℕ) (path : List ℕ) (id value : ℕ)
    → is_switch device ≡ true → id < 256 → value < 256
    → device_after device port (entry_set path id value) ≡ with_entry device id value
after-entry device port path id value is few small =
    entry_after device port path id value is few
    ∙ ap (λ n. with_entry device id n) (omega (arith, small))

module _ (device : Registers) (port : ℕ) (path : List ℕ) (host_id : ℕ)
    (is : is_switch device ≡ true) (destinations : length device.routes ≡ 1024) where
  abbrev cleared_to : ℕ → Registers
  cleared_to n = device_after device port (cleared_below path host_id n)

  pub after-cleared : (n : ℕ) → n ≤ 63 → IsCleared host_id n device (cleared_to n)
  after-cleared zero most = cleared-none host_id device
  after-cleared (suc n) most =
      let rest = after-cleared n (omega (arith, most)) in
      let one : n + 1 ≡ suc n = omega arith in
      subst (λ k. IsCleared host_id k device (cleared_to (suc n))) one
      (subst (λ d. IsCleared host_id (n + 1) device d)
      (sym (after-append device port (cleared_below path host_id n)
      (if n == host_id then [] else entry_set path n 255)))
      (go rest (eqb n host_id) refl))
    where
      go : IsCleared host_id n device (cleared_to n) → (b : Bool) → eqb n host_id ≡ b
          → IsCleared host_id (n + 1) device
          (device_after (cleared_to n) port (if b then [] else entry_set path n 255))
      go rest true same =
          cleared-past host_id n device (cleared_to n) (eqb-true n host_id same) rest
      go rest false other =
          subst (λ d. IsCleared host_id (n + 1) device d)
          (sym (after-entry (cleared_to n) port path n 255
          (is_switch-kind (cleared_to n) device (ap (λ (d : Registers). d.kind) rest.same.rest)
          ∙ is) (omega (arith, most))
          (omega arith)))
          (cleared-next host_id n device (cleared_to n) destinations (omega (arith, most)) rest)

-- a switch is set up
pub after-home : (device : Registers) (port : ℕ) (path : List ℕ) (host_id entry : ℕ)
    → is_switch device ≡ true → length device.routes ≡ 1024 → host_id < 255 → entry < 256
    → SwitchIsSetUp host_id entry device (device_after device port (home_set path host_id entry))
after-home device port path host_id entry is destinations fits small =
    subst (λ d. SwitchIsSetUp host_id entry device d) (sym whole) (record {
      same = same_but-entry device cleared host_id entry (record {
        rest = clear.same.rest;
      });
      default = clear.default;
      home = entry-set_same cleared.routes host_id entry
          (omega (arith, fits, clear.destinations, destinations));
      cleared = λ id less other.
          entry-set_other cleared.routes host_id id entry other ∙ clear.cleared id less other;
      kept = λ id more other.
          entry-set_other cleared.routes host_id id entry other
          ∙ clear.kept id (omega (arith, more));
    })
  where
    first : Registers
    first = record device { default_port = entry }

    cleared : Registers
    cleared = device_after first port (cleared_below path host_id 63)

    clear : IsCleared host_id 63 first cleared
    clear = after-cleared first port path host_id is destinations 63 (omega arith)

    defaulted : (answered device port (Write 0x78 entry)).device ≡ first
    defaulted =
        ap (λ o. unwrap_or o device) (default_port-written device entry is)
        ∙ ap (λ n. record device { default_port = n }) (omega (arith, small))

    whole : device_after device port (home_set path host_id entry)
        ≡ with_entry cleared host_id entry
    whole =
        ap (λ d. device_after d port
        (cleared_below path host_id 63 ++ entry_set path host_id entry)) defaulted
        ∙ (after-append first port (cleared_below path host_id 63) (entry_set path host_id entry)
        ∙ after-entry cleared port path host_id entry
        (is_switch-kind cleared first (ap (λ (d : Registers). d.kind) clear.same.rest) ∙ is)
        (omega (arith, fits)) small)
