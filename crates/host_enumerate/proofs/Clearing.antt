-- A switch is set up.
use Rattle.host_enumerate.proofs.Prelude.{◌≡◌, ◌≢◌, ℕ, ◌+◌, ◌≤◌, ◌<◌, ◌⊎◌, inl, inr, true, List, length, slice_index_or, slice_set, Some, arith, refl, sym, ap, subst, ◌∙◌, cases_lt, length-set, PortRef, Registers, is_switch, entry-set_same, entry-set_other, Topology, IsTopology, entered, AllRegisters, Fits, entered-inside, IsAskable, IsApart, Becomes, with_entry, IsSameBut, IsCleared}
use Rattle.host_enumerate.proofs.Frames.{with_device-itself}
use Rattle.host_enumerate.proofs.Opening.{became}
use Rattle.host_enumerate.proofs.Entries.{becomes-twice, askable-written}

pub same_but-itself : (device : Registers) → IsSameBut device device
same_but-itself device = record { rest = refl }

pub same_but-entry : (old new : Registers) (id port : ℕ) → IsSameBut old new
    → IsSameBut old (with_entry new id port)
same_but-entry old new id port same = record {
  rest = ap (λ (d : Registers). with_entry d id port) same.rest;
}

pub cleared-none : (host_id : ℕ) (device : Registers) → IsCleared host_id 0 device device
cleared-none host_id device = record {
  same = same_but-itself device;
  default = refl;
  destinations = refl;
  cleared = λ id less. absurd (omega (arith, less));
  kept = λ id most. refl;
}

pub cleared-next : (host_id below : ℕ) (old new : Registers) → length old.routes ≡ 1024 → below < 63
    → IsCleared host_id below old new
    → IsCleared host_id (below + 1) old (with_entry new below 255)
cleared-next host_id below old new destinations less cleared = record {
  same = same_but-entry old new below 255 cleared.same;
  default = cleared.default;
  destinations = length-set new.routes below 255 ∙ cleared.destinations;
  cleared = λ id within other. at id (last id within) other;
  kept = λ id most.
      entry-set_other new.routes below id 255 (λ same. absurd (omega (arith, same, most)))
      ∙ cleared.kept id (omega (arith, most));
}
  where
    fits : below < length new.routes
    fits = omega (arith, cleared.destinations, destinations, less)

    last : (id : ℕ) → id < below + 1 → (id < below) ⊎ (id ≡ below)
    last id within = go (cases_lt id below)
      where
        go : (id < below) ⊎ (below ≤ id) → (id < below) ⊎ (id ≡ below)
        go (inl before) = inl before
        go (inr after) = inr (omega (arith, after, within))

    at : (id : ℕ) → (id < below) ⊎ (id ≡ below) → id ≢ host_id
        → slice_index_or (slice_set new.routes below 255) id 255 ≡ 255
    at id (inl before) other =
        entry-set_other new.routes below id 255 (λ same. absurd (omega (arith, same, before)))
        ∙ cleared.cleared id before other
    at id (inr here) other =
        subst (λ n. slice_index_or (slice_set new.routes below 255) n 255 ≡ 255) (sym here)
        (entry-set_same new.routes below 255 fits)

pub cleared-past : (host_id below : ℕ) (old new : Registers) → below ≡ host_id
    → IsCleared host_id below old new → IsCleared host_id (below + 1) old new
cleared-past host_id below old new is cleared = record {
  same = cleared.same;
  default = cleared.default;
  destinations = cleared.destinations;
  cleared = λ id within other. cleared.cleared id
      (before id within (λ same. other (same ∙ is))) other;
  kept = λ id most. cleared.kept id (omega (arith, most));
}
  where
    before : (id : ℕ) → id < below + 1 → id ≢ below → id < below
    before id within other = omega (arith, within, other)

pub is_switch-kind : (one other : Registers) → one.kind ≡ other.kind
    → is_switch one ≡ is_switch other
is_switch-kind one other same = ap (λ k. is_switch (record one { kind = k })) same

-- every device has 1,024 destinations
pub destinations_of : {topology : Topology} {registers : AllRegisters} (path : List ℕ)
    {at : PortRef} → IsTopology topology → Fits topology registers
    → entered topology path ≡ Some at → length (registers at.node).routes ≡ 1024
destinations_of {topology} {registers} path {at} proper fits enters =
    (fits.devices at.node (entered-inside topology path at proper enters)).destinations

-- the device at the end of a path has no entries of its own below a number
abbrev pub HasCleared : Topology → AllRegisters → AllRegisters → ℕ → List ℕ → ℕ → Type 0
HasCleared topology old new host_id path below = (at : PortRef)
    → entered topology path ≡ Some at
    → (held : Registers) × Becomes old new at.node held
    × IsCleared host_id below (old at.node) held

pub has_cleared-none : (topology : Topology) (registers : AllRegisters) (host_id : ℕ)
    (path : List ℕ) → HasCleared topology registers registers host_id path 0
has_cleared-none topology registers host_id path at enters = (
  registers at.node,
  λ other. sym (ap (λ r. r other) (with_device-itself registers at.node)),
  cleared-none host_id (registers at.node),
)

pub has_cleared-next : (topology now : Topology) (old mid new : AllRegisters) (host_id : ℕ)
    (path : List ℕ) (below : ℕ) → IsTopology topology → Fits topology old → now ≡ topology
    → below < 63 → HasCleared topology old mid host_id path below
    → ((at : PortRef) → entered now path ≡ Some at
    → Becomes mid new at.node (with_entry (mid at.node) below 255))
    → HasCleared topology old new host_id path (below + 1)
has_cleared-next topology now old mid new host_id path below proper fits is_now less cleared set at
    enters =
    let found = cleared at enters in
    let there = became old mid at.node found.0 found.1 in (
      with_entry found.0 below 255,
      becomes-twice old mid new at.node found.0 (with_entry found.0 below 255) found.1
          (subst (λ d. Becomes mid new at.node (with_entry d below 255)) there
          (set at (ap (λ t. entered t path) is_now ∙ enters))),
      cleared-next host_id below (old at.node) found.0
          (destinations_of path proper fits enters) less found.2,
    )

-- the switch can still be asked
pub cleared_askable : {topology now : Topology} {old : AllRegisters} (new : AllRegisters)
    {host_id : ℕ} (below : ℕ) {path : List ℕ} {at : PortRef} → now ≡ topology
    → IsAskable topology old host_id path at → IsApart topology path at.node
    → is_switch (old at.node) ≡ true → HasCleared topology old new host_id path below
    → IsAskable now new host_id path at × IsApart now path at.node
    × (is_switch (new at.node) ≡ true)
cleared_askable {topology} {now} {old} new {host_id} below {path}
    {at} is_now askable apart is cleared =
    let found = cleared at askable.leads in (
      subst (λ t. IsAskable t new host_id path at) (sym is_now)
          (askable-written new found.0 askable found.1 apart
          (λ _. ap (λ (d : Registers). d.base_id) found.2.same.rest)),
      subst (λ t. IsApart t path at.node) (sym is_now) apart,
      ap is_switch (became old new at.node found.0 found.1)
          ∙ (is_switch-kind found.0 (old at.node) (ap (λ (d : Registers). d.kind) found.2.same.rest)
          ∙ is),
    )
