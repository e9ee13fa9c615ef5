-- Which ways are open to a walker, and what writes leave of them.
use Rattle.contest_machine.proofs.Prelude.{◌≡◌, ◌≢◌, ℕ, List, [], ◌∷◌, ◌++◌, Option, Some, None, Contains, ◌⊎◌, inl, inr, subst, sym, refl, ap, ◌∙◌, append_assoc, unwrap_or, cases_eq, PortRef, Registers, next_port, lock-written, tag-written, Topology, entered, AllRegisters, Fits, paths_of, IsOpened, node_at-entered, Write, after_access, answered, registers_with, opened-empty, opened-first, never_empty, never_single, with_device-at, with_device-other, opened-front, PendingWrite, AreOwnWrites}
use Rattle.fabric_map.specs.declared.map.Device as map
use Rattle.contest_machine.proofs.Keeping.Lists.{Leads}
use Rattle.contest_machine.proofs.Numbering.OnWay.{one_performed, performed}
use Rattle.contest_machine.proofs.Numbering.Leading.{opened-stays}
use Rattle.contest_machine.proofs.Numbering.Performing.{performed-agree}
use Rattle.contest_machine.proofs.Numbering.Settling.{AreAt}
use Rattle.contest_machine.proofs.Numbering.Sound.{fits_after}
use Rattle.contest_machine.proofs.Asking.Answering.{PassesListed, PassesOthers, open_after_write}

-- The way is open, and passes only switches of the list.
pub record IsWay (view : Topology) (devices : List map.Device) (id : ℕ) (now : AllRegisters)
    (path : List ℕ) : Type 0 where
  pub opened : IsOpened view now id path
  pub passes : PassesListed view devices path

-- each write that is left finds its way open, once those before it are made
abbrev pub AreOpen : Topology → List map.Device → ℕ → AllRegisters → List PendingWrite → Type 0
AreOpen view devices id now [] = Unit {0}
AreOpen view devices id now (p ∷ rest) =
    IsWay view devices id now p.path
    × AreOpen view devices id (one_performed now p (entered view p.path)) rest

-- these registers send packets for 255 and for the host as those do
abbrev pub SendAs : ℕ → AllRegisters → AllRegisters → Type 0
SendAs id old new = (node : ℕ) → (next_port (new node) 255 ≡ next_port (old node) 255)
    × (next_port (new node) id ≡ next_port (old node) id)

pub sends_itself : (id : ℕ) (now : AllRegisters) → SendAs id now now
sends_itself id now node = (refl, refl)

module _ (view : Topology) (id : ℕ) where
  pub way-empty : (devices : List map.Device) (now : AllRegisters) → IsWay view devices id now []
  way-empty devices now = record {
    opened = opened-empty view now id;
    passes = λ first front rest port end is enters. absurd
        (never_empty first (front ++ port ∷ rest) is);
  }

  pub way-single : (devices : List map.Device) (now : AllRegisters) (x : ℕ)
      → IsWay view devices id now (x ∷ [])
  way-single devices now x = record {
    opened = opened-first view now id x;
    passes = λ first front rest port end is enters. absurd
        (never_single x first front rest port is);
  }

  -- a front of an open way
  pub way-front : (devices : List map.Device) (now : AllRegisters) (front rest : List ℕ)
      → IsWay view devices id now (front ++ rest) → IsWay view devices id now front
  way-front devices now front rest way = record {
    opened = opened-front view now id front rest way.opened;
    passes = λ first before later port end is enters.
        way.passes first before (later ++ rest) port end
        (ap (λ l. l ++ rest) is
        ∙ ap (λ l. first ∷ l) (append_assoc before (port ∷ later) rest)) enters;
  }

  pub way-more : (devices more : List map.Device) (now : AllRegisters) (path : List ℕ)
      → ((one : List ℕ) → Contains (paths_of devices) one → Contains (paths_of more) one)
      → IsWay view devices id now path → IsWay view more id now path
  way-more devices more now path on way = record {
    opened = way.opened;
    passes = λ first front rest port end is enters.
        on (first ∷ front) (way.passes first front rest port end is enters);
  }

  -- devices of the list stay
  pub way-stays : (devices : List map.Device) (old new : AllRegisters) (path : List ℕ)
      → ((node : ℕ) → Leads view (paths_of devices) node → new node ≡ old node)
      → IsWay view devices id old path → IsWay view devices id new path
  way-stays devices old new path same way = record {
    opened = opened-stays view old new id path
        (λ first front rest port end is enters. same end.node (
          first ∷ front,
          way.passes first front rest port end is enters,
          node_at-entered view (first ∷ front) end enters,
        )) way.opened;
    passes = way.passes;
  }

  pub way-sends : (devices : List map.Device) (old new : AllRegisters) (path : List ℕ)
      → SendAs id old new → IsWay view devices id old path → IsWay view devices id new path
  way-sends devices old new path sends way = record {
    opened = record {
      onwards = λ first front rest port end is enters.
          (sends end.node).0 ∙ way.opened.onwards first front rest port end is enters;
      home = λ first front rest port end is enters.
          (sends end.node).1 ∙ way.opened.home first front rest port end is enters;
      not_host = way.opened.not_host;
    };
    passes = way.passes;
  }

  pub open-append : (devices : List map.Device) (now : AllRegisters)
      (first second : List PendingWrite)
      → AreOpen view devices id now first
      → AreOpen view devices id (performed view now first) second
      → AreOpen view devices id now (first ++ second)
  open-append devices now [] second one two = two
  open-append devices now (p ∷ rest) second one two = (
    one.0,
    open-append devices (one_performed now p (entered view p.path)) rest second one.1 two,
  )

  pub open-more : (devices more : List map.Device) (now : AllRegisters) (todo : List PendingWrite)
      → ((one : List ℕ) → Contains (paths_of devices) one → Contains (paths_of more) one)
      → AreOpen view devices id now todo → AreOpen view more id now todo
  open-more devices more now [] on open_now = tt
  open-more devices more now (p ∷ rest) on open_now = (
    way-more devices more now p.path on open_now.0,
    open-more devices more (one_performed now p (entered view p.path)) rest on open_now.1,
  )

  -- what is kept stays
  pub open-stays : (devices : List map.Device) (paths : List (List ℕ)) (old new : AllRegisters)
      (todo : List PendingWrite) → AreOwnWrites paths todo
      → ((one : List ℕ) → Contains (paths_of devices) one → Contains paths one)
      → ((node : ℕ) → Leads view paths node → new node ≡ old node)
      → AreOpen view devices id old todo → AreOpen view devices id new todo
  open-stays devices paths old new [] own on same open_old = tt
  open-stays devices paths old new (p ∷ rest) own on same open_old = (
    way-stays devices old new p.path
        (λ node leads. same node (leads.0, on leads.0 leads.1, leads.2)) open_old.0,
    open-stays devices paths (one_performed old p (entered view p.path))
        (one_performed new p (entered view p.path)) rest own.1 on
        (λ node leads. performed-agree view paths (p ∷ []) old new (own.0, tt) same node
        (same node leads)) open_old.1,
  )

  -- writes to the device on an open path, which it does not pass
  pub at_one : (devices : List map.Device) (path : List ℕ) (at : PortRef) (todo : List PendingWrite)
      (now : AllRegisters) → entered view path ≡ Some at → AreAt path todo
      → PassesOthers view path at.node → IsWay view devices id now path
      → AreOpen view devices id now todo
      × IsWay view devices id (performed view now todo) path
  at_one devices path at [] now enters are others way = (tt, way)
  at_one devices path at (p ∷ rest) now enters are others way =
      let there : entered view p.path ≡ Some at = ap (λ l. entered view l) are.0 ∙ enters in
      let on = at_one devices path at rest (after_access now at (Write p.offset p.value)) enters
      are.1 others (record {
        opened = open_after_write view now id path at p.offset p.value others way.opened;
        passes = way.passes;
      }) in (
        (
          subst (IsWay view devices id now) (sym are.0) way,
          subst (λ o. AreOpen view devices id (one_performed now p o) rest) (sym there) on.0,
        ),
        subst (λ o. IsWay view devices id (performed view (one_performed now p o) rest) path)
            (sym there) on.1,
      )

  -- one device becomes another that sends as it did
  pub one_sends : (now : AllRegisters) (node : ℕ) (held : Registers)
      → next_port held 255 ≡ next_port (now node) 255 → next_port held id ≡ next_port (now node) id
      → SendAs id now (registers_with now node held)
  one_sends now node held onwards home other = go (cases_eq other node)
    where
      go : (other ≡ node) ⊎ (other ≢ node)
          → (next_port (registers_with now node held other) 255 ≡ next_port (now other) 255)
          × (next_port (registers_with now node held other) id ≡ next_port (now other) id)
      go (inl same) =
          subst (λ n. (next_port (registers_with now node held n) 255 ≡ next_port (now n) 255)
          × (next_port (registers_with now node held n) id ≡ next_port (now n) id)) (sym same) (
            ap (λ d. next_port d 255) (with_device-at now node held) ∙ onwards,
            ap (λ d. next_port d id) (with_device-at now node held) ∙ home,
          )
      go (inr apart) = (
        ap (λ d. next_port d 255) (with_device-other now node other held apart),
        ap (λ d. next_port d id) (with_device-other now node other held apart),
      )

  -- a lock or a tag that is written
  pub lock_sends : (now : AllRegisters) (at : PortRef) (value : ℕ)
      → SendAs id now (after_access now at (Write 0x68 value))
  lock_sends now at value =
      let written = ap (λ o. unwrap_or o (now at.node))
      (lock-written (now at.node) value) in
      one_sends now at.node (answered (now at.node) at.port (Write 0x68 value)).device
      (ap (λ d. next_port d 255) written) (ap (λ d. next_port d id) written)

  pub tag_sends : (now : AllRegisters) (at : PortRef) (value : ℕ)
      → SendAs id now (after_access now at (Write 0x6c value))
  tag_sends now at value =
      let written = ap (λ o. unwrap_or o (now at.node))
      (tag-written (now at.node) value) in
      one_sends now at.node (answered (now at.node) at.port (Write 0x6c value)).device
      (ap (λ d. next_port d 255) written) (ap (λ d. next_port d id) written)

-- what shows the fabric still does after the writes that are left
pub performed_fits : (view : Topology) (now : AllRegisters) (todo : List PendingWrite)
    → Fits view now
    → Fits view (performed view now todo)
performed_fits view now [] shown = shown
performed_fits view now (p ∷ rest) shown =
    performed_fits view (one_performed now p (entered view p.path)) rest
    (go (entered view p.path))
  where
    go : (o : Option PortRef) → Fits view (one_performed now p o)
    go None = shown
    go (Some at) = fits_after view now at (Write p.offset p.value) shown
