-- An access along a path that is open is answered, and leaves open what it does not touch.
use Rattle.host_enumerate.proofs.Prelude.{◌⊎◌, inl, inr, ◌≡◌, ◌≢◌, ℕ, ◌-◌, ◌==◌, Bool, true, false, List, [], ◌∷◌, ◌++◌, length, Some, arith, refl, sym, ap, subst, ◌∙◌, if◌then◌else◌, eqb-true, cases_eq, same_Some, PortRef, port_at, Registers, next_port, Topology, IsTopology, entered, AllRegisters, walk, IsOpened, request_ends, answer_returns, Access, Read, Write, after_access, answered, IsAnswered, IsAskable, IsOpenAfter, IsApart, IsWritable, AreSame, Becomes}
use Rattle.host_enumerate.proofs.Frames.{with_device-at, with_device-other}

pub became : (old new : AllRegisters) (node : ℕ) (held : Registers) → Becomes old new node held
    → new node ≡ held
became old new node held becomes = becomes node ∙ with_device-at old node held

pub stays : (old new : AllRegisters) (node other : ℕ) (held : Registers) → Becomes old new node held
    → other ≢ node → new other ≡ old other
stays old new node other held becomes apart =
    becomes other ∙ with_device-other old node other held apart

-- the host keeps its ID if it is not written
pub base_id_stays : (topology : Topology) (old new : AllRegisters) (node : ℕ) (held : Registers)
    → Becomes old new node held → (topology.host ≡ node → held.base_id ≡ (old node).base_id)
    → (new topology.host).base_id ≡ (old topology.host).base_id
base_id_stays topology old new node held becomes keeps = go (cases_eq topology.host node)
  where
    go : (topology.host ≡ node) ⊎ (topology.host ≢ node)
        → (new topology.host).base_id ≡ (old topology.host).base_id
    go (inl same) =
        subst (λ n. (new n).base_id ≡ (old n).base_id) (sym same)
        (ap (λ (d : Registers). d.base_id) (became old new node held becomes) ∙ keeps same)
    go (inr apart) =
        ap (λ (d : Registers). d.base_id) (stays old new node topology.host held becomes apart)

-- what each switch on the way sends by
unfoldable pub SendsAs : Topology → AllRegisters → AllRegisters → ℕ → List ℕ → Type 0
SendsAs topology old new host_id path =
    (first : ℕ) (front rest : List ℕ) (port : ℕ) (at : PortRef)
    → path ≡ first ∷ front ++ port ∷ rest → entered topology (first ∷ front) ≡ Some at
    → (next_port (new at.node) 255 ≡ next_port (old at.node) 255)
    × (next_port (new at.node) host_id ≡ next_port (old at.node) host_id)

pub opened-as : {topology : Topology} {old : AllRegisters} (new : AllRegisters) {host_id : ℕ}
    {path : List ℕ}
    → IsOpened topology old host_id path → SendsAs topology old new host_id path
    → IsOpened topology new host_id path
unfolding SendsAs
opened-as {topology} {old} new {host_id} {path} opened sends = record {
  onwards = λ first front rest port at is enters.
      (sends first front rest port at is enters).0
      ∙ opened.onwards first front rest port at is enters;
  home = λ first front rest port at is enters.
      (sends first front rest port at is enters).1
      ∙ opened.home first front rest port at is enters;
  not_host = opened.not_host;
}

pub opened-same : {topology : Topology} {old : AllRegisters} (new : AllRegisters) {host_id : ℕ}
    {path : List ℕ}
    → IsOpened topology old host_id path → AreSame old new → IsOpened topology new host_id path
unfolding SendsAs
opened-same {topology} {old} new {host_id} {path} opened same = opened-as new
    opened (λ first front rest port at is enters. (
      ap (λ d. next_port d 255) (same at.node),
      ap (λ d. next_port d host_id) (same at.node),
    ))

pub opened-apart : {topology : Topology} {old : AllRegisters} (new : AllRegisters) {host_id : ℕ}
    (node : ℕ) (held : Registers)
    {path : List ℕ} → IsOpened topology old host_id path → Becomes old new node held
    → IsApart topology path node → IsOpened topology new host_id path
unfolding SendsAs
opened-apart {topology} {old} new {host_id} node held {path} opened becomes apart =
    opened-as new opened (λ first front rest port at is enters.
    let same = stays old new node at.node held becomes
    (apart first front rest port at is enters) in (
      ap (λ d. next_port d 255) same,
      ap (λ d. next_port d host_id) same,
    ))

-- the host has the empty path alone
pub at_host : (topology : Topology) (path : List ℕ) (at : PortRef) → length path ≡ 0
    → entered topology path ≡ Some at → port_at topology.host 0 ≡ at
at_host topology [] at none enters = same_Some (port_at topology.host 0) at enters
at_host topology (x ∷ path) at none enters = absurd (omega (arith, none))

pub answerable : {topology : Topology} {registers : AllRegisters} {host_id : ℕ} (path : List ℕ)
    {at : PortRef} (access : Access) → IsTopology topology
    → IsAskable topology registers host_id path at
    → IsOpenAfter topology registers host_id path at access → length path ≢ 0
    → IsAnswered topology registers 255 (length path - 1) access at
answerable [] access proper askable open_after some = absurd (some refl)
answerable {topology} {registers} {host_id} (first ∷ rest) {at} access proper askable open_after
    some =
    record {
      ends = subst (λ n. walk topology registers 255 n (port_at topology.host 0) ≡ Some at)
          shorter (request_ends topology registers host_id first rest at proper askable.opened
          askable.leads);
      not_host = λ is. absurd (none (askable.not_host is));
      returns = subst (λ id. walk topology (after_access registers at access) id 255 at
          ≡ Some (port_at topology.host 0)) (sym askable.id)
          (answer_returns topology (after_access registers at access) host_id first rest at 255
          proper open_after askable.leads (omega (arith, askable.short)));
    }
  where
    shorter : length rest ≡ length (first ∷ rest) - 1
    shorter = omega arith

    none : (first ∷ rest) ≡ [] → ⊥
    none same = absurd (cc)

-- a path enters its last device by one port
pub same_end : (topology : Topology) (path : List ℕ) (p q : PortRef)
    → entered topology path ≡ Some p → entered topology path ≡ Some q → p ≡ q
same_end topology path p q one other = same_Some p q (sym one ∙ other)

-- a read leaves all registers
pub same_after_read : (old new : AllRegisters) (at : PortRef) (offset : ℕ)
    → Becomes old new at.node (answered (old at.node) at.port (Read offset)).device
    → AreSame old new
same_after_read old new at offset becomes node = becomes node ∙ go (node == at.node) refl
  where
    go : (is : Bool) → (node == at.node) ≡ is
        → (if is then (answered (old at.node) at.port (Read offset)).device else old node)
        ≡ old node
    go true is = ap old (sym (eqb-true node at.node is))
    go false is = refl

pub open_after_read : (topology : Topology) (registers : AllRegisters) (host_id : ℕ) (path : List ℕ)
    (at : PortRef) (offset : ℕ) → IsOpened topology registers host_id path
    → IsOpenAfter topology registers host_id path at (Read offset)
open_after_read topology registers host_id path at offset opened =
    opened-same (after_access registers at (Read offset)) opened
    (same_after_read registers (after_access registers at (Read offset)) at offset (λ other. refl))

pub open_after_write : {topology : Topology} {registers : AllRegisters} {host_id : ℕ}
    {path : List ℕ} {at : PortRef} {offset value : ℕ} {held : Registers}
    → IsOpened topology registers host_id path
    → IsWritable topology registers path at offset value held
    → IsOpenAfter topology registers host_id path at (Write offset value)
open_after_write {topology} {registers} {host_id} {path} {at} {offset} {value} {held} opened
    writable =
    opened-apart (after_access registers at (Write offset value)) at.node
    (answered (registers at.node) at.port (Write offset value)).device opened (λ other. refl)
    writable.apart
