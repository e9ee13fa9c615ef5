-- An access along an open path is answered, and leaves it open.
use Rattle.contest_machine.proofs.Prelude.{◌≡◌, ◌≢◌, ℕ, ◌-◌, ◌≤◌, List, [], ◌∷◌, ◌++◌, length, Some, Contains, arith, inr, inl, ◌⊎◌, subst, sym, refl, ap, ◌∙◌, length-append, PortRef, port_at, Device, Topology, IsTopology, entered, node_at, Walked, AllRegisters, walk, paths_of, IsOpened, device_on, node_at-entered, Contains-cases, request_ends, answer_returns, Access, Write, after_access, answered, IsAnswered, IsUnmet, with_device-other}
use Rattle.fabric_map.proofs.Fronts.{front_listed}
use Rattle.contest_machine.proofs.Numbering.Leading.{opened-stays}

-- the switches that a path passes are in the list
abbrev pub PassesListed : Topology → List Device → List ℕ → Type 0
PassesListed view devices path = (first : ℕ) (front rest : List ℕ) (port : ℕ) (end : PortRef)
    → path ≡ first ∷ front ++ port ∷ rest → entered view (first ∷ front) ≡ Some end
    → Contains (paths_of devices) (first ∷ front)

-- and are other devices than this one
abbrev pub PassesOthers : Topology → List ℕ → ℕ → Type 0
PassesOthers view path node = (first : ℕ) (front rest : List ℕ) (port : ℕ) (end : PortRef)
    → path ≡ first ∷ front ++ port ∷ rest → entered view (first ∷ front) ≡ Some end
    → end.node ≢ node

module _ (view : Topology) (now : AllRegisters) (id : ℕ) (path : List ℕ) (at : PortRef) where
  pub carried : (access : Access) → IsTopology view → (now view.host).base_id ≡ id
      → IsOpened view now id path → IsOpened view (after_access now at access) id path
      → entered view path ≡ Some at → at.node ≢ view.host → path ≢ [] → length path ≤ 64
      → IsAnswered view now 255 (length path - 1) access at
  carried access proper base opened later leads other some short = go path refl
    where
      go : (p : List ℕ) → path ≡ p → IsAnswered view now 255 (length path - 1) access at
      go [] is = absurd (some is)
      go (first ∷ rest) is = record {
        ends =
            let hops : length rest ≡ length path - 1 =
            omega (arith, ap (λ (l : List ℕ). length l) is) in
            subst (λ n. walk view now 255 n (port_at view.host 0) ≡ Some at) hops
            (request_ends view now id first rest at proper (subst (IsOpened view now id) is opened)
            (ap (λ l. entered view l) (sym is) ∙ leads));
        not_host = other;
        returns =
            let long = ap (λ (l : List ℕ). length l) is in
            subst (λ n. walk view (after_access now at access) n 255 at
            ≡ Some (port_at view.host 0)) (sym base)
            (answer_returns view (after_access now at access) id first rest at 255 proper
            (subst (IsOpened view (after_access now at access) id) is later)
            (ap (λ l. entered view l) (sym is) ∙ leads) (omega (arith, long, short)));
      }

  pub open_after_write : (offset value : ℕ) → PassesOthers view path at.node
      → IsOpened view now id path
      → IsOpened view (after_access now at (Write offset value)) id path
  open_after_write offset value others opened =
      opened-stays view now (after_access now at (Write offset value)) id path
      (λ first front rest port end is enters.
      with_device-other now at.node end.node
      (answered (now at.node) at.port (Write offset value)).device
      (others first front rest port end is enters)) opened

-- all that one path has
pub only : (path other : List ℕ) → Contains (path ∷ []) other → path ≡ other
only path other found = go (Contains-cases path [] other found)
  where
    go : (path ≡ other) ⊎ Contains [] other → path ≡ other
    go (inl same) = same
    go (inr none) = absurd (omega (arith, none.1))

pub not_longer : (front : List ℕ) (port : ℕ) (rest : List ℕ) → ¬ (front ++ port ∷ rest ≡ front)
not_longer front port rest same =
    let long = ap (λ (l : List ℕ). length l) (sym same) ∙ length-append front (port ∷ rest) in
    omega (arith, long)

module _ (view : Topology) (devices : List Device) (bound path : List ℕ) (at : PortRef)
    (walked : Walked view (paths_of devices) bound) where
  -- a path of the list
  pub listed_passes : Contains (paths_of devices) path → PassesListed view devices path
  listed_passes listed first front rest port end is enters =
      front_listed view (paths_of devices) bound (first ∷ front) (length (port ∷ rest))
      (port ∷ rest) refl walked (subst (Contains (paths_of devices)) is listed)

  pub listed_others : Contains (paths_of devices) path → entered view path ≡ Some at
      → PassesOthers view path at.node
  listed_others listed leads first front rest port end is enters same =
      not_longer (first ∷ front) port rest
      (sym is ∙ walked.once path (first ∷ front) listed
      (listed_passes listed first front rest port end is enters)
      (node_at-entered view path at leads
      ∙ (ap (λ n. Some n) (sym same) ∙ sym (node_at-entered view (first ∷ front) end enters))))

  -- a path to a device that is not in the list
  pub unmet_others : PassesListed view devices path → IsUnmet view devices at.node
      → PassesOthers view path at.node
  unmet_others passes unmet first front rest port end is enters same =
      let found = device_on devices (first ∷ front) (passes first front rest port end is enters) in
      unmet found.0 found.1
      (ap (λ l. node_at view l) found.2
      ∙ (node_at-entered view (first ∷ front) end enters ∙ ap (λ n. Some n) same))
