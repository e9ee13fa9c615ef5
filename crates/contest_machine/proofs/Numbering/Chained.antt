-- After a port was tried a walker is on its way before the next one, or back behind the switch.
use Rattle.contest_machine.proofs.Prelude.{◌≡◌, ◌≢◌, ℕ, ◌+◌, ◌≤◌, nat_lt, Bool, true, false, eqb, List, [], ◌∷◌, Some, None, Contains, arith, subst, sym, refl, ap, ◌∙◌, if◌then◌else◌, eqb-true, ltb-false, PortRef, port_at, Device, Topology, entered, onward, after_all_paths, AllRegisters, paths_of, closes, onward_is_followed, IsUnderway, met-tagged, followed-ports, underway-bound, underway-entry, underway-past, underway-unlinked, Tried, Status, Walker, port_after, gone_on}
use Rattle.contest_machine.proofs.Numbering.OnWay.{bound_at}

-- a switch whose ports are tried
pub record IsFrame (view : Topology) (devices : List Device) (top : Tried) : Type 0 where
  pub at : PortRef
  pub leads : entered view top.path ≡ Some at
  pub switch : view.switch_ports at.node ≡ Some top.ports
  pub entry : top.entry ≡ at.port
  pub other : at.node ≢ view.host
  pub listed : Contains (paths_of devices) top.path
  pub front : List ℕ
  pub by : ℕ
  pub whole : top.path ≡ onward front by

-- it is behind the port that is tried of the one before it, and the last of them behind the host
abbrev pub IsBehind : Tried → List Tried → Type 0
IsBehind top [] = top.path ≡ onward [] 0
IsBehind top (second ∷ rest) = top.path ≡ onward second.path second.port

abbrev pub AreChained : Topology → List Device → List Tried → Type 0
AreChained view devices [] = Unit {0}
AreChained view devices (top ∷ rest) =
    IsFrame view devices top × IsBehind top rest × AreChained view devices rest

-- the path that is next once the port that is tried is done
abbrev pub past_top : List Tried → List ℕ
past_top [] = after_all_paths
past_top (top ∷ rest) = onward top.path (top.port + 1)

module _ (view : Topology) (before seen : AllRegisters) (id next : ℕ) (devices : List Device) where
  abbrev On : List ℕ → Type 0
  On bound = IsUnderway view before seen id devices next bound

  -- the port of entry is left out
  pub skipped : (top : Tried) → IsFrame view devices top → On (onward top.path (top.port + 1))
      → On (onward top.path (port_after top.entry top.port))
  skipped top frame on = go (eqb (top.port + 1) top.entry) refl
    where
      go : (b : Bool) → eqb (top.port + 1) top.entry ≡ b
          → On (onward top.path (if b then top.port + 2 else top.port + 1))
      go false is = on
      go true is =
          let same : top.port + 1 ≡ frame.at.port =
          eqb-true (top.port + 1) top.entry is ∙ frame.entry in
          let two : frame.at.port + 1 ≡ top.port + 2 = omega (arith, same) in
          subst (λ l. On (onward l (top.port + 2))) (sym frame.whole)
          (subst (λ n. On (onward (onward frame.front frame.by) n)) two
          (underway-entry view before seen id next devices frame.front frame.at frame.by
          (subst (λ n. On (onward (onward frame.front frame.by) n)) same
          (subst (λ l. On (onward l (top.port + 1))) frame.whole on))
          (subst (λ l. Contains (paths_of devices) l) frame.whole frame.listed)
          (ap (λ l. entered view l) (sym frame.whole) ∙ frame.leads)))

  -- all ports are tried
  pub closed : (top : Tried) (rest : List Tried) (n : ℕ) → IsFrame view devices top
      → IsBehind top rest → top.ports ≤ n → On (onward top.path n) → On (past_top rest)
  closed top rest n frame behind most on = go rest behind
    where
      back : (q : List ℕ) (x : ℕ) → top.path ≡ onward q x → On (onward q (x + 1))
      back q x same =
          let there = subst (λ l. On (onward l n)) same on in
          underway-bound view before seen id next devices (onward (onward q x) n)
          (onward q (x + 1)) there
          (closes view (paths_of devices) q x n there.walked
          (λ y leads.
          let below = onward_is_followed view (onward q x) frame.at y
          (ap (λ l. entered view l) (sym same) ∙ frame.leads) leads in
          let all = followed-ports view frame.at.node top.ports frame.other frame.switch in
          omega (arith, below, all, most)))

      go : (rest : List Tried) → IsBehind top rest → On (past_top rest)
      go [] same = back [] 0 same
      go (second ∷ more) same = back second.path second.port same

  -- A walker goes on.
  pub gone_on_underway : (w : Walker) (tried : List Tried) → AreChained view devices tried
      → On (past_top tried)
      → On (bound_at (gone_on w tried) (gone_on w tried).stage)
  gone_on_underway w [] chained on = on
  gone_on_underway w (top ∷ rest) chained on =
      let further = skipped top chained.0 on in
      go (nat_lt (port_after top.entry top.port) top.ports) refl further
      (λ closed. gone_on_underway w rest chained.2 closed)
    where
      go : (b : Bool) → nat_lt (port_after top.entry top.port) top.ports ≡ b
          → On (onward top.path (port_after top.entry top.port))
          → (On (past_top rest) → On (bound_at (gone_on w rest) (gone_on w rest).stage))
          → On (bound_at (if b then record w {
            tried = record top { port = port_after top.entry top.port } ∷ rest;
            stage = Status;
          }
          else gone_on w rest) (if b then record w {
            tried = record top { port = port_after top.entry top.port } ∷ rest;
            stage = Status;
          }
          else gone_on w rest).stage)
      go true is further on_rest = further
      go false is further on_rest =
          on_rest (closed top rest (port_after top.entry top.port) chained.0 chained.1
          (ltb-false (port_after top.entry top.port) top.ports is) further)

  -- a port without a link, of the switch whose ports are tried last
  pub unlinked_past : (top : Tried) (rest : List Tried) → IsFrame view devices top
      → On (onward top.path top.port)
      → ((at : PortRef) → entered view top.path ≡ Some at
      → view.peer (port_at at.node top.port) ≡ None)
      → On (past_top (top ∷ rest))
  unlinked_past top rest frame on none =
      underway-unlinked view before seen id next devices top.path frame.at top.port on frame.listed
      frame.leads (none frame.at frame.leads)

  -- a device that was met before
  pub met_past : (top : Tried) (rest : List Tried) (at : PortRef) → IsFrame view devices top
      → On (onward top.path top.port) → entered view (onward top.path top.port) ≡ Some at
      → (seen at.node).lock ≡ id → (seen at.node).tag ≢ 0 → On (past_top (top ∷ rest))
  met_past top rest at frame on enters own tagged =
      underway-past view before seen id next devices top.path top.port on frame.listed
      (λ leads. met-tagged view before seen id next devices (onward top.path top.port) on at enters
      own tagged)
