-- A path that is tried does not lead back to the host.
use Rattle.contest_machine.proofs.Prelude.{◌≡◌, ◌≢◌, ℕ, List, [], ◌∷◌, Some, sym, ap, ◌∙◌, All-contains, PortRef, Device, Topology, IsTopology, entered, Before, Walked, paths_of, not_before_empty, not_host-next, not_host-first, Tried}
use Rattle.contest_machine.proofs.Numbering.Along.{IsHere}
use Rattle.contest_machine.proofs.Numbering.Chained.{AreChained}
use Rattle.contest_machine.proofs.Asking.Guided.{AreOut}

before_some : (path bound : List ℕ) → Before path bound → Before [] bound
before_some path [] earlier = absurd (not_before_empty path earlier)
before_some path (y ∷ bound) earlier = tt

module _ (view : Topology) (proper : IsTopology view) (devices : List Device) (bound : List ℕ)
    (walked : Walked view (paths_of devices) bound) where
  pub not_back : (path : List ℕ) (tried : List Tried) (end : PortRef)
      → AreChained view devices tried → AreOut tried → IsHere path tried
      → entered view path ≡ Some end → end.node ≢ view.host
  not_back path [] end chained out here ends =
      not_host-first view end proper (ap (λ l. entered view l) (sym here) ∙ ends)
  not_back path (top ∷ rest) end chained out here ends =
      let frame = chained.0 in
      not_host-next view (paths_of devices) bound walked top.path frame.at end top.port proper
      (before_some top.path bound
      (All-contains (λ l. Before l bound) (paths_of devices) top.path walked.before frame.listed))
      frame.listed frame.leads (λ some same. out.0 (same ∙ sym frame.entry))
      (ap (λ l. entered view l) (sym here) ∙ ends)
