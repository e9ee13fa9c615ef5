-- An ask whose two walks end where they should is answered.
use Rattle.fabric_ask.proofs.Prelude.{◌≡◌, ◌≢◌, ℕ, ◌<◌, Bool, true, false, List, [], ◌∷◌, ◌++◌, Option, Some, None, refl, sym, ap, ◌∙◌, subst, inl, inr, ◌⊎◌, AllByRecursion, LinkForm, IsWithin, Request, request_of, request_body, Edit, PortRef, walk, port_is, same_port-refl, port_of, same_port, Leave, AtNode, seen, Seen, TraceLine, Stepped, IsGood, IsClear, IsLaid, IsAsk, topology_of, registers_of, after_request, IsRoundTrip, IsReplied, CollectsNothing}
use Rattle.fabric_ask.proofs.Uncollected.{nothing_leaves}
use Rattle.fabric_ask.proofs.AskEnds.{ends_nowhere, comes_back, not_returning, replied}

module _ (host : ℕ) (request : Request) (noise : List Edit) (s : Seen) (lines : List TraceLine)
    (good : IsGood s) (none : s.undetected ≡ None) (clear : IsClear s.network)
    (laid : IsLaid s.network.registers s.network.links host)
    (within : AllByRecursion IsWithin s.network.registers) (low : request.hop < 256)
    (reads : (packet : List ℕ) → LinkForm (request_body request) packet
    → request_of packet ≡ Some request)
    (ask : IsAsk host request noise s lines) (still : (seen s lines).undetected ≡ None) where
  abbrev way_there : Option PortRef
  way_there = walk (topology_of s.network.registers s.network.links host)
      (registers_of s.network.registers) request.dest request.hop (port_of host)

  abbrev way_back : PortRef → Option PortRef
  way_back at = walk
      (topology_of (after_request s.network.registers at request) s.network.links host)
      (registers_of (after_request s.network.registers at request)) request.source 255 at

  -- An ask that goes to a device and back is replied to.
  pub is_replied : (at : PortRef)
      → IsRoundTrip s.network.registers s.network.links host request at
      → IsReplied host s lines at request
  is_replied at trip =
      replied host request noise s lines good none clear laid within low reads ask still at
      trip.ends trip.away trip.returns

  -- If a packet leaves at the host in the end, the ask goes to a device and back.
  pub goes_there : (front : List TraceLine) (p : List ℕ)
      → lines ≡ front ++ Stepped (AtNode (Leave host p)) ∷ []
      → (at : PortRef) × IsRoundTrip s.network.registers s.network.links host request at
  goes_there front p whole = by_walk way_there refl
    where
      none_leaves : CollectsNothing host lines → ⊥
      none_leaves nothing = nothing_leaves host front p (subst (CollectsNothing host) whole nothing)

      same_or : (o : Option PortRef) (x : PortRef) → (o ≡ Some x) ⊎ (o ≡ Some x → ⊥)
      same_or None x = inr (λ same. absurd cc)
      same_or (Some y) x = by_test (same_port y x) refl
        where
          by_test : (b : Bool) → same_port y x ≡ b → (Some y ≡ Some x) ⊎ (Some y ≡ Some x → ⊥)
          by_test true is = inl (ap Some (port_is y x is))
          by_test false is = inr (λ same.
              let inside : y ≡ x = cc in
              let bad : true ≡ false = sym (same_port-refl x)
              ∙ ap (λ z. same_port z x) (sym inside) ∙ is in
              absurd cc)

      by_walk : (o : Option PortRef) → way_there ≡ o
          → (at : PortRef) × IsRoundTrip s.network.registers s.network.links host request at
      by_walk None is = absurd (none_leaves
          (ends_nowhere host request noise s lines good none clear laid within low reads ask still
          is))
      by_walk (Some at) is = by_way (same_or (way_back at) (port_of host))
        where
          away : at.node ≢ host
          away = λ same.
              comes_back host request noise s lines good none clear laid within low reads ask still
              at is same front p whole

          by_way : (way_back at ≡ Some (port_of host)) ⊎ (way_back at ≡ Some (port_of host) → ⊥)
              → (at : PortRef) × IsRoundTrip s.network.registers s.network.links host request at
          by_way (inl returns) = (at, record { ends = is; away = away; returns = returns })
          by_way (inr other) = absurd (none_leaves
              (not_returning host request noise s lines good none clear laid within low reads ask
              still at is away other))
