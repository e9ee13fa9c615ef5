-- Numbers that lead from ports to their links, given to one cable of a plan after another.
use Rattle.std.proofs.Common.{◌≡◌, ◌≢◌, ℕ, zero, suc, ◌+◌, ◌<◌, ◌==◌, Bool, true, false, List, [], ◌∷◌, All, map, length, Some, slice_get, slice_set, refl, sym, ap, ◌∙◌, subst, arith}
use Rattle.std.proofs.lemmas.Bool.{eqb-true, eq-eqb}
use Rattle.std.proofs.lemmas.List.{length-set}
use Rattle.std.proofs.lemmas.Option.{slice_get_within, get_or_from_slice_get}
use Rattle.fabric_script.specs.declared.ports.PortRef.{PortRef}
use Rattle.fabric_model.specs.Laws.Proper.{AreProper}
use Rattle.fabric_ports.specs.Places.{place_of}
use Rattle.fabric_ports.specs.Plans.{IsPlan, IsNewCable}
use Rattle.fabric_ports.specs.Showing.{ends_of, LeadToLinks}
use Rattle.fabric_ports.specs.declared.fabric.Cable.{Cable}
use Rattle.fabric_ports.specs.declared.plans.Plan.{Plan}
use Rattle.fabric_ports.proofs.Cables.{cables_apart, own_apart}
use Rattle.fabric_ports.proofs.PlaceLaws.{place_within, places_apart}
use Rattle.fabric_ports.proofs.ShowLaws.{get_set, get_other}

-- the number of a cable stands at the places of its ends
pub record Leads (firsts numbers : List ℕ) (k : ℕ) (cable : Cable) : Type 0 where
  pub first : slice_get numbers (place_of firsts cable.a) ≡ Some k
  pub second : slice_get numbers (place_of firsts cable.b) ≡ Some k

-- the first cables of a plan, so many, have their numbers
pub record LeadFirst (plan : Plan) (numbers : List ℕ) (k : ℕ) : Type 0 where
  pub many : length numbers ≡ length plan.ports.items
  pub leads : (j : ℕ) (cable : Cable) → j < k → slice_get plan.cables.items j ≡ Some cable
      → Leads plan.firsts.items numbers j cable

-- the numbers, of which those at the ends of a cable are this one
abbrev pub numbered : List ℕ → List ℕ → Cable → ℕ → List ℕ
numbered firsts numbers cable k =
    slice_set (slice_set numbers (place_of firsts cable.a) k) (place_of firsts cable.b) k

module _ (plan : Plan) (whole : IsPlan plan)
    (new : All (IsNewCable plan.devices.items) plan.cables.items)
    (proper : AreProper (map ends_of plan.cables.items)) where
  abbrev firsts : List ℕ
  firsts = plan.firsts.items

  pub new_at : (k : ℕ) (cable : Cable) → slice_get plan.cables.items k ≡ Some cable
      → IsNewCable plan.devices.items cable
  new_at k cable at =
      subst (IsNewCable plan.devices.items)
      (get_or_from_slice_get plan.cables.items k cable cable at)
      (new k cable (slice_get_within plan.cables.items k cable at))

  own_leads : (numbers : List ℕ) (k : ℕ) (cable : Cable)
      → slice_get plan.cables.items k ≡ Some cable → LeadFirst plan numbers k
      → Leads firsts (numbered firsts numbers cable k) k cable
  own_leads numbers k cable at before =
      let own = new_at k cable at in
      let counted = length-set numbers (place_of firsts cable.a) k in
      let many = before.many in
      let count = whole.count in
      let first = place_within plan.devices.items firsts cable.a whole.firsts own.port_a in
      let second = place_within plan.devices.items firsts cable.b whole.firsts own.port_b in
      let apart = places_apart plan.devices.items firsts cable.a cable.b whole.firsts own.port_a
      own.port_b (own_apart plan.cables.items k cable proper at) in
      record {
        first = get_other (slice_set numbers (place_of firsts cable.a) k)
            (place_of firsts cable.b) (place_of firsts cable.a) k apart
            ∙ get_set numbers (place_of firsts cable.a) k (omega (arith, first, many, count));
        second = get_set (slice_set numbers (place_of firsts cable.a) k)
            (place_of firsts cable.b) k (omega (arith, second, many, count, counted));
      }

  other_leads : (numbers : List ℕ) (j k : ℕ) (c cable : Cable)
      → slice_get plan.cables.items j ≡ Some c → slice_get plan.cables.items k ≡ Some cable
      → j ≢ k → Leads firsts numbers j c → Leads firsts (numbered firsts numbers cable k) j c
  other_leads numbers j k c cable at_j at_k other before =
      let one = new_at j c at_j in
      let own = new_at k cable at_k in
      let apart = cables_apart plan.cables.items j k c cable proper at_j at_k other in
      let px = place_of firsts cable.a in
      let py = place_of firsts cable.b in
      let set = slice_set numbers px k in
      record {
        first = get_other set py (place_of firsts c.a) k
            (places_apart plan.devices.items firsts c.a cable.b whole.firsts one.port_a own.port_b
            apart.ab)
            ∙ get_other numbers px (place_of firsts c.a) k
            (places_apart plan.devices.items firsts c.a cable.a whole.firsts one.port_a own.port_a
            apart.aa)
            ∙ before.first;
        second = get_other set py (place_of firsts c.b) k
            (places_apart plan.devices.items firsts c.b cable.b whole.firsts one.port_b own.port_b
            apart.bb)
            ∙ get_other numbers px (place_of firsts c.b) k
            (places_apart plan.devices.items firsts c.b cable.a whole.firsts one.port_b own.port_a
            apart.ba)
            ∙ before.second;
      }

  -- one cable more has its number
  pub lead_more : (numbers : List ℕ) (k : ℕ) (cable : Cable)
      → slice_get plan.cables.items k ≡ Some cable → LeadFirst plan numbers k
      → LeadFirst plan (numbered firsts numbers cable k) (k + 1)
  lead_more numbers k cable at before = record {
    many = length-set (slice_set numbers (place_of firsts cable.a) k) (place_of firsts cable.b) k
        ∙ length-set numbers (place_of firsts cable.a) k ∙ before.many;
    leads = λ j c below at_j. by_place j c (j == k) refl below at_j;
  }
    where
      by_place : (j : ℕ) (c : Cable) (same : Bool) → (j == k) ≡ same → j < k + 1
          → slice_get plan.cables.items j ≡ Some c
          → Leads firsts (numbered firsts numbers cable k) j c
      by_place j c true is below at_j =
          let one = eqb-true j k is in
          let here : slice_get plan.cables.items k ≡ Some c =
          ap (slice_get plan.cables.items) (sym one) ∙ at_j in
          subst (λ i. Leads firsts (numbered firsts numbers cable k) i c) (sym one)
          (own_leads_of c here)
        where
          own_leads_of : (c : Cable) → slice_get plan.cables.items k ≡ Some c
              → Leads firsts (numbered firsts numbers cable k) k c
          own_leads_of c here =
              let same : cable ≡ c = cc in
              subst (Leads firsts (numbered firsts numbers cable k) k) same
              (own_leads numbers k cable at before)
      by_place j c false is below at_j =
          let other : j ≢ k = λ same. absurd (cc (eq-eqb j k same, is)) in
          other_leads numbers j k c cable at_j at other
          (before.leads j c (omega (arith, below, other)) at_j)

-- ---- all cables

cable_at_link : (cables : List Cable) (k : ℕ) (link : PortRef × PortRef)
    → slice_get (map ends_of cables) k ≡ Some link
    → (cable : Cable) × (slice_get cables k ≡ Some cable) × (ends_of cable ≡ link)
cable_at_link [] k link at = absurd cc
cable_at_link (c ∷ cables) zero link at = (c, refl, cc)
cable_at_link (c ∷ cables) (suc k) link at = cable_at_link cables k link at

pub lead_all : (plan : Plan) (numbers : List ℕ) → LeadFirst plan numbers (length plan.cables.items)
    → LeadToLinks (map ends_of plan.cables.items) plan.firsts.items numbers
lead_all plan numbers all = λ k link at.
    let own = cable_at_link plan.cables.items k link at in
    let leads = all.leads k own.0 (slice_get_within plan.cables.items k own.0 own.1) own.1 in
    subst (λ (l : PortRef × PortRef).
    (slice_get numbers (place_of plan.firsts.items l.0) ≡ Some k)
    × (slice_get numbers (place_of plan.firsts.items l.1) ≡ Some k)) own.2
    (leads.first, leads.second)
