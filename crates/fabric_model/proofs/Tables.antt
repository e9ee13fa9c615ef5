-- Where packets go: each step needs it.
use Rattle.fabric_model.proofs.Prelude.{◌≡◌, false, List, ◌∷◌, ◌++◌, Option, Some, None, subst, refl, prio_of, PortRef, Network, peer_in, Hold, Free, Take, Leave, Move, Drop, Answer, Step, Linked, AtNode, ByDevice, Needs, after_hold, after, after_all, LegalFrom, is_answer, ByTables}
use Rattle.fabric_model.proofs.Joining.{legal_parts}

-- a step of a legal list has what it needs
pub needs_of : (start : Network) (steps : List Step) (end : Network) → LegalFrom start steps end
    → (before later : List Step) (step : Step) → steps ≡ before ++ step ∷ later
    → Needs (after_all start before) step
needs_of start steps end legal before later step parts =
    (legal_parts start before (step ∷ later) end
    (subst (λ x. LegalFrom start x end) parts legal)).1.0

pub registers_stay : (net : Network) (step : Step) → is_answer step ≡ false
    → (after net step).registers ≡ net.registers
registers_stay net (Linked (Hold q packet)) other = held_registers (peer_in net.links q)
  where
    held_registers : (p : Option PortRef) → (after_hold net q p (prio_of packet)).registers
        ≡ net.registers
    held_registers None = refl
    held_registers (Some p) = refl
registers_stay net (Linked (Free p packet)) other = refl
registers_stay net (AtNode (Take n packet)) other = refl
registers_stay net (AtNode (Leave n packet)) other = refl
registers_stay net (ByDevice (Move p q packet)) other = refl
registers_stay net (ByDevice (Drop p packet)) other = refl
registers_stay net (ByDevice (Answer p packet response)) other = absurd (cc)

pub by_tables : (start : Network) (steps : List Step) (end : Network) → LegalFrom start steps end
    → ByTables start steps
by_tables start steps end legal = record {
  moved = λ before later p q packet parts.
      (let needs = needs_of start steps end legal before later _ parts in (needs.0, needs.2));
  dropped = λ before later p packet parts. (needs_of start steps end legal before later _ parts).1;
  answered = λ before later p packet response parts.
      (let needs = needs_of start steps end legal before later _ parts in (needs.1, needs.2));
  stand = λ before later step parts other. registers_stay (after_all start before) step other;
}
