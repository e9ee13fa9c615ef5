-- What leaves: each item once, and as it was taken.
use Rattle.fabric_model.proofs.Prelude.{◌≡◌, ℕ, ◌<◌, ◌≤◌, Bool, true, false, List, [], ◌∷◌, ◌++◌, length, sym, ap, ap₂, ◌∙◌, refl, cond, arith, ◌⊎◌, inl, inr, cases_lt, length-map, prio_of, Network, port_of, Take, Leave, Move, Drop, Answer, Step, Linked, AtNode, ByDevice, Needs, after, LegalFrom, IsEmptyNetwork, EndLeft, ended_by, items_taken, items_ended, gone, WasTaken, Over, same_place, how_often, packet_left, packets_left, moves, Once, Unchanged}
use Rattle.fabric_model.proofs.Freeing.{packets, packets-append, packets-only_first}
use Rattle.fabric_model.proofs.Lists.{all-both}
use Rattle.fabric_model.proofs.Moves.{HasMoved, moved_along}
use Rattle.fabric_model.proofs.Holding.{AsTaken, Held, held_along}

left_shown : (net : Network) (step : Step) → Needs net step → packet_left step
    ≡ packets (ended_by EndLeft net step)
left_shown net (Linked step) needs = refl
left_shown net (AtNode (Take n packet)) needs = refl
left_shown net (AtNode (Leave n packet)) needs =
    sym (packets-only_first (net.received (port_of n) (prio_of packet)) packet needs.1)
left_shown net (ByDevice (Move p q packet)) needs = refl
left_shown net (ByDevice (Drop p packet)) needs = refl
left_shown net (ByDevice (Answer p packet response)) needs = refl

gone_shown : (net : Network) (steps : List Step) (end : Network) → LegalFrom net steps end
    → packets_left steps ≡ packets (gone net steps)
gone_shown net [] end legal = refl
gone_shown net (step ∷ steps) end legal =
    ap₂ ◌++◌ (left_shown net step legal.0) (gone_shown (after net step) steps end legal.1)
    ∙ sym (packets-append (ended_by EndLeft net step) (gone (after net step) steps))

pub unchanged : (start : Network) (steps : List Step) (end : Network) → IsEmptyNetwork start
    → LegalFrom start steps end → Unchanged start steps
unchanged start steps end empty legal =
    let held = held_along start steps end empty legal in
    record {
      shown = gone_shown start steps end legal;
      same = all-both (AsTaken (items_taken start steps)) (HasMoved (moves start steps))
          (λ item. HasMoved (moves start steps) item × WasTaken start steps item)
          (λ item was after. (after, was.known)) (gone start steps) (held.known (Over EndLeft))
          ((moved_along start steps end empty legal).after (Over EndLeft));
    }

at_most_one : (t : Bool) (n : ℕ) → n ≡ cond t 1 0 → n ≤ 1
at_most_one true n e = omega arith
at_most_one false n e = omega arith

pub once : (start : Network) (steps : List Step) (end : Network) → IsEmptyNetwork start
    → LegalFrom start steps end → Once start steps
once start steps end empty legal = record {
  each = sym
      (ap length (gone_shown start steps end legal)
      ∙ length-map (gone start steps) (λ item. item.now));
  never_twice = λ n. go n (cases_lt n end.given);
}
  where
    held : Held end (items_taken start steps) (items_ended start steps)
    held = held_along start steps end empty legal

    go : (n : ℕ) → ((n < end.given) ⊎ (end.given ≤ n)) → how_often n (gone start steps) ≤ 1
    go n (inl below) =
        let at = held.standing.placed n below in
        at_most_one (same_place (Over EndLeft) at.0) (how_often n (gone start steps))
        (at.1 (Over EndLeft))
    go n (inr above) = omega (arith, held.standing.fresh n above (Over EndLeft))
