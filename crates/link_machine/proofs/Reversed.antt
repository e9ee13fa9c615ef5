-- A run of a link is one of the link with its ends in the other order.
use Rattle.link_machine.proofs.Prelude.{◌≡◌, ℕ, true, false, Bool, ◌&&◌, List, [], None, refl, ap, ◌∙◌, subst, if◌then◌else◌, PortState, undetected, other_side, Note, Side, A, B, LinkState, turned_round, at_end, from_end, IsServed, IsRun, RunRests, RunPumps, RunTells, RunDelivers, RunEdits, RunTimesOut, RunServes}
use Rattle.link_machine.specs.Calls.{first_turns, first_tells, first_takes, has_none, has_chars, delivery_from, delivered_from, first_edited, is_silent, first_fires, timed_out_at}

end_round : (side : Side) (does : LinkState → LinkState) (s : LinkState)
    → turned_round (at_end side does s) ≡ at_end (other_side side) does (turned_round s)
end_round A does s = refl
end_round B does s = refl

delivered_round : (from : Side) (count : ℕ) (s : LinkState)
    → turned_round (delivered_from from count s)
    ≡ delivered_from (other_side from) count (turned_round s)
delivered_round A count s =
    elim (has_chars A count s) as
    (λ b. turned_round (if b then at_end B (first_takes count) s else s)
    ≡ (if b then first_takes count (turned_round s) else turned_round s))
    [ true ↦ refl | false ↦ refl ]
delivered_round B count s =
    elim (has_chars B count s) as
    (λ b. turned_round (if b then first_takes count s else s)
    ≡ (if b then at_end B (first_takes count) (turned_round s) else turned_round s))
    [ true ↦ refl | false ↦ refl ]

same_delivery : (from : Side) (count : ℕ) (s : LinkState)
    → undetected (delivery_from from count s) ≡ None
    → undetected (delivery_from (other_side from) count (turned_round s)) ≡ None
same_delivery A count s is = is
same_delivery B count s is = is

either_order : (x y : Bool) → (x && y) ≡ (y && x)
either_order true true = refl
either_order true false = refl
either_order false true = refl
either_order false false = refl

fired_round : (side : Side) (s : LinkState)
    → turned_round (timed_out_at side s) ≡ timed_out_at (other_side side) (turned_round s)
fired_round side s = moved (is_silent s)
    ∙ ap (λ b. if b then at_end (other_side side) first_fires (turned_round s) else turned_round s)
    (either_order (has_none s.wire_a.chars) (has_none s.wire_b.chars))
  where
    moved : (b : Bool) → turned_round (if b then at_end side first_fires s else s)
        ≡ (if b then at_end (other_side side) first_fires (turned_round s) else turned_round s)
    moved true = end_round side first_fires s
    moved false = refl

same_layer : (side : Side) (next : PortState) (s : LinkState) → IsServed (from_end side s).a next
    → IsServed (from_end (other_side side) (turned_round s)).a next
same_layer A next s is = is
same_layer B next s is = is

-- from the state after one more call
goes_round : {s t end : LinkState} → s ≡ t → (notes : List Note) × IsRun s notes end
    → (notes : List Note) × IsRun t notes end
goes_round {end = end} is run =
    subst (λ (s : LinkState). (notes : List Note) × IsRun s notes end) is run

pub run_round : {s end : LinkState} {notes : List Note} → IsRun s notes end
    → (other : List Note) × IsRun (turned_round s) other (turned_round end)
run_round RunRests = ([], RunRests)
run_round (RunPumps {s = s} from turns run) =
    let rest = goes_round (end_round from (first_turns turns) s) (run_round run) in
    (_, RunPumps (other_side from) turns rest.1)
run_round (RunTells {s = s} from run) =
    let rest = goes_round (end_round from first_tells s) (run_round run) in
    (_, RunTells (other_side from) rest.1)
run_round (RunDelivers {s = s} from count sent run) =
    let rest = goes_round (delivered_round from count s) (run_round run) in
    (_, RunDelivers (other_side from) count (same_delivery from count s sent) rest.1)
run_round (RunEdits {s = s} from edit run) =
    let rest = goes_round (end_round from (first_edited edit) s) (run_round run) in
    (_, RunEdits (other_side from) edit rest.1)
run_round (RunTimesOut {s = s} side run) =
    let rest = goes_round (fired_round side s) (run_round run) in
    (_, RunTimesOut (other_side side) rest.1)
run_round (RunServes {s = s} side next is served run) =
    let rest = goes_round (end_round side (λ t. record t { a = next }) s) (run_round run) in
    (_, RunServes (other_side side) next is (same_layer side next s served) rest.1)
