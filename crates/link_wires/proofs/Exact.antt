-- Each event that a delivery acts on was sent exactly if all that the tables have the port act on
-- stands, in order, among what was sent.
use Rattle.std.proofs.Common.{◌≡◌, ◌↔◌, ℕ, ◌++◌, true, false, List, [], ◌∷◌, map, Option, Some, None, IsSome, refl, sym, ap, ◌∙◌, subst, append_assoc, if◌then◌else◌}
use Rattle.std.proofs.lemmas.List.{append-nil}
use Rattle.link_model.specs.Prelude.{Char, Place, run, place_after, said}
use Rattle.link_port.specs.Prelude.{Event, PortState, acts, is_acted}
use Rattle.link_wires.specs.Acting.{acted_all}
use Rattle.link_wires.specs.Kept.{behind, behind_some, behind_all, IsSubsequence}
use Rattle.link_wires.specs.Deliveries.{Flow, Delivered, Through, WentUndetected, begun, done, met, comes, goes_on, come, ended, delivered, undetected}
use Rattle.link_wires.proofs.KeptLaws.{all_then, behind_all-append, is_in, finds_all}

-- nothing is found to be not sent exactly if the search finds all of these
abbrev Exactly : Delivered → List Event → List Event → Type 0
Exactly d all sent = (undetected d ≡ None) ↔ IsSome (behind_all all sent)

-- what is said of a flow whose acted events were found
abbrev Goes : (Flow → Delivered) → List Event → List Event → Type 0
Goes more es sent =
    (f : Flow) (acted : List Event) → behind_all acted sent ≡ Some f.kept
    → Exactly (more f) (acted ++ acted_all f.port es) sent

met_exact :
    (more : Flow → Delivered) (es sent : List Event) → Goes more es sent → (flow : Flow) (at : ℕ)
    (e : Event) (found : Option (List Event)) (acted : List Event) → behind e flow.kept ≡ found
    → behind_all acted sent ≡ Some flow.kept
    → Exactly (goes_on more (met at e found flow))
    (acted ++ e ∷ acted_all (acts flow.port e).port es) sent
met_exact more es sent next flow at e None acted is h =
    let rest = acted_all (acts flow.port e).port es in
    let one : behind_all (acted ++ e ∷ []) sent ≡ None =
    all_then acted sent e ∙ ap (behind_some (behind e)) h ∙ is in
    let none : behind_all (acted ++ e ∷ rest) sent ≡ None =
    ap (λ (l : List Event). behind_all l sent) (sym (append_assoc acted (e ∷ []) rest))
    ∙ behind_all-append (acted ++ e ∷ []) rest sent ∙ ap (behind_some (behind_all rest)) one in
    (λ found. absurd cc, λ some. absurd (cc (some, none)))
met_exact more es sent next flow at e (Some kept) acted is h =
    let port = (acts flow.port e).port in
    let one : behind_all (acted ++ e ∷ []) sent ≡ Some kept =
    all_then acted sent e ∙ ap (behind_some (behind e)) h ∙ is in
    subst (λ (l : List Event). Exactly (more (done e (e ∷ []) kept flow)) l sent)
    (append_assoc acted (e ∷ []) (acted_all port es))
    (next (done e (e ∷ []) kept flow) (acted ++ e ∷ []) one)

comes_exact :
    (more : Flow → Delivered) (es sent : List Event) → Goes more es sent → (placed : ℕ × Event)
    → Goes (λ f. goes_on more (comes f placed)) (placed.1 ∷ es) sent
comes_exact more es sent next placed flow acted h =
    let e = placed.1 in
    elim (is_acted flow.port e) as (λ b. Exactly
    (goes_on more (if b then met placed.0 e (behind e flow.kept) flow
    else Through (done e [] flow.kept flow)))
    (acted ++ ((if b then e ∷ [] else []) ++ acted_all (acts flow.port e).port es)) sent) [
      | true ↦ met_exact more es sent next flow placed.0 e (behind e flow.kept) acted refl h
      | false ↦ next (done e [] flow.kept flow) acted h
    ]

come_exact : (events : List (ℕ × Event)) (sent : List Event)
    → Goes (come events) (map (λ event. event.1) events) sent
unfolding come
come_exact [] sent flow acted h =
    let found : IsSome (behind_all acted sent) = subst IsSome (sym h) refl in
    let some : IsSome (behind_all (acted ++ []) sent) =
    subst (λ (l : List Event). IsSome (behind_all l sent)) (sym (append-nil acted)) found in
    (λ none. some, λ all. refl)
come_exact (placed ∷ events) sent flow acted h =
    comes_exact (come events) (map (λ event. event.1) events) sent (come_exact events sent) placed
    flow acted h

ended_same : (place : Place) (count : ℕ) (d : Delivered)
    → undetected (ended place count d) ≡ undetected d
ended_same place count (Through flow) = refl
ended_same place count (WentUndetected told e) = refl

pub delivered_exact :
    (port : PortState) (acted sent kept : List Event) (chars : List Char)
    → behind_all acted sent ≡ Some kept
    → (undetected (delivered port kept chars) ≡ None)
    ↔ IsSubsequence (acted ++ acted_all port (said port.place chars)) sent
delivered_exact port acted sent kept chars h =
    let all = acted ++ acted_all port (said port.place chars) in
    let own = come_exact (run port.place 0 chars) sent (begun port kept) acted h in
    let same = ended_same (place_after port.place chars) _
    (come (run port.place 0 chars) (begun port kept)) in
    (λ found. is_in all sent (own.0 (sym same ∙ found)), λ sub. same ∙ own.1 (finds_all sub))
