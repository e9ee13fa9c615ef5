-- Legal lists of steps, joined and taken apart.
use Rattle.fabric_model.proofs.Prelude.{◌≡◌, List, [], ◌∷◌, ◌++◌, Option, Some, None, sym, ap, ◌∙◌, subst, refl, append_assoc, append-nil, prio_of, PortRef, Item, Network, peer_in, Hold, Free, Take, Leave, Move, Drop, Answer, Step, Linked, AtNode, ByDevice, Needs, after_hold, after, after_all, LegalFrom, End, gathered, taken_by, ended_by, items_taken, items_ended}

-- a legal list of steps ends in one network
pub end_is : (net : Network) (steps : List Step) (end : Network) → LegalFrom net steps end → end
    ≡ after_all net steps
end_is net [] end legal = legal
end_is net (step ∷ steps) end legal = end_is (after net step) steps end legal.1

pub ends_alike : (net : Network) (steps : List Step) (a b : Network) → LegalFrom net steps a
    → LegalFrom net steps b → a ≡ b
ends_alike net steps a b p q = end_is net steps a p ∙ sym (end_is net steps b q)

-- the two parts of a legal list are legal
pub legal_parts : (net : Network) (a b : List Step) (end : Network) → LegalFrom net (a ++ b) end
    → LegalFrom net a (after_all net a) × LegalFrom (after_all net a) b end
legal_parts net [] b end legal = (refl, legal)
legal_parts net (step ∷ a) b end legal =
    let parts = legal_parts (after net step) a b end legal.1 in
    ((legal.0, parts.0), parts.1)

-- and two legal lists, the second from where the first ends, are legal together
pub legal_joined : (net : Network) (a b : List Step) (mid end : Network) → LegalFrom net a mid
    → LegalFrom mid b end → LegalFrom net (a ++ b) end
legal_joined net [] b mid end p q = subst (λ x. LegalFrom x b end) p q
legal_joined net (step ∷ a) b mid end p q = (p.0, legal_joined (after net step) a b mid end p.1 q)

-- What each step keeps, of the network and of the items taken and ended so far, is kept along all
-- steps.
pub carried : (Kept : Network → List Item → (End → List Item) → Type 0)
    → ((net : Network) (made : List Item) (out : End → List Item) (step : Step) → Needs net step
    → Kept net made out → Kept (after net step) (made ++ taken_by net step)
    (λ e. out e ++ ended_by e net step)) → (net : Network) (made : List Item)
    (out : End → List Item) (steps : List Step) (end : Network) → Kept net made out
    → LegalFrom net steps end
    → Kept end (made ++ items_taken net steps) (λ e. out e ++ items_ended net steps e)
carried Kept keeps net made out [] end kept legal =
    let none : (λ (e : End). out e) ≡ (λ (e : End). out e ++ []) =
    λ i e. sym (append-nil (out e)) i in
    rw (append-nil made)
    (subst (λ (o : End → List Item). Kept end made o) none
    (subst (λ x. Kept x made out) (sym legal) kept))
carried Kept keeps net made out (step ∷ steps) end kept legal =
    let after_step = keeps net made out step legal.0 kept in
    let whole = carried Kept keeps (after net step) (made ++ taken_by net step)
    (λ e. out e ++ ended_by e net step) steps end after_step legal.1 in
    let joined : (λ (e : End). (out e ++ ended_by e net step)
    ++ items_ended (after net step) steps e)
    ≡ (λ (e : End). out e ++ (ended_by e net step ++ items_ended (after net step) steps e)) =
    λ i e. append_assoc (out e) (ended_by e net step) (items_ended (after net step) steps e) i in
    subst (λ (o : End → List Item). Kept end (made ++ items_taken net (step ∷ steps)) o) joined
    (rw (append_assoc made (taken_by net step) (items_taken (after net step) steps)) at whole)

-- A queue along the steps: what stands in it and what comes in is what goes out and what then
-- stands in it.
pub queued : {A : Type 0} (Kept : Network → Type 0) (comes goes : Network → Step → List A)
    (queue : Network → List A)
    → ((net : Network) (step : Step) → Needs net step → Kept net → Kept (after net step))
    → ((net : Network) (step : Step) → Needs net step → Kept net → queue net ++ comes net step
    ≡ goes net step ++ queue (after net step)) → (net : Network) (steps : List Step) (end : Network)
    → Kept net → LegalFrom net steps end → queue net ++ gathered comes net steps
    ≡ gathered goes net steps ++ queue end
queued Kept comes goes queue keeps each net [] end kept legal = append-nil (queue net)
    ∙ ap queue (sym legal)
queued Kept comes goes queue keeps each net (step ∷ steps) end kept legal =
    let now = each net step legal.0 kept in
    let later = queued Kept comes goes queue keeps each (after net step) steps end
    (keeps net step legal.0 kept) legal.1 in
    sym (append_assoc (queue net) (comes net step) (gathered comes (after net step) steps))
    ∙ (ap (λ x. x ++ gathered comes (after net step) steps) now
    ∙ (append_assoc (goes net step) (queue (after net step)) (gathered comes (after net step) steps)
    ∙ (ap (λ x. goes net step ++ x) later
    ∙ sym (append_assoc (goes net step) (gathered goes (after net step) steps) (queue end)))))

-- the links stay
pub links_stay : (net : Network) (step : Step) → (after net step).links ≡ net.links
links_stay net (Linked (Hold q packet)) = held_links (peer_in net.links q)
  where
    held_links : (p : Option PortRef) → (after_hold net q p (prio_of packet)).links ≡ net.links
    held_links None = refl
    held_links (Some p) = refl
links_stay net (Linked (Free p packet)) = refl
links_stay net (AtNode (Take n packet)) = refl
links_stay net (AtNode (Leave n packet)) = refl
links_stay net (ByDevice (Move p q packet)) = refl
links_stay net (ByDevice (Drop p packet)) = refl
links_stay net (ByDevice (Answer p packet response)) = refl
