-- No port frees a packet before the next hop holds it: what is lent is a queue.
use Rattle.fabric_model.proofs.Prelude.{◌≡◌, ℕ, Bool, true, false, List, [], ◌∷◌, ◌++◌, map, Some, sym, ap, ◌∙◌, subst, refl, append-nil, cond, ⊤, map-append, prio_of, PortRef, Item, Network, same_port, first_packet, Hold, Free, Take, Leave, Move, Drop, Answer, Step, Linked, AtNode, ByDevice, Needs, only_first, behind_first, after_hold, after, after_all, LegalFrom, IsEmptyNetwork, gathered, is_port, held_from, freed_at, IsFront, FreedAfterHeld}
use Rattle.fabric_model.proofs.Joining.{legal_parts, queued}
use Rattle.fabric_model.proofs.Peers.{port_is}

-- the packets of items, as they are now
abbrev pub packets : List Item → List (List ℕ)
packets items = map (λ item. item.now) items

pub packets-append : (xs ys : List Item) → packets (xs ++ ys) ≡ packets xs ++ packets ys
packets-append = map-append (λ item. item.now)

pub packets-only_first : (items : List Item) (packet : List ℕ) → first_packet items ≡ Some packet
    → packets (only_first items) ≡ packet ∷ []
packets-only_first [] packet first = absurd (cc)
packets-only_first (x ∷ xs) packet first =
    let same : x.now ≡ packet = cc in
    ap (λ p. p ∷ []) same

packets-first : (items : List Item) (packet : List ℕ) → first_packet items ≡ Some packet
    → packets items ≡ packet ∷ packets (behind_first items)
packets-first [] packet first = absurd (cc)
packets-first (x ∷ xs) packet first =
    let same : x.now ≡ packet = cc in
    ap (λ p. p ∷ packets xs) same

held_step : (test : Bool) (lent own more : List Item) (packet : List ℕ) → (test ≡ true → lent ≡ own)
    → packets more ≡ packet ∷ [] → packets lent ++ cond test (packet ∷ []) []
    ≡ packets (cond test (own ++ more) lent)
held_step true lent own more packet same e = ap (λ x. packets lent ++ x) (sym e)
    ∙ (sym (packets-append lent more) ∙ ap (λ x. packets (x ++ more)) (same refl))
held_step false lent own more packet same e = append-nil (packets lent)

freed_step : (test : Bool) (lent own : List Item) (packet : List ℕ) → (test ≡ true → lent ≡ own)
    → first_packet own ≡ Some packet → packets lent ++ [] ≡ cond test (packet ∷ []) []
    ++ packets (cond test (behind_first own) lent)
freed_step true lent own packet same first = append-nil (packets lent)
    ∙ (ap packets (same refl) ∙ packets-first own packet first)
freed_step false lent own packet same first = append-nil (packets lent)

lent_step : (p : PortRef) (net : Network) (step : Step) → Needs net step → packets (net.lent p)
    ++ held_from p net step ≡ freed_at p net step ++ packets ((after net step).lent p)
lent_step p net (Linked (Hold q packet)) needs =
    let hop = needs.0 in
    let more = only_first (net.waiting hop (prio_of packet)) in
    subst (λ x. packets (net.lent p) ++ cond (is_port p x) (packet ∷ []) []
    ≡ packets ((after_hold net q x (prio_of packet)).lent p)) (sym needs.1)
    (held_step (same_port p hop) (net.lent p) (net.lent hop) more packet
    (λ same. ap net.lent (port_is p hop same))
    (packets-only_first (net.waiting hop (prio_of packet)) packet needs.2))
lent_step p net (Linked (Free q packet)) needs =
    freed_step (same_port p q) (net.lent p) (net.lent q) packet
    (λ same. ap net.lent (port_is p q same)) needs
lent_step p net (AtNode (Take n packet)) needs = append-nil (packets (net.lent p))
lent_step p net (AtNode (Leave n packet)) needs = append-nil (packets (net.lent p))
lent_step p net (ByDevice (Move q t packet)) needs = append-nil (packets (net.lent p))
lent_step p net (ByDevice (Drop q packet)) needs = append-nil (packets (net.lent p))
lent_step p net (ByDevice (Answer q packet response)) needs = append-nil (packets (net.lent p))

-- what is freed and what is then lent is what was held
freed_front : (start : Network) (steps : List Step) (end : Network) → IsEmptyNetwork start
    → LegalFrom start steps end → (done later : List Step) → steps ≡ done ++ later → (p : PortRef)
    → IsFront (gathered (freed_at p) start done) (gathered (held_from p) start done)
freed_front start steps end empty legal done later parts p =
    let legal_done =
    (legal_parts start done later end (subst (λ x. LegalFrom start x end) parts legal)).0 in
    let whole = queued (λ net. ⊤) (held_from p) (freed_at p) (λ net. packets (net.lent p))
    (λ net step needs kept. kept) (λ net step needs kept. lent_step p net step needs) start
    done (after_all start done) tt legal_done in
    (packets ((after_all start done).lent p), rw empty.lent at whole)

pub freed_after_held : (start : Network) (steps : List Step) (end : Network) → IsEmptyNetwork start
    → LegalFrom start steps end → FreedAfterHeld start steps
freed_after_held start steps end empty legal =
    record { front = freed_front start steps end empty legal }
