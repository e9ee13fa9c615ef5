-- What the writes that are left make of two fabrics that agree, and of other devices.
use Rattle.contest_machine.proofs.Prelude.{◌≡◌, ◌≢◌, ℕ, List, [], ◌∷◌, Option, Some, None, ◌⊎◌, inl, inr, sym, refl, ap, ◌∙◌, cases_eq, PortRef, Topology, entered, AllRegisters, node_at-entered, Write, answered, after_access, with_device-at, with_device-other, PendingWrite, AreOwnWrites}
use Rattle.contest_machine.proofs.Numbering.OnWay.{one_performed, performed}
use Rattle.contest_machine.proofs.Keeping.Lists.{Leads}

-- writes to devices on which two fabrics agree leave them agreeing
pub performed-agree : (view : Topology) (paths : List (List ℕ)) (todo : List PendingWrite)
    (old new : AllRegisters) → AreOwnWrites paths todo
    → ((node : ℕ) → Leads view paths node → new node ≡ old node)
    → (node : ℕ) → new node ≡ old node
    → performed view new todo node ≡ performed view old todo node
performed-agree view paths [] old new own agree node same = same
performed-agree view paths (p ∷ rest) old new own agree node same =
    go (entered view p.path) refl (λ old new. performed-agree view paths rest old new own.1)
  where
    go : (o : Option PortRef) → entered view p.path ≡ o
        → ((one other : AllRegisters)
        → ((node : ℕ) → Leads view paths node → other node ≡ one node)
        → (node : ℕ) → other node ≡ one node
        → performed view other rest node ≡ performed view one rest node)
        → performed view (one_performed new p o) rest node
        ≡ performed view (one_performed old p o) rest node
    go None is on = on old new agree node same
    go (Some at) is on =
        on (after_access old at (Write p.offset p.value))
        (after_access new at (Write p.offset p.value))
        (λ place leads. after place (agree place leads) (cases_eq place at.node)) node
        (after node same (cases_eq node at.node))
      where
        here : new at.node ≡ old at.node
        here = agree at.node (p.path, own.0.0, node_at-entered view p.path at is)

        after : (place : ℕ) → new place ≡ old place → (place ≡ at.node) ⊎ (place ≢ at.node)
            → after_access new at (Write p.offset p.value) place
            ≡ after_access old at (Write p.offset p.value) place
        after place agrees (inl at_it) =
            ap (λ n. after_access new at (Write p.offset p.value) n) at_it
            ∙ (with_device-at new at.node _
            ∙ (ap (λ d. (answered d at.port (Write p.offset p.value)).device) here
            ∙ (sym (with_device-at old at.node _)
            ∙ ap (λ n. after_access old at (Write p.offset p.value) n) (sym at_it))))
        after place agrees (inr apart) =
            with_device-other new at.node place _ apart
            ∙ (agrees ∙ sym (with_device-other old at.node place _ apart))

-- and do not change others
pub performed-beside : (view : Topology) (paths : List (List ℕ)) (todo : List PendingWrite)
    (now : AllRegisters) → AreOwnWrites paths todo → (node : ℕ) → ¬ Leads view paths node
    → performed view now todo node ≡ now node
performed-beside view paths [] now own node none = refl
performed-beside view paths (p ∷ rest) now own node none =
    go (entered view p.path) refl
    (λ next. performed-beside view paths rest next own.1 node none)
  where
    go : (o : Option PortRef) → entered view p.path ≡ o
        → ((next : AllRegisters) → performed view next rest node ≡ next node)
        → performed view (one_performed now p o) rest node ≡ now node
    go None is on = on now
    go (Some at) is on =
        on (after_access now at (Write p.offset p.value))
        ∙ with_device-other now at.node node _
        (λ same. none (
          p.path,
          own.0.0,
          node_at-entered view p.path at is ∙ ap (λ n. Some n) (sym same),
        ))
