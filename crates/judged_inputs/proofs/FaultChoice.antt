-- No reason hits a line, or one is the least that does.
use Rattle.judged_inputs.proofs.Prelude.{◌≡◌, ◌<◌, ◌%◌, Bool, true, false, List, [], ◌∷◌, length, Option, Some, None, refl, ap, ◌∙◌, ◌⊎◌, inl, inr, arith, prio_of, Char, Event, Ctl, Pkt, Bad, PortRef, Network, peer_in, Hold, Free, Linked, Sent, Got, Fired, TraceLine, Begun, Stepped, Signed, freed, net_after, unheld, EditFits, BothAreEmpty, OnWires, LineIsStep, HoldHasCome, IsAllowed, SendMayBe, LinePasses, Fault, OffWire, NoSuchStep, NotCome, NotAllowed, NotThere, fault_number, Spares, Decided, both_or_not}
use Rattle.link_wires.specs.Kept.{behind, behind_some}
use Rattle.link_wires.specs.Wires.{fits}
use Rattle.rio_chars.specs.declared.edit.Edit.{Edit}
use Rattle.fabric_trace.specs.Fold.{edit_of, says}
use Rattle.fabric_trace.specs.Wires.{WireChars, IsFrontOf}
use Rattle.fabric_trace.specs.Holds.{got, holds}
use Rattle.fabric_trace.specs.Allowance.{allowance}
use Rattle.fabric_trace.specs.Owned.{HasEvent}
use Rattle.fabric_trace.specs.Views.{packets_in}
use Rattle.trace_check.specs.Wires.{are_short, wires_after}
use Rattle.judged_inputs.proofs.Choices.{one_or_not, true_or_not, less_or_not, all_or_not, contains_or_not, empty_or_not, some_or_not, begins_or_not}
use Rattle.judged_inputs.proofs.NeedChoice.{needs_or_not}

-- ---- wires

edit_or_not : (wires : WireChars) (short : Bool) (edit : Option (PortRef × Edit))
    → Decided (EditFits wires short edit)
edit_or_not wires true None = inl tt
edit_or_not wires false None = inl tt
edit_or_not wires true (Some edit) = inl tt
edit_or_not wires false (Some edit) = true_or_not (fits edit.1 (wires edit.0))

front_or_not : (links : List (PortRef × PortRef)) (wires : WireChars) (q : PortRef)
    (chars : List Char) → Decided (IsFrontOf links wires q chars)
front_or_not links wires q chars = by_peer (peer_in links q) refl
  where
    by_peer : (o : Option PortRef) → peer_in links q ≡ o
        → Decided (IsFrontOf links wires q chars)
    by_peer None e = inr (λ is.
        let peer = is.peer_is in
        cc)
    by_peer (Some p) e = elim (begins_or_not (wires p) chars) [
      | inl begins ↦ inl (record {
        peer = p;
        behind = begins.0;
        peer_is = e;
        stands = begins.1;
      })
      | inr none ↦ inr (λ is.
          let peer = is.peer_is in
          let same : p ≡ is.peer = cc in
          none (is.behind, ap wires same ∙ is.stands))
    ]

both_empty_or_not : (links : List (PortRef × PortRef)) (wires : WireChars) (p : PortRef)
    → Decided (BothAreEmpty links wires p)
both_empty_or_not links wires p = by_peer (peer_in links p) refl
  where
    by_peer : (o : Option PortRef) → peer_in links p ≡ o → Decided (BothAreEmpty links wires p)
    by_peer None e = inr (λ is.
        let peer = is.peer_is in
        cc)
    by_peer (Some q) e = elim (both_or_not (empty_or_not (wires p)) (empty_or_not (wires q))) [
      | inl empty ↦ inl (record { peer = q; peer_is = e; near = empty.0; far = empty.1 })
      | inr none ↦ inr (λ is.
          let peer = is.peer_is in
          let same : q ≡ is.peer = cc in
          none (is.near, ap wires same ∙ is.far))
    ]

wires_or_not : (links : List (PortRef × PortRef)) (wires : WireChars) (line : TraceLine)
    (short : Bool) → Decided (OnWires links wires line short)
wires_or_not links wires (Begun line) short = edit_or_not wires short (edit_of line)
wires_or_not links wires (Signed (Got q chars)) short = front_or_not links wires q chars
wires_or_not links wires (Signed (Fired p)) short = both_empty_or_not links wires p
wires_or_not links wires _ short = inl tt

-- ---- the other reasons

step_or_not : (net : Network) (line : TraceLine) → Decided (LineIsStep net line)
step_or_not net (Stepped step) = needs_or_not net step
step_or_not net _ = inl tt

come_or_not : (before : List TraceLine) (line : TraceLine) → Decided (HoldHasCome before line)
come_or_not before (Stepped (Linked (Hold q packet))) =
    some_or_not (behind_some (behind (Pkt (length (holds q before) % 32) packet))
    (unheld q before))
come_or_not before _ = inl tt

allowed_or_not : (before : List TraceLine) (line : TraceLine) → Decided (IsAllowed before line)
allowed_or_not before (Stepped (Linked (Free p packet))) =
    less_or_not (freed p before) (allowance (got p before))
allowed_or_not before _ = inl tt

has_or_not : (net : Network) (p : PortRef) (e : Event) → Decided (HasEvent net p e)
has_or_not net p (Ctl symbol) = inl tt
has_or_not net p (Pkt ack packet) =
    one_or_not (contains_or_not (packets_in (net.waiting p (prio_of packet))) packet)
    (contains_or_not (packets_in (net.lent p)) packet)
has_or_not net p (Bad cause) = inl tt

sends_or_not : (net : Network) (line : TraceLine) → Decided (SendMayBe net line)
sends_or_not net (Signed (Sent p chars)) =
    all_or_not (HasEvent net p) (has_or_not net p) (says chars)
sends_or_not net _ = inl tt

-- ---- the least

module _ (net : Network) (before : List TraceLine) (line : TraceLine) (behind : List TraceLine)
  where
    -- a reason hits the line, and none that is less
    pub record LeastFault : Type 0 where
      pub fault : Fault
      pub fails : Spares net before line behind fault → ⊥
      pub less : (other : Fault) → fault_number other < fault_number fault
          → Spares net before line behind other

    abbrev Stands : Fault → Type 0
    Stands fault = Spares net before line behind fault

    wires_fail : (Stands OffWire → ⊥) → LeastFault
    wires_fail fails = record { fault = OffWire; fails = fails; less = less }
      where
        less : (other : Fault) → fault_number other < 22 → Stands other
        less OffWire below = absurd (omega arith)
        less NoSuchStep below = absurd (omega arith)
        less NotCome below = absurd (omega arith)
        less NotAllowed below = absurd (omega arith)
        less NotThere below = absurd (omega arith)

    step_fails : Stands OffWire → (Stands NoSuchStep → ⊥) → LeastFault
    step_fails wires fails = record { fault = NoSuchStep; fails = fails; less = less }
      where
        less : (other : Fault) → fault_number other < 23 → Stands other
        less OffWire below = wires
        less NoSuchStep below = absurd (omega arith)
        less NotCome below = absurd (omega arith)
        less NotAllowed below = absurd (omega arith)
        less NotThere below = absurd (omega arith)

    coming_fails : Stands OffWire → Stands NoSuchStep → (Stands NotCome → ⊥) → LeastFault
    coming_fails wires step fails = record { fault = NotCome; fails = fails; less = less }
      where
        less : (other : Fault) → fault_number other < 24 → Stands other
        less OffWire below = wires
        less NoSuchStep below = step
        less NotCome below = absurd (omega arith)
        less NotAllowed below = absurd (omega arith)
        less NotThere below = absurd (omega arith)

    allowing_fails : Stands OffWire → Stands NoSuchStep → Stands NotCome → (Stands NotAllowed → ⊥)
        → LeastFault
    allowing_fails wires step came fails =
        record { fault = NotAllowed; fails = fails; less = less }
      where
        less : (other : Fault) → fault_number other < 25 → Stands other
        less OffWire below = wires
        less NoSuchStep below = step
        less NotCome below = came
        less NotAllowed below = absurd (omega arith)
        less NotThere below = absurd (omega arith)

    sending_fails : Stands OffWire → Stands NoSuchStep → Stands NotCome → Stands NotAllowed
        → (Stands NotThere → ⊥) → LeastFault
    sending_fails wires step came allowed fails =
        record { fault = NotThere; fails = fails; less = less }
      where
        less : (other : Fault) → fault_number other < 26 → Stands other
        less OffWire below = wires
        less NoSuchStep below = step
        less NotCome below = came
        less NotAllowed below = allowed
        less NotThere below = absurd (omega arith)

    pub passes_or_hit : LinePasses net before line behind ⊎ LeastFault
    passes_or_hit = elim (wires_or_not net.links
        (wires_after net.links (λ p. []) before (line ∷ behind)) line (are_short behind)) [
          | inr fails ↦ inr (wires_fail fails)
          | inl wires ↦ elim (step_or_not (net_after net before) line) [
            | inr fails ↦ inr (step_fails wires fails)
            | inl step ↦ elim (come_or_not before line) [
              | inr fails ↦ inr (coming_fails wires step fails)
              | inl came ↦ elim (allowed_or_not before line) [
                | inr fails ↦ inr (allowing_fails wires step came fails)
                | inl allowed ↦ elim (sends_or_not (net_after net before) line) [
                  | inr fails ↦ inr (sending_fails wires step came allowed fails)
                  | inl sends ↦ inl (record {
                    wires = wires;
                    step = step;
                    came = came;
                    allowed = allowed;
                    sends = sends;
                  })
                ]
              ]
            ]
          ]
        ]
