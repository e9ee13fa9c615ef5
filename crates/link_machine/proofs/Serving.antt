-- What a port does for the layer above, one packet at a time.
use Rattle.link_machine.proofs.Prelude.{◌≡◌, ℕ, ◌<◌, ◌==◌, ◌++◌, cond, List, [], ◌∷◌, take, drop, sym, ap, ◌∙◌, subst, append-nil, take-append-drop, list_at-popped, list_at-appended, IsServed}
use Rattle.link_buffers.specs.Queues.{list_at, popped, appended}
use Rattle.link_port.specs.Ports.{PortState, IsPort, AreAlike}

pub put_serves :
    (port next : PortState) (prio : ℕ) (packet : List ℕ) → IsPort port → prio < 4
    → AreAlike port next → next.queued ≡ appended port.queued prio packet
    → next.received.lists ≡ port.received.lists → IsServed port next
put_serves port next prio packet is few alike queued received = record {
  alike = alike;
  taken = λ other. ([], ap (λ (l : List (List (List ℕ))). list_at l other) (sym received));
  put = λ other. (
    cond (prio == other) (packet ∷ []) [],
    ap (λ (l : List (List (List ℕ))). list_at l other) queued
        ∙ list_at-appended port.queued prio packet other
        (subst (λ (n : ℕ). prio < n) (sym is.sends.four) few),
  );
}

pub take_serves :
    (port next : PortState) (prio : ℕ) → AreAlike port next
    → next.received.lists ≡ popped port.received.lists prio → next.queued ≡ port.queued
    → IsServed port next
take_serves port next prio alike received queued = record {
  alike = alike;
  taken = λ other.
      let n = cond (prio == other) 1 0 in
      let left : list_at next.received.lists other ≡ drop n (list_at port.received.lists other) =
      ap (λ (l : List (List (List ℕ))). list_at l other) received
      ∙ list_at-popped port.received.lists prio other in (
        take n (list_at port.received.lists other),
        sym (take-append-drop n (list_at port.received.lists other))
            ∙ ap (λ (l : List (List ℕ)). take n (list_at port.received.lists other) ++ l)
            (sym left),
      );
  put = λ other. (
    [],
    ap (λ (l : List (List (List ℕ))). list_at l other) queued
        ∙ sym (append-nil (list_at port.queued other)),
  );
}
