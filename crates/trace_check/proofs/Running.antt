-- What a checker keeps of a port decides what the lines before say.
use Rattle.std.proofs.Common.{◌≡◌, ℕ, ◌+◌, ◌%◌, ◌++◌, Bool, true, false, List, [], ◌∷◌, length, Option, Some, None, IsSome, option_map, unwrap_or, refl, sym, ap, ◌∙◌, subst, arith, length-append, if◌then◌else◌}
use Rattle.std.proofs.lemmas.List.{append-nil}
use Rattle.rio_chars.specs.declared.chars.Char.{Char}
use Rattle.link_model.specs.declared.event.Event.{Event}
use Rattle.link_model.specs.declared.event.Event.TheVariants.{Ctl, Pkt, Bad}
use Rattle.link_model.specs.Events.{same_event}
use Rattle.link_model.specs.Places.{Place, place_start, place_after}
use Rattle.link_model.specs.Said.{said}
use Rattle.link_model.proofs.PlacesLaws.{place_after-append, place_after-none}
use Rattle.link_machine.proofs.Settling.SaidLaws.{said-append}
use Rattle.link_wires.specs.Kept.{behind, behind_some, behind_all}
use Rattle.link_wires.proofs.KeptLaws.{all_then, all-more}
use Rattle.fabric_script.specs.declared.ports.PortRef.{PortRef}
use Rattle.fabric_model.specs.Network.{same_port}
use Rattle.fabric_model.specs.Steps.{Hold, Free, Linked}
use Rattle.trace_lines.specs.Lines.{Got, TraceLine, Stepped, Signed}
use Rattle.fabric_trace.specs.Fold.{says}
use Rattle.fabric_trace.specs.Holds.{got, holds, numbered_packets}
use Rattle.fabric_trace.specs.Frees.{frees_by}
use Rattle.fabric_trace.proofs.Holds.Coming.{numbered-append}
use Rattle.fabric_trace.proofs.Parts.Folding.{says_none}
use Rattle.fabric_trace.proofs.Holds.HoldsRead.{got-append, holds-append}
use Rattle.fabric_trace.specs.Allowance.{raised_all}
use Rattle.trace_check.specs.Checks.{freed, unheld, HoldHasCome}
use Rattle.trace_check.specs.Reaches.{IsPortRun}
use Rattle.trace_check.specs.Running.{Come, packets_come, behind_packet, PortRun, new_run, run_hears, holds_one, frees_one, run_after, MayHold}
use Rattle.fabric_trace.proofs.Allowance.Raising.{raised-append}

-- ---- packets alone

pub packets-append : (xs ys : List Event)
    → packets_come (xs ++ ys) ≡ packets_come xs ++ packets_come ys
packets-append [] ys = refl
packets-append (Ctl symbol ∷ xs) ys = packets-append xs ys
packets-append (Pkt ack packet ∷ xs) ys = ap (λ (l : List Come). (ack, packet) ∷ l)
    (packets-append xs ys)
packets-append (Bad cause ∷ xs) ys = packets-append xs ys

-- a packet is found among the packets as among all events
pub behind_is : (ack : ℕ) (packet : List ℕ) (events : List Event) → option_map packets_come
    (behind (Pkt ack packet) events) ≡ behind_packet ack packet (packets_come events)
behind_is ack packet [] = refl
behind_is ack packet (Ctl symbol ∷ events) = behind_is ack packet events
behind_is ack packet (Bad cause ∷ events) = behind_is ack packet events
behind_is ack packet (Pkt b q ∷ events) =
    elim (same_event (Pkt b q) (Pkt ack packet)) as (λ x. option_map packets_come
    (if x then Some events else behind (Pkt ack packet) events) ≡
    (if x then Some (packets_come events) else behind_packet ack packet (packets_come events))) [
      | true ↦ refl
      | false ↦ behind_is ack packet events
    ]

-- ---- of a port, after lines

pub new_is : (p : PortRef) → IsPortRun p [] new_run
new_is p = record {
  place = sym (place_after-none place_start);
  next = refl;
  freed_is = refl;
  allowed =
      ap (raised_all 0) (sym none);
  left = [];
  found = ap (λ (l : List Event). Some l) none;
  packets = refl;
}
  where
    none : says [] ≡ []
    none = says_none

-- what a hold asks of what is kept is what the lines before say
pub hold_decides : {p : PortRef} {before : List TraceLine} {run : PortRun} (packet : List ℕ)
    → IsPortRun p before run
    → option_map packets_come (behind_some (behind (Pkt (length (holds p before) % 32) packet))
    (unheld p before)) ≡ behind_packet run.next packet run.unheld
hold_decides {p} {before} packet is =
    ap (λ o. option_map packets_come (behind_some (behind (Pkt (length
    (holds p before) % 32) packet)) o)) is.found
    ∙ behind_is (length (holds p before) % 32) packet is.left
    ∙ (λ i. behind_packet (sym is.next i) packet (sym is.packets i))

some_map : (o : Option (List Event)) → IsSome (option_map packets_come o) → IsSome o
some_map None h = absurd cc
some_map (Some x) h = refl

map_some : (o : Option (List Event)) → IsSome o → IsSome (option_map packets_come o)
map_some None h = absurd cc
map_some (Some x) h = refl

pub may_hold : {p : PortRef} {before : List TraceLine} {run : PortRun} (packet : List ℕ)
    → IsPortRun p before run
    → (MayHold run packet → HoldHasCome before (Stepped (Linked (Hold p packet)))) ×
    (HoldHasCome before (Stepped (Linked (Hold p packet))) → MayHold run packet)
may_hold {p} {before} packet is =
    let same = hold_decides packet is in
    let looked = behind_some (behind (Pkt (length (holds p before) % 32) packet))
    (unheld p before) in (
      λ may. some_map looked (subst IsSome (sym same) may),
      λ came. subst IsSome same
          (map_some looked came),
    )

-- ---- one more line

freed-append : (p : PortRef) (before : List TraceLine) (line : TraceLine) → freed p
    (before ++ line ∷ []) ≡ freed p before + frees_by p line
freed-append p [] line = omega arith
freed-append p (x ∷ before) line = let more = freed-append p before line in omega (arith, more)

-- what the lines say where one more says nothing of the port
record SaysSame (p : PortRef) (before : List TraceLine) (line : TraceLine) : Type 0 where
  gets : got p (before ++ line ∷ []) ≡ got p before
  has : holds p (before ++ line ∷ []) ≡ holds p before
  frees : freed p (before ++ line ∷ []) ≡ freed p before

same_run : {p : PortRef} {before : List TraceLine} {line : TraceLine} {run : PortRun}
    → SaysSame p before line → IsPortRun p before run → IsPortRun p (before ++ line ∷ []) run
same_run same is = record {
  place = is.place ∙ ap (place_after place_start) (sym same.gets);
  next = is.next ∙ ap (λ (l : List (List ℕ)). length l % 32) (sym same.has);
  freed_is = is.freed_is ∙ sym same.frees;
  allowed = is.allowed ∙ ap (λ (l : List Char). raised_all 0 (says l)) (sym same.gets);
  left = is.left;
  found = (λ i. behind_all (numbered_packets 0 (same.has i)) (says (same.gets i))) ∙ is.found;
  packets = is.packets;
}

hears_run : {p : PortRef} {before : List TraceLine} {run : PortRun} (line : TraceLine)
    (chars : List Char) → got p (before ++ line ∷ []) ≡ got p before ++ chars → holds p
    (before ++ line ∷ []) ≡ holds p before
    → freed p (before ++ line ∷ []) ≡ freed p before → IsPortRun p before run → IsPortRun p
    (before ++ line ∷ []) (run_hears run chars)
hears_run {p} {before} {run} line chars gets has frees is =
    let said_is : says (got p (before ++ line ∷ [])) ≡ says (got p before) ++ said run.place chars =
    ap says gets ∙ said-append place_start (got p before) chars ∙ ap
    (λ (x : Place). says (got p before) ++ said x chars) (sym is.place) in
    record {
      place = ap (λ (x : Place). place_after x chars) is.place ∙ sym
          (place_after-append place_start (got p before) chars)
          ∙ ap (place_after place_start) (sym gets);
      next = is.next ∙ ap (λ (l : List (List ℕ)). length l % 32) (sym has);
      freed_is = is.freed_is ∙ sym frees;
      allowed = ap (λ n. raised_all n (said run.place chars)) is.allowed ∙ sym
          (raised-append (says (got p before)) (said run.place chars) 0) ∙ ap (raised_all 0)
          (sym said_is);
      left = is.left ++ said run.place chars;
      found = (λ i. behind_all (numbered_packets 0 (has i)) (said_is i)) ∙ all-more
          (numbered_packets 0 (holds p before)) (says (got p before)) is.left
          (said run.place chars) is.found;
      packets = ap (λ (l : List Come). l ++ packets_come (said run.place chars)) is.packets ∙ sym
          (packets-append is.left (said run.place chars));
    }

holds_by : (o : Option (List Event)) → IsSome o → (left : List Event) × (o ≡ Some left) ×
    (unwrap_or (option_map packets_come o) [] ≡ packets_come left)
holds_by None h = absurd cc
holds_by (Some left) h = (left, refl, refl)

holds_run : {p : PortRef} {before : List TraceLine} {run : PortRun} (line : TraceLine)
    (packet : List ℕ) → got p (before ++ line ∷ []) ≡ got p before → holds p (before ++ line ∷ [])
    ≡ holds p before ++ packet ∷ []
    → freed p (before ++ line ∷ []) ≡ freed p before → MayHold run packet → IsPortRun p before run
    → IsPortRun p (before ++ line ∷ []) (holds_one run packet)
holds_run {p} {before} line packet gets has frees may is =
    let looked = behind_some (behind (Pkt (length (holds p before) % 32) packet))
    (unheld p before) in
    let rest = holds_by looked ((may_hold packet is).0 may) in
    let all : numbered_packets 0 (holds p (before ++ line ∷ []))
    ≡ numbered_packets 0 (holds p before) ++ Pkt
    (length (holds p before) % 32) packet ∷ [] =
    ap (numbered_packets 0) has ∙ numbered-append 0 (length (holds p before)) (holds p before)
    (packet ∷ []) (omega arith) in
    let longer = length-append (holds p before) (packet ∷ []) in
    let count = is.next in
    record {
      place = is.place ∙ ap (place_after place_start) (sym gets);
      next = (let now = ap length has in omega (arith, now, longer, count));
      freed_is = is.freed_is ∙ sym frees;
      allowed = is.allowed ∙ ap (λ (l : List Char). raised_all 0 (says l)) (sym gets);
      left = rest.0;
      found = (λ i. behind_all (all i) (says (gets i)))
          ∙ all_then (numbered_packets 0 (holds p before))
          (says (got p before)) (Pkt (length (holds p before) % 32) packet) ∙ rest.1;
      packets = ap (λ o. unwrap_or o []) (sym (hold_decides packet is)) ∙ rest.2;
    }

nothing_said : {p : PortRef} {before : List TraceLine} (line : TraceLine) → got p (line ∷ []) ≡ []
    → holds p (line ∷ []) ≡ [] → frees_by p line ≡ 0 → SaysSame p before line
nothing_said {p} {before} line gets has frees = record {
  gets = got-append p before (line ∷ []) ∙ ap (λ (l : List Char). got p before ++ l) gets
      ∙ append-nil (got p before);
  has = holds-append p before (line ∷ []) ∙ ap (λ (l : List (List ℕ)). holds p before ++ l) has
      ∙ append-nil (holds p before);
  frees = (let more = freed-append p before line in omega (arith, more, frees));
}

-- a hold of the port is one that may be
abbrev pub HoldsFit : PortRef → PortRun → TraceLine → Type 0
HoldsFit p run (Stepped (Linked (Hold q packet))) = same_port p q ≡ true → MayHold run packet
HoldsFit p run _ = Unit {0}

pub run_on : {p : PortRef} {before : List TraceLine} {run : PortRun} (line : TraceLine)
    → HoldsFit p run line → IsPortRun p before run → IsPortRun p (before ++ line ∷ [])
    (run_after p run line)
run_on {p} {before} {run} (Stepped (Linked (Hold q packet))) fit is = by_port (same_port p q) refl
  where
    line : TraceLine
    line = Stepped (Linked (Hold q packet))

    by_port : (x : Bool) → same_port p q ≡ x → IsPortRun p (before ++ line ∷ [])
        (if x then holds_one run packet else run)
    by_port true own =
        let one : holds p (line ∷ []) ≡ packet ∷ [] = ap
        (λ x. (if x then packet ∷ [] else []) ++ []) own in
        let none = freed-append p before line in
        holds_run line packet (got-append p before (line ∷ []) ∙ append-nil
        (got p before)) (holds-append p before (line ∷ []) ∙ ap
        (λ (l : List (List ℕ)). holds p before ++ l) one) (omega (arith, none)) (fit own) is
    by_port false other = same_run (nothing_said line refl
        (ap (λ x. (if x then packet ∷ [] else []) ++ []) other) refl) is
run_on {p} {before} {run} (Stepped (Linked (Free q packet))) fit is = by_port (same_port p q) refl
  where
    line : TraceLine
    line = Stepped (Linked (Free q packet))

    by_port : (x : Bool) → same_port p q ≡ x → IsPortRun p (before ++ line ∷ [])
        (if x then frees_one run else run)
    by_port true own =
        let more = freed-append p before line in
        let one : frees_by p line ≡ 1 = ap (λ x. if x then 1 else 0) own in
        let count = is.freed_is in
        let gets : got p (before ++ line ∷ []) ≡ got p before = got-append p before (line ∷ [])
        ∙ append-nil (got p before) in
        let has : holds p (before ++ line ∷ []) ≡ holds p before = holds-append p before
        (line ∷ []) ∙ append-nil (holds p before) in
        record {
          place = is.place ∙ ap (place_after place_start) (sym gets);
          next = is.next ∙ ap (λ (l : List (List ℕ)). length l % 32) (sym has);
          freed_is = omega (arith, more, one, count);
          allowed = is.allowed ∙ ap (λ (l : List Char). raised_all 0 (says l)) (sym gets);
          left = is.left;
          found = (λ i. behind_all (numbered_packets 0 (has i)) (says (gets i))) ∙ is.found;
          packets = is.packets;
        }
    by_port false other = same_run (nothing_said line refl refl
        (ap (λ x. if x then 1 else 0) other)) is
run_on {p} {before} {run} (Signed (Got q chars)) fit is = by_port (same_port p q) refl
  where
    line : TraceLine
    line = Signed (Got q chars)

    by_port : (x : Bool) → same_port p q ≡ x → IsPortRun p (before ++ line ∷ [])
        (if x then run_hears run chars else run)
    by_port true own =
        let one : got p (line ∷ []) ≡ chars = ap (λ x. (if x then chars else []) ++ []) own
        ∙ append-nil chars in
        let none = freed-append p before line in
        hears_run line chars (got-append p before (line ∷ []) ∙ ap
        (λ (l : List Char). got p before ++ l) one)
        (holds-append p before (line ∷ []) ∙ append-nil (holds p before))
        (omega (arith, none)) is
    by_port false other = same_run (nothing_said line
        (ap (λ x. (if x then chars else []) ++ []) other) refl refl) is
run_on line fit is = same_run (nothing_said line refl refl refl) is
