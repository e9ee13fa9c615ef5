-- Before the first line, what is kept of each port is what the set-up lines make of it.
use Rattle.answered_traces.proofs.Prelude.{◌≡◌, ℕ, Bool, true, false, List, [], ◌∷◌, refl, sym, ap, ◌∙◌, if◌then◌else◌, packet_count, InputOk, Numbered, PortRef, Network, same_port, port_is, apart_back, bare, set_up, set_up_all, start, packets_in, lists_in, lines_of_set_up, buffers_by, buffers_after, reactions_before}
use Rattle.std.proofs.lemmas.Bool.{false≢true}
use Rattle.fabric_script.specs.declared.lines.Line.{Line}
use Rattle.fabric_script.specs.declared.lines.Line.TheVariants.{Buffers}
use Rattle.fabric_script.specs.Lines.{is_event}
use Rattle.fabric_trace.specs.SetUps.{IsSetUp}
use Rattle.lawful_traces.proofs.Inputs.{same_set_up}
use Rattle.answered_traces.proofs.Following.{KeepsSeen}

-- ---- buffers

same_port_back : (p q : PortRef) → same_port p q ≡ same_port q p
same_port_back p q = by (same_port p q) refl
  where
    by : (x : Bool) → same_port p q ≡ x → same_port p q ≡ same_port q p
    by true is =
        let there = port_is p q is in
        λ i. same_port (there i) (sym there i)
    by false is = is ∙ sym (apart_back p q is)

buffers_one : (net : Network) (line : Line) (p : PortRef)
    → (set_up net line).buffers p ≡ buffers_by (net.buffers p) p line
buffers_one net (Buffers port n) p =
    ap (λ own. if own then n else net.buffers p) (same_port_back p port)
buffers_one net _ p = refl

buffers_all : (lines : List Numbered) (net : Network) (p : PortRef)
    → (set_up_all net lines).buffers p ≡ buffers_after (net.buffers p) p lines
buffers_all [] net p = refl
buffers_all (line ∷ lines) net p =
    buffers_all lines (set_up net line.line) p
    ∙ ap (λ n. buffers_after n p lines) (buffers_one net line.line p)

-- an event says nothing of buffers
buffers_event : (p : PortRef) (n : ℕ) (line : Line) → is_event line ≡ true
    → buffers_by n p line ≡ n
buffers_event p n (Buffers port m) event = absurd (false≢true event)
buffers_event p n _ event = refl

-- the same set-up lines give the same buffers
buffers_same : (lines script : List Numbered) (p : PortRef)
    → lines_of_set_up lines ≡ lines_of_set_up script
    → buffers_after 8 p lines ≡ buffers_after 8 p script
buffers_same lines script p same =
    same_set_up (λ (n : ℕ) (line : Line). buffers_by n p line)
    (λ (n : ℕ) (all : List Numbered). buffers_after n p all) (λ n. refl) (λ n line all. refl)
    (buffers_event p) lines script 8 same

-- ---- ports

pub start_keeps : (lines script : List Numbered) → IsSetUp (set_up_all bare script)
    → lines_of_set_up lines ≡ lines_of_set_up script
    → KeepsSeen (reactions_before lines) (start script)
start_keeps lines script is same p =
    let empty = is.empty in
    let none : packet_count (lists_in ((set_up_all bare script).received p)) ≡ 0 =
    λ i. packet_count
    (packets_in (empty.received p 0 i) ∷ packets_in (empty.received p 1 i)
    ∷ packets_in (empty.received p 2 i) ∷ packets_in (empty.received p 3 i) ∷ []) in
    record {
      hearing = refl;
      sending = refl;
      input = λ i. record {
        buffers = (buffers_same lines script p same ∙ sym (buffers_all script bare p)) i;
        input = InputOk 0;
        held = sym none i;
        due = [];
      };
    }
