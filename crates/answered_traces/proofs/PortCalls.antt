-- What a port does at its link follows what the judge of reactions keeps of it.
use Rattle.answered_traces.proofs.Prelude.{◌≡◌, ℕ, suc, ◌-◌, ◌++◌, Bool, List, [], length, take, drop, refl, sym, ap, ◌∙◌, subst, arith, Char, packet_count, Event, Place, place_after, place_start, run, said, IsPort, PortState, new_port, Burst, IsRead, timed_out, tell_sends, Delivered, Flow, Through, delivered, told_of, answers, bursts, port_turned, Reaction, InputKept, after_events, AreDue, PortKept, after_got, after_sending, gives, reactions_sent, unheard_port, reactions_in}
use Rattle.std.proofs.lemmas.List.{drop_all}
use Rattle.link_machine.proofs.Settling.Bursting.{answers_are_read, tell_read, turned_is, turns_read}
use Rattle.link_wires.proofs.Throughs.{through_place}
use Rattle.fabric_trace.proofs.Links.Cuts.{taken_again}
use Rattle.answered_traces.proofs.Following.{KeepsPortAs}
use Rattle.answered_traces.proofs.Ports.OneEvent.{half_owing}
use Rattle.answered_traces.proofs.Ports.Owing.{Owes, OwesAll, delivered_owes, due_of_delivery, reactions_told}
use Rattle.answered_traces.proofs.Ports.Silence.{tells_say_none, turns_say_none}

-- ---- nothing comes or goes

-- no characters are sent
pub sending_none : (kept : PortKept) → AreDue kept [] × (after_sending kept [] ≡ kept)
unfolding run place_after
sending_none kept = ((kept.input.due, refl), refl)

-- a port that has done nothing
pub new_keeps : (tells : Bool) (buffers : ℕ)
    → KeepsPortAs (unheard_port buffers) (new_port tells buffers)
new_keeps tells buffers = record { hearing = refl; sending = refl; input = refl }

-- a packet has gone from the store of a port
pub gone_keeps : (kept : PortKept) (port next : PortState) → KeepsPortAs kept port
    → next.place ≡ port.place → next.input ≡ port.input
    → next.received.buffers ≡ port.received.buffers
    → packet_count port.received.lists ≡ suc (packet_count next.received.lists)
    → KeepsPortAs (gives kept) next
gone_keeps kept port next keeps place input buffers counted =
    let fewer : packet_count port.received.lists - 1 ≡ packet_count next.received.lists
    = omega (arith, counted) in
    record {
      hearing = keeps.hearing ∙ sym place;
      sending = keeps.sending;
      input = ap (λ (kept : InputKept). record kept { held = kept.held - 1 }) keeps.input
          ∙ (λ i. record {
            buffers = sym buffers i;
            input = sym input i;
            held = fewer i;
            due = [];
          });
    }

-- a port's time-out changes its output half alone
pub time_out_keeps : (kept : PortKept) (port : PortState) → KeepsPortAs kept port
    → KeepsPortAs kept (timed_out port)
time_out_keeps kept port keeps = record {
  hearing = keeps.hearing;
  sending = keeps.sending;
  input = keeps.input;
}

-- ---- what is sent that says no reaction

-- it is due, whatever is due, and no less is due after it
silence_keeps : (kept : PortKept) (port : PortState) (burst : Burst) → KeepsPortAs kept port
    → IsRead burst → reactions_in burst.sent ≡ []
    → AreDue kept burst.chars × KeepsPortAs (after_sending kept burst.chars) port
silence_keeps kept port burst keeps read silent =
    let none : reactions_sent kept burst.chars ≡ [] =
    ap (λ (from : Place). reactions_in (said from burst.chars)) keeps.sending
    ∙ ap reactions_in read.says ∙ silent in (
      (kept.input.due, sym (ap (λ (l : List Reaction). l ++ kept.input.due) none)),
      record {
        hearing = keeps.hearing;
        sending = ap (λ (from : Place). place_after from burst.chars) keeps.sending ∙ read.rests;
        input = ap (λ (l : List Reaction). record kept.input {
          due = drop (length l) kept.input.due;
        }) none ∙ keeps.input;
      },
    )

-- turns
pub turns_keep : (kept : PortKept) (port : PortState) (n : ℕ) → IsPort port → KeepsPortAs kept port
    → AreDue kept (bursts n port).chars
    × KeepsPortAs (after_sending kept (bursts n port).chars) (port_turned n port)
turns_keep kept port n is keeps =
    let burst = bursts n port in
    let sent =
    silence_keeps kept port burst keeps (turns_read n port is) (turns_say_none n port) in
    let alike : KeepsPortAs (after_sending kept burst.chars) (record port {
      output = (port_turned n port).output;
    }) = record {
      hearing = sent.1.hearing;
      sending = sent.1.sending;
      input = sent.1.input;
    } in
    (sent.0, subst (KeepsPortAs (after_sending kept burst.chars)) (sym (turned_is n port)) alike)

-- a status that tells the free buffers
pub tells_keep : (kept : PortKept) (port : PortState) → IsPort port → KeepsPortAs kept port
    → AreDue kept (tell_sends port).chars
    × KeepsPortAs (after_sending kept (tell_sends port).chars) port
tells_keep kept port is keeps =
    silence_keeps kept port (tell_sends port) keeps (tell_read port is) (tells_say_none port)

-- ---- deliveries

-- the characters that a delivery took bring what is due for its answers
taken_owes : (kept : PortKept) (port : PortState) (sent : List Event) (chars : List Char)
    (d : Delivered) → IsPort port → KeepsPortAs kept port → delivered port sent chars ≡ d
    → OwesAll (after_got kept (take (told_of d).count chars)).input d
taken_owes kept port sent chars d is keeps ends =
    let front = take (told_of d).count chars in
    subst (OwesAll (after_got kept front).input) (taken_again port sent chars d ends)
    (subst (λ (input : InputKept). OwesAll input (delivered port sent front))
    (λ i. after_events (sym keeps.input i) (said (sym keeps.hearing i) front))
    (delivered_owes port sent front is))

-- what was told is due
pub delivery_due : (kept : PortKept) (port : PortState) (sent : List Event) (chars : List Char)
    → IsPort port → KeepsPortAs kept port
    → let told = told_of (delivered port sent chars) in
    AreDue (after_got kept (take told.count chars)) (answers told.replies).chars
delivery_due kept port sent chars is keeps =
    let d = delivered port sent chars in
    let told = told_of d in
    let got = after_got kept (take told.count chars) in
    let owed = due_of_delivery got.input d (taken_owes kept port sent chars d is keeps refl) in
    let same : reactions_in (answers told.replies).sent
    ≡ reactions_sent got (answers told.replies).chars =
    sym (ap (λ (from : Place). reactions_in (said from (answers told.replies).chars)) keeps.sending
    ∙ ap reactions_in (answers_are_read told.replies owed.0).says) in
    (owed.1.0, owed.1.1 ∙ ap (λ (l : List Reaction). l ++ owed.1.0) same)

-- nothing is due after them, and the rest is kept
answered_keeps : (got : PortKept) (flow : Flow) → Owes got.input flow
    → got.hearing ≡ flow.port.place → got.sending ≡ place_start
    → KeepsPortAs (after_sending got (answers flow.told.replies).chars) flow.port
answered_keeps got flow owes hearing sending =
    let burst = answers flow.told.replies in
    let read = answers_are_read flow.told.replies owes.are in
    let due = reactions_told flow.told.replies in
    let same : reactions_sent got burst.chars ≡ due =
    ap (λ (from : Place). reactions_in (said from burst.chars)) sending
    ∙ ap reactions_in read.says in
    record {
      hearing = hearing;
      sending = ap (λ (from : Place). place_after from burst.chars) sending ∙ read.rests;
      input = (λ i. record (owes.is i) { due = drop (length (same i)) (owes.is i).due })
          ∙ ap (half_owing flow.port) (drop_all (length due) due (omega arith));
    }

-- after a whole delivery nothing is due
pub delivery_keeps : (kept : PortKept) (port : PortState) (sent : List Event) (chars : List Char)
    (flow : Flow) → IsPort port → KeepsPortAs kept port → delivered port sent chars ≡ Through flow
    → KeepsPortAs (after_sending (after_got kept (take flow.told.count chars))
    (answers flow.told.replies).chars) flow.port
delivery_keeps kept port sent chars flow is keeps through =
    let front = take flow.told.count chars in
    let again = taken_again port sent chars (Through flow) through in
    answered_keeps (after_got kept front) flow
    (taken_owes kept port sent chars (Through flow) is keeps through)
    (ap (λ (from : Place). place_after from front) keeps.hearing
    ∙ sym (through_place port sent front flow again)) keeps.sending
