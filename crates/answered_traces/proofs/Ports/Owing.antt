-- What a port has told of a delivery is due at the judge of reactions, which has seen the same
-- events.
use Rattle.answered_traces.proofs.Prelude.{◌≡◌, ℕ, ◌++◌, Bool, true, false, List, [], ◌∷◌, length, Option, Some, None, option_to_list, if◌then◌else◌, refl, sym, ap, ◌∙◌, append-nil, append_assoc, AllByRecursion, Char, Event, receives, Place, run, place_after, said, events_of, IsPort, PortState, acts, is_acted, Delivered, Flow, Through, WentUndetected, begun, come, comes, delivered, done, ended, goes_on, met, told_of, answers, Reaction, InputKept, after_events, after_one_event, arrival_of, reaction_of, reactions_in, reactions_of, reply_due}
use Rattle.rio_symbols.specs.Fields.{Fields}
use Rattle.link_port.specs.Answers.{IsReply}
use Rattle.link_port.proofs.AnswerLaws.{reply_answers}
use Rattle.link_machine.specs.Led.{AreAnswers}
use Rattle.link_machine.proofs.Settling.AnswerLaws.{AreAnswers-append, IsNarrow, acts_narrow, port_narrow}
use Rattle.link_wires.specs.Kept.{behind}
use Rattle.answered_traces.proofs.Following.{half_kept}
use Rattle.answered_traces.proofs.Ports.OneEvent.{HasFewPrio, PlacedHasFewPrio, act_lists, half_owing, one_event, run_few}

-- ---- replies

-- the reactions that replies are
abbrev pub reactions_told : List Fields → List Reaction
reactions_told replies = reactions_in (answers replies).sent

told_more_due : (replies : List Fields) (reply : Option Fields)
    → reactions_told replies ++ reply_due reply ≡ reactions_told (replies ++ option_to_list reply)
told_more_due [] None = refl
told_more_due [] (Some symbol) = sym (append-nil (reactions_of (reaction_of symbol)))
told_more_due (first ∷ replies) reply =
    append_assoc (reactions_of (reaction_of first)) (reactions_told replies) (reply_due reply)
    ∙ ap (λ (l : List Reaction). reactions_of (reaction_of first) ++ l)
    (told_more_due replies reply)

one_reply : (reply : Option Fields) → IsReply reply → AreAnswers (option_to_list reply)
unfolding AreAnswers
one_reply None is = tt
one_reply (Some symbol) is = (is, tt)

no_replies : AreAnswers []
unfolding AreAnswers
no_replies = tt

-- ---- what is due stays due

-- these are the first that are due
abbrev pub FirstDue : InputKept → List Reaction → Type 0
FirstDue input reactions = (left : List Reaction) × (input.due ≡ reactions ++ left)

still_due : (events : List Event) (input : InputKept) (reactions : List Reaction)
    → FirstDue input reactions → FirstDue (after_events input events) reactions
still_due [] input reactions due = due
still_due (e ∷ events) input reactions (left, is) =
    let more = reply_due (receives (arrival_of input e) input.input).reply in
    still_due events (after_one_event input e) reactions (
      left ++ more,
      ap (λ (l : List Reaction). l ++ more) is ∙ append_assoc reactions left more,
    )

-- ---- a delivery

-- What the judge keeps after the events that a flow has taken is what the port is, and what was
-- told is due.
pub record Owes (input : InputKept) (flow : Flow) : Type 0 where
  pub is : input ≡ half_owing flow.port (reactions_told flow.told.replies)
  pub four : length flow.port.received.lists ≡ 4
  pub narrow : IsNarrow flow.port
  pub are : AreAnswers flow.told.replies

-- Where an event was not sent, its own reply is due and was not told.
abbrev pub OwesAll : InputKept → Delivered → Type 0
OwesAll input (Through flow) = Owes input flow
OwesAll input (WentUndetected told e) =
    AreAnswers told.replies × FirstDue input (reactions_told told.replies)

pub due_of_flow : {input : InputKept} {flow : Flow} → Owes input flow
    → FirstDue input (reactions_told flow.told.replies)
due_of_flow {input} {flow} owes =
    let told = reactions_told flow.told.replies in
    ([], ap (λ (input : InputKept). input.due) owes.is ∙ sym (append-nil told))

pub due_of_delivery : (input : InputKept) (d : Delivered) → OwesAll input d
    → AreAnswers (told_of d).replies × FirstDue input (reactions_told (told_of d).replies)
due_of_delivery input (Through flow) owes = (owes.are, due_of_flow owes)
due_of_delivery input (WentUndetected told e) owes = owes

done_owes : (input : InputKept) (e : Event) (acted kept : List Event) (flow : Flow)
    → HasFewPrio e → Owes input flow
    → Owes (after_one_event input e) (done e acted kept flow)
done_owes input e acted kept flow few owes =
    let told = reactions_told flow.told.replies in
    let does = acts flow.port e in
    record {
      is = ap (λ (input : InputKept). after_one_event input e) owes.is
          ∙ one_event flow.port told e owes.four few
          ∙ ap (half_owing does.port) (told_more_due flow.told.replies does.reply);
      four = act_lists flow.port e ∙ owes.four;
      narrow = acts_narrow flow.port e owes.narrow;
      are = AreAnswers-append flow.told.replies (option_to_list does.reply) owes.are
          (one_reply does.reply (reply_answers flow.port e owes.narrow.0 owes.narrow.1));
    }

-- events come one after another
abbrev ComeOwes : List (ℕ × Event) → Type 0
ComeOwes events = (input : InputKept) (flow : Flow) → Owes input flow
    → OwesAll (after_events input (events_of events)) (come events flow)

met_owes : (input : InputKept) (at : ℕ) (e : Event) (kept : Option (List Event)) (flow : Flow)
    (events : List (ℕ × Event)) → HasFewPrio e → ComeOwes events → Owes input flow
    → OwesAll (after_events (after_one_event input e) (events_of events))
    (goes_on (come events) (met at e kept flow))
met_owes input at e None flow events few rest owes = (
  owes.are,
  still_due (e ∷ events_of events) input (reactions_told flow.told.replies)
      (due_of_flow owes),
)
met_owes input at e (Some kept) flow events few rest owes =
    rest (after_one_event input e) (done e (e ∷ []) kept flow)
    (done_owes input e (e ∷ []) kept flow few owes)

comes_owes : (input : InputKept) (placed : ℕ × Event) (flow : Flow) (events : List (ℕ × Event))
    → PlacedHasFewPrio placed → ComeOwes events → Owes input flow
    → OwesAll (after_events (after_one_event input placed.1) (events_of events))
    (goes_on (come events) (comes flow placed))
comes_owes input placed flow events few rest owes = by (is_acted flow.port placed.1)
  where
    by : (b : Bool) → OwesAll (after_events (after_one_event input placed.1) (events_of events))
        (goes_on (come events) (if b
        then met placed.0 placed.1 (behind placed.1 flow.kept) flow
        else Through (done placed.1 [] flow.kept flow)))
    by true = met_owes input placed.0 placed.1 (behind placed.1 flow.kept) flow events few rest owes
    by false = rest (after_one_event input placed.1) (done placed.1 [] flow.kept flow)
        (done_owes input placed.1 [] flow.kept flow few owes)

come_owes : (events : List (ℕ × Event)) → AllByRecursion PlacedHasFewPrio events → ComeOwes events
unfolding come
come_owes [] all input flow owes = owes
come_owes (placed ∷ events) all input flow owes =
    comes_owes input placed flow events all.0 (come_owes events all.1) owes

ended_owes : (input : InputKept) (place : Place) (count : ℕ) (d : Delivered) → OwesAll input d
    → OwesAll input (ended place count d)
ended_owes input place count (Through flow) owes =
    record { is = owes.is; four = owes.four; narrow = owes.narrow; are = owes.are }
ended_owes input place count (WentUndetected told e) owes = owes

begun_owes : (port : PortState) (sent : List Event) → IsPort port
    → Owes (half_kept port) (begun port sent)
begun_owes port sent is = record {
  is = refl;
  four = is.receives.four;
  narrow = port_narrow port is;
  are = no_replies;
}

-- whatever characters are delivered
pub delivered_owes : (port : PortState) (sent : List Event) (chars : List Char) → IsPort port
    → OwesAll (after_events (half_kept port) (said port.place chars)) (delivered port sent chars)
delivered_owes port sent chars is =
    let input = after_events (half_kept port) (said port.place chars) in
    let events = run port.place 0 chars in
    ended_owes input (place_after port.place chars) _ (come events (begun port sent))
    (come_owes events (run_few port.place 0 chars) (half_kept port) (begun port sent)
    (begun_owes port sent is))
