-- What a port answers to a delivery are answers.
use Rattle.link_machine.proofs.Prelude.{ℕ, Bool, true, false, List, [], ◌∷◌, Option, Some, None, option_to_list, if◌then◌else◌, Char, Fields, Event, PortState, acts, is_acted, IsReply, AreAnswers, run, Flow, Delivered, Through, WentUndetected, begun, comes, told_of}
use Rattle.link_wires.specs.Deliveries.{done, met, goes_on, come, ended, delivered}
use Rattle.link_wires.specs.Kept.{behind}
use Rattle.link_port.proofs.AnswerLaws.{reply_answers}
use Rattle.link_machine.proofs.Settling.AnswerLaws.{IsNarrow, acts_narrow, AreAnswers-append}

replied : (reply : Option Fields) → IsReply reply → AreAnswers (option_to_list reply)
unfolding AreAnswers
replied None is = tt
replied (Some symbol) is = (is, tt)

no_answers : AreAnswers []
unfolding AreAnswers
no_answers = tt

-- what was answered so far are answers
record AnswersSo (flow : Flow) : Type 0 where
  are : AreAnswers flow.told.replies
  narrow : IsNarrow flow.port

abbrev AnswersAll : Delivered → Type 0
AnswersAll (Through flow) = AnswersSo flow
AnswersAll (WentUndetected told e) = AreAnswers told.replies

done_answers : (e : Event) (acted kept : List Event) (flow : Flow) → AnswersSo flow
    → AnswersSo (done e acted kept flow)
done_answers e acted kept flow so = record {
  are = AreAnswers-append flow.told.replies (option_to_list (acts flow.port e).reply) so.are
      (replied (acts flow.port e).reply (reply_answers flow.port e so.narrow.0 so.narrow.1));
  narrow = acts_narrow flow.port e so.narrow;
}

met_answers : (at : ℕ) (e : Event) (kept : Option (List Event)) (flow : Flow) → AnswersSo flow
    → AnswersAll (met at e kept flow)
met_answers at e None flow so = so.are
met_answers at e (Some kept) flow so = done_answers e (e ∷ []) kept flow so

comes_answers : (flow : Flow) (event : ℕ × Event) → AnswersSo flow → AnswersAll (comes flow event)
comes_answers flow event so = by (is_acted flow.port event.1)
  where
    by : (b : Bool) → AnswersAll (if b
        then met event.0 event.1 (behind event.1 flow.kept) flow
        else Through (done event.1 [] flow.kept flow))
    by true = met_answers event.0 event.1 (behind event.1 flow.kept) flow so
    by false = done_answers event.1 [] flow.kept flow so

on_answers : (more : Flow → Delivered) (d : Delivered)
    → ((flow : Flow) → AnswersSo flow → AnswersAll (more flow)) → AnswersAll d
    → AnswersAll (goes_on more d)
on_answers more (Through flow) next so = next flow so
on_answers more (WentUndetected told e) next so = so

come_answers : (events : List (ℕ × Event)) (flow : Flow) → AnswersSo flow
    → AnswersAll (come events flow)
unfolding come
come_answers [] flow so = so
come_answers (event ∷ events) flow so =
    on_answers (come events) (comes flow event) (come_answers events)
    (comes_answers flow event so)

told_answers : (place : _) (count : ℕ) (d : Delivered) → AnswersAll d
    → AreAnswers (told_of (ended place count d)).replies
told_answers place count (Through flow) so = so.are
told_answers place count (WentUndetected told e) so = so

pub delivered_answers : (port : PortState) (kept : List Event) (chars : List Char)
    → IsNarrow port → AreAnswers (told_of (delivered port kept chars)).replies
delivered_answers port kept chars narrow =
    told_answers _ _ (come (run port.place 0 chars) (begun port kept))
    (come_answers (run port.place 0 chars) (begun port kept)
    (record { are = no_answers; narrow = narrow }))
