-- What the reasons of a trace mean, in words.
use Rattle.std.specs.Prelude.{ℕ, ◌-◌, ◌==◌, leb, List, [], ◌∷◌, codes, slice_index_or, if◌then◌else◌}
use Rattle.refusal_words.specs.Reasons.{set_up_reason}

-- why a line of a trace is not lawful, by the number of the reason, from 21 on
abbrev pub trace_reasons : List (List ℕ)
trace_reasons =
    codes "this is no line of a trace, or it stands after the last, or the last is missing"
    ∷ codes "these characters are not at the front of the wire, or the edit is not within it"
    ∷ codes "no such step can be made here"
    ∷ codes "this packet did not come with the ackID whose turn it is, after the one held before"
    ∷ codes "more packets are freed than were acknowledged"
    ∷ codes "a packet is sent that neither waits at the port nor is lent"
    ∷ []

abbrev pub trace_reason : ℕ → List ℕ
trace_reason reason =
    if reason == 15 then codes "no line --- follows the set-up lines"
    else (if leb 21 reason then slice_index_or trace_reasons (reason - 21) (set_up_reason reason)
    else set_up_reason reason)
