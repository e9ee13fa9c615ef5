-- One character has at most one reply.
use Rattle.std.proofs.Common.{◌≡◌, ℕ, ◌⊎◌, ◌≤◌, inl, inr, Option, Some, None, option_to_list, List, [], ◌∷◌, ◌++◌, length, refl, sym, ap, ◌∙◌, subst, arith}
use Rattle.link_model.specs.Prelude.{Char, Fields, Input, receives, symbol_arrival}
use Rattle.link_model.specs.declared.event.Event.{Event}
use Rattle.link_model.specs.Input.Arrival.{OtherStype1}
use Rattle.link_model.specs.Places.{AreGiven}
use Rattle.link_model.specs.Input.{InputOk, InputRetryStopped, InputErrorStopped}
use Rattle.link_model.proofs.PlacesLaws.{given}
use Rattle.link_port.specs.Ports.{PortState}
use Rattle.link_port.specs.Steps.{acts, read, after_reading}
use Rattle.link_port.specs.Acts.{replies}

other_has_none : (input : Input) → (receives OtherStype1 input).reply ≡ None
other_has_none (InputOk expected) = refl
other_has_none (InputRetryStopped expected) = refl
other_has_none (InputErrorStopped expected) = refl

pub start_or_end_has_none : (input : Input) (s1 cmd : ℕ) → (s1 ≡ 0) ⊎ (s1 ≡ 2)
    → (receives (symbol_arrival s1 cmd) input).reply ≡ None
start_or_end_has_none input s1 cmd (inl is) =
    subst (λ (s : ℕ). (receives (symbol_arrival s cmd) input).reply ≡ None) (sym is)
    (other_has_none input)
start_or_end_has_none input s1 cmd (inr is) =
    subst (λ (s : ℕ). (receives (symbol_arrival s cmd) input).reply ≡ None) (sym is)
    (other_has_none input)

one_at_most : (o : Option Fields) → length (option_to_list o ++ []) ≤ 1
one_at_most None = omega arith
one_at_most (Some symbol) = omega arith

few_replies : (port : PortState) (events : List Event) → AreGiven events
    → length (replies port events) ≤ 1
unfolding replies
few_replies port [] are = omega arith
few_replies port (e ∷ []) are = one_at_most (acts port e).reply
few_replies port (e ∷ x ∷ []) (bytes, symbol, first, second, ends) =
    let next = (acts port e).port in
    let none = ap (λ (y : Event). (acts next y).reply) second in
    let quiet = start_or_end_has_none next.input symbol.s1 symbol.cmd ends in
    subst (λ (o : Option Fields). length
    (option_to_list (acts port e).reply ++ (option_to_list o ++ [])) ≤ 1) (sym (none ∙ quiet))
    (one_at_most (acts port e).reply)
few_replies port (e ∷ x ∷ y ∷ es) are = absurd are

pub one_reply : (port : PortState) (c : Char)
    → length (replies (after_reading port c) (read port c)) ≤ 1
one_reply port c = few_replies (after_reading port c) (read port c) (given port.place c)
