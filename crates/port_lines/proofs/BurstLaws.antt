-- What clocks give is what began to wait, one after another.
use Rattle.std.proofs.Common.{◌≡◌, List, [], ◌∷◌, ◌++◌, length, drop, refl, sym, ap, ◌∙◌, append-nil, append_assoc, arith}
use Rattle.std.specs.List.{flat_map}
use Rattle.std.proofs.lemmas.Grind.{flat_map-append}
use Rattle.rio_chars.specs.declared.chars.Char.{Char}
use Rattle.link_port.specs.Ports.{PortState}
use Rattle.link_port.specs.Steps.{takes}
use Rattle.link_port.specs.Turns.{turn_sends}
use Rattle.port_lines.specs.Clocks.{ClockedState, came_to, reply_chars, turned_if_none, first_or_idle, clocks, clocks_to, clock_gives, burst_or_idle, begun_if_none, clock_begins, clocks_begin}

abbrev all_of : List (List Char) → List Char
all_of bursts = flat_map (λ (burst : List Char). burst) bursts

first_and_rest : (burst : List Char) → first_or_idle burst ∷ drop 1 burst ≡ burst_or_idle burst
first_and_rest [] = refl
first_and_rest (c ∷ chars) = refl

given_and_left : (port : PortState) (waiting : List Char)
    → first_or_idle (turned_if_none port waiting).waiting
    ∷ drop 1 (turned_if_none port waiting).waiting ≡ waiting ++ begun_if_none port waiting
given_and_left port [] = first_and_rest (turn_sends port).chars
given_and_left port (c ∷ chars) = sym (append-nil (c ∷ chars))

-- a clock
clock_is : (at : ClockedState) (c : Char)
    → clock_gives at c ∷ (clocks_to at c).waiting
    ≡ at.waiting ++ all_of (clock_begins at.settings (takes at.port c) at.waiting)
clock_is at c =
    let acted = takes at.port c in
    let port = came_to at.settings acted in
    let reply = reply_chars acted.reply in
    let begun = begun_if_none port (at.waiting ++ reply) in
    given_and_left port (at.waiting ++ reply) ∙ append_assoc at.waiting reply begun
    ∙ ap (λ (l : List Char). at.waiting ++ (reply ++ l)) (sym (append-nil begun))

pub clocks_are : (at : ClockedState) (chars : List Char)
    → (clocks at chars).given ++ (clocks at chars).stands.waiting
    ≡ at.waiting ++ all_of (clocks_begin at chars)
unfolding clocks clocks_begin
clocks_are at [] = sym (append-nil at.waiting)
clocks_are at (c ∷ chars) =
    let next = clocks_to at c in
    let begun = clock_begins at.settings (takes at.port c) at.waiting in
    let more = clocks_begin next chars in
    ap (λ (l : List Char). clock_gives at c ∷ l) (clocks_are next chars)
    ∙ ap (λ (l : List Char). l ++ all_of more) (clock_is at c)
    ∙ append_assoc at.waiting (all_of begun) (all_of more)
    ∙ ap (λ (l : List Char). at.waiting ++ l)
    (sym (flat_map-append (λ (burst : List Char). burst) begun more))

-- one character is given for each that came
pub as_many_given : (at : ClockedState) (chars : List Char)
    → length (clocks at chars).given ≡ length chars
unfolding clocks
as_many_given at [] = refl
as_many_given at (c ∷ chars) =
    let rest = as_many_given (clocks_to at c) chars in
    omega (arith, rest)
