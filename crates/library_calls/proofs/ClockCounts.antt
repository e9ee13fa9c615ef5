-- Clocks, one after another, as their caller is told.
use Rattle.std.proofs.Common.{◌≡◌, ℕ, suc, ◌+◌, ◌*◌, ◌≤◌, List, [], ◌∷◌, ◌++◌, option_to_list, Bool, true, false, if◌then◌else◌, length, refl, sym, ap, subst, ◌∙◌, append_assoc, arith, length-append}
use Rattle.std.proofs.lemmas.List.{map-append, length-map}
use Rattle.rio_chars.specs.declared.chars.Char.{Char}
use Rattle.link_port.specs.Steps.{takes}
use Rattle.port_lines.specs.Clocks.{ClockedState, clocks, clocks_to, clock_gives, clock_fires}
use Rattle.port_lines.proofs.BurstLaws.{as_many_given}
use Rattle.library_calls.specs.declared.told.ClocksTold.{ClocksTold}
use Rattle.library_calls.specs.Wires.{wire_char, wire_chars, char_wire, char_wires}
use Rattle.library_calls.specs.Rooms.{laid_over}
use Rattle.library_calls.specs.ClocksSeen.{clocks_held, clocks_freed, clocks_fired, TellsClocks, ClocksTaken, ClocksSeen, AddsClock, no_clocks_told}
use Rattle.library_calls.specs.PortsSeen.{PortSeen, clocked_seen, port_told}
use Rattle.library_calls.proofs.RunLaws.{put_behind, one_held}

-- ---- a clock behind others

stands-more : (at : ClockedState) (chars : List Char) (c : Char)
    → (clocks at (chars ++ c ∷ [])).stands ≡ clocks_to (clocks at chars).stands c
unfolding clocks
stands-more at [] c = refl
stands-more at (d ∷ chars) c = stands-more (clocks_to at d) chars c

given-more : (at : ClockedState) (chars : List Char) (c : Char)
    → (clocks at (chars ++ c ∷ [])).given
    ≡ (clocks at chars).given ++ clock_gives (clocks at chars).stands c ∷ []
unfolding clocks
given-more at [] c = refl
given-more at (d ∷ chars) c =
    ap (λ (given : List Char). clock_gives at d ∷ given) (given-more (clocks_to at d) chars c)

held-more : (at : ClockedState) (chars : List Char) (c : Char)
    → clocks_held at (chars ++ c ∷ [])
    ≡ clocks_held at chars
    + length (option_to_list (takes (clocks at chars).stands.port c).held)
unfolding clocks clocks_held
held-more at [] c = omega arith
held-more at (d ∷ chars) c =
    let rest = held-more (clocks_to at d) chars c in
    omega (arith, rest)

freed-more : (at : ClockedState) (chars : List Char) (c : Char)
    → clocks_freed at (chars ++ c ∷ [])
    ≡ clocks_freed at chars + length (takes (clocks at chars).stands.port c).freed
unfolding clocks clocks_freed
freed-more at [] c = omega arith
freed-more at (d ∷ chars) c =
    let rest = freed-more (clocks_to at d) chars c in
    omega (arith, rest)

fired-more : (at : ClockedState) (chars : List Char) (c : Char)
    → clocks_fired at (chars ++ c ∷ [])
    ≡ clocks_fired at chars
    + (if clock_fires (clocks at chars).stands c then 1 else 0)
unfolding clocks clocks_fired
fired-more at [] c = omega arith
fired-more at (d ∷ chars) c =
    let rest = fired-more (clocks_to at d) chars c in
    omega (arith, rest)

-- what is told of clocks, and of one more behind them
TellsClocks-more : (old now : ClockedState) (chars : List Char) (c : Char)
    (told told_next : ClocksTold) (room room_next : List ℕ) → TellsClocks old chars told
    → now ≡ (clocks old chars).stands → AddsClock now c told told_next room room_next
    → TellsClocks old (chars ++ c ∷ []) told_next
TellsClocks-more old now chars c told told_next room room_next h is adds =
    let last : AddsClock (clocks old chars).stands c told told_next room room_next =
    subst (λ (s : ClockedState). AddsClock s c told told_next room room_next) is adds in
    let long = length-append chars (c ∷ []) in
    record {
      clocks = let one = last.clocks in let before = h.clocks in omega (arith, one, before, long);
      held = last.held ∙ ap (λ (n : ℕ). n
          + length (option_to_list (takes (clocks old chars).stands.port c).held)) h.held
          ∙ sym (held-more old chars c);
      freed = last.freed ∙ ap (λ (n : ℕ). n
          + length (takes (clocks old chars).stands.port c).freed) h.freed
          ∙ sym (freed-more old chars c);
      fired = last.fired ∙ ap (λ (n : ℕ). n
          + (if clock_fires (clocks old chars).stands c then 1 else 0)) h.fired
          ∙ sym (fired-more old chars c);
    }

-- ---- the clocks of a run, of which these numbers are left

pub record IsClocked (numbers begun room : List ℕ) (told : ClocksTold) (old now : ClockedState)
    (left : List ℕ) : Type 0 where
  pub taken : ClocksTaken numbers begun room told old now
  pub behind : taken.rest ≡ left
  pub count : told.clocks + length left ≡ length numbers
  pub held : told.held + length left ≤ length numbers
  pub freed : told.freed + 31 * length left ≤ 31 * length numbers
  pub fired : told.fired + length left ≤ length numbers

pub IsClocked-begin : (numbers room : List ℕ) (told : ClocksTold) (at : ClockedState)
    → told ≡ no_clocks_told → IsClocked numbers room room told at at numbers
unfolding clocks clocks_held clocks_freed clocks_fired
IsClocked-begin numbers room told at none = record {
  taken = record {
    front = [];
    rest = numbers;
    are = refl;
    tells = record {
      clocks = ap (λ (t : ClocksTold). t.clocks) none;
      held = ap (λ (t : ClocksTold). t.held) none;
      freed = ap (λ (t : ClocksTold). t.freed) none;
      fired = ap (λ (t : ClocksTold). t.fired) none;
    };
    stands = refl;
    room_is = refl;
  };
  behind = refl;
  count = ap (λ (t : ClocksTold). t.clocks + length numbers) none ∙ omega arith;
  held = let e = ap (λ (t : ClocksTold). t.held) none in omega (arith, e);
  freed = let e = ap (λ (t : ClocksTold). t.freed) none in omega (arith, e);
  fired = let e = ap (λ (t : ClocksTold). t.fired) none in omega (arith, e);
}

one_fired : (fires : Bool) → (if fires then 1 else 0) ≤ 1
one_fired true = omega arith
one_fired false = omega arith

-- the characters that were given, and one more
room-more : (old now : ClockedState) (chars : List Char) (c : Char)
    (told told_next : ClocksTold) (begun room room_next : List ℕ) → TellsClocks old chars told
    → now ≡ (clocks old chars).stands → AddsClock now c told told_next room room_next
    → room ≡ laid_over (char_wires (clocks old chars).given) begun
    → room_next ≡ laid_over (char_wires (clocks old (chars ++ c ∷ [])).given) begun
room-more old now chars c told told_next begun room room_next tells is adds room_is =
    let given = (clocks old chars).given in
    let size : told.clocks ≡ length (char_wires given) =
    tells.clocks ∙ sym (as_many_given old chars) ∙ sym (length-map given char_wire) in
    let gives = ap (λ (s : ClockedState). char_wires (clock_gives s c ∷ [])) is in
    adds.room_is
    ∙ put_behind (char_wires given) (char_wires (clock_gives now c ∷ [])) begun room told.clocks
    size room_is
    ∙ ap (λ (w : List ℕ). laid_over (char_wires given ++ w) begun) gives
    ∙ ap (λ (w : List ℕ). laid_over w begun)
    (sym (map-append char_wire given (clock_gives (clocks old chars).stands c ∷ [])))
    ∙ ap (λ (g : List Char). laid_over (char_wires g) begun) (sym (given-more old chars c))

-- a clock more
pub IsClocked-more : (numbers begun room room_next left rest : List ℕ) (number : ℕ)
    (told told_next : ClocksTold) (old now next : ClockedState)
    → IsClocked numbers begun room told old now left → left ≡ number ∷ rest
    → AddsClock now (wire_char number) told told_next room room_next
    → next ≡ clocks_to now (wire_char number)
    → IsClocked numbers begun room_next told_next old next rest
IsClocked-more numbers begun room room_next left rest number told told_next old now next h is adds
    goes =
    let c = wire_char number in
    let front = h.taken.front in
    let chars = wire_chars front in
    let more : chars ++ c ∷ [] ≡ wire_chars (front ++ number ∷ []) =
    sym (map-append wire_char front (number ∷ [])) in
    let long : length left ≡ suc (length rest) = ap length is in
    let one = adds.clocks in
    let held = one_held (takes now.port c).held in
    let fired = one_fired (clock_fires now c) in
    record {
      taken = record {
        front = front ++ number ∷ [];
        rest = rest;
        are = h.taken.are ∙ ap (λ (l : List ℕ). front ++ l) (h.behind ∙ is)
            ∙ sym (append_assoc front (number ∷ []) rest);
        tells =
            subst (λ (cs : List Char). TellsClocks old cs told_next) more
            (TellsClocks-more old now chars c told told_next room room_next h.taken.tells
            h.taken.stands adds);
        stands = goes ∙ ap (λ (s : ClockedState). clocks_to s c) h.taken.stands
            ∙ sym (stands-more old chars c)
            ∙ ap (λ (cs : List Char). (clocks old cs).stands) more;
        room_is =
            room-more old now chars c told told_next begun room room_next h.taken.tells
            h.taken.stands adds h.taken.room_is
            ∙ ap (λ (cs : List Char). laid_over (char_wires (clocks old cs).given) begun) more;
      };
      behind = refl;
      count = let count = h.count in omega (arith, count, long, one);
      held = let has = h.held in let adds_held = adds.held in
          omega (arith, has, adds_held, held, long);
      freed = let has = h.freed in let adds_freed = adds.freed in let few = adds.few in
          omega (arith, has, adds_freed, few, long);
      fired = let has = h.fired in let adds_fired = adds.fired in
          omega (arith, has, adds_fired, fired, long);
    }

-- the clocks of a port that is seen so
pub ClocksSeen-by : (numbers room room_after : List ℕ) (told : ClocksTold)
    (seen old : PortSeen) (at : ClockedState) → seen ≡ old
    → ClocksTaken numbers room room_after told (clocked_seen seen) at
    → ClocksSeen numbers room room_after told old (port_told at seen.text)
ClocksSeen-by numbers room room_after told seen old at same taken =
    subst (λ (s : PortSeen). ClocksSeen numbers room room_after told s (port_told at seen.text))
    same (at, taken, refl)
