-- A time-out that fires by itself.
use Rattle.std.proofs.Common.{◌≡◌, ◌==◌, ◌&&◌, ◌-◌, Bool, true, false, nat_lt, ℕ, List, [], ◌∷◌, refl, sym, ap, ◌∙◌, IsTrue, cond, if◌then◌else◌}
use Rattle.std.proofs.lemmas.Bool.{and_parts, eqb-true}
use Rattle.rio_chars.specs.declared.chars.Char.{Char}
use Rattle.link_model.specs.Prelude.{at_rest}
use Rattle.link_port.specs.Turns.{timed_out}
use Rattle.link_port.specs.Steps.{takes}
use Rattle.link_port.specs.Ports.{PortState}
use Rattle.port_lines.specs.Patience.{awaits_answer, same_out_state, is_all_given, is_quiet, patience_after, is_too_long, timed_out_if}
use Rattle.port_lines.specs.Clocks.{ClockedState, is_unanswered, clock_fires, clock_giving, clock_leaves, clocks_to}

-- what is true of a clock at whose end a time-out fires
pub record IsLate (at : ClockedState) (c : Char) : Type 0 where
  pub same : IsTrue (same_out_state at.port.output (takes at.port c).port.output)
  pub awaits : IsTrue (awaits_answer (clock_giving at c).port.output)
  pub given : IsTrue (is_all_given (clock_leaves at c))
  pub rests : IsTrue (at_rest (clock_giving at c).port.place)
  pub last : at.patience_left ≡ 1

pub is_late : (at : ClockedState) (c : Char) → IsTrue (clock_fires at c) → IsLate at c
is_late at c fires =
    let same = same_out_state at.port.output (takes at.port c).port.output in
    let awaits = awaits_answer (clock_giving at c).port.output in
    let given = is_all_given (clock_leaves at c) in
    let rests = at_rest (clock_giving at c).port.place in
    let both = and_parts (is_unanswered at c) (at.patience_left == 1) fires in
    let halves = and_parts (same && awaits) (given && rests) both.0 in
    let first = and_parts same awaits halves.0 in
    let second = and_parts given rests halves.1 in
    record {
      same = first.0;
      awaits = first.1;
      given = second.0;
      rests = second.1;
      last = eqb-true at.patience_left 1 both.1;
    }

pub all_given : (chars : List Char) → IsTrue (is_all_given chars) → chars ≡ []
all_given [] is = refl
all_given (c ∷ chars) is = absurd cc

pub late_port : (fires : Bool) (port : PortState) → IsTrue fires
    → timed_out_if fires port ≡ timed_out port
late_port true port is = refl
late_port false port is = absurd cc

-- behind the last clock all patience is left again
pub patience_anew : (patience left : ℕ) (unanswered : Bool) → left ≡ 1
    → patience_after patience left unanswered ≡ patience
patience_anew patience left false one = refl
patience_anew patience left true one =
    ap (λ n. patience_after patience n true) one

pub patience_none : (patience left : ℕ) (unanswered : Bool) → patience ≡ 0 → left ≡ 0
    → patience_after patience left unanswered ≡ 0
patience_none patience left false none zero = none
patience_none patience left true none zero =
    ap (λ n. patience_after patience n true) zero ∙ none
