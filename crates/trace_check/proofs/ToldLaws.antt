-- What would have been lawful at the line that a checker tells.
use Rattle.std.proofs.Common.{◌≡◌, ℕ, ◌+◌, ◌++◌, Bool, false, List, [], ◌∷◌, length, Option, Some, None, IfSome, IsSome, refl, sym, ap, ◌∙◌, subst, arith, append_assoc, length-append}
use Rattle.fabric_script.specs.declared.lines.Line.{Line}
use Rattle.fabric_script.specs.SetUps.{SetUpLines}
use Rattle.trace_lines.specs.Lines.{Begun, TraceLine}
use Rattle.trace_check.specs.declared.checker.Checker.{Checker}
use Rattle.trace_check.specs.declared.checking.Unlawful.{Unlawful}
use Rattle.trace_check.specs.declared.expecting.Expected.{Expected}
use Rattle.trace_check.specs.declared.reader.Reader.{Reader}
use Rattle.trace_check.specs.declared.state.Fault.{Fault as ReadFault}
use Rattle.trace_check.specs.declared.state.State.{State}
use Rattle.trace_check.specs.Expecting.{IsExpected, IsExplained, IsSo}
use Rattle.trace_check.specs.Lawful.{Fault, fault_number}
use Rattle.trace_check.specs.Starting.{net_of}
use Rattle.trace_check.specs.States.{fault_of, IsLineIn, IsReachedState, ReachedState, SparesAt}
use Rattle.trace_check.specs.Taken.{HasTakenLines}
use Rattle.trace_check.specs.Told.{IsToldAt, IsToldIn, IsToldNext, IsToldThere, LineIsTold}
use Rattle.trace_check.proofs.ExpectLaws.{if_some_map}
use Rattle.trace_check.proofs.LineIn.{line_in}
use Rattle.trace_check.proofs.TakeLaws.{going_on, IsChecked, waits_of}

-- what is told of a line by whatever is reached is so of it
abbrev pub TellsSo : State → TraceLine → Option Expected → Type 0
TellsSo state line expected = IfSome expected
    (λ e. (r : ReachedState) → IsReachedState r state → IsLineIn r.nodes line → IsSo r line e)

-- something is told of each line that such a fault hits
abbrev pub TellsSome : State → TraceLine → Option Expected → Type 0
TellsSome state line expected = (r : ReachedState) (short : Bool) (fault : Fault)
    → IsReachedState r state → IsLineIn r.nodes line → IsExplained (fault_number fault)
    → (SparesAt r line short fault → ⊥) → IsSome expected

pub one_told : (set_up : SetUpLines) (old : Reader) (line : TraceLine) (short : Bool)
    (expected : Option Expected) (fault : ReadFault) {state : State} → old.ended ≡ false
    → IsChecked old state line short (Some fault) → TellsSo old.state line expected
    → TellsSome old.state line expected
    → LineIsTold set_up old line (fault_number (fault_of fault)) expected
one_told set_up old line short expected fault going checked told some =
    λ texts rest text spelled read.
    let are = going_on set_up old going read in
    let within = subst (λ n. IsLineIn n line) (sym are.behind.nodes_are)
    (line_in set_up.known line spelled.fits) in
    record {
      told = if_some_map expected told (λ e so. record {
        front = texts;
        text = text;
        rest = rest;
        lines = are.lines;
        line = line;
        split = refl;
        at = refl;
        spelled = are.read.0;
        pass = are.read.1;
        spells = spelled;
        r = are.r;
        reached = are.behind;
        so = so are.r are.reached within;
      });
      some = λ explained. some are.r short (fault_of fault) are.reached within explained
          (checked are.r are.reached within).answer.0;
    }

-- the event line that waited is told
pub event_told : (old : Checker) (event : Line) (hit : Unlawful) (expected : Option Expected)
    → old.waiting ≡ Some event → hit.line ≡ old.lines
    → LineIsTold old.set_up old.reader (Begun event) hit.reason expected
    → (texts rest : List (List ℕ)) → HasTakenLines texts old
    → IsToldAt old.set_up (texts ++ rest) hit expected
event_told old event hit expected is at tells = λ texts rest has.
    let waits = waits_of old.set_up old.reader texts old.waiting event is has.taken in (
      length waits.front,
      at ∙ has.count ∙ ap length waits.split ∙ length-append waits.front (waits.text ∷ []),
      subst (λ (l : List (List ℕ)).
          IsToldThere old.set_up l (length waits.front) hit.reason expected)
          (sym (append_assoc waits.front (waits.text ∷ []) rest)
          ∙ ap (λ (l : List (List ℕ)). l ++ rest) (sym waits.split))
          (tells waits.front rest waits.text waits.spelled (waits.read rest)),
    )

-- the next line is told
pub told_more : (set_up : SetUpLines) (text : List ℕ) (texts : List (List ℕ)) (hit : Unlawful)
    (expected : Option Expected) (lines : ℕ) → lines ≡ length texts → hit.line ≡ lines + 1
    → IsToldNext set_up texts text hit.reason expected
    → IsToldIn set_up (texts ++ text ∷ []) hit expected
told_more set_up text texts hit expected lines count at tells = λ rest. (
  length texts,
  at ∙ ap (λ n. n + 1) count,
  subst (λ (l : List (List ℕ)). IsToldThere set_up l (length texts) hit.reason expected)
      (sym (append_assoc texts (text ∷ []) rest)) (tells rest),
)

-- nothing is told of the form
pub form_told : (set_up : SetUpLines) (texts : List (List ℕ)) (hit : Unlawful)
    (expected : Option Expected) (place : ℕ) → hit.line ≡ place + 1 → hit.reason ≡ 21
    → expected ≡ None → IsToldAt set_up texts hit expected
form_told set_up texts hit expected place at form none = (
  place,
  at,
  record {
    told = subst (λ o. IfSome o (IsExpected set_up.known (net_of set_up) texts place)) (sym none)
        tt;
    some = λ explained. absurd (omega (arith, explained, form));
  },
)
