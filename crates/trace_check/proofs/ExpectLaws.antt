-- What would have been lawful at the line ahead.
use Rattle.std.proofs.Common.{◌≡◌, ◌↔◌, ℕ, Bool, true, false, List, length, Option, Some, None, Bor, inl, inr, IfSome, IsSome, IsSomeAnd, refl, subst, arith}
use Rattle.fabric_script.specs.Known.{Known, IsOrderly}
use Rattle.fabric_model.specs.Network.{Network}
use Rattle.trace_check.specs.declared.expecting.Expected.{Expected}
use Rattle.trace_check.specs.declared.state.State.{State}
use Rattle.trace_check.specs.Expecting.{IsExplained, IsToBeTold, TellsLine}
use Rattle.script_input.specs.Inputs.{texts_ahead, texts_of}
use Rattle.trace_check.specs.Lawful.{as_behind}
use Rattle.trace_check.specs.Outcomes.{HitsNextText}
use Rattle.trace_check.specs.States.{fault_of, IsReachedState, ReachedState}
use Rattle.trace_check.specs.Verdicts.{ExpectedAt, IsStop}
use Rattle.trace_check.specs.Wires.{are_short}
use Rattle.trace_check.proofs.StopLaws.{Ahead, Answered, hit_ahead, IsAhead, IsFirst}

pub if_some_map : {A : Type 0} {P Q : A → Type 0} (o : Option A) → IfSome o P
    → ((x : A) → P x → Q x) → IfSome o Q
if_some_map None some f = tt
if_some_map (Some x) some f = f x some

-- what is told by whatever is reached is so of it
pub told_of : {state : State} {Within : ReachedState → Type 0}
    (So : ReachedState → Expected → Type 0) (o : Option Expected)
    → ((r : ReachedState) → IsReachedState r state → Within r → IsSomeAnd o (So r))
    → IfSome o (λ e. (r : ReachedState) → IsReachedState r state → Within r → So r e)
told_of So None told = tt
told_of So (Some e) told = told

-- what is told of the next line is so behind the lines that were read
told_ahead : {known : Known} {net : Network} {bytes : List ℕ} {first number steps : ℕ}
    {text left : Bor (List ℕ)} {state : State} {expected : Expected} (ended : Bool)
    → IsAhead known net bytes first number (Some (text, left)) ended steps state
    → ended ≡ false → Answered known state (λ r. TellsLine known r text.now expected)
    → ExpectedAt known net (texts_of bytes) first number expected
told_ahead true is goes told = absurd cc
told_ahead {text = text} {left} false is goes told =
    let are = is.are in
    let line = told are.r are.reached are.behind.nodes_are in (
      length is.front,
      is.number_is,
      record {
        front = is.front;
        text = text.now;
        rest = texts_of left.now;
        lines = are.lines;
        line = line.0;
        split = is.split;
        at = refl;
        spelled = are.read.0;
        pass = are.read.1;
        spells = line.1;
        r = are.r;
        reached = are.behind;
        so = line.2;
      },
    )

-- a text that such a reason hits is to be told
to_be_told : (known : Known) (r : ReachedState) (text : List ℕ) (short ended : Bool) (reason : ℕ)
    → HitsNextText known r text short ended reason → IsExplained reason
    → (ended ≡ false) × IsToBeTold known r text
to_be_told known r text short true reason form told =
    absurd (omega (arith, told, form))
to_be_told known r text short false reason (inl (form, none)) told =
    absurd (omega (arith, told, form))
to_be_told known r text short false reason (inr found) told = (
  refl,
  record {
    line = found.line;
    spelled = found.spelled;
    short = short;
    fault = fault_of found.fault;
    explained = subst IsExplained found.number told;
    hits = found.least.0;
  },
)

-- the line ahead is hit, and was asked for or not
pub stop_ahead : {known : Known} {net : Network} {bytes : List ℕ} {first number steps reason : ℕ}
    {asked : Option ℕ} {text left : Bor (List ℕ)} {ended short asks : Bool} {state : State}
    {expected : Option Expected} (next : Ahead) → IsOrderly known
    → IsAhead known net bytes first number (Some (text, left)) ended steps state
    → IsFirst left.now next → short ≡ are_short (as_behind (texts_ahead next))
    → Answered known state (λ r. HitsNextText known r text.now short ended reason)
    → (asks ≡ true) ↔ (asked ≡ Some number)
    → IfSome expected (λ e. (asks ≡ true) × (ended ≡ false)
    × Answered known state (λ r. TellsLine known r text.now e))
    → (asks ≡ true → ended ≡ false
    → Answered known state (λ r. IsToBeTold known r text.now → IsSome expected))
    → IsStop known net (texts_of bytes) first asked (record { line = number; reason = reason })
    expected
stop_ahead {known} {reason = reason} {text = text} {ended = ended} {short} {expected = expected}
    next orderly is first short_is hits asks told some = record {
      stops = hit_ahead next orderly is first short_is hits;
      told = if_some_map expected told
          (λ e tells. (asks.0 tells.0, told_ahead ended is tells.1 tells.2));
      some = λ asked explained.
          let are = is.are in
          let nodes = are.behind.nodes_are in
          let tell = to_be_told known are.r text.now short ended reason
          (hits are.r are.reached nodes) explained in
          some (asks.1 asked) tell.0 are.r are.reached nodes tell.1;
    }
