-- How far the lines of a trace have been read, and what is told in the end.
use Rattle.std.proofs.Common.{◌≡◌, ℕ, suc, ◌+◌, ◌++◌, ◌<◌, ◌≤◌, Bool, true, false, List, [], ◌∷◌, length, Option, Some, None, Bor, inl, inr, MatchOption, IfSome, refl, sym, ap, ◌∙◌, subst, arith, append_assoc, length-append}
use Rattle.std.proofs.lemmas.List.{append-nil}
use Rattle.fabric_script.specs.Known.{Known, IsOrderly}
use Rattle.fabric_model.specs.Network.{Network}
use Rattle.trace_lines.specs.Lines.{TraceLine, Stepped, steps_of}
use Rattle.fabric_trace.proofs.Parts.Keeping.{steps_of-append}
use Rattle.trace_check.specs.declared.state.State.{State}
use Rattle.trace_check.specs.Checks.{LinePasses, PassAll}
use Rattle.script_input.specs.Inputs.{texts_ahead, texts_of}
use Rattle.trace_check.specs.Lawful.{as_behind, BehindLast, Fault, fault_number, HitsLine, HitsNext, is_last, IsLawful, IsUnlawful, SpellsNone, NotCome, PassFront, SpellAll, SpellFront}
use Rattle.trace_check.specs.Outcomes.{HitsNextText, ReadsNextText}
use Rattle.trace_check.specs.SoFar.{AreRead, HasRead}
use Rattle.trace_check.specs.States.{fault_of, IsReachedState, reached_after, ReachedState, SparesAt, unreached}
use Rattle.trace_check.specs.Verdicts.{StopsAt}
use Rattle.trace_check.specs.Wires.{are_short}
use Rattle.trace_lines.specs.Words.{SpellsLine}
use Rattle.trace_check.proofs.Behind.{text_short}
use Rattle.trace_check.proofs.Fronts.{pass_more}
use Rattle.trace_check.proofs.Reaching.{on_behind, other_behind, passes_so, stands_by, stands_so, start_behind}

-- the next line and what stands behind it, if there is one
abbrev pub Ahead : Type 0
Ahead = Option (Bor (List ℕ) × Bor (List ℕ))

-- how many bytes are left, and one more if a line is there
abbrev pub left_ahead : Ahead → ℕ
left_ahead None = 0
left_ahead (Some found) = suc (length found.1.now)

-- what the first line of bytes says of them
abbrev pub IsFirst : List ℕ → Ahead → Type 0
IsFirst bytes ahead =
    MatchOption ahead (bytes ≡ []) (λ found. texts_of bytes ≡ found.0.now ∷ texts_of found.1.now)

abbrev pub LeavesLess : List ℕ → Ahead → Type 0
LeavesLess bytes ahead = IfSome ahead (λ found. length found.1.now < length bytes)

ahead_is : (bytes : List ℕ) (ahead : Ahead) → IsFirst bytes ahead
    → texts_of bytes ≡ texts_ahead ahead
ahead_is bytes None none = ap texts_of none
ahead_is bytes (Some found) texts = texts

ahead_less : (bytes : List ℕ) (ahead : Ahead) → LeavesLess bytes ahead
    → left_ahead ahead ≤ length bytes
ahead_less bytes None less = omega arith
ahead_less bytes (Some found) less = omega (arith, less)

-- lines were read, and this is the next one
pub record IsAhead (known : Known) (net : Network) (bytes : List ℕ) (first number : ℕ)
    (ahead : Ahead) (ended : Bool) (steps : ℕ) (state : State) : Type 0 where
  pub front : List (List ℕ)
  pub split : texts_of bytes ≡ front ++ texts_ahead ahead
  pub number_is : number ≡ first + length front
  pub few : length front + left_ahead ahead ≤ length bytes
  pub are : AreRead known net front (texts_ahead ahead) ended steps state

none_front : (net : Network) (rest : List (List ℕ)) → PassFront net [] rest
none_front net rest [] line behind is = absurd cc
none_front net rest (x ∷ before) line behind is = absurd cc

-- none is read
pub none_read : {known : Known} {net : Network} {state : State} (rest : List (List ℕ))
    → IsReachedState (unreached (length known.names) net) state
    → AreRead known net [] rest false 0 state
none_read {known} {net} rest reached = record {
  lines = [];
  read = (refl, none_front net rest);
  count = refl;
  few = omega arith;
  r = unreached (length known.names) net;
  reached = reached;
  behind = start_behind;
}

pub begin_ahead : {known : Known} {net : Network} {bytes : List ℕ} {first : ℕ} {ahead : Ahead}
    {state : State} → IsFirst bytes ahead → LeavesLess bytes ahead
    → IsReachedState (unreached (length known.names) net) state
    → IsAhead known net bytes first first ahead false 0 state
begin_ahead {bytes = bytes} {first} {ahead} texts less reached =
    let few = ahead_less bytes ahead less in record {
      front = [];
      split = ahead_is bytes ahead texts;
      number_is = omega arith;
      few = omega (arith, few);
      are = none_read (texts_ahead ahead) reached;
    }

-- ---- one more line

pub front_more : {known : Known} {text : List ℕ} {line : TraceLine} (texts : List (List ℕ))
    (lines : List TraceLine) → SpellFront known texts lines → SpellsLine known text line
    → is_last line ≡ false → SpellFront known (texts ++ text ∷ []) (lines ++ line ∷ [])
front_more {line = line} [] lines none spells goes =
    (line, [], ap (λ (l : List TraceLine). l ++ line ∷ []) none, spells, goes, refl)
front_more {line = line} (x ∷ texts) lines front spells goes =
    let more = front_more texts front.1 front.5 spells goes in (
      front.0,
      front.1 ++ line ∷ [],
      ap (λ (l : List TraceLine). l ++ line ∷ []) front.2,
      front.3,
      front.4,
      more,
    )

pub read_more : {known : Known} {net : Network} {lines : List TraceLine} {text : List ℕ}
    {line : TraceLine} (texts : List (List ℕ)) (ends : Bool) (rest : List (List ℕ))
    → IsOrderly known
    → SpellFront known texts lines → PassFront net lines (text ∷ rest) → SpellsLine known text line
    → ends ≡ is_last line → LinePasses net lines line (as_behind rest)
    → HasRead known net ends (texts ++ text ∷ []) (lines ++ line ∷ []) rest
read_more {lines = lines} texts false rest orderly front pass spells goes passes = (
  front_more texts lines front spells (sym goes),
  pass_more rest orderly spells pass passes,
)
read_more {lines = lines} {text} {line} texts true rest orderly front pass spells ends passes =
    record {
      before = texts;
      text = text;
      earlier = lines;
      line = line;
      texts_are = refl;
      lines_are = refl;
      front = front;
      spelled = spells;
      last = sym ends;
      pass = pass;
      passes = passes;
    }

one_step : (line : TraceLine) → length (steps_of (line ∷ [])) ≤ 1
one_step (Stepped step) = omega arith
one_step _ = omega arith

-- what is answered of the next text, by whatever is reached behind the lines before it
abbrev pub Answered : Known → State → (ReachedState → Type 0) → Type 0
Answered known state Answers =
    (r : ReachedState) → IsReachedState r state → r.nodes ≡ length known.names → Answers r

-- one more text was read
pub read_on : {known : Known} {net : Network} {texts rest : List (List ℕ)} {text : List ℕ}
    {steps more : ℕ} {ended ends short : Bool} {state new : State}
    → IsOrderly known → AreRead known net texts (text ∷ rest) ended steps state
    → short ≡ are_short (as_behind rest)
    → Answered known state (λ r. ReadsNextText known r text short ended steps ends more new None)
    → AreRead known net (texts ++ text ∷ []) rest ends more new
read_on {ended = true} orderly is short_is reads =
    absurd (cc (reads is.r is.reached is.behind.nodes_are).0)
read_on {known} {net} {texts} {rest} {text} {ended = false} {ends = ends} {new = new} orderly is
    short_is reads =
    let goes = (reads is.r is.reached is.behind.nodes_are).1 in
    let line = goes.line in
    let behind = other_behind (text_short rest (as_behind rest) orderly goes.spelled) is.behind in
    let stand : (fault : Fault) → SparesAt is.r line (are_short (as_behind rest)) fault
    = subst (λ b. (fault : Fault) → SparesAt is.r line b fault) short_is goes.checked.answer in
    let passes = passes_so behind stand in
    let longer = length-append texts (text ∷ []) in
    let count = is.count in
    let few = is.few in
    let adds = goes.more_is in
    let low = one_step line in
    let all = ap length (steps_of-append is.lines (line ∷ []))
    ∙ length-append (steps_of is.lines) (steps_of (line ∷ [])) in
    record {
      lines = is.lines ++ line ∷ [];
      read = read_more texts ends rest orderly is.read.0 is.read.1 goes.spelled goes.ends_is passes;
      count = omega (arith, all, count, adds);
      few = omega (arith, longer, few, adds, low);
      r = reached_after is.r line (are_short (as_behind rest));
      reached = subst (λ b. IsReachedState (reached_after is.r line b) new) short_is
          (goes.checked.reached refl);
      behind = on_behind (stand NotCome) behind;
    }

pub on_ahead : {known : Known} {net : Network} {bytes : List ℕ} {first number steps more : ℕ}
    {text left : Bor (List ℕ)} {ended ends short : Bool} {state new : State} {next : Ahead}
    → IsOrderly known → IsAhead known net bytes first number (Some (text, left)) ended steps state
    → IsFirst left.now next → LeavesLess left.now next
    → short ≡ are_short (as_behind (texts_ahead next))
    → Answered known state
    (λ r. ReadsNextText known r text.now short ended steps ends more new None)
    → IsAhead known net bytes first (number + 1) next ends more new
on_ahead {known} {net} {steps = steps} {text = text} {left} {ended} {state = state} {next = next}
    orderly is first less short_is reads =
    let texts = ahead_is left.now next first in
    let longer = length-append is.front (text.now ∷ []) in
    let number_is = is.number_is in
    let few = is.few in
    let few_left = ahead_less left.now next less in
    record {
      front = is.front ++ text.now ∷ [];
      split = is.split ∙ ap (λ (l : List (List ℕ)). is.front ++ text.now ∷ l) texts
          ∙ sym (append_assoc is.front (text.now ∷ []) (texts_ahead next));
      number_is = omega (arith, longer, number_is);
      few = omega (arith, longer, few, few_left);
      are = read_on orderly
          (subst (λ (l : List (List ℕ)).
          AreRead known net is.front (text.now ∷ l) ended steps state) texts is.are) short_is reads;
    }

-- ---- what ends the reading

-- a reason hits what stands behind, and the trace has not ended
stops_here : {known : Known} {net : Network} {texts rest : List (List ℕ)} {steps reason : ℕ}
    {state : State} (is : AreRead known net texts rest false steps state)
    → HitsNext known net is.lines rest 0 reason
    → IsUnlawful known net (texts ++ rest) (length texts) reason
stops_here {texts = texts} {rest} is hits = record {
  front = texts;
  rest = rest;
  lines = is.lines;
  place = 0;
  split = refl;
  spelled = is.read.0;
  pass = is.read.1;
  hits = hits;
  at = omega arith;
}

-- a reason hits the next text
pub hit_on : {known : Known} {net : Network} {texts rest : List (List ℕ)} {text : List ℕ}
    {steps reason : ℕ} {ended short : Bool} {state : State}
    → IsOrderly known → AreRead known net texts (text ∷ rest) ended steps state
    → short ≡ are_short (as_behind rest)
    → Answered known state (λ r. HitsNextText known r text short ended reason)
    → IsUnlawful known net (texts ++ text ∷ rest) (length texts) reason
hit_on {known} {net} {texts} {rest} {text} {ended = true} orderly is short_is hits =
    let form = hits is.r is.reached is.behind.nodes_are in
    let ended = is.read in
    let counted = ap length ended.texts_are ∙ length-append ended.before (ended.text ∷ []) in
    subst (IsUnlawful known net (texts ++ text ∷ rest) (length texts)) (sym form) (record {
      front = ended.before;
      rest = ended.text ∷ text ∷ rest;
      lines = ended.earlier;
      place = 1;
      split = ap (λ (l : List (List ℕ)). l ++ text ∷ rest) ended.texts_are
          ∙ append_assoc ended.before (ended.text ∷ []) (text ∷ rest);
      spelled = ended.front;
      pass = ended.pass;
      hits = BehindLast ended.line ended.spelled ended.last ended.passes;
      at = omega (arith, counted);
    })
hit_on {known} {net} {texts} {rest} {text} {reason = reason} {ended = false} {short = short} orderly
    is short_is hits =
    stops_here is (by_reading (hits is.r is.reached is.behind.nodes_are))
  where
    by_reading : HitsNextText known is.r text short false reason
        → HitsNext known net is.lines (text ∷ rest) 0 reason
    by_reading (inl (form, none)) =
        subst (λ n. HitsNext known net is.lines (text ∷ rest) 0 n) (sym form) (SpellsNone none)
    by_reading (inr hit) =
        let behind = other_behind (text_short rest (as_behind rest) orderly hit.spelled)
        is.behind in
        let fails = subst (λ b. SparesAt is.r hit.line b (fault_of hit.fault) → ⊥) short_is
        hit.least.0 in
        let below = subst (λ b. (other : Fault) → fault_number other
        < fault_number (fault_of hit.fault) → SparesAt is.r hit.line b other) short_is
        hit.least.1 in
        subst (λ n. HitsNext known net is.lines (text ∷ rest) 0 n) (sym hit.number)
        (HitsLine hit.line (fault_of hit.fault) hit.spelled
        (λ stands. fails (stands_by behind (fault_of hit.fault) stands))
        (λ other less. stands_so behind other (below other less)))

-- the text ahead is hit
at_ahead : {known : Known} {net : Network} {bytes : List ℕ} {first number steps reason : ℕ}
    {ahead : Ahead} {ended : Bool} {state : State}
    (is : IsAhead known net bytes first number ahead ended steps state)
    → IsUnlawful known net (is.front ++ texts_ahead ahead) (length is.front) reason
    → StopsAt known net (texts_of bytes) first number reason
at_ahead {known} {net} {reason = reason} is unlawful = (
  length is.front,
  is.number_is,
  subst (λ (l : List (List ℕ)). IsUnlawful known net l (length is.front) reason) (sym is.split)
      unlawful,
)

pub hit_ahead : {known : Known} {net : Network} {bytes : List ℕ} {first number steps reason : ℕ}
    {text left : Bor (List ℕ)} {ended short : Bool} {state : State} (next : Ahead)
    → IsOrderly known → IsAhead known net bytes first number (Some (text, left)) ended steps state
    → IsFirst left.now next → short ≡ are_short (as_behind (texts_ahead next))
    → Answered known state (λ r. HitsNextText known r text.now short ended reason)
    → StopsAt known net (texts_of bytes) first number reason
hit_ahead {left = left} next orderly is first short_is hits =
    at_ahead is (hit_on orderly is.are (short_is ∙ ap (λ (l : List (List ℕ)).
    are_short (as_behind l)) (sym (ahead_is left.now next first))) hits)

-- the last text did not end the trace
pub none_on : {known : Known} {net : Network} {texts : List (List ℕ)} {steps : ℕ} {state : State}
    → AreRead known net texts [] false steps state
    → IsUnlawful known net (texts ++ []) (length texts) 21
none_on is = stops_here is (SpellsNone tt)

pub none_ahead : {known : Known} {net : Network} {bytes : List ℕ} {first number steps : ℕ}
    {state : State} → IsAhead known net bytes first number None false steps state
    → StopsAt known net (texts_of bytes) first number 21
none_ahead is = at_ahead is (none_on is.are)

-- ---- the whole trace

pub spell_all : {known : Known} {text : List ℕ} {line : TraceLine} (before : List (List ℕ))
    (earlier : List TraceLine) → SpellFront known before earlier → SpellsLine known text line
    → is_last line ≡ true → SpellAll known (before ++ text ∷ []) (earlier ++ line ∷ [])
spell_all {line = line} [] earlier none spells last =
    (line, ap (λ (l : List TraceLine). l ++ line ∷ []) none, spells, last)
spell_all {line = line} (x ∷ []) earlier front spells last = (
  front.0,
  front.1 ++ line ∷ [],
  ap (λ (l : List TraceLine). l ++ line ∷ []) front.2,
  front.3,
  front.4,
  spell_all [] front.1 front.5 spells last,
)
spell_all {line = line} (x ∷ y ∷ before) earlier front spells last = (
  front.0,
  front.1 ++ line ∷ [],
  ap (λ (l : List TraceLine). l ++ line ∷ []) front.2,
  front.3,
  front.4,
  spell_all (y ∷ before) front.1 front.5 spells last,
)

-- the texts end the trace
pub all_read : {known : Known} {net : Network} {texts : List (List ℕ)} {steps : ℕ} {state : State}
    → IsOrderly known → AreRead known net texts [] true steps state
    → IsLawful known net texts steps
all_read {known} {net} {texts} orderly is =
    let ended = is.read in
    let all = spell_all ended.before ended.earlier ended.front ended.spelled ended.last in
    let front = pass_more [] orderly ended.spelled ended.pass ended.passes in
    record {
      lines = is.lines;
      spelled = subst (λ (l : List (List ℕ)). SpellAll known l is.lines) (sym ended.texts_are)
          (subst (SpellAll known (ended.before ++ ended.text ∷ [])) (sym ended.lines_are) all);
      pass = subst (PassAll net) (sym ended.lines_are)
          (λ before line behind same. subst (λ (l : List TraceLine). LinePasses net before line l)
          (append-nil behind) (front before line behind same));
      count = is.count;
    }

pub all_ahead : {known : Known} {net : Network} {bytes : List ℕ} {first number steps : ℕ}
    {state : State} → IsOrderly known
    → IsAhead known net bytes first number None true steps state
    → IsLawful known net (texts_of bytes) steps
all_ahead {known} {net} {steps = steps} orderly is =
    subst (λ (l : List (List ℕ)). IsLawful known net l steps)
    (sym (is.split ∙ append-nil is.front)) (all_read orderly is.are)
