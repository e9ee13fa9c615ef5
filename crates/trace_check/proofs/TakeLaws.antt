-- What one more line leaves of what a checker has taken.
use Rattle.std.proofs.Common.{◌≡◌, ℕ, ◌+◌, ◌++◌, Bool, true, false, List, [], ◌∷◌, length, Option, Some, None, Err, IsErrOf, ◌⊎◌, inl, inr, refl, sym, ap, ◌∙◌, subst, arith, append_assoc, length-append}
use Rattle.fabric_script.specs.declared.lines.Line.{Line}
use Rattle.fabric_script.specs.declared.ports.PortRef.{PortRef}
use Rattle.fabric_script.specs.Known.{IsOrderly}
use Rattle.fabric_script.specs.SetUps.{SetUpLines}
use Rattle.fabric_trace.specs.Wires.{WireChars}
use Rattle.trace_lines.specs.Lines.{Begun, Ended, Fired, Got, Lacked, Sent, Signed, Stepped, steps_of, TraceLine, Undetected}
use Rattle.trace_lines.specs.declared.lines.TraceLine.{TraceLine as ReadLine}
use Rattle.trace_lines.specs.declared.lines.TraceLine.TheVariants as R
use Rattle.trace_lines.specs.Reads.{line_read}
use Rattle.trace_lines.specs.Words.{SpellsLine}
use Rattle.trace_check.specs.declared.checker.Checker.{Checker}
use Rattle.trace_check.specs.declared.checking.CheckEnd.{CheckEnd}
use Rattle.trace_check.specs.declared.checking.CheckEnd.TheVariants as C
use Rattle.trace_check.specs.declared.checking.Unlawful.{Unlawful}
use Rattle.trace_check.specs.declared.reader.Reader.{Reader}
use Rattle.trace_check.specs.declared.state.Fault.{Fault as ReadFault}
use Rattle.trace_check.specs.declared.state.State.{State}
use Rattle.trace_check.specs.Checks.{OnWires}
use Rattle.trace_check.specs.Keeping.{LooksAt}
use Rattle.trace_check.specs.Lawful.{as_behind, Fault, fault_number, is_last, IsUnlawful, NoLine, NoSuchStep, NotAllowed, NotCome, NotThere, OffWire}
use Rattle.trace_check.specs.Outcomes.{HitsNextText}
use Rattle.trace_check.specs.SoFar.{AreRead}
use Rattle.trace_check.specs.Starting.{net_of}
use Rattle.trace_check.specs.States.{Checks, fault_of, IsLeast, IsLineIn, IsReachedState, reached_after, ReachedState, SparesAt}
use Rattle.trace_check.specs.Taken.{AreReadBy, AreReadTo, AreTaken, HasTakenLines, LineIsHit, IsHitAt, IsHitIn, IsHitNext, ReadsOne, EventWaits}
use Rattle.trace_check.specs.Wires.{are_short, told_wires}
use Rattle.trace_check.proofs.AnswerLaws.{reads_by}
use Rattle.trace_check.proofs.LineIn.{line_in}
use Rattle.trace_check.proofs.StopLaws.{hit_on, read_on}

-- ---- what is judged alike

-- what is said of a wire that is too short is the same, or the line is no event
abbrev AreAlike : TraceLine → Bool → Bool → Type 0
AreAlike (Begun line) a b = a ≡ b
AreAlike line a b = Unit {0}

alike_back : (line : TraceLine) (a b : Bool) → AreAlike line a b → AreAlike line b a
alike_back (Begun line) a b same = sym same
alike_back (Stepped step) a b same = tt
alike_back (Signed sign) a b same = tt
alike_back (Lacked lack) a b same = tt
alike_back Ended a b same = tt
alike_back (Undetected number q e) a b same = tt

alike_by : (line : TraceLine) (short : Bool) (rest : List (List ℕ)) → LooksAt line short rest
    → AreAlike line short (are_short (as_behind rest))
alike_by (Begun line) short rest looks = looks
alike_by (Stepped step) short rest looks = tt
alike_by (Signed sign) short rest looks = tt
alike_by (Lacked lack) short rest looks = tt
alike_by Ended short rest looks = tt
alike_by (Undetected number q e) short rest looks = tt

on_alike : (links : List (PortRef × PortRef)) (wires : WireChars) (line : TraceLine) (a b : Bool)
    → AreAlike line a b → OnWires links wires line a → OnWires links wires line b
on_alike links wires (Begun line) a b same on =
    subst (λ short. OnWires links wires (Begun line) short) same on
on_alike links wires (Stepped step) a b same on = on
on_alike links wires (Signed (Sent p chars)) a b same on = on
on_alike links wires (Signed (Got q chars)) a b same on = on
on_alike links wires (Signed (Fired p)) a b same on = on
on_alike links wires (Lacked lack) a b same on = on
on_alike links wires Ended a b same on = on
on_alike links wires (Undetected number q e) a b same on = on

told_alike : (links : List (PortRef × PortRef)) (wires : WireChars) (line : TraceLine) (a b : Bool)
    → AreAlike line a b → told_wires links wires line a ≡ told_wires links wires line b
told_alike links wires (Begun line) a b same =
    ap (λ short. told_wires links wires (Begun line) short) same
told_alike links wires (Stepped step) a b same = refl
told_alike links wires (Signed sign) a b same = refl
told_alike links wires (Lacked lack) a b same = refl
told_alike links wires Ended a b same = refl
told_alike links wires (Undetected number q e) a b same = refl

module _ (r : ReachedState) (line : TraceLine) where
  spares_alike : (a b : Bool) → AreAlike line a b → (fault : Fault) → SparesAt r line a fault
      → SparesAt r line b fault
  spares_alike a b same OffWire on = on_alike r.net.links r.wires line a b same on
  spares_alike a b same NoSuchStep is = is
  spares_alike a b same NotCome is = is
  spares_alike a b same NotAllowed is = is
  spares_alike a b same NotThere is = is

  least_alike : (a b : Bool) → AreAlike line a b → (fault : Option ReadFault)
      → IsLeast (SparesAt r line a) fault → IsLeast (SparesAt r line b) fault
  least_alike a b same None all = λ fault. spares_alike a b same fault (all fault)
  least_alike a b same (Some found) least = (
    λ stands. least.0 (spares_alike b a (alike_back line a b same) (fault_of found) stands),
    λ other less. spares_alike a b same other (least.1 other less),
  )

  checks_alike : {a b : Bool} {state : State} {fault : Option ReadFault} → AreAlike line a b
      → Checks r line a state fault → Checks r line b state fault
  checks_alike {a} {b} {state} {fault} same is = record {
    answer = least_alike a b same fault is.answer;
    reached = λ none.
        let told = told_alike r.net.links r.wires line a b same in
        subst (λ x. IsReachedState x state)
        (λ i. record (reached_after r line a) { wires = told i }) (is.reached none);
  }

-- ---- one line

-- it is judged so, whatever is reached before it
abbrev pub IsChecked : Reader → State → TraceLine → Bool → Option ReadFault → Type 0
IsChecked old state line short fault = (r : ReachedState) → IsReachedState r old.state
    → IsLineIn r.nodes line → Checks r line short state fault

-- the texts before it have not ended the trace
pub going_on : (set_up : SetUpLines) (reader : Reader) {texts rest : List (List ℕ)}
    → reader.ended ≡ false → AreReadBy set_up reader texts rest
    → AreRead set_up.known (net_of set_up) texts rest false reader.steps reader.state
going_on set_up reader {texts} {rest} going are = subst (λ ended.
    AreRead set_up.known (net_of set_up) texts rest ended reader.steps reader.state) going are

module _ (set_up : SetUpLines) (old : Reader) (line : TraceLine) (short : Bool)
    (orderly : IsOrderly set_up.known) (going : old.ended ≡ false) where
  -- a line that a text spells is judged behind what is reached
  judged : {state : State} {fault : Option ReadFault} {text : List ℕ} (rest : List (List ℕ))
      → IsChecked old state line short fault → SpellsLine set_up.known text line
      → LooksAt line short rest → (r : ReachedState) → IsReachedState r old.state
      → r.nodes ≡ length set_up.known.names
      → Checks r line (are_short (as_behind rest)) state fault
  judged rest checked spelled looks r is nodes =
      checks_alike r line (alike_by line short rest looks) (checked r is
      (subst (λ n. IsLineIn n line) (sym nodes) (line_in set_up.known line spelled.fits)))

  pub one_read : (new : Reader) → IsChecked old new.state line short None
      → new.ended ≡ is_last line → new.steps ≡ old.steps + length (steps_of (line ∷ []))
      → ReadsOne set_up old new line short
  one_read new checked ends more = λ texts rest text spelled looks are.
      let behind = are_short (as_behind rest) in
      read_on {short = behind} orderly (going_on set_up old going are) refl (λ r is nodes.
      reads_by behind old.steps new.ended new.steps None spelled ends more
      (judged rest checked spelled looks r is nodes))

  pub one_hit : (fault : ReadFault) {state : State} → IsChecked old state line short (Some fault)
      → LineIsHit set_up old line short (fault_number (fault_of fault))
  one_hit fault checked = λ texts rest text spelled looks are.
      hit_on {short = are_short (as_behind rest)} orderly (going_on set_up old going are) refl
      (λ r is nodes.
      inr (record {
        line = line;
        spelled = spelled;
        fault = fault;
        number = refl;
        least = (judged rest checked spelled looks r is nodes).answer;
      }))

-- ---- the line that waits

pub waits_of : (set_up : SetUpLines) (reader : Reader) (texts : List (List ℕ))
    (waiting : Option Line) (line : Line) → waiting ≡ Some line
    → AreTaken set_up reader texts waiting
    → EventWaits set_up reader texts line
waits_of set_up reader texts None line is taken = absurd cc
waits_of set_up reader texts (Some other) line is taken =
    let same : other ≡ line = cc in subst (EventWaits set_up reader texts) same taken

pub none_waits : (set_up : SetUpLines) (reader : Reader) (texts : List (List ℕ))
    (waiting : Option Line) → waiting ≡ None → AreTaken set_up reader texts waiting
    → (rest : List (List ℕ)) → AreReadBy set_up reader texts rest
none_waits set_up reader texts None is taken = taken
none_waits set_up reader texts (Some line) is taken = absurd cc

-- it is judged by what stands behind it, as far as that says of a wire that it is too short
abbrev pub IsJudged : Checker → Reader → Bool → Type 0
IsJudged old reader short = (texts rest : List (List ℕ)) → HasTakenLines texts old
    → short ≡ are_short (as_behind rest) → AreReadBy old.set_up reader texts rest

pub none_judged : (old : Checker) (short : Bool) → old.waiting ≡ None
    → IsJudged old old.reader short
none_judged old short none = λ texts rest has short_is.
    none_waits old.set_up old.reader texts old.waiting none has.taken rest

pub event_judged : (old : Checker) (reader : Reader) (short : Bool) (event : Line)
    → old.waiting ≡ Some event → ReadsOne old.set_up old.reader reader (Begun event) short
    → IsJudged old reader short
event_judged old reader short event is reads = λ texts rest has short_is.
    let waits = waits_of old.set_up old.reader texts old.waiting event is has.taken in
    subst (λ (l : List (List ℕ)). AreReadBy old.set_up reader l rest) (sym waits.split)
    (reads waits.front rest waits.text waits.spelled short_is (waits.read rest))

pub event_hit : (old : Checker) (short : Bool) (event : Line) (hit : Unlawful)
    → old.waiting ≡ Some event → hit.line ≡ old.lines
    → LineIsHit old.set_up old.reader (Begun event) short hit.reason
    → (texts rest : List (List ℕ)) → HasTakenLines texts old → short ≡ are_short (as_behind rest)
    → IsHitAt old.set_up (texts ++ rest) hit
event_hit old short event hit is at hits = λ texts rest has short_is.
    let waits = waits_of old.set_up old.reader texts old.waiting event is has.taken in (
      length waits.front,
      at ∙ has.count ∙ ap length waits.split ∙ length-append waits.front (waits.text ∷ []),
      subst (λ (l : List (List ℕ)).
          IsUnlawful old.set_up.known (net_of old.set_up) l (length waits.front) hit.reason)
          (sym (append_assoc waits.front (waits.text ∷ []) rest)
          ∙ ap (λ (l : List (List ℕ)). l ++ rest) (sym waits.split))
          (hits waits.front rest waits.text waits.spelled short_is (waits.read rest)),
    )

-- ---- the next line

-- apart from events no line looks at what stands behind it
pub no_look : (line : ReadLine) (rest : List (List ℕ))
    → ((event : Line) → line ≡ R.Begun event → ⊥) → LooksAt (line_read line) false rest
no_look (R.Begun event) rest other = absurd (other event refl)
no_look (R.Stepped step) rest other = tt
no_look (R.Sent port chars) rest other = tt
no_look (R.Got port chars) rest other = tt
no_look (R.Fired port) rest other = tt
no_look (R.Lacked lack) rest other = tt
no_look R.Ended rest other = tt
no_look (R.Undetected number port event) rest other = tt

-- what a text says of a wire
abbrev pub Says : List ℕ → Bool → Type 0
Says text short = (rest : List (List ℕ)) → short ≡ are_short (as_behind (text ∷ rest))

pub read_to : (old : Checker) (reader : Reader) (short : Bool) (text : List ℕ)
    (texts : List (List ℕ)) → IsJudged old reader short → Says text short → HasTakenLines texts old
    → AreReadTo old.set_up reader texts text
read_to old reader short text texts judged says has = λ rest.
    judged texts (text ∷ rest) has (says rest)

pub taken_more : (old new : Checker) (text : List ℕ) (texts : List (List ℕ))
    → new.set_up ≡ old.set_up → new.lines ≡ old.lines + 1 → HasTakenLines texts old
    → AreTaken old.set_up new.reader (texts ++ text ∷ []) new.waiting
    → HasTakenLines (texts ++ text ∷ []) new
taken_more old new text texts same more has taken =
    let count = has.count in
    let longer = length-append texts (text ∷ []) in
    record {
      count = omega (arith, more, count, longer);
      taken = subst (λ s. AreTaken s new.reader (texts ++ text ∷ []) new.waiting) (sym same) taken;
    }

pub hit_more : (set_up : SetUpLines) (text : List ℕ) (texts : List (List ℕ)) (hit : Unlawful)
    (lines : ℕ) → lines ≡ length texts → hit.line ≡ lines + 1
    → IsHitNext set_up texts text hit.reason → IsHitIn set_up (texts ++ text ∷ []) hit
hit_more set_up text texts hit lines count at hits = λ rest. (
  length texts,
  at ∙ ap (λ n. n + 1) count,
  subst (λ (l : List (List ℕ)).
      IsUnlawful set_up.known (net_of set_up) l (length texts) hit.reason)
      (sym (append_assoc texts (text ∷ []) rest)) (hits rest),
)

-- what is told of a hit
pub same_hit : {T : Type 0} (end : CheckEnd) (line reason : ℕ) (hit : Unlawful)
    → end ≡ C.Unlawful (record { line = line; reason = reason })
    → IsErrOf {T = T} {E = CheckEnd} (Err end) (C.Unlawful hit)
    → (hit.line ≡ line) × (hit.reason ≡ reason)
same_hit end line reason hit is told = (cc, cc)

-- a text that is no line, or stands behind the last
pub form_hit : (set_up : SetUpLines) (reader : Reader) (text : List ℕ) (texts : List (List ℕ))
    → IsOrderly set_up.known → AreReadTo set_up reader texts text
    → ((reader.ended ≡ true) ⊎ NoLine set_up.known (text ∷ []))
    → IsHitNext set_up texts text 21
form_hit set_up reader text texts orderly are why = λ rest.
    hit_on {short = are_short (as_behind rest)} orderly (are rest) refl
    (λ r is nodes. by_end r (are_short (as_behind rest)) reader.ended refl)
  where
    by_end : (r : ReachedState) (short ended : Bool) → reader.ended ≡ ended
        → HitsNextText set_up.known r text short ended 21
    by_end r short true is = refl
    by_end r short false is = elim why as (λ w. HitsNextText set_up.known r text short false 21)
        [ inl end ↦ absurd (cc (is, end)) | inr none ↦ inl (refl, none) ]
