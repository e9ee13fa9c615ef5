-- Set-up lines alone that pass are a script that passes, and none of them is an event. An event is
-- read behind them exactly.
use Rattle.std.proofs.Common.{◌≡◌, ℕ, ◌&&◌, ◌||◌, not, ◌⊎◌, inl, inr, Result, Ok, Err, IfOk, IsOk, IsErrOf, false, List, [], ◌∷◌, refl, sym, ap, ◌∙◌}
use Rattle.fabric_script.specs.declared.known.Mode.{Mode}
use Rattle.fabric_script.specs.declared.reasons.Reason.TheVariants.{OutOfPlace, TooMuchWork}
use Rattle.fabric_script.specs.declared.lines.Line.{Line}
use Rattle.fabric_script.specs.declared.lines.Line.TheVariants.{Endpoint}
use Rattle.fabric_script.specs.declared.lines.Numbered.{Numbered}
use Rattle.fabric_script.specs.declared.set_ups.EventEnd.{EventEnd}
use Rattle.fabric_script.specs.declared.set_ups.EventEnd.TheVariants.{Refused, NoMemory}
use Rattle.fabric_script.specs.Lines.{is_event, new_name}
use Rattle.fabric_script.specs.Known.{Known, IsOrderly, known_after, nothing_in}
use Rattle.fabric_script.specs.Refusals.{counts_work, exceeds, out_of_place, out_of_place_in, too_much_work}
use Rattle.fabric_script.specs.Reading.{MayBe, IsFree, Spells}
use Rattle.fabric_script.specs.Scripts.{PassesFrom, PassesIn, ScriptPasses}
use Rattle.fabric_script.specs.SetUps.{NoEvents, IsRefused}
use Rattle.fabric_script.proofs.LineLaws.{same_line}
use Rattle.fabric_script.proofs.ReadLaws.{spelled_no_hit}
use Rattle.fabric_script.proofs.ScriptLaws.{least_once}

-- what is known, where other lines may stand
abbrev pub with_mode : Known → Mode → Known
with_mode known mode = record known { mode = mode }

-- which lines may stand is no matter of the names
pub orderly_in : {known : Known} {mode : Mode} → IsOrderly known
    → IsOrderly (with_mode known mode)
orderly_in orderly = record { named = orderly.named; apart = orderly.apart }

-- what a line may say does not depend on which lines may stand
pub may_in : (known : Known) (mode : Mode) (new : List ℕ) (line : Line) → MayBe known new line
    → MayBe (with_mode known mode) new line
may_in known mode new (Endpoint name id) may = record { fit = may.fit; next = may.next }
may_in known mode new _ may = record { fit = may.fit; next = may.next }

-- no more do the reasons, but for where a line stands and what it costs
pub free_in : (known : Known) (mode : Mode) (line : Line)
    → out_of_place (with_mode known mode) line ≡ false
    → too_much_work (with_mode known mode) line ≡ false
    → IsFree known line → IsFree (with_mode known mode) line
free_in known mode line place work free OutOfPlace = place
free_in known mode line place work free TooMuchWork = work
free_in known mode (Endpoint name id) place work free reason = free reason
free_in known mode _ place work free reason = free reason

-- no event is free
no_event : (known : Known) (line : Line) → known.mode ≡ Mode.SetUp → IsFree known line
    → is_event line ≡ false
no_event known line mode free =
    ap (λ m. out_of_place_in m known.begun (is_event line)) (sym mode) ∙ free OutOfPlace

passes_alone : (known : Known) (names : List (List ℕ)) (lines : List Numbered)
    → known.mode ≡ Mode.SetUp → known.begun ≡ false → PassesFrom known names lines
    → PassesFrom (with_mode known Mode.Script) names lines × NoEvents lines
passes_alone known names [] mode begun passes = (passes, tt)
passes_alone known names (line ∷ lines) mode begun passes =
    let new = new_name names line.line in
    let after = known_after known new line.line in
    let event = no_event known line.line mode passes.1 in
    let rest = passes_alone after names lines mode (λ i. begun i || event i) passes.2 in (
      (
        may_in known Mode.Script new line.line passes.0,
        free_in known Mode.Script line.line (ap (λ b. b && not (is_event line.line)) begun)
            (ap (λ m. counts_work m && exceeds known line.line) (sym mode) ∙ passes.1 TooMuchWork)
            passes.1,
        rest.0,
      ),
      (event, rest.1),
    )

pub set_up_passes : (names : List (List ℕ)) (lines : List Numbered)
    → PassesIn Mode.SetUp names lines → ScriptPasses names lines × NoEvents lines
set_up_passes names lines passes = passes_alone (nothing_in Mode.SetUp) names lines refl refl passes

-- ---- an event is spelled or refused once

pub only_event : (known : Known) (text : List ℕ) (result : Result Line EventEnd)
    → IsOrderly known → IfOk result (λ read. Spells known text read)
    → ((number : ℕ) → IsErrOf result (Refused number) → IsRefused known text number)
    → (event : Line) → Spells known text event
    → IfOk result (λ read. read ≡ event) × (IsErrOf result NoMemory ⊎ IsOk result)
only_event known text (Ok read) orderly is refused event spells =
    (same_line known text read event orderly is.says spells.says, inr refl)
only_event known text (Err (Refused number)) orderly is refused event spells =
    let hits = (refused number refl).least.hits in
    absurd (spelled_no_hit known text event (refused number refl).reason orderly spells hits)
only_event known text (Err NoMemory) orderly is refused event spells = (tt, inl refl)

pub only_event_refusal : (known : Known) (text : List ℕ) (result : Result Line EventEnd)
    → IsOrderly known → IfOk result (λ read. Spells known text read)
    → ((number : ℕ) → IsErrOf result (Refused number) → IsRefused known text number)
    → (number : ℕ) → IsRefused known text number
    → IsErrOf result (Refused number) ⊎ IsErrOf result NoMemory
only_event_refusal known text (Ok read) orderly is refused number hits =
    absurd (spelled_no_hit known text read hits.reason orderly is hits.least.hits)
only_event_refusal known text (Err (Refused other)) orderly is refused number hits =
    let told = refused other refl in
    let same = least_once known text told.reason hits.reason told.least hits.least in
    let equal = told.named ∙ same ∙ sym hits.named in
    inl (ap {A = ℕ} {B = Result Line EventEnd} (λ n. Err (Refused n)) equal)
only_event_refusal known text (Err NoMemory) orderly is refused number hits = inr refl
