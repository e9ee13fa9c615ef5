-- A walker frees what it keeps, or is lost, once it has read a greater lock, and not before.
use Rattle.contest_machine.proofs.Prelude.{◌≡◌, ◌≢◌, ℕ, ◌↔◌, true, List, [], ◌∷◌, ◌++◌, subst, sym, refl, ap, ◌∙◌, Device, paths_of, not_in_empty, Side, PendingWrite, Stage, Ask, Claim, Check, Test, Features, Information, Status, Free, Done, Lost, Walker, fresh, kept, waits_or_goes, ends, came_at, came_of, Both, after_turns, IsNew, walker_of, locks_over, HasGreater, IsLostWalker, LostHostsMetAGreater, LostIsForAGreater}
use Rattle.contest_machine.specs.declared.stages.Turn.TheVariants as Turns
use Rattle.contest_machine.proofs.Turns.Steps.{turns_with, after_one_more}
use Rattle.contest_machine.proofs.Turns.Judged.{IsJudgedAt, IsJudged, step_judged}

-- ---- what the turn answers

pub lost_stage : (w after : Walker) (stage : Stage) → came_at w after stage ≡ Turns.Lost
    → stage ≡ Lost
lost_stage w after Ask is = absurd (waiting w.todo after.todo is)
  where
    waiting : (todo left : List PendingWrite) → waits_or_goes todo left ≢ Turns.Lost
    waiting [] [] e = cc
    waiting (p ∷ rest) left e = cc
    waiting [] (p ∷ rest) e = cc
lost_stage w after Done is = absurd (done after.todo is)
  where
    done : (left : List PendingWrite) → ends left Turns.Done ≢ Turns.Lost
    done [] e = cc
    done (p ∷ rest) e = cc
lost_stage w after Lost is = refl
lost_stage w after _ is = absurd (cc)

module _ (id : ℕ) (locks : List ℕ) (w after : Walker) where
  no_device : (devices : List Device) → devices ≢ [] → paths_of devices ++ [] ≢ []
  no_device [] some e = some refl
  no_device (device ∷ rest) some e = cc

  lost_if : (stage : Stage) → IsJudgedAt id locks after stage → HasGreater id locks
      → paths_of after.devices ++ [] ≡ [] → came_at w after stage ≡ Turns.Lost
  lost_if Ask none some nothing = absurd (none some)
  lost_if Claim none some nothing = absurd (none some)
  lost_if Check none some nothing = absurd (none some)
  lost_if Test none some nothing = absurd (none some)
  lost_if Features none some nothing = absurd (none some)
  lost_if Information none some nothing = absurd (none some)
  lost_if Status none some nothing = absurd (none some)
  lost_if Free holds some nothing = absurd (no_device after.devices holds.1 nothing)
  lost_if Done none some nothing = absurd (none some)
  lost_if Lost holds some nothing = ap (λ t. ends t Turns.Lost) holds.2

  keeps_none : (stage : Stage) → kept after ≡ [] → IsJudgedAt id locks after stage
      → HasGreater id locks → paths_of after.devices ++ [] ≡ []
  keeps_none stage nothing holds some = all after.devices nothing
    where
      all : (devices : List Device) → paths_of devices ++ fresh after.stage after.path ≡ []
          → paths_of devices ++ [] ≡ []
      all [] is = refl
      all (device ∷ rest) is = absurd (cc)

  is_lost : IsJudged id locks after
      → (came_of w after ≡ Turns.Lost) ↔ (HasGreater id locks × (kept after ≡ []))
  is_lost holds = (
    λ lost.
        let stage = lost_stage w after after.stage lost in
        let judged = subst (IsJudgedAt id locks after) stage holds.1 in (
          judged.0,
          ap (λ d. paths_of d ++ fresh after.stage after.path)
              judged.1
              ∙ ap (λ s. fresh s after.path) stage,
        ),
    λ found.
        lost_if after.stage holds.1 found.0 (keeps_none after.stage found.1 holds.1 found.0),
  )

-- ---- over all turns

pub new_judged : (w : Walker) → IsNew w → IsJudged w.id [] w
new_judged w new = (
  refl,
  subst (IsJudgedAt w.id [] w) (sym new.stage) (λ found. not_in_empty found.0 found.1),
)

begun_judged : (id : ℕ) (locks : List ℕ) (w : Walker) → IsJudged id locks w
    → IsJudged id locks (record w { begun = true })
begun_judged id locks w holds = (holds.0, go w.stage holds.1)
  where
    go : (stage : Stage) → IsJudgedAt id locks w stage
        → IsJudgedAt id locks (record w { begun = true }) stage
    go Ask none = none
    go Claim none = none
    go Check none = none
    go Test none = none
    go Features none = none
    go Information none = none
    go Status none = none
    go Free some = some
    go Done none = none
    go Lost some = some

judged_after : (both : Both) (turns : List Side) (side : Side) → IsNew (walker_of both side)
    → IsJudged (walker_of both side).id (locks_over both side turns)
    (walker_of (after_turns both turns) side)
judged_after both turns side new =
    let id : ℕ = (walker_of both side).id in
    turns_with (IsJudged id) (step_judged id) (begun_judged id) [] both side turns
    (new_judged (walker_of both side) new)

pub lost_exactly : LostIsForAGreater
lost_exactly both turns side new =
    let id : ℕ = (walker_of both side).id in
    let all : List Side = turns ++ side ∷ [] in
    let holds = judged_after both all side new in
    subst (λ b. (came_of (walker_of (after_turns both turns) side) (walker_of b side) ≡ Turns.Lost)
    ↔ (HasGreater id (locks_over both side all)
    × (kept (walker_of (after_turns both all) side) ≡ [])))
    (after_one_more both turns side)
    (is_lost id (locks_over both side all) (walker_of (after_turns both turns) side)
    (walker_of (after_turns both all) side) holds)

-- ---- a host that is lost

module _ (id : ℕ) (locks : List ℕ) (w : Walker) (judged : IsJudged id locks w) where
  keeps_nothing : w.stage ≡ Lost → HasGreater id locks × (kept w ≡ [])
  keeps_nothing stage =
      let at = subst (IsJudgedAt id locks w) stage judged.1 in (
        at.0,
        ap (λ d. paths_of d ++ fresh w.stage w.path) at.1 ∙ ap (λ s. fresh s w.path) stage,
      )

  gave_up : (stage : Stage) → IsJudgedAt id locks w stage → HasGreater id locks
      → paths_of w.devices ++ [] ≡ [] → stage ≡ Lost
  gave_up Ask none some nothing = absurd (none some)
  gave_up Claim none some nothing = absurd (none some)
  gave_up Check none some nothing = absurd (none some)
  gave_up Test none some nothing = absurd (none some)
  gave_up Features none some nothing = absurd (none some)
  gave_up Information none some nothing = absurd (none some)
  gave_up Status none some nothing = absurd (none some)
  gave_up Free holds some nothing = absurd (no_device id locks w w w.devices holds.1 nothing)
  gave_up Done none some nothing = absurd (none some)
  gave_up Lost holds some nothing = refl

  clear : w.stage ≡ Lost → w.todo ≡ []
  clear stage = (subst (IsJudgedAt id locks w) stage judged.1).2

  lost_stage_is : IsLostWalker w ↔ (HasGreater id locks × (kept w ≡ []))
  lost_stage_is = (
    λ lost. keeps_nothing lost.0,
    λ found.
        let stage = gave_up w.stage judged.1 found.0
        (keeps_none id locks w w w.stage found.1 judged.1 found.0) in
        (stage, clear stage),
  )

pub lost_hosts_met_a_greater : LostHostsMetAGreater
lost_hosts_met_a_greater both turns side new =
    lost_stage_is (walker_of both side).id (locks_over both side turns)
    (walker_of (after_turns both turns) side) (judged_after both turns side new)
