-- Whatever a walker asks next is asked of a device, and is carried there and back.
use Rattle.contest_machine.proofs.Prelude.{◌≡◌, ◌≢◌, ℕ, ◌+◌, ◌*◌, ◌≤◌, List, [], ◌∷◌, length, Option, Some, None, IsSome, option_map, Contains, ◌⊎◌, inl, inr, subst, refl, Contains-append_left, same_Some, PortRef, entered, AllRegisters, Read, Write, Asked, PendingWrite, Tried, Stage, Ask, Claim, Check, Test, Features, Information, Status, Free, Done, Lost, Walker, kept, asked, last_path, status_asked, wants_at, wants_with, wants, AreOwnWrites, IsMine, WalkerIsWithin, IsCarried}
use Rattle.contest_machine.proofs.Turns.Led.{AreAtSwitches, IsLedAt, IsLed}
use Rattle.contest_machine.proofs.Numbering.Whole.{IsReady}
use Rattle.contest_machine.proofs.Asking.AllAsked.{ready_short}
use Rattle.contest_machine.proofs.Asking.AllOpen.{leaving_short, free_or_not, wanted_carried}
use Rattle.contest_machine.proofs.Asking.Guided.{IsGuided}
use Rattle.contest_machine.proofs.Asking.Opened.{IsOpening}
use Rattle.contest_machine.proofs.Asking.Trees.{last_listed}

entered_some : (o : Option PortRef) → IsSome (option_map (λ (p : PortRef). p.node) o)
    → (at : PortRef) × (o ≡ Some at)
entered_some None some = absurd (cc)
entered_some (Some at) some = (at, refl)

some_at : (o : Option PortRef) → IsSome o → (at : PortRef) × (o ≡ Some at)
some_at None some = absurd (cc)
some_at (Some at) some = (at, refl)

module _ (w : Walker) (now : AllRegisters) (within : WalkerIsWithin w) (mine : IsMine w now)
    (led : IsLed w) where
  abbrev Leads : Asked → Type 0
  Leads ask = (at : PortRef) × (entered w.view ask.path ≡ Some at)

  one : (this ask : Asked) → Some this ≡ Some ask → Leads this → Leads ask
  one this ask same leads = subst Leads (same_Some this ask same) leads

  kept_leads : (path : List ℕ) → Contains (kept w) path
      → (at : PortRef) × (entered w.view path ≡ Some at)
  kept_leads path found = entered_some (entered w.view path) (within.leading path found)

  stage_leads : (stage : Stage) → IsLedAt w stage → (ask : Asked) → wants_at w stage ≡ Some ask
      → Leads ask
  stage_leads Ask at ask wanted =
      one (asked w.path (Read 0x68)) ask wanted (some_at (entered w.view w.path) at)
  stage_leads Claim at ask wanted =
      one (asked w.path (Write 0x68 w.id)) ask wanted (some_at (entered w.view w.path) at.0)
  stage_leads Check at ask wanted =
      one (asked w.path (Read 0x68)) ask wanted (some_at (entered w.view w.path) at.0)
  stage_leads Test at ask wanted =
      one (asked w.path (Read 0x6c)) ask wanted (some_at (entered w.view w.path) at.0)
  stage_leads Features at ask wanted =
      one (asked w.path (Read 0x10)) ask wanted (some_at (entered w.view w.path) at.0)
  stage_leads Information at ask wanted = one (asked w.path (Read 0x14)) ask wanted (at.0.0, at.0.2)
  stage_leads Status some ask wanted = top w.tried led.0 wanted
    where
      top : (tried : List Tried) → AreAtSwitches w.view tried → status_asked tried ≡ Some ask
          → Leads ask
      top [] all none = absurd (cc)
      top (first ∷ rest) all wanted =
          one (asked first.path (Read (0x158 + 0x20 * first.port))) ask wanted
          (all.0.0, all.0.2)
  stage_leads Free some ask wanted =
      one (asked (last_path w.devices) (Write 0x68 w.id)) ask wanted
      (kept_leads (last_path w.devices)
      (Contains-append_left _ _ (last_path w.devices) (last_listed w.devices some)))
  stage_leads Done none ask wanted = absurd (cc)
  stage_leads Lost none ask wanted = absurd (cc)

  pub asked_leads : (ask : Asked) → wants w ≡ Some ask → Leads ask
  asked_leads ask wanted = go w.todo mine.own wanted
    where
      go : (todo : List PendingWrite) → AreOwnWrites (kept w) todo → wants_with w todo ≡ Some ask
          → Leads ask
      go [] own wanted = stage_leads w.stage led.1 ask wanted
      go (p ∷ rest) own wanted =
          one (asked p.path (Write p.offset p.value)) ask wanted (kept_leads p.path own.0.0)

pub asked_reaches : (before : AllRegisters) (w o : Walker) (now : AllRegisters)
    → IsReady before w o now → IsGuided w → IsOpening w now → (ask : Asked)
    → wants w ≡ Some ask
    → (at : PortRef) × (entered w.view ask.path ≡ Some at) × (length ask.path ≤ 64)
    × (ask.path ≢ [] → IsCarried w now ask at)
asked_reaches before w o now ready guided opening ask wanted =
    let there = asked_leads w now ready.fair.first.within ready.fair.contest.first
    ready.fair.first.led ask wanted in (
      there.0,
      there.1,
      go (free_or_not w.stage),
      λ some. wanted_carried before w o now ask there.0 ready guided opening (record {
        wanted = wanted;
        some = some;
        leads = there.1;
      }),
    )
  where
    go : (w.stage ≡ Free) ⊎ (w.stage ≢ Free) → length ask.path ≤ 64
    go (inl is) =
        leaving_short w now ready.fair.first.within.proper ready.fair.contest.first guided opening
        is ask wanted
    go (inr on) = ready_short before w o now ask ready guided on wanted
