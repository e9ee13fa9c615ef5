-- Set-up lines alone, and what is known of the lines behind them.
use Rattle.std.specs.Prelude.{◌≡◌, ◌≤◌, ℕ, false, List, length}
use Rattle.std.specs.List.{AllByRecursion}
use Rattle.fabric_script.specs.declared.reasons.Reason.{Reason}
use Rattle.fabric_script.specs.declared.lines.Numbered.{Numbered}
use Rattle.fabric_script.specs.Lines.{is_event}
use Rattle.fabric_script.specs.Known.{IsOrderly, Known, of_set_up, one_event}
use Rattle.fabric_script.specs.Reasons.{reason_number}
use Rattle.fabric_script.specs.Reading.{LeastHit}

-- the lines, and what is known of an event behind them
pub record SetUpLines : Type 0 where
  pub lines : List Numbered
  pub known : Known

-- none of the lines is an event
abbrev pub NoEvents : List Numbered → Type 0
NoEvents lines = AllByRecursion (λ (line : Numbered). is_event line.line ≡ false) lines

-- the same is known, and one event alone may stand
abbrev pub for_event : Known → Known
for_event known = record known { mode = one_event }

-- the same is known, and set-up lines alone may stand
abbrev pub for_set_up : Known → Known
for_set_up known = record known { mode = of_set_up }

-- What is always known behind set-up lines: the names are names and differ, one event alone may
-- stand, and the links are counted.
pub record KnownIsReady (known : Known) : Type 0 where
  pub orderly : IsOrderly known
  pub event : known.mode ≡ one_event
  pub few : length known.links ≤ 33554432

-- a text is refused, and this is the number of the least reason that hits it
pub record IsRefused (known : Known) (text : List ℕ) (number : ℕ) : Type 0 where
  pub reason : Reason
  pub named : number ≡ reason_number reason
  pub least : LeastHit known text reason
