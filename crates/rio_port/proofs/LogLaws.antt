-- Logs that are written piece by piece.
use Rattle.std.proofs.Common.{◌≡◌, ℕ, Option, List, [], ◌++◌, Bool, true, false, drop, refl, sym, ap, subst, ◌∙◌}
use Rattle.std.proofs.KnownBytes.{Appends-nil, Keeps-refl}
use Rattle.rio_chars.specs.Unless.{WritesUnless}
use Rattle.rio_chars.specs.Written.{Outgoing, Writes}
use Rattle.rio_chars.proofs.UnlessLaws.{WritesUnless-then}
use Rattle.rio_chars.proofs.WrittenLaws.{Writes-whole}
use Rattle.port_lines.specs.declared.settings.PortSettings.{PortSettings}
use Rattle.rio_port.specs.Logs.{AddsLog, AskLog, KeepsAll, SaysLog}
use Rattle.rio_port.specs.Program.{AskSettings, AskNoPort}

WritesUnless-nil : (failed : Bool) (said : Option (List ℕ)) (faults : ℕ)
    → WritesUnless failed said faults failed said faults []
WritesUnless-nil true said faults = (Keeps-refl said, refl)
WritesUnless-nil false said faults = (Appends-nil said, refl)

-- nothing was written
pub AddsLog-none : (is_asked : Bool) (said : Option (List ℕ)) (faults : ℕ) (failed : Bool)
    → AddsLog is_asked said faults failed said faults failed
AddsLog-none is_asked said faults failed = record {
  log = [];
  none = λ is. refl;
  says = WritesUnless-nil failed said faults;
}

pub AddsLog-then : (is_asked : Bool) (said : Option (List ℕ)) (faults : ℕ) (failed : Bool)
    (said_mid : Option (List ℕ)) (faults_mid : ℕ) (failed_mid : Bool)
    (said_last : Option (List ℕ)) (faults_last : ℕ) (failed_last : Bool)
    → AddsLog is_asked said faults failed said_mid faults_mid failed_mid
    → AddsLog is_asked said_mid faults_mid failed_mid said_last faults_last failed_last
    → AddsLog is_asked said faults failed said_last faults_last failed_last
AddsLog-then is_asked said faults failed said_mid faults_mid failed_mid said_last faults_last
    failed_last h g = record {
      log = h.log ++ g.log;
      none = λ is. ap (λ (l : List ℕ). l ++ g.log) (h.none is) ∙ g.none is;
      says = WritesUnless-then failed said faults failed_mid said_mid faults_mid failed_last
          said_last faults_last h.log g.log h.says g.says;
    }

-- a log of what was asked and had failed before
pub logs_same : (is_asked was_asked : Bool) (said : Option (List ℕ)) (faults : ℕ)
    (failed had_failed : Bool) (said_after : Option (List ℕ)) (faults_after : ℕ)
    (failed_after : Bool) → is_asked ≡ was_asked → failed ≡ had_failed
    → AddsLog is_asked said faults failed said_after faults_after failed_after
    → AddsLog was_asked said faults had_failed said_after faults_after failed_after
logs_same is_asked was_asked said faults failed had_failed said_after faults_after failed_after
    asked has_failed h =
    subst (λ before. AddsLog was_asked said faults before said_after faults_after failed_after)
    has_failed
    (subst (λ asks. AddsLog asks said faults failed said_after faults_after failed_after) asked h)

pub SaysLog-none : (words : List (List ℕ)) (said : Option (List ℕ)) (faults : ℕ)
    → SaysLog words said faults said faults false
SaysLog-none words said faults = record {
  log = [];
  none = λ is. refl;
  says = WritesUnless-nil false said faults;
}

-- a log of the words that ask for it, or do not
pub SaysLog-asked : (is_asked : Bool) (words rest : List (List ℕ)) (said : Option (List ℕ))
    (faults : ℕ) (said_after : Option (List ℕ)) (faults_after : ℕ) (failed : Bool)
    → AskLog is_asked words rest
    → AddsLog is_asked said faults false said_after faults_after failed
    → SaysLog words said faults said_after faults_after failed
SaysLog-asked true words rest said faults said_after faults_after failed asks h = record {
  log = h.log;
  none = λ unlogged. absurd (unlogged asks.0 asks.1 rest asks.2);
  says = h.says;
}
SaysLog-asked false words rest said faults said_after faults_after failed asks h =
    record { log = h.log; none = λ unlogged. h.none refl; says = h.says }

-- words ask for a log in one way
log_alone : (one other : Bool) (words rest last : List (List ℕ)) → AskLog one words rest
    → AskLog other words last → rest ≡ last
log_alone true true words rest last h g = ap (drop 3) (sym h.2 ∙ g.2)
log_alone true false words rest last h g = absurd (g.1 h.0 h.1 rest h.2)
log_alone false true words rest last h g = absurd (h.1 g.0 g.1 last g.2)
log_alone false false words rest last h g = h.0 ∙ sym g.0

pub no_port_asked : (is_asked : Bool) (words rest : List (List ℕ)) → AskLog is_asked words rest
    → ((settings : PortSettings) → ¬ AskSettings rest settings) → AskNoPort words
no_port_asked is_asked words rest splits none other last settings asks made =
    none settings (subst (λ ws. AskSettings ws settings)
    (sym (log_alone is_asked other words rest last splits asks)) made)

-- what was told to an outbox that had been told nothing, and does not wait
pub kept_all : (start out : Outgoing) (text : List ℕ) (failed : Bool) → start.waiting ≡ []
    → Writes start out text → failed ≡ out.failed → out.waiting ≡ []
    → KeepsAll failed start.written out.written text
kept_all start out text true empty told is none = tt
kept_all start out text false empty told is none =
    Writes-whole start out text empty told (sym is) none
