-- What `soak` writes of a number.
use Rattle.std.specs.Prelude.{◌≡◌, ◌⊎◌, ℕ, List, ◌++◌, Option, codes}
use Rattle.std.specs.Fmt.{decimal}
use Rattle.std.specs.Io.KnownBytes.{Appends, Keeps}
use Rattle.rio_chars.specs.Faults.{Rose}
use Rattle.rio_chars.specs.Fronts.{AppendsFront}
use Rattle.link_model.specs.declared.event.Event.{Event}
use Rattle.fabric_script.specs.Soak.{soak_lines}
use Rattle.fabric_script.specs.declared.ports.PortRef.{PortRef}
use Rattle.fabric_replay.specs.Summing.{Summed, SummedUndetected}
use Rattle.fabric_replay.specs.declared.summing.Counts.{Counts}
use Rattle.rio_cli.specs.declared.status.Status.{Status}
use Rattle.rio_cli.specs.declared.status.Status.TheVariants.{Done, Words, Script, ReadFault, WriteFault, NoMemory, Undetected, TooLong, Locked, Unlawful}

-- the four lines of the counts
abbrev pub counts_text : Counts → List ℕ
counts_text counts = codes "taken " ++ (decimal counts.taken ++ (codes "\nleft "
    ++ (decimal counts.left ++ (codes "\ndropped " ++ (decimal counts.dropped
    ++ (codes "\nheld " ++ (decimal counts.held ++ codes "\n")))))))

-- the line where a port acted on what was not sent
abbrev pub undetected_text : List ℕ
undetected_text = codes "undetected\n"

-- The script that the number stands for has one trace, whose counts these are.
pub record SoaksTo (seed : ℕ) (text : List ℕ) : Type 0 where
  pub counts : Counts
  pub summed : Summed (soak_lines seed) counts
  pub lines : text ≡ counts_text counts

-- Its one trace ends with an event that a port acted on and that was not sent.
pub record SoaksUndetected (seed : ℕ) : Type 0 where
  pub line : ℕ
  pub port : PortRef
  pub event : Event
  pub summed : SummedUndetected (soak_lines seed) line port event

-- The four lines were written.
abbrev pub Soaks : ℕ → Option (List ℕ) → Option (List ℕ) → Type 0
Soaks seed written written_after =
    (text : List ℕ) × SoaksTo seed text × Appends written written_after text

-- The one line was written, since such an event was not sent.
abbrev pub SoaksInto : ℕ → Option (List ℕ) → Option (List ℕ) → Type 0
SoaksInto seed written written_after =
    SoaksUndetected seed × Appends written written_after undetected_text

-- A front of either was written.
abbrev pub SoaksFront : ℕ → Option (List ℕ) → Option (List ℕ) → Type 0
SoaksFront seed written written_after =
    ((text : List ℕ) × SoaksTo seed text × AppendsFront written written_after text)
    ⊎ (SoaksUndetected seed × AppendsFront written written_after undetected_text)

-- by the status; memory runs out before anything is written
abbrev pub SaysOfSoak : ℕ → Status → Option (List ℕ) → ℕ → Option (List ℕ) → ℕ → Type 0
SaysOfSoak seed Done written faults written_after faults_after = Soaks seed written written_after
SaysOfSoak seed Undetected written faults written_after faults_after =
    SoaksInto seed written written_after
SaysOfSoak seed WriteFault written faults written_after faults_after =
    Rose faults faults_after × SoaksFront seed written written_after
SaysOfSoak seed NoMemory written faults written_after faults_after = Keeps written written_after
SaysOfSoak seed Words written faults written_after faults_after = ⊥
SaysOfSoak seed Script written faults written_after faults_after = ⊥
SaysOfSoak seed ReadFault written faults written_after faults_after = ⊥
SaysOfSoak seed TooLong written faults written_after faults_after = ⊥
SaysOfSoak seed Locked written faults written_after faults_after = ⊥
SaysOfSoak seed Unlawful written faults written_after faults_after = ⊥
