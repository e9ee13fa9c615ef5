-- What `io` reads and writes: set-up lines, reads and writes of memory, and what became of them.
use Rattle.std.specs.Prelude.{ℕ, List, Option}
use Rattle.fabric_script.specs.declared.lines.Numbered.{Numbered}
use Rattle.io_script.specs.IoScripts.{IsIoScript}
use Rattle.io_script.specs.declared.lines.NumberedIo.{NumberedIo}
use Rattle.io_rounds.specs.Drives.{DrivenWhole, DrivenFront}

-- The bytes spell set-up lines, a line `---`, and lines of reads and writes.
pub record HasAccesses (bytes : List ℕ) : Type 0 where
  pub names : List (List ℕ)
  pub set_up : List Numbered
  pub lines : List NumberedIo
  pub spells : IsIoScript bytes names set_up lines

-- They were carried out, and what became of them was written.
pub record CarriesOut (bytes : List ℕ) (written written_after : Option (List ℕ)) : Type 0 where
  pub is : HasAccesses bytes
  pub driven : DrivenWhole is.names is.set_up is.lines written written_after

-- A front of that was written.
pub record CarriesFront (bytes : List ℕ) (written written_after : Option (List ℕ)) : Type 0 where
  pub is : HasAccesses bytes
  pub driven : DrivenFront is.names is.set_up is.lines written written_after
