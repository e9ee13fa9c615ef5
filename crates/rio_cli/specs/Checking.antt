-- What `check` reads and writes: set-up lines and a trace, and whether it is lawful.
use Rattle.std.specs.Prelude.{ℕ, List, ◌++◌, Option, codes}
use Rattle.std.specs.Fmt.{decimal}
use Rattle.std.specs.Io.KnownBytes.{Appends}
use Rattle.rio_chars.specs.Fronts.{AppendsFront}
use Rattle.fabric_script.specs.Known.{Known}
use Rattle.fabric_script.specs.declared.lines.Numbered.{Numbered}
use Rattle.script_input.specs.Inputs.{IsInput}
use Rattle.trace_check.specs.Outcomes.{HasLawful}

-- the line that tells a lawful trace of so many steps
abbrev pub lawful_text : ℕ → List ℕ
lawful_text steps = codes "lawful " ++ decimal steps ++ codes "\n"

-- Set-up lines that no reason hits, a line `---`, and lines behind it.
pub record HasTrace (bytes : List ℕ) : Type 0 where
  pub set_up : List Numbered
  pub known : Known
  pub texts : List (List ℕ)
  pub input : IsInput bytes set_up known texts

-- The trace is lawful, and how many steps it has was told.
pub record ChecksTrace (bytes : List ℕ) (written written_after : Option (List ℕ)) : Type 0 where
  pub steps : ℕ
  pub lawful : HasLawful bytes steps
  pub told : Appends written written_after (lawful_text steps)

-- The trace is lawful, and a front of the line that tells so was written.
pub record ChecksFront (bytes : List ℕ) (written written_after : Option (List ℕ)) : Type 0 where
  pub steps : ℕ
  pub lawful : HasLawful bytes steps
  pub told : AppendsFront written written_after (lawful_text steps)
