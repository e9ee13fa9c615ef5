-- The nodes of the lines of a script have names.
use Rattle.std.proofs.Common.{ℕ, ◌+◌, All, List, [], ◌∷◌, length, sym, subst}
use Rattle.std.proofs.lemmas.List.Elements.{All-cons, All-nil}
use Rattle.fabric_script.specs.declared.lines.Numbered.{Numbered}
use Rattle.fabric_script.specs.Known.{Known}
use Rattle.fabric_script.specs.Scripts.{is_skipped}
use Rattle.script_input.proofs.InputOnce.{by_skipped}
use Rattle.io_script.specs.declared.lines.IoLine.{IoLine}
use Rattle.io_script.specs.declared.lines.IoLine.TheVariants.{Memory, NRead, NWrite, NWriteR, SWrite, Round}
use Rattle.io_script.specs.declared.lines.NumberedIo.{NumberedIo}
use Rattle.io_script.specs.IoForms.{io_fields_of}
use Rattle.io_script.specs.IoLines.{io_form_of, io_values_of, IsNamed}
use Rattle.io_script.specs.IoReading.{Earlier, earlier_with}
use Rattle.io_script.specs.IoScripts.{IsIoScript, SpellIoFrom}
use Rattle.io_script.specs.IoWords.{FitIoAll}
use Rattle.io_script.proofs.IoOnce.{KeptIo}

named_line : (known : Known) (line : IoLine)
    → FitIoAll known (io_fields_of (io_form_of line)) (io_values_of line)
    → IsNamed known.names line
named_line known (Memory node bytes) fit = fit.0.0
named_line known (NRead node dest addr size) fit = fit.0.0
named_line known (NWrite node dest addr load) fit = fit.0.0
named_line known (NWriteR node dest addr load) fit = fit.0.0
named_line known (SWrite node dest addr load) fit = fit.0.0
named_line known Round fit = tt

abbrev AreNamedIo : List (List ℕ) → List NumberedIo → Type 0
AreNamedIo names lines = All (λ line. IsNamed names line.io) lines

named_lines : (number : ℕ) (known : Known) (earlier : Earlier) (texts : List (List ℕ))
    (lines : List NumberedIo) → SpellIoFrom number known earlier texts lines
    → AreNamedIo known.names lines
named_lines number known earlier [] lines spelled =
    subst (AreNamedIo known.names) (sym spelled) (All-nil (λ line. IsNamed known.names line.io))
named_lines number known earlier (text ∷ texts) lines spelled =
    by_skipped (SpellIoFrom (number + 1) known earlier texts lines)
    (KeptIo number known earlier text texts lines) (AreNamedIo known.names lines)
    (is_skipped text)
    (λ skips. named_lines (number + 1) known earlier texts lines skips)
    (λ keeps.
    let first : NumberedIo = record { line = number; io = keeps.0 } in
    subst (AreNamedIo known.names) (sym keeps.2)
    (All-cons (λ line. IsNamed known.names line.io) first keeps.1
    (named_line known keeps.0 keeps.3.fit)
    (named_lines (number + 1) known (earlier_with (length known.links) earlier (io_form_of keeps.0))
    texts keeps.1 keeps.4)))
    spelled

pub script_named : (bytes : List ℕ) (names : List (List ℕ)) (set_up : List Numbered)
    (lines : List NumberedIo) → IsIoScript bytes names set_up lines → AreNamedIo names lines
script_named bytes names set_up lines script =
    subst (λ n. AreNamedIo n lines) script.named
    (named_lines _ script.known _ script.texts lines script.spelled)
