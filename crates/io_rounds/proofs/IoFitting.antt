-- Each line of a script of reads and writes may be carried out.
use Rattle.std.proofs.Common.{◌≡◌, ℕ, ◌+◌, ◌%◌, suc, false, List, [], ◌∷◌, All, length, sym, ap, ◌∙◌, subst}
use Rattle.std.proofs.lemmas.Bool.{eqb-true, not-true}
use Rattle.std.proofs.lemmas.List.Elements.{All-cons, All-nil}
use Rattle.fabric_script.specs.declared.lines.Numbered.{Numbered}
use Rattle.fabric_script.specs.Known.{Known, is_known_switch, known_after, nothing_in, of_set_up}
use Rattle.fabric_script.specs.Lines.{is_event}
use Rattle.fabric_script.specs.Reading.{new_name_in}
use Rattle.fabric_script.specs.Scripts.{is_skipped, KeptThen, pieces_of, SpellsFrom}
use Rattle.fabric_script.specs.SetUps.{NoEvents}
use Rattle.fabric_script.specs.declared.values.Value.TheVariants.{Node as NodeValue}
use Rattle.fabric_script.proofs.ScriptLaws.{Passes-from_script}
use Rattle.fabric_script.proofs.SetUpLaws.{set_up_passes}
use Rattle.fabric_model.specs.Network.{Network}
use Rattle.fabric_trace.specs.Runs.{bare, set_up, set_up_all, start}
use Rattle.fabric_trace.proofs.Rounds.Blocks.{by_test}
use Rattle.fabric_trace.proofs.SetUps.KnownNetworks.{KnowsNetwork, endpoint_at, knows-after, knows_bare}
use Rattle.script_input.specs.Inputs.{set_up_bytes}
use Rattle.io_script.specs.declared.lines.IoLine.{IoLine}
use Rattle.io_script.specs.declared.lines.IoLine.TheVariants.{Memory, NRead, NWrite, NWriteR, SWrite, Round}
use Rattle.io_script.specs.declared.lines.NumberedIo.{NumberedIo}
use Rattle.io_script.specs.IoForms.{AnEndpoint, io_fields_of}
use Rattle.io_script.specs.IoLines.{io_form_of, io_values_of}
use Rattle.io_script.specs.IoReading.{Earlier, earlier_with, nothing_earlier}
use Rattle.io_script.specs.IoScripts.{first_behind, IsIoScript, SpellIoFrom}
use Rattle.io_script.specs.IoWords.{FitIoAll, FitsIo}
use Rattle.io_script.proofs.IoOnce.{KeptIo}
use Rattle.io_rounds.specs.Drives.{IsIoFit, IsStation, MayCarry}

-- ---- what is known of the network that the lines set up

knows_all : (number : ℕ) (known : Known) (net : Network) (texts : List (List ℕ))
    (lines : List Numbered) (end : Known) → KnowsNetwork known net
    → SpellsFrom number known texts lines end → KnowsNetwork end (set_up_all net lines)
knows_all number known net [] lines end knows spelled =
    subst (λ l. KnowsNetwork end (set_up_all net l)) (sym spelled.0)
    (subst (λ k. KnowsNetwork k net) (sym spelled.1) knows)
knows_all number known net (text ∷ texts) lines end knows spelled =
    by_test {P = SpellsFrom (suc number) known texts lines end}
    {Q = KeptThen (λ next rest. SpellsFrom (suc number) next texts rest end) number known text
    lines} (is_skipped text)
    (λ skips. knows_all (suc number) known net texts lines end knows skips)
    (λ keeps.
    let new = new_name_in text keeps.0 in
    subst (λ l. KnowsNetwork end (set_up_all net l)) (sym keeps.2)
    (knows_all (suc number) (known_after known new keeps.0) (set_up net keeps.0) texts keeps.1 end
    (knows-after known new net keeps.0 knows) keeps.4))
    spelled

-- ---- a node that is known to be no switch

station_is : (known : Known) (net : Network) (n : ℕ) → KnowsNetwork known net
    → FitsIo known AnEndpoint (NodeValue n) → IsStation known.names net n
station_is known net n knows fit =
    (fit.0, endpoint_at known net n knows fit.0 (not-true (is_known_switch known.nodes n) fit.1))

-- ---- the lines behind the set-up lines

-- a line whose words may be said may be carried out
fits_carry : (known : Known) (net : Network) (line : IoLine) → KnowsNetwork known net
    → FitIoAll known (io_fields_of (io_form_of line)) (io_values_of line)
    → MayCarry known.names net line
fits_carry known net (Memory node bytes) knows fit = station_is known net node knows fit.0
fits_carry known net (NRead node dest addr size) knows fit =
    (station_is known net node knows fit.0, (eqb-true (addr % 8) 0 fit.1.1.0.1, fit.1.1.1.0.1))
fits_carry known net (NWrite node dest addr load) knows fit =
    (station_is known net node knows fit.0, (eqb-true (addr % 8) 0 fit.1.1.0.1, fit.1.1.1.0.1))
fits_carry known net (NWriteR node dest addr load) knows fit =
    (station_is known net node knows fit.0, (eqb-true (addr % 8) 0 fit.1.1.0.1, fit.1.1.1.0.1))
fits_carry known net (SWrite node dest addr load) knows fit =
    (station_is known net node knows fit.0, (eqb-true (addr % 8) 0 fit.1.1.0.1, fit.1.1.1.0.1))
fits_carry known net Round knows fit = tt

-- each of the lines may be carried out
abbrev MayCarryAll : List (List ℕ) → Network → List NumberedIo → Type 0
MayCarryAll names net lines = All (λ line. MayCarry names net line.io) lines

spelled_carry : (number : ℕ) (known : Known) (net : Network) (earlier : Earlier)
    (texts : List (List ℕ)) (lines : List NumberedIo) → KnowsNetwork known net
    → SpellIoFrom number known earlier texts lines → MayCarryAll known.names net lines
spelled_carry number known net earlier [] lines knows spelled =
    subst (MayCarryAll known.names net) (sym spelled)
    (All-nil (λ line. MayCarry known.names net line.io))
spelled_carry number known net earlier (text ∷ texts) lines knows spelled =
    by_test {P = SpellIoFrom (number + 1) known earlier texts lines}
    {Q = KeptIo number known earlier text texts lines} (is_skipped text)
    (λ skips. spelled_carry (number + 1) known net earlier texts lines knows skips)
    (λ keeps.
    let first : NumberedIo = record { line = number; io = keeps.0 } in
    subst (MayCarryAll known.names net) (sym keeps.2)
    (All-cons (λ line. MayCarry known.names net line.io) first keeps.1
    (fits_carry known net keeps.0 knows keeps.3.fit)
    (spelled_carry (number + 1) known net
    (earlier_with (length known.links) earlier (io_form_of keeps.0)) texts keeps.1 knows keeps.4)))
    spelled

-- ---- the whole script

no_events : (lines : List Numbered) → NoEvents lines
    → All (λ line. is_event line.line ≡ false) lines
no_events [] none = All-nil (λ (line : Numbered). is_event line.line ≡ false)
no_events (line ∷ lines) none =
    All-cons (λ (line : Numbered). is_event line.line ≡ false) line lines none.0
    (no_events lines none.1)

pub script_fits : (bytes : List ℕ) (names : List (List ℕ)) (lines : List Numbered)
    (io : List NumberedIo) → IsIoScript bytes names lines io → IsIoFit names lines io
script_fits bytes names lines io script =
    let accepted = script.input.accepted in
    let end = accepted.end in
    let named : end.names ≡ names =
    ap (λ (k : Known). k.names) (sym accepted.known_is) ∙ script.named in
    let net = (start lines).network in
    let at_end : KnowsNetwork end net =
    knows_all 1 (nothing_in of_set_up) bare (pieces_of (set_up_bytes bytes)) lines end
    (knows_bare of_set_up) accepted.spelled in
    let knows : KnowsNetwork script.known net =
    subst (λ k. KnowsNetwork k net) (sym accepted.known_is)
    (record { linked = at_end.linked; count = at_end.count; kinds = at_end.kinds }) in
    let passes = set_up_passes names lines (Passes-from_script of_set_up (set_up_bytes bytes) names
    lines (end, named, accepted.spelled)) in
    record {
      passes = passes.0;
      sets_up = no_events lines passes.1;
      may = subst (λ n. MayCarryAll n net io) script.named
          (spelled_carry (first_behind bytes) script.known net nothing_earlier script.texts io knows
          script.spelled);
    }
