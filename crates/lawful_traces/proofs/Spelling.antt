-- The texts of a trace spell its lines, and so are lawful.
use Rattle.lawful_traces.proofs.Prelude.{ℕ, List, [], ◌∷◌, refl, sym, subst, AllByRecursion, Numbered, Known, IsOrderly, nothing, of_script, ScriptPasses, nothing-orderly, Network, Hold, Free, Linked, AtNode, ByDevice, well_begun, empty_stands, Sent, Got, Fired, TraceLine, Begun, Stepped, Signed, Lacked, Ended, Undetected, LineFits, SpellsLine, Made, bare, set_up_all, begins, start, may_set_up, scripts_join, set_up_bare, good_start, legal, made, wires_fold, SpellAll, KnowsScript, trace_texts, TracesAreLawful}
use Rattle.trace_lines.specs.Text.{trace_line_text}
use Rattle.trace_lines.proofs.PrintedWords.{printed_words}
use Rattle.fabric_trace.specs.SetUps.{IsSetUp}
use Rattle.trace_check.proofs.Lawful.{runs_pass}
use Rattle.lawful_traces.proofs.Ending.{IsFromScript, Closes, closes_all, runs_close}
use Rattle.lawful_traces.proofs.Events.{names_orderly}
use Rattle.lawful_traces.proofs.Ports.{knows_net}
use Rattle.lawful_traces.proofs.Sending.{IsAtLinks, made_at_links}
use Rattle.lawful_traces.proofs.Stepping.{IsLineSo, legal_so}
use Rattle.lawful_traces.proofs.Wiring.{GotsBytes, gots_bytes}

-- ---- each line fits

line_fits : (known : Known) (line : TraceLine) → IsFromScript known line → IsAtLinks known line
    → IsLineSo known line → GotsBytes line → LineFits known line
line_fits known (Begun line) from at so bytes = from
line_fits known (Stepped (Linked (Hold q packet))) from at so bytes = (at, so)
line_fits known (Stepped (Linked (Free p packet))) from at so bytes = (at, so)
line_fits known (Stepped (AtNode step)) from at so bytes = so
line_fits known (Stepped (ByDevice step)) from at so bytes = so
line_fits known (Signed (Sent p chars)) from at so bytes = at
line_fits known (Signed (Got q chars)) from at so bytes = (at, from, bytes)
line_fits known (Signed (Fired p)) from at so bytes = at
line_fits known (Lacked lack) from at so bytes = tt
line_fits known Ended from at so bytes = tt
line_fits known (Undetected number q e) from at so bytes = (from, at.0.0, at.1)

lines_fit : (known : Known) (lines : List TraceLine) → AllByRecursion (IsFromScript known) lines
    → AllByRecursion (IsAtLinks known) lines → AllByRecursion (IsLineSo known) lines
    → AllByRecursion GotsBytes lines → AllByRecursion (LineFits known) lines
lines_fit known [] from at so bytes = tt
lines_fit known (line ∷ lines) from at so bytes = (
  line_fits known line from.0 at.0 so.0 bytes.0,
  lines_fit known lines from.1 at.1 so.1 bytes.1,
)

-- ---- the texts spell the lines

spells : (known : Known) (line : TraceLine) → IsOrderly known → LineFits known line
    → SpellsLine known (trace_line_text known.names line) line
spells known line orderly fits =
    record { words = printed_words known line orderly fits; fits = fits }

spell_all : (known : Known) (lines : List TraceLine) → IsOrderly known → Closes known lines
    → AllByRecursion (LineFits known) lines
    → SpellAll known (trace_texts known.names lines) lines
spell_all known [] orderly closes fits = absurd closes
spell_all known (line ∷ []) orderly closes fits =
    (line, refl, spells known line orderly fits.0, closes.1)
spell_all known (line ∷ next ∷ rest) orderly closes fits = (
  line,
  next ∷ rest,
  refl,
  spells known line orderly fits.0,
  closes.1,
  spell_all known (next ∷ rest) orderly closes.2 fits.1,
)

-- ---- lines that are made of parts

module _ (names : List (List ℕ)) (script : List Numbered) (known : Known)
    (passes : ScriptPasses names script) (knows : KnowsScript names script known) where
  abbrev net : Network
  net = set_up_all bare script

  is_set_up : IsSetUp net
  is_set_up = set_up_bare script (may_set_up names script passes)

  pub made_spell : (lines : List TraceLine) → Made (begins net) lines → Closes known lines
      → SpellAll known (trace_texts names lines) lines
  made_spell lines all closes =
      let from = closes_all known lines closes in
      let knows_it = knows_net names script known passes knows in
      let at = made_at_links known net.links knows_it.ends (good_start net is_set_up) refl tt all in
      let so = legal_so known lines net _ (record {
        joins = scripts_join names script passes;
        stand = empty_stands net is_set_up.empty;
        well = well_begun net is_set_up.empty;
        lent = λ p. subst (AllByRecursion _) (sym (is_set_up.empty.lent p)) tt;
        knows = knows_it;
      }) (legal net lines is_set_up all) in
      let bytes = gots_bytes known net.links lines (λ p. []) from at
      (wires_fold net lines is_set_up all) (λ p. tt) in
      let orderly = names_orderly script nothing known names (nothing-orderly of_script) passes
      knows.names_are in
      subst (λ (x : List (List ℕ)). SpellAll known (trace_texts x lines) lines) knows.names_are
      (spell_all known lines orderly closes (lines_fit known lines from at so bytes))

pub traces_are_lawful : TracesAreLawful
traces_are_lawful names script lines known passes counted knows runs =
    let may = may_set_up names script passes in
    let closes = runs_close known names knows.names_are knows.event script nothing (start script)
    lines refl knows.nodes_are knows.links_are passes counted runs in
    record {
      lines = lines;
      spelled = made_spell names script known passes knows lines (made script lines may runs)
          closes;
      pass = runs_pass script lines may runs;
      count = refl;
    }
