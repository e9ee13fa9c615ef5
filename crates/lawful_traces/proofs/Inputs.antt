-- An input of the set-up lines of a script, with the texts of its trace behind them, is lawful.
use Rattle.lawful_traces.proofs.Prelude.{◌≡◌, ℕ, suc, Bool, true, false, List, [], ◌∷◌, length, if◌then◌else◌, refl, sym, ap, ◌∙◌, subst, Line, Numbered, Known, known_after, nodes_after, links_after, nothing_in, of_set_up, is_event, new_name_in, is_skipped, pieces_of, SpellsFrom, Network, steps_of, bare, set_up, set_up_all, by_test, set_up-event, IsLawful, KnowsScript, nodes_all, links_all, lines_of_set_up, trace_texts, InputsOfTracesAreLawful}
use Rattle.script_input.specs.Inputs.{IsInput, set_up_bytes}
use Rattle.trace_check.specs.Outcomes.{HasLawful}
use Rattle.lawful_traces.proofs.Events.{nodes_stay, links_stay}
use Rattle.lawful_traces.proofs.Spelling.{traces_are_lawful}

-- ---- events set nothing up

module _ {S : Type 0} (after : S → Line → S) (all : S → List Numbered → S)
    (none : (s : S) → all s [] ≡ s)
    (one : (s : S) (line : Numbered) (lines : List Numbered)
    → all s (line ∷ lines) ≡ all (after s line.line) lines)
    (stays : (s : S) (line : Line) → is_event line ≡ true → after s line ≡ s) where
  abbrev after_lines : S → List Line → S
  after_lines s [] = s
  after_lines s (line ∷ lines) = after_lines (after s line) lines

  by_lines : (lines : List Numbered) (s : S) → all s lines ≡ after_lines s (lines_of_set_up lines)
  by_lines [] s = none s
  by_lines (line ∷ lines) s = by (is_event line.line) refl (by_lines lines)
    where
      by : (b : Bool) → is_event line.line ≡ b
          → ((t : S) → all t lines ≡ after_lines t (lines_of_set_up lines))
          → all s (line ∷ lines) ≡ after_lines s
          (if b then lines_of_set_up lines else line.line ∷ lines_of_set_up lines)
      by true event rest =
          one s line lines ∙ (ap (λ t. all t lines) (stays s line.line event) ∙ rest s)
      by false other rest = one s line lines ∙ rest (after s line.line)

  pub same_set_up : (first second : List Numbered) (s : S)
      → lines_of_set_up first ≡ lines_of_set_up second → all s first ≡ all s second
  same_set_up first second s same =
      by_lines first s ∙ (ap (after_lines s) same ∙ sym (by_lines second s))

-- ---- what is known of an input

known_of : (texts : List (List ℕ)) (number : ℕ) (known : Known) (lines : List Numbered)
    (end : Known) → SpellsFrom number known texts lines end
    → (end.nodes ≡ nodes_all known.nodes lines) × (end.links ≡ links_all known.links lines)
known_of [] number known lines end spells = (
  ap (λ (k : Known). k.nodes) spells.1
      ∙ ap (λ (l : List Numbered). nodes_all known.nodes l) (sym spells.0),
  ap (λ (k : Known). k.links) spells.1
      ∙ ap (λ (l : List Numbered). links_all known.links l) (sym spells.0),
)
known_of (text ∷ texts) number known lines end spells =
    by_test (is_skipped text) (known_of texts (suc number) known lines end)
    (λ kept.
    let rest = known_of texts (suc number)
    (known_after known (new_name_in text kept.0) kept.0) kept.1 end kept.4 in (
      rest.0 ∙ ap (λ (l : List Numbered). nodes_all known.nodes l) (sym kept.2),
      rest.1 ∙ ap (λ (l : List Numbered). links_all known.links l) (sym kept.2),
    )) spells

-- what is known of the set-up lines of a script, and the network that they make

pub knows_of : (bytes : List ℕ) (lines_read : List Numbered) (known : Known)
    (texts names : List (List ℕ)) (script : List Numbered) → IsInput bytes lines_read known texts
    → known.names ≡ names → lines_of_set_up lines_read ≡ lines_of_set_up script
    → KnowsScript names script known
knows_of bytes lines_read known texts names script input same_names same_lines =
    let end = input.accepted.end in
    let is = input.accepted.known_is in
    let all = known_of (pieces_of (set_up_bytes bytes)) 1 (nothing_in of_set_up) lines_read end
    input.accepted.spelled in
    let nodes = same_set_up nodes_after nodes_all (λ s. refl) (λ s line rest. refl) nodes_stay
    lines_read script [] same_lines in
    let links = same_set_up links_after links_all (λ s. refl) (λ s line rest. refl) links_stay
    lines_read script [] same_lines in
    record {
      names_are = same_names;
      nodes_are = ap (λ (k : Known). k.nodes) is ∙ (all.0 ∙ nodes);
      links_are = ap (λ (k : Known). k.links) is ∙ (all.1 ∙ links);
      event = ap (λ (k : Known). k.mode) is;
    }

-- texts that are lawful behind the script are so behind the lines that were read
pub has_lawful : (bytes : List ℕ) (lines_read : List Numbered) (known : Known)
    (texts own : List (List ℕ)) (script : List Numbered) (steps : ℕ)
    → IsInput bytes lines_read known texts
    → lines_of_set_up lines_read ≡ lines_of_set_up script → texts ≡ own
    → IsLawful known (set_up_all bare script) own steps → HasLawful bytes steps
has_lawful bytes lines_read known texts own script steps input same_lines texts_are lawful =
    let net = same_set_up set_up set_up_all (λ s. refl) (λ s line rest. refl) set_up-event
    lines_read script bare same_lines in
    record {
      set_up = lines_read;
      known = known;
      texts = texts;
      input = input;
      lawful = subst (λ (t : List (List ℕ)). IsLawful known (set_up_all bare lines_read) t steps)
          (sym texts_are)
          (subst (λ (n : Network). IsLawful known n own steps) (sym net) lawful);
    }

pub inputs_are_lawful : InputsOfTracesAreLawful
inputs_are_lawful bytes lines_read known texts names script lines passes counted runs input
    same_names same_lines texts_are =
    has_lawful bytes lines_read known texts (trace_texts names lines) script
    (length (steps_of lines)) input same_lines texts_are
    (traces_are_lawful names script lines known passes counted
    (knows_of bytes lines_read known texts names script input same_names same_lines) runs)
