-- An input of the set-up lines of a script, with the texts of a host's asks behind them, is lawful.
use Rattle.lawful_asks.proofs.Prelude.{◌++◌, [], ◌∷◌, length, Ended, steps_of, InputsOfAsksAreLawful}
use Rattle.lawful_traces.specs.Texts.{trace_texts}
use Rattle.lawful_traces.proofs.Inputs.{knows_of, has_lawful}
use Rattle.lawful_asks.proofs.LawfulAsks.{asks_are_lawful}

pub inputs_are_lawful : InputsOfAsksAreLawful
inputs_are_lawful bytes lines_read known texts names script host tid next lines left end passes
    asked leads input same_names same_lines texts_are =
    has_lawful bytes lines_read known texts (trace_texts names (lines ++ Ended ∷ [])) script
    (length (steps_of lines)) input same_lines texts_are
    (asks_are_lawful names script host tid next lines left end known passes
    (knows_of bytes lines_read known texts names script input same_names same_lines) asked leads)
