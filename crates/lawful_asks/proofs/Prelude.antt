-- The words of other crates, of `specs` and of std that several files here cite, passed on.
pub use Rattle.std.proofs.Common.{◌++◌, [], ◌∷◌, length, ◌≡◌, inl, inr, ℕ, zero, suc, ◌==◌, ◌||◌, false, List, None, refl, sym, ap, ◌∙◌, append-nil, subst}
pub use Rattle.fabric_model.specs.Network.{port_of, Network}
pub use Rattle.fabric_trace.proofs.SetUps.Starting.{set_up_bare, good_start, frees_allowed}
pub use Rattle.fabric_trace.specs.Fold.{seen, seen_line}
pub use Rattle.fabric_trace.specs.Known.{Seen, link_at}
pub use Rattle.fabric_trace.specs.Parts.{Made, PartEnds}
pub use Rattle.fabric_trace.specs.Runs.{bare, set_up_all, begins}
pub use Rattle.lawful_traces.proofs.Gots.{GotsSome, AllGotSome, lines_some, sent_some}
pub use Rattle.trace_check.proofs.Edits.{EditsTold}
pub use Rattle.trace_lines.specs.Lines.{Ended, steps_of, TraceLine, Begun, Stepped, Signed, Lacked, Undetected}
pub use Rattle.lawful_asks.specs.AskTexts.{InputsOfAsksAreLawful, AsksAreLawful}
