use Rattle.std.proofs.Common.{◌≡◌, true}
use Rattle.link_entries.specs.declared.entry.Entry.{Entry}
use Rattle.link_entries.specs.declared.entry.Entry.TheVariants.{Heard, Turn, TimeOut, Arrived, Read}
use Rattle.link_entries.specs.Deeds.{meets}
use Rattle.link_entries.specs.Trials.{trial_of}
use Rattle.link_entries.proofs.HeardMet.{heard_met}
use Rattle.link_entries.proofs.TurnMet.{turn_met}
use Rattle.link_entries.proofs.TimeOutMet.{time_out_met}
use Rattle.link_entries.proofs.ArrivedMet.{arrived_met}
use Rattle.link_entries.proofs.ReadMet.{read_met}
use Rattle.link_entries.proofs.laws.every_entry_is_met.Goals as goal

each : (entry : Entry) → meets (trial_of entry) entry ≡ true
each (Heard entry) = heard_met entry
each (Turn entry) = turn_met entry
each (TimeOut entry) = time_out_met entry
each (Arrived entry) = arrived_met entry
each (Read entry) = read_met entry

pub returns-clause-met : goal.returns-clause-met
returns-clause-met c = each
