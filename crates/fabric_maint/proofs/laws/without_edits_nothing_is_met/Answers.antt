use Rattle.fabric_maint.proofs.Meeting.{never_met}
use Rattle.fabric_maint.proofs.laws.without_edits_nothing_is_met.Goals as goal

pub returns : goal.returns
returns g c none maint port event met =
    never_met g.N.Noise.edits g.K.Sink.written none maint port event met
