use Rattle.std.proofs.Common.{Some}
use Rattle.link_model.specs.declared.event.Event.TheVariants.{Ctl}
use Rattle.rio_cli.proofs.LineLaws.{Writes-both, Writes-event}
use Rattle.rio_cli.proofs.lines.write_told.Goals as goal

pub returns-in-Ends : goal.returns-in-Ends
returns-in-Ends g c =
    rw c.in-Ends.is (Writes-both c.args.place c.args.framer.now.ended (Some c.in-Ends.symbol)
    c.write_ended.ensures
    (Writes-event c.args.place (Ctl c.in-Ends.symbol) c.write_symbol-in-Ends.ensures))
