use Rattle.std.proofs.Common.{sym, ◌∙◌}
use Rattle.port_lines.specs.Clocks.{clock_fires, clock_giving, clock_leaves, is_unanswered}
use Rattle.port_lines.proofs.PatienceLaws.{is_late, all_given, late_port, patience_anew, patience_none}
use Rattle.port_lines.proofs.laws.only_unanswered_ports_time_out.Goals as goal

pub returns-clause-awaits : goal.returns-clause-awaits
returns-clause-awaits c = λ at char fires. (is_late at char fires).awaits

pub returns-clause-given : goal.returns-clause-given
returns-clause-given c = λ at char fires.
    all_given (clock_leaves at char) (is_late at char fires).given

pub returns-clause-rests : goal.returns-clause-rests
returns-clause-rests c = λ at char fires. (is_late at char fires).rests

pub returns-clause-unanswered : goal.returns-clause-unanswered
returns-clause-unanswered c = λ at char fires. (is_late at char fires).same

pub returns-clause-last : goal.returns-clause-last
returns-clause-last c = λ at char fires. (is_late at char fires).last

pub returns-clause-fires : goal.returns-clause-fires
returns-clause-fires c = λ at char fires.
    late_port (clock_fires at char) (clock_giving at char).port fires

pub returns-clause-anew : goal.returns-clause-anew
returns-clause-anew c = λ at char fires.
    patience_anew at.settings.patience at.patience_left (is_unanswered at char)
    (is_late at char fires).last

pub returns-clause-never : goal.returns-clause-never
returns-clause-never c = λ at char none zero. (
  λ fires. let last = (is_late at char fires).last in absurd cc,
  patience_none at.settings.patience at.patience_left (is_unanswered at char) none zero,
)
