use Rattle.rio_cli.proofs.InputEach.{accepted_or_refused}
use Rattle.rio_cli.proofs.laws.every_input_is_accepted_or_refused.Goals as goal

pub returns : goal.returns
returns c = accepted_or_refused c.every_io_text_is_a_script_or_refused.ensures
