use Rattle.rio_cli.proofs.DecodeEach.{decoded_or_bad}
use Rattle.rio_cli.proofs.laws.every_text_is_characters_or_refused.Goals as goal

pub returns : goal.returns
returns c = decoded_or_bad
