use Rattle.fabric_ask.proofs.Beginning.{ask_exists}
use Rattle.fabric_ask.proofs.laws.asks_have_lines.Goals as goal

pub returns : goal.returns
returns c = λ host request noise s packet ready none endpoint form.
    let own = ask_exists host request noise s packet ready none endpoint form in (own.lines, own.is)
