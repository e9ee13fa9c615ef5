use Rattle.rio_packets.specs.Making.{made}
use Rattle.rio_packets.proofs.FormLaws.{LinkForm-made, LinkForm-one}
use Rattle.rio_packets.proofs.laws.body_has_one_form.Goals as goal

pub returns-clause-exists : goal.returns-clause-exists
returns-clause-exists c = λ body is_body. (made body, LinkForm-made body is_body)

pub returns-clause-one : goal.returns-clause-one
returns-clause-one c = LinkForm-one
