use Rattle.rio_packets.proofs.FormLaws.{Passes-from_form}
use Rattle.rio_packets.proofs.PassesLaws.{form_from_Passes}
use Rattle.rio_packets.proofs.laws.register_tells_forms.Goals as goal

pub returns : goal.returns
returns c = record {
  passes = λ bytes. (form_from_Passes bytes, λ f. Passes-from_form f.0 bytes f.1);
}
