use Rattle.fabric_model.proofs.Forms.{stays_formed, empty_formed}
use Rattle.fabric_model.proofs.laws.forms_are_kept.Goals as goal

pub returns : goal.returns
returns c = record {
  reached = λ start steps end empty within legal. stays_formed start steps end
      (empty_formed start empty within) legal;
  kept = stays_formed;
}
