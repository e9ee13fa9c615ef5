use Rattle.rio_cli.specs.Decoding.{words_of_input}
use Rattle.rio_cli.proofs.CommandLaws.{not_refused_too, refused_once_too}
use Rattle.rio_cli.proofs.WordLaws.{AreTexts-once}
use Rattle.rio_cli.proofs.laws.inputs_are_judged_once.Goals as goal

pub returns : goal.returns
returns c = record {
  once = refused_once_too;
  apart =
      λ command bytes line reason refused is. not_refused_too command bytes line reason is refused;
  one_spelling = λ bytes chars others h k. AreTexts-once (words_of_input bytes) chars others h k;
}
