use Rattle.rio_symbols.proofs.SpellingLaws.{spelled_some, spelled_back, spelled_none, spells_own, spelling_only, same_symbol, bits-fields_at}
use Rattle.rio_symbols.proofs.spelling.spelling_laws.Goals as goal

pub returns : goal.returns
returns c = record {
  some = spelled_some;
  back = spelled_back;
  none = spelled_none;
  own = spells_own;
  one_spelling = spelling_only;
  one_symbol = same_symbol;
  places = bits-fields_at;
}
