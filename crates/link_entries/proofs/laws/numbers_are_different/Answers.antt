use Rattle.std.proofs.Common.{◌≡◌, ℕ, slice_get, Some, sym, ap, ◌∙◌}
use Rattle.link_entries.specs.Numbers.{all_entries}
use Rattle.link_entries.proofs.NumberLaws.{entry_at}
use Rattle.link_entries.proofs.laws.numbers_are_different.Goals as goal

pub returns-clause-different : goal.returns-clause-different
returns-clause-different c = λ entry other same. (
    let both : Some entry ≡ Some other = sym (entry_at entry)
    ∙ (ap (λ (n : ℕ). slice_get all_entries n) same ∙ entry_at other) in cc)
