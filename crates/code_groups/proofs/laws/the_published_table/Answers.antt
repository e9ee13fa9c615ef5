use Rattle.code_groups.proofs.PublishedLaws.{data_rows, special_rows, row_found}
use Rattle.code_groups.proofs.laws.the_published_table.Goals as goal

pub returns : goal.returns
returns c = record { bytes = data_rows; special = special_rows; no_other = row_found }
