use Rattle.std.proofs.Common.{◌≡◌, ◌<◌, [], length, ◌∙◌, rules}
use Rattle.std.proofs.lemmas.List.{get_or_default}
use Rattle.fabric_script.specs.Names.{name_of}
use Rattle.fabric_script.specs.Hits.{NewNameIsBad, NameIsTaken}
use Rattle.fabric_script.proofs.known.Known.read_new_name.Goals as goal

pub returns-then-not-is_name : goal.returns-then-not-is_name
returns-then-not-is_name c = NewNameIsBad (search rules)

pub returns-in-Some : goal.returns-in-Some
returns-in-Some c =
    let found = c.in-Some.ensures in
    let names : c.as_slice.result.now ≡ c.args.self.now.names = search rules in
    let within : c.in-Some.field-0 < length c.args.self.now.names = rw (← names) found.0 in
    let same : name_of c.args.self.now.names c.in-Some.field-0 ≡ c.args.word.now =
    rw (← names) found.1 in
    NameIsTaken (search rules) (
      c.in-Some.field-0,
      within,
      get_or_default c.args.self.now.names c.in-Some.field-0
          c.args.word.now [] within ∙ same,
    )
