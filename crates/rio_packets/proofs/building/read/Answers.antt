use Rattle.std.proofs.Common.{◌<◌, ◌/◌, Bool, Some, None, sym, ap, ◌∙◌, arith, if◌then◌else◌}
use Rattle.std.proofs.lemmas.List.Elements.{All-from_get_or}
use Rattle.rio_packets.specs.Carries.{found_or_bad}
use Rattle.rio_packets.proofs.BuildingLaws.{length-as_they_came, checked-few, checked-built, Passes-built}
use Rattle.rio_packets.proofs.building.read.Goals as goal

pub returns-then-form-lt-MIN_BYTES-clause-checked :
    goal.returns-then-form-lt-MIN_BYTES-clause-checked
returns-then-form-lt-MIN_BYTES-clause-checked c =
    let size = length-as_they_came c.args.first c.args.form.now in
    checked-few _ (omega arith)

pub returns-then-not-is_link_form-clause-checked : goal.returns-then-not-is_link_form-clause-checked
returns-then-not-is_link_form-clause-checked c =
    let form = c.args.form.now in
    let range = All-from_get_or (λ b. b < 256) form 0 (λ i _. omega (arith, c.type_inv.form i)) in
    checked-built c.args.first form (omega arith) range c.requires.is.origin (omega arith)
    (omega arith)
    ∙ ap (λ (b : Bool). found_or_bad (if b then Some (c.args.first / 8, form) else None))
    (sym c.is_link_form.ensures ∙ c.if-not-is_link_form.true)

pub returns-clause-checked : goal.returns-clause-checked
returns-clause-checked c =
    let form = c.args.form.now in
    let range = All-from_get_or (λ b. b < 256) form 0 (λ i _. omega (arith, c.type_inv.form i)) in
    checked-built c.args.first form (omega arith) range c.requires.is.origin (omega arith)
    (omega arith)
    ∙ ap (λ (b : Bool). found_or_bad (if b then Some (c.args.first / 8, form) else None))
    (sym c.is_link_form.ensures ∙ c.if-not-is_link_form.false)

pub returns-clause-passes : goal.returns-clause-passes
returns-clause-passes c =
    let form = c.args.form.now in
    let range = All-from_get_or (λ b. b < 256) form 0 (λ i _. omega (arith, c.type_inv.form i)) in
    Passes-built c.args.first form (omega arith) range c.requires.is.origin (omega arith)
    (omega arith)
    (sym c.is_link_form.ensures ∙ c.if-not-is_link_form.false)
