use Rattle.std.proofs.Common.{◌≡◌, length, replicate, rules, ap, ◌∙◌}
use Rattle.io_rounds.specs.Stations.{new_station}
use Rattle.io_rounds.proofs.BeginLaws.{holds_first, kinds_in}
use Rattle.io_rounds.proofs.course.Course.new.Goals as goal

pub returns : goal.returns
returns c =
    let names = c.args.script.now.names.items in
    let count : c.len.result ≡ length names = search rules in
    holds_first names c.args.script.now.lines.items _ c.requires.passes c.requires.sets_up
    c.in_ok-fabric.ensures.stands
    (c.in_ok-stations.ensures ∙ ap (λ n. replicate n new_station) count)
    (c.in_ok-switches.ensures ∙ ap kinds_in c.deref.ensures.value)
