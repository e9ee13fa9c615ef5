use Rattle.std.proofs.Common.{◌+◌, Ok, Err, ap}
use Rattle.rio_cli.specs.declared.command.Command.TheVariants.{Contest}
use Rattle.rio_cli.specs.declared.status.Status.TheVariants.{Script}
use Rattle.rio_cli.specs.Contesting.{HasHosts, HitForTwo}
use Rattle.rio_cli.proofs.AnswerLaws.{says_line, RefusesBytes-line}
use Rattle.rio_cli.proofs.ContestLaws.{finds_as, no_hosts, says_contest}
use Rattle.rio_cli.proofs.contesting.contest_bytes.Goals as goal

pub returns-in-Err-Refused-clause-says : goal.returns-in-Err-Refused-clause-says
returns-in-Err-Refused-clause-says g c =
    let r = c.in-Err-Refused in
    says_line (Contest c.args.first c.args.second c.args.seed) c.args.bytes.now
    c.refuse_line.result.status r.refusal.line r.refusal.reason _ _ _ _
    (HitForTwo (r.ensures.refused r.refusal (ap Err r.field-0-is))) c.refuse_line.ensures.refused

pub returns-in-Err-Refused-clause-refuses : goal.returns-in-Err-Refused-clause-refuses
returns-in-Err-Refused-clause-refuses g c =
    let r = c.in-Err-Refused in
    RefusesBytes-line Script (Contest c.args.first c.args.second c.args.seed) c.args.bytes.now
    c.refuse_line.result.status c.refuse_line.result.refusal r.refusal.line r.refusal.reason _ _
    (HitForTwo (r.ensures.refused r.refusal (ap Err r.field-0-is))) c.refuse_line.ensures.refusal

pub returns-in-Ok-Ok-clause-says : goal.returns-in-Ok-Ok-clause-says
returns-in-Ok-Ok-clause-says g c =
    let names = c.in-Ok.script.names.items in
    let lines = c.in-Ok.script.lines.items in
    let is : HasHosts c.args.first c.args.second c.args.bytes.now = record {
      names = names;
      lines = lines;
      spells = c.in-Ok.ensures.script;
      hosts = c.in-Ok-Ok.hosts;
      found = finds_as names lines c.as_slice.result.now c.as_slice-2.result.now c.args.first
          c.args.second c.in-Ok-Ok.field-0 (Ok c.in-Ok-Ok.hosts) c.as_slice.ensures
          c.as_slice-2.ensures c.in-Ok-Ok.field-0-is c.in-Ok-Ok.ensures;
    } in
    rw c.ended-in-Ok-Ok.ensures (says_contest c.args.first c.args.second c.args.bytes.now
    c.args.seed is c.contest.result _ _ _ _ c.contest.ensures.answers)

pub returns-in-Ok-Err-clause-says : goal.returns-in-Ok-Err-clause-says
returns-in-Ok-Err-clause-says g c =
    let names = c.in-Ok.script.names.items in
    let lines = c.in-Ok.script.lines.items in
    let finds = finds_as names lines c.as_slice.result.now c.as_slice-2.result.now c.args.first
    c.args.second c.in-Ok-Err.field-0 (Err c.in-Ok-Err.reason) c.as_slice.ensures
    c.as_slice-2.ensures c.in-Ok-Err.field-0-is c.in-Ok-Err.ensures in
    says_line (Contest c.args.first c.args.second c.args.seed) c.args.bytes.now
    c.refuse_line-in-Ok-Err.result.status (c.count_lines.result + 1) c.in-Ok-Err.reason _ _ _ _
    (no_hosts c.args.first c.args.second c.args.bytes.now names lines c.in-Ok-Err.reason
    c.in-Ok.ensures.script finds c.count_lines.result c.count_lines.ensures.count)
    c.refuse_line-in-Ok-Err.ensures.refused

pub returns-in-Ok-Err-clause-refuses : goal.returns-in-Ok-Err-clause-refuses
returns-in-Ok-Err-clause-refuses g c =
    let names = c.in-Ok.script.names.items in
    let lines = c.in-Ok.script.lines.items in
    let finds = finds_as names lines c.as_slice.result.now c.as_slice-2.result.now c.args.first
    c.args.second c.in-Ok-Err.field-0 (Err c.in-Ok-Err.reason) c.as_slice.ensures
    c.as_slice-2.ensures c.in-Ok-Err.field-0-is c.in-Ok-Err.ensures in
    RefusesBytes-line Script (Contest c.args.first c.args.second c.args.seed) c.args.bytes.now
    c.refuse_line-in-Ok-Err.result.status c.refuse_line-in-Ok-Err.result.refusal
    (c.count_lines.result + 1) c.in-Ok-Err.reason _ _
    (no_hosts c.args.first c.args.second c.args.bytes.now names lines c.in-Ok-Err.reason
    c.in-Ok.ensures.script finds c.count_lines.result c.count_lines.ensures.count)
    c.refuse_line-in-Ok-Err.ensures.refusal
