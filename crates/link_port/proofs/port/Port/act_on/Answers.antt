use Rattle.std.proofs.Common.{◌++◌, sym, ap, ◌∙◌}
use Rattle.std.specs.Option.{option_or}
use Rattle.link_port.specs.Steps.{Acted}
use Rattle.link_port.specs.Acts.{acts_first, acts_second}
use Rattle.link_port.proofs.ActLaws.{all_is, second_holds_none, first_frees_none}
use Rattle.link_port.proofs.port.Port.act_on.Goals as goal

pub act_second-answer-requires : goal.act_second-answer-requires
act_second-answer-requires c =
    record {
      empty =
          first_frees_none c.args.self.now c.args.first c.args.second _ c.requires.paired
          c.act_first-reply.ensures.freed;
    }

pub returns-clause-state : goal.returns-clause-state
returns-clause-state c =
    let all =
    all_is c.args.self.now c.act_first-reply.new.self c.args.first c.args.second
    c.requires.paired c.act_first-reply.ensures.state in
    c.act_second-answer.ensures.state ∙ ap (λ (a : Acted). a.port) all

pub returns-clause-held : goal.returns-clause-held
returns-clause-held c =
    let all =
    all_is c.args.self.now c.act_first-reply.new.self c.args.first c.args.second
    c.requires.paired c.act_first-reply.ensures.state in
    c.held_packet-held.ensures
    ∙ c.act_first-reply.ensures.held
    ∙ sym (second_holds_none c.act_first-reply.new.self c.args.second
    (acts_first c.args.self.now c.args.first).held)
    ∙ ap (λ (a : Acted). a.held) all

pub returns-clause-reply : goal.returns-clause-reply
returns-clause-reply c =
    let all =
    all_is c.args.self.now c.act_first-reply.new.self c.args.first c.args.second
    c.requires.paired c.act_first-reply.ensures.state in
    c.or.ensures
    ∙ ap (λ r. option_or r c.act_second-answer.result) c.act_first-reply.ensures.reply
    ∙ ap (option_or (acts_first c.args.self.now c.args.first).reply)
    c.act_second-answer.ensures.reply
    ∙ ap (λ (a : Acted). a.reply) all

pub returns-clause-freed : goal.returns-clause-freed
returns-clause-freed c =
    let all =
    all_is c.args.self.now c.act_first-reply.new.self c.args.first c.args.second
    c.requires.paired c.act_first-reply.ensures.state in
    c.act_second-answer.ensures.freed
    ∙ ap (λ packets. packets ++ (acts_second c.act_first-reply.new.self c.args.second).freed)
    c.act_first-reply.ensures.freed
    ∙ ap (λ (a : Acted). a.freed) all
