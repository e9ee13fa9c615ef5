use Rattle.std.proofs.Common.{◌<◌, arith}
use Rattle.link_port.specs.Ports.{PortState, IsPort}
use Rattle.link_port.proofs.AnswerLaws.{reply_answers, reply_run, reply_after}
use Rattle.link_port.proofs.laws.answers_are_read_from_any_place.Goals as goal

few_buffers : (port : PortState) → IsPort port → port.received.buffers < 32
few_buffers port is = let most = is.receives.most in omega arith

pub returns : goal.returns
returns c = record {
  answers = λ port event is. reply_answers port event is.expected_ack (few_buffers port is);
  read =
      λ port event answer text pending at is same. reply_run port event answer text pending at
      is.expected_ack (few_buffers port is) same;
  after =
      λ port event answer text pending is same. reply_after port event answer text pending
      is.expected_ack (few_buffers port is) same;
}
