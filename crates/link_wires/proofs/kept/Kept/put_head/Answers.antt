use Rattle.link_wires.proofs.HeadLaws.{put_behind}
use Rattle.link_wires.proofs.kept.Kept.put_head.Goals as goal

pub invariant_of-self-2 : goal.invariant_of-self-2
invariant_of-self-2 c =
    (put_behind c.self.inside.heads.items c.reserve.new.self.items
    c.push_back_reserved.new.self.items c.args.head c.self.inside.bytes c.put.new.self
    c.args.bytes.now c.args.self.now c.self.invariant c.self.view_is c.requires
    c.in_ok-reserve.ensures.items c.push_back_reserved.ensures.items c.in_ok-put.ensures.put).0

pub returns : goal.returns
returns c =
    (put_behind c.self.inside.heads.items c.reserve.new.self.items
    c.push_back_reserved.new.self.items c.args.head c.self.inside.bytes c.put.new.self
    c.args.bytes.now c.args.self.now c.self.invariant c.self.view_is c.requires
    c.in_ok-reserve.ensures.items c.push_back_reserved.ensures.items c.in_ok-put.ensures.put).1
