use Rattle.std.proofs.Common.{rules, refl, sym, ap, subst}
use Rattle.live_fabric.specs.declared.live.Live.{Live}
use Rattle.live_fabric.specs.Lines.{seen_so_far}
use Rattle.live_fabric.specs.Outside.{MayGoOn, after_outside, outside_told}
use Rattle.live_fabric.proofs.AnewLaws.{anew_holds}
use Rattle.live_fabric.proofs.AnsweringLaws.{names_held, told_by}
use Rattle.live_fabric.proofs.CountLaws.{outside_board, outside_counts}
use Rattle.live_fabric.proofs.FacingLaws.{may_act}
use Rattle.live_fabric.proofs.OutsideLaws.{joined_holds, other_holds}
use Rattle.live_fabric.proofs.outside.carry.Goals as goal

pub act-requires : goal.act-requires
act-requires g c =
    let taken = c.requires.0 in
    let holds = c.requires.1 in
    let line = c.args.line.now in
    let fabric = c.in_ok-fabric.fabric in
    subst (λ names. MayGoOn fabric names line)
    (sym (names_held c.args.live.now c.take_fabric.new.self c.set_up.result.now
    c.names-names.result.now taken holds c.names-names.ensures c.set_up.ensures
    c.take_fabric.ensures.set_up))
    (may_act c.args.live.now taken holds line fabric (c.in_ok-fabric.ensures.stands taken holds)
    c.requires.2)

pub returns-in_ok-face : goal.returns-in_ok-face
returns-in_ok-face g c = λ taken holds may.
    let live = c.args.live.now in
    let line = c.args.line.now in
    let s = seen_so_far taken in
    let put = c.put_fabric.new.self in
    let named = names_held live c.take_fabric.new.self c.set_up.result.now
    c.names-names.result.now taken holds c.names-names.ensures c.set_up.ensures
    c.take_fabric.ensures.set_up in
    let acted = c.in_ok-act.ensures taken.from taken.trace
    (c.in_ok-fabric.ensures.stands taken holds) in
    let kept = anew_holds live c.take_fabric.new.self put taken (after_outside line s)
    c.act.new.fabric holds c.take_fabric.ensures.text c.take_fabric.ensures.set_up
    c.take_fabric.ensures.facing c.put_fabric.ensures (outside_board line s)
    (outside_counts line s) acted.stands in
    record {
      told = told_by taken.known.names _ (outside_told line s) named (λ same. search rules)
          acted.adds;
      holds =
          joined_holds put c.face.new.self taken line c.in-External.at c.act.new.fabric
          c.in-External.is kept (ap (λ (l : Live). l.fabric) c.put_fabric.ensures)
          c.face.ensures.text c.face.ensures.set_up c.face.ensures.fabric
          c.in_ok-face.ensures.facing may.faced;
    }

pub returns-in_default : goal.returns-in_default
returns-in_default g c = λ taken holds may.
    let live = c.args.live.now in
    let line = c.args.line.now in
    let s = seen_so_far taken in
    let put = c.put_fabric.new.self in
    let named = names_held live c.take_fabric.new.self c.set_up.result.now
    c.names-names.result.now taken holds c.names-names.ensures c.set_up.ensures
    c.take_fabric.ensures.set_up in
    let acted = c.in_ok-act.ensures taken.from taken.trace
    (c.in_ok-fabric.ensures.stands taken holds) in
    let kept = anew_holds live c.take_fabric.new.self put taken (after_outside line s)
    c.act.new.fabric holds c.take_fabric.ensures.text c.take_fabric.ensures.set_up
    c.take_fabric.ensures.facing c.put_fabric.ensures (outside_board line s)
    (outside_counts line s) acted.stands in
    record {
      told = told_by taken.known.names _ (outside_told line s) named (λ same. search rules)
          acted.adds;
      holds = other_holds put taken line c.in_default.not-External kept;
    }
