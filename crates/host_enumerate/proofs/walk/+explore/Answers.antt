use Rattle.host_enumerate.proofs.Prelude.{rules, ◌≡◌, ℕ, ◌∙◌, Some, subst, arith, onward, AllRegisters, IsNumbering, IsFoundBehind, tried_after}
use Rattle.host_enumerate.proofs.Carrying.{answered_on, walk_handed_on}
use Rattle.host_enumerate.proofs.Asked.{most}
use Rattle.host_enumerate.proofs.Exploring.{entry_passed, underway_back, found_back}
use Rattle.host_enumerate.proofs.walk.+explore.Given.{Over}
use Rattle.host_enumerate.proofs.walk.+explore.Goals.{In-Some}
use Rattle.host_enumerate.proofs.walk.+explore.Goals as goal

pub loop-port-preserved-then-port-switch : goal.loop-port-preserved-then-port-switch
loop-port-preserved-then-port-switch g t c = record {
  goes_on = c.loop-port.invariant.goes_on;
  found = c.loop-port.invariant.found;
  tried = λ before underway.
      entry_passed c.loop-port.invariant.found c.if-port-switch.true
      (c.loop-port.invariant.tried before underway);
  host = c.loop-port.invariant.host;
  longer = c.loop-port.invariant.longer;
}

pub look_behind-requires-clause-underway : goal.look_behind-requires-clause-underway
look_behind-requires-clause-underway g t c = (
  c.requires.underway.0,
  c.loop-port.invariant.tried c.requires.underway.0 c.requires.underway.1,
)

pub returns-in_err-found-clause-went : goal.returns-in_err-found-clause-went
returns-in_err-found-clause-went g t c =
    walk_handed_on c.loop-port.invariant.goes_on _ c.from_residual.result c.from_residual.ensures.1
    c.loop-port.invariant.tried c.in_err-found.ensures.went

pub loop-port-preserved-in_default : goal.loop-port-preserved-in_default
loop-port-preserved-in_default g t c = record {
  goes_on = answered_on c.loop-port.invariant.goes_on c.in_ok-found.ensures.went;
  found = subst (IsFoundBehind g.M.Maint c.look_behind.new.maint c.loop-port.numbering
      c.look_behind.new.numbering c.args.switch.now c.loop-port.port) c.in_default.is
      c.in_ok-found.ensures.found;
  tried = λ before underway.
      subst (λ f. IsNumbering g.M.Maint c.look_behind.new.maint c.look_behind.new.numbering
      (tried_after c.args.switch.now.path c.loop-port.port f) before) c.in_default.is
      (c.in_ok-found.ensures.looked before (c.loop-port.invariant.tried before underway));
  host = c.in_ok-found.ensures.host ∙ c.loop-port.invariant.host;
  longer = omega (arith, c.loop-port.invariant.longer, c.in_ok-found.ensures.longer);
}

-- a switch was found behind the port
behind : (g : Over) (t : ℕ) (c : In-Some g t)
    → IsFoundBehind g.M.Maint c.look_behind.new.maint c.loop-port.numbering
    c.look_behind.new.numbering c.args.switch.now c.loop-port.port (Some c.in-Some.found)
behind g t c =
    subst (IsFoundBehind g.M.Maint c.look_behind.new.maint c.loop-port.numbering
    c.look_behind.new.numbering c.args.switch.now c.loop-port.port) c.in-Some.is
    c.in_ok-found.ensures.found

-- and its first port is tried next
begun : (g : Over) (t : ℕ) (c : In-Some g t) (before : AllRegisters)
    → IsNumbering g.M.Maint c.args.maint.now c.args.numbering.now
    (onward c.args.switch.now.path 0) before
    → IsNumbering g.M.Maint c.look_behind.new.maint c.look_behind.new.numbering
    (onward c.in-Some.found.path 0) before
begun g t c before underway =
    subst (λ f. IsNumbering g.M.Maint c.look_behind.new.maint c.look_behind.new.numbering
    (tried_after c.args.switch.now.path c.loop-port.port f) before) c.in-Some.is
    (c.in_ok-found.ensures.looked before (c.loop-port.invariant.tried before underway))

pub explore-requires : goal.explore-requires
explore-requires g t c κs within =
    let at = (goal.at.explore-requires g t c).In-Some in
    let child = behind g t at in
    let underway = begun g t at c.requires.underway.0 c.requires.underway.1 in
    let more = child.2 in
    let few = most (g.M.Maint.topology c.look_behind.new.maint) c.requires.underway.0
    (g.M.Maint.registers c.look_behind.new.maint) c.look_behind.new.numbering.host_id
    c.look_behind.new.numbering.next_id c.look_behind.new.numbering.devices.items
    (onward c.in-Some.found.path 0) underway in
    let longer = c.loop-port.invariant.longer in (
      search (rules, more, few, longer),
      (
        within,
        (c.in_ok-found.ensures.went.whole, (child.0, (c.requires.underway.0, underway))),
      ),
    )

pub returns-in_err-explore-clause-went : goal.returns-in_err-explore-clause-went
returns-in_err-explore-clause-went g t c =
    walk_handed_on (answered_on c.loop-port.invariant.goes_on c.in_ok-found.ensures.went) _
    c.from_residual-in_err-explore.result c.from_residual-in_err-explore.ensures.1
    (begun g t (goal.at.returns-in_err-explore-clause-went g t c).In-Some)
    c.in_err-explore.ensures.went

pub loop-port-preserved : goal.loop-port-preserved
loop-port-preserved g t c =
    let at = (goal.at.loop-port-preserved g t c).In-Some in
    let is = c.in_ok-explore.ensures.went.topology ∙ c.in_ok-found.ensures.went.topology in
    let child = (behind g t at).1 in
    let after = c.in_ok-explore.ensures.found in record {
      goes_on = answered_on
          (answered_on c.loop-port.invariant.goes_on c.in_ok-found.ensures.went)
          c.in_ok-explore.ensures.went;
      found = found_back c.loop-port.port is c.loop-port.invariant.found child after
          (c.in_ok-explore.ensures.tried c.requires.underway.0
          (begun g t at c.requires.underway.0 c.requires.underway.1));
      tried = λ before underway.
          underway_back c.loop-port.port is c.loop-port.invariant.found child after
          (c.in_ok-explore.ensures.tried before (begun g t at before underway));
      host = c.in_ok-explore.ensures.host
          ∙ (c.in_ok-found.ensures.host ∙ c.loop-port.invariant.host);
      longer = omega (
        arith,
        c.loop-port.invariant.longer,
        c.in_ok-found.ensures.longer,
        c.in_ok-explore.ensures.longer,
      );
    }

pub returns-clause-tried : goal.returns-clause-tried
returns-clause-tried g t c before underway =
    let same : c.loop-port.port ≡ c.args.switch.now.ports =
    omega (arith, c.loop-port-test.false, c.loop-port.auto.port-end) in
    subst (λ n. IsNumbering g.M.Maint c.loop-port.maint c.loop-port.numbering
    (onward c.args.switch.now.path n) before) same (c.loop-port.invariant.tried before underway)
