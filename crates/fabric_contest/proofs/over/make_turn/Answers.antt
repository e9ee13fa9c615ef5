use Rattle.std.proofs.Common.{refl, sym, ap, ◌∙◌}
use Rattle.host_enumerate.specs.declared.maint.MaintEnd.TheVariants.{Undetected, WriteFault}
use Rattle.host_contest.specs.Walkers.{going_after}
use Rattle.fabric_maint.proofs.Making.{follows_itself}
use Rattle.fabric_maint.proofs.Meeting.{never_met}
use Rattle.fabric_contest.proofs.MadeTurns.{caused_by, none_rose}
use Rattle.fabric_contest.proofs.over.make_turn.Goals as goal

pub unreachable-requires : goal.unreachable-requires
unreachable-requires c =
    let met = caused_by _ _ _ c.in-Err-Undetected.field-0
    (Undetected c.in-Err-Undetected.field-0-0 c.in-Err-Undetected.field-0-1)
    c.in-Err-Undetected.field-0-is c.in-Err-Undetected.ensures.cause in
    never_met _ _ (λ noise. refl) c.turn.new.maint c.in-Err-Undetected.field-0-0
    c.in-Err-Undetected.field-0-1 met.0

pub unreachable-requires-in-Err-WriteFault : goal.unreachable-requires-in-Err-WriteFault
unreachable-requires-in-Err-WriteFault c =
    let rose = caused_by _ _ _ c.in-Err-WriteFault.field-0 WriteFault c.in-Err-WriteFault.field-0-is
    c.in-Err-WriteFault.ensures.cause in
    none_rose rose.0

pub returns-in-Ok-clause-same : goal.returns-in-Ok-clause-same
returns-in-Ok-clause-same c =
    (c.in-Ok.ensures.follows c.args.maint.now (follows_itself _ _ _ c.args.maint.now)).same

pub returns-in-Err-NoMemory-clause-same : goal.returns-in-Err-NoMemory-clause-same
returns-in-Err-NoMemory-clause-same c =
    (c.in-Err-NoMemory.ensures.leaves c.args.maint.now
    (follows_itself _ _ _ c.args.maint.now)).same

pub returns-in-Ok-clause-going : goal.returns-in-Ok-clause-going
returns-in-Ok-clause-going c =
    c.in-Ok.ensures.going ∙ ap (going_after c.args.walker.now.going) (sym c.in-Ok.ensures.last)
