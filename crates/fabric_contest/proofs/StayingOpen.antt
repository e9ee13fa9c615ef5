-- No turn of a walker closes a way that passes only switches which the other keeps.
use Rattle.std.proofs.Common.{map, sym, ap, subst, ◌∙◌}
use Rattle.maint_registers.specs.Routes.{next_port}
use Rattle.fabric_map.specs.Routes.{AllRegisters}
use Rattle.link_watch.specs.declared.side.Side.TheVariants.{B}
use Rattle.link_watch.specs.Sides.{other_side}
use Rattle.contest_machine.specs.Machine.{Walker}
use Rattle.contest_machine.specs.Contest.{IsContest}
use Rattle.contest_machine.specs.Turns.{walker_turned, Both, turn_of, after_turns}
use Rattle.contest_machine.proofs.Keeping.Apart.{swap, turns_hold, begun_holds, turn_leaves_kept}
use Rattle.fabric_contest.specs.Laws.{StaysOpen, FirstStaysOpen, SecondStaysOpen}
use Rattle.fabric_contest.proofs.AllTurns.{flip, flip_turns}

module _ (w : Walker) (before old : AllRegisters) where
  -- a turn of the other leaves what this one keeps, and so the ways through it
  ways_open : (o : Walker) → IsContest o w before old
      → StaysOpen w old (walker_turned o old).registers
  ways_open o contest path passes opened = record {
    onwards = λ first front rest port at is enters.
        ap (λ d. next_port d 255)
        (turn_leaves_kept w before old o contest at.node
        (passes first front rest port at is enters))
        ∙ opened.onwards first front rest port at is enters;
    home = λ first front rest port at is enters.
        ap (λ d. next_port d w.id)
        (turn_leaves_kept w before old o contest at.node
        (passes first front rest port at is enters))
        ∙ opened.home first front rest port at is enters;
    not_host = opened.not_host;
  }

pub first_stays_open : FirstStaysOpen
first_stays_open both turns begins =
    let now = after_turns both turns in
    let holds = turns_hold both.registers both turns
    (begun_holds both begins.new_first begins.new_second begins.differ begins.first_id
    begins.second_id) in
    ways_open now.first both.registers now.registers now.second
    (swap now.first now.second both.registers now.registers holds)

-- the walkers change places
abbrev NextLeaves : Both → Type 0
NextLeaves both = StaysOpen both.first both.registers (turn_of both B).registers

pub second_stays_open : SecondStaysOpen
second_stays_open both turns begins =
    subst NextLeaves (flip_turns both turns)
    (first_stays_open (flip both) (map other_side turns) (record {
      new_first = begins.new_second;
      new_second = begins.new_first;
      differ = λ same. begins.differ (sym same);
      first_id = begins.second_id;
      second_id = begins.first_id;
    }))
