-- What a turn of a host answers, and which locks it reads.
use Rattle.std.specs.Prelude.{ℕ, ◌==◌, Bool, true, false, List, [], ◌∷◌, ◌++◌, Option, Some, None, if◌then◌else◌}
use Rattle.fabric_script.specs.declared.ports.PortRef.{PortRef}
use Rattle.fabric_map.specs.Topology.{entered}
use Rattle.fabric_map.specs.Routes.{AllRegisters}
use Rattle.host_enumerate.specs.declared.maint.Access.{Access}
use Rattle.host_enumerate.specs.declared.maint.Access.TheVariants.{Read, Write}
use Rattle.link_watch.specs.declared.side.Side.{Side}
use Rattle.link_watch.specs.declared.side.Side.TheVariants.{A, B}
use Rattle.contest_machine.specs.declared.stages.Asked.{Asked}
use Rattle.contest_machine.specs.declared.stages.Turn.{Turn}
use Rattle.contest_machine.specs.Machine.{Walker, State, wants, stepped}
use Rattle.contest_machine.specs.Turns.{is_locking, locked_on, came_of, Both, turn_of}

-- the walker of a side
abbrev pub walker_of : Both → Side → Walker
walker_of both A = both.first
walker_of both B = both.second

-- what a turn of a side answers
abbrev pub side_answer : Both → Side → Turn
side_answer both side = came_of (walker_of both side) (walker_of (turn_of both side) side)

-- ---- the locks that are read

-- the access reads a lock
abbrev pub reads_lock : Access → Bool
reads_lock (Read offset) = offset == 0x68
reads_lock (Write offset value) = false

-- the lock of the device of a port
abbrev pub lock_at : AllRegisters → Option PortRef → List ℕ
lock_at registers None = []
lock_at registers (Some at) = (registers at.node).lock ∷ []

-- the lock that is told if this is asked
abbrev pub lock_told_to : State → Option Asked → List ℕ
lock_told_to state None = []
lock_told_to state (Some ask) =
    if reads_lock ask.access
    then lock_at state.registers (entered state.walker.view ask.path)
    else []

-- the lock that the next access reads, if it reads one
abbrev pub lock_next : State → List ℕ
lock_next state = lock_told_to state (wants state.walker)

-- and the same of an access that is made in the same turn
abbrev pub lock_next_on : State → List ℕ
lock_next_on state = if is_locking state.walker.stage then lock_next state else []

abbrev pub state_of : Walker → AllRegisters → State
state_of w registers = record { walker = w; registers = registers }

-- the locks that the first turn reads: those of its accesses, three at most
abbrev pub locks_at_first : State → List ℕ
locks_at_first state =
    lock_next state ++ (lock_next_on (stepped state.walker state.registers)
    ++ lock_next_on (locked_on (stepped state.walker state.registers)))

-- the locks that a turn of a walker reads, in order
abbrev pub locks_in : Walker → AllRegisters → List ℕ
locks_in w registers =
    if w.begun then lock_next (state_of w registers)
    else locks_at_first (state_of (record w { begun = true }) registers)

-- the locks that the walker of the first side reads, if a turn is that of the second
abbrev pub locks_in_turn : Both → Side → Side → List ℕ
locks_in_turn both A A = locks_in both.first both.registers
locks_in_turn both A B = []
locks_in_turn both B A = []
locks_in_turn both B B = locks_in both.second both.registers

-- all locks that the walker of a side reads in these turns
abbrev pub locks_over : Both → Side → List Side → List ℕ
locks_over both side [] = []
locks_over both side (turn ∷ turns) =
    locks_in_turn both side turn ++ locks_over (turn_of both turn) side turns
