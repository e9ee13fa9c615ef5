-- What holds after each access holds after each turn, and after a port was tried.
use Rattle.contest_machine.proofs.Prelude.{◌≡◌, ◌≢◌, ℕ, ◌+◌, ◌*◌, Bool, true, false, nat_lt, List, [], ◌∷◌, ◌++◌, append-nil, arith, subst, sym, refl, ap, ◌∙◌, if◌then◌else◌, ne_eqb, append_assoc, entered, AllRegisters, Side, A, B, Tried, Status, Done, Walker, State, port_after, gone_on, stepped, is_locking, locked_on, walker_turned, Both, turn_of, after_turns, walker_of, lock_at, lock_next, lock_next_on, state_of, locks_at_first, locks_in, locks_in_turn, locks_over}

-- The walker after a port was tried has another stage, and else is the same.
pub gone_by : (P : Walker → Type 0) (w : Walker) (tried : List Tried)
    → ((t : List Tried) → t ≢ [] → P (record w { tried = t; stage = Status }))
    → P (record w { tried = []; stage = Done }) → P (gone_on w tried)
gone_by P w [] status done = done
gone_by P w (top ∷ rest) status done =
    go (nat_lt (port_after top.entry top.port) top.ports) (gone_by P w rest status done)
  where
    go : (b : Bool) → P (gone_on w rest)
        → P (if b then record w {
          tried = record top { port = port_after top.entry top.port } ∷ rest;
          stage = Status;
        }
        else gone_on w rest)
    go true on = status (record top { port = port_after top.entry top.port } ∷ rest) (λ e. cc)
    go false on = on

-- the status of a port is no lock
pub status_reads_none : (w : Walker) (old : AllRegisters) (top : Tried) (rest : List Tried)
    → lock_next (state_of (record w { todo = []; stage = Status; tried = top ∷ rest }) old) ≡ []
status_reads_none w old top rest =
    ap (λ b. if b then lock_at old (entered w.view top.path) else [])
    (ne_eqb (0x158 + 0x20 * top.port) 0x68 (λ e. omega (arith, e)))

-- ---- what holds of a walker and the locks that it has read

module _ (P : List ℕ → Walker → Type 0)
    (step : (locks : List ℕ) (w : Walker) (old : AllRegisters) → P locks w
    → P (locks ++ lock_next (state_of w old)) (stepped w old).walker) where
  locked : (locks : List ℕ) (state : State) → P locks state.walker
      → P (locks ++ lock_next_on state) (locked_on state).walker
  locked locks state holds = go (is_locking state.walker.stage)
    where
      go : (b : Bool) → P (locks ++ (if b then lock_next state else []))
          (if b then stepped state.walker state.registers else state).walker
      go true = step locks state.walker state.registers holds
      go false = subst (λ l. P l state.walker) (sym (append-nil locks)) holds

  first : (locks : List ℕ) (w : Walker) (old : AllRegisters) → P locks w
      → P (locks ++ locks_at_first (state_of w old)) (locked_on (locked_on (stepped w old))).walker
  first locks w old holds =
      subst (λ l. P l (locked_on (locked_on one)).walker)
      (append_assoc (locks ++ lock_next (state_of w old)) (lock_next_on one) (lock_next_on two)
      ∙ append_assoc locks (lock_next (state_of w old)) (lock_next_on one ++ lock_next_on two))
      (locked (locks ++ lock_next (state_of w old) ++ lock_next_on one) two
      (locked (locks ++ lock_next (state_of w old)) one (step locks w old holds)))
    where
      one : State
      one = stepped w old

      two : State
      two = locked_on one

  pub turned_with : (locks : List ℕ) (w : Walker) (old : AllRegisters) → P locks w
      → P locks (record w { begun = true })
      → P (locks ++ locks_in w old) (walker_turned w old).walker
  turned_with locks w old holds begun = go w.begun
    where
      go : (b : Bool) → P (locks ++ (if b then lock_next (state_of w old)
          else locks_at_first (state_of (record w { begun = true }) old)))
          (if b then stepped w old
          else locked_on (locked_on (stepped (record w { begun = true }) old))).walker
      go true = step locks w old holds
      go false = first locks (record w { begun = true }) old begun

  module _ (begun : (locks : List ℕ) (w : Walker) → P locks w → P locks (record w { begun = true }))
    where
      turn_with : (locks : List ℕ) (both : Both) (side turn : Side) → P locks (walker_of both side)
          → P (locks ++ locks_in_turn both side turn) (walker_of (turn_of both turn) side)
      turn_with locks both A A holds =
          turned_with locks both.first both.registers holds (begun locks both.first holds)
      turn_with locks both A B holds = subst (λ l. P l both.first) (sym (append-nil locks)) holds
      turn_with locks both B A holds = subst (λ l. P l both.second) (sym (append-nil locks)) holds
      turn_with locks both B B holds =
          turned_with locks both.second both.registers holds (begun locks both.second holds)

      pub turns_with : (locks : List ℕ) (both : Both) (side : Side) (turns : List Side)
          → P locks (walker_of both side)
          → P (locks ++ locks_over both side turns) (walker_of (after_turns both turns) side)
      turns_with locks both side [] holds =
          subst (λ l. P l (walker_of both side)) (sym (append-nil locks)) holds
      turns_with locks both side (turn ∷ turns) holds =
          subst (λ l. P l (walker_of (after_turns (turn_of both turn) turns) side))
          (append_assoc locks (locks_in_turn both side turn)
          (locks_over (turn_of both turn) side turns))
          (turns_with (locks ++ locks_in_turn both side turn) (turn_of both turn) side turns
          (turn_with locks both side turn holds))

-- turns, and then more
pub after_more : (both : Both) (turns later : List Side)
    → after_turns both (turns ++ later) ≡ after_turns (after_turns both turns) later
after_more both [] later = refl
after_more both (turn ∷ turns) later = after_more (turn_of both turn) turns later

-- one turn more
pub after_one_more : (both : Both) (turns : List Side) (side : Side)
    → after_turns both (turns ++ side ∷ []) ≡ turn_of (after_turns both turns) side
after_one_more both turns side = after_more both turns (side ∷ [])
