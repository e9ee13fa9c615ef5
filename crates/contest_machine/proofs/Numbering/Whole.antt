-- Over all turns a host comes along its way, and its map stays once it is done.
use Rattle.contest_machine.proofs.Prelude.{◌≡◌, ◌≢◌, ◌≤◌, Bool, true, false, List, [], ◌∷◌, Option, Some, None, arith, ◌⊎◌, inl, inr, subst, sym, refl, ap, ◌∙◌, if◌then◌else◌, PortRef, Topology, entered, AllRegisters, Fits, AreOwnUntagged, Side, A, B, Asked, Ask, Features, Done, Walker, State, fresh, wants, reached, reaches, stepped, is_locking, locked_on, walker_turned, Both, turn_of, after_turns, IsMine, IsNew, IsBoundedAt, WalkerIsWithin, walker_of, state_of, AreBegun, HasNumbered, KeepsItsMap, DoneKeepsItsMap, OneIsDone}
use Rattle.contest_machine.proofs.Keeping.Apart.{step_leaves, turned_by, turns_keep_apart}
use Rattle.contest_machine.proofs.Keeping.Frame.{IsTurn}
use Rattle.contest_machine.proofs.Turns.Lasting.{step_lasts}
use Rattle.contest_machine.proofs.Turns.Spending.{few_kept, few_devices}
use Rattle.contest_machine.proofs.Turns.Fair.{AreFair, swap_fair, step_fair, begun_fair}
use Rattle.contest_machine.proofs.Turns.Counted.{begun_for}
use Rattle.contest_machine.proofs.Numbering.Sound.{fits_after}
use Rattle.contest_machine.proofs.Numbering.Begins.{starter, StartKnows, IsStarting}
use Rattle.contest_machine.proofs.Numbering.Along.{IsAlong}
use Rattle.contest_machine.proofs.Numbering.Coming.{IsOver, IsComing}
use Rattle.contest_machine.proofs.Numbering.Firsts.{step_coming, theirs_coming, untagged_stays}
use Rattle.contest_machine.proofs.Numbering.Ended.{done_numbered, done_keeps}

-- what a walker leaves of the registers goes on to show the fabric
step_shown : (view : Topology) (w : Walker) (old : AllRegisters) → Fits view old
    → Fits view (stepped w old).registers
step_shown view w old shown = go (wants w)
  where
    at : (ask : Asked) (o : Option PortRef) → Fits view (reached w old ask o).registers
    at ask None = shown
    at ask (Some port) = fits_after view old port ask.access shown

    go : (o : Option Asked) → Fits view (reaches w old o).registers
    go None = shown
    go (Some ask) = at ask (entered w.view ask.path)

-- the ID that is given next is small
pub few_next : (w : Walker) (old : AllRegisters) → WalkerIsWithin w → IsMine w old
    → w.stage ≡ Features
    → w.next ≤ 65
few_next w old within mine is =
    let bounded = subst (λ s. IsBoundedAt s w.devices w.id w.next w.path w.tried) is
    within.bounded in
    let most = bounded.next_is in
    let few = few_devices w.devices (fresh w.stage w.path) (few_kept w old within mine) in
    omega (arith, most, few)

-- ---- the walker's own accesses

pub record IsSound (before : AllRegisters) (o : Walker) (state : State) : Type 0 where
  pub fair : AreFair before state.walker o state.registers
  pub shown : Fits state.walker.view state.registers
  pub coming : IsComing state.walker state.registers
  pub begun : state.walker.begun ≡ true

module _ (before : AllRegisters) (o : Walker) where
  pub step_sound : (state : State) → IsSound before o state
      → IsSound before o (stepped state.walker state.registers)
  step_sound state sound =
      let w = state.walker in
      let old = state.registers in
      let fair = sound.fair in
      record {
        fair = step_fair before w o old fair;
        shown = subst (λ v. Fits v (stepped w old).registers) (sym (step_lasts w old).view)
            (step_shown w.view w old sound.shown);
        coming = step_coming w old fair.contest.first_id fair.first.within.proper sound.shown
            (few_next w old fair.first.within fair.contest.first) fair.contest.first
            fair.first.led sound.coming;
        begun = (step_lasts w old).begun ∙ sound.begun;
      }

  locked_sound : (state : State) → IsSound before o state → IsSound before o (locked_on state)
  locked_sound state sound = go (is_locking state.walker.stage)
    where
      go : (b : Bool) → IsSound before o (if b then stepped state.walker state.registers else state)
      go true = step_sound state sound
      go false = sound

-- it has come so far, or has not begun
abbrev pub HasCome : Walker → AllRegisters → Type 0
HasCome w now = ((w.begun ≡ true) × IsComing w now)
    ⊎ ((w ≡ starter w.view w.id false Ask []) × AreOwnUntagged w.view now w.id)

pub record IsReady (before : AllRegisters) (w o : Walker) (now : AllRegisters) : Type 0 where
  pub fair : AreFair before w o now
  pub shown : Fits w.view now
  pub come : HasCome w now

clash : {b : Bool} → b ≡ true → b ≡ false → ⊥
clash is not = absurd (cc)

ready_from : (before : AllRegisters) (o : Walker) (state : State) → IsSound before o state
    → IsReady before state.walker o state.registers
ready_from before o state sound = record {
  fair = sound.fair;
  shown = sound.shown;
  come = inl (sound.begun, sound.coming);
}

module _ (before : AllRegisters) (w o : Walker) (old : AllRegisters)
    (ready : IsReady before w o old)
  where
    -- a walker that has begun
    pub sound_later : w.begun ≡ true → IsSound before o (state_of w old)
    sound_later begun = come ready.come
      where
        come : HasCome w old → IsSound before o (state_of w old)
        come (inl (also, coming)) = record {
          fair = ready.fair;
          shown = ready.shown;
          coming = coming;
          begun = begun;
        }
        come (inr (new, untagged)) = absurd (clash begun (ap (λ (v : Walker). v.begun) new))

    -- and one that begins
    pub sound_first : w.begun ≡ false → IsSound before o (state_of (record w { begun = true }) old)
    sound_first not = come ready.come
      where
        started : w ≡ starter w.view w.id false Ask [] → AreOwnUntagged w.view old w.id
            → IsStarting (record w { begun = true }) old
        started is untagged =
            subst (λ (v : Walker). IsStarting (record v { begun = true }) old) (sym is)
            (record { is = refl; knows = (refl, untagged) })

        come : HasCome w old → IsSound before o (state_of (record w { begun = true }) old)
        come (inl (begun, coming)) = absurd (clash begun not)
        come (inr (new, untagged)) = record {
          fair = begun_fair before w o old ready.fair;
          shown = ready.shown;
          coming = inr (inl (started new untagged));
          begun = refl;
        }

    own_ready : IsReady before (walker_turned w old).walker o (walker_turned w old).registers
    own_ready = go w.begun refl
      where
        go : (b : Bool) → w.begun ≡ b
            → IsReady before (if b then stepped w old
            else locked_on (locked_on (stepped (record w { begun = true }) old))).walker o
            (if b then stepped w old
            else locked_on (locked_on (stepped (record w { begun = true }) old))).registers
        go true is =
            ready_from before o (stepped w old)
            (step_sound before o (state_of w old) (sound_later is))
        go false is =
            ready_from before o (locked_on (locked_on (stepped (record w { begun = true }) old)))
            (locked_sound before o (locked_on (stepped (record w { begun = true }) old))
            (locked_sound before o (stepped (record w { begun = true }) old)
            (step_sound before o (state_of (record w { begun = true }) old) (sound_first is))))

-- ---- the other's accesses

module _ (before : AllRegisters) (w : Walker) where
  abbrev Waits : State → Type 0
  Waits state = IsReady before w state.walker state.registers

  their_step : (o : Walker) (old : AllRegisters) → Waits (state_of o old) → Waits (stepped o old)
  their_step o old ready =
      let fair = swap_fair before w o old ready.fair in
      let leaves = step_leaves o old fair.contest.first_id fair.contest.first in
      record {
        fair = swap_fair before (stepped o old).walker w (stepped o old).registers
            (step_fair before o w old fair);
        shown = step_shown w.view o old ready.shown;
        come = come (stepped o old).walker (stepped o old).registers leaves.0 ready.come;
      }
    where
      come : (after : Walker) (new : AllRegisters)
          → IsTurn o after old new → HasCome w old
          → HasCome w new
      come after new turn (inl (begun, coming)) =
          inl (
            begun,
            theirs_coming w o after old new turn ready.fair.contest.second
                ready.fair.contest.first (λ same. ready.fair.contest.differ (sym same))
                ready.fair.contest.first_id coming,
          )
      come after new turn (inr (is, untagged)) =
          inr (
            is,
            untagged_stays w o after old new turn ready.fair.contest.second
                ready.fair.contest.first (λ same. ready.fair.contest.differ (sym same))
                ready.fair.contest.first_id untagged,
          )

  their_ready : (o : Walker) (old : AllRegisters) → Waits (state_of o old)
      → Waits (walker_turned o old)
  their_ready o old ready =
      turned_by Waits their_step o old ready (record {
        fair = swap_fair before (record o { begun = true }) w old
            (begun_fair before o w old (swap_fair before w o old ready.fair));
        shown = ready.shown;
        come = ready.come;
      })

-- ---- all turns

abbrev pub ReadyFor : AllRegisters → Both → Side → Type 0
ReadyFor before both A = IsReady before both.first both.second both.registers
ReadyFor before both B = IsReady before both.second both.first both.registers

pub turn_ready : (before : AllRegisters) (both : Both) (side turn : Side)
    → ReadyFor before both side
    → ReadyFor before (turn_of both turn) side
turn_ready before both A A ready = own_ready before both.first both.second both.registers ready
turn_ready before both A B ready = their_ready before both.first both.second both.registers ready
turn_ready before both B A ready = their_ready before both.second both.first both.registers ready
turn_ready before both B B ready = own_ready before both.second both.first both.registers ready

turns_ready : (before : AllRegisters) (both : Both) (side : Side) (turns : List Side)
    → ReadyFor before both side → ReadyFor before (after_turns both turns) side
turns_ready before both side [] ready = ready
turns_ready before both side (turn ∷ turns) ready =
    turns_ready before (turn_of both turn) side turns (turn_ready before both side turn ready)

-- ---- at first

new_is : (w : Walker) → IsNew w → w.next ≡ 0 → w ≡ starter w.view w.id w.begun Ask []
new_is w new next =
    ap (λ d. record w { devices = d }) new.devices
    ∙ (ap (λ n. record w { devices = []; next = n }) next
    ∙ (ap (λ p. record w { devices = []; next = 0; path = p }) new.path
    ∙ (ap (λ t. record w { devices = []; next = 0; path = []; tried = t }) new.tried
    ∙ (ap (λ t. record w { devices = []; next = 0; path = []; tried = []; todo = t }) new.todo
    ∙ ap (λ s. record w {
      devices = [];
      next = 0;
      path = [];
      tried = [];
      todo = [];
      stage = s;
    }) new.stage))))

new_come : (w : Walker) (now : AllRegisters) → IsNew w → w.next ≡ 0
    → AreOwnUntagged w.view now w.id → HasCome w now
new_come w now new next untagged = go w.begun refl
  where
    is : w ≡ starter w.view w.id w.begun Ask []
    is = new_is w new next

    go : (b : Bool) → w.begun ≡ b → HasCome w now
    go true begun =
        inl (
          begun,
          inr (inl (subst (λ v. IsStarting v now) (sym is)
              (record { is = refl; knows = (refl, untagged) }))),
        )
    go false begun = inr (is ∙ ap (λ b. starter w.view w.id b Ask []) begun, untagged)

pub begun_ready : (both : Both) (side : Side) → AreBegun both
    → AreOwnUntagged (walker_of both side).view both.registers (walker_of both side).id
    → ReadyFor both.registers both side
begun_ready both A begun untagged = record {
  fair = begun_for both A begun;
  shown = begun.shown A;
  come = new_come both.first both.registers (begun.new A) (begun.next A) untagged;
}
begun_ready both B begun untagged = record {
  fair = begun_for both B begun;
  shown = begun.shown B;
  come = new_come both.second both.registers (begun.new B) (begun.next B) untagged;
}

-- ---- once it is done

done_map : (before : AllRegisters) (w o : Walker) (now : AllRegisters) → IsReady before w o now
    → HasNumbered w → KeepsItsMap w now
done_map before w o now ready done = come ready.come
  where
    along : IsAlong w now → KeepsItsMap w now
    along is = record {
      keeps = done_keeps w now done.0 done.1 is.way;
      before = is.way.before;
      numbered = done_numbered w now done.0 done.1 is.way ready.shown;
    }

    coming : IsComing w now → KeepsItsMap w now
    coming (inl over) = absurd (subst IsOver done.0 over)
    coming (inr (inl starting)) = absurd (subst (StartKnows w now) done.0 starting.knows)
    coming (inr (inr is)) = along is

    asks : Ask ≢ Done
    asks e = cc

    come : HasCome w now → KeepsItsMap w now
    come (inl (begun, is)) = coming is
    come (inr (new, untagged)) =
        absurd (asks (ap (λ (v : Walker). v.stage) (sym new) ∙ done.0))

done_for : (before : AllRegisters) (both : Both) (side : Side) → ReadyFor before both side
    → HasNumbered (walker_of both side) → KeepsItsMap (walker_of both side) both.registers
done_for before both A ready done = done_map before both.first both.second both.registers ready done
done_for before both B ready done = done_map before both.second both.first both.registers ready done

pub done_keeps_its_map : DoneKeepsItsMap
done_keeps_its_map both turns side begun untagged done =
    done_for both.registers (after_turns both turns) side
    (turns_ready both.registers both side turns (begun_ready both side begun untagged)) done

pub one_is_done : OneIsDone
one_is_done both turns node begun untagged reached done =
    let apart = turns_keep_apart both turns (begun.new A) (begun.new B) begun.differ (begun.ids A)
    (begun.ids B) in
    apart.apart node
    ((done_keeps_its_map both turns A begun (untagged A) (done A)).keeps node (reached A))
    ((done_keeps_its_map both turns B begun (untagged B) (done B)).keeps node (reached B))
