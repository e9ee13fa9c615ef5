-- After all turns an access along an open path is carried.
use Rattle.contest_machine.proofs.Prelude.{◌≡◌, ◌≢◌, ℕ, ◌≤◌, Bool, false, List, [], ◌∷◌, length, Some, None, Contains, arith, inl, inr, subst, sym, refl, ap, ◌∙◌, same_Some, PortRef, Topology, AllRegisters, Side, A, B, Read, Write, Asked, PendingWrite, Stage, Ask, Claim, Check, Test, Features, Information, Status, Free, Done, Lost, Walker, State, fresh, asked, wants_at, wants_with, wants, AreOwnWrites, IsMine, IsNew, Both, walker_turned, turn_of, after_turns, walker_of, WantsAlong, IsCarried, OpenPathsCarry}
use Rattle.contest_machine.proofs.Keeping.Apart.{turned_by}
use Rattle.contest_machine.proofs.Turns.Led.{IsLedAt}
use Rattle.contest_machine.proofs.Numbering.Begins.{starter}
use Rattle.contest_machine.proofs.Numbering.Coming.{IsOver, IsComing}
use Rattle.contest_machine.proofs.Numbering.Whole.{HasCome, IsReady, ReadyFor, turn_ready, begun_ready}
use Rattle.contest_machine.proofs.Asking.Answering.{only}
use Rattle.contest_machine.proofs.Asking.Guided.{AreOut, AreBehindHost, PathIs, IsGuided, step_guided}
use Rattle.contest_machine.proofs.Asking.Carried.{along_carried, along_short}

-- a walker that has not taken in its host asks its host alone
first_own : (view : Topology) (id : ℕ) (begun : Bool) (stage : Stage) (todo : List PendingWrite)
    (ask : Asked) → AreOwnWrites (fresh stage []) todo
    → wants_with (starter view id begun stage todo) todo ≡ Some ask → ask.path ≡ []
first_own view id begun stage [] ask own wanted = at stage wanted
  where
    here : (one : Asked) → one.path ≡ [] → Some one ≡ Some ask → ask.path ≡ []
    here one empty same = ap (λ (a : Asked). a.path) (sym (same_Some one ask same)) ∙ empty

    at : (stage : Stage) → wants_at (starter view id begun stage []) stage ≡ Some ask
        → ask.path ≡ []
    at Ask wanted = here (asked [] (Read 0x68)) refl wanted
    at Claim wanted = here (asked [] (Write 0x68 id)) refl wanted
    at Check wanted = here (asked [] (Read 0x68)) refl wanted
    at Test wanted = here (asked [] (Read 0x6c)) refl wanted
    at Features wanted = here (asked [] (Read 0x10)) refl wanted
    at Information wanted = here (asked [] (Read 0x14)) refl wanted
    at Status wanted = absurd (cc)
    at Free wanted = here (asked [] (Write 0x68 id)) refl wanted
    at Done wanted = absurd (cc)
    at Lost wanted = absurd (cc)
first_own view id begun stage (p ∷ rest) ask own wanted =
    ap (λ (a : Asked). a.path)
    (sym (same_Some (asked p.path (Write p.offset p.value)) ask wanted)) ∙ at stage own.0.0
  where
    at : (stage : Stage) → Contains (fresh stage []) p.path → p.path ≡ []
    at Features found = sym (only [] p.path found)
    at Information found = sym (only [] p.path found)
    at Ask none = absurd (omega (arith, none.1))
    at Claim none = absurd (omega (arith, none.1))
    at Check none = absurd (omega (arith, none.1))
    at Test none = absurd (omega (arith, none.1))
    at Status none = absurd (omega (arith, none.1))
    at Free none = absurd (omega (arith, none.1))
    at Done none = absurd (omega (arith, none.1))
    at Lost none = absurd (omega (arith, none.1))

start_own : (w v : Walker) (now : AllRegisters) (ask : Asked)
    → w ≡ starter v.view v.id v.begun v.stage v.todo
    → IsMine w now → wants w ≡ Some ask → ask.path ≡ []
start_own w v now ask is mine wanted =
    first_own v.view v.id v.begun v.stage v.todo ask
    (subst (λ u. IsMine u now) is mine).own
    (subst (λ (u : Walker). wants u ≡ Some ask) is wanted)

over_asks : (w : Walker) (ask : Asked) (stage : Stage) → w.stage ≡ stage → IsOver stage
    → IsLedAt w stage → stage ≢ Free → wants w ≡ Some ask → ⊥
over_asks w ask Free is over led on wanted = on refl
over_asks w ask Lost is over led on wanted =
    let none : None ≡ Some ask =
    subst (λ s. wants_at w s ≡ Some ask) is (subst (λ t. wants_with w t ≡ Some ask) led.0 wanted) in
    absurd (cc)
over_asks w ask Ask is over led on wanted = over
over_asks w ask Claim is over led on wanted = over
over_asks w ask Check is over led on wanted = over
over_asks w ask Test is over led on wanted = over
over_asks w ask Features is over led on wanted = over
over_asks w ask Information is over led on wanted = over
over_asks w ask Status is over led on wanted = over
over_asks w ask Done is over led on wanted = over

pub ready_carried : (before : AllRegisters) (w o : Walker) (now : AllRegisters) (ask : Asked)
    (at : PortRef) → IsReady before w o now → IsGuided w → WantsAlong w now ask at
    → IsCarried w now ask at
ready_carried before w o now ask at ready guided wants_it = come ready.come
  where
    mine : IsMine w now
    mine = ready.fair.contest.first

    coming : IsComing w now → IsCarried w now ask at
    coming (inl over) =
        absurd (over_asks w ask w.stage refl over ready.fair.first.led.1 wants_it.keeps_on
        wants_it.wanted)
    coming (inr (inl starting)) =
        absurd (wants_it.some (start_own w w now ask starting.is mine wants_it.wanted))
    coming (inr (inr along)) =
        along_carried w now ready.fair.first.within mine along guided ask at wants_it

    come : HasCome w now → IsCarried w now ask at
    come (inl begun) = coming begun.1
    come (inr new) =
        absurd (wants_it.some (start_own w (starter w.view w.id false Ask []) now ask new.0 mine
        wants_it.wanted))

-- and its path has at most 64 ports
pub ready_short : (before : AllRegisters) (w o : Walker) (now : AllRegisters) (ask : Asked)
    → IsReady before w o now → IsGuided w → w.stage ≢ Free → wants w ≡ Some ask
    → length ask.path ≤ 64
ready_short before w o now ask ready guided on wanted = come ready.come
  where
    mine : IsMine w now
    mine = ready.fair.contest.first

    own : ask.path ≡ [] → length ask.path ≤ 64
    own empty = let none = ap (λ (l : List ℕ). length l) empty in omega (arith, none)

    coming : IsComing w now → length ask.path ≤ 64
    coming (inl over) = absurd (over_asks w ask w.stage refl over ready.fair.first.led.1 on wanted)
    coming (inr (inl starting)) = own (start_own w w now ask starting.is mine wanted)
    coming (inr (inr along)) =
        along_short w now ready.fair.first.within mine along guided ask on wanted

    come : HasCome w now → length ask.path ≤ 64
    come (inl begun) = coming begun.1
    come (inr new) = own (start_own w (starter w.view w.id false Ask []) now ask new.0 mine wanted)

-- ---- all turns

abbrev Guides : State → Type 0
Guides state = IsGuided state.walker

turned_guided : (w : Walker) (old : AllRegisters) → IsGuided w → Guides (walker_turned w old)
turned_guided w old guided = turned_by Guides step_guided w old guided guided

pub turn_guided : (both : Both) (side turn : Side) → IsGuided (walker_of both side)
    → IsGuided (walker_of (turn_of both turn) side)
turn_guided both A A guided = turned_guided both.first both.registers guided
turn_guided both A B guided = guided
turn_guided both B A guided = guided
turn_guided both B B guided = turned_guided both.second both.registers guided

pub new_guided : (w : Walker) → IsNew w → IsGuided w
new_guided w new = (
  subst AreOut (sym new.tried) tt,
  subst AreBehindHost (sym new.devices) tt,
  inl new.path,
  subst (PathIs w) (sym new.stage) tt,
  inl new.devices,
)

carried_for : (before : AllRegisters) (both : Both) (side : Side) (ask : Asked) (at : PortRef)
    → ReadyFor before both side → IsGuided (walker_of both side)
    → WantsAlong (walker_of both side) both.registers ask at
    → IsCarried (walker_of both side) both.registers ask at
carried_for before both A ask at ready guided wants_it =
    ready_carried before both.first both.second both.registers ask at ready guided wants_it
carried_for before both B ask at ready guided wants_it =
    ready_carried before both.second both.first both.registers ask at ready guided wants_it

turns_carried : (before : AllRegisters) (both : Both) (turns : List Side) (side : Side)
    (ask : Asked)
    (at : PortRef) → ReadyFor before both side → IsGuided (walker_of both side)
    → WantsAlong (walker_of (after_turns both turns) side) (after_turns both turns).registers ask at
    → IsCarried (walker_of (after_turns both turns) side) (after_turns both turns).registers ask at
turns_carried before both [] side ask at ready guided wants_it =
    carried_for before both side ask at ready guided wants_it
turns_carried before both (turn ∷ turns) side ask at ready guided wants_it =
    turns_carried before (turn_of both turn) turns side ask at
    (turn_ready before both side turn ready) (turn_guided both side turn guided) wants_it

pub open_paths_carry : OpenPathsCarry
open_paths_carry both turns side ask at begun untagged wants_it =
    turns_carried both.registers both turns side ask at (begun_ready both side begun untagged)
    (new_guided (walker_of both side) (begun.new side)) wants_it
