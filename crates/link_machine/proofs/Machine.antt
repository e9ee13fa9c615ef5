-- Each call of a link keeps it sound, and its notes are steps of plain queues.
use Rattle.link_machine.proofs.Prelude.{◌≡◌, ◌≢◌, ℕ, ◌++◌, Bool, true, false, List, [], ◌∷◌, map, take, None, refl, sym, ap, ◌∙◌, subst, if◌then◌else◌, append-nil, Char, Event, PortState, IsPort, new_port, IsSound, exchanged, begins, tell_keeps, time_out_keeps, IsTold, time_out_port, new_is_port, not_failed, other_side, Note, Side, A, B, Told, Delivered, Through, WentUndetected, told_of, undetected, answers, Edit, Move, Held, Freed, LinkState, link, empty_wires, turned_round, at_end, from_end, IsServed, with_port, Queues, queues_of, queues_between, queues_round, PortStep, steps_at, Walks, note_steps, WalkEnds, IsRun, RunRests, RunPumps, RunTells, RunDelivers, RunEdits, RunTimesOut, RunServes, IsSoundLink}
use Rattle.link_model.specs.Output as out
use Rattle.link_sound.specs.Histories.{AreBuffers}
use Rattle.link_sound.proofs.Told as telling
use Rattle.link_machine.specs.Calls.{sent_notes, first_turns, pumped, first_tells, told_from, delivery, after_delivery, first_takes, has_chars, delivery_from, delivered_from, move_note, told_notes, delivery_notes, first_edited, edited_from, is_silent, first_fires, timed_out_at}
use Rattle.link_machine.proofs.Flowing.{AreFlowing, delivered_flowing}
use Rattle.link_machine.proofs.Telling.{AreTelling, delivered_telling}
use Rattle.link_machine.proofs.Turning.{turned_port, turned_keeps, turned_told, turned_stays, time_out_moves_none, edit_keeps, served_keeps, served_told}
use Rattle.link_machine.proofs.Walking.{FirstWalks, walks_at}

pub round_keeps : (s : LinkState) → IsSoundLink s → IsSoundLink (turned_round s)
round_keeps s l = record {
  port_a = l.port_b;
  port_b = l.port_a;
  sound = exchanged s.a s.b s.wire_a.kept s.wire_b.kept l.sound;
  told_b = l.told_a;
  told_a = l.told_b;
}

pub from_end_keeps : (side : Side) (s : LinkState) → IsSoundLink s → IsSoundLink (from_end side s)
from_end_keeps A s l = l
from_end_keeps B s l = round_keeps s l

pub at_end_keeps : (side : Side) (does : LinkState → LinkState) (s : LinkState)
    → ((t : LinkState) → IsSoundLink t → IsSoundLink (does t)) → IsSoundLink s
    → IsSoundLink (at_end side does s)
at_end_keeps A does s keeps l = keeps s l
at_end_keeps B does s keeps l =
    round_keeps (does (turned_round s)) (keeps (turned_round s) (round_keeps s l))

-- what moves nothing at the first end moves nothing at either
pub at_end_stays :
    (side : Side) (does : LinkState → LinkState) (s : LinkState)
    → ((t : LinkState) → IsSoundLink t → queues_of (does t) ≡ queues_of t) → IsSoundLink s
    → queues_of (at_end side does s) ≡ queues_of s
at_end_stays A does s stays l = stays s l
at_end_stays B does s stays l = ap queues_round (stays (turned_round s) (round_keeps s l))

-- ---- turns

turns_keep : (n : ℕ) (s : LinkState) → IsSoundLink s → IsSoundLink (first_turns n s)
turns_keep n s l =
    let told = turned_told n s.a s.b s.wire_a.kept s.wire_b.kept l.port_a l.told_b l.told_a in
    record {
      port_a = turned_port n s.a l.port_a;
      port_b = l.port_b;
      sound = turned_keeps n s.a s.b s.wire_a.kept s.wire_b.kept l.port_a l.sound;
      told_b = told.0;
      told_a = told.1;
    }

pub pump_keeps : (from : Side) (n : ℕ) (s : LinkState) → IsSoundLink s
    → IsSoundLink (pumped from n s)
pump_keeps from n s l = at_end_keeps from (first_turns n) s (turns_keep n) l

pub pump_moves_none : (from : Side) (n : ℕ) (s : LinkState) → IsSoundLink s
    → queues_of (pumped from n s) ≡ queues_of s
pump_moves_none from n s l =
    at_end_stays from (first_turns n) s
    (λ t is. turned_stays n t.a t.b t.wire_a.kept t.wire_b.kept is.port_a is.sound) l

-- ---- statuses

tells_keep : (s : LinkState) → IsSoundLink s → IsSoundLink (first_tells s)
tells_keep s l = record {
  port_a = l.port_a;
  port_b = l.port_b;
  sound = tell_keeps s.a s.b s.wire_a.kept s.wire_b.kept l.sound;
  told_b = telling.tell_keeps s.a s.b s.wire_a.kept l.port_a l.told_b;
  told_a = l.told_a;
}

pub told_keeps : (from : Side) (s : LinkState) → IsSoundLink s → IsSoundLink (told_from from s)
told_keeps from s l = at_end_keeps from first_tells s tells_keep l

pub told_moves_none : (from : Side) (s : LinkState) → queues_of (told_from from s) ≡ queues_of s
told_moves_none A s = refl
told_moves_none B s = refl

-- ---- deliveries

flowing : (count : ℕ) (s : LinkState) → IsSoundLink s
    → AreFlowing s.b s.wire_a.kept (queues_of s) (delivery count s)
flowing count s l =
    delivered_flowing s.a s.b s.wire_a.kept s.wire_b.kept (take count s.wire_b.chars) l.port_a
    l.port_b l.sound

takes_keep : (count : ℕ) (s : LinkState) → IsSoundLink s → IsSoundLink (first_takes count s)
takes_keep count s l =
    by_delivery (delivery count s) (flowing count s l)
    (delivered_telling s.a s.b s.wire_a.kept s.wire_b.kept (take count s.wire_b.chars) l.port_a
    l.port_b l.sound l.told_b l.told_a)
  where
    by_delivery : (d : Delivered) → AreFlowing s.b s.wire_a.kept (queues_of s) d
        → AreTelling s.b s.wire_a.kept d → IsSoundLink (after_delivery count d s)
    by_delivery (Through flow) f t = record {
      port_a = f.port;
      port_b = l.port_b;
      sound = f.sound;
      told_b = t.told_b;
      told_a = t.told_a;
    }
    by_delivery (WentUndetected told e) f t = l

pub delivery_keeps : (from : Side) (count : ℕ) (s : LinkState) → IsSoundLink s
    → IsSoundLink (delivered_from from count s)
delivery_keeps from count s l =
    elim (has_chars from count s) as
    (λ b. IsSoundLink (if b then at_end (other_side from) (first_takes count) s else s)) [
      | true ↦ at_end_keeps (other_side from) (first_takes count) s (takes_keep count) l
      | false ↦ l
    ]

sent_steps : (side : Side) (chars : List Char) → note_steps (sent_notes side chars) ≡ []
sent_steps side [] = refl
sent_steps side (c ∷ chars) = refl

move_steps : (side : Side) (moves : List Move) (notes : List Note)
    → note_steps (map (move_note side) moves ++ notes) ≡ steps_at side moves ++ note_steps notes
move_steps side [] notes = refl
move_steps side (Held packet ∷ moves) notes =
    ap (λ (steps : List PortStep). record { side = side; move = Held packet } ∷ steps)
    (move_steps side moves notes)
move_steps side (Freed packet ∷ moves) notes =
    ap (λ (steps : List PortStep). record { side = side; move = Freed packet } ∷ steps)
    (move_steps side moves notes)

told_steps : (to : Side) (chars : List Char) (told : Told)
    → note_steps (told_notes to chars told) ≡ steps_at to told.moves
told_steps to chars told =
    let sent = (answers told.replies).chars in
    move_steps to told.moves (sent_notes to sent)
    ∙ ap (λ (steps : List PortStep). steps_at to told.moves ++ steps) (sent_steps to sent)
    ∙ append-nil (steps_at to told.moves)

-- the first port's moves are steps, where all events were sent
first_steps : (count : ℕ) (s : LinkState) (d : Delivered) → undetected d ≡ None
    → AreFlowing s.b s.wire_a.kept (queues_of s) d
    → FirstWalks (queues_of s) (told_of d).moves (queues_of (after_delivery count d s))
first_steps count s (Through flow) none f = f.walks
first_steps count s (WentUndetected told e) none f = absurd cc

-- and up to an event that was not
some_steps : (s : LinkState) (d : Delivered) → AreFlowing s.b s.wire_a.kept (queues_of s) d
    → (end : Queues) × FirstWalks (queues_of s) (told_of d).moves end
some_steps s (Through flow) f = (queues_between flow.port s.b, f.walks)
some_steps s (WentUndetected told e) f = f

end_walks :
    (to : Side) (count : ℕ) (s : LinkState) → undetected (delivery count (from_end to s)) ≡ None
    → IsSoundLink s
    → Walks (queues_of s) (steps_at to (told_of (delivery count (from_end to s))).moves)
    (queues_of (at_end to (first_takes count) s))
end_walks A count s none l =
    walks_at A (first_steps count s (delivery count s) none (flowing count s l))
end_walks B count s none l =
    let t = turned_round s in
    walks_at B (first_steps count t (delivery count t) none (flowing count t (round_keeps s l)))

some_walks : (to : Side) (count : ℕ) (s : LinkState) → IsSoundLink s
    → (end : Queues)
    × Walks (queues_of s) (steps_at to (told_of (delivery count (from_end to s))).moves) end
some_walks A count s l =
    let some = some_steps s (delivery count s) (flowing count s l) in
    (some.0, walks_at A some.1)
some_walks B count s l =
    let t = turned_round s in
    let some = some_steps t (delivery count t) (flowing count t (round_keeps s l)) in
    (queues_round some.0, walks_at B some.1)

pub delivery_walks :
    (from : Side) (count : ℕ) (s : LinkState) → undetected (delivery_from from count s) ≡ None
    → IsSoundLink s
    → Walks (queues_of s) (note_steps (delivery_notes from count s))
    (queues_of (delivered_from from count s))
delivery_walks from count s none l =
    elim (has_chars from count s) as (λ b.
    Walks (queues_of s) (note_steps (if b
    then told_notes (other_side from) (take count (from_end from s).wire_a.chars)
    (told_of (delivery_from from count s)) else []))
    (queues_of (if b then at_end (other_side from) (first_takes count) s else s))) [
      | true ↦ subst (λ (steps : List PortStep). Walks (queues_of s) steps
          (queues_of (at_end (other_side from) (first_takes count) s)))
          (sym (told_steps (other_side from) (take count (from_end from s).wire_a.chars)
          (told_of (delivery_from from count s))))
          (end_walks (other_side from) count s none l)
      | false ↦ WalkEnds
    ]

pub delivery_steps : (from : Side) (count : ℕ) (s : LinkState) → IsSoundLink s
    → (end : Queues) × Walks (queues_of s) (note_steps (delivery_notes from count s)) end
delivery_steps from count s l =
    elim (has_chars from count s) as (λ b.
    (end : Queues) × Walks (queues_of s) (note_steps (if b
    then told_notes (other_side from) (take count (from_end from s).wire_a.chars)
    (told_of (delivery_from from count s)) else [])) end) [
      | true ↦
          let some = some_walks (other_side from) count s l in (
            some.0,
            subst (λ (steps : List PortStep). Walks (queues_of s) steps some.0)
                (sym (told_steps (other_side from) (take count (from_end from s).wire_a.chars)
                (told_of (delivery_from from count s)))) some.1,
          )
      | false ↦ (queues_of s, WalkEnds)
    ]

-- ---- edits, time-outs and the layer above

edit_first : (edit : Edit) (s : LinkState) → IsSoundLink s → IsSoundLink (first_edited edit s)
edit_first edit s l = record {
  port_a = l.port_a;
  port_b = l.port_b;
  sound =
      subst (λ (kept : List Event). IsSound s.a s.b kept s.wire_b.kept)
      (sym (edit_keeps edit s.wire_a)) l.sound;
  told_b =
      subst (λ (kept : List Event). IsTold s.b s.a kept) (sym (edit_keeps edit s.wire_a)) l.told_b;
  told_a = l.told_a;
}

pub edited_keeps : (from : Side) (edit : Edit) (s : LinkState) → IsSoundLink s
    → IsSoundLink (edited_from from edit s)
edited_keeps from edit s l = at_end_keeps from (first_edited edit) s (edit_first edit) l

pub edit_moves_none : (from : Side) (edit : Edit) (s : LinkState)
    → queues_of (edited_from from edit s) ≡ queues_of s
edit_moves_none A edit s = refl
edit_moves_none B edit s = refl

fires_keep : (s : LinkState) → IsSoundLink s → IsSoundLink (first_fires s)
fires_keep s l =
    let told = telling.time_out_keeps s.a s.b s.wire_a.kept s.wire_b.kept l.told_b l.told_a in
    record {
      port_a = time_out_port s.a l.port_a;
      port_b = l.port_b;
      sound = time_out_keeps s.a s.b s.wire_a.kept s.wire_b.kept l.sound;
      told_b = told.0;
      told_a = told.1;
    }

pub fired_keeps : (side : Side) (s : LinkState) → IsSoundLink s → IsSoundLink (timed_out_at side s)
fired_keeps side s l =
    elim (is_silent s) as (λ b. IsSoundLink (if b then at_end side first_fires s else s)) [
      | true ↦ at_end_keeps side first_fires s fires_keep l
      | false ↦ l
    ]

fire_stays : (side : Side) (s : LinkState) → queues_of (at_end side first_fires s) ≡ queues_of s
fire_stays A s = time_out_moves_none s.a s.b
fire_stays B s = ap queues_round (time_out_moves_none s.b s.a)

pub fire_moves_none : (side : Side) (s : LinkState) → queues_of (timed_out_at side s) ≡ queues_of s
fire_moves_none side s =
    elim (is_silent s) as
    (λ b. queues_of (if b then at_end side first_fires s else s) ≡ queues_of s)
    [ true ↦ fire_stays side s | false ↦ refl ]

served_first : (next : PortState) (s : LinkState) → IsPort next → IsServed s.a next
    → IsSoundLink s → IsSoundLink (record s { a = next })
served_first next s is served l =
    let told = served_told s.a next s.b s.wire_a.kept s.wire_b.kept served l.told_b l.told_a in
    record {
      port_a = is;
      port_b = l.port_b;
      sound = served_keeps s.a next s.b s.wire_a.kept s.wire_b.kept l.port_a.covered served l.sound;
      told_b = told.0;
      told_a = told.1;
    }

pub layer_keeps : (side : Side) (next : PortState) (s : LinkState) → IsPort next
    → IsServed (from_end side s).a next → IsSoundLink s → IsSoundLink (with_port side next s)
layer_keeps A next s is served l = served_first next s is served l
layer_keeps B next s is served l =
    round_keeps (record (turned_round s) { a = next })
    (served_first next (turned_round s) is served (round_keeps s l))

-- ---- new links, and what never happens

pub new_sound : (tells_a tells_b : Bool) (m n : ℕ) → AreBuffers m → AreBuffers n
    → IsSoundLink (link empty_wires (new_port tells_a m) (new_port tells_b n))
new_sound tells_a tells_b m n first second = record {
  port_a = new_is_port tells_a m first;
  port_b = new_is_port tells_b n second;
  sound = record { a_to_b = begins _ _ _ refl refl; b_to_a = begins _ _ _ refl refl };
  told_b = telling.new_told tells_b tells_a n m;
  told_a = telling.new_told tells_a tells_b m n;
}

pub none_failed : (s : LinkState) → IsSoundLink s
    → (s.a.output ≢ out.Output.Failed) × (s.b.output ≢ out.Output.Failed)
none_failed s l = (
  not_failed s.a s.b s.wire_a.kept s.wire_b.kept l.sound,
  not_failed s.b s.a s.wire_b.kept s.wire_a.kept
      (exchanged s.a s.b s.wire_a.kept s.wire_b.kept l.sound),
)

-- ---- runs

pub run_keeps : {s end : LinkState} {notes : List Note} → IsRun s notes end → IsSoundLink s
    → IsSoundLink end
run_keeps RunRests l = l
run_keeps (RunPumps {s = s} from turns run) l = run_keeps run (pump_keeps from turns s l)
run_keeps (RunTells {s = s} from run) l = run_keeps run (told_keeps from s l)
run_keeps (RunDelivers {s = s} from count sent run) l =
    run_keeps run (delivery_keeps from count s l)
run_keeps (RunEdits {s = s} from edit run) l = run_keeps run (edited_keeps from edit s l)
run_keeps (RunTimesOut {s = s} side run) l = run_keeps run (fired_keeps side s l)
run_keeps (RunServes {s = s} side next is served run) l =
    run_keeps run (layer_keeps side next s is served l)
