-- A script has one course: of two states that are reached one comes before the other.
use Rattle.std.proofs.Common.{◌≡◌, ◌⊎◌, inl, inr, ℕ, List, [], ◌∷◌, ◌++◌, Some, None, codes, refl, sym, ap, ◌∙◌, subst, append-nil, append_assoc}
use Rattle.fabric_script.specs.declared.lines.Line.{Line}
use Rattle.fabric_script.specs.declared.lines.Numbered.{Numbered}
use Rattle.fabric_model.specs.Laws.Freeing.{IsFront}
use Rattle.fabric_trace.specs.Blocks.{IsBlock}
use Rattle.fabric_trace.specs.Fold.{seen}
use Rattle.fabric_trace.specs.Runs.{start}
use Rattle.fabric_trace.proofs.Traces.Unique.{block_one}
use Rattle.fabric_ports.specs.Events.{happened}
use Rattle.fabric_ports.specs.declared.answers.Happened.{Happened}
use Rattle.fabric_ports.specs.declared.answers.Happened.TheVariants as Answers
use Rattle.io_rounds.specs.Tasks.{IoTask, Carry, Ask, Settle, Turn, Reply, Fetch, Finish, task_event}
use Rattle.io_rounds.specs.Going.{IoState, left_to_do, with_event, telling, begun_line, turned_to, behind_event, endpoints_of, IoGoes, IoBegins, IoTurns, IoActs, IoEnds, IoComes, Here, Further}
use Rattle.io_rounds.specs.Stations.{kept_of_node}

-- ---- what is written grows

front_same : {s t : List ℕ} → t ≡ s → IsFront s t
front_same {s} is = ([], is ∙ sym (append-nil s))

front_on : (s t u : List ℕ) → IsFront s t → IsFront t u → IsFront s u
front_on s t u first more =
    (first.0 ++ more.0, more.1 ∙ ap (λ l. l ++ more.0) first.1 ∙ append_assoc s first.0 more.0)

event_front : (names : List (List ℕ)) (task : IoTask) (what : Happened) (s : IoState)
    → IsFront s.output (behind_event names task what s).output
event_front names (Carry line) what s = front_same refl
event_front names (Ask node tid line) Answers.Took s = (_, refl)
event_front names (Ask node tid line) _ s = (_, refl)
event_front names Settle what s = front_same refl
event_front names (Turn node) what s = front_same refl
event_front names (Reply node line) Answers.Took s = front_same refl
event_front names (Reply node line) _ s = front_same refl
event_front names (Fetch node) (Answers.Left packet) s = (_, refl)
event_front names (Fetch node) Answers.Answered s = front_same refl
event_front names (Fetch node) _ s = front_same refl
event_front names Finish what s = front_same refl

goes_front : {names : List (List ℕ)} {script : List Numbered} {s t : IoState}
    → IoGoes names script s t → IsFront s.output t.output
goes_front {names} {script} {s} {t} (IoBegins line rest is to) =
    subst (λ (x : IoState). IsFront s.output x.output) (sym to) (_, refl)
goes_front {names} {script} {s} {t} (IoTurns node rest is to) =
    subst (λ (x : IoState). IsFront s.output x.output) (sym to) (front_same refl)
goes_front {names} {script} {s} {t} (IoActs task rest line block is event block_is sent to) =
    subst (λ (x : IoState). IsFront s.output x.output) (sym to)
    (event_front names task (happened line block) (with_event (left_to_do s rest) line block))
goes_front {names} {script} {s} {t} (IoEnds rest is to) =
    subst (λ (x : IoState). IsFront s.output x.output) (sym to) (_, refl)

pub comes_front : {names : List (List ℕ)} {script : List Numbered} {s t : IoState}
    → IoComes names script s t → IsFront s.output t.output
comes_front (Here is) = front_same (ap (λ (x : IoState). x.output) is)
comes_front {names} {script} {s} {t} (Further before comes goes) =
    front_on s.output before.output t.output (comes_front comes) (goes_front goes)

-- ---- one task after another

-- the first of some tasks, and what it leaves
same_head : {a b : IoTask} {xs ys : List IoTask} → a ∷ xs ≡ b ∷ ys → a ≡ b
same_head is = cc

same_rest : {a b : IoTask} {xs ys : List IoTask} → a ∷ xs ≡ b ∷ ys → xs ≡ ys
same_rest is = cc

no_event : {task : IoTask} {line : Line} (other : IoTask) → task ≡ other → task_event other ≡ None
    → task_event task ≡ Some line → ⊥
no_event other is none some = let clash = sym none ∙ ap task_event (sym is) ∙ some in absurd cc

goes_one : {names : List (List ℕ)} {script : List Numbered} {s t u : IoState}
    → IoGoes names script s t → IoGoes names script s u → t ≡ u
goes_one {names} {script} {s} (IoBegins line rest is to) (IoBegins line2 rest2 is2 to2) =
    let tasks = sym is ∙ is2 in
    let one : line ≡ line2 = let head = same_head tasks in cc in
    let rests = same_rest tasks in
    to ∙ (λ i. begun_line names (endpoints_of script) (one i) (left_to_do s (rests i))) ∙ sym to2
goes_one (IoBegins line rest is to) (IoTurns node rest2 is2 to2) =
    let head = same_head (sym is ∙ is2) in absurd cc
goes_one (IoBegins line rest is to) (IoActs task rest2 line2 block is2 event block_is sent to2) =
    absurd (no_event (Carry line) (same_head (sym is2 ∙ is)) refl event)
goes_one (IoBegins line rest is to) (IoEnds rest2 is2 to2) =
    let head = same_head (sym is ∙ is2) in absurd cc
goes_one (IoTurns node rest is to) (IoBegins line rest2 is2 to2) =
    let head = same_head (sym is ∙ is2) in absurd cc
goes_one {names} {script} {s} (IoTurns node rest is to) (IoTurns node2 rest2 is2 to2) =
    let tasks = sym is ∙ is2 in
    let one : node ≡ node2 = let head = same_head tasks in cc in
    let rests = same_rest tasks in
    to ∙ (λ i. turned_to (one i) (kept_of_node s.stations (one i)) (left_to_do s (rests i)))
    ∙ sym to2
goes_one (IoTurns node rest is to) (IoActs task rest2 line block is2 event block_is sent to2) =
    absurd (no_event (Turn node) (same_head (sym is2 ∙ is)) refl event)
goes_one (IoTurns node rest is to) (IoEnds rest2 is2 to2) =
    let head = same_head (sym is ∙ is2) in absurd cc
goes_one (IoActs task rest line block is event block_is sent to) (IoBegins line2 rest2 is2 to2) =
    absurd (no_event (Carry line2) (same_head (sym is ∙ is2)) refl event)
goes_one (IoActs task rest line block is event block_is sent to) (IoTurns node rest2 is2 to2) =
    absurd (no_event (Turn node) (same_head (sym is ∙ is2)) refl event)
goes_one {names} {script} {s} (IoActs task rest line block is event block_is sent to)
    (IoActs task2 rest2 line2 block2 is2 event2 block_is2 sent2 to2) =
    let tasks = sym is ∙ is2 in
    let head = same_head tasks in
    let rests = same_rest tasks in
    let one : line ≡ line2 = let both = sym event ∙ ap task_event head ∙ event2 in cc in
    let blocks : block ≡ block2 = block_one line2 (seen (start script) s.trace) block block2
    (subst (λ l. IsBlock (seen (start script) s.trace) l block) one block_is) block_is2 in
    to ∙ (λ i. behind_event names (head i) (happened (one i) (blocks i))
    (with_event (left_to_do s (rests i)) (one i) (blocks i))) ∙ sym to2
goes_one (IoActs task rest line block is event block_is sent to) (IoEnds rest2 is2 to2) =
    absurd (no_event Finish (same_head (sym is ∙ is2)) refl event)
goes_one (IoEnds rest is to) (IoBegins line rest2 is2 to2) =
    let head = same_head (sym is ∙ is2) in absurd cc
goes_one (IoEnds rest is to) (IoTurns node rest2 is2 to2) =
    let head = same_head (sym is ∙ is2) in absurd cc
goes_one (IoEnds rest is to) (IoActs task rest2 line block is2 event block_is sent to2) =
    absurd (no_event Finish (same_head (sym is2 ∙ is)) refl event)
goes_one {names} {script} {s} (IoEnds rest is to) (IoEnds rest2 is2 to2) =
    let rests = same_rest (sym is ∙ is2) in
    to ∙ (λ i. telling (left_to_do s (rests i)) (codes "end")) ∙ sym to2

-- nothing follows a state in which nothing is left to do
goes_none : {names : List (List ℕ)} {script : List Numbered} {s t : IoState} → s.tasks ≡ []
    → IoGoes names script s t → ⊥
goes_none over (IoBegins line rest is to) = let clash = sym is ∙ over in absurd cc
goes_none over (IoTurns node rest is to) = let clash = sym is ∙ over in absurd cc
goes_none over (IoActs task rest line block is event block_is sent to) =
    let clash = sym is ∙ over in absurd cc
goes_none over (IoEnds rest is to) = let clash = sym is ∙ over in absurd cc

-- ---- many

-- the first task of some
record FirstOf (names : List (List ℕ)) (script : List Numbered) (s t : IoState) : Type 0 where
  next : IoState
  goes : IoGoes names script s next
  comes : IoComes names script next t

first_of : {names : List (List ℕ)} {script : List Numbered} {s t : IoState}
    → IoComes names script s t → (t ≡ s) ⊎ FirstOf names script s t
first_of (Here is) = inl is
first_of {names} {script} {s} {t} (Further before comes goes) = elim (first_of comes) [
  | inl is ↦ inr (record {
    next = t;
    goes = subst (λ x. IoGoes names script x t) is goes;
    comes = Here refl;
  })
  | inr first ↦
      inr (record { next = first.next; goes = first.goes; comes = Further before first.comes goes })
]

-- of two states that are reached one comes before the other
pub comes_two : {names : List (List ℕ)} {script : List Numbered} {first s t : IoState}
    → IoComes names script first s → IoComes names script first t
    → IoComes names script s t ⊎ IoComes names script t s
comes_two {names} {script} {first} {s} {t} comes (Here is) =
    inr (subst (λ x. IoComes names script x s) (sym is) comes)
comes_two {names} {script} {first} {s} {t} comes (Further before more goes) =
    elim (comes_two comes more) [
      | inl on ↦ inl (Further before on goes)
      | inr back ↦ elim (first_of back) [
        | inl is ↦ inl (Further before (Here (sym is)) goes)
        | inr step ↦
            inr (subst (λ x. IoComes names script x s) (goes_one step.goes goes) step.comes)
      ]
    ]

-- a state in which nothing is left to do comes last
pub comes_last : {names : List (List ℕ)} {script : List Numbered} {first s end : IoState}
    → end.tasks ≡ [] → IoComes names script first s → IoComes names script first end
    → IoComes names script s end
comes_last {names} {script} {first} {s} {end} over comes ends = elim (comes_two comes ends) [
  | inl on ↦ on
  | inr back ↦ elim (first_of back) [
    | inl is ↦ Here (sym is)
    | inr step ↦ absurd (goes_none over step.goes)
  ]
]

-- and there is only one
pub comes_end : {names : List (List ℕ)} {script : List Numbered} {first one other : IoState}
    → one.tasks ≡ [] → other.tasks ≡ [] → IoComes names script first one
    → IoComes names script first other → one ≡ other
comes_end {names} {script} {first} {one} {other} over over2 comes comes2 =
    elim (first_of (comes_last over2 comes comes2)) [
      | inl is ↦ sym is
      | inr step ↦ absurd (goes_none over step.goes)
    ]
