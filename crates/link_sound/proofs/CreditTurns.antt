-- What a turn and a time-out of the sender do to what is told of free buffers.
use Rattle.link_sound.proofs.Prelude.{◌≡◌, ◌⊎◌, ℕ, suc, ◌+◌, ◌-◌, ◌%◌, ◌<◌, ◌≤◌, Bool, true, false, Option, Some, None, IfSome, IsSome, List, [], ◌∷◌, ◌++◌, map, length, slice_get, length-append, inl, inr, refl, sym, ap, ◌∙◌, subst, ltb-true, arith, if◌then◌else◌, cases_lt, cases_Bool, append-nil, list_at, lists_without, highest, IsOutStore, Covers, highest_below-some, IsOutStore-lists_without, window, Input, Output, Outstanding, distance, turns, startable, credited, started, unstarted, next_ack, with_next, IsReport, credit, has_credit, Report, startable-full, startable-open, PortState, standing, prios_of, burst_of, packet_burst, IsOutput, Forward, ForwardPacket, ForwardRestart, ForwardRequest, Other, Receiver, IsShut, forward, last_report, Word, IsCovered, AreCountedAt}
use Rattle.link_port.proofs.FirstPackets.{first_has_prio}
use Rattle.link_sound.proofs.Turning.{first_there}
use Rattle.link_sound.proofs.CreditHears.{covered_next, distance_counts}
use Rattle.link_sound.proofs.CreditTimely.{IsTimely, timely_append, timely_shut, timely_start}

-- what a turn of a sender that is OK starts
abbrev MayStart : Outstanding → Option ℕ → ℕ → Type 0
MayStart w waiting prio =
    (startable w waiting ≡ Some prio) × (waiting ≡ Some prio) × (length w.prios < window)
    × (has_credit w.report (next_ack w) prio ≡ true)

credited_cases : (w : Outstanding) (waiting : Option ℕ)
    → (credited w waiting ≡ None) ⊎ ((prio : ℕ) × (credited w waiting ≡ Some prio)
    × (waiting ≡ Some prio) × (has_credit w.report (next_ack w) prio ≡ true))
credited_cases w None = inl refl
credited_cases w (Some prio) =
    elim (cases_Bool (has_credit w.report (next_ack w) prio)) [
      | inl does ↦ inr (prio, ap (λ (b : Bool). if b then Some prio else None) does, refl, does)
      | inr not ↦ inl (ap (λ (b : Bool). if b then Some prio else None) not)
    ]

start_cases : (w : Outstanding) (waiting : Option ℕ)
    → (startable w waiting ≡ None) ⊎ ((prio : ℕ) × MayStart w waiting prio)
start_cases w waiting =
    elim (cases_lt (length w.prios) window) [
      | inl few ↦ elim (credited_cases w waiting) [
        | inl none ↦ inl (startable-open w waiting few ∙ none)
        | inr some ↦
            inr (some.0, (startable-open w waiting few ∙ some.1, some.2, few, some.3))
      ]
      | inr full ↦ inl (startable-full w waiting full)
    ]

-- where there is credit for a packet, there are buffers for it and for those before it
room_for_next :
    (base free next held total ack prio : ℕ) (r : ℕ) → r ≡ base % 32 → ack ≡ next % 32
    → base ≤ held → held ≤ next → next ≤ base + 31 → free + base ≤ total → free < 31
    → 3 - prio < free - distance r ack
    → (next + (3 - prio) < total) × (suc next ≤ base + 31)
room_for_next base free next held total ack prio r first second below within near enough few some
    =
    let far = distance_counts r ack base next first second (omega arith) near in
    (omega arith, omega arith)

next_number : (oldest count freed : ℕ) → oldest ≡ freed % 32
    → (oldest + count) % 32 ≡ (freed + count) % 32
next_number oldest count freed is = omega arith

-- the last report allows a packet, if there is one
allowed :
    (report : Option Report) (ack prio freed held count total : ℕ) → ack ≡ (freed + count) % 32
    → held ≤ freed + count → has_credit report ack prio ≡ true → IfSome report IsReport
    → IfSome report (IsCovered held (freed + count) total)
    → (IsSome report → freed + count + (3 - prio) < total)
    × IfSome report (IsCovered held (suc (freed + count)) total)
allowed None ack prio freed held count total number sent has range is = (λ some. absurd cc, tt)
allowed (Some report) ack prio freed held count total number sent has range c =
    let more = ltb-true (3 - prio) (credit report ack) has in
    let room =
    room_for_next c.base report.free (freed + count) held total ack prio report.base c.number
    number c.told_first sent c.near c.enough range.free more in (
      λ some. room.0,
      record {
        base = c.base;
        number = c.number;
        told_first = c.told_first;
        near = room.1;
        enough = c.enough;
      },
    )

-- the sender and what it sends, and the receiver at the other end
abbrev pub Turns : (timely : Bool) (next : Output) → Receiver → Input → (total freed held : ℕ)
    → List Word → List Forward → Type 0
Turns timely next r input total freed held words kept =
    AreCountedAt next input total freed held words
    × IsTimely timely (last_report next) r total held (freed + length (prios_of next)) kept

start_counts :
    (timely : Bool) (w : Outstanding) (queued : List (List (List ℕ))) (p : PortState)
    (r : Receiver) (input : Input) (total freed held : ℕ) (words : List Word)
    (kept : List Forward) (prio : ℕ) → IsOutput (Output.Ok w) → IsOutStore queued
    → Covers w.prios queued → MayStart w (highest (lists_without w.prios queued)) prio
    → Turns timely (Output.Ok w) r input total freed held words kept
    → Turns timely (Output.Ok (with_next w prio)) r input total freed held words
    (kept ++ map forward (packet_burst (standing p) (next_ack w)
    (slice_get (list_at (lists_without w.prios queued) prio) 0)).sent)
start_counts timely w queued p r input total freed held words kept prio is store covers
    (starts, waits, few, has) (c, known) =
    let waiting = lists_without w.prios queued in
    let within = highest_below-some 4 prio waiting waits in
    let there = first_there (list_at waiting prio) within.1 in
    let same =
    first_has_prio waiting prio there.0 (IsOutStore-lists_without w.prios queued covers store)
    within.0 there.1 in
    let number = next_number w.oldest (length w.prios) freed c.oldest_is in
    let may =
    allowed w.report (next_ack w) prio freed held (length w.prios) total number c.sent_first has
    is.report c.report_is in
    let longer = length-append w.prios (prio ∷ []) in
    let next : freed + length (with_next w prio).prios ≡ suc (freed + length w.prios) =
    omega arith in
    rw there.1 (
      record {
        oldest_is = c.oldest_is;
        expected_is = c.expected_is;
        held_first = c.held_first;
        sent_first = omega (arith, c.sent_first);
        words_are = c.words_are;
        report_is =
            covered_next held (suc (freed + length w.prios)) total
            (freed + length (with_next w prio).prios) w.report (omega arith) may.1;
      },
      subst (λ (n : ℕ). IsTimely timely w.report r total held n
          (kept ++ Other ∷ ForwardPacket (next_ack w) there.0 ∷ Other ∷ [])) (sym next)
          (subst (λ (ack : ℕ). IsTimely timely w.report r total held (suc (freed + length w.prios))
          (kept ++ Other ∷ ForwardPacket ack there.0 ∷ Other ∷ [])) (sym number)
          (timely_start timely w.report r total held (freed + length w.prios) kept there.0
          c.sent_first
          (subst (λ (q : ℕ). IsSome w.report → freed + length w.prios + (3 - q) < total)
          (sym same) may.0) known)),
    )

unstarted_counts :
    (timely tells : Bool) (w : Outstanding) (queued : List (List (List ℕ))) (p : PortState)
    (r : Receiver) (input : Input) (total freed held : ℕ) (words : List Word)
    (kept : List Forward) → Turns timely (Output.Ok w) r input total freed held words kept
    → Turns timely (Output.Ok w) r input total freed held words
    (kept ++ map forward (burst_of (unstarted tells) (standing p) queued).sent)
unstarted_counts timely true w queued p r input total freed held words kept (c, known) =
    (c, timely_append timely w.report r total held _ kept Other refl known)
unstarted_counts timely false w queued p r input total freed held words kept turn =
    rw append-nil turn

ok_counts :
    (timely tells : Bool) (w : Outstanding) (queued : List (List (List ℕ))) (p : PortState)
    (r : Receiver) (input : Input) (total freed held : ℕ) (words : List Word)
    (kept : List Forward) → IsOutput (Output.Ok w) → IsOutStore queued → Covers w.prios queued
    → Turns timely (Output.Ok w) r input total freed held words kept
    → Turns timely
    (started tells w (startable w (highest (lists_without w.prios queued)))).state r input total
    freed held words
    (kept ++ map forward (burst_of
    (started tells w (startable w (highest (lists_without w.prios queued)))).sends (standing p)
    (lists_without w.prios queued)).sent)
ok_counts timely tells w queued p r input total freed held words kept is store covers turn =
    elim (start_cases w (highest (lists_without w.prios queued))) [
      | inl none ↦
          rw none (unstarted_counts timely tells w (lists_without w.prios queued) p r input total
          freed held words kept turn)
      | inr may ↦
          rw may.1.0 (start_counts timely w queued p r input total freed held words kept may.0 is
          store covers may.1 turn)
    ]

-- a turn of the sender
pub own_counts :
    (timely tells : Bool) (output : Output) (queued : List (List (List ℕ))) (p : PortState)
    (r : Receiver) (input : Input) (total freed held : ℕ) (words : List Word)
    (kept : List Forward) → IsOutput output → IsOutStore queued → Covers (prios_of output) queued
    → ((w : Outstanding) → output ≡ Output.RetryStopped w → (held ≡ freed) × IsShut r)
    → Turns timely output r input total freed held words kept
    → Turns timely (turns tells output (highest (lists_without (prios_of output) queued))).state r
    input total freed held words
    (kept ++ map forward (burst_of
    (turns tells output (highest (lists_without (prios_of output) queued))).sends (standing p)
    (lists_without (prios_of output) queued)).sent)
own_counts timely tells (Output.Ok w) queued p r input total freed held words kept is store covers
    stopped turn =
    ok_counts timely tells w queued p r input total freed held words kept is store covers turn
own_counts timely tells (Output.RetryStopped w) queued p r input total freed held words kept is
    store covers stopped (c, known) =
    let none = stopped w refl in (
      record {
        oldest_is = c.oldest_is;
        expected_is = c.expected_is;
        held_first = c.held_first;
        sent_first = omega (arith, none.0);
        words_are = c.words_are;
        report_is =
            covered_next held (freed + length w.prios) total (freed + 0) w.report (omega arith)
            c.report_is;
      },
      timely_shut timely w.report r total held (freed + length w.prios) (freed + 0) kept
          (kept ++ ForwardRestart ∷ []) none.1 known,
    )
own_counts timely tells (Output.ErrorStopped false w) queued p r input total freed held words kept
    is store covers stopped (c, known) =
    (c, timely_append timely w.report r total held _ kept ForwardRequest refl known)
own_counts timely tells (Output.ErrorStopped true w) queued p r input total freed held words kept
    is store covers stopped turn =
    rw append-nil turn
own_counts timely tells Output.Failed queued p r input total freed held words kept is store covers
    stopped turn =
    rw append-nil turn
