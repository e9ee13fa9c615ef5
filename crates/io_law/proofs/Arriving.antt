-- What comes is what was taken, if it is no maintenance packet.
use Rattle.io_law.proofs.Prelude.{ap, ◌≡◌, ℕ, Bool, true, false, List, [], ◌∷◌, ◌++◌, map, IsTrue, MatchBool, refl, ap₂, ◌∙◌, subst, AllByRecursion, false≢true, map-append, is_maintenance, Lowered, Numbered, Item, EndLeft, ended_by, gone, WasTaken, how_often, IsAfterMoves, AsItWas, OnceMore, moves, all-append, all_weaker, all-parts, seen, steps_of, start, set_up_all, bare, IsSetUp, lawful, happened, Happened, IoTask, Carry, Ask, Settle, Turn, Reply, Fetch, Finish, IoState, IoGoes, IoBegins, IoTurns, IoActs, IoEnds, IoComes, Here, Further, came_behind, packet_behind, network_at, came_by, came, packets_by, packets_told, PacketsComeAsTaken}
use Rattle.fabric_ports.specs.declared.answers.Happened.TheVariants as Answers
use Rattle.io_law.proofs.Items.{left_one}
use Rattle.io_law.proofs.Tracing.{added, IsSentTrace, event_legal, sent_comes, fit_set_up, gathered_goes}

-- ---- packets that do not change

one_move : (old new taken : List ℕ) (b : Bool) → is_maintenance old ≡ b
    → MatchBool b (Lowered old new) (new ≡ old) → is_maintenance new ≡ false
    → (is_maintenance old ≡ false → old ≡ taken) → new ≡ taken
one_move old new taken true was move none before = absurd (false≢true (subst IsTrue none move.is))
one_move old new taken false was move none before = move ∙ before was

pub same_after : (taken : List ℕ) (n : ℕ) (now : List ℕ) → IsAfterMoves taken n now
    → is_maintenance now ≡ false → now ≡ taken
same_after taken n now AsItWas none = refl
same_after taken _ now (OnceMore {n} {old} before move) none =
    one_move old now taken (is_maintenance old) refl move none (same_after taken n old before)

-- what was taken as no maintenance packet never changes
pub stays_same : (taken : List ℕ) (n : ℕ) (now : List ℕ) → IsAfterMoves taken n now
    → is_maintenance taken ≡ false → now ≡ taken
stays_same taken n now AsItWas none = refl
stays_same taken _ now (OnceMore {n} {old} before move) none =
    let same = stays_same taken n old before none in
    subst (λ b. MatchBool b (Lowered old now) (now ≡ old)) (ap is_maintenance same ∙ none) move
    ∙ same

-- ---- what came is what left, as the lines tell it

packet_act : (task : IoTask) (what : Happened) (items : List Item)
    → ((packet : List ℕ) → what ≡ Answers.Left packet
    → map (λ item. item.now) items ≡ packet ∷ [])
    → map (λ item. item.now) (came_behind task what items) ≡ packet_behind task what
packet_act (Fetch node) (Answers.Left packet) items one = one packet refl
packet_act (Fetch node) _ items one = refl
packet_act (Ask node tid line) what items one = refl
packet_act (Carry line) what items one = refl
packet_act Settle what items one = refl
packet_act (Turn node) what items one = refl
packet_act (Reply node line) what items one = refl
packet_act Finish what items one = refl

packet_goes : {names : List (List ℕ)} {script : List Numbered} {s t : IoState}
    (goes : IoGoes names script s t) → IsSetUp (set_up_all bare script)
    → IsSentTrace script s.trace
    → map (λ item. item.now) (came_by goes) ≡ packets_by goes
packet_goes (IoBegins line rest is to) set_up own = refl
packet_goes (IoTurns node rest is to) set_up own = refl
packet_goes {names} {script} {s} (IoActs task rest line block is event block_is sent to) set_up own
    =
    packet_act task (happened line block) (gone (network_at script s) (steps_of block))
    (λ packet left. left_one (seen (start script) s.trace) line block packet _ block_is left
    (event_legal script s.trace line block set_up own block_is))
packet_goes (IoEnds rest is to) set_up own = refl

packets_come : {names : List (List ℕ)} {script : List Numbered} {first s : IoState}
    (comes : IoComes names script first s) → IsSetUp (set_up_all bare script)
    → first.trace ≡ [] → map (λ item. item.now) (came comes) ≡ packets_told comes
packets_come (Here is) set_up none = refl
packets_come (Further before comes goes) set_up none =
    map-append (λ item. item.now) (came comes) (came_by goes)
    ∙ ap₂ ◌++◌ (packets_come comes set_up none)
    (packet_goes goes set_up (sent_comes set_up none comes))

-- ---- what holds of all that left holds of all that came

all_act : (P : Item → Type 0) (task : IoTask) (what : Happened) (items : List Item)
    → AllByRecursion P items → AllByRecursion P (came_behind task what items)
all_act P (Fetch node) (Answers.Left packet) items all = all
all_act P (Fetch node) _ items all = tt
all_act P (Ask node tid line) what items all = tt
all_act P (Carry line) what items all = tt
all_act P Settle what items all = tt
all_act P (Turn node) what items all = tt
all_act P (Reply node line) what items all = tt
all_act P Finish what items all = tt

all_goes : {names : List (List ℕ)} {script : List Numbered} {s t : IoState} (P : Item → Type 0)
    (goes : IoGoes names script s t)
    → AllByRecursion P (gone (network_at script s) (steps_of (added goes)))
    → AllByRecursion P (came_by goes)
all_goes P (IoBegins line rest is to) all = tt
all_goes P (IoTurns node rest is to) all = tt
all_goes {names} {script} {s} P (IoActs task rest line block is event block_is sent to) all =
    all_act P task (happened line block) (gone (network_at script s) (steps_of block)) all
all_goes P (IoEnds rest is to) all = tt

pub all_come : {names : List (List ℕ)} {script : List Numbered} {first s : IoState}
    (P : Item → Type 0) (comes : IoComes names script first s)
    → AllByRecursion P (gone (start script).network (steps_of s.trace))
    → AllByRecursion P (came comes)
all_come P (Here is) all = tt
all_come {names} {script} {first} {s} P (Further before comes goes) all =
    let parts = all-parts P (gone (start script).network (steps_of before.trace))
    (gone (network_at script before) (steps_of (added goes)))
    (subst (AllByRecursion P) (gathered_goes (ended_by EndLeft) goes) all) in
    all-append P (came comes) (came_by goes) (all_come P comes parts.0)
    (all_goes P goes parts.1)

pub come_as_taken : PacketsComeAsTaken
come_as_taken names script io s comes fit =
    let set_up = fit_set_up names script io fit in
    let net = set_up_all bare script in
    let steps = steps_of s.trace in
    let shown = lawful net s.trace set_up (sent_comes set_up refl comes).made in
    record {
      shown = packets_come comes set_up refl;
      as_taken = all_weaker
          (λ item. IsAfterMoves item.taken (how_often item.number (moves net steps)) item.now
          × WasTaken net steps item)
          (λ item. WasTaken net steps item
          × (is_maintenance item.now ≡ false → item.now ≡ item.taken))
          (λ item was. (was.1, same_after item.taken _ item.now was.0))
          (came comes)
          (all_come
          (λ item. IsAfterMoves item.taken (how_often item.number (moves net steps)) item.now
          × WasTaken net steps item) comes shown.unchanged.same);
    }
