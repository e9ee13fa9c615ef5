-- The trace of a run is made of parts, and so its steps are legal.
use Rattle.io_law.proofs.Prelude.{◌≡◌, ℕ, List, [], ◌∷◌, ◌++◌, None, refl, sym, ap, ◌∙◌, subst, append-nil, append_assoc, Line, Numbered, Network, Step, after, after_all, LegalFrom, gathered, IsBlock, seen, Seen, TraceLine, Begun, steps_of, start, set_up_all, bare, IsSetUp, steps_of-append, made_keeps, set_up_bare, good_start, happened, Happened, NumberedIo, IoTask, Carry, Ask, Settle, Turn, Reply, Fetch, Finish, IoState, left_to_do, with_event, behind_event, IoGoes, IoBegins, IoTurns, IoActs, IoEnds, IoComes, Here, Further, IsIoFit, network_at}
use Rattle.fabric_trace.specs.Parts.{Made, Done, Then, PartBegins}
use Rattle.fabric_trace.proofs.Parts.Folding.{network_is}
use Rattle.fabric_trace.proofs.SetUps.Happening.{may_set_up}
use Rattle.fabric_trace.proofs.Parts.Making.{made-append}
use Rattle.fabric_trace.proofs.Rounds.Running.{block_made}
use Rattle.fabric_ports.specs.declared.answers.Happened.TheVariants as Answers

-- ---- what a task adds

-- what follows an event leaves the trace
event_trace : (names : List (List ℕ)) (task : IoTask) (what : Happened) (s : IoState)
    → (behind_event names task what s).trace ≡ s.trace
event_trace names (Carry line) what s = refl
event_trace names (Ask node tid line) Answers.Took s = refl
event_trace names (Ask node tid line) _ s = refl
event_trace names Settle what s = refl
event_trace names (Turn node) what s = refl
event_trace names (Reply node line) Answers.Took s = refl
event_trace names (Reply node line) _ s = refl
event_trace names (Fetch node) (Answers.Left packet) s = refl
event_trace names (Fetch node) Answers.Answered s = refl
event_trace names (Fetch node) _ s = refl
event_trace names Finish what s = refl

-- the lines of a task
abbrev pub added : {names : List (List ℕ)} {script : List Numbered} {s t : IoState}
    → IoGoes names script s t → List TraceLine
added (IoActs task rest line block is event block_is sent to) = Begun line ∷ block
added _ = []

pub trace_goes : {names : List (List ℕ)} {script : List Numbered} {s t : IoState}
    (goes : IoGoes names script s t) → t.trace ≡ s.trace ++ added goes
trace_goes {names} {script} {s} (IoBegins line rest is to) =
    ap (λ (x : IoState). x.trace) to ∙ sym (append-nil s.trace)
trace_goes {names} {script} {s} (IoTurns node rest is to) =
    ap (λ (x : IoState). x.trace) to ∙ sym (append-nil s.trace)
trace_goes {names} {script} {s} (IoActs task rest line block is event block_is sent to) =
    ap (λ (x : IoState). x.trace) to
    ∙ event_trace names task (happened line block) (with_event (left_to_do s rest) line block)
trace_goes {names} {script} {s} (IoEnds rest is to) =
    ap (λ (x : IoState). x.trace) to ∙ sym (append-nil s.trace)

-- ---- the trace is made of parts

-- these lines are made of parts, and in them nothing was acted on that was not sent
pub record IsSentTrace (script : List Numbered) (trace : List TraceLine) : Type 0 where
  pub made : Made (start script) trace
  pub sent : (seen (start script) trace).undetected ≡ None

-- an event is made of parts
event_made : (script : List Numbered) (trace : List TraceLine) (line : Line)
    (block : List TraceLine) → IsSetUp (set_up_all bare script) → IsSentTrace script trace
    → IsBlock (seen (start script) trace) line block
    → Made (seen (start script) trace) (Begun line ∷ block)
event_made script trace line block is own block_is =
    let good = (made_keeps (good_start (set_up_all bare script) is) own.made).good in
    Then (Begun line ∷ []) block refl (PartBegins line refl)
    (block_made line (seen (start script) trace) block good own.sent block_is)

-- and its steps are legal
pub event_legal : (script : List Numbered) (trace : List TraceLine) (line : Line)
    (block : List TraceLine) → IsSetUp (set_up_all bare script) → IsSentTrace script trace
    → IsBlock (seen (start script) trace) line block
    → LegalFrom (seen (start script) trace).network (steps_of block)
    (seen (seen (start script) trace) (Begun line ∷ block)).network
event_legal script trace line block is own block_is =
    let good = (made_keeps (good_start (set_up_all bare script) is) own.made).good in
    (made_keeps good (event_made script trace line block is own block_is)).legal

-- an event more
sent_on : (script : List Numbered) (trace : List TraceLine) (line : Line) (block : List TraceLine)
    → IsSetUp (set_up_all bare script) → IsSentTrace script trace
    → IsBlock (seen (start script) trace) line block
    → (seen (start script) (trace ++ Begun line ∷ block)).undetected ≡ None
    → IsSentTrace script (trace ++ Begun line ∷ block)
sent_on script trace line block is own block_is sent =
    let more = event_made script trace line block is own block_is in
    record { made = made-append own.made more; sent = sent }

sent_goes : {names : List (List ℕ)} {script : List Numbered} {s t : IoState}
    (goes : IoGoes names script s t) → IsSetUp (set_up_all bare script)
    → IsSentTrace script s.trace → IsSentTrace script (s.trace ++ added goes)
sent_goes {names} {script} {s} (IoBegins line rest is to) set_up own =
    subst (IsSentTrace script) (sym (append-nil s.trace)) own
sent_goes {names} {script} {s} (IoTurns node rest is to) set_up own =
    subst (IsSentTrace script) (sym (append-nil s.trace)) own
sent_goes {names} {script} {s} (IoActs task rest line block is event block_is sent to) set_up own =
    sent_on script s.trace line block set_up own block_is sent
sent_goes {names} {script} {s} (IoEnds rest is to) set_up own =
    subst (IsSentTrace script) (sym (append-nil s.trace)) own

pub sent_comes : {names : List (List ℕ)} {script : List Numbered} {first s : IoState}
    → IsSetUp (set_up_all bare script) → first.trace ≡ []
    → IoComes names script first s → IsSentTrace script s.trace
sent_comes {names} {script} set_up none (Here is) =
    subst (IsSentTrace script) (sym (ap (λ (x : IoState). x.trace) is ∙ none))
    (record { made = Done refl; sent = refl })
sent_comes {names} {script} set_up none (Further before comes goes) =
    subst (IsSentTrace script) (sym (trace_goes goes))
    (sent_goes goes set_up (sent_comes set_up none comes))

pub fit_set_up : (names : List (List ℕ)) (script : List Numbered) (io : List NumberedIo)
    → IsIoFit names script io → IsSetUp (set_up_all bare script)
fit_set_up names script io fit = set_up_bare script (may_set_up names script fit.passes)

-- ---- what its steps give

pub gathered-append : {A : Type 0} (each : Network → Step → List A) (net : Network)
    (a b : List Step)
    → gathered each net (a ++ b) ≡ gathered each net a ++ gathered each (after_all net a) b
gathered-append each net [] b = refl
gathered-append each net (step ∷ a) b =
    ap (λ l. each net step ++ l) (gathered-append each (after net step) a b)
    ∙ sym (append_assoc (each net step) (gathered each (after net step) a)
    (gathered each (after_all (after net step) a) b))

lines_gathered : {A : Type 0} (each : Network → Step → List A) (s : Seen)
    (xs ys : List TraceLine)
    → gathered each s.network (steps_of (xs ++ ys))
    ≡ gathered each s.network (steps_of xs) ++ gathered each (seen s xs).network (steps_of ys)
lines_gathered each s xs ys =
    ap (gathered each s.network) (steps_of-append xs ys)
    ∙ gathered-append each s.network (steps_of xs) (steps_of ys)
    ∙ ap (λ net. gathered each s.network (steps_of xs) ++ gathered each net (steps_of ys))
    (sym (network_is s xs))

-- of a run: what they gave before a task, and what its own steps give
pub gathered_goes : {A : Type 0} {names : List (List ℕ)} {script : List Numbered} {s t : IoState}
    (each : Network → Step → List A) (goes : IoGoes names script s t)
    → gathered each (start script).network (steps_of t.trace)
    ≡ gathered each (start script).network (steps_of s.trace)
    ++ gathered each (network_at script s) (steps_of (added goes))
gathered_goes {A} {names} {script} {s} each goes =
    ap (λ l. gathered each (start script).network (steps_of l)) (trace_goes goes)
    ∙ lines_gathered each (start script) s.trace (added goes)
