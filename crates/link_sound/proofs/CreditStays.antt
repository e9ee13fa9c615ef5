-- What a sender that hears a symbol keeps of what it was told in time.
use Rattle.link_sound.proofs.Prelude.{◌≡◌, ◌≢◌, ◌⊎◌, ℕ, ◌+◌, ◌%◌, ◌<◌, ◌≤◌, nat_lt, nat_le, Bool, true, false, Option, Some, None, IsSome, List, [], ◌∷◌, ◌++◌, map, length, inl, inr, refl, sym, ◌∙◌, subst, lt-ltb, arith, if◌then◌else◌, append-nil, map-append, Fields, Output, Outstanding, from_ack, distance, hears, hears_report, symbol_arrival, untold, Arrival, ExpectedWithRoom, ExpectedWithoutRoom, UnexpectedAck, Damaged, RestartFromRetry, LinkRequest, OtherStype1, Stype0, stype0, reported, is_oldest, without_oldest, has_buffer_status, base_of, report_of, Report, Event, Ctl, Pkt, Bad, prios_of, has_asked, IsOutput, window_few, Forward, is_response, is_packet, Receiver, Lacks, asks, tells, forward, backward, reply_sent, last_report, Word, word, word_of, WordsInTurn}
use Rattle.link_model.specs.Output as out
use Rattle.link_sound.proofs.CreditLaws.{is_responded}
use Rattle.link_sound.proofs.CreditReports.{reports_as}
use Rattle.link_sound.proofs.CreditTimely.{IsTimely, timely_append}

-- a sender that has not failed keeps its last report
abbrev KeepsReport : (before next : Output) → Type 0
KeepsReport before next = (last_report next ≡ last_report before) ⊎ (next ≡ Output.Failed)

accepted_report : (is : Bool) (w : Outstanding)
    → KeepsReport (Output.Ok w)
    (if is then out.heard (Output.Ok (without_oldest w)) 1 else out.error w).state
accepted_report true w = inl refl
accepted_report false w = inl refl

retried_report : (is : Bool) (w : Outstanding)
    → KeepsReport (Output.Ok w)
    (if is then out.heard (Output.RetryStopped w) 0 else out.error w).state
retried_report true w = inl refl
retried_report false w = inl refl

responded_report : (few : Bool) (w : Outstanding) (ack count : ℕ)
    → KeepsReport (Output.ErrorStopped true w) (if few
    then out.heard (Output.Ok (from_ack ack w.report)) count else out.heard Output.Failed 0).state
responded_report true w ack count = inl refl
responded_report false w ack count = inr refl

hears_report_is : (what : Stype0) (output : Output) (ack : ℕ)
    → KeepsReport output (hears what output ack).state
hears_report_is Stype0.PacketAccepted (Output.Ok w) ack = accepted_report (is_oldest w ack) w
hears_report_is Stype0.PacketAccepted (Output.RetryStopped w) ack = inl refl
hears_report_is Stype0.PacketAccepted (Output.ErrorStopped asked w) ack = inl refl
hears_report_is Stype0.PacketAccepted Output.Failed ack = inl refl
hears_report_is Stype0.PacketRetry (Output.Ok w) ack = retried_report (is_oldest w ack) w
hears_report_is Stype0.PacketRetry (Output.RetryStopped w) ack = inl refl
hears_report_is Stype0.PacketRetry (Output.ErrorStopped asked w) ack = inl refl
hears_report_is Stype0.PacketRetry Output.Failed ack = inl refl
hears_report_is Stype0.PacketNotAccepted (Output.Ok w) ack = inl refl
hears_report_is Stype0.PacketNotAccepted (Output.RetryStopped w) ack = inl refl
hears_report_is Stype0.PacketNotAccepted (Output.ErrorStopped asked w) ack = inl refl
hears_report_is Stype0.PacketNotAccepted Output.Failed ack = inl refl
hears_report_is Stype0.LinkResponse (Output.Ok w) ack = inl refl
hears_report_is Stype0.LinkResponse (Output.RetryStopped w) ack = inl refl
hears_report_is Stype0.LinkResponse (Output.ErrorStopped false w) ack = inl refl
hears_report_is Stype0.LinkResponse (Output.ErrorStopped true w) ack =
    responded_report (nat_le (distance w.oldest ack) (length w.prios)) w ack
    (distance w.oldest ack)
hears_report_is Stype0.LinkResponse Output.Failed ack = inl refl
hears_report_is Stype0.OtherStype0 (Output.Ok w) ack = inl refl
hears_report_is Stype0.OtherStype0 (Output.RetryStopped w) ack = inl refl
hears_report_is Stype0.OtherStype0 (Output.ErrorStopped asked w) ack = inl refl
hears_report_is Stype0.OtherStype0 Output.Failed ack = inl refl

pub hears_some : (what : Stype0) (output : Output) (ack : ℕ)
    → (hears what output ack).state ≢ Output.Failed → IsSome (last_report output)
    → IsSome (last_report (hears what output ack).state)
hears_some what output ack stands some =
    elim (hears_report_is what output ack) [
      | inl same ↦ subst (λ (r : Option Report). IsSome r) (sym same) some
      | inr failed ↦ absurd (stands failed)
    ]

some_report : (few : Bool) (base free : ℕ) → few ≡ true
    → IsSome {T = Report} (if few then Some (record { base = base; free = free }) else None)
some_report true base free is = refl
some_report false base free is = absurd cc

reported_some : (report : Option Report) (output : Output) → IsSome report
    → IsSome (last_report output) → IsSome (last_report (reported report output))
reported_some report (Output.Ok w) is some = is
reported_some report (Output.RetryStopped w) is some = is
reported_some report (Output.ErrorStopped asked w) is some = is
reported_some report Output.Failed is some = some

told_some : (base free : ℕ) (output : Output) → free < untold → IsSome (last_report output)
    → IsSome (last_report (reported (report_of base free) output))
told_some base free output few some =
    reported_some (report_of base free) output
    (some_report (nat_lt free untold) base free (lt-ltb free untold few)) some

status_some :
    (has : Bool) (ack free freed held total : ℕ) (words : List Word) (output : Output)
    → WordsInTurn freed held total (word_of Stype0.OtherStype0 has ack free ∷ words)
    → IsSome (last_report output)
    → IsSome (last_report (reports_as Stype0.OtherStype0 has ack free output))
status_some true ack free freed held total words output
    (n, is, from, within, few, enough, rest) some =
    told_some ack free output few some
status_some false ack free freed held total words output are some = some

pub reports_some :
    (what : Stype0) (has : Bool) (ack free freed held total : ℕ) (words : List Word)
    (output : Output) → WordsInTurn freed held total (word_of what has ack free ∷ words)
    → IsSome (last_report output) → IsSome (last_report (reports_as what has ack free output))
reports_some Stype0.PacketAccepted has ack free freed held total words output
    (n, is, from, within, few, enough, rest) some =
    told_some ((ack + 1) % 32) free output few some
reports_some Stype0.PacketRetry has ack free freed held total words output
    (n, is, from, within, few, enough, rest) some =
    told_some ack free output few some
reports_some Stype0.OtherStype0 has ack free freed held total words output are some =
    status_some has ack free freed held total words output are some
reports_some _ has ack free freed held total words output are some = some

-- a report leaves whether a link-request was sent
asked_reported : (report : Option Report) (output : Output)
    → has_asked (reported report output) ≡ has_asked output
asked_reported report (Output.Ok w) = refl
asked_reported report (Output.RetryStopped w) = refl
asked_reported report (Output.ErrorStopped asked w) = refl
asked_reported report Output.Failed = refl

asked_told : (has : Bool) (report : Option Report) (output : Output)
    → has_asked (if has then reported report output else output) ≡ has_asked output
asked_told true report output = asked_reported report output
asked_told false report output = refl

pub report_asked : (symbol : Fields) (output : Output)
    → has_asked (hears_report symbol output) ≡ has_asked output
report_asked symbol output =
    asked_told (has_buffer_status symbol.s0)
    (report_of (base_of symbol.s0 symbol.p0) symbol.p1) output

pub few_outstanding : (output : Output) → IsOutput output → length (prios_of output) ≤ 31
few_outstanding Output.Failed is = omega arith
few_outstanding _ is = omega (arith, is.few, window_few)

-- a symbol is no packet
asks_none : (what : Arrival) → is_packet (asks what) ≡ false
asks_none (ExpectedWithRoom buffers) = refl
asks_none (ExpectedWithoutRoom buffers) = refl
asks_none UnexpectedAck = refl
asks_none (Damaged cause) = refl
asks_none RestartFromRetry = refl
asks_none LinkRequest = refl
asks_none OtherStype1 = refl

-- a reply goes ahead
pub timely_reply :
    (timely : Bool) (report : Option Report) (r : Receiver) (total held next : ℕ)
    (kept : List Event) (reply : Option Fields)
    → IsTimely timely report r total held next (map forward kept)
    → IsTimely timely report r total held next (map forward (kept ++ reply_sent reply))
timely_reply timely report r total held next kept None known =
    subst (λ (fs : List Forward). IsTimely timely report r total held next fs)
    (sym (map-append forward kept [] ∙ append-nil (map forward kept))) known
timely_reply timely report r total held next kept (Some symbol) known =
    subst (λ (fs : List Forward). IsTimely timely report r total held next fs)
    (sym (map-append forward kept (Ctl symbol ∷ [])))
    (timely_append timely report r total held next (map forward kept) (forward (Ctl symbol))
    (asks_none (symbol_arrival symbol.s1 symbol.cmd)) known)

word_responds : (what : Stype0) (has : Bool) (ack free : ℕ)
    → is_response (tells what ack) ≡ false → is_responded (word_of what has ack free) ≡ false
word_responds Stype0.PacketAccepted has ack free not = refl
word_responds Stype0.PacketRetry has ack free not = refl
word_responds Stype0.PacketNotAccepted has ack free not = refl
word_responds Stype0.LinkResponse has ack free not = absurd cc
word_responds Stype0.OtherStype0 true ack free not = refl
word_responds Stype0.OtherStype0 false ack free not = refl

event_responds : (e : Event) → is_response (backward e) ≡ false → is_responded (word e) ≡ false
event_responds (Ctl symbol) not =
    word_responds (stype0 symbol.s0) (has_buffer_status symbol.s0) symbol.p0 symbol.p1 not
event_responds (Pkt ack packet) not = refl
event_responds (Bad cause) not = refl

-- no link-response is on its way
pub none_responded : (kept : List Event) → Lacks is_response (map backward kept)
    → Lacks is_responded (map word kept)
none_responded [] none = tt
none_responded (e ∷ kept) none = (event_responds e none.0, none_responded kept none.1)
