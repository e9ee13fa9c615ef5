-- No sender fails, and what is found not to be sent is the first such event.
use Rattle.fabric_trace.proofs.Prelude.{◌≡◌, ◌≢◌, ℕ, ◌==◌, ◌++◌, Bool, true, false, List, [], ◌∷◌, map, Option, Some, None, take, refl, sym, ap, ◌∙◌, subst, if◌then◌else◌, false≢true, Char, prio_of, RESTART_FROM_RETRY, LINK_REQUEST, Event, Ctl, Pkt, Bad, from_ack, timed_out, tell_sends, Side, A, B, Delivered, Through, WentUndetected, told_of, undetected, bursts, answers, Edit, Move, Held, Freed, sent_notes, pump_notes, has_chars, delivery_from, move_note, told_notes, delivery_notes, tell_notes, none_failed, PortRef, same_port, peer_in, AtNode, ByDevice, port_is, TraceLine, Begun, Stepped, Signed, Lacked, Ended, Undetected, Sent, Got, Fired, steps_of, Half, half_of, Seen, with_half, peer_of, port_seen, link_at, edit_of, edited_by, symbol_leaves, packet_leaves, event_leaves, sends, says, half_sent, taken_from, half_after, undetected_at, got_from, fired_from, signed, seen_line, seen, lines_of, Part, PartBegins, PartLacks, PartEnds, PartNames, PartSteps, PartServes, PartTurns, PartTells, PartDelivers, PartFires, Made, Done, Then, FindsFirst, NoneFailed, NeverFail}
use Rattle.link_model.specs.Output as out
use Rattle.link_watch.specs.declared.note.Note.TheVariants as Notes
use Rattle.fabric_trace.proofs.Parts.Folding.{seen-append, half_own, edited_found}
use Rattle.fabric_trace.proofs.Parts.Keeping.{IsGood, good_peers, legal_links, part_keeps}

-- ---- a sender that sends does not fail, and one that has failed stays so

abbrev has_failed : out.Output → Bool
has_failed out.Output.Failed = true
has_failed _ = false

not_failed : (output : out.Output) → output ≢ out.Output.Failed → has_failed output ≡ false
not_failed (out.Output.Ok w) h = refl
not_failed (out.Output.RetryStopped w) h = refl
not_failed (out.Output.ErrorStopped asked w) h = refl
not_failed out.Output.Failed h = absurd (h refl)

failed_not : (output : out.Output) → has_failed output ≡ false → output ≢ out.Output.Failed
failed_not output h is = false≢true (sym h ∙ ap has_failed is)

symbol_fails : (s1 : ℕ) (output : out.Output)
    → has_failed (symbol_leaves s1 output) ≡ has_failed output
symbol_fails s1 (out.Output.Ok w) = refl
symbol_fails s1 (out.Output.RetryStopped w) =
    elim (s1 == RESTART_FROM_RETRY) as (λ x. has_failed
    (if x then out.Output.Ok (from_ack w.oldest w.report) else out.Output.RetryStopped w)
    ≡ false) [ true ↦ refl | false ↦ refl ]
symbol_fails s1 (out.Output.ErrorStopped asked w) =
    elim (s1 == LINK_REQUEST) as (λ x. has_failed
    (if x then out.Output.ErrorStopped true w else out.Output.ErrorStopped asked w)
    ≡ false) [ true ↦ refl | false ↦ refl ]
symbol_fails s1 out.Output.Failed = refl

packet_fails : (prio : ℕ) (output : out.Output)
    → has_failed (packet_leaves prio output) ≡ has_failed output
packet_fails prio (out.Output.Ok w) = refl
packet_fails prio (out.Output.RetryStopped w) = refl
packet_fails prio (out.Output.ErrorStopped asked w) = refl
packet_fails prio out.Output.Failed = refl

event_fails : (e : Event) (output : out.Output)
    → has_failed (event_leaves e output) ≡ has_failed output
event_fails (Ctl symbol) output = symbol_fails symbol.s1 output
event_fails (Pkt ack packet) output = packet_fails (prio_of packet) output
event_fails (Bad cause) output = refl

sends_fail : (output : out.Output) (es : List Event)
    → has_failed (sends output es) ≡ has_failed output
unfolding sends
sends_fail output [] = refl
sends_fail output (e ∷ es) = sends_fail (event_leaves e output) es ∙ event_fails e output

-- ---- lines in which no port gets anything and no time-out fires

unfoldable IsQuiet : List TraceLine → Type 0
IsQuiet [] = Unit {0}
IsQuiet (Signed (Got q chars) ∷ lines) = ⊥
IsQuiet (Signed (Fired p) ∷ lines) = ⊥
IsQuiet (line ∷ lines) = IsQuiet lines

-- the same ports have failed
SameFailed : Seen → Seen → Type 0
SameFailed s t = (c : PortRef) → has_failed (t.halves c).output ≡ has_failed (s.halves c).output

half_fails : (halves : PortRef → Half) (p : PortRef) (half : Half)
    → has_failed half.output ≡ has_failed (halves p).output
    → (c : PortRef) → has_failed (with_half halves p half c).output ≡ has_failed (halves c).output
half_fails halves p half same c =
    elim (same_port c p) as (λ x. same_port c p ≡ x
    → has_failed (if x then half else halves c).output ≡ has_failed (halves c).output) [
      | true ↦ λ is. same
          ∙ ap (λ (x : PortRef). has_failed (halves x).output) (sym (port_is c p is))
      | false ↦ λ is. refl
    ] refl

sent_fails : (s : Seen) (p : PortRef) (chars : List Char) (c : PortRef)
    → has_failed ((signed s (Sent p chars)).halves c).output ≡ has_failed (s.halves c).output
sent_fails s p chars c =
    half_fails s.halves p (half_sent (s.halves p) chars)
    (sends_fail (s.halves p).output (says chars)) c

edited_halves : (s : Seen) (edit : Option (PortRef × Edit)) → (edited_by s edit).halves ≡ s.halves
edited_halves s None = refl
edited_halves s (Some edit) = refl

-- what quiet lines change of nothing that may fail
record StaysQuiet (s t : Seen) : Type 0 where
  pub failed : (c : PortRef) → has_failed (t.halves c).output ≡ has_failed (s.halves c).output
  pub undetected : t.undetected ≡ s.undetected

quiet_on : {s t u : Seen} → StaysQuiet s t → StaysQuiet t u → StaysQuiet s u
quiet_on {s} {t} {u} one two =
    record {
      failed = λ c. two.failed c ∙ one.failed c;
      undetected = two.undetected ∙ one.undetected;
    }

same_quiet : (s t : Seen) → t.halves ≡ s.halves → t.undetected ≡ s.undetected → StaysQuiet s t
same_quiet s t halves found =
    record {
      failed = λ c. ap (λ (h : PortRef → Half). has_failed (h c).output) halves;
      undetected = found;
    }

still_working : {s t : Seen} → StaysQuiet s t → NoneFailed s → NoneFailed t
still_working {s} {t} stays none =
    λ c. failed_not (t.halves c).output (stays.failed c ∙ not_failed (s.halves c).output (none c))

-- what quiet lines show, and leave
record IsStill (s : Seen) (lines : List TraceLine) : Type 0 where
  pub stays : StaysQuiet s (seen s lines)
  pub works : NoneFailed s → NeverFail s lines
  pub first : FindsFirst s lines

one_still : (s : Seen) (line : TraceLine) (lines : List TraceLine) → StaysQuiet s (seen_line s line)
    → (FindsFirst (seen_line s line) lines → FindsFirst s (line ∷ lines))
    → IsStill (seen_line s line) lines → IsStill s (line ∷ lines)
one_still s line lines stays first still = record {
  stays = quiet_on stays still.stays;
  works = λ none. (none, still.works (still_working stays none));
  first = first still.first;
}

still : (s : Seen) (lines : List TraceLine) → IsQuiet lines → IsStill s lines
unfolding IsQuiet
still s [] quiet = record { stays = same_quiet s s refl refl; works = λ none. none; first = tt }
still s (Begun line ∷ lines) quiet =
    one_still s (Begun line) lines
    (same_quiet s (edited_by s (edit_of line)) (edited_halves s (edit_of line))
    (edited_found s (edit_of line))) (λ first. (tt, first))
    (still (seen_line s (Begun line)) lines quiet)
still s (Stepped step ∷ lines) quiet =
    one_still s (Stepped step) lines (same_quiet s _ refl refl) (λ first. (tt, first))
    (still (seen_line s (Stepped step)) lines quiet)
still s (Signed (Sent p chars) ∷ lines) quiet =
    one_still s (Signed (Sent p chars)) lines (record {
      failed = sent_fails s p chars;
      undetected = refl;
    }) (λ first. (tt, first)) (still (seen_line s (Signed (Sent p chars))) lines quiet)
still s (Signed (Got q chars) ∷ lines) quiet = absurd quiet
still s (Signed (Fired p) ∷ lines) quiet = absurd quiet
still s (Lacked lack ∷ lines) quiet =
    one_still s (Lacked lack) lines (same_quiet s s refl refl) (λ first. (tt, first))
    (still s lines quiet)
still s (Ended ∷ lines) quiet =
    one_still s Ended lines (same_quiet s s refl refl) (λ first. (tt, first)) (still s lines quiet)
still s (Undetected number q e ∷ lines) quiet =
    one_still s (Undetected number q e) lines (same_quiet s s refl refl) (λ first. (tt, first))
    (still s lines quiet)

sent_quiet : (a b : PortRef) (side : Side) (chars : List Char)
    → IsQuiet (lines_of a b (sent_notes side chars))
unfolding IsQuiet
sent_quiet a b side [] = tt
sent_quiet a b side (c ∷ chars) = tt

told_quiet : (a b : PortRef) (side : Side) (moves : List Move) (chars : List Char)
    → IsQuiet (lines_of a b (map (move_note side) moves ++ sent_notes side chars))
unfolding IsQuiet
told_quiet a b side [] chars = sent_quiet a b side chars
told_quiet a b side (Held packet ∷ moves) chars = told_quiet a b side moves chars
told_quiet a b side (Freed packet ∷ moves) chars = told_quiet a b side moves chars

-- ---- parts

-- what lines show of failing
pub record Works (s : Seen) (lines : List TraceLine) : Type 0 where
  pub never : NeverFail s lines
  pub first : FindsFirst s lines
  pub none : NoneFailed (seen s lines)

quiet_works : (s : Seen) (lines : List TraceLine) → IsQuiet lines → NoneFailed s → Works s lines
quiet_works s lines quiet none =
    let own = still s lines quiet in
    record { never = own.works none; first = own.first; none = still_working own.stays none }

-- the port that got characters has not failed, as its link is sound behind the part
got_failed : (s : Seen) (q : PortRef) (d : Delivered) (t u : Seen)
    → t.halves ≡ with_half s.halves q (half_after (s.halves q) d)
    → t.undetected ≡ undetected_at q (undetected d)
    → StaysQuiet t u → NoneFailed s → (u.undetected ≡ None → has_failed (u.halves q).output ≡ false)
    → NoneFailed t
got_failed s q d t u halves found stays none sound = λ c.
    failed_not (t.halves c).output
    (ap (λ (h : PortRef → Half). has_failed (h c).output) halves ∙ by_port c (same_port c q) refl)
  where
    by_end : (x : Delivered) → d ≡ x → has_failed (half_after (s.halves q) x).output ≡ false
    by_end (Through flow) is =
        let still : u.undetected ≡ None =
        stays.undetected ∙ found ∙ ap (λ (y : Delivered). undetected_at q (undetected y)) is in
        let own : has_failed (t.halves q).output ≡ has_failed (half_after (s.halves q) d).output =
        ap (λ (h : PortRef → Half). has_failed (h q).output) halves
        ∙ ap (λ (h : Half). has_failed h.output)
        (half_own s.halves q (half_after (s.halves q) d)) in
        ap (λ (y : Delivered). has_failed (half_after (s.halves q) y).output) (sym is) ∙ sym own
        ∙ sym (stays.failed q) ∙ sound still
    by_end (WentUndetected told e) is = not_failed (s.halves q).output (none q)

    by_port : (c : PortRef) (x : Bool) → same_port c q ≡ x
        → has_failed (if same_port c q then half_after (s.halves q) d else s.halves c).output
        ≡ false
    by_port c true is =
        ap (λ (y : Bool). has_failed (if y then half_after (s.halves q) d else s.halves c).output)
        is ∙ by_end d refl
    by_port c false is =
        ap (λ (y : Bool). has_failed (if y then half_after (s.halves q) d else s.halves c).output)
        is ∙ not_failed (s.halves c).output (none c)

got_works : (s : Seen) (p q : PortRef) (chars : List Char) (rest : List TraceLine)
    → peer_of s q ≡ Some p → s.undetected ≡ None → IsQuiet rest → NoneFailed s
    → ((seen s (Signed (Got q chars) ∷ rest)).undetected ≡ None
    → has_failed ((seen s (Signed (Got q chars) ∷ rest)).halves q).output ≡ false)
    → Works s (Signed (Got q chars) ∷ rest)
got_works s p q chars rest back first quiet none sound =
    let t = signed s (Got q chars) in
    let d = taken_from s p q chars in
    let there : t ≡ got_from s (Some p) q chars =
    ap (λ (o : Option PortRef). got_from s o q chars) back in
    let own = still t rest quiet in
    let works =
    got_failed s q d t (seen t rest) (ap (λ (x : Seen). x.halves) there)
    (ap (λ (x : Seen). x.undetected) there) own.stays none sound in
    record {
      never = (none, own.works works);
      first = (first, own.first);
      none = still_working own.stays works;
    }

fired_works : (s : Seen) (p : PortRef) (peer : Option PortRef) → peer_of s p ≡ peer → NoneFailed s
    → Works s (Signed (Fired p) ∷ [])
fired_works s p peer is none = record { never = (none, after); first = (tt, tt); none = after }
  where
    times_out : (output : out.Output) → has_failed (out.times_out output) ≡ has_failed output
    times_out (out.Output.Ok w) = refl
    times_out (out.Output.RetryStopped w) = refl
    times_out (out.Output.ErrorStopped asked w) = refl
    times_out out.Output.Failed = refl

    fails : (o : Option PortRef) (c : PortRef)
        → has_failed ((fired_from s o p).halves c).output ≡ has_failed (s.halves c).output
    fails None c = refl
    fails (Some q) c =
        half_fails s.halves p (half_of (timed_out (port_seen s p))) (times_out (s.halves p).output)
        c

    after : NoneFailed (signed s (Fired p))
    after = λ c. failed_not ((fired_from s (peer_of s p) p).halves c).output
        (fails (peer_of s p) c ∙ not_failed (s.halves c).output (none c))

works_by : {s : Seen} {lines other : List TraceLine} → lines ≡ other → Works s other → Works s lines
works_by {s} is works = subst (Works s) (sym is) works

delivers_work : (s : Seen) (p q : PortRef) (n : ℕ) (lines : List TraceLine) → IsGood s
    → IsGood (seen s lines) → peer_of s p ≡ Some q → peer_of (seen s lines) p ≡ Some q
    → peer_of s q ≡ Some p
    → s.undetected ≡ None → has_chars A n (link_at s p q) ≡ true
    → lines ≡ lines_of p q (delivery_notes A n (link_at s p q)) → NoneFailed s → Works s lines
delivers_work s p q n lines good behind peer still back first has is none =
    let l = link_at s p q in
    let told = told_of (delivery_from A n l) in
    let chars = take told.count (take n (s.wires p).chars) in
    let rest =
    lines_of p q (map (move_note B) told.moves ++ sent_notes B (answers told.replies).chars) in
    let whole : lines ≡ Signed (Got q chars) ∷ rest =
    is ∙ ap (λ x. lines_of p q (if x then told_notes B (take n (s.wires p).chars) told else []))
    has in
    let sound : (seen s lines).undetected ≡ None
    → has_failed ((seen s lines).halves q).output ≡ false =
    λ faithful. not_failed ((seen s lines).halves q).output
    (none_failed (link_at (seen s lines) p q) (behind.links faithful p q still).sound).1 in
    works_by whole (got_works s p q chars rest back first
    (told_quiet p q B told.moves (answers told.replies).chars) none
    (subst (λ (x : List TraceLine). (seen s x).undetected ≡ None
    → has_failed ((seen s x).halves q).output ≡ false) whole sound))

part_works : {s : Seen} {lines : List TraceLine} → IsGood s → Part s lines → NoneFailed s
    → Works s lines
unfolding IsQuiet
part_works {s} good (PartBegins line is) none =
    works_by is (quiet_works s (Begun line ∷ []) tt none)
part_works {s} good (PartLacks lack is) none =
    works_by is (quiet_works s (Lacked lack ∷ []) tt none)
part_works {s} good (PartEnds is) none = works_by is (quiet_works s (Ended ∷ []) tt none)
part_works {s} good (PartNames number q e found is) none =
    works_by is (quiet_works s (Undetected number q e ∷ []) tt none)
part_works {s} good (PartSteps step needs few is) none =
    works_by is (quiet_works s (Stepped (AtNode step) ∷ []) tt none)
part_works {s} good (PartServes step needs is) none =
    works_by is (quiet_works s (Stepped (ByDevice step) ∷ []) tt none)
part_works {s} good (PartTurns p q n peer faithful is) none =
    works_by is (quiet_works s (lines_of p q (pump_notes A n (link_at s p q)))
    (sent_quiet p q A (bursts n (link_at s p q).a).chars) none)
part_works {s} good (PartTells p q peer faithful is) none =
    works_by is (quiet_works s (lines_of p q (tell_notes A (link_at s p q)))
    (sent_quiet p q A (tell_sends (link_at s p q).a).chars) none)
part_works {s} {lines} good (PartDelivers p q n peer faithful has is) none =
    let kept = part_keeps good (PartDelivers p q n peer faithful has is) in
    let links = legal_links s.network (steps_of lines) (seen s lines).network kept.legal in
    delivers_work s p q n lines good kept.good peer
    (ap (λ (l : List (PortRef × PortRef)). peer_in l p) links ∙ peer)
    (good_peers p q good peer).back faithful has is none
part_works {s} good (PartFires p q peer faithful silent is) none =
    works_by (is ∙ ap (λ x. lines_of p q (if x then Notes.Fire A ∷ [] else [])) silent)
    (fired_works s p (peer_of s p) refl none)

-- ---- all parts

never-append : (xs ys : List TraceLine) (s : Seen) → NeverFail s xs → NeverFail (seen s xs) ys
    → NeverFail s (xs ++ ys)
never-append [] ys s one two = two
never-append (x ∷ xs) ys s one two = (one.0, never-append xs ys (seen_line s x) one.1 two)

first-append : (xs ys : List TraceLine) (s : Seen) → FindsFirst s xs → FindsFirst (seen s xs) ys
    → FindsFirst s (xs ++ ys)
first-append [] ys s one two = two
first-append (x ∷ xs) ys s one two = (one.0, first-append xs ys (seen_line s x) one.1 two)

pub made_works : {s : Seen} {lines : List TraceLine} → IsGood s → Made s lines → NoneFailed s
    → Works s lines
made_works {s} good (Done is) none = works_by is (record { never = none; first = tt; none = none })
made_works {s} good (Then first rest is own more) none =
    let one = part_works good own none in
    let two = made_works (part_keeps good own).good more one.none in
    works_by is (record {
      never = never-append first rest s one.never two.never;
      first = first-append first rest s one.first two.first;
      none = subst NoneFailed (sym (seen-append s first rest)) two.none;
    })

-- ---- fronts

never_begins : (s : Seen) (lines : List TraceLine) → NeverFail s lines → NoneFailed s
never_begins s [] never = never
never_begins s (line ∷ lines) never = never.0

pub never_front : (xs ys : List TraceLine) (s : Seen) → NeverFail s (xs ++ ys) → NeverFail s xs
never_front [] ys s never = never_begins s ys never
never_front (x ∷ xs) ys s never = (never.0, never_front xs ys (seen_line s x) never.1)

pub first_front : (xs ys : List TraceLine) (s : Seen) → FindsFirst s (xs ++ ys) → FindsFirst s xs
first_front [] ys s first = tt
first_front (x ∷ xs) ys s first = (first.0, first_front xs ys (seen_line s x) first.1)
