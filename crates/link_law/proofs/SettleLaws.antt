-- The parts of settling, one after another.
use Rattle.link_law.proofs.Prelude.{List, [], Result, Ok, Err, OnOk, IfErr, refl, sym, subst, Event, Note, Side, A, B, LinkState, IsSoundLink, NextOf, Reached, At, FoundAt, goes, OnState, SchedulePart, Drains, Recovers, Tells, SendsAll, Settles, IsQuiet, IsSettled, goes_none, Drained, FirstRests, BothRest, FirstTold, BothTold, FirstDone, FromSending, FromTelling, FromRecovering, go_on, drains_lead, first_recovers, second_recovers, first_tells, second_tells, first_sends, settling_rests, quiet_at, Can, next_can, recovers_can, tells_can, sends_can, telling_can, sound_by, first_quiet, second_quiet, LinkEnd, Comes, Ends, CallDid}
use Rattle.link_machine.proofs.Settling.SendingRounds.{Quiet}
use Rattle.link_law.proofs.DoesLaws.{Follows}

-- what is left of settling, from each part on; the others are those of `Settled`
abbrev pub SecondTells : SchedulePart
SecondTells = NextOf goes (Tells B) FromSending

abbrev pub SecondRecovers : SchedulePart
SecondRecovers = NextOf goes (Recovers B) FromTelling

-- ---- what a part that was done leads to

leads_to : {W : Type 0} {grew : W → List Note → W → Type 0}
    → (Q : LinkState → Type 0) (P : SchedulePart) (before next : LinkState) (old new : W)
    (h : Comes grew P before old (At next) new)
    → OnState Q (goes (At before) h.acts) → Q next
leads_to Q P before next old new h is = subst (λ (r : Reached). OnState Q r) h.reached is

pub drained_at : {W : Type 0} {grew : W → List Note → W → Type 0}
    → (before next : LinkState) (old new : W) → IsSoundLink before
    → Comes grew Drains before old (At next) new → Drained next
drained_at before next old new l h =
    leads_to Drained Drains before next old new h (drains_lead before h.acts l h.part)

pub first_at : {W : Type 0} {grew : W → List Note → W → Type 0}
    → (before next : LinkState) (old new : W) → Drained before
    → Comes grew (Recovers A) before old (At next) new → FirstRests next
first_at before next old new d h =
    leads_to FirstRests (Recovers A) before next old new h (first_recovers before h.acts d h.part)

pub second_at : {W : Type 0} {grew : W → List Note → W → Type 0}
    → (before next : LinkState) (old new : W) → FirstRests before
    → Comes grew (Recovers B) before old (At next) new → BothRest next
second_at before next old new f h =
    leads_to BothRest (Recovers B) before next old new h (second_recovers before h.acts f h.part)

pub told_at : {W : Type 0} {grew : W → List Note → W → Type 0}
    → (before next : LinkState) (old new : W) → BothRest before
    → Comes grew (Tells A) before old (At next) new → FirstTold next
told_at before next old new q h =
    leads_to FirstTold (Tells A) before next old new h (first_tells before h.acts q h.part)

pub both_told_at : {W : Type 0} {grew : W → List Note → W → Type 0}
    → (before next : LinkState) (old new : W) → FirstTold before
    → Comes grew (Tells B) before old (At next) new → BothTold next
both_told_at before next old new q h =
    leads_to BothTold (Tells B) before next old new h (second_tells before h.acts q h.part)

pub sent_at : {W : Type 0} {grew : W → List Note → W → Type 0}
    → (before next : LinkState) (old new : W) → BothTold before
    → Comes grew (SendsAll A) before old (At next) new → FirstDone next
sent_at before next old new q h =
    leads_to FirstDone (SendsAll A) before next old new h (first_sends before h.acts q h.part)

pub is_quiet : (s : LinkState) → Quiet A s → IsSoundLink s × IsQuiet s
is_quiet s q = (
  q.sound,
  record {
    wire_a = q.none.0;
    wire_b = q.none.1;
    a_to_b = q.out;
    b_to_a = q.into;
  },
)

pub quiet_of : (s : LinkState) → IsSoundLink s × IsQuiet s → Quiet A s
quiet_of s h = quiet_at A s h.0 h.1

settled_at : {W : Type 0} {grew : W → List Note → W → Type 0}
    → (before next : LinkState) (old new : W) → IsSoundLink before
    → Comes grew Settles before old (At next) new → IsSoundLink next × IsSettled next
settled_at before next old new l h =
    leads_to (λ m. IsSoundLink m × IsSettled m) Settles before next old new h
    (settling_rests before h.acts l h.part)

-- ---- what settling answers

pub did_comes : {W : Type 0} (grew : W → List Note → W → Type 0) (cut : W → Note → W → Type 0)
    (before : LinkState) (old new : W) (result : Result (Unit {0}) LinkEnd) (next : LinkState)
    → CallDid grew cut Settles before old result next new
    → OnOk result (Comes grew Settles before old (At next) new)
did_comes grew cut before old new (Ok done) next h = h
did_comes grew cut before old new (Err end) next h = tt

pub did_settles : {W : Type 0} (grew : W → List Note → W → Type 0) (cut : W → Note → W → Type 0)
    (before : LinkState) (old new : W) (result : Result (Unit {0}) LinkEnd) (next : LinkState)
    → IsSoundLink before → CallDid grew cut Settles before old result next new
    → OnOk result (IsSoundLink next × IsSettled next)
did_settles grew cut before old new (Ok done) next l h = settled_at before next old new l h
did_settles grew cut before old new (Err end) next l h = tt

pub did_ends : {W : Type 0} (grew : W → List Note → W → Type 0) (cut : W → Note → W → Type 0)
    (before : LinkState) (old new : W) (result : Result (Unit {0}) LinkEnd) (next : LinkState)
    → CallDid grew cut Settles before old result next new
    → IfErr result (λ end. Ends grew cut Settles before old end new)
did_ends grew cut before old new (Ok done) next h = tt
did_ends grew cut before old new (Err end) next h = h

-- ---- what may follow

next_found : (P Q : SchedulePart) (side : Side) (e : Event) → P (FoundAt side e) []
    → Q (FoundAt side e) []
    → NextOf goes P Q (FoundAt side e) []
next_found P Q side e p q =
    ([], [], refl, p, subst (λ (r : Reached). Q r []) (sym (goes_none (FoundAt side e))) q)

sends_found : (side : Side) (e : Event) → FromSending (FoundAt side e) []
sends_found side e = next_found (SendsAll A) (SendsAll B) side e refl refl

second_tells_found : (side : Side) (e : Event) → SecondTells (FoundAt side e) []
second_tells_found side e = next_found (Tells B) FromSending side e refl (sends_found side e)

tells_found : (side : Side) (e : Event) → FromTelling (FoundAt side e) []
tells_found side e = next_found (Tells A) SecondTells side e refl (second_tells_found side e)

second_found : (side : Side) (e : Event) → SecondRecovers (FoundAt side e) []
second_found side e = next_found (Recovers B) FromTelling side e refl (tells_found side e)

first_found : (side : Side) (e : Event) → FromRecovering (FoundAt side e) []
first_found side e = next_found (Recovers A) SecondRecovers side e refl (second_found side e)

send_can : (r : Reached) → OnState FirstDone r → Can (SendsAll B) r
send_can r h = sends_can B r (second_quiet r h)

both_can : (r : Reached) → OnState BothTold r → Can FromSending r
both_can r h =
    let first = sends_can A r (first_quiet r h) in
    next_can (SendsAll A) (SendsAll B) r first (send_can (goes r first.0)
    (go_on BothTold (SendsAll A) FirstDone first_sends r first.0 h first.1))

second_tell_can : (r : Reached) → OnState FirstTold r → Can SecondTells r
second_tell_can r h =
    let first = tells_can B r (sound_by (λ s q. q.0.sound) r h) in
    next_can (Tells B) FromSending r first (both_can (goes r first.0)
    (go_on FirstTold (Tells B) BothTold second_tells r first.0 h first.1))

second_can : (r : Reached) → OnState FirstRests r → Can SecondRecovers r
second_can r h =
    let first = recovers_can B r (sound_by (λ s q. q.0.0) r h) in
    next_can (Recovers B) FromTelling r first (telling_can (goes r first.0)
    (go_on FirstRests (Recovers B) BothRest second_recovers r first.0 h first.1))

first_can : (r : Reached) → OnState Drained r → Can FromRecovering r
first_can r h =
    let first = recovers_can A r (sound_by (λ s q. q.0) r h) in
    next_can (Recovers A) SecondRecovers r first (second_can (goes r first.0)
    (go_on Drained (Recovers A) FirstRests first_recovers r first.0 h first.1))

pub first_follows : (s : LinkState) → IsSoundLink s → Follows Drains FromRecovering s
first_follows s l = record {
  found = first_found;
  can = λ acts part. first_can (goes (At s) acts) (drains_lead s acts l part);
}

pub second_follows : (s : LinkState) → Drained s → Follows (Recovers A) SecondRecovers s
second_follows s d = record {
  found = second_found;
  can = λ acts part. second_can (goes (At s) acts) (first_recovers s acts d part);
}

pub finish_follows : (s : LinkState) → FirstRests s → Follows (Recovers B) FromTelling s
finish_follows s f = record {
  found = tells_found;
  can = λ acts part. telling_can (goes (At s) acts) (second_recovers s acts f part);
}

pub tells_follow : (s : LinkState) → BothRest s → Follows (Tells A) SecondTells s
tells_follow s q = record {
  found = second_tells_found;
  can = λ acts part. second_tell_can (goes (At s) acts) (first_tells s acts q part);
}

pub sends_follow : (s : LinkState) → FirstTold s → Follows (Tells B) FromSending s
sends_follow s q = record {
  found = sends_found;
  can = λ acts part. both_can (goes (At s) acts) (second_tells s acts q part);
}

pub send_follows : (s : LinkState) → BothTold s → Follows (SendsAll A) (SendsAll B) s
send_follows s q = record {
  found = λ side e. refl;
  can = λ acts part. send_can (goes (At s) acts) (first_sends s acts q part);
}
