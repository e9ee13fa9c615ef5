-- What holds after every history of two ports: by one step after another.
use Rattle.link_sound.proofs.Prelude.{◌≡◌, ◌≢◌, ℕ, zero, suc, ◌<◌, ◌==◌, Bool, Option, Some, None, List, [], ◌∷◌, ◌++◌, map, length, take, drop, option_to_list, All, refl, sym, ap, ◌∙◌, subst, arith, append_assoc, append-nil, drop-append_seam, filter-append, All-nil, All-append, All-head, All-tail, All-drop, prio_of, distance, no_packets, list_at, appended, of_prio, Covers, highest, of_prio_one, held_of_prio, list_at-appended, packets_of-appended, lists_without-appended, Covers-take, length-lists_without, Event, PortState, IsPort, acts, turns_to, timed_out, waiting_in, prios_of, expected_of, forward, backward, oldest_of, IsSound, lent, waiting, Holds, Frees, AreBuffers, Journeys, Link, new_link, link_turned_round, after_event, IsStep, StepTurns, StepTells, StepActs, Others, StepTimesOut, Puts, Loses, StepGoesOn, IsHistory, Rests, AtFirst, AtSecond, AreCarried}
use Rattle.link_model.specs.Output as out
use Rattle.link_sound.proofs.Freed.{turn_stays, time_out_stays}
use Rattle.link_sound.proofs.Steps.{begins, exchanged, turn_keeps, tell_keeps, acted_keeps, other_keeps, time_out_keeps, lost_keeps, put_keeps, other_parts}
use Rattle.link_sound.proofs.Moves.{acted_holds, other_holds, acted_frees, other_frees}
use Rattle.link_sound.proofs.Promises.{not_failed}
use Rattle.link_sound.proofs.Ranged.{HasAck, turn_has, tell_has, event_has}
use Rattle.link_sound.proofs.PortBounds.{new_is_port, turn_port, time_out_port, put_port, read_port, acted_port, other_port}

-- what holds of all holds of those that are not lost
All-behind :
    {X : Type 0} (P : X → Type 0) (all lost kept : List X) → all ≡ lost ++ kept → All P all
    → All P kept
All-behind P all lost kept is of =
    subst (λ xs. All P xs) (ap (drop (length lost)) is ∙ drop-append_seam lost kept)
    (All-drop P (length lost) all of)

-- what every history keeps
pub record IsLawful (l : Link) : Type 0 where
  pub port_a : IsPort l.a
  pub port_b : IsPort l.b
  pub sound : IsSound l.a l.b l.kept_a l.kept_b
  pub has_a : All HasAck l.kept_a
  pub has_b : All HasAck l.kept_b
  pub of_a : AreCarried l.of_a l.a l.b
  pub of_b : AreCarried l.of_b l.b l.a

-- nothing moves
stay_carried :
    (j : Journeys) (p q next_p next_q : PortState) → lent next_p next_q ≡ lent p q
    → waiting next_p next_q ≡ waiting p q → AreCarried j p q → AreCarried j next_p next_q
stay_carried j p q next_p next_q same_lent same_waiting c = record {
  in_order =
      λ prio. c.in_order prio
      ∙ ap (λ lists. of_prio prio j.held ++ list_at lists prio) (sym same_waiting);
  freed_after_held = c.freed_after_held ∙ ap (λ packets. j.freed ++ packets) (sym same_lent);
}

-- packets are freed
free_carried : (j : Journeys) (p next q : PortState) (freed : List (List ℕ)) → Frees p next q freed
    → AreCarried j p q → AreCarried (record j { freed = j.freed ++ freed }) next q
free_carried j p next q freed f c = record {
  in_order =
      λ prio. c.in_order prio ∙ ap (λ lists. of_prio prio j.held ++ list_at lists prio) (sym f.1);
  freed_after_held =
      c.freed_after_held
      ∙ ap (λ packets. j.freed ++ packets) f.0
      ∙ sym (append_assoc j.freed freed (lent next q));
}

-- a packet is held, or none
hold_carried :
    (j : Journeys) (p q next : PortState) (held : Option (List ℕ)) → Holds p q next held
    → AreCarried j p q → AreCarried (record j { held = j.held ++ option_to_list held }) p next
hold_carried j p q next None h c = record {
  in_order =
      λ prio. c.in_order prio
      ∙ ap (λ lists. of_prio prio j.held ++ list_at lists prio) (sym h.1)
      ∙ ap (λ packets. of_prio prio packets ++ list_at (waiting p next) prio)
      (sym (append-nil j.held));
  freed_after_held =
      append-nil j.held ∙ c.freed_after_held ∙ ap (λ packets. j.freed ++ packets) (sym h.0);
}
hold_carried j p q next (Some packet) h c = record {
  in_order =
      λ prio. c.in_order prio
      ∙ held_of_prio prio j.held (waiting p q) packet h.0
      ∙ ap (λ lists. of_prio prio (j.held ++ packet ∷ []) ++ list_at lists prio) (sym h.3);
  freed_after_held =
      ap (λ packets. packets ++ packet ∷ []) c.freed_after_held
      ∙ append_assoc j.freed (lent p q) (packet ∷ [])
      ∙ ap (λ packets. j.freed ++ packets) (sym h.2);
}

-- a packet is put
put_of_prio :
    (prio : ℕ) (put held : List (List ℕ)) (lists : List (List (List ℕ))) (packet : List ℕ)
    → prio_of packet < length lists → of_prio prio put ≡ of_prio prio held ++ list_at lists prio
    → of_prio prio (put ++ packet ∷ [])
    ≡ of_prio prio held ++ list_at (appended lists (prio_of packet) packet) prio
put_of_prio prio put held lists packet few is =
    filter-append (λ p. prio_of p == prio) put (packet ∷ [])
    ∙ ap (λ packets. packets ++ of_prio prio (packet ∷ [])) is
    ∙ append_assoc (of_prio prio held) (list_at lists prio) (of_prio prio (packet ∷ []))
    ∙ ap (λ packets. of_prio prio held ++ packets) (ap (λ packets. list_at lists prio ++ packets)
    (of_prio_one prio packet) ∙ sym (list_at-appended lists (prio_of packet) packet prio few))

put_carried :
    (j : Journeys) (p q : PortState) (packet : List ℕ) → Covers (prios_of p.output) p.queued
    → prio_of packet < length p.queued → AreCarried j p q
    → AreCarried (record j { put = j.put ++ packet ∷ [] })
    (record p { queued = appended p.queued (prio_of packet) packet }) q
put_carried j p q packet covers few c =
    let count = distance (oldest_of p.output) (expected_of q.input) in
    let prios = take count (prios_of p.output) in
    let covered = Covers-take count (prios_of p.output) p.queued covers in
    let long = length-lists_without prios p.queued in
    let within : prio_of packet < length (waiting p q) = omega arith in
    record {
      in_order = λ prio. put_of_prio prio j.put j.held (waiting p q) packet within (c.in_order prio)
          ∙ ap (λ lists. of_prio prio j.held ++ list_at lists prio)
          (sym (lists_without-appended prios p.queued (prio_of packet) packet covered few));
      freed_after_held =
          c.freed_after_held
          ∙ ap (λ packets. j.freed ++ packets)
          (sym (packets_of-appended prios p.queued (prio_of packet) packet covered few));
    }

event_keeps :
    (l : Link) (e : Event) (rest : List Event) → IsPort (acts l.a e).port
    → All HasAck rest
    → IsSound (acts l.a e).port l.b (after_event l e rest).kept_a rest
    → Frees l.a (acts l.a e).port l.b (acts l.a e).freed
    → Holds l.b l.a (acts l.a e).port (acts l.a e).held → IsLawful l
    → IsLawful (after_event l e rest)
event_keeps l e rest port has sound frees holds is = record {
  port_a = port;
  port_b = is.port_b;
  sound = sound;
  has_a = All-append HasAck l.kept_a _ is.has_a (event_has l.a e is.port_a.expected_ack);
  has_b = has;
  of_a = free_carried l.of_a l.a (acts l.a e).port l.b (acts l.a e).freed frees is.of_a;
  of_b = hold_carried l.of_b l.b l.a (acts l.a e).port (acts l.a e).held holds is.of_b;
}

step_keeps : (l next : Link) → IsStep l next → IsLawful l → IsLawful next
step_keeps l next (StepTurns _) is =
    let stays =
    turn_stays l.a.tells l.a.output (highest (waiting_in l.a)) l.b.input l.a.queued
    (map forward l.kept_a)
    (map backward l.kept_b) is.port_a.covered is.sound.a_to_b in
    record {
      port_a = turn_port l.a is.port_a;
      port_b = is.port_b;
      sound = turn_keeps l.a l.b l.kept_a l.kept_b is.port_a.covered is.sound;
      has_a = All-append HasAck l.kept_a _ is.has_a (turn_has l.a is.port_a.expected_ack);
      has_b = is.has_b;
      of_a = stay_carried l.of_a l.a l.b (turns_to l.a) l.b stays.0 stays.1 is.of_a;
      of_b = stay_carried l.of_b l.b l.a l.b (turns_to l.a) refl refl is.of_b;
    }
step_keeps l next (StepTells _) is = record {
  port_a = is.port_a;
  port_b = is.port_b;
  sound = tell_keeps l.a l.b l.kept_a l.kept_b is.sound;
  has_a = All-append HasAck l.kept_a _ is.has_a (tell_has l.a is.port_a.expected_ack);
  has_b = is.has_b;
  of_a = is.of_a;
  of_b = is.of_b;
}
step_keeps l next (StepActs _ e rest first acted) is =
    let sound = subst (λ (es : List Event). IsSound l.a l.b l.kept_a es) first is.sound in
    let has = subst (λ (es : List Event). All HasAck es) first is.has_b in
    event_keeps l e rest
    (acted_port l.a l.b l.kept_a rest e is.port_a is.port_b (All-head HasAck e rest has) acted
    sound) (All-tail HasAck e rest has)
    (acted_keeps l.a l.b l.kept_a rest e is.port_a.covered acted sound)
    (acted_frees l.a l.b l.kept_a rest e is.port_a.covered acted sound)
    (acted_holds l.a l.b l.kept_a rest e is.port_b.covered is.port_b.sends acted sound) is
step_keeps l next (Others _ e other) is =
    event_keeps l e l.kept_b (other_port l.a e is.port_a other) is.has_b
    (other_keeps l.a l.b l.kept_a l.kept_b e other is.sound) (other_frees l.a l.b e other)
    (other_holds l.a l.b e other) is
step_keeps l next (StepTimesOut _) is =
    let stays = time_out_stays l.a.output (expected_of l.b.input) l.a.queued in
    record {
      port_a = time_out_port l.a is.port_a;
      port_b = is.port_b;
      sound = time_out_keeps l.a l.b l.kept_a l.kept_b is.sound;
      has_a = All-nil HasAck;
      has_b = All-nil HasAck;
      of_a = stay_carried l.of_a l.a l.b (timed_out l.a) l.b stays.0 stays.1 is.of_a;
      of_b = stay_carried l.of_b l.b l.a l.b (timed_out l.a) refl refl is.of_b;
    }
step_keeps l next (Puts _ packet few passes room) is =
    let within : prio_of packet < length l.a.queued = omega (arith, is.port_a.sends.four) in
    record {
      port_a = put_port l.a packet few passes room is.port_a;
      port_b = is.port_b;
      sound =
          put_keeps l.a l.b l.kept_a l.kept_b (prio_of packet) packet is.port_a.covered within
          is.sound;
      has_a = is.has_a;
      has_b = is.has_b;
      of_a = put_carried l.of_a l.a l.b packet is.port_a.covered within is.of_a;
      of_b =
          stay_carried l.of_b l.b l.a l.b
          (record l.a { queued = appended l.a.queued (prio_of packet) packet }) refl refl is.of_b;
    }
step_keeps l next (Loses _ lost_a kept_a lost_b kept_b first second) is =
    let sound =
    subst (λ (es : List Event). IsSound l.a l.b (lost_a ++ kept_a) es) second
    (subst (λ (es : List Event). IsSound l.a l.b es l.kept_b) first is.sound) in
    record {
      port_a = is.port_a;
      port_b = is.port_b;
      sound = lost_keeps l.a l.b lost_a kept_a lost_b kept_b sound;
      has_a = All-behind HasAck l.kept_a lost_a kept_a first is.has_a;
      has_b = All-behind HasAck l.kept_b lost_b kept_b second is.has_b;
      of_a = is.of_a;
      of_b = is.of_b;
    }
step_keeps l next (StepGoesOn _ received place store bounded) is = record {
  port_a = read_port l.a received place store bounded is.port_a;
  port_b = is.port_b;
  sound = other_parts l.a l.b l.kept_a l.kept_b received place is.sound;
  has_a = is.has_a;
  has_b = is.has_b;
  of_a =
      stay_carried l.of_a l.a l.b (record l.a { received = received; place = place }) l.b refl refl
      is.of_a;
  of_b =
      stay_carried l.of_b l.b l.a l.b (record l.a { received = received; place = place }) refl refl
      is.of_b;
}

round_keeps : (l : Link) → IsLawful l → IsLawful (link_turned_round l)
round_keeps l is = record {
  port_a = is.port_b;
  port_b = is.port_a;
  sound = exchanged l.a l.b l.kept_a l.kept_b is.sound;
  has_a = is.has_b;
  has_b = is.has_a;
  of_a = is.of_b;
  of_b = is.of_a;
}

history_keeps : (l end : Link) → IsHistory l end → IsLawful l → IsLawful end
history_keeps l end (Rests _) is = is
history_keeps l end (AtFirst {next} _ step more) is =
    history_keeps next end more (step_keeps l next step is)
history_keeps l end (AtSecond {next} _ step more) is =
    history_keeps (link_turned_round next) end more
    (round_keeps next (step_keeps (link_turned_round l) next step (round_keeps l is)))

none_waits : (prio : ℕ) → [] ≡ list_at no_packets prio
none_waits zero = refl
none_waits (suc zero) = refl
none_waits (suc (suc zero)) = refl
none_waits (suc (suc (suc zero))) = refl
none_waits (suc (suc (suc (suc prio)))) = refl

new_is_lawful : (tells_a tells_b : Bool) (m n : ℕ) → AreBuffers m → AreBuffers n
    → IsLawful (new_link tells_a tells_b m n)
new_is_lawful tells_a tells_b m n first second = record {
  port_a = new_is_port tells_a m first;
  port_b = new_is_port tells_b n second;
  sound = record { a_to_b = begins _ _ _ refl refl; b_to_a = begins _ _ _ refl refl };
  has_a = All-nil HasAck;
  has_b = All-nil HasAck;
  of_a = record { in_order = none_waits; freed_after_held = refl };
  of_b = record { in_order = none_waits; freed_after_held = refl };
}

-- every history from two new ports
all_lawful : (tells_a tells_b : Bool) (m n : ℕ) (l : Link) → AreBuffers m → AreBuffers n
    → IsHistory (new_link tells_a tells_b m n) l
    → IsLawful l
all_lawful tells_a tells_b m n l first second history =
    history_keeps (new_link tells_a tells_b m n) l history
    (new_is_lawful tells_a tells_b m n first second)

pub all_ports : (tells_a tells_b : Bool) (m n : ℕ) (l : Link) → AreBuffers m → AreBuffers n
    → IsHistory (new_link tells_a tells_b m n) l
    → IsPort l.a × IsPort l.b
all_ports tells_a tells_b m n l first second history =
    let is = all_lawful tells_a tells_b m n l first second history in (is.port_a, is.port_b)

pub all_sound : (tells_a tells_b : Bool) (m n : ℕ) (l : Link) → AreBuffers m → AreBuffers n
    → IsHistory (new_link tells_a tells_b m n) l
    → IsSound l.a l.b l.kept_a l.kept_b
all_sound tells_a tells_b m n l first second history
    = (all_lawful tells_a tells_b m n l first second history).sound

pub all_carried : (tells_a tells_b : Bool) (m n : ℕ) (l : Link) → AreBuffers m → AreBuffers n
    → IsHistory (new_link tells_a tells_b m n) l
    → AreCarried l.of_a l.a l.b × AreCarried l.of_b l.b l.a
all_carried tells_a tells_b m n l first second history =
    let is = all_lawful tells_a tells_b m n l first second history in (is.of_a, is.of_b)

pub none_failed : (tells_a tells_b : Bool) (m n : ℕ) (l : Link) → AreBuffers m → AreBuffers n
    → IsHistory (new_link tells_a tells_b m n) l
    → (l.a.output ≢ out.Output.Failed) × (l.b.output ≢ out.Output.Failed)
none_failed tells_a tells_b m n l first second history =
    let sound = all_sound tells_a tells_b m n l first second history in (
      not_failed l.a l.b l.kept_a l.kept_b sound,
      not_failed l.b l.a l.kept_b l.kept_a (exchanged l.a l.b l.kept_a l.kept_b sound),
    )
