-- A link that has nothing to do is left as it is: its ports send nothing, and it settles by
-- nothing.
use Rattle.link_law.proofs.Prelude.{◌≡◌, ◌&&◌, ◌||◌, ◌∙◌, ℕ, nat_lt, length, Bool, true, false, not, if◌then◌else◌, MatchBool, List, [], Option, Some, None, refl, sym, ap, subst, and_parts, not-true, highest, PortState, burst_of, standing, waiting_in, turn_sends, is_ready, port_turn, Side, A, B, LinkState, from_end, turned_round, pumped, pump_notes, sent_notes, has_none, is_silent, Act, At, goes, NextOf, LoopRests, SchedulePart, is_retry_stopped, has_failed, is_done, is_some, waits, rests_to, first_rests, is_busy, Drains, Restarts, Requests, Recovers, Tells, SendsAll, Settles, goes_none, FromSending, FromTelling, FromRecovering, rest_both, none_waits, none_tells, are_idle, has_no_work}
use Rattle.link_model.specs.Output as out
use Rattle.link_model.specs.Prelude.{window}
use Rattle.link_model.specs.Outstanding.{Outstanding}
use Rattle.link_law.proofs.IdleTurns.{idle_pumped, idle_chars}

-- what the test says of a link
pub record IsIdle (s : LinkState) : Type 0 where
  pub silent : is_silent s ≡ true
  pub rests_a : rests_to s.a s.b ≡ true
  pub rests_b : rests_to s.b s.a ≡ true
  pub none_a : waits s.a ≡ false
  pub none_b : waits s.b ≡ false
  pub quiet_a : s.a.tells ≡ false
  pub quiet_b : s.b.tells ≡ false

pub idle_by : (s : LinkState) → has_no_work s ≡ true → IsIdle s
idle_by s is =
    let parts = and_parts (is_silent s) (are_idle s.a s.b) is in
    let more = and_parts (rest_both s.a s.b) (none_waits s.a s.b && none_tells s.a s.b) parts.1 in
    let rest = and_parts (rests_to s.a s.b) (rests_to s.b s.a) more.0 in
    let last = and_parts (none_waits s.a s.b) (none_tells s.a s.b) more.1 in
    let none = and_parts (not (waits s.a)) (not (waits s.b)) last.0 in
    let quiet = and_parts (not s.a.tells) (not s.b.tells) last.1 in
    record {
      silent = parts.0;
      rests_a = rest.0;
      rests_b = rest.1;
      none_a = not-true (waits s.a) none.0;
      none_b = not-true (waits s.b) none.1;
      quiet_a = not-true s.a.tells quiet.0;
      quiet_b = not-true s.b.tells quiet.1;
    }

-- ---- turns

no_room_or_none : (room : Bool) → Path (Option ℕ) (if room then None else None) None
no_room_or_none true = refl
no_room_or_none false = refl

none_startable : (w : Outstanding) (first : Option ℕ) → is_some first ≡ false
    → out.startable w first ≡ None
none_startable w None is = no_room_or_none (nat_lt (length w.prios) window)
none_startable w (Some prio) is = absurd cc

-- of a port that has nothing outstanding, and for which no packet waits
done_sends : (tells : Bool) (o : out.Output) (first : Option ℕ) → is_done o ≡ true
    → is_some first ≡ false
    → (out.turns tells o first).sends ≡ out.unstarted tells
done_sends tells (out.Output.Ok w) first done none =
    ap (λ (o : Option ℕ). (out.started tells w o).sends) (none_startable w first none)
done_sends tells (out.Output.RetryStopped w) first done none = absurd cc
done_sends tells (out.Output.ErrorStopped asked w) first done none = absurd cc
done_sends tells out.Output.Failed first done none = absurd cc

port_turns : (port far : PortState) → rests_to port far ≡ true → waits port ≡ false
    → (port_turn port).sends ≡ out.unstarted port.tells
port_turns port far rests none =
    done_sends port.tells port.output (highest (waiting_in port))
    (and_parts (is_done port.output) _ rests).0 none

port_sends : (port far : PortState) → rests_to port far ≡ true → waits port ≡ false
    → port.tells ≡ false → (turn_sends port).sent ≡ []
port_sends port far rests none quiet =
    ap (λ (sends : out.Sends). (burst_of sends (standing port) (waiting_in port)).sent)
    (port_turns port far rests none ∙ ap out.unstarted quiet)

port_starts : (port far : PortState) → rests_to port far ≡ true → waits port ≡ false
    → is_ready port ≡ false
port_starts port far rests none = ap out.starts (port_turns port far rests none) ∙ by port.tells
  where
    by : (tells : Bool) → out.starts (out.unstarted tells) ≡ false
    by true = refl
    by false = refl

end_sends : (side : Side) (s : LinkState) → IsIdle s → (turn_sends (from_end side s).a).sent ≡ []
end_sends A s idle = port_sends s.a s.b idle.rests_a idle.none_a idle.quiet_a
end_sends B s idle = port_sends s.b s.a idle.rests_b idle.none_b idle.quiet_b

pub idle_stays : (side : Side) (n : ℕ) (s : LinkState) → IsIdle s → pumped side n s ≡ s
idle_stays side n s idle = idle_pumped side n s (end_sends side s idle)

pub idle_notes : (side : Side) (n : ℕ) (s : LinkState) → IsIdle s → pump_notes side n s ≡ []
idle_notes side n s idle =
    ap (sent_notes side) (idle_chars n (from_end side s).a (end_sends side s idle))

-- ---- settling

-- a part that is made only if a test holds is not made, if it does not hold
skipped : (test : Bool) (P : Type 0) → test ≡ false → MatchBool test P (Path (List Act) [] [])
skipped test P is = subst (λ b. MatchBool b P (Path (List Act) [] [])) (sym is) refl

held : (test : Bool) (P : Type 0) → P → MatchBool test P (Path (List Act) [] [])
held true P part = part
held false P part = refl

module _ (s : LinkState) (idle : IsIdle s) where
  pub wires_empty : (has_none s.wire_a.chars ≡ true) × (has_none s.wire_b.chars ≡ true)
  wires_empty = and_parts (has_none s.wire_a.chars) (has_none s.wire_b.chars) idle.silent

  not_busy : is_busy (At s) ≡ false
  not_busy =
      ap (λ a. not a || not (has_none s.wire_b.chars)) wires_empty.0
      ∙ ap (λ b. not true || not b) wires_empty.1

  drains : Drains (At s) []
  drains = LoopRests not_busy refl

  done_is_ok : (o : out.Output) → is_done o ≡ true → is_retry_stopped o ≡ false
  done_is_ok (out.Output.Ok w) done = refl
  done_is_ok (out.Output.RetryStopped w) done = absurd cc
  done_is_ok (out.Output.ErrorStopped asked w) done = absurd cc
  done_is_ok out.Output.Failed done = absurd cc

  end_rests : (side : Side) → first_rests (from_end side s) ≡ true
  end_rests A = idle.rests_a
  end_rests B = idle.rests_b

  end_none : (side : Side) → is_ready (from_end side s).a ≡ false
  end_none A = port_starts s.a s.b idle.rests_a idle.none_a
  end_none B = port_starts s.b s.a idle.rests_b idle.none_b

  end_quiet : (side : Side) → (from_end side s).a.tells ≡ false
  end_quiet A = idle.quiet_a
  end_quiet B = idle.quiet_b

  restarts : (side : Side) → Restarts side (At s) []
  restarts side =
      skipped (is_retry_stopped (from_end side s).a.output) _
      (done_is_ok (from_end side s).a.output
      (and_parts (is_done (from_end side s).a.output) _ (end_rests side)).0)

  requests : (side : Side) → Requests side (At s) []
  requests side = skipped (not (first_rests (from_end side s))) _ (ap not (end_rests side))

  -- a part and another, neither of which does anything
  none_then : (P Q : SchedulePart) → P (At s) [] → Q (At s) [] → NextOf goes P Q (At s) []
  none_then P Q first second =
      ([], [], refl, first, subst (λ r. Q r []) (sym (goes_none (At s))) second)

  recovers : (side : Side) → Recovers side (At s) []
  recovers side =
      held (not (has_failed (from_end side s).a.output)) _
      (none_then (Restarts side) (Requests side) (restarts side) (requests side))

  tells_none : (side : Side) → Tells side (At s) []
  tells_none side = skipped (from_end side s).a.tells _ (end_quiet side)

  sends_all : (side : Side) → SendsAll side (At s) []
  sends_all side = held (first_rests (from_end side s)) _ (LoopRests (end_none side) refl)

  pub idle_settles : Settles (At s) []
  idle_settles =
      let sends = none_then (SendsAll A) (SendsAll B) (sends_all A) (sends_all B) in
      let told = none_then (Tells B) FromSending (tells_none B) sends in
      let telling = none_then (Tells A) (NextOf goes (Tells B) FromSending) (tells_none A) told in
      let second = none_then (Recovers B) FromTelling (recovers B) telling in
      none_then Drains FromRecovering drains
      (none_then (Recovers A) (NextOf goes (Recovers B) FromTelling) (recovers A) second)

-- the same with the ends in the other order
pub idle_round : (s : LinkState) → IsIdle s → IsIdle (turned_round s)
idle_round s idle =
    let none = wires_empty s idle in
    record {
      silent = ap (λ b. b && has_none s.wire_a.chars) none.1 ∙ ap (λ a. true && a) none.0;
      rests_a = idle.rests_b;
      rests_b = idle.rests_a;
      none_a = idle.none_b;
      none_b = idle.none_a;
      quiet_a = idle.quiet_b;
      quiet_b = idle.quiet_a;
    }
