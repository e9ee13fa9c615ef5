-- Events that are carried out one after another.
use Rattle.std.proofs.Common.{◌≡◌, inl, inr, ℕ, ◌<◌, ◌+◌, ◌-◌, ◌==◌, zero, suc, Bool, false, List, [], ◌∷◌, ◌++◌, length, map, drop, get_or, refl, sym, ap, ◌∙◌, subst, arith, append-nil, append_assoc}
use Rattle.std.proofs.lemmas.List.{drop_more}
use Rattle.rio_chars.specs.Written.{Outgoing}
use Rattle.rio_chars.proofs.WrittenLaws.{Writes-nil, Writes-then}
use Rattle.fabric_script.specs.declared.lines.Line.{Line}
use Rattle.fabric_script.specs.declared.lines.Line.TheVariants.{Collect, Run}
use Rattle.fabric_ports.specs.declared.answers.Happened.{Happened as Did}
use Rattle.live_fabric.specs.declared.answers.AfterLine.{AfterLine}
use Rattle.live_fabric.specs.declared.answers.AfterLine.TheVariants as Goings
use Rattle.live_fabric.specs.declared.answers.Told.{Told}
use Rattle.live_fabric.specs.declared.answers.Told.TheVariants as told_as
use Rattle.live_fabric.specs.declared.live.Live.{Live}
use Rattle.live_fabric.specs.Lines.{Taken, IsSent, MetUnsent, taken_with}
use Rattle.live_fabric.specs.Telling.{block_told, TellsEvents, IsEventsFront}
use Rattle.live_fabric.specs.Holding.{LiveHolds, SameSetUp}
use Rattle.live_fabric.specs.Answers.{after_told, Happens, HappensFront}
use Rattle.live_fabric.specs.Course.{EventsDone, EventsBreak, EventsCourse}
use Rattle.live_fabric.specs.Served.{round_events, rounds, events_carried}
use Rattle.live_fabric.proofs.TakenLaws.{is_sent}

-- ---- what is told of events

-- an event that was not sent was met, or it was not
met_or_sent : (taken : Taken) → MetUnsent taken → IsSent taken → ⊥
met_or_sent taken met sent = absurd (cc (met.1, sent))

module _ (quiet : Bool) (number : ℕ) where
  -- behind one that was not sent no event is carried out
  pub none_behind : (taken : Taken) (events : List Line) → MetUnsent taken
      → TellsEvents quiet taken number events [] taken
  none_behind taken [] met = (refl, refl)
  none_behind taken (event ∷ events) met = inl (met, refl, refl)

  -- events, and more behind them
  pub told_then : (events more : List Line) (taken mid end : Taken) (text rest : List ℕ)
      → IsSent mid → TellsEvents quiet taken number events text mid
      → TellsEvents quiet mid number more rest end
      → TellsEvents quiet taken number (events ++ more) (text ++ rest) end
  told_then [] more taken mid end text rest sent first second =
      subst (λ t. TellsEvents quiet taken number more (t ++ rest) end) (sym first.0)
      (subst (λ t. TellsEvents quiet t number more rest end) first.1 second)
  told_then (event ∷ events) more taken mid end text rest sent (inl stopped) second =
      absurd (met_or_sent mid (subst MetUnsent (sym stopped.2) stopped.0) sent)
  told_then (event ∷ events) more taken mid end text rest sent (inr some) second =
      let own = block_told quiet taken number event some.0 in
      inr (
        some.0,
        some.1 ++ rest,
        some.2,
        some.3,
        told_then events more (taken_with taken number event some.0) mid end some.1 rest sent
            some.4 second,
        ap (λ (t : List ℕ). t ++ rest) some.5 ∙ append_assoc own some.1 rest,
      )

  -- events that were not all carried out, and more that were not
  pub told_stops : (events more : List Line) (taken mid : Taken) (text : List ℕ)
      → MetUnsent mid → TellsEvents quiet taken number events text mid
      → TellsEvents quiet taken number (events ++ more) text mid
  told_stops [] more taken mid text met first =
      subst (λ t. TellsEvents quiet taken number more t mid) (sym first.0)
      (subst (λ t. TellsEvents quiet t number more [] mid) first.1 (none_behind mid more met))
  told_stops (event ∷ events) more taken mid text met (inl stopped) = inl stopped
  told_stops (event ∷ events) more taken mid text met (inr some) =
      inr (
        some.0,
        some.1,
        some.2,
        some.3,
        told_stops events more (taken_with taken number event some.0) mid some.1 met some.4,
        some.5,
      )

  -- events, and a front of more behind them
  pub front_then : (events more : List Line) (taken mid : Taken) (text rest : List ℕ)
      → IsSent mid → TellsEvents quiet taken number events text mid
      → IsEventsFront quiet mid number more rest
      → IsEventsFront quiet taken number (events ++ more) (text ++ rest)
  front_then [] more taken mid text rest sent first second =
      subst (λ t. IsEventsFront quiet taken number more (t ++ rest)) (sym first.0)
      (subst (λ t. IsEventsFront quiet t number more rest) first.1 second)
  front_then (event ∷ events) more taken mid text rest sent (inl stopped) second =
      absurd (met_or_sent mid (subst MetUnsent (sym stopped.2) stopped.0) sent)
  front_then (event ∷ events) more taken mid text rest sent (inr some) second =
      let own = block_told quiet taken number event some.0 in
      inr (
        some.0,
        some.1 ++ rest,
        some.2,
        some.3,
        front_then events more (taken_with taken number event some.0) mid some.1 rest sent some.4
            second,
        ap (λ (t : List ℕ). t ++ rest) some.5 ∙ append_assoc own some.1 rest,
      )

  -- a front of events is one of those and more
  pub front_more : (events more : List Line) (taken : Taken) (text : List ℕ)
      → IsEventsFront quiet taken number events text
      → IsEventsFront quiet taken number (events ++ more) text
  front_more [] [] taken text none = none
  front_more [] (event ∷ more) taken text none = inl (inl none)
  front_more (event ∷ events) more taken text (inl front) = inl front
  front_more (event ∷ events) more taken text (inr some) =
      inr (
        some.0,
        some.1,
        some.2,
        some.3,
        front_more events more (taken_with taken number event some.0) some.1 some.4,
        some.5,
      )

  -- events leave the lines of set-up as they were
  pub told_same : (events : List Line) (taken end : Taken) (text : List ℕ)
      → TellsEvents quiet taken number events text end → SameSetUp taken end
  told_same [] taken end text told =
      subst (SameSetUp taken) (sym told.1) (record { known = refl; set_up = refl })
  told_same (event ∷ events) taken end text (inl stopped) =
      subst (SameSetUp taken) (sym stopped.2) (record { known = refl; set_up = refl })
  told_same (event ∷ events) taken end text (inr some) =
      let rest = told_same events (taken_with taken number event some.0) end some.1 some.4 in
      record { known = rest.known; set_up = rest.set_up }

-- ---- one event more

module _ (quiet : Bool) (taken : Taken) (number : ℕ) (events : List Line) (begun : Outgoing)
  where
    abbrev pub course_begins : (live : Live) → LiveHolds live taken
        → EventsCourse quiet taken number events events begun begun live
    course_begins live holds = record {
      text = [];
      mid = taken;
      told = Writes-nil begun;
      holds = holds;
      same = record { known = refl; set_up = refl };
      goes = λ more end told. told;
      breaks = λ more front. front;
    }

    abbrev pub course_goes : (event : Line) (left : List Line) (out next : Outgoing)
        (live now : Live) (did : Did)
        → (c : EventsCourse quiet taken number events (event ∷ left) begun out live)
        → Happens quiet c.mid number event out next now (told_as.Did did)
        → EventsCourse quiet taken number events left begun next now
    course_goes event left out next live now did c h =
        let own = block_told quiet c.mid number event h.block in
        let sent = is_sent live c.mid c.holds in
        record {
          text = c.text ++ own;
          mid = taken_with c.mid number event h.block;
          told = Writes-then c.text own c.told h.text;
          holds = h.goes;
          same = record { known = c.same.known; set_up = c.same.set_up };
          goes = λ more end told.
              subst (λ t. TellsEvents quiet taken number events t end)
              (sym (append_assoc c.text own more))
              (c.goes (own ++ more) end (inr (h.block, more, sent, h.is, told, refl)));
          breaks = λ more front.
              subst (λ t. IsEventsFront quiet taken number events t)
              (sym (append_assoc c.text own more))
              (c.breaks (own ++ more) (inr (h.block, more, sent, h.is, front, refl)));
        }

    pub course_stops : (event : Line) (left : List Line) (out next : Outgoing) (live now : Live)
        → (c : EventsCourse quiet taken number events (event ∷ left) begun out live)
        → Happens quiet c.mid number event out next now told_as.Undetected
        → EventsDone quiet taken number events begun next now Goings.Undetected
    course_stops event left out next live now c h =
        let own = block_told quiet c.mid number event h.block in
        let end = taken_with c.mid number event h.block in
        record {
          text = c.text ++ own;
          end = end;
          is =
              c.goes own end (inr (
                h.block,
                [],
                is_sent live c.mid c.holds,
                h.is,
                none_behind quiet number end left h.goes.1,
                sym (append-nil own),
              ));
          told = Writes-then c.text own c.told h.text;
          goes = h.goes;
        }

    pub course_breaks : (event : Line) (left : List Line) (out next : Outgoing) (live : Live)
        → (c : EventsCourse quiet taken number events (event ∷ left) begun out live)
        → HappensFront quiet c.mid number event out next
        → EventsBreak quiet taken number events begun next
    course_breaks event left out next live c short = record {
      text = c.text ++ short.text;
      is = c.breaks short.text (inl short.is);
      told = Writes-then c.text short.text c.told short.told;
    }

    pub course_ends : (out : Outgoing) (live : Live)
        → EventsCourse quiet taken number events [] begun out live
        → EventsDone quiet taken number events begun out live Goings.On
    course_ends out live c = record {
      text = c.text;
      end = c.mid;
      is = subst (λ t. TellsEvents quiet taken number events t c.mid) (append-nil c.text)
          (c.goes [] c.mid (refl, refl));
      told = c.told;
      goes = c.holds;
    }

    -- ---- several events more

    pub course_goes_on : (first left : List Line) (out next : Outgoing) (live now : Live)
        → (c : EventsCourse quiet taken number events (first ++ left) begun out live)
        → EventsDone quiet c.mid number first out next now Goings.On
        → EventsCourse quiet taken number events left begun next now
    course_goes_on first left out next live now c d =
        let sent = is_sent now d.end d.goes in
        let same = told_same quiet number first c.mid d.end d.text d.is in
        record {
          text = c.text ++ d.text;
          mid = d.end;
          told = Writes-then c.text d.text c.told d.told;
          holds = d.goes;
          same = record {
            known = same.known ∙ c.same.known;
            set_up = same.set_up ∙ c.same.set_up;
          };
          goes = λ more end told.
              subst (λ t. TellsEvents quiet taken number events t end)
              (sym (append_assoc c.text d.text more))
              (c.goes (d.text ++ more) end
              (told_then quiet number first left c.mid d.end end d.text more sent d.is told));
          breaks = λ more front.
              subst (λ t. IsEventsFront quiet taken number events t)
              (sym (append_assoc c.text d.text more))
              (c.breaks (d.text ++ more)
              (front_then quiet number first left c.mid d.end d.text more sent d.is front));
        }

    pub course_stops_in : (first left : List Line) (out next : Outgoing) (live now : Live)
        → (c : EventsCourse quiet taken number events (first ++ left) begun out live)
        → EventsDone quiet c.mid number first out next now Goings.Undetected
        → EventsDone quiet taken number events begun next now Goings.Undetected
    course_stops_in first left out next live now c d = record {
      text = c.text ++ d.text;
      end = d.end;
      is = c.goes d.text d.end
          (told_stops quiet number first left c.mid d.end d.text d.goes.1 d.is);
      told = Writes-then c.text d.text c.told d.told;
      goes = d.goes;
    }

    pub course_breaks_in : (first left : List Line) (out next : Outgoing) (live : Live)
        → (c : EventsCourse quiet taken number events (first ++ left) begun out live)
        → EventsBreak quiet c.mid number first out next
        → EventsBreak quiet taken number events begun next
    course_breaks_in first left out next live c b = record {
      text = c.text ++ b.text;
      is = c.breaks b.text (front_more quiet number first left c.mid b.text b.is);
      told = Writes-then c.text b.text c.told b.told;
    }

-- ---- rounds

-- one of them is the first
pub rounds_more : (n : ℕ) (round : List Line) → 0 < n
    → rounds n round ≡ round ++ rounds (n - 1) round
rounds_more zero round some = absurd (omega arith)
rounds_more (suc n) round some = ap (λ k. round ++ rounds k round) (omega arith)

-- ---- what is left

module _ (quiet : Bool) (taken : Taken) (number : ℕ) (events : List Line) (begun : Outgoing)
  where
    -- all that is left was carried out, or it broke off there
    pub course_done : (left : List Line) (out next : Outgoing) (live now : Live) (after : AfterLine)
        → (c : EventsCourse quiet taken number events left begun out live)
        → EventsDone quiet c.mid number left out next now after
        → EventsDone quiet taken number events begun next now after
    course_done left out next live now after c d = record {
      text = c.text ++ d.text;
      end = d.end;
      is = c.goes d.text d.end d.is;
      told = Writes-then c.text d.text c.told d.told;
      goes = d.goes;
    }

    pub course_fails : (left : List Line) (out next : Outgoing) (live : Live)
        → (c : EventsCourse quiet taken number events left begun out live)
        → EventsBreak quiet c.mid number left out next
        → EventsBreak quiet taken number events begun next
    course_fails left out next live c b = record {
      text = c.text ++ b.text;
      is = c.breaks b.text b.is;
      told = Writes-then c.text b.text c.told b.told;
    }

    -- the first of some rounds that are left
    pub course_round : (round : List Line) (n k : ℕ) (out : Outgoing) (live : Live) → k < n
        → EventsCourse quiet taken number events (rounds (n - k) round) begun out live
        → EventsCourse quiet taken number events (round ++ rounds (n - (k + 1)) round) begun out
        live
    course_round round n k out live within c =
        let first = rounds_more (n - k) round (omega arith) in
        let rest : n - k - 1 ≡ n - (k + 1) = omega arith in
        subst (λ left. EventsCourse quiet taken number events left begun out live)
        (first ∙ ap (λ j. round ++ rounds j round) rest) c

    -- the first of some nodes that are left
    pub course_node : (nodes : List ℕ) (i : ℕ) (out : Outgoing) (live : Live) → i < length nodes
        → EventsCourse quiet taken number events (map Collect (drop i nodes)) begun out live
        → EventsCourse quiet taken number events
        (Collect (get_or nodes i 0) ∷ map Collect (drop (i + 1) nodes)) begun out live
    course_node nodes i out live within c =
        subst (λ left. EventsCourse quiet taken number events left begun out live)
        (ap (map Collect) (drop_more nodes i 0 within)) c

-- ---- one event alone

pub one_done : (quiet : Bool) (taken : Taken) (number : ℕ) (event : Line) (out next : Outgoing)
    (live now : Live) (told : Told) → LiveHolds live taken
    → Happens quiet taken number event out next now told
    → EventsDone quiet taken number (event ∷ []) out next now (after_told told)
one_done quiet taken number event out next live now (told_as.Did did) holds h =
    let events = event ∷ [] in
    course_ends quiet taken number events out next now
    (course_goes quiet taken number events out event [] out next live now did
    (course_begins quiet taken number events out live holds) h)
one_done quiet taken number event out next live now told_as.Undetected holds h =
    let events = event ∷ [] in
    course_stops quiet taken number events out event [] out next live now
    (course_begins quiet taken number events out live holds) h

pub one_breaks : (quiet : Bool) (taken : Taken) (number : ℕ) (event : Line) (out next : Outgoing)
    (live : Live) → LiveHolds live taken → HappensFront quiet taken number event out next
    → EventsBreak quiet taken number (event ∷ []) out next
one_breaks quiet taken number event out next live holds short =
    course_breaks quiet taken number (event ∷ []) out event [] out next live
    (course_begins quiet taken number (event ∷ []) out live holds) short

-- ---- the events of a line

pub carried_rounds : (nodes : List ℕ) (event : Line) (n : ℕ) → event ≡ Run n → 0 < length nodes
    → events_carried nodes event ≡ rounds n (round_events nodes)
carried_rounds [] event n is some = absurd (omega arith)
carried_rounds (node ∷ nodes) event n is some = ap (λ e. events_carried (node ∷ nodes) e) is

pub carried_other : (nodes : List ℕ) (event : Line) → ((n : ℕ) → event ≡ Run n → ⊥)
    → events_carried nodes event ≡ event ∷ []
carried_other [] event other = refl
carried_other (node ∷ nodes) (Run n) other = absurd (other n refl)
carried_other (node ∷ nodes) event other = refl

-- there is a node
pub some_nodes : (nodes : List ℕ) → false ≡ (length nodes == 0) → 0 < length nodes
some_nodes [] none = absurd cc
some_nodes (node ∷ nodes) some = omega arith
