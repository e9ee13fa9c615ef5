-- The rounds of an ask.
use Rattle.std.proofs.Common.{◌≡◌, inl, inr, ℕ, ◌<◌, ◌+◌, ◌-◌, zero, suc, Bool, List, [], ◌∷◌, ◌++◌, Option, Some, None, MatchOption, refl, sym, ◌∙◌, subst, arith, append-nil, append_assoc}
use Rattle.rio_chars.specs.Written.{Outgoing}
use Rattle.rio_chars.proofs.WrittenLaws.{Writes-nil, Writes-then}
use Rattle.maint_packets.specs.declared.response.Response.{Response}
use Rattle.fabric_script.specs.declared.lines.Line.{Line}
use Rattle.fabric_script.specs.declared.lines.Line.TheVariants.{Collect}
use Rattle.live_fabric.specs.declared.answers.AfterLine.TheVariants as Goings
use Rattle.live_fabric.specs.declared.asking.Reply.{Reply}
use Rattle.live_fabric.specs.declared.asking.Reply.TheVariants.{Came, Missing, Undetected}
use Rattle.live_fabric.specs.declared.live.Live.{Live}
use Rattle.live_fabric.specs.Lines.{Taken, MetUnsent}
use Rattle.live_fabric.specs.Holding.{LiveHolds, MayBeCarried, SameSetUp}
use Rattle.live_fabric.specs.Course.{EventsDone, EventsBreak}
use Rattle.live_fabric.specs.Served.{round_events}
use Rattle.live_fabric.specs.Asking.{ask_round, reply_of, TellsRounds, IsRoundsFront}
use Rattle.live_fabric.specs.AskCourse.{MayCollectWith, RoundDone, RoundsDone, RoundsBreak, RoundsCourse}
use Rattle.live_fabric.proofs.CourseLaws.{none_behind, told_then, told_stops, front_then, front_more, told_same}
use Rattle.live_fabric.proofs.TakenLaws.{is_sent, may_still, may_collect_still}

-- ---- a round

module _ (quiet : Bool) (taken : Taken) (number : ℕ) (nodes : List ℕ) (host : ℕ)
    (out mid next : Outgoing) where
  pub round_then : (tid : ℕ) (now last : Live) (reply : Reply)
      → (d : EventsDone quiet taken number (round_events nodes) out mid now Goings.On)
      → RoundDone quiet d.end number tid (Collect host ∷ []) mid next last reply
      → RoundDone quiet taken number tid (ask_round nodes host) out next last reply
  round_then tid now last reply d r = record {
    text = d.text ++ r.text;
    end = r.end;
    is =
        told_then quiet number (round_events nodes) (Collect host ∷ []) taken d.end r.end d.text
        r.text (is_sent now d.end d.goes) d.is r.is;
    told = Writes-then d.text r.text d.told r.told;
    goes = r.goes;
  }

  pub round_breaks : (now : Live)
      → (d : EventsDone quiet taken number (round_events nodes) out mid now Goings.On)
      → EventsBreak quiet d.end number (Collect host ∷ []) mid next
      → EventsBreak quiet taken number (ask_round nodes host) out next
  round_breaks now d b = record {
    text = d.text ++ b.text;
    is =
        front_then quiet number (round_events nodes) (Collect host ∷ []) taken d.end d.text b.text
        (is_sent now d.end d.goes) d.is b.is;
    told = Writes-then d.text b.text d.told b.told;
  }

module _ (quiet : Bool) (taken : Taken) (number : ℕ) (nodes : List ℕ) (host : ℕ)
    (out mid : Outgoing) where
  pub round_stops : (tid : ℕ) (now : Live)
      → EventsDone quiet taken number (round_events nodes) out mid now Goings.Undetected
      → RoundDone quiet taken number tid (ask_round nodes host) out mid now Undetected
  round_stops tid now d = record {
    text = d.text;
    end = d.end;
    is =
        told_stops quiet number (round_events nodes) (Collect host ∷ []) taken d.end d.text
        d.goes.1 d.is;
    told = d.told;
    goes = d.goes;
  }

  pub round_falls : EventsBreak quiet taken number (round_events nodes) out mid
      → EventsBreak quiet taken number (ask_round nodes host) out mid
  round_falls b = record {
    text = b.text;
    is = front_more quiet number (round_events nodes) (Collect host ∷ []) taken b.text b.is;
    told = b.told;
  }

-- the host may collect behind a round of the others
pub may_collect_then : (quiet : Bool) (taken : Taken) (number : ℕ) (nodes : List ℕ) (host : ℕ)
    (out mid : Outgoing) (now : Live)
    → (d : EventsDone quiet taken number (round_events nodes) out mid now Goings.On)
    → MayBeCarried taken (Collect host) → MayBeCarried d.end (Collect host)
may_collect_then quiet taken number nodes host out mid now d may =
    may_still taken d.end (Collect host)
    (told_same quiet number (round_events nodes) taken d.end d.text d.is) may

-- ---- rounds

-- nothing is told behind it
abbrev Over : List ℕ → Taken → Taken → Type 0
Over rest end mid = (rest ≡ []) × (end ≡ mid)

either : {X : Type 0} (o : Option X) (P : Type 0) (Q : X → Type 0) → P → ((x : X) → Q x)
    → MatchOption o P Q
either None P Q p q = p
either (Some x) P Q p q = q x

-- behind an event that was not sent nothing is told of them
pub rounds_none : (quiet : Bool) (number tid : ℕ) (round : List Line) (n : ℕ) (taken : Taken)
    → MetUnsent taken → TellsRounds quiet number tid round n taken [] taken
rounds_none quiet number tid round zero taken met = (refl, refl)
rounds_none quiet number tid round (suc n) taken met = (
  [],
  taken,
  [],
  none_behind quiet number taken round met,
  either (reply_of tid taken) (TellsRounds quiet number tid round n taken [] taken)
      (λ response. Over [] taken taken) (rounds_none quiet number tid round n taken met)
      (λ response. (refl, refl)),
  refl,
)

module _ (quiet : Bool) (taken : Taken) (number tid : ℕ) (round : List Line) (n : ℕ)
    (begun : Outgoing) where
  pub rounds_begin : (live : Live) → LiveHolds live taken → reply_of tid taken ≡ None
      → RoundsCourse quiet taken number tid round n n begun begun live
  rounds_begin live holds missing = record {
    text = [];
    mid = taken;
    told = Writes-nil begun;
    holds = holds;
    same = record { known = refl; set_up = refl };
    missing = missing;
    goes = λ more end told. told;
    breaks = λ more front. front;
  }

  -- one of those that are left
  abbrev pub rounds_next : (k : ℕ) (out : Outgoing) (live : Live) → k < n
      → RoundsCourse quiet taken number tid round n (n - k) begun out live
      → RoundsCourse quiet taken number tid round n (suc (n - (k + 1))) begun out live
  rounds_next k out live within c =
      let more : n - k ≡ suc (n - (k + 1)) = omega arith in
      subst (λ left. RoundsCourse quiet taken number tid round n left begun out live) more c

  pub rounds_go : (left : ℕ) (out next : Outgoing) (live now : Live)
      → (c : RoundsCourse quiet taken number tid round n (suc left) begun out live)
      → RoundDone quiet c.mid number tid round out next now Missing
      → RoundsCourse quiet taken number tid round n left begun next now
  rounds_go left out next live now c d =
      let same = told_same quiet number round c.mid d.end d.text d.is in
      record {
        text = c.text ++ d.text;
        mid = d.end;
        told = Writes-then c.text d.text c.told d.told;
        holds = d.goes.0;
        same = record {
          known = same.known ∙ c.same.known;
          set_up = same.set_up ∙ c.same.set_up;
        };
        missing = d.goes.1;
        goes = λ more end told.
            subst (λ t. TellsRounds quiet number tid round n taken t end)
            (sym (append_assoc c.text d.text more))
            (c.goes (d.text ++ more) end (
              d.text,
              d.end,
              more,
              d.is,
              subst (λ o. MatchOption o (TellsRounds quiet number tid round left d.end more end)
                  (λ response. (more ≡ []) × (end ≡ d.end))) (sym d.goes.1) told,
              refl,
            ));
        breaks = λ more front.
            subst (λ t. IsRoundsFront quiet number tid round n taken t)
            (sym (append_assoc c.text d.text more))
            (c.breaks (d.text ++ more)
            (inr (d.text, d.end, more, d.is, d.goes.1, front, refl)));
      }

  -- the response has come
  rounds_come : (left : ℕ) (out next : Outgoing) (live now : Live) (response : Response)
      → (c : RoundsCourse quiet taken number tid round n (suc left) begun out live)
      → RoundDone quiet c.mid number tid round out next now (Came response)
      → RoundsDone quiet taken number tid round n begun next now (Came response)
  rounds_come left out next live now response c d = record {
    text = c.text ++ d.text;
    end = d.end;
    is = c.goes d.text d.end (
      d.text,
      d.end,
      [],
      d.is,
      subst (λ o. MatchOption o (TellsRounds quiet number tid round left d.end [] d.end)
          (λ response. Over [] d.end d.end)) (sym d.goes.1) (refl, refl),
      sym (append-nil d.text),
    );
    told = Writes-then c.text d.text c.told d.told;
    goes = d.goes;
  }

  rounds_stop : (left : ℕ) (out next : Outgoing) (live now : Live)
      → (c : RoundsCourse quiet taken number tid round n (suc left) begun out live)
      → RoundDone quiet c.mid number tid round out next now Undetected
      → RoundsDone quiet taken number tid round n begun next now Undetected
  rounds_stop left out next live now c d = record {
    text = c.text ++ d.text;
    end = d.end;
    is = c.goes d.text d.end (
      d.text,
      d.end,
      [],
      d.is,
      either (reply_of tid d.end) (TellsRounds quiet number tid round left d.end [] d.end)
          (λ response. Over [] d.end d.end)
          (rounds_none quiet number tid round left d.end d.goes.1) (λ response. (refl, refl)),
      sym (append-nil d.text),
    );
    told = Writes-then c.text d.text c.told d.told;
    goes = d.goes;
  }

  -- it came, or an event was not sent
  pub rounds_end : (left : ℕ) (out next : Outgoing) (live now : Live) (reply : Reply)
      → (reply ≡ Missing → ⊥)
      → (c : RoundsCourse quiet taken number tid round n (suc left) begun out live)
      → RoundDone quiet c.mid number tid round out next now reply
      → RoundsDone quiet taken number tid round n begun next now reply
  rounds_end left out next live now (Came response) other c d =
      rounds_come left out next live now response c d
  rounds_end left out next live now Missing other c d = absurd (other refl)
  rounds_end left out next live now Undetected other c d =
      rounds_stop left out next live now c d

  pub rounds_break : (left : ℕ) (out next : Outgoing) (live : Live)
      → (c : RoundsCourse quiet taken number tid round n (suc left) begun out live)
      → EventsBreak quiet c.mid number round out next
      → RoundsBreak quiet taken number tid round n begun next
  rounds_break left out next live c b = record {
    text = c.text ++ b.text;
    is = c.breaks b.text (inl b.is);
    told = Writes-then c.text b.text c.told b.told;
  }

  -- all of them were carried out
  pub rounds_over : (out : Outgoing) (live : Live)
      → RoundsCourse quiet taken number tid round n 0 begun out live
      → RoundsDone quiet taken number tid round n begun out live Missing
  rounds_over out live c = record {
    text = c.text;
    end = c.mid;
    is = subst (λ t. TellsRounds quiet number tid round n taken t c.mid) (append-nil c.text)
        (c.goes [] c.mid (refl, refl));
    told = c.told;
    goes = (c.holds, c.missing);
  }

-- they may follow rounds
pub may_ask_still : (taken mid : Taken) (nodes : List ℕ) (host : ℕ) → SameSetUp taken mid
    → MayCollectWith taken nodes host → MayCollectWith mid nodes host
may_ask_still taken mid nodes host same may = (
  may_collect_still taken mid nodes same may.0,
  may_still taken mid (Collect host) same may.1,
)
