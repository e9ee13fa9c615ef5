-- A request with the rounds behind it, and what came of it.
use Rattle.std.proofs.Common.{◌≡◌, inl, inr, ℕ, Bool, List, [], ◌++◌, Option, Some, None, refl, sym, ap, ◌∙◌, subst, append-nil}
use Rattle.rio_chars.specs.Written.{Outgoing}
use Rattle.rio_chars.proofs.WrittenLaws.{Writes-nil, Writes-then}
use Rattle.maint_packets.specs.declared.response.Response.{Response}
use Rattle.fabric_script.specs.declared.lines.Line.{Line}
use Rattle.fabric_trace.specs.Known.{UndetectedAt}
use Rattle.fabric_ports.specs.declared.answers.Happened.{Happened as Did}
use Rattle.fabric_ports.specs.declared.answers.Happened.TheVariants.{Full}
use Rattle.live_fabric.specs.declared.answers.Told.TheVariants as told_as
use Rattle.live_fabric.specs.declared.asking.AskOutcome.{AskOutcome}
use Rattle.live_fabric.specs.declared.asking.Reply.{Reply}
use Rattle.live_fabric.specs.declared.asking.Reply.TheVariants.{Came, Missing, Undetected}
use Rattle.live_fabric.specs.declared.asks.Ask.{Ask}
use Rattle.live_fabric.specs.declared.live.Live.{Live}
use Rattle.live_fabric.specs.Lines.{Taken, seen_so_far, taken_with}
use Rattle.live_fabric.specs.Telling.{block_told}
use Rattle.live_fabric.specs.Holding.{LiveHolds}
use Rattle.live_fabric.specs.Answers.{Happens, HappensFront}
use Rattle.live_fabric.specs.Asking.{ask_of, ask_round, last_line, reply_of, most_ask_rounds, register_said, said_text, reply_told, unless_unsent, said_unless, ask_outcome, rounds_behind, TellsRounds, IsRoundsFront}
use Rattle.live_fabric.specs.AskCourse.{MayCollectWith, ReplyGoes, RoundsDone, RoundsBreak, AskDone, AskBreaks, reply_said, reply_outcome}
use Rattle.live_fabric.proofs.CourseLaws.{one_breaks}
use Rattle.live_fabric.proofs.TakenLaws.{is_sent}
use Rattle.live_fabric.proofs.AskLaws.{rounds_by, rounds_all, request_missing, request_rounds, one_told}
use Rattle.live_fabric.proofs.RoundLaws.{rounds_none, may_ask_still}

module _ (quiet : Bool) (taken : Taken) (number : ℕ) (nodes : List ℕ) (event : Line) (ask : Ask)
    (asks : ask_of event ≡ Some ask) (out mid : Outgoing) (live now : Live)
    (holds : LiveHolds live taken) where
  module _ (did : Did) (h : Happens quiet taken number event out mid now (told_as.Did did)) where
    abbrev pub asked : Taken
    asked = taken_with taken number event h.block

    pub asked_missing : reply_of ask.tid asked ≡ None
    asked_missing = request_missing taken number event ask h.block asks h.is

    -- rounds may follow it
    abbrev pub ask_may : MayCollectWith taken nodes ask.host
        → (t : Taken) × LiveHolds now t × MayCollectWith t nodes ask.host
        × (reply_of ask.tid t ≡ None)
    ask_may may = (
      asked,
      h.goes,
      may_ask_still taken asked nodes ask.host (record { known = refl; set_up = refl }) may,
      asked_missing,
    )

    ask_then : (next : Outgoing) (last : Live) (reply : Reply)
        → RoundsDone quiet asked number ask.tid (ask_round nodes ask.host) (rounds_by did) mid
        next last reply
        → AskDone quiet taken number nodes event ask out next last reply
    ask_then next last reply r =
        let first = block_told quiet taken number event h.block in
        record {
          text = first ++ r.text;
          end = r.end;
          is = record {
            first = first;
            mid = asked;
            rest = r.text;
            request =
                one_told quiet taken number event out mid live now (told_as.Did did) holds h;
            rounds =
                subst (λ k. TellsRounds quiet number ask.tid (ask_round nodes ask.host) k asked
                r.text r.end)
                (request_rounds taken number event ask h.block asks h.is did h.did) r.is;
            whole = refl;
          };
          told = Writes-then first r.text h.text r.told;
          goes = r.goes;
        }

    ask_then_breaks : (next : Outgoing)
        → RoundsBreak quiet asked number ask.tid (ask_round nodes ask.host) (rounds_by did) mid
        next
        → AskBreaks quiet taken number nodes event ask out next
    ask_then_breaks next b =
        let first = block_told quiet taken number event h.block in
        record {
          text = first ++ b.text;
          is = inr (
            first,
            asked,
            b.text,
            one_told quiet taken number event out mid live now (told_as.Did did) holds h,
            subst (λ k. IsRoundsFront quiet number ask.tid (ask_round nodes ask.host) k asked
                b.text) (request_rounds taken number event ask h.block asks h.is did h.did) b.is,
            refl,
          );
          told = Writes-then first b.text h.text b.told;
        }

    pub ask_done : (next : Outgoing) (last : Live) (reply : Reply) → (did ≡ Full → ⊥)
        → MayCollectWith taken nodes ask.host
        → ((t : Taken) → LiveHolds now t → MayCollectWith t nodes ask.host
        → reply_of ask.tid t ≡ None
        → RoundsDone quiet t number ask.tid (ask_round nodes ask.host) most_ask_rounds mid next
        last reply)
        → AskDone quiet taken number nodes event ask out next last reply
    ask_done next last reply other may done =
        let m = ask_may may in
        ask_then next last reply
        (subst (λ k. RoundsDone quiet asked number ask.tid (ask_round nodes ask.host) k mid next
        last reply) (sym (rounds_all did other)) (done asked m.1 m.2 m.3))

    pub ask_breaks_off : (next : Outgoing) → (did ≡ Full → ⊥)
        → MayCollectWith taken nodes ask.host
        → ((t : Taken) → LiveHolds now t → MayCollectWith t nodes ask.host
        → reply_of ask.tid t ≡ None
        → RoundsBreak quiet t number ask.tid (ask_round nodes ask.host) most_ask_rounds mid next)
        → AskBreaks quiet taken number nodes event ask out next
    ask_breaks_off next other may breaks =
        let m = ask_may may in
        ask_then_breaks next
        (subst (λ k. RoundsBreak quiet asked number ask.tid (ask_round nodes ask.host) k mid next)
        (sym (rounds_all did other)) (breaks asked m.1 m.2 m.3))

  -- it found no room
  pub ask_full : Happens quiet taken number event out mid now (told_as.Did Full)
      → AskDone quiet taken number nodes event ask out mid now Missing
  ask_full h = ask_then Full h mid now Missing (record {
    text = [];
    end = taken_with taken number event h.block;
    is = (refl, refl);
    told = Writes-nil mid;
    goes = (h.goes, asked_missing Full h);
  })

  pub ask_stops : Happens quiet taken number event out mid now told_as.Undetected
      → AskDone quiet taken number nodes event ask out mid now Undetected
  ask_stops h =
      let first = block_told quiet taken number event h.block in
      let end = taken_with taken number event h.block in
      record {
        text = first;
        end = end;
        is = record {
          first = first;
          mid = end;
          rest = [];
          request =
              one_told quiet taken number event out mid live now told_as.Undetected holds h;
          rounds =
              rounds_none quiet number ask.tid (ask_round nodes ask.host)
              (rounds_behind (last_line end.trace)) end h.goes.1;
          whole = sym (append-nil first);
        };
        told = h.text;
        goes = h.goes;
      }

  pub ask_falls : HappensFront quiet taken number event out mid
      → AskBreaks quiet taken number nodes event ask out mid
  ask_falls short =
      let b = one_breaks quiet taken number event out mid live holds short in
      record { text = b.text; is = inl b.is; told = b.told }

-- ---- what is said of the response

-- by the lines that were taken, each of which was sent
at_end : {X : Type 0} (f : Option UndetectedAt → Option Response → X) (ask : Ask) (live : Live)
    (end : Taken) (reply : Option Response) → LiveHolds live end → reply_of ask.tid end ≡ reply
    → f None reply ≡ f (seen_so_far end).undetected (reply_of ask.tid end)
at_end f ask live end reply holds is =
    ap (f None) (sym is) ∙ ap (λ u. f u (reply_of ask.tid end)) (sym (is_sent live end holds))

module _ (ask : Ask) where
  abbrev told_by : Option UndetectedAt → Option Response → List ℕ
  told_by u reply = unless_unsent u (said_text (register_said ask.offset reply))

  abbrev outcome_by : Option UndetectedAt → Option Response → AskOutcome
  outcome_by u reply = said_unless u (register_said ask.offset reply)

  pub said_told : (reply : Reply) (live : Live) (end : Taken)
      → ReplyGoes ask.tid reply live end → reply_said ask.offset reply ≡ reply_told ask end
  said_told (Came response) live end goes =
      at_end told_by ask live end (Some response) goes.0 goes.1
  said_told Missing live end goes = at_end told_by ask live end None goes.0 goes.1
  said_told Undetected live end goes =
      ap (λ u. told_by u (reply_of ask.tid end)) (sym goes.1.1)

  pub outcome_came : (reply : Reply) (live : Live) (end : Taken)
      → ReplyGoes ask.tid reply live end → reply_outcome ask.offset reply ≡ ask_outcome ask end
  outcome_came (Came response) live end goes =
      at_end outcome_by ask live end (Some response) goes.0 goes.1
  outcome_came Missing live end goes = at_end outcome_by ask live end None goes.0 goes.1
  outcome_came Undetected live end goes =
      ap (λ u. outcome_by u (reply_of ask.tid end)) (sym goes.1.1)
