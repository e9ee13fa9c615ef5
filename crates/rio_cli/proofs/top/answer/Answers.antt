use Rattle.std.proofs.Common.{refl, subst, arith, inl, inr, map}
use Rattle.std.specs.String.{string_bytes}
use Rattle.rio_cli.specs.declared.command.Command.{Command}
use Rattle.rio_cli.specs.declared.status.Status.TheVariants.{Done, Words, Script, ReadFault, WriteFault, NoMemory, Undetected, TooLong, Locked, Unlawful}
use Rattle.rio_cli.specs.Answers.{ProgramEnded, SaysOfInput}
use Rattle.rio_cli.proofs.AnswerLaws.{says_at, accepts, refuses, lengthy, no_other, refusal_told, refusal_failed, refusal_either, took_none, ran_out, Refuses-input}
use Rattle.rio_cli.proofs.CommandLaws.{same_command, accepted_stays, refused_stays, refused_is_not_exposed, refused_is_not_met, refused_is_not_unlawful, reads_or_soaks}
use Rattle.rio_cli.specs.Words.{AsksInput}
use Rattle.rio_cli.proofs.SoakLaws.{soak_at, soak_ends}
use Rattle.rio_cli.proofs.top.answer.Goals as goal

pub returns-in-Some-Input : goal.returns-in-Some-Input
returns-in-Some-Input g c =
    let words = map string_bytes c.args.words.now in
    let command = c.in-Some-Input.command in
    let known = subst (λ a. AsksInput a words) c.in-Some-Input.field-0-is c.in-Some-Input.ensures in
    let l = g.S.Source.left c.args.source.now in
    let l2 = g.S.Source.left c.run_input.new.source in
    let w = g.K.Sink.written c.args.sink.now in
    let w' = g.K.Sink.written c.run_input.new.sink in
    let answer = c.run_input.result.status in
    let h = c.run_input.ensures.says in
    let As : Command → Type 0 =
    λ k. SaysOfInput k answer l l2 (g.S.Source.faults c.args.source.now)
    (g.S.Source.faults c.run_input.new.source) w (g.K.Sink.faults c.args.sink.now) w'
    (g.K.Sink.faults c.run_input.new.sink) in
    record {
      ended = record {
        words = λ e. absurd (says_at command _ _ _ _ _ _ _ _ answer Words h e);
        other_words = λ other. absurd (other.0 command known);
        done = λ e. inl (command, known, says_at command _ _ _ _ _ _ _ _ answer Done h e);
        undetected =
            λ e. inl (command, known, says_at command _ _ _ _ _ _ _ _ answer Undetected h e);
        locked = λ e. (command, known, says_at command _ _ _ _ _ _ _ _ answer Locked h e);
        script = λ e. (command, known, says_at command _ _ _ _ _ _ _ _ answer Script h e);
        unlawful = λ e. (command, known, says_at command _ _ _ _ _ _ _ _ answer Unlawful h e);
        too_long =
            λ e. let t = says_at command _ _ _ _ _ _ _ _ answer TooLong h e in
            (command, known, t.0, t.1);
        bounded = c.run_input.ensures.bounded;
        read_fault = λ e. says_at command _ _ _ _ _ _ _ _ answer ReadFault h e;
        write_fault =
            λ e. let t = says_at command _ _ _ _ _ _ _ _ answer WriteFault h e in
            (t.0, inr (inl (command, known, t.1)));
        reads_counted = c.run_input.ensures.reads;
        writes_counted = c.run_input.ensures.writes;
        never_falls = (c.run_input.ensures.source, c.run_input.ensures.sink);
        no_memory = λ e. ran_out command words _ _ _ _ known
            (says_at command _ _ _ _ _ _ _ _ answer NoMemory h e);
        accepted =
            λ k bytes is has ok calm. accepts k _ _ _ _ _ _ _ _ answer
            (subst As (same_command command k words known is) h) bytes has.told has.within
            (accepted_stays k bytes w w' ok) calm.reads calm.writes;
        refused =
            λ k bytes line reason is has not_ok calm. refuses k _ _ _ _ _ _ _ _ answer
            (subst As (same_command command k words known is) h) bytes has.told has.within
            (refused_stays k bytes line reason w w' not_ok)
            (refused_is_not_exposed k bytes line reason w w' not_ok)
            (refused_is_not_met k bytes line reason w w' not_ok)
            (refused_is_not_unlawful k bytes line reason w w' not_ok) calm.reads calm.writes;
        longer =
            λ k bytes is e long calm. lengthy command _ _ _ _ _ _ _ _ answer h bytes e long
            calm.reads calm.writes;
        unread = λ seed asks. absurd (reads_or_soaks command seed words known asks);
        soaked = λ seed asks. absurd (reads_or_soaks command seed words known asks);
      };
      refuses =
          Refuses-input command words answer c.run_input.result.refusal l l2 w w' known
          c.run_input.ensures.refuses;
    }

pub returns-in-Some-Soak : goal.returns-in-Some-Soak
returns-in-Some-Soak g c =
    let words = map string_bytes c.args.words.now in
    let seed = c.in-Some-Soak.seed in
    let known = subst (λ a. AsksInput a words) c.in-Some-Soak.field-0-is c.in-Some-Soak.ensures in
    let status = c.soak.result in
    let h = c.soak.ensures.says in
    let ending : ProgramEnded words c.soak.result g.S.Source.left g.S.Source.faults
    c.args.source.now
    c.args.source.now g.K.Sink.written g.K.Sink.faults c.args.sink.now c.soak.new.sink =
    record {
      words = λ e. absurd (soak_at seed _ _ _ _ status Words h e);
      other_words = λ other. absurd (other.1 seed known);
      done = λ e. inr (record {
        seed = seed;
        asks = known;
        unread = refl;
        holds = soak_at seed _ _ _ _ status Done h e;
      });
      undetected = λ e. inr (record {
        seed = seed;
        asks = known;
        unread = refl;
        holds = soak_at seed _ _ _ _ status Undetected h e;
      });
      locked = λ e. absurd (soak_at seed _ _ _ _ status Locked h e);
      script = λ e. absurd (soak_at seed _ _ _ _ status Script h e);
      unlawful = λ e. absurd (soak_at seed _ _ _ _ status Unlawful h e);
      too_long = λ e. absurd (soak_at seed _ _ _ _ status TooLong h e);
      bounded = took_none (g.S.Source.left c.args.source.now);
      read_fault = λ e. absurd (soak_at seed _ _ _ _ status ReadFault h e);
      write_fault = λ e. let t = soak_at seed _ _ _ _ status WriteFault h e in (
        t.0,
        inr (inr (record { seed = seed; asks = known; unread = refl; holds = t.1 })),
      );
      reads_counted = λ e. refl;
      writes_counted = c.soak.ensures.writes;
      never_falls = (omega arith, c.soak.ensures.sink);
      no_memory = λ e. inl (soak_at seed _ _ _ _ status NoMemory h e);
      accepted = λ k bytes is. absurd (reads_or_soaks k seed words is known);
      refused = λ k bytes line reason is. absurd (reads_or_soaks k seed words is known);
      longer = λ k bytes is. absurd (reads_or_soaks k seed words is known);
      unread = λ n asks. refl;
      soaked = λ n asks calm. soak_ends seed _ _ _ _ status h calm;
    } in
    rw c.ended.ensures (record {
      ended = ending;
      refuses = (
        (λ e. soak_at seed _ _ _ _ status Script h e),
        (λ e. soak_at seed _ _ _ _ status Unlawful h e),
      );
    })

pub returns-in-None : goal.returns-in-None
returns-in-None g c =
    let words = map string_bytes c.args.words.now in
    let other = c.in-None.ensures in
    let h = c.write_answer.ensures.answers in
    let S = g.S.Source.left in
    let ending : ProgramEnded words c.write_answer.result g.S.Source.left g.S.Source.faults
    c.args.source.now
    c.args.source.now g.K.Sink.written g.K.Sink.faults c.args.sink.now c.write_answer.new.sink =
    record {
      words = λ e. (other, refusal_told _ _ _ _ _ _ _ (λ t. cc) h e);
      other_words = λ u. (refl, refusal_either _ _ _ _ _ _ _ h);
      done = λ e. absurd (no_other _ _ _ _ _ _ _ Done (λ t. cc) (λ t. cc) h e);
      undetected = λ e. absurd (no_other _ _ _ _ _ _ _ Undetected (λ t. cc) (λ t. cc) h e);
      locked = λ e. absurd (no_other _ _ _ _ _ _ _ Locked (λ t. cc) (λ t. cc) h e);
      script = λ e. absurd (no_other _ _ _ _ _ _ _ Script (λ t. cc) (λ t. cc) h e);
      unlawful = λ e. absurd (no_other _ _ _ _ _ _ _ Unlawful (λ t. cc) (λ t. cc) h e);
      too_long = λ e. absurd (no_other _ _ _ _ _ _ _ TooLong (λ t. cc) (λ t. cc) h e);
      bounded = took_none (g.S.Source.left c.args.source.now);
      read_fault = λ e. absurd (no_other _ _ _ _ _ _ _ ReadFault (λ t. cc) (λ t. cc) h e);
      write_fault =
          λ e. let t = refusal_failed _ _ _ _ _ _ _ (λ t. cc) h e in (t.0, inl (other, t.1));
      reads_counted = λ e. refl;
      writes_counted = c.write_answer.ensures.writes;
      never_falls = (omega arith, c.write_answer.ensures.sink);
      no_memory = λ e. absurd (no_other _ _ _ _ _ _ _ NoMemory (λ t. cc) (λ t. cc) h e);
      accepted = λ k bytes is. absurd (other.0 k is);
      refused = λ k bytes line reason is. absurd (other.0 k is);
      longer = λ k bytes is. absurd (other.0 k is);
      unread = λ seed asks. refl;
      soaked = λ seed asks. absurd (other.1 seed asks);
    } in
    rw c.ended-in-None.ensures (record {
      ended = ending;
      refuses = (
        (λ e. no_other _ _ _ _ _ _ _ Script (λ t. cc) (λ t. cc) h e),
        (λ e. no_other _ _ _ _ _ _ _ Unlawful (λ t. cc) (λ t. cc) h e),
      );
    })
