-- A device that gives the answers of the tables passes.
use Rattle.std.proofs.Common.{◌≡◌, ℕ, inl, inr, Bool, true, false, Option, Some, None, Ok, List, [], ◌∷◌, ◌++◌, codes, map, refl, sym, ap, ◌∙◌, subst, append_assoc, append-nil}
use Rattle.std.specs.List.{flat_map}
use Rattle.std.specs.Io.KnownBytes.{Consumes, IsAtEnd}
use Rattle.fabric_script.specs.Scripts.{pieces_of}
use Rattle.link_model.specs.Places.{Place}
use Rattle.live_lines.specs.Lines.{with_feed}
use Rattle.port_lines.specs.Clocks.{ClockedState}
use Rattle.port_lines.specs.Lines.{asked_answer}
use Rattle.port_lines.specs.declared.requests.PortRequest.{PortRequest}
use Rattle.conform_lines.specs.Counting.{AnswerCounts, LineComesTo, LinesComeTo, counts_none, counts_chars, counts_line, counts_then}
use Rattle.conform_lines.specs.Stimuli.{ReadsStimulus}
use Rattle.conform_lines.specs.Tolerances.{JudgeState, IsAllowedAnswer, Pays, judge_start, judged_by, leeway_of, owed_since}
use Rattle.conform_lines.proofs.CountLaws.{LinesComeTo-once}
use Rattle.conform_lines.proofs.OnceLaws.{stimulus_once, stimulus_read}
use Rattle.conform_lines.proofs.JudgeLaws.{Pays-all, Pays-once, allowed_itself}
use Rattle.rio_conform.specs.Answers.{IsDeviceAnswer}
use Rattle.rio_conform.specs.Plays.{Played, PassesAnswer, ArePlayed, AnswersWrong, DeviceEnded, Plays}
use Rattle.rio_conform.specs.RightDevices.{GivesRightAnswers, PassesOrStops}
use Rattle.rio_conform.specs.declared.verdict.Verdict.{Verdict}
use Rattle.rio_conform.specs.declared.verdict.Verdict.TheVariants.{Passes, Differs, Ended, Misspelled, Stopped}
use Rattle.rio_conform.proofs.FeedLaws.{answers_once, no_answer, lines_of}
use Rattle.rio_conform.proofs.RightTexts.{right_lines}

-- the right answer
abbrev right_text : ClockedState → PortRequest → List ℕ
right_text port request = (asked_answer port (Ok request)).text

-- what came is the right answer, if what the device gave begins with both
right_came : (port : ClockedState) (request : PortRequest) (came rest more : List ℕ)
    → IsDeviceAnswer came → came ++ rest ≡ right_text port request ++ more
    → (came ≡ right_text port request) × (rest ≡ more)
right_came port request came rest more answer is =
    let right = right_lines port request in
    let once = answers_once answer.lines right.lines rest more
    (lines_of answer.lines answer.are_lines) answer.none_ends right.no_feeds right.none_ends
    (sym (append_assoc (flat_map with_feed answer.lines) (codes "ok\n") rest)
    ∙ ap (λ l. l ++ rest) (sym answer.answer_is) ∙ is
    ∙ ap (λ l. (l ++ codes "ok\n") ++ more) right.text_is
    ∙ append_assoc (flat_map with_feed right.lines) (codes "ok\n") more) in (
      answer.answer_is ∙ ap (λ ls. flat_map with_feed ls ++ codes "ok\n") once.0
          ∙ ap (λ l. l ++ codes "ok\n") (sym right.text_is),
      once.1,
    )

-- ---- what a judge stands at

-- the device has sent all that the right answers have, and nothing is owed
record IsEven (at : JudgeState) : Type 0 where
  same : at.came ≡ at.right
  none : at.owed ≡ []

even_start : IsEven judge_start
even_start = record { same = refl; none = refl }

-- behind the right answer
even_next : (strict : Bool) (request : PortRequest) (text came : List ℕ) (at next : JudgeState)
    → IsEven at → came ≡ text → PassesAnswer strict request text came at next → IsEven next
even_next true request text came at next even is passes =
    subst IsEven (sym passes.1) even
even_next false request text came at next even is passes =
    let h = subst (λ t. IsAllowedAnswer (leeway_of request) text t at next) is passes in
    let counts : h.right_counts ≡ h.came_counts =
    LinesComeTo-once at.right (pieces_of text) h.right_counts h.came_counts h.right_comes
    (subst (λ p. LinesComeTo p (pieces_of text) h.came_counts) even.same h.came_comes) in
    let sent = map (owed_since next.turns) h.right_counts.sent in
    record {
      same =
          h.came_place ∙ ap (λ (c : AnswerCounts). c.place) (sym counts) ∙ sym h.right_place;
      none =
          Pays-once sent h.right_counts.sent next.owed []
          (subst (λ (c : AnswerCounts). Pays sent c.sent next.owed) (sym counts)
          (subst (λ o. Pays (o ++ sent) h.came_counts.sent next.owed) even.none h.pays))
          (Pays-all next.turns h.right_counts.sent);
    }

-- lines come to something
line_comes : (from : Place) (line : List ℕ)
    → ((first : AnswerCounts) → ¬ LineComesTo from line first) → ⊥
line_comes from line refuted =
    refuted (counts_line from line)
    (inr ((λ chars sends. refuted (counts_chars from chars) (inl (chars, sends, refl))), refl))

lines_come : (from : Place) (lines : List (List ℕ))
    → ((counts : AnswerCounts) → ¬ LinesComeTo from lines counts) → ⊥
lines_come from [] refuted = refuted (counts_none from) refl
lines_come from (line ∷ lines) refuted =
    line_comes from line (λ first h. lines_come first.place lines (λ rest k.
    refuted (counts_then first rest) (first, rest, h, k, refl)))

-- the right answer passes
right_is_right : (strict : Bool) (request : PortRequest) (text came : List ℕ) (at : JudgeState)
    → IsEven at → came ≡ text
    → ((next : JudgeState) → ¬ PassesAnswer strict request text came at next) → ⊥
right_is_right true request text came at even is refuted = refuted at (is, refl)
right_is_right false request text came at even is refuted =
    lines_come at.right (pieces_of text) (λ counts comes.
    refuted (judged_by (leeway_of request) at counts)
    (subst (λ t. IsAllowedAnswer (leeway_of request) text t at
    (judged_by (leeway_of request) at counts)) (sym is)
    (allowed_itself (leeway_of request) text at counts even.same even.none comes)))

-- ---- lines

-- Behind lines whose answers pass, a device gives the right answers of those that follow.
record GivesOn (port : ClockedState) (at : JudgeState) (lines : List (List ℕ)) (given : List ℕ)
    : Type 0 where
  even : IsEven at
  gives : GivesRightAnswers port lines given

-- the right answer of what a line is read as
right_for : (port : ClockedState) (line : List ℕ) (lines : List (List ℕ)) (given : List ℕ)
    (request : PortRequest) → ReadsStimulus line (Ok request)
    → GivesRightAnswers port (line ∷ lines) given → (rest : List ℕ)
    × (given ≡ right_text port request ++ rest)
    × GivesRightAnswers (asked_answer port (Ok request)).stands lines rest
right_for port line lines given request reads gives =
    subst (λ r. (rest : List ℕ) × (given ≡ right_text port r ++ rest)
    × GivesRightAnswers (asked_answer port (Ok r)).stands lines rest)
    (stimulus_once line gives.0 request gives.1 reads) (gives.2, gives.3, gives.4)

gives_on : (strict : Bool) (port : ClockedState) (at : JudgeState) (done rest : List (List ℕ))
    (played : Played) (given more : List ℕ) → IsEven at → ArePlayed strict port at done played
    → GivesRightAnswers port (done ++ rest) given → played.answers ++ more ≡ given
    → GivesOn played.port played.judged rest more
gives_on strict port at [] rest played given more even are gives is =
    subst (λ (p : Played). GivesOn p.port p.judged rest more) (sym are)
    record {
      even = even;
      gives =
          subst (GivesRightAnswers port rest)
          (sym is ∙ ap (λ (p : Played). p.answers ++ more) are) gives;
    }
gives_on strict port at (line ∷ done) rest played given more even are gives is =
    let first = are.0 in
    let last = are.1 in
    let one = are.2 in
    let right = right_for port line (done ++ rest) given one.request one.reads gives in
    let begins : one.came ++ (last.answers ++ more)
    ≡ right_text port one.request ++ right.0 =
    ap (λ (p : Played). p.answers ++ (last.answers ++ more)) (sym one.is)
    ∙ sym (append_assoc first.answers last.answers more)
    ∙ ap (λ (p : Played). p.answers ++ more) (sym are.4) ∙ is ∙ right.1 in
    let once = right_came port one.request one.came (last.answers ++ more) right.0 one.answer
    begins in
    let even_then =
    subst IsEven (ap (λ (p : Played). p.judged) (sym one.is))
    (even_next strict one.request (right_text port one.request) one.came at one.next even once.0
    one.passes) in
    let stands : (asked_answer port (Ok one.request)).stands ≡ first.port =
    ap (λ (p : Played). p.port) (sym one.is) in
    subst (λ (p : Played). GivesOn p.port p.judged rest more) (sym are.4)
    (gives_on strict first.port first.judged done rest last right.0 more even_then are.3
    (subst (λ p. GivesRightAnswers p (done ++ rest) right.0) stands right.2) once.1)

-- what was read is the front of what the device gives
pub front_of : (given bytes : List ℕ) (after : Option (List ℕ)) → Consumes (Some given) after bytes
    → (more : List ℕ) × (given ≡ bytes ++ more) × (IsAtEnd after → more ≡ [])
front_of given bytes None h = absurd h
front_of given bytes (Some more) h = (more, h, λ end. end)

-- each line asks for something
asks_among : (port : ClockedState) (done rest : List (List ℕ)) (line given : List ℕ)
    → GivesRightAnswers port (done ++ line ∷ rest) given
    → (request : PortRequest) × ReadsStimulus line (Ok request)
asks_among port [] rest line given gives = (gives.0, gives.1)
asks_among port (other ∷ done) rest line given gives =
    asks_among (asked_answer port (Ok gives.0)).stands done rest line gives.2 gives.4

module _ (strict : Bool) (port : ClockedState) (done rest : List (List ℕ)) (line : List ℕ)
    (played : Played) (given : List ℕ) (left_after : Option (List ℕ))
    (are : ArePlayed strict port judge_start done played)
    (gives : GivesRightAnswers port (done ++ line ∷ rest) given) where
  -- no answer is called wrong
  pub not_wrong : (request : PortRequest) → ReadsStimulus line (Ok request)
      → ¬ AnswersWrong strict played.port played.judged request (Some given) left_after
      played.answers
  not_wrong request reads wrong =
      let front = front_of given ((played.answers ++ wrong.came) ++ wrong.gave.0) left_after
      wrong.gave.1 in
      let behind = wrong.came ++ (wrong.gave.0 ++ front.0) in
      let is : played.answers ++ behind ≡ given =
      ap (λ l. played.answers ++ l) (sym (append_assoc wrong.came wrong.gave.0 front.0))
      ∙ sym (append_assoc played.answers (wrong.came ++ wrong.gave.0) front.0)
      ∙ ap (λ l. l ++ front.0) (sym (append_assoc played.answers wrong.came wrong.gave.0))
      ∙ sym front.1 in
      let on = gives_on strict port judge_start done (line ∷ rest) played given behind even_start
      are gives is in
      let right = right_for played.port line rest behind request reads on.gives in
      let once = right_came played.port request wrong.came (wrong.gave.0 ++ front.0) right.0
      wrong.answer right.1 in
      right_is_right strict request (right_text played.port request) wrong.came played.judged
      on.even once.0 wrong.wrong

  -- the device is not said to have ended
  pub not_ended : ¬ DeviceEnded (Some given) left_after played.answers
  not_ended ended =
      let front = front_of given (played.answers ++ ended.came) left_after ended.gave in
      let is : played.answers ++ ended.came ≡ given =
      sym (append-nil (played.answers ++ ended.came))
      ∙ ap (λ l. (played.answers ++ ended.came) ++ l) (sym (front.2 ended.at_end))
      ∙ sym front.1 in
      let on = gives_on strict port judge_start done (line ∷ rest) played given ended.came
      even_start are gives is in
      let right = on.gives in
      let text = right_lines played.port right.0 in
      no_answer ended.none.lines text.lines ended.none.behind right.2
      (lines_of ended.none.lines ended.none.are_lines) ended.none.none_ends ended.none.no_feed
      text.no_feeds text.none_ends
      (sym ended.none.came_is ∙ right.3 ∙ ap (λ l. (l ++ codes "ok\n") ++ right.2) text.text_is
      ∙ append_assoc (flat_map with_feed text.lines) (codes "ok\n") right.2)

pub right_passes : (strict : Bool) (port : ClockedState) (lines : List (List ℕ))
    (given : List ℕ) (verdict : Verdict) (left_after written written_after : Option (List ℕ))
    → GivesRightAnswers port lines given
    → Plays strict port judge_start lines verdict (Some given) left_after written written_after
    → PassesOrStops verdict
right_passes strict port lines given Passes left_after written written_after gives plays = tt
right_passes strict port lines given (Stopped status) left_after written written_after gives plays =
    tt
right_passes strict port lines given (Misspelled count) left_after written written_after gives
    plays =
    let line = plays.says.0 in
    let goes = plays.says.1 in
    let refused = plays.says.2 in
    let asks = asks_among port plays.done goes.0 line given
    (subst (λ ls. GivesRightAnswers port ls given) goes.1 gives) in
    absurd (stimulus_read line asks.0 refused.0 asks.1 refused.1)
right_passes strict port lines given (Differs count) left_after written written_after gives plays =
    let goes = plays.says.1 in
    let asked = plays.says.2 in
    absurd (not_wrong strict port plays.done goes.0 plays.says.0 plays.played given left_after
    plays.are_played (subst (λ ls. GivesRightAnswers port ls given) goes.1 gives) asked.request
    asked.reads plays.says.3)
right_passes strict port lines given (Ended count) left_after written written_after gives plays =
    let goes = plays.says.1 in
    absurd (not_ended strict port plays.done goes.0 plays.says.0 plays.played given left_after
    plays.are_played (subst (λ ls. GivesRightAnswers port ls given) goes.1 gives) plays.says.3)
