-- A program that answers what it is asked as `rio_port` does passes.
use Rattle.std.proofs.Common.{◌≡◌, ℕ, ◌<◌, ◌≤◌, ◌^◌, ◌⊎◌, inl, inr, Bool, Option, Some, Ok, List, [], ◌∷◌, ◌++◌, All, length, length-append, refl, sym, ap, ◌∙◌, subst, append_assoc, append-nil, arith}
use Rattle.std.specs.List.{flat_map}
use Rattle.std.proofs.lemmas.List.Elements.{All-head, All-tail}
use Rattle.live_lines.specs.Lines.{HasNoFeed, with_feed}
use Rattle.port_lines.specs.Answers.{ClockedAnswer}
use Rattle.port_lines.specs.Clocks.{ClockedState}
use Rattle.port_lines.specs.Lines.{PortAnswersLines, ReadsLine, asked_answer}
use Rattle.port_lines.specs.declared.requests.PortRequest.{PortRequest}
use Rattle.conform_lines.specs.Stimuli.{ReadsStimulus, stimulus_line, stimulus_text}
use Rattle.conform_lines.specs.Tolerances.{JudgeState, judge_start}
use Rattle.conform_lines.proofs.OnceLaws.{stimulus_read}
use Rattle.conform_lines.proofs.StimulusLaws.{stimulus_no_feed, stimulus_reads_once}
use Rattle.rio_conform.specs.Plays.{Played, ArePlayed, WasAsked, Plays}
use Rattle.rio_conform.specs.Reference.{AsksSomething, ReferenceGives}
use Rattle.rio_conform.specs.RightDevices.{GivesRightAnswers, PassesOrStops}
use Rattle.rio_conform.specs.declared.verdict.Verdict.{Verdict}
use Rattle.rio_conform.specs.declared.verdict.Verdict.TheVariants.{Passes, Differs, Ended, Misspelled, Stopped}
use Rattle.rio_conform.proofs.FeedLaws.{feed_head, feed_split, has_feed, lines_of}
use Rattle.rio_conform.proofs.PassLaws.{front_of, not_ended, not_wrong}

-- ---- what is read of what is asked

-- these bytes are what a device is asked by lines, each of which asks for something
abbrev AreAsked : List (List ℕ) → List ℕ → Type 0
AreAsked [] asked = asked ≡ []
AreAsked (line ∷ lines) asked = (request : PortRequest) × ReadsStimulus line (Ok request)
    × (rest : List ℕ) × (asked ≡ stimulus_text line request ++ rest) × AreAsked lines rest

-- what is asked for a line of a scenario, and what is asked after it
asked_front : (line : List ℕ) (request : PortRequest) (asked rest : List ℕ)
    → asked ≡ stimulus_text line request ++ rest
    → asked ≡ stimulus_line line request ++ 10 ∷ rest
asked_front line request asked rest is =
    is ∙ append_assoc (stimulus_line line request) (10 ∷ []) rest

-- the bytes after the last line have no line feed, or there were as many lines
abbrev ReadAll : List (List ℕ) → List (List ℕ) → List ℕ → Type 0
ReadAll lines read behind = HasNoFeed behind ⊎ (length lines ≤ length read)

read_more : (line other : List ℕ) (lines read : List (List ℕ)) (behind : List ℕ)
    → ReadAll (line ∷ lines) (other ∷ read) behind → ReadAll lines read behind
read_more line other lines read behind (inl none) = inl none
read_more line other lines read behind (inr many) = inr (omega (arith, many))

-- the answers of the lines that were read are those that the lines of the scenario want
gives_asked : (port : ClockedState) (lines : List (List ℕ)) (asked : List ℕ)
    (read : List (List ℕ)) (behind : List ℕ) (answer : ClockedAnswer) → AreAsked lines asked
    → All (λ l. HasNoFeed l) read → ReadAll lines read behind
    → asked ≡ flat_map with_feed read ++ behind → PortAnswersLines port read answer
    → GivesRightAnswers port lines answer.text
gives_asked port [] asked read behind answer asks fine all is answers = tt
gives_asked port (line ∷ lines) asked [] behind answer asks fine (inl none) is answers =
    absurd (has_feed (stimulus_line line asks.0) asks.2
    (subst HasNoFeed (sym is ∙ asked_front line asks.0 asked asks.2 asks.3) none))
gives_asked port (line ∷ lines) asked [] behind answer asks fine (inr many) is answers =
    absurd (omega (arith, many))
gives_asked port (line ∷ lines) asked (other ∷ read) behind answer asks fine all is answers =
    let request = asks.0 in
    let one = stimulus_line line request in
    let split = feed_split one other asks.2 (flat_map with_feed read ++ behind)
    (stimulus_no_feed line request asks.1) (All-head (λ l. HasNoFeed l) other read fine)
    (sym (asked_front line request asked asks.2 asks.3) ∙ is ∙ feed_head other read behind) in
    let first = answers.0 in
    let last = answers.1 in
    let its = answers.2 in
    let same : its.asked ≡ Ok request =
    stimulus_reads_once line request its.asked asks.1
    (subst (λ l. ReadsLine l its.asked) (sym split.0) its.reads) in
    let right : first ≡ asked_answer port (Ok request) = its.is ∙ ap (asked_answer port) same in (
      request,
      asks.1,
      last.text,
      ap (λ (a : ClockedAnswer). a.text) answers.4
          ∙ ap (λ (a : ClockedAnswer). a.text ++ last.text) right,
      subst (λ (a : ClockedAnswer). GivesRightAnswers a.stands lines last.text) right
          (gives_asked first.stands lines asks.2 read behind last asks.4
          (All-tail (λ l. HasNoFeed l) other read fine)
          (read_more line other lines read behind all) split.1 answers.3),
    )

-- ---- a run that is done

done_gives : (port : ClockedState) (lines : List (List ℕ)) (asked given : List ℕ)
    → length lines < 2 ^ 64 → AreAsked lines asked → ReferenceGives port asked given
    → GivesRightAnswers port lines given
done_gives port lines asked given few asks gives =
    let serves = gives.serves in
    let came = flat_map with_feed gives.lines in
    let front = front_of asked (came ++ serves.behind) gives.left_after serves.read in
    let is : asked ≡ came ++ (serves.behind ++ front.0) =
    front.1 ∙ append_assoc came serves.behind front.0 in
    let all : ReadAll lines gives.lines (serves.behind ++ front.0) =
    elim serves.ends.1 [
      | inl ended ↦ inl (subst HasNoFeed (sym (ap (λ l. serves.behind ++ l) (front.2 ended.0)
          ∙ append-nil serves.behind)) ended.1)
      | inr many ↦ inr (omega (arith, many, few))
    ] in
    subst (GivesRightAnswers port lines) (sym serves.writes.0)
    (gives_asked port lines asked gives.lines (serves.behind ++ front.0) gives.answer asks
    (lines_of gives.lines serves.are_lines) all is gives.answers)

-- ---- what is asked

asks_more : (lines : List (List ℕ)) (line : List ℕ) (request : PortRequest) (asked : List ℕ)
    → AreAsked lines asked → ReadsStimulus line (Ok request)
    → AreAsked (lines ++ line ∷ []) (asked ++ stimulus_text line request)
asks_more [] line request asked asks reads = (
  request,
  reads,
  [],
  ap (λ l. l ++ stimulus_text line request) asks ∙ sym (append-nil (stimulus_text line request)),
  refl,
)
asks_more (other ∷ lines) line request asked asks reads =
    let text = stimulus_text line request in (
      asks.0,
      asks.1,
      asks.2 ++ text,
      ap (λ l. l ++ text) asks.3 ∙ append_assoc (stimulus_text other asks.0) asks.2 text,
      asks_more lines line request asks.2 asks.4 reads,
    )

played_asks : (strict : Bool) (port : ClockedState) (at : JudgeState) (lines : List (List ℕ))
    (played : Played) → ArePlayed strict port at lines played → AreAsked lines played.asked
played_asks strict port at [] played are = ap (λ (p : Played). p.asked) are
played_asks strict port at (line ∷ lines) played are =
    let one = are.2 in (
      one.request,
      one.reads,
      are.1.asked,
      ap (λ (p : Played). p.asked) are.4 ∙ ap (λ (p : Played). p.asked ++ are.1.asked) one.is,
      played_asks strict are.0.port are.0.judged lines are.1 are.3,
    )

-- ---- a scenario

-- up to the line that was asked last the answers are right
gives_to : (strict : Bool) (port : ClockedState) (lines done rest : List (List ℕ))
    (line : List ℕ) (played : Played) (asked given : List ℕ) → length lines < 2 ^ 64
    → lines ≡ done ++ line ∷ rest → ArePlayed strict port judge_start done played
    → WasAsked line (Some []) (Some asked) played.asked → ReferenceGives port asked given
    → GivesRightAnswers port (done ++ line ∷ []) given
gives_to strict port lines done rest line played asked given few is are was gives =
    done_gives port (done ++ line ∷ []) asked given
    (omega (
      arith,
      few,
      ap length is,
      length-append done (line ∷ rest),
      length-append done (line ∷ []),
    ))
    (subst (AreAsked (done ++ line ∷ [])) (sym was.wrote)
    (asks_more done line was.request played.asked
    (played_asks strict port judge_start done played are) was.reads)) gives

among : (P : List ℕ → Type 0) (done rest : List (List ℕ)) (line : List ℕ)
    → All P (done ++ line ∷ rest) → P line
among P [] rest line h = All-head P line rest h
among P (other ∷ done) rest line h =
    among P done rest line (All-tail P other (done ++ line ∷ rest) h)

pub reference_passes : (strict : Bool) (port : ClockedState) (lines : List (List ℕ))
    (verdict : Verdict) (asked given : List ℕ) (left_after : Option (List ℕ))
    → length lines < 2 ^ 64 → All (λ line. AsksSomething line) lines
    → ReferenceGives port asked given
    → Plays strict port judge_start lines verdict (Some given) left_after (Some []) (Some asked)
    → PassesOrStops verdict
reference_passes strict port lines Passes asked given left_after few all gives plays = tt
reference_passes strict port lines (Stopped status) asked given left_after few all gives plays = tt
reference_passes strict port lines (Misspelled count) asked given left_after few all gives plays =
    let line = plays.says.0 in
    let goes = plays.says.1 in
    let refused = plays.says.2 in
    let asks = among (λ l. AsksSomething l) plays.done goes.0 line
    (subst (λ ls. All (λ l. AsksSomething l) ls) goes.1 all) in
    absurd (stimulus_read line asks.0 refused.0 asks.1 refused.1)
reference_passes strict port lines (Differs count) asked given left_after few all gives plays =
    let line = plays.says.0 in
    let goes = plays.says.1 in
    let was = plays.says.2 in
    absurd (not_wrong strict port plays.done [] line plays.played given left_after
    plays.are_played
    (gives_to strict port lines plays.done goes.0 line plays.played asked given few goes.1
    plays.are_played was gives) was.request was.reads plays.says.3)
reference_passes strict port lines (Ended count) asked given left_after few all gives plays =
    let line = plays.says.0 in
    let goes = plays.says.1 in
    absurd (not_ended strict port plays.done [] line plays.played given left_after
    plays.are_played
    (gives_to strict port lines plays.done goes.0 line plays.played asked given few goes.1
    plays.are_played plays.says.2 gives) plays.says.3)
