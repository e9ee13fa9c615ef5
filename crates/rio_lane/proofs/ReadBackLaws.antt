-- What the program writes it reads back.
use Rattle.std.proofs.Common.{◌≡◌, ℕ, ◌⊎◌, List, [], ◌∷◌, ◌++◌, Option, Some, None, MatchOption, codes, refl, sym, ap, ◌∙◌, subst, inl, inr}
use Rattle.rio_chars.specs.declared.chars.Char.{Char}
use Rattle.rio_chars.specs.declared.chars.Char.TheVariants.{Special}
use Rattle.code_groups.specs.declared.disparity.Disparity.{Disparity}
use Rattle.code_groups.specs.declared.disparity.Disparity.TheVariants.{Negative}
use Rattle.code_groups.specs.Streams.{HaveGroups, groups_from, after_chars}
use Rattle.lane_sync.specs.declared.lane.LaneState.{LaneState}
use Rattle.lane_sync.specs.Syncing.{lane_out, lane_in, LaneHearsAll}
use Rattle.lane_sync.proofs.SyncLaws.{all_in, all_from_comma}
use Rattle.live_lines.specs.Lines.{with_feed}
use Rattle.rio_lane.specs.declared.ends.LaneEnds.{LaneEnds}
use Rattle.rio_lane.specs.declared.ends.LaneTask.TheVariants.{Groups, Chars}
use Rattle.rio_lane.specs.LaneAnswers.{LaneAnswer, text_words, SpellSent, SpellGroups, SendsText, sent_answer, HearsText, HeardAnswer, joined_groups, joined_chars, burst_chars}
use Rattle.rio_lane.specs.LaneLines.{AnswersLane, AnswersLanes}
use Rattle.rio_lane.specs.ReadingBack.{AllHaveGroups, HaveNoFeeds, fed_lines, burst_lines, idle_lines}
use Rattle.rio_lane.specs.Tasks.{new_ends}
use Rattle.rio_lane.proofs.TextLaws.{words_of_chars, words_of_groups, groups_no_feed, same_chars, same_groups}
use Rattle.rio_lane.proofs.WordLaws.{have_burst, groups_tens}

-- what is answered of a burst
sent_reads : (ends : LaneEnds) (burst : List Char) (first : LaneAnswer)
    (read : Option (List Char)) → HaveGroups burst
    → MatchOption read ((chars : List Char) → ¬ SpellSent (text_words (joined_chars burst)) chars)
    (λ chars. SpellSent (text_words (joined_chars burst)) chars)
    → first ≡ sent_answer [] ends read → first ≡ sent_answer [] ends (Some burst)
sent_reads ends burst first None have reads is =
    absurd (reads burst (record { have = have; are = words_of_chars burst }))
sent_reads ends burst first (Some chars) have reads is =
    let same : chars ≡ burst =
    same_chars chars burst (sym reads.are ∙ words_of_chars burst) in
    is ∙ ap (λ (cs : List Char). sent_answer [] ends (Some cs)) same

one_sent : (commas : ℕ) (ends : LaneEnds) (burst : List Char) (first : LaneAnswer)
    → HaveGroups burst → AnswersLane Groups commas ends (joined_chars burst) first
    → first ≡ sent_answer [] ends (Some burst)
one_sent commas ends burst first have h = elim h [
  | inl coded ↦
      let text : SendsText [] ends (joined_chars burst) first =
      subst (λ (t : List ℕ). SendsText [] ends t first) (sym coded.1) coded.2 in
      sent_reads ends burst first text.read have text.reads text.is
  | inr passed ↦ absurd (passed.0 (joined_chars burst) refl)
]

-- a lane that hears what this sender sends: it waits for its first comma, or is in sync with it
abbrev IsReady : LaneState → Disparity → Type 0
IsReady state before = ((own : Disparity) × (state ≡ lane_out 1 own))
    ⊎ ((more : ℕ) × (state ≡ lane_in 3 more before))

ready_hears : (state to : LaneState) (before : Disparity) (burst heard : List Char)
    → HaveGroups burst → IsReady state before
    → LaneHearsAll 1 state (groups_from before (burst_chars burst)) to heard
    → (heard ≡ burst_chars burst) × IsReady to (after_chars before (burst_chars burst))
ready_hears state to before burst heard have ready h = elim ready [
  | inl out ↦
      let all =
      all_from_comma before out.0 (burst ++ Special 0xbc ∷ []) heard to (have_burst burst have).1
      (subst (λ (s : LaneState). LaneHearsAll 1 s (groups_from before (burst_chars burst)) to heard)
      out.1 h) in
      (all.0, inr (255, all.1))
  | inr within ↦
      let all =
      all_in 1 within.0 before (burst_chars burst) heard to (have_burst burst have)
      (subst (λ (s : LaneState). LaneHearsAll 1 s (groups_from before (burst_chars burst)) to heard)
      within.1 h) in
      (all.0, inr (within.0, all.1))
]

abbrev HeardSo : LaneAnswer → Disparity → List Char → Type 0
HeardSo answer before burst =
    (answer.text ≡ with_feed (joined_chars (burst_chars burst)))
    × IsReady answer.ends.receiver (after_chars before (burst_chars burst))

heard_reads : (ends : LaneEnds) (before : Disparity) (burst : List Char) (answer : LaneAnswer)
    (read : Option (List ℕ)) → HaveGroups burst → IsReady ends.receiver before
    → MatchOption read
    ((groups : List ℕ)
    → ¬ SpellGroups (text_words (joined_groups (groups_from before (burst_chars burst)))) groups)
    (λ groups. SpellGroups (text_words (joined_groups (groups_from before (burst_chars burst))))
    groups)
    → HeardAnswer 1 [] ends read answer → HeardSo answer before burst
heard_reads ends before burst answer None have ready reads is =
    let groups : List ℕ = groups_from before (burst_chars burst) in
    absurd (reads groups (record {
      tens = groups_tens before (burst_chars burst) (have_burst burst have);
      are = words_of_groups groups;
    }))
heard_reads ends before burst answer (Some groups) have ready reads is =
    let sent : List ℕ = groups_from before (burst_chars burst) in
    let same : groups ≡ sent =
    same_groups groups sent reads.tens
    (groups_tens before (burst_chars burst) (have_burst burst have))
    (sym reads.are ∙ words_of_groups sent) in
    let all =
    ready_hears ends.receiver is.1 before burst is.0 have ready
    (subst (λ (gs : List ℕ). LaneHearsAll 1 ends.receiver gs is.1 is.0) same is.2) in (
      ap (λ (a : LaneAnswer). a.text) is.3
          ∙ ap (λ (cs : List Char). joined_chars cs ++ codes "\n") all.0,
      subst (λ (a : LaneAnswer). IsReady a.ends.receiver (after_chars before (burst_chars burst)))
          (sym is.3) all.1,
    )

one_heard : (ends : LaneEnds) (before : Disparity) (burst : List Char) (answer : LaneAnswer)
    → HaveGroups burst → IsReady ends.receiver before
    → AnswersLane Chars 1 ends (joined_groups (groups_from before (burst_chars burst))) answer
    → HeardSo answer before burst
one_heard ends before burst answer have ready h =
    let line : List ℕ = joined_groups (groups_from before (burst_chars burst)) in
    elim h [
      | inl coded ↦
          let text : HearsText 1 [] ends line answer =
          subst (λ (t : List ℕ). HearsText 1 [] ends t answer) (sym coded.1) coded.2 in
          heard_reads ends before burst answer text.read have ready text.reads text.is
      | inr passed ↦ absurd (passed.0 line refl)
    ]

-- the lines that are written of bursts
written_lines : Disparity → List (List Char) → List (List ℕ)
written_lines before [] = []
written_lines before (burst ∷ bursts) =
    joined_groups (groups_from before (burst_chars burst))
    ∷ written_lines (after_chars before (burst_chars burst)) bursts

no_feeds : (before : Disparity) (bursts : List (List Char))
    → HaveNoFeeds (written_lines before bursts)
unfolding written_lines
no_feeds before [] = tt
no_feeds before (burst ∷ bursts) = (
  groups_no_feed (groups_from before (burst_chars burst)),
  no_feeds (after_chars before (burst_chars burst)) bursts,
)

all_sent : (commas : ℕ) (ends : LaneEnds) (before : Disparity) (bursts : List (List Char))
    (sent : LaneAnswer) → ends.sender ≡ before → AllHaveGroups bursts
    → AnswersLanes Groups commas ends (burst_lines bursts) sent
    → sent.text ≡ fed_lines (written_lines before bursts)
unfolding written_lines
all_sent commas ends before [] sent at have h = ap (λ (a : LaneAnswer). a.text) h
all_sent commas ends before (burst ∷ bursts) sent at have h =
    let first : h.0 ≡ sent_answer [] ends (Some burst) =
    one_sent commas ends burst h.0 have.0 h.2 in
    let next : h.0.ends.sender ≡ after_chars before (burst_chars burst) =
    ap (λ (a : LaneAnswer). a.ends.sender) first
    ∙ ap (λ (d : Disparity). after_chars d (burst_chars burst)) at in
    let text : h.0.text ≡ with_feed (joined_groups (groups_from before (burst_chars burst))) =
    ap (λ (a : LaneAnswer). a.text) first
    ∙ ap (λ (d : Disparity). with_feed (joined_groups (groups_from d (burst_chars burst)))) at in
    let rest =
    all_sent commas h.0.ends (after_chars before (burst_chars burst)) bursts h.1 next have.1 h.3 in
    ap (λ (a : LaneAnswer). a.text) h.4
    ∙ ap (λ (t : List ℕ). t ++ h.1.text) text
    ∙ ap (λ (t : List ℕ). with_feed (joined_groups (groups_from before (burst_chars burst))) ++ t)
    rest

all_heard : (ends : LaneEnds) (before : Disparity) (bursts : List (List Char))
    (heard : LaneAnswer) → IsReady ends.receiver before → AllHaveGroups bursts
    → AnswersLanes Chars 1 ends (written_lines before bursts) heard
    → heard.text ≡ fed_lines (idle_lines bursts)
unfolding written_lines
all_heard ends before [] heard ready have h = ap (λ (a : LaneAnswer). a.text) h
all_heard ends before (burst ∷ bursts) heard ready have h =
    let first = one_heard ends before burst h.0 have.0 ready h.2 in
    let rest =
    all_heard h.0.ends (after_chars before (burst_chars burst)) bursts h.1 first.1 have.1 h.3 in
    ap (λ (a : LaneAnswer). a.text) h.4
    ∙ ap (λ (t : List ℕ). t ++ h.1.text) first.0
    ∙ ap (λ (t : List ℕ). with_feed (joined_chars (burst_chars burst)) ++ t) rest

pub read_back_new : (commas : ℕ) (bursts : List (List Char)) (sent : LaneAnswer)
    → AllHaveGroups bursts
    → AnswersLanes Groups commas (new_ends commas) (burst_lines bursts) sent
    → (written : List (List ℕ)) × HaveNoFeeds written × (sent.text ≡ fed_lines written)
    × ((heard : LaneAnswer) → AnswersLanes Chars 1 (new_ends 1) written heard
    → heard.text ≡ fed_lines (idle_lines bursts))
read_back_new commas bursts sent have h = (
  written_lines Negative bursts,
  no_feeds Negative bursts,
  all_sent commas (new_ends commas) Negative bursts sent refl have h,
  λ heard k. all_heard (new_ends 1) Negative bursts heard (inl (Negative, refl)) have k,
)
