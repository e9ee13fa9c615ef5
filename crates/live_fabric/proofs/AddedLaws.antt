-- A line of set-up behind those that were read.
use Rattle.std.proofs.Common.{◌≡◌, ◌==◌, ℕ, ◌+◌, ◌≤◌, suc, false, List, [], ◌∷◌, ◌++◌, length, length-append, Option, Some, None, MatchOption, is_some, Result, Ok, Err, IfOk, OnErr, refl, sym, ap, ◌∙◌, subst, arith}
use Rattle.std.specs.List.{join_with_byte}
use Rattle.std.proofs.lemmas.List.Sums.{count_by-le-length}
use Rattle.std.proofs.lemmas.List.Splits.{length-slice_split, join_with_byte-slice_split}
use Rattle.fabric_script.specs.declared.lines.Numbered.{Numbered}
use Rattle.fabric_script.specs.Known.{Known, known_after, nothing_in, of_set_up}
use Rattle.fabric_script.specs.Reading.{new_name_in, LeastHit}
use Rattle.fabric_script.specs.Scripts.{pieces_of, is_skipped, SpellsFrom, KeepsLine, RefusedIn}
use Rattle.fabric_script.specs.SetUps.{SetUpLines, for_event, for_set_up, IsRefused}
use Rattle.fabric_script.proofs.KnownLaws.{links-after}
use Rattle.fabric_script.proofs.ScriptLaws.{Kept, by_skipped, Passes-from_script}
use Rattle.fabric_script.proofs.SetUpLaws.{set_up_passes}
use Rattle.fabric_script.proofs.LaterLines.{more_whole_lines, mode_kept, spelled_more, refused_more}
use Rattle.rio_chars.specs.declared.failures.NoMemory.{NoMemory}
use Rattle.live_lines.specs.Lines.{with_feed}
use Rattle.live_fabric.specs.declared.live.Live.{Live}
use Rattle.live_fabric.specs.Lines.{Taken, most_set_up}
use Rattle.live_fabric.specs.Holding.{HasWholeLines, LiveHolds}
use Rattle.live_fabric.specs.Answers.{AreSetUp, AreNoSetUp, TakesSetUp, LeavesSetUp, bytes_with}

-- ---- how many lines and links there are

-- a text with a line feed is as many lines as it has pieces
pub counted_more : (count : ℕ) (text line : List ℕ) → HasWholeLines count text
    → HasWholeLines (count + length (pieces_of line)) (text ++ with_feed line)
counted_more count text line counted =
    let more = length-append counted.0 (pieces_of line) in (
      counted.0 ++ pieces_of line,
      more_whole_lines text line counted.0 counted.1,
      omega (arith, more, counted.2),
    )

pub few_pieces : (text : List ℕ) → length (pieces_of text) ≤ length text + 1
few_pieces text =
    let count = length-slice_split (λ byte. byte == 10) text in
    let few = count_by-le-length (λ byte. byte == 10) text in
    omega (arith, count, few)

-- each line is a link at most
few_links : (number : ℕ) (known end : Known) (texts : List (List ℕ)) (lines : List Numbered)
    → SpellsFrom number known texts lines end
    → length end.links ≤ length known.links + length texts
few_links number known end [] lines spelled =
    let same = ap {A = Known} (λ k. length k.links) spelled.1 in
    omega (arith, same)
few_links number known end (text ∷ texts) lines spelled =
    by_skipped (SpellsFrom (suc number) known texts lines end)
    (Kept number known text texts lines end)
    (λ h. let rest = few_links (suc number) known end texts lines h in omega (arith, rest))
    (λ h.
    let after = known_after known (new_name_in text h.0) h.0 in
    let rest = few_links (suc number) after end texts h.1 h.4 in
    let here = links-after known.links h.0 in
    omega (arith, rest, here))
    (is_skipped text) spelled

pub few_set_up : (text : List ℕ) (set_up : SetUpLines) → AreSetUp text set_up
    → length set_up.known.links ≤ length text + 1
few_set_up text set_up are =
    let links = few_links 1 (nothing_in of_set_up) are.known (pieces_of text) are.lines
    are.spelled in
    let pieces = few_pieces text in
    let same = ap {A = Known} (λ k. length k.links) are.is in
    omega (arith, links, pieces, same)

-- ---- one line more

-- a text without a line feed is one piece
one_piece : (line : List ℕ) → length (pieces_of line) ≡ 1 → pieces_of line ≡ line ∷ []
one_piece line one = by_pieces (pieces_of line) one (join_with_byte-slice_split 10 line)
  where
    by_pieces : (pieces : List (List ℕ)) → length pieces ≡ 1 → join_with_byte 10 pieces ≡ line
        → pieces ≡ line ∷ []
    by_pieces [] one is = absurd (omega (arith, one))
    by_pieces (piece ∷ []) one is = ap (λ p. p ∷ []) is
    by_pieces (piece ∷ other ∷ pieces) one is = absurd (omega (arith, one))

-- what is known of a line of set-up is what was known behind the others
known_again : (known end : Known) → known ≡ for_event end → end.mode ≡ of_set_up
    → for_set_up known ≡ end
known_again known end is mode =
    ap for_set_up is ∙ ap {B = Known} (λ m. record end { mode = m }) (sym mode)

module _ (text line : List ℕ) (count : ℕ) (old new : SetUpLines) (are : AreSetUp text old)
    (counted : HasWholeLines count text) (one : length (pieces_of line) ≡ 1)
    (kept : is_skipped line ≡ false) where
  same_known : for_set_up old.known ≡ are.known
  same_known = known_again old.known are.known are.is
      (mode_kept 1 (nothing_in of_set_up) are.known (pieces_of text) are.lines are.spelled)

  -- it was taken
  pub one_taken : (end : Known)
      → KeepsLine (for_set_up old.known) old.lines (count + 1) line end new.lines
      → new.known ≡ for_event end → AreSetUp (text ++ with_feed line) new
  one_taken end keeps is =
      let named = subst
      (λ n. KeepsLine (for_set_up old.known) old.lines (n + 1) line end new.lines)
      counted.2 keeps in
      let behind = subst
      (λ k. KeepsLine k old.lines (length counted.0 + 1) line end new.lines)
      same_known named in
      let these = subst
      (λ ls. KeepsLine are.known ls (length counted.0 + 1) line end new.lines)
      are.lines_are behind in
      let spelled = spelled_more of_set_up text line counted.0 are.lines new.lines are.known end
      counted.1 (one_piece line one) kept are.spelled these in
      let passes = set_up_passes end.names new.lines
      (Passes-from_script of_set_up (text ++ with_feed line) end.names new.lines
      (end, refl, spelled)) in
      record {
        lines = new.lines;
        known = end;
        spelled = spelled;
        passes = passes.0;
        no_events = passes.1;
        lines_are = refl;
        is = is;
      }

  -- it was refused
  pub one_refused : (number : ℕ) → IsRefused (for_set_up old.known) line number
      → AreNoSetUp (text ++ with_feed line) number
  one_refused number refused = (
    length counted.0 + 1,
    subst (λ n. RefusedIn of_set_up (text ++ with_feed line) (length counted.0 + 1) n)
        (sym refused.named)
        (refused_more of_set_up text line counted.0 are.lines are.known refused.reason counted.1
        (one_piece line one) kept are.spelled
        (subst (λ k. LeastHit k line refused.reason) same_known refused.least)),
  )

-- a line without a line feed was read
pub added_one : (all line : List ℕ) (count number : ℕ) (old new : SetUpLines)
    (reason : Option ℕ) → number ≡ count + 1 → is_skipped line ≡ false
    → MatchOption reason
    ((end : Known) × KeepsLine (for_set_up old.known) old.lines (count + 1) line end new.lines
    × (new.known ≡ for_event end))
    (λ n. IsRefused (for_set_up old.known) line n × (new ≡ old))
    → (before : List ℕ) → AreSetUp before old → HasWholeLines count before
    → all ≡ before ++ with_feed line → number ≡ count + length (pieces_of line)
    → MatchOption reason (AreSetUp all new) (AreNoSetUp all)
added_one all line count number old new None is kept read before are counted same total =
    subst (λ l. AreSetUp l new) (sym same)
    (one_taken before line count old new are counted (omega (arith, is, total)) kept read.0
    read.1 read.2)
added_one all line count number old new (Some n) is kept read before are counted same total =
    subst (λ l. AreNoSetUp l n) (sym same)
    (one_refused before line count old new are counted (omega (arith, is, total)) kept n read.0)

-- a text was read anew
pub anew_few : (text : List ℕ) (old new : SetUpLines) (result : Result (Option ℕ) NoMemory)
    → length old.known.links ≤ length text
    → IfOk result (λ reason. MatchOption reason (AreSetUp text new)
    (λ number. AreNoSetUp text number × (new ≡ old)))
    → OnErr result (new ≡ old) → length new.known.links ≤ length text + 1
anew_few text old new (Ok None) few read failed = few_set_up text new read
anew_few text old new (Ok (Some number)) few read failed =
    let same = ap {A = SetUpLines} (λ s. length s.known.links) read.1 in
    omega (arith, few, same)
anew_few text old new (Err end) few read failed =
    let same = ap {A = SetUpLines} (λ s. length s.known.links) failed in
    omega (arith, few, same)

-- ---- what a fabric holds

pub held_set_up : (live : Live) (taken : Taken) → LiveHolds live taken
    → AreSetUp live.text.bytes.items live.set_up
held_set_up live taken holds =
    subst (λ text. AreSetUp text live.set_up) (sym holds.text)
    (record {
      lines = taken.set_up;
      known = taken.known;
      spelled = holds.spelled;
      passes = holds.trace.passes;
      no_events = holds.trace.no_events;
      lines_are = holds.lines;
      is = holds.known;
    })

pub held_count : (live : Live) (taken : Taken) → LiveHolds live taken
    → HasWholeLines live.text.count live.text.bytes.items
held_count live taken holds = subst (HasWholeLines live.text.count) (sym holds.text) holds.counted

-- a line of set-up was put behind the others and read
pub takes_added : (old new : Live) (line : List ℕ) (taken : Taken) (reason : Option ℕ)
    → LiveHolds old taken → is_some reason ≡ false
    → length (bytes_with old line) ≤ most_set_up
    → new.text.bytes.items ≡ bytes_with old line
    → new.text.count ≡ old.text.count + length (pieces_of line)
    → MatchOption reason (AreSetUp new.text.bytes.items new.set_up)
    (AreNoSetUp new.text.bytes.items) → new.fabric ≡ old.fabric
    → new.facing.items ≡ old.facing.items
    → MatchOption reason (TakesSetUp old line new) (λ number. LeavesSetUp old line number new)
takes_added old new line taken None holds none within bytes count read fabric facing = record {
  within = within;
  text = bytes;
  counted =
      subst (λ n. HasWholeLines n (bytes_with old line)) (sym count)
      (counted_more old.text.count old.text.bytes.items line (held_count old taken holds));
  are = subst (λ text. AreSetUp text new.set_up) bytes read;
  fabric = fabric;
  facing = facing;
}
takes_added old new line taken (Some number) holds none within bytes count read fabric facing =
    absurd cc
