-- Which texts are lines of a trace whose reactions were due, and what is told of others.
use Rattle.std.specs.Prelude.{◌≡◌, ℕ, List, [], ◌∷◌, length}
use Rattle.fabric_script.specs.declared.ports.PortRef.{PortRef}
use Rattle.fabric_script.specs.Known.{Known}
use Rattle.fabric_script.specs.SetUps.{SetUpLines}
use Rattle.trace_lines.specs.Lines.{TraceLine}
use Rattle.trace_lines.specs.Words.{SpellsLine}
use Rattle.trace_reactions.specs.declared.all_ports.WrongReaction.{WrongReaction}
use Rattle.trace_reactions.specs.declared.judge.Judge.{Judge}
use Rattle.trace_reactions.specs.Judging.{after_lines, IsWrongLine, KeepsReactions, LinesReact, reactions_before, ReactionsKept}

-- each text spells the line at its place
abbrev pub TextsSpell : Known → List (List ℕ) → List TraceLine → Type 0
TextsSpell known [] [] = Unit {0}
TextsSpell known (text ∷ texts) (line ∷ lines) =
    SpellsLine known text line × TextsSpell known texts lines
TextsSpell known texts lines = ⊥

-- The texts behind these set-up lines spell lines that pass, and this is kept behind them.
pub record AreAnswered (set_up : SetUpLines) (texts : List (List ℕ)) (kept : ReactionsKept) :
    Type 0 where
  pub lines : List TraceLine
  pub spelled : TextsSpell set_up.known texts lines
  pub react : LinesReact (reactions_before set_up.lines) lines
  pub kept_is : kept ≡ after_lines (reactions_before set_up.lines) lines

-- so many reactions were sent, and each was due
abbrev pub AreAllAnswered : SetUpLines → List (List ℕ) → ℕ → Type 0
AreAllAnswered set_up texts count =
    (kept : ReactionsKept) × AreAnswered set_up texts kept × (count ≡ kept.answered)

-- so many reactions of a port are due behind them
abbrev pub AreStillDue : SetUpLines → List (List ℕ) → PortRef → ℕ → Type 0
AreStillDue set_up texts p count = (kept : ReactionsKept) × AreAnswered set_up texts kept
    × (count ≡ length (kept.ports p).input.due)

-- the text is no line of a trace
abbrev pub IsNoLine : SetUpLines → List ℕ → Type 0
IsNoLine set_up text = (line : TraceLine) → SpellsLine set_up.known text line → ⊥

-- The texts pass, and the text behind them spells a line that has this reaction, which was not due.
pub record IsWrongText (set_up : SetUpLines) (texts : List (List ℕ)) (text : List ℕ)
    (wrong : WrongReaction) : Type 0 where
  pub kept : ReactionsKept
  pub answered : AreAnswered set_up texts kept
  pub line : TraceLine
  pub spelled : SpellsLine set_up.known text line
  pub is_wrong : IsWrongLine kept line wrong

-- the judge has taken these texts
abbrev pub HasJudged : List (List ℕ) → Judge → Type 0
HasJudged texts judge = (kept : ReactionsKept) × AreAnswered judge.set_up texts kept
    × KeepsReactions kept judge.reactions
