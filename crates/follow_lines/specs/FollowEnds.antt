-- How the program ends.
use Rattle.std.specs.Prelude.{ℕ, ◌+◌, List, [], codes, Option, Some, None, Result, Ok, Err}
use Rattle.live_lines.specs.declared.input.LineEnd.{LineEnd}
use Rattle.live_lines.specs.declared.input.LineEnd.TheVariants as L
use Rattle.trace_check.specs.declared.checking.CheckEnd.{CheckEnd}
use Rattle.trace_check.specs.declared.checking.CheckEnd.TheVariants as C
use Rattle.trace_reactions.specs.declared.judge.JudgeEnd.{JudgeEnd}
use Rattle.trace_reactions.specs.declared.judge.JudgeEnd.TheVariants as J
use Rattle.follow_lines.specs.declared.ends.FollowEnd.{FollowEnd}
use Rattle.follow_lines.specs.declared.ends.FollowEnd.TheVariants as F

-- what a check says of the lines behind others, of which there are so many
abbrev pub end_of_check : ℕ → CheckEnd → FollowEnd
end_of_check before (C.Refused refusal) = F.Refused refusal
end_of_check before (C.Unlawful hit) = F.Unlawful (before + hit.line) hit.reason
end_of_check before C.NoMemory = F.NoMemory

-- what a judge of reactions says of the line with this number
abbrev pub end_of_judge : ℕ → JudgeEnd → FollowEnd
end_of_judge line J.NoForm = F.Unlawful line 21
end_of_judge line (J.Wrong wrong) = F.Wrong line wrong
end_of_judge line J.NoMemory = F.NoMemory

-- how it ends if there is no further line, if not for the end of input
abbrev pub end_of_lines : LineEnd → Option FollowEnd
end_of_lines L.End = None
end_of_lines L.Fault = Some F.ReadFault
end_of_lines L.TooLong = Some F.LineTooLong
end_of_lines L.NoMemory = Some F.NoMemory

-- how it ends with this verdict
abbrev pub end_of_verdict : Result ℕ FollowEnd → FollowEnd
end_of_verdict (Ok steps) = F.Done
end_of_verdict (Err end) = end

-- the number of an end, which is that of `rio`
abbrev pub end_value : FollowEnd → ℕ
end_value F.Done = 0
end_value F.Words = 2
end_value (F.Refused refusal) = 3
end_value F.ReadFault = 4
end_value F.WriteFault = 5
end_value F.NoMemory = 6
end_value F.LineTooLong = 8
end_value F.SetUpTooLong = 8
end_value F.TooManyLines = 8
end_value (F.Unlawful line reason) = 10
end_value (F.Wrong line wrong) = 10

-- what is said of an end, but for why lines are refused or not lawful
abbrev pub end_words : FollowEnd → List ℕ
end_words F.Done = []
end_words F.Words = codes "usage: rio_follow [tell] [--report tap] | reactions\n"
end_words (F.Refused refusal) = []
end_words F.ReadFault = codes "rio_follow: standard input cannot be read\n"
end_words F.WriteFault = codes "rio_follow: standard output cannot be written\n"
end_words F.NoMemory = codes "rio_follow: there is not enough memory\n"
end_words F.LineTooLong = codes "rio_follow: a line is longer than 4194304 bytes\n"
end_words F.SetUpTooLong = codes "rio_follow: the set-up lines have more than 4194304 bytes\n"
end_words F.TooManyLines = codes "rio_follow: the trace has more than 4294967294 lines\n"
end_words (F.Unlawful line reason) = []
end_words (F.Wrong line wrong) = []
