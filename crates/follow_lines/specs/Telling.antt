-- What is told of lines.
use Rattle.std.specs.Prelude.{ℕ, Bool, List, [], ◌++◌, codes, Result, Ok, Err, if◌then◌else◌}
use Rattle.std.specs.Fmt.{decimal}
use Rattle.std.specs.List.{flat_map}
use Rattle.follow_lines.specs.declared.ends.FollowEnd.{FollowEnd}
use Rattle.follow_lines.specs.declared.ends.FollowEnd.TheVariants as F

-- `ok`, if it is to be told
abbrev pub ok_text : Bool → List ℕ
ok_text tell = if tell then codes "ok\n" else []

-- the same for each of these lines
abbrev pub oks_text : Bool → List (List ℕ) → List ℕ
oks_text tell lines = flat_map (λ line. ok_text tell) lines

-- the line of an end, if it is a verdict
abbrev pub end_line_text : FollowEnd → List ℕ
end_line_text (F.Unlawful line reason) =
    codes "unlawful " ++ (decimal line ++ (codes " " ++ (decimal reason ++ codes "\n")))
end_line_text (F.Wrong line wrong) = codes "wrong " ++ (decimal line ++ codes "\n")
end_line_text (F.Refused refusal) =
    codes "refused " ++ (decimal refusal.line ++ (codes " "
    ++ (decimal refusal.reason ++ codes "\n")))
end_line_text end = []

-- the line of a verdict, or nothing if there is none
abbrev pub verdict_line_text : Result ℕ FollowEnd → List ℕ
verdict_line_text (Ok steps) = codes "lawful " ++ (decimal steps ++ codes "\n")
verdict_line_text (Err end) = end_line_text end
