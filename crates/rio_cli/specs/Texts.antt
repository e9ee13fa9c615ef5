-- Why a line is refused, in words.
use Rattle.std.specs.Prelude.{ℕ, ◌==◌, List, codes, if◌then◌else◌}
use Rattle.check_words.specs.Reasons.{trace_reason}
use Rattle.refusal_words.specs.Reasons.{script_reason, set_up_reason}
use Rattle.rio_cli.specs.declared.command.Command.{Command}
use Rattle.rio_cli.specs.declared.command.Command.TheVariants.{Replay, Decode, Check, Io, Enumerate, Contest}

-- why a line of set-up, or the line after the last, is refused for two hosts
abbrev pub contest_reason : ℕ → List ℕ
contest_reason reason =
    if reason == 16 then codes "both hosts are the same node" else set_up_reason reason

abbrev pub io_cost : List ℕ
io_cost = codes
    "a fabric may have 64 nodes, and lines after --- may cost 100000: round costs 20 times the links, any other line 1"

-- why a line of reads and writes of memory is refused
abbrev pub io_reason : ℕ → List ℕ
io_reason reason =
    if reason == 10 then codes "the bytes have a length that is not allowed"
    else (if reason == 14 then io_cost
    else (if reason == 15 then codes "no line --- follows the set-up lines"
    else (if reason == 17 then codes "the address is no multiple of 8"
    else (if reason == 18 then codes "a memory may only be given before all other lines"
    else set_up_reason reason))))

-- why a line of an input is refused or not lawful: a row for each command
abbrev pub reason_text : Command → ℕ → List ℕ
reason_text Replay reason = script_reason reason
reason_text Decode reason = codes "a word of this line is not a character"
reason_text Check reason = trace_reason reason
reason_text Io reason = io_reason reason
reason_text (Enumerate node) reason = set_up_reason reason
reason_text (Contest first second seed) reason = contest_reason reason
