-- The commands: which words ask for which, and what each accepts, refuses and finds unlawful.
use Rattle.std.proofs.Common.{◌≡◌, ◌==◌, ◌<◌, ◌^◌, ℕ, List, [], Option, if◌then◌else◌, refl, sym, ap, ◌∙◌, arith, get_or}
use Rattle.std.specs.Fmt.{decimal}
use Rattle.std.proofs.lemmas.Fmt.{decimal_injective}
use Rattle.fabric_script.specs.Known.{of_script, of_set_up}
use Rattle.fabric_script.proofs.ScriptLaws.{not_refused, refused_once}
use Rattle.rio_cli.specs.declared.command.Command.{Command}
use Rattle.rio_cli.specs.declared.command.Command.TheVariants.{Replay, Decode, Check, Io, Enumerate, Contest}
use Rattle.rio_cli.specs.Words.{AsksCommand, AskNoHost, AsksSoak, CommandIsNamed, words_for}
use Rattle.rio_cli.proofs.WordLaws.{no_bad_word, bad_word_once}
use Rattle.rio_cli.specs.declared.status.Status.TheVariants.{Script, Unlawful}
use Rattle.rio_cli.specs.Outputs.{InputIsAccepted, InputIsRefused, InputIsUnlawful, Completes, Exposes, Meets, Declines}
use Rattle.rio_cli.specs.Checking.{HasTrace}
use Rattle.io_script.proofs.IoOnce.{io_refused_once}
use Rattle.rio_cli.proofs.AccessLaws.{accesses_not_refused}
use Rattle.rio_cli.proofs.ContestLaws.{hosts_not_refused, hosts_refused_once}
use Rattle.rio_cli.proofs.HostLaws.{host_not_refused, host_refused_once}
use Rattle.script_input.specs.Inputs.{IsRefusedInput, Hit, NotParted, set_up_bytes}

-- set-up lines with a trace behind them are not refused
trace_not_refused : (bytes : List ℕ) (line reason : ℕ) → HasTrace bytes
    → IsRefusedInput bytes line reason → ⊥
trace_not_refused bytes line reason is (Hit refused) =
    let accepted = is.input.accepted in
    not_refused of_set_up (set_up_bytes bytes) accepted.end.names is.set_up line reason
    (accepted.end, refl, accepted.spelled) refused
trace_not_refused bytes line reason is (NotParted accepted none) =
    let clash = sym none ∙ is.input.behind in cc

-- what is carried out is not refused: a row for each command
pub not_refused_too : (command : Command) (bytes : List ℕ) (line reason : ℕ)
    → InputIsAccepted command bytes → InputIsRefused command bytes line reason → ⊥
not_refused_too Replay bytes line reason is refused =
    not_refused of_script bytes is.0 is.1 line reason is.2 refused
not_refused_too Decode bytes line reason is refused = no_bad_word bytes is.0 line is.1 refused.0
not_refused_too Check bytes line reason is refused = trace_not_refused bytes line reason is refused
not_refused_too Io bytes line reason is refused =
    accesses_not_refused bytes line reason is refused
not_refused_too (Enumerate node) bytes line reason is refused =
    host_not_refused node bytes line reason is refused
not_refused_too (Contest first second seed) bytes line reason is refused =
    hosts_not_refused first second bytes line reason is refused

trace_refused_once : (bytes : List ℕ) (line reason line2 reason2 : ℕ)
    → IsRefusedInput bytes line reason → IsRefusedInput bytes line2 reason2
    → (line ≡ line2) × (reason ≡ reason2)
trace_refused_once bytes line reason line2 reason2 (Hit a) (Hit b) =
    refused_once of_set_up (set_up_bytes bytes) line reason line2 reason2 a b
trace_refused_once bytes line reason line2 reason2 (Hit a) (NotParted {lines} accepted none) =
    absurd (not_refused of_set_up (set_up_bytes bytes) accepted.end.names lines line reason
    (accepted.end, refl, accepted.spelled) a)
trace_refused_once bytes line reason line2 reason2 (NotParted {lines} accepted none) (Hit b) =
    absurd (not_refused of_set_up (set_up_bytes bytes) accepted.end.names lines line2 reason2
    (accepted.end, refl, accepted.spelled) b)
trace_refused_once bytes line reason line2 reason2 (NotParted a none) (NotParted b none2) =
    (refl, refl)

-- a refused input has one line and one reason: a row for each command
pub refused_once_too : (command : Command) (bytes : List ℕ) (line reason line2 reason2 : ℕ)
    → InputIsRefused command bytes line reason → InputIsRefused command bytes line2 reason2
    → (line ≡ line2) × (reason ≡ reason2)
refused_once_too Replay bytes line reason line2 reason2 h k =
    refused_once of_script bytes line reason line2 reason2 h k
refused_once_too Decode bytes line reason line2 reason2 h k =
    (bad_word_once bytes line line2 h.0 k.0, h.1 ∙ sym k.1)
refused_once_too Check bytes line reason line2 reason2 h k =
    trace_refused_once bytes line reason line2 reason2 h k
refused_once_too Io bytes line reason line2 reason2 h k =
    io_refused_once bytes line reason line2 reason2 h k
refused_once_too (Enumerate node) bytes line reason line2 reason2 h k =
    host_refused_once node bytes line reason line2 reason2 h k
refused_once_too (Contest first second seed) bytes line reason line2 reason2 h k =
    hosts_refused_once first second bytes line reason line2 reason2 h k

-- what an input is of which the whole output was written
completed : (command : Command) (bytes : List ℕ) (w w' : Option (List ℕ))
    → Completes command bytes w w' → InputIsAccepted command bytes
completed Replay bytes w w' h = (h.names, h.script, h.spells)
completed Decode bytes w w' h = (h.decoded.chars, h.decoded.spells)
completed Check bytes w w' h =
    let is = h.lawful in
    record { set_up = is.set_up; known = is.known; texts = is.texts; input = is.input }
completed Io bytes w w' h = h.is
completed (Enumerate node) bytes w w' h = h.is
completed (Contest first second seed) bytes w w' h = h.is

-- what an input is of which all was written up to an event that was not sent
exposed : (command : Command) (bytes : List ℕ) (w w' : Option (List ℕ))
    → Exposes command bytes w w' → InputIsAccepted command bytes
exposed Replay bytes w w' h = (h.names, h.script, h.spells)
exposed Decode bytes w w' h = absurd h
exposed Check bytes w w' h = absurd h
exposed Io bytes w w' h = absurd h
exposed (Enumerate node) bytes w w' h = absurd h
exposed (Contest first second seed) bytes w w' h = absurd h

-- what an input is of which all was written up to a device that another host holds
met : (command : Command) (bytes : List ℕ) (w w' : Option (List ℕ))
    → Meets command bytes w w' → InputIsAccepted command bytes
met Replay bytes w w' h = absurd h
met Decode bytes w w' h = absurd h
met Check bytes w w' h = absurd h
met Io bytes w w' h = absurd h
met (Enumerate node) bytes w w' h = h.is
met (Contest first second seed) bytes w w' h = absurd h

-- what an input is that is not lawful
unlawful_too : (command : Command) (bytes : List ℕ) (line reason : ℕ)
    → InputIsUnlawful command bytes line reason → InputIsAccepted command bytes
unlawful_too Replay bytes line reason h = absurd h
unlawful_too Decode bytes line reason h = absurd h
unlawful_too Check bytes line reason h =
    record { set_up = h.set_up; known = h.known; texts = h.texts; input = h.input }
unlawful_too Io bytes line reason h = absurd h
unlawful_too (Enumerate node) bytes line reason h = absurd h
unlawful_too (Contest first second seed) bytes line reason h = absurd h

pub accepted_stays : (command : Command) (bytes : List ℕ) (w w' : Option (List ℕ))
    → InputIsAccepted command bytes → Declines Script command bytes w w' → ⊥
accepted_stays command bytes w w' is h = not_refused_too command bytes h.line h.reason is h.hit

pub refused_stays : (command : Command) (bytes : List ℕ) (line reason : ℕ) (w w' : Option (List ℕ))
    → InputIsRefused command bytes line reason → Completes command bytes w w' → ⊥
refused_stays command bytes line reason w w' is h =
    not_refused_too command bytes line reason (completed command bytes w w' h) is

pub refused_is_not_exposed : (command : Command) (bytes : List ℕ) (line reason : ℕ)
    (w w' : Option (List ℕ))
    → InputIsRefused command bytes line reason → Exposes command bytes w w' → ⊥
refused_is_not_exposed command bytes line reason w w' is h =
    not_refused_too command bytes line reason (exposed command bytes w w' h) is

pub refused_is_not_met : (command : Command) (bytes : List ℕ) (line reason : ℕ)
    (w w' : Option (List ℕ))
    → InputIsRefused command bytes line reason → Meets command bytes w w' → ⊥
refused_is_not_met command bytes line reason w w' is h =
    not_refused_too command bytes line reason (met command bytes w w' h) is

pub refused_is_not_unlawful : (command : Command) (bytes : List ℕ) (line reason : ℕ)
    (w w' : Option (List ℕ))
    → InputIsRefused command bytes line reason → Declines Unlawful command bytes w w' → ⊥
refused_is_not_unlawful command bytes line reason w w' is h =
    not_refused_too command bytes line reason (unlawful_too command bytes h.line h.reason h.hit) is

-- ---- no words ask for two commands

-- the third letter of the first word tells the command
abbrev letter : List (List ℕ) → ℕ
letter words = get_or (get_or words 0 []) 2 0

abbrev command_by : ℕ → List ℕ → List ℕ → ℕ → Command
command_by letter first second seed =
    if letter == 112 then Replay
    else (if letter == 99 then Decode
    else (if letter == 101 then Check
    else (if letter == 0 then Io
    else (if letter == 117 then Enumerate first
    else Contest first second seed))))

-- the command of words and of the number that the fourth of them spells
abbrev command_in : List (List ℕ) → ℕ → Command
command_in words seed = command_by (letter words) (get_or words 1 []) (get_or words 2 []) seed

-- that number, and the word; where there is none, those of 0
abbrev seed_in : Command → ℕ
seed_in (Contest first second seed) = seed
seed_in _ = 0

abbrev numeral : List (List ℕ) → List ℕ
numeral words = get_or words 3 (decimal 0)

command_again : (command : Command) → command_in (words_for command) (seed_in command) ≡ command
command_again Replay = refl
command_again Decode = refl
command_again Check = refl
command_again Io = refl
command_again (Enumerate node) = refl
command_again (Contest first second seed) = refl

numeral_again : (command : Command) → numeral (words_for command) ≡ decimal (seed_in command)
numeral_again Replay = refl
numeral_again Decode = refl
numeral_again Check = refl
numeral_again Io = refl
numeral_again (Enumerate node) = refl
numeral_again (Contest first second seed) = refl

seed_low : (command : Command) → CommandIsNamed command → seed_in command < 2 ^ 32
seed_low Replay is = omega arith
seed_low Decode is = omega arith
seed_low Check is = omega arith
seed_low Io is = omega arith
seed_low (Enumerate node) is = omega arith
seed_low (Contest first second seed) is = is.2

pub same_command : (a b : Command) (words : List (List ℕ)) → AsksCommand a words
    → AsksCommand b words → a ≡ b
same_command a b words h k =
    let same = sym h.0 ∙ k.0 in
    let numerals = sym (numeral_again a) ∙ ap numeral same ∙ numeral_again b in
    let low_a = seed_low a h.1 in
    let low_b = seed_low b k.1 in
    let seeds = decimal_injective (seed_in a) (seed_in b) (omega arith) (omega arith) numerals in
    sym (command_again a) ∙ ap (λ ws. command_in ws (seed_in a)) same
    ∙ ap (command_in (words_for b)) seeds ∙ command_again b

pub unknown : (words : List (List ℕ)) → ¬ AsksCommand Replay words → ¬ AsksCommand Decode words
    → ¬ AsksCommand Check words → ¬ AsksCommand Io words → AskNoHost words → (command : Command)
    → ¬ AsksCommand command words
unknown words replay decode check io none Replay is = replay is
unknown words replay decode check io none Decode is = decode is
unknown words replay decode check io none Check is = check is
unknown words replay decode check io none Io is = io is
unknown words replay decode check io none (Enumerate node) is = none.0 node is
unknown words replay decode check io none (Contest first second seed) is =
    none.1 first second seed is

-- the words of a soak begin with their own letter
pub reads_or_soaks : (command : Command) (seed : ℕ) (words : List (List ℕ))
    → AsksCommand command words
    → AsksSoak seed words → ⊥
reads_or_soaks command seed words h k = apart command (ap letter (sym h.0 ∙ k.1))
  where
    apart : (command : Command) → letter (words_for command) ≡ 97 → ⊥
    apart Replay e = omega arith
    apart Decode e = omega arith
    apart Check e = omega arith
    apart Io e = omega arith
    apart (Enumerate node) e = omega arith
    apart (Contest first second n) e = omega arith
