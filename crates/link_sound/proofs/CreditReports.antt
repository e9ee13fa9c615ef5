-- What the buffer status of a symbol does to what a sender keeps.
use Rattle.link_sound.proofs.Prelude.{◌≡◌, ℕ, suc, ◌+◌, ◌%◌, ◌<◌, ◌≤◌, ◌==◌, ◌||◌, nat_lt, Bool, true, false, Option, Some, None, IfSome, List, ◌∷◌, length, refl, arith, if◌then◌else◌, eqb-true, Fields, Input, Output, hears_report, untold, Stype0, stype0, reported, has_buffer_status, report_of, Report, prios_of, Word, Accepted, WordTold, word_of, WordsInTurn, IsCovered, AreCountedAt}

-- what a symbol reports, by its stype0
abbrev pub reports_as : Stype0 → Bool → (ack free : ℕ) → Output → Output
reports_as Stype0.PacketAccepted has ack free output =
    reported (report_of ((ack + 1) % 32) free) output
reports_as Stype0.PacketRetry has ack free output = reported (report_of ack free) output
reports_as Stype0.PacketNotAccepted has ack free output = output
reports_as Stype0.LinkResponse has ack free output = output
reports_as Stype0.OtherStype0 has ack free output =
    if has then reported (report_of ack free) output else output

kinds_report :
    (accepted retry refused response status : Bool) (ack free : ℕ) (output : Output)
    → (refused ≡ true → status ≡ true → ⊥) → (response ≡ true → status ≡ true → ⊥)
    → (if (accepted || (retry || status))
    then reported (report_of (if accepted then (ack + 1) % 32 else ack) free) output else output)
    ≡ reports_as (if accepted then Stype0.PacketAccepted
    else (if retry then Stype0.PacketRetry
    else (if refused then Stype0.PacketNotAccepted
    else (if response then Stype0.LinkResponse else Stype0.OtherStype0))))
    (accepted || (retry || status)) ack free output
kinds_report true retry refused response status ack free output first second = refl
kinds_report false true refused response status ack free output first second = refl
kinds_report false false true response true ack free output first second = absurd (first refl refl)
kinds_report false false true response false ack free output first second = refl
kinds_report false false false true true ack free output first second = absurd (second refl refl)
kinds_report false false false true false ack free output first second = refl
kinds_report false false false false true ack free output first second = refl
kinds_report false false false false false ack free output first second = refl

two_kinds : (s0 first second : ℕ) → first < second → (s0 == second) ≡ true → (s0 == first) ≡ true
    → ⊥
two_kinds s0 first second less one other =
    let a = eqb-true s0 second one in
    let b = eqb-true s0 first other in
    absurd (omega arith)

pub reports_is : (symbol : Fields) (output : Output)
    → hears_report symbol output
    ≡ reports_as (stype0 symbol.s0) (has_buffer_status symbol.s0) symbol.p0 symbol.p1 output
reports_is symbol output =
    kinds_report (symbol.s0 == 0) (symbol.s0 == 1) (symbol.s0 == 2) (symbol.s0 == 6)
    (symbol.s0 == 4) symbol.p0 symbol.p1 output
    (λ refused status. two_kinds symbol.s0 2 4 (omega arith) status refused)
    (λ response status. two_kinds symbol.s0 4 6 (omega arith) response status)

-- a report that says what is so
covered_if : (held next total base free n : ℕ) (few : Bool) → base ≡ n % 32 → n ≤ held
    → next ≤ n + 31 → free + n ≤ total
    → IfSome (if few then Some (record { base = base; free = free }) else None)
    (IsCovered held next total)
covered_if held next total base free n true is below near enough =
    record { base = n; number = is; told_first = below; near = near; enough = enough }
covered_if held next total base free n false is below near enough = tt

reported_counted :
    (report : Option Report) (output : Output) (input : Input) (total freed held : ℕ)
    (words : List Word)
    → IfSome report (IsCovered held (freed + length (prios_of output)) total)
    → AreCountedAt output input total freed held words
    → AreCountedAt (reported report output) input total freed held words
reported_counted report (Output.Ok w) input total freed held words is c = record {
  oldest_is = c.oldest_is;
  expected_is = c.expected_is;
  held_first = c.held_first;
  sent_first = c.sent_first;
  words_are = c.words_are;
  report_is = is;
}
reported_counted report (Output.RetryStopped w) input total freed held words is c = record {
  oldest_is = c.oldest_is;
  expected_is = c.expected_is;
  held_first = c.held_first;
  sent_first = c.sent_first;
  words_are = c.words_are;
  report_is = is;
}
reported_counted report (Output.ErrorStopped asked w) input total freed held words is c = record {
  oldest_is = c.oldest_is;
  expected_is = c.expected_is;
  held_first = c.held_first;
  sent_first = c.sent_first;
  words_are = c.words_are;
  report_is = is;
}
reported_counted report Output.Failed input total freed held words is c = c

-- the report of an acceptance
accepted_is : (freed held count total ack free : ℕ) (words : List Word) → count ≤ 31
    → WordsInTurn freed held total (Accepted ack free ∷ words)
    → IfSome (report_of ((ack + 1) % 32) free) (IsCovered held (freed + count) total)
accepted_is freed held count total ack free words most
    (n, is, from, within, few, enough, rest) =
    covered_if held (freed + count) total ((ack + 1) % 32) free (suc n) (nat_lt free untold)
    (omega arith) within (omega arith) enough

-- the report of a packet-retry or a status
told_is : (freed held count total ack free : ℕ) (words : List Word) → count ≤ 31
    → WordsInTurn freed held total (WordTold ack free ∷ words)
    → IfSome (report_of ack free) (IsCovered held (freed + count) total)
told_is freed held count total ack free words most (n, is, from, within, few, enough, rest) =
    covered_if held (freed + count) total ack free n (nat_lt free untold) is within (omega arith)
    enough

status_counted :
    (has : Bool) (ack free : ℕ) (output : Output) (input : Input) (total freed held : ℕ)
    (words : List Word) → length (prios_of output) ≤ 31
    → AreCountedAt output input total freed held
    (word_of Stype0.OtherStype0 has ack free ∷ words)
    → AreCountedAt (reports_as Stype0.OtherStype0 has ack free output) input total freed held
    (word_of Stype0.OtherStype0 has ack free ∷ words)
status_counted true ack free output input total freed held words most c =
    reported_counted (report_of ack free) output input total freed held (WordTold ack free ∷ words)
    (told_is freed held (length (prios_of output)) total ack free words most c.words_are) c
status_counted false ack free output input total freed held words most c = c

-- what is reported is true
pub reports_counted :
    (what : Stype0) (has : Bool) (ack free : ℕ) (output : Output) (input : Input)
    (total freed held : ℕ) (words : List Word) → length (prios_of output) ≤ 31
    → AreCountedAt output input total freed held (word_of what has ack free ∷ words)
    → AreCountedAt (reports_as what has ack free output) input total freed held
    (word_of what has ack free ∷ words)
reports_counted Stype0.PacketAccepted has ack free output input total freed held words most c =
    reported_counted (report_of ((ack + 1) % 32) free) output input total freed held
    (Accepted ack free ∷ words)
    (accepted_is freed held (length (prios_of output)) total ack free words most c.words_are) c
reports_counted Stype0.PacketRetry has ack free output input total freed held words most c =
    reported_counted (report_of ack free) output input total freed held (WordTold ack free ∷ words)
    (told_is freed held (length (prios_of output)) total ack free words most c.words_are) c
reports_counted Stype0.OtherStype0 has ack free output input total freed held words most c =
    status_counted has ack free output input total freed held words most c
reports_counted _ has ack free output input total freed held words most c = c
