-- What is said of the characters that a device sends, in the words of a scenario.
use Rattle.std.specs.Prelude.{ℕ, ◌==◌, if◌then◌else◌, List, [], ◌∷◌, ◌++◌, codes}
use Rattle.std.specs.Fmt.{decimal}
use Rattle.fabric_script.specs.LineTexts.{after_words}
use Rattle.rio_symbols.specs.Fields.{Fields}

-- what the first half of a symbol tells: a row for each stype0
abbrev pub told_word : ℕ → List ℕ
told_word s0 =
    if s0 == 0 then codes "accepted" else
    (if s0 == 1 then codes "retry" else
    (if s0 == 2 then codes "not-accepted" else
    (if s0 == 4 then codes "status" else
    (if s0 == 6 then codes "response" else codes "reserved"))))

-- what a link-request asks for: a row for each cmd
abbrev pub request_word : ℕ → List ℕ
request_word cmd =
    if cmd == 3 then codes "reset" else
    (if cmd == 4 then codes "request" else codes "request-of-another-cmd")

-- what the second half asks: a row for each stype1
abbrev pub asked_word : ℕ → ℕ → List ℕ
asked_word s1 cmd =
    if s1 == 0 then codes "start" else
    (if s1 == 1 then codes "stomp" else
    (if s1 == 2 then codes "end" else
    (if s1 == 3 then codes "restart" else
    (if s1 == 4 then request_word cmd else
    (if s1 == 5 then codes "multicast" else
    (if s1 == 7 then codes "nop" else codes "reserved-request"))))))

-- a word, and the two parameters of a symbol
abbrev pub word_said : List ℕ → ℕ → ℕ → List ℕ
word_said word p0 p1 = word ++ after_words [] (decimal p0 ∷ decimal p1 ∷ [])

-- a word, the two parameters, and what is asked besides
abbrev pub both_said : List ℕ → List ℕ → ℕ → ℕ → List ℕ
both_said told asked p0 p1 = word_said told p0 p1 ++ (codes ", " ++ asked)

-- A symbol: if its first half is a status, the second half says what it is for, but if that is a
-- NOP. If both say something, the word of the second stands behind the first.
abbrev pub symbol_said : Fields → List ℕ
symbol_said symbol =
    if symbol.s1 == 7 then word_said (told_word symbol.s0) symbol.p0 symbol.p1 else
    (if symbol.s0 == 4 then word_said (asked_word symbol.s1 symbol.cmd) symbol.p0 symbol.p1 else
    both_said (told_word symbol.s0) (asked_word symbol.s1 symbol.cmd) symbol.p0 symbol.p1)
