-- What of a text is to blame, in words.
use Rattle.std.specs.Prelude.{ℕ, List, [], ◌++◌, codes}
use Rattle.std.specs.Fmt.{decimal}
use Rattle.rio_chars.specs.HexText.{hex_of}
use Rattle.check_words.specs.declared.misfits.Misfit.{Misfit}
use Rattle.check_words.specs.declared.misfits.Misfit.TheVariants as M
use Rattle.check_words.specs.declared.misfits.WordFault.{WordFault}
use Rattle.check_words.specs.declared.misfits.WordFault.TheVariants as F
use Rattle.check_words.specs.Reasons.{trace_reason}

-- what of the word at this place is to blame
abbrev pub word_fault_front : ℕ → WordFault → List ℕ
word_fault_front place F.NoNode = codes "word " ++ (decimal place ++ codes " is the name of no node")
word_fault_front place F.NoPoint = codes "word "
    ++ (decimal place ++ codes " must be a name, a point and a number from 0 to 15")
word_fault_front place F.NoPortNode = codes "what stands before the point of word "
    ++ (decimal place ++ codes " is the name of no node")
word_fault_front place F.NoPort = codes "the node of word "
    ++ (decimal place ++ codes " has no port of this number")
word_fault_front place F.Unlinked = codes "the port of word " ++ (decimal place ++ codes " has no link")
word_fault_front place F.NoCharacter = codes "word " ++ (decimal place
    ++ codes " must be d or k and two lower-case hexadecimal digits, or inv")
word_fault_front place F.NoNumber = codes "word "
    ++ (decimal place ++ codes " must be a number from 0 to 4294967295 in decimal")
word_fault_front place F.NoEventKind =
    codes "word " ++ (decimal place ++ codes " must be symbol or packet")
word_fault_front place (F.Capital digit) = codes "digit " ++ (decimal digit ++ (codes " of word "
    ++ (decimal place ++ codes " is a capital one, and digits are lower-case")))
word_fault_front place (F.NoDigit digit) = codes "character " ++ (decimal digit ++ (codes " of word "
    ++ (decimal place ++ codes " is no hexadecimal digit")))
word_fault_front place F.OddDigits = codes "word "
    ++ (decimal place ++ codes " has an odd number of digits, and a byte has two")
word_fault_front place (F.PacketLength n) = codes "word " ++ (decimal place ++ (codes " has "
    ++ (decimal n ++ codes " bytes, and a packet has 8 to 276, a multiple of 4")))
word_fault_front place F.AckId = codes "word "
    ++ (decimal place ++ codes " has an ackID, and the first six bits of a packet are 0")
word_fault_front place (F.Crc behind there right) = codes "word " ++ (decimal place
    ++ (codes " has behind byte " ++ (decimal behind ++ codes " the CRC ")))

-- and of a CRC, the one that is there and the one that is right
abbrev pub word_fault_end : WordFault → List ℕ
word_fault_end (F.Crc behind there right) =
    hex_of there ++ (codes ", and the right one is " ++ hex_of right)
word_fault_end _ = []

abbrev pub word_fault_text : ℕ → WordFault → List ℕ
word_fault_text place fault = word_fault_front place fault ++ word_fault_end fault

-- what of a text is to blame, or what the reason means
abbrev pub misfit_text : Misfit → List ℕ
misfit_text M.Nothing = trace_reason 21
misfit_text M.EmptyLine = codes "the line is empty"
misfit_text M.Comment = codes "a trace has no comments: they stand among set-up lines alone"
misfit_text M.Keyword =
    codes "no line of a trace begins with this word, and before an event stands >"
misfit_text M.EmptyWord = codes "one space separates two words, and none ends a line"
misfit_text (M.Missing place) = codes "word " ++ (decimal place ++ codes " is missing")
misfit_text (M.TooMany place) = codes "word " ++ (decimal place ++ codes " is one too many")
misfit_text (M.Word place fault) = word_fault_text place fault
