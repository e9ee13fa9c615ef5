-- The symbols with which a port answers.
use Rattle.std.specs.Prelude.{◌≡◌, Option, Some, None}
use Rattle.rio_symbols.specs.Fields.{Fields, InRange}
use Rattle.rio_symbols.specs.declared.stype1.TheConstants.{NOP}

-- each field has its width, and stype1 is NOP: it says nothing to a receiver
pub record IsAnswer (symbol : Fields) : Type 0 where
  pub range : InRange symbol
  pub nop : symbol.s1 ≡ NOP

-- a reply, if there is one, is an answer
abbrev pub IsReply : Option Fields → Type 0
IsReply None = Unit {0}
IsReply (Some symbol) = IsAnswer symbol
