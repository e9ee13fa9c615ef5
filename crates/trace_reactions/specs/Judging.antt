-- Which lines of a trace have only reactions that are due, and what is kept behind them.
use Rattle.std.specs.Prelude.{◌≡◌, ◌&&◌, ◌==◌, ℕ, ◌+◌, Bool, List, [], ◌∷◌, length, Option, Some, None, if◌then◌else◌}
use Rattle.std.specs.HashMap.{get}
use Rattle.fabric_script.specs.declared.lines.Line.{Line}
use Rattle.fabric_script.specs.declared.lines.Line.TheVariants.{Buffers}
use Rattle.fabric_script.specs.declared.lines.Numbered.{Numbered}
use Rattle.fabric_script.specs.declared.ports.PortRef.{PortRef}
use Rattle.fabric_model.specs.Network.{port_of, same_port}
use Rattle.fabric_model.specs.Steps.{Answer, AtNode, ByDevice, Drop, Leave, Move, Step}
use Rattle.trace_lines.specs.Lines.{Got, Sent, Signed, Stepped, TraceLine}
use Rattle.trace_reactions.specs.declared.port.PortReactions.{PortReactions}
use Rattle.trace_reactions.specs.declared.all_ports.Reactions.{Reactions}
use Rattle.trace_reactions.specs.declared.all_ports.WrongReaction.{WrongReaction}
use Rattle.trace_reactions.specs.PortsKept.{AreDue, gives, after_got, IsWrongAnswer, unheard_port, port_kept, PortKept, after_sending, reactions_sent}

-- what is kept of each port, and how many reactions were sent and were due
pub record ReactionsKept : Type 0 where
  pub ports : PortRef → PortKept
  pub answered : ℕ

-- ---- before the first line

-- how many receive buffers a port has behind a set-up line, if it had so many before
abbrev pub buffers_by : ℕ → PortRef → Line → ℕ
buffers_by n p (Buffers q m) = if same_port q p then m else n
buffers_by n p _ = n

abbrev pub buffers_after : ℕ → PortRef → List Numbered → ℕ
buffers_after n p [] = n
buffers_after n p (line ∷ lines) = buffers_after (buffers_by n p line.line) p lines

-- before the first line, if each port has so many buffers
abbrev pub reactions_with : (PortRef → ℕ) → ReactionsKept
reactions_with buffers = record { ports = λ p. unheard_port (buffers p); answered = 0 }

-- behind set-up lines: a port has 8 buffers, if no line says how many
abbrev pub reactions_before : List Numbered → ReactionsKept
reactions_before lines = reactions_with (λ p. buffers_after 8 p lines)

-- ---- a line

-- one port becomes another
abbrev pub with_port_kept : (PortRef → PortKept) → PortRef → (PortKept → PortKept) → PortRef
    → PortKept
with_port_kept ports p after q = if same_port p q then after (ports q) else ports q

-- the port from which a step takes a packet that it holds
abbrev pub gone_from : Step → Option PortRef
gone_from (AtNode (Leave n packet)) = Some (port_of n)
gone_from (ByDevice (Move p q packet)) = Some p
gone_from (ByDevice (Drop p packet)) = Some p
gone_from (ByDevice (Answer p packet response)) = Some p
gone_from _ = None

abbrev pub after_gone : (PortRef → PortKept) → Option PortRef → PortRef → PortKept
after_gone ports None = ports
after_gone ports (Some p) = with_port_kept ports p gives

-- after a line; lines of other kinds change nothing
abbrev pub after_line : ReactionsKept → TraceLine → ReactionsKept
after_line kept (Signed (Got p chars)) =
    record kept { ports = with_port_kept kept.ports p (λ port. after_got port chars) }
after_line kept (Signed (Sent p chars)) = record {
  ports = with_port_kept kept.ports p (λ port. after_sending port chars);
  answered = kept.answered + length (reactions_sent (kept.ports p) chars);
}
after_line kept (Stepped step) =
    record kept { ports = after_gone kept.ports (gone_from step) }
after_line kept _ = kept

-- The line passes: the reactions that it says a port sent are the first that are due.
abbrev pub LineReacts : ReactionsKept → TraceLine → Type 0
LineReacts kept (Signed (Sent p chars)) = AreDue (kept.ports p) chars
LineReacts kept _ = Unit {0}

-- a reaction of the line was not due
abbrev pub IsWrongLine : ReactionsKept → TraceLine → WrongReaction → Type 0
IsWrongLine kept (Signed (Sent p chars)) wrong =
    (wrong.port ≡ p) × IsWrongAnswer (kept.ports p) chars wrong.answer
IsWrongLine kept line wrong = ⊥

-- ---- all lines

abbrev pub after_lines : ReactionsKept → List TraceLine → ReactionsKept
after_lines kept [] = kept
after_lines kept (line ∷ lines) = after_lines (after_line kept line) lines

-- each line passes, by what is kept behind those before it
abbrev pub LinesReact : ReactionsKept → List TraceLine → Type 0
LinesReact kept [] = Unit {0}
LinesReact kept (line ∷ lines) = LineReacts kept line × LinesReact (after_line kept line) lines

-- ---- what the code keeps

abbrev pub Key : Type 0
Key = ℕ × ℕ

abbrev pub port_key : PortRef → Key
port_key p = (p.node, p.port)

abbrev pub same_key : Key → Key → Bool
same_key p q = (p.0 == q.0) && (p.1 == q.1)

-- a port of which nothing is kept is new, with 8 buffers
abbrev pub KeepsPort : PortKept → Option PortReactions → Type 0
KeepsPort port None = port ≡ unheard_port 8
KeepsPort port (Some kept) = port ≡ port_kept kept

abbrev pub KeepsPorts : (PortRef → PortKept) → Reactions → Type 0
KeepsPorts ports reactions =
    (p : PortRef) → KeepsPort (ports p) (get same_key reactions.ports (port_key p))

pub record KeepsReactions (kept : ReactionsKept) (reactions : Reactions) : Type 0 where
  pub ports : KeepsPorts kept.ports reactions
  pub answered : reactions.answered ≡ kept.answered
