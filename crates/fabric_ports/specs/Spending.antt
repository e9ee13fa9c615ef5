-- Which edits of a noise an ask leaves.
use Rattle.std.specs.Prelude.{◌≡◌, ℕ, ◌<◌, ◌⊎◌, true, List}
use Rattle.maint_packets.specs.declared.request.Request.{Request}
use Rattle.rio_chars.specs.declared.edit.Edit.{Edit}
use Rattle.fabric_trace.specs.Blocks.{Asks}
use Rattle.fabric_trace.specs.Rounds.{Joined}
use Rattle.fabric_trace.specs.Served.{IsCollect}
use Rattle.fabric_ask.specs.Asks.{AskRound, Unheld, holds_some, most_rounds}
use Rattle.fabric_ports.specs.Ran.{Kind}

-- the host holds a packet, and collects it
abbrev pub HasCollected : ℕ → Kind
HasCollected host t rest = (holds_some host t ≡ true) × IsCollect t.network host rest

-- one round, after which it does
abbrev pub LastRound : ℕ → List Edit → List Edit → Kind
LastRound host noise left s lines = Joined (AskRound host noise left s) (HasCollected host) s lines

-- All rounds of an ask, of which it may make so many: the edits that are given, and those that are
-- left. After none of them the host holds a packet; or after the last one it does.
abbrev pub RoundsSpend : ℕ → ℕ → List Edit → List Edit → Kind
RoundsSpend host rounds noise left s lines = Unheld host rounds noise left s lines
    ⊎ ((made : ℕ) × (mid : List Edit) × (made < rounds)
    × Joined (Unheld host made noise mid s) (LastRound host mid left) s lines)

-- an ask, from the request on, with the edits that are given, and those that are left
abbrev pub AskSpends : ℕ → Request → List Edit → List Edit → Kind
AskSpends host request noise left s lines =
    Joined (Asks s host request) (RoundsSpend host most_rounds noise left) s lines
