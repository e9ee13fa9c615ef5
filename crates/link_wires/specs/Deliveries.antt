-- What a port does with characters of the far port's wire. The events that they say, read on from
-- where the framer stands, are led through the step tables one after another, up to the first that
-- is acted on and was not sent.
use Rattle.std.specs.Prelude.{◌≡◌, ℕ, suc, ◌+◌, ◌++◌, List, [], ◌∷◌, length, map, option_to_list, Option, Some, None, if◌then◌else◌}
use Rattle.link_model.specs.Prelude.{Char, Fields, Place, run, place_after}
use Rattle.link_port.specs.Prelude.{Event, PortState, Acted, acts, is_acted}
use Rattle.link_wires.specs.Kept.{behind}
use Rattle.link_wires.specs.Wires.{WireState, without_front}
use Rattle.link_wires.specs.declared.moves.Move.{Move}
use Rattle.link_wires.specs.declared.moves.Move.TheVariants.{Held, Freed}

-- what came of characters: the packets held and freed, as they happened; the symbols that answer;
-- the events that were acted on; and how many characters the port took
pub record Told : Type 0 where
  pub moves : List Move
  pub replies : List Fields
  pub acted : List Event
  pub count : ℕ

-- the port after characters, what was sent on the wire and is not acted on yet, and what came of
-- the characters
pub record Flow : Type 0 where
  pub port : PortState
  pub kept : List Event
  pub told : Told

-- All characters were taken, or an event was acted on that was not sent. Of the second, what came
-- of the events before it stands, and the characters are taken up to the one that completed it.
pub data Delivered : Type 0 where
  Through : Flow → Delivered
  WentUndetected : Told → Event → Delivered

-- no character is taken yet
abbrev pub begun : PortState → List Event → Flow
begun port kept = record {
  port = port;
  kept = kept;
  told = record { moves = []; replies = []; acted = []; count = 0 };
}

-- the packet that an event had the port hold, or those that it had it free
abbrev pub moves_of : Acted → List Move
moves_of did =
    map (λ packet. Held packet) (option_to_list did.held) ++ map (λ packet. Freed packet) did.freed

-- more came of an event
abbrev pub told_more : Told → Acted → List Event → Told
told_more told did acted = record told {
  moves = told.moves ++ moves_of did;
  replies = told.replies ++ option_to_list did.reply;
  acted = told.acted ++ acted;
}

-- an event was led through the tables, and this is kept then
abbrev pub done : Event → List Event → List Event → Flow → Flow
done e acted kept flow = record {
  port = (acts flow.port e).port;
  kept = kept;
  told = told_more flow.told (acts flow.port e) acted;
}

-- an event that is acted on, completed at a place, by what stands behind the first sent event that
-- equals it
abbrev pub met : ℕ → Event → Option (List Event) → Flow → Delivered
met at e None flow = WentUndetected (record flow.told { count = suc at }) e
met at e (Some kept) flow = Through (done e (e ∷ []) kept flow)

-- an event, completed at a place
abbrev pub comes : Flow → ℕ × Event → Delivered
comes flow placed =
    if is_acted flow.port placed.1
    then met placed.0 placed.1 (behind placed.1 flow.kept) flow
    else Through (done placed.1 [] flow.kept flow)

-- and then more
abbrev pub goes_on : (Flow → Delivered) → Delivered → Delivered
goes_on more (Through flow) = more flow
goes_on more (WentUndetected told e) = WentUndetected told e

-- events, one after another
unfoldable pub come : List (ℕ × Event) → Flow → Delivered
come [] flow = Through flow
come (placed ∷ events) flow = goes_on (come events) (comes flow placed)

-- all characters are taken, and the framer stands here
abbrev pub ended : Place → ℕ → Delivered → Delivered
ended place count (Through flow) =
    Through (record flow {
      port = record flow.port { place = place };
      told = record flow.told { count = count };
    })
ended place count (WentUndetected told e) = WentUndetected told e

-- characters, from a flow on
abbrev pub flows : List Char → Flow → Delivered
flows chars flow =
    ended (place_after flow.port.place chars) (flow.told.count + length chars)
    (come (run flow.port.place flow.told.count chars) flow)

-- characters of a wire, of which this was sent and is not acted on yet, come to a port
abbrev pub delivered : PortState → List Event → List Char → Delivered
delivered port kept chars = flows chars (begun port kept)

-- what came of the characters
abbrev pub told_of : Delivered → Told
told_of (Through flow) = flow.told
told_of (WentUndetected told e) = told

-- the event that was not sent
abbrev pub undetected : Delivered → Option Event
undetected (Through flow) = None
undetected (WentUndetected told e) = Some e

-- a flow with these parts
abbrev pub flow_of : PortState → List Event → List Move → List Fields → List Event → ℕ → Flow
flow_of port kept moves replies acted count =
    record {
      port = port;
      kept = kept;
      told = record {
        moves = moves;
        replies = replies;
        acted = acted;
        count = count;
      };
    }

-- what is kept after an event: one that is acted on is looked for
abbrev pub kept_after : PortState → Event → List Event → Option (List Event)
kept_after port e kept = if is_acted port e then behind e kept else Some kept

-- An event that was not sent, how many characters were taken, the port, what is kept, and what came
-- of events are those of a delivery. Nothing is said of the port and of what is kept after an event
-- that was not sent.
abbrev pub Shows : Delivered → Option Event → ℕ → PortState → List Event → List Move → List Fields
    → Type 0
Shows (Through flow) found count port kept moves replies =
    (found ≡ None) × (count ≡ flow.told.count) × (port ≡ flow.port) × (kept ≡ flow.kept)
    × (moves ≡ flow.told.moves) × (replies ≡ flow.told.replies)
Shows (WentUndetected told e) found count port kept moves replies =
    (found ≡ Some e) × (count ≡ told.count) × (moves ≡ told.moves) × (replies ≡ told.replies)

-- what a delivery of so many characters leaves of a port and a wire; nothing is said after an event
-- that was not sent
abbrev pub IsLeft : Delivered → ℕ → WireState → PortState → WireState → Type 0
IsLeft (Through flow) count wire port left =
    (port ≡ flow.port) × (left ≡ without_front count flow.kept wire)
IsLeft (WentUndetected told e) count wire port left = Unit {0}
