-- What is kept of each endpoint besides the fabric: its memory, if it has one; the reply that it
-- could not send yet, if there is one; and the transaction number of its next request.
use Rattle.std.specs.Prelude.{ℕ, ◌+◌, ◌%◌, List, slice_set, slice_index_or, Option, Some, None}
use Rattle.fabric_script.specs.declared.lines.Line.{Line}
use Rattle.rio_packets.specs.Fields.{ftype_of}
use Rattle.io_packets.specs.declared.io.Io.{Io}
use Rattle.io_packets.specs.Reading.{io_of}
use Rattle.io_packets.specs.Serving.{answer_to, memory_after}
use Rattle.io_memory.specs.declared.meeting.Met.{Met}
use Rattle.io_memory.specs.Meeting.{met_of, met_without}
use Rattle.io_rounds.specs.declared.stations.Station.{Station}

-- it has no memory, has asked nothing and keeps no reply
abbrev pub new_station : Station
new_station = record { memory = None; kept = None; next_tid = 0 }

-- what is kept of a node
abbrev pub station_at : List Station → ℕ → Station
station_at stations n = slice_index_or stations n new_station

abbrev pub memory_of : List Station → ℕ → Option (List ℕ)
memory_of stations n = (station_at stations n).memory

abbrev pub kept_of_node : List Station → ℕ → Option Line
kept_of_node stations n = (station_at stations n).kept

abbrev pub next_tid_of : List Station → ℕ → ℕ
next_tid_of stations n = (station_at stations n).next_tid

-- one thing is changed, of one node
abbrev pub with_memory : List Station → ℕ → List ℕ → List Station
with_memory stations n memory =
    slice_set stations n (record (station_at stations n) { memory = Some memory })

abbrev pub with_kept : List Station → ℕ → Option Line → List Station
with_kept stations n kept = slice_set stations n (record (station_at stations n) { kept = kept })

-- A request of this number was taken, if it has one: numbers count modulo 256.
abbrev pub counted_on : List Station → ℕ → Option ℕ → List Station
counted_on stations n None = stations
counted_on stations n (Some tid) =
    slice_set stations n (record (station_at stations n) { next_tid = (tid + 1) % 256 })

-- ---- a packet that comes to a node

-- What becomes of it, and what is answered, by the memory of the node. The memory is then what the
-- packet made of it.
abbrev pub met_by : Option (List ℕ) → List ℕ → Met
met_by None packet = met_without (ftype_of packet) (io_of packet)
met_by (Some memory) packet = met_of memory packet

abbrev pub answer_by : Option (List ℕ) → List ℕ → Option Io
answer_by None packet = None
answer_by (Some memory) packet = answer_to memory (io_of packet)

abbrev pub met_at_node : List Station → ℕ → List ℕ → Met
met_at_node stations n packet = met_by (memory_of stations n) packet

abbrev pub answer_at_node : List Station → ℕ → List ℕ → Option Io
answer_at_node stations n packet = answer_by (memory_of stations n) packet

abbrev pub stations_after : List Station → ℕ → List ℕ → Option (List ℕ) → List Station
stations_after stations n packet None = stations
stations_after stations n packet (Some memory) =
    with_memory stations n (memory_after memory (io_of packet))

abbrev pub stations_met : List Station → ℕ → List ℕ → List Station
stations_met stations n packet = stations_after stations n packet (memory_of stations n)
