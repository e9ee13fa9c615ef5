-- Packets that lines give to endpoints.
use Rattle.std.specs.Prelude.{ℕ, Bool, true, false}
use Rattle.fabric_script.specs.declared.given_packets.Contents.{Contents}
use Rattle.fabric_script.specs.declared.given_packets.Contents.TheVariants as Of
use Rattle.fabric_script.specs.declared.given_packets.GivenPacket.{GivenPacket}
use Rattle.fabric_script.specs.declared.lines.Line.{Line}
use Rattle.fabric_script.specs.declared.lines.Line.TheVariants.{Send, Read, Write, Send16, Read16, Write16}

-- whether a line gives an endpoint a packet with 16-bit IDs
abbrev pub gives_large_packet : Line → Bool
gives_large_packet (Send16 node prio ftype dest hex) = true
gives_large_packet (Read16 node prio dest hop tid offset) = true
gives_large_packet (Write16 node prio dest hop tid offset value) = true
gives_large_packet _ = false

-- whether a line gives an endpoint a packet
abbrev pub gives_packet : Line → Bool
gives_packet (Send node prio ftype dest hex) = true
gives_packet (Read node prio dest hop tid offset) = true
gives_packet (Write node prio dest hop tid offset value) = true
gives_packet line = gives_large_packet line

-- the line that gives an endpoint a packet of a priority, with IDs of a size, to a destination
abbrev pub given_line : ℕ → ℕ → Bool → ℕ → Contents → Line
given_line node prio false dest (Of.Data ftype hex) = Send node prio ftype dest hex.now
given_line node prio false dest (Of.Read head) = Read node prio dest head.hop head.tid head.offset
given_line node prio false dest (Of.Write head value) =
    Write node prio dest head.hop head.tid head.offset value
given_line node prio true dest (Of.Data ftype hex) = Send16 node prio ftype dest hex.now
given_line node prio true dest (Of.Read head) = Read16 node prio dest head.hop head.tid head.offset
given_line node prio true dest (Of.Write head value) =
    Write16 node prio dest head.hop head.tid head.offset value

-- the line that gives a packet
abbrev pub line_giving : GivenPacket → Line
line_giving given = given_line given.node given.prio given.large given.dest given.contents
