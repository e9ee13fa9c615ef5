-- The fields of a packet, as a caller passes them.
use Rattle.std.specs.Prelude.{◌≡◌, ◌==◌, ℕ, ◌<◌, Bool, false, not, List}
use Rattle.rio_packets.specs.declared.making.Header.{Header}
use Rattle.rio_packets.specs.Fields.{body_of}
use Rattle.rio_packets.specs.LinkForm.{LinkForm}
use Rattle.library_calls.specs.declared.told.PacketHeader.{PacketHeader}

-- the IDs have 16 bits
abbrev pub has_large_ids : PacketHeader → Bool
has_large_ids header = not (header.large == 0)

-- the fields as the packets of a link have them
abbrev pub fields_of_header : PacketHeader → Header
fields_of_header header = record {
  prio = header.prio;
  ftype = header.ftype;
  dest = header.dest;
  source = header.source;
  large = has_large_ids header;
}

-- Each field has its width: an ID 16 bits, or 8.
pub record HeaderFits (header : PacketHeader) : Type 0 where
  pub prio : header.prio < 4
  pub ftype : header.ftype < 16
  pub dest : has_large_ids header ≡ false → header.dest < 256
  pub source : has_large_ids header ≡ false → header.source < 256

-- the body of the packet that has these fields, and these bytes behind them
abbrev pub header_body : PacketHeader → List ℕ → List ℕ
header_body header rest =
    body_of header.prio header.ftype (has_large_ids header) header.dest header.source rest

-- the fields fit, and this is the packet that has them
abbrev pub Makes : PacketHeader → List ℕ → List ℕ → Type 0
Makes header rest packet = HeaderFits header × LinkForm (header_body header rest) packet
