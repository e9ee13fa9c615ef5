-- The words of stored packets that crates above cite most, passed on from one place. Declares
-- nothing.
pub use Rattle.link_buffers.specs.Queues.{Buffered, list_at, appended, popped, stored, packet_count, no_packets, room_for, IsOutStore, IsInStore}
pub use Rattle.link_buffers.specs.Priorities.{highest, lists_without, packets_of, Covers}
