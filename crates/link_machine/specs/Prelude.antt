-- The words of links, of sides and of notes, and what an edit and a move of a packet are, which
-- crates above cite most, passed on from one place. Declares nothing.
pub use Rattle.link_watch.specs.declared.side.Side.{Side}
pub use Rattle.link_watch.specs.declared.side.Side.TheVariants.{A, B}
pub use Rattle.link_watch.specs.Sides.{other_side}
pub use Rattle.link_watch.specs.declared.note.Note.{Note}
pub use Rattle.link_watch.specs.declared.note.Note.TheVariants.{Sent, Got, Fire}
pub use Rattle.link_watch.specs.Stops.{Stopped}
pub use Rattle.link_watch.specs.declared.watch.NoteEnd.{NoteEnd}
pub use Rattle.rio_chars.specs.declared.edit.Edit.{Edit}
pub use Rattle.link_wires.specs.declared.moves.Move.{Move}
pub use Rattle.link_wires.specs.declared.moves.Move.TheVariants.{Held, Freed}
pub use Rattle.link_machine.specs.States.{LinkState, Wires, link, from_end, at_end, turned_round}
pub use Rattle.link_machine.specs.Sound.{IsSoundLink}
pub use Rattle.link_machine.specs.Queues.{Queues, Walks, queues_of}
pub use Rattle.link_machine.specs.Calls.{has_none, has_chars, is_silent, first_takes, pumped, told_from, tell_notes, delivery_from, delivered_from, timed_out_at, sent_notes, pump_notes, delivery_notes, told_notes, move_note, time_out_notes}
