-- The headline: for every orderly list of typings, carryings in any order and number, losses,
-- timeouts, pushes and clock ticks, each phone's store is, in order of completion, exactly the
-- texts typed to it of which every segment was taken, each once, whole and as typed; and an
-- arriving segment is refused only where a stated table was full or a growth was refused.
pub mod Stores
pub mod Finished
pub mod Refused
pub mod Once
pub mod OfRun
