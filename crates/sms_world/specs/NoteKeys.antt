-- When two keys of the tables of notes are the same, and of which segment a key is. The notes are
-- read from the tables by it.
use Rattle.std.specs.Prelude.{Bool}
use Rattle.sms_message.specs.Message.{Origin}
use Rattle.sms_world.specs.declared.notes.mark.Part.{Part}
use Rattle.sms_world.specs.declared.notes.mark.Stamped.{Stamped}
use Rattle.sms_world.specs.contracts.notes.mark.PartPartialEq.TheImpl as part
use Rattle.sms_world.specs.contracts.notes.mark.StampedPartialEq.TheImpl as stamped

-- what `==` answers for the keys
abbrev pub part_eq : Part → Part → Bool
part_eq = (part.ghosts).eq

abbrev pub stamped_eq : Stamped → Stamped → Bool
stamped_eq = (stamped.ghosts).eq

-- the segment of a key
abbrev pub origin_of_part : Part → Origin
origin_of_part p = record { text = p.text; segment = p.segment }
