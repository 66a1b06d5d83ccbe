use Rattle.std.specs.Str.{chars}
use Rattle.std.proofs.lemmas.Str.{scalars-chars}
use Rattle.sms_world.proofs.Characters.{text_is}
use Rattle.sms_world.proofs.watched.are_characters.Goals as goal

pub returns : goal.returns
returns c = text_is (chars c.args.text.now) (scalars-chars c.args.text.now c.utf8.text)
