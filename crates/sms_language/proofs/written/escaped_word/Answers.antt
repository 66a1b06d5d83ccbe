use Rattle.std.proofs.Common.{get_or}
use Rattle.sms_text.specs.Tables.{character_of}
use Rattle.sms_language.specs.Tables.{single_table}
use Rattle.sms_language.specs.TextUnder.{plain_character}
use Rattle.sms_language.proofs.WordTables.{spelled_listed, spelled_reserved}
use Rattle.sms_language.proofs.written.escaped_word.Goals as goal

pub returns-then-word-eq0 : goal.returns-then-word-eq0
returns-then-word-eq0 c =
    spelled_reserved (get_or c.args.single.now c.args.code 0) (get_or c.args.plain.now c.args.code 0) (plain_character c.args.tables c.args.code)
    (character_of (single_table c.args.tables.single) c.args.code) (c.requires.single.each c.args.code c.requires.code) c.if-word-eq0.true (c.requires.plain.each c.args.code c.requires.code)

pub returns-else-word-eq0 : goal.returns-else-word-eq0
returns-else-word-eq0 c =
    spelled_listed (get_or c.args.single.now c.args.code 0) (plain_character c.args.tables c.args.code)
    (character_of (single_table c.args.tables.single) c.args.code) (c.requires.single.each c.args.code c.requires.code) c.if-word-eq0.false
