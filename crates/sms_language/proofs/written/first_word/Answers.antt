use Rattle.std.proofs.Common.{get_or, refl, arith}
use Rattle.sms_text.specs.Tables.{space}
use Rattle.sms_language.specs.TextUnder.{plain_character, escaped_character}
use Rattle.sms_language.proofs.FrontLaws.{last_escape, escape_first, plain_first, shorter, septets_after, septet_here}
use Rattle.sms_language.proofs.WordTables.{space_spelled, escaped_scalar}
use Rattle.sms_language.proofs.written.first_word.Goals as goal

pub returns-in-len1-up : goal.returns-in-len1-up
returns-in-len1-up c =
    let septets = c.args.septets.now in
    record {
      character = plain_character c.args.tables (get_or septets 0 0);
      spelled = c.requires.plain.each (get_or septets 0 0) (septet_here septets 0 c.requires.septets);
      scalar = c.requires.plain.scalar (get_or septets 0 0) (septet_here septets 0 c.requires.septets);
      first = plain_first c.args.tables septets (omega arith) c.if-code-ne-ESCAPE.true;
      fewer = shorter 1 septets (omega arith) (omega arith);
      are = septets_after 1 septets c.requires.septets;
    }

pub returns-in-len1 : goal.returns-in-len1
returns-in-len1 c = record {
  character = space;
  spelled = space_spelled;
  scalar = refl;
  first = last_escape c.args.tables c.args.septets.now (omega arith) (omega arith) c.if-code-ne-ESCAPE.false;
  fewer = omega arith;
  are = tt;
}

pub returns-in-len2-up : goal.returns-in-len2-up
returns-in-len2-up c =
    let septets = c.args.septets.now in
    record {
      character = escaped_character c.args.tables (get_or septets 1 0);
      spelled = c.escaped_word.ensures;
      scalar = escaped_scalar c.args.tables c.args.plain.now c.args.single.now c.requires.plain c.requires.single (get_or septets 1 0) (septet_here septets 1 c.requires.septets);
      first = escape_first c.args.tables septets (omega arith) c.if-code-ne-ESCAPE.false;
      fewer = shorter 2 septets (omega arith) (omega arith);
      are = septets_after 2 septets c.requires.septets;
    }
