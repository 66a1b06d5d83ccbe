use Rattle.std.proofs.Common.{ap}
use Rattle.std.specs.Prelude.{decimal}
use Rattle.sms_split.proofs.Pages.{Puts-then, Puts-same}
use Rattle.sms_split.proofs.line.put_plain.Goals as goal

pub returns : goal.returns
returns c =
    Puts-then _ _ (Puts-then _ _ (Puts-then _ _ (Puts-then _ _ (Puts-then _ _ (Puts-then _ _ (Puts-then _ _ (Puts-then _ _ (Puts-then _ _
    (Puts-same (ap decimal c.from.ensures) c.put_decimal.ensures) c.put.ensures) (Puts-same (ap decimal c.from-2.ensures) c.put_decimal-2.ensures)) c.put-2.ensures)
    c.put_coding.ensures) c.put-3.ensures) (Puts-same (ap decimal c.from-3.ensures) c.put_decimal-3.ensures)) c.put-4.ensures) c.put_hexadecimal.ensures) c.put-5.ensures
