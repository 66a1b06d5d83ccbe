use Rattle.std.proofs.Common.{Bool, ap, sym}
use Rattle.sms_encode.specs.Drafts.{count_of}
use Rattle.sms_encode.proofs.Composed.{Puts-then, Puts-same}
use Rattle.sms_encode.proofs.lines.put_count.Goals as goal

pub returns-then-is_for_modem : goal.returns-then-is_for_modem
returns-then-is_for_modem c =
    Puts-same (ap (λ (b : Bool). count_of b c.args.unit.now) (sym c.if-is_for_modem.true))
    (Puts-then _ _ c.put_decimal.ensures c.put.ensures)
