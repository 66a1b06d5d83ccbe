use Rattle.std.proofs.Common.{Bool, ap, sym}
use Rattle.sms_split.specs.Lines.{coding}
use Rattle.sms_split.proofs.Pages.{Puts-then, Puts-same}
use Rattle.sms_split.proofs.line.put_coding.Goals as goal

pub returns-then-is_data : goal.returns-then-is_data
returns-then-is_data c =
    let head = c.args.head.now in
    Puts-same (ap (λ (b : Bool). coding b head.alphabet.now head.coding_scheme head.has_header) (sym c.if-is_data.true))
    (Puts-then _ _ c.put_octet.ensures c.put_header_word.ensures)
