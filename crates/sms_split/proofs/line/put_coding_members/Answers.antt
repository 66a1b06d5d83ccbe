use Rattle.std.proofs.Common.{sym}
use Rattle.sms_split.specs.Lines.{coding_members}
use Rattle.sms_split.proofs.Pages.{Writes-then, Writes-same}
use Rattle.sms_split.proofs.line.put_coding_members.Goals as goal

pub returns-then-is_data : goal.returns-then-is_data
returns-then-is_data c =
    let head = c.args.head.now in
    let is_data = sym c.if-is_data.true in
    let scheme = c.from.ensures in
    Writes-same (λ i. coding_members (is_data i) head.alphabet.now (scheme i) head.has_header)
    (Writes-then _ _ (Writes-then _ _ c.number_named.ensures c.name.ensures) c.flag.ensures)
