use Rattle.sms_split.proofs.Pages.{Writes-then, Writes-same}
use Rattle.sms_split.specs.Lines.{coding_members, line_object}
use Rattle.sms_split.proofs.line.put_object.Goals as goal

pub returns : goal.returns
returns c =
    let head = c.args.head.now in
    let sequence = c.from.ensures in
    let maximum = c.from-2.ensures in
    let size = c.from-3.ensures in
    Writes-same (λ i. line_object (sequence i) (maximum i) (coding_members c.args.is_data head.alphabet.now head.coding_scheme head.has_header) (size i) c.args.octets.now)
    (Writes-then _ _ (Writes-then _ _ (Writes-then _ _ c.open.ensures c.number_named.ensures) c.number_named-2.ensures)
    (Writes-then _ _ c.put_coding_members.ensures (Writes-then _ _ (Writes-then _ _ c.number_named-3.ensures c.octets_named.ensures) c.close.ensures)))
