use Rattle.std.proofs.Common.{ℕ, List, take, drop, sym, subst, arith}
use Rattle.std.proofs.lemmas.List.{take-append-drop}
use Rattle.sms_text.specs.Octets.{IsOctets}
use Rattle.sms_field.specs.Inside.OctetLists.{octets_are, octets_front}
use Rattle.sms_card.proofs.Whole.{long_fault}
use Rattle.sms_card.proofs.stored.view.RecordView.read.Goals as goal

pub returns-in-Err-clause-refused : goal.returns-in-Err-clause-refused
returns-in-Err-clause-refused c =
    let input : List ℕ = c.args.input.now in
    let all : IsOctets input = octets_are input (λ i. omega (arith, c.type_inv.input i)) in
    let front : IsOctets (take 176 input) = octets_front (take 176 input) (drop 176 input) (subst IsOctets (sym (take-append-drop 176 input)) all) in
    long_fault c.args.input.now c.split_at.result.0.now c.in-Err.fault c.of_too_many.result c.split_at.ensures.front (omega arith) (subst IsOctets (sym c.split_at.ensures.front) front) c.in-Err.ensures.refused c.of_too_many.ensures.short c.of_too_many.ensures.other
