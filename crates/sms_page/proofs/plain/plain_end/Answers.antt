use Rattle.std.proofs.Common.{ℕ, ◌+◌, ap, sym, ◌∙◌, arith}
use lib.Count.{count_trailing_zeros}
use Rattle.sms_page.specs.Plain.{is_stop, is_plain}
use Rattle.sms_page.proofs.PlainLemmas.{block_plain, block_stops, end_within}
use Rattle.sms_page.proofs.plain.plain_end.Goals as goal

pub returns-then-found-ne0-clause-end : goal.returns-then-found-ne0-clause-end
returns-then-found-ne0-clause-end g c =
    let first = block_stops (is_stop g.row.OTHER) c.args.octets.now c.loop-at.at 32 (omega arith) (omega arith) (λ e. c.if-found-ne0.true (c.stops-found.ensures ∙ e)) in
    ap (λ (n : ℕ). c.loop-at.at + n) (ap (count_trailing_zeros 64) c.stops-found.ensures ∙ sym first) ∙ sym c.loop-at.invariant.1

pub returns-then-found-ne0-clause-within : goal.returns-then-found-ne0-clause-within
returns-then-found-ne0-clause-within g c =
    let first = block_stops (is_stop g.row.OTHER) c.args.octets.now c.loop-at.at 32 (omega arith) (omega arith) (λ e. c.if-found-ne0.true (c.stops-found.ensures ∙ e)) in
    let same = ap (count_trailing_zeros 64) c.stops-found.ensures ∙ sym first in
    omega (arith, same, end_within (is_plain g.row.OTHER) c.args.octets.now c.loop-at.at (omega arith))

pub loop-at-preserved : goal.loop-at-preserved
loop-at-preserved g c =
    let more = block_plain (is_stop g.row.OTHER) c.args.octets.now c.loop-at.at 32 (omega arith) (omega arith) (sym c.stops-found.ensures ∙ c.if-found-ne0.false) in
    (omega arith, omega (arith, more, c.loop-at.invariant.1))

pub returns-clause-within : goal.returns-clause-within
returns-clause-within g c = omega (arith, c.end_behind.ensures, end_within (is_plain g.row.OTHER) c.args.octets.now c.loop-at.at c.loop-at.invariant.0)
