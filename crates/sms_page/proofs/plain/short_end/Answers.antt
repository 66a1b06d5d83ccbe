use Rattle.std.proofs.Common.{ℕ, ◌+◌, ap, sym, ◌∙◌, arith}
use lib.Count.{count_trailing_zeros}
use Rattle.sms_page.specs.Plain.{is_stop}
use Rattle.sms_page.proofs.PlainLemmas.{block_plain, block_stops}
use Rattle.sms_page.proofs.plain.short_end.Goals as goal

pub returns-then-found-ne0 : goal.returns-then-found-ne0
returns-then-found-ne0 g c =
    let first = block_stops (is_stop g.row.OTHER) c.args.octets.now c.args.from g.row.N (omega arith) c.requires.long (λ e. c.if-found-ne0.true (c.stops-found.ensures ∙ e)) in
    ap (λ (n : ℕ). c.args.from + n) (ap (count_trailing_zeros 64) c.stops-found.ensures ∙ sym first)

pub returns : goal.returns
returns g c =
    let more = block_plain (is_stop g.row.OTHER) c.args.octets.now c.args.from g.row.N (omega arith) c.requires.long (sym c.stops-found.ensures ∙ c.if-found-ne0.false) in
    omega (arith, more, c.last_end.ensures)
