use Rattle.std.proofs.Common.{ℕ, ◌+◌, ◌-◌, ◌/◌, ◌^◌, length, drop, ap, sym, ◌∙◌, arith, length-drop}
use lib.Count.{count_trailing_zeros}
use Rattle.sms_page.specs.Plain.{is_stop}
use Rattle.sms_page.proofs.PlainLemmas.{last_mask, empty_mask, first_in_mask}
use Rattle.sms_page.proofs.plain.last_end.Goals as goal

pub returns-then-found-eq0 : goal.returns-then-found-eq0
returns-then-found-eq0 g c =
    let octets = c.args.octets.now in
    let p = is_stop g.row.OTHER in
    let mask = ap (λ (m : ℕ). m / 2 ^ (c.args.from - (length octets - g.row.N))) c.stops.ensures ∙ last_mask p octets c.args.from g.row.N c.requires.long.0 (omega arith) in
    let all = empty_mask p (drop c.args.from octets) (omega (arith, length-drop c.args.from octets)) (sym mask ∙ c.if-found-eq0.true) in
    omega (arith, all, length-drop c.args.from octets)

pub returns : goal.returns
returns g c =
    let octets = c.args.octets.now in
    let p = is_stop g.row.OTHER in
    let mask = ap (λ (m : ℕ). m / 2 ^ (c.args.from - (length octets - g.row.N))) c.stops.ensures ∙ last_mask p octets c.args.from g.row.N c.requires.long.0 (omega arith) in
    let first = first_in_mask p (drop c.args.from octets) (omega (arith, length-drop c.args.from octets)) (λ e. c.if-found-eq0.false (mask ∙ e)) in
    ap (λ (n : ℕ). c.args.from + n) (ap (count_trailing_zeros 64) mask ∙ sym first)
