use Rattle.std.proofs.Common.{◌≡◌, ◌≤◌, ◌<◌, inl, inr, ◌∙◌, ◌+◌, ℕ, List, length, get_or, sym, ap, arith}
use Rattle.sms_field.specs.Field.{Outcome, refused}
use Rattle.sms_tpdu.specs.Inside.SinglesLaws.{bad, octets_there, all_good, sees_good, found_good}
use Rattle.sms_tpdu.specs.declared.user_data.data_fault.DataFault.{DataFault}
use Rattle.sms_tpdu.specs.declared.user_data.data_fault.DataFault.TheVariants.{BadSeptet}
use Rattle.sms_tpdu.proofs.user_data.view.singles.take_septets.Goals as goal

pub returns-then-good-rest-clause-read : goal.returns-then-good-rest-clause-read
returns-then-good-rest-clause-read c =
    let input = c.args.input.now in
    let good : ℕ = c.count_septets-good.result in
    let there : good < length input.rest = omega (arith, ap length c.rest-rest.ensures, c.if-good-rest.true) in
    let no_septet : 128 ≤ get_or input.rest good 0 = rw (← c.rest-rest.ensures) (c.count_septets-good.ensures.most c.if-good-count.true c.if-good-rest.true) in
    let place : c.place.result ≡ input.place + good = c.place.ensures ∙ (octets_there good input.place input.rest _ c.take_octets.new.self.place c.take_octets.new.self.rest (omega (arith, there)) c.in_ok-_septets.ensures.read).1 in
    bad c.args.count good input.place input.rest c.if-good-count.true there (rw (← c.rest-rest.ensures) c.count_septets-good.ensures.are) no_septet
    ∙ ap (λ (p : ℕ). let o : Outcome (List ℕ) DataFault = refused p BadSeptet in o) (sym place)

pub returns-clause-read : goal.returns-clause-read
returns-clause-read c = sees_good (λ v. v.now) c.args.count c.args.input.now c.take_octets-2.new.self c.take_octets-2.result
    (all_good c.args.input.now.rest c.args.count c.count_septets-good.result (rw (← c.rest-rest.ensures) c.count_septets-good.ensures.are)
    (elim c.else-good-count.either [ inl h ↦ inr (omega (arith, h.1, ap length c.rest-rest.ensures)) | inr h ↦ inl h ]))
    c.take_octets-2.ensures.read

pub returns-clause-are : goal.returns-clause-are
returns-clause-are c = found_good (λ v. v.now) c.args.count c.args.input.now c.take_octets-2.new.self c.take_octets-2.result
    (all_good c.args.input.now.rest c.args.count c.count_septets-good.result (rw (← c.rest-rest.ensures) c.count_septets-good.ensures.are)
    (elim c.else-good-count.either [ inl h ↦ inr (omega (arith, h.1, ap length c.rest-rest.ensures)) | inr h ↦ inl h ]))
    c.take_octets-2.ensures.read
