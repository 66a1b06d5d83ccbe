use Rattle.std.proofs.Common.{◌≡◌, ℕ, List, Option, Some, None, inl, inr, sym, ap, ◌∙◌, rules}
use Rattle.std.specs.Prelude.{drop, slice_get}
use Rattle.sms_c.proofs.RecordSpans.{front_is_all, report_is_all}
use Rattle.sms_c.proofs.records.report_length.Goals as goal

first_is : (octets part : List ℕ) (n : ℕ) (first other : Option ℕ) → part ≡ drop n octets → first ≡ slice_get part 0 → first ≡ other → slice_get (drop n octets) 0 ≡ other
first_is octets part n first other from is same = ap (λ (l : List ℕ). slice_get l 0) (sym from) ∙ sym is ∙ same

pub returns-in-None : goal.returns-in-None
returns-in-None c = front_is_all c.args.octets.now c.report_front_length-front.result c.report_front_length-front.ensures (inl (first_is c.args.octets.now c.octets_from.result.now c.report_front_length-front.result c.first_of.result None c.octets_from.ensures.from c.first_of.ensures c.in-None.is))

pub returns-in-Some-eq255 : goal.returns-in-Some-eq255
returns-in-Some-eq255 c = front_is_all c.args.octets.now c.report_front_length-front.result c.report_front_length-front.ensures (inr (first_is c.args.octets.now c.octets_from.result.now c.report_front_length-front.result c.first_of.result (Some 255) c.octets_from.ensures.from c.first_of.ensures (search rules)))

pub returns-in-Some : goal.returns-in-Some
returns-in-Some c = report_is_all c.args.octets.now c.report_front_length-front.result c.whole_report_length.result c.in-Some.field-0 c.report_front_length-front.ensures c.whole_report_length.ensures (first_is c.args.octets.now c.octets_from.result.now c.report_front_length-front.result c.first_of.result (Some c.in-Some.field-0) c.octets_from.ensures.from c.first_of.ensures c.in-Some.is) (search rules)
