use Rattle.std.proofs.Common.{◌≡◌, ℕ, List, Some, sym, subst}
use Rattle.std.proofs.lemmas.Result.{IfOk-weaker}
use Rattle.sms_tpdu.specs.UserData.Concatenation.{IsConcatOf}
use Rattle.sms_tpdu.specs.UserData.Elements.{element_octets}
use Rattle.sms_tpdu.specs.UserData.Concatenation.{concat_element}
use Rattle.sms_tpdu.proofs.ElementLaws.{own}
use Rattle.sms_tpdu.proofs.user_data.header.Header.of.Goals as goal

pub returns-clause-told : goal.returns-clause-told
returns-clause-told c = let concat = c.args.concat in
    IfOk-weaker c.header_of_element.result (λ (h : List ℕ). h ≡ element_octets (concat_element concat)) _ (λ h spelled in_order. subst (λ (l : List ℕ). IsConcatOf l (Some concat)) (sym spelled) (own concat in_order)) c.header_of_element.ensures.octets
