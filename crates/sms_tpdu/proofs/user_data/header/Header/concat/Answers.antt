use Rattle.std.proofs.Common.{◌≡◌, ◌∙◌, ℕ, List, sym, subst}
use Rattle.sms_tpdu.specs.UserData.Concatenation.{IsConcatOf}
use Rattle.sms_tpdu.proofs.user_data.header.Header.concat.Goals as goal

pub returns-clause-only : goal.returns-clause-only
returns-clause-only c other told =
    let same : c.new.result ≡ c.args.self.now = c.new.ensures ∙ c.as_slice.ensures.value in
    c.concat.ensures.only other (subst (λ (l : List ℕ). IsConcatOf l other) (sym same) told)
