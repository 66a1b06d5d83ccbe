use Rattle.std.proofs.Common.{List, length, ◌∙◌, refl, sym, ap, subst, arith}
use Rattle.sms_centre.specs.declared.centre.held.Ending.{Ending}
use Rattle.sms_centre.specs.Centre.Kept.{IsLater}
use Rattle.sms_centre.specs.Centre.Value.{LineValue, CentreValue, addresses, phones_of}
use Rattle.sms_centre.specs.Centre.Standing.{StandsFor}
use Rattle.sms_centre.proofs.Holdings.{fewer_left}
use Rattle.sms_centre.proofs.Keeping.{stands_later, addresses_later}
use Rattle.sms_centre.proofs.centre.Centre.advance.Goals as goal

pub returns-clause-stands : goal.returns-clause-stands
returns-clause-stands c = λ limit phones clock s le stands.
    let v : CentreValue = record { limit = c.self.inside.limit; held = c.self.inside.holdings.held; lines = c.self.inside.holdings.lines } in
    let held = c.forget.new.self.held in
    subst (λ (lines : List LineValue). StandsFor limit phones c.args.now (record { limit = v.limit; held = held; lines = lines }) s) (sym c.forget.ensures.lines)
    (stands_later limit phones clock c.args.now v held s le c.forget.ensures.held (subst (λ (w : CentreValue). StandsFor limit phones clock w s) (sym c.self.view_is) stands))

pub returns-clause-phones : goal.returns-clause-phones
returns-clause-phones c = ap addresses c.forget.ensures.lines ∙ (addresses_later c.self.inside.holdings.lines c.args.now ∙ ap phones_of c.self.view_is)

pub invariant_of-self : goal.invariant_of-self
invariant_of-self c =
    let left = fewer_left c.args.now c.self.inside.holdings.held.endings in
    omega (arith, left, ap (λ (l : List Ending). length l) c.forget.ensures.held.endings, c.self.invariant)

pub returns-clause-later : goal.returns-clause-later
returns-clause-later c =
    subst (λ (v : CentreValue). IsLater c.args.now v (record { limit = c.self.inside.limit; held = c.forget.new.self.held; lines = c.forget.new.self.lines })) c.self.view_is
    (record { limit = refl; held = c.forget.ensures.held; lines = c.forget.ensures.lines })
