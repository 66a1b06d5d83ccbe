use Rattle.std.proofs.Common.{ap, sym, subst, ◌∙◌}
use Rattle.sms_centre.specs.Centre.State.{new_centre}
use Rattle.sms_centre.specs.Centre.Value.{HoldingsValue, addresses}
use Rattle.sms_centre.specs.Centre.Standing.{StandsFor}
use Rattle.sms_centre.proofs.NewCentre.{new_addresses, new_centre_stands}
use Rattle.sms_centre.proofs.centre.Centre.new.Goals as goal

pub returns-clause-stands : goal.returns-clause-stands
returns-clause-stands c = λ clock.
    subst (λ (h : HoldingsValue). StandsFor c.args.held c.args.phones.now clock (record { limit = c.args.held; held = h.held; lines = h.lines }) new_centre) (sym c.in_ok-new.ensures)
    (new_centre_stands c.args.held c.args.phones.now clock)

pub returns-clause-phones : goal.returns-clause-phones
returns-clause-phones c = ap (λ (h : HoldingsValue). addresses h.lines) c.in_ok-new.ensures ∙ new_addresses c.args.phones.now
