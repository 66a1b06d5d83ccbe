use Rattle.std.proofs.Common.{◌≡◌, ap, refl, sym, ◌∙◌, subst}
use Rattle.sms_join.specs.Gateway.Distinct.{NoneTwice}
use Rattle.sms_join.specs.Gateway.Value.{GatewayValue}
use Rattle.sms_saved.specs.Parts.{view_front, IsFront}
use Rattle.sms_keep.specs.Saved.{saved_limits}
use Rattle.sms_keep.specs.Inside.AtOnce.{AreTaken}
use Rattle.sms_keep.specs.Inside.SetsBack.{ArePut}
use Rattle.sms_keep.proofs.AtOnce.{IsFilled, filled, filled_held}
use Rattle.sms_keep.proofs.at_once.read_at_once.Goals as goal

pub returns : goal.returns
returns c =
    let f = view_front c.in-Some.front in
    let g = c.in-Some-end.gateway in
    let ended : (g ≡ c.take_keys.new.recalling) × NoneTwice c.take_keys.new.recalling.holds.finished = rw c.in-Some-end.is at c.end.ensures in
    let recalled : g ≡ c.take_keys.new.recalling = ended.0 in
    let front : IsFront c.args.own c.args.octets.now f = rw c.in-Some.is at c.in_ok-front.ensures.found in
    let taken : AreTaken c.take_keys.new.recalling f.count f.rest c.in-Some-2.rest.now = rw c.in-Some-2.is at c.in_ok-rest.ensures.taken in
    let own_taken : AreTaken g f.count f.rest c.in-Some-2.rest.now = subst (λ (h : GatewayValue). AreTaken h f.count f.rest c.in-Some-2.rest.now) (sym recalled) taken in
    let put : ArePut g c.put_sets_back.new.gateway f.sets = rw c.if-not-branch.false at c.in_ok-put_sets_back.ensures in
    let is : IsFilled c.args.own c.args.octets.now f g =
    filled c.keys_have_own_octets.ensures c.parts_make_a_state.ensures c.args.own c.args.octets.now c.in-Some-2.rest.now f g
    front (sym c.is_sealed.ensures ∙ c.if-not-is_sealed.false) own_taken (sym c.are_last.ensures ∙ c.if-not-are_last.false) put.are_new c.remembered_count-remembered.ensures.distinct in
    let limits : saved_limits c.put_sets_back.new.gateway.limits ≡ c.args.own =
    ap saved_limits (put.limits ∙ ap (λ (x : GatewayValue). x.limits) recalled ∙ c.in_ok-rest.ensures.limits ∙ ap (λ (x : GatewayValue). x.limits) c.in_ok-recalling.ensures) ∙ sym c.requires in
    filled_held c.args.own c.args.octets.now f g c.put_sets_back.new.gateway is limits put
    c.open_sets-open.ensures.open c.remembered_count-count.ensures.fall (record { gateway = c.put_sets_back.new.gateway; taken = c.in-Some.front.taken }) refl
