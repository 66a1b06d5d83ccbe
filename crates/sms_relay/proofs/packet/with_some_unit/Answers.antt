use Rattle.std.proofs.Common.{List, ℕ, [], ◌∷◌, ◌++◌, Some, ap, ◌∙◌, append_assoc}
use Rattle.sms_relay.specs.Rp.UserData.{user_data_tag, user_octets}
use Rattle.sms_relay.specs.Inside.Opened.{closed_octets}
use Rattle.sms_relay.proofs.Framed.{over_ok}
use Rattle.sms_relay.proofs.packet.with_some_unit.Goals as goal

pub returns-in_ok-tagged-in-Some-clause-added : goal.returns-in_ok-tagged-in-Some-clause-added
returns-in_ok-tagged-in-Some-clause-added g c =
    rw c.in-Some.is (over_ok _ _
    (λ whole added.
    (Some added.0, added.1, added.2, added.3 ∙ ap (λ (l : List ℕ). closed_octets (l ++ user_octets added.0)) c.in_ok-tagged-in-Some.ensures ∙ ap closed_octets (append_assoc c.args.packet.items (user_data_tag ∷ []) (user_octets added.0))))
    c.with_unit.result c.with_unit.ensures.added)
