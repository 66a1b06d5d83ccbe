-- A key that is remembered, and when its message finished.
use Rattle.std.specs.Prelude.{◌≡◌, ℕ, ◌≤◌, length, slice_get, Option, None, Some}
use Rattle.sms_join.specs.declared.gateway.RememberedKey.{RememberedKey}
use Rattle.sms_join.specs.Gateway.Value.{GatewayValue}

-- It is the key before which so many others finished later, with its moment; or no more are
-- remembered than those.
abbrev pub IsRememberedAt : GatewayValue → ℕ → Option RememberedKey → Type 0
IsRememberedAt g after None = length g.holds.finished ≤ after
IsRememberedAt g after (Some r) =
    (slice_get g.holds.finished after ≡ Some r.key.now)
    × (slice_get g.finishings after ≡ Some r.moment)
