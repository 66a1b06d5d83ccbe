-- How much a joiner for many recipients keeps, as C tells it.
use Rattle.std.specs.Prelude.{ℕ, ◌==◌, Bool, not, ◌&&◌, [], Option, None, Some, if◌then◌else◌}
use Rattle.sms_join.specs.declared.gateway_limits.Alone.{Alone}
use Rattle.sms_join.specs.declared.gateway_limits.Alone.TheVariants.{Remembered, Passed}
use Rattle.sms_join.specs.Gateway.Value.{LimitsValue, GatewayValue}
use Rattle.sms_join.specs.Joiner.{new_joiner}
use Rattle.sms_c.specs.Class.{are_spare}
use Rattle.sms_c.specs.Writing.{is_set}
use Rattle.sms_c.specs.declared.gateway.limits.Limits.{Limits}

-- both numbers are above 0, and spare octets are 0
abbrev pub fits_limits : Limits → Bool
fits_limits limits =
    not (limits.open_max == 0) && (not (limits.remembered == 0) && are_spare limits.spare)

abbrev pub alone_of : ℕ → Alone
alone_of pass_alone = if is_set pass_alone then Passed else Remembered

-- 0 stands for no number of seconds
abbrev pub seconds_if : ℕ → Option ℕ
seconds_if seconds = if seconds == 0 then None else Some seconds

abbrev pub limits_of : Limits → LimitsValue
limits_of limits =
    record {
      open_max = limits.open_max;
      remembered = limits.remembered;
      alone = alone_of limits.pass_alone;
      open_for = limits.open_for;
      remember_for = seconds_if limits.remember_for;
    }

-- one with these limits that holds nothing
abbrev pub new_gateway : Limits → GatewayValue
new_gateway limits =
    record {
      limits = limits_of limits;
      holds = new_joiner;
      told = [];
      finishings = [];
    }
