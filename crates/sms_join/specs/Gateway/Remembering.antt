-- What a joiner for many recipients is that remembers one key more. Lists have the newest entry
-- first.
use Rattle.std.specs.Prelude.{ℕ, ◌∷◌, take}
use Rattle.sms_join.specs.declared.key.Key.{Key}
use Rattle.sms_join.specs.Gateway.Finishings.{not_before}
use Rattle.sms_join.specs.Gateway.Value.{GatewayValue}

-- The key of a message that finished at this moment is remembered too, as that of the last one: in
-- place of the oldest, where as many are remembered as may be.
abbrev pub remembering : GatewayValue → Key → ℕ → GatewayValue
remembering g key moment =
    record {
      limits = g.limits;
      holds = record {
        kept = g.holds.kept;
        finished = take g.limits.remembered (key ∷ g.holds.finished);
      };
      told = g.told;
      finishings = take g.limits.remembered (not_before g.finishings moment ∷ g.finishings);
    }
