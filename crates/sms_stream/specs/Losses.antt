-- What is lost where pieces are joined. Each number counts to its end and stays there.
use Rattle.std.specs.Prelude.{ℕ, ◌+◌, ◌-◌, ◌^◌, min, Bool, if◌then◌else◌}
use Rattle.sms_stream.specs.declared.losses.Losses.{Losses}

abbrev pub no_losses : Losses
no_losses = record { turned_away = 0; dropped = 0 }

abbrev pub to_end : ℕ → ℕ
to_end n = min n (2 ^ 64 - 1)

-- after a piece, which was turned away or not
abbrev pub away_then : Losses → Bool → Losses
away_then losses away =
    if away then record { turned_away = to_end (losses.turned_away + 1); dropped = losses.dropped }
    else losses

-- after so many sets were dropped
abbrev pub dropped_then : Losses → ℕ → Losses
dropped_then losses count =
    record { turned_away = losses.turned_away; dropped = to_end (losses.dropped + count) }
