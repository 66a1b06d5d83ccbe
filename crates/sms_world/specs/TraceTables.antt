-- The tables of what is noted of packets and acceptances, as contracts see them, and what they say.
use Rattle.std.specs.Prelude.{ℕ, Bool, List, Option, Some, None, slice_get}
use Rattle.std.specs.Map.{lookup}
use Rattle.sms_world.specs.contracts.traces.held.ReferenceKeyPartialEq.TheImpl as key
use Rattle.sms_world.specs.declared.traces.held.ReferenceKey.{ReferenceKey}
use Rattle.sms_world.specs.Ledger.{SenderNote}
use Rattle.sms_world.specs.Tables.{sender_in_row}
use Rattle.sms_world.specs.Traces.{Trace, HeldNote, Traces}

-- what `==` answers for the keys
abbrev pub key_eq : ReferenceKey → ReferenceKey → Bool
key_eq = (key.ghosts).eq

pub record TraceTables : Type 0 where
  pub sent : List Trace
  pub numbers : List ℕ
  -- one row for each phone
  pub senders : List SenderNote
  pub outs : List ℕ
  pub held : List (ReferenceKey × HeldNote)

abbrev pub out_at : Option ℕ → ℕ
out_at None = 0
out_at (Some n) = n

-- what they say
abbrev pub traces_of : TraceTables → Traces
traces_of t =
    record {
      sent = t.sent;
      numbers = t.numbers;
      sender = λ phone. sender_in_row (slice_get t.senders phone);
      outs = λ phone. out_at (slice_get t.outs phone);
      held = λ phone reference recipient.
          lookup
          (key_eq (record { phone = phone; reference = reference; recipient = recipient }))
          t.held;
    }
