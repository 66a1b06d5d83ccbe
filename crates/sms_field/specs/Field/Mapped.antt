-- A field whose values are made of those of another.
use Rattle.std.specs.Prelude.{◌≡◌}
use Rattle.sms_field.specs.Field.{Field, Outcome, found, refused}

abbrev pub mapped_outcome : {V X W : Type 0} → (V → X) → Outcome V W → Outcome X W
mapped_outcome make (found value after rest) = found (make value) after rest
mapped_outcome make (refused place why) = refused place why

-- the same octets, refused for the same reasons
abbrev pub mapped : {V X W : Type 0} → (V → X) → Field V W → Field X W
mapped {V} make f = record {
  reads = λ other octets rest. (value : V) × f.reads value octets rest × (other ≡ make value);
  reason = f.reason;
  read = λ at input. mapped_outcome make (f.read at input);
}
