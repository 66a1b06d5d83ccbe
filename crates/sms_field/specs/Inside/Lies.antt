-- A reader may pass this by: lemmas, for the proofs of this crate and of those above it.
use Rattle.std.proofs.Common.{◌≡◌, ℕ, List, [], ◌++◌, length, take, sym, ap, ◌∙◌}
use Rattle.std.proofs.lemmas.List.{append-nil, take_at, drop_at}
use Rattle.sms_field.specs.Field.{Field, IsSelfContained}
use Rattle.sms_field.specs.declared.span.Span.{Span}
use Rattle.sms_field.specs.Reading.Lies.{octets_at, LiesAt}

-- ---- laws

-- what stands after a front
pub part_at : (front part back : List ℕ) (span : Span) → span.offset ≡ length front → span.length ≡ length part → octets_at (front ++ (part ++ back)) span ≡ part
part_at front part back span offset size = ap (take span.length) (drop_at front (part ++ back) span.offset (sym offset)) ∙ take_at part back span.length (sym size)

pub lies_at : {V W : Type 0} (field : Field V W) (value : V) (front part back rest : List ℕ) (span : Span) → IsSelfContained field → field.reads value part rest → span.offset ≡ length front → span.length ≡ length part → LiesAt field value (front ++ (part ++ back)) span
lies_at field value front part back rest span self read offset size =
    record { octets = part; rest = []; parts = part_at front part back span offset size ∙ sym (append-nil part); used_is = size; read = self value part rest [] read }
