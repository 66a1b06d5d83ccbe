use Rattle.std.proofs.Common.{◌≡◌, ℕ, ◌<◌, ◌≤◌, true, List, length, sym, ap, ◌∙◌, subst}
use Rattle.std.proofs.lemmas.Result.{IfOk-weaker}
use Rattle.std.specs.Str.{chars}
use Rattle.std.specs.String.{string_bytes}
use Rattle.sms_join.specs.Joiner.Finishing.{lacks_only}
use Rattle.sms_join.specs.Key.{maximum_of}
use Rattle.sms_join.specs.OpenSets.{SetValue, with_piece}
use Rattle.sms_join.specs.Reading.{text_of_segments}
use Rattle.sms_join.specs.Inside.Slots.{At, filled_with}
use Rattle.sms_join.proofs.Slots.{sets_length, at_slot, text_more}
use Rattle.sms_join.proofs.open_sets.OpenSets.text_with.Goals as goal

pub index-requires : goal.index-requires
index-requires c =
    subst (λ (n : ℕ). c.args.index < n) (ap (λ (l : List SetValue). length l) (sym c.self.view_is) ∙ sets_length c.self.inside.slots.entries) c.requires

pub returns : goal.returns
returns c =
    IfOk-weaker c.text_with.result
    (λ text. chars (string_bytes text) ≡ text_of_segments (filled_with c.args.units c.index.result.now.places))
    (λ text. At c.args.self.now c.args.index (λ s. (n : ℕ) → 0 < n → n ≤ maximum_of s.key → lacks_only s n ≡ true
    → chars (string_bytes text) ≡ text_of_segments (with_piece s n c.args.units).units))
    (λ text h. subst (λ (l : List SetValue). At l c.args.index (λ s. (n : ℕ) → 0 < n → n ≤ maximum_of s.key → lacks_only s n ≡ true
    → chars (string_bytes text) ≡ text_of_segments (with_piece s n c.args.units).units)) c.self.view_is
    (at_slot c.self.inside.slots.entries c.args.index c.index.result.now (λ s. (n : ℕ) → 0 < n → n ≤ maximum_of s.key → lacks_only s n ≡ true
    → chars (string_bytes text) ≡ text_of_segments (with_piece s n c.args.units).units) c.self.invariant.0 c.index.ensures
    (λ k e n a b l. h ∙ ap text_of_segments (text_more k c.index.result.now n c.args.units e a b l))))
    c.text_with.ensures
