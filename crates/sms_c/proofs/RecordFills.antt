-- A record that is filled with FF.
use Rattle.std.proofs.Common.{◌≡◌, ◌≤◌, ℕ, List, [], ◌∷◌, ◌++◌, length, refl, sym, ap, ◌∙◌, append_assoc, arith, length-append}
use Rattle.std.proofs.lemmas.List.{append-nil}
use Rattle.sms_card.specs.Padding.{IsPadding}
use Rattle.sms_c.specs.RecordWriting.{IsFilled}

pub record Filled (old new : List ℕ) : Type 0 where
  pub filled : List ℕ
  pub are : IsPadding filled
  pub parts : new ≡ old ++ filled
  pub few : length new ≤ 176

pub filled_not : (old : List ℕ) → length old ≤ 176 → Filled old old
filled_not old few = record { filled = []; are = tt; parts = sym (append-nil old); few = few }

padding_then : (filled : List ℕ) → IsPadding filled → IsPadding (filled ++ 255 ∷ [])
padding_then [] are = (refl, tt)
padding_then (o ∷ filled) are = (are.0, padding_then filled are.1)

pub filled_on : (old new next : List ℕ) → Filled old new → length new ≤ 175 → next ≡ new ++ 255 ∷ [] → Filled old next
filled_on old new next f below is = record {
  filled = f.filled ++ 255 ∷ [];
  are = padding_then f.filled f.are;
  parts = is ∙ ap (λ (l : List ℕ). l ++ 255 ∷ []) f.parts ∙ append_assoc old f.filled (255 ∷ []);
  few = omega (arith, ap length is, length-append new (255 ∷ []));
}

pub all_filled : (old new : List ℕ) → Filled old new → 176 ≤ length new → IsFilled old new
all_filled old new f full = record { filled = f.filled; padding = f.are; parts = f.parts; size = omega (arith, f.few) }
