-- How the texts of a sender stand.
use Rattle.std.proofs.Common.{◌≡◌, ℕ, zero, suc, ◌+◌, ◌-◌, ◌<◌, ◌≤◌, List, [], ◌∷◌, ◌++◌, length, get_or, Option, Some, None, refl, sym, ap, ◌∙◌, arith}
use Rattle.std.specs.List.{slice_get}
use Rattle.std.proofs.lemmas.List.{length-append}
use Rattle.std.proofs.lemmas.Option.{slice_get_read}
use Rattle.sms_party.specs.declared.sender.Status.{Status}
use Rattle.sms_party.specs.declared.sender.Status.TheVariants.{Waiting}
use Rattle.sms_party.specs.Sender.Texts.{Text}
use Rattle.sms_party.specs.Sender.Value.{TextValue, SenderValue, status_among, all_waiting, statuses_in}
use Rattle.sms_party.specs.Sender.Stands.{ArePending, TellsStatus}

none_at_zero : (l : List Status) → status_among l 0 ≡ None
none_at_zero [] = refl
none_at_zero (s ∷ l) = refl

ended_at : (xs ys : List Status) (k : ℕ) → k < length xs → status_among (xs ++ ys) (suc k) ≡ slice_get xs k
ended_at [] ys k h = absurd (omega arith)
ended_at (x ∷ xs) ys zero h = refl
ended_at (x ∷ xs) ys (suc k) h = ended_at xs ys k (omega arith)

pending_at : {X : Type 0} (q : List X) (k : ℕ) → k < length q → status_among (all_waiting q) (suc k) ≡ Some Waiting
pending_at [] k h = absurd (omega arith)
pending_at (n ∷ q) zero h = refl
pending_at (n ∷ q) (suc k) h = pending_at q k (omega arith)

waiting_at : {X : Type 0} (xs : List Status) (q : List X) (k : ℕ) → length xs ≤ k → k < length xs + length q → status_among (xs ++ all_waiting q) (suc k) ≡ Some Waiting
waiting_at [] q k h i = pending_at q k (omega arith)
waiting_at (x ∷ xs) q zero h i = absurd (omega arith)
waiting_at (x ∷ xs) q (suc k) h i = waiting_at xs q k (omega arith) (omega arith)

beyond : (l : List Status) (k : ℕ) → length l ≤ k → status_among l (suc k) ≡ None
beyond [] k h = refl
beyond (x ∷ l) zero h = absurd (omega arith)
beyond (x ∷ l) (suc k) h = beyond l k (omega arith)

waiting_many : {X : Type 0} (q : List X) → length (all_waiting q) ≡ length q
waiting_many [] = refl
waiting_many (n ∷ q) = ap suc (waiting_many q)

-- as many texts were typed as have ended or wait
pub typed_many : (v : SenderValue) → length (statuses_in v) ≡ length v.ended + length v.pending
typed_many v = let size = length-append v.ended (all_waiting v.pending) in let many = waiting_many v.pending in omega (arith, size, many)

-- ---- the status of a number

module _ (v : SenderValue) (number : ℕ) where
  pub none_so : number ≡ 0 → None ≡ status_among (statuses_in v) number
  none_so e = sym (none_at_zero (statuses_in v)) ∙ ap (λ n. status_among (statuses_in v) n) (sym e)

  after_one : 0 < number → suc (number - 1) ≡ number
  after_one h = omega arith

  pub ended_so : (w : Status) → 0 < number → number ≤ length v.ended → w ≡ get_or v.ended (number - 1) w → Some w ≡ status_among (statuses_in v) number
  ended_so w h i e =
      sym (slice_get_read v.ended (length v.ended) (number - 1) w refl (omega arith) e)
      ∙ (sym (ended_at v.ended (all_waiting v.pending) (number - 1) (omega arith)) ∙ ap (λ n. status_among (statuses_in v) n) (after_one h))

  pub waiting_so : length v.ended < number → number - length v.ended ≤ length v.pending → Some Waiting ≡ status_among (statuses_in v) number
  waiting_so h i =
      sym (waiting_at v.ended v.pending (number - 1) (omega arith) (omega arith)) ∙ ap (λ n. status_among (statuses_in v) n) (after_one (omega arith))

  pub beyond_so : length v.ended < number → length v.pending < number - length v.ended → None ≡ status_among (statuses_in v) number
  beyond_so h i =
      let many = typed_many v in
      sym (beyond (statuses_in v) (number - 1) (omega (arith, many))) ∙ ap (λ n. status_among (statuses_in v) n) (after_one (omega arith))

-- ---- it is that of the state

same_waiting : (phone ended : ℕ) (texts : List Text) (p : List TextValue) (q : List ℕ) → ArePending phone ended texts p q → all_waiting p ≡ all_waiting q
same_waiting phone ended texts [] [] a = refl
same_waiting phone ended texts [] (n ∷ ns) a = absurd a
same_waiting phone ended texts (v ∷ vs) [] a = absurd a
same_waiting phone ended texts (v ∷ vs) (n ∷ ns) a = ap (λ (l : List Status). Waiting ∷ l) (same_waiting phone (suc ended) texts vs ns a.1)

pub tells : (v : SenderValue) (number : ℕ) (told : Option Status) → told ≡ status_among (statuses_in v) number → TellsStatus v number told
tells v number told h phone x stands =
    let waiting = same_waiting phone (length v.ended) x.texts v.pending (x.sender phone).pending stands.keeps.pending_are in
    h ∙ (ap (λ (l : List Status). status_among (v.ended ++ l) number) waiting
    ∙ ap (λ (l : List Status). status_among (l ++ all_waiting (x.sender phone).pending) number) stands.keeps.ended_are)
