-- Where a line ends.
use Rattle.std.proofs.Common.{◌≡◌, ◌⊎◌, ℕ, zero, suc, ◌+◌, ◌<◌, ◌≤◌, List, [], ◌∷◌, length, refl, ap, ◌∙◌, arith, Bool, true, false, ◌==◌, get_or, take, drop, drop-cons, add-one, length-drop}
use Rattle.std.proofs.lemmas.Bool.{eqb-true, ne_eqb}
use Rattle.std.proofs.lemmas.List.{take_all}
use Rattle.memchr.specs.Find.{NoneBefore, Nowhere, Passes, is_byte}
use Rattle.sms_script.specs.Lines.{line_feed, HasNoLineFeed}
use Rattle.sms_feed.specs.Feed.{FeedValue}
use Rattle.sms_feed.specs.Inside.Ends.{EndsAt, size}
use Rattle.sms_feed.specs.declared.place.End.{End}

not_true : (b : Bool) → (b ≡ true → ⊥) → b ≡ false
not_true true h = absurd (h refl)
not_true false h = refl

-- no line feed before a place
pub no_feed_before : (left : List ℕ) (n : ℕ) → n ≤ length left → ((k : ℕ) → k < n → (get_or left k 0 == line_feed) ≡ true → ⊥) → HasNoLineFeed (take n left)
no_feed_before left zero le h = tt
no_feed_before [] (suc n) le h = absurd (omega arith)
no_feed_before (octet ∷ left) (suc n) le h =
    (not_true (octet == line_feed) (h 0 (omega arith)), no_feed_before left n (omega arith) (λ k below. h (suc k) (omega arith)))

-- a line feed at a place
pub feed_at : (left : List ℕ) (n : ℕ) → n < length left → (get_or left n 0 == line_feed) ≡ true → drop n left ≡ line_feed ∷ drop (n + 1) left
feed_at left n within h = rw (add-one) (drop-cons left n 0 within ∙ ap (λ (o : ℕ). o ∷ drop (suc n) left) (eqb-true (get_or left n 0) line_feed h))

-- the first line feed ends a line
pub ends_at_feed : (feed : FeedValue) (n : ℕ) → NoneBefore (Passes (is_byte line_feed) feed.left) 0 (length feed.left) n × Passes (is_byte line_feed) feed.left n → EndsAt feed (record { length = n; has_feed = true })
ends_at_feed feed n found = record {
  front = no_feed_before feed.left n (omega (arith, found.0.high)) (λ k below. found.0.before k (omega arith) below);
  fed = λ e. feed_at feed.left n found.0.high found.1;
  last = λ e. absurd (cc e);
  some = λ e. absurd (cc e);
}

-- there is none
pub no_feed : (left : List ℕ) → Nowhere (Passes (is_byte line_feed) left) 0 (length left) → HasNoLineFeed left
no_feed left none = rw (take_all (length left) left (omega arith)) at (no_feed_before left (length left) (omega arith) (λ k below. none k (omega arith) below))

-- the end of all ends a line
pub ends_at_last : (feed : FeedValue) (n : ℕ) → HasNoLineFeed feed.left → n ≡ length feed.left → feed.has_ended ≡ true → (0 < length feed.left) ⊎ (feed.is_long ≡ true) → EndsAt feed (record { length = n; has_feed = false })
ends_at_last feed n clean whole ended some = record {
  front = rw (take_all n feed.left (omega (arith, whole))) clean;
  fed = λ e. absurd (cc e);
  last = λ e. (whole, ended);
  some = λ e. some;
}

-- a line lies in what is left
pub length_within : (feed : FeedValue) (end : End) → EndsAt feed end → end.length ≤ length feed.left
length_within feed end ends = by_test end.has_feed refl
  where
    by_test : (b : Bool) → end.has_feed ≡ b → end.length ≤ length feed.left
    by_test true e = omega (arith, length-drop end.length feed.left, ap length (ends.fed e))
    by_test false e = omega (arith, (ends.last e).0)

pub ends_within : (feed : FeedValue) (end : End) → EndsAt feed end → size end ≤ length feed.left
ends_within feed end ends = by_test end.has_feed refl
  where
    by_test : (b : Bool) → end.has_feed ≡ b → size end ≤ length feed.left
    by_test true e = rw e (omega (arith, length-drop end.length feed.left, ap length (ends.fed e)))
    by_test false e = rw e (omega (arith, (ends.last e).0))

pub some_left : (left : List ℕ) → false ≡ (length left == 0) → 0 < length left
some_left [] e = absurd (cc e)
some_left (octet ∷ left) e = omega arith

pub none_left : (left : List ℕ) → true ≡ (length left == 0) → left ≡ []
none_left [] e = refl
none_left (octet ∷ left) e = absurd (cc (e, ne_eqb (suc (length left)) 0 (λ k. omega (arith, k))))
