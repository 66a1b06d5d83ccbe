-- What comes next of a reader.
use Rattle.std.proofs.Common.{◌≡◌, ◌⊎◌, ℕ, ◌+◌, ◌<◌, List, [], ◌++◌, length, refl, sym, ap, subst, ◌∙◌, arith, Bool, true, false, ◌==◌, ◌||◌, cond, nat_lt, take, drop, append_assoc, Option, Some, None, length-append, inl, inr}
use Rattle.std.specs.Io.KnownBytes.{Consumes, IsAtEnd, Keeps}
use Rattle.std.proofs.lemmas.Bool.{ltb-true, eqb-true}
use Rattle.sms_script.specs.Lines.{line_limit, lines, strip_carriage_return, HasNoLineFeed}
use Rattle.sms_feed.specs.Feed.{FeedValue, Awaits}
use Rattle.sms_feed.specs.Next.{StandsAtFirst}
use Rattle.sms_feed.specs.Inside.Ends.{EndsAt, HasNoEnd, size, behind}
use Rattle.sms_feed.specs.Inside.Room.{kept}
use Rattle.sms_feed.specs.declared.place.End.{End}
use Rattle.sms_feed.proofs.LineLemmas.{HasNoLineFeed-append, lines_to, few_to}

-- what was thrown away has no line feed
thrown_clean : (is_long : Bool) (thrown : List ℕ) → (is_long ≡ false → thrown ≡ []) → (is_long ≡ true → (line_limit + 1 < length thrown) × HasNoLineFeed thrown) → HasNoLineFeed thrown
thrown_clean true thrown none long = (long refl).1
thrown_clean false thrown none long = subst HasNoLineFeed (sym (none refl)) tt

some_octet : (is_long : Bool) (thrown left : List ℕ) → (is_long ≡ true → (line_limit + 1 < length thrown) × HasNoLineFeed thrown) → (0 < length left) ⊎ (is_long ≡ true) → 0 < length (thrown ++ left)
some_octet is_long thrown left long (inl some) = omega (arith, length-append thrown left, some)
some_octet is_long thrown left long (inr is) = omega (arith, length-append thrown left, (long is).0)

-- the line that ends there is given
pub gives_line : (feed : FeedValue) (end : End) (remaining : Option (List ℕ)) (octets : List ℕ) → EndsAt feed end → Awaits feed remaining octets → StandsAtFirst octets (behind feed end) remaining
gives_line feed end remaining octets ends awaits =
    let thrown : List ℕ = awaits.thrown in
    let front : List ℕ = take end.length feed.left in
    record {
      first = cond end.has_feed (strip_carriage_return (thrown ++ front)) (thrown ++ front);
      rest = drop (size end) feed.left ++ awaits.later;
      is_first = ap lines awaits.whole ∙ lines_to end.has_feed end.length thrown feed.left awaits.later (thrown_clean feed.is_long thrown awaits.none awaits.long) ends.front ends.fed (λ e. (ends.last e).0) (λ e. awaits.ended (ends.last e).1) (λ e. some_octet feed.is_long thrown feed.left awaits.long (ends.some e));
      line = few_to end.has_feed feed.is_long thrown front awaits.none (λ e. (awaits.long e).0);
      behind = record {
        thrown = [];
        later = awaits.later;
        known = awaits.known;
        whole = refl;
        ended = awaits.ended;
        none = λ e. refl;
        long = λ e. absurd (cc e);
      };
    }

-- none is given
pub gives_none : (feed : FeedValue) (remaining : Option (List ℕ)) (octets : List ℕ) → HasNoEnd feed → feed.has_ended ≡ true → Awaits feed remaining octets → (octets ≡ []) × Awaits feed remaining []
gives_none feed remaining octets no_end ended awaits =
    let none : octets ≡ [] = awaits.whole ∙ rw (awaits.none (no_end.ended ended).1, (no_end.ended ended).0, awaits.ended ended) refl in
    (none, subst (Awaits feed remaining) none awaits)

-- what is longer than a line may be is thrown away
pub kept_awaits : (old new : FeedValue) (remaining : Option (List ℕ)) (octets : List ℕ) → HasNoLineFeed old.left → new.left ≡ kept old.left → new.is_long ≡ (old.is_long || nat_lt (line_limit + 1) (length old.left)) → new.has_ended ≡ old.has_ended
    → Awaits old remaining octets → Awaits new remaining octets
kept_awaits old new remaining octets clean left long ended awaits = by_test (nat_lt (line_limit + 1) (length old.left)) refl
  where
    or_true : (b : Bool) → (b || true) ≡ true
    or_true true = refl
    or_true false = refl

    or_false : (b : Bool) → (b || false) ≡ b
    or_false true = refl
    or_false false = refl

    by_test : (b : Bool) → nat_lt (line_limit + 1) (length old.left) ≡ b → Awaits new remaining octets
    by_test true e =
        let nothing : new.left ≡ [] = left ∙ ap (λ (b : Bool). cond b [] old.left) e in
        let is_long : new.is_long ≡ true = long ∙ ap (λ (b : Bool). old.is_long || b) e ∙ or_true old.is_long in
        record {
          thrown = awaits.thrown ++ old.left;
          later = awaits.later;
          known = awaits.known;
          whole = awaits.whole ∙ sym (append_assoc awaits.thrown old.left awaits.later) ∙ ap (λ (l : List ℕ). (awaits.thrown ++ old.left) ++ (l ++ awaits.later)) (sym nothing);
          ended = λ h. awaits.ended (sym ended ∙ h);
          none = λ h. absurd (cc h);
          long = λ h. (
            omega (arith, length-append awaits.thrown old.left, ltb-true _ _ e),
            HasNoLineFeed-append awaits.thrown old.left (thrown_clean old.is_long awaits.thrown awaits.none awaits.long) clean,
          );
        }
    by_test false e =
        let same : new.left ≡ old.left = left ∙ ap (λ (b : Bool). cond b [] old.left) e in
        let is_long : new.is_long ≡ old.is_long = long ∙ ap (λ (b : Bool). old.is_long || b) e ∙ or_false old.is_long in
        record {
          thrown = awaits.thrown;
          later = awaits.later;
          known = awaits.known;
          whole = awaits.whole ∙ ap (λ (l : List ℕ). awaits.thrown ++ (l ++ awaits.later)) (sym same);
          ended = λ h. awaits.ended (sym ended ∙ h);
          none = λ h. awaits.none (sym is_long ∙ h);
          long = λ h. awaits.long (sym is_long ∙ h);
        }

-- a reader whose octets are known keeps them so
pub taken : (later : List ℕ) (old new : Option (List ℕ)) (read : List ℕ) → old ≡ Some later → Consumes old new read → (rest : List ℕ) × (new ≡ Some rest) × (later ≡ read ++ rest)
taken later None new read e h = absurd (cc e)
taken later (Some xs) None read e h = absurd h
taken later (Some xs) (Some ys) read e h = (ys, refl, (let same : xs ≡ later = cc in sym same ∙ h))

at_end : (rest : List ℕ) (new : Option (List ℕ)) → new ≡ Some rest → IsAtEnd new → rest ≡ []
at_end rest None e h = absurd (cc e)
at_end rest (Some xs) e h = (let same : xs ≡ rest = cc in sym same ∙ h)

-- more was read
pub read_awaits : (old new : FeedValue) (remaining remaining_then : Option (List ℕ)) (octets : List ℕ) (count : ℕ) (buffer : List ℕ) → new.left ≡ old.left ++ take count buffer → new.is_long ≡ old.is_long → new.has_ended ≡ (count == 0)
    → Consumes remaining remaining_then (take count buffer) → (count ≡ 0 → 0 < length buffer → IsAtEnd remaining_then) → 0 < length buffer → Awaits old remaining octets → Awaits new remaining_then octets
read_awaits old new remaining remaining_then octets count buffer left long ended consumes at some awaits =
    let given = taken awaits.later remaining remaining_then (take count buffer) awaits.known consumes in
    record {
      thrown = awaits.thrown;
      later = given.0;
      known = given.1;
      whole = awaits.whole ∙ ap (λ (l : List ℕ). awaits.thrown ++ (old.left ++ l)) given.2 ∙ ap (λ (l : List ℕ). awaits.thrown ++ l) (sym (append_assoc old.left (take count buffer) given.0)) ∙ ap (λ (l : List ℕ). awaits.thrown ++ (l ++ given.0)) (sym left);
      ended = λ h. at_end given.0 remaining_then given.1 (at (eqb-true count 0 (sym ended ∙ h)) some);
      none = λ h. awaits.none (sym long ∙ h);
      long = λ h. awaits.long (sym long ∙ h);
    }

-- a read failed
pub kept_known : (feed : FeedValue) (remaining remaining_then : Option (List ℕ)) (octets : List ℕ) → Keeps remaining remaining_then → Awaits feed remaining octets → Awaits feed remaining_then octets
kept_known feed remaining remaining_then octets keeps awaits = subst (λ (r : Option (List ℕ)). Awaits feed r octets) (same remaining remaining_then awaits.later awaits.known keeps) awaits
  where
    same : (old new : Option (List ℕ)) (later : List ℕ) → old ≡ Some later → Keeps old new → old ≡ new
    same None new later e h = absurd (cc e)
    same (Some xs) None later e h = absurd h
    same (Some xs) (Some ys) later e h = ap (λ (l : List ℕ). Some l) (sym h)
