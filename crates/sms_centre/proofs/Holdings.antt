-- Each message that waits is held: what the calls of the centre make of it.
use Rattle.std.proofs.Common.{◌≡◌, ◌≢◌, ℕ, zero, suc, ◌+◌, ◌<◌, ◌≤◌, Bool, true, false, not, cond, ◌||◌, nat_lt, List, [], ◌∷◌, ◌++◌, map, get_or, length, Contains, ◌⊎◌, inl, inr, Option, Some, None, Result, Ok, Err, OnErr, refl, sym, ap, ◌∙◌, subst, arith}
use Rattle.std.specs.Prelude.{All, ◌==◌}
use Rattle.std.specs.List.{filter, slice_get}
use Rattle.std.proofs.Math.ListN.{set}
use Rattle.std.proofs.lemmas.Bool.Decides.{nat_tests}
use Rattle.std.proofs.lemmas.List.{length-append}
use Rattle.std.proofs.lemmas.List.Elements.{All-nil, All-cons, All-head, All-tail, All-push, All-weaker, All-filter, filter_passes, filter-append, Contains-append_left, Contains-append_right, Contains-append_cases}
use Rattle.sms_field.specs.Address.Value.{AddressValue}
use Rattle.sms_centre.specs.declared.centre.held.Ending.{Ending}
use Rattle.sms_centre.specs.declared.centre.held.HeldKey.{HeldKey}
use Rattle.sms_message.specs.declared.message.Tag.{Tag}
use Rattle.sms_centre.specs.declared.centre.waiting.Push.{Push}
use Rattle.sms_message.specs.declared.outcome.Step.{Step}
use Rattle.sms_message.specs.declared.outcome.Dropped.{Dropped}
use Rattle.sms_message.specs.declared.outcome.Dropped.TheVariants.{NotCp, Unmatched, Busy, Memory, TooManySegments}
use Rattle.sms_centre.specs.Centre.Verdicts.{stays}
use Rattle.sms_centre.specs.Inside.Kept.{free_at, IsPutIn, ForgetsFirst}
use Rattle.sms_centre.specs.Centre.Kept.{IsLeftLater, IsHeldLater}
use Rattle.sms_centre.specs.Centre.Value.{WaitingValue, LineValue, HeldValue, HoldingsValue, waiting_at, line_at, endings_after}
use Rattle.sms_centre.specs.Inside.Lines.{new_line, accepting_line, forgetting_line, ChangesLine, PushesFrom, LinePushes, HearsFor, LineHears}
use Rattle.sms_centre.specs.Inside.Holdings.{ending_of, AreHeld, LeavesSame, ForgetsOne}
use Rattle.sms_centre.proofs.Lines.{set_there, set_elsewhere, free_is}

-- ---- what is left at a moment

filter_stays : {X : Type 0} (p : X → Bool) (xs : List X) → All (λ x. p x ≡ true) xs → filter p xs ≡ xs
filter_stays p [] h = refl
filter_stays p (x ∷ xs) h =
    let e : p x ≡ true = h 0 x (omega arith) in
    rw e (ap (λ l. x ∷ l) (filter_stays p xs (λ k d lt. h (suc k) d (omega (arith, lt)))))

-- what passes the second test passes the first
filter_step : {X : Type 0} (p q : X → Bool) (x : X) (xs : List X) (b d : Bool) → p x ≡ b → q x ≡ d → (q x ≡ true → p x ≡ true) → filter q (filter p xs) ≡ filter q xs
    → filter q (cond b (x ∷ filter p xs) (filter p xs)) ≡ cond d (x ∷ filter q xs) (filter q xs)
filter_step p q x xs true true e f h ih = rw f (ap (λ l. x ∷ l) ih)
filter_step p q x xs true false e f h ih = rw f ih
filter_step p q x xs false true e f h ih = let t : true ≡ false = sym (h f) ∙ e in absurd cc
filter_step p q x xs false false e f h ih = ih

filter_twice : {X : Type 0} (p q : X → Bool) → ((x : X) → q x ≡ true → p x ≡ true) → (xs : List X) → filter q (filter p xs) ≡ filter q xs
filter_twice p q h [] = refl
filter_twice p q h (x ∷ xs) = filter_step p q x xs (p x) (q x) refl refl (h x) (filter_twice p q h xs)

is_after : (now end : ℕ) → now < end → nat_lt now end ≡ true
is_after now end lt = grind (arith, nat_tests)

after_is : (now end : ℕ) → nat_lt now end ≡ true → now < end
after_is now end e = grind (arith, nat_tests)

later : (clock now end : ℕ) → clock ≤ now → nat_lt now end ≡ true → nat_lt clock end ≡ true
later clock now end le h = grind (arith, nat_tests)

pub endings_stay : (now : ℕ) (endings : List Ending) → All (λ e. now < e.end) endings → endings_after now endings ≡ endings
endings_stay now endings h = filter_stays (λ e. nat_lt now e.end) endings (λ k d within. is_after now _ (h k d within))

pub endings_later : (clock now : ℕ) (endings : List Ending) → clock ≤ now → endings_after now (endings_after clock endings) ≡ endings_after now endings
endings_later clock now endings le = filter_twice (λ e. nat_lt clock e.end) (λ e. nat_lt now e.end) (λ e h. later clock now e.end le h) endings

pub endings_left : (now : ℕ) (endings : List Ending) → All (λ e. now < e.end) (endings_after now endings)
endings_left now endings = λ k d within. after_is now _ (filter_passes (λ e. nat_lt now e.end) endings k d within)

fewer_by : (now : ℕ) (e : Ending) (endings : List Ending) (b : Bool) → length (endings_after now endings) ≤ length endings → length (cond b (e ∷ endings_after now endings) (endings_after now endings)) ≤ suc (length endings)
fewer_by now e endings true h = omega (arith, h)
fewer_by now e endings false h = omega (arith, h)

-- no more are left than were there
pub fewer_left : (now : ℕ) (endings : List Ending) → length (endings_after now endings) ≤ length endings
fewer_left now [] = omega arith
fewer_left now (e ∷ endings) = fewer_by now e endings (nat_lt now e.end) (fewer_left now endings)

-- one more is held
pub one_more_held : {X : Type 0} (x : X) (old new : List X) → IsPutIn x old new → length new ≡ suc (length old)
one_more_held x old new h = omega (arith, ap (λ l. length l) h.was, ap (λ l. length l) h.is, length-append h.before h.after, length-append h.before (x ∷ h.after))

-- one more ending
more_by : (at : ℕ) (ending : Ending) (before after : List Ending) (b : Bool) → nat_lt at ending.end ≡ b
    → length (endings_after at (before ++ ending ∷ after)) ≡ cond b (suc (length (endings_after at (before ++ after)))) (length (endings_after at (before ++ after)))
more_by at ending before after true e =
    let p : Ending → Bool = λ e. nat_lt at e.end in
    let both : length (filter p (before ++ after)) ≡ length (filter p before) + length (filter p after) = ap length (filter-append p before after) ∙ length-append (filter p before) (filter p after) in
    ap length (filter-append p before (ending ∷ after)) ∙ rw e (length-append (filter p before) (ending ∷ filter p after) ∙ omega (arith, both))
more_by at ending before after false e =
    let p : Ending → Bool = λ e. nat_lt at e.end in
    ap length (filter-append p before (ending ∷ after)) ∙ rw e (sym (ap length (filter-append p before after)))

pub one_more : (at : ℕ) (ending : Ending) (old new : List Ending) (b : Bool) → nat_lt at ending.end ≡ b → IsPutIn ending old new
    → length (endings_after at new) ≡ cond b (suc (length (endings_after at old))) (length (endings_after at old))
one_more at ending old new b e h = rw (h.was, h.is) (more_by at ending h.before h.after b e)

-- ---- what is held

contains_first : {X : Type 0} (y : X) (xs : List X) → Contains (y ∷ xs) y
contains_first y xs = (0, omega arith, refl)

contains_rest : {X : Type 0} (y : X) (xs : List X) (x : X) → Contains xs x → Contains (y ∷ xs) x
contains_rest y xs x c = let within = c.1 in (suc c.0, omega arith, c.2)

first_or_rest_by : {X : Type 0} (y : X) (xs : List X) (x : X) (k : ℕ) → k < length (y ∷ xs) → get_or (y ∷ xs) k x ≡ x → (y ≡ x) ⊎ Contains xs x
first_or_rest_by y xs x zero lt e = inl e
first_or_rest_by y xs x (suc k) lt e = inr (k, omega arith, e)

pub first_or_rest : {X : Type 0} (y : X) (xs : List X) (x : X) → Contains (y ∷ xs) x → (y ≡ x) ⊎ Contains xs x
first_or_rest y xs x c = first_or_rest_by y xs x c.0 c.1 c.2

-- one more is among them, and the others still are
pub put_holds : {X : Type 0} (x : X) (old new : List X) → IsPutIn x old new → Contains new x
put_holds x old new h = subst (λ l. Contains l x) (sym h.is) (Contains-append_right h.before (x ∷ h.after) x (contains_first x h.after))

put_keeps_by : {X : Type 0} (x y : X) (before after : List X) → Contains before y ⊎ Contains after y → Contains (before ++ x ∷ after) y
put_keeps_by x y before after (inl c) = Contains-append_left before (x ∷ after) y c
put_keeps_by x y before after (inr c) = Contains-append_right before (x ∷ after) y (contains_rest x after y c)

pub put_keeps : {X : Type 0} (x : X) (old new : List X) → IsPutIn x old new → (y : X) → Contains old y → Contains new y
put_keeps x old new h y c =
    subst (λ l. Contains l y) (sym h.is) (put_keeps_by x y h.before h.after (Contains-append_cases h.before h.after y (subst (λ l. Contains l y) h.was c)))

pub put_all : {X : Type 0} (P : X → Type 0) (x : X) (old new : List X) → IsPutIn x old new → All P old → P x → All P new
put_all P x old new h all one =
    let parts = subst (λ l. All P l) h.was all in
    subst (λ l. All P l) (sym h.is) (put_parts P x h.before h.after parts one)
  where
    put_parts : {X : Type 0} (P : X → Type 0) (x : X) (before after : List X) → All P (before ++ after) → P x → All P (before ++ x ∷ after)
    put_parts P x [] after all one = All-cons P x after one all
    put_parts P x (y ∷ before) after all one =
        All-cons P y (before ++ x ∷ after) (All-head P y (before ++ after) all) (put_parts P x before after (All-tail P y (before ++ after) all) one)

-- ---- free stamps

free_set : (lines : List LineValue) (r n : ℕ) (before after : LineValue) → slice_get lines r ≡ Some before → before.free ≤ after.free → free_at lines n ≤ free_at (set lines r after) n
free_set [] r n before after e le = omega arith
free_set (line ∷ lines) zero zero before after e le = let same : before ≡ line = cc in let q : before.free ≡ line.free = ap (λ (l : LineValue). l.free) same in omega (arith, le, q)
free_set (line ∷ lines) zero (suc n) before after e le = omega arith
free_set (line ∷ lines) (suc r) zero before after e le = omega arith
free_set (line ∷ lines) (suc r) (suc n) before after e le = free_set lines r n before after e le

free_here : (lines : List LineValue) (r : ℕ) (before after : LineValue) → slice_get lines r ≡ Some before → free_at (set lines r after) r ≡ after.free
free_here [] r before after e = absurd cc
free_here (line ∷ lines) zero before after e = refl
free_here (line ∷ lines) (suc r) before after e = free_here lines r before after e

-- a recipient to whom a stamp was given is one
pub given_within : (lines : List LineValue) (r stamp : ℕ) → stamp < free_at lines r → r < length lines
given_within [] r stamp lt = absurd (omega arith)
given_within (line ∷ lines) zero stamp lt = omega arith
given_within (line ∷ lines) (suc r) stamp lt = let q = given_within lines r stamp lt in omega (arith, q)

pub first_within : (endings rest : List Ending) (ending : Ending) (lines : List LineValue) → endings ≡ ending ∷ rest → AreHeld endings lines → ending.recipient < length lines
first_within endings rest ending lines is held =
    let given = subst (λ (l : List Ending). All (λ e. e.stamp < free_at lines e.recipient) l) is held.given in
    given_within lines ending.recipient ending.stamp (All-head (λ e. e.stamp < free_at lines e.recipient) ending rest given)

-- ---- one line becomes another one

module _ (endings new : List Ending) (lines : List LineValue) (r : ℕ) (before after : LineValue) (there : slice_get lines r ≡ Some before) (held : AreHeld endings lines)
    (others : (n : ℕ) (m : WaitingValue) → n ≢ r → Contains endings (ending_of n m) → Contains new (ending_of n m))
    (queue : All (λ m. Contains new (ending_of r m)) after.queue)
    (given : All (λ e. e.stamp < free_at (set lines r after) e.recipient) new) where
  waiting_by : (n : ℕ) (line : LineValue) (b : Bool) → (n == r) ≡ b → slice_get (set lines r after) n ≡ Some line → All (λ m. Contains new (ending_of n m)) line.queue
  waiting_by n line true e h =
      let same : n ≡ r = grind (arith, nat_tests) in
      let is : line ≡ after = set_there lines r after line (subst (λ (k : ℕ). slice_get (set lines r after) k ≡ Some line) same h) in
      subst (λ (k : ℕ). All (λ m. Contains new (ending_of k m)) line.queue) (sym same) (subst (λ (l : LineValue). All (λ m. Contains new (ending_of r m)) l.queue) (sym is) queue)
  waiting_by n line false e h =
      let apart : n ≢ r = λ same. let q : true ≡ false = grind (arith, nat_tests) in absurd cc in
      All-weaker (λ m. Contains endings (ending_of n m)) (λ m. Contains new (ending_of n m)) (λ m c. others n m apart c) line.queue
      (held.waiting n line (sym (set_elsewhere lines r n after apart) ∙ h))

  pub line_changes : AreHeld new (set lines r after)
  line_changes = record { waiting = λ n line h. waiting_by n line (n == r) refl h; given = given }

-- what was given stays given
still_given : (endings : List Ending) (lines : List LineValue) (r : ℕ) (before after : LineValue) → slice_get lines r ≡ Some before → before.free ≤ after.free → AreHeld endings lines
    → All (λ e. e.stamp < free_at (set lines r after) e.recipient) endings
still_given endings lines r before after there le held =
    All-weaker (λ (e : Ending). e.stamp < free_at lines e.recipient) (λ e. e.stamp < free_at (set lines r after) e.recipient)
    (λ e lt. let q = free_set lines r e.recipient before after there le in omega (arith, lt, q)) endings held.given

-- ---- a push and an answer

moved : (P : WaitingValue → Type 0) (m : WaitingValue) (others : List WaitingValue) → All P (m ∷ others) → All P (others ++ m ∷ [])
moved P m others h = All-push P others m (All-tail P m others h) (All-head P m others h)

pushed_by : (P : WaitingValue → Type 0) (line new : LineValue) (queue : List WaitingValue) (r : Result Step Dropped) → line.queue ≡ queue → All P queue → PushesFrom line queue r new → All P new.queue × (new.free ≡ line.free)
pushed_by P line new [] (Err why) is h p = absurd p
pushed_by P line new (m ∷ others) (Err why) is h p = (subst (λ (q : List WaitingValue). All P q) (sym (ap (λ (l : LineValue). l.queue) p.1 ∙ is)) h, ap (λ (l : LineValue). l.free) p.1)
pushed_by P line new [] (Ok step) is h p = (subst (λ (q : List WaitingValue). All P q) (sym (ap (λ (l : LineValue). l.queue) p.2 ∙ is)) h, ap (λ (l : LineValue). l.free) p.2)
pushed_by P line new (m ∷ others) (Ok step) is h p = (subst (λ (q : List WaitingValue). All P q) (sym (ap (λ (l : LineValue). l.queue) p.2)) (moved P m others h), ap (λ (l : LineValue). l.free) p.2)

left_by : (P : WaitingValue → Type 0) (queue : List WaitingValue) (stamp : ℕ) (b : Bool) → All P queue → All P (cond b queue (filter (λ m. not (m.stamp == stamp)) queue))
left_by P queue stamp true h = h
left_by P queue stamp false h = All-filter (λ m. not (m.stamp == stamp)) P queue h

same_line : (P : WaitingValue → Type 0) (line new : LineValue) → new ≡ line → All P line.queue → All P new.queue × (new.free ≡ line.free)
same_line P line new e h = (subst (λ (l : LineValue). All P l.queue) (sym e) h, ap (λ (l : LineValue). l.free) e)

heard_by : (P : WaitingValue → Type 0) (now : ℕ) (tag : Tag) (cause : Option ℕ) (line new : LineValue) (latest : Option Push) (r : Result Step Dropped) → All P line.queue → HearsFor now tag cause line latest r new
    → All P new.queue × (new.free ≡ line.free)
heard_by P now tag cause line new (Some p) (Ok step) h e =
    (subst (λ (l : LineValue). All P l.queue) (sym e.3) (left_by P line.queue p.stamp (stays cause) h), ap (λ (l : LineValue). l.free) e.3)
heard_by P now tag cause line new None (Ok step) h e = absurd e
heard_by P now tag cause line new (Some p) (Err Unmatched) h e = same_line P line new e.1 h
heard_by P now tag cause line new None (Err Unmatched) h e = same_line P line new e h
heard_by P now tag cause line new latest (Err Memory) h e = same_line P line new e h
heard_by P now tag cause line new (Some p) (Err NotCp) h e = absurd e
heard_by P now tag cause line new None (Err NotCp) h e = absurd e
heard_by P now tag cause line new (Some p) (Err Busy) h e = absurd e
heard_by P now tag cause line new None (Err Busy) h e = absurd e
heard_by P now tag cause line new (Some p) (Err TooManySegments) h e = absurd e
heard_by P now tag cause line new None (Err TooManySegments) h e = absurd e

-- the same endings, and a line with no other messages
fewer_held : (endings : List Ending) (lines new : List LineValue) (r : ℕ) (before after : LineValue) → slice_get lines r ≡ Some before → new ≡ set lines r after
    → ((P : WaitingValue → Type 0) → All P before.queue → All P after.queue × (after.free ≡ before.free)) → AreHeld endings lines → AreHeld endings new
fewer_held endings lines new r before after there is less held =
    let both = less (λ m. Contains endings (ending_of r m)) (held.waiting r before there) in
    subst (λ (l : List LineValue). AreHeld endings l) (sym is)
    (line_changes endings endings lines r before after there held (λ n m apart c. c) both.0 (still_given endings lines r before after there (let q = both.1 in omega (arith, q)) held))

pub pushed_held : (endings : List Ending) (phone : ℕ) (lines new : List LineValue) (result : Result Step Dropped) → ChangesLine phone lines new (λ line after. LinePushes line result after) → AreHeld endings lines → AreHeld endings new
pushed_held endings phone lines new result h held =
    fewer_held endings lines new phone h.before h.after h.is_there h.others_stay (λ P all. pushed_by P h.before h.after h.before.queue result refl all h.how) held

pub heard_held : (endings : List Ending) (now : ℕ) (tag : Tag) (cause : Option ℕ) (phone : ℕ) (lines new : List LineValue) (result : Result Step Dropped)
    → ChangesLine phone lines new (λ line after. LineHears now tag cause line result after) → AreHeld endings lines → AreHeld endings new
heard_held endings now tag cause phone lines new result h held =
    fewer_held endings lines new phone h.before h.after h.is_there h.others_stay (λ P all. heard_by P now tag cause h.before h.after h.before.latest result all h.how) held

-- where a call fails and the lines are as they were, so is all
pub same_holdings : {T E : Type 0} (held : HeldValue) (lines new : List LineValue) (r : Result T E) → OnErr r (new ≡ lines) → OnErr r (◌≡◌ {A = HoldingsValue} (record { held = held; lines = new }) (record { held = held; lines = lines }))
same_holdings held lines new (Ok v) e = tt
same_holdings held lines new (Err why) e =
    let made : List LineValue → HoldingsValue = λ l. record { held = held; lines = l } in
    ap made e

-- ---- an acceptance

-- the ending of a message whose stamp is free is a new one
pub is_new : (endings : List Ending) (lines : List LineValue) (r : ℕ) (m : WaitingValue) → free_at lines r ≤ m.stamp → AreHeld endings lines → All (λ e. e ≢ ending_of r m) endings
is_new endings lines r m le held =
    All-weaker (λ (e : Ending). e.stamp < free_at lines e.recipient) (λ e. e ≢ ending_of r m)
    (λ e lt same.
    let whom : e.recipient ≡ r = ap (λ (x : Ending). x.recipient) same in
    let stamp : e.stamp ≡ m.stamp = ap (λ (x : Ending). x.stamp) same in
    let below : e.stamp < free_at lines r = subst (λ n. e.stamp < free_at lines n) whom lt in
    omega (arith, le, stamp, below))
    endings held.given

pub accepted_held : (r : ℕ) (m : WaitingValue) (endings more : List Ending) (lines new : List LineValue) → free_at lines r ≤ m.stamp → IsPutIn (ending_of r m) endings more
    → ChangesLine r lines new (λ line after. after ≡ accepting_line line m) → AreHeld endings lines → AreHeld more new
accepted_held r m endings more lines new le put h held =
    let free : h.after.free ≡ m.stamp + 1 = ap (λ (l : LineValue). l.free) h.how in
    let was : free_at lines r ≡ h.before.free = free_is lines r h.before h.is_there in
    let rises : h.before.free ≤ h.after.free = omega (arith, free, was, le) in
    let here = free_here lines r h.before h.after h.is_there in
    let before = All-weaker (λ w. Contains endings (ending_of r w)) (λ w. Contains more (ending_of r w)) (λ w c. put_keeps (ending_of r m) endings more put (ending_of r w) c) h.before.queue (held.waiting r h.before h.is_there) in
    subst (λ (l : List LineValue). AreHeld more l) (sym h.others_stay)
    (line_changes endings more lines r h.before h.after h.is_there held
    (λ n w apart c. put_keeps (ending_of r m) endings more put (ending_of n w) c)
    (subst (λ (l : LineValue). All (λ w. Contains more (ending_of r w)) l.queue) (sym h.how)
    (All-push (λ w. Contains more (ending_of r w)) h.before.queue m before (put_holds (ending_of r m) endings more put)))
    (put_all (λ e. e.stamp < free_at (set lines r h.after) e.recipient) (ending_of r m) endings more put
    (still_given endings lines r h.before h.after h.is_there rises held) (omega (arith, here, free))))

-- ---- the end of a message

-- a message that is left is held still
left_held : (now : ℕ) (ending : Ending) (endings : List Ending) (m : WaitingValue) → ending.end ≤ now → (not (m.stamp == ending.stamp) || nat_lt now m.ends) ≡ true
    → Contains (ending ∷ endings) (ending_of ending.recipient m) → Contains endings (ending_of ending.recipient m)
left_held now ending endings m le passes c = elim (first_or_rest ending endings (ending_of ending.recipient m) c) [
  | inl same ↦
      let stamp : ending.stamp ≡ m.stamp = ap (λ (x : Ending). x.stamp) same in
      let end : ending.end ≡ m.ends = ap (λ (x : Ending). x.end) same in
      let fails : (not (m.stamp == ending.stamp) || nat_lt now m.ends) ≡ false = has_gone m.stamp ending.stamp now m.ends (sym stamp) (omega (arith, le, end)) in
      let q : true ≡ false = sym passes ∙ fails in absurd cc
  | inr d ↦ d
]
  where
    has_gone : (a b now end : ℕ) → a ≡ b → end ≤ now → (not (a == b) || nat_lt now end) ≡ false
    has_gone a b now end same le =
        let e : (a == b) ≡ true = grind (arith, nat_tests) in
        let f : nat_lt now end ≡ false = grind (arith, nat_tests) in
        rw (e, f) refl

pub forgotten_held : (now : ℕ) (ending : Ending) (endings : List Ending) (lines new : List LineValue) → ending.end ≤ now
    → ChangesLine ending.recipient lines new (λ line after. after ≡ forgetting_line now ending.stamp line) → AreHeld (ending ∷ endings) lines → AreHeld endings new
forgotten_held now ending endings lines new le h held =
    let test : WaitingValue → Bool = λ m. not (m.stamp == ending.stamp) || nat_lt now m.ends in
    let all = All-filter test (λ m. Contains (ending ∷ endings) (ending_of ending.recipient m)) h.before.queue (held.waiting ending.recipient h.before h.is_there) in
    let pass = filter_passes test h.before.queue in
    let same : h.after.free ≡ h.before.free = ap (λ (l : LineValue). l.free) h.how in
    let given = still_given (ending ∷ endings) lines ending.recipient h.before h.after h.is_there (omega (arith, same)) held in
    subst (λ (l : List LineValue). AreHeld endings l) (sym h.others_stay)
    (line_changes (ending ∷ endings) endings lines ending.recipient h.before h.after h.is_there held
    (λ n m apart c. elsewhere n m apart (first_or_rest ending endings (ending_of n m) c))
    (subst (λ (l : LineValue). All (λ m. Contains endings (ending_of ending.recipient m)) l.queue) (sym h.how)
    (λ k d within. left_held now ending endings (get_or (filter test h.before.queue) k d) le (pass k d within) (all k d within)))
    (All-tail (λ e. e.stamp < free_at (set lines ending.recipient h.after) e.recipient) ending endings given))
  where
    elsewhere : (n : ℕ) (m : WaitingValue) → n ≢ ending.recipient → (ending ≡ ending_of n m) ⊎ Contains endings (ending_of n m) → Contains endings (ending_of n m)
    elsewhere n m apart (inl e) = absurd (apart (sym (ap (λ (x : Ending). x.recipient) e)))
    elsewhere n m apart (inr c) = c

-- what is left of a line is left of it without a message that has ended
forgotten_line : (now stamp : ℕ) (line : LineValue) → line_at now (forgetting_line now stamp line) ≡ line_at now line
forgotten_line now stamp line =
    ap (λ (q : List WaitingValue). record line { queue = q })
    (filter_twice (λ m. not (m.stamp == stamp) || nat_lt now m.ends) (λ m. nat_lt now m.ends) (λ m h. passes_also (not (m.stamp == stamp)) (nat_lt now m.ends) h) line.queue)
  where
    passes_also : (a b : Bool) → b ≡ true → (a || b) ≡ true
    passes_also true b e = refl
    passes_also false b e = e

set_left : (now : ℕ) (lines : List LineValue) (r : ℕ) (before after : LineValue) → slice_get lines r ≡ Some before → line_at now after ≡ line_at now before → map (line_at now) (set lines r after) ≡ map (line_at now) lines
set_left now [] r before after e same = absurd cc
set_left now (line ∷ lines) zero before after e same =
    let is : before ≡ line = cc in
    ap (λ (l : LineValue). l ∷ map (line_at now) lines) (same ∙ ap (line_at now) is)
set_left now (line ∷ lines) (suc r) before after e same = ap (λ (l : List LineValue). line_at now line ∷ l) (set_left now lines r before after e same)

first_gone : (now : ℕ) (ending : Ending) (endings : List Ending) → ending.end ≤ now → endings_after now endings ≡ endings_after now (ending ∷ endings)
first_gone now ending endings le =
    let e : nat_lt now ending.end ≡ false = grind (arith, nat_tests) in
    rw e refl

pub one_forgotten : (now : ℕ) (ending : Ending) (held after : HeldValue) (lines new : List LineValue) → ForgetsFirst now held (Some ending) after
    → ChangesLine ending.recipient lines new (λ line after. after ≡ forgetting_line now ending.stamp line)
    → ForgetsOne now (record { held = held; lines = lines }) true (record { held = after; lines = new })
one_forgotten now ending held after lines new f h = (
  record {
    endings = first_gone now ending after.endings f.0 ∙ ap (endings_after now) (sym f.1);
    kept = f.2;
    lines = ap (map (line_at now)) h.others_stay
        ∙ set_left now lines ending.recipient h.before h.after h.is_there (ap (line_at now) h.how ∙ forgotten_line now ending.stamp h.before);
  },
  let size : length held.endings ≡ suc (length after.endings) = ap (λ (l : List Ending). length l) f.1 in omega (arith, size),
)

-- ---- where nothing has ended

waiting_stays : (now r : ℕ) (endings : List Ending) (queue : List WaitingValue) → All (λ e. now < e.end) endings → All (λ m. Contains endings (ending_of r m)) queue → waiting_at now queue ≡ queue
waiting_stays now r endings queue after held =
    filter_stays (λ m. nat_lt now m.ends) queue (λ k d within. is_after now (get_or queue k d).ends (ends_after_now (get_or queue k d) (held k d within)))
  where
    ends_after_now : (m : WaitingValue) → Contains endings (ending_of r m) → now < m.ends
    ends_after_now m c = subst (λ (e : Ending). now < e.end) c.2 (after c.0 (ending_of r m) c.1)

lines_stay_by : (now n : ℕ) (endings : List Ending) (lines : List LineValue) → All (λ e. now < e.end) endings
    → ((r : ℕ) (line : LineValue) → slice_get lines r ≡ Some line → All (λ m. Contains endings (ending_of (r + n) m)) line.queue) → map (line_at now) lines ≡ lines
lines_stay_by now n endings [] after h = refl
lines_stay_by now n endings (line ∷ lines) after h =
    let first = waiting_stays now (0 + n) endings line.queue after (h 0 line refl) in
    rw first (ap (λ (l : List LineValue). line ∷ l)
    (lines_stay_by now (n + 1) endings lines after (λ r l at. subst (λ k. All (λ m. Contains endings (ending_of k m)) l.queue) (omega arith) (h (suc r) l at))))

pub lines_stay : (now : ℕ) (endings : List Ending) (lines : List LineValue) → All (λ e. now < e.end) endings → AreHeld endings lines → map (line_at now) lines ≡ lines
lines_stay now endings lines after held =
    lines_stay_by now 0 endings lines after (λ r line at. subst (λ k. All (λ m. Contains endings (ending_of k m)) line.queue) (omega arith) (held.waiting r line at))

-- ---- all that has ended

pub leaves_again : (now : ℕ) (first middle last : HoldingsValue) → LeavesSame now first middle → LeavesSame now middle last → LeavesSame now first last
leaves_again now first middle last a b = record {
  endings = b.endings ∙ a.endings;
  kept = λ key at le. b.kept key at le ∙ a.kept key at le;
  lines = b.lines ∙ a.lines;
}

pub held_left : (now : ℕ) (first last : HoldingsValue) → LeavesSame now first last → All (λ e. now < e.end) last.held.endings → ((key : HeldKey) → IsLeftLater now key last.held)
    → IsHeldLater now first.held last.held
held_left now first last same after gone = record {
  endings = sym (endings_stay now last.held.endings after) ∙ same.endings;
  kept = same.kept;
  gone = gone;
}

-- ---- nothing at first

pub none_held : (addresses : List AddressValue) → AreHeld [] (map new_line addresses)
none_held addresses = record {
  waiting = λ r line h. none_wait addresses r line r h;
  given = All-nil (λ e. e.stamp < free_at (map new_line addresses) e.recipient);
}
  where
    none_wait : (addresses : List AddressValue) (r : ℕ) (line : LineValue) (n : ℕ) → slice_get (map new_line addresses) n ≡ Some line → All (λ m. Contains [] (ending_of r m)) line.queue
    none_wait [] r line n h = absurd cc
    none_wait (a ∷ addresses) r line zero h =
        let is : line ≡ new_line a = cc in
        subst (λ (l : LineValue). All (λ m. Contains [] (ending_of r m)) l.queue) (sym is) (All-nil (λ m. Contains [] (ending_of r m)))
    none_wait (a ∷ addresses) r line (suc n) h = none_wait addresses r line n h
